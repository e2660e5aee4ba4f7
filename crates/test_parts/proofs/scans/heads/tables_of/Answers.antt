use Rattle.std.proofs.Common.{◌≡◌, ◌∙◌, ap, List, Option, Some}
use Rattle.std.specs.Prelude.{slice_set}
use Rattle.jpg_huff.specs.declared.table.Table.{Table}
use Rattle.jpg_huff.specs.Sets.{dc_tables, ac_tables, in_slot, no_tables}
use Rattle.test_parts.proofs.scans.heads.tables_of.Goals as goal

pub returns : goal.returns
returns c =
    let dc = c.args.dc.now in let ac = c.args.ac.now in let other_dc = c.args.other_dc.now in let other_ac = c.args.other_ac.now in
    let S : List (Option Table) → Table → Table → List (Option Table) = λ old a b. slice_set (slice_set old 0 (Some a)) 1 (Some b) in
    let in_dc : dc_tables c.set_ac-2.new.self ≡ S no_tables dc other_dc =
    c.set_ac-2.ensures.dc ∙ c.set_ac.ensures.dc ∙ c.set_dc-2.ensures.dc
    ∙ ap (λ s. slice_set s 1 (Some other_dc)) (c.set_dc.ensures.dc ∙ ap (λ s. slice_set s 0 (Some dc)) c.new-tables.ensures.dc) in
    let in_ac : ac_tables c.set_ac-2.new.self ≡ S no_tables ac other_ac =
    c.set_ac-2.ensures.ac
    ∙ ap (λ s. slice_set s 1 (Some other_ac)) (c.set_ac.ensures.ac ∙ ap (λ s. slice_set s 0 (Some ac)) (c.set_dc-2.ensures.ac ∙ c.set_dc.ensures.ac ∙ c.new-tables.ensures.ac)) in
    record {
      dc = dc;
      in_dc = ap (λ s. in_slot s 0) in_dc;
      ac = ac;
      in_ac = ap (λ s. in_slot s 0) in_ac;
      other_dc = other_dc;
      in_other_dc = ap (λ s. in_slot s 1) in_dc;
      other_ac = other_ac;
      in_other_ac = ap (λ s. in_slot s 1) in_ac;
    }
