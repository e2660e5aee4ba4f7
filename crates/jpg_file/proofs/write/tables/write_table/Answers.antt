use Rattle.std.proofs.Common.{◌≡◌, None, Some, sym, ap, ◌∙◌, option_map}
use Rattle.jpg_spec_write.specs.FileText.{segment_text}
use Rattle.jpg_huff.proofs.Together.{sends_nothing, sends_same}
use Rattle.jpg_huff.specs.Tables.{table_of}
use Rattle.jpg_prog_write.specs.Written.{tables_in}
use Rattle.jpg_file.specs.Write.WriteScan.{given_by}
use Rattle.jpg_file.proofs.Writing.ScansDue.{held_text, sent_text, found}
use Rattle.jpg_file.proofs.write.tables.write_table.Goals as goal

pub returns-in_default-clause-sends : goal.returns-in_default-clause-sends
returns-in_default-clause-sends g c =
    let there = c.requires.tables c.args.place.0 c.args.place.1 c.requires.place.class c.requires.place.slot in
    let none : None ≡ Some there.0 = sym (ap (option_map (λ t. t.now)) c.in_default.is) ∙ c.table_in.ensures ∙ there.1 in
    cc

pub returns-in_default-clause-given : goal.returns-in_default-clause-given
returns-in_default-clause-given g c =
    let there = c.requires.tables c.args.place.0 c.args.place.1 c.requires.place.class c.requires.place.slot in
    let none : None ≡ Some there.0 = sym (ap (option_map (λ t. t.now)) c.in_default.is) ∙ c.table_in.ensures ∙ there.1 in
    cc

pub returns-then-is_held-clause-sends : goal.returns-then-is_held-clause-sends
returns-then-is_held-clause-sends g c =
    let s = g.D.Desk.state c.args.desk.now in
    let set = c.args.tables.now in
    let t = c.in-Some.table.now in
    let at = sym c.table_in.ensures ∙ ap (option_map (λ t. t.now)) c.in-Some.is in
    sends_same _ _ _ _ _ _ _
    (held_text (given_by c.args.given.now) (tables_in set) c.args.place.0 c.args.place.1 (table_of t) (found set c.args.place.0 c.args.place.1 t at) (sym c.holds-is_held.ensures ∙ c.if-is_held.true))
    (sends_nothing s c.args.out.now c.requires.can.none)

pub returns-clause-sends : goal.returns-clause-sends
returns-clause-sends g c =
    let set = c.args.tables.now in
    let t = c.in-Some.table.now in
    let at = sym c.table_in.ensures ∙ ap (option_map (λ t. t.now)) c.in-Some.is in
    sends_same _ _ _ _ _ _ _ (ap (segment_text 0xc4) (c.as_slice.ensures.value ∙ c.contents_of-contents.ensures)
    ∙ sent_text (given_by c.args.given.now) (tables_in set) c.args.place.0 c.args.place.1 (table_of t) (found set c.args.place.0 c.args.place.1 t at) (sym c.holds-is_held.ensures ∙ c.if-is_held.false))
    c.write_segment.ensures
