use Rattle.std.proofs.Common.{◌≡◌, ◌++◌, ◌∷◌, [], sym, ap, ◌∙◌, subst, ◌-◌}
use Rattle.std.specs.Prelude.{nat_lt}
use Rattle.jpg_spec_image.specs.PnmText.{is_number_due}
use Rattle.jpg_pnm_bmp.specs.Known.{list_of}
use Rattle.jpg_pnm_bmp.proofs.DueNumbers.{third_due, sample_due}
use Rattle.jpg_pnm_bmp.proofs.read.numbers.is_due_after.Goals as goal

pub returns-then-is_plain : goal.returns-then-is_plain
returns-then-is_plain c = λ list n l.
    subst (λ k. nat_lt 0 c.sample_count.result ≡ is_number_due c.args.format (list_of k list ++ n ∷ [])) (sym c.in-Sides.is)
    (third_due c.args.format c.in-Sides.width c.in-Sides.height n c.sample_count.result (c.sample_count.ensures.count (n ∷ [])) (sym c.is_plain.ensures ∙ c.if-is_plain.true))

pub returns-then-is_plain-2 : goal.returns-then-is_plain-2
returns-then-is_plain-2 c = λ list n l.
    let m = c.in-All.field-2 in
    let count = c.sample_count-in-All in
    ap (nat_lt c.args.held) (c.saturating_sub.ensures ∙ ap (λ k. k - c.args.before) c.one_less-due.ensures)
    ∙ subst (λ k. nat_lt c.args.held (count.result - 1 - c.args.before) ≡ is_number_due c.args.format (list_of k list ++ n ∷ [])) (sym c.in-All.is)
    (sample_due c.args.format c.in-All.width c.in-All.height m list n count.result c.args.before c.args.held (count.ensures.count (m ∷ (list ++ n ∷ []))) (sym c.is_plain-in-All.ensures ∙ c.if-is_plain-2.true) l)
