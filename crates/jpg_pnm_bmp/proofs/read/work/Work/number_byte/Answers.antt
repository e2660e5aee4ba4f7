use Rattle.std.proofs.Common.{rules, ◌≡◌, ◌++◌, true, false, sym, ◌∙◌, subst}
use Rattle.jpg_spec.specs.NumberTexts.{is_digit}
use Rattle.jpg_pnm_bmp.specs.Reader.{Reaches, numbers_list}
use Rattle.jpg_pnm_bmp.proofs.Advance.{held_long, number_goes}
use Rattle.jpg_pnm_bmp.proofs.read.work.Work.number_byte.Goals as goal

pub number_ended-requires-clause-due : goal.number_ended-requires-clause-due
number_ended-requires-clause-due c = λ front long. c.is_due_after-due.ensures (front ++ c.args.self.now.samples) c.args.n (held_long front c.args.self.now c.held.result long c.held.ensures)

pub returns-in-None-clause-led : goal.returns-in-None-clause-led
returns-in-None-clause-led c = λ front long known due.
    let old = c.args.self.now in
    let digit : is_digit c.args.byte ≡ false = search rules in
    let follows : c.may_follow.result ≡ true = search rules in
    let is = c.is_due_after-due.ensures (front ++ old.samples) c.args.n (held_long front old c.held.result long c.held.ensures) in
    subst (λ s. Reaches front s c.number_ended.result c.number_ended.new.self)
    (sym (number_goes old.format (numbers_list front old) c.args.n c.args.byte c.is_due_after-due.result digit is (sym c.may_follow.ensures ∙ follows) (sym (c.number_fault.ensures (front ++ old.samples)) ∙ c.in-None.is)))
    (c.number_ended.ensures.led front long known due)
