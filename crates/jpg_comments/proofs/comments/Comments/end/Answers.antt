use Rattle.std.proofs.Common.{ℕ, ◌∙◌, sym, subst}
use Rattle.jpg_spec_write.specs.CommentText.{IsReadFault}
use Rattle.jpg_spec.specs.declared.fault.Fault.TheVariants.{Truncated}
use Rattle.jpg_base.specs.declared.stop.Stop.{Stop}
use Rattle.jpg_comments.specs.Printing.{HoldsWhole}
use Rattle.jpg_comments.specs.ReadComments.{StopsAt}
use Rattle.jpg_comments.proofs.Taken.{ends_fault}
use Rattle.jpg_comments.proofs.comments.Comments.end.Goals as goal

pub returns-clause-answered : goal.returns-clause-answered
returns-clause-answered c = λ bytes text h.
    let limits = c.args.self.now.limits in
    let taken = h.3.1 in
    let fault = subst (λ (n : ℕ). IsReadFault limits bytes Truncated n) (sym (c.taken.ensures ∙ taken.taken)) (ends_fault limits (HoldsWhole limits) bytes h.2 taken.nothing) in
    subst (λ (s : Stop). StopsAt limits bytes s) (sym c.truncated-stop.ensures) fault
