use Rattle.std.proofs.Common.{ℕ, ◌∙◌, Err, sym, subst}
use Rattle.jpg_spec_write.specs.CommentText.{IsHeadFault}
use Rattle.jpg_spec.specs.declared.fault.Fault.TheVariants.{Truncated}
use Rattle.jpg_base.specs.declared.stop.Stop.{Stop}
use Rattle.jpg_comments.specs.Inserting.{HoldsHead}
use Rattle.jpg_comments.specs.WriteInserted.{EndsInsert}
use Rattle.jpg_comments.proofs.Taken.{ends_fault}
use Rattle.jpg_comments.proofs.InsertedPieces.{kept_of}
use Rattle.jpg_comments.proofs.insert.Insert.end.Goals as goal

pub returns-clause-answered : goal.returns-clause-answered
returns-clause-answered c = λ comment bytes text h.
    let limits = c.args.self.now.limits in
    let k = kept_of comment bytes text c.args.self.now h c.in_default-taken.is in
    let at = k.0.1 in
    let fault = subst (λ (n : ℕ). IsHeadFault limits bytes Truncated n) (sym (c.taken.ensures ∙ at.taken)) (ends_fault limits (HoldsHead limits) bytes h.1 at.nothing) in
    subst (λ (s : Stop). EndsInsert limits comment c.args.self.now.replace bytes text (Err s)) (sym c.truncated-stop.ensures) (fault, k.1)
