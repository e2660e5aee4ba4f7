use Rattle.std.proofs.Common.{Err, Ok, subst, sym}
use Rattle.jpg_spec.specs.declared.frame.Limits.{Limits}
use Rattle.jpg_spec_words.specs.declared.answers.Why.{Why}
use Rattle.jpg_comments.specs.WriteInserted.{EndsInsert}
use Rattle.jpg_cli.specs.Tools.InsertComment.{AfterAll}
use Rattle.jpg_cli.proofs.Comments.InsertedCopied.{stop_ended}
use Rattle.jpg_cli.proofs.tools.wrjpgcom.at_end.Goals as goal

pub returns-in-Ok : goal.returns-in-Ok
returns-in-Ok c = λ comment bytes text h. subst (λ (l : Limits). EndsInsert l comment c.args.insert.now.replace bytes text (Ok tt)) c.requires (c.in-Ok.ensures.answered comment bytes text h)

pub returns-in-Err : goal.returns-in-Err
returns-in-Err c = λ comment bytes text h.
    let replace = c.args.insert.now.replace in
    let ends = subst (λ (l : Limits). EndsInsert l comment replace bytes text (Err c.in-Err.stop)) c.requires (c.in-Err.ensures.answered comment bytes text h) in
    subst (λ (w : Why). AfterAll comment replace bytes text (Err w)) (sym c.why_stopped.ensures) (stop_ended comment bytes text replace c.in-Err.stop ends)
