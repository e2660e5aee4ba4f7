use Rattle.std.proofs.Common.{◌++◌, ◌∙◌, Err, subst, sym}
use Rattle.jpg_spec_words.specs.declared.answers.Why.{Why}
use Rattle.jpg_cli.specs.Tools.InsertComment.{AfterFed}
use Rattle.jpg_cli.proofs.Comments.InsertedCopied.{stop_fed}
use Rattle.jpg_cli.proofs.tools.wrjpgcom.take_piece.Goals as goal

pub returns-in-Err-clause-taken : goal.returns-in-Err-clause-taken
returns-in-Err-clause-taken c = λ comment bytes text h.
    let e = c.in-Err.ensures in
    let new = c.feed.new.self in
    let piece = c.args.piece.now in
    let replace = c.args.insert.now.replace in
    let k = e.answered comment bytes text h in (
      k.0,
      k.1,
      subst (λ (w : Why). AfterFed comment replace (bytes ++ piece) (text ++ k.0) (Err w) new) (sym c.why_stopped.ensures)
          (stop_fed comment bytes piece (text ++ k.0) replace c.in-Err.stop new (e.limits ∙ c.requires.limits) e.replace k.2),
    )
