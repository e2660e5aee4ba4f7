use Rattle.std.proofs.Common.{◌++◌, ◌∙◌, Ok, Err, subst, sym}
use Rattle.jpg_base.specs.declared.stop.Fed.{Fed}
use Rattle.jpg_spec_words.specs.declared.answers.Why.{Why}
use Rattle.jpg_comments.specs.SegmentsSoFar.{Appends}
use Rattle.jpg_comments.specs.ReadComments.{AfterFeed}
use Rattle.jpg_cli.specs.Tools.ReadComments.{AfterTaking}
use Rattle.jpg_cli.proofs.Comments.CommentsRead.{stop_text, whole_text}
use Rattle.jpg_cli.proofs.tools.rdjpgcom.take_piece.Goals as goal

pub returns-in-Ok-More-clause-taken : goal.returns-in-Ok-More-clause-taken
returns-in-Ok-More-clause-taken c = λ bytes text h.
    subst (λ (fed : Fed). Appends (λ all. AfterFeed bytes c.args.piece.now all (Ok fed) c.feed.new.self) text c.args.out.now c.feed.new.out) c.in-Ok-More.field-0-is (c.in-Ok-More.ensures.answered bytes text h)

pub returns-in-Ok-Done-clause-taken : goal.returns-in-Ok-Done-clause-taken
returns-in-Ok-Done-clause-taken c = λ bytes text h.
    let k = subst (λ (fed : Fed). Appends (λ all. AfterFeed bytes c.args.piece.now all (Ok fed) c.feed.new.self) text c.args.out.now c.feed.new.out) c.in-Ok-Done.field-0-is (c.in-Ok-Done.ensures.answered bytes text h) in
    (k.0, k.1, whole_text bytes c.args.piece.now (text ++ k.0) c.in-Ok-Done.field-0-0 c.feed.new.self.limits (c.in-Ok-Done.ensures.limits ∙ c.requires.limits) c.requires.short k.2)

pub returns-in-Err-clause-taken : goal.returns-in-Err-clause-taken
returns-in-Err-clause-taken c = λ bytes text h.
    let new = c.feed.new.self in
    let e = c.in-Err.ensures in
    let k = e.answered bytes text h in (
      k.0,
      k.1,
      subst (λ (w : Why). AfterTaking (bytes ++ c.args.piece.now) (text ++ k.0) (Err w) new) (sym c.why_stopped.ensures)
          (stop_text bytes c.args.piece.now text (text ++ k.0) c.in-Err.stop c.args.comments.now new c.requires.limits (e.limits ∙ c.requires.limits) (e.ready c.requires.ready) h c.requires.short k.2),
    )
