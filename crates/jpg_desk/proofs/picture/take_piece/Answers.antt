use Rattle.std.proofs.Common.{rules, ◌∙◌, ◌++◌, None, Ok, Err, refl, subst, sym}
use Rattle.jpg_base.specs.declared.stop.Fed.{Fed}
use Rattle.jpg_file.specs.Read.ReadFile.{AfterFeed}
use Rattle.jpg_spec_words.specs.declared.answers.Why.{Why}
use Rattle.jpg_desk.specs.ReadPicture.{AfterTakingPiece, Coefficients}
use Rattle.jpg_desk.proofs.PictureBytes.{more_or, stop_or, whole_or}
use Rattle.jpg_desk.proofs.PiecesRead.{more_small}
use Rattle.jpg_desk.proofs.picture.take_piece.Goals as goal

pub returns-in-Ok-More-clause-taken : goal.returns-in-Ok-More-clause-taken
returns-in-Ok-More-clause-taken c = λ bytes h.
    let piece = c.args.piece.now in
    let k = subst (λ (fed : Fed). AfterFeed bytes piece (Ok fed) c.feed.new.self) c.in-Ok-More.field-0-is (c.in-Ok-More.ensures.answered bytes h.read) in
    let small = more_small bytes piece h.small (λ i. (let t = c.type_inv.piece i in search (rules, t))) in
    more_or Coefficients bytes piece c.args.reader.now c.feed.new.self None (c.in-Ok-More.ensures.limits ∙ c.requires.limits) h c.requires.short small k refl

pub returns-in-Ok-Done-clause-taken : goal.returns-in-Ok-Done-clause-taken
returns-in-Ok-Done-clause-taken c = λ bytes h.
    let piece = c.args.piece.now in
    let k = subst (λ (fed : Fed). AfterFeed bytes piece (Ok fed) c.feed.new.self) c.in-Ok-Done.field-0-is (c.in-Ok-Done.ensures.answered bytes h.read) in
    let small = more_small bytes piece h.small (λ i. (let t = c.type_inv.piece i in search (rules, t))) in
    whole_or Coefficients bytes piece c.in-Ok-Done.field-0-0 c.args.reader.now c.feed.new.self None (c.in-Ok-Done.ensures.limits ∙ c.requires.limits) h c.requires.short small k refl

pub returns-in-Err-clause-taken : goal.returns-in-Err-clause-taken
returns-in-Err-clause-taken c = λ bytes h.
    let piece = c.args.piece.now in
    subst (λ (w : Why). AfterTakingPiece Coefficients (bytes ++ piece) (Err w) c.feed.new.self) (sym c.why_stopped.ensures)
    (stop_or Coefficients bytes piece c.args.reader.now c.feed.new.self c.in-Err.stop c.requires.limits (c.in-Err.ensures.limits ∙ c.requires.limits) h c.requires.short (c.in-Err.ensures.answered bytes h.read) refl)
