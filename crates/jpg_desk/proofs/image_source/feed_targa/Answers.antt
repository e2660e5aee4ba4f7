use Rattle.std.proofs.Common.{rules, ◌++◌, Bool, Result, true, sym, subst}
use Rattle.jpg_spec_words.specs.declared.answers.Why.{Why}
use Rattle.jpg_desk.specs.ImageSource.{AfterTakingImagePiece}
use Rattle.jpg_desk.specs.declared.image_source.ImageSource.TheVariants as source
use Rattle.jpg_desk.proofs.ImageAnswers.{targa_fed}
use Rattle.jpg_desk.proofs.PiecesRead.{more_small}
use Rattle.jpg_desk.proofs.image_source.feed_targa.Goals as goal

pub returns : goal.returns
returns c = λ bytes h.
    let piece = c.args.piece.now in
    let small = more_small bytes piece h.2 (λ i. (let t = c.type_inv.piece i in search (rules, t))) in
    subst (λ (a : Result Bool Why). AfterTakingImagePiece true (bytes ++ piece) a (source.Targa c.feed.new.self)) (sym c.step_of.ensures)
    (targa_fed bytes piece c.args.reader.now c.feed.new.self c.feed.result h c.requires.short small (c.feed.ensures.answered bytes h) c.feed.ensures.done)
