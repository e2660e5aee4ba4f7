use Rattle.std.proofs.Common.{rules, ◌++◌, Bool, Result, false, sym, subst, arith}
use Rattle.std.proofs.lemmas.List.{length-append}
use Rattle.jpg_spec_words.specs.declared.answers.Why.{Why}
use Rattle.jpg_desk.specs.ImageSource.{AfterTakingImagePiece}
use Rattle.jpg_desk.specs.declared.image_source.ImageSource.TheVariants as source
use Rattle.jpg_desk.proofs.ImageAnswers.{pixels_fed}
use Rattle.jpg_desk.proofs.PiecesRead.{more_small}
use Rattle.jpg_desk.proofs.image_source.feed_pixels.Goals as goal

pub returns : goal.returns
returns c = λ bytes h.
    let piece = c.args.piece.now in
    let t = h.3.taken_is in
    let l = length-append bytes piece in
    let small = more_small bytes piece h.2 (λ i. (let t = c.type_inv.piece i in search (rules, t))) in
    subst (λ (a : Result Bool Why). AfterTakingImagePiece false (bytes ++ piece) a (source.Pixels c.feed.new.self)) (sym c.step_of.ensures)
    (pixels_fed bytes piece c.args.reader.now c.feed.new.self c.feed.result h (omega arith) c.requires.short (omega arith) small (c.feed.ensures.answered bytes h) c.feed.ensures.done)
