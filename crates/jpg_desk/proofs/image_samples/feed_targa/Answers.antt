use Rattle.std.proofs.Common.{rules, ◌++◌, true, Bool, Result, sym, subst}
use Rattle.jpg_pnm_bmp.specs.Samples.{Appends}
use Rattle.jpg_spec_words.specs.declared.answers.Why.{Why}
use Rattle.jpg_desk.specs.ImageSamples.{AfterPiece}
use Rattle.jpg_desk.specs.declared.image_samples.ImageSamples.TheVariants as given
use Rattle.jpg_desk.proofs.PiecesRead.{more_small}
use Rattle.jpg_desk.proofs.SampleAnswers.{targa_fed}
use Rattle.jpg_desk.proofs.image_samples.feed_targa.Goals as goal

pub returns : goal.returns
returns c = λ info bytes all h.
    let piece = c.args.piece.now in
    let f = c.feed in
    let small = more_small bytes piece h.bytes_all (λ i. (let t = c.type_inv.piece i in search (rules, t))) in
    subst (λ (a : Result Bool Why). Appends c.args.made.now f.new.made (λ more. AfterPiece true info (bytes ++ piece) (all ++ more) a (given.Targa f.new.self))) (sym c.step_of.ensures)
    (targa_fed info bytes all piece c.args.made.now f.new.made c.args.samples.now f.new.self h c.requires.short small f.result (f.ensures.answered bytes all h.given) (f.ensures.info bytes all h.given))
