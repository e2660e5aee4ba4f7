use Rattle.std.proofs.Common.{refl, sym, subst, ap, ◌≡◌, ◌∙◌, pos}
use Rattle.jpg_prog_read.specs.declared.stage.Stage.TheVariants as stage
use Rattle.jpg_prog_read.specs.InWork.{InWork}
use Rattle.jpg_prog_read.specs.ReaderSteps.{AfterValue, StaysOpen}
use Rattle.jpg_prog_read.specs.Stands.{Answered}
use Rattle.jpg_prog_read.proofs.Passing.{after_value, long_whole, zero_in, opened, fits_more}
use Rattle.jpg_prog_read.proofs.band.BandReader.pass_last.Goals as goal

pub returns-clause-answered : goal.returns-clause-answered
returns-clause-answered c = λ b ac at bits k f.
    let e : c.end_element.new.self ≡ after_value c.args.self.now (pos 0) = c.end_element.ensures ∙ ap (λ (s : InWork). (let n : InWork = record s { stage = stage.Code } in n)) c.put.ensures in
    subst (λ (n : InWork). Answered at bits c.covered.result n) (sym e)
    (long_whole f c.covered.result c.requires.stage.0 c.requires.zero c.requires.stage.1 (zero_in at.coding b.most_magnitude k.bounds) (subst (λ (n : InWork). AfterValue c.covered.result n) e c.covered.ensures))

pub returns-clause-open : goal.returns-clause-open
returns-clause-open c = λ b fits.
    let e : c.end_element.new.self ≡ after_value c.args.self.now (pos 0) = c.end_element.ensures ∙ ap (λ (s : InWork). (let n : InWork = record s { stage = stage.Code } in n)) c.put.ensures in
    subst (λ (n : InWork). StaysOpen b c.covered.result n) (sym e)
    (opened b c.covered.result (after_value c.args.self.now (pos 0)) refl (fits_more b c.args.self.now.rest fits) (subst (λ (n : InWork). AfterValue c.covered.result n) e c.covered.ensures))
