use Rattle.std.proofs.Common.{◌++◌, false, Err, sym, subst}
use Rattle.jpg_pnm_bmp.specs.Samples.{Appends}
use Rattle.jpg_spec_words.specs.declared.answers.Why.{Why}
use Rattle.jpg_desk.specs.ImageSamples.{AfterEnd}
use Rattle.jpg_desk.proofs.SampleAnswers.{pnm_unended, pnm_whole}
use Rattle.jpg_desk.proofs.image_samples.end_pnm.Goals as goal

pub returns-in-Ok : goal.returns-in-Ok
returns-in-Ok c = λ info bytes all h. pnm_whole info bytes all c.args.made.now c.end.new.made c.args.samples.now h c.in-Ok.ensures.answered

pub returns-in-Err : goal.returns-in-Err
returns-in-Err c = λ info bytes all h.
    subst (λ (w : Why). Appends c.args.made.now c.end.new.made (λ more. AfterEnd false info bytes (all ++ more) (Err w))) (sym c.why_stopped.ensures)
    (pnm_unended info bytes all c.args.made.now c.end.new.made c.args.samples.now h c.in-Err.stop c.in-Err.ensures.answered)
