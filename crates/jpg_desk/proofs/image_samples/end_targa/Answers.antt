use Rattle.std.proofs.Common.{true, Err, sym, subst}
use Rattle.jpg_spec_words.specs.declared.answers.Why.{Why}
use Rattle.jpg_desk.specs.ImageSamples.{AfterEnd}
use Rattle.jpg_desk.proofs.SampleAnswers.{targa_unended}
use Rattle.jpg_desk.proofs.image_samples.end_targa.Goals as goal

pub returns : goal.returns
returns c = λ info bytes all h.
    subst (λ (w : Why). AfterEnd true info bytes all (Err w)) (sym c.why_stopped.ensures) (targa_unended info bytes all c.args.samples.now h c.end.result (c.end.ensures.answered bytes all h.given))
