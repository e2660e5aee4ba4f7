use Rattle.std.proofs.Common.{true, Err, sym, subst}
use Rattle.jpg_spec_words.specs.declared.answers.Why.{Why}
use Rattle.jpg_desk.specs.ImageSource.{AfterImageEnd}
use Rattle.jpg_desk.specs.declared.image_source.ImageSource.TheVariants as source
use Rattle.jpg_desk.proofs.ImageAnswers.{targa_stopped}
use Rattle.jpg_desk.proofs.image_source.end_targa.Goals as goal

pub returns : goal.returns
returns c = λ bytes h.
    subst (λ (w : Why). AfterImageEnd true bytes (Err w) (source.Targa c.end.new.self)) (sym c.why_stopped.ensures)
    (targa_stopped bytes c.args.reader.now c.end.new.self c.end.result h (c.end.ensures.answered bytes h))
