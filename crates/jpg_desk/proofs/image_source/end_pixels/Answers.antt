use Rattle.std.proofs.Common.{false, Err, sym, subst}
use Rattle.jpg_spec_words.specs.declared.answers.Why.{Why}
use Rattle.jpg_desk.specs.ImageSource.{AfterImageEnd}
use Rattle.jpg_desk.specs.declared.image_source.ImageSource.TheVariants as source
use Rattle.jpg_desk.proofs.ImageAnswers.{pixels_stopped, pixels_whole}
use Rattle.jpg_desk.proofs.image_source.end_pixels.Goals as goal

pub returns-in-Ok : goal.returns-in-Ok
returns-in-Ok c = λ bytes h short. pixels_whole bytes c.args.reader.now c.end.new.self h short (c.in-Ok.ensures.answered bytes h) c.in-Ok.ensures.done

pub returns-in-Err : goal.returns-in-Err
returns-in-Err c = λ bytes h short.
    subst (λ (w : Why). AfterImageEnd false bytes (Err w) (source.Pixels c.end.new.self)) (sym c.why_stopped.ensures)
    (pixels_stopped bytes c.args.reader.now c.end.new.self c.in-Err.stop h short (c.in-Err.ensures.answered bytes h))
