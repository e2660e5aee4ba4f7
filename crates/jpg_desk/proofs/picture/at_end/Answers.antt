use Rattle.std.proofs.Common.{◌∙◌, subst, sym}
use Rattle.jpg_spec.specs.declared.frame.Limits.{Limits}
use Rattle.jpg_spec_words.specs.declared.answers.Why.{Why}
use Rattle.jpg_file.specs.Read.ReadFile.{StopsAt}
use Rattle.jpg_desk.specs.ReadPicture.{AfterFileEnd, Coefficients}
use Rattle.jpg_desk.proofs.PictureBytes.{early_end, stop_end}
use Rattle.jpg_desk.proofs.picture.at_end.Goals as goal

pub returns-in-Early-clause-ended : goal.returns-in-Early-clause-ended
returns-in-Early-clause-ended c = λ bytes h.
    early_end Coefficients bytes c.args.reader.now c.end.new.self c.in-Early.at (c.in-Early.ensures.limits ∙ c.requires.limits) h (c.in-Early.ensures.answered bytes h.read)

pub returns-in-Stop-clause-ended : goal.returns-in-Stop-clause-ended
returns-in-Stop-clause-ended c = λ bytes h.
    let there = subst (λ (l : Limits). StopsAt l bytes c.in-Stop.stop) c.in-Stop.ensures.limits (c.in-Stop.ensures.answered bytes h.read) in
    subst (λ (w : Why). AfterFileEnd Coefficients bytes w) (sym c.why_stopped.ensures) (stop_end Coefficients bytes c.args.reader.now c.in-Stop.stop c.requires.limits h there)
