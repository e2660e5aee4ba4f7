use Rattle.std.proofs.Common.{◌∙◌, Err, subst, sym}
use Rattle.jpg_spec.specs.declared.frame.Limits.{Limits}
use Rattle.jpg_file.specs.Read.ReadFile.{StopsAt}
use Rattle.jpg_spec_words.specs.declared.answers.Why.{Why}
use Rattle.jpg_desk.specs.ReadFront.{AfterFrontEnd}
use Rattle.jpg_desk.proofs.FrontBytes.{early_front, stop_front}
use Rattle.jpg_desk.proofs.front.at_end.Goals as goal

pub returns-in-Early-clause-ended : goal.returns-in-Early-clause-ended
returns-in-Early-clause-ended c = λ scans bytes h.
    early_front scans c.args.gray bytes c.args.preview.now c.end.new.self c.in-Early.at c.requires.limits (c.in-Early.ensures.limits ∙ c.requires.limits) h (c.in-Early.ensures.answered bytes h.viewed)

pub returns-in-Stop-clause-ended : goal.returns-in-Stop-clause-ended
returns-in-Stop-clause-ended c = λ scans bytes h.
    let there = subst (λ (l : Limits). StopsAt l bytes c.in-Stop.stop) c.in-Stop.ensures.limits (c.in-Stop.ensures.answered bytes h.viewed) in
    subst (λ (w : Why). AfterFrontEnd scans c.args.gray bytes (Err w) c.end.new.self) (sym c.why_stopped.ensures) (stop_front scans c.args.gray bytes c.args.preview.now c.in-Stop.stop c.end.new.self c.requires.limits h there)
