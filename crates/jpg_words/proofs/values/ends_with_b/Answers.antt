use Rattle.std.proofs.Common.{◌==◌, sym, ap, ◌∙◌}
use Rattle.jpg_spec_words.specs.Requests.{ends_with_b}
use Rattle.jpg_words.proofs.WordsAsked.RestartNamed.{ends_at}
use Rattle.jpg_words.proofs.values.ends_with_b.Goals as goal

pub returns-in-Some : goal.returns-in-Some
returns-in-Some c = ap (λ n. n == 98) c.lower.ensures ∙ sym (ap ends_with_b c.in-Some.ensures.cases.0 ∙ ends_at c.in-Some.field-0-1.now c.in-Some.letter.now)
