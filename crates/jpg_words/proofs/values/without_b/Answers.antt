use Rattle.std.proofs.Common.{◌≡◌, ◌==◌, true, false, sym, ap, ◌∙◌, arith}
use Rattle.std.proofs.lemmas.Bool.Decides.{nat_tests}
use Rattle.jpg_spec_words.specs.Switches.{lower}
use Rattle.jpg_spec_words.specs.Requests.{without_b}
use Rattle.jpg_words.proofs.WordsAsked.RestartNamed.{no_b, with_b}
use Rattle.jpg_words.proofs.values.without_b.Goals as goal

pub returns-then-lower-eq98 : goal.returns-then-lower-eq98
returns-then-lower-eq98 c =
    let b : (lower c.in-Some.letter.now == 98) ≡ true = grind (arith, nat_tests, c.if-lower-eq98.true, c.lower.ensures) in
    sym (ap without_b c.in-Some.ensures.cases.0 ∙ with_b c.in-Some.before.now c.in-Some.letter.now b)

pub returns-else-lower-eq98 : goal.returns-else-lower-eq98
returns-else-lower-eq98 c =
    let b : (lower c.in-Some.letter.now == 98) ≡ false = grind (arith, nat_tests, c.if-lower-eq98.false, c.lower.ensures) in
    c.in-Some.ensures.cases.0 ∙ sym (ap without_b c.in-Some.ensures.cases.0 ∙ no_b c.in-Some.before.now c.in-Some.letter.now b)
