use Rattle.std.proofs.Common.{refl, arith}
use Rattle.std.proofs.lemmas.Fmt.{decimal_digit, decimal_step}
use Rattle.jpg_spec_words.proofs.word_examples.the_steps_of_jpgwork_are_asked_for.Goals as goal

pub returns-clause-sides : goal.returns-clause-sides
returns-clause-sides c = rw (decimal_step 13 (omega arith) (omega arith), decimal_digit 1 (omega arith), decimal_digit 7 (omega arith)) refl
