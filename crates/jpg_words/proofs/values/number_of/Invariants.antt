use Rattle.std.proofs.Common.{◌≡◌, ◌<◌, ◌≤◌, drop, length}
use Rattle.std.specs.Prelude.{◌^◌}
use Rattle.jpg_spec.specs.Lists.{all_of}
use Rattle.jpg_spec.specs.NumberTexts.{digits_from, is_digit}
use Rattle.jpg_words.proofs.values.number_of.Given as goal

abbrev pub invariant-loop-digit : goal.invariant-loop-digit
invariant-loop-digit l =
    (digits_from l.number (drop l.digit-index l.text) ≡ digits_from 0 l.text) × (all_of is_digit (drop l.digit-index l.text) ≡ all_of is_digit l.text) × (l.number < 10 ^ l.digit-index) × (1 ≤ length l.text) × (length l.text ≤ 5)
