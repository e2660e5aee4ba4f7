use Rattle.std.proofs.Common.{◌≡◌, map, drop}
use Rattle.jpg_spec.specs.Lists.{begins_with}
use Rattle.jpg_spec_words.specs.Switches.{lower}
use Rattle.jpg_words.proofs.switches.begins.Given as goal

abbrev pub invariant-loop-letter : goal.invariant-loop-letter
invariant-loop-letter l = begins_with (map lower (drop l.letter-index l.letters)) l.rest ≡ begins_with (map lower l.letters) l.fn.name
