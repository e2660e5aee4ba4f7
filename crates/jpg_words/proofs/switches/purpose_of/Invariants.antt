use Rattle.std.proofs.Common.{◌≡◌, map, drop}
use Rattle.std.specs.Prelude.{find}
use Rattle.jpg_spec_words.specs.Switches.{is_match}
use Rattle.jpg_words.specs.Switches.{switch_view}
use Rattle.jpg_words.proofs.switches.purpose_of.Given as goal

abbrev pub invariant-loop-switch : goal.invariant-loop-switch
invariant-loop-switch l = find (is_match (drop 1 l.word)) (map switch_view (drop l.switch-index l.switches)) ≡ find (is_match (drop 1 l.word)) (map switch_view l.switches)
