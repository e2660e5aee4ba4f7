use Rattle.std.proofs.Common.{◌≡◌, ◌-◌, ◌++◌, length, take, drop, option_map}
use Rattle.jpg_spec_words.specs.TransformWords.{cut_at}
use Rattle.jpg_words.proofs.areas.cut_at.Given as goal

-- none of these bytes is before `at`
abbrev pub invariant-loop-at : goal.invariant-loop-at
invariant-loop-at l = cut_at l.byte l.text ≡ option_map (λ cut. (take l.at l.text ++ cut.0, cut.1)) (cut_at l.byte (drop l.at l.text))

abbrev pub decreases-loop-at : goal.decreases-loop-at
decreases-loop-at l = length l.text - l.at
