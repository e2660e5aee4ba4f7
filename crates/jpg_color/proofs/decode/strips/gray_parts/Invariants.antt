use Rattle.std.proofs.Common.{◌≡◌, ◌++◌, map, take, drop}
use Rattle.jpg_color.specs.PartState.{grayed_part}
use Rattle.jpg_color.proofs.decode.strips.gray_parts.Given as goal

abbrev pub invariant-loop-i : goal.invariant-loop-i
invariant-loop-i l = l.parts ≡ map (grayed_part l.pushed) (take l.i l.initial.parts) ++ drop l.i l.initial.parts
