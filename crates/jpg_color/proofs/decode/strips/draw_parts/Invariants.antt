use Rattle.std.proofs.Common.{◌≡◌, ◌++◌, map, take, drop}
use Rattle.jpg_color.specs.PartState.{drawn}
use Rattle.jpg_color.proofs.decode.strips.draw_parts.Given as goal

abbrev pub invariant-loop-i : goal.invariant-loop-i
invariant-loop-i l = l.parts ≡ map (drawn l.y l.pushed) (take l.i l.initial.parts) ++ drop l.i l.initial.parts
