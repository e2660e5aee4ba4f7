use Rattle.std.proofs.Common.{◌≡◌, ◌++◌, map, take, drop}
use Rattle.jpg_color.specs.PartState.{filled}
use Rattle.jpg_color.proofs.decode.strips.fill_parts.Given as goal

abbrev pub invariant-loop-i : goal.invariant-loop-i
invariant-loop-i l = l.parts ≡ map (filled l.coefs l.whole l.pushed) (take l.i l.initial.parts) ++ drop l.i l.initial.parts
