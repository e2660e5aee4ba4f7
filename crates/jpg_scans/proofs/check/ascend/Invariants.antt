use Rattle.std.specs.Prelude.{◌≡◌, ◌∷◌, drop}
use Rattle.jpg_spec_write.specs.ScriptFaults.{ascend}
use Rattle.jpg_scans.proofs.check.ascend.Given as goal

abbrev pub invariant-loop-i : goal.invariant-loop-i
invariant-loop-i l = ascend l.components ≡ ascend (l.last ∷ drop l.i-index l.rest)
