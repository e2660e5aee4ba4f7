use Rattle.std.proofs.Common.{◌≡◌, length, map, take}
use Rattle.jpg_file.specs.Write.WriteScan.{scan_part}
use Rattle.jpg_file.proofs.write.head.parts_of.Given as goal

abbrev pub invariant-loop-component : goal.invariant-loop-component
invariant-loop-component l = (l.parts.items ≡ map (scan_part l.colour l.has_dc l.has_ac) (take l.component-index l.components)) × (length l.parts.items ≡ l.component-index)
