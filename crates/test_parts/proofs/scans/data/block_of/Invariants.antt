use Rattle.jpg_spec.specs.Geometry.{bounds_of}
use Rattle.jpg_spec.specs.Elements.{IsBlockIn}
use Rattle.test_parts.proofs.scans.data.block_of.Given as goal

abbrev pub invariant-loop-part : goal.invariant-loop-part
invariant-loop-part l = IsBlockIn (bounds_of 8) l.block
