use mir.Syntax.{w16}
use mir.Val.{to_z, of_z}
use Rattle.jpg_spec.specs.Geometry.{bounds_of}
use Rattle.std.proofs.Common.{arith}
use Rattle.test_parts.proofs.BlockSet.{small_of, set_first, set_later, block_set}
use Rattle.test_parts.proofs.scans.data.set.Goals as goal

pub returns-then-value-le1023 : goal.returns-then-value-le1023
returns-then-value-le1023 c =
    let v = to_z w16 (of_z w16 c.args.value) in
    block_set (bounds_of 8) c.args.block.now 0 v c.set.new.self c.set.ensures.value c.requires (set_first (bounds_of 8) c.args.block.now v c.if-value-geminus1024.true c.if-value-le1023.true c.requires.1)

pub returns-then-value-le1023-2 : goal.returns-then-value-le1023-2
returns-then-value-le1023-2 c =
    let v = to_z w16 (of_z w16 c.args.value) in
    let small = small_of v c.if-value-geminus1023.true c.if-value-le1023-2.true in
    block_set (bounds_of 8) c.args.block.now c.args.k v c.set-then-value-le1023-2.new.self c.set-then-value-le1023-2.ensures.value c.requires
    (set_later (bounds_of 8) c.args.block.now c.args.k v (omega (arith, c.if-k-eq0.false)) small c.requires.1)
