use Rattle.std.specs.Prelude.{◌≡◌, ◌*◌, length}
use Rattle.jpg_color.specs.EncodeBlocks.{AppendsRows, GrowsPlane, source_image}
use Rattle.jpg_color.proofs.encode.strips.put_blocks.Given as goal

abbrev pub invariant-loop-y : goal.invariant-loop-y
invariant-loop-y l =
    (length l.eight ≡ 8 * l.source.wide)
    × AppendsRows l.frame (source_image l.source) l.source.plane.component l.y l.fn.plane.items l.plane.items
    × GrowsPlane l.frame l.source.plane.component l.fn.plane.items l.plane.items
