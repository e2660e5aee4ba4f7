-- An element encodes as many values of a unit as it takes from it, all in the bounds; and so are blocks that are
-- mirrored.
use Rattle.std.proofs.Common.{◌≡◌, true, List, drop, sym, subst, ℤ}
use Rattle.jpg_spec.specs.Elements.{are_in_bounds, IsBlockIn}
use Rattle.jpg_spec.specs.Zigzag.{zigzag}
use Rattle.jpg_spec_move.specs.Moves.{mirrored}
use Rattle.jpg_spec.specs.declared.frame.Bounds.{Bounds}
use Rattle.jpg_spec_move.proofs.MirroredBlocks.{mirrored_is, mirrored_block}
use Rattle.jpg_spec.proofs.Bits.Within.{mirror_within}

pub mirrored_in : (r : Bounds) (block : List ℤ) → IsBlockIn r block → IsBlockIn r (mirrored block)
mirrored_in r block h = (mirrored_block block h.0, subst (λ x. are_in_bounds r true x ≡ true) (sym (mirrored_is block)) (mirror_within r (drop 1 zigzag) block h.1))
