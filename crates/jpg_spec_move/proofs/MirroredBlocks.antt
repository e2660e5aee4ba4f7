-- Blocks mirrored left to right: 64 values again, and mirrored twice what they were.
use Rattle.std.proofs.Common.{◌≡◌, List, length, refl, ap, ◌∙◌, arith, ℤ}
use Rattle.jpg_spec.specs.Zigzag.{zigzag}
use Rattle.jpg_spec_move.specs.Moves.{mirrored}
use Rattle.jpg_spec.proofs.Writing.MirroredBlocks.{mirror_at, length_mirror, IsBlock, mirror_twice}

pub mirrored_is : (block : List ℤ) → mirrored block ≡ mirror_at zigzag block
unfolding mirrored
mirrored_is block = refl

pub mirrored_block : (block : List ℤ) → IsBlock block → IsBlock (mirrored block)
mirrored_block block l = ap length (mirrored_is block) ∙ length_mirror zigzag block (omega (arith, l)) ∙ l

pub mirrored_twice : (block : List ℤ) → IsBlock block → mirrored (mirrored block) ≡ block
mirrored_twice block l = ap mirrored (mirrored_is block) ∙ mirrored_is (mirror_at zigzag block) ∙ mirror_twice zigzag block (omega (arith, l))
