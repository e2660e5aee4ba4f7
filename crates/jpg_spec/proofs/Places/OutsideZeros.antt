-- Transformed pictures have zeros outside their real grids, if the pictures have.
use Rattle.std.proofs.Common.{◌≡◌, ℕ, Bool, true, false, cond, ◌&&◌, List, length, refl, ℤ}
use Rattle.std.specs.Prelude.{nat_lt}
use Rattle.jpg_spec.specs.Geometry.{Frame, is_real}
use Rattle.jpg_spec.specs.Elements.{zeros}
use Rattle.jpg_spec.specs.Meaning.{Meaning, picture_frame, real_blocks, real_alone}

abbrev pub test : Frame → ℕ → ℕ → ℕ → Bool
test f i x y = nat_lt i (length f.components) && is_real f i x y

abbrev pub HasRealBlocks : Meaning → Type 0
HasRealBlocks M = (i x y : ℕ) → M.blocks i x y ≡ real_blocks (picture_frame M) M.blocks i x y

pub twice_real : (b : Bool) (block : List ℤ) → cond b block (zeros 64) ≡ cond b (cond b block (zeros 64)) (zeros 64)
twice_real true block = refl
twice_real false block = refl

pub alone : (M : Meaning) → HasRealBlocks (real_alone M)
alone M i x y = twice_real (test (picture_frame M) i x y) (M.blocks i x y)
