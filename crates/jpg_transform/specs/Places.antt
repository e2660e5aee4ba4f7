-- Places of the real grids, and a picture as it is viewed block by block (T.81, A.2).
use Rattle.std.specs.Prelude.{◌≡◌, ◌&&◌, ℕ, ◌%◌, ◌<◌, ◌≤◌, Bool, true, false, not, List, length, slice_index, ◌≤ℤ◌, negsuc, All, None}
use Rattle.jpg_spec.specs.Geometry.{Frame, IsReal, component_at, h_max, v_max}
use Rattle.jpg_spec.specs.Meaning.{Meaning}
use Rattle.jpg_spec.specs.Scan.{Blocks}
use Rattle.jpg_spec_move.specs.Moved.{Choice, moved_frame}
use Rattle.jpg_spec.specs.Grids.{frame_grids, picture_grids}
use Rattle.jpg_spec_move.specs.Transforms.{mirrors_down, opposite, transposes}
use Rattle.jpg_base.specs.Cursor.{IsPadded}
use Rattle.jpg_coefs.specs.Picture.{Picture as Coefs, map_of}
use Rattle.jpg_spec_move.specs.declared.transform.Transform.{Transform}

-- a frame with other sides
abbrev pub with_sides : Frame → ℕ → ℕ → Frame
with_sides f width height = record f { width = width; height = height }

-- A view of a meaning: it has these sides and factors, and at the real places these blocks.
pub record IsSeenAs (M : Meaning) (f : Frame) (blocks : Blocks) : Type 0 where
  pub grids : picture_grids M ≡ frame_grids f
  pub same : (i x y : ℕ) → IsReal f i x y → M.blocks i x y ≡ blocks i x y

-- The output's frame for this choice, which crops nothing: its sides and factors are those of the source's frame
-- transformed, and a picture that is converted to grayscale has the first component untrimmed.
pub record IsOutput (choice : Choice) (transform : Transform) (source out : Frame) : Type 0 where
  pub transform_is : choice.transform ≡ transform
  pub whole : choice.crop ≡ None
  pub gray_across : choice.gray ≡ true → (component_at source 0).h ≡ h_max source
  pub gray_down : choice.gray ≡ true → (component_at source 0).v ≡ v_max source
  pub grids : frame_grids out ≡ frame_grids (moved_frame choice source)

-- A place of a picture, transposed if `over`, is a real one.
pub record ComesFrom (over : Bool) (f : Frame) (i x y : ℕ) : Type 0 where
  pub turned : over ≡ true → IsReal f i y x
  pub plain : over ≡ false → IsReal f i x y

-- Each real place of the output has its block from a real place of the source.
pub record HasSources (source : Frame) (over : Bool) (columns rows : List ℕ) (out : Frame) : Type 0 where
  pub few : length out.components ≤ 4
  pub places : (i x y : ℕ) → IsReal out i x y → ComesFrom over source i (opposite (slice_index columns i) x) (opposite (slice_index rows i) y)

-- At the real places no value is -32768, so that each can change its sign in 16 bits.
pub record HasOpposites (f : Frame) (blocks : Blocks) : Type 0 where
  pub above : (i x y : ℕ) → IsReal f i x y → All (λ v. negsuc 32766 ≤ℤ v) (blocks i x y)

-- WHERE ROWS STAY ROWS, in their order
abbrev pub keeps_rows : Transform → Bool
keeps_rows t = not (transposes t) && not (mirrors_down t)

-- Each place of the output is one of an MCU row, if its row is counted from the first one of the MCU row that it is in;
-- and the values there can change their signs.
pub record HasRowSources (row : Coefs) (out : Frame) (columns rows : List ℕ) : Type 0 where
  pub few : length out.components ≤ 4
  pub some : (i : ℕ) → i < length out.components → 1 ≤ slice_index rows i
  pub places : (i x y : ℕ) → IsReal out i x y → IsPadded row.frame i (opposite (slice_index columns i) x) (y % slice_index rows i)
  pub above : (i x y : ℕ) → All (λ v. negsuc 32766 ≤ℤ v) (map_of row i x y)
