-- TERMS OF THE LAWS: what holds together in their premises, and what they conclude. No definition uses them.
use Rattle.std.specs.Prelude.{◌≡◌, ℕ, ◌+◌, ◌-◌, ◌*◌, ◌<◌, ◌↔◌, true, false, List, Option, None, Some, ℤ, All}
use Rattle.jpg_spec.specs.Geometry.{Frame, IsReal, component_at, h_max, v_max}
use Rattle.jpg_spec.specs.FrameHeader.{AreLimits, IsFrame}
use Rattle.jpg_spec.specs.Meaning.{Meaning, component_of, picture_frame, real_blocks, most_across, most_down}
use Rattle.jpg_spec.specs.Early.{IsMeaning}
use Rattle.jpg_spec_write.specs.WrittenFile.{IsRestart}
use Rattle.jpg_spec_move.specs.Cropped.{crop_fault, cropped, is_area_of}
use Rattle.jpg_spec_move.specs.Moved.{Choice, IsSamePicture, gray_fault, moved_script_fault, moved_text, uncropped, uncropped_frame}
use Rattle.jpg_spec_move.specs.Transforms.{transformed, inverse, transposes, changed_columns, changed_rows, placed}
use Rattle.jpg_spec.specs.WholeBlocks.{HasWholeBlocks}
use Rattle.jpg_spec.specs.declared.frame.Limits.{Limits}
use Rattle.jpg_spec_move.specs.declared.area.Area.{Area}
use Rattle.jpg_spec_move.specs.declared.transform.Transform.{Transform}

-- TRANSFORMED PICTURES (the manual of jpegtran)

-- A picture that some bytes mean, also if they end early, which can be converted to grayscale and cropped if that is
-- asked for.
pub record IsMovable (choice : Choice) (M : Meaning) : Type 0 where
  pub limits : Limits
  pub bytes : List ℕ
  pub limited : AreLimits limits
  pub are_bytes : All (λ b. b < 256) bytes
  pub means : IsMeaning limits bytes M
  pub admitted : gray_fault choice.gray M ≡ None
  pub inside : crop_fault choice.crop (uncropped choice M) ≡ None

-- the file of a transformed picture, in scans that have no fault
pub record IsMovedText (choice : Choice) (M : Meaning) (bytes : List ℕ) : Type 0 where
  pub movable : IsMovable choice M
  pub faultless : moved_script_fault choice M ≡ None
  pub small : IsRestart choice.restart
  pub text : bytes ≡ moved_text choice M

-- The picture N is a transform of M, whose blocks and tables have 64 numbers.
pub record IsTransformOf (t : Transform) (M N : Meaning) : Type 0 where
  pub whole : HasWholeBlocks M
  pub same : IsSamePicture N (transformed t M)

-- The inverse transform, without trimming, conversion to grayscale and cropping.
pub record UndoesTransform (t : Transform) (choice : Choice) : Type 0 where
  pub transform : choice.transform ≡ inverse t
  pub untrimmed : choice.trim ≡ false
  pub ungrayed : choice.gray ≡ false
  pub whole : choice.crop ≡ None

-- the same choice, with nothing cropped
abbrev pub whole : Choice → Choice
whole choice = record choice { crop = None }

-- the block at a place of the output, by the one formula
abbrev pub formula_block : Transform → Meaning → ℕ → ℕ → ℕ → List ℤ
formula_block t M i x y = let N = transformed t M in placed (transposes t) (changed_columns t N i) (changed_rows t N i) (M.blocks i) x y

pub record HasSampling (M : Meaning) : Type 0 where
  pub across : 0 < most_across M
  pub down : 0 < most_down M

abbrev pub IsZeroOutside : Meaning → Type 0
IsZeroOutside M = real_blocks (picture_frame M) M.blocks ≡ M.blocks

-- component 1 has the greatest factors
pub record FirstIsGreatest (f : Frame) : Type 0 where
  pub across : (component_at f 0).h ≡ h_max f
  pub down : (component_at f 0).v ≡ v_max f

-- the area is inside the frame, if there is one
abbrev pub HasArea : Option Area → Frame → Type 0
HasArea None f = Unit {0}
HasArea (Some area) f = is_area_of area f.width f.height ≡ true

-- a frame that can be converted to grayscale and cropped if that is asked for
pub record IsMovableFrame (choice : Choice) (f : Frame) : Type 0 where
  pub frame : IsFrame f
  pub gray : choice.gray ≡ true → FirstIsGreatest f
  pub inside : HasArea choice.crop (uncropped_frame choice f)

-- THE TWO PARTS of a picture that is cut before a column of iMCUs

-- the first columns of iMCUs, this many, and the others
abbrev pub left_part : ℕ → Meaning → Meaning
left_part n M = cropped (record { w = n * (8 * most_across M); h = M.height; x = 0; y = 0 }) M

abbrev pub right_part : ℕ → Meaning → Meaning
right_part n M = cropped (record { w = M.width - n * (8 * most_across M); h = M.height; x = n * (8 * most_across M); y = 0 }) M

-- the columns of a component's blocks in these iMCUs
abbrev pub left_columns : ℕ → Meaning → ℕ → ℕ
left_columns n M i = n * (component_of M i).h

-- The part has the blocks of the first columns, and no others.
pub record IsLeftPart (columns : ℕ → ℕ) (M part : Meaning) : Type 0 where
  pub places : (i x y : ℕ) → IsReal (picture_frame part) i x y ↔ (IsReal (picture_frame M) i x y × (x < columns i))
  pub blocks : (i x y : ℕ) → IsReal (picture_frame part) i x y → part.blocks i x y ≡ M.blocks i x y

-- The part has the blocks after the first columns, and no others.
pub record IsRightPart (columns : ℕ → ℕ) (M part : Meaning) : Type 0 where
  pub places : (i x y : ℕ) → IsReal (picture_frame part) i x y ↔ IsReal (picture_frame M) i (x + columns i) y
  pub blocks : (i x y : ℕ) → IsReal (picture_frame part) i x y → part.blocks i x y ≡ M.blocks i (x + columns i) y

-- Each block is in exactly one of two parts.
pub record AreParts (columns : ℕ → ℕ) (M left right : Meaning) : Type 0 where
  pub first : IsLeftPart columns M left
  pub others : IsRightPart columns M right
