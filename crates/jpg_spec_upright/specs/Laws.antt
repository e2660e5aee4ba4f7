-- TERMS OF THE LAWS: what holds together in their premises, and what they conclude. No definition uses them.
use Rattle.std.specs.Prelude.{◌≡◌, ℕ, ◌-◌, ◌<◌, ◌≤◌, Bool, true, false, if◌then◌else◌, List, None, ℤ, All}
use Rattle.jpg_spec.specs.Early.{IsMeaning}
use Rattle.jpg_spec.specs.FrameHeader.{AreLimits}
use Rattle.jpg_spec.specs.Meaning.{Meaning}
use Rattle.jpg_spec.specs.WholeBlocks.{HasWholeBlocks}
use Rattle.jpg_spec.specs.declared.frame.Limits.{Limits}
use Rattle.jpg_spec_write.specs.WrittenFile.{IsRestart}
use Rattle.jpg_spec_move.specs.Moved.{Choice}
use Rattle.jpg_spec_move.specs.Moves.{whole_columns, whole_rows}
use Rattle.jpg_spec_move.specs.Transforms.{mirrors_across, mirrors_down, signed, transformed, transposes, turned_over}
use Rattle.jpg_spec_upright.specs.Upright.{Side, bottom, column_side, fault_for, left_side, right_side, row_side, text_for, top, transform_for}

-- nothing is left out: no trimming, no conversion to grayscale, and nothing cropped
pub record LeavesNothing (choice : Choice) : Type 0 where
  pub untrimmed : choice.trim ≡ false
  pub ungrayed : choice.gray ≡ false
  pub whole : choice.crop ≡ None

-- DISTANCES from the sides

abbrev pub is_across : Side → Bool
is_across top = false
is_across right_side = true
is_across bottom = false
is_across left_side = true

abbrev pub is_far : Side → Bool
is_far top = false
is_far right_side = true
is_far bottom = true
is_far left_side = false

-- the place at this distance from a side, among n
abbrev pub from_side : Side → ℕ → ℕ → ℕ
from_side side n distance = if is_far side then n - 1 - distance else distance

-- the distances of the block at column x and row y from the sides at the left or right and at the top or bottom
abbrev pub distance_across : ℕ → ℕ → ℕ → ℕ
distance_across orientation x y = if is_across (column_side orientation) then x else y

abbrev pub distance_down : ℕ → ℕ → ℕ → ℕ
distance_down orientation x y = if is_across (column_side orientation) then y else x

abbrev pub side_across : ℕ → Side
side_across orientation = if is_across (column_side orientation) then column_side orientation else row_side orientation

abbrev pub side_down : ℕ → Side
side_down orientation = if is_across (column_side orientation) then row_side orientation else column_side orientation

-- the displayed picture
abbrev pub displayed : ℕ → Meaning → Meaning
displayed orientation M = transformed (transform_for orientation) M

-- The orientation is one of the eight, and a block of complete iMCUs is displayed at these distances.
pub record IsDisplayed (orientation : ℕ) (M : Meaning) (i x y : ℕ) : Type 0 where
  pub some : 1 ≤ orientation
  pub few : orientation ≤ 8
  pub blocks : HasWholeBlocks M
  pub across : distance_across orientation x y < whole_columns (displayed orientation M) i
  pub down : distance_down orientation x y < whole_rows (displayed orientation M) i

-- the block at these distances from the sides
abbrev pub displayed_block : ℕ → Meaning → ℕ → ℕ → ℕ → List ℤ
displayed_block orientation M i x y =
    let N = displayed orientation M in
    N.blocks i (from_side (side_across orientation) (whole_columns N i) (distance_across orientation x y)) (from_side (side_down orientation) (whole_rows N i) (distance_down orientation x y))

-- a block turned as the orientation asks for it
abbrev pub turned_block : ℕ → List ℤ → List ℤ
turned_block orientation block = let t = transform_for orientation in signed (mirrors_across t) (mirrors_down t) (turned_over (transposes t) block)

-- THE FILE of a picture that some bytes mean, also if they end early, by whether it is turned upright, where it has no fault
pub record IsTextFor (upright : Bool) (choice : Choice) (M : Meaning) (bytes : List ℕ) : Type 0 where
  pub limits : Limits
  pub input : List ℕ
  pub limited : AreLimits limits
  pub are_bytes : All (λ b. b < 256) input
  pub means : IsMeaning limits input M
  pub faultless : fault_for upright choice M ≡ None
  pub small : IsRestart choice.restart
  pub text : bytes ≡ text_for upright choice M
