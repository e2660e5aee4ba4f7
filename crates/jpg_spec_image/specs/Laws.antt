-- TERMS OF THE LAWS: what holds together in their premises, and what they conclude. No definition uses them.
use Rattle.std.specs.Prelude.{◌≡◌, ℕ, ◌*◌, ◌<◌, ◌≤◌, Bool, List, length, Some}
use Rattle.jpg_spec.specs.Scan.{Blocks}
use Rattle.jpg_spec.specs.Meaning.{Meaning}
use Rattle.jpg_spec.specs.FirstFault.{IsFirstFault, RevealsNone}
use Rattle.jpg_spec_image.specs.Front.{EndsScan, IsFront}
use Rattle.jpg_spec_image.specs.Upsampling.{Stretch, upsampled_row}
use Rattle.jpg_spec_image.specs.NotShown.{IsNotShown}
use Rattle.jpg_spec_image.specs.Pixels.{out_fault, stretch_of, upsampled}
use Rattle.jpg_spec_image.specs.Strips.{IsRowReady, ready, IsCovered}
use Rattle.jpg_spec.specs.declared.fault.FaultAt.{FaultAt}
use Rattle.jpg_spec.specs.declared.fault.Fault.{Fault}
use Rattle.jpg_spec.specs.declared.fault.Fault.TheVariants.{Truncated}
use Rattle.jpg_spec.specs.declared.frame.Limits.{Limits}
use Rattle.jpg_spec.specs.Laws.{with_blocks}

-- IMAGES ROW BY ROW

-- the same row of the image is made from either rows of samples
abbrev pub MakeSameRow : Stretch → (ℕ → List ℕ) → (ℕ → List ℕ) → ℕ → Type 0
MakeSameRow s rows others y = upsampled_row s rows y ≡ upsampled_row s others y

-- the same blocks of component i, in one row
abbrev pub AgreeInRow : Blocks → Blocks → ℕ → ℕ → Type 0
AgreeInRow blocks others i row = (x : ℕ) → blocks i x row ≡ others i x row

-- Blocks are the same in this many first rows, and these have all rows of samples that row y of the image is made from.
pub record AgreeWhereMade (M : Meaning) (others : Blocks) (smooth : Bool) (i y : ℕ) : Type 0 where
  pub rows_of_blocks : ℕ
  pub rows : ℕ
  pub same : (x z : ℕ) → z < rows_of_blocks → M.blocks i x z ≡ others i x z
  pub down : 1 ≤ (stretch_of M smooth i).down
  pub high : rows ≤ (stretch_of M smooth i).high
  pub held : rows ≤ 8 * rows_of_blocks
  pub ready : IsRowReady (stretch_of M smooth i) rows y

-- the same row of the image, with these blocks and with the others
abbrev pub KeepsRow : Meaning → Blocks → Bool → ℕ → ℕ → Type 0
KeepsRow M others smooth i y = upsampled M smooth i y ≡ upsampled (with_blocks M others) smooth i y

-- Row y of the image is ready after m MCU rows of `all`, and component i is one of the `count` that are displayed.
pub record MakesReady (M : Meaning) (count : ℕ) (smooth : Bool) (all m i y : ℕ) : Type 0 where
  pub covered : IsCovered M smooth all i
  pub shown : i < count
  pub some : m ≤ all
  pub early : y < ready M count smooth all m

-- A file can't be displayed for the same reason as a picture.
pub record AreNotShownAlike (limits : Limits) (gray : Bool) (bytes : List ℕ) (M : Meaning) : Type 0 where
  pub same : (f : FaultAt) → IsNotShown limits gray bytes f → out_fault gray M ≡ Some f.fault
  pub told : (fault : Fault) → out_fault gray M ≡ Some fault → (f : FaultAt) × IsNotShown limits gray bytes f × (f.fault ≡ fault)

-- THE FRONT OF A FILE

-- The file has this first fault, which isn't that of its end, at a place inside its front.
pub record IsStoppedIn (limits : Limits) (scans : ℕ) (bytes front : List ℕ) (f : Fault) (n : ℕ) : Type 0 where
  pub front_of : IsFront limits scans bytes front
  pub shown : IsFirstFault limits bytes f n
  pub other : f ≡ Truncated → ⊥
  pub inside : n ≤ length front

-- The bytes end with a marker after a scan, are fewer than may be taken, and have no fault.
pub record EndsShort (limits : Limits) (scans : ℕ) (front : List ℕ) : Type 0 where
  pub ends : EndsScan limits scans front
  pub short : length front < limits.input
  pub faultless : RevealsNone limits front
