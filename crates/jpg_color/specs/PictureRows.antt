-- The rows of a picture, of which some were given.
use Rattle.std.specs.Prelude.{◌≡◌, ◌<◌, ◌+◌, Bool, true, false, length}
use Rattle.jpg_spec.specs.Geometry.{bounds}
use Rattle.jpg_spec.specs.Meaning.{real_blocks}
use Rattle.jpg_spec.specs.Ranges.{AreInRange}
use Rattle.jpg_spec.specs.Scan.{Blocks}
use Rattle.jpg_coefs.specs.Picture.{Picture as Coefs, map_of}
use Rattle.jpg_file.specs.declared.read.picture.Picture.{Picture}
use Rattle.jpg_color.specs.Shown.{ShownState, Display, RepresentsPicture, row_length, row_of_blocks}

pub record RowsLeft : Type 0 where
  pub strips : ShownState
  pub coefs : Coefs

-- the real blocks of these coefficients, and zeros elsewhere
abbrev pub shown_blocks : Display → Coefs → Blocks
shown_blocks d q = real_blocks d.frame (map_of q)

-- The strips took MCU rows of these coefficients, which are of their frame and in its bounds.
pub record ArePictureRows (s : ShownState) (q : Coefs) : Type 0 where
  pub frame : q.frame ≡ s.display.frame
  pub range : AreInRange (bounds s.display.frame) (map_of q)
  pub stands : RepresentsPicture s (shown_blocks s.display q)

-- the picture except for its blocks, and how it is displayed
abbrev pub display_in : Picture → Bool → Bool → Display
display_in p gray smooth = record { frame = p.frame; colour = p.colour; quants = p.quants.items; gray = gray; smooth = smooth }

-- before the first row
pub record IsFirstRow (p : Picture) (gray smooth : Bool) (r : RowsLeft) : Type 0 where
  pub display : r.strips.display ≡ display_in p gray smooth
  pub coefs : r.coefs ≡ p.coefs
  pub given : r.strips.given ≡ 0

-- One more row, which is that of the picture; or all were given.
pub record RowGoesOn (old new : RowsLeft) : Type 0 where
  pub early : old.strips.given < old.strips.display.frame.height
  pub display : new.strips.display ≡ old.strips.display
  pub coefs : new.coefs ≡ old.coefs
  pub given : new.strips.given ≡ old.strips.given + 1
  pub long : length new.strips.last ≡ row_length old.strips.display
  pub value : new.strips.last ≡ row_of_blocks old.strips.display (shown_blocks old.strips.display old.coefs) old.strips.given

pub record IsAfter (old new : RowsLeft) : Type 0 where
  pub all : old.strips.given ≡ old.strips.display.frame.height
  pub display : new.strips.display ≡ old.strips.display

abbrev pub AdvancesRow : RowsLeft → Bool → RowsLeft → Type 0
AdvancesRow old true new = RowGoesOn old new
AdvancesRow old false new = IsAfter old new
