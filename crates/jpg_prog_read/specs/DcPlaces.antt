-- The units of an interval of a DC scan: their places, and which are complete (T.81, A.2, G.1.2.1).
use Rattle.std.specs.Prelude.{◌≡◌, ℕ, ◌+◌, ◌<◌, List, ◌∷◌, ◌++◌, Bool, length, map, slice_set, ℤ, All}
use Rattle.jpg_spec.specs.Geometry.{Frame}
use Rattle.jpg_spec.specs.Scan.{Blocks, Scan, unit_at, coefficient}
use Rattle.jpg_spec.specs.PictureInWork.{AreDistinct, UnitsRead}
use Rattle.jpg_spec.specs.declared.frame.Place.{Place}
use Rattle.jpg_base.specs.Cursor.{IsPadded}
use Rattle.jpg_coefs.specs.Picture.{Picture, block_in, map_of, put_at}
use Rattle.jpg_coefs.specs.Machine.{Interval, units_of}
use Rattle.jpg_prog_read.specs.Stands.{UnitPlace}
use Rattle.jpg_prog_read.specs.RepresentsDcUnit.{DcBetween, dc_unit}

-- only the first coefficient of each block
pub record IsDcBand (s : Scan) : Type 0 where
  pub ss : s.ss ≡ 0
  pub se : s.se ≡ 0

-- a place of the picture
pub record IsSpot (f : Frame) (p : Place) : Type 0 where
  pub small : p.component < 4
  pub padded : IsPadded f p.component p.x p.y

-- the DC value of the block at a place, and the picture with another one there
abbrev pub dc_at : Blocks → Place → ℤ
dc_at blocks p = coefficient blocks p.component p.x p.y 0

abbrev pub with_dc : Picture → Place → ℤ → Picture
with_dc q p v = put_at q p (slice_set (block_in q p.component p.x p.y) 0 v)

-- the places whose units are complete and what these decoded to, the place of the next unit, and those after it
pub record InInterval : Type 0 where
  pub done : List Place
  pub whole : List ℤ
  pub next : Place
  pub more : List Place

-- the next unit of the interval
abbrev pub next_of : Interval → InInterval → UnitPlace
next_of i w =
    record {
      coding = i.scan.coding;
      units = units_of i;
      told = w.whole;
      component = w.next.component;
      others = map (unit_at i.scan (map_of i.before)) w.more;
    }

-- its DC value before the interval
abbrev pub old_dc : Interval → InInterval → ℤ
old_dc i w = dc_at (map_of i.before) w.next

-- the bits are its complete units, after which the next one begins
abbrev pub AreCompleteUnits : Interval → InInterval → (ℕ → ℤ) → List Bool → Type 0
AreCompleteUnits i w p bits = DcBetween i.scan.coding (units_of i) w.whole p (dc_unit w.next.component (old_dc i w) ∷ (next_of i w).others) bits

-- The picture has the values of the complete units; these places, and this many units of the interval, are left.
pub record IsWithin (places : List Place) (units : ℕ) (i : Interval) (now : Picture) (w : InInterval) : Type 0 where
  pub band : IsDcBand i.scan
  pub distinct : AreDistinct (i.places ++ i.later)
  pub sized : (k x y : ℕ) → length (map_of i.before k x y) ≡ 64
  pub all : i.places ≡ w.done ++ w.next ∷ w.more
  pub left : places ≡ w.next ∷ (w.more ++ i.later)
  pub count : units ≡ 1 + length w.more
  pub spots : All (IsSpot i.before.frame) places
  pub frame : now.frame ≡ i.before.frame
  pub read : UnitsRead i.scan w.done (map_of i.before) (map_of now) w.whole

-- The interval is the next of the scan, whose remaining places these are, and there is no current one.
pub record IsNextInterval (places : List Place) (units : ℕ) (i : Interval) : Type 0 where
  pub band : IsDcBand i.scan
  pub distinct : AreDistinct (i.places ++ i.later)
  pub sized : (k x y : ℕ) → length (map_of i.before k x y) ≡ 64
  pub left : places ≡ i.places ++ i.later
  pub none : units ≡ 0
  pub spots : All (IsSpot i.before.frame) places
