-- What the states of the machine of a DC refinement mean (T.81, G.1.2.1).
use Rattle.std.specs.Prelude.{ℕ, ◌+◌, ◌-◌, ◌^◌, Bool, List, drop, ℤ, pos, ◌≤ℤ◌, ◌+ℤ◌, All}
use Rattle.jpg_spec.specs.Elements.{Coding}
use Rattle.jpg_spec.specs.Scan.{Blocks}
use Rattle.jpg_spec.specs.declared.frame.Place.{Place}
use Rattle.jpg_coefs.specs.Picture.{Picture, map_of}
use Rattle.jpg_coefs.specs.Machine.{Interval, Kind}
use Rattle.jpg_prog_read.specs.declared.dc_refine.DcRefine.{DcRefine}
use Rattle.jpg_prog_read.specs.Known.{IsMultiple}
use Rattle.jpg_prog_read.specs.DcWork.{AreDcSane}
use Rattle.jpg_prog_read.specs.RepresentsDcUnit.{IsDcRefinementOf}
use Rattle.jpg_prog_read.specs.DcPlaces.{IsDcBand, dc_at, InInterval, AreCompleteUnits, IsWithin, IsNextInterval}

-- a DC value that is within the bounds, whichever bit al it gets
pub record HasDcRoom (c : Coding) (o : ℤ) : Type 0 where
  pub low : c.bounds.dc_low ≤ℤ o
  pub high : (o +ℤ pos (2 ^ c.al)) ≤ℤ c.bounds.dc_high

-- the value of the block at a place
abbrev pub HasRoomAt : Coding → Blocks → Place → Type 0
HasRoomAt c blocks p = HasDcRoom c (dc_at blocks p)

-- one within the bounds that is known down to bit al + 1
pub record IsKnownDc (c : Coding) (o : ℤ) : Type 0 where
  pub low : c.bounds.dc_low ≤ℤ o
  pub high : o ≤ℤ c.bounds.dc_high
  pub known : IsMultiple (c.al + 1) o

-- An interval whose DC values have room for one more bit.
pub record TakesOneBit (i : Interval) : Type 0 where
  pub band : IsDcBand i.scan
  pub room : All (HasRoomAt i.scan.coding (map_of i.before)) i.places

-- Complete units, after which the next one's bit follows.
pub record RepresentsDcRefine (m : DcRefine) (i : Interval) (bits : List Bool) (now : Picture) : Type 0 where
  pub sane : AreDcSane m.scan
  pub coded : IsDcRefinementOf m.scan i.scan.coding
  pub kind : TakesOneBit i
  pub within : InInterval
  pub places : IsWithin m.cursor m.left i now within
  pub predictions : ℕ → ℤ
  pub between : AreCompleteUnits i within predictions bits

-- an interval that it may begin
pub record RefineReady (m : DcRefine) (i : Interval) : Type 0 where
  pub sane : AreDcSane m.scan
  pub coded : IsDcRefinementOf m.scan i.scan.coding
  pub kind : TakesOneBit i
  pub places : IsNextInterval m.cursor m.left i

abbrev pub refinement : Kind DcRefine
refinement = record { stands = RepresentsDcRefine; ready = RefineReady; left = λ m. m.left; fits = TakesOneBit }

-- after a complete unit
abbrev pub after_bit : DcRefine → DcRefine
after_bit m = record m { cursor = drop 1 m.cursor; left = m.left - 1 }
