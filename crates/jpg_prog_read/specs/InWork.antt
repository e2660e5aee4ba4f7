-- The current unit of a band.
use Rattle.std.specs.Prelude.{◌≡◌, ◌⊎◌, ℕ, ◌+◌, ◌-◌, ◌<◌, ◌≤◌, Bool, true, false, List, [], ℤ, pos, nat_abs, length, take, drop, slice_index_or, All}
use Rattle.jpg_spec.specs.Elements.{is_zero, zeros}
use Rattle.jpg_base.specs.Marks.{marks}
use Rattle.jpg_prog_read.specs.declared.stage.Stage.{Stage}
use Rattle.jpg_prog_read.specs.declared.stage.Stage.TheVariants.{Code, Number, Count, Value, Long, Ends}
use Rattle.jpg_prog_read.specs.declared.scan.BandScan.{BandScan}

-- The values of its block before the band, those of the band that are done, those that are left, and those after the
-- band; the current element: the bits of its code; its run (of zeros still to be skipped), the size of its number and
-- the bits of that so far, its value, and how many bands it still ends.
pub record InWork : Type 0 where
  pub front : List ℤ
  pub done : List ℤ
  pub rest : List ℤ
  pub behind : List ℤ
  pub stage : Stage
  pub walked : List Bool
  pub run : ℕ
  pub size : ℕ
  pub extra : List Bool
  pub due : ℤ
  pub bands : ℕ

-- the invariant of the reader
pub record IsKept (values : List ℤ) (start at end olds : ℕ) (begun : Bool) (walked : List Bool) : Type 0 where
  pub whole : length values ≡ 64
  pub begins : start ≤ at
  pub inside : at ≤ end
  pub fits : end ≤ 64
  pub few : end ≤ at + 63
  pub marked : olds ≡ marks (drop at values)
  pub quiet : begun ≡ false → walked ≡ []

-- an old value that a correction leaves within the limit
abbrev pub IsRefinable : BandScan → ℤ → Type 0
IsRefinable b o = (is_zero o ≡ true) ⊎ (nat_abs o + b.scale ≤ b.most_magnitude)

-- all of them
abbrev pub AreRefinable : BandScan → List ℤ → Type 0
AreRefinable b old = All (IsRefinable b) old

-- which bit the current element needs next
abbrev pub DoesWait : Stage → InWork → Type 0
DoesWait Code s = Unit {0}
DoesWait Number s = length s.extra < s.size
DoesWait Count s = (length s.extra < s.size) × (s.size ≤ 14)
DoesWait Value s = is_zero (slice_index_or s.rest 0 (pos 0)) ≡ false
DoesWait Long s = is_zero (slice_index_or s.rest 0 (pos 0)) ≡ false
DoesWait Ends s = (is_zero (slice_index_or s.rest 0 (pos 0)) ≡ false) × (1 ≤ s.bands)

-- values are left, and a bit is needed
pub record IsOpenBand (b : BandScan) (s : InWork) : Type 0 where
  pub left : 1 ≤ length s.rest
  pub fits : AreRefinable b s.rest
  pub waits : DoesWait s.stage s

-- values are being skipped
abbrev pub IsPassing : Stage → InWork → Type 0
IsPassing Code s = ⊥
IsPassing Number s = ⊥
IsPassing Count s = ⊥
IsPassing Value s = Unit {0}
IsPassing Long s = Unit {0}
IsPassing Ends s = 1 ≤ s.bands

-- values are left or not, and are being skipped
pub record IsMoving (b : BandScan) (s : InWork) : Type 0 where
  pub fits : AreRefinable b s.rest
  pub passing : IsPassing s.stage s

-- between two units
abbrev pub IsEnd : Stage → InWork → Type 0
IsEnd Code s = Unit {0}
IsEnd Number s = ⊥
IsEnd Count s = ⊥
IsEnd Value s = ⊥
IsEnd Long s = ⊥
IsEnd Ends s = 1 ≤ s.bands

-- the unit is complete
pub record IsWholeUnit (s : InWork) : Type 0 where
  pub whole : s.rest ≡ []
  pub ended : IsEnd s.stage s

-- the band of a block
abbrev pub band_values : BandScan → List ℤ → List ℤ
band_values b block = take (b.end - b.start) (drop b.start block)

-- it has only zeros
abbrev pub HasNothing : BandScan → List ℤ → Type 0
HasNothing b block = band_values b block ≡ zeros (b.end - b.start)

-- before the first unit
pub record IsBeforeUnits (s : InWork) : Type 0 where
  pub whole : s.rest ≡ []
  pub code : s.stage ≡ Code
  pub quiet : s.walked ≡ []

-- with the block of the next unit
abbrev pub with_band : InWork → List ℤ → List ℤ → List ℤ → InWork
with_band s front band behind = record s { front = front; done = []; rest = band; behind = behind; run = 255 }
