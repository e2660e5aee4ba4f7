-- WHAT TAKES THE UNITS OF A SCAN, interval by interval: it writes or counts them (T.81, E.1.4, F.1.2, G.1.2).
use Rattle.std.specs.Prelude.{◌≡◌, ℕ, ◌+◌, ◌*◌, ◌%◌, ◌<◌, true, if◌then◌else◌, List, [], ◌∷◌, length, map, slice_index_or, ℤ, pos, Option, Some, None, Result, Ok, Err}
use Rattle.jpg_spec.specs.Lists.{is_among, chunks}
use Rattle.jpg_spec.specs.Geometry.{Frame, is_real, units, mcu_units}
use Rattle.jpg_spec.specs.Segments.{ScanHead, head_components}
use Rattle.jpg_spec.specs.Elements.{zeros}
use Rattle.jpg_spec.specs.Scan.{Blocks, block_at}
use Rattle.jpg_spec_write.specs.ScanText.{UnitDue, units_due, last_dc}
use Rattle.jpg_spec.specs.declared.frame.Place.{Place}
use Rattle.jpg_base.specs.declared.stop.WriteFault.{WriteFault}
use Rattle.jpg_coefs.specs.declared.intervals.WrittenScan.{WrittenScan}

-- UNITS

-- a place of a scan of this head
pub record IsScanPlace (f : Frame) (head : ScanHead) (p : Place) : Type 0 where
  pub named : is_among p.component (head_components head) ≡ true
  pub there : p.component < length f.components
  pub real : p.real ≡ is_real f p.component p.x p.y

-- the block that is written there: the picture's, or for a padding block only the last DC value
abbrev pub block_due : Blocks → ℤ → Place → List ℤ
block_due blocks last p = if p.real then block_at blocks p else last ∷ zeros 63

-- the first value of the units before them is taken as 0
abbrev pub no_last : ℕ → ℤ
no_last i = pos 0

-- all units of a scan, interval by interval
abbrev pub intervals_due : Frame → ScanHead → ℕ → Blocks → List (List UnitDue)
intervals_due f head interval blocks = map (units_due blocks no_last) (chunks (interval * mcu_units f (head_components head)) (units f (head_components head)))

-- those of a scan that is written
abbrev pub scan_due : Frame → WrittenScan → Blocks → List (List UnitDue)
scan_due f scan blocks = intervals_due f scan.head.now scan.interval blocks

-- DC values by component, kept in a list
abbrev pub last_in : List ℤ → ℕ → ℤ
last_in values i = slice_index_or values i (pos 0)

-- WHAT STATES MEAN

-- a sink, and what it puts the results into
pub record At (S O D : Type 0) : Type 0 where
  pub sink : S
  pub out : O
  pub desk : D

abbrev pub at : {S O D : Type 0} → S → O → D → At S O D
at s o d = record { sink = s; out = o; desk = d }

-- What is due of a scan that was begun in some state: after a number of intervals and units of one more, which have
-- these last DC values, the other units of that one, and later intervals.
pub record Due (S O D : Type 0) : Type 0 where
  pub from : At S O D
  pub all : List (List UnitDue)
  pub number : ℕ
  pub last : ℕ → ℤ
  pub rest : List UnitDue
  pub later : List (List UnitDue)

-- Of a sink: what is due in its states, and the results of complete scans and of those that a fault ended.
pub record SinkKind (S O D : Type 0) : Type 1 where
  pub due : Due S O D → At S O D → Type 0
  pub ended : At S O D → List (List UnitDue) → Result (Unit {0}) WriteFault → O → D → Type 0

abbrev pub Goes : {S O D : Type 0} → SinkKind S O D → Due S O D → Result (Unit {0}) WriteFault → At S O D → Type 0
Goes k d (Ok u) new = k.due d new
Goes k d (Err f) new = k.ended d.from d.all (Err f) new.out new.desk

-- ONE UNIT

abbrev pub with_unit : {S O D : Type 0} → Due S O D → UnitDue → Due S O D
with_unit d u = record d { rest = u ∷ d.rest }

abbrev pub after_unit : {S O D : Type 0} → Due S O D → UnitDue → Due S O D
after_unit d u = record d { last = last_dc d.last u.0 u.1 }

abbrev pub IsNext : {S O D : Type 0} → SinkKind S O D → UnitDue → ℤ → At S O D → Type 0
IsNext {S} {O} {D} k u last now = (d : Due S O D) × (d.last u.0 ≡ last) × k.due (with_unit d u) now

abbrev pub TakesUnit : {S O D : Type 0} → SinkKind S O D → UnitDue → ℤ → At S O D → Result (Unit {0}) WriteFault → At S O D → Type 0
TakesUnit {S} {O} {D} k u last old result new = (d : Due S O D) → d.last u.0 ≡ last → k.due (with_unit d u) old → Goes k (after_unit d u) result new

-- ENDS of intervals, each but the last one with a restart marker

abbrev pub IsOpen : {S O D : Type 0} → SinkKind S O D → At S O D → Type 0
IsOpen {S} {O} {D} k now = (d : Due S O D) × k.due d now

abbrev pub before_next : {S O D : Type 0} → Due S O D → List UnitDue → Due S O D
before_next d next = record d { rest = []; later = next ∷ d.later }

abbrev pub in_next : {S O D : Type 0} → Due S O D → List UnitDue → Due S O D
in_next d next = record d { number = d.number + 1; last = no_last; rest = next }

abbrev pub at_end : {S O D : Type 0} → Due S O D → Due S O D
at_end d = record d { rest = []; later = [] }

abbrev pub Ends : {S O D : Type 0} → SinkKind S O D → Option ℕ → At S O D → Result (Unit {0}) WriteFault → At S O D → Type 0
Ends {S} {O} {D} k (Some marker) old result new = (d : Due S O D) (next : List UnitDue) → marker ≡ d.number % 8 → k.due (before_next d next) old → Goes k (in_next d next) result new
Ends {S} {O} {D} k None old result new = (d : Due S O D) → k.due (at_end d) old → k.ended d.from d.all result new.out new.desk

-- A SCAN

-- before its first unit all of them are due
abbrev pub first_due : {S O D : Type 0} → At S O D → List (List UnitDue) → List UnitDue → List (List UnitDue) → Due S O D
first_due a all first later = record { from = a; all = all; number = 0; last = no_last; rest = first; later = later }

abbrev pub Begins : {S O D : Type 0} → SinkKind S O D → List (List UnitDue) → At S O D → Type 0
Begins k all now = (first : List UnitDue) (later : List (List UnitDue)) → all ≡ first ∷ later → k.due (first_due now all first later) now

-- the units at places are due, after these DC values
abbrev pub of_places : {S O D : Type 0} → Due S O D → Blocks → List ℤ → List Place → Due S O D
of_places d blocks last places = record d { last = last_in last; rest = units_due blocks (last_in last) places }

abbrev pub IsNextPlace : {S O D : Type 0} → SinkKind S O D → Blocks → List ℤ → Place → At S O D → Type 0
IsNextPlace {S} {O} {D} k blocks last p now = (d : Due S O D) × (places : List Place) × k.due (of_places d blocks last (p ∷ places)) now

abbrev pub TakesPlace : {S O D : Type 0} → SinkKind S O D → Blocks → List ℤ → Place → At S O D → Result (Unit {0}) WriteFault → List ℤ → At S O D → Type 0
TakesPlace {S} {O} {D} k blocks last p old result after new =
    (d : Due S O D) (places : List Place) → k.due (of_places d blocks last (p ∷ places)) old → Goes k (of_places d blocks after places) result new
