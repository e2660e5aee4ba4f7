-- THE UNITS OF A SCAN THAT ARE LEFT, while they are given to a sink one after another (T.81, A.2.2 to A.2.4, E.1.4).
use Rattle.std.specs.Prelude.{◌≡◌, ℕ, ◌+◌, ◌*◌, ◌<◌, ◌≤◌, ◌==◌, ◌%◌, if◌then◌else◌, true, List, [], ◌∷◌, length, take, drop, map, All, ℤ, pos, Result, Ok, Err}
use Rattle.jpg_spec.specs.Lists.{chunks_of}
use Rattle.jpg_spec.specs.Geometry.{Frame, units, mcu_units}
use Rattle.jpg_spec.specs.Segments.{ScanHead, head_components}
use Rattle.jpg_spec.specs.Scan.{Blocks, block_at}
use Rattle.jpg_spec.specs.declared.frame.Place.{Place}
use Rattle.jpg_spec_write.specs.ScanText.{UnitDue, units_due}
use Rattle.jpg_base.specs.declared.stop.WriteFault.{WriteFault}
use Rattle.jpg_coefs.specs.Sinks.{At, Due, IsScanPlace, SinkKind, TakesPlace, intervals_due, last_in, no_last, of_places}
use Rattle.jpg_coefs.specs.declared.intervals.NextUnits.{NextUnits}
use Rattle.jpg_coefs.specs.declared.intervals.ScanUnits.{ScanUnits}

-- A SCAN THAT IS BEGUN: what takes its units, in what state, all of them by intervals, the blocks, and how many units an
-- interval has
pub record Begun (S O D : Type 0) : Type 1 where
  pub kind : SinkKind S O D
  pub from : At S O D
  pub all : List (List UnitDue)
  pub blocks : Blocks
  pub each : ℕ

-- Where it stands: the last DC values, how many units of the interval are left, the number of its restart marker, the
-- places that are left, and the state.
pub record Spot (S O D : Type 0) : Type 0 where
  pub last : List ℤ
  pub count : ℕ
  pub turn : ℕ
  pub cursor : List Place
  pub now : At S O D

-- the intervals of these places, after a number of others
abbrev pub later_due : {S O D : Type 0} → Begun S O D → ℕ → ℕ → List Place → Due S O D
later_due w number most places =
    record { from = w.from; all = w.all; number = number; last = no_last; rest = []; later = map (units_due w.blocks no_last) (chunks_of most w.each places) }

abbrev pub left_due : {S O D : Type 0} → Begun S O D → ℕ → ℕ → Spot S O D → Due S O D
left_due w number most s = of_places (later_due w number most (drop s.count s.cursor)) w.blocks s.last (take s.count s.cursor)

-- What is left of the places: some of this interval, and the others, after `number` intervals.
pub record IsLeft {S O D : Type 0} (w : Begun S O D) (s : Spot S O D) : Type 0 where
  pub number : ℕ
  pub most : ℕ
  pub enough : length (drop s.count s.cursor) ≤ most
  pub turn_is : s.turn ≡ number % 8
  pub due : w.kind.due (left_due w number most s) s.now

-- WHILE units are given: the places left are some of the scan's, and at least one of them is of this interval
pub record IsGoing {S O D : Type 0} (f : Frame) (head : ScanHead) (w : Begun S O D) (s : Spot S O D) (left : ℕ) : Type 0 where
  pub work : IsLeft w s
  pub number : left ≡ length s.cursor
  pub some : 1 ≤ left
  pub size : 1 ≤ w.each
  pub due : 1 ≤ s.count
  pub places : All (IsScanPlace f head) s.cursor
  pub few : length f.components ≤ 4
  pub four : length s.last ≡ 4
  pub turn : s.turn < 8

-- BY CALLS: a scan that was begun by some call, of these blocks, of which each call has a view

-- the same but for what takes the units
pub record GivenScan (S O D : Type 0) : Type 0 where
  pub frame : Frame
  pub head : ScanHead
  pub from : At S O D
  pub all : List (List UnitDue)
  pub blocks : Blocks
  pub each : ℕ

abbrev pub begun_of : {S O D : Type 0} → SinkKind S O D → GivenScan S O D → Begun S O D
begun_of k g = record { kind = k; from = g.from; all = g.all; blocks = g.blocks; each = g.each }

abbrev pub spot_of : {S O D : Type 0} → ScanUnits → At S O D → Spot S O D
spot_of u now = record { last = u.last; count = u.due; turn = u.turn; cursor = u.cursor; now = now }

-- units are left to be given
pub record IsGiven {S O D : Type 0} (k : SinkKind S O D) (g : GivenScan S O D) (u : ScanUnits) (now : At S O D) : Type 0 where
  pub going : IsGoing g.frame g.head (begun_of k g) (spot_of u now) u.left
  pub each : u.each ≡ g.each

-- At a place, if it is of a real block, both have the same block.
abbrev pub AgreeAt : Blocks → Blocks → Place → Type 0
AgreeAt blocks others p = p.real ≡ true → block_at blocks p ≡ block_at others p

-- the unit at a place is taken, for all blocks that agree with these there
abbrev pub TakesPlaceOf : {S O D : Type 0} → SinkKind S O D → Blocks → List ℤ → Place → At S O D → Result (Unit {0}) WriteFault → List ℤ → At S O D → Type 0
TakesPlaceOf k others last place old result after new = (blocks : Blocks) → AgreeAt blocks others place → TakesPlace k blocks last place old result after new

-- This many of them may be given, of a view with these numbers and blocks: it has the scan's blocks at their places.
pub record CanGive {S O D : Type 0} (k : SinkKind S O D) (g : GivenScan S O D) (f : Frame) (others : Blocks) (count : ℕ) (u : ScanUnits) (now : At S O D) : Type 0 where
  pub given : IsGiven k g u now
  pub frame : g.frame ≡ f
  pub same : All (AgreeAt g.blocks others) (take count u.cursor)

-- So many were given, of so many that were left: others are left, or the scan is complete; or a fault ended it.
pub record GoesOnOrEnds {S O D : Type 0} (k : SinkKind S O D) (g : GivenScan S O D) (count left : ℕ) (u : ScanUnits) (now : At S O D) : Type 0 where
  pub goes_on : count < left → IsGiven k g u now × (u.left + count ≡ left)
  pub ends : count ≡ left → k.ended g.from g.all (Ok tt) now.out now.desk

abbrev pub AfterGiving : {S O D : Type 0} → SinkKind S O D → GivenScan S O D → ℕ → ℕ → Result (Unit {0}) WriteFault → ScanUnits → At S O D → Type 0
AfterGiving k g count left (Ok done) u now = GoesOnOrEnds k g count left u now
AfterGiving k g count left (Err fault) u now = k.ended g.from g.all (Err fault) now.out now.desk

-- of each scan of which they may be given
abbrev pub GivesUnits : {S O D : Type 0} → SinkKind S O D → Frame → Blocks → ℕ → ScanUnits → At S O D → Result (Unit {0}) WriteFault → ScanUnits → At S O D → Type 0
GivesUnits {S} {O} {D} k f others count old from result new now =
    (g : GivenScan S O D) → CanGive k g f others count old from → AfterGiving k g count old.left result new now

-- The next units are given, of a view whose numbers and blocks are known.
abbrev pub GivesNext : {S O D V : Type 0} → SinkKind S O D → (V → Frame) → (V → Blocks) → NextUnits V → ScanUnits → At S O D → Result (Unit {0}) WriteFault → ScanUnits → At S O D → Type 0
GivesNext k numbers blocks next old from result new now = GivesUnits k (numbers next.view.now) (blocks next.view.now) next.count old from result new now

-- BEFORE THE FIRST UNIT: all places are left, `each` units an interval (all of them for an interval of 0 MCUs).
abbrev pub no_dc : List ℤ
no_dc = pos 0 ∷ pos 0 ∷ pos 0 ∷ pos 0 ∷ []

abbrev pub units_each : Frame → ScanHead → ℕ → ℕ
units_each f head interval =
    (let most = interval * mcu_units f (head_components head) in if most == 0 then length (units f (head_components head)) else most)

pub record IsUngiven (f : Frame) (head : ScanHead) (interval : ℕ) (u : ScanUnits) : Type 0 where
  pub cursor : u.cursor ≡ units f (head_components head)
  pub left : u.left ≡ length (units f (head_components head))
  pub each : u.each ≡ units_each f head interval
  pub due : u.due ≡ u.each
  pub turn : u.turn ≡ 0
  pub last : u.last ≡ no_dc

-- a scan of these blocks that begins in some state
abbrev pub new_scan : {S O D : Type 0} → Frame → ScanHead → ℕ → Blocks → At S O D → GivenScan S O D
new_scan f head interval blocks now = record { frame = f; head = head; from = now; all = intervals_due f head interval blocks; blocks = blocks; each = units_each f head interval }
