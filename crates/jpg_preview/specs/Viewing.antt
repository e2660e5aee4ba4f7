-- A PREVIEW of a file that is fed piece by piece: what it means where its front ends (T.81, B.2.1).
use Rattle.std.specs.Prelude.{◌≡◌, ◌⊎◌, ℕ, suc, ◌<◌, ◌≤◌, true, false, List, ◌++◌, length, take, Option, Some, None, Result, Ok, Err}
use Rattle.jpg_spec.specs.FrameHeader.{AreLimits}
use Rattle.jpg_spec.specs.FirstFault.{HaveBegun}
use Rattle.jpg_spec.specs.declared.fault.FaultAt.{FaultAt}
use Rattle.jpg_spec.specs.declared.frame.Limits.{Limits}
use Rattle.jpg_spec_image.specs.Front.{EndsNotBefore, EndsScan, IsFront}
use Rattle.jpg_base.specs.declared.stop.Fed.{Fed}
use Rattle.jpg_base.specs.declared.stop.Fed.TheVariants as fed
use Rattle.jpg_base.specs.declared.stop.Stop.{Stop}
use Rattle.jpg_base.specs.declared.stop.Stop.TheVariants as stop
use Rattle.jpg_file.specs.Read.ReadFile.{HasRead, IsDone, IsEarlyEnd, IsRefusal, KeepsHead, KeepsHeadAt, ReaderState, IsPlain}
use Rattle.jpg_file.specs.Read.ScanPieces.{ScansEnded}
use Rattle.jpg_file.specs.declared.read.ends.End.{End}
use Rattle.jpg_file.specs.declared.read.ends.End.TheVariants as ends

-- what contracts see of a preview: its reader, how many scans are wanted, and why it stopped, if it did
pub record PreviewState : Type 0 where
  pub reader : ReaderState
  pub scans : ℕ
  pub stop : Option Stop

-- whatever it was fed
pub record IsReady (p : PreviewState) : Type 0 where
  pub limited : AreLimits p.reader.limits
  pub plain : IsPlain p.reader

-- THE BYTES SO FAR have no fault, aren't a complete file, and don't end with the marker after a scan that is wanted,
-- nor do fewer of them. This is what a reader makes of them.
pub record Views (scans : ℕ) (bytes : List ℕ) (r : ReaderState) : Type 0 where
  pub read : HasRead bytes r
  pub none : EndsNotBefore r.limits scans bytes (suc (length bytes))

abbrev pub HasViewed : List ℕ → PreviewState → Type 0
HasViewed bytes p = (p.stop ≡ None) × Views p.scans bytes p.reader

-- THE FRONT is there: the bytes are a complete file, or end with the marker after a scan that is wanted, and fewer
-- don't. The reader has what they mean: as a complete file, or as one that ends early there.
pub record IsShown (scans : ℕ) (bytes : List ℕ) (r : ReaderState) : Type 0 where
  pub meaning : IsDone bytes r ⊎ (IsEarlyEnd bytes r × EndsScan r.limits scans bytes)
  pub first : EndsNotBefore r.limits scans bytes (length bytes)

-- THE STOP: the first fault of the front, whatever follows
abbrev pub StopsFront : Limits → ℕ → List ℕ → FaultAt → Type 0
StopsFront limits scans bytes f = (rest front : List ℕ) → IsFront limits scans (bytes ++ rest) front → IsRefusal limits front f

-- a fault after so many bytes, or no memory
abbrev pub AfterStop : ℕ → ℕ → List ℕ → Stop → ReaderState → Type 0
AfterStop scans before bytes (stop.Fault f) r = StopsFront r.limits scans bytes f × (before < f.at) × KeepsHeadAt r.limits bytes f r.file.head
AfterStop scans before bytes stop.NoMemory r = KeepsHead r.limits before bytes r.file.head

-- THE RESULT of a piece that is fed, by all bytes so far
abbrev pub AfterPiece : ℕ → List ℕ → List ℕ → Result Fed Stop → ReaderState → Type 0
AfterPiece scans bytes piece (Ok fed.More) r = Views scans (bytes ++ piece) r
AfterPiece scans bytes piece (Ok (fed.Done used)) r = IsShown scans (bytes ++ take used piece) r × (1 ≤ used) × (used ≤ length piece)
AfterPiece scans bytes piece (Err stop) r = AfterStop scans (length bytes) (bytes ++ piece) stop r

abbrev pub ViewsPiece : ℕ → ReaderState → List ℕ → Result Fed Stop → ReaderState → Type 0
ViewsPiece scans old piece answer new = (bytes : List ℕ) → Views scans bytes old → AfterPiece scans bytes piece answer new

-- of a preview
abbrev pub AfterView : List ℕ → List ℕ → Result Fed Stop → PreviewState → Type 0
AfterView bytes piece (Ok fed.More) p = HasViewed (bytes ++ piece) p
AfterView bytes piece (Ok (fed.Done used)) p = IsShown p.scans (bytes ++ take used piece) p.reader × (1 ≤ used) × (used ≤ length piece)
AfterView bytes piece (Err stop) p = AfterStop p.scans (length bytes) (bytes ++ piece) stop p.reader

-- for all bytes that were fed before
abbrev pub ViewsFile : PreviewState → List ℕ → Result Fed Stop → PreviewState → Type 0
ViewsFile old piece answer new = (bytes : List ℕ) → HasViewed bytes old → AfterView bytes piece answer new

-- where the file ends
abbrev pub EndsView : End → PreviewState → Type 0
EndsView (ends.Early n) p = p.reader.done ≡ true
EndsView (ends.Stop stop) p = (p.reader.done ≡ false) × (p.stop ≡ Some stop)

-- NO MEMORY is the answer only where the reader didn't stop for a fault.
abbrev pub HasNoFaultYet : Option Stop → Type 0
HasNoFaultYet None = Unit {0}
HasNoFaultYet (Some (stop.Fault f)) = ⊥
HasNoFaultYet (Some stop.NoMemory) = Unit {0}

abbrev pub LacksMemory : Stop → ReaderState → Type 0
LacksMemory (stop.Fault f) r = Unit {0}
LacksMemory stop.NoMemory r = HasNoFaultYet r.stop

abbrev pub PieceLacks : Result Fed Stop → ReaderState → Type 0
PieceLacks (Ok fed) r = Unit {0}
PieceLacks (Err stop) r = LacksMemory stop r

-- WHERE THE DATA of a scan ended: so many scans' have, or fewer

abbrev pub HasScans : ℕ → Limits → List ℕ → Type 0
HasScans scans limits bytes = (n : ℕ) × ScansEnded limits bytes n × (scans ≤ n)

abbrev pub LacksScans : ℕ → Limits → List ℕ → Type 0
LacksScans scans limits bytes = (n : ℕ) × ScansEnded limits bytes n × (n < scans)

-- the scan is wanted, and each component has begun
abbrev pub IsWanted : ℕ → ReaderState → Type 0
IsWanted scans r = (bytes : List ℕ) → HasRead bytes r → HasScans scans r.limits bytes × HaveBegun r.limits bytes

abbrev pub IsUnwanted : ℕ → ReaderState → Type 0
IsUnwanted scans r = (bytes : List ℕ) → HasRead bytes r → LacksScans scans r.limits bytes ⊎ (HaveBegun r.limits bytes → ⊥)

-- The file ends early there, if each component has begun. No stop comes.
abbrev pub AfterEarly : List ℕ → ℕ → Result Fed Stop → ReaderState → Type 0
AfterEarly bytes used (Ok fed.More) r = ⊥
AfterEarly bytes used (Ok (fed.Done n)) r = (n ≡ used) × IsEarlyEnd bytes r
AfterEarly bytes used (Err stop) r = ⊥

abbrev pub EndsThere : ReaderState → ℕ → Result Fed Stop → ReaderState → Type 0
EndsThere old used answer new = (bytes : List ℕ) → HasRead bytes old → HaveBegun old.limits bytes → AfterEarly bytes used answer new

-- THE FRONT OF THE FILE, whatever follows the bytes that are shown: these; or all bytes, where they are a complete file
-- and none end with the marker after a scan that is wanted.
abbrev pub IsFrontOf : ℕ → List ℕ → List ℕ → List ℕ → ReaderState → Type 0
IsFrontOf scans bytes rest front r = (front ≡ bytes) ⊎ ((front ≡ bytes ++ rest) × IsDone bytes r)

abbrev pub ShowsFront : ℕ → List ℕ → ReaderState → Type 0
ShowsFront scans bytes r = (rest front : List ℕ) → IsFront r.limits scans (bytes ++ rest) front → IsFrontOf scans bytes rest front r

-- It has one: these bytes, or all bytes, where these are a complete file.
abbrev pub HasFront : ℕ → List ℕ → List ℕ → ReaderState → Type 0
HasFront scans bytes rest r = IsFront r.limits scans (bytes ++ rest) bytes ⊎ (IsDone bytes r × IsFront r.limits scans (bytes ++ rest) (bytes ++ rest))
