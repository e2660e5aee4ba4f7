-- HOW MANY SCANS' DATA HAVE ENDED in bytes that have no fault: each ends with the marker after it (T.81, B.1.1.2, B.2.1).
use Rattle.std.specs.Prelude.{◌≡◌, ◌⊎◌, ℕ, false, List, [], ◌∷◌, replicate, ◌+◌, ◌<◌, ◌≤◌, true, ◌++◌, length, take, Result, Ok, Err}
use Rattle.jpg_spec.specs.Items.{Item, segments_of, ends_in_scan}
use Rattle.jpg_spec.specs.FirstFault.{AfterItems, InsideScan}
use Rattle.jpg_spec.specs.ScanReading.{LeadingMarker}
use Rattle.jpg_spec.specs.UnfinishedFile.{PartOfItem}
use Rattle.jpg_spec.specs.declared.frame.Limits.{Limits}
use Rattle.jpg_file.specs.Read.SegmentState.{scan_headers}
use Rattle.jpg_base.specs.declared.stop.Stop.{Stop}
use Rattle.jpg_base.specs.declared.stop.Stop.TheVariants as stop
use Rattle.jpg_file.specs.Read.ReadFile.{AfterFeed, AsksForMemory, HasRead, IsDone, ReaderState}
use Rattle.jpg_file.specs.declared.read.pieces.FedScan.{FedScan}
use Rattle.jpg_file.specs.declared.read.pieces.FedScan.TheVariants as came

-- The bytes are complete items, the data of each scan among them ended, and a part of a further item.
pub record EndedBetween (limits : Limits) (bytes : List ℕ) (n : ℕ) : Type 0 where
  pub items : List Item
  pub tail : List ℕ
  pub behind : AfterItems limits bytes items tail
  pub part : PartOfItem items tail
  pub begun : (ends_in_scan items ≡ false) ⊎ LeadingMarker tail
  pub count : n ≡ scan_headers (segments_of items)

-- They end inside the data of a further scan, or with FF bytes after them.
pub record EndedBefore (limits : Limits) (bytes : List ℕ) (n : ℕ) : Type 0 where
  pub fill : ℕ
  pub inside : InsideScan limits bytes (replicate fill 255)
  pub count : n ≡ scan_headers (segments_of inside.items)

-- In the bytes the data of n scans have ended.
abbrev pub ScansEnded : Limits → List ℕ → ℕ → Type 0
ScansEnded limits bytes n = (((bytes ≡ []) ⊎ (bytes ≡ 255 ∷ [])) × (n ≡ 0)) ⊎ (EndedBetween limits bytes n ⊎ EndedBefore limits bytes n)

-- A PIECE that is read up to the end of a scan's data, where no MCU rows are read (T.81, B.1.1, B.2.1).

-- As many scans' data have ended in the bytes as in these and so many of the piece: none end between.
pub record NoScanEnds (limits : Limits) (bytes piece : List ℕ) (early : ℕ) : Type 0 where
  pub n : ℕ
  pub few : early ≤ length piece
  pub before : ScansEnded limits bytes n
  pub after : ScansEnded limits (bytes ++ take early piece) n

-- none end before the last one of so many bytes of the piece
abbrev pub LastEnds : Limits → List ℕ → List ℕ → ℕ → Type 0
LastEnds limits bytes piece used = (early : ℕ) × (used ≡ early + 1) × NoScanEnds limits bytes piece early

-- and with the last one further data have ended
pub record ScanEnds (limits : Limits) (bytes piece : List ℕ) (used : ℕ) : Type 0 where
  pub early : ℕ
  pub count : used ≡ early + 1
  pub within : used ≤ length piece
  pub none : NoScanEnds limits bytes piece early
  pub more : ℕ
  pub ended : ScansEnded limits (bytes ++ take used piece) more
  pub later : none.n < more

-- THE RESULT of a piece that is fed, by all bytes so far
abbrev pub AfterFeedScan : List ℕ → List ℕ → Result FedScan Stop → ReaderState → Type 0
AfterFeedScan bytes piece (Ok came.More) r = HasRead (bytes ++ piece) r × NoScanEnds r.limits bytes piece (length piece)
AfterFeedScan bytes piece (Ok (came.Scan used)) r = HasRead (bytes ++ take used piece) r × ScanEnds r.limits bytes piece used
AfterFeedScan bytes piece (Ok (came.Done used)) r = IsDone (bytes ++ take used piece) r × (used ≤ length piece) × LastEnds r.limits bytes piece used
AfterFeedScan bytes piece (Err (stop.Fault f)) r =
    AfterFeed bytes piece (Err (stop.Fault f)) r × ((early : ℕ) × (f.at ≤ length bytes + early + 1) × NoScanEnds r.limits bytes piece early)
AfterFeedScan bytes piece (Err stop.NoMemory) r = AfterFeed bytes piece (Err stop.NoMemory) r

-- for all bytes that were fed before
abbrev pub FeedsScan : ReaderState → List ℕ → Result FedScan Stop → ReaderState → Type 0
FeedsScan old piece answer new = (bytes : List ℕ) → HasRead bytes old → AfterFeedScan bytes piece answer new

-- if its result is NoMemory
abbrev pub AsksOnFeedScan : ReaderState → List ℕ → Result FedScan Stop → ReaderState → Type 0
AsksOnFeedScan old piece answer new =
    (bytes : List ℕ) → HasRead bytes old → answer ≡ Err stop.NoMemory → AsksForMemory new.limits (length bytes) (bytes ++ piece) new.file.head

-- the word that keeps `done`, and how many bytes were used
abbrev pub EndsDoneScan : List ℕ → Result FedScan Stop → ReaderState → Type 0
EndsDoneScan piece (Ok came.More) r = r.done ≡ false
EndsDoneScan piece (Ok (came.Scan used)) r = (r.done ≡ false) × (1 ≤ used) × (used ≤ length piece)
EndsDoneScan piece (Ok (came.Done used)) r = (r.done ≡ true) × (1 ≤ used) × (used ≤ length piece)
EndsDoneScan piece (Err e) r = r.done ≡ false
