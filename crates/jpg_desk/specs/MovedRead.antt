-- HOW A PICTURE IS READ that is transformed MCU row by MCU row where rows stay rows (the manual of jpegtran), by its result.
use Rattle.std.specs.Prelude.{◌≡◌, ℕ, ◌≤◌, true, List, [], length, Option, Some, Result, Ok, Err}
use Rattle.std.specs.Io.KnownBytes.{Consumes}
use Rattle.jpg_base.specs.Desk.{DeskState}
use Rattle.jpg_base.specs.declared.names.Name.{Name}
use Rattle.jpg_spec.specs.Geometry.{Frame}
use Rattle.jpg_spec.specs.Meaning.{Meaning, real_blocks}
use Rattle.jpg_spec.specs.Scan.{Blocks}
use Rattle.jpg_spec.specs.Segments.{standard_limits}
use Rattle.jpg_spec.specs.declared.frame.Copying.{Copying}
use Rattle.jpg_spec_move.specs.Moved.{Choice}
use Rattle.jpg_spec_words.specs.declared.answers.Why.{Why}
use Rattle.jpg_spec_words.specs.declared.answers.Why.TheVariants as why
use Rattle.jpg_spec_write.specs.WrittenFile.{HasBlocksIn}
use Rattle.jpg_file.specs.Read.File.{keeping_of}
use Rattle.jpg_file.specs.Read.SegmentState.{kept_for}
use Rattle.jpg_file.specs.Read.PictureRead.{MeansFor}
use Rattle.jpg_file.specs.Read.ReadFile.{ReaderState, HasReadPlainly}
use Rattle.jpg_file.specs.Read.PictureKept.{IsHeadOfPicture}
use Rattle.jpg_file.specs.Write.WriteFile.{IsOfAll, IsSole}
use Rattle.jpg_file.specs.declared.read.pieces.FedRow.{FedRow}
use Rattle.jpg_file.specs.declared.read.picture.Picture.{Picture}
use Rattle.jpg_file.specs.declared.read.strip_head.StripHead.{StripHead}
use Rattle.jpg_transform.specs.Places.{keeps_rows}
use Rattle.jpg_transform.specs.Planned.{IsHeadOf, IsJobFor}
use Rattle.jpg_transform.specs.RowsMoved.{GivesMoved}
use Rattle.jpg_transform.specs.declared.row_mover.RowMover.{RowMover}
use Rattle.jpg_desk.specs.Judging.{IsAllRead, NoValueTaken, TakesPieces}
use Rattle.jpg_desk.specs.MovedRows.{IsMovedRows}
use Rattle.jpg_desk.specs.ReadPicture.{EndsReading, IsReadPicture, PictureRead, picture_judging, Coefficients}
use Rattle.jpg_desk.specs.RowsRead.{HasRows, Head, IsHeadAt, IsInPiece}
use Rattle.jpg_desk.specs.RowsTo.{HaveAllMoved}
use Rattle.jpg_desk.specs.Stays.{OnlyReads}
use Rattle.jpg_desk.specs.declared.moved_rows.MovedInput.{MovedInput}
use Rattle.jpg_desk.specs.declared.moved_rows.MovedInput.TheVariants as input
use Rattle.jpg_desk.specs.declared.moved_rows.RowJob.{RowJob}
use Rattle.jpg_desk.specs.declared.moved_rows.RowsData.{RowsData}
use Rattle.jpg_desk.specs.declared.rows_read.RowsFront.{RowsFront}
use Rattle.jpg_desk.specs.declared.rows_read.RowsRead.{RowsRead}
use Rattle.jpg_desk.specs.declared.rows_to.RowsTo.{RowsTo}
use Rattle.jpg_desk.specs.declared.rows_to.RowsTo.TheVariants as to

-- WHAT WAS READ: this picture, or the file of it transformed for a choice
abbrev pub IsInputOf : Choice → Picture → MovedInput → Type 0
IsInputOf choice p (input.Picture q) = q ≡ p
IsInputOf choice p (input.Rows r) = IsMovedRows choice p r

-- THE RESULTS: some picture was read, and there is that or the file of it
abbrev pub MovedRead : Choice → Name → DeskState → Result (MovedInput × Option ℕ) Why → DeskState → Type 0
MovedRead choice file old (Ok found) new = (p : Picture) × IsInputOf choice p found.0 × PictureRead Coefficients choice.copying file old (Ok (p, found.1)) new
MovedRead choice file old (Err w) new = PictureRead Coefficients choice.copying file old (Err w) new

-- from a desk whose input is open
abbrev pub EndsMoved : Choice → DeskState → Result (MovedInput × Option ℕ) Why → DeskState → Type 0
EndsMoved choice old (Ok found) new = (p : Picture) × IsInputOf choice p found.0 × EndsReading Coefficients choice.copying old (Ok (p, found.1)) new
EndsMoved choice old (Err w) new = EndsReading Coefficients choice.copying old (Err w) new

-- A READER that was given nothing yet
pub record IsNewReader (keeping : Copying) (r : ReaderState) : Type 0 where
  pub read : HasReadPlainly [] r
  pub limits : r.limits ≡ standard_limits
  pub keeps : keeping_of r.file ≡ keeping
  pub in_rows : r.in_rows ≡ true

-- WHERE ROWS BEGAN: those of a picture with this head, in the last of the pieces that were read since the input was opened
pub record HasBegun (keeping : Copying) (h : StripHead) (front : RowsFront) (start now : DeskState) : Type 0 where
  pub kept : OnlyReads start now
  pub limits : ((front.reader).value).limits ≡ standard_limits
  pub in_rows : ((front.reader).value).in_rows ≡ true
  pub keeps : keeping_of ((front.reader).value).file ≡ keeping
  pub bytes : List ℕ
  pub read : Consumes start.left now.left bytes
  pub most : length bytes ≤ standard_limits.input
  pub head : Head
  pub told : IsHeadAt head (Some h)
  pub at : IsInPiece head bytes 0 front.piece front.answer (front.reader).value
  pub some : (x : FedRow) × (front.answer ≡ Ok x)

abbrev pub CanGoOn : Copying → StripHead → RowsFront → DeskState → Type 0
CanGoOn keeping h front now = (start : DeskState) × HasBegun keeping h front start now

-- the result from there on
abbrev pub MovesFrom : Choice → StripHead → RowsFront → DeskState → Result (MovedInput × Option ℕ) Why → DeskState → Type 0
MovesFrom choice h front old result new = (start : DeskState) → HasBegun choice.copying h front start old → OnlyReads start new × EndsMoved choice start result new

-- HOW A PICTURE WITH THIS HEAD IS WRITTEN
pub record IsRowJob (h : StripHead) (choice : Choice) (r : RowJob) : Type 0 where
  pub planned : (p : Picture) → IsHeadOf h p → IsJobFor p choice (r.job)
  pub sole : IsSole (r.job).plan (r.scan).value
  pub stays : keeps_rows (r.job).transform ≡ true
  pub all : IsOfAll ((r.job).plan).out.frame (r.scan).value

-- there is a picture with this head
pub record IsSomeHead (h : StripHead) : Type 0 where
  pub meaning : Meaning
  pub is : IsHeadOfPicture h meaning
  pub range : HasBlocksIn h.frame meaning.blocks

-- WHERE ALL ROWS WENT
pub record HasAllRows (keeping : Copying) (h : StripHead) (goal : RowsTo) (start : DeskState) (rows : RowsRead) (early : Option ℕ) (new : DeskState) : Type 0 where
  pub from : RowsRead
  pub head : (from.head).now ≡ h
  pub same : from.to ≡ goal
  pub keeps : keeping_of ((from.reader).value).file ≡ keeping
  pub taken : TakesPieces (λ bytes. HasRows from early bytes rows) start new
  pub all : IsAllRead early new

abbrev pub AfterRows : Copying → StripHead → RowsTo → DeskState → Result (RowsRead × Option ℕ) Why → DeskState → Type 0
AfterRows keeping h goal start (Ok found) new = HasAllRows keeping h goal start found.0 found.1 new
AfterRows keeping h goal start (Err w) new = NoValueTaken (picture_judging Coefficients) start w new

abbrev pub ReadsRows : StripHead → RowsFront → RowsTo → DeskState → Result (RowsRead × Option ℕ) Why → DeskState → Type 0
ReadsRows h front goal old result new =
    (keeping : Copying) (start : DeskState) → HasBegun keeping h front start old → OnlyReads start new × AfterRows keeping h goal start result new

-- in a picture
abbrev pub IsKept : RowsTo → Type 0
IsKept (to.Moved job scan mover) = ⊥
IsKept (to.Kept picture) = Unit {0}

pub record HasKeptRows (rows : RowsRead) : Type 0 where
  pub from : RowsRead
  pub early : Option ℕ
  pub bytes : List ℕ
  pub has : HasRows from early bytes rows
  pub kept : IsKept rows.to

abbrev pub IsKeptPicture : RowsRead → Picture → Type 0
IsKeptPicture rows p = (from : RowsRead) (early : Option ℕ) (bytes : List ℕ) (h : HasRows from early bytes rows) → MeansFor (keeping_of ((from.reader).value).file) p h.meaning

-- or in the data of the output's scan
pub record HasData (keeping : Copying) (h : StripHead) (job : RowJob) (start : DeskState) (r : RowsData) (new : DeskState) : Type 0 where
  pub meaning : Meaning
  pub taken : TakesPieces (IsReadPicture Coefficients meaning r.early) start new
  pub short : NoValueTaken (picture_judging Coefficients) start why.NoMemory new
  pub all : IsAllRead r.early new
  pub done : ((r.reader).value).done ≡ true
  pub kept : ((r.reader).value).file.items.held.kept ≡ (kept_for keeping meaning).kept
  pub head : IsHeadOfPicture h meaning
  pub real : real_blocks h.frame meaning.blocks ≡ meaning.blocks
  pub mover : RowMover
  pub moved : HaveAllMoved h.frame job.job (job.scan).value meaning.blocks mover
  pub gives : GivesMoved mover r.data

abbrev pub AfterData : Copying → StripHead → RowJob → DeskState → Result RowsData Why → DeskState → Type 0
AfterData keeping h job start (Ok found) new = HasData keeping h job start found new
AfterData keeping h job start (Err w) new = NoValueTaken (picture_judging Coefficients) start w new

abbrev pub TakesData : StripHead → RowsFront → RowJob → DeskState → Result RowsData Why → DeskState → Type 0
TakesData h front job old result new =
    (keeping : Copying) (start : DeskState) → HasBegun keeping h front start old → OnlyReads start new × AfterData keeping h job start result new

-- the data of all rows that were moved
abbrev pub HasMovedAll : RowsTo → Type 0
HasMovedAll (to.Moved job scan mover) = (f : Frame) × (blocks : Blocks) × HaveAllMoved f job.now scan.now blocks mover
HasMovedAll (to.Kept picture) = ⊥

abbrev pub GivesData : RowsTo → List ℕ → Type 0
GivesData (to.Moved job scan mover) text = GivesMoved mover text
GivesData (to.Kept picture) text = ⊥
