-- DECODING AN INPUT WHILE IT IS READ, step by step (the manual of djpeg): what was read, drawn and written so far.
use Rattle.std.specs.Prelude.{◌≡◌, ℕ, ◌+◌, ◌*◌, ◌<◌, ◌≤◌, Bool, true, false, All, List, [], ◌++◌, length, take, Option, Some, None, Result, Ok, Err}
use Rattle.std.specs.Io.KnownBytes.{Consumes}
use Rattle.jpg_base.specs.declared.names.Name.{Name}
use Rattle.jpg_base.specs.declared.names.Put.TheVariants as put
use Rattle.jpg_base.specs.declared.stop.Stop.{Stop}
use Rattle.jpg_base.specs.declared.stop.Stop.TheVariants as stop
use Rattle.jpg_base.specs.Desk.{DeskState, NotesName, Opens}
use Rattle.jpg_base.specs.Laws.{Grows}
use Rattle.jpg_spec.specs.InForce.{frame_of}
use Rattle.jpg_spec.specs.Markers.{Segment}
use Rattle.jpg_spec.specs.InForce.{colours_after, factors_after}
use Rattle.jpg_spec_image.specs.ImageText.{end_text}
use Rattle.jpg_spec.specs.Meaning.{Meaning}
use Rattle.jpg_spec_image.specs.Pixels.{info, out_fault_of, pixels}
use Rattle.jpg_spec.specs.RowsParsed.{picture_so_far}
use Rattle.jpg_spec_image.specs.RowsShown.{rows_text}
use Rattle.jpg_spec.specs.RowsParsed.{BeginsScanOfAll, TellsRows}
use Rattle.jpg_spec.specs.Scan.{Blocks}
use Rattle.jpg_spec.specs.Elements.{zeros}
use Rattle.jpg_spec.specs.Segments.{standard_limits}
use Rattle.jpg_spec_image.specs.Strips.{mcu_rows}
use Rattle.jpg_spec_words.specs.declared.answers.Why.{Why}
use Rattle.jpg_spec_words.specs.declared.answers.Why.TheVariants as why
use Rattle.jpg_file.specs.Read.ReadFile.{AfterFeedRow, EndsDoneRow, HasReadRows, IsDoneByRows, IsEarlyByRows, ReaderState}
use Rattle.jpg_file.specs.Read.Strips.{HasNoRows}
use Rattle.jpg_file.specs.declared.read.pieces.FedRow.{FedRow}
use Rattle.jpg_file.specs.declared.read.pieces.FedRow.TheVariants as fed
use Rattle.jpg_pnm_bmp.specs.EndState.{EndState, new_end}
use Rattle.jpg_seq.specs.Reader.{rows_in_mcu}
use Rattle.jpg_color.specs.Shown.{rows_made_ready}
use Rattle.jpg_color.specs.StripImage.{Drawing, IsDrawnTo, IsEndOf}
use Rattle.jpg_color.specs.declared.decode.DecodeStop.{DecodeStop}
use Rattle.jpg_color.specs.declared.decode.DecodeStop.TheVariants as decode
use Rattle.jpg_desk.specs.Pump.{FedKind, ReadsPiece, ended_as}
use Rattle.jpg_desk.specs.ReadPicture.{HasFed, HoldsEarly, HoldsFile, IsEarlyRead, IsRefusedRead, IsShortRead, Image}
use Rattle.jpg_desk.specs.Reading.{rest_of}
use Rattle.jpg_cli.specs.Tools.Showing.{IsInTime, IsShownByRows, Showing, Shown, showing_view, shown_text}
use Rattle.jpg_desk.specs.Stays.{OnlyReads, OnlyWorks}
use Rattle.jpg_cli.specs.declared.tools.djpeg.FirstStep.{FirstStep}
use Rattle.jpg_cli.specs.declared.tools.djpeg_rows.FedPiece.{FedPiece}
use Rattle.jpg_cli.specs.declared.tools.djpeg.FirstStep.TheVariants as first
use Rattle.jpg_words.specs.declared.djpeg_request.ShowWords.{ShowWords}

-- UP TO THE FIRST SCAN

-- The reader was fed these bytes, in which no scan of all components began and whose picture isn't unwanted, and goes
-- on.
pub record HasFedPlainly (gray : Bool) (r : ReaderState) (bytes : List ℕ) : Type 0 where
  pub none : r.rows ≡ None
  pub plain : HasNoRows standard_limits bytes
  pub fed : HasFed (Image gray) r bytes

-- It has the complete file, in which none began.
pub record HoldsPlainly (gray : Bool) (r : ReaderState) (bytes : List ℕ) : Type 0 where
  pub none : r.rows ≡ None
  pub plain : HasNoRows standard_limits bytes
  pub holds : HoldsFile (Image gray) r bytes

-- The bytes, this many, ended early, and none began in them. The reader has what they mean.
pub record HoldsEarlyPlainly (gray : Bool) (r : ReaderState) (n : ℕ) (bytes : List ℕ) : Type 0 where
  pub none : r.rows ≡ None
  pub plain : HasNoRows standard_limits bytes
  pub holds : HoldsEarly (Image gray) r n bytes

-- THE HEAD of a picture that is decoded while it is read
pub record Head : Type 0 where
  pub before : List Segment
  pub contents : List ℕ

pub record IsHeadIn (gray : Bool) (h : Head) (bytes : List ℕ) : Type 0 where
  pub begins : BeginsScanOfAll standard_limits bytes h.before h.contents
  pub shown : out_fault_of (frame_of standard_limits h.before).precision (colours_after standard_limits h.before) gray (factors_after standard_limits h.before) ≡ None

-- A reader was fed bytes, of whose scan this many MCU rows were given, and then a piece, with this result. That is all
-- that was read.
pub record HasFedRows (gray : Bool) (h : Head) (all : List ℕ) (m : ℕ) (piece : List ℕ) (answer : Result FedRow Stop) (r : ReaderState) : Type 0 where
  pub fed : List ℕ
  pub cut : all ≡ fed ++ piece
  pub few : length piece ≤ 16384
  pub limits : r.limits ≡ standard_limits
  pub after : AfterFeedRow fed m piece answer r
  pub begun : r.rows ≡ None → ⊥
  pub most : length all ≤ standard_limits.input
  pub small : All (λ b. b < 256) all
  pub short : IsShortRead (Image gray) all
  pub head : IsHeadIn gray h all

-- the result of the first one, before which no such scan began
pub record BeginsShownRows (gray : Bool) (all piece : List ℕ) (answer : Result FedRow Stop) (r : ReaderState) : Type 0 where
  pub head : Head
  pub rows : HasFedRows gray head all 0 piece answer r
  pub none : HasNoRows standard_limits rows.fed
  pub done : EndsDoneRow answer r

abbrev pub AfterFirst : Bool → List ℕ → List ℕ → FirstStep → ReaderState → Type 0
AfterFirst gray bytes piece first.More r = HasFedPlainly gray r (bytes ++ piece)
AfterFirst gray bytes piece first.Whole r = HoldsPlainly gray r (bytes ++ piece)
AfterFirst gray bytes piece (first.Rows answer) r = BeginsShownRows gray (bytes ++ piece) piece answer r
AfterFirst gray bytes piece (first.Ended (why.Refused f)) r =
    ((rest : List ℕ) → IsRefusedRead (Image gray) f rest (bytes ++ piece)) × (IsShownByRows gray (take f.at (bytes ++ piece)) → ⊥)
AfterFirst gray bytes piece (first.Ended why.NoMemory) r = IsShortRead (Image gray) (bytes ++ piece)
AfterFirst gray bytes piece (first.Ended other) r = ⊥

abbrev pub TakesFirst : Bool → ReaderState → List ℕ → FirstStep → ReaderState → Type 0
TakesFirst gray had piece answer r =
    (bytes : List ℕ) → HasFedPlainly gray had bytes → length (bytes ++ piece) ≤ standard_limits.input
    → AfterFirst gray bytes piece answer r

-- what follows from the reader's result, where no rows are read
abbrev pub step_of : Result FedRow Stop → FirstStep
step_of (Ok fed.More) = first.More
step_of (Ok (fed.Row used)) = first.More
step_of (Ok (fed.Done used)) = first.Whole
step_of (Err (stop.Fault f)) = first.Ended (why.Refused f)
step_of (Err stop.NoMemory) = first.Ended why.NoMemory

-- THE DESK

-- The input of this name was opened before.
abbrev pub IsOpened : Name → DeskState → Type 0
IsOpened input start = (old : DeskState) × Opens old input put.Done start

-- Then the output was created, and has this.
pub record HasOpened (s : Showing) (old start : DeskState) (bytes : List ℕ) (now : DeskState) : Type 0 where
  pub opened : Opens old s.input put.Done start
  pub reads : OnlyReads start now
  pub left : Consumes start.left now.left bytes

pub record HasCreated (s : Showing) (old start : DeskState) (bytes written : List ℕ) (now : DeskState) : Type 0 where
  pub opened : Opens old s.input put.Done start
  pub works : OnlyWorks start now
  pub left : Consumes start.left now.left bytes
  pub asked : NotesName start.asked (s.output, put.Done) now.asked
  pub outputs : Grows start.outputs (s.output, written) now.outputs
  pub created : now.output_created ≡ true

-- WHAT IS DRAWN: the first MCU rows of the picture; their text was written, or waits
pub record IsDrawing (s : Showing) (h : Head) (all : List ℕ) (m : ℕ) (written : List ℕ) (d : Drawing) (e : EndState) : Type 0 where
  pub kind : e.kind ≡ s.kind
  pub framed : d.strips.display.frame ≡ frame_of standard_limits h.before
  pub given : d.strips.given ≡ rows_made_ready d.strips.display d.strips.pushed
  pub end : IsEndOf d e
  pub blocks : Blocks
  pub told : TellsRows standard_limits all m blocks
  pub drawn : IsDrawnTo d e (picture_so_far standard_limits h.before h.contents blocks) s.gray s.smooth m
  pub text : written ++ d.out ≡ rows_text s.kind (picture_so_far standard_limits h.before h.contents blocks) s.gray s.smooth m
  pub enough : (k : ℕ) (x : Blocks) → k ≤ m → TellsRows standard_limits all k x
      → length (rows_text s.kind (picture_so_far standard_limits h.before h.contents x) s.gray s.smooth k) ≤ length (written ++ d.out)

-- THE STATE meanwhile: the reader, the image and its writer, and the desk
pub record Work : Type 0 where
  pub reader : ReaderState
  pub image : Drawing
  pub end : EndState
  pub now : DeskState

abbrev pub at_work : ReaderState → Drawing → EndState → DeskState → Work
at_work r d e desk = record { reader = r; image = d; end = e; now = desk }

-- A RUN: the desk before it, and when the input was opened, the head of the picture, and all bytes that were read
pub record Run : Type 0 where
  pub old : DeskState
  pub start : DeskState
  pub head : Head
  pub all : List ℕ

abbrev pub more_read : Run → List ℕ → Run
more_read run piece = record run { all = run.all ++ piece }

-- the picture has the image of this one
abbrev pub IsImageOf : Showing → Meaning → Meaning → Type 0
IsImageOf s P M = end_text s.kind (info P s.gray) (pixels P s.gray s.smooth) ≡ shown_text s M

-- THE STATE in which a result of the reader is handled
pub record IsShowing (s : Showing) (run : Run) (m : ℕ) (piece : List ℕ) (answer : Result FedRow Stop) (w : Work) : Type 0 where
  pub written : List ℕ
  pub read : HasFedRows s.gray run.head run.all m piece answer w.reader
  pub drawing : IsDrawing s run.head run.all m written w.image w.end
  pub desk : HasCreated s run.old run.start run.all written w.now
  pub early : IsInTime s run.all written

-- The reader goes on: all MCU rows that are complete were drawn and written.
pub record HasShown (s : Showing) (run : Run) (m : ℕ) (w : Work) : Type 0 where
  pub written : List ℕ
  pub limits : (w.reader).limits ≡ standard_limits
  pub read : HasReadRows run.all m w.reader
  pub small : All (λ b. b < 256) run.all
  pub head : IsHeadIn s.gray run.head run.all
  pub drawing : IsDrawing s run.head run.all m written w.image w.end
  pub desk : HasCreated s run.old run.start run.all written w.now
  pub out : (w.image).out ≡ []

-- The file is complete, and all its MCU rows were drawn.
pub record HasShownAll (s : Showing) (run : Run) (m : ℕ) (w : Work) : Type 0 where
  pub written : List ℕ
  pub front : List ℕ
  pub rest : List ℕ
  pub cut : run.all ≡ front ++ rest
  pub some : 1 ≤ length front
  pub few : length rest ≤ 16384
  pub limits : (w.reader).limits ≡ standard_limits
  pub done : IsDoneByRows front m w.reader
  pub most : length run.all ≤ standard_limits.input
  pub small : All (λ b. b < 256) run.all
  pub short : IsShortRead (Image s.gray) run.all
  pub head : IsHeadIn s.gray run.head run.all
  pub drawing : IsDrawing s run.head run.all m written w.image w.end
  pub desk : HasCreated s run.old run.start run.all written w.now
  pub early : IsInTime s run.all written

-- The input ended early, after this many bytes, and all MCU rows that are complete were drawn and written.
pub record HasShownEarly (s : Showing) (run : Run) (m n : ℕ) (w : Work) : Type 0 where
  pub written : List ℕ
  pub limits : (w.reader).limits ≡ standard_limits
  pub count : n ≡ length run.all
  pub short : length run.all < standard_limits.input
  pub done : IsEarlyByRows run.all m w.reader
  pub small : All (λ b. b < 256) run.all
  pub head : IsHeadIn s.gray run.head run.all
  pub drawing : IsDrawing s run.head run.all m written w.image w.end
  pub desk : HasCreated s run.old run.start run.all written w.now
  pub early : IsInTime s run.all written
  pub ended : rest_of (w.now).left ≡ []

-- This many MCU rows of the picture that the input means were drawn, also some that it doesn't have. All blocks from
-- `gap` MCU rows further on are zero.
pub record IsEnding (s : Showing) (run : Run) (n gap : ℕ) (d : Drawing) (e : EndState) (now : DeskState) : Type 0 where
  pub rows : ℕ
  pub written : List ℕ
  pub meaning : Meaning
  pub read : IsEarlyRead (Image s.gray) meaning n run.all
  pub short : length run.all < standard_limits.input
  pub head : IsHeadIn s.gray run.head run.all
  pub few : rows ≤ mcu_rows (picture_so_far standard_limits (run.head).before (run.head).contents meaning.blocks)
  pub later : (i x y : ℕ) → (rows + gap) * rows_in_mcu (frame_of standard_limits (run.head).before) i ≤ y → meaning.blocks i x y ≡ zeros 64
  pub kind : e.kind ≡ s.kind
  pub framed : d.strips.display.frame ≡ frame_of standard_limits (run.head).before
  pub given : d.strips.given ≡ rows_made_ready d.strips.display d.strips.pushed
  pub end : IsEndOf d e
  pub drawn : IsDrawnTo d e (picture_so_far standard_limits (run.head).before (run.head).contents meaning.blocks) s.gray s.smooth rows
  pub text : written ++ d.out ≡ rows_text s.kind (picture_so_far standard_limits (run.head).before (run.head).contents meaning.blocks) s.gray s.smooth rows
  pub image : IsImageOf s (picture_so_far standard_limits (run.head).before (run.head).contents meaning.blocks) meaning
  pub desk : HasCreated s run.old run.start run.all written now
  pub early : IsInTime s run.all written
  pub ended : rest_of now.left ≡ []

-- A piece was read, after all MCU rows that were complete had been drawn and written.
pub record ReadsNext (s : Showing) (run : Run) (m : ℕ) (piece : List ℕ) (w : Work) : Type 0 where
  pub before : DeskState
  pub shown : HasShown s run m (record w { now = before })
  pub reads : ReadsPiece before piece w.now
  pub most : length (run.all ++ piece) ≤ standard_limits.input

-- the reader's last result for a piece, all MCU rows of which were drawn and written
abbrev pub AfterLast : Showing → Run → Result FedRow Stop → Work → Type 0
AfterLast s run (Ok fed.More) w = (m : ℕ) × HasShown s run m w
AfterLast s run (Ok (fed.Row used)) w = ⊥
AfterLast s run (Ok (fed.Done used)) w = (m : ℕ) × HasShownAll s run m w
AfterLast s run (Err (stop.Fault f)) w = Shown s run.old (why.Refused f) w.now
AfterLast s run (Err stop.NoMemory) w = ⊥

-- the result of a piece: more is taken, or the image is complete; or why it ends
abbrev pub AfterShownPiece : Showing → Run → Result Bool Why → Work → Type 0
AfterShownPiece s run (Ok false) w = (m : ℕ) × HasShown s run m w
AfterShownPiece s run (Ok true) w = Shown s run.old why.Done w.now
AfterShownPiece s run (Err ended) w = Shown s run.old ended w.now

-- Something was read and drawn before.
abbrev pub CanBegin : Showing → ReaderState → DeskState → Type 0
CanBegin s r now =
    (old start : DeskState) × (all piece : List ℕ) × (answer : Result FedRow Stop) × BeginsShownRows s.gray all piece answer r × HasOpened s old start all now

pub record CanDrawPiece (piece : List ℕ) (answer : Result FedRow Stop) (w : Work) : Type 0 where
  pub asked : Showing
  pub run : Run
  pub rows : ℕ
  pub showing : IsShowing asked run rows piece answer w

pub record CanReadRows (piece : List ℕ) (w : Work) : Type 0 where
  pub asked : Showing
  pub run : Run
  pub rows : ℕ
  pub next : ReadsNext asked run rows piece w

pub record CanEnd (w : Work) : Type 0 where
  pub asked : Showing
  pub run : Run
  pub rows : ℕ
  pub count : ℕ
  pub shown : HasShownEarly asked run rows count w

-- All rows that are missing are zero.
pub record CanEndInZeros (d : Drawing) (e : EndState) (now : DeskState) : Type 0 where
  pub asked : Showing
  pub run : Run
  pub count : ℕ
  pub ending : IsEnding asked run count 0 d e now

-- why it ends
abbrev pub why_of : Result (Unit {0}) DecodeStop → Why
why_of (Ok u) = why.Done
why_of (Err decode.NoMemory) = why.NoMemory
why_of (Err decode.WriteFault) = why.WriteFault

-- if the input ended early, after this many bytes
abbrev pub warned_of : Result (Unit {0}) DecodeStop → ℕ → Why
warned_of (Ok u) n = why.Warned n
warned_of (Err stopped) n = why_of (Err stopped)

-- WHATEVER the state was

-- The image is begun, or why not.
abbrev pub AfterBegin : Showing → Run → List ℕ → Result FedRow Stop → ReaderState → Result Drawing Why → EndState → DeskState → Type 0
AfterBegin s run piece answer r (Ok d) e now = IsShowing s run 0 piece answer (at_work r d e now)
AfterBegin s run piece answer r (Err ended) e now = Shown s run.old ended now

abbrev pub Begins : Showing → ReaderState → DeskState → Result Drawing Why → EndState → DeskState → Type 0
Begins s r s0 result e s1 =
    (old start : DeskState) (all piece : List ℕ) (answer : Result FedRow Stop) (k : BeginsShownRows s.gray all piece answer r) → HasOpened s old start all s0
    → AfterBegin s (record { old = old; start = start; head = k.head; all = all }) piece answer r result e s1

abbrev pub Draws : FedPiece → ReaderState → Drawing → EndState → DeskState → Result Bool Why → ReaderState → Drawing → EndState → DeskState → Type 0
Draws fed r d e s0 result new_r new_d new_e s1 =
    (s : Showing) (run : Run) (m : ℕ) → IsShowing s run m fed.piece.now fed.answer (at_work r d e s0)
    → AfterShownPiece s run result (at_work new_r new_d new_e s1)

abbrev pub DrawsNext : List ℕ → ReaderState → Drawing → EndState → DeskState → Result Bool Why → ReaderState → Drawing → EndState → DeskState → Type 0
DrawsNext piece r d e s0 result new_r new_d new_e s1 =
    (s : Showing) (run : Run) (m : ℕ) → ReadsNext s run m piece (at_work r d e s0)
    → AfterShownPiece s (more_read run piece) result (at_work new_r new_d new_e s1)

abbrev pub FinishesEarly : Work → Result (Unit {0}) DecodeStop → DeskState → Type 0
FinishesEarly w result s1 =
    (s : Showing) (run : Run) (m n : ℕ) → HasShownEarly s run m n w → Shown s run.old (warned_of result n) s1

abbrev pub EndsInZeros : Drawing → EndState → DeskState → Result (Unit {0}) DecodeStop → DeskState → Type 0
EndsInZeros d e s0 result s1 =
    (s : Showing) (run : Run) (n : ℕ) → IsEnding s run n 0 d e s0 → Shown s run.old (warned_of result n) s1

abbrev pub IsLastPiece : Result FedRow Stop → Type 0
IsLastPiece (Ok fed.More) = Unit {0}
IsLastPiece (Ok (fed.Row used)) = ⊥
IsLastPiece (Ok (fed.Done used)) = Unit {0}
IsLastPiece (Err fault) = Unit {0}

-- a further one is complete with this many bytes of the piece, or none is
abbrev pub EndsShownRow : Result FedRow Stop → Option ℕ → Type 0
EndsShownRow answer (Some used) = answer ≡ Ok (fed.Row used)
EndsShownRow answer None = IsLastPiece answer

-- ALL PIECES: what takes them has the words, the reader, the image once it is begun, and its writer
pub record Shower : Type 0 where
  pub words : ShowWords
  pub reader : ReaderState
  pub image : Option Drawing
  pub end : EndState

-- Nothing was done but reading, or all MCU rows that the bytes complete were drawn and written.
abbrev pub HoldsImage : Option Drawing → Showing → DeskState → DeskState → List ℕ → Shower → DeskState → Type 0
HoldsImage None s old start bytes w now = HasFedPlainly s.gray w.reader bytes × (w.end ≡ new_end s.kind) × HasOpened s old start bytes now
HoldsImage (Some d) s old start bytes w now =
    (h : Head) × (m : ℕ) × HasShown s (record { old = old; start = start; head = h; all = bytes }) m (at_work w.reader d w.end now)

-- since the input was opened, whatever desk it was opened on
pub record IsShower (from : Shower × DeskState) (bytes : List ℕ) (now : Shower × DeskState) : Type 0 where
  pub some : IsOpened now.0.words.files.input from.1
  pub same : now.0.words ≡ from.0.words
  pub by_row : now.0.reader.by_row ≡ true
  pub limits : now.0.reader.limits ≡ standard_limits
  pub works : OnlyWorks from.1 now.1
  pub holds : (old : DeskState) → Opens old now.0.words.files.input put.Done from.1 → HoldsImage now.0.image (showing_view now.0.words) old from.1 bytes now.0 now.1

-- the image was written, or why not
pub record EndsShower (from : Shower × DeskState) (answer : Result (Option ℕ) Why) (now : Shower × DeskState) : Type 0 where
  pub same : now.0.words ≡ from.0.words
  pub works : OnlyWorks from.1 now.1
  pub shown : (old : DeskState) → Opens old now.0.words.files.input put.Done from.1 → Shown (showing_view now.0.words) old (ended_as answer) now.1

abbrev pub show_kind : {S : Type 0} → (S → Shower) → FedKind S
show_kind view = record {
  most = λ s. standard_limits.input;
  fed = λ from bytes now. IsShower (view from.0, from.1) bytes (view now.0, now.1);
  ended = λ from answer now. EndsShower (view from.0, from.1) answer (view now.0, now.1);
}
