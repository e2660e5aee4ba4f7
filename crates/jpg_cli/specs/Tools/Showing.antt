-- HOW DECODING A PICTURE ENDS (the manual of djpeg), by why it ended.
use Rattle.std.specs.Prelude.{◌≡◌, ◌<◌, ℕ, Bool, List, [], length, take, Option, None, Some, Result, Ok, Err}
use Rattle.jpg_base.specs.declared.names.Name.{Name}
use Rattle.jpg_base.specs.declared.names.Put.TheVariants as put
use Rattle.jpg_base.specs.Desk.{DeskState, NotesName, Rose}
use Rattle.jpg_base.specs.Laws.{Grows}
use Rattle.jpg_spec_image.specs.ImageText.{end_text}
use Rattle.jpg_spec.specs.Markers.{Segment}
use Rattle.jpg_spec.specs.Meaning.{Meaning}
use Rattle.jpg_spec.specs.InForce.{colours_after, factors_after, frame_of}
use Rattle.jpg_spec_image.specs.Pixels.{info, out_fault_of, pixels}
use Rattle.jpg_spec_image.specs.RowsShown.{ShowsRows, rows_text}
use Rattle.jpg_spec.specs.RowsParsed.{picture_so_far}
use Rattle.jpg_spec.specs.RowsParsed.{BeginsScanOfAll, TellsRows}
use Rattle.jpg_spec.specs.Scan.{Blocks}
use Rattle.jpg_spec.specs.Segments.{standard_limits}
use Rattle.jpg_spec_words.specs.declared.answers.Why.{Why}
use Rattle.jpg_spec_words.specs.declared.answers.Why.TheVariants as why
use Rattle.jpg_spec_words.specs.declared.answers.Which.TheVariants as which
use Rattle.jpg_spec_image.specs.declared.image.EndKind.{EndKind}
use Rattle.jpg_color.specs.DecodeRows.{picture_text}
use Rattle.jpg_file.specs.declared.read.picture.Picture.{Picture}
use Rattle.jpg_words.specs.declared.djpeg_request.ShowWords.{ShowWords}
use Rattle.jpg_desk.specs.Judging.{done_as}
use Rattle.jpg_desk.specs.ReadPicture.{picture_judging, Image}
use Rattle.jpg_cli.specs.Outcome.{Conversion, Converted, IsSoFar, IsWrittenInTime, ReadsValue, RowTexts, by_rows}
use Rattle.jpg_desk.specs.Writing.{GrowsInPart}

-- which picture is decoded, how, and where its image goes
pub record Showing : Type 0 where
  pub input : Name
  pub output : Name
  pub kind : EndKind
  pub gray : Bool
  pub smooth : Bool

abbrev pub showing_view : ShowWords → Showing
showing_view w = record { input = w.files.input; output = w.files.output; kind = w.kind; gray = w.gray; smooth = w.smooth }

-- OF A COMPLETE PICTURE

-- the text of the image
abbrev pub shown_text : Showing → Meaning → List ℕ
shown_text s M = end_text s.kind (info M s.gray) (pixels M s.gray s.smooth)

-- OF A PICTURE WHOSE MCU ROWS ARE DECODED while it is read

-- A scan of all components of a sequential frame began in these bytes, and its picture can be displayed, in grayscale
-- or not.
pub record IsShownByRows (gray : Bool) (bytes : List ℕ) : Type 0 where
  pub before : List Segment
  pub contents : List ℕ
  pub begins : BeginsScanOfAll standard_limits bytes before contents
  pub shown : out_fault_of (frame_of standard_limits before).precision (colours_after standard_limits before) gray (factors_after standard_limits before) ≡ None

-- The text of all MCU rows that these bytes complete.
abbrev pub IsRowsText : Showing → List ℕ → List ℕ → Type 0
IsRowsText s bytes text = ShowsRows standard_limits s.kind s.gray s.smooth bytes text

-- The text of some first rows, which they determine.
pub record IsToldText (s : Showing) (bytes text : List ℕ) : Type 0 where
  pub begun : IsShownByRows s.gray bytes
  pub rows : ℕ
  pub blocks : Blocks
  pub told : TellsRows standard_limits bytes rows blocks
  pub same : text ≡ rows_text s.kind (picture_so_far standard_limits begun.before begun.contents blocks) s.gray s.smooth rows

abbrev pub row_texts : Showing → RowTexts
row_texts s = record { begin = IsShownByRows s.gray; complete = IsRowsText s; determine = IsToldText s }

-- THE CONVERSION: the text of the image of the picture that the input means, which can be displayed. A sequential file
-- whose first scan has all components is decoded while it is read, another one when it was read completely.
abbrev pub showing_conversion : Showing → Conversion Meaning
showing_conversion s = record {
  before = [];
  input = Some s.input;
  output = s.output;
  judging = picture_judging (Image s.gray);
  fault = λ M. None;
  text = shown_text s;
  right = λ M. Unit {0};
  writing = by_rows (row_texts s);
}

abbrev pub Shown : Showing → DeskState → Why → DeskState → Type 0
Shown s old ended new = Converted (showing_conversion s) old ended new

-- its parts
abbrev pub ReadsShown : Showing → Meaning → Option ℕ → DeskState → DeskState → Type 0
ReadsShown s M early old new = ReadsValue Meaning (showing_conversion s) M early None old new

abbrev pub IsPlain : Bool → (List ℕ → List ℕ) → (List ℕ → Type 0) → List ℕ → Type 0
IsPlain gray upto Is bytes = Is bytes × (IsShownByRows gray (upto bytes) → ⊥)

abbrev pub IsShownUpTo : Showing → (List ℕ → List ℕ) → (List ℕ → Type 0) → List ℕ → List ℕ → Type 0
IsShownUpTo s upto Is text bytes = IsSoFar (row_texts s) upto Is text bytes

abbrev pub IsInTime : Showing → List ℕ → List ℕ → Type 0
IsInTime s bytes written = IsWrittenInTime (row_texts s) bytes written

-- Outputs grew by one of this name, which has a first part of the bytes, and not all.
abbrev pub GrowsByLess : Name → DeskState → List ℕ → DeskState → Type 0
GrowsByLess output old due new = (n : ℕ) × (n < length due) × Grows old.outputs (output, take n due) new.outputs

-- CREATING AND WRITING THE OUTPUT: it has the text, or a first part of it; or it wasn't created.
abbrev pub AfterImage : Name → Option ℕ → DeskState → List ℕ → Why → DeskState → Type 0
AfterImage output early old due why.Done new =
    (early ≡ None) × NotesName old.asked (output, put.Done) new.asked × Grows old.outputs (output, due) new.outputs
AfterImage output early old due (why.Warned n) new =
    (early ≡ Some n) × NotesName old.asked (output, put.Done) new.asked × Grows old.outputs (output, due) new.outputs
AfterImage output early old due (why.OpenFault which.Output) new =
    NotesName old.asked (output, put.Failed) new.asked × Rose old.counts.opens new.counts.opens × (new.outputs ≡ old.outputs)
AfterImage output early old due why.WriteFault new =
    NotesName old.asked (output, put.Done) new.asked × Rose old.counts.writes new.counts.writes × GrowsInPart output old due new
AfterImage output early old due why.NoMemory new = NotesName old.asked (output, put.Done) new.asked × GrowsByLess output old due new
AfterImage output early old due other new = ⊥

-- of this picture, as the words ask for it
abbrev pub AfterPicture : ShowWords → Picture → Option ℕ → DeskState → Why → DeskState → Type 0
AfterPicture w p early old ended new = AfterImage w.files.output early old (picture_text w.kind p w.gray w.smooth) ended new

-- why it ended, if the input ended early after this many bytes or not
abbrev pub shown_as : Result (Unit {0}) Why → Option ℕ → Why
shown_as (Ok u) early = done_as early
shown_as (Err ended) early = ended
