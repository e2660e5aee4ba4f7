-- HOW ENCODING AN IMAGE ENDS (the manual of cjpeg), by why it ended.
use Rattle.std.specs.Prelude.{◌≡◌, ◌⊎◌, Bool, List, ◌++◌, Option, Some}
use Rattle.jpg_base.specs.declared.names.Name.{Name}
use Rattle.jpg_base.specs.Desk.{DeskState}
use Rattle.jpg_spec_encode.specs.Encoded.{Encoding, encode_fault, encoded, encoded_text}
use Rattle.jpg_spec_words.specs.EncodeWords.{EncodeAsked, encoding_asked}
use Rattle.jpg_spec.specs.FileMeaning.{Means}
use Rattle.jpg_spec_image.specs.Images.{Image}
use Rattle.jpg_spec_write.specs.ScansAsked.{Scans}
use Rattle.jpg_spec.specs.Segments.{QuantTable, standard_limits}
use Rattle.jpg_spec_words.specs.declared.answers.Why.{Why}
use Rattle.jpg_spec_words.specs.declared.answers.Why.TheVariants as why
use Rattle.jpg_words.specs.Commands.{name_of}
use Rattle.jpg_desk.specs.Endings.{GoesOnAfter}
use Rattle.jpg_desk.specs.ReadImage.{image_judging}
use Rattle.jpg_cli.specs.Outcome.{Conversion, Converted, at_end}
use Rattle.jpg_desk.specs.ScriptTaken.{HasScans, StopsAtScans, names_before}
use Rattle.jpg_desk.specs.Stays.{Untouched}
use Rattle.jpg_desk.specs.TablesTaken.{HasTables, StopsAtTables, tables_names}

-- which image is encoded, whether its file is a Targa file, how it is encoded, and where its file goes; and the names
-- that were opened before
pub record EncodeTask : Type 0 where
  pub before : List Name
  pub input : Name
  pub targa : Bool
  pub output : Name
  pub encoding : Image → Encoding

-- The text of the file of an encoded image means the picture of it.
abbrev pub MeansEncoded : EncodeTask → Image → Type 0
MeansEncoded t I = Means standard_limits (encoded_text (t.encoding I) I) (encoded (t.encoding I) I)

-- THE CONVERSION: the image's picture has no fault; the text is that of the file of the image encoded as it is asked
-- for, which means its picture
abbrev pub encoding_conversion : EncodeTask → Conversion Image
encoding_conversion t = record {
  before = t.before;
  input = Some t.input;
  output = t.output;
  judging = image_judging t.targa;
  fault = λ I. encode_fault (t.encoding I) I;
  text = λ I. encoded_text (t.encoding I) I;
  right = MeansEncoded t;
  writing = at_end;
}

abbrev pub Encoded : EncodeTask → DeskState → Why → DeskState → Type 0
Encoded t old ended new = Converted (encoding_conversion t) old ended new

-- what is encoded as the words ask for it, in these scans and by these tables, after these names
abbrev pub task_after : List Name → EncodeAsked → Scans → Option (List QuantTable) → EncodeTask
task_after before a scans tables = record {
  before = before;
  input = name_of a.files.input;
  targa = a.targa;
  output = name_of a.files.output;
  encoding = encoding_asked a scans tables;
}

-- BY THE TABLES that are asked for, after these names: there is a fault of them, or the image is encoded by them.
abbrev pub EncodedBy : List Name → EncodeAsked → Scans → DeskState → Why → DeskState → Type 0
EncodedBy before a scans old ended new =
    StopsAtTables before a.tables old ended new
    ⊎ ((tables : Option (List QuantTable)) × HasTables a.tables old tables × Encoded (task_after (before ++ tables_names a.tables) a scans tables) old ended new)

-- There is a fault of the tables, or the image is encoded by them, whichever names were opened before.
abbrev pub EncodedAfter : EncodeAsked → Scans → DeskState → Why → DeskState → Type 0
EncodedAfter a scans old ended new = (names : List Name) (s : DeskState) → GoesOnAfter names s old → EncodedBy names a scans s ended new

-- IN THE SCANS that are asked for: there is a fault of them, or the image is encoded in them; or there was no memory
-- for the names of files.
abbrev pub EncodedAsAsked : EncodeAsked → DeskState → Why → DeskState → Type 0
EncodedAsAsked a old ended new =
    StopsAtScans a.scans old ended new
    ⊎ (((scans : Scans) × HasScans a.scans old scans × EncodedBy (names_before a.scans) a scans old ended new) ⊎ ((ended ≡ why.NoMemory) × Untouched old new))
