-- WHICH RESULT IS DUE: the one that the files of a desk determine, if nothing fails.
use Rattle.std.specs.Prelude.{◌≡◌, ◌⊎◌, ℕ, List, ◌++◌, Option, None, Some}
use Rattle.jpg_base.specs.declared.names.Counts.{Counts}
use Rattle.jpg_base.specs.declared.names.Name.{Name}
use Rattle.jpg_base.specs.Desk.{DeskState, Rose}
use Rattle.jpg_spec.specs.declared.fault.FaultAt.{FaultAt}
use Rattle.jpg_spec_words.specs.EncodeWords.{EncodeAsked}
use Rattle.jpg_spec_words.specs.TransformWords.{TransformAsked}
use Rattle.jpg_spec_words.specs.declared.answers.Why.{Why}
use Rattle.jpg_spec_words.specs.declared.answers.Why.TheVariants as why
use Rattle.jpg_spec_write.specs.ScansAsked.{Scans}
use Rattle.jpg_spec_write.specs.declared.picture_fault.PictureFault.{PictureFault}
use Rattle.jpg_desk.specs.Judging.{IsInput}
use Rattle.jpg_desk.specs.ScriptTaken.{HasScans, HasScansFault, names_before}
use Rattle.jpg_desk.specs.TablesTaken.{HasTables, HasTablesFault, tables_names}
use Rattle.jpg_cli.specs.Outcome.{Conversion}
use Rattle.jpg_cli.specs.Tools.ImageEncoded.{encoding_conversion, task_after}
use Rattle.jpg_cli.specs.Tools.FrontShown.{front_conversion}
use Rattle.jpg_cli.specs.Tools.Showing.{Showing, showing_conversion}
use Rattle.jpg_cli.specs.Tools.Turned.{turning_conversion, turning_of}

-- no count of open, read or write rose
abbrev pub NoneRose : Counts → Counts → Type 0
NoneRose old new = (Rose old.opens new.opens → ⊥) × (Rose old.reads new.reads → ⊥) × (Rose old.writes new.writes → ⊥)

-- The desk knows its files.
pub record TellsFiles (s : DeskState) : Type 0 where
  pub files : Name → Option (List ℕ)
  pub told : s.files ≡ Some files

-- OF A CONVERSION

-- If the files are known, the input is this one, and has a value, also if it ends early after this many bytes. What is
-- made of it has this fault, or none.
pub record InputHas (V : Type 0) (c : Conversion V) (early : Option ℕ) (fault : Option PictureFault) (old : DeskState) : Type 0 where
  pub value : V
  pub bytes : List ℕ
  pub file : IsInput old.files c.input bytes
  pub means : c.judging.means early value bytes
  pub is : c.fault value ≡ fault

-- Or it is refused with this fault.
pub record InputRefused (V : Type 0) (c : Conversion V) (f : FaultAt) (old : DeskState) : Type 0 where
  pub bytes : List ℕ
  pub file : IsInput old.files c.input bytes
  pub refused : c.judging.refuses f bytes

abbrev pub IsDueFor : {V : Type 0} → Conversion V → DeskState → Why → Type 0
IsDueFor {V} c old why.Done = InputHas V c None None old
IsDueFor {V} c old (why.Warned n) = InputHas V c (Some n) None old
IsDueFor {V} c old (why.Refused f) = InputRefused V c f old
IsDueFor {V} c old (why.Picture fault) = (early : Option ℕ) × InputHas V c early (Some fault) old
IsDueFor c old other = ⊥

-- WHERE SOMETHING IS TAKEN BEFORE of another file: that has a fault; or by what was taken, the result is due
abbrev pub IsFaultOf : (DeskState → FaultAt → Type 0) → DeskState → Why → Type 0
IsFaultOf Faulty old (why.Refused f) = Faulty old f
IsFaultOf Faulty old other = ⊥

abbrev pub IsDueAfter : {A : Type 0} → (DeskState → FaultAt → Type 0) → (DeskState → A → Type 0) → (A → DeskState → Why → Type 0) → DeskState → Why → Type 0
IsDueAfter {A} Faulty Has Next old ended = IsFaultOf Faulty old ended ⊎ ((x : A) × Has old x × Next x old ended)

-- or there was no memory
abbrev pub OrNoMemory : (DeskState → Why → Type 0) → DeskState → Why → Type 0
OrNoMemory Due old ended = Due old ended ⊎ (ended ≡ why.NoMemory)

-- OF EACH COMMAND

-- jpegtran: by its scans
abbrev pub IsTurnDue : TransformAsked → DeskState → Why → Type 0
IsTurnDue a = IsDueAfter (HasScansFault a.scans) (HasScans a.scans) (λ scans. IsDueFor (turning_conversion (turning_of a scans)))

abbrev pub IsAnswerDue : TransformAsked → DeskState → Why → Type 0
IsAnswerDue a old ended = OrNoMemory (IsTurnDue a) old ended

-- djpeg
abbrev pub IsShowDue : Showing → DeskState → Why → Type 0
IsShowDue s old ended = OrNoMemory (IsDueFor (showing_conversion s)) old ended

-- of a front for so many scans
abbrev pub IsFrontDue : ℕ → Showing → DeskState → Why → Type 0
IsFrontDue scans s old ended = OrNoMemory (IsDueFor (front_conversion scans s)) old ended

-- cjpeg: by its scans, and then by its tables
abbrev pub IsEncodeDueIn : EncodeAsked → Scans → DeskState → Why → Type 0
IsEncodeDueIn a scans =
    IsDueAfter (HasTablesFault a.tables) (HasTables a.tables)
    (λ tables. IsDueFor (encoding_conversion (task_after (names_before a.scans ++ tables_names a.tables) a scans tables)))

abbrev pub IsEncodeDue : EncodeAsked → DeskState → Why → Type 0
IsEncodeDue a = IsDueAfter (HasScansFault a.scans) (HasScans a.scans) (IsEncodeDueIn a)

abbrev pub IsDueOrNoMemory : EncodeAsked → DeskState → Why → Type 0
IsDueOrNoMemory a old ended = OrNoMemory (IsEncodeDue a) old ended
