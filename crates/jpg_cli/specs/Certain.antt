-- WHERE A RESULT IS CERTAIN: over a desk that knows its files, where all calls succeed and there is memory.
use Rattle.std.specs.Prelude.{◌≡◌, ℕ, ◌⊎◌, ◌<◌, ◌≤◌, List, length, Option, None, Some, Ok, Err}
use Rattle.jpg_base.specs.declared.names.Name.{Name}
use Rattle.jpg_base.specs.declared.names.Name.TheVariants as name
use Rattle.jpg_base.specs.Desk.{DeskState}
use Rattle.jpg_spec.specs.Early.{IsMeaning, MeansAs}
use Rattle.jpg_spec.specs.Meaning.{Meaning}
use Rattle.jpg_spec.specs.Segments.{standard_limits}
use Rattle.jpg_spec_write.specs.CommentText.{IsInserted, longest_comment}
use Rattle.jpg_comments.specs.Answers.{IsWholeFront}
use Rattle.jpg_spec_write.specs.ScansAsked.{Scans, sequential, standard, given}
use Rattle.jpg_spec_upright.specs.Upright.{fault_for}
use Rattle.jpg_spec_write.specs.Script.{Entry}
use Rattle.jpg_spec_write.specs.ScriptGrammar.{TellsScript}
use Rattle.jpg_spec_words.specs.TransformWords.{ScansSource, own_sequential, own_progressive, in_file, TransformAsked, choice_asked}
use Rattle.jpg_spec_image.specs.Pixels.{out_fault}
use Rattle.jpg_cli.specs.Tools.CommentInserted.{Task}
use Rattle.jpg_desk.specs.ReadFront.{FrontMeansAs, IsFrontRefused}
use Rattle.jpg_desk.specs.ReadPicture.{IsRefusedFor, Coefficients, Image}
use Rattle.jpg_cli.specs.Tools.Showing.{Showing}
use Rattle.jpg_words.specs.Commands.{name_of}
use Rattle.jpg_spec_words.specs.CommentWords.{CommentSource, from_input, from_words, from_file}
use Rattle.jpg_spec.specs.declared.fault.FaultAt.{FaultAt}
use Rattle.jpg_spec_words.specs.declared.answers.Why.{Why}
use Rattle.jpg_spec_words.specs.declared.answers.Why.TheVariants as why
use Rattle.jpg_spec_write.specs.declared.picture_fault.PictureFault.{PictureFault}

-- The files are known, and the one of this name has these bytes.
abbrev pub IsTold : Option (Name → Option (List ℕ)) → Name → List ℕ → Type 0
IsTold None name bytes = ⊥
IsTold (Some files) name bytes = files name ≡ Some bytes

-- a comment, from the words or from a file that is known
abbrev pub IsToldComment : DeskState → CommentSource → List ℕ → Type 0
IsToldComment old from_input comment = IsTold old.files name.In comment
IsToldComment old (from_words text) comment = comment ≡ text
IsToldComment old (from_file file) comment = IsTold old.files (name.File file) comment

-- Done, or NoMemory.
abbrev pub IsDoneOrWanting : Why → Type 0
IsDoneOrWanting why.Done = Unit {0}
IsDoneOrWanting why.NoMemory = Unit {0}
IsDoneOrWanting other = ⊥

-- The output is complete, with a warning where the input ends early after this many bytes, or there was no memory.
abbrev pub IsDoneAsOrWanting : Option ℕ → Why → Type 0
IsDoneAsOrWanting None why.Done = Unit {0}
IsDoneAsOrWanting (Some n) (why.Warned m) = m ≡ n
IsDoneAsOrWanting early why.NoMemory = Unit {0}
IsDoneAsOrWanting early other = ⊥

-- This is the result, or there was no memory.
abbrev pub IsOrNoMemory : Why → Why → Type 0
IsOrNoMemory due ended = (ended ≡ due) ⊎ (ended ≡ why.NoMemory)

-- WHAT A FILE HAS for a command

-- The file of this name is known, and begins with a complete file, as rdjpgcom reads it.
abbrev pub HasWholeFile : DeskState → Name → Type 0
HasWholeFile old input = (bytes : List ℕ) × (n : ℕ) × IsTold old.files input bytes × IsWholeFront standard_limits bytes n

-- The comment and the input of this task are known, the comment is no longer than it may be, and the input is shorter
-- and has a frame header.
pub record HasFrameHeader (old : DeskState) (task : Task) : Type 0 where
  pub comment : List ℕ
  pub bytes : List ℕ
  pub text : List ℕ
  pub source : IsToldComment old task.comment comment
  pub fits : length comment ≤ longest_comment
  pub told : IsTold old.files task.input bytes
  pub inserted : IsInserted standard_limits bytes comment task.replace text
  pub short : length bytes < standard_limits.input

-- The file of this name is known, and encodes this script.
pub record IsToldScript (old : DeskState) (file : List ℕ) (script : List Entry) : Type 0 where
  pub text : List ℕ
  pub told : IsTold old.files (name.File file) text
  pub tells : TellsScript text (Ok script)

-- scans that are asked for: the default ones, or those of a file that is known
abbrev pub AreToldScans : DeskState → ScansSource → Scans → Type 0
AreToldScans old own_sequential scans = scans ≡ sequential
AreToldScans old own_progressive scans = scans ≡ standard
AreToldScans old (in_file file) scans = (script : List Entry) × IsToldScript old file script × (scans ≡ given script)

-- The scans and the input are known, and the input means a picture, also if it ends early, which has no fault for this
-- choice.
pub record HasPicture (a : TransformAsked) (old : DeskState) : Type 0 where
  pub scans : Scans
  pub early : Option ℕ
  pub bytes : List ℕ
  pub meaning : Meaning
  pub asked : AreToldScans old a.scans scans
  pub told : IsTold old.files (name_of a.files.input) bytes
  pub means : MeansAs standard_limits early bytes meaning
  pub admitted : fault_for a.upright (choice_asked a scans) meaning ≡ None

-- The input is known, and means a picture that can be displayed.
pub record HasImage (s : Showing) (old : DeskState) : Type 0 where
  pub early : Option ℕ
  pub bytes : List ℕ
  pub meaning : Meaning
  pub told : IsTold old.files s.input bytes
  pub means : MeansAs standard_limits early bytes meaning
  pub shown : out_fault s.gray meaning ≡ None

-- The input is known, and its front for so many scans means a picture that can be displayed; or the input ends early
-- before, and means one.
pub record HasShownFront (scans : ℕ) (s : Showing) (old : DeskState) : Type 0 where
  pub early : Option ℕ
  pub bytes : List ℕ
  pub meaning : Meaning
  pub told : IsTold old.files s.input bytes
  pub means : FrontMeansAs scans early bytes meaning
  pub shown : out_fault s.gray meaning ≡ None

-- bytes that mean something, complete or ending early
abbrev pub HasSomeMeaning : List ℕ → Type 0
HasSomeMeaning bytes = (M : Meaning) × IsMeaning standard_limits bytes M

-- The scans and the input are known, and the input means a picture.
pub record HasFile (a : TransformAsked) (old : DeskState) : Type 0 where
  pub scans : Scans
  pub bytes : List ℕ
  pub asked : AreToldScans old a.scans scans
  pub told : IsTold old.files (name_of a.files.input) bytes
  pub means : HasSomeMeaning bytes

-- The input wasn't refused: the result is Done, or its picture can't be written as it is asked for, or a device failed,
-- or NoMemory.
abbrev pub IsNotRefused : Why → Type 0
IsNotRefused why.Done = Unit {0}
IsNotRefused (why.Warned n) = Unit {0}
IsNotRefused (why.Picture fault) = Unit {0}
IsNotRefused (why.OpenFault which) = Unit {0}
IsNotRefused (why.ReadFault which) = Unit {0}
IsNotRefused why.WriteFault = Unit {0}
IsNotRefused why.NoMemory = Unit {0}
IsNotRefused other = ⊥

-- WHAT IS WRONG with the files that are known

-- The file of the scans has this fault.
abbrev pub HasFaultyScript : ScansSource → FaultAt → DeskState → Type 0
HasFaultyScript own_sequential f old = ⊥
HasFaultyScript own_progressive f old = ⊥
HasFaultyScript (in_file file) f old = (text : List ℕ) × IsTold old.files (name.File file) text × TellsScript text (Err f)

-- The scans have no fault, and the input is refused with this fault.
pub record HasFaultyInput (a : TransformAsked) (f : FaultAt) (old : DeskState) : Type 0 where
  pub scans : Scans
  pub bytes : List ℕ
  pub asked : AreToldScans old a.scans scans
  pub told : IsTold old.files (name_of a.files.input) bytes
  pub refused : IsRefusedFor Coefficients bytes f

-- The input means a picture, also if it ends early, which has this fault for the choice.
pub record HasFaultyPicture (a : TransformAsked) (fault : PictureFault) (old : DeskState) : Type 0 where
  pub scans : Scans
  pub bytes : List ℕ
  pub meaning : Meaning
  pub asked : AreToldScans old a.scans scans
  pub told : IsTold old.files (name_of a.files.input) bytes
  pub means : IsMeaning standard_limits bytes meaning
  pub faulty : fault_for a.upright (choice_asked a scans) meaning ≡ Some fault

-- The input is refused with this fault, where its image is asked for.
pub record HasFaultyImage (s : Showing) (f : FaultAt) (old : DeskState) : Type 0 where
  pub bytes : List ℕ
  pub told : IsTold old.files s.input bytes
  pub refused : IsRefusedFor (Image s.gray) bytes f

-- The front of the input is refused with this fault, where its image is asked for.
pub record HasFaultyFront (scans : ℕ) (s : Showing) (f : FaultAt) (old : DeskState) : Type 0 where
  pub bytes : List ℕ
  pub told : IsTold old.files s.input bytes
  pub refused : IsFrontRefused scans s.gray bytes f
