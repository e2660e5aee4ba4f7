-- HOW TRANSFORMING A PICTURE ENDS (the manual of jpegtran), by why it ended.
use Rattle.std.specs.Prelude.{◌≡◌, ◌⊎◌, ℕ, Bool, List, [], Option, Some}
use Rattle.jpg_base.specs.declared.names.Name.{Name}
use Rattle.jpg_base.specs.Desk.{DeskState}
use Rattle.jpg_spec.specs.Meaning.{Meaning}
use Rattle.jpg_spec_move.specs.Moved.{Choice}
use Rattle.jpg_spec_move.specs.declared.area.Area.{Area}
use Rattle.jpg_spec_upright.specs.Upright.{fault_for, text_for}
use Rattle.jpg_spec_write.specs.ScansAsked.{Scans}
use Rattle.jpg_spec_words.specs.TransformWords.{TransformAsked, choice_asked}
use Rattle.jpg_spec_words.specs.declared.answers.Why.{Why}
use Rattle.jpg_spec_words.specs.declared.answers.Why.TheVariants as why
use Rattle.jpg_transform.specs.Planned.{choice_view}
use Rattle.jpg_transform.specs.declared.choice.Choice.{Choice as Asked}
use Rattle.jpg_words.specs.declared.files.Files.{Files}
use Rattle.jpg_words.specs.Commands.{name_of}
use Rattle.jpg_desk.specs.ReadPicture.{picture_judging, Coefficients}
use Rattle.jpg_desk.specs.ScriptTaken.{HasScans, StopsAtScans, names_before}
use Rattle.jpg_desk.specs.Writing.{MeansUpright, in_area}
use Rattle.jpg_cli.specs.Outcome.{Conversion, Converted, WritesValue, at_end}
use Rattle.jpg_desk.specs.Stays.{Untouched}

-- which picture is transformed and cropped, how, whether its Exif orientation chooses the transform, and where it goes; and
-- the names that were opened before
pub record Turning : Type 0 where
  pub before : List Name
  pub input : Name
  pub output : Name
  pub choice : Choice
  pub upright : Bool

abbrev pub turning_view : Files → Asked → Bool → Option Area → Turning
turning_view files choice upright area =
    record { before = []; input = files.input; output = files.output; choice = in_area area (choice_view choice); upright = upright }

-- THE CONVERSION: the picture has no fault for this choice; the text is that of the file of it transformed as the
-- choice says, or turned upright, and cropped if it asks for an area, which means the transformed picture
abbrev pub turning_conversion : Turning → Conversion Meaning
turning_conversion t = record {
  before = t.before;
  input = Some t.input;
  output = t.output;
  judging = picture_judging Coefficients;
  fault = fault_for t.upright t.choice;
  text = text_for t.upright t.choice;
  right = MeansUpright t.upright t.choice;
  writing = at_end;
}

abbrev pub Turned : Turning → DeskState → Why → DeskState → Type 0
Turned t old ended new = Converted (turning_conversion t) old ended new

-- a picture was read, transformed and written
abbrev pub TurnedWith : Turning → Meaning → Option ℕ → DeskState → DeskState → Type 0
TurnedWith t M early old new = WritesValue (turning_conversion t) M early old new

-- what is transformed as the words ask for it, in these scans
abbrev pub turning_of : TransformAsked → Scans → Turning
turning_of a scans = record {
  before = names_before a.scans;
  input = name_of a.files.input;
  output = name_of a.files.output;
  choice = choice_asked a scans;
  upright = a.upright;
}

-- IN THE SCANS THAT ARE ASKED FOR: there is a fault of them, or the picture is transformed in them; or there was no
-- memory for the names of files.
abbrev pub Transformed : TransformAsked → DeskState → Why → DeskState → Type 0
Transformed a old ended new =
    StopsAtScans a.scans old ended new
    ⊎ (((scans : Scans) × HasScans a.scans old scans × Turned (turning_of a scans) old ended new) ⊎ ((ended ≡ why.NoMemory) × Untouched old new))
