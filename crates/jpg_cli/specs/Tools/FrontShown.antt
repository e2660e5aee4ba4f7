-- HOW SHOWING THE FRONT of a picture's file ends (`djpeg -preview`), by why it ended.
use Rattle.std.specs.Prelude.{◌≡◌, ℕ, Bool, true, false, Option, None, Some}
use Rattle.jpg_base.specs.Desk.{DeskState}
use Rattle.jpg_spec.specs.Meaning.{Meaning}
use Rattle.jpg_spec_words.specs.declared.answers.Why.{Why}
use Rattle.jpg_spec_words.specs.declared.answers.Why.TheVariants as why
use Rattle.jpg_spec_words.specs.declared.answers.UsageFault.TheVariants.{NoEnd}
use Rattle.jpg_words.specs.declared.djpeg_request.ShowWords.{ShowWords}
use Rattle.jpg_desk.specs.ReadFront.{front_judging}
use Rattle.jpg_cli.specs.Outcome.{Conversion, Converted, drawn}
use Rattle.jpg_cli.specs.Tools.Showing.{Showing, Shown, showing_conversion, showing_view}
use Rattle.jpg_desk.specs.Stays.{Untouched}

-- THE CONVERSION: the text of the image of the picture that the front of the input means for so many scans, which can be
-- displayed. The image is written when the front was read.
abbrev pub front_conversion : ℕ → Showing → Conversion Meaning
front_conversion scans s = record (showing_conversion s) { judging = front_judging scans s.gray; writing = drawn }

abbrev pub FrontShown : ℕ → Showing → DeskState → Why → DeskState → Type 0
FrontShown scans s old ended new = Converted (front_conversion scans s) old ended new

-- by how many scans are asked for, if not all are
abbrev pub ShownAs : Option ℕ → Showing → DeskState → Why → DeskState → Type 0
ShownAs None s old ended new = Shown s old ended new
ShownAs (Some scans) s old ended new = FrontShown scans s old ended new

-- with an image writer of the format that the words ask for, or none
abbrev pub ShownBy : Bool → ShowWords → DeskState → Why → DeskState → Type 0
ShownBy true w old ended new = ShownAs w.preview (showing_view w) old ended new
ShownBy false w old ended new = (ended ≡ why.Usage (record { fault = NoEnd; word = w.kind_word })) × Untouched old new
