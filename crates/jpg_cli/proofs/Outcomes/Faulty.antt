-- If all calls succeed, what is wrong with the files is the answer.
use Rattle.std.proofs.Common.{ℕ, List, length, Option, None, Some, refl, inl, inr}
use Rattle.jpg_base.specs.declared.names.Name.TheVariants as name
use Rattle.jpg_base.specs.Desk.{DeskState}
use Rattle.jpg_spec.specs.Segments.{standard_limits}
use Rattle.jpg_spec.specs.Early.{IsMeaning, MeansAs}
use Rattle.jpg_spec.specs.Meaning.{Meaning}
use Rattle.jpg_spec_words.specs.TransformWords.{ScansSource, in_file, TransformAsked}
use Rattle.jpg_spec.specs.declared.fault.FaultAt.{FaultAt}
use Rattle.jpg_spec_words.specs.declared.answers.Why.{Why}
use Rattle.jpg_spec_words.specs.declared.answers.Why.TheVariants as why
use Rattle.jpg_spec_write.specs.declared.picture_fault.PictureFault.{PictureFault}
use Rattle.jpg_cli.specs.Certain.{HasFaultyFront, HasFaultyImage, HasFaultyInput, HasFaultyPicture, HasFaultyScript, IsOrNoMemory}
use Rattle.jpg_words.specs.Commands.{name_of}
use Rattle.jpg_cli.specs.Due.{NoneRose, TellsFiles}
use Rattle.jpg_cli.specs.Tools.FrontShown.{FrontShown}
use Rattle.jpg_cli.specs.Tools.Showing.{Showing, Shown}
use Rattle.jpg_cli.specs.Tools.Turned.{Transformed}
use Rattle.jpg_cli.proofs.Outcomes.Due.{is_file, tells_files}
use Rattle.jpg_cli.proofs.Outcomes.DueCommands.{front_answered, show_answered, turn_answered}
use Rattle.jpg_cli.proofs.Outcomes.TakenOnce.{told_fault, told_scans}

-- THE SCRIPT'S FILE has a fault

knows_script : (old : DeskState) (source : ScansSource) (f : FaultAt) → HasFaultyScript source f old → TellsFiles old
knows_script old (in_file file) f (text, is, tells) = tells_files old (name.File file) text is
knows_script old other f h = absurd h

pub script_answered : (a : TransformAsked) (f : FaultAt) (old new : DeskState) (w : Why) → HasFaultyScript a.scans f old → NoneRose old.counts new.counts → Transformed a old w new → IsOrNoMemory (why.Refused f) w
script_answered a f old new w has none turned = turn_answered a (why.Refused f) w old new (knows_script old a.scans f has) (inl (told_fault old a.scans f has)) none turned

-- THE INPUT has one

pub input_answered : (a : TransformAsked) (f : FaultAt) (old new : DeskState) (w : Why) → HasFaultyInput a f old → NoneRose old.counts new.counts → Transformed a old w new → IsOrNoMemory (why.Refused f) w
input_answered a f old new w has none turned =
    let input = name_of a.files.input in
    turn_answered a (why.Refused f) w old new (tells_files old input has.bytes has.told)
    (inr (has.scans, told_scans old a.scans has.scans has.asked, record { bytes = has.bytes; file = is_file old.files input has.bytes has.told; refused = has.refused })) none turned

-- THE PICTURE has one

meant_as : (bytes : List ℕ) (M : Meaning) → IsMeaning standard_limits bytes M → (early : Option ℕ) × MeansAs standard_limits early bytes M
meant_as bytes M (inl means) = (None, means)
meant_as bytes M (inr means) = (Some (length bytes), (means, refl))

pub picture_answered : (a : TransformAsked) (f : PictureFault) (old new : DeskState) (w : Why) → HasFaultyPicture a f old → NoneRose old.counts new.counts → Transformed a old w new → IsOrNoMemory (why.Picture f) w
unfolding meant_as
picture_answered a f old new w has none turned =
    let input = name_of a.files.input in
    let meant = meant_as has.bytes has.meaning has.means in
    turn_answered a (why.Picture f) w old new (tells_files old input has.bytes has.told)
    (inr (
      has.scans,
      told_scans old a.scans has.scans has.asked,
      (meant.0, record { value = has.meaning; bytes = has.bytes; file = is_file old.files input has.bytes has.told; means = (meant.1, refl); is = has.faulty }),
    ))
    none turned

-- AN IMAGE is asked for, and the input is refused

pub image_answered : (s : Showing) (f : FaultAt) (old new : DeskState) (w : Why) → HasFaultyImage s f old → NoneRose old.counts new.counts → Shown s old w new → IsOrNoMemory (why.Refused f) w
image_answered s f old new w has none shown =
    show_answered s (why.Refused f) w old new (tells_files old s.input has.bytes has.told) (record { bytes = has.bytes; file = is_file old.files s.input has.bytes has.told; refused = has.refused }) none shown

pub front_faulty : (scans : ℕ) (s : Showing) (f : FaultAt) (old new : DeskState) (w : Why) → HasFaultyFront scans s f old → NoneRose old.counts new.counts → FrontShown scans s old w new → IsOrNoMemory (why.Refused f) w
front_faulty scans s f old new w has none shown =
    front_answered scans s (why.Refused f) w old new (tells_files old s.input has.bytes has.told) (record { bytes = has.bytes; file = is_file old.files s.input has.bytes has.told; refused = has.refused }) none shown
