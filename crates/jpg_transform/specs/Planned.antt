-- HOW A TRANSFORMED PICTURE IS WRITTEN (the manual of jpegtran): what is asked for, what the head of the output is
-- written from, and its scans.
use Rattle.std.specs.Prelude.{◌≡◌, ◌==◌, ◌&&◌, Bool, if◌then◌else◌, List, map, take, Option, Result, Ok, Err, None, Some, not, ◌||◌, ℕ}
use Rattle.jpg_spec.specs.Geometry.{Frame, component_at, h_max, v_max}
use Rattle.jpg_spec.specs.Lists.{any_of}
use Rattle.jpg_spec_move.specs.Moved.{Choice, is_gray_or_ycbcr, moved_frame, picture_fault}
use Rattle.jpg_spec_write.specs.ScansAsked.{Scans, sequential, standard, given, asks_progressive, script_due}
use Rattle.jpg_spec_write.specs.Headed.{is_wide}
use Rattle.jpg_spec.specs.Segments.{QuantTable}
use Rattle.jpg_spec_move.specs.Transforms.{transposes}
use Rattle.jpg_spec_write.specs.WrittenFile.{IsRestart}
use Rattle.jpg_spec.specs.Transposed.{transposed}
use Rattle.jpg_spec.specs.declared.frame.Colour.{Colour}
use Rattle.jpg_spec.specs.declared.frame.Colour.TheVariants.{Gray}
use Rattle.jpg_spec.specs.declared.frame.Process.{Process}
use Rattle.jpg_spec.specs.declared.frame.Process.TheVariants.{Baseline, Extended, Progressive}
use Rattle.jpg_spec_write.specs.declared.picture_fault.PictureFault.{PictureFault}
use Rattle.jpg_spec_write.specs.declared.picture_fault.PictureFault.TheVariants.{GrayColour, GrayFactors}
use Rattle.jpg_markers.specs.declared.writing.head.OutHead.{OutHead}
use Rattle.jpg_file.specs.Read.PictureRead.{picture_meaning}
use Rattle.jpg_scans.specs.Restarts.{restart_of}
use Rattle.jpg_file.specs.declared.read.picture.Picture.{Picture}
use Rattle.jpg_file.specs.declared.read.strip_head.StripHead.{StripHead}
use Rattle.jpg_file.specs.declared.write.Plan.{Plan}
use Rattle.jpg_transform.specs.declared.choice.Choice.{Choice as Asked}
use Rattle.jpg_transform.specs.declared.choice.Job.{Job}
use Rattle.jpg_transform.specs.declared.choice.Scans.{Scans as AskedScans}
use Rattle.jpg_transform.specs.declared.choice.Scans.TheVariants.{Sequential, Standard, Given}

-- what is asked for
abbrev pub scans_view : AskedScans → Scans
scans_view Sequential = sequential
scans_view Standard = standard
scans_view (Given script) = given script

abbrev pub choice_view : Asked → Choice
choice_view c = record {
  transform = c.transform;
  trim = c.trim;
  gray = c.gray;
  copying = c.copying;
  scans = scans_view c.scans;
  huffman = c.huffman;
  restart = restart_of c.restart;
  crop = None;
}

-- Whether the first component has the greatest factors.
abbrev pub is_first_greatest : Frame → Bool
is_first_greatest f = (component_at f 0).h == h_max f && (component_at f 0).v == v_max f

-- THE HEAD of the output

-- SOF1 with 12 bits or if a quantiser exceeds 255, otherwise SOF0
abbrev pub process_of : ℕ → List QuantTable → Process
process_of precision tables = if not (precision == 8) || any_of is_wide tables then Extended else Baseline

-- SOF2 if the scans are those of a progressive file
abbrev pub process_in : Scans → ℕ → List QuantTable → Process
process_in scans precision tables = if asks_progressive scans then Progressive else process_of precision tables

-- the table of only the first component, if a picture is converted to grayscale
abbrev pub grayed_tables : Bool → List QuantTable → List QuantTable
grayed_tables gray tables = if gray then take 1 tables else tables

-- axes are exchanged where rows become columns
abbrev pub turned_tables : Bool → List QuantTable → List QuantTable
turned_tables over tables = if over then map (transposed 0) tables else tables

abbrev pub moved_tables : Choice → List QuantTable → List QuantTable
moved_tables choice tables = turned_tables (transposes choice.transform) (grayed_tables choice.gray tables)

abbrev pub moved_colour : Bool → Colour → Colour
moved_colour gray colour = if gray then Gray else colour

-- What the head of the output is written from: the frame, tables and colours of the transformed picture, its JFIF
-- header, and the markers that are passed on.
pub record IsOutHeadOf (choice : Choice) (p : Picture) (out : OutHead) : Type 0 where
  pub frame : out.frame ≡ record (moved_frame choice p.frame) { process = process_in choice.scans p.frame.precision out.quants.items }
  pub tables : out.quants.items ≡ moved_tables choice p.quants.items
  pub colour : out.colour ≡ moved_colour choice.gray p.colour
  pub jfif : out.jfif ≡ p.jfif
  pub copying : out.copying ≡ choice.copying

-- THE SAME OF A HEAD: what a picture has except for its blocks and its kept markers

-- It is the head of this picture.
pub record IsHeadOf (h : StripHead) (p : Picture) : Type 0 where
  pub frame : p.frame ≡ h.frame
  pub colour : p.colour ≡ h.colour
  pub quants : p.quants.items ≡ h.quants.items
  pub jfif : p.jfif ≡ h.jfif

-- the fault of the conversion to grayscale
abbrev pub head_fault : Bool → StripHead → Option PictureFault
head_fault gray h =
    if gray && not (is_gray_or_ycbcr h.colour) then Some GrayColour
    else if gray && not (is_first_greatest h.frame) then Some GrayFactors
    else None

pub record IsOutHeadBy (choice : Choice) (h : StripHead) (out : OutHead) : Type 0 where
  pub frame : out.frame ≡ record (moved_frame choice h.frame) { process = process_in choice.scans h.frame.precision out.quants.items }
  pub tables : out.quants.items ≡ moved_tables choice h.quants.items
  pub colour : out.colour ≡ moved_colour choice.gray h.colour
  pub jfif : out.jfif ≡ h.jfif
  pub copying : out.copying ≡ choice.copying

-- THE PLAN: the picture has no fault for the choice, and is written in this way, with intervals that fit into two bytes.
pub record IsPlanFor (p : Picture) (choice : Choice) (plan : Plan) : Type 0 where
  pub admitted : picture_fault choice (picture_meaning p) ≡ None
  pub head : IsOutHeadOf choice p plan.out
  pub script : plan.script ≡ script_due choice.scans plan.out.frame plan.out.colour
  pub huffman : plan.huffman ≡ choice.huffman
  pub restart : restart_of plan.restart ≡ choice.restart
  pub counted : IsRestart choice.restart

-- THE JOB: its plan, with nothing cropped.
pub record IsJobFor (p : Picture) (choice : Choice) (job : Job) : Type 0 where
  pub planned : IsPlanFor p choice job.plan
  pub whole : choice.crop ≡ None
  pub transform : job.transform ≡ choice.transform
  pub gray : job.gray ≡ choice.gray

-- the job for a picture, or its fault
abbrev pub IsPlan : Picture → Choice → Result Job PictureFault → Type 0
IsPlan p choice (Ok job) = IsJobFor p choice job
IsPlan p choice (Err fault) = picture_fault choice (picture_meaning p) ≡ Some fault
