-- A TRANSFORMED PICTURE, by a choice (the manual of jpegtran): converted to grayscale, transformed, trimmed, cropped, and
-- given a header for writing.
use Rattle.std.specs.Prelude.{◌≡◌, ℕ, ◌*◌, ◌/◌, Bool, true, false, not, ◌&&◌, ◌==◌, if◌then◌else◌, List, [], ◌∷◌, map, Option, Some, None}
use Rattle.jpg_spec.specs.Geometry.{Frame, component_at, h_max, v_max}
use Rattle.jpg_spec.specs.Meaning.{Meaning, colour_of, most_across, most_down, component_of, real_alone}
use Rattle.jpg_spec_write.specs.Headed.{headed_by}
use Rattle.jpg_spec_move.specs.Cropped.{crop_fault, cropped_by, cropped_frame_by}
use Rattle.jpg_spec_move.specs.Transforms.{transformed, transposes, mirrors_across, mirrors_down}
use Rattle.jpg_spec.specs.InForce.{first_some}
use Rattle.jpg_spec_write.specs.Script.{Entry}
use Rattle.jpg_spec_write.specs.ScriptFaults.{script_fault}
use Rattle.jpg_spec_write.specs.FileText.{Restart, file_text, frame_of_meaning}
use Rattle.jpg_spec.specs.declared.frame.Component.{Component}
use Rattle.jpg_spec.specs.declared.frame.Copying.{Copying}
use Rattle.jpg_spec.specs.declared.frame.Copying.TheVariants as copying
use Rattle.jpg_spec.specs.declared.frame.Colour.{Colour}
use Rattle.jpg_spec.specs.declared.frame.Colour.TheVariants.{Gray, YCbCr, Rgb, Cmyk, Ycck, Unknown}
use Rattle.jpg_spec_move.specs.declared.area.Area.{Area}
use Rattle.jpg_spec_move.specs.declared.transform.Transform.{Transform}
use Rattle.jpg_spec_move.specs.declared.transform.Transform.TheVariants.{Keep}
use Rattle.jpg_spec_write.specs.declared.picture_fault.PictureFault.{PictureFault}
use Rattle.jpg_spec_write.specs.declared.picture_fault.PictureFault.TheVariants.{GrayColour, GrayFactors}
use Rattle.jpg_spec_write.specs.ScansAsked.{Scans, asks_progressive, process_due, script_due}
use Rattle.jpg_spec_write.specs.declared.huffman.Huffman.{Huffman}

-- WHAT IS ASKED FOR

pub record Choice : Type 0 where
  pub transform : Transform
  pub trim : Bool
  pub gray : Bool
  pub copying : Copying
  pub scans : Scans
  pub huffman : Huffman
  pub restart : Restart
  pub crop : Option Area

-- nothing transformed, and no kept marker passed on
abbrev pub as_it_is : Scans → Huffman → Restart → Choice
as_it_is scans huffman restart = record {
  transform = Keep;
  trim = false;
  gray = false;
  copying = copying.None;
  scans = scans;
  huffman = huffman;
  restart = restart;
  crop = None;
}

abbrev pub grayed : Bool → Meaning → Meaning
grayed false M = M
grayed true M = real_alone (record M { components = record (component_of M 0) { h = 1; v = 1 } ∷ [] })

-- TRIMMED: sides of complete iMCUs where columns or rows are mirrored, if there is a complete one

abbrev pub whole_side : ℕ → ℕ → ℕ
whole_side side mcu = if side / mcu == 0 then side else mcu * (side / mcu)

abbrev pub trimmed : Bool → Transform → Meaning → Meaning
trimmed false t M = M
trimmed true t M = real_alone (record M {
  width = if mirrors_across t then whole_side M.width (8 * most_across M) else M.width;
  height = if mirrors_down t then whole_side M.height (8 * most_down M) else M.height;
})

abbrev pub headed_as : Choice → Meaning → Meaning
headed_as choice M = record (headed_by choice.copying M) { process = process_due (asks_progressive choice.scans) M }

-- TRANSFORMED

-- before it is cropped
abbrev pub uncropped : Choice → Meaning → Meaning
uncropped choice M = trimmed choice.trim choice.transform (transformed choice.transform (grayed choice.gray M))

abbrev pub moved : Choice → Meaning → Meaning
moved choice M = headed_as choice (cropped_by choice.crop (uncropped choice M))

-- The same picture: sides, identifiers, factors, quantisers and blocks, whatever its process and kept markers.
pub record IsSamePicture (M N : Meaning) : Type 0 where
  pub width : M.width ≡ N.width
  pub height : M.height ≡ N.height
  pub components : M.components ≡ N.components
  pub blocks : M.blocks ≡ N.blocks

-- the first fault of a picture that is to be converted to grayscale: it has other colours, or its first component
-- doesn't have the greatest factors
abbrev pub is_gray_or_ycbcr : Colour → Bool
is_gray_or_ycbcr Gray = true
is_gray_or_ycbcr YCbCr = true
is_gray_or_ycbcr Rgb = false
is_gray_or_ycbcr Cmyk = false
is_gray_or_ycbcr Ycck = false
is_gray_or_ycbcr Unknown = false

abbrev pub gray_fault : Bool → Meaning → Option PictureFault
gray_fault gray M =
    if gray && not (is_gray_or_ycbcr (colour_of M)) then Some GrayColour
    else if gray && not ((component_of M 0).h == most_across M && (component_of M 0).v == most_down M) then Some GrayFactors
    else None

-- IN WHICH SCANS it is written: the default ones of the output's frame and colours, or those that were given

abbrev pub moved_script : Choice → Meaning → List Entry
moved_script choice M = script_due choice.scans (frame_of_meaning (moved choice M)) (colour_of (moved choice M))

-- the fault of the script on the output's frame
abbrev pub moved_script_fault : Choice → Meaning → Option PictureFault
moved_script_fault choice M = script_fault (frame_of_meaning (moved choice M)) (moved_script choice M)

-- THE FIRST FAULT of a picture for a choice: of the conversion to grayscale, then of the script, and then of the area
abbrev pub picture_fault : Choice → Meaning → Option PictureFault
picture_fault choice M =
    first_some (gray_fault choice.gray M) (first_some (moved_script_fault choice M) (crop_fault choice.crop (uncropped choice M)))

-- THE TEXT of the file of a transformed picture
abbrev pub moved_text : Choice → Meaning → List ℕ
moved_text choice M = file_text choice.huffman (moved choice M) (moved_script choice M) choice.restart

-- THE FRAME of the transformed picture, from the numbers of its frame

abbrev pub exchanged_factors : Component → Component
exchanged_factors c = record c { h = c.v; v = c.h }

abbrev pub transformed_frame : Transform → Frame → Frame
transformed_frame t f =
    if transposes t then record f { width = f.height; height = f.width; components = map exchanged_factors f.components } else f

abbrev pub trimmed_frame : Bool → Transform → Frame → Frame
trimmed_frame trim t f = record f {
  width = if trim && mirrors_across t then whole_side f.width (8 * h_max f) else f.width;
  height = if trim && mirrors_down t then whole_side f.height (8 * v_max f) else f.height;
}

abbrev pub grayed_frame : Bool → Frame → Frame
grayed_frame gray f = if gray then record f { components = record (component_at f 0) { h = 1; v = 1 } ∷ [] } else f

abbrev pub uncropped_frame : Choice → Frame → Frame
uncropped_frame choice f = trimmed_frame choice.trim choice.transform (transformed_frame choice.transform (grayed_frame choice.gray f))

abbrev pub moved_frame : Choice → Frame → Frame
moved_frame choice f = cropped_frame_by choice.crop (uncropped_frame choice f)

-- the columns and rows of a component that are mirrored, by the output's frame
abbrev pub columns_in : Transform → Frame → ℕ → ℕ
columns_in t f i = if mirrors_across t then (f.width / (8 * h_max f)) * (component_at f i).h else 0

abbrev pub rows_in : Transform → Frame → ℕ → ℕ
rows_in t f i = if mirrors_down t then (f.height / (8 * v_max f)) * (component_at f i).v else 0
