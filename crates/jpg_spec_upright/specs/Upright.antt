-- A PICTURE TURNED UPRIGHT: the transform that its Exif orientation asks for (Exif 2.3, 4.6.4, tag 0112), the picture that is
-- displayed, and what is transformed and written.
use Rattle.std.specs.Prelude.{ℕ, ◌==◌, ◌||◌, Bool, true, false, if◌then◌else◌, List, Option}
use Rattle.jpg_spec.specs.Meaning.{Meaning}
use Rattle.jpg_spec_move.specs.Moved.{Choice, moved, moved_text, picture_fault}
use Rattle.jpg_spec_move.specs.Transforms.{transformed}
use Rattle.jpg_spec_move.specs.declared.transform.Transform.{Transform}
use Rattle.jpg_spec_move.specs.declared.transform.Transform.TheVariants.{Keep, FlipH, FlipV, Transpose, Transverse, Rotate90, Rotate180, Rotate270}
use Rattle.jpg_spec_write.specs.declared.picture_fault.PictureFault.{PictureFault}
use Rattle.jpg_spec_upright.specs.Exif.{marked_upright, orientation_of}

-- THE SIDES of the displayed picture at which row 0 and column 0 of the stored one are, by the orientation
pub data Side : Type 0 where
  top : Side
  right_side : Side
  bottom : Side
  left_side : Side

abbrev pub row_side : ℕ → Side
row_side orientation =
    if orientation == 3 || orientation == 4 then bottom
    else if orientation == 5 || orientation == 8 then left_side
    else if orientation == 6 || orientation == 7 then right_side
    else top

abbrev pub column_side : ℕ → Side
column_side orientation =
    if orientation == 2 || orientation == 3 then right_side
    else if orientation == 5 || orientation == 6 then top
    else if orientation == 7 || orientation == 8 then bottom
    else left_side

-- the transform after which row 0 is at the top and column 0 at the left
abbrev pub transform_for : ℕ → Transform
transform_for orientation =
    if orientation == 2 then FlipH
    else if orientation == 3 then Rotate180
    else if orientation == 4 then FlipV
    else if orientation == 5 then Transpose
    else if orientation == 6 then Rotate90
    else if orientation == 7 then Transverse
    else if orientation == 8 then Rotate270
    else Keep

-- the picture that is displayed of one, by its orientation
abbrev pub shown : Meaning → Meaning
shown M = transformed (transform_for (orientation_of M.kept)) M

-- THE SWITCH: the orientation chooses the transform, and the kept marker has orientation 1

abbrev pub marked : Meaning → Meaning
marked M = record M { kept = marked_upright M.kept }

abbrev pub upright_choice : Choice → Meaning → Choice
upright_choice choice M = record choice { transform = transform_for (orientation_of M.kept) }

-- by whether the switch is given
abbrev pub choice_for : Bool → Choice → Meaning → Choice
choice_for upright choice M = if upright then upright_choice choice M else choice

abbrev pub picture_for : Bool → Meaning → Meaning
picture_for upright M = if upright then marked M else M

abbrev pub moved_for : Bool → Choice → Meaning → Meaning
moved_for upright choice M = moved (choice_for upright choice M) (picture_for upright M)

abbrev pub text_for : Bool → Choice → Meaning → List ℕ
text_for upright choice M = moved_text (choice_for upright choice M) (picture_for upright M)

abbrev pub fault_for : Bool → Choice → Meaning → Option PictureFault
fault_for upright choice M = picture_fault (choice_for upright choice M) (picture_for upright M)
