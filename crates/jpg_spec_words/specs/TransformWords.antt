-- WHAT THE WORDS of jpegtran ask for, after the command's own (its manual in release 6b).
use Rattle.std.specs.Prelude.{ℕ, Bool, true, false, not, ◌&&◌, ◌||◌, ◌==◌, if◌then◌else◌, List, [], ◌∷◌, Option, None, Some, option_and_then, option_map, codes}
use Rattle.jpg_spec_write.specs.FileText.{Restart, off}
use Rattle.jpg_spec_write.specs.ScansAsked.{Scans}
use Rattle.jpg_spec_write.specs.declared.huffman.Huffman.{Huffman}
use Rattle.jpg_spec_write.specs.declared.huffman.Huffman.TheVariants.{Plain}
use Rattle.jpg_spec_move.specs.Moved.{Choice}
use Rattle.jpg_spec_words.specs.Requests.{FilesAsked, Tool, ParsedWords, from_to, huffman_named, number_of, request, restart_named, standard_input, usage_at, with_input, with_output, with_value, words_right}
use Rattle.jpg_spec_words.specs.Switches.{Switch, abbreviates}
use Rattle.jpg_spec.specs.declared.frame.Copying.{Copying}
use Rattle.jpg_spec.specs.declared.frame.Copying.TheVariants as copying
use Rattle.jpg_spec_move.specs.declared.area.Area.{Area}
use Rattle.jpg_spec_move.specs.declared.transform.Transform.{Transform}
use Rattle.jpg_spec_move.specs.declared.transform.Transform.TheVariants.{Keep, FlipH, FlipV, Transpose, Transverse, Rotate90, Rotate180, Rotate270}
use Rattle.jpg_spec_words.specs.declared.answers.UsageFault.TheVariants.{TwoTransforms, UnknownSwitch}
use Rattle.jpg_spec_words.specs.declared.switch.Flag.{Flag}
use Rattle.jpg_spec_words.specs.declared.switch.Flag.TheVariants as flag
use Rattle.jpg_spec_words.specs.declared.switch.Purpose.TheVariants.{LeftOut, Alone, Valued}
use Rattle.jpg_spec_words.specs.declared.switch.Setting.{Setting}
use Rattle.jpg_spec_words.specs.declared.switch.Setting.TheVariants as setting

abbrev pub jpegtran_switches : List Switch
jpegtran_switches =
    record { name = codes "copy"; shortest = 1; purpose = Valued setting.Copy }
    ∷ record { name = codes "crop"; shortest = 2; purpose = Valued setting.Crop }
    ∷ record { name = codes "flip"; shortest = 1; purpose = Valued setting.Flip }
    ∷ record { name = codes "grayscale"; shortest = 1; purpose = Alone flag.Gray }
    ∷ record { name = codes "greyscale"; shortest = 1; purpose = Alone flag.Gray }
    ∷ record { name = codes "huffman"; shortest = 1; purpose = Valued setting.Huffman }
    ∷ record { name = codes "outfile"; shortest = 4; purpose = Valued setting.Output }
    ∷ record { name = codes "progressive"; shortest = 1; purpose = Alone flag.Progressive }
    ∷ record { name = codes "restart"; shortest = 1; purpose = Valued setting.Restart }
    ∷ record { name = codes "rotate"; shortest = 2; purpose = Valued setting.Rotate }
    ∷ record { name = codes "scans"; shortest = 1; purpose = Valued setting.Scans }
    ∷ record { name = codes "transpose"; shortest = 1; purpose = Alone flag.Transpose }
    ∷ record { name = codes "transverse"; shortest = 6; purpose = Alone flag.Transverse }
    ∷ record { name = codes "trim"; shortest = 3; purpose = Alone flag.Trim }
    ∷ record { name = codes "upright"; shortest = 1; purpose = Alone flag.Upright }
    ∷ record { name = codes "optimize"; shortest = 1; purpose = LeftOut }
    ∷ record { name = codes "optimise"; shortest = 1; purpose = LeftOut }
    ∷ record { name = codes "arithmetic"; shortest = 1; purpose = LeftOut }
    ∷ record { name = codes "verbose"; shortest = 1; purpose = LeftOut }
    ∷ record { name = codes "debug"; shortest = 1; purpose = LeftOut }
    ∷ record { name = codes "maxmemory"; shortest = 3; purpose = LeftOut } ∷ []

-- the source of the output's scans: the default sequential ones, the default progressive ones, or those of a script's
-- file
pub data ScansSource : Type 0 where
  own_sequential : ScansSource
  own_progressive : ScansSource
  in_file : List ℕ → ScansSource

-- -scans has priority over -progressive
abbrev pub with_progressive : ScansSource → ScansSource
with_progressive (in_file name) = in_file name
with_progressive other = own_progressive

-- files, a transform, or that the Exif orientation chooses it, trimming, conversion to grayscale, the area that is cut
-- out, which kept markers are passed on, and in which scans, with which Huffman tables and with which restart intervals
-- it is written
pub record TransformAsked : Type 0 where
  pub files : FilesAsked
  pub transform : Transform
  pub upright : Bool
  pub trim : Bool
  pub gray : Bool
  pub crop : Option Area
  pub copying : Copying
  pub scans : ScansSource
  pub huffman : Huffman
  pub restart : Restart

-- the choice, in these scans
abbrev pub choice_asked : TransformAsked → Scans → Choice
choice_asked a scans = record {
  transform = a.transform;
  trim = a.trim;
  gray = a.gray;
  copying = a.copying;
  scans = scans;
  huffman = a.huffman;
  restart = a.restart;
  crop = a.crop;
}

-- if no switch is given
abbrev pub transform_default : TransformAsked
transform_default = record {
  files = from_to standard_input;
  transform = Keep;
  upright = false;
  trim = false;
  gray = false;
  crop = None;
  copying = copying.Comments;
  scans = own_sequential;
  huffman = Plain;
  restart = off;
}

-- VALUES

-- names, of which a prefix is enough
abbrev pub copying_named : List ℕ → Option Copying
copying_named value =
    if abbreviates 1 (codes "none") value then Some copying.None
    else if abbreviates 1 (codes "comments") value then Some copying.Comments
    else if abbreviates 1 (codes "all") value then Some copying.All
    else None

abbrev pub flip_named : List ℕ → Option Transform
flip_named value =
    if abbreviates 1 (codes "horizontal") value then Some FlipH
    else if abbreviates 1 (codes "vertical") value then Some FlipV
    else None

abbrev pub rotation_of : ℕ → Option Transform
rotation_of degrees = if degrees == 90 then Some Rotate90 else if degrees == 180 then Some Rotate180 else if degrees == 270 then Some Rotate270 else None

abbrev pub rotation_named : List ℕ → Option Transform
rotation_named value = option_and_then rotation_of (number_of value)

-- the text before the first of these bytes and the text after it, if there is one
abbrev pub cut_at : ℕ → List ℕ → Option (List ℕ × List ℕ)
cut_at byte [] = None
cut_at byte (b ∷ text) = if b == byte then Some ([], text) else option_map (λ cut. (b ∷ cut.0, cut.1)) (cut_at byte text)

-- the number before the first of these bytes, and the text after it
abbrev pub number_before : ℕ → List ℕ → Option (ℕ × List ℕ)
number_before byte text = option_and_then (λ cut. option_map (λ n. (n, cut.1)) (number_of cut.0)) (cut_at byte text)

-- AN AREA, WxH+X+Y (120 is x, 43 is +): its sides, of which none is 0, and the place of its corner
abbrev pub area_of : ℕ → ℕ → ℕ → ℕ → Area
area_of w h x y = record { w = w; h = h; x = x; y = y }

abbrev pub area_at : ℕ → ℕ → List ℕ → Option Area
area_at w h text = option_and_then (λ x. option_map (area_of w h x.0) (number_of x.1)) (number_before 43 text)

abbrev pub area_with : ℕ → List ℕ → Option Area
area_with w text = option_and_then (λ h. if w == 0 || h.0 == 0 then None else area_at w h.0 h.1) (number_before 43 text)

abbrev pub area_named : List ℕ → Option Area
area_named value = option_and_then (λ w. area_with w.0 w.1) (number_before 120 value)

-- which of the eight transforms this is
abbrev pub transform_number : Transform → ℕ
transform_number Keep = 0
transform_number FlipH = 1
transform_number FlipV = 2
transform_number Transpose = 3
transform_number Transverse = 4
transform_number Rotate90 = 5
transform_number Rotate180 = 6
transform_number Rotate270 = 7

-- SWITCHES

-- a transform may be asked for again, and no other one
abbrev pub with_transform : ℕ → Transform → TransformAsked → ParsedWords TransformAsked
with_transform index t a =
    if not a.upright && (transform_number a.transform == 0 || transform_number a.transform == transform_number t) then words_right (record a { transform = t })
    else usage_at TwoTransforms index

-- nor with one that the Exif orientation chooses
abbrev pub with_upright : ℕ → TransformAsked → ParsedWords TransformAsked
with_upright index a =
    if transform_number a.transform == 0 then words_right (record a { upright = true }) else usage_at TwoTransforms index

abbrev pub transform_flag : Flag → ℕ → TransformAsked → ParsedWords TransformAsked
transform_flag flag.Transpose index a = with_transform index Transpose a
transform_flag flag.Transverse index a = with_transform index Transverse a
transform_flag flag.Trim index a = words_right (record a { trim = true })
transform_flag flag.Upright index a = with_upright index a
transform_flag flag.Gray index a = words_right (record a { gray = true })
transform_flag flag.Progressive index a = words_right (record a { scans = with_progressive a.scans })
transform_flag other index a = usage_at UnknownSwitch index

abbrev pub transform_setting : Setting → ℕ → List ℕ → TransformAsked → ParsedWords TransformAsked
transform_setting setting.Copy index value a = with_value index (copying_named value) (λ c. words_right (record a { copying = c }))
transform_setting setting.Crop index value a = with_value index (area_named value) (λ area. words_right (record a { crop = Some area }))
transform_setting setting.Flip index value a = with_value index (flip_named value) (λ t. with_transform index t a)
transform_setting setting.Rotate index value a = with_value index (rotation_named value) (λ t. with_transform index t a)
transform_setting setting.Huffman index value a = with_value index (huffman_named value) (λ h. words_right (record a { huffman = h }))
transform_setting setting.Output index value a = words_right (record a { files = with_output value a.files })
transform_setting setting.Scans index value a = words_right (record a { scans = in_file value })
transform_setting setting.Restart index value a = with_value index (restart_named value) (λ r. words_right (record a { restart = r }))
transform_setting other index value a = usage_at UnknownSwitch index

abbrev pub jpegtran : Tool TransformAsked
jpegtran = record {
  switches = jpegtran_switches;
  named = λ name a. record a { files = with_input name a.files };
  flag = transform_flag;
  setting = transform_setting;
}

abbrev pub transform_asked : List (List ℕ) → ParsedWords TransformAsked
transform_asked words = request jpegtran transform_default words
