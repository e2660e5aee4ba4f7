-- WHAT THE WORDS of djpeg ask for, after the command's own (its manual in release 6b).
use Rattle.std.specs.Prelude.{ℕ, ◌+◌, Bool, true, false, nat_le, ◌&&◌, if◌then◌else◌, List, [], ◌∷◌, length, Option, Some, None, option_and_then, codes}
use Rattle.std.specs.Str.{bytes_eq}
use Rattle.jpg_spec_words.specs.Requests.{FilesAsked, Tool, ParsedWords, from_to, is_int, number_of, request, standard_input, usage_at, where_good, with_input, with_output, with_value, words_right}
use Rattle.jpg_spec_words.specs.Switches.{Switch}
use Rattle.jpg_spec_image.specs.declared.image.EndKind.{EndKind}
use Rattle.jpg_spec_image.specs.declared.image.EndKind.TheVariants.{Pnm, Bmp, Targa}
use Rattle.jpg_spec_words.specs.declared.answers.UsageFault.TheVariants.{UnknownSwitch}
use Rattle.jpg_spec_words.specs.declared.switch.Flag.{Flag}
use Rattle.jpg_spec_words.specs.declared.switch.Flag.TheVariants as flag
use Rattle.jpg_spec_words.specs.declared.switch.Purpose.TheVariants.{LeftOut, Alone, Valued}
use Rattle.jpg_spec_words.specs.declared.switch.Setting.{Setting}
use Rattle.jpg_spec_words.specs.declared.switch.Setting.TheVariants as setting

abbrev pub djpeg_switches : List Switch
djpeg_switches =
    record { name = codes "pnm"; shortest = 1; purpose = Alone flag.Pnm }
    ∷ record { name = codes "ppm"; shortest = 1; purpose = Alone flag.Pnm }
    ∷ record { name = codes "bmp"; shortest = 1; purpose = Alone flag.Bmp }
    ∷ record { name = codes "targa"; shortest = 1; purpose = Alone flag.Targa }
    ∷ record { name = codes "grayscale"; shortest = 2; purpose = Alone flag.Gray }
    ∷ record { name = codes "greyscale"; shortest = 2; purpose = Alone flag.Gray }
    ∷ record { name = codes "nosmooth"; shortest = 3; purpose = Alone flag.NoSmooth }
    ∷ record { name = codes "dct"; shortest = 2; purpose = Valued setting.Dct }
    ∷ record { name = codes "scale"; shortest = 1; purpose = Valued setting.Scale }
    ∷ record { name = codes "outfile"; shortest = 4; purpose = Valued setting.Output }
    ∷ record { name = codes "preview"; shortest = 3; purpose = Valued setting.Preview }
    ∷ record { name = codes "colors"; shortest = 1; purpose = LeftOut }
    ∷ record { name = codes "colours"; shortest = 1; purpose = LeftOut }
    ∷ record { name = codes "quantize"; shortest = 1; purpose = LeftOut }
    ∷ record { name = codes "dither"; shortest = 2; purpose = LeftOut }
    ∷ record { name = codes "fast"; shortest = 1; purpose = LeftOut }
    ∷ record { name = codes "gif"; shortest = 1; purpose = LeftOut }
    ∷ record { name = codes "map"; shortest = 3; purpose = LeftOut }
    ∷ record { name = codes "maxmemory"; shortest = 3; purpose = LeftOut }
    ∷ record { name = codes "onepass"; shortest = 3; purpose = LeftOut }
    ∷ record { name = codes "os2"; shortest = 3; purpose = LeftOut }
    ∷ record { name = codes "rle"; shortest = 1; purpose = LeftOut }
    ∷ record { name = codes "verbose"; shortest = 1; purpose = LeftOut }
    ∷ record { name = codes "debug"; shortest = 1; purpose = LeftOut } ∷ []

-- files; the format of the image, and the index of the word that a fault of it has; whether it is in grayscale, and
-- whether samples are smoothed; and how many scans are shown, if not all are
pub record ShowAsked : Type 0 where
  pub files : FilesAsked
  pub kind : EndKind
  pub kind_word : ℕ
  pub gray : Bool
  pub smooth : Bool
  pub preview : Option ℕ

-- If no switch is given, it is PNM, and a fault of it is after all words: this many, the command's own among them.
abbrev pub show_default : ℕ → ShowAsked
show_default count = record { files = from_to standard_input; kind = Pnm; kind_word = count; gray = false; smooth = true; preview = None }

-- no scale but one
abbrev pub is_whole_scale : List ℕ → Bool
is_whole_scale value = bytes_eq value (codes "1/1")

-- how many scans a preview shows: from 1 to 65535
abbrev pub scans_from : ℕ → Option ℕ
scans_from n = if nat_le 1 n && nat_le n 65535 then Some n else None

abbrev pub scans_named : List ℕ → Option ℕ
scans_named value = option_and_then scans_from (number_of value)

abbrev pub show_flag : Flag → ℕ → ShowAsked → ParsedWords ShowAsked
show_flag flag.Pnm index a = words_right (record a { kind = Pnm; kind_word = index })
show_flag flag.Bmp index a = words_right (record a { kind = Bmp; kind_word = index })
show_flag flag.Targa index a = words_right (record a { kind = Targa; kind_word = index })
show_flag flag.Gray index a = words_right (record a { gray = true })
show_flag flag.NoSmooth index a = words_right (record a { smooth = false })
show_flag other index a = usage_at UnknownSwitch index

abbrev pub show_setting : Setting → ℕ → List ℕ → ShowAsked → ParsedWords ShowAsked
show_setting setting.Output index value a = words_right (record a { files = with_output value a.files })
show_setting setting.Dct index value a = where_good index (is_int value) a
show_setting setting.Scale index value a = where_good index (is_whole_scale value) a
show_setting setting.Preview index value a = with_value index (scans_named value) (λ scans. words_right (record a { preview = Some scans }))
show_setting other index value a = usage_at UnknownSwitch index

abbrev pub djpeg : Tool ShowAsked
djpeg = record {
  switches = djpeg_switches;
  named = λ name a. record a { files = with_input name a.files };
  flag = show_flag;
  setting = show_setting;
}

abbrev pub show_asked : List (List ℕ) → ParsedWords ShowAsked
show_asked words = request djpeg (show_default (length words + 1)) words
