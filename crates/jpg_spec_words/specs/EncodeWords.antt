-- WHAT THE WORDS of cjpeg ask for, after the command's own (its manual in release 6b).
use Rattle.std.specs.Prelude.{ℕ, zero, suc, ◌-◌, ◌==◌, ◌&&◌, not, nat_le, max, Bool, true, false, if◌then◌else◌, List, [], ◌∷◌, map, slice_index_or, Option, None, Some, option_and_then, option_map, codes}
use Rattle.jpg_spec.specs.Lists.{below, is_empty}
use Rattle.jpg_spec.specs.Markers.{is_within}
use Rattle.jpg_spec.specs.Segments.{QuantTable}
use Rattle.jpg_spec_write.specs.FileText.{Restart, off}
use Rattle.jpg_spec_write.specs.ScansAsked.{Scans}
use Rattle.jpg_spec_write.specs.declared.huffman.Huffman.{Huffman}
use Rattle.jpg_spec_write.specs.declared.huffman.Huffman.TheVariants.{Plain}
use Rattle.jpg_spec_image.specs.Images.{Image}
use Rattle.jpg_spec_image.specs.TableText.{encoding_tables}
use Rattle.jpg_spec_encode.specs.Encoded.{Encoding, count_due}
use Rattle.jpg_spec_words.specs.Requests.{FilesAsked, Tool, ParsedWords, from_to, huffman_named, is_int, number_of, request, restart_named, standard_input, usage_at, where_good, with_input, with_output, with_value, words_right}
use Rattle.jpg_spec_words.specs.Switches.{Switch}
use Rattle.jpg_spec_words.specs.TransformWords.{ScansSource, in_file, own_sequential, with_progressive}
use Rattle.jpg_spec_words.specs.declared.answers.UsageFault.TheVariants.{UnknownSwitch}
use Rattle.jpg_spec_words.specs.declared.switch.Flag.{Flag}
use Rattle.jpg_spec_words.specs.declared.switch.Flag.TheVariants as flag
use Rattle.jpg_spec_words.specs.declared.switch.Purpose.TheVariants.{LeftOut, Alone, Valued}
use Rattle.jpg_spec_words.specs.declared.switch.Setting.{Setting}
use Rattle.jpg_spec_words.specs.declared.switch.Setting.TheVariants as setting

abbrev pub cjpeg_switches : List Switch
cjpeg_switches =
    record { name = codes "quality"; shortest = 1; purpose = Valued setting.Quality }
    ∷ record { name = codes "grayscale"; shortest = 2; purpose = Alone flag.Gray }
    ∷ record { name = codes "greyscale"; shortest = 2; purpose = Alone flag.Gray }
    ∷ record { name = codes "targa"; shortest = 1; purpose = Alone flag.Targa }
    ∷ record { name = codes "baseline"; shortest = 1; purpose = Alone flag.Baseline }
    ∷ record { name = codes "progressive"; shortest = 1; purpose = Alone flag.Progressive }
    ∷ record { name = codes "scans"; shortest = 4; purpose = Valued setting.Scans }
    ∷ record { name = codes "restart"; shortest = 1; purpose = Valued setting.Restart }
    ∷ record { name = codes "huffman"; shortest = 1; purpose = Valued setting.Huffman }
    ∷ record { name = codes "sample"; shortest = 2; purpose = Valued setting.Sample }
    ∷ record { name = codes "qtables"; shortest = 2; purpose = Valued setting.Tables }
    ∷ record { name = codes "dct"; shortest = 2; purpose = Valued setting.Dct }
    ∷ record { name = codes "outfile"; shortest = 4; purpose = Valued setting.Output }
    ∷ record { name = codes "optimize"; shortest = 1; purpose = LeftOut }
    ∷ record { name = codes "optimise"; shortest = 1; purpose = LeftOut }
    ∷ record { name = codes "arithmetic"; shortest = 1; purpose = LeftOut }
    ∷ record { name = codes "verbose"; shortest = 1; purpose = LeftOut }
    ∷ record { name = codes "debug"; shortest = 1; purpose = LeftOut }
    ∷ record { name = codes "maxmemory"; shortest = 3; purpose = LeftOut }
    ∷ record { name = codes "smooth"; shortest = 2; purpose = LeftOut }
    ∷ record { name = codes "qslots"; shortest = 2; purpose = LeftOut } ∷ []

-- files; whether the input is a Targa file; the quality, if it is given; whether the picture is in grayscale, and whether no quantiser has more than one
-- byte; in which scans, with which Huffman tables and with which restart intervals it is written; factors of the first
-- components, and the name of a file that has tables of quantisers, if they are given
pub record EncodeAsked : Type 0 where
  pub files : FilesAsked
  pub targa : Bool
  pub quality : Option ℕ
  pub gray : Bool
  pub baseline : Bool
  pub scans : ScansSource
  pub huffman : Huffman
  pub restart : Restart
  pub factors : List (ℕ × ℕ)
  pub tables : Option (List ℕ)

-- if no switch is given
abbrev pub encode_default : EncodeAsked
encode_default = record {
  files = from_to standard_input;
  targa = false;
  quality = None;
  gray = false;
  baseline = false;
  scans = own_sequential;
  huffman = Plain;
  restart = off;
  factors = [];
  tables = None;
}

-- VALUES

-- a quality from 1 to 100, and 0 as 1
abbrev pub quality_by : ℕ → Option ℕ
quality_by n = if nat_le n 100 then Some (max 1 n) else None

abbrev pub quality_named : List ℕ → Option ℕ
quality_named value = option_and_then quality_by (number_of value)

-- Horizontal and vertical factors, each a digit from 1 to 4, with an x between them; commas between those of at most
-- four components.
abbrev pub is_factor : ℕ → Bool
is_factor b = is_within 49 52 b

abbrev pub are_factors : ℕ → ℕ → ℕ → Bool
are_factors across x down = is_factor across && (x == 120 && is_factor down)

abbrev pub factors_from : ℕ → List ℕ → Option (List (ℕ × ℕ))
factors_from zero text = None
factors_from (suc most) (across ∷ x ∷ down ∷ []) = if are_factors across x down then Some ((across - 48, down - 48) ∷ []) else None
factors_from (suc most) (across ∷ x ∷ down ∷ comma ∷ text) =
    if are_factors across x down && comma == 44 then option_map (λ more. (across - 48, down - 48) ∷ more) (factors_from most text) else None
factors_from (suc most) text = None

abbrev pub factors_named : List ℕ → Option (List (ℕ × ℕ))
factors_named value = factors_from 4 value

-- SWITCHES

abbrev pub encode_flag : Flag → ℕ → EncodeAsked → ParsedWords EncodeAsked
encode_flag flag.Targa index a = words_right (record a { targa = true })
encode_flag flag.Gray index a = words_right (record a { gray = true })
encode_flag flag.Baseline index a = words_right (record a { baseline = true })
encode_flag flag.Progressive index a = words_right (record a { scans = with_progressive a.scans })
encode_flag other index a = usage_at UnknownSwitch index

abbrev pub encode_setting : Setting → ℕ → List ℕ → EncodeAsked → ParsedWords EncodeAsked
encode_setting setting.Quality index value a = with_value index (quality_named value) (λ q. words_right (record a { quality = Some q }))
encode_setting setting.Scans index value a = words_right (record a { scans = in_file value })
encode_setting setting.Restart index value a = with_value index (restart_named value) (λ r. words_right (record a { restart = r }))
encode_setting setting.Huffman index value a = with_value index (huffman_named value) (λ h. words_right (record a { huffman = h }))
encode_setting setting.Sample index value a = with_value index (factors_named value) (λ f. words_right (record a { factors = f }))
encode_setting setting.Tables index value a = words_right (record a { tables = Some value })
encode_setting setting.Dct index value a = where_good index (is_int value) a
encode_setting setting.Output index value a = words_right (record a { files = with_output value a.files })
encode_setting other index value a = usage_at UnknownSwitch index

abbrev pub cjpeg : Tool EncodeAsked
cjpeg = record {
  switches = cjpeg_switches;
  named = λ name a. record a { files = with_input name a.files };
  flag = encode_flag;
  setting = encode_setting;
}

abbrev pub encode_asked : List (List ℕ) → ParsedWords EncodeAsked
encode_asked words = request cjpeg encode_default words

-- THE ENCODING of an image, in these scans and by the tables of a file, if there is one

-- Without given factors the first of three components has twice as many samples horizontally and vertically as the
-- others. Given factors are those of the first components, and the others have 1 by 1.
abbrev pub factors_at : List (ℕ × ℕ) → ℕ → ℕ → ℕ × ℕ
factors_at given count i = if is_empty given then (if i == 0 && not (count == 1) then (2, 2) else (1, 1)) else slice_index_or given i (1, 1)

abbrev pub factors_due : List (ℕ × ℕ) → ℕ → List (ℕ × ℕ)
factors_due given count = map (factors_at given count) (below count)

abbrev pub encoding_asked : EncodeAsked → Scans → Option (List QuantTable) → Image → Encoding
encoding_asked a scans tables image = record {
  gray = a.gray;
  scans = scans;
  huffman = a.huffman;
  restart = a.restart;
  factors = factors_due a.factors (count_due a.gray image.info.kind);
  first = (encoding_tables a.quality a.baseline tables).0;
  others = (encoding_tables a.quality a.baseline tables).1;
}
