-- WHAT THE WORDS of rdjpgcom and wrjpgcom ask for, after the command's own (their manuals in release 6b).
use Rattle.std.specs.Prelude.{ℕ, ◌+◌, Bool, true, false, if◌then◌else◌, List, [], ◌∷◌, length, codes}
use Rattle.jpg_spec_words.specs.Requests.{FileName, standard_input, FilesAsked, Tool, ParsedWords, from_to, request, then_asks, usage_at, with_input, words_right}
use Rattle.jpg_spec_words.specs.Switches.{Switch}
use Rattle.jpg_spec_words.specs.declared.answers.UsageFault.TheVariants.{UnknownSwitch, TwoComments, NeedsInput}
use Rattle.jpg_spec_words.specs.declared.switch.Flag.{Flag}
use Rattle.jpg_spec_words.specs.declared.switch.Flag.TheVariants as flag
use Rattle.jpg_spec_words.specs.declared.switch.Purpose.TheVariants.{LeftOut, Alone, Valued}
use Rattle.jpg_spec_words.specs.declared.switch.Setting.{Setting}
use Rattle.jpg_spec_words.specs.declared.switch.Setting.TheVariants as setting

-- RDJPGCOM

abbrev pub rdjpgcom_switches : List Switch
rdjpgcom_switches = record { name = codes "verbose"; shortest = 1; purpose = LeftOut } ∷ []

abbrev pub rdjpgcom : Tool FilesAsked
rdjpgcom = record {
  switches = rdjpgcom_switches;
  named = with_input;
  flag = λ flag index files. usage_at UnknownSwitch index;
  setting = λ setting index value files. usage_at UnknownSwitch index;
}

abbrev pub read_asked : List (List ℕ) → ParsedWords FilesAsked
read_asked words = request rdjpgcom (from_to standard_input) words

-- WRJPGCOM

abbrev pub wrjpgcom_switches : List Switch
wrjpgcom_switches =
    record { name = codes "replace"; shortest = 1; purpose = Alone flag.Replace }
    ∷ record { name = codes "comment"; shortest = 1; purpose = Valued setting.Comment }
    ∷ record { name = codes "cfile"; shortest = 2; purpose = Valued setting.CommentFile } ∷ []

-- the source of a comment: standard input, the words, or a file
pub data CommentSource : Type 0 where
  from_input : CommentSource
  from_words : List ℕ → CommentSource
  from_file : List ℕ → CommentSource

pub record WriteAsked : Type 0 where
  pub files : FilesAsked
  pub comment : CommentSource
  pub replace : Bool

-- if no switch is given
abbrev pub write_default : WriteAsked
write_default = record { files = from_to standard_input; comment = from_input; replace = false }

abbrev pub is_given : CommentSource → Bool
is_given from_input = false
is_given (from_words text) = true
is_given (from_file name) = false

abbrev pub is_in_file : CommentSource → Bool
is_in_file from_input = false
is_in_file (from_words text) = false
is_in_file (from_file name) = true

abbrev pub write_flag : Flag → ℕ → WriteAsked → ParsedWords WriteAsked
write_flag flag.Replace index a = words_right (record a { replace = true })
write_flag other index a = usage_at UnknownSwitch index

abbrev pub write_setting : Setting → ℕ → List ℕ → WriteAsked → ParsedWords WriteAsked
write_setting setting.Comment index value a = if is_in_file a.comment then usage_at TwoComments index else words_right (record a { comment = from_words value })
write_setting setting.CommentFile index value a = if is_given a.comment then usage_at TwoComments index else words_right (record a { comment = from_file value })
write_setting other index value a = usage_at UnknownSwitch index

abbrev pub wrjpgcom : Tool WriteAsked
wrjpgcom = record {
  switches = wrjpgcom_switches;
  named = λ name a. record a { files = with_input name a.files };
  flag = write_flag;
  setting = write_setting;
}

-- A comment from standard input excludes a file from standard input.
abbrev pub are_both_input : CommentSource → FileName → Bool
are_both_input from_input standard_input = true
are_both_input source input = false

-- the fault is after all words then, the command's own among them
abbrev pub write_asked : List (List ℕ) → ParsedWords WriteAsked
write_asked words =
    then_asks (request wrjpgcom write_default words) (λ a. if are_both_input a.comment a.files.input then usage_at NeedsInput (length words + 1) else words_right a)
