-- THE TEXT OF A SCRIPT (release 6b's wizard.txt, "Multiple Scan / Progression Control"; the bounds of numbers, entries
-- and bytes are the suite's). A text encodes a script if it has a spelling: its numbers with all that is around them.
use Rattle.std.specs.Prelude.{◌≡◌, ℕ, Bool, true, false, not, nat_le, ◌&&◌, ◌||◌, ◌==◌, List, [], ◌∷◌, ◌++◌, length, map, flat_map, slice_index_or, Option, None, Some, Result}
use Rattle.jpg_spec.specs.Lists.{all_of, is_empty}
use Rattle.jpg_spec.specs.NumberTexts.{is_digit, digits_from, is_space, NumbersWord, numbers_text, NumberWord, parsed_numbers, without_comments}
use Rattle.jpg_spec.specs.TextForms.{TextForm, Tells}
use Rattle.jpg_spec_write.specs.Script.{Entry}
use Rattle.jpg_spec.specs.declared.fault.FaultAt.{FaultAt}
use Rattle.jpg_spec.specs.declared.fault.Fault.TheVariants.{ScriptText}

-- BYTES

-- comma and hyphen
abbrev pub is_joint : ℕ → Bool
is_joint b = b == 44 || b == 45

abbrev pub is_between : ℕ → Bool
is_between b = is_space b || is_joint b

-- one to three digits, 255 at most
abbrev pub is_script_number : List ℕ → Bool
is_script_number digits = (nat_le 1 (length digits) && nat_le (length digits) 3) && (all_of is_digit digits && nat_le (digits_from 0 digits) 255)

-- SPELLINGS

-- the components, and Ss, Se, Ah and Al after a colon
pub record EntryWord : Type 0 where
  pub components : NumbersWord
  pub band : Option NumbersWord

-- Entries that end with a semicolon, one that doesn't, if any, and space.
pub record ScriptWord : Type 0 where
  pub ended : List EntryWord
  pub last : Option EntryWord
  pub after : List ℕ

-- THEIR TEXTS

abbrev pub band_text : Option NumbersWord → List ℕ
band_text None = []
band_text (Some w) = 58 ∷ numbers_text w

abbrev pub entry_text : EntryWord → List ℕ
entry_text w = numbers_text w.components ++ band_text w.band

abbrev pub ended_text : EntryWord → List ℕ
ended_text w = entry_text w ++ 59 ∷ []

abbrev pub last_text : Option EntryWord → List ℕ
last_text None = []
last_text (Some w) = entry_text w

abbrev pub script_text : ScriptWord → List ℕ
script_text w = flat_map ended_text w.ended ++ last_text w.last ++ w.after

-- THEIR RULES: only space is before the first number of a list and after the last; between two is a run of spaces,
-- commas and hyphens.

abbrev pub is_first : NumberWord → Bool
is_first w = all_of is_space w.gap && is_script_number w.digits

abbrev pub is_further : NumberWord → Bool
is_further w = (not (is_empty w.gap) && all_of is_between w.gap) && is_script_number w.digits

abbrev pub are_joined : List NumberWord → Bool
are_joined [] = false
are_joined (w ∷ words) = is_first w && all_of is_further words

abbrev pub are_numbers : NumbersWord → Bool
are_numbers w = are_joined w.numbers && all_of is_space w.after

-- one to four components, and exactly four numbers after a colon
abbrev pub is_band_word : Option NumbersWord → Bool
is_band_word None = true
is_band_word (Some w) = are_numbers w && length w.numbers == 4

abbrev pub is_entry : EntryWord → Bool
is_entry w = (are_numbers w.components && nat_le (length w.components.numbers) 4) && is_band_word w.band

abbrev pub last_entry : Option EntryWord → List EntryWord
last_entry None = []
last_entry (Some w) = w ∷ []

abbrev pub entries : ScriptWord → List EntryWord
entries w = w.ended ++ last_entry w.last

-- 1 to 100 entries
abbrev pub is_script : ScriptWord → Bool
is_script w = all_of is_entry (entries w) && ((nat_le 1 (length (entries w)) && nat_le (length (entries w)) 100) && all_of is_space w.after)

-- THEIR MEANINGS

-- a scan of these components, by four numbers
abbrev pub banded : List ℕ → List ℕ → Entry
banded components numbers = record {
  components = components;
  ss = slice_index_or numbers 0 0;
  se = slice_index_or numbers 1 0;
  ah = slice_index_or numbers 2 0;
  al = slice_index_or numbers 3 0;
}

-- without a colon all coefficients with all their bits
abbrev pub parsed_band : Option NumbersWord → List ℕ
parsed_band None = 0 ∷ 63 ∷ 0 ∷ 0 ∷ []
parsed_band (Some w) = parsed_numbers w

abbrev pub parsed_entry : EntryWord → Entry
parsed_entry w = banded (parsed_numbers w.components) (parsed_band w.band)

-- The text encodes the script.
pub record Spells (text : List ℕ) (script : List Entry) : Type 0 where
  pub word : ScriptWord
  pub formed : is_script word ≡ true
  pub spelled : without_comments false text ≡ script_text word
  pub told : map parsed_entry (entries word) ≡ script

-- the form of scripts
abbrev pub script_form : TextForm (List Entry)
script_form = record { spells = Spells; fault = ScriptText }

-- the script of a text, or its fault and its place
abbrev pub TellsScript : List ℕ → Result (List Entry) FaultAt → Type 0
TellsScript text told = Tells script_form text told
