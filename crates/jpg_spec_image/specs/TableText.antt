-- THE TEXT OF TABLES, and the two tables that images are encoded by (the manual of cjpeg, "-qtables" and "-quality";
-- the bounds of numbers and bytes are the suite's). A text encodes tables if it has a spelling: its numbers with the
-- space around them.
use Rattle.std.specs.Prelude.{◌≡◌, ℕ, ◌*◌, ◌/◌, ◌≤◌, Bool, true, false, not, nat_le, ◌&&◌, ◌||◌, ◌==◌, List, [], ◌∷◌, length, map, take, drop, slice_get, Option, None, Some, IfSome, Result}
use Rattle.jpg_spec.specs.Lists.{all_of, is_empty, below}
use Rattle.jpg_spec.specs.NumberTexts.{is_digit, digits_from, without_comments, is_space, NumberWord, NumbersWord, numbers_text, parsed_numbers}
use Rattle.jpg_spec.specs.Segments.{QuantTable}
use Rattle.jpg_spec.specs.TextForms.{TextForm, Tells}
use Rattle.jpg_spec_image.specs.Quality.{in_zigzag, luminance_table, chrominance_table, quality_scale, scaled_table}
use Rattle.jpg_spec.specs.declared.fault.FaultAt.{FaultAt}
use Rattle.jpg_spec.specs.declared.fault.Fault.TheVariants.{TableText}

-- THEIR RULES: space is before each number, and may be missing before the first.

-- one to five digits, 65535 at most
abbrev pub is_quantiser_number : List ℕ → Bool
is_quantiser_number digits = (nat_le 1 (length digits) && nat_le (length digits) 5) && (all_of is_digit digits && nat_le (digits_from 0 digits) 65535)

abbrev pub is_first_quantiser : NumberWord → Bool
is_first_quantiser w = all_of is_space w.gap && is_quantiser_number w.digits

abbrev pub is_further_quantiser : NumberWord → Bool
is_further_quantiser w = not (is_empty w.gap) && is_first_quantiser w

abbrev pub are_apart : List NumberWord → Bool
are_apart [] = true
are_apart (w ∷ words) = is_first_quantiser w && all_of is_further_quantiser words

-- as many numbers as one to four tables have
abbrev pub is_count : ℕ → Bool
is_count n = n == 64 || (n == 128 || (n == 192 || n == 256))

abbrev pub are_tables : NumbersWord → Bool
are_tables w = (are_apart w.numbers && all_of is_space w.after) && is_count (length w.numbers)

-- THEIR MEANINGS: each 64 numbers are a table, row by row

abbrev pub table_at : List ℕ → ℕ → QuantTable
table_at numbers i = in_zigzag (take 64 (drop (64 * i) numbers))

abbrev pub tables_of : List ℕ → List QuantTable
tables_of numbers = map (table_at numbers) (below (length numbers / 64))

-- The text encodes the tables.
pub record SpellsTables (text : List ℕ) (tables : List QuantTable) : Type 0 where
  pub word : NumbersWord
  pub formed : are_tables word ≡ true
  pub spelled : without_comments false text ≡ numbers_text word
  pub told : tables_of (parsed_numbers word) ≡ tables

-- the form of tables
abbrev pub tables_form : TextForm (List QuantTable)
tables_form = record { spells = SpellsTables; fault = TableText }

-- the tables of a text, or its fault and its place
abbrev pub TellsTables : List ℕ → Result (List QuantTable) FaultAt → Type 0
TellsTables text told = Tells tables_form text told

-- THE TWO TABLES of images: the first two of a file, scaled if a quality is given. One that isn't there is K.1 or K.2,
-- at the quality given or at 75.

abbrev pub quality_due : Option ℕ → ℕ
quality_due None = 75
quality_due (Some quality) = quality

abbrev pub file_scale : Option ℕ → ℕ
file_scale None = 100
file_scale (Some quality) = quality_scale quality

abbrev pub table_due : Option ℕ → Bool → QuantTable → Option QuantTable → QuantTable
table_due quality baseline standard None = scaled_table (quality_scale (quality_due quality)) baseline standard
table_due quality baseline standard (Some told) = scaled_table (file_scale quality) baseline told

abbrev pub file_tables : Option (List QuantTable) → List QuantTable
file_tables None = []
file_tables (Some tables) = tables

-- a quality, if one is given, is from 1 to 100
abbrev pub IsQuality : Option ℕ → Type 0
IsQuality quality = IfSome quality (λ q. (1 ≤ q) × (q ≤ 100))

-- by a quality, whether a baseline file is asked for, and the tables of a file
abbrev pub encoding_tables : Option ℕ → Bool → Option (List QuantTable) → QuantTable × QuantTable
encoding_tables quality baseline file =
    (table_due quality baseline luminance_table (slice_get (file_tables file) 0), table_due quality baseline chrominance_table (slice_get (file_tables file) 1))
