-- THE TEXT OF A PNM IMAGE: P and a digit; then width, height and the greatest sample in decimal numbers after space and
-- comments; then the samples, as numbers (P2, P3) or as bytes (P5, P6).
use Rattle.std.specs.Prelude.{◌≡◌, ℕ, ◌+◌, ◌*◌, ◌/◌, Bool, true, false, nat_lt, not, ◌&&◌, ◌||◌, ◌==◌, if◌then◌else◌, List, [], ◌∷◌, ◌++◌, length, map, flat_map, slice_index_or, Option, None, Some, is_none, codes}
use Rattle.jpg_spec.specs.Lists.{is_empty, is_among, all_of}
use Rattle.jpg_spec.specs.NumberTexts.{is_digit, digits_from, in_comment, without_comments, NumberWord, number_text}
use Rattle.jpg_spec_image.specs.Images.{sample_count, is_side, are_few_pixels}
use Rattle.jpg_spec.specs.declared.fault.Fault.{Fault}
use Rattle.jpg_spec.specs.declared.fault.Fault.TheVariants.{ImageText, ImageHeader, ImageUnsupported, ImageValue}
use Rattle.jpg_spec_image.specs.declared.image.ImageKind.{ImageKind}
use Rattle.jpg_spec_image.specs.declared.image.ImageKind.TheVariants.{Gray, Rgb}
use Rattle.jpg_spec_image.specs.declared.image.ImageInfo.{ImageInfo}

-- FORMATS

abbrev pub is_plain : ℕ → Bool
is_plain format = is_among format (codes "23")

abbrev pub is_raw : ℕ → Bool
is_raw format = is_among format (codes "56")

abbrev pub is_read : ℕ → Bool
is_read format = is_plain format || is_raw format

-- bitmaps and PAM
abbrev pub is_left_out : ℕ → Bool
is_left_out format = is_among format (codes "147")

abbrev pub pnm_kind : ℕ → ImageKind
pnm_kind format = if is_among format (codes "25") then Gray else Rgb

-- GAPS: space and comments. A comment begins with # and ends with LF.

-- space, TAB, LF, CR
abbrev pub is_pnm_space : ℕ → Bool
is_pnm_space b = is_among b (32 ∷ 9 ∷ 10 ∷ 13 ∷ [])

abbrev pub begins_gap : ℕ → Bool
begins_gap b = is_pnm_space b || b == 35

-- whether a comment goes on after these bytes
abbrev pub ends_in_comment : Bool → List ℕ → Bool
ends_in_comment behind [] = behind
ends_in_comment behind (b ∷ bytes) = ends_in_comment (in_comment behind b) bytes

-- space and comments, the last of which may go on
abbrev pub is_gap_so_far : List ℕ → Bool
is_gap_so_far gap = all_of is_pnm_space (without_comments false gap)

abbrev pub is_gap : List ℕ → Bool
is_gap gap = (is_gap_so_far gap && not (ends_in_comment false gap)) && not (is_empty gap)

-- NUMBERS, of any length

abbrev pub is_number_word : NumberWord → Bool
is_number_word w = is_gap w.gap && (not (is_empty w.digits) && all_of is_digit w.digits)

abbrev pub parsed_number : NumberWord → ℕ
parsed_number w = digits_from 0 w.digits

-- the meaning of the first two
abbrev pub pnm_info : ℕ → List ℕ → ImageInfo
pnm_info format numbers = record {
  width = slice_index_or numbers 0 0;
  height = slice_index_or numbers 1 0;
  kind = pnm_kind format;
  x_metre = 0;
  y_metre = 0;
}

-- and the third
abbrev pub greatest_sample : List ℕ → ℕ
greatest_sample numbers = slice_index_or numbers 2 0

-- three, and in P2 and P3 the samples
abbrev pub numbers_due : ℕ → List ℕ → ℕ
numbers_due format numbers = if is_plain format then 3 + sample_count (pnm_info format numbers) else 3

-- a further number is expected after these
abbrev pub is_number_due : ℕ → List ℕ → Bool
is_number_due format numbers = nat_lt (length numbers) (numbers_due format numbers)

-- what is wrong with a number after these
abbrev pub number_fault : List ℕ → ℕ → Option Fault
number_fault [] width = if is_side width then None else Some ImageHeader
number_fault (width ∷ []) height = if is_side height && are_few_pixels width height then None else Some ImageHeader
number_fault (width ∷ height ∷ []) most = if most == 0 then Some ImageHeader else if nat_lt 255 most then Some ImageUnsupported else None
number_fault (width ∷ height ∷ most ∷ samples) sample = if nat_lt most sample then Some ImageValue else None

-- What is allowed after these numbers: space or a comment if a further one is expected, space after the third of P5 and
-- P6, any byte, which isn't judged, after the last of P2 and P3. (A digit goes on with the number.)
abbrev pub may_follow : ℕ → List ℕ → ℕ → Bool
may_follow format numbers b = if is_number_due format numbers then begins_gap b else is_plain format || is_pnm_space b

-- what is wrong where a number ends before a byte
abbrev pub ended_fault : ℕ → List ℕ → ℕ → ℕ → Option Fault
ended_fault format numbers n b = if may_follow format (numbers ++ n ∷ []) b then number_fault numbers n else Some ImageText

-- the numbers, after those before, are expected, and nothing is wrong with them
abbrev pub are_right_numbers : ℕ → List ℕ → List ℕ → Bool
are_right_numbers format before [] = true
are_right_numbers format before (n ∷ numbers) = (is_number_due format before && is_none (number_fault before n)) && are_right_numbers format (before ++ n ∷ []) numbers

-- THE TEXT SO FAR

-- P, the format's digit, and numbers with which nothing is wrong. A further one is expected, and these bytes are in its
-- place.
pub record AfterNumbers (bytes : List ℕ) (format : ℕ) (numbers : List ℕ) (tail : List ℕ) : Type 0 where
  pub words : List NumberWord
  pub cut : bytes ≡ 80 ∷ format ∷ (flat_map number_text words ++ tail)
  pub known : is_read format ≡ true
  pub formed : all_of is_number_word words ≡ true
  pub told : map parsed_number words ≡ numbers
  pub right : are_right_numbers format [] numbers ≡ true
  pub due : is_number_due format numbers ≡ true

-- The further number is there, and these bytes follow it.
pub record AfterNumber (bytes : List ℕ) (format : ℕ) (numbers : List ℕ) (n : ℕ) (after : List ℕ) : Type 0 where
  pub word : NumberWord
  pub before : AfterNumbers bytes format numbers (number_text word ++ after)
  pub formed : is_number_word word ≡ true
  pub told : parsed_number word ≡ n

-- It is the last one.
pub record AfterLast (bytes : List ℕ) (format : ℕ) (numbers : List ℕ) (after : List ℕ) : Type 0 where
  pub before : List ℕ
  pub last : ℕ
  pub all : numbers ≡ before ++ last ∷ []
  pub read : AfterNumber bytes format before last after
  pub right : number_fault before last ≡ None
  pub none_due : is_number_due format numbers ≡ false

-- SAMPLES, from 0 to the greatest one, become 0 to 255
abbrev pub scaled_sample : ℕ → ℕ → ℕ
scaled_sample most sample = (255 * sample + most / 2) / most
