-- NUMBERS IN TEXTS (release 6b's wizard.txt): decimal digits, comments that count as space, and numbers with what is before them.
use Rattle.std.specs.Prelude.{ℕ, ◌+◌, ◌-◌, ◌*◌, Bool, List, [], ◌∷◌, not, ◌||◌, ◌==◌, if◌then◌else◌, ◌++◌, map, flat_map}
use Rattle.jpg_spec.specs.Markers.{is_within}

-- numbers of one to five decimal digits
abbrev pub is_digit : ℕ → Bool
is_digit b = is_within 48 57 b

abbrev pub digits_from : ℕ → List ℕ → ℕ
digits_from n [] = n
digits_from n (d ∷ digits) = digits_from (10 * n + (d - 48)) digits

-- COMMENTS count as space

-- a byte of a comment: it begins with # and goes on up to LF, or the end
abbrev pub in_comment : Bool → ℕ → Bool
in_comment behind b = if behind then not (b == 10) else b == 35

abbrev pub without_comments : Bool → List ℕ → List ℕ
without_comments behind [] = []
without_comments behind (b ∷ bytes) = (if in_comment behind b then 32 else b) ∷ without_comments (in_comment behind b) bytes

-- space, TAB, LF, FF, CR
abbrev pub is_space : ℕ → Bool
is_space b = b == 32 || (b == 9 || (b == 10 || (b == 12 || b == 13)))

-- a number, and what precedes it
pub record NumberWord : Type 0 where
  pub gap : List ℕ
  pub digits : List ℕ

-- numbers, and the space after them
pub record NumbersWord : Type 0 where
  pub numbers : List NumberWord
  pub after : List ℕ

abbrev pub number_text : NumberWord → List ℕ
number_text w = w.gap ++ w.digits

abbrev pub numbers_text : NumbersWord → List ℕ
numbers_text w = flat_map number_text w.numbers ++ w.after

abbrev pub parsed_numbers : NumbersWord → List ℕ
parsed_numbers w = map (λ n. digits_from 0 n.digits) w.numbers
