-- WHAT THE WORDS of jpgwork ask for, after the command's own: a number from 1 to 400 (the suite's).
use Rattle.std.specs.Prelude.{ℕ, List, [], ◌∷◌, Option, Some, None, if◌then◌else◌, option_and_then}
use Rattle.jpg_spec.specs.Markers.{is_within}
use Rattle.jpg_spec_words.specs.Requests.{ParsedWords, number_of, usage_at, words_right}
use Rattle.jpg_spec_words.specs.declared.answers.UsageFault.TheVariants.{BadValue, MissingValue, TooManyFiles}

abbrev pub work_size : ℕ → Option ℕ
work_size n = if is_within 1 400 n then Some n else None

-- nothing may follow the number
abbrev pub with_size : Option ℕ → List (List ℕ) → ParsedWords ℕ
with_size None words = usage_at BadValue 1
with_size (Some n) [] = words_right n
with_size (Some n) (word ∷ words) = usage_at TooManyFiles 2

abbrev pub work_asked : List (List ℕ) → ParsedWords ℕ
work_asked [] = usage_at MissingValue 1
work_asked (word ∷ words) = with_size (option_and_then work_size (number_of word)) words
