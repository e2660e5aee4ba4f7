-- What the words of a command ask for, as the functions return it.
use Rattle.std.specs.Prelude.{◌≡◌, ℕ, ◌+◌, ◌<◌, List, [], drop, length, slice_index_or, Result, Ok, Err}
use Rattle.std.specs.Borrow.{Bor}
use Rattle.jpg_spec_words.specs.Requests.{Tool, ParsedWords, request_from, words_right, words_wrong}
use Rattle.jpg_spec_words.specs.declared.answers.Usage.{Usage}
use Rattle.jpg_spec_words.specs.declared.answers.UsageFault.{UsageFault}
use Rattle.jpg_spec_words.specs.declared.answers.UsageFault.TheVariants.{MissingValue}
use Rattle.jpg_words.specs.declared.files.WordsStop.{WordsStop}
use Rattle.jpg_words.specs.declared.files.WordsStop.TheVariants as stop

-- If the words are right, what they ask for; if they aren't, what is wrong.
abbrev pub AnswersWords : {X Y : Type 0} → (X → Y) → ParsedWords Y → Result X Usage → Type 0
AnswersWords meaning asked (Ok x) = asked ≡ words_right (meaning x)
AnswersWords meaning asked (Err usage) = asked ≡ words_wrong usage

-- What the words ask for, NoMemory if they are right, or what is wrong with them.
abbrev pub IsAnswer : {X Y : Type 0} → (X → Y) → ParsedWords Y → Result X WordsStop → Type 0
IsAnswer meaning asked (Ok x) = asked ≡ words_right (meaning x)
IsAnswer meaning asked (Err (stop.Usage usage)) = asked ≡ words_wrong usage
IsAnswer {Y} meaning asked (Err stop.NoMemory) = (y : Y) × (asked ≡ words_right y)

-- the word of this index
abbrev pub word_at : List (List ℕ) → ℕ → List ℕ
word_at words index = slice_index_or words index []

abbrev pub usage_view : UsageFault → ℕ → Usage
usage_view fault index = record { fault = fault; word = index }

-- The value of the switch of this index is the word after it, if there is one.
abbrev pub IsValue : List (List ℕ) → ℕ → Result (Bor (List ℕ)) Usage → Type 0
IsValue words index (Ok text) = (index + 1 < length words) × (text.now ≡ word_at words (index + 1))
IsValue words index (Err fault) = (length words ≡ index + 1) × (fault ≡ usage_view MissingValue index)

-- what the words from this index on ask for, after the switches before
abbrev pub asked_from : {R : Type 0} → Tool R → List (List ℕ) → ℕ → R → ParsedWords R
asked_from tool words index a = request_from tool index a (drop index words)

-- After a switch the words ask for the same, or the switch is wrong.
abbrev pub IsStep : {S R : Type 0} → Tool R → (S → R) → List (List ℕ) → ℕ → S → Result (S × ℕ) Usage → Type 0
IsStep tool said words index s (Ok p) = asked_from tool words index (said s) ≡ asked_from tool words p.1 (said p.0)
IsStep tool said words index s (Err usage) = asked_from tool words index (said s) ≡ words_wrong usage
