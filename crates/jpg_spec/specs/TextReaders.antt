-- TEXTS READ BYTE BY BYTE: a state, a step for each byte, and what the text encodes if it ends there.
use Rattle.std.specs.Prelude.{◌≡◌, ◌⊎◌, ℕ, ◌≤◌, Bool, true, false, if◌then◌else◌, List, [], ◌∷◌, length, Option, None, Some, option_map, option_and_then, Result, Ok, Err}
use Rattle.jpg_spec.specs.declared.fault.FaultAt.{FaultAt}
use Rattle.jpg_spec.specs.NumberTexts.{in_comment}
use Rattle.jpg_spec.specs.TextForms.{TextForm, longest_text, IsWrongByte, IsTooLong}

pub record TextReader (A S : Type 0) : Type 0 where
  pub start : S
  pub step : S → ℕ → Option S
  pub told : S → Option A

-- of no bytes, or of one more and the rest
unfoldable pub run : {S : Type 0} → (S → ℕ → Option S) → S → List ℕ → Option S
run step s [] = Some s
run step s (b ∷ bytes) = option_and_then (λ t. run step t bytes) (step s b)

-- a result: whether the byte was taken, and the state then
abbrev pub taken : {S : Type 0} → Bool → S → Option S
taken true s = Some s
taken false s = None

-- COMMENTS are read as space: whether the last byte was in one, and the state

pub record ReaderState (S : Type 0) : Type 0 where
  pub behind : Bool
  pub text : S

abbrev pub reader_step : {S : Type 0} → (S → ℕ → Option S) → ReaderState S → ℕ → Option (ReaderState S)
reader_step step s b = option_map (λ text. record { behind = in_comment s.behind b; text = text }) (step s.text (if in_comment s.behind b then 32 else b))

-- outside comments
abbrev pub plain : {S : Type 0} → S → ReaderState S
plain s = record { behind = false; text = s }

abbrev pub read_by : {A S : Type 0} → TextReader A S → List ℕ → Option (ReaderState S)
read_by r bytes = run (reader_step r.step) (plain r.start) bytes

-- all bytes are read, or one is wrong
abbrev pub IsRead : {A S : Type 0} → TextForm A → TextReader A S → List ℕ → Result (ReaderState S) FaultAt → Type 0
IsRead f r text (Ok s) = (length text ≤ longest_text) × (read_by r text ≡ Some s)
IsRead {A} f r text (Err e) = (e.fault ≡ f.fault) × (IsWrongByte A f text e.at ⊎ IsTooLong A f text e.at)
