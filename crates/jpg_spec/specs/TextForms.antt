-- TEXTS OF A FORM: what one encodes, or where it is wrong: at the first byte that no text of the form has there, at its
-- end if it ends too early, or after the longest text.
use Rattle.std.specs.Prelude.{◌≡◌, ◌⊎◌, ℕ, ◌+◌, ◌<◌, ◌≤◌, List, ◌++◌, length, take, Result, Ok, Err}
use Rattle.jpg_spec.specs.declared.fault.Fault.{Fault}
use Rattle.jpg_spec.specs.declared.fault.FaultAt.{FaultAt}

-- what its texts encode, and the fault of those that are wrong
pub record TextForm (A : Type 0) : Type 1 where
  pub spells : List ℕ → A → Type 0
  pub fault : Fault

-- in bytes, of each form
abbrev pub longest_text : ℕ
longest_text = 65536

-- some text of the form begins with these bytes
abbrev pub Begins : {A : Type 0} → TextForm A → List ℕ → Type 0
Begins {A} f bytes = (rest : List ℕ) × ((told : A) × f.spells (bytes ++ rest) told)

pub record IsWrongByte (A : Type 0) (f : TextForm A) (text : List ℕ) (place : ℕ) : Type 0 where
  pub before : ℕ
  pub place_is : place ≡ before + 1
  pub there : before < length text
  pub early : before < longest_text
  pub begins : Begins f (take before text)
  pub wrong : Begins f (take place text) → ⊥

pub record EndsTooEarly (A : Type 0) (f : TextForm A) (text : List ℕ) (place : ℕ) : Type 0 where
  pub place_is : place ≡ length text
  pub short : length text ≤ longest_text
  pub begins : Begins f text
  pub wrong : (told : A) → f.spells text told → ⊥

pub record IsTooLong (A : Type 0) (f : TextForm A) (text : List ℕ) (place : ℕ) : Type 0 where
  pub place_is : place ≡ longest_text + 1
  pub long : longest_text < length text
  pub begins : Begins f (take longest_text text)

abbrev pub IsWrongText : {A : Type 0} → TextForm A → List ℕ → ℕ → Type 0
IsWrongText {A} f text place = IsWrongByte A f text place ⊎ (EndsTooEarly A f text place ⊎ IsTooLong A f text place)

-- what a text encodes, or its fault and its place
abbrev pub Tells : {A : Type 0} → TextForm A → List ℕ → Result A FaultAt → Type 0
Tells f text (Ok told) = (length text ≤ longest_text) × f.spells text told
Tells f text (Err e) = (e.fault ≡ f.fault) × IsWrongText f text e.at

-- two results of a text are the same
abbrev pub HasOneAnswer : {A : Type 0} → TextForm A → List ℕ → Type 0
HasOneAnswer {A} f text = (a b : Result A FaultAt) → Tells f text a → Tells f text b → a ≡ b
