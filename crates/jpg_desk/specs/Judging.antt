-- WHAT IS JUDGED of an input, and of the bytes of it that were read.
use Rattle.std.specs.Prelude.{◌≡◌, ℕ, ◌≤◌, List, [], ◌∷◌, ◌++◌, length, Option, None, Some}
use Rattle.jpg_base.specs.declared.names.Name.{Name}
use Rattle.jpg_base.specs.declared.names.Put.TheVariants as put
use Rattle.std.specs.Io.KnownBytes.{Consumes}
use Rattle.jpg_base.specs.Desk.{DeskState, Rose}
use Rattle.jpg_spec.specs.Segments.{standard_limits}
use Rattle.jpg_spec.specs.declared.fault.FaultAt.{FaultAt}
use Rattle.jpg_spec_words.specs.declared.answers.Why.{Why}
use Rattle.jpg_spec_words.specs.declared.answers.Why.TheVariants as why
use Rattle.jpg_spec_words.specs.declared.answers.Which.TheVariants as which
use Rattle.jpg_desk.specs.Endings.{Stopped, Unopened, Unread}
use Rattle.jpg_desk.specs.Reading.{IsFile, rest_of}

-- OF A FILE: it has this value, as a complete one or as one that ends early after this many bytes; it is refused with
-- this fault. OF ITS BYTES that were read, where this rest is left: the file has this value; it is refused with this
-- fault; or these are fewer than may be taken, and reveal neither; or they do so up to their last piece.
pub record Judging (V : Type 0) : Type 1 where
  pub means : Option ℕ → V → List ℕ → Type 0
  pub refuses : FaultAt → List ℕ → Type 0
  pub has : V → Option ℕ → List ℕ → List ℕ → Type 0
  pub refused : FaultAt → List ℕ → List ℕ → Type 0
  pub unfinished : List ℕ → Type 0
  pub short : List ℕ → Type 0

-- AN INPUT: the file of this name, or none

abbrev pub input_names : Option Name → List Name
input_names None = []
input_names (Some file) = file ∷ []

-- These are its bytes, if the files are known. Where there is no input, there are no bytes.
abbrev pub IsInput : Option (Name → Option (List ℕ)) → Option Name → List ℕ → Type 0
IsInput files None bytes = bytes ≡ []
IsInput files (Some file) bytes = IsFile files file bytes

-- those of them that are left
abbrev pub left_of : Option Name → DeskState → List ℕ
left_of None new = []
left_of (Some file) new = rest_of new.left

-- Bytes of it, no more than may be, were read; this holds of them, and the others are left.
pub record ReadsFrom (input : Option Name) (Is : List ℕ → Type 0) (old new : DeskState) : Type 0 where
  pub bytes : List ℕ
  pub read : IsInput old.files input (bytes ++ left_of input new)
  pub most : length bytes ≤ standard_limits.input
  pub is : Is bytes

-- Up to the last piece of them, of at most 65,536, this holds of the bytes.
pub record UpToPiece (Is : List ℕ → Type 0) (bytes : List ℕ) : Type 0 where
  pub front : List ℕ
  pub piece : List ℕ
  pub cut : bytes ≡ front ++ piece
  pub few : length piece ≤ 65536
  pub before : Is front

-- if they end early, they are all of the file
abbrev pub IsAllRead : Option ℕ → DeskState → Type 0
IsAllRead None new = Unit {0}
IsAllRead (Some n) new = rest_of new.left ≡ []

-- the result when the complete output was written
abbrev pub done_as : Option ℕ → Why
done_as None = why.Done
done_as (Some n) = why.Warned n

-- WHY THERE IS NO VALUE of the file of this name: nothing was done but reading
abbrev pub NoValueRead : {V : Type 0} → Judging V → Name → DeskState → Why → DeskState → Type 0
NoValueRead j file old (why.Refused f) new = Stopped (file ∷ []) put.Done old new × ReadsFrom (Some file) (j.refused f (rest_of new.left)) old new
NoValueRead j file old (why.OpenFault which.Input) new = Unopened (file ∷ []) old new
NoValueRead j file old (why.ReadFault which.Input) new = Unread (file ∷ []) old new × ReadsFrom (Some file) j.unfinished old new
NoValueRead j file old why.NoMemory new = Stopped (file ∷ []) put.Done old new × ReadsFrom (Some file) j.short old new
NoValueRead j file old other new = ⊥

-- FROM A DESK whose input is open: bytes of it, no more than may be, are read, and this holds of them
abbrev pub TakesPieces : (List ℕ → Type 0) → DeskState → DeskState → Type 0
TakesPieces Is old new = (bytes : List ℕ) × Consumes old.left new.left bytes × (length bytes ≤ standard_limits.input) × Is bytes

-- why there is no value of them
abbrev pub NoValueTaken : {V : Type 0} → Judging V → DeskState → Why → DeskState → Type 0
NoValueTaken j old (why.Refused f) new = TakesPieces (j.refused f (rest_of new.left)) old new
NoValueTaken j old (why.ReadFault which.Input) new = TakesPieces j.unfinished old new × Rose old.counts.reads new.counts.reads
NoValueTaken j old why.NoMemory new = TakesPieces j.short old new
NoValueTaken j old other new = ⊥
