-- HOW THE BYTES of a file are taken, some at a time.
use Rattle.std.specs.Prelude.{◌≡◌, ◌⊎◌, ℕ, ◌<◌, ◌≤◌, Bool, false, true, List, ◌++◌, length, take, Result, Ok, Err}
use Rattle.jpg_base.specs.declared.stop.Fed.{Fed}
use Rattle.jpg_base.specs.declared.stop.Fed.TheVariants as fed
use Rattle.jpg_base.specs.declared.stop.Stop.{Stop}
use Rattle.jpg_base.specs.declared.stop.Stop.TheVariants as stop
use Rattle.jpg_spec.specs.declared.fault.Fault.TheVariants.{InputTooLong}

-- Of a state and what its results go to: what holds after further bytes since some state, by the result of the last of
-- them (whether the file is complete, or why it stops); how many bytes were taken in all, and how many may be.
pub record IntakeKind (S O : Type 0) : Type 1 where
  pub after : S × O → List ℕ → Result Bool Stop → S × O → Type 0
  pub taken : S → ℕ
  pub most : S → ℕ

-- the result of a test for the limit
abbrev pub IsWithinLimit : ℕ → ℕ → Result (Unit {0}) Stop → Type 0
IsWithinLimit taken most (Ok u) = taken < most
IsWithinLimit taken most (Err e) = (most ≤ taken) × (e ≡ stop.Fault (record { fault = InputTooLong; at = most }))

abbrev pub ChecksRoom : {S O : Type 0} → IntakeKind S O → S → Result (Unit {0}) Stop → Type 0
ChecksRoom k s answer = IsWithinLimit (k.taken s) (k.most s) answer

abbrev pub IsOpen : {S O : Type 0} → IntakeKind S O → S × O → Type 0
IsOpen {S} {O} k now = (from : S × O) × (bytes : List ℕ) × k.after from bytes (Ok false) now

abbrev pub TakesSome : {S O : Type 0} → IntakeKind S O → S × O → List ℕ → Result Bool Stop → S × O → Type 0
TakesSome {S} {O} k old some answer new = (from : S × O) (bytes : List ℕ) → k.after from bytes (Ok false) old → k.after from (bytes ++ some) answer new

-- A PIECE: all of it was taken, and a further byte may be; or the file is complete; or it stops with the last of its
-- first bytes, or after them at the limit.
abbrev pub FeedsPiece : {S O : Type 0} → IntakeKind S O → S × O → List ℕ → Result Fed Stop → S × O → Type 0
FeedsPiece k old piece (Ok fed.More) new = k.after old piece (Ok false) new × ChecksRoom k new.0 (Ok tt)
FeedsPiece k old piece (Ok (fed.Done used)) new = k.after old (take used piece) (Ok true) new × (1 ≤ used) × (used ≤ length piece)
FeedsPiece k old piece (Err e) new =
    (n : ℕ) × (n ≤ length piece) × (k.after old (take n piece) (Err e) new ⊎ (k.after old (take n piece) (Ok false) new × ChecksRoom k new.0 (Err e)))
