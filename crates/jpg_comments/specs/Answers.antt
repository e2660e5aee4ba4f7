-- What is unique in the results of rdjpgcom and wrjpgcom.
use Rattle.std.specs.Prelude.{◌≡◌, ℕ, ◌≤◌, List, length, take}
use Rattle.jpg_spec.specs.Markers.{Segment}
use Rattle.jpg_spec_write.specs.CommentText.{IsReadWhole}
use Rattle.jpg_spec.specs.declared.frame.Limits.{Limits}
use Rattle.jpg_comments.specs.Printing.{HoldsWhole}
use Rattle.jpg_comments.specs.Inserting.{HoldsHead}

-- The first n bytes are a complete file, as rdjpgcom reads it, within the limit.
abbrev pub IsWholeFront : Limits → List ℕ → ℕ → Type 0
IsWholeFront limits bytes n = (n ≤ length bytes) × (n ≤ limits.input) × HoldsWhole limits (take n bytes)

-- The first n bytes end with the marker of the frame header, as wrjpgcom reads it, and are within the limit.
abbrev pub IsHeadFront : Limits → List ℕ → ℕ → Type 0
IsHeadFront limits bytes n = (n ≤ length bytes) × (n ≤ limits.input) × HoldsHead limits (take n bytes)

-- The first n bytes are a complete file of these segments.
abbrev pub BeginsWhole : Limits → List ℕ → ℕ → List Segment → Type 0
BeginsWhole limits bytes n before = (n ≤ length bytes) × IsReadWhole limits (take n bytes) before

-- No two lists are such ones.
abbrev pub AtMostOne : (List ℕ → Type 0) → Type 0
AtMostOne Is = (text other : List ℕ) → Is text → Is other → text ≡ other

-- There is at most one such prefix, and it has one list of segments.
abbrev pub AtMostOneFront : (ℕ → List Segment → Type 0) → Type 0
AtMostOneFront Is = (n m : ℕ) (before more : List Segment) → Is n before → Is m more → (n ≡ m) × (before ≡ more)
