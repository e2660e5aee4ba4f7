-- Bytes between items, or inside a segment, that are taken together (T.81, B.1.1).
use Rattle.std.specs.Prelude.{◌≡◌, ℕ, ◌+◌, ◌≤◌, Bool, true, false, List, ◌++◌, length, take, replicate, Option, None, Some}
use Rattle.jpg_spec.specs.declared.frame.Limits.{Limits}
use Rattle.jpg_markers.specs.Reading.{reading_of}
use Rattle.jpg_file.specs.declared.read.scan.InScan.{InScan}
use Rattle.jpg_file.specs.declared.read.window.Window.{Window}
use Rattle.jpg_file.specs.declared.read.file.FileState.{FileState}
use Rattle.jpg_file.specs.Read.File.{RepresentsFile, limits_of}

-- there is no current scan, and so many bytes more may be taken
pub record CanGoOn (r : FileState) (bytes : List ℕ) : Type 0 where
  pub none : r.scan ≡ None
  pub count : (reading_of (r.items).segments).taken ≡ r.taken
  pub room : r.taken + length bytes ≤ (limits_of r).input

-- a file with this window
abbrev pub file_with : FileState → Window → FileState
file_with w q = record w { window = q }

-- The first n of these bytes were taken: whatever picture there is, the file was given them too.
pub record GoesOn (old : FileState) (bytes : List ℕ) (n : ℕ) (new : FileState) : Type 0 where
  pub within : n ≤ length bytes
  pub is : new ≡ record old { items = new.items; taken = old.taken + n }
  pub limits : limits_of new ≡ limits_of old
  pub count : (reading_of (new.items).segments).taken ≡ (reading_of (old.items).segments).taken + n
  pub stands : (q : Window) (limits : Limits) (front : List ℕ) → RepresentsFile limits front (file_with old q) → RepresentsFile limits (front ++ take n bytes) (file_with new q)

-- INSIDE THE DATA OF A SCAN: whether FF waits
abbrev pub has_waiting : Option InScan → Bool
has_waiting None = false
has_waiting (Some scan) = scan.gate

-- The first n of these bytes are fill bytes after FF, or n is 0. But for their number nothing has changed.
pub record FillsScan (old : FileState) (bytes : List ℕ) (n : ℕ) (new : FileState) : Type 0 where
  pub is : new ≡ record old { taken = old.taken + n }
  pub fill : take n bytes ≡ replicate n 255
  pub waits : (n ≡ 0 → ⊥) → has_waiting old.scan ≡ true
