-- AS MANY BYTES AS CAN BE TAKEN AT ONCE (T.81, B.1.1). Whoever takes fewer is slow, and not wrong.
use Rattle.std.specs.Prelude.{◌≡◌, ◌⊎◌, ℕ, ◌+◌, ◌-◌, ◌<◌, ◌≤◌, true, min, is_some, List, ◌++◌, length, take, drop, Option, None, Some}
use Rattle.jpg_spec.specs.Markers.{SpellsSegment}
use Rattle.jpg_spec.specs.declared.fault.Fault.{Fault}
use Rattle.jpg_markers.specs.Reading.{MayFollow, PassesDue, filled, reading_of}
use Rattle.jpg_spec.specs.declared.frame.Limits.{Limits}
use Rattle.jpg_file.specs.Read.File.{RepresentsFile, limits_of, NeedsNoMemory, settings_of}
use Rattle.jpg_file.specs.Read.Going.{FillsScan, GoesOn, file_with, has_waiting}
use Rattle.jpg_file.specs.Read.SegmentState.{HoldsSegment, IsToKeep, segments_view}
use Rattle.jpg_file.specs.Read.Items.{limits_in}
use Rattle.jpg_file.specs.declared.read.items.Items.{Items}
use Rattle.jpg_file.specs.declared.read.file.FileState.{FileState}
use Rattle.jpg_file.specs.declared.read.scan.InScan.{InScan}
use Rattle.jpg_file.specs.declared.read.window.Window.{Window}
use Rattle.jpg_file.specs.declared.read.segment_state.SegmentTaken.TheVariants as took

-- the segment breaks a rule, whatever segments led to the state
abbrev pub BreaksRule : Items → ℕ → List ℕ → Type 0
BreaksRule w code contents = (fault : Fault) × HoldsSegment (segments_view w.held) (limits_in w) code contents (took.Fault fault) (segments_view w.held)

-- a complete segment that isn't taken at once: a scan header, one that breaks a rule, or one to keep, which takes memory
abbrev pub IsLeft : Items → ℕ → List ℕ → Type 0
IsLeft w code contents = (code ≡ 0xda) ⊎ BreaksRule w code contents ⊎ IsToKeep w.held code contents

-- Between segments, each one that is complete at the start of these bytes and may follow is such a one.
abbrev pub HasNoneToPass : Items → List ℕ → Type 0
HasNoneToPass w bytes =
    (code : ℕ) (contents : List ℕ) (n : ℕ) → (reading_of w.segments).stop ≡ None → MayFollow (reading_of w.segments) code contents → n ≤ length bytes → SpellsSegment code contents (take n bytes) → IsLeft w code contents

-- Of these bytes n are taken: complete segments, until none is left to pass, and then what is due.
pub record PassesMost (old : FileState) (bytes : List ℕ) (n : ℕ) : Type 0 where
  pub mid : FileState
  pub early : ℕ
  pub late : ℕ
  pub count : n ≡ early + late
  pub segments : GoesOn old bytes early mid
  pub none : HasNoneToPass mid.items (drop early bytes)
  pub due : PassesDue (mid.items).segments (drop early bytes) late

-- all of these bytes but the last one that the limit lets be taken
abbrev pub before_last : FileState → List ℕ → List ℕ
before_last r bytes = take (min (length bytes) ((limits_of r).input - r.taken) - 1) bytes

-- between items, and inside the data of a scan, where FF waits
abbrev pub PassesAll : Option InScan → FileState → List ℕ → ℕ → Type 0
PassesAll None old bytes n = PassesMost old (before_last old bytes) n
PassesAll (Some scan) old bytes n = has_waiting (Some scan) ≡ true → n ≡ filled (before_last old bytes)

-- THE FIRST N of some bytes, but never all of them, which cause no event: what is due inside the data of a scan, or
-- between items. Whatever picture there is, the file was given them too.
pub record PassesFront (old : FileState) (bytes : List ℕ) (n : ℕ) (mid : FileState) : Type 0 where
  pub within : n < length bytes
  pub is : mid ≡ record old { items = mid.items; taken = old.taken + n }
  pub limits : limits_of mid ≡ limits_of old
  pub room : mid.taken < (limits_of old).input
  pub keeping : settings_of mid ≡ settings_of old
  pub sparing : NeedsNoMemory old → NeedsNoMemory mid
  pub fills : is_some old.scan ≡ true → FillsScan old bytes n mid
  pub stands : (q : Window) (limits : Limits) (front : List ℕ) → RepresentsFile limits front (file_with old q) → RepresentsFile limits (front ++ take n bytes) (file_with mid q)
