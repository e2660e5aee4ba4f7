-- The check of a script on a frame, entry by entry (T.81, B.2.3, G.1.1.1).
use Rattle.std.specs.Prelude.{◌≡◌, ℕ, Bool, ◌&&◌, ◌==◌, if◌then◌else◌, List, length, ◌∷◌, Option, None, Some, Result, Ok, Err}
use Rattle.jpg_spec.specs.Geometry.{Frame}
use Rattle.jpg_spec.specs.Segments.{ScanHead}
use Rattle.jpg_spec.specs.ScanContents.{are_parameters}
use Rattle.jpg_spec_write.specs.Script.{Entry}
use Rattle.jpg_spec_write.specs.ScriptFaults.{entry_head, entry_fault}
use Rattle.jpg_spec.specs.declared.frame.Process.{Process}
use Rattle.jpg_spec.specs.declared.frame.Process.TheVariants.{Extended, Progressive}
use Rattle.jpg_spec_write.specs.declared.picture_fault.PictureFault.{PictureFault}
use Rattle.jpg_scans.specs.Progress.{RepresentsScans}
use Rattle.jpg_scans.specs.declared.progress.Progress.{Progress}

-- the result of a check that found this fault, if any
abbrev pub judged : Option PictureFault → Result (Unit {0}) PictureFault
judged None = Ok tt
judged (Some fault) = Err fault

-- a process of the script's kind that allows all precisions
abbrev pub script_process : Bool → Process
script_process is_prog = if is_prog then Progressive else Extended

-- the frame of the script's kind
abbrev pub script_frame : Bool → Frame → Frame
script_frame is_prog f = record f { process = script_process is_prog }

-- the band and the bits of a scan in a script of this kind
abbrev pub has_numbers : Bool → Frame → ScanHead → Bool
has_numbers is_prog f head =
    if is_prog then are_parameters f (length head.parts) head else head.ss == 0 && (head.se == 63 && (head.ah == 0 && head.al == 0))

-- entry n after scans of these heads: its fault, or it is one of them afterwards
abbrev pub IsEntryTaken : Bool → Frame → List ScanHead → ℕ → Entry → Option PictureFault → Progress → Type 0
IsEntryTaken is_prog f heads n e (Some fault) new = entry_fault is_prog f heads n e ≡ Some fault
IsEntryTaken is_prog f heads n e None new =
    (entry_fault is_prog f heads n e ≡ None) × RepresentsScans new (script_frame is_prog f) (entry_head e ∷ heads)

-- whatever scans there were
abbrev pub TakesEntry : Bool → Frame → Progress → ℕ → Entry → Option PictureFault → Progress → Type 0
TakesEntry is_prog f old n e answer new =
    (heads : List ScanHead) → RepresentsScans old (script_frame is_prog f) heads → IsEntryTaken is_prog f heads n e answer new
