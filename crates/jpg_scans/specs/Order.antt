-- The faults of the order of scans among those of their headers (T.81, B.2.3, G.1.1.1).
use Rattle.std.specs.Prelude.{◌≡◌, ◌↔◌, List, Some, Err}
use Rattle.jpg_spec.specs.Geometry.{Frame}
use Rattle.jpg_spec.specs.History.{admitted, order_fault}
use Rattle.jpg_spec.specs.InForce.{heads_of}
use Rattle.jpg_spec.specs.Markers.{Segment}
use Rattle.jpg_spec.specs.Segments.{ScanHead}
use Rattle.jpg_spec.specs.declared.fault.Fault.{Fault}

-- after any segments a head is refused with this fault exactly if it has it after the scans so far
abbrev pub IsJudgedFirst : Fault → Type 0
IsJudgedFirst fault =
    (f : Frame) (before : List Segment) (head : ScanHead) → (order_fault f (heads_of f before) head ≡ Some fault) ↔ (admitted f before head ≡ Err fault)
