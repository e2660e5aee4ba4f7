-- What the contents of a frame header's segment mean, or their first fault (T.81, B.2.2, Figure B.3).
use Rattle.std.specs.Prelude.{ℕ, ◌*◌, ◌/◌, ◌%◌, not, ◌==◌, List, [], ◌∷◌, length, Err}
use Rattle.jpg_spec.specs.Faults.{Parsed, refuse}
use Rattle.jpg_spec.specs.Segments.{two_bytes}
use Rattle.jpg_spec.specs.Geometry.{Frame}
use Rattle.jpg_spec.specs.FrameHeader.{checked_frame}
use Rattle.jpg_spec.specs.declared.fault.Fault.TheVariants.{BadLength}
use Rattle.jpg_spec.specs.declared.frame.Process.{Process}
use Rattle.jpg_spec.specs.declared.frame.Component.{Component}
use Rattle.jpg_spec.specs.declared.frame.Limits.{Limits}

-- three bytes per component
abbrev pub parsed_components : List ℕ → List Component
parsed_components [] = []
parsed_components (id ∷ []) = []
parsed_components (id ∷ factors ∷ []) = []
parsed_components (id ∷ factors ∷ quant ∷ bytes) = record { id = id; h = factors / 16; v = factors % 16; quant = quant } ∷ parsed_components bytes

-- the precision, the lines, the samples of a line, and the components
abbrev pub parsed_frame : Process → ℕ → ℕ → ℕ → List ℕ → Frame
parsed_frame process precision height width parts =
    record { process = process; precision = precision; width = width; height = height; components = parsed_components parts }

abbrev pub frame_header : Limits → Process → List ℕ → Parsed Frame
frame_header limits process (p ∷ y1 ∷ y0 ∷ x1 ∷ x0 ∷ count ∷ parts) =
    refuse BadLength (not (length parts == 3 * count))
    (checked_frame limits (parsed_frame process p (two_bytes y1 y0) (two_bytes x1 x0) parts))
frame_header limits process contents = Err BadLength
