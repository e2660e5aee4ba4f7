-- WHICH SCANS the scans before them admit, and with which tables (T.81, B.2.3, B.2.4, G.1.1.1). Lists have the newest
-- first.
use Rattle.std.specs.Prelude.{ℕ, Bool, true, false, nat_le, not, ◌&&◌, ◌||◌, ◌==◌, if◌then◌else◌, List, [], ◌∷◌, length, Option, Some, None, Ok, find, is_some, is_none, option_map}
use Rattle.jpg_spec.specs.Lists.{any_of, all_of, is_among, are_equal, below}
use Rattle.jpg_spec.specs.Faults.{Parsed, refuse}
use Rattle.jpg_spec.specs.Geometry.{Frame, component_at, is_progressive}
use Rattle.jpg_spec.specs.Segments.{QuantTable, ScanHead, head_components, needs_dc, needs_ac}
use Rattle.jpg_spec.specs.Markers.{Segment}
use Rattle.jpg_spec.specs.InForce.{first_some, head_in, heads_of, huffman_in_force, quant_in_force}
use Rattle.jpg_spec.specs.declared.fault.Fault.{Fault}
use Rattle.jpg_spec.specs.declared.fault.Fault.TheVariants.{RepeatedScan, Progression, MissingTable, QuantChanged}

abbrev pub names : ScanHead → ℕ → Bool
names head i = is_among i (head_components head)

-- a component that was in a scan
abbrev pub has_begun : List ScanHead → ℕ → Bool
has_begun heads i = any_of (λ head. names head i) heads

abbrev pub has_coefficient : ScanHead → ℕ → ℕ → Bool
has_coefficient head i k = names head i && (nat_le head.ss k && nat_le k head.se)

-- the bit down to which coefficient k of component i is known: Al of the last scan of it
abbrev pub known_to : List ScanHead → ℕ → ℕ → Option ℕ
known_to heads i k = option_map (λ head. head.al) (find (λ head. has_coefficient head i k) heads)

abbrev pub is_known_to : Option ℕ → ℕ → Bool
is_known_to None bit = false
is_known_to (Some n) bit = n == bit

-- A first pass finds its band unsent, a refinement finds it known down to Ah, and AC follows DC (G.1.1.1).
abbrev pub is_next : List ScanHead → ScanHead → ℕ → Bool
is_next heads head i =
    (head.ss == 0 || is_some (known_to heads i 0))
    && all_of (λ k. not (has_coefficient head i k) || (if head.ah == 0 then is_none (known_to heads i k) else is_known_to (known_to heads i k) head.ah)) (below 64)

-- the quantisation table of a component, at its first scan
abbrev pub quant_of : Frame → List Segment → ℕ → Option QuantTable
quant_of f [] i = None
quant_of f (s ∷ before) i =
    if s.0 == 0xda then first_some (quant_of f before i) (if names (head_in f s.1) i then quant_in_force before (component_at f i).quant else None)
    else quant_of f before i

-- which tables a scan of a frame needs
abbrev pub needs_dc_table : Frame → ScanHead → Bool
needs_dc_table f head = needs_dc (is_progressive f.process) head.ss head.ah

abbrev pub needs_ac_table : Frame → ScanHead → Bool
needs_ac_table f head = needs_ac (is_progressive f.process) head.ss

abbrev pub lacks_table : Frame → List Segment → ScanHead → Bool
lacks_table f before head =
    any_of (λ p.
    is_none (quant_in_force before (component_at f p.component).quant)
    || (needs_dc_table f head && is_none (huffman_in_force before 0 p.dc)
    || needs_ac_table f head && is_none (huffman_in_force before 1 p.ac))) head.parts

abbrev pub is_same_table : Option QuantTable → Option QuantTable → Bool
is_same_table None now = true
is_same_table (Some table) None = false
is_same_table (Some table) (Some now) = are_equal table now

-- a scan of a sequential frame that has a component of an earlier one
abbrev pub is_repeated : Frame → List ScanHead → ScanHead → Bool
is_repeated f heads head = not (is_progressive f.process) && any_of (has_begun heads) (head_components head)

-- a scan of a progressive frame that isn't the next of each of its components
abbrev pub is_out_of_order : Frame → List ScanHead → ScanHead → Bool
is_out_of_order f heads head = is_progressive f.process && not (all_of (is_next heads head) (head_components head))

-- the fault of a scan after those of these heads, whatever its tables
abbrev pub order_fault : Frame → List ScanHead → ScanHead → Option Fault
order_fault f heads head =
    if is_repeated f heads head then Some RepeatedScan else if is_out_of_order f heads head then Some Progression else None

-- a head that is admitted after these segments
abbrev pub admitted : Frame → List Segment → ScanHead → Parsed ScanHead
admitted f before head =
    refuse RepeatedScan (is_repeated f (heads_of f before) head)
    (refuse Progression (is_out_of_order f (heads_of f before) head)
    (refuse MissingTable (lacks_table f before head)
    (refuse QuantChanged (not (all_of (λ i. is_same_table (quant_of f before i) (quant_in_force before (component_at f i).quant)) (head_components head)))
    (Ok head))))

-- each component was in a scan
abbrev pub is_complete : Frame → List Segment → Bool
is_complete f before = all_of (has_begun (heads_of f before)) (below (length f.components))
