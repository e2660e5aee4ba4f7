-- THE WORKED EXAMPLES of fronts: which segments name each component (T.81, B.2.2, B.2.3).
use Rattle.std.specs.Prelude.{ℕ, Bool, List, [], ◌∷◌, ◌++◌}
use Rattle.jpg_spec.specs.Segments.{standard_limits}
use Rattle.jpg_spec.specs.Markers.{Segment}
use Rattle.jpg_spec.specs.InForce.{frame_of}
use Rattle.jpg_spec.specs.History.{is_complete}
use Rattle.jpg_spec.specs.Items.{Item, segment, scan}
use Rattle.jpg_spec.specs.ExampleFiles.{plain_frame}

-- whether the segments name each component of their frame
abbrev pub name_each : List Segment → Bool
name_each before = is_complete (frame_of standard_limits before) before

-- a progressive frame of one component of 8 by 8 samples, and its DC scan
abbrev pub one_component : Segment
one_component = (0xc2, plain_frame 8 8)

abbrev pub dc_scan : List ℕ
dc_scan = 1 ∷ 1 ∷ 0 ∷ 0 ∷ 0 ∷ 0 ∷ []

-- a sequential frame of three components of 8 by 8 samples, and a scan of the first, of the others and of all
abbrev pub three_components : Segment
three_components = (0xc0, 8 ∷ 0 ∷ 8 ∷ 0 ∷ 8 ∷ 3 ∷ 1 ∷ 0x11 ∷ 0 ∷ 2 ∷ 0x11 ∷ 0 ∷ 3 ∷ 0x11 ∷ 0 ∷ [])

abbrev pub first_scan : Segment
first_scan = (0xda, 1 ∷ 1 ∷ 0 ∷ 0 ∷ 63 ∷ 0 ∷ [])

abbrev pub other_scan : Segment
other_scan = (0xda, 2 ∷ 2 ∷ 0 ∷ 3 ∷ 0 ∷ 0 ∷ 63 ∷ 0 ∷ [])

abbrev pub whole_scan : Segment
whole_scan = (0xda, 3 ∷ 1 ∷ 0 ∷ 2 ∷ 0 ∷ 3 ∷ 0 ∷ 0 ∷ 63 ∷ 0 ∷ [])

-- the items of a progressive file of one block: its frame, a DC scan with the data 3F, tables, and an AC scan
abbrev pub two_scans : List Item
two_scans = scan (1 ∷ 1 ∷ 0 ∷ 1 ∷ 63 ∷ 1 ∷ []) ((0x47 ∷ []) ∷ []) ∷ segment 0xc4 [] ∷ scan dc_scan ((0x3f ∷ []) ∷ []) ∷ segment 0xc2 (plain_frame 8 8) ∷ []
