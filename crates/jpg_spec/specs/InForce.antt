-- WHAT IS IN FORCE after segments: the last definitions among them (T.81, B.2.2, B.2.4). Lists of segments have the
-- newest first.
use Rattle.std.specs.Prelude.{ℕ, ◌&&◌, ◌==◌, if◌then◌else◌, List, [], ◌∷◌, ◌++◌, reverse, Option, Some, None, Ok, Err, find, option_map, option_and_then, unwrap_or, length, map}
use Rattle.jpg_spec.specs.Faults.{Parsed}
use Rattle.jpg_spec.specs.Geometry.{Frame}
use Rattle.jpg_spec.specs.Segments.{HuffmanTable, QuantTable, ScanHead}
use Rattle.jpg_spec.specs.FrameContents.{frame_header}
use Rattle.jpg_spec.specs.HuffContents.{HuffmanDefinition, huffman_tables}
use Rattle.jpg_spec.specs.QuantContents.{quant_tables}
use Rattle.jpg_spec.specs.ScanContents.{restart_interval, scan_header}
use Rattle.jpg_spec.specs.Markers.{Segment, process_of_code, kept_after}
use Rattle.jpg_spec.specs.declared.frame.Process.TheVariants.{Baseline}
use Rattle.jpg_spec.specs.declared.frame.Limits.{Limits}
use Rattle.jpg_spec.specs.FrameHeader.{identifiers}
use Rattle.jpg_spec.specs.Jfif.{adobe_transform, jfif_of}
use Rattle.jpg_spec.specs.Colours.{colours_of}
use Rattle.jpg_spec.specs.declared.frame.Colour.{Colour}

abbrev pub parsed_list : {X : Type 0} → Parsed (List X) → List X
parsed_list (Ok xs) = xs
parsed_list (Err fault) = []

abbrev pub parsed_or : {X : Type 0} → X → Parsed X → X
parsed_or default (Ok x) = x
parsed_or default (Err fault) = default

abbrev pub parsed_some : {X : Type 0} → Parsed X → Option X
parsed_some (Ok x) = Some x
parsed_some (Err fault) = None

abbrev pub first_some : {X : Type 0} → Option X → Option X → Option X
first_some (Some x) other = Some x
first_some None other = other

-- the frame of a frame header's segment
abbrev pub frame_in : Limits → Segment → Option Frame
frame_in limits s = option_and_then (λ process. parsed_some (frame_header limits process s.1)) (process_of_code s.0)

abbrev pub frame_after : Limits → List Segment → Option Frame
frame_after limits [] = None
frame_after limits (s ∷ before) = first_some (frame_in limits s) (frame_after limits before)

abbrev pub no_frame : Frame
no_frame = record { process = Baseline; precision = 8; width = 0; height = 0; components = [] }

abbrev pub frame_of : Limits → List Segment → Frame
frame_of limits before = unwrap_or (frame_after limits before) no_frame

-- the Huffman tables that segments define, the newest first
abbrev pub huffmans_defined : List Segment → List HuffmanDefinition
huffmans_defined [] = []
huffmans_defined (s ∷ before) = (if s.0 == 0xc4 then reverse (parsed_list (huffman_tables s.1)) else []) ++ huffmans_defined before

abbrev pub huffman_in_force : List Segment → ℕ → ℕ → Option HuffmanTable
huffman_in_force before class slot = option_map (λ d. d.table) (find (λ d. d.class == class && d.slot == slot) (huffmans_defined before))

-- the quantisation tables that segments define with their slots, the newest first
abbrev pub quants_defined : List Segment → List (ℕ × QuantTable)
quants_defined [] = []
quants_defined (s ∷ before) = (if s.0 == 0xdb then reverse (parsed_list (quant_tables s.1)) else []) ++ quants_defined before

abbrev pub quant_in_force : List Segment → ℕ → Option QuantTable
quant_in_force before slot = option_map (λ d. d.1) (find (λ d. d.0 == slot) (quants_defined before))

-- the restart interval, 0 if none was defined
abbrev pub restart_in_force : List Segment → ℕ
restart_in_force [] = 0
restart_in_force (s ∷ before) = if s.0 == 0xdd then parsed_or 0 (restart_interval s.1) else restart_in_force before

abbrev pub no_head : ScanHead
no_head = record { parts = []; ss = 0; se = 0; ah = 0; al = 0 }

abbrev pub head_in : Frame → List ℕ → ScanHead
head_in f contents = parsed_or no_head (scan_header f contents)

-- the headers of the scans, the newest first
abbrev pub heads_of : Frame → List Segment → List ScanHead
heads_of f [] = []
heads_of f (s ∷ before) = if s.0 == 0xda then head_in f s.1 ∷ heads_of f before else heads_of f before

-- the colours by the segments, and the factors of their frame
abbrev pub colours_after : Limits → List Segment → Colour
colours_after limits before =
    let f = frame_of limits before in
    let kept = reverse (kept_after before) in
    colours_of (length f.components) (identifiers f.components) (jfif_of kept).seen (adobe_transform kept)

abbrev pub factors_after : Limits → List Segment → List (ℕ × ℕ)
factors_after limits before = map (λ c. (c.h, c.v)) (frame_of limits before).components
