-- WORKED EXAMPLES of the scans that the segments before them admit: small files so far, the newest segment first.
use Rattle.std.specs.Prelude.{ℕ, List, [], ◌∷◌, ◌++◌}
use Rattle.jpg_spec.specs.Typical.{dc_luma_counts, dc_luma_values, ac_luma_counts, ac_luma_values}
use Rattle.jpg_spec.specs.Markers.{Segment}
use Rattle.jpg_spec.specs.ExampleFiles.{plain_frame}
use Rattle.jpg_spec.specs.Examples.{ones}

-- SEGMENTS

abbrev pub ones_table : Segment
ones_table = (0xdb, 0 ∷ ones)

abbrev pub dc_table : Segment
dc_table = (0xc4, 0 ∷ dc_luma_counts ++ dc_luma_values)

abbrev pub ac_table : Segment
ac_table = (0xc4, 0x10 ∷ ac_luma_counts ++ ac_luma_values)

-- a scan of component 1 by tables 0: its band, and Ah and Al
abbrev pub scan_contents : ℕ → ℕ → ℕ → List ℕ
scan_contents ss se bits = 1 ∷ 1 ∷ 0 ∷ ss ∷ se ∷ bits ∷ []

-- three components of four blocks each per MCU, and a scan of them
abbrev pub large_frame : List ℕ
large_frame = 8 ∷ 0 ∷ 8 ∷ 0 ∷ 8 ∷ 3 ∷ 1 ∷ 0x22 ∷ 0 ∷ 2 ∷ 0x22 ∷ 0 ∷ 3 ∷ 0x22 ∷ 0 ∷ []

abbrev pub large_contents : List ℕ
large_contents = 3 ∷ 1 ∷ 0 ∷ 2 ∷ 0 ∷ 3 ∷ 0 ∷ 0 ∷ 63 ∷ 0 ∷ []

-- FILES SO FAR: 8 by 8 samples of one component

abbrev pub sequential_start : List Segment
sequential_start = dc_table ∷ (0xc0, plain_frame 8 8) ∷ ones_table ∷ []

abbrev pub progressive_start : List Segment
progressive_start = ac_table ∷ dc_table ∷ (0xc2, plain_frame 8 8) ∷ ones_table ∷ []

-- after all of DC
abbrev pub after_dc : List Segment
after_dc = (0xda, scan_contents 0 0 0) ∷ progressive_start

-- after a first pass of AC down to bit 1
abbrev pub behind_first : List Segment
behind_first = (0xda, scan_contents 1 63 0x01) ∷ after_dc
