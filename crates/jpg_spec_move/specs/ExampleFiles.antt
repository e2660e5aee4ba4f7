-- FILES OF THE WORKED EXAMPLES: gray pictures with sides of complete blocks, what they mean, and the text before the
-- data of their baseline files (T.81, B.2, JFIF 1.02).
use Rattle.std.specs.Prelude.{ℕ, List, [], ◌∷◌, ◌++◌}
use Rattle.jpg_spec.specs.Typical.{dc_luma_counts, dc_luma_values, ac_luma_counts, ac_luma_values}
use Rattle.jpg_spec.specs.Markers.{soi}
use Rattle.jpg_spec_move.specs.Moves.{flip_h}
use Rattle.jpg_spec_write.specs.Headed.{headed}
use Rattle.jpg_spec_write.specs.FileText.{segment_text, sequential_text}
use Rattle.jpg_spec.specs.ExampleFiles.{plain_jfif, plain_frame, Gray, gray_meaning}

-- JFIF, the quantisation table, SOF0, K.3 and K.5 in slot 0, and the header of a scan of component 1 by these tables
abbrev pub gray_front : ℕ → ℕ → List ℕ → List ℕ
gray_front width height quants =
    soi ++ segment_text 0xe0 plain_jfif ++ segment_text 0xdb (0 ∷ quants) ++ segment_text 0xc0 (plain_frame width height)
    ++ segment_text 0xc4 (0 ∷ dc_luma_counts ++ dc_luma_values) ++ segment_text 0xc4 (0x10 ∷ ac_luma_counts ++ ac_luma_values)
    ++ segment_text 0xda (1 ∷ 1 ∷ 0 ∷ 0 ∷ 63 ∷ 0 ∷ [])

abbrev pub turned_text : Gray → List ℕ
turned_text g = sequential_text (headed (flip_h (gray_meaning g)))
