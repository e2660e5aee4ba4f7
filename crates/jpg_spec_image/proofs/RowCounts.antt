-- A scan of all components names each of them, and has the MCU rows of its picture.
use Rattle.std.proofs.Common.{◌≡◌, ℕ, ◌*◌, false, cond, ◌==◌, List, [], ◌∷◌, length, sym, ap, ◌∙◌, arith}
use Rattle.std.proofs.lemmas.List.{length-map}
use Rattle.jpg_spec.specs.Lists.{below}
use Rattle.jpg_spec.specs.Geometry.{Frame, div_up}
use Rattle.jpg_spec.specs.FrameHeader.{IsFrame}
use Rattle.jpg_spec.specs.Scan.{Blocks}
use Rattle.jpg_spec.specs.Markers.{Segment}
use Rattle.jpg_spec.specs.FileMeaning.{meaning_of}
use Rattle.jpg_spec.specs.Meaning.{most_down}
use Rattle.jpg_spec_image.specs.Strips.{lines, mcu_rows}
use Rattle.jpg_spec.proofs.Basics.Common.{length_below}
use Rattle.jpg_spec.proofs.McuRows.RowCounts.{AreBelow, rows_down, single_down, picture_down, several}

pub picture_rows : (f : Frame) (ids : List ℕ) (before : List Segment) (blocks : Blocks) → IsFrame f → AreBelow (length f.components) ids → length ids ≡ length f.components
    → mcu_rows (meaning_of f before blocks) ≡ rows_down f ids
picture_rows f ids before blocks is known all = by ids known all
  where
    count : length (meaning_of f before blocks).components ≡ length f.components
    count = length-map (below (length f.components)) _ ∙ length_below (length f.components)

    by : (ids : List ℕ) → AreBelow (length f.components) ids → length ids ≡ length f.components → div_up f.height (lines (meaning_of f before blocks)) ≡ rows_down f ids
    by [] known all = absurd (omega (arith, all, is.count_low))
    by (i ∷ []) known all =
        let one : length (meaning_of f before blocks).components ≡ 1 = count ∙ sym all in
        ap (λ n. div_up f.height (cond (n == 1) 8 (8 * most_down (meaning_of f before blocks)))) one
        ∙ sym (single_down f.height f.components i (sym all) (omega (arith, known.0, all)) is.factors)
    by (i ∷ j ∷ more) known all =
        let none : (length (meaning_of f before blocks).components == 1) ≡ false = several (length (meaning_of f before blocks).components) (omega (arith, count, all)) in
        ap (λ b. div_up f.height (cond b 8 (8 * most_down (meaning_of f before blocks)))) none ∙ ap (λ n. div_up f.height (8 * n)) (picture_down f before blocks)
