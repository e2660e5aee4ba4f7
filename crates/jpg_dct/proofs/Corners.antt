-- Blocks whose last four rows and columns are zero: so are their last four columns transformed.
use Rattle.std.proofs.Common.{◌≡◌, ℕ, ◌+◌, ◌*◌, ◌<◌, ◌≤◌, List, [], ℤ, pos, map, refl, sym, ap, ◌∙◌, arith}
use Rattle.std.proofs.lemmas.List.{get_or-map, get_or-replicate}
use Rattle.std.specs.Prelude.{replicate}
use Rattle.jpg_spec_image.specs.Dct.{number_at, line_sums, even_sums, odd_sums, joined_sums}
use Rattle.jpg_dct.specs.declared.forward.lanes.Eight.{Eight}
use Rattle.jpg_dct.specs.Eights.{vector, vectors}
use Rattle.jpg_dct.specs.Sums.{IsCorner, lane_at, line_at, column_number}
use Rattle.jpg_dct.proofs.Several.{same8}

zero_sums : map column_number (line_sums (pos 0) (pos 0) (pos 0) (pos 0) (pos 0) (pos 0) (pos 0) (pos 0)) ≡ replicate 8 (pos 0)
unfolding joined_sums even_sums odd_sums
zero_sums = refl

pub right_zero : (values : List ℤ) (given done : Eight) → IsCorner values → ((u v : ℕ) → u < 8 → v < 8 → number_at (vector given v) u ≡ number_at values (8 * v + u))
    → ((k : ℕ) → k < 8 → lane_at done k ≡ map column_number (line_at given k)) → (u v : ℕ) → 4 ≤ u → u < 8 → v < 8 → number_at (vector done v) u ≡ pos 0
right_zero values given done h given_at done_at u v four lu lv =
    let at = λ (w : ℕ) (lw : w < 8). given_at u w lu lw ∙ h.right u w four lu lw in
    let zeros : lane_at done u ≡ replicate 8 (pos 0) =
    done_at u lu
    ∙ same8 (λ a b c d e f g i. map column_number (line_sums a b c d e f g i)) (at 0 (omega arith)) (at 1 (omega arith)) (at 2 (omega arith)) (at 3 (omega arith))
    (at 4 (omega arith)) (at 5 (omega arith)) (at 6 (omega arith)) (at 7 (omega arith))
    ∙ zero_sums
    in
    sym (get_or-map (λ xs. number_at xs u) (vectors done) v [] (pos 0) lv) ∙ ap (λ l. number_at l v) zeros ∙ get_or-replicate 8 v (pos 0) (pos 0) lv
