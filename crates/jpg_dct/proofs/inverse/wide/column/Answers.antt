use Rattle.std.proofs.Common.{rules, ℕ, ◌≡◌, ◌+◌, ◌≤◌, ◌*◌, List, ℤ, pos, FitsSigned, ap, ◌∙◌, map, nat_abs, arith}
use Rattle.std.specs.Int.{w64, int_wrap}
use Rattle.std.proofs.lemmas.Int.{fits_signed_from_abs}
use Rattle.jpg_spec_image.specs.Dct.{joined_sums, line_sums, number_at, column}
use Rattle.jpg_dct.proofs.Several.{eight, eight_of, on, same8}
use Rattle.jpg_dct.proofs.Wrapped.{as_seen}
use Rattle.jpg_dct.proofs.Bounds.{line_is_small}
use Rattle.jpg_dct.proofs.Samples.{one_rounded, one_bound}
use Rattle.jpg_dct.proofs.inverse.wide.column.Goals as goal
use Rattle.jpg_spec_image.proofs.CodedBlocks.{all_at}

pub returns : goal.returns
unfolding joined_sums column
returns c =
    let u = c.args.u in
    let x : ℕ → ℤ = number_at c.args.values.now in
    let h : (k : ℕ) → nat_abs (x k) ≤ 67108864 = λ k. all_at (λ y. nat_abs y ≤ 67108864) c.args.values.now k (pos 0) c.requires.small (search rules) in
    let fit : (k : ℕ) → FitsSigned w64 (x k) = λ k. fits_signed_from_abs w64 _ (omega (arith, h k)) in
    let d = eight_of (x u) (x (8 + u)) (x (16 + u)) (x (24 + u)) (x (32 + u)) (x (40 + u)) (x (48 + u)) (x (56 + u)) in
    let sums : List ℤ = on line_sums d in
    let is : c.line-e.result ≡ map (int_wrap w64) sums =
    c.line-e.ensures
    ∙ same8 (λ p0 p1 p2 p3 p4 p5 p6 p7. map (int_wrap w64) (line_sums p0 p1 p2 p3 p4 p5 p6 p7))
    (as_seen w64 _ _ c.at-v0.ensures (fit u)) (as_seen w64 _ _ c.at-v1.ensures (fit (8 + u))) (as_seen w64 _ _ c.at-v2.ensures (fit (16 + u))) (as_seen w64 _ _ c.at-v3.ensures (fit (24 + u))) (as_seen w64 _ _ c.at-v4.ensures (fit (32 + u))) (as_seen w64 _ _ c.at-v5.ensures (fit (40 + u))) (as_seen w64 _ _ c.at-v6.ensures (fit (48 + u))) (as_seen w64 _ _ c.at-v7.ensures (fit (56 + u)))
    in
    let at = λ (k : ℕ). ap (λ (l : List ℤ). number_at l k) is in
    let small = line_is_small 67108864 d (h u) (h (8 + u)) (h (16 + u)) (h (24 + u)) (h (32 + u)) (h (40 + u)) (h (48 + u)) (h (56 + u)) in
    let low = λ (s : ℤ) (few : nat_abs s ≤ 178219 * 67108864). one_bound s (178219 * 67108864) 9223372036854775808 few (omega arith) in
    eight
    (one_rounded w64 (number_at sums 0) (at 0) (low (number_at sums 0) small.at0) c.rounded-r0.ensures)
    (one_rounded w64 (number_at sums 1) (at 1) (low (number_at sums 1) small.at1) c.rounded-r1.ensures)
    (one_rounded w64 (number_at sums 2) (at 2) (low (number_at sums 2) small.at2) c.rounded-r2.ensures)
    (one_rounded w64 (number_at sums 3) (at 3) (low (number_at sums 3) small.at3) c.rounded-r3.ensures)
    (one_rounded w64 (number_at sums 4) (at 4) (low (number_at sums 4) small.at4) c.rounded-r4.ensures)
    (one_rounded w64 (number_at sums 5) (at 5) (low (number_at sums 5) small.at5) c.rounded-r5.ensures)
    (one_rounded w64 (number_at sums 6) (at 6) (low (number_at sums 6) small.at6) c.rounded-r6.ensures)
    (one_rounded w64 (number_at sums 7) (at 7) (low (number_at sums 7) small.at7) c.rounded-r7.ensures)
