use Rattle.std.proofs.Common.{rules, ℕ, ◌≡◌, List, ℤ, FitsSigned, pos, to_z, of_z, ap, ◌∙◌, map, slice_index_or}
use Rattle.std.specs.Int.{w64, int_wrap}
use Rattle.jpg_spec_image.specs.Dct.{even_sums, odd_sums, joined_sums, number_at}
use Rattle.jpg_dct.proofs.Several.{eight}
use Rattle.jpg_dct.proofs.Wrapped.{start, summed, less, plain}
use Rattle.jpg_dct.proofs.inverse.wide.line.Goals as goal

pub returns : goal.returns
unfolding even_sums odd_sums joined_sums
returns c =
    let i : ℕ → ℤ = number_at c.args.i in
    let f0 : FitsSigned w64 (number_at c.args.i 0) = search rules in
    let f1 : FitsSigned w64 (number_at c.args.i 1) = search rules in
    let f2 : FitsSigned w64 (number_at c.args.i 2) = search rules in
    let f3 : FitsSigned w64 (number_at c.args.i 3) = search rules in
    let f4 : FitsSigned w64 (number_at c.args.i 4) = search rules in
    let f5 : FitsSigned w64 (number_at c.args.i 5) = search rules in
    let f6 : FitsSigned w64 (number_at c.args.i 6) = search rules in
    let f7 : FitsSigned w64 (number_at c.args.i 7) = search rules in
    let b : c.even-b.result ≡ map (int_wrap w64) (even_sums (i 0) (i 2) (i 4) (i 6)) = c.even-b.ensures ∙ plain w64 (λ p q r s. map (int_wrap w64) (even_sums p q r s)) (i 0) (i 2) (i 4) (i 6) f0 f2 f4 f6 in
    let b0 : to_z w64 (of_z w64 (slice_index_or c.even-b.result 0 (pos 0))) ≡ int_wrap w64 (number_at (even_sums (i 0) (i 2) (i 4) (i 6)) 0) = start w64 _ _ (ap (λ (l : List ℤ). slice_index_or l 0 (pos 0)) b) in
    let b1 : to_z w64 (of_z w64 (slice_index_or c.even-b.result 1 (pos 0))) ≡ int_wrap w64 (number_at (even_sums (i 0) (i 2) (i 4) (i 6)) 1) = start w64 _ _ (ap (λ (l : List ℤ). slice_index_or l 1 (pos 0)) b) in
    let b2 : to_z w64 (of_z w64 (slice_index_or c.even-b.result 2 (pos 0))) ≡ int_wrap w64 (number_at (even_sums (i 0) (i 2) (i 4) (i 6)) 2) = start w64 _ _ (ap (λ (l : List ℤ). slice_index_or l 2 (pos 0)) b) in
    let b3 : to_z w64 (of_z w64 (slice_index_or c.even-b.result 3 (pos 0))) ≡ int_wrap w64 (number_at (even_sums (i 0) (i 2) (i 4) (i 6)) 3) = start w64 _ _ (ap (λ (l : List ℤ). slice_index_or l 3 (pos 0)) b) in
    let o : c.odd-o.result ≡ map (int_wrap w64) (odd_sums (i 1) (i 3) (i 5) (i 7)) = c.odd-o.ensures ∙ plain w64 (λ p q r s. map (int_wrap w64) (odd_sums p q r s)) (i 1) (i 3) (i 5) (i 7) f1 f3 f5 f7 in
    let o0 : to_z w64 (of_z w64 (slice_index_or c.odd-o.result 0 (pos 0))) ≡ int_wrap w64 (number_at (odd_sums (i 1) (i 3) (i 5) (i 7)) 0) = start w64 _ _ (ap (λ (l : List ℤ). slice_index_or l 0 (pos 0)) o) in
    let o1 : to_z w64 (of_z w64 (slice_index_or c.odd-o.result 1 (pos 0))) ≡ int_wrap w64 (number_at (odd_sums (i 1) (i 3) (i 5) (i 7)) 1) = start w64 _ _ (ap (λ (l : List ℤ). slice_index_or l 1 (pos 0)) o) in
    let o2 : to_z w64 (of_z w64 (slice_index_or c.odd-o.result 2 (pos 0))) ≡ int_wrap w64 (number_at (odd_sums (i 1) (i 3) (i 5) (i 7)) 2) = start w64 _ _ (ap (λ (l : List ℤ). slice_index_or l 2 (pos 0)) o) in
    let o3 : to_z w64 (of_z w64 (slice_index_or c.odd-o.result 3 (pos 0))) ≡ int_wrap w64 (number_at (odd_sums (i 1) (i 3) (i 5) (i 7)) 3) = start w64 _ _ (ap (λ (l : List ℤ). slice_index_or l 3 (pos 0)) o) in
    eight (summed w64 _ _ _ _ _ b0 o3 c.plus-e0.ensures) (summed w64 _ _ _ _ _ b1 o2 c.plus-e1.ensures) (summed w64 _ _ _ _ _ b2 o1 c.plus-e2.ensures) (summed w64 _ _ _ _ _ b3 o0 c.plus-e3.ensures) (less w64 _ _ _ _ _ b3 o0 c.minus-e4.ensures) (less w64 _ _ _ _ _ b2 o1 c.minus-e5.ensures) (less w64 _ _ _ _ _ b1 o2 c.minus-e6.ensures) (less w64 _ _ _ _ _ b0 o3 c.minus-e7.ensures)
