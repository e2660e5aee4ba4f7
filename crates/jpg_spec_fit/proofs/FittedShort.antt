-- Sizes of at most 16 bits aren't adjusted.
use Rattle.std.proofs.Common.{◌≡◌, ℕ, zero, suc, ◌+◌, ◌<◌, ◌≤◌, cond, Bool, List, [], ◌∷◌, length, refl, ap, ◌∙◌, arith, ◌==◌}
use Rattle.std.specs.Prelude.{All, count_by, reverse}
use Rattle.std.proofs.lemmas.List.Sums.{sum_by-cons}
use Rattle.std.proofs.lemmas.List.Elements.{All-head, All-tail}
use Rattle.jpg_spec.proofs.Basics.Common.{not_same}
use Rattle.jpg_spec_fit.specs.Fitted.{code_sizes, sizes_counted, limited, longest_moved, one_less, fitted_counts, fitted}

abbrev tally : Bool → ℕ
tally t = cond t 1 0

none_long : (m n : ℕ) (sizes : List ℕ) → m < n → All (λ size. size ≤ m) sizes → count_by (λ size. size == n) sizes ≡ 0
none_long m n [] l h = refl
none_long m n (s ∷ sizes) l h =
    let small = All-head (λ size. size ≤ m) s sizes h in
    let rest = none_long m n sizes l (All-tail (λ size. size ≤ m) s sizes h) in
    let one = ap tally (not_same s n (λ e. omega (arith, e, small, l))) in
    omega (arith, rest, one, sum_by-cons (λ size. cond (size == n) 1 0) s sizes)

limited_short : (more : ℕ) (sizes : List ℕ) → All (λ size. size ≤ 16) sizes → limited more (sizes_counted (more + 16) sizes) ≡ sizes_counted 16 sizes
limited_short zero sizes h = (let e : 0 + 16 ≡ 16 = omega arith in ap (λ n. sizes_counted n sizes) e)
limited_short (suc more) sizes h =
    let e : suc more + 16 ≡ suc (more + 16) = omega arith in
    ap (λ n. limited (suc more) (sizes_counted n sizes)) e
    ∙ ap (λ n. limited more (longest_moved n (sizes_counted (more + 16) sizes))) (none_long 16 (suc (more + 16)) sizes (omega arith) h) ∙ limited_short more sizes h

pub short_counts : (counts : List ℕ) → All (λ size. size ≤ 16) (code_sizes counts) → (fitted counts).counts ≡ reverse (one_less (sizes_counted 16 (code_sizes counts)))
unfolding fitted fitted_counts
short_counts counts h = ap (λ l. reverse (one_less l)) (limited_short (length counts) (code_sizes counts) h)
