-- Rows put one after another: the block in natural order.
use Rattle.std.proofs.Common.{◌≡◌, ℕ, ◌+◌, ◌*◌, ◌/◌, ◌%◌, ◌≤◌, ◌<◌, List, [], ◌∷◌, length, set, slice_index_or, All, ℤ, pos, nat_abs, to_z, of_z, sym, ap, ◌∙◌, subst, arith, ⊎_elim}
use Rattle.std.specs.Int.{w16}
use Rattle.std.proofs.lemmas.Bool.{cases_lt}
use Rattle.std.proofs.lemmas.Int.{to_z-of_z}
use Rattle.std.proofs.lemmas.List.{get_or-set_same, get_or-set_other, ext_get_or}
use Rattle.std.proofs.lemmas.List.Elements.{All-from_get_or}
use Rattle.jpg_spec_image.specs.Dct.{number_at, column_at}
use Rattle.jpg_spec_image.specs.ForwardDct.{forward_dct}
use Rattle.jpg_spec_image.proofs.CodedBlocks.{forward_long}
use Rattle.jpg_dct.specs.declared.forward.lanes.Eight.{Eight}
use Rattle.jpg_dct.specs.Eights.{IsEight, vector}
use Rattle.jpg_dct.proofs.Eights.{fits16, handed, seen}
use Rattle.jpg_dct.proofs.Several.{each_of_eight}

-- one more number
pub number_set : (f : ℕ → ℤ) (out : List ℤ) (n : ℕ) (x : ℤ) → n < length out → ((k : ℕ) → k < n → number_at out k ≡ f k) → x ≡ f n → (k : ℕ) → k < n + 1 → number_at (set out n x) k ≡ f k
number_set f out n x there old is k lt =
    ⊎_elim
    (λ (a : k < n). get_or-set_other out n k x (pos 0) (λ e. omega (arith, a, e)) ∙ old k a)
    (λ (b : n ≤ k). (let e : k ≡ n = omega (arith, b, lt) in ap (number_at (set out n x)) e ∙ get_or-set_same out n x (pos 0) there ∙ is ∙ ap f (sym e)))
    (cases_lt k n)

-- eight rows of a block
abbrev pub AreRows : List ℕ → List (List ℤ) → Type 0
AreRows s rows = (v : ℕ) → v < 8 → (u : ℕ) → u < 8 → number_at (slice_index_or rows v []) u ≡ number_at (forward_dct s) (8 * v + u)

-- as they are passed on
pub rows_handed : (s : List ℕ) (d : Eight) → ((v : ℕ) → v < 8 → IsEight 8192 (vector d v)) → ((u v : ℕ) → u < 8 → v < 8 → number_at (vector d v) u ≡ number_at (forward_dct s) (8 * v + u))
    → AreRows s (seen w16 d.v0 ∷ seen w16 d.v1 ∷ seen w16 d.v2 ∷ seen w16 d.v3 ∷ seen w16 d.v4 ∷ seen w16 d.v5 ∷ seen w16 d.v6 ∷ seen w16 d.v7 ∷ [])
rows_handed s d small is =
    each_of_eight (λ v xs. (u : ℕ) → u < 8 → number_at xs u ≡ number_at (forward_dct s) (8 * v + u))
    (λ u lu. handed u (small 0 (omega arith)) (is u 0 lu (omega arith)))
    (λ u lu. handed u (small 1 (omega arith)) (is u 1 lu (omega arith)))
    (λ u lu. handed u (small 2 (omega arith)) (is u 2 lu (omega arith)))
    (λ u lu. handed u (small 3 (omega arith)) (is u 3 lu (omega arith)))
    (λ u lu. handed u (small 4 (omega arith)) (is u 4 lu (omega arith)))
    (λ u lu. handed u (small 5 (omega arith)) (is u 5 lu (omega arith)))
    (λ u lu. handed u (small 6 (omega arith)) (is u 6 lu (omega arith)))
    (λ u lu. handed u (small 7 (omega arith)) (is u 7 lu (omega arith)))

-- all numbers are there
number_is_of : (s : List ℕ) (out : List ℤ) (rows : List (List ℤ)) (n : ℕ) → 64 ≤ n → ((k : ℕ) → k < n → number_at out k ≡ column_at rows (k % 8) (k / 8)) → AreRows s rows
    → (k : ℕ) → k < 64 → number_at out k ≡ number_at (forward_dct s) k
number_is_of s out rows n end made are k lt =
    let e : 8 * (k / 8) + k % 8 ≡ k = omega arith in
    made k (omega (arith, lt, end)) ∙ are (k / 8) (omega (arith, lt)) (k % 8) (omega arith) ∙ ap (number_at (forward_dct s)) e

pub block_is : (s : List ℕ) (out : List ℤ) (rows : List (List ℤ)) (n : ℕ) → 64 ≤ n → length out ≡ 64 → ((k : ℕ) → k < n → number_at out k ≡ column_at rows (k % 8) (k / 8)) → AreRows s rows
    → out ≡ forward_dct s
block_is s out rows n end long made are =
    ext_get_or (pos 0) out (forward_dct s) (long ∙ sym (forward_long s)) (λ k h. number_is_of s out rows n end made are k (omega (arith, h, long)))

-- small numbers
pub block_small : (s : List ℕ) (d : Eight) → ((v : ℕ) → v < 8 → IsEight 8192 (vector d v)) → ((u v : ℕ) → u < 8 → v < 8 → number_at (vector d v) u ≡ number_at (forward_dct s) (8 * v + u))
    → All (λ x. nat_abs x ≤ 8192) (forward_dct s)
block_small s d small is =
    All-from_get_or (λ x. nat_abs x ≤ 8192) (forward_dct s) (pos 0)
    (λ k h. (let lt : k < 64 = omega (arith, h, forward_long s) in
    let lv : k / 8 < 8 = omega (arith, lt) in
    let lu : k % 8 < 8 = omega arith in
    let e : 8 * (k / 8) + k % 8 ≡ k = omega arith in
    subst (λ x. nat_abs x ≤ 8192) (is (k % 8) (k / 8) lu lv ∙ ap (number_at (forward_dct s)) e) ((small (k / 8) lv).small (k % 8) lu)))

-- so that a number of the rows fits 16 bits
pub number_fits : (s : List ℕ) (d : Eight) (rows : List (List ℤ)) (n : ℕ) → n < 64 → ((v : ℕ) → v < 8 → IsEight 8192 (vector d v))
    → ((u v : ℕ) → u < 8 → v < 8 → number_at (vector d v) u ≡ number_at (forward_dct s) (8 * v + u)) → AreRows s rows
    → to_z w16 (of_z w16 (column_at rows (n % 8) (n / 8))) ≡ column_at rows (n % 8) (n / 8)
number_fits s d rows n lt small is are =
    let lv : n / 8 < 8 = omega (arith, lt) in
    let lu : n % 8 < 8 = omega arith in
    let x : ℤ = column_at rows (n % 8) (n / 8) in
    let h : nat_abs x ≤ 8192 = subst (λ x. nat_abs x ≤ 8192) (is (n % 8) (n / 8) lu lv ∙ sym (are (n / 8) lv (n % 8) lu)) ((small (n / 8) lv).small (n % 8) lu) in
    to_z-of_z w16 x (fits16 x (omega (arith, h)))
