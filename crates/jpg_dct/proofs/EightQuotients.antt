-- Lanes of magnitudes and quotients.
use Rattle.std.proofs.Common.{◌≡◌, ℕ, zero, suc, ◌+◌, ◌-◌, ◌*◌, ◌/◌, ◌%◌, ◌<◌, ◌≤◌, Bool, true, false, List, ◌++◌, length, slice_index, get_or, map, ℤ, pos, negsuc, ◌-ℤ◌, neg_ℤ, nat_abs, nat_lt, to_z, of_z, Fits, refl, sym, ap, ◌∙◌, subst, arith, ⊎_elim}
use Rattle.std.specs.Int.{w16}
use mathlib.Core.Bool.{cond}
use lib.Dec.{T}
use lib.Lanes.{Each1, top}
use lib.Signed.{lt_z, non_neg, shr_z}
use Rattle.std.specs.Int.Bits.{bit_xor, bit_and, xor_zero_r, xor_add_and}
use Rattle.std.proofs.lemmas.Bool.{cases_lt, ltb-true}
use Rattle.std.proofs.lemmas.Int.{ints, to_z-of_z, int_wrap_fits, wrapping_sub_is}
use Rattle.std.proofs.lemmas.Nat.{mul-le, and_mask}
use Rattle.std.proofs.lemmas.List.{get_or-map, get_or_append_left}
use Rattle.std.proofs.lemmas.List.Sums.{AllPass-from_list_all}
use Rattle.std.proofs.lemmas.Simd.{Each1-get_or}
use Rattle.jpg_spec.specs.Lists.{below}
use Rattle.jpg_spec.specs.Zigzag.{zigzag}
use Rattle.jpg_spec_image.specs.Dct.{number_at}
use Rattle.jpg_spec.proofs.Basics.Common.{length_below}
use Rattle.jpg_spec.proofs.Basics.Rows.{at_below, map_alike}
use Rattle.jpg_dct.specs.Division.{with_sign, high_part}
use Rattle.jpg_dct.specs.declared.forward.lanes.Eight.{Eight}
use Rattle.jpg_dct.specs.Eights.{IsEight, vector, quotient_at}
use Rattle.jpg_dct.proofs.Eights.{lane, lane_is, second_is, eight_at, fits16, seen, same16}

-- a function of lanes, eight times
pub eight_naturals : (f : ℕ → ℕ) (k : ℕ) → k < 8 → slice_index (map f (below 8)) k ≡ f k
eight_naturals f k lt = get_or-map f (below 8) k 0 0 (omega (arith, length_below 8, lt)) ∙ ap f (at_below 8 k lt)

pub plain_lane : (a : List ℕ) (k : ℕ) → length a ≡ 8 → k < 8 → get_or (a ++ a) k 0 ≡ slice_index a k
plain_lane a k long lt = get_or_append_left a a 0 k (omega (arith, long, lt))

pub plain_sums : (a b : List ℕ) → length a ≡ 8 → length b ≡ 8 → ((k : ℕ) → k < 8 → slice_index a k + slice_index b k < 65536) → (k : ℕ) → k < 8
    → slice_index (map (λ n. (get_or (a ++ a) n 0 + get_or (b ++ b) n 0) % 65536) (below 8)) k ≡ slice_index a k + slice_index b k
plain_sums a b la lb few k lt =
    let h : slice_index a k + slice_index b k < 65536 = few k lt in
    let e : (slice_index a k + slice_index b k) % 65536 ≡ slice_index a k + slice_index b k = omega (arith, h) in
    eight_naturals (λ n. (get_or (a ++ a) n 0 + get_or (b ++ b) n 0) % 65536) k lt
    ∙ ap (λ m. (m + get_or (b ++ b) k 0) % 65536) (plain_lane a k la lt) ∙ ap (λ m. (slice_index a k + m) % 65536) (plain_lane b k lb lt) ∙ e

pub below_16 : (a : List ℕ) (k : ℕ) → length a ≡ 8 → Each1 (Fits w16) a → k < 8 → slice_index a k < 65536
below_16 a k long all lt = (Each1-get_or (Fits w16) a k 0 (omega (arith, long, lt)) all).fits

pub high_parts_are : (a b : List ℕ) → length a ≡ 8 → length b ≡ 8 → Each1 (Fits w16) a → Each1 (Fits w16) b → (k : ℕ) → k < 8
    → slice_index (map (λ n. get_or (a ++ a) n 0 * get_or (b ++ b) n 0 % 4294967296 / 65536) (below 8)) k ≡ high_part (slice_index a k) (slice_index b k)
high_parts_are a b la lb fa fb k lt =
    let x : ℕ = slice_index a k in
    let y : ℕ = slice_index b k in
    let hx : x < 65536 = below_16 a k la fa lt in
    let hy : y < 65536 = below_16 b k lb fb lt in
    let h : x * y ≤ 65535 * 65535 = mul-le x y 65535 65535 (omega (arith, hx)) (omega (arith, hy)) in
    let e : x * y % 4294967296 ≡ x * y = omega (arith, h) in
    eight_naturals (λ n. get_or (a ++ a) n 0 * get_or (b ++ b) n 0 % 4294967296 / 65536) k lt
    ∙ ap (λ m. m * get_or (b ++ b) k 0 % 4294967296 / 65536) (plain_lane a k la lt) ∙ ap (λ m. x * m % 4294967296 / 65536) (plain_lane b k lb lt)
    ∙ ap (λ m. m / 65536) e

-- SIGNS

abbrev pub opposite : ℕ → ℕ
opposite m = (0 + (65536 - m)) % 65536

opposite_is : (x : ℤ) → nat_abs x ≤ 16384 → to_z w16 (opposite (of_z w16 x)) ≡ neg_ℤ x
opposite_is x h =
    let e : pos 0 -ℤ x ≡ neg_ℤ x = omega (arith, ints) in
    wrapping_sub_is w16 (pos 0) x (fits16 (pos 0) (omega arith)) (fits16 x (omega (arith, h))) ∙ int_wrap_fits w16 (pos 0 -ℤ x) (fits16 (pos 0 -ℤ x) (omega (arith, ints, h))) ∙ e

chosen : (b : Bool) (p q : ℕ) → to_z w16 (cond (top 15 (cond b 65535 0)) p q) ≡ cond b (to_z w16 p) (to_z w16 q)
chosen true p q = refl
chosen false p q = refl

abbrev pub size_lane : ℕ → ℤ
size_lane m = to_z w16 (cond (top 15 (cond (lt_z (to_z w16 m) (to_z w16 (opposite m))) 65535 0)) (opposite m) m)

larger : (x : ℤ) → cond (lt_z x (neg_ℤ x)) (neg_ℤ x) x ≡ pos (nat_abs x)
larger (pos zero) = refl
larger (pos (suc n)) = refl
larger (negsuc n) = refl

size_is : (m : ℕ) (x : ℤ) → m ≡ of_z w16 x → nat_abs x ≤ 8192 → size_lane m ≡ pos (nat_abs x)
size_is m x e h =
    let o : to_z w16 (opposite (of_z w16 x)) ≡ neg_ℤ x = opposite_is x (omega (arith, h)) in
    let p : to_z w16 (of_z w16 x) ≡ x = to_z-of_z w16 x (fits16 x (omega (arith, h))) in
    ap size_lane e
    ∙ chosen (lt_z (to_z w16 (of_z w16 x)) (to_z w16 (opposite (of_z w16 x)))) (opposite (of_z w16 x)) (of_z w16 x)
    ∙ ap (λ z. cond (lt_z (to_z w16 (of_z w16 x)) z) z (to_z w16 (of_z w16 x))) o
    ∙ ap (λ z. cond (lt_z z (neg_ℤ x)) (neg_ℤ x) z) p
    ∙ larger x

pub sizes_are : (x : List ℤ) → IsEight 8192 x → (k : ℕ) → k < 8 → slice_index (map (λ n. nat_abs (size_lane (lane w16 x x n))) (below 8)) k ≡ nat_abs (number_at x k)
sizes_are x e k lt =
    eight_naturals (λ n. nat_abs (size_lane (lane w16 x x n))) k lt ∙ ap nat_abs (size_is (lane w16 x x k) (number_at x k) (lane_is w16 x x k e.long lt) (e.small k lt))

abbrev pub Plain : ℤ → Type 0
Plain z = T (non_neg z) × Fits w16 (nat_abs z)

plain_pos : (n : ℕ) → n ≤ 8192 → Plain (pos n)
plain_pos n h = (tt, record { fits = omega (arith, h) })

-- what the cast requires of all lanes
pub sizes_fit : (x : List ℤ) → IsEight 8192 x → Each1 Plain (map (λ n. size_lane (lane w16 x x n)) (below 8))
sizes_fit x e =
    (p 0 (omega arith), (p 1 (omega arith), (p 2 (omega arith), (p 3 (omega arith), (p 4 (omega arith), (p 5 (omega arith), (p 6 (omega arith), (p 7 (omega arith), tt))))))))
  where
    p : (k : ℕ) → k < 8 → Plain (size_lane (lane w16 x x k))
    p k lt = subst Plain (sym (size_is (lane w16 x x k) (number_at x k) (lane_is w16 x x k e.long lt) (e.small k lt))) (plain_pos (nat_abs (number_at x k)) (e.small k lt))

abbrev pub sign_lane : ℕ → ℕ → ℤ
sign_lane m q = (let sign : ℕ = of_z w16 (shr_z (to_z w16 m) 32768) in to_z w16 ((bit_xor q sign + (65536 - sign)) % 65536))

all_bits : (q : ℕ) → q ≤ 16384 → bit_xor q 65535 ≡ 65535 - q
all_bits q few =
    let a : bit_and q 65535 ≡ q % 65536 = and_mask q 16 in
    omega (arith, few, a, xor_add_and q 65535)

as_signed : (x : ℤ) (q : ℕ) → nat_abs x ≤ 8192 → q ≤ 16384 → sign_lane (of_z w16 x) q ≡ with_sign x q
as_signed (pos n) q h few =
    let z : n / 32768 ≡ 0 = omega (arith, h) in
    let e : (bit_xor q 0 + 65536) % 65536 ≡ q = omega (arith, few, xor_zero_r q) in
    ap (λ s. to_z w16 ((bit_xor q (of_z w16 (shr_z s 32768)) + (65536 - of_z w16 (shr_z s 32768))) % 65536)) (to_z-of_z w16 (pos n) (fits16 (pos n) (omega (arith, h))))
    ∙ ap (λ m. to_z w16 ((bit_xor q (of_z w16 (pos m)) + (65536 - of_z w16 (pos m))) % 65536)) z
    ∙ ap (to_z w16) e
    ∙ to_z-of_z w16 (pos q) (fits16 (pos q) (omega (arith, few)))
as_signed (negsuc n) q h few =
    let z : n / 32768 ≡ 0 = omega (arith, h) in
    let e : (bit_xor q 65535 + 1) % 65536 ≡ (0 + (65536 - q)) % 65536 = omega (arith, few, all_bits q few) in
    ap (λ s. to_z w16 ((bit_xor q (of_z w16 (shr_z s 32768)) + (65536 - of_z w16 (shr_z s 32768))) % 65536)) (to_z-of_z w16 (negsuc n) (fits16 (negsuc n) (omega (arith, h))))
    ∙ ap (λ m. to_z w16 ((bit_xor q (of_z w16 (negsuc m)) + (65536 - of_z w16 (negsuc m))) % 65536)) z
    ∙ ap (to_z w16) e
    ∙ opposite_is (pos q) few

sign_is : (m q : ℕ) (x : ℤ) → m ≡ of_z w16 x → nat_abs x ≤ 8192 → q ≤ 16384 → sign_lane m q ≡ with_sign x q
sign_is m q x e h few = ap (λ n. sign_lane n q) e ∙ as_signed x q h few

pub signed_are : (x : List ℤ) (sizes : List ℕ) → IsEight 8192 x → length sizes ≡ 8 → ((k : ℕ) → k < 8 → slice_index sizes k ≤ 16384) → (k : ℕ) → k < 8
    → number_at (map (λ n. sign_lane (lane w16 x x n) (get_or (sizes ++ sizes) n 0)) (below 8)) k ≡ with_sign (number_at x k) (slice_index sizes k)
signed_are x sizes e long few k lt =
    eight_at (λ n. sign_lane (lane w16 x x n) (get_or (sizes ++ sizes) n 0)) k lt
    ∙ ap (sign_lane (lane w16 x x k)) (plain_lane sizes k long lt)
    ∙ sign_is (lane w16 x x k) (slice_index sizes k) (number_at x k) (lane_is w16 x x k e.long lt) (e.small k lt) (few k lt)

with_sign_small : (x : ℤ) (q : ℕ) → nat_abs (with_sign x q) ≡ q
with_sign_small (pos n) q = refl
with_sign_small (negsuc n) zero = refl
with_sign_small (negsuc n) (suc q) = refl

pub signed_eight : (x r : List ℤ) (sizes : List ℕ) → length r ≡ 8 → ((k : ℕ) → k < 8 → slice_index sizes k ≤ 16384) → ((k : ℕ) → k < 8 → number_at r k ≡ with_sign (number_at x k) (slice_index sizes k)) → IsEight 16384 r
signed_eight x r sizes long few at = record {
  long = long;
  small = λ k lt. omega (arith, ap nat_abs (at k lt), with_sign_small (number_at x k) (slice_index sizes k), few k lt);
}

-- QUOTIENTS of one lane
pub whole_small : (more factor scale : ℕ) → more ≤ 16388 → factor < 65536 → scale ≤ 16384 → high_part (high_part more factor) scale ≤ 16384
whole_small more factor scale hm hf hs =
    let p : more * factor ≤ 16388 * 65536 = mul-le more factor 16388 65536 hm (omega (arith, hf)) in
    let q : high_part more factor ≤ 16388 = omega (arith, p) in
    let r : high_part more factor * scale ≤ 16388 * 16384 = mul-le (high_part more factor) scale 16388 16384 q hs in
    omega (arith, r)

-- ROWS of quotients

-- a row of quotients as it is passed on
pub row_of : (x r : List ℤ) (halves factors scales : List ℕ) (v : ℕ) → IsEight 8192 x → IsEight 16384 r
    → ((k : ℕ) → k < 8 → number_at r k ≡ quotient_at (number_at (seen w16 x) k) halves factors scales (8 * v + k))
    → (k : ℕ) → k < 8 → number_at (seen w16 r) k ≡ quotient_at (number_at x k) halves factors scales (8 * v + k)
row_of x r halves factors scales v ex er at k lt =
    ap (λ xs. number_at xs k) (same16 16384 r (omega arith) er) ∙ at k lt
    ∙ ap (λ xs. quotient_at (number_at xs k) halves factors scales (8 * v + k)) (same16 8192 x (omega arith) ex)

-- IN ZIGZAG ORDER

abbrev pub block_lane : Eight → ℕ → ℤ
block_lane d n = to_z w16 (lane w16 (vector d (2 * (n / 16))) (vector d (2 * (n / 16) + 1)) (n % 16))

block_lane_is : (d : Eight) → ((v : ℕ) → v < 8 → IsEight 16384 (vector d v)) → (n : ℕ) → n < 64 → block_lane d n ≡ number_at (vector d (n / 8)) (n % 8)
block_lane_is d all n few =
    let i : ℕ = n / 8 in
    let k : ℕ = n % 8 in
    let li : i < 8 = omega (arith, few) in
    let lk : k < 8 = omega arith in
    let fit : to_z w16 (of_z w16 (number_at (vector d i) k)) ≡ number_at (vector d i) k = to_z-of_z w16 (number_at (vector d i) k) (fits16 (number_at (vector d i) k) (omega (arith, (all i li).small k lk))) in
    ⊎_elim
    (λ (a : n % 16 < 8). (let q : 2 * (n / 16) ≡ i = omega (arith, a) in
    let r : n % 16 ≡ k = omega (arith, a) in
    ap (λ m. to_z w16 (lane w16 (vector d m) (vector d (2 * (n / 16) + 1)) (n % 16))) q
    ∙ ap (λ m. to_z w16 (lane w16 (vector d i) (vector d (2 * (n / 16) + 1)) m)) r
    ∙ ap (to_z w16) (lane_is w16 (vector d i) (vector d (2 * (n / 16) + 1)) k (all i li).long lk) ∙ fit))
    (λ (b : 8 ≤ n % 16). (let q : 2 * (n / 16) + 1 ≡ i = omega (arith, b) in
    let r : n % 16 ≡ 8 + k = omega (arith, b) in
    let before : 2 * (n / 16) < 8 = omega (arith, few) in
    ap (λ m. to_z w16 (lane w16 (vector d (2 * (n / 16))) (vector d m) (n % 16))) q
    ∙ ap (λ m. to_z w16 (lane w16 (vector d (2 * (n / 16))) (vector d i) m)) r
    ∙ ap (to_z w16) (second_is w16 (vector d (2 * (n / 16))) (vector d i) k (all (2 * (n / 16)) before).long (all i li).long lk) ∙ fit))
    (cases_lt (n % 16) 8)

pub zigzag_is : (d : Eight) → ((v : ℕ) → v < 8 → IsEight 16384 (vector d v)) → map (block_lane d) zigzag ≡ map (λ n. number_at (vector d (n / 8)) (n % 8)) zigzag
zigzag_is d all =
    map_alike (λ n. nat_lt n 64 ≡ true) (block_lane d) (λ n. number_at (vector d (n / 8)) (n % 8)) zigzag (λ n h. block_lane_is d all n (ltb-true n 64 h)) (AllPass-from_list_all (λ x. nat_lt x 64) zigzag refl)
