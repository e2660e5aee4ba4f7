-- Lanes of sums that are rounded, and the samples that they determine.
use Rattle.std.proofs.Common.{◌≡◌, ℕ, ◌+◌, ◌-◌, ◌/◌, ◌%◌, suc, ◌<◌, ◌≤◌, Bool, true, false, nat_lt, List, ◌++◌, length, slice_index, get_or, map, ℤ, pos, negsuc, nat_abs, to_z, of_z, Fits, FitsSigned, refl, sym, ap, ◌∙◌, subst, arith, ⊎_elim}
use Rattle.std.specs.Prelude.{replicate}
use Rattle.std.specs.Int.{w8, w16, w32, int_wrap, int_shr}
use Rattle.std.specs.Int.Bits.{bit_and}
use lib.Dec.{T}
use mathlib.Core.Bool.{cond}
use lib.Lanes.{Each1, top}
use lib.Signed.{non_neg}
use Rattle.std.proofs.lemmas.Bool.{cases_lt, ltb-true, ltb-false}
use Rattle.std.proofs.lemmas.Int.{to_z-of_z, fits_signed_from_abs, int_wrap_fits, SFits-int_wrap}
use Rattle.std.proofs.lemmas.Nat.{and_mask}
use Rattle.std.proofs.lemmas.List.{get_or-map, get_or_append_left, get_or-append-add, get_or-replicate}
use Rattle.jpg_spec.specs.Lists.{below}
use Rattle.jpg_spec.proofs.Basics.Common.{length_below}
use Rattle.jpg_spec.proofs.Basics.Rows.{at_below}
use Rattle.jpg_spec_image.specs.Dct.{number_at}
use Rattle.jpg_dct.specs.Eights.{IsEight}
use Rattle.jpg_dct.specs.Sums.{AreWords, low_of}
use Rattle.jpg_dct.proofs.Samples.{shifted_fits}
use Rattle.jpg_dct.proofs.Eights.{lane, lane_is, eight_at, fits16, seen, same_seen}
use Rattle.jpg_dct.proofs.EightQuotients.{eight_naturals, plain_lane, below_16}

-- SHIFTS

abbrev pub shift_lane : ℕ → ℕ → ℤ
shift_lane n m = to_z w32 (of_z w32 (int_shr (to_z w32 m) n))

shift_lane_is : (n m : ℕ) (x : ℤ) → m ≡ of_z w32 x → FitsSigned w32 x → shift_lane n m ≡ int_shr x n
shift_lane_is n m x e f =
    ap (shift_lane n) e ∙ ap (λ z. to_z w32 (of_z w32 (int_shr z n))) (to_z-of_z w32 x f) ∙ to_z-of_z w32 (int_shr x n) (shifted_fits w32 x n f)

shift_small : (x : ℤ) → nat_abs x ≤ 67106816 → nat_abs (int_shr x 11) ≤ 32767
shift_small (pos n) h = (let e : n / 2048 ≤ 32767 = omega (arith, h) in e)
shift_small (negsuc n) h = (let e : suc (n / 2048) ≤ 32767 = omega (arith, h) in e)

column_lane_is : (x : List ℤ) → IsEight 67106816 x → (k : ℕ) → k < 8 → shift_lane 11 (lane w32 x x k) ≡ int_shr (number_at x k) 11
column_lane_is x e k lt =
    shift_lane_is 11 (lane w32 x x k) (number_at x k) (lane_is w32 x x k e.long lt) (fits_signed_from_abs w32 (number_at x k) (omega (arith, e.small k lt)))

column_fits : (x : List ℤ) → IsEight 67106816 x → (k : ℕ) → k < 8 → FitsSigned w16 (shift_lane 11 (lane w32 x x k))
column_fits x e k lt =
    subst (λ z. FitsSigned w16 z) (sym (column_lane_is x e k lt)) (fits16 (int_shr (number_at x k) 11) (shift_small (number_at x k) (e.small k lt)))

pub columns_fit : (x : List ℤ) → IsEight 67106816 x → Each1 (FitsSigned w16) (map (λ n. shift_lane 11 (lane w32 x x n)) (below 8))
columns_fit x e =
    let p = column_fits x e in
    (p 0 (omega arith), (p 1 (omega arith), (p 2 (omega arith), (p 3 (omega arith), (p 4 (omega arith), (p 5 (omega arith), (p 6 (omega arith), (p 7 (omega arith), tt))))))))

pub columns_are : (x : List ℤ) → IsEight 67106816 x → (k : ℕ) → k < 8
    → number_at (map (λ n. to_z w16 (of_z w16 (shift_lane 11 (lane w32 x x n)))) (below 8)) k ≡ int_shr (number_at x k) 11
columns_are x e k lt =
    eight_at (λ n. to_z w16 (of_z w16 (shift_lane 11 (lane w32 x x n)))) k lt
    ∙ to_z-of_z w16 (shift_lane 11 (lane w32 x x k)) (column_fits x e k lt)
    ∙ column_lane_is x e k lt

pub columns_small : (x r : List ℤ) → IsEight 67106816 x → length r ≡ 8 → ((k : ℕ) → k < 8 → number_at r k ≡ int_shr (number_at x k) 11) → IsEight 32767 r
columns_small x r e long at = record {
  long = long;
  small = λ k lt. subst (λ z. nat_abs z ≤ 32767) (sym (at k lt)) (shift_small (number_at x k) (e.small k lt));
}

-- LOW BITS of sums of rows

word_fits : (x : ℤ) → int_wrap w32 x ≡ x → FitsSigned w32 x
word_fits x e = subst (λ z. FitsSigned w32 z) e (SFits-int_wrap w32 x)

high_small : (x : ℤ) → FitsSigned w32 x → nat_abs (int_shr x 18) ≤ 8192
high_small (pos n) f = (let e : n / 262144 ≤ 8192 = omega (arith, f.sfits) in e)
high_small (negsuc n) f = (let e : suc (n / 262144) ≤ 8192 = omega (arith, f.sfits) in e)

low_bits : (x : ℤ) → FitsSigned w32 x → of_z w16 (int_shr x 18) % 1024 ≡ of_z w32 x / 262144 % 1024
low_bits (pos n) f = (let e : n / 262144 % 1024 ≡ n / 262144 % 1024 = refl in e)
low_bits (negsuc n) f = (let e : (65536 - suc (n / 262144)) % 1024 ≡ (4294967296 - suc n) / 262144 % 1024 = omega (arith, f.sfits) in e)

abbrev pub low_lane : ℕ → ℕ
low_lane m = bit_and (of_z w16 (shift_lane 18 m)) 1023

low_lane_is : (x : List ℤ) → AreWords x → (k : ℕ) → k < 8 → low_lane (lane w32 x x k) ≡ low_of (number_at x k)
low_lane_is x e k lt =
    let z : ℤ = number_at x k in
    let f : FitsSigned w32 z = word_fits z (e.word k lt) in
    ap (λ y. bit_and (of_z w16 y) 1023) (shift_lane_is 18 (lane w32 x x k) z (lane_is w32 x x k e.long lt) f)
    ∙ and_mask (of_z w16 (int_shr z 18)) 10 ∙ low_bits z f

high_fits : (x : List ℤ) → AreWords x → (k : ℕ) → k < 8 → FitsSigned w16 (shift_lane 18 (lane w32 x x k))
high_fits x e k lt =
    let z : ℤ = number_at x k in
    let f : FitsSigned w32 z = word_fits z (e.word k lt) in
    let few : nat_abs (int_shr z 18) ≤ 8192 = high_small z f in
    subst (λ z. FitsSigned w16 z) (sym (shift_lane_is 18 (lane w32 x x k) z (lane_is w32 x x k e.long lt) f)) (fits16 (int_shr z 18) (omega (arith, few)))

pub highs_fit : (x : List ℤ) → AreWords x → Each1 (FitsSigned w16) (map (λ n. shift_lane 18 (lane w32 x x n)) (below 8))
highs_fit x e =
    let p = high_fits x e in
    (p 0 (omega arith), (p 1 (omega arith), (p 2 (omega arith), (p 3 (omega arith), (p 4 (omega arith), (p 5 (omega arith), (p 6 (omega arith), (p 7 (omega arith), tt))))))))

small_natural : (m : ℕ) → m < 1024 → to_z w16 m ≡ pos m
small_natural m h = to_z-of_z w16 (pos m) (fits16 (pos m) (omega (arith, h)))

low_small : (m : ℕ) → low_lane m < 1024
low_small m = (let e = and_mask (of_z w16 (shift_lane 18 m)) 10 in omega (arith, e))

natural_fits : (m : ℕ) → T (non_neg (to_z w16 (low_lane m))) × Fits w16 (nat_abs (to_z w16 (low_lane m)))
natural_fits m =
    let e : to_z w16 (low_lane m) ≡ pos (low_lane m) = small_natural (low_lane m) (low_small m) in
    subst (λ z. T (non_neg z) × Fits w16 (nat_abs z)) (sym e) (tt, record { fits = omega (arith, low_small m) })

-- what the cast requires of all lanes
pub naturals_fit : (f : ℕ → ℕ) → Each1 (λ z. T (non_neg z) × Fits w16 (nat_abs z)) (map (λ n. to_z w16 (low_lane (f n))) (below 8))
naturals_fit f =
    (natural_fits (f 0), (natural_fits (f 1), (natural_fits (f 2), (natural_fits (f 3), (natural_fits (f 4), (natural_fits (f 5), (natural_fits (f 6), (natural_fits (f 7), tt))))))))

pub lows_are : (x : List ℤ) → AreWords x → (k : ℕ) → k < 8 → slice_index (map (λ n. nat_abs (to_z w16 (low_lane (lane w32 x x n)))) (below 8)) k ≡ low_of (number_at x k)
lows_are x e k lt =
    eight_naturals (λ n. nat_abs (to_z w16 (low_lane (lane w32 x x n)))) k lt
    ∙ ap nat_abs (small_natural (low_lane (lane w32 x x k)) (low_small (lane w32 x x k)))
    ∙ low_lane_is x e k lt

-- as a call sees them
pub same_words : (xs : List ℤ) → AreWords xs → seen w32 xs ≡ xs
same_words xs e = same_seen w32 xs (λ k lt. word_fits (number_at xs k) (e.word k (omega (arith, lt, e.long))))

-- sums that were wrapped
pub words_of : {r : List ℤ} (f : ℕ → ℤ) → length r ≡ 8 → ((k : ℕ) → k < 8 → number_at r k ≡ int_wrap w32 (f k)) → AreWords r
words_of {r} f long at = record {
  long = long;
  word = λ k lt. ap (int_wrap w32) (at k lt) ∙ int_wrap_fits w32 (int_wrap w32 (f k)) (SFits-int_wrap w32 (f k)) ∙ sym (at k lt);
}

pub words_seen : {xs : List ℤ} → AreWords xs → AreWords (seen w32 xs)
words_seen {xs} e = subst AreWords (sym (same_words xs e)) e

-- DIFFERENCES that stop at 0

abbrev pub excess_lane : ℕ → ℕ → ℕ
excess_lane a b = (cond (top 15 (cond (nat_lt a b) 65535 0)) b a + (65536 - b)) % 65536

chosen : (t : Bool) (p q : ℕ) → cond (top 15 (cond t 65535 0)) p q ≡ cond t p q
chosen true p q = refl
chosen false p q = refl

by_test : (t : Bool) (a b : ℕ) → nat_lt a b ≡ t → a < 65536 → b < 65536 → (cond t b a + (65536 - b)) % 65536 ≡ a - b
by_test true a b e ha hb = (let lt : a < b = ltb-true a b e in omega (arith, lt, ha, hb))
by_test false a b e ha hb = (let le : b ≤ a = ltb-false a b e in omega (arith, le, ha, hb))

excess_is : (a b : ℕ) → a < 65536 → b < 65536 → excess_lane a b ≡ a - b
excess_is a b ha hb = ap (λ m. (m + (65536 - b)) % 65536) (chosen (nat_lt a b) b a) ∙ by_test (nat_lt a b) a b refl ha hb

pub excesses_are : (a b : List ℕ) → length a ≡ 8 → length b ≡ 8 → Each1 (Fits w16) a → Each1 (Fits w16) b → (k : ℕ) → k < 8
    → slice_index (map (λ n. excess_lane (get_or (a ++ a) n 0) (get_or (b ++ b) n 0)) (below 8)) k ≡ slice_index a k - slice_index b k
excesses_are a b la lb fa fb k lt =
    eight_naturals (λ n. excess_lane (get_or (a ++ a) n 0) (get_or (b ++ b) n 0)) k lt
    ∙ ap (λ m. excess_lane m (get_or (b ++ b) k 0)) (plain_lane a k la lt) ∙ ap (excess_lane (slice_index a k)) (plain_lane b k lb lt)
    ∙ excess_is (slice_index a k) (slice_index b k) (below_16 a k la fa lt) (below_16 b k lb fb lt)

pub all_same : (x k : ℕ) → k < 8 → slice_index (replicate 8 x) k ≡ x
all_same x k lt = get_or-replicate 8 k x 0 lt

-- TWO VECTORS as one

abbrev pub sixteen_of : List ℕ → List ℕ → List ℕ
sixteen_of a b = map (λ n. get_or (a ++ b) n 0) (below 16)

sixteen_at : (a b : List ℕ) (k : ℕ) → k < 16 → slice_index (sixteen_of a b) k ≡ get_or (a ++ b) k 0
sixteen_at a b k lt = get_or-map (λ n. get_or (a ++ b) n 0) (below 16) k 0 0 (omega (arith, length_below 16, lt)) ∙ ap (λ n. get_or (a ++ b) n 0) (at_below 16 k lt)

first_of : (a b : List ℕ) (k : ℕ) → length a ≡ 8 → k < 8 → get_or (a ++ b) k 0 ≡ slice_index a k
first_of a b k long lt = get_or_append_left a b 0 k (omega (arith, long, lt))

second_of : (a b : List ℕ) (k : ℕ) → length a ≡ 8 → get_or (a ++ b) (8 + k) 0 ≡ slice_index b k
second_of a b k long = ap (λ n. get_or (a ++ b) (n + k) 0) (sym long) ∙ get_or-append-add a b k 0

pub firsts_are : (a b : List ℕ) → length a ≡ 8 → (k : ℕ) → k < 8 → slice_index (sixteen_of a b) k ≡ slice_index a k
firsts_are a b long k lt = sixteen_at a b k (omega (arith, lt)) ∙ first_of a b k long lt

pub seconds_are : (a b : List ℕ) → length a ≡ 8 → (k : ℕ) → k < 8 → slice_index (sixteen_of a b) (8 + k) ≡ slice_index b k
seconds_are a b long k lt = sixteen_at a b (8 + k) (omega (arith, lt)) ∙ second_of a b k long

abbrev pub AreBytes : List ℕ → List ℕ → Type 0
AreBytes a b = (k : ℕ) → k < 8 → (slice_index a k < 256) × (slice_index b k < 256)

byte_fits : (a b : List ℕ) → length a ≡ 8 → AreBytes a b → (n : ℕ) → n < 16 → Fits w8 (get_or (a ++ b) n 0)
byte_fits a b long few n lt =
    ⊎_elim
    (λ (h : n < 8). (let e = first_of a b n long h in record { fits = omega (arith, e, (few n h).0) }))
    (λ (h : 8 ≤ n). (let there : n - 8 < 8 = omega (arith, h, lt) in
    let is : 8 + (n - 8) ≡ n = omega (arith, h) in
    let e = second_of a b (n - 8) long in
    subst (λ m. Fits w8 (get_or (a ++ b) m 0)) is (record { fits = omega (arith, e, (few (n - 8) there).1) })))
    (cases_lt n 8)

pub bytes_fit : (a b : List ℕ) → length a ≡ 8 → AreBytes a b → Each1 (Fits w8) (sixteen_of a b)
bytes_fit a b long few =
    let p = byte_fits a b long few in (
      p 0 (omega arith),
      (
        p 1 (omega arith),
        (
          p 2 (omega arith),
          (
            p 3 (omega arith),
            (
              p 4 (omega arith),
              (
                p 5 (omega arith),
                (
                  p 6 (omega arith),
                  (
                    p 7 (omega arith),
                    (p 8 (omega arith), (p 9 (omega arith), (p 10 (omega arith), (p 11 (omega arith), (p 12 (omega arith), (p 13 (omega arith), (p 14 (omega arith), (p 15 (omega arith), tt)))))))),
                  ),
                ),
              ),
            ),
          ),
        ),
      ),
    )
