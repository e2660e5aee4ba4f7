-- Bounds of the frequencies of a line: numbers of an interval of a width give at most 32768 times that width, except
-- for the first.
use Rattle.std.proofs.Common.{◌≡◌, ℕ, zero, suc, ◌+◌, ◌*◌, ◌/◌, ◌≤◌, ◌<◌, List, ℤ, pos, negsuc, ◌+ℤ◌, ◌-ℤ◌, ◌*ℤ◌, ◌≤ℤ◌, neg_ℤ, nat_abs, refl, sym, ap, arith, subst, ⊎_elim, ◌-◌}
use Rattle.std.specs.Int.{int_shr}
use Rattle.std.proofs.lemmas.Int.{ints, unsigned_abs-mul}
use Rattle.std.proofs.lemmas.Nat.{mul-le}
use Rattle.std.proofs.lemmas.Bool.{cases_lt}
use Rattle.jpg_spec_image.specs.Dct.{odd_sums, number_at}
use Rattle.jpg_spec_image.specs.ForwardDct.{even_frequencies, woven, line_frequencies}

-- a magnitude of at most n
pub record Small (x : ℤ) (n : ℕ) : Type 0 where
  pub is : nat_abs x ≤ n

pub abs_neg : (a : ℤ) → nat_abs (neg_ℤ a) ≡ nat_abs a
abs_neg (pos zero) = refl
abs_neg (pos (suc n)) = refl
abs_neg (negsuc n) = refl

both_small : {a b : ℤ} {m n : ℕ} → Small a m → Small b n → Small (a +ℤ b) (m + n)
both_small {a} {b} {m} {n} ha hb = record { is = omega (arith, ints, ha.is, hb.is) }

less_small : {a b : ℤ} {m n : ℕ} → Small a m → Small b n → Small (a -ℤ b) (m + n)
less_small {a} {b} {m} {n} ha hb = both_small {a = a} {b = neg_ℤ b} {m = m} {n = n} ha (record { is = omega (arith, abs_neg b, hb.is) })

scaled_small : {a : ℤ} {m : ℕ} (k : ℕ) → Small a m → Small (a *ℤ pos k) (m * k)
scaled_small {a} {m} k h =
    let e : nat_abs (a *ℤ pos k) ≡ nat_abs a * k = unsigned_abs-mul a (pos k) in
    let l : nat_abs a * k ≤ m * k = mul-le (nat_abs a) k m k h.is (omega arith) in
    record { is = omega (arith, e, l) }

-- THE ODD SUMS, each number once
pub odd_at0 : (i1 i3 i5 i7 : ℤ) → number_at (odd_sums i1 i3 i5 i7) 0 ≡ ((i1 *ℤ pos 2260) +ℤ (i5 *ℤ pos 9633)) -ℤ ((i3 *ℤ pos 6436) +ℤ (i7 *ℤ pos 11363))
unfolding odd_sums
odd_at0 i1 i3 i5 i7 = omega (arith, ints)

pub odd_at1 : (i1 i3 i5 i7 : ℤ) → number_at (odd_sums i1 i3 i5 i7) 1 ≡ ((i1 *ℤ pos 6437) +ℤ (i5 *ℤ pos 2261)) +ℤ ((i7 *ℤ pos 9633) -ℤ (i3 *ℤ pos 11362))
unfolding odd_sums
odd_at1 i1 i3 i5 i7 = omega (arith, ints)

pub odd_at2 : (i1 i3 i5 i7 : ℤ) → number_at (odd_sums i1 i3 i5 i7) 2 ≡ ((i1 *ℤ pos 9633) -ℤ (i3 *ℤ pos 2259)) -ℤ ((i5 *ℤ pos 11362) +ℤ (i7 *ℤ pos 6436))
unfolding odd_sums
odd_at2 i1 i3 i5 i7 = omega (arith, ints)

pub odd_at3 : (i1 i3 i5 i7 : ℤ) → number_at (odd_sums i1 i3 i5 i7) 3 ≡ ((i1 *ℤ pos 11363) +ℤ (i3 *ℤ pos 9633)) +ℤ ((i5 *ℤ pos 6437) +ℤ (i7 *ℤ pos 2260))
unfolding odd_sums
odd_at3 i1 i3 i5 i7 = omega (arith, ints)

-- NUMBERS OF AN INTERVAL

pub record InWidth (lo : ℤ) (w : ℕ) (x : ℤ) : Type 0 where
  pub low : lo ≤ℤ x
  pub high : x ≤ℤ (lo +ℤ pos w)

pub record LineIn (lo : ℤ) (w : ℕ) (d0 d1 d2 d3 d4 d5 d6 d7 : ℤ) : Type 0 where
  pub at0 : InWidth lo w d0
  pub at1 : InWidth lo w d1
  pub at2 : InWidth lo w d2
  pub at3 : InWidth lo w d3
  pub at4 : InWidth lo w d4
  pub at5 : InWidth lo w d5
  pub at6 : InWidth lo w d6
  pub at7 : InWidth lo w d7

-- two of them
pub apart : (lo : ℤ) (w : ℕ) (a b : ℤ) → InWidth lo w a → InWidth lo w b → Small (a -ℤ b) w
apart lo w a b ha hb = record { is = omega (arith, ints, ha.low, ha.high, hb.low, hb.high) }

-- the difference of two sums of two
pub pairs_apart : (lo : ℤ) (w : ℕ) (a b c d : ℤ) → InWidth lo w a → InWidth lo w b → InWidth lo w c → InWidth lo w d → Small ((a +ℤ b) -ℤ (c +ℤ d)) (2 * w)
pairs_apart lo w a b c d ha hb hc hd =
    record { is = omega (arith, ints, ha.low, ha.high, hb.low, hb.high, hc.low, hc.high, hd.low, hd.high) }

-- FREQUENCIES 1 TO 7

pub record AreBelow (n : ℕ) (f : List ℤ) : Type 0 where
  pub at1 : nat_abs (number_at f 1) ≤ n
  pub at2 : nat_abs (number_at f 2) ≤ n
  pub at3 : nat_abs (number_at f 3) ≤ n
  pub at4 : nat_abs (number_at f 4) ≤ n
  pub at5 : nat_abs (number_at f 5) ≤ n
  pub at6 : nat_abs (number_at f 6) ≤ n
  pub at7 : nat_abs (number_at f 7) ≤ n

as_it_is : {x y : ℤ} {m n : ℕ} → x ≡ y → Small y m → m ≤ n → nat_abs x ≤ n
as_it_is {x} {y} {m} {n} e h l = omega (arith, ap nat_abs e, h.is, l)

record OddBelow (n : ℕ) (f : List ℤ) : Type 0 where
  at0 : nat_abs (number_at f 0) ≤ n
  at1 : nat_abs (number_at f 1) ≤ n
  at2 : nat_abs (number_at f 2) ≤ n
  at3 : nat_abs (number_at f 3) ≤ n

odd_below : (w : ℕ) (i1 i3 i5 i7 : ℤ) → Small i1 w → Small i3 w → Small i5 w → Small i7 w → OddBelow (32768 * w) (odd_sums i1 i3 i5 i7)
odd_below w i1 i3 i5 i7 h1 h3 h5 h7 = record {
  at0 = as_it_is (odd_at0 i1 i3 i5 i7)
      (less_small (both_small (scaled_small 2260 h1) (scaled_small 9633 h5)) (both_small (scaled_small 6436 h3) (scaled_small 11363 h7))) (omega arith);
  at1 = as_it_is (odd_at1 i1 i3 i5 i7)
      (both_small (both_small (scaled_small 6437 h1) (scaled_small 2261 h5)) (less_small (scaled_small 9633 h7) (scaled_small 11362 h3))) (omega arith);
  at2 = as_it_is (odd_at2 i1 i3 i5 i7)
      (less_small (less_small (scaled_small 9633 h1) (scaled_small 2259 h3)) (both_small (scaled_small 11362 h5) (scaled_small 6436 h7))) (omega arith);
  at3 = as_it_is (odd_at3 i1 i3 i5 i7)
      (both_small (both_small (scaled_small 11363 h1) (scaled_small 9633 h3)) (both_small (scaled_small 6437 h5) (scaled_small 2260 h7))) (omega arith);
}

-- the even ones, each difference once
pub even_at1 : (p0 p1 p2 p3 : ℤ) → number_at (even_frequencies p0 p1 p2 p3) 1 ≡ ((p0 -ℤ p3) *ℤ pos 10703) +ℤ ((p1 -ℤ p2) *ℤ pos 4433)
unfolding even_frequencies
even_at1 p0 p1 p2 p3 = omega (arith, ints)

pub even_at3 : (p0 p1 p2 p3 : ℤ) → number_at (even_frequencies p0 p1 p2 p3) 3 ≡ ((p0 -ℤ p3) *ℤ pos 4433) -ℤ ((p1 -ℤ p2) *ℤ pos 10704)
unfolding even_frequencies
even_at3 p0 p1 p2 p3 = omega (arith, ints)

pub even_at2 : (p0 p1 p2 p3 : ℤ) → number_at (even_frequencies p0 p1 p2 p3) 2 ≡ ((p0 -ℤ p1) +ℤ (p3 -ℤ p2)) *ℤ pos 8192
unfolding even_frequencies
even_at2 p0 p1 p2 p3 = omega (arith, ints)

pub line_below : (lo : ℤ) (w : ℕ) (d0 d1 d2 d3 d4 d5 d6 d7 : ℤ) → LineIn lo w d0 d1 d2 d3 d4 d5 d6 d7 → AreBelow (32768 * w) (line_frequencies d0 d1 d2 d3 d4 d5 d6 d7)
unfolding woven
line_below lo w d0 d1 d2 d3 d4 d5 d6 d7 h =
    let o = odd_below w (d0 -ℤ d7) (d1 -ℤ d6) (d2 -ℤ d5) (d3 -ℤ d4) (apart lo w d0 d7 h.at0 h.at7) (apart lo w d1 d6 h.at1 h.at6) (apart lo w d2 d5 h.at2 h.at5) (apart lo w d3 d4 h.at3 h.at4) in
    let p03 : Small (((d0 +ℤ d7) -ℤ (d3 +ℤ d4))) (2 * w) = pairs_apart lo w d0 d7 d3 d4 h.at0 h.at7 h.at3 h.at4 in
    let p12 : Small (((d1 +ℤ d6) -ℤ (d2 +ℤ d5))) (2 * w) = pairs_apart lo w d1 d6 d2 d5 h.at1 h.at6 h.at2 h.at5 in
    let p01 : Small (((d0 +ℤ d7) -ℤ (d1 +ℤ d6))) (2 * w) = pairs_apart lo w d0 d7 d1 d6 h.at0 h.at7 h.at1 h.at6 in
    let p32 : Small (((d3 +ℤ d4) -ℤ (d2 +ℤ d5))) (2 * w) = pairs_apart lo w d3 d4 d2 d5 h.at3 h.at4 h.at2 h.at5 in
    record {
      at1 = o.at3;
      at2 = as_it_is (even_at1 (d0 +ℤ d7) (d1 +ℤ d6) (d2 +ℤ d5) (d3 +ℤ d4)) (both_small (scaled_small 10703 p03) (scaled_small 4433 p12)) (omega arith);
      at3 = o.at2;
      at4 = as_it_is (even_at2 (d0 +ℤ d7) (d1 +ℤ d6) (d2 +ℤ d5) (d3 +ℤ d4)) (scaled_small 8192 (both_small p01 p32)) (omega arith);
      at5 = o.at1;
      at6 = as_it_is (even_at3 (d0 +ℤ d7) (d1 +ℤ d6) (d2 +ℤ d5) (d3 +ℤ d4)) (less_small (scaled_small 4433 p03) (scaled_small 10704 p12)) (omega arith);
      at7 = o.at0;
    }

-- FREQUENCY 0 is 8192 times the sum

unfoldable pub sum_of : ℤ → ℤ → ℤ → ℤ → ℤ → ℤ → ℤ → ℤ → ℤ
sum_of d0 d1 d2 d3 d4 d5 d6 d7 = ((d0 +ℤ d7) +ℤ (d3 +ℤ d4)) +ℤ ((d1 +ℤ d6) +ℤ (d2 +ℤ d5))

pub first_is : (d0 d1 d2 d3 d4 d5 d6 d7 : ℤ) → number_at (line_frequencies d0 d1 d2 d3 d4 d5 d6 d7) 0 ≡ sum_of d0 d1 d2 d3 d4 d5 d6 d7 *ℤ pos 8192
unfolding woven even_frequencies sum_of
first_is d0 d1 d2 d3 d4 d5 d6 d7 = refl

pub sum_low : (lo : ℤ) (w : ℕ) (d0 d1 d2 d3 d4 d5 d6 d7 : ℤ) → LineIn lo w d0 d1 d2 d3 d4 d5 d6 d7 → (lo *ℤ pos 8) ≤ℤ sum_of d0 d1 d2 d3 d4 d5 d6 d7
unfolding sum_of
sum_low lo w d0 d1 d2 d3 d4 d5 d6 d7 h = omega (arith, ints, h.at0.low, h.at1.low, h.at2.low, h.at3.low, h.at4.low, h.at5.low, h.at6.low, h.at7.low)

pub sum_high : (lo : ℤ) (w : ℕ) (d0 d1 d2 d3 d4 d5 d6 d7 : ℤ) → LineIn lo w d0 d1 d2 d3 d4 d5 d6 d7 → sum_of d0 d1 d2 d3 d4 d5 d6 d7 ≤ℤ ((lo +ℤ pos w) *ℤ pos 8)
unfolding sum_of
sum_high lo w d0 d1 d2 d3 d4 d5 d6 d7 h = omega (arith, ints, h.at0.high, h.at1.high, h.at2.high, h.at3.high, h.at4.high, h.at5.high, h.at6.high, h.at7.high)

-- ROUNDED

pub rounded_row : (x : ℤ) (m : ℕ) → nat_abs x ≤ 2048 * m → nat_abs (int_shr (x +ℤ pos 1024) 11) ≤ m
rounded_row (pos n) m h = (let e : (n + 1024) / 2048 ≤ m = omega (arith, ints, h) in e)
rounded_row (negsuc n) m h =
    ⊎_elim
    (λ (a : n < 1024). (let x : negsuc n +ℤ pos 1024 ≡ pos (1023 - n) = omega (arith, ints, a) in
    let e : (1023 - n) / 2048 ≤ m = omega (arith, a) in
    subst (λ z. nat_abs (int_shr z 11) ≤ m) (sym x) e))
    (λ (b : 1024 ≤ n). (let x : negsuc n +ℤ pos 1024 ≡ negsuc (n - 1024) = omega (arith, ints, b) in
    let e : suc ((n - 1024) / 2048) ≤ m = omega (arith, ints, b, h) in
    subst (λ z. nat_abs (int_shr z 11) ≤ m) (sym x) e))
    (cases_lt n 1024)

pub rounded_low : (x : ℤ) (m : ℕ) → neg_ℤ (pos (32768 * m)) ≤ℤ x → neg_ℤ (pos m) ≤ℤ int_shr (x +ℤ pos 16384) 15
rounded_low (pos n) m h = (let e : neg_ℤ (pos m) ≤ℤ pos ((n + 16384) / 32768) = omega (arith, ints) in e)
rounded_low (negsuc n) m h =
    ⊎_elim
    (λ (a : n < 16384). (let x : negsuc n +ℤ pos 16384 ≡ pos (16383 - n) = omega (arith, ints, a) in
    let e : neg_ℤ (pos m) ≤ℤ pos ((16383 - n) / 32768) = omega (arith, ints) in
    subst (λ z. neg_ℤ (pos m) ≤ℤ int_shr z 15) (sym x) e))
    (λ (b : 16384 ≤ n). (let x : negsuc n +ℤ pos 16384 ≡ negsuc (n - 16384) = omega (arith, ints, b) in
    let e : neg_ℤ (pos m) ≤ℤ negsuc ((n - 16384) / 32768) = omega (arith, ints, b, h) in
    subst (λ z. neg_ℤ (pos m) ≤ℤ int_shr z 15) (sym x) e))
    (cases_lt n 16384)

pub rounded_high : (x : ℤ) (m : ℕ) → x ≤ℤ pos (32768 * m) → int_shr (x +ℤ pos 16384) 15 ≤ℤ pos m
rounded_high (pos n) m h = (let e : pos ((n + 16384) / 32768) ≤ℤ pos m = omega (arith, ints, h) in e)
rounded_high (negsuc n) m h =
    ⊎_elim
    (λ (a : n < 16384). (let x : negsuc n +ℤ pos 16384 ≡ pos (16383 - n) = omega (arith, ints, a) in
    let e : pos ((16383 - n) / 32768) ≤ℤ pos m = omega (arith, ints) in
    subst (λ z. int_shr z 15 ≤ℤ pos m) (sym x) e))
    (λ (b : 16384 ≤ n). (let x : negsuc n +ℤ pos 16384 ≡ negsuc (n - 16384) = omega (arith, ints, b) in
    let e : negsuc ((n - 16384) / 32768) ≤ℤ pos m = omega (arith, ints) in
    subst (λ z. int_shr z 15 ≤ℤ pos m) (sym x) e))
    (cases_lt n 16384)
