-- Numbers within bounds have few binary digits, and a number consists of its bits from bit 0 up.
use Rattle.std.proofs.Common.{◌≡◌, ℕ, zero, suc, ◌+◌, ◌*◌, ◌^◌, ◌<◌, ◌≤◌, true, false, sym, subst, arith, ℤ, pos, negsuc, ⊎_elim, lit<, lit≤, [], refl}
use Rattle.std.specs.Prelude.{nat_abs, neg_ℤ, ◌+ℤ◌, ◌-ℤ◌, ◌≤ℤ◌, int_le}
use Rattle.std.proofs.lemmas.Bool.{cases_lt}
use Rattle.std.proofs.lemmas.Bool.Decides.{nat_tests}
use Rattle.std.proofs.lemmas.Int.{ints}
use Rattle.std.proofs.lemmas.Grind.{pow_more}
use lib.Signed.{le_z_yes}
use lib.Dec.{T}
use Rattle.std.proofs.Math.Nat.{pow-le-pow_right}
use Rattle.std.proofs.Math.IntN.{*ℤ-one}
use Rattle.jpg_spec.specs.Numbers.{digits, category, extra_bits}
use Rattle.jpg_spec.specs.Geometry.{bounds_8, bounds_12, bounds_of}
use Rattle.jpg_spec.specs.Elements.{is_zero, scaled}
use Rattle.jpg_spec.specs.Bits.{bits_of}
use Rattle.jpg_spec.specs.declared.frame.Bounds.{Bounds}
use Rattle.jpg_spec.proofs.Basics.Common.{is_true}
use Rattle.jpg_spec.proofs.Headers.Precisions.{of_bounds}
use Rattle.jpg_spec.proofs.Basics.Facts.{above_digits, some_digits}

pub few_digits : (k n : ℕ) → n < 2 ^ k → digits n ≤ k
unfolding digits
few_digits k zero h = omega arith
few_digits k (suc n) h =
    ⊎_elim
    (λ (l : k < digits (suc n)).
    let p : 2 ^ (k + 1) ≤ 2 ^ digits (suc n) = pow-le-pow_right (lit< tt) (omega arith) in
    let q : 2 ^ (k + 1) ≡ 2 ^ k * 2 = pow_more 2 k in
    let a = above_digits (suc n) (omega arith) in
    let f : ⊥ = omega (arith, p, q, a, h) in
    absurd f)
    (λ (l : digits (suc n) ≤ k). l)
    (cases_lt k (digits (suc n)))

-- THE LEAST NUMBERS

pub one_digit : digits 1 ≡ 1
unfolding digits
one_digit = refl

pub zero_category : category (pos 0) ≡ 0
unfolding digits
zero_category = refl

pub zero_bits : extra_bits (pos 0) ≡ []
unfolding digits bits_of
zero_bits = refl

pub scaled_none : (v : ℤ) → scaled 0 v ≡ v
unfolding lib.IntN.one
scaled_none v = *ℤ-one v

-- AC VALUES

pub some_category : (v : ℤ) → is_zero v ≡ false → 1 ≤ category v
some_category (pos zero) e = cc
some_category (pos (suc n)) e = some_digits (suc n) (omega arith)
some_category (negsuc n) e = some_digits (suc n) (omega arith)

-- VALUES IN THE BOUNDS of a precision

pub record IsDc (b : Bounds) (v : ℤ) : Type 0 where
  pub low : b.dc_low ≤ℤ v
  pub high : v ≤ℤ b.dc_high

-- an AC value
abbrev pub IsAcValue : Bounds → ℤ → Type 0
IsAcValue b v = int_le (pos (nat_abs v)) b.ac ≡ true

pub ac_less : (b : Bounds) (v w : ℤ) → nat_abs w ≤ nat_abs v → IsAcValue b v → IsAcValue b w
ac_less b v w l h =
    let k : pos (nat_abs v) ≤ℤ b.ac = le_z_yes (subst T (sym h) tt) in
    let m : pos (nat_abs w) ≤ℤ b.ac = omega (arith, ints, k, l) in
    is_true (int_le (pos (nat_abs w)) b.ac) m.le

pub dc_small : (b : Bounds) (v : ℤ) → int_le b.dc_low v ≡ true → int_le v b.dc_high ≡ true → IsDc b v
dc_small b v e f = record { low = le_z_yes (subst T (sym e) tt); high = le_z_yes (subst T (sym f) tt) }

-- what the bounds guarantee: 0 is a DC value, and the categories of differences and of AC values are those
pub record AreBounds (b : Bounds) : Type 0 where
  pub zero_dc : IsDc b (pos 0)
  pub differences : (v p : ℤ) → IsDc b v → IsDc b p → category (v -ℤ p) ≤ b.dc_cat
  pub values : (v : ℤ) → int_le (pos (nat_abs v)) b.ac ≡ true → category v ≤ b.ac_cat
  pub dc_few : b.dc_cat ≤ 15
  pub ac_few : b.ac_cat ≤ 14
  pub al_few : b.al ≤ 13

magnitude : (k : ℕ) (d : ℤ) → neg_ℤ (pos k) ≤ℤ d → d ≤ℤ pos k → nat_abs d ≤ k
magnitude k (pos n) l h = omega (arith, ints)
magnitude zero (negsuc n) l h = absurd (omega (arith, ints, l))
magnitude (suc k) (negsuc n) l h = omega (arith, ints)

ac_small : (k : ℕ) (v : ℤ) → int_le (pos (nat_abs v)) (pos k) ≡ true → nat_abs v ≤ k
ac_small k v e = grind (arith, nat_tests)

pub are_bounds : (precision : ℕ) → AreBounds (bounds_of precision)
are_bounds precision = of_bounds AreBounds eight twelve precision
  where
    eight : AreBounds bounds_8
    eight = record {
      zero_dc = dc_small bounds_8 (pos 0) refl refl;
      differences = λ v p a b.
          (let l1 = a.low in let h1 = a.high in let l2 = b.low in let h2 = b.high in
          let m = magnitude 2047 (v -ℤ p) (omega (arith, ints)) (omega (arith, ints)) in few_digits 11 (nat_abs (v -ℤ p)) (omega (arith, m)));
      values = λ v e. (let h = ac_small 1023 v e in few_digits 10 (nat_abs v) (omega (arith, h)));
      dc_few = lit≤ tt;
      ac_few = lit≤ tt;
      al_few = lit≤ tt;
    }

    twelve : AreBounds bounds_12
    twelve = record {
      zero_dc = dc_small bounds_12 (pos 0) refl refl;
      differences = λ v p a b.
          (let l1 = a.low in let h1 = a.high in let l2 = b.low in let h2 = b.high in
          let m = magnitude 32767 (v -ℤ p) (omega (arith, ints)) (omega (arith, ints)) in few_digits 15 (nat_abs (v -ℤ p)) (omega (arith, m)));
      values = λ v e. (let h = ac_small 16383 v e in few_digits 14 (nat_abs v) (omega (arith, h)));
      dc_few = lit≤ tt;
      ac_few = lit≤ tt;
      al_few = lit≤ tt;
    }

pub back : (v p : ℤ) → p +ℤ (v -ℤ p) ≡ v
back v p = omega (arith, ints)

-- the difference of two numbers of 16 bits
pub apart_16 : (v : ℤ) → negsuc 65534 ≤ℤ v → v ≤ℤ pos 65535 → category v ≤ 16
apart_16 (pos n) low high = few_digits 16 n (omega (arith, ints))
apart_16 (negsuc n) low high = few_digits 16 (suc n) (omega (arith, ints))
