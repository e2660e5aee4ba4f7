-- Division as multiplications: a quotient by a number is that of a product by a power of two, where the factor is the
-- power divided by the number and rounded up.
use Rattle.std.proofs.Common.{◌≡◌, ℕ, zero, suc, ◌+◌, ◌-◌, ◌*◌, ◌/◌, ◌≤◌, ◌<◌, min, sym, ap, ◌∙◌, subst, arith, ⊎_elim}
use Rattle.std.proofs.Math.Nat.{div-eq_of_lt-le, div-mul-le_self, lt-div-mul-add, div-div-eq-div-mul, lt_of_mul-lt-mul_right, mul_assoc, mul_comm, mul_right_comm}
use Rattle.std.proofs.lemmas.Nat.{mul-le, div_below}
use Rattle.std.proofs.lemmas.Bool.{cases_lt}
use Rattle.jpg_spec_image.specs.ForwardDct.{multiples}
use Rattle.jpg_dct.specs.Division.{high_part, Divides, IsNear}

same : (n : ℕ) → n ≤ n
same n = omega arith

spread : (n w d : ℕ) → n * (w + d) ≡ n * w + n * d
spread n w d = grind arith

one_more : (n w : ℕ) → n * w + w ≡ (n + 1) * w
one_more n w = grind arith

pub quotient_by : (N D F W : ℕ) → 0 < D → W ≤ F * D → F * D < W + D → N * D < W → N * F / W ≡ N / D
quotient_by N D F W some low high few =
    let k : ℕ = N / D in
    let s1 : k * W ≤ k * (F * D) = mul-le k W k (F * D) (same k) low in
    let s2 : k * (F * D) ≡ k * D * F = ap (λ x. k * x) (mul_comm F D) ∙ sym (mul_assoc k D F) in
    let s3 : k * D * F ≤ N * F = mul-le (k * D) F N F (div-mul-le_self N D) (same F) in
    let u1 : N * F * D ≡ N * (F * D) = mul_assoc N F D in
    let u2 : N * (F * D) ≤ N * (W + D) = mul-le N (F * D) N (W + D) (same N) (omega (arith, high)) in
    let u3 : N * (W + D) ≡ N * W + N * D = spread N W D in
    let u4 : N * W + W ≡ (N + 1) * W = one_more N W in
    let b1 : N < k * D + D = lt-div-mul-add some in
    let b2 : k * D + D ≡ (k + 1) * D = one_more k D in
    let u5 : (N + 1) * W ≤ (k + 1) * D * W = mul-le (N + 1) W ((k + 1) * D) W (omega (arith, b1, b2)) (same W) in
    let u6 : (k + 1) * D * W ≡ (k + 1) * W * D = mul_right_comm (k + 1) D W in
    let up : N * F * D < (k + 1) * W * D = omega (arith, u1, u2, u3, u4, u5, u6, few) in
    div-eq_of_lt-le {k = k} W {m = N * F} (omega (arith, s1, s2, s3)) (lt_of_mul-lt-mul_right D {m = N * F} {n = (k + 1) * W} up)

-- the high half of a product by what a power of two leaves of 65536
pub shifted : (x v S : ℕ) → 0 < v → v * S ≡ 65536 → x * S / 65536 ≡ x / v
shifted x v S some whole =
    let k : ℕ = x / v in
    let s1 : k * v * S ≤ x * S = mul-le (k * v) S x S (div-mul-le_self x v) (same S) in
    let s2 : k * v * S ≡ k * 65536 = mul_assoc k v S ∙ ap (λ n. k * n) whole in
    let b1 : x < k * v + v = lt-div-mul-add some in
    let b2 : k * v + v ≡ (k + 1) * v = one_more k v in
    let u1 : (x + 1) * S ≤ (k + 1) * v * S = mul-le (x + 1) S ((k + 1) * v) S (omega (arith, b1, b2)) (same S) in
    let u2 : (k + 1) * v * S ≡ (k + 1) * 65536 = mul_assoc (k + 1) v S ∙ ap (λ n. (k + 1) * n) whole in
    let u3 : x * S + S ≡ (x + 1) * S = one_more x S in
    let p : 0 < S = positive v S whole in
    div-eq_of_lt-le {k = k} 65536 {m = x * S} (omega (arith, s1, s2)) (omega (arith, u1, u2, u3, p))
  where
    positive : (v S : ℕ) → v * S ≡ 65536 → 0 < S
    positive v zero e = absurd (omega (arith, e))
    positive v (suc n) e = omega arith

-- the factor of d and v
pub factor_low : (d v : ℕ) → 0 < d → 65536 * v ≤ (65536 * v + (d - 1)) / d * d
factor_low d v some = (let b = lt-div-mul-add {a = 65536 * v + (d - 1)} {b = d} some in omega (arith, b, some))

pub factor_high : (d v : ℕ) → 0 < d → (65536 * v + (d - 1)) / d * d < 65536 * v + d
factor_high d v some = (let b = div-mul-le_self (65536 * v + (d - 1)) d in omega (arith, b, some))

pub factor_fits : (d v : ℕ) → v < d → d ≤ 16392 → (65536 * v + (d - 1)) / d < 65536
factor_fits d v below few = div_below (65536 * v + (d - 1)) d 65536 (omega (arith, below)) (omega (arith, below, few))

-- all sizes
pub divides_by : (N d v : ℕ) → N ≤ 16388 → IsNear d v → high_part (high_part N ((65536 * v + (d - 1)) / d)) (65536 / v) ≡ N / d
divides_by N d v few near =
    let F : ℕ = (65536 * v + (d - 1)) / d in
    let some : 0 < d = omega (arith, near.below) in
    let n1 : N * d ≤ 16388 * (3 * v) = mul-le N d 16388 (3 * v) few near.near in
    shifted (N * F / 65536) v (65536 / v) (omega (arith, near.some)) near.whole
    ∙ div-div-eq-div-mul (N * F) 65536 v
    ∙ quotient_by N d F (65536 * v) some (factor_low d v some) (factor_high d v some) (omega (arith, n1, near.some))

pub nothing_left : (size q : ℕ) → size ≤ 8192 → 2049 ≤ q → multiples size q ≡ 0
nothing_left size q few large =
    let l : multiples size q < 1 = div_below (size + 4 * q) (8 * q) 1 (omega (arith, large)) (omega (arith, few, large)) in
    omega (arith, l)

pub as_divided : (size q few : ℕ) → size ≤ 8192 → few ≡ min q 2049 → (size + 4 * few) / (8 * few) ≡ multiples size q
as_divided size q few small e =
    ⊎_elim
    (λ (a : q < 2049). (let s : few ≡ q = omega (arith, e, a) in ap (λ n. (size + 4 * n) / (8 * n)) s))
    (λ (b : 2049 ≤ q). (let s : few ≡ 2049 = omega (arith, e, b) in
    ap (λ n. (size + 4 * n) / (8 * n)) s ∙ nothing_left size 2049 small (omega arith) ∙ sym (nothing_left size q small b)))
    (cases_lt q 2049)

pub divides : (q few v : ℕ) → 1 ≤ q → few ≡ min q 2049 → IsNear (8 * few) v → Divides q (4 * few) ((65536 * v + (8 * few - 1)) / (8 * few)) (65536 / v)
divides q few v some e near = record {
  small = omega (arith, e);
  byte_pair = factor_fits (8 * few) v near.below (omega (arith, e));
  few = scale_few v (65536 / v) near.some near.whole;
  all = λ size small. divides_by (size + 4 * few) (8 * few) v (omega (arith, small, e)) near ∙ as_divided size q few small e;
}
  where
    scale_few : (v S : ℕ) → 4 ≤ v → v * S ≡ 65536 → S ≤ 16384
    scale_few v S four whole = (let m : 4 * S ≤ v * S = mul-le 4 S v S four (same S) in omega (arith, m, whole))

pub divides_as : (q few v f s : ℕ) → 1 ≤ q → few ≡ min q 2049 → IsNear (8 * few) v → f ≡ (65536 * v + (8 * few - 1)) / (8 * few) → s ≡ 65536 / v → Divides q (4 * few) f s
divides_as q few v f s some e near ef es =
    subst (λ x. Divides q (4 * few) x s) (sym ef) (subst (λ x. Divides q (4 * few) ((65536 * v + (8 * few - 1)) / (8 * few)) x) (sym es) (divides q few v some e near))
