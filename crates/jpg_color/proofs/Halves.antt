-- Parts of colours, by halves of the upper halves of products.
use Rattle.std.proofs.Common.{◌≡◌, ◌/◌, ℤ, pos, negsuc, ◌+ℤ◌, ◌-ℤ◌, ◌*ℤ◌, ◌≤ℤ◌, subst, sym, arith}
use Rattle.std.specs.Int.{int_shr}
use Rattle.std.proofs.lemmas.Int.{ints}

-- what is rounded down is below a number, and not far
low_16 : (z : ℤ) → (int_shr z 16 *ℤ pos 65536) ≤ℤ z
low_16 (pos a) = (let e : (pos (a / 65536) *ℤ pos 65536) ≤ℤ pos a = omega (arith, ints) in e)
low_16 (negsuc a) = (let e : (negsuc (a / 65536) *ℤ pos 65536) ≤ℤ negsuc a = omega (arith, ints) in e)

high_16 : (z : ℤ) → z ≤ℤ ((int_shr z 16 *ℤ pos 65536) +ℤ pos 65535)
high_16 (pos a) = (let e : pos a ≤ℤ ((pos (a / 65536) *ℤ pos 65536) +ℤ pos 65535) = omega (arith, ints) in e)
high_16 (negsuc a) = (let e : negsuc a ≤ℤ ((negsuc (a / 65536) *ℤ pos 65536) +ℤ pos 65535) = omega (arith, ints) in e)

low_1 : (z : ℤ) → (int_shr z 1 *ℤ pos 2) ≤ℤ z
low_1 (pos a) = (let e : (pos (a / 2) *ℤ pos 2) ≤ℤ pos a = omega (arith, ints) in e)
low_1 (negsuc a) = (let e : (negsuc (a / 2) *ℤ pos 2) ≤ℤ negsuc a = omega (arith, ints) in e)

high_1 : (z : ℤ) → z ≤ℤ ((int_shr z 1 *ℤ pos 2) +ℤ pos 1)
high_1 (pos a) = (let e : pos a ≤ℤ ((pos (a / 2) *ℤ pos 2) +ℤ pos 1) = omega (arith, ints) in e)
high_1 (negsuc a) = (let e : negsuc a ≤ℤ ((negsuc (a / 2) *ℤ pos 2) +ℤ pos 1) = omega (arith, ints) in e)

-- the number of such an interval is unique
only_16 : (z s : ℤ) → (s *ℤ pos 65536) ≤ℤ z → z ≤ℤ ((s *ℤ pos 65536) +ℤ pos 65535) → s ≡ int_shr z 16
only_16 z s low high =
    let l : (int_shr z 16 *ℤ pos 65536) ≤ℤ z = low_16 z in
    let h : z ≤ℤ ((int_shr z 16 *ℤ pos 65536) +ℤ pos 65535) = high_16 z in
    between (int_shr z 16) z s l h low high
  where
    between : (t z s : ℤ) → (t *ℤ pos 65536) ≤ℤ z → z ≤ℤ ((t *ℤ pos 65536) +ℤ pos 65535) → (s *ℤ pos 65536) ≤ℤ z → z ≤ℤ ((s *ℤ pos 65536) +ℤ pos 65535) → s ≡ t
    between t z s l h low high = omega (arith, ints, l, h, low, high)

-- u is the upper half of a product p, h its half rounded up: half the product, rounded
half_of : (p u h : ℤ) → u ≡ int_shr p 16 → h ≡ int_shr (u +ℤ pos 1) 1 → ((h *ℤ pos 131072) ≤ℤ (p +ℤ pos 65536)) × ((p +ℤ pos 65536) ≤ℤ ((h *ℤ pos 131072) +ℤ pos 131071))
half_of p u h eu eh =
    let a : (int_shr p 16 *ℤ pos 65536) ≤ℤ p = low_16 p in
    let b : p ≤ℤ ((int_shr p 16 *ℤ pos 65536) +ℤ pos 65535) = high_16 p in
    let c : (int_shr (u +ℤ pos 1) 1 *ℤ pos 2) ≤ℤ (u +ℤ pos 1) = low_1 (u +ℤ pos 1) in
    let d : (u +ℤ pos 1) ≤ℤ ((int_shr (u +ℤ pos 1) 1 *ℤ pos 2) +ℤ pos 1) = high_1 (u +ℤ pos 1) in
    let a' : (u *ℤ pos 65536) ≤ℤ p = subst (λ x. (x *ℤ pos 65536) ≤ℤ p) (sym eu) a in
    let b' : p ≤ℤ ((u *ℤ pos 65536) +ℤ pos 65535) = subst (λ x. p ≤ℤ ((x *ℤ pos 65536) +ℤ pos 65535)) (sym eu) b in
    let c' : (h *ℤ pos 2) ≤ℤ (u +ℤ pos 1) = subst (λ x. (x *ℤ pos 2) ≤ℤ (u +ℤ pos 1)) (sym eh) c in
    let d' : (u +ℤ pos 1) ≤ℤ ((h *ℤ pos 2) +ℤ pos 1) = subst (λ x. (u +ℤ pos 1) ≤ℤ ((x *ℤ pos 2) +ℤ pos 1)) (sym eh) d in
    (omega (arith, ints, a', b', c', d'), omega (arith, ints, a', b', c', d'))

-- the difference d, its double t, and what is computed of them: an upper half u, and its half h
pub red_is : (d t u h r : ℤ) → t ≡ d *ℤ pos 2 → u ≡ int_shr (t *ℤ pos 26345) 16 → h ≡ int_shr (u +ℤ pos 1) 1 → r ≡ d +ℤ h
    → r ≡ int_shr ((d *ℤ pos 91881) +ℤ pos 32768) 16
red_is d t u h r et eu eh er =
    let bounds = half_of (t *ℤ pos 26345) u h eu eh in
    let low = bounds.0 in
    let high = bounds.1 in
    only_16 ((d *ℤ pos 91881) +ℤ pos 32768) r (omega (arith, ints, low, et, er)) (omega (arith, ints, high, et, er))

pub blue_is : (d t u h r : ℤ) → t ≡ d *ℤ pos 2 → u ≡ int_shr (pos 0 -ℤ (t *ℤ pos 14942)) 16 → h ≡ int_shr (u +ℤ pos 1) 1 → r ≡ t +ℤ h
    → r ≡ int_shr ((d *ℤ pos 116130) +ℤ pos 32768) 16
blue_is d t u h r et eu eh er =
    let bounds = half_of (pos 0 -ℤ (t *ℤ pos 14942)) u h eu eh in
    let low = bounds.0 in
    let high = bounds.1 in
    only_16 ((d *ℤ pos 116130) +ℤ pos 32768) r (omega (arith, ints, low, et, er)) (omega (arith, ints, high, et, er))

-- the differences b and r, a sum z of their products, and its upper half u
pub green_is : (b r z u g : ℤ) → z ≡ (pos 32768 -ℤ (b *ℤ pos 22554)) +ℤ (r *ℤ pos 18734) → u ≡ int_shr z 16 → g ≡ u -ℤ r
    → g ≡ int_shr ((pos 32768 -ℤ (b *ℤ pos 22554)) -ℤ (r *ℤ pos 46802)) 16
green_is b r z u g ez eu eg =
    let l : (int_shr z 16 *ℤ pos 65536) ≤ℤ z = low_16 z in
    let h : z ≤ℤ ((int_shr z 16 *ℤ pos 65536) +ℤ pos 65535) = high_16 z in
    let low : (u *ℤ pos 65536) ≤ℤ z = subst (λ x. (x *ℤ pos 65536) ≤ℤ z) (sym eu) l in
    let high : z ≤ℤ ((u *ℤ pos 65536) +ℤ pos 65535) = subst (λ x. z ≤ℤ ((x *ℤ pos 65536) +ℤ pos 65535)) (sym eu) h in
    only_16 ((pos 32768 -ℤ (b *ℤ pos 22554)) -ℤ (r *ℤ pos 46802)) g (omega (arith, ints, low, ez, eg)) (omega (arith, ints, high, ez, eg))
