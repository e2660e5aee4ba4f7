-- Coefficients times quantisers, in 32 bits and in 16.
use Rattle.std.proofs.Common.{◌≡◌, ℕ, zero, suc, ◌<◌, ◌≤◌, List, length, map, slice_index, ℤ, pos, negsuc, ◌*ℤ◌, nat_abs, All, refl, sym, ap, ◌∙◌, subst, arith, ⊎_elim}
use Rattle.std.specs.Int.{w16, int_wrap}
use Rattle.std.proofs.lemmas.Bool.{cases_lt}
use Rattle.std.proofs.lemmas.Int.{ints, int_wrap_fits}
use Rattle.std.proofs.lemmas.List.{get_or-map, length-map}
use Rattle.std.proofs.lemmas.List.Elements.{All-from_get_or}
use Rattle.jpg_spec.specs.Lists.{below, index_of}
use Rattle.jpg_spec.specs.Zigzag.{zigzag}
use Rattle.jpg_spec.proofs.Basics.Common.{length_below}
use Rattle.jpg_spec.proofs.Basics.Rows.{at_below, by_items}
use Rattle.jpg_spec_image.specs.Dct.{number_at, dequantised}
use Rattle.jpg_dct.specs.Multipliers.{Multiplies, AreMultipliers, AreLimited, scaled}
use Rattle.jpg_dct.specs.Natural.{natural}
use Rattle.jpg_dct.proofs.Bounds.{abs_scaled}
use Rattle.jpg_dct.proofs.Eights.{fits16}
use Rattle.jpg_dct.proofs.Swizzled.{low, natural_all}
use Rattle.jpg_spec_image.proofs.CodedBlocks.{all_at}

abbrev scaled_number : List ℕ → List ℤ → ℕ → ℤ
scaled_number quants given n = number_at given n *ℤ pos (slice_index quants n)

pub scaled_at : (quants : List ℕ) (given : List ℤ) (k : ℕ) → k < 64 → number_at (scaled quants given) k ≡ scaled_number quants given k
scaled_at quants given k lt = get_or-map (scaled_number quants given) (below 64) k 0 (pos 0) (omega (arith, length_below 64, lt)) ∙ ap (scaled_number quants given) (at_below 64 k lt)

scaled_long : (quants : List ℕ) (given : List ℤ) → length (scaled quants given) ≡ 64
scaled_long quants given = length-map (below 64) (scaled_number quants given) ∙ length_below 64

-- a property of each product
each_scaled : (P : ℤ → Type 0) (quants : List ℕ) (given : List ℤ) → ((k : ℕ) → k < 64 → P (scaled_number quants given k)) → All P (scaled quants given)
each_scaled P quants given each =
    All-from_get_or P (scaled quants given) (pos 0)
    (λ k h. (let lt : k < 64 = omega (arith, h, scaled_long quants given) in subst P (sym (scaled_at quants given k lt)) (each k lt)))

-- in natural order they are the dequantised block
abbrev value_of : List ℕ → List ℤ → ℕ → ℤ
value_of quants given n = scaled_number quants given (index_of n zigzag)

pub in_natural : (quants : List ℕ) (given : List ℤ) → natural (scaled quants given) ≡ dequantised quants given
unfolding dequantised
in_natural quants given =
    by_items 64 (λ n. number_at (scaled quants given) (index_of n zigzag)) (map (value_of quants given) (below 64)) (pos 0) (length-map (below 64) (value_of quants given))
    (λ n lt. scaled_at quants given (index_of n zigzag) (low n lt) ∙ sym (get_or-map (value_of quants given) (below 64) n 0 (pos 0) lt ∙ ap (value_of quants given) (at_below 64 n lt)))

scaled_bound : (quants : List ℕ) (given : List ℤ) → ((i : ℕ) → slice_index quants i < 65536) → All (λ x. nat_abs x ≤ 1024) given → All (λ x. nat_abs x ≤ 67108864) (scaled quants given)
scaled_bound quants given fit small =
    each_scaled (λ x. nat_abs x ≤ 67108864) quants given
    (λ k lt. (let q : ℕ = slice_index quants k in
    let few : q < 65536 = fit k in
    let h : nat_abs (number_at given k) ≤ 1024 = all_at (λ x. nat_abs x ≤ 1024) given k (pos 0) small (omega arith) in
    omega (arith, abs_scaled (number_at given k) q 1024 h, few)))

pub dequantised_bound : (quants : List ℕ) (given : List ℤ) → ((i : ℕ) → slice_index quants i < 65536) → All (λ x. nat_abs x ≤ 1024) given → All (λ x. nat_abs x ≤ 67108864) (dequantised quants given)
dequantised_bound quants given fit small =
    subst (All (λ x. nat_abs x ≤ 67108864)) (in_natural quants given)
    (natural_all (λ x. nat_abs x ≤ 67108864) (scaled quants given) (omega arith) (scaled_bound quants given fit small))

-- PRODUCTS of 16 bits

zero_of : (g : ℤ) → nat_abs g ≤ 0 → g ≡ pos 0
zero_of (pos zero) h = refl
zero_of (pos (suc n)) h = absurd (omega (arith, h))
zero_of (negsuc n) h = absurd (omega (arith, h))

zero_left : (f : ℤ) → pos 0 *ℤ f ≡ pos 0
zero_left (pos n) = omega (arith, ints)
zero_left (negsuc n) = omega (arith, ints)

product_small : (g f : ℤ) (q limit : ℕ) → Multiplies q f limit → nat_abs g ≤ limit → nat_abs (g *ℤ pos q) ≤ 1090
product_small g f q limit m h = omega (arith, abs_scaled g q limit h, m.few)

product_is : (g f : ℤ) (q limit : ℕ) → Multiplies q f limit → nat_abs g ≤ limit → int_wrap w16 (g *ℤ f) ≡ g *ℤ pos q
product_is g f q limit m h =
    let few : nat_abs (g *ℤ pos q) ≤ 1090 = product_small g f q limit m h in
    let fit : int_wrap w16 (g *ℤ pos q) ≡ g *ℤ pos q = int_wrap_fits w16 (g *ℤ pos q) (fits16 (g *ℤ pos q) (omega (arith, few))) in
    ⊎_elim
    (λ (a : limit < 1). (let z : g ≡ pos 0 = zero_of g (omega (arith, a, h)) in
    let e : g *ℤ f ≡ g *ℤ pos q = ap (λ x. x *ℤ f) z ∙ zero_left f ∙ sym (ap (λ x. x *ℤ pos q) z ∙ zero_left (pos q)) in
    ap (int_wrap w16) e ∙ fit))
    (λ (b : 1 ≤ limit). ap (λ x. int_wrap w16 (g *ℤ x)) (m.is b) ∙ fit)
    (cases_lt limit 1)

pub products_are : {quants limits : List ℕ} {factors : List ℤ} (given products : List ℤ) → AreMultipliers quants factors limits → AreLimited given limits → length products ≡ 64
    → ((n : ℕ) → n < 64 → number_at products n ≡ int_wrap w16 (number_at given n *ℤ number_at factors n)) → products ≡ scaled quants given
products_are {quants} {limits} {factors} given products m few long at =
    sym (by_items 64 (scaled_number quants given) products (pos 0) long
    (λ n lt. sym (at n lt ∙ product_is (number_at given n) (number_at factors n) (slice_index quants n) (slice_index limits n) (m.at n lt) (few n lt))))

pub products_small : {quants limits : List ℕ} {factors : List ℤ} (given : List ℤ) → AreMultipliers quants factors limits → AreLimited given limits → All (λ x. nat_abs x ≤ 1090) (scaled quants given)
products_small {quants} {limits} {factors} given m few =
    each_scaled (λ x. nat_abs x ≤ 1090) quants given
    (λ n lt. product_small (number_at given n) (number_at factors n) (slice_index quants n) (slice_index limits n) (m.at n lt) (few n lt))
