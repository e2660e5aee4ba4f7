-- Lanes of 32 bits, each correct in its low ones: differences, a number added, and four products.
use Rattle.std.proofs.Common.{◌≡◌, ℕ, ◌+◌, ◌-◌, ◌%◌, ◌<◌, List, length, map, ℤ, pos, negsuc, ◌+ℤ◌, ◌-ℤ◌, ◌*ℤ◌, neg_ℤ, to_z, of_z, FitsSigned, ap, ◌∙◌, arith}
use Rattle.std.specs.Int.{Width, w32, int_wrap}
use Rattle.std.proofs.lemmas.Int.{ints, to_z-of_z, wrapping_add_is, wrapping_sub_is, int_wrap-add_left, int_wrap-sub_right, SFits-int_wrap}
use Rattle.std.proofs.lemmas.List.{get_or-map, length-map}
use Rattle.jpg_spec.specs.Lists.{below}
use Rattle.jpg_spec_image.specs.Dct.{number_at, even_sums, odd_sums}
use Rattle.jpg_spec_image.proofs.Frequencies.{odd_at0, odd_at1, odd_at2, odd_at3}
use Rattle.jpg_dct.specs.declared.forward.lanes.Four.{Four}
use Rattle.jpg_dct.specs.declared.forward.lanes.Factors.{Factors}
use Rattle.jpg_dct.specs.Eights.{AreEight, four_of}
use Rattle.jpg_dct.proofs.Wrapped.{start}
use Rattle.jpg_dct.proofs.Eights.{lane, lane_is, eight_at, seen, seen_four, same_four}

pub wide_differences_are : (a b : List ℤ) → length a ≡ 8 → length b ≡ 8 → (i : ℕ) → i < 8 → (x y : ℤ) → number_at a i ≡ int_wrap w32 x → number_at b i ≡ int_wrap w32 y
    → number_at (map (λ n. to_z w32 ((lane w32 a a n + (4294967296 - lane w32 b b n)) % 4294967296)) (below 8)) i ≡ int_wrap w32 (x -ℤ y)
wide_differences_are a b la lb i lt x y ex ey =
    eight_at (λ n. to_z w32 ((lane w32 a a n + (4294967296 - lane w32 b b n)) % 4294967296)) i lt
    ∙ ap (λ m. to_z w32 ((m + (4294967296 - lane w32 b b i)) % 4294967296)) (lane_is w32 a a i la lt ∙ ap (of_z w32) ex)
    ∙ ap (λ m. to_z w32 ((of_z w32 (int_wrap w32 x) + (4294967296 - m)) % 4294967296)) (lane_is w32 b b i lb lt ∙ ap (of_z w32) ey)
    ∙ wrapping_sub_is w32 (int_wrap w32 x) (int_wrap w32 y) (SFits-int_wrap w32 x) (SFits-int_wrap w32 y)
    ∙ int_wrap-add_left w32 x (neg_ℤ (int_wrap w32 y)) ∙ int_wrap-sub_right w32 x y

pub wide_more_is : (a : List ℤ) (n : ℤ) → length a ≡ 8 → FitsSigned w32 n → (i : ℕ) → i < 8 → (x : ℤ) → number_at a i ≡ int_wrap w32 x
    → number_at (map (λ k. to_z w32 ((lane w32 a a k + of_z w32 n) % 4294967296)) (below 8)) i ≡ int_wrap w32 (x +ℤ n)
wide_more_is a n la fit i lt x ex =
    eight_at (λ k. to_z w32 ((lane w32 a a k + of_z w32 n) % 4294967296)) i lt
    ∙ ap (λ m. to_z w32 ((m + of_z w32 n) % 4294967296)) (lane_is w32 a a i la lt ∙ ap (of_z w32) ex)
    ∙ wrapping_add_is w32 (int_wrap w32 x) n (SFits-int_wrap w32 x) fit
    ∙ int_wrap-add_left w32 x n

-- a lane of what a call gave, as it is passed on
pub seen_at : (w : Width) (r : List ℤ) (k : ℕ) → k < length r → number_at (seen w r) k ≡ to_z w (of_z w (number_at r k))
seen_at w r k lt =
    get_or-map (to_z w) (map (of_z w) r) k 0 (pos 0) (omega (arith, lt, length-map r (of_z w))) ∙ ap (to_z w) (get_or-map (of_z w) r k (pos 0) 0 lt)

pub wrapped_at : (r : List ℤ) (k : ℕ) (x : ℤ) → length r ≡ 8 → k < 8 → number_at r k ≡ int_wrap w32 x → number_at (seen w32 r) k ≡ int_wrap w32 x
wrapped_at r k x long lt e = seen_at w32 r k (omega (arith, long, lt)) ∙ start w32 (number_at r k) x e

pub four_handed : (v : Four) (k : Factors) (r : List ℤ) (x : ℤ) (i : ℕ) → AreEight 32767 v → length r ≡ 8 → i < 8
    → number_at r i ≡ int_wrap w32 (four_of (seen_four v) k i) → four_of v k i ≡ x → number_at (seen w32 r) i ≡ int_wrap w32 x
four_handed v k r x i e long lt at is =
    wrapped_at r i x long lt (at ∙ ap (λ v. int_wrap w32 (four_of v k i)) (same_four (omega arith) e) ∙ ap (int_wrap w32) is)

pub more_handed : (b r : List ℤ) (n x : ℤ) (i : ℕ) → i < 8 → FitsSigned w32 n → length r ≡ 8
    → ((x : ℤ) → number_at (seen w32 b) i ≡ int_wrap w32 x → number_at r i ≡ int_wrap w32 (x +ℤ to_z w32 (of_z w32 n)))
    → number_at (seen w32 b) i ≡ int_wrap w32 x → number_at (seen w32 r) i ≡ int_wrap w32 (x +ℤ n)
more_handed b r n x i lt fit long at e = wrapped_at r i (x +ℤ n) long lt (at x e ∙ ap (λ m. int_wrap w32 (x +ℤ m)) (to_z-of_z w32 n fit))

-- a number added to a sum or a difference, in the other order
pub moved_sum : (r : List ℤ) (k : ℕ) (x y n : ℤ) → length r ≡ 8 → k < 8 → number_at r k ≡ int_wrap w32 ((x +ℤ n) +ℤ y) → number_at (seen w32 r) k ≡ int_wrap w32 ((x +ℤ y) +ℤ n)
moved_sum r k x y n long lt e =
    let o : (x +ℤ n) +ℤ y ≡ (x +ℤ y) +ℤ n = omega (arith, ints) in
    wrapped_at r k ((x +ℤ y) +ℤ n) long lt (e ∙ ap (int_wrap w32) o)

pub moved_gap : (r : List ℤ) (k : ℕ) (x y n : ℤ) → length r ≡ 8 → k < 8 → number_at r k ≡ int_wrap w32 ((x +ℤ n) -ℤ y) → number_at (seen w32 r) k ≡ int_wrap w32 ((x -ℤ y) +ℤ n)
moved_gap r k x y n long lt e =
    let o : (x +ℤ n) -ℤ y ≡ (x -ℤ y) +ℤ n = omega (arith, ints) in
    wrapped_at r k ((x -ℤ y) +ℤ n) long lt (e ∙ ap (int_wrap w32) o)

-- THE SUMS of a line, four products each

abbrev four_products : ℤ → ℤ → ℤ → ℤ → ℤ → ℤ → ℤ → ℤ → ℤ
four_products a b c d k l m n = ((a *ℤ k) +ℤ (b *ℤ l)) +ℤ ((c *ℤ m) +ℤ (d *ℤ n))

pub even_first : (a b c d : ℤ) → four_products a b c d (pos 8192) (pos 10703) (pos 8192) (pos 4433) ≡ number_at (even_sums a b c d) 0
unfolding even_sums
even_first a b c d = omega (arith, ints)

pub even_second : (a b c d : ℤ) → four_products a b c d (pos 8192) (pos 4433) (negsuc 8191) (negsuc 10703) ≡ number_at (even_sums a b c d) 1
unfolding even_sums
even_second a b c d = omega (arith, ints)

pub even_third : (a b c d : ℤ) → four_products a b c d (pos 8192) (negsuc 4432) (negsuc 8191) (pos 10704) ≡ number_at (even_sums a b c d) 2
unfolding even_sums
even_third a b c d = omega (arith, ints)

pub even_fourth : (a b c d : ℤ) → four_products a b c d (pos 8192) (negsuc 10702) (pos 8192) (negsuc 4432) ≡ number_at (even_sums a b c d) 3
unfolding even_sums
even_fourth a b c d = omega (arith, ints)

pub odd_first : (a b c d : ℤ) → four_products a b c d (pos 2260) (negsuc 6435) (pos 9633) (negsuc 11362) ≡ number_at (odd_sums a b c d) 0
odd_first a b c d = omega (arith, ints, odd_at0 a b c d)

pub odd_second : (a b c d : ℤ) → four_products a b c d (pos 6437) (negsuc 11361) (pos 2261) (pos 9633) ≡ number_at (odd_sums a b c d) 1
odd_second a b c d = omega (arith, ints, odd_at1 a b c d)

pub odd_third : (a b c d : ℤ) → four_products a b c d (pos 9633) (negsuc 2258) (negsuc 11361) (negsuc 6435) ≡ number_at (odd_sums a b c d) 2
odd_third a b c d = omega (arith, ints, odd_at2 a b c d)

pub odd_fourth : (a b c d : ℤ) → four_products a b c d (pos 11363) (pos 9633) (pos 6437) (pos 2260) ≡ number_at (odd_sums a b c d) 3
odd_fourth a b c d = omega (arith, ints, odd_at3 a b c d)
