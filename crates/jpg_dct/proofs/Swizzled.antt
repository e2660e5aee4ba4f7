-- Numbers and lanes put from zigzag order into natural order.
use Rattle.std.proofs.Common.{◌≡◌, ℕ, ◌<◌, ◌≤◌, true, List, ◌++◌, length, take, get_or, map, refl, sym, subst, ap, ◌∙◌, arith, ℤ, pos, nat_lt, nat_abs, to_z, of_z, All}
use Rattle.std.specs.Int.{w16}
use Rattle.std.specs.Simd.Lanes.{pick_l}
use Rattle.std.proofs.lemmas.Bool.{ltb-true}
use Rattle.std.proofs.lemmas.Int.{to_z-of_z, fits_signed_from_abs}
use Rattle.std.proofs.lemmas.List.{get_or-map, get_or_append_left, length-map, take_all}
use Rattle.std.proofs.lemmas.List.Elements.{All-from_get_or}
use Rattle.std.proofs.lemmas.List.Sums.{AllPass-from_list_all}
use Rattle.jpg_spec.specs.Lists.{below, index_of}
use Rattle.jpg_spec.specs.Zigzag.{zigzag}
use Rattle.jpg_spec.proofs.Basics.Common.{length_below}
use Rattle.jpg_spec.proofs.Basics.Rows.{at_below, map_map, map_alike}
use Rattle.jpg_spec_image.specs.Dct.{number_at}
use Rattle.jpg_dct.specs.Natural.{natural}
use Rattle.jpg_dct.proofs.Zigzag.{places, place_is, place_low}
use Rattle.jpg_spec_image.proofs.CodedBlocks.{all_at}

pub low : (n : ℕ) → n < 64 → index_of n zigzag < 64
low n lt = subst (λ k. k < 64) (place_is n lt) (place_low n lt)

pub natural_at : (block : List ℤ) (n : ℕ) → n < 64 → number_at (natural block) n ≡ number_at block (index_of n zigzag)
natural_at block n lt = get_or-map (λ m. number_at block (index_of m zigzag)) (below 64) n 0 (pos 0) lt ∙ ap (λ m. number_at block (index_of m zigzag)) (at_below 64 n lt)

-- what holds of all numbers, and of 0, holds of them in natural order
pub natural_all : (P : ℤ → Type 0) (block : List ℤ) → P (pos 0) → All P block → All P (natural block)
natural_all P block zero all =
    All-from_get_or P (natural block) (pos 0)
    (λ n h. (let lt : n < 64 = omega (arith, h, length-map (below 64) (λ m. number_at block (index_of m zigzag)), length_below 64) in
    subst P (sym (natural_at block n lt)) (all_at P block (index_of n zigzag) (pos 0) all zero)))

abbrev pub lanes : List ℤ → List ℕ
lanes xs = map (of_z w16) xs

pub swizzled : (xs : List ℤ) → length xs ≡ 64 → All (λ x. nat_abs x ≤ 1090) xs → map (to_z w16) (pick_l 0 (lanes xs ++ lanes xs) places) ≡ natural xs
swizzled xs l small =
    map_map (to_z w16) (λ k. get_or (lanes xs ++ lanes xs) k 0) places
    ∙ map_alike (λ k. nat_lt k 64 ≡ true) (λ k. to_z w16 (get_or (lanes xs ++ lanes xs) k 0)) (λ k. get_or xs k (pos 0)) places one (AllPass-from_list_all (λ x. nat_lt x 64) places refl)
    ∙ map_map (λ k. get_or xs k (pos 0)) (λ n. index_of n zigzag) (below 64)
  where
    one : (k : ℕ) → nat_lt k 64 ≡ true → to_z w16 (get_or (lanes xs ++ lanes xs) k 0) ≡ get_or xs k (pos 0)
    one k h =
        let lt : k < 64 = ltb-true k 64 h in
        let m = length-map xs (of_z w16) in
        let few : nat_abs (get_or xs k (pos 0)) ≤ 1090 = all_at (λ x. nat_abs x ≤ 1090) xs k (pos 0) small (omega arith) in
        ap (to_z w16) (get_or_append_left (lanes xs) (lanes xs) 0 k (omega (arith, m, l, lt)) ∙ get_or-map (of_z w16) xs k (pos 0) 0 (omega (arith, l, lt)))
        ∙ to_z-of_z w16 (get_or xs k (pos 0)) (fits_signed_from_abs w16 (get_or xs k (pos 0)) (omega (arith, few)))

-- the same, of lanes that were loaded from a slice
pub swizzled_slice : (xs : List ℤ) → length xs ≡ 64 → All (λ x. nat_abs x ≤ 1090) xs → map (to_z w16) (pick_l 0 (lanes (take 64 xs) ++ lanes (take 64 xs)) places) ≡ natural xs
swizzled_slice xs l small =
    subst (λ ys. map (to_z w16) (pick_l 0 (lanes ys ++ lanes ys) places) ≡ natural xs) (sym (take_all 64 xs (omega (arith, l)))) (swizzled xs l small)
