-- A vector of 64 numbers with its lanes exchanged.
use Rattle.std.proofs.Common.{◌≡◌, ℕ, ◌<◌, true, List, ◌++◌, length, take, get_or, map, refl, ap, ◌∙◌, arith, ℤ, pos, nat_lt, to_z, of_z, negsuc, ◌≤ℤ◌, rules}
use mir.Syntax.{w16}
use mir.Val.{SFits}
use Rattle.std.specs.Simd.Lanes.{pick_l}
use Rattle.std.proofs.lemmas.Bool.{ltb-true}
use Rattle.std.proofs.lemmas.Int.{to_z-of_z, ints}
use Rattle.std.proofs.lemmas.List.{get_or-map, get_or_append_left, length-map, take_all}
use Rattle.std.proofs.lemmas.List.Sums.{AllPass-from_list_all}
use Rattle.jpg_spec.specs.Zigzag.{zigzag}
use Rattle.jpg_spec.specs.Transposed.{exchanged, transposed}
use Rattle.jpg_spec.proofs.Basics.Rows.{map_map, map_alike}
use Rattle.jpg_base.proofs.Exchanged.{places}

abbrev pub lanes : List ℤ → List ℕ
lanes xs = map (of_z w16) xs

fits_16 : (v : ℤ) → negsuc 32767 ≤ℤ v → v ≤ℤ pos 32767 → SFits w16 v
fits_16 v low high = search (rules, low, high, arith, ints)

pub swizzled : (xs : List ℤ) → length xs ≡ 64 → ((k : ℕ) → k < 64 → (negsuc 32767 ≤ℤ get_or xs k (pos 0)) × (get_or xs k (pos 0) ≤ℤ pos 32767)) → map (to_z w16) (pick_l 0 (lanes xs ++ lanes xs) places) ≡ transposed (pos 0) xs
unfolding transposed
swizzled xs l fit =
    map_map (to_z w16) (λ k. get_or (lanes xs ++ lanes xs) k 0) places
    ∙ map_alike (λ k. nat_lt k 64 ≡ true) (λ k. to_z w16 (get_or (lanes xs ++ lanes xs) k 0)) (λ k. get_or xs k (pos 0)) places one (AllPass-from_list_all (λ x. nat_lt x 64) places refl)
    ∙ map_map (λ k. get_or xs k (pos 0)) exchanged zigzag
  where
    one : (k : ℕ) → nat_lt k 64 ≡ true → to_z w16 (get_or (lanes xs ++ lanes xs) k 0) ≡ get_or xs k (pos 0)
    one k h =
        let lt : k < 64 = ltb-true k 64 h in
        let m = length-map xs (of_z w16) in
        ap (to_z w16) (get_or_append_left (lanes xs) (lanes xs) 0 k (omega (arith, m, l, lt)) ∙ get_or-map (of_z w16) xs k (pos 0) 0 (omega (arith, l, lt)))
        ∙ to_z-of_z w16 (get_or xs k (pos 0)) (fits_16 (get_or xs k (pos 0)) (fit k lt).0 (fit k lt).1)

-- taken from a slice
pub swizzled_slice : (xs : List ℤ) → length xs ≡ 64 → ((k : ℕ) → k < 64 → (negsuc 32767 ≤ℤ get_or xs k (pos 0)) × (get_or xs k (pos 0) ≤ℤ pos 32767)) → map (to_z w16) (pick_l 0 (lanes (take 64 xs) ++ lanes (take 64 xs)) places) ≡ transposed (pos 0) xs
swizzled_slice xs l fit = ap (λ (ys : List ℤ). map (to_z w16) (pick_l 0 (lanes ys ++ lanes ys) places)) (take_all 64 xs (omega (arith, l))) ∙ swizzled xs l fit
