-- A real block in the first MCU rows of a scan is at one of their places.
use Rattle.std.proofs.Common.{◌≡◌, ℕ, ◌*◌, ◌<◌, true, false, cond, ◌==◌, List, [], ◌∷◌, length, refl, sym, subst, arith}
use Rattle.std.specs.Prelude.{flat_map, nat_lt}
use Rattle.std.proofs.lemmas.Bool.Decides.{nat_tests}
use Rattle.jpg_spec.specs.Lists.{any_of, is_among}
use Rattle.jpg_spec.specs.Geometry.{Frame, blocks_across, blocks_down, component_at, h_max, is_real, mcu_part, mcus_across, place}
use Rattle.jpg_spec.specs.FrameHeader.{IsFrame}
use Rattle.jpg_spec.specs.PictureInWork.{is_at}
use Rattle.jpg_spec.specs.ScanRows.{first_rows, scan_row}
use Rattle.jpg_spec.proofs.Basics.Common.{both, lt_of, same_of, or_alone}
use Rattle.jpg_spec.proofs.Places.PlacesFound.{cut_at, found_below, found_part, found_parts, found_row, here, real_in_padded}
use Rattle.jpg_spec.proofs.Places.PlacesSome.{factors_at, h_max_some}

pub found_first : (f : Frame) (ids : List ℕ) (i x y rows : ℕ) → IsFrame f → i < length f.components → is_among i ids ≡ true → is_real f i x y ≡ true → y < cond (length ids == 1) 1 (component_at f i).v * rows
    → any_of (is_at i x y) (first_rows f ids rows) ≡ true
found_first f [] i x y rows is known among real low = cc
found_first f (j ∷ []) i x y rows is known among real low =
    let r = both (nat_lt x (blocks_across f (component_at f i))) (nat_lt y (blocks_down f (component_at f i))) real in
    let s : j ≡ i = same_of j i (or_alone (j == i) among) in
    let few : y < rows = omega (arith, low) in
    subst (λ m. any_of (is_at i x y) (first_rows f (m ∷ []) rows) ≡ true) (sym s)
    (found_below (is_at i x y) (scan_row f (i ∷ [])) rows y few
    (found_row (is_at i x y) (λ x. place f i x y) (blocks_across f (component_at f i)) x (lt_of x (blocks_across f (component_at f i)) r.0) (here f i x y x y refl refl)))
found_first f (j ∷ k ∷ more) i x y rows is known among real low =
    let ids = j ∷ k ∷ more in
    let c = component_at f i in
    let r = both (nat_lt x (blocks_across f c)) (nat_lt y (blocks_down f c)) real in
    let a = lt_of x (blocks_across f c) r.0 in
    let several : (length ids == 1) ≡ false = grind (arith, nat_tests) in
    let low' : y < c.v * rows = subst (λ b. y < cond b 1 c.v * rows) several low in
    let turned : c.v * rows ≡ rows * c.v = grind arith in
    let t = factors_at f i is known in
    let across = real_in_padded f.width c.h (h_max f) (h_max_some f is) in
    let u = cut_at x c.h (mcus_across f) (omega (arith, t.h_low)) (omega (arith, a, across)) in
    let v = cut_at y c.v rows (omega (arith, t.v_low)) (omega (arith, low', turned)) in
    found_below (is_at i x y) (scan_row f ids) rows v.quot v.within
    (found_below (is_at i x y) (λ mx. flat_map (mcu_part f mx v.quot) ids) (mcus_across f) u.quot u.within
    (found_parts (is_at i x y) (mcu_part f u.quot v.quot) ids i among (found_part f u.quot v.quot i u.rem v.rem x y u.small v.small u.whole v.whole)))
