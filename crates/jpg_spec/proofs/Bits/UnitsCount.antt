-- The number of units and the number of intervals of a scan.
use Rattle.std.proofs.Common.{◌≡◌, ℕ, zero, suc, ◌+◌, ◌*◌, ◌<◌, ◌≤◌, true, false, List, [], ◌∷◌, ◌++◌, length, drop, sym, ap, ◌∙◌, arith, ◌&&◌}
use Rattle.std.specs.Prelude.{map, flat_map, nat_lt}
use Rattle.std.proofs.Math.Nat.{suc-mul}
use Rattle.std.proofs.lemmas.Nat.{mul-le}
use Rattle.std.proofs.lemmas.Bool.Decides.{nat_tests}
use Rattle.std.proofs.lemmas.List.{append-nil, length-append, length-map, length-drop}
use Rattle.std.proofs.lemmas.List.Concat.{flat_map-append}
use Rattle.std.proofs.lemmas.List.Sums.{sum_by-cons, get_or-le-sum_by}
use Rattle.jpg_spec.specs.Lists.{below, chunks, chunks_of}
use Rattle.jpg_spec.specs.Geometry.{Frame, h_max, v_max, component_at, no_component, blocks_across, blocks_down, mcus_across, mcus_down, padded_blocks, factor_sum, place, mcu_part, single_units, interleaved_units, units}
use Rattle.jpg_spec.specs.FrameHeader.{IsFrame}
use Rattle.jpg_spec.specs.declared.frame.Component.{Component}
use Rattle.jpg_spec.specs.declared.frame.Place.{Place}
use Rattle.jpg_spec.proofs.Places.PlacesSome.{factors_at, h_max_some, v_max_some}
use Rattle.jpg_spec.proofs.Basics.Each.{Each}
use Rattle.jpg_spec.proofs.Places.PlacesFound.{real_in_padded}
use Rattle.jpg_spec.proofs.Basics.Common.{length_below}

-- INTERVALS: at most as many as units, and one

chunks_few : {A : Type 0} (most n : ℕ) (xs : List A) → length (chunks_of most (suc n) xs) ≤ length xs
unfolding chunks_of
chunks_few zero n xs = omega arith
chunks_few (suc most) n [] = omega arith
chunks_few (suc most) n (x ∷ xs) = let h = chunks_few most n (drop n xs) in omega (arith, h, length-drop n xs)

pub intervals_few : {A : Type 0} (n : ℕ) (xs : List A) → length (chunks n xs) ≤ length xs + 1
intervals_few zero xs = omega arith
intervals_few (suc n) xs = let h = chunks_few (length xs) n xs in omega (arith, h)

-- UNITS

flat_few : {A : Type 0} (g : ℕ → List A) (n m : ℕ) → ((k : ℕ) → length (g k) ≤ m) → length (flat_map g (below n)) ≤ n * m
flat_few g zero m h = omega arith
flat_few g (suc n) m h =
    let cut : flat_map g (below (suc n)) ≡ flat_map g (below n) ++ g n = flat_map-append g (below n) (n ∷ []) ∙ ap (λ l. flat_map g (below n) ++ l) (append-nil (g n)) in
    let front = flat_few g n m h in
    let last = h n in
    omega (arith, ap length cut, length-append (flat_map g (below n)) (g n), front, last, suc-mul n m)

row_few : (g : ℕ → Place) (n : ℕ) → length (map g (below n)) ≤ n
row_few g n = omega (arith, length-map (below n) g, length_below n)

-- the real blocks of a component are in its padded grid

abbrev padded_of : Frame → Component → ℕ
padded_of f c = (mcus_across f * c.h) * (mcus_down f * c.v)

pub single_few : (f : Frame) (i : ℕ) → IsFrame f → i < length f.components → length (single_units f i) ≤ padded_blocks f
single_few f i is known =
    let c = component_at f i in
    let across : blocks_across f c ≤ mcus_across f * c.h = real_in_padded f.width c.h (h_max f) (h_max_some f is) in
    let down : blocks_down f c ≤ mcus_down f * c.v = real_in_padded f.height c.v (v_max f) (v_max_some f is) in
    let count = flat_few (λ y. map (λ x. place f i x y) (below (blocks_across f c))) (blocks_down f c) (blocks_across f c) (λ y. row_few (λ x. place f i x y) (blocks_across f c)) in
    let grid = mul-le (blocks_down f c) (blocks_across f c) (mcus_down f * c.v) (mcus_across f * c.h) down across in
    let turned : (mcus_down f * c.v) * (mcus_across f * c.h) ≡ padded_of f c = grind arith in
    let all = get_or-le-sum_by (padded_of f) f.components i no_component known in
    omega (arith, count, grid, turned, all)

part_few : (f : Frame) (mx my i : ℕ) → length (mcu_part f mx my i) ≤ (component_at f i).h * (component_at f i).v
part_few f mx my i =
    let c = component_at f i in
    let count = flat_few (λ v. map (λ h. place f i (mx * c.h + h) (my * c.v + v)) (below c.h)) c.v c.h (λ v. row_few (λ h. place f i (mx * c.h + h) (my * c.v + v)) c.h) in
    let turned : c.v * c.h ≡ c.h * c.v = grind arith in
    omega (arith, count, turned)

mcu_few : (f : Frame) (mx my : ℕ) (parts : List ℕ) → length (flat_map (mcu_part f mx my) parts) ≤ factor_sum f parts
mcu_few f mx my [] = omega arith
mcu_few f mx my (i ∷ parts) =
    let here = part_few f mx my i in
    let later = mcu_few f mx my parts in
    let sum = sum_by-cons (λ i. (component_at f i).h * (component_at f i).v) i parts in
    omega (arith, here, later, sum, length-append (mcu_part f mx my i) (flat_map (mcu_part f mx my) parts))

-- an MCU is at least a block of the first component's padded grid
mcus_few : (f : Frame) → IsFrame f → mcus_down f * mcus_across f ≤ padded_blocks f
mcus_few f is =
    let c = component_at f 0 in
    let k = factors_at f 0 is is.count_low in
    let all = get_or-le-sum_by (padded_of f) f.components 0 no_component is.count_low in
    let across : mcus_across f * 1 ≤ mcus_across f * c.h = mul-le (mcus_across f) 1 (mcus_across f) c.h (omega arith) k.h_low in
    let down : mcus_down f * 1 ≤ mcus_down f * c.v = mul-le (mcus_down f) 1 (mcus_down f) c.v (omega arith) k.v_low in
    let grid = mul-le (mcus_across f) (mcus_down f) (mcus_across f * c.h) (mcus_down f * c.v) (omega (arith, across)) (omega (arith, down)) in
    let turned : mcus_down f * mcus_across f ≡ mcus_across f * mcus_down f = grind arith in
    omega (arith, grid, turned, all)

several_few : (f : Frame) (parts : List ℕ) → IsFrame f → factor_sum f parts ≤ 10 → length (interleaved_units f parts) ≤ 10 * padded_blocks f
several_few f parts is small =
    let mcu : (my mx : ℕ) → length (flat_map (mcu_part f mx my) parts) ≤ 10 = λ my mx. omega (arith, mcu_few f mx my parts, small) in
    let row : (my : ℕ) → length (flat_map (λ mx. flat_map (mcu_part f mx my) parts) (below (mcus_across f))) ≤ mcus_across f * 10 = λ my. flat_few (λ mx. flat_map (mcu_part f mx my) parts) (mcus_across f) 10 (mcu my) in
    let all = flat_few (λ my. flat_map (λ mx. flat_map (mcu_part f mx my) parts) (below (mcus_across f))) (mcus_down f) (mcus_across f * 10) row in
    let turned : mcus_down f * (mcus_across f * 10) ≡ 10 * (mcus_down f * mcus_across f) = grind arith in
    omega (arith, all, turned, mcus_few f is)

pub scan_few : (f : Frame) (parts : List ℕ) → IsFrame f → Each (λ i. i < length f.components) parts → (nat_lt 1 (length parts) && nat_lt 10 (factor_sum f parts)) ≡ false → length (units f parts) ≤ 10 * padded_blocks f
unfolding units
scan_few f [] is known small = omega arith
scan_few f (i ∷ []) is known small = omega (arith, single_few f i is known.0)
scan_few f (i ∷ j ∷ parts) is known small =
    let n = factor_sum f (i ∷ j ∷ parts) in
    let two : nat_lt 1 (length (i ∷ j ∷ parts)) ≡ true = grind (arith, nat_tests) in
    several_few f (i ∷ j ∷ parts) is (not_more n (ap (λ b. b && nat_lt 10 n) (sym two) ∙ small))
  where
    not_more : (n : ℕ) → nat_lt 10 n ≡ false → n ≤ 10
    not_more n e = grind (arith, nat_tests)
