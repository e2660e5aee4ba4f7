-- The places of a scan: each belongs to a component of the scan, and each real block of these components has one.
use Rattle.std.proofs.Common.{◌≡◌, ℕ, zero, suc, ◌+◌, ◌-◌, ◌*◌, ◌/◌, ◌%◌, ◌<◌, ◌≤◌, Bool, true, false, List, [], ◌∷◌, ◌++◌, length, refl, sym, ap, ◌∙◌, subst, arith, ⊎_elim, ◌==◌, ◌&&◌}
use Rattle.std.specs.Prelude.{◌||◌, map, flat_map, nat_lt}
use Rattle.std.proofs.Math.Nat.{lt-div-mul-add, div-lt_iff_lt-mul, mul-le-mul_right}
use Rattle.std.proofs.lemmas.Bool.{cases_lt}
use Rattle.std.proofs.lemmas.List.{append-nil}
use Rattle.std.proofs.lemmas.List.Concat.{flat_map-append}
use Rattle.jpg_spec.specs.Lists.{any_of, below, is_among}
use Rattle.jpg_spec.specs.Geometry.{Frame, div_up, h_max, v_max, component_at, blocks_across, blocks_down, mcus_across, mcus_down, place, mcu_part, single_units, interleaved_units, units, is_real}
use Rattle.jpg_spec.specs.FrameHeader.{IsFrame}
use Rattle.jpg_spec.specs.PictureInWork.{is_at}
use Rattle.jpg_spec.specs.declared.frame.Place.{Place}
use Rattle.jpg_spec.proofs.Places.PictureInWork.{any_join}
use Rattle.jpg_spec.proofs.Places.PlacesSome.{h_max_some, v_max_some, factors_at}
use Rattle.jpg_spec.proofs.Basics.Each.{Each, each_join}
use Rattle.jpg_spec.proofs.Places.PlacesDistinct.{map_is_flat}
use Rattle.jpg_spec.proofs.Basics.Common.{both, lt_of, same_of, and_intro, same_itself, or_alone, or_right}

-- EACH PLACE

pub flat_below : {A : Type 0} (f : ℕ → List A) (n : ℕ) → flat_map f (below (suc n)) ≡ flat_map f (below n) ++ f n
flat_below f n = flat_map-append f (below n) (n ∷ []) ∙ ap (λ l. flat_map f (below n) ++ l) (append-nil (f n))

each_below : {A : Type 0} (P : A → Type 0) (f : ℕ → List A) (n : ℕ) → ((k : ℕ) → Each P (f k)) → Each P (flat_map f (below n))
each_below P f zero h = tt
each_below P f (suc n) h = subst (λ l. Each P l) (sym (flat_below f n)) (each_join P (flat_map f (below n)) (f n) (each_below P f n h) (h n))

each_of : {A B : Type 0} (P : B → Type 0) (g : A → B) (xs : List A) → ((x : A) → P (g x)) → Each P (map g xs)
each_of P g [] h = tt
each_of P g (x ∷ xs) h = (h x, each_of P g xs h)

each_part : (P : Place → Type 0) (f : Frame) (mx my i : ℕ) → ((x y : ℕ) → P (place f i x y)) → Each P (mcu_part f mx my i)
each_part P f mx my i h =
    let c = component_at f i in
    each_below P (λ v. map (λ h. place f i (mx * c.h + h) (my * c.v + v)) (below c.h)) c.v (λ v. each_of P (λ h. place f i (mx * c.h + h) (my * c.v + v)) (below c.h) (λ n. h (mx * c.h + n) (my * c.v + v)))

each_parts : (P : Place → Type 0) (f : Frame) (mx my : ℕ) (parts : List ℕ) → ((i x y : ℕ) → is_among i parts ≡ true → P (place f i x y)) → Each P (flat_map (mcu_part f mx my) parts)
each_parts P f mx my [] h = tt
each_parts P f mx my (i ∷ parts) h =
    each_join P (mcu_part f mx my i) (flat_map (mcu_part f mx my) parts) (each_part P f mx my i (λ x y. h i x y (ap (λ b. b || is_among i parts) (same_itself i))))
    (each_parts P f mx my parts (λ j x y e. h j x y (or_right (i == j) (is_among j parts) e)))

pub each_units : (P : Place → Type 0) (f : Frame) (parts : List ℕ) → ((i x y : ℕ) → is_among i parts ≡ true → P (place f i x y)) → Each P (units f parts)
unfolding units
each_units P f [] h = tt
each_units P f (i ∷ []) h =
    each_below P (λ y. map (λ x. place f i x y) (below (blocks_across f (component_at f i)))) (blocks_down f (component_at f i))
    (λ y. each_of P (λ x. place f i x y) (below (blocks_across f (component_at f i))) (λ x. h i x y (ap (λ b. b || false) (same_itself i))))
each_units P f (i ∷ j ∷ parts) h =
    let all = i ∷ j ∷ parts in
    each_below P (λ my. flat_map (λ mx. flat_map (mcu_part f mx my) all) (below (mcus_across f))) (mcus_down f)
    (λ my. each_below P (λ mx. flat_map (mcu_part f mx my) all) (mcus_across f) (λ mx. each_parts P f mx my all h))

-- THE PLACE OF A REAL BLOCK

pub or_first : (a b : Bool) → a ≡ true → (a || b) ≡ true
or_first a b e = ap (λ t. t || b) e

pub found_below : (test : Place → Bool) (f : ℕ → List Place) (n k : ℕ) → k < n → any_of test (f k) ≡ true → any_of test (flat_map f (below n)) ≡ true
found_below test f zero k h e = absurd (omega (arith, h))
found_below test f (suc n) k h e =
    ap (any_of test) (flat_below f n) ∙ any_join test (flat_map f (below n)) (f n)
    ∙ ⊎_elim (λ (l : k < n). or_first (any_of test (flat_map f (below n))) (any_of test (f n)) (found_below test f n k l e))
    (λ (l : n ≤ k). (let s : k ≡ n = omega (arith, h, l) in or_right (any_of test (flat_map f (below n))) (any_of test (f n)) (ap (λ m. any_of test (f m)) (sym s) ∙ e)))
    (cases_lt k n)

pub found_row : (test : Place → Bool) (g : ℕ → Place) (n k : ℕ) → k < n → test (g k) ≡ true → any_of test (map g (below n)) ≡ true
found_row test g n k h e = ap (any_of test) (map_is_flat g (below n)) ∙ found_below test (λ x. g x ∷ []) n k h (or_first (test (g k)) false e)

pub here : (f : Frame) (i x y a b : ℕ) → a ≡ x → b ≡ y → is_at i x y (place f i a b) ≡ true
here f i x y a b s t =
    and_intro (i == i && a == x) (b == y) (and_intro (i == i) (a == x) (same_itself i) (ap (λ n. n == x) s ∙ same_itself x)) (ap (λ n. n == y) t ∙ same_itself y)

found_single : (f : Frame) (i x y : ℕ) → x < blocks_across f (component_at f i) → y < blocks_down f (component_at f i) → any_of (is_at i x y) (single_units f i) ≡ true
found_single f i x y a b =
    found_below (is_at i x y) (λ y. map (λ x. place f i x y) (below (blocks_across f (component_at f i)))) (blocks_down f (component_at f i)) y b
    (found_row (is_at i x y) (λ x. place f i x y) (blocks_across f (component_at f i)) x a (here f i x y x y refl refl))

pub found_part : (f : Frame) (mx my i a b x y : ℕ) → a < (component_at f i).h → b < (component_at f i).v → mx * (component_at f i).h + a ≡ x → my * (component_at f i).v + b ≡ y → any_of (is_at i x y) (mcu_part f mx my i) ≡ true
found_part f mx my i a b x y la lb s t =
    let c = component_at f i in
    found_below (is_at i x y) (λ v. map (λ h. place f i (mx * c.h + h) (my * c.v + v)) (below c.h)) c.v b lb
    (found_row (is_at i x y) (λ h. place f i (mx * c.h + h) (my * c.v + b)) c.h a la (here f i x y (mx * c.h + a) (my * c.v + b) s t))

pub found_parts : (test : Place → Bool) (f : ℕ → List Place) (parts : List ℕ) (i : ℕ) → is_among i parts ≡ true → any_of test (f i) ≡ true → any_of test (flat_map f parts) ≡ true
found_parts test f [] i h e = cc
found_parts test f (j ∷ parts) i h e = any_join test (f j) (flat_map f parts) ∙ by (j == i) refl h (λ k. found_parts test f parts i k e)
  where
    by : (b : Bool) → (j == i) ≡ b → (b || is_among i parts) ≡ true → (is_among i parts ≡ true → any_of test (flat_map f parts) ≡ true) → (any_of test (f j) || any_of test (flat_map f parts)) ≡ true
    by true s k later = or_first (any_of test (f j)) (any_of test (flat_map f parts)) (ap (λ m. any_of test (f m)) (same_of j i s) ∙ e)
    by false s k later = or_right (any_of test (f j)) (any_of test (flat_map f parts)) (later k)

-- REAL BLOCKS are in the padded grid

pub covers : (n d : ℕ) → 0 < d → n ≤ div_up n d * d
covers n d some =
    let above : n + d - 1 < div_up n d * d + d = lt-div-mul-add some in
    omega (arith, above)

pub least : (n d k : ℕ) → 0 < d → n ≤ k * d → div_up n d ≤ k
least n d k some within =
    let below : n + d - 1 < (k + 1) * d = grind arith in
    let short : div_up n d < k + 1 = (div-lt_iff_lt-mul some).1 below in
    omega (arith, short)

pub real_in_padded : (side factor most : ℕ) → 0 < most → div_up (div_up (side * factor) most) 8 ≤ div_up side (8 * most) * factor
real_in_padded side factor most some =
    let mcus = div_up side (8 * most) in
    let whole : side ≤ mcus * (8 * most) = covers side (8 * most) (omega arith) in
    let scaled : side * factor ≤ mcus * (8 * most) * factor = mul-le-mul_right factor whole in
    let turned : mcus * (8 * most) * factor ≡ mcus * factor * 8 * most = grind arith in
    let samples : div_up (side * factor) most ≤ mcus * factor * 8 = least (side * factor) most (mcus * factor * 8) some (omega (arith, scaled, turned)) in
    least (div_up (side * factor) most) 8 (mcus * factor) (omega arith) samples

-- the MCU of a column
pub record Cut (x d n : ℕ) : Type 0 where
  pub quot : ℕ
  pub rem : ℕ
  pub small : rem < d
  pub whole : quot * d + rem ≡ x
  pub within : quot < n

pub cut_at : (x d n : ℕ) → 0 < d → x < n * d → Cut x d n
cut_at x d n some h = record { quot = x / d; rem = x % d; small = omega (arith, some); whole = omega arith; within = (div-lt_iff_lt-mul some).1 h }

found_interleaved : (f : Frame) (parts : List ℕ) (i x y : ℕ) → IsFrame f → i < length f.components → is_among i parts ≡ true → x < blocks_across f (component_at f i) → y < blocks_down f (component_at f i)
    → any_of (is_at i x y) (interleaved_units f parts) ≡ true
found_interleaved f parts i x y is known among a b =
    let c = component_at f i in
    let k = factors_at f i is known in
    let across = real_in_padded f.width c.h (h_max f) (h_max_some f is) in
    let down = real_in_padded f.height c.v (v_max f) (v_max_some f is) in
    let u = cut_at x c.h (mcus_across f) (omega (arith, k.h_low)) (omega (arith, a, across)) in
    let v = cut_at y c.v (mcus_down f) (omega (arith, k.v_low)) (omega (arith, b, down)) in
    found_below (is_at i x y) (λ my. flat_map (λ mx. flat_map (mcu_part f mx my) parts) (below (mcus_across f))) (mcus_down f) v.quot v.within
    (found_below (is_at i x y) (λ mx. flat_map (mcu_part f mx v.quot) parts) (mcus_across f) u.quot u.within
    (found_parts (is_at i x y) (mcu_part f u.quot v.quot) parts i among (found_part f u.quot v.quot i u.rem v.rem x y u.small v.small u.whole v.whole)))

-- THE LAW
pub real_found : (f : Frame) (parts : List ℕ) (i x y : ℕ) → IsFrame f → i < length f.components → is_among i parts ≡ true → is_real f i x y ≡ true → any_of (is_at i x y) (units f parts) ≡ true
unfolding units
real_found f [] i x y is known among real = cc
real_found f (j ∷ []) i x y is known among real =
    let r = both (nat_lt x (blocks_across f (component_at f i))) (nat_lt y (blocks_down f (component_at f i))) real in
    let s : j ≡ i = same_of j i (or_alone (j == i) among) in
    subst (λ m. any_of (is_at i x y) (single_units f m) ≡ true) (sym s) (found_single f i x y (lt_of x (blocks_across f (component_at f i)) r.0) (lt_of y (blocks_down f (component_at f i)) r.1))
real_found f (j ∷ k ∷ parts) i x y is known among real =
    let r = both (nat_lt x (blocks_across f (component_at f i))) (nat_lt y (blocks_down f (component_at f i))) real in
    found_interleaved f (j ∷ k ∷ parts) i x y is known among (lt_of x (blocks_across f (component_at f i)) r.0) (lt_of y (blocks_down f (component_at f i)) r.1)
