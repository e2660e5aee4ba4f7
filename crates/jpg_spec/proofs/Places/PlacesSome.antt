-- A scan of a frame has places, and so have its intervals.
use Rattle.std.proofs.Common.{◌≡◌, ℕ, zero, suc, ◌+◌, ◌-◌, ◌*◌, ◌<◌, ◌≤◌, List, [], ◌∷◌, ◌++◌, length, take, drop, refl, sym, ap, ◌∙◌, subst, arith, ⊎_elim}
use Rattle.std.specs.Prelude.{map, flat_map}
use Rattle.std.specs.List.{All}
use Rattle.std.proofs.lemmas.Nat.{le-div}
use Rattle.std.proofs.lemmas.Bool.{cases_lt}
use Rattle.std.proofs.lemmas.List.{append-nil, length-append, length-map, get_or_past}
use Rattle.std.proofs.lemmas.List.Concat.{flat_map-append}
use Rattle.std.proofs.lemmas.List.Elements.{All-get_or, All-head}
use Rattle.jpg_spec.specs.Lists.{below, chunks, chunks_of}
use Rattle.jpg_spec.specs.Segments.{ScanHead, head_components}
use Rattle.jpg_spec.specs.Geometry.{Frame, div_up, greatest, h_max, v_max, component_at, no_component, blocks_across, blocks_down, mcus_across, mcus_down, place, mcu_part, interleaved_units, units}
use Rattle.jpg_spec.specs.FrameHeader.{HasFactors, IsFrame}
use Rattle.jpg_spec.specs.ScanContents.{IsHead}
use Rattle.jpg_spec.specs.declared.frame.Component.{Component}
use Rattle.jpg_spec.specs.declared.frame.Place.{Place}
use Rattle.jpg_spec.specs.declared.frame.ScanPart.{ScanPart}

-- PIECES by the numbers below one
some_below : (f : ℕ → List Place) (n : ℕ) → 1 ≤ n → ((k : ℕ) → k < n → 1 ≤ length (f k)) → 1 ≤ length (flat_map f (below n))
some_below f zero some h = absurd (omega (arith, some))
some_below f (suc n) some h =
    let cut : flat_map f (below (suc n)) ≡ flat_map f (below n) ++ f n = flat_map-append f (below n) (n ∷ []) ∙ ap (λ l. flat_map f (below n) ++ l) (append-nil (f n)) in
    let l = ap length cut in
    let k = length-append (flat_map f (below n)) (f n) in
    let last = h n (omega arith) in
    omega (arith, l, k, last)

some_row : (g : ℕ → Place) (n : ℕ) → 1 ≤ n → 1 ≤ length (map g (below n))
some_row g zero some = absurd (omega (arith, some))
some_row g (suc n) some = let l = length-map (below (suc n)) g in let k = length-append (below n) (n ∷ []) in omega (arith, l, k)

-- WHAT GIVES PLACES: sides, components and factors, all of them not 0
pub record HasPlaces (f : Frame) : Type 0 where
  pub width : 1 ≤ f.width
  pub height : 1 ≤ f.height
  pub count : 1 ≤ length f.components
  pub factors : All HasFactors f.components

frame_places : (f : Frame) → IsFrame f → HasPlaces f
frame_places f is = record { width = is.width_low; height = is.height_low; count = is.count_low; factors = is.factors }

-- NUMBERS of a frame
pub one_at_least : (n d : ℕ) → 0 < d → 1 ≤ n → 1 ≤ div_up n d
one_at_least n d some low = le-div 1 (n + d - 1) d some (omega (arith, low))

pub factors_at : (f : Frame) (i : ℕ) → IsFrame f → i < length f.components → HasFactors (component_at f i)
factors_at f i is h = All-get_or HasFactors f.components i no_component h is.factors

-- also if the frame has no such component
factors_of : (f : Frame) (i : ℕ) → HasPlaces f → HasFactors (component_at f i)
factors_of f i is =
    ⊎_elim
    (λ (h : i < length f.components). All-get_or HasFactors f.components i no_component h is.factors)
    (λ (h : length f.components ≤ i). subst HasFactors (sym (get_or_past f.components i no_component h)) (record { h_low = omega arith; h_high = omega arith; v_low = omega arith; v_high = omega arith }))
    (cases_lt i (length f.components))

greatest_some : (ns : List ℕ) (n : ℕ) → 1 ≤ n → 1 ≤ greatest (n ∷ ns)
greatest_some ns n h = omega (arith, h)

most_across_some : (f : Frame) → HasPlaces f → 0 < h_max f
most_across_some f is = by f.components is.factors is.count
  where
    by : (cs : List Component) → All HasFactors cs → 1 ≤ length cs → 0 < greatest (map (λ (c : Component). c.h) cs)
    by [] all some = absurd (omega (arith, some))
    by (c ∷ cs) all some = let h = All-head HasFactors c cs all in greatest_some (map (λ (c : Component). c.h) cs) c.h h.h_low

most_down_some : (f : Frame) → HasPlaces f → 0 < v_max f
most_down_some f is = by f.components is.factors is.count
  where
    by : (cs : List Component) → All HasFactors cs → 1 ≤ length cs → 0 < greatest (map (λ (c : Component). c.v) cs)
    by [] all some = absurd (omega (arith, some))
    by (c ∷ cs) all some = let h = All-head HasFactors c cs all in greatest_some (map (λ (c : Component). c.v) cs) c.v h.v_low

pub h_max_some : (f : Frame) → IsFrame f → 0 < h_max f
h_max_some f is = most_across_some f (frame_places f is)

pub v_max_some : (f : Frame) → IsFrame f → 0 < v_max f
v_max_some f is = most_down_some f (frame_places f is)

pub product_some : (a b : ℕ) → 1 ≤ a → 1 ≤ b → 1 ≤ a * b
product_some zero b h k = absurd (omega (arith, h))
product_some (suc a) zero h k = absurd (omega (arith, k))
product_some (suc a) (suc b) h k = grind arith

across_some : (f : Frame) (i : ℕ) → HasPlaces f → 1 ≤ blocks_across f (component_at f i)
across_some f i is =
    let c = factors_of f i is in
    one_at_least (div_up (f.width * (component_at f i).h) (h_max f)) 8 (omega arith) (one_at_least (f.width * (component_at f i).h) (h_max f) (most_across_some f is) (product_some f.width (component_at f i).h is.width c.h_low))

down_some : (f : Frame) (i : ℕ) → HasPlaces f → 1 ≤ blocks_down f (component_at f i)
down_some f i is =
    let c = factors_of f i is in
    one_at_least (div_up (f.height * (component_at f i).v) (v_max f)) 8 (omega arith) (one_at_least (f.height * (component_at f i).v) (v_max f) (most_down_some f is) (product_some f.height (component_at f i).v is.height c.v_low))

mcus_across_some : (f : Frame) → HasPlaces f → 1 ≤ mcus_across f
mcus_across_some f is = let m = most_across_some f is in one_at_least f.width (8 * h_max f) (omega (arith, m)) is.width

mcus_down_some : (f : Frame) → HasPlaces f → 1 ≤ mcus_down f
mcus_down_some f is = let m = most_down_some f is in one_at_least f.height (8 * v_max f) (omega (arith, m)) is.height

-- THE PLACES OF A SCAN
mcu_part_some : (f : Frame) (mx my i : ℕ) → HasFactors (component_at f i) → 1 ≤ length (mcu_part f mx my i)
mcu_part_some f mx my i c =
    let q = component_at f i in
    some_below (λ v. map (λ h. place f i (mx * q.h + h) (my * q.v + v)) (below q.h)) q.v c.v_low (λ v l. some_row (λ h. place f i (mx * q.h + h) (my * q.v + v)) q.h c.h_low)

some_parts : (f : Frame) (mx my i : ℕ) (parts : List ℕ) → HasFactors (component_at f i) → 1 ≤ length (flat_map (mcu_part f mx my) (i ∷ parts))
some_parts f mx my i parts c =
    let l = length-append (mcu_part f mx my i) (flat_map (mcu_part f mx my) parts) in
    let k = mcu_part_some f mx my i c in
    omega (arith, l, k)

interleaved_some : (f : Frame) (i : ℕ) (parts : List ℕ) → HasPlaces f → 1 ≤ length (interleaved_units f (i ∷ parts))
interleaved_some f i parts is =
    some_below (λ my. flat_map (λ mx. flat_map (mcu_part f mx my) (i ∷ parts)) (below (mcus_across f))) (mcus_down f) (mcus_down_some f is)
    (λ my ly. some_below (λ mx. flat_map (mcu_part f mx my) (i ∷ parts)) (mcus_across f) (mcus_across_some f is) (λ mx lx. some_parts f mx my i parts (factors_of f i is)))

units_placed : (f : Frame) (i : ℕ) (parts : List ℕ) → HasPlaces f → 1 ≤ length (units f (i ∷ parts))
unfolding units
units_placed f i [] is =
    some_below (λ y. map (λ x. place f i x y) (below (blocks_across f (component_at f i)))) (blocks_down f (component_at f i)) (down_some f i is)
    (λ y l. some_row (λ x. place f i x y) (blocks_across f (component_at f i)) (across_some f i is))
units_placed f i (j ∷ parts) is = interleaved_some f i (j ∷ parts) is

pub head_places_some : (f : Frame) (head : ScanHead) → HasPlaces f → 1 ≤ length head.parts → 1 ≤ length (units f (head_components head))
head_places_some f head is some = by head.parts refl
  where
    by : (parts : List ScanPart) → head.parts ≡ parts → 1 ≤ length (units f (head_components head))
    by [] e = let l = ap length e in absurd (omega (arith, some, l))
    by (p ∷ parts) e = subst (λ ps. 1 ≤ length (units f (map (λ p. p.component) ps))) (sym e) (units_placed f p.component (map (λ p. p.component) parts) is)

pub units_some : (f : Frame) (i : ℕ) (parts : List ℕ) → IsFrame f → i < length f.components → 1 ≤ length (units f (i ∷ parts))
units_some f i parts is h = units_placed f i parts (frame_places f is)

pub head_units_some : (f : Frame) (head : ScanHead) → IsFrame f → IsHead f head → 1 ≤ length (units f (head_components head))
head_units_some f head is h = head_places_some f head (frame_places f is) h.some

-- There are INTERVALS of some places, and none is empty
abbrev pub AreSome : List (List Place) → Type 0
AreSome [] = Unit {0}
AreSome (places ∷ later) = (1 ≤ length places) × AreSome later

chunks_of_some : (most n : ℕ) (xs : List Place) → AreSome (chunks_of most (suc n) xs)
unfolding chunks_of
chunks_of_some zero n xs = tt
chunks_of_some (suc most) n [] = tt
chunks_of_some (suc most) n (x ∷ xs) = (omega arith, chunks_of_some most n (drop n xs))

pub chunks_some : (n : ℕ) (xs : List Place) → 1 ≤ length xs → (places : List Place) × (later : List (List Place)) × (chunks n xs ≡ places ∷ later) × AreSome (chunks n xs)
unfolding chunks_of
chunks_some zero xs some = (xs, [], refl, (some, tt))
chunks_some (suc n) [] some = absurd (omega (arith, some))
chunks_some (suc n) (x ∷ xs) some = (x ∷ take n xs, chunks_of (length xs) (suc n) (drop n xs), refl, chunks_of_some (suc (length xs)) n (x ∷ xs))
