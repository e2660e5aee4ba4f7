-- A scan of all components names each of them, and has the MCU rows of its picture.
use Rattle.std.proofs.Common.{◌≡◌, ℕ, zero, suc, ◌+◌, ◌-◌, ◌*◌, ◌/◌, ◌<◌, ◌≤◌, Bool, true, false, cond, not, ◌==◌, ◌&&◌, List, [], ◌∷◌, length, get_or, refl, sym, ap, ◌∙◌, subst, arith}
use Rattle.std.specs.Prelude.{◌||◌, map, flat_map, max}
use Rattle.std.specs.List.{All}
use Rattle.std.proofs.Math.Nat.{le-div_iff_mul-le, div-lt_iff_lt-mul}
use Rattle.std.proofs.lemmas.Bool.Decides.{nat_tests}
use Rattle.std.proofs.lemmas.List.{length-append, length-map}
use Rattle.std.proofs.lemmas.List.Elements.{All-head, All-tail}
use Rattle.jpg_spec.specs.Lists.{below, is_among, is_distinct}
use Rattle.jpg_spec.specs.Geometry.{Frame, blocks_across, blocks_down, component_at, div_up, greatest, mcu_part, mcus_across, mcus_down, no_component, place, units, v_max}
use Rattle.jpg_spec.specs.FrameHeader.{HasFactors}
use Rattle.jpg_spec.specs.Segments.{ScanHead, head_components}
use Rattle.jpg_spec.specs.ScanContents.{IsHead}
use Rattle.jpg_spec.specs.Scan.{Blocks}
use Rattle.jpg_spec.specs.Meaning.{picture_frame, most_down}
use Rattle.jpg_spec.specs.Markers.{Segment}
use Rattle.jpg_spec.specs.FileMeaning.{meaning_of}
use Rattle.jpg_spec.specs.ScanRows.{first_rows, scan_row}
use Rattle.jpg_spec.specs.declared.frame.Component.{Component}
use Rattle.jpg_spec.specs.declared.frame.Place.{Place}
use Rattle.jpg_spec.specs.declared.frame.ScanPart.{ScanPart}
use Rattle.jpg_spec.proofs.Basics.Common.{both, negated, neither, same_of}
use Rattle.jpg_spec.proofs.Basics.Each.{Each}
use Rattle.jpg_spec.proofs.Places.PlacesFound.{flat_below}
use Rattle.jpg_spec.proofs.Headers.SameNumbers.{file_numbers, by_numbers}
use Rattle.jpg_spec.proofs.Basics.Rows.{map_map}

-- DISTINCT NUMBERS below one are no more than it

abbrev without : ℕ → List ℕ → List ℕ
without n [] = []
without n (x ∷ xs) = cond (x == n) xs (x ∷ without n xs)

without_among : (m n : ℕ) (xs : List ℕ) → is_among m xs ≡ false → is_among m (without n xs) ≡ false
without_among m n [] e = refl
without_among m n (x ∷ xs) e = by (x == n) (neither (x == m) (is_among m xs) e) (without_among m n xs)
  where
    by : (b : Bool) → ((x == m) ≡ false) × (is_among m xs ≡ false) → (is_among m xs ≡ false → is_among m (without n xs) ≡ false) → is_among m (cond b xs (x ∷ without n xs)) ≡ false
    by true h later = h.1
    by false h later = ap (λ b. b || is_among m (without n xs)) h.0 ∙ later h.1

without_distinct : (n : ℕ) (xs : List ℕ) → is_distinct xs ≡ true → is_distinct (without n xs) ≡ true
without_distinct n [] e = refl
without_distinct n (x ∷ xs) e =
    let h = both (not (is_among x xs)) (is_distinct xs) e in
    by (x == n) h.1 (without_among x n xs (negated (is_among x xs) h.0)) (without_distinct n xs h.1)
  where
    by : (b : Bool) → is_distinct xs ≡ true → is_among x (without n xs) ≡ false → is_distinct (without n xs) ≡ true → is_distinct (cond b xs (x ∷ without n xs)) ≡ true
    by true d none later = d
    by false d none later = ap (λ b. not b && is_distinct (without n xs)) none ∙ later

abbrev pub AreBelow : ℕ → List ℕ → Type 0
AreBelow n xs = Each (λ x. x < n) xs

none_last : (n : ℕ) (xs : List ℕ) → is_among n xs ≡ false → AreBelow (suc n) xs → AreBelow n xs
none_last n [] e h = tt
none_last n (x ∷ xs) e h =
    let k = neither (x == n) (is_among n xs) e in
    (below_last x n k.0 h.0, none_last n xs k.1 h.1)
  where
    below_last : (x n : ℕ) → (x == n) ≡ false → x < suc n → x < n
    below_last x n e h = grind (arith, nat_tests)

without_below : (n : ℕ) (xs : List ℕ) → is_distinct xs ≡ true → AreBelow (suc n) xs → AreBelow n (without n xs)
without_below n [] d h = tt
without_below n (x ∷ xs) d h =
    let k = both (not (is_among x xs)) (is_distinct xs) d in
    by (x == n) refl (negated (is_among x xs) k.0) (without_below n xs k.1 h.1)
  where
    below_last : (x n : ℕ) → (x == n) ≡ false → x < suc n → x < n
    below_last x n e h = grind (arith, nat_tests)

    by : (b : Bool) → (x == n) ≡ b → is_among x xs ≡ false → AreBelow n (without n xs) → AreBelow n (cond b xs (x ∷ without n xs))
    by true e none later = none_last n xs (subst (λ m. is_among m xs ≡ false) (same_of x n e) none) h.1
    by false e none later = (below_last x n e h.0, later)

without_length : (n : ℕ) (xs : List ℕ) → length xs ≤ suc (length (without n xs))
without_length n [] = omega arith
without_length n (x ∷ xs) = by (x == n) (without_length n xs)
  where
    by : (b : Bool) → length xs ≤ suc (length (without n xs)) → length (x ∷ xs) ≤ suc (length (cond b xs (x ∷ without n xs)))
    by true later = omega arith
    by false later = omega (arith, later)

few_below : (n : ℕ) (xs : List ℕ) → is_distinct xs ≡ true → AreBelow n xs → length xs ≤ n
few_below zero [] d h = omega arith
few_below zero (x ∷ xs) d h = absurd (omega (arith, h.0))
few_below (suc n) xs d h = omega (arith, without_length n xs, few_below n (without n xs) (without_distinct n xs d) (without_below n xs d h))

-- as many as there are, so each of them
pub all_named : (n : ℕ) (xs : List ℕ) (i : ℕ) → is_distinct xs ≡ true → AreBelow n xs → length xs ≡ n → i < n → is_among i xs ≡ true
all_named n xs i d h long lt = by (is_among i xs) refl
  where
    by : (b : Bool) → is_among i xs ≡ b → is_among i xs ≡ true
    by true e = e
    by false e = absurd (omega (arith, long, few_below n (i ∷ xs) (ap (λ b. not b && is_distinct xs) e ∙ d) (lt, h)))

parts_below : (n : ℕ) (parts : List ScanPart) → All (λ p. p.component < n) parts → AreBelow n (map (λ p. p.component) parts)
parts_below n [] all = tt
parts_below n (p ∷ parts) all = (All-head (λ p. p.component < n) p parts all, parts_below n parts (All-tail (λ p. p.component < n) p parts all))

pub head_below : (f : Frame) (head : ScanHead) → IsHead f head → AreBelow (length f.components) (head_components head)
head_below f head is = parts_below (length f.components) head.parts is.known

pub head_names : (f : Frame) (head : ScanHead) (i : ℕ) → IsHead f head → length (head_components head) ≡ length f.components → i < length f.components → is_among i (head_components head) ≡ true
head_names f head i is all lt = all_named (length f.components) (head_components head) i is.distinct (head_below f head is) all lt

-- A SCAN'S MCU ROWS, as many places in each

abbrev pub rows_down : Frame → List ℕ → ℕ
rows_down f [] = 0
rows_down f (i ∷ []) = blocks_down f (component_at f i)
rows_down f (i ∷ j ∷ more) = mcus_down f

pub units_by_row : (f : Frame) (ids : List ℕ) → units f ids ≡ first_rows f ids (rows_down f ids)
unfolding units
units_by_row f [] = refl
units_by_row f (i ∷ []) = refl
units_by_row f (i ∷ j ∷ more) = refl

flat_even : {A : Type 0} (f g : A → List Place) (xs : List A) → ((x : A) → length (f x) ≡ length (g x)) → length (flat_map f xs) ≡ length (flat_map g xs)
flat_even f g [] h = refl
flat_even f g (x ∷ xs) h = omega (arith, length-append (f x) (flat_map f xs), length-append (g x) (flat_map g xs), h x, flat_even f g xs h)

part_even : (f : Frame) (mx k i : ℕ) → length (mcu_part f mx k i) ≡ length (mcu_part f mx 0 i)
part_even f mx k i =
    let c = component_at f i in
    flat_even (λ v. map (λ h. place f i (mx * c.h + h) (k * c.v + v)) (below c.h)) (λ v. map (λ h. place f i (mx * c.h + h) (0 * c.v + v)) (below c.h)) (below c.v)
    (λ v. length-map (below c.h) (λ h. place f i (mx * c.h + h) (k * c.v + v)) ∙ sym (length-map (below c.h) (λ h. place f i (mx * c.h + h) (0 * c.v + v))))

row_even : (f : Frame) (ids : List ℕ) (k : ℕ) → length (scan_row f ids k) ≡ length (scan_row f ids 0)
row_even f [] k = refl
row_even f (i ∷ []) k =
    let w = blocks_across f (component_at f i) in
    length-map (below w) (λ x. place f i x k) ∙ sym (length-map (below w) (λ x. place f i x 0))
row_even f (i ∷ j ∷ more) k =
    flat_even (λ mx. flat_map (mcu_part f mx k) (i ∷ j ∷ more)) (λ mx. flat_map (mcu_part f mx 0) (i ∷ j ∷ more)) (below (mcus_across f))
    (λ mx. flat_even (mcu_part f mx k) (mcu_part f mx 0) (i ∷ j ∷ more) (λ i. part_even f mx k i))

pub length_rows : (f : Frame) (ids : List ℕ) (n : ℕ) → length (first_rows f ids n) ≡ n * length (scan_row f ids 0)
length_rows f ids zero = grind arith
length_rows f ids (suc n) =
    let later = length_rows f ids n in
    let here = row_even f ids n in
    let l = ap length (flat_below (scan_row f ids) n) ∙ length-append (first_rows f ids n) (scan_row f ids n) in
    let r : suc n * length (scan_row f ids 0) ≡ n * length (scan_row f ids 0) + length (scan_row f ids 0) = grind arith in
    omega (arith, later, here, l, r)

-- THEY ARE THOSE OF THE PICTURE, where all components are in the scan

factor_out : (h v : ℕ) → 1 ≤ v → div_up (h * v) v ≡ h
factor_out h v some =
    let low : h ≤ (h * v + v - 1) / v = (le-div_iff_mul-le some).1 (omega (arith, some)) in
    let near : h * v + v - 1 < (h + 1) * v = (let e : (h + 1) * v ≡ h * v + v = grind arith in omega (arith, e, some)) in
    let high : (h * v + v - 1) / v < h + 1 = (div-lt_iff_lt-mul some).1 near in
    omega (arith, low, high)

pub single_down : (height : ℕ) (cs : List Component) (i : ℕ) → length cs ≡ 1 → i < 1 → All HasFactors cs → div_up (div_up (height * (get_or cs i no_component).v) (greatest (map (λ c. c.v) cs))) 8 ≡ div_up height 8
single_down height [] i one lt all = absurd (omega (arith, one))
single_down height (c ∷ d ∷ cs) i one lt all = absurd (omega (arith, one))
single_down height (c ∷ []) (suc i) one lt all = absurd (omega (arith, lt))
single_down height (c ∷ []) zero one lt all =
    let low = (All-head HasFactors c [] all).v_low in
    let m : max c.v 0 ≡ c.v = omega arith in
    ap (λ n. div_up (div_up (height * c.v) n) 8) m ∙ ap (λ n. div_up n 8) (factor_out height c.v low)

pub picture_down : (f : Frame) (before : List Segment) (blocks : Blocks) → most_down (meaning_of f before blocks) ≡ v_max f
picture_down f before blocks =
    let M = meaning_of f before blocks in
    let same = file_numbers f before blocks in
    ap greatest (sym (by_numbers (λ n. n.2) f.components (picture_frame M).components same.components ∙ map_map (λ (c : Component). c.v) _ M.components))

pub several : (n : ℕ) → 2 ≤ n → (n == 1) ≡ false
several n h = grind (arith, nat_tests)
