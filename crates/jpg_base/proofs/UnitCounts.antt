-- The number of units of a scan, and which unit has a given number.
use Rattle.std.proofs.Common.{◌≡◌, ℕ, zero, suc, ◌+◌, ◌-◌, ◌*◌, ◌/◌, ◌%◌, ◌<◌, ◌≤◌, List, [], ◌∷◌, ◌++◌, length, get_or, refl, sym, ap, ◌∙◌, arith, ⊎_elim}
use Rattle.std.specs.Prelude.{map, flat_map}
use Rattle.std.proofs.lemmas.List.{append-nil, length-append, length-map, get_or-append-add, get_or_append_left, get_or-map}
use Rattle.std.specs.List.{All}
use Rattle.std.proofs.lemmas.List.Elements.{All-get_or}
use Rattle.jpg_spec.specs.FrameHeader.{HasFactors}
use Rattle.std.proofs.lemmas.Nat.{mul-le}
use Rattle.std.proofs.lemmas.Bool.{cases_lt}
use Rattle.std.proofs.lemmas.List.Sums.{sum_by-cons}
use Rattle.std.proofs.Math.Nat.{suc-mul, mul_comm, mul_assoc, add-mul, add_assoc, mod-lt, div-add-mod', div-lt_iff_lt-mul}
use Rattle.std.proofs.lemmas.Grind.{flat_map-append}
use Rattle.jpg_spec.specs.Lists.{below}
use Rattle.jpg_spec.specs.Geometry.{Frame, no_component, place, mcu_part, units, component_at, blocks_across, blocks_down, mcus_across, mcus_down, factor_sum, mcu_units, scan_mcus_across}
use Rattle.jpg_spec.specs.declared.frame.Place.{Place}
use Rattle.jpg_base.specs.Cursor.{scan_mcus_down}
use Rattle.jpg_spec.proofs.Basics.Rows.{at_below}
use Rattle.jpg_spec.proofs.Basics.Common.{length_below}
use Rattle.jpg_base.proofs.ScanPlaces.{in_row}

pub length_rows : {A : Type 0} (g : ℕ → List A) (n m : ℕ) → ((k : ℕ) → length (g k) ≡ m) → length (flat_map g (below n)) ≡ n * m
length_rows g zero m each = omega arith
length_rows g (suc n) m each =
    ap length (flat_map-append g (below n) (n ∷ [])) ∙ length-append (flat_map g (below n)) (g n ++ [])
    ∙ ap (λ (k : ℕ). length (flat_map g (below n)) + k) (ap length (append-nil (g n)) ∙ each n) ∙ ap (λ (k : ℕ). k + m) (length_rows g n m each)
    ∙ omega (arith, suc-mul n m)

pub length_part : (f : Frame) (mx my i : ℕ) → length (mcu_part f mx my i) ≡ (component_at f i).h * (component_at f i).v
length_part f mx my i =
    let c = component_at f i in
    length_rows (λ v. map (λ h. place f i (mx * c.h + h) (my * c.v + v)) (below c.h)) c.v c.h (λ v. length-map (below c.h) (λ h. place f i (mx * c.h + h) (my * c.v + v)) ∙ length_below c.h) ∙ mul_comm c.v c.h

pub length_mcu : (f : Frame) (mx my : ℕ) (ids : List ℕ) → length (flat_map (mcu_part f mx my) ids) ≡ factor_sum f ids
length_mcu f mx my [] = refl
length_mcu f mx my (i ∷ ids) =
    length-append (mcu_part f mx my i) (flat_map (mcu_part f mx my) ids) ∙ ap (λ (k : ℕ). k + length (flat_map (mcu_part f mx my) ids)) (length_part f mx my i)
    ∙ ap (λ (k : ℕ). (component_at f i).h * (component_at f i).v + k) (length_mcu f mx my ids) ∙ sym (sum_by-cons (λ (j : ℕ). (component_at f j).h * (component_at f j).v) i ids)

-- the number of a scan's units
pub length_units : (f : Frame) (ids : List ℕ) → length (units f ids) ≡ scan_mcus_down f ids * (scan_mcus_across f ids * mcu_units f ids)
unfolding units
length_units f [] = refl
length_units f (i ∷ []) =
    let w = blocks_across f (component_at f i) in
    length_rows (λ y. map (λ x. place f i x y) (below w)) (blocks_down f (component_at f i)) w (λ y. length-map (below w) (λ x. place f i x y) ∙ length_below w)
    ∙ ap (λ (k : ℕ). blocks_down f (component_at f i) * k) (let e : w ≡ w * 1 = omega arith in e)
length_units f (i ∷ j ∷ more) =
    let ids = i ∷ j ∷ more in
    length_rows (λ my. flat_map (λ mx. flat_map (mcu_part f mx my) ids) (below (mcus_across f))) (mcus_down f) (mcus_across f * factor_sum f ids)
    (λ my. length_rows (λ mx. flat_map (mcu_part f mx my) ids) (mcus_across f) (factor_sum f ids) (λ mx. length_mcu f mx my ids))

-- THE UNIT OF A NUMBER

pub at_row : {A : Type 0} (g : ℕ → List A) (n m q r : ℕ) (d : A) → ((k : ℕ) → length (g k) ≡ m) → q < n → r < m → get_or (flat_map g (below n)) (q * m + r) d ≡ get_or (g q) r d
at_row g zero m q r d each lt small = absurd (omega arith)
at_row {A} g (suc n) m q r d each lt small =
    let l : length (flat_map g (below n)) ≡ n * m = length_rows g n m each in
    let last : g n ++ [] ≡ g n = append-nil (g n) in
    ap (λ (xs : List A). get_or xs (q * m + r) d) (flat_map-append g (below n) (n ∷ []))
    ∙ ⊎_elim
    (λ (h : q < n). (let in_front : q * m + r < n * m = in_row q m r n h small in
    get_or_append_left (flat_map g (below n)) (g n ++ []) d (q * m + r) (omega (arith, in_front, l)) ∙ at_row g n m q r d each h small))
    (λ (h : n ≤ q). (let e : q ≡ n = omega arith in
    let at : q * m + r ≡ length (flat_map g (below n)) + r = ap (λ (k : ℕ). k * m + r) e ∙ ap (λ (k : ℕ). k + r) (sym l) in
    ap (λ (k : ℕ). get_or (flat_map g (below n) ++ (g n ++ [])) k d) at ∙ get_or-append-add (flat_map g (below n)) (g n ++ []) r d
    ∙ ap (λ (xs : List A). get_or xs r d) last ∙ ap (λ (k : ℕ). get_or (g k) r d) (sym e)))
    (cases_lt q n)

-- a place of a grid row by row
at_row_item : {A : Type 0} (g : ℕ → A) (n r : ℕ) (d : A) → r < n → get_or (map g (below n)) r d ≡ g r
at_row_item g n r d h = get_or-map g (below n) r 0 d (omega (arith, length_below n)) ∙ ap g (at_below n r h)

part_place : (f : Frame) (mx my i k : ℕ) (d : Place) → 1 ≤ (component_at f i).h → k < (component_at f i).h * (component_at f i).v
    → get_or (mcu_part f mx my i) k d ≡ place f i (mx * (component_at f i).h + k % (component_at f i).h) (my * (component_at f i).v + k / (component_at f i).h)
part_place f mx my i k d some lt =
    let c = component_at f i in
    let q = k / c.h in let r = k % c.h in
    let e : k ≡ q * c.h + r = sym (div-add-mod' k c.h) in
    let rl : r < c.h = mod-lt k some in
    let ql : q < c.v = (div-lt_iff_lt-mul some).1 (omega (arith, lt, mul_comm c.h c.v)) in
    let g : ℕ → List Place = λ v. map (λ h. place f i (mx * c.h + h) (my * c.v + v)) (below c.h) in
    ap (λ (n : ℕ). get_or (mcu_part f mx my i) n d) e
    ∙ at_row g c.v c.h q r d (λ v. length-map (below c.h) (λ h. place f i (mx * c.h + h) (my * c.v + v)) ∙ length_below c.h) ql rl
    ∙ at_row_item (λ h. place f i (mx * c.h + h) (my * c.v + q)) c.h r d rl

-- the unit of a number in an MCU, by the parts from one on
abbrev pub mcu_from : Frame → ℕ → ℕ → List ℕ → List Place
mcu_from f mx my ids = flat_map (mcu_part f mx my) ids

pub in_part : (f : Frame) (mx my i k : ℕ) (ids : List ℕ) (d : Place) → 1 ≤ (component_at f i).h → k < (component_at f i).h * (component_at f i).v
    → get_or (mcu_from f mx my (i ∷ ids)) k d ≡ place f i (mx * (component_at f i).h + k % (component_at f i).h) (my * (component_at f i).v + k / (component_at f i).h)
in_part f mx my i k ids d some lt =
    get_or_append_left (mcu_part f mx my i) (mcu_from f mx my ids) d k (omega (arith, lt, length_part f mx my i)) ∙ part_place f mx my i k d some lt

pub after_part : (f : Frame) (mx my i k : ℕ) (ids : List ℕ) (d : Place) → (component_at f i).h * (component_at f i).v ≤ k
    → get_or (mcu_from f mx my (i ∷ ids)) k d ≡ get_or (mcu_from f mx my ids) (k - (component_at f i).h * (component_at f i).v) d
after_part f mx my i k ids d le =
    let n = (component_at f i).h * (component_at f i).v in
    let e : k ≡ length (mcu_part f mx my i) + (k - n) = omega (arith, le, length_part f mx my i) in
    ap (λ (q : ℕ). get_or (mcu_from f mx my (i ∷ ids)) q d) e ∙ get_or-append-add (mcu_part f mx my i) (mcu_from f mx my ids) (k - n) d

pub single_unit : (f : Frame) (i n : ℕ) (d : Place) → 1 ≤ blocks_across f (component_at f i) → n < length (units f (i ∷ []))
    → get_or (units f (i ∷ [])) n d ≡ place f i (n % blocks_across f (component_at f i)) (n / blocks_across f (component_at f i))
unfolding units
single_unit f i n d some lt =
    let w = blocks_across f (component_at f i) in
    let h = blocks_down f (component_at f i) in
    let q = n / w in let r = n % w in
    let l : length (units f (i ∷ [])) ≡ h * w = length_rows (λ y. map (λ x. place f i x y) (below w)) h w (λ y. length-map (below w) (λ x. place f i x y) ∙ length_below w) in
    let e : n ≡ q * w + r = sym (div-add-mod' n w) in
    let rl : r < w = mod-lt n some in
    let ql : q < h = (div-lt_iff_lt-mul some).1 (omega (arith, lt, l)) in
    ap (λ (k : ℕ). get_or (units f (i ∷ [])) k d) e
    ∙ at_row (λ y. map (λ x. place f i x y) (below w)) h w q r d (λ y. length-map (below w) (λ x. place f i x y) ∙ length_below w) ql rl
    ∙ at_row_item (λ x. place f i x q) w r d rl

pub several_unit : (f : Frame) (ids : List ℕ) (n : ℕ) (d : Place) → 2 ≤ length ids → 1 ≤ factor_sum f ids → 1 ≤ mcus_across f → n < length (units f ids)
    → get_or (units f ids) n d ≡ get_or (mcu_from f (n / factor_sum f ids % mcus_across f) (n / factor_sum f ids / mcus_across f) ids) (n % factor_sum f ids) d
unfolding units
several_unit f (i ∷ j ∷ more) n d two some wide lt =
    let ids = i ∷ j ∷ more in
    let s = factor_sum f ids in let w = mcus_across f in let h = mcus_down f in
    let m = n / s in let k = n % s in
    let row : ℕ → List Place = λ my. flat_map (λ mx. mcu_from f mx my ids) (below w) in
    let each : (my : ℕ) → length (row my) ≡ w * s = λ my. length_rows (λ mx. mcu_from f mx my ids) w s (λ mx. length_mcu f mx my ids) in
    let l : length (units f ids) ≡ h * (w * s) = length_rows row h (w * s) each in
    let kl : k < s = mod-lt n some in
    let ml : m < h * w = (div-lt_iff_lt-mul some).1 (omega (arith, lt, l, mul_assoc h w s)) in
    let xl : m % w < w = mod-lt m wide in
    let yl : m / w < h = (div-lt_iff_lt-mul wide).1 ml in
    let inner : m % w * s + k < w * s = in_row (m % w) s k w xl kl in
    let e : n ≡ m / w * (w * s) + (m % w * s + k) =
    sym (div-add-mod' n s) ∙ ap (λ (q : ℕ). q * s + k) (sym (div-add-mod' m w)) ∙ ap (λ (q : ℕ). q + k) (add-mul (m / w * w) (m % w) s)
    ∙ ap (λ (q : ℕ). (q + m % w * s) + k) (mul_assoc (m / w) w s) ∙ add_assoc (m / w * (w * s)) (m % w * s) k in
    ap (λ (q : ℕ). get_or (units f ids) q d) e
    ∙ at_row row h (w * s) (m / w) (m % w * s + k) d each yl inner
    ∙ at_row (λ mx. mcu_from f mx (m / w) ids) w s (m % w) k d (λ mx. length_mcu f mx (m / w) ids) xl kl
several_unit f few n d two some wide lt = absurd (omega (arith, two))

-- FOR THE CALL

pub some_factors : (f : Frame) (ids : List ℕ) → All HasFactors f.components → 1 ≤ length ids → All (λ i. i < length f.components) ids → 1 ≤ factor_sum f ids
some_factors f [] all some there = absurd (omega arith)
some_factors f (i ∷ ids) all some there =
    let x = All-get_or HasFactors f.components i no_component (there 0 0 (omega arith)) all in
    let one : 1 * 1 ≤ (component_at f i).h * (component_at f i).v = mul-le 1 1 (component_at f i).h (component_at f i).v x.h_low x.v_low in
    omega (arith, one, sum_by-cons (λ (j : ℕ). (component_at f j).h * (component_at f j).v) i ids)

-- bounds of the quotients
pub single_below : (f : Frame) (i n : ℕ) → n < length (units f (i ∷ [])) → n < blocks_down f (component_at f i) * blocks_across f (component_at f i)
single_below f i n lt = omega (arith, lt, length_units f (i ∷ []), (let e : blocks_across f (component_at f i) * 1 ≡ blocks_across f (component_at f i) = omega arith in ap (λ (k : ℕ). blocks_down f (component_at f i) * k) e))

pub several_below : (f : Frame) (ids : List ℕ) (n : ℕ) → 2 ≤ length ids → 1 ≤ factor_sum f ids → n < length (units f ids) → n / factor_sum f ids < mcus_down f * mcus_across f
several_below f (i ∷ j ∷ more) n two some lt =
    let ids = i ∷ j ∷ more in
    (div-lt_iff_lt-mul some).1 (omega (arith, lt, length_units f ids, mul_assoc (mcus_down f) (mcus_across f) (factor_sum f ids)))
several_below f few n two some lt = absurd (omega (arith, two))
