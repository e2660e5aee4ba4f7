-- What a progressive scan writes of an interval is in the grammar: DC first and refined, and the bands of AC with their
-- EOB runs.
use Rattle.std.proofs.Common.{◌≡◌, ℕ, zero, suc, ◌+◌, ◌*◌, ◌/◌, ◌%◌, ◌^◌, ◌≤◌, Bool, true, false, cond, List, [], ◌∷◌, ◌++◌, length, refl, sym, ap, ◌∙◌, subst, arith, lit<, ℤ, pos, ◌==◌, ◌&&◌}
use Rattle.std.specs.Prelude.{map, flat_map, int_le, nat_abs, nat_lt, neg_ℤ, ◌+ℤ◌, ◌-ℤ◌, slice_index_or}
use Rattle.jpg_spec.proofs.Places.PlacesSome.{product_some}
use Rattle.std.proofs.lemmas.List.{length-map}
use Rattle.jpg_spec.specs.Numbers.{category, digits, extra_bits}
use Rattle.jpg_spec.specs.Elements.{Coding, UnitLeft, Standing, Element, difference, dc_bit, Covers, SpellsElement, SpellsUnits, is_zero, scaled, grown, are_in_bounds, predicted, symbol_of}
use Rattle.jpg_spec_write.specs.Sending.{correction, newly_significant, sent, shifted, divided, band_elements}
use Rattle.jpg_spec_write.specs.ScanText.{UnitDue, Owned, unit_elements}
use Rattle.jpg_spec.specs.Codes.{code_of}
use Rattle.jpg_spec.specs.declared.frame.Bounds.{Bounds}
use Rattle.jpg_spec.proofs.Basics.Small.{few_digits, some_category, AreBounds, IsAcValue, IsDc, ac_less, back}
use Rattle.jpg_spec_write.proofs.Writing.{Sends, AllSent, AllHave}
use Rattle.jpg_spec_write.proofs.Bands.{AllBands, at, flat, units_of, bands_cover}
use Rattle.jpg_spec_write.proofs.Behind.{first_found, IsChosen, AllAfterDc, covers_chosen}
use Rattle.jpg_spec.proofs.Bits.Full.{Has}
use Rattle.jpg_spec.proofs.Basics.Each.{Each}
use Rattle.jpg_spec_write.proofs.Shifts.{signed, is_below, divided_is, scaled_signed, abs_signed, shifts_less, shifts_bit, shifts_next, power_some, dc_shifted}
use Rattle.jpg_spec_write.proofs.Sequential.{dc_predicted}
use Rattle.jpg_spec.proofs.Basics.Common.{lt_of, not_lt_of, and_intro, is_true, last_bit}

-- WHAT A VALUE OF AC SENDS

abs_divided : (al : ℕ) (v : ℤ) → nat_abs (divided al v) ≡ nat_abs v / 2 ^ al
abs_divided al v = ap nat_abs (divided_is al v) ∙ abs_signed (is_below v) (nat_abs v / 2 ^ al)

known_is : (al : ℕ) (v : ℤ) → al ≤ 13 → scaled al (divided al v) ≡ signed (is_below v) (nat_abs v / 2 ^ al * 2 ^ al)
known_is al v l = ap (scaled al) (divided_is al v) ∙ scaled_signed al (is_below v) (nat_abs v / 2 ^ al) l

pub known_small : (b : Bounds) (al : ℕ) (v : ℤ) → al ≤ 13 → IsAcValue b v → IsAcValue b (scaled al (divided al v))
known_small b al v l h =
    let e = ap nat_abs (known_is al v l) ∙ abs_signed (is_below v) (nat_abs v / 2 ^ al * 2 ^ al) in
    let k = (shifts_less al l (nat_abs v)).1 in
    ac_less b v (scaled al (divided al v)) (omega (arith, e, k)) h

pub first_sends : (c : Coding) (v : ℤ) → AreBounds c.bounds → c.al ≤ 13 → c.most_category ≡ c.bounds.ac_cat → IsAcValue c.bounds v → Sends c (sent false c.al v) (pos 0) (scaled c.al (divided c.al v))
first_sends c v are l m h =
    let a = abs_divided c.al v in
    let k = (shifts_less c.al l (nat_abs v)).0 in
    let small = ac_less c.bounds v (divided c.al v) (omega (arith, a, k)) h in
    (refl, refl, λ z. (some_category (divided c.al v) z, subst (λ n. category (divided c.al v) ≤ n) (sym m) (are.values (divided c.al v) small)))

signed_some : (s : Bool) (k : ℕ) → 1 ≤ k → is_zero (signed s k) ≡ false
signed_some s zero h = absurd (omega (arith, h))
signed_some false (suc k) h = refl
signed_some true (suc k) h = refl

signed_grown : (al : ℕ) (s b : Bool) (k : ℕ) → 1 ≤ k → grown al b (signed s k) ≡ signed s (k + cond b 1 0 * 2 ^ al)
signed_grown al s b zero h = absurd (omega (arith, h))
signed_grown al false true (suc k) h = let e : suc k + 2 ^ al ≡ suc k + 1 * 2 ^ al = omega arith in ap pos e
signed_grown al true true (suc k) h = let e : suc (k + 2 ^ al) ≡ suc k + 1 * 2 ^ al = omega arith in ap (λ n. neg_ℤ (pos n)) e
signed_grown al s false (suc k) h = let e : suc k ≡ suc k + 0 * 2 ^ al = omega arith in ap (signed s) e

pub refined_sends : (c : Coding) (v : ℤ) → c.al + 1 ≤ 13 → c.most_category ≡ 1 → Sends c (sent true c.al v) (scaled (c.al + 1) (divided (c.al + 1) v)) (scaled c.al (divided c.al v))
refined_sends c v l most = by (nat_lt 1 (nat_abs v / 2 ^ c.al)) refl
  where
    al : ℕ
    al = c.al

    a : ℕ
    a = nat_abs v

    m : ℕ
    m = nat_abs v / 2 ^ c.al

    less : c.al ≤ 13
    less = omega (arith, l)

    old : scaled (c.al + 1) (divided (c.al + 1) v) ≡ signed (is_below v) (a / 2 ^ (al + 1) * 2 ^ (al + 1))
    old = known_is (c.al + 1) v l

    by : (b : Bool) → nat_lt 1 (nat_abs v / 2 ^ c.al) ≡ b → Sends c (cond b (correction (nat_abs v / 2 ^ c.al % 2 == 1)) (newly_significant (divided c.al v))) (scaled (c.al + 1) (divided (c.al + 1) v)) (scaled c.al (divided c.al v))
    by true e =
        let big : 2 ≤ m = (let k = lt_of 1 m e in omega (arith, k)) in
        let next = shifts_next al less a in
        let some : 1 ≤ a / 2 ^ (al + 1) = omega (arith, next, big) in
        let k = a / 2 ^ (al + 1) * 2 ^ (al + 1) in
        let power = power_some (al + 1) l in
        let ok : 1 ≤ k = product_some (a / 2 ^ (al + 1)) (2 ^ (al + 1)) some power in
        let bit : m * 2 ^ al ≡ k + cond (m % 2 == 1) 1 0 * 2 ^ al = shifts_bit al less a ∙ ap (λ n. k + n * 2 ^ al) (sym (last_bit m)) in (
          ap is_zero old ∙ signed_some (is_below v) k ok,
          known_is al v less ∙ ap (signed (is_below v)) bit ∙ sym (signed_grown al (is_below v) (m % 2 == 1) k ok) ∙ ap (grown al (m % 2 == 1)) (sym old),
        )
    by false e =
        let few : m ≤ 1 = not_lt_of 1 m e in
        let next = shifts_next al less a in
        let none : a / 2 ^ (al + 1) ≡ 0 = omega (arith, next, few) in
        let zero_times : 0 * 2 ^ (al + 1) ≡ 0 = omega arith in
        let z : a / 2 ^ (al + 1) * 2 ^ (al + 1) ≡ 0 = ap (λ n. n * 2 ^ (al + 1)) none ∙ zero_times in
        let abs = abs_divided al v in (
          old ∙ ap (signed (is_below v)) z ∙ zero_signed (is_below v),
          refl,
          λ y. (some_category (divided c.al v) y, subst (λ n. category (divided c.al v) ≤ n) (sym most) (few_digits 1 (nat_abs (divided c.al v)) (omega (arith, abs, few)))),
        )
      where
        zero_signed : (s : Bool) → signed s 0 ≡ pos 0
        zero_signed false = refl
        zero_signed true = refl

-- THE BANDS of an interval of one component

all_sent : (c : Coding) (r : Bool) (old new : ℤ → ℤ) → ((v : ℤ) → IsAcValue c.bounds v → Sends c (sent r c.al v) (old v) (new v)) → (vs : List ℤ) → Each (IsAcValue c.bounds) vs → AllSent c (map (sent r c.al) vs) (map old vs) (map new vs)
all_sent c r old new step [] h = (refl, refl)
all_sent c r old new step (v ∷ vs) h = (old v, map old vs, new v, map new vs, refl, refl, step v h.0, all_sent c r old new step vs h.1)

abbrev pub IsBand : Bounds → List ℤ → Type 0
IsBand b vs = (1 ≤ length vs) × Each (IsAcValue b) vs

pub all_bands : (c : Coding) (r : Bool) (old new : ℤ → ℤ) → ((v : ℤ) → IsAcValue c.bounds v → Sends c (sent r c.al v) (old v) (new v)) → (bands : List (List ℤ)) → Each (IsBand c.bounds) bands
    → AllBands c (map (map (sent r c.al)) bands) (map (map old) bands) (map (map new) bands)
all_bands c r old new step [] h = (refl, refl)
all_bands c r old new step (vs ∷ bands) h =
    let l = length-map vs (sent r c.al) in
    (map old vs, map (map old) bands, map new vs, map (map new) bands, refl, refl, omega (arith, l, (h.0).0), all_sent c r old new step vs (h.0).1, all_bands c r old new step bands h.1)

inside : (c : Coding) (new : ℤ → ℤ) → ((v : ℤ) → IsAcValue c.bounds v → int_le (pos (nat_abs (new v))) c.bounds.ac ≡ true) → (bands : List (List ℤ)) → Each (IsBand c.bounds) bands → are_in_bounds c.bounds false (flat (map (map new) bands)) ≡ true
inside c new ok [] h = refl
inside c new ok (vs ∷ bands) h = join vs (h.0).1 (inside c new ok bands h.1)
  where
    join : (vs : List ℤ) → Each (IsAcValue c.bounds) vs → are_in_bounds c.bounds false (flat (map (map new) bands)) ≡ true → are_in_bounds c.bounds false (map new vs ++ flat (map (map new) bands)) ≡ true
    join [] a later = later
    join (v ∷ vs) a later = and_intro (int_le (pos (nat_abs (new v))) c.bounds.ac) (are_in_bounds c.bounds false (map new vs ++ flat (map (map new) bands))) (ok v a.0) (join vs a.1 later)

after_all : (i : ℕ) (olds : List (List ℤ)) → AllAfterDc i (units_of i olds)
after_all i [] = tt
after_all i (o ∷ olds) = (refl, refl, after_all i olds)

pub bands_spelled : (c : Coding) (r : Bool) (i : ℕ) (old new : ℤ → ℤ) (bands : List (List ℤ)) (chosen : Element → List Bool) → ((v : ℤ) → IsAcValue c.bounds v → Sends c (sent r c.al v) (old v) (new v))
    → ((v : ℤ) → IsAcValue c.bounds v → int_le (pos (nat_abs (new v))) c.bounds.ac ≡ true) → Each (IsBand c.bounds) bands → c.most_run ≡ 14 → IsChosen (c.ac i) chosen
    → AllHave (c.ac i) (band_elements 32767 0 [] (map (map (sent r c.al)) bands))
    → SpellsUnits c (units_of i (map (map old) bands)) (flat (map (map new) bands)) (flat_map chosen (band_elements 32767 0 [] (map (map (sent r c.al)) bands)))
bands_spelled c r i old new bands chosen step ok is run first have =
    let p : ℕ → ℤ = λ i. pos 0 in
    let fits : (n : ℕ) → 1 ≤ n → n ≤ 32767 → digits n ≤ c.most_run + 1 = λ n a b. (let k = few_digits 15 n (omega (arith, b)) in omega (arith, k, run)) in
    let k = bands_cover c p i 32767 fits (map (map (sent r c.al)) bands) (map (map old) bands) (map (map new) bands) [] [] (all_bands c r old new step bands is) (lit< tt) refl have (inside c new ok bands is) in (
      band_elements 32767 0 [] (map (map (sent r c.al)) bands),
      at p [],
      covers_chosen c i chosen (at p (units_of i (map (map old) bands))) (at p []) (band_elements 32767 0 [] (map (map (sent r c.al)) bands)) (flat (map (map new) bands)) k.0 first (after_all i (map (map old) bands)) k.1,
      refl,
    )

-- DC

abbrev pub dc_new : Bool → ℕ → ℤ → ℤ → ℤ
dc_new false al o v = scaled al (shifted al v)
dc_new true al o v = o +ℤ scaled al (cond (nat_abs (shifted al v) % 2 == 1) (pos 1) (pos 0))

-- units of which only a DC value is encoded, with what is sent of them
abbrev pub DcUnits : Coding → Bool → List UnitLeft → List UnitDue → List ℤ → Type 0
DcUnits c r [] [] told = told ≡ []
DcUnits c r [] (d ∷ due) told = ⊥
DcUnits c r (u ∷ units) [] told = ⊥
DcUnits c r (u ∷ units) (d ∷ due) told =
    (o : ℤ) × (more : List ℤ) × (u.component ≡ d.0) × (u.has_dc ≡ true) × (u.old ≡ o ∷ []) × IsDc c.bounds (slice_index_or d.1 0 (pos 0)) × IsDc c.bounds (dc_new r c.al o (slice_index_or d.1 0 (pos 0)))
    × (told ≡ dc_new r c.al o (slice_index_or d.1 0 (pos 0)) ∷ more) × DcUnits c r units due more

dc_inside : (c : Coding) (v : ℤ) → IsDc c.bounds v → (b : Bool) → b ≡ true → are_in_bounds c.bounds b (v ∷ []) ≡ true
dc_inside c v d b h =
    let low : int_le c.bounds.dc_low v ≡ true = is_true (int_le c.bounds.dc_low v) (d.low).le in
    let high : int_le v c.bounds.dc_high ≡ true = is_true (int_le v c.bounds.dc_high) (d.high).le in
    ap (λ x. are_in_bounds c.bounds x (v ∷ [])) h ∙ and_intro (int_le c.bounds.dc_low v && int_le v c.bounds.dc_high) true (and_intro (int_le c.bounds.dc_low v) (int_le v c.bounds.dc_high) low high) refl

abbrev pub HasCode : Coding → Owned → Type 0
HasCode c o = Has (c.dc o.0) (symbol_of o.1)

-- first codes of differences
abbrev pub IsFirstCode : Coding → (Owned → List Bool) → Type 0
IsFirstCode c chosen = (i : ℕ) (d : ℤ) → chosen (i, difference d) ≡ code_of (c.dc i) (category d) ++ extra_bits d

due_dc : (c : Coding) (u : UnitLeft) (i : ℕ) → u.component ≡ i → u.has_dc ≡ true → cond u.has_dc (c.dc u.component) (c.ac u.component) ≡ c.dc i
due_dc c u i e h = ap (λ b. cond b (c.dc u.component) (c.ac u.component)) h ∙ ap c.dc e

pub dc_first : (c : Coding) → c.refines ≡ false → c.al ≤ c.bounds.al → AreBounds c.bounds → (chosen : Owned → List Bool) → IsFirstCode c chosen → (p : ℕ → ℤ) → ((j : ℕ) → IsDc c.bounds (p j))
    → (units : List UnitLeft) (due : List UnitDue) (told : List ℤ) → DcUnits c false units due told → Each (HasCode c) (unit_elements false false c.al p due)
    → (t : Standing) × Covers c (at p units) (map (λ (o : Owned). o.1) (unit_elements false false c.al p due)) told (flat_map chosen (unit_elements false false c.al p due)) t × (t.left ≡ [])
dc_first c r l b chosen is p dcs [] [] told h have = (at p [], (h, refl, refl), refl)
dc_first c r l b chosen is p dcs [] (d ∷ due) told h have = absurd h
dc_first c r l b chosen is p dcs (u ∷ units) [] told h have = absurd h
dc_first c r l b chosen is p dcs (u ∷ units) (d ∷ due) told h have =
    let v = slice_index_or d.1 0 (pos 0) in
    let w = shifted c.al v in
    let e = w -ℤ p d.0 in
    let dcw = dc_shifted b c.al v l h.5 in
    let cat : category e ≤ c.bounds.dc_cat = b.differences w (p d.0) dcw (dcs d.0) in
    let code = have.0 in
    let spells : SpellsElement (c.dc d.0) (difference e) (chosen (d.0, difference e)) = (code_of (c.dc d.0) (category e), first_found (c.dc d.0) (category e) code.0 code.1, is d.0 e) in
    let q = predicted p d.0 w in
    let later = dc_first c r l b chosen is q (dc_predicted c.bounds p d.0 w dcs dcw) units due h.1 h.8 have.1 in
    let there : p u.component +ℤ e ≡ w = ap (λ i. p i +ℤ e) h.2 ∙ back w (p d.0) in
    let next : q ≡ predicted p u.component (p u.component +ℤ e) = ap (λ x. (let z : ℕ → ℤ = predicted p d.0 x in z)) (sym there) ∙ ap (λ i. (let z : ℕ → ℤ = predicted p i (p u.component +ℤ e) in z)) (sym h.2) in (
      later.0,
      (
        u,
        units,
        scaled c.al w ∷ [],
        units,
        h.1,
        chosen (d.0, difference e),
        flat_map chosen (unit_elements false false c.al q due),
        refl,
        h.7,
        refl,
        subst (λ x. SpellsElement x (difference e) (chosen (d.0, difference e))) (sym (due_dc c u d.0 h.2 h.3)) spells,
        (h.0, [], h.3, r, cat, h.4, ap (λ x. scaled c.al x ∷ []) (sym there), refl),
        dc_inside c (scaled c.al w) h.6 u.has_dc h.3,
        subst (λ x. Covers c (at x units) (map (λ (o : Owned). o.1) (unit_elements false false c.al q due)) h.1 (flat_map chosen (unit_elements false false c.al q due)) later.0) next later.1,
      ),
      later.2,
    )

pub dc_refining : (c : Coding) → c.refines ≡ true → (chosen : Owned → List Bool) → ((i : ℕ) (b : Bool) → chosen (i, dc_bit b) ≡ b ∷ []) → (p q : ℕ → ℤ)
    → (units : List UnitLeft) (due : List UnitDue) (told : List ℤ) → DcUnits c true units due told
    → (t : Standing) × Covers c (at p units) (map (λ (o : Owned). o.1) (unit_elements false true c.al q due)) told (flat_map chosen (unit_elements false true c.al q due)) t × (t.left ≡ [])
dc_refining c r chosen is p q [] [] told h = (at p [], (h, refl, refl), refl)
dc_refining c r chosen is p q [] (d ∷ due) told h = absurd h
dc_refining c r chosen is p q (u ∷ units) [] told h = absurd h
dc_refining c r chosen is p q (u ∷ units) (d ∷ due) told h =
    let v = slice_index_or d.1 0 (pos 0) in
    let bit = nat_abs (shifted c.al v) % 2 == 1 in
    let later = dc_refining c r chosen is p (predicted q d.0 (shifted c.al v)) units due h.1 h.8 in (
      later.0,
      (
        u,
        units,
        dc_new true c.al h.0 v ∷ [],
        units,
        h.1,
        chosen (d.0, dc_bit bit),
        flat_map chosen (unit_elements false true c.al (predicted q d.0 (shifted c.al v)) due),
        refl,
        h.7,
        refl,
        is d.0 bit,
        (h.0, [], h.3, r, h.4, refl, refl),
        dc_inside c (dc_new true c.al h.0 v) h.6 u.has_dc h.3,
        later.1,
      ),
      later.2,
    )
