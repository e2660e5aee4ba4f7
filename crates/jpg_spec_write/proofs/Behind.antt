-- Coverings with further units after them, and with the codes that are chosen for them.
use Rattle.std.proofs.Common.{◌≡◌, ℕ, zero, suc, ◌≤◌, Bool, true, false, cond, List, [], ◌∷◌, ◌++◌, length, take, drop, Some, refl, sym, ap, ◌∙◌, subst, arith, ℤ, inl, inr, ◌==◌}
use Rattle.std.specs.Prelude.{◌⊎◌, flat_map, unwrap_or}
use Rattle.std.specs.List.{Contains}
use Rattle.std.proofs.lemmas.Bool.Decides.{nat_tests}
use Rattle.std.proofs.lemmas.List.{take-append-le, drop-append-le, length-append}
use Rattle.std.proofs.lemmas.List.Elements.{Contains-append_right}
use Rattle.jpg_spec.specs.Codes.{Code, first_code, code_of}
use Rattle.jpg_spec.specs.Elements.{Coding, UnitLeft, Standing, Element, difference, dc_bit, value, long_run, ends, Covers, Tells, SpellsElement, codes_due, going_on, old_values, nonzeros_in, corrected, predictions_after, symbol_of, bits_after}
use Rattle.jpg_spec_write.specs.ScanText.{is_dc}
use Rattle.jpg_spec.proofs.Bits.Levels.{contains_none, contains_cons}
use Rattle.jpg_spec.proofs.Basics.Common.{same_of, clash}

-- FURTHER UNITS AFTER

abbrev pub with_after : Standing → List UnitLeft → Standing
with_after s us = record { predictions = s.predictions; left = s.left ++ us }

going_after : (u : UnitLeft) (old : List ℤ) (units us : List UnitLeft) → going_on u old units ++ us ≡ going_on u old (units ++ us)
going_after u [] units us = refl
going_after u (o ∷ old) units us = refl

tells_after : (c : Coding) (p : ℤ) (e : Element) (u : UnitLeft) (units us : List UnitLeft) (here : List ℤ) (left : List UnitLeft) → Tells c p e u units here left → Tells c p e u (units ++ us) here (left ++ us)
tells_after c p (difference d) u units us here left t =
    (t.0, t.1, t.2, t.3, t.4, t.5, t.6, ap (λ l. l ++ us) t.7 ∙ going_after u t.1 units us)
tells_after c p (dc_bit b) u units us here left t =
    (t.0, t.1, t.2, t.3, t.4, t.5, ap (λ l. l ++ us) t.6 ∙ going_after u t.1 units us)
tells_after c p (value run v bits) u units us here left t =
    (t.0, t.1, t.2, t.3, t.4, t.5, t.6, t.7, t.8, t.9, ap (λ l. l ++ us) t.10 ∙ going_after u t.1 units us)
tells_after c p (long_run bits) u units us here left t =
    (t.0, t.1, t.2, t.3, t.4, t.5, ap (λ l. l ++ us) t.6 ∙ going_after u t.1 units us)
tells_after c p (ends bands bits) u units us here left t =
    let few : bands ≤ length (u ∷ units) = omega (arith, t.3) in
    let same : take bands (u ∷ (units ++ us)) ≡ take bands (u ∷ units) = take-append-le bands (u ∷ units) us few in
    let rest : drop bands (u ∷ (units ++ us)) ≡ drop bands (u ∷ units) ++ us = drop-append-le bands (u ∷ units) us few in (
      t.0,
      t.1,
      t.2,
      omega (arith, t.3, length-append units us),
      ap (λ l. nonzeros_in (old_values l)) same ∙ t.4,
      t.5 ∙ ap (λ l. corrected c.al (old_values l) bits) (sym same),
      ap (λ l. l ++ us) t.6 ∙ sym rest,
    )

pub covers_after : (c : Coding) (s t : Standing) (us : List UnitLeft) (es : List Element) (told : List ℤ) (bits : List Bool) → Covers c s es told bits t → Covers c (with_after s us) es told bits (with_after t us)
covers_after c s t us [] told bits k = (k.0, k.1, ap (λ z. with_after z us) k.2)
covers_after c s t us (e ∷ es) told bits k = (
  k.0,
  k.1 ++ us,
  k.2,
  k.3 ++ us,
  k.4,
  k.5,
  k.6,
  ap (λ l. l ++ us) k.7,
  k.8,
  k.9,
  k.10,
  tells_after c (s.predictions (k.0).component) e k.0 k.1 us k.2 k.3 k.11,
  k.12,
  covers_after c (record { predictions = predictions_after s.predictions (k.0).component e; left = k.3 }) t us es k.4 k.6 k.13,
)

-- CODES AS CHOSEN

-- a symbol that has a code has a first one
pub first_found : (codes : List Code) (symbol : ℕ) (code : List Bool) → Contains codes (code, symbol) → Contains codes (code_of codes symbol, symbol)
first_found [] symbol code h = absurd (contains_none (code, symbol) h)
first_found (q ∷ codes) symbol code h =
    by (q.1 == symbol) refl (contains_cons q codes (code, symbol) h) (λ k. first_found codes symbol code k)
  where
    found : q.1 ≡ symbol → Contains (q ∷ codes) (q.0, symbol)
    found e = (0, omega arith, ap (λ (n : ℕ). (let r : Code = (q.0, n) in r)) e)

    by : (b : Bool) → (q.1 == symbol) ≡ b → (q ≡ (code, symbol)) ⊎ Contains codes (code, symbol) → (Contains codes (code, symbol) → Contains codes (code_of codes symbol, symbol))
        → Contains (q ∷ codes) (unwrap_or (cond b (Some q.0) (first_code codes symbol)) [], symbol)
    by true e h ih = found (same_of q.1 symbol e)
    by false e (inl s) ih =
        let z : q.1 ≡ symbol = ap (λ (r : Code). r.1) s in
        let t : (q.1 == symbol) ≡ true = grind (arith, nat_tests) in
        absurd (clash (q.1 == symbol) t e)
    by false e (inr k) ih = Contains-append_right (q ∷ []) codes (code_of codes symbol, symbol) (ih k)

-- units of one component, whose DC isn't next
abbrev pub AllAfterDc : ℕ → List UnitLeft → Type 0
AllAfterDc i [] = Unit {0}
AllAfterDc i (u ∷ us) = (u.component ≡ i) × (u.has_dc ≡ false) × AllAfterDc i us

all_going : (i : ℕ) (u : UnitLeft) (old : List ℤ) (us : List UnitLeft) → AllAfterDc i (u ∷ us) → AllAfterDc i (going_on u old us)
all_going i u [] us a = a.2
all_going i u (o ∷ old) us a = (a.0, refl, a.2)

all_drop : (i n : ℕ) (us : List UnitLeft) → AllAfterDc i us → AllAfterDc i (drop n us)
all_drop i zero us a = a
all_drop i (suc n) [] a = tt
all_drop i (suc n) (u ∷ us) a = all_drop i n us a.2

all_after : (c : Coding) (p : ℤ) (i : ℕ) (e : Element) (u : UnitLeft) (units : List UnitLeft) (here : List ℤ) (left : List UnitLeft) → Tells c p e u units here left → AllAfterDc i (u ∷ units) → AllAfterDc i left
all_after c p i (difference d) u units here left t a = subst (λ l. AllAfterDc i l) (sym t.7) (all_going i u t.1 units a)
all_after c p i (dc_bit b) u units here left t a = subst (λ l. AllAfterDc i l) (sym t.6) (all_going i u t.1 units a)
all_after c p i (value run v bits) u units here left t a = subst (λ l. AllAfterDc i l) (sym t.10) (all_going i u t.1 units a)
all_after c p i (long_run bits) u units here left t a = subst (λ l. AllAfterDc i l) (sym t.6) (all_going i u t.1 units a)
all_after c p i (ends bands bits) u units here left t a = subst (λ l. AllAfterDc i l) (sym t.6) (all_drop i bands (u ∷ units) a)

-- the bits of an element of AC: the first code of its symbol, and the bits after it
abbrev pub IsChosen : List Code → (Element → List Bool) → Type 0
IsChosen codes chosen = (e : Element) → is_dc e ≡ false → chosen e ≡ code_of codes (symbol_of e) ++ bits_after e

due_codes : (c : Coding) (i : ℕ) (u : UnitLeft) → u.component ≡ i → u.has_dc ≡ false → codes_due c u ≡ c.ac i
due_codes c i u e f = ap (λ b. cond b (c.dc u.component) (c.ac u.component)) f ∙ ap c.ac e

module _ (c : Coding) (p : ℤ) (codes : List Code) (chosen : Element → List Bool) where
  chosen_spells : (e : Element) (u : UnitLeft) (units : List UnitLeft) (here : List ℤ) (left : List UnitLeft) (front : List Bool)
      → IsChosen codes chosen → u.has_dc ≡ false → Tells c p e u units here left → SpellsElement codes e front → SpellsElement codes e (chosen e)
  chosen_spells (difference d) u units here left front is f t s = absurd (clash u.has_dc t.2 f)
  chosen_spells (dc_bit b) u units here left front is f t s = absurd (clash u.has_dc t.2 f)
  chosen_spells (value run v bits) u units here left front is f t s =
      (code_of codes (symbol_of (value run v bits)), first_found codes (symbol_of (value run v bits)) s.0 s.1, is (value run v bits) refl)
  chosen_spells (long_run bits) u units here left front is f t s =
      (code_of codes (symbol_of (long_run bits)), first_found codes (symbol_of (long_run bits)) s.0 s.1, is (long_run bits) refl)
  chosen_spells (ends bands bits) u units here left front is f t s =
      (code_of codes (symbol_of (ends bands bits)), first_found codes (symbol_of (ends bands bits)) s.0 s.1, is (ends bands bits) refl)

pub covers_chosen : (c : Coding) (i : ℕ) (chosen : Element → List Bool) (s t : Standing) (es : List Element) (told : List ℤ) (bits : List Bool) → IsChosen (c.ac i) chosen → AllAfterDc i s.left
    → Covers c s es told bits t → Covers c s es told (flat_map chosen es) t
covers_chosen c i chosen s t [] told bits is a k = (k.0, refl, k.2)
covers_chosen c i chosen s t (e ∷ es) told bits is a k =
    let all : AllAfterDc i (k.0 ∷ k.1) = subst (λ l. AllAfterDc i l) k.7 a in
    let due : codes_due c k.0 ≡ c.ac i = due_codes c i k.0 all.0 all.1 in
    let spells : SpellsElement (codes_due c k.0) e (chosen e) =
    subst (λ q. SpellsElement q e (chosen e)) (sym due)
    (chosen_spells c (s.predictions (k.0).component) (c.ac i) chosen e k.0 k.1 k.2 k.3 k.5 is all.1 k.11 (subst (λ q. SpellsElement q e k.5) due k.10)) in (
      k.0,
      k.1,
      k.2,
      k.3,
      k.4,
      chosen e,
      flat_map chosen es,
      k.7,
      k.8,
      refl,
      spells,
      k.11,
      k.12,
      covers_chosen c i chosen (record { predictions = predictions_after s.predictions (k.0).component e; left = k.3 }) t es k.4 k.6 is (all_after c (s.predictions (k.0).component) i e k.0 k.1 k.2 k.3 k.11 all) k.13,
    )
