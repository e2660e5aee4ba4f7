-- WHAT GIVEN ELEMENTS ENCODE, as functions next to the relation Tells: the values that they skip and encode, and the
-- units that they leave.
use Rattle.std.proofs.Common.{◌≡◌, ◌<◌, refl, sym, ap, ◌∙◌, arith, negsuc}
use Rattle.std.specs.Prelude.{ℕ, zero, suc, ◌+◌, Bool, nat_lt, if◌then◌else◌, List, [], ◌∷◌, ◌++◌, length, take, drop, ℤ, pos, ◌+ℤ◌, slice_index_or}
use Rattle.jpg_spec.specs.Elements.{Coding, UnitLeft, Element, difference, dc_bit, value, long_run, ends, zeros_in, is_zero, scaled, corrected, going_on, old_values}

-- the values before the (run + 1)th zero
abbrev pub before_zero : ℕ → List ℤ → List ℤ
before_zero run [] = []
before_zero zero (o ∷ old) = if is_zero o then [] else o ∷ before_zero zero old
before_zero (suc run) (o ∷ old) = if is_zero o then o ∷ before_zero run old else o ∷ before_zero (suc run) old

abbrev pub after_zero : ℕ → List ℤ → List ℤ
after_zero run old = drop (length (before_zero run old) + 1) old

-- a ZRL skips sixteen zeros, or the rest of a band that has fewer
abbrev pub is_short : UnitLeft → Bool
is_short u = nat_lt (zeros_in u.old) 16

abbrev pub long_passed : UnitLeft → List ℤ
long_passed u = if is_short u then u.old else before_zero 15 u.old ++ pos 0 ∷ []

abbrev pub long_left : UnitLeft → List ℤ
long_left u = if is_short u then [] else after_zero 15 u.old

abbrev pub values_told : Coding → ℤ → Element → UnitLeft → List UnitLeft → List ℤ
values_told c prediction (difference d) u units = scaled c.al (prediction +ℤ d) ∷ []
values_told c prediction (dc_bit b) u units = (slice_index_or u.old 0 (pos 0) +ℤ scaled c.al (if b then pos 1 else pos 0)) ∷ []
values_told c prediction (value run v bits) u units = corrected c.al (before_zero run u.old) bits ++ scaled c.al v ∷ []
values_told c prediction (long_run bits) u units = corrected c.al (long_passed u) bits
values_told c prediction (ends bands bits) u units = corrected c.al (old_values (take bands (u ∷ units))) bits

abbrev pub units_after : Element → UnitLeft → List UnitLeft → List UnitLeft
units_after (difference d) u units = going_on u (drop 1 u.old) units
units_after (dc_bit b) u units = going_on u (drop 1 u.old) units
units_after (value run v bits) u units = going_on u (after_zero run u.old) units
units_after (long_run bits) u units = going_on u (long_left u) units
units_after (ends bands bits) u units = drop bands (u ∷ units)

after_step : (o : ℤ) (n : ℕ) (old : List ℤ) → drop (suc n + 1) (o ∷ old) ≡ drop (n + 1) old
after_step o n old = let e : suc n + 1 ≡ suc (n + 1) = omega arith in ap (λ k. drop k (o ∷ old)) e

-- the value at the (run + 1)th zero
pub at_zero : (run : ℕ) (old : List ℤ) → run < zeros_in old → (old ≡ before_zero run old ++ pos 0 ∷ after_zero run old) × (zeros_in (before_zero run old) ≡ run)
at_zero run [] h = let f : ⊥ = omega arith in absurd f
at_zero zero (pos zero ∷ old) h = (refl, refl)
at_zero zero (pos (suc n) ∷ old) h =
    let r = at_zero zero old (omega arith) in
    (ap (λ xs. pos (suc n) ∷ xs) r.0 ∙ ap (λ t. pos (suc n) ∷ before_zero zero old ++ pos 0 ∷ t) (sym (after_step (pos (suc n)) (length (before_zero zero old)) old)), omega (arith, r.1))
at_zero zero (negsuc n ∷ old) h =
    let r = at_zero zero old (omega arith) in
    (ap (λ xs. negsuc n ∷ xs) r.0 ∙ ap (λ t. negsuc n ∷ before_zero zero old ++ pos 0 ∷ t) (sym (after_step (negsuc n) (length (before_zero zero old)) old)), omega (arith, r.1))
at_zero (suc run) (pos zero ∷ old) h =
    let r = at_zero run old (omega arith) in
    (ap (λ xs. pos zero ∷ xs) r.0 ∙ ap (λ t. pos zero ∷ before_zero run old ++ pos 0 ∷ t) (sym (after_step (pos zero) (length (before_zero run old)) old)), omega (arith, r.1))
at_zero (suc run) (pos (suc n) ∷ old) h =
    let r = at_zero (suc run) old (omega arith) in
    (ap (λ xs. pos (suc n) ∷ xs) r.0 ∙ ap (λ t. pos (suc n) ∷ before_zero (suc run) old ++ pos 0 ∷ t) (sym (after_step (pos (suc n)) (length (before_zero (suc run) old)) old)), omega (arith, r.1))
at_zero (suc run) (negsuc n ∷ old) h =
    let r = at_zero (suc run) old (omega arith) in
    (ap (λ xs. negsuc n ∷ xs) r.0 ∙ ap (λ t. negsuc n ∷ before_zero (suc run) old ++ pos 0 ∷ t) (sym (after_step (negsuc n) (length (before_zero (suc run) old)) old)), omega (arith, r.1))
