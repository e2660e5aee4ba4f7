-- What one more value does to the zeros, the corrections and the bounds of a band.
use Rattle.std.proofs.Common.{◌≡◌, ◌+◌, Bool, List, [], ◌∷◌, ◌++◌, sym, ap, ◌∙◌, subst, arith, ℤ, ℕ, zero, suc, true, false, cond, length, refl, pos, negsuc}
use Rattle.std.proofs.lemmas.List.{append_assoc}
use Rattle.jpg_spec.specs.Elements.{Coding, Standing, Element, Covers, nonzeros_in, UnitLeft, zeros_in, is_zero, grown, corrected, going_on, are_in_bounds}
use Rattle.std.specs.Prelude.{int_le, nat_abs}
use Rattle.jpg_spec.proofs.Basics.Common.{both, and_intro}

-- one covering after another
pub covers_then : (c : Coding) (s m t : Standing) (es es' : List Element) (told told' : List ℤ) (bits bits' : List Bool) → Covers c s es told bits m → Covers c m es' told' bits' t → Covers c s (es ++ es') (told ++ told') (bits ++ bits') t
covers_then c s m t [] es' told told' bits bits' k l =
    subst (λ x. Covers c x es' (told ++ told') (bits ++ bits') t) k.2
    (subst (λ x. Covers c m es' (x ++ told') (bits ++ bits') t) (sym k.0) (subst (λ x. Covers c m es' told' (x ++ bits') t) (sym k.1) l))
covers_then c s m t (e ∷ es) es' told told' bits bits' k l = (
  k.0,
  k.1,
  k.2,
  k.3,
  k.4 ++ told',
  k.5,
  k.6 ++ bits',
  k.7,
  ap (λ x. x ++ told') k.8 ∙ append_assoc k.2 k.4 told',
  ap (λ x. x ++ bits') k.9 ∙ append_assoc k.5 k.6 bits',
  k.10,
  k.11,
  k.12,
  covers_then c (record { predictions = _; left = k.3 }) m t es es' k.4 told' k.6 bits' k.13 l,
)

pub nonzeros-append : (a b : List ℤ) → nonzeros_in (a ++ b) ≡ nonzeros_in a + nonzeros_in b
nonzeros-append [] b = omega arith
nonzeros-append (o ∷ a) b = omega (arith, nonzeros-append a b)

pub zeros_push : (pre : List ℤ) (o : ℤ) → zeros_in (pre ++ o ∷ []) ≡ zeros_in pre + (cond (is_zero o) 1 0)
zeros_push [] o = omega arith
zeros_push (p ∷ pre) o = omega (arith, zeros_push pre o)

pub nonzeros_push : (pre : List ℤ) (o : ℤ) → nonzeros_in (pre ++ o ∷ []) ≡ nonzeros_in pre + (cond (is_zero o) 0 1)
nonzeros_push [] o = omega arith
nonzeros_push (p ∷ pre) o = omega (arith, nonzeros_push pre o)

-- a further correction, and a further zero
pub corrected_push : (al : ℕ) (pre : List ℤ) (cs : List Bool) (o : ℤ) (b : Bool) → is_zero o ≡ false → nonzeros_in pre ≡ length cs → corrected al (pre ++ o ∷ []) (cs ++ b ∷ []) ≡ corrected al pre cs ++ grown al b o ∷ []
corrected_push al [] [] o b z n = ap (λ t. cond t (o ∷ []) (grown al b o ∷ [])) z
corrected_push al [] (x ∷ cs) o b z n = let f : ⊥ = omega arith in absurd f
corrected_push al (pos zero ∷ pre) [] o b z n = ap (λ t. pos zero ∷ t) (corrected_push al pre [] o b z (omega arith))
corrected_push al (pos zero ∷ pre) (x ∷ cs) o b z n = ap (λ t. pos zero ∷ t) (corrected_push al pre (x ∷ cs) o b z (omega arith))
corrected_push al (pos (suc m) ∷ pre) [] o b z n = let f : ⊥ = omega arith in absurd f
corrected_push al (pos (suc m) ∷ pre) (x ∷ cs) o b z n = ap (λ t. grown al x (pos (suc m)) ∷ t) (corrected_push al pre cs o b z (omega arith))
corrected_push al (negsuc m ∷ pre) [] o b z n = let f : ⊥ = omega arith in absurd f
corrected_push al (negsuc m ∷ pre) (x ∷ cs) o b z n = ap (λ t. grown al x (negsuc m) ∷ t) (corrected_push al pre cs o b z (omega arith))

pub corrected_zero : (al : ℕ) (pre : List ℤ) (cs : List Bool) → nonzeros_in pre ≡ length cs → corrected al (pre ++ pos 0 ∷ []) cs ≡ corrected al pre cs ++ pos 0 ∷ []
corrected_zero al [] [] n = refl
corrected_zero al [] (x ∷ cs) n = refl
corrected_zero al (pos zero ∷ pre) [] n = ap (λ t. pos zero ∷ t) (corrected_zero al pre [] (omega arith))
corrected_zero al (pos zero ∷ pre) (x ∷ cs) n = ap (λ t. pos zero ∷ t) (corrected_zero al pre (x ∷ cs) (omega arith))
corrected_zero al (pos (suc m) ∷ pre) [] n = let f : ⊥ = omega arith in absurd f
corrected_zero al (pos (suc m) ∷ pre) (x ∷ cs) n = ap (λ t. grown al x (pos (suc m)) ∷ t) (corrected_zero al pre cs (omega arith))
corrected_zero al (negsuc m ∷ pre) [] n = let f : ⊥ = omega arith in absurd f
corrected_zero al (negsuc m ∷ pre) (x ∷ cs) n = ap (λ t. grown al x (negsuc m) ∷ t) (corrected_zero al pre cs (omega arith))

pub bounds_split : (c : Coding) (a b : List ℤ) → are_in_bounds c.bounds false (a ++ b) ≡ true → (are_in_bounds c.bounds false a ≡ true) × (are_in_bounds c.bounds false b ≡ true)
bounds_split c [] b h = (refl, h)
bounds_split c (v ∷ a) b h =
    let k = both (int_le (pos (nat_abs v)) c.bounds.ac) (are_in_bounds c.bounds false (a ++ b)) h in
    let r = bounds_split c a b k.1 in
    (and_intro (int_le (pos (nat_abs v)) c.bounds.ac) (are_in_bounds c.bounds false a) k.0 r.0, r.1)

pub going_same : (u v : UnitLeft) → u.component ≡ v.component → (l : List ℤ) (us : List UnitLeft) → going_on u l us ≡ going_on v l us
going_same u v e [] us = refl
going_same u v e (o ∷ l) us = ap (λ k. (let w : UnitLeft = record { component = k; has_dc = false; old = o ∷ l } in w ∷ us)) e
