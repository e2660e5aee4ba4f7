-- What the elements of a scan encode are multiples of 2 ^ al, if the values before it were multiples of 2 ^ (al + 1).
use Rattle.std.proofs.Common.{◌≡◌, ℕ, zero, suc, ◌+◌, ◌*◌, ◌^◌, Bool, true, false, cond, List, [], ◌∷◌, ◌++◌, take, drop, refl, sym, ap, ◌∙◌, subst, arith, add-one, ℤ, pos, negsuc, neg_ℤ, ◌+ℤ◌, ◌*ℤ◌, ⊎_elim}
use Rattle.std.specs.Prelude.{nat_abs}
use Rattle.std.proofs.lemmas.Int.{ints}
use Rattle.std.proofs.Math.Nat.{pow-succ'}
use Rattle.std.proofs.Math.IntN.{pos-*ℤ-pos, negsuc-*ℤ-pos}
use Rattle.jpg_spec.specs.Elements.{Element, difference, dc_bit, value, long_run, ends, Coding, UnitLeft, Standing, Covers, Tells, is_zero, grown, corrected, scaled, old_values, going_on, predictions_after}
use Rattle.jpg_prog_read.specs.Known.{IsMultiple, AreMultiples}
use Rattle.jpg_spec.proofs.Basics.Common.{neg_abs}

double : (al : ℕ) → 2 ^ (al + 1) ≡ 2 * 2 ^ al
double al = ap (λ k. 2 ^ k) (add-one al) ∙ pow-succ' 2 al

pub multiple_down : (al : ℕ) (v : ℤ) → IsMultiple (al + 1) v → IsMultiple al v
multiple_down al v (m, e) = (2 * m, e ∙ ap (λ p. m * p) (double al) ∙ omega arith)

grown_size : (al : ℕ) (o : ℤ) → nat_abs (grown al true o) ≡ nat_abs o + 2 ^ al
grown_size al (pos n) = refl
grown_size al (negsuc n) = omega arith

odd : (m p : ℕ) → m * (2 * p) + p ≡ (2 * m + 1) * p
odd m p = omega arith

grown_multiple : (al : ℕ) (b : Bool) (o : ℤ) → IsMultiple (al + 1) o → IsMultiple al (grown al b o)
grown_multiple al false o h = multiple_down al o h
grown_multiple al true o (m, e) = (2 * m + 1, grown_size al o ∙ ap (λ k. k + 2 ^ al) (e ∙ ap (λ p. m * p) (double al)) ∙ odd m (2 ^ al))

pub corrected_multiples : (al : ℕ) (old : List ℤ) (bits : List Bool) → AreMultiples (al + 1) old → AreMultiples al (corrected al old bits)
corrected_multiples al [] bits h = h
corrected_multiples al (o ∷ old) [] h = (multiple_down al o h.0, corrected_multiples al old [] h.1)
corrected_multiples al (o ∷ old) (b ∷ bits) h = by (is_zero o) (corrected_multiples al old (b ∷ bits) h.1) (corrected_multiples al old bits h.1)
  where
    by : (z : Bool) → AreMultiples al (corrected al old (b ∷ bits)) → AreMultiples al (corrected al old bits) → AreMultiples al (cond z (o ∷ corrected al old (b ∷ bits)) (grown al b o ∷ corrected al old bits))
    by true k l = (multiple_down al o h.0, k)
    by false k l = (grown_multiple al b o h.0, l)

pub scaled_multiple : (al : ℕ) (v : ℤ) → IsMultiple al (scaled al v)
scaled_multiple al (pos n) = (n, ap nat_abs (pos-*ℤ-pos n (2 ^ al)))
scaled_multiple al (negsuc n) = (suc n, ap nat_abs (negsuc-*ℤ-pos n (2 ^ al)) ∙ neg_abs (suc n * 2 ^ al))

pub one_scaled : (n : ℕ) → pos 1 *ℤ pos n ≡ pos n
one_scaled n = pos-*ℤ-pos 1 n ∙ ap pos (omega arith)

zero_scaled : (n : ℕ) → pos 0 *ℤ pos n ≡ pos 0
zero_scaled n = pos-*ℤ-pos 0 n ∙ ap pos (omega arith)

bit_multiple : (al : ℕ) (b : Bool) (o : ℤ) → IsMultiple (al + 1) o → IsMultiple al (o +ℤ scaled al (cond b (pos 1) (pos 0)))
bit_multiple al false o h = let e : o +ℤ pos 0 ≡ o = omega (arith, ints) in
    subst (λ (x : ℤ). IsMultiple al x) (sym (ap (λ (x : ℤ). o +ℤ x) (zero_scaled (2 ^ al)) ∙ e)) (multiple_down al o h)
bit_multiple al true (pos n) (m, e) =
    subst (λ (x : ℤ). IsMultiple al x) (sym (ap (λ (x : ℤ). pos n +ℤ x) (one_scaled (2 ^ al)))) (2 * m + 1, ap (λ k. k + 2 ^ al) (e ∙ ap (λ p. m * p) (double al)) ∙ odd m (2 ^ al))
bit_multiple al true (negsuc n) (m, e) =
    let f : n + 1 ≡ m * (2 * 2 ^ al) = add-one n ∙ e ∙ ap (λ p. m * p) (double al) in
    subst (λ (x : ℤ). IsMultiple al x) (sym (ap (λ (x : ℤ). negsuc n +ℤ x) (one_scaled (2 ^ al)))) (below n m (2 ^ al) f)
  where
    below : (n m p : ℕ) → n + 1 ≡ m * (2 * p) → (k : ℕ) × (nat_abs (negsuc n +ℤ pos p) ≡ k * p)
    below n zero p f = absurd (omega (arith, f))
    below n (suc m) p f =
        let g : n + 1 ≡ (2 * m + 1) * p + p = f ∙ omega arith in
        let v : negsuc n +ℤ pos p ≡ neg_ℤ (pos ((2 * m + 1) * p)) = omega (arith, ints, g) in
        (2 * m + 1, ap nat_abs v ∙ neg_abs ((2 * m + 1) * p))

pub multiples_join : (al : ℕ) (xs ys : List ℤ) → AreMultiples al xs → AreMultiples al ys → AreMultiples al (xs ++ ys)
multiples_join al [] ys h k = k
multiples_join al (x ∷ xs) ys h k = (h.0, multiples_join al xs ys h.1 k)

pub multiples_split : (al : ℕ) (xs ys : List ℤ) → AreMultiples al (xs ++ ys) → AreMultiples al xs × AreMultiples al ys
multiples_split al [] ys h = (tt, h)
multiples_split al (x ∷ xs) ys h = (let r = multiples_split al xs ys h.1 in ((h.0, r.0), r.1))

going_multiples : (al : ℕ) (u : UnitLeft) (old : List ℤ) (units : List UnitLeft) → AreMultiples al old → AreMultiples al (old_values units) → AreMultiples al (old_values (going_on u old units))
going_multiples al u [] units h k = k
going_multiples al u (o ∷ old) units h k = multiples_join al (o ∷ old) (old_values units) h k

take_multiples : (al n : ℕ) (units : List UnitLeft) → AreMultiples al (old_values units) → AreMultiples al (old_values (take n units)) × AreMultiples al (old_values (drop n units))
take_multiples al zero units h = (tt, h)
take_multiples al (suc n) [] h = (tt, tt)
take_multiples al (suc n) (u ∷ units) h =
    let s = multiples_split al u.old (old_values units) h in
    let r = take_multiples al n units s.1 in
    (multiples_join al u.old (old_values (take n units)) s.0 r.0, r.1)

tells_multiples : (c : Coding) (q : ℤ) (e : Element) (u : UnitLeft) (units : List UnitLeft) (told : List ℤ) (left : List UnitLeft) → Tells c q e u units told left → AreMultiples (c.al + 1) (u.old ++ old_values units)
    → AreMultiples c.al told × AreMultiples (c.al + 1) (old_values left)
tells_multiples c q (difference d) u units told left t h =
    let s = multiples_split (c.al + 1) u.old (old_values units) h in
    let o : AreMultiples (c.al + 1) (t.0 ∷ t.1) = subst (λ l. AreMultiples (c.al + 1) l) t.5 s.0 in (
      subst (λ l. AreMultiples c.al l) (sym t.6) (scaled_multiple c.al (q +ℤ d), tt),
      subst (λ l. AreMultiples (c.al + 1) (old_values l)) (sym t.7) (going_multiples (c.al + 1) u t.1 units o.1 s.1),
    )
tells_multiples c q (dc_bit b) u units told left t h =
    let s = multiples_split (c.al + 1) u.old (old_values units) h in
    let o : AreMultiples (c.al + 1) (t.0 ∷ t.1) = subst (λ l. AreMultiples (c.al + 1) l) t.4 s.0 in (
      subst (λ l. AreMultiples c.al l) (sym t.5) (bit_multiple c.al b t.0 o.0, tt),
      subst (λ l. AreMultiples (c.al + 1) (old_values l)) (sym t.6) (going_multiples (c.al + 1) u t.1 units o.1 s.1),
    )
tells_multiples c q (value run v bits) u units told left t h =
    let s = multiples_split (c.al + 1) u.old (old_values units) h in
    let o = multiples_split (c.al + 1) t.0 (pos 0 ∷ t.1) (subst (λ l. AreMultiples (c.al + 1) l) t.6 s.0) in (
      subst (λ l. AreMultiples c.al l) (sym t.9) (multiples_join c.al (corrected c.al t.0 bits) (scaled c.al v ∷ []) (corrected_multiples c.al t.0 bits o.0) (scaled_multiple c.al v, tt)),
      subst (λ l. AreMultiples (c.al + 1) (old_values l)) (sym t.10) (going_multiples (c.al + 1) u t.1 units o.1.1 s.1),
    )
tells_multiples c q (long_run bits) u units told left t h =
    let s = multiples_split (c.al + 1) u.old (old_values units) h in
    let o : AreMultiples (c.al + 1) t.0 × AreMultiples (c.al + 1) t.1 = ⊎_elim
    (λ (x : (f : List ℤ) × (u.old ≡ f ++ pos 0 ∷ t.1) × _ × (t.0 ≡ f ++ pos 0 ∷ [])).
    (let r = multiples_split (c.al + 1) x.0 (pos 0 ∷ t.1) (subst (λ l. AreMultiples (c.al + 1) l) x.1 s.0) in
    (subst (λ l. AreMultiples (c.al + 1) l) (sym x.3) (multiples_join (c.al + 1) x.0 (pos 0 ∷ []) r.0 (r.1.0, tt)), r.1.1)))
    (λ (x : (u.old ≡ t.0) × _ × (t.1 ≡ [])). (subst (λ l. AreMultiples (c.al + 1) l) x.0 s.0, subst (λ l. AreMultiples (c.al + 1) l) (sym x.2) tt))
    t.3 in (
      subst (λ l. AreMultiples c.al l) (sym t.5) (corrected_multiples c.al t.0 bits o.0),
      subst (λ l. AreMultiples (c.al + 1) (old_values l)) (sym t.6) (going_multiples (c.al + 1) u t.1 units o.1 s.1),
    )
tells_multiples c q (ends bands bits) u units told left t h =
    let r = take_multiples (c.al + 1) bands (u ∷ units) h in (
      subst (λ l. AreMultiples c.al l) (sym t.5) (corrected_multiples c.al (old_values (take bands (u ∷ units))) bits r.0),
      subst (λ l. AreMultiples (c.al + 1) (old_values l)) (sym t.6) r.1,
    )

-- THE LAW
pub covers_multiples : (c : Coding) (s t : Standing) (es : List Element) (told : List ℤ) (bits : List Bool) → AreMultiples (c.al + 1) (old_values s.left) → Covers c s es told bits t → AreMultiples c.al told
covers_multiples c s t [] told bits h k = subst (λ l. AreMultiples c.al l) (sym k.0) tt
covers_multiples c s t (e ∷ es) told bits h k =
    let r = tells_multiples c (s.predictions (k.0).component) e k.0 k.1 k.2 k.3 k.11 (subst (λ l. AreMultiples (c.al + 1) (old_values l)) k.7 h) in
    subst (λ l. AreMultiples c.al l) (sym k.8) (multiples_join c.al k.2 k.4 r.0 (covers_multiples c (record { predictions = predictions_after s.predictions (k.0).component e; left = k.3 }) t es k.4 k.6 r.1 k.13))
