-- An element encodes as many values of a unit as it takes from it, all in the bounds; and so are blocks that are
-- mirrored.
use Rattle.std.proofs.Common.{◌≡◌, ℕ, zero, suc, ◌+◌, ◌%◌, ◌^◌, ◌<◌, ◌≤◌, Bool, true, false, cond, List, [], ◌∷◌, ◌++◌, length, take, drop, refl, sym, ap, ◌∙◌, subst, arith, inl, inr, lit<, ℤ, pos, negsuc, ◌==◌, ◌&&◌}
use Rattle.std.specs.Prelude.{◌⊎◌, int_le, nat_abs, neg_ℤ}
use Rattle.std.proofs.Math.Nat.{pow-le-pow_right}
use Rattle.std.proofs.lemmas.List.{append_assoc, append-nil, length-append}
use Rattle.jpg_spec.specs.Numbers.{digits}
use Rattle.jpg_spec.specs.Elements.{Coding, UnitLeft, Element, difference, dc_bit, value, long_run, ends, Tells, going_on, old_values, corrected, is_zero, grown, scaled, zeros_in, are_in_bounds}
use Rattle.jpg_spec.specs.declared.frame.Bounds.{Bounds}
use Rattle.jpg_spec.proofs.Basics.Facts.{below_digits}
use Rattle.jpg_spec.proofs.Writing.MirroredBlocks.{mirror_at}
use Rattle.jpg_spec.proofs.Basics.Common.{both, and_intro, bounds_join}

-- JOINED VALUES

join_dc : (c : Coding) (v : ℤ) (more : List ℤ) → are_in_bounds c.bounds true (v ∷ []) ≡ true → are_in_bounds c.bounds false more ≡ true → are_in_bounds c.bounds true (v ∷ more) ≡ true
join_dc c v more h k =
    let b = both (int_le c.bounds.dc_low v && int_le v c.bounds.dc_high) true h in
    and_intro (int_le c.bounds.dc_low v && int_le v c.bounds.dc_high) (are_in_bounds c.bounds false more) b.0 k

-- what is encoded of a unit so far may be followed by values in the bounds
Joins : Coding → Bool → List ℤ → Type 0
Joins c has_dc here = (more : List ℤ) → are_in_bounds c.bounds false more ≡ true → are_in_bounds c.bounds has_dc (here ++ more) ≡ true

joins_rest : (c : Coding) (has_dc : Bool) (here : List ℤ) → has_dc ≡ false → are_in_bounds c.bounds has_dc here ≡ true → Joins c has_dc here
unfolding Joins
joins_rest c has_dc here e h = λ more k. (let f : are_in_bounds c.bounds false here ≡ true = subst (λ b. are_in_bounds c.bounds b here ≡ true) e h in
    subst (λ b. are_in_bounds c.bounds b (here ++ more) ≡ true) (sym e) (bounds_join c here more f k))

joins_dc : (c : Coding) (has_dc : Bool) (here : List ℤ) (v : ℤ) → has_dc ≡ true → here ≡ v ∷ [] → are_in_bounds c.bounds has_dc here ≡ true → Joins c has_dc here
unfolding Joins
joins_dc c has_dc here v e s h = λ more k. (let f : are_in_bounds c.bounds true (v ∷ []) ≡ true = subst (λ x. are_in_bounds c.bounds true x ≡ true) s (subst (λ b. are_in_bounds c.bounds b here ≡ true) e h) in
    subst (λ b. are_in_bounds c.bounds b (here ++ more) ≡ true) (sym e) (subst (λ x. are_in_bounds c.bounds true (x ++ more) ≡ true) (sym s) (join_dc c v more f k)))

-- EACH UNIT has as many values as it had before, in the bounds

abbrev pub AreWithin : Coding → List UnitLeft → List ℤ → Type 0
AreWithin c [] told = told ≡ []
AreWithin c (u ∷ units) told = (here : List ℤ) × (more : List ℤ) × (told ≡ here ++ more) × (length here ≡ length u.old) × (are_in_bounds c.bounds u.has_dc here ≡ true) × AreWithin c units more

going : (c : Coding) (u : UnitLeft) (old : List ℤ) (units : List UnitLeft) (here more : List ℤ) → length u.old ≡ length here + length old → Joins c u.has_dc here
    → AreWithin c (going_on u old units) more → AreWithin c (u ∷ units) (here ++ more)
unfolding Joins
going c u [] units here more l join w = (here ++ [], more, ap (λ t. t ++ more) (sym (append-nil here)), omega (arith, l, length-append here []), join [] refl, w)
going c u (o ∷ old) units here more l join w =
    (here ++ w.0, w.1, ap (λ t. here ++ t) w.2 ∙ sym (append_assoc here w.0 w.1), omega (arith, l, length-append here w.0, w.3), join w.0 w.4, w.5)

pub length_corrected : (al : ℕ) (old : List ℤ) (bits : List Bool) → length (corrected al old bits) ≡ length old
length_corrected al [] bits = refl
length_corrected al (o ∷ old) [] = ap suc (length_corrected al old [])
length_corrected al (o ∷ old) (b ∷ bits) = by (is_zero o) (length_corrected al old (b ∷ bits)) (length_corrected al old bits)
  where
    by : (z : Bool) → length (corrected al old (b ∷ bits)) ≡ length old → length (corrected al old bits) ≡ length old → length (cond z (o ∷ corrected al old (b ∷ bits)) (grown al b o ∷ corrected al old bits)) ≡ suc (length old)
    by true e f = ap suc e
    by false e f = ap suc f

pub one_band : (bands : ℕ) → 1 ≤ bands → digits bands ≤ 1 → bands ≡ 1
one_band bands h k =
    let p : 2 ^ digits bands ≤ 2 ^ 1 = pow-le-pow_right (lit< tt) k in
    let b = below_digits bands in
    omega (arith, p, b, h)

-- an EOB ends one band
abbrev pub EndsOne : Element → Type 0
EndsOne (ends bands bits) = bands ≡ 1
EndsOne e = Unit {0}

-- a long run splits what is left
pub sixteen : (all passed old : List ℤ) → (((front : List ℤ) × (all ≡ front ++ pos 0 ∷ old) × (zeros_in front ≡ 15) × (passed ≡ front ++ pos 0 ∷ [])) ⊎ ((all ≡ passed) × (zeros_in passed < 16) × (old ≡ [])))
    → length all ≡ length passed + length old
sixteen all passed old (inl f) = omega (arith, ap length f.1, length-append f.0 (pos 0 ∷ old), ap length f.3, length-append f.0 (pos 0 ∷ []))
sixteen all passed old (inr f) = omega (arith, ap length f.0, ap length f.2)

-- an element preserves this
pub step : (c : Coding) (p : ℤ) (e : Element) (u : UnitLeft) (units : List UnitLeft) (here : List ℤ) (left : List UnitLeft) (more : List ℤ) → EndsOne e
    → Tells c p e u units here left → are_in_bounds c.bounds u.has_dc here ≡ true → AreWithin c left more → AreWithin c (u ∷ units) (here ++ more)
step c p (difference d) u units here left more run t ok w =
    going c u t.1 units here more (omega (arith, ap length t.5, ap length t.6)) (joins_dc c u.has_dc here _ t.2 t.6 ok) (subst (λ l. AreWithin c l more) t.7 w)
step c p (dc_bit b) u units here left more run t ok w =
    going c u t.1 units here more (omega (arith, ap length t.4, ap length t.5)) (joins_dc c u.has_dc here _ t.2 t.5 ok) (subst (λ l. AreWithin c l more) t.6 w)
step c p (value run' v bits) u units here left more run t ok w =
    let l : length here ≡ length (corrected c.al t.0 bits) + 1 = ap length t.9 ∙ length-append (corrected c.al t.0 bits) (scaled c.al v ∷ []) in
    let o : length u.old ≡ length t.0 + length (pos 0 ∷ t.1) = ap length t.6 ∙ length-append t.0 (pos 0 ∷ t.1) in
    going c u t.1 units here more (omega (arith, l, o, length_corrected c.al t.0 bits)) (joins_rest c u.has_dc here t.2 ok) (subst (λ l. AreWithin c l more) t.10 w)
step c p (long_run bits) u units here left more run t ok w =
    let l : length here ≡ length t.0 = ap length t.5 ∙ length_corrected c.al t.0 bits in
    let o = sixteen u.old t.0 t.1 t.3 in
    going c u t.1 units here more (omega (arith, l, o)) (joins_rest c u.has_dc here t.2 ok) (subst (λ l. AreWithin c l more) t.6 w)
step c p (ends bands bits) u units here left more run t ok w =
    let one : bands ≡ 1 = run in
    let told : here ≡ corrected c.al (u.old ++ []) bits = t.5 ∙ ap (λ n. corrected c.al (old_values (take n (u ∷ units))) bits) one in
    let rest : left ≡ units = t.6 ∙ ap (λ n. drop n (u ∷ units)) one in
    let l : length here ≡ length u.old = ap length told ∙ length_corrected c.al (u.old ++ []) bits ∙ ap length (append-nil u.old) in
    (here, more, refl, l, ok, subst (λ l. AreWithin c l more) rest w)

pub ends_one : (c : Coding) (p : ℤ) (e : Element) (u : UnitLeft) (units : List UnitLeft) (here : List ℤ) (left : List UnitLeft) → c.most_run ≡ 0 → Tells c p e u units here left → EndsOne e
ends_one c p (ends bands bits) u units here left run t = one_band bands t.1 (omega (arith, t.2, run))
ends_one c p e u units here left run t = tt

-- MIRRORED BLOCKS

same_magnitude : (b : Bool) (v : ℤ) → nat_abs (cond b (neg_ℤ v) v) ≡ nat_abs v
same_magnitude false v = refl
same_magnitude true (pos zero) = refl
same_magnitude true (pos (suc n)) = refl
same_magnitude true (negsuc n) = refl

mirror_rest : (r : Bounds) (places : List ℕ) (block : List ℤ) → are_in_bounds r false block ≡ true → are_in_bounds r false (mirror_at places block) ≡ true
mirror_rest r [] block ok = refl
mirror_rest r (n ∷ places) [] ok = refl
mirror_rest r (n ∷ places) (v ∷ block) ok =
    let b = both (int_le (pos (nat_abs v)) r.ac) (are_in_bounds r false block) ok in
    let w = cond (n % 2 == 1) (neg_ℤ v) v in
    and_intro (int_le (pos (nat_abs w)) r.ac) (are_in_bounds r false (mirror_at places block)) (ap (λ m. int_le (pos m) r.ac) (same_magnitude (n % 2 == 1) v) ∙ b.0) (mirror_rest r places block b.1)

pub mirror_within : (r : Bounds) (places : List ℕ) (block : List ℤ) → are_in_bounds r true block ≡ true → are_in_bounds r true (mirror_at (0 ∷ places) block) ≡ true
mirror_within r places [] ok = refl
mirror_within r places (v ∷ block) ok =
    let b = both (int_le r.dc_low v && int_le v r.dc_high) (are_in_bounds r false block) ok in
    and_intro (int_le r.dc_low v && int_le v r.dc_high) (are_in_bounds r false (mirror_at places block)) b.0 (mirror_rest r places block b.1)
