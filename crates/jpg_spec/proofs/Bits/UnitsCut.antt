-- If each EOB ends one band, complete elements can be split where a unit begins: those before it encode complete units
-- (T.81, F.2.2).
use Rattle.std.proofs.Common.{◌≡◌, ℕ, ◌+◌, ◌*◌, ◌<◌, ◌≤◌, Bool, false, List, [], ◌∷◌, ◌++◌, length, take, drop, refl, sym, ap, ◌∙◌, subst, arith, inl, inr, ◌⊎◌, ℤ, pos}
use Rattle.std.proofs.lemmas.List.{append_assoc, append-nil, length-append}
use Rattle.jpg_spec.specs.Elements.{Coding, UnitLeft, Standing, Element, difference, dc_bit, value, long_run, ends, Covers, Tells, at_start, going_on, old_values, predictions_after, corrected, scaled}
use Rattle.jpg_spec.specs.Parts.{PartOfElement, in_code, in_difference, in_number, in_count, in_value, in_long, in_ends, StandsInUnits}
use Rattle.jpg_spec.specs.RowsParsed.{TellsFirst}
use Rattle.jpg_spec.proofs.Basics.Common.{heads}
use Rattle.jpg_spec.proofs.Bits.PartsCounted.{stands_all}
use Rattle.jpg_spec.proofs.Bits.Within.{EndsOne, ends_one, length_corrected, one_band, sixteen}

-- AN ELEMENT skips first values of the unit
record PassesSome (u : UnitLeft) (units left : List UnitLeft) (here : List ℤ) : Type 0 where
  pub old : List ℤ
  pub left_is : left ≡ going_on u old units
  pub size : length here + length old ≡ length u.old

passes_some : (c : Coding) (p : ℤ) (e : Element) (u : UnitLeft) (units : List UnitLeft) (here : List ℤ) (left : List UnitLeft) → EndsOne e → Tells c p e u units here left → PassesSome u units left here
passes_some c p (difference d) u units here left one t = record { old = t.1; left_is = t.7; size = omega (arith, ap length t.5, ap length t.6) }
passes_some c p (dc_bit b) u units here left one t = record { old = t.1; left_is = t.6; size = omega (arith, ap length t.4, ap length t.5) }
passes_some c p (value run v bits) u units here left one t =
    let l : length here ≡ length (corrected c.al t.0 bits) + 1 = ap length t.9 ∙ length-append (corrected c.al t.0 bits) (scaled c.al v ∷ []) in
    let o : length u.old ≡ length t.0 + length (pos 0 ∷ t.1) = ap length t.6 ∙ length-append t.0 (pos 0 ∷ t.1) in
    record { old = t.1; left_is = t.10; size = omega (arith, l, o, length_corrected c.al t.0 bits) }
passes_some c p (long_run bits) u units here left one t =
    let l : length here ≡ length t.0 = ap length t.5 ∙ length_corrected c.al t.0 bits in
    let o = sixteen u.old t.0 t.1 t.3 in
    record { old = t.1; left_is = t.6; size = omega (arith, l, o) }
passes_some c p (ends bands bits) u units here left one t =
    let told : here ≡ corrected c.al (u.old ++ []) bits = t.5 ∙ ap (λ n. corrected c.al (old_values (take n (u ∷ units))) bits) one in
    let rest : left ≡ units = t.6 ∙ ap (λ n. drop n (u ∷ units)) one in
    let l : length here ≡ length u.old = ap length told ∙ length_corrected c.al (u.old ++ []) bits ∙ ap length (append-nil u.old) in
    record { old = []; left_is = rest; size = omega (arith, l) }

-- COMPLETE ELEMENTS, from a state with a current unit
abbrev pub AreWhole : List UnitLeft → Type 0
AreWhole [] = Unit {0}
AreWhole (u ∷ units) = (length u.old ≡ 64) × AreWhole units

-- this many values and these further units are passed, then elements encode some of the next one
record Passed (c : Coding) (s : Standing) (told : List ℤ) (bits : List Bool) (t : Standing) (values : ℕ) (units : List UnitLeft) : Type 0 where
  pub elements : List Element
  pub whole : List ℤ
  pub rest : List ℤ
  pub front : List Bool
  pub behind : List Bool
  pub mid : Standing
  pub covers : Covers c s elements whole front mid
  pub told_is : told ≡ whole ++ rest
  pub bits_is : bits ≡ front ++ behind
  pub more : ℕ
  pub size : length whole ≡ values + 64 * more
  pub left : length t.left + more ≡ length units

CutAt : Coding → Standing → List ℤ → List Bool → Standing → ℕ → List UnitLeft → Type 0
CutAt c s told bits t values units = (length t.left ≡ 1 + length units) ⊎ Passed c s told bits t values units

-- the state after its first element
abbrev after_first : (c : Coding) (s t : Standing) (x : Element) (es : List Element) (told : List ℤ) (bits : List Bool) → Covers c s (x ∷ es) told bits t → Standing
after_first c s t x es told bits k = record { predictions = predictions_after s.predictions (k.0).component x; left = k.3 }

module _ (c : Coding) (s t : Standing) (x : Element) (es : List Element) (told : List ℤ) (bits : List Bool) (k : Covers c s (x ∷ es) told bits t) where
  -- the unit ends with it
  one_passed : (values : ℕ) (units : List UnitLeft) → length k.2 ≡ values → length t.left ≡ length units → Passed c s told bits t values units
  one_passed values units size left = record {
    elements = x ∷ [];
    whole = k.2;
    rest = k.4;
    front = k.5;
    behind = k.6;
    mid = after_first c s t x es told bits k;
    covers = (k.0, k.1, k.2, k.3, [], k.5, [], k.7, sym (append-nil k.2), sym (append-nil k.5), k.10, k.11, k.12, (refl, refl, refl));
    told_is = k.8;
    bits_is = k.9;
    more = 0;
    size = omega (arith, size);
    left = omega (arith, left);
  }

  -- and other ones are passed after it
  more_passed : (values here more : ℕ) (units others : List UnitLeft) → Passed c (after_first c s t x es told bits k) k.4 k.6 t here others → length k.2 + here ≡ values + 64 * more → length others + more ≡ length units → Passed c s told bits t values units
  more_passed values here more units others q size left = record {
    elements = x ∷ q.elements;
    whole = k.2 ++ q.whole;
    rest = q.rest;
    front = k.5 ++ q.front;
    behind = q.behind;
    mid = q.mid;
    covers = (k.0, k.1, k.2, k.3, q.whole, k.5, q.front, k.7, refl, refl, k.10, k.11, k.12, q.covers);
    told_is = k.8 ∙ ap (λ l. k.2 ++ l) q.told_is ∙ sym (append_assoc k.2 q.whole q.rest);
    bits_is = k.9 ∙ ap (λ l. k.5 ++ l) q.bits_is ∙ sym (append_assoc k.5 q.front q.behind);
    more = q.more + more;
    size = omega (arith, length-append k.2 q.whole, q.size, size);
    left = omega (arith, q.left, left);
  }

-- no element follows if no unit is left
none_after : (c : Coding) (s t : Standing) (es : List Element) (told : List ℤ) (bits : List Bool) → s.left ≡ [] → Covers c s es told bits t → t.left ≡ []
none_after c s t [] told bits e k = ap (λ (q : Standing). q.left) k.2 ∙ e
none_after c s t (x ∷ es) told bits e k = absurd (no_unit k.0 k.1 (sym k.7 ∙ e))
  where
    no_unit : (u : UnitLeft) (units : List UnitLeft) → u ∷ units ≡ [] → ⊥
    no_unit u units z = cc

cut_at : (c : Coding) (es : List Element) (s t : Standing) (told : List ℤ) (bits : List Bool) (u : UnitLeft) (units : List UnitLeft) → c.most_run ≡ 0 → AreWhole units → s.left ≡ u ∷ units → Covers c s es told bits t
    → CutAt c s told bits t (length u.old) units
unfolding CutAt
cut_at c [] s t told bits u units run w e k = inl (omega (arith, ap (λ (q : Standing). length q.left) k.2, ap length e))
cut_at c (x ∷ es) s t told bits u units run w e k =
    by units w same p.old p.left_is (omega (arith, p.size, ap (λ (z : UnitLeft). length z.old) same.0))
    (λ v vs z f. cut_at c es (after_first c s t x es told bits k) t k.4 k.6 v vs run z f k.13)
  where
    same : (u ≡ k.0) × (units ≡ k.1)
    same = heads u k.0 units k.1 (sym e ∙ k.7)

    p : PassesSome k.0 k.1 k.3 k.2
    p = passes_some c (s.predictions (k.0).component) x k.0 k.1 k.2 k.3 (ends_one c (s.predictions (k.0).component) x k.0 k.1 k.2 k.3 run k.11) k.11

    Rest : Type 0
    Rest =
        (v : UnitLeft) (vs : List UnitLeft) → AreWhole vs → k.3 ≡ v ∷ vs
        → (length t.left ≡ 1 + length vs) ⊎ Passed c (after_first c s t x es told bits k) k.4 k.6 t (length v.old) vs

    Result : List UnitLeft → Type 0
    Result us = (length t.left ≡ 1 + length us) ⊎ Passed c s told bits t (length u.old) us

    by : (us : List UnitLeft) → AreWhole us → (u ≡ k.0) × (us ≡ k.1) → (old : List ℤ) → k.3 ≡ going_on k.0 old k.1 → length k.2 + length old ≡ length u.old → Rest → Result us
    by us z g (o ∷ old) left size later = later_one (later v us z (left ∙ ap (λ l. v ∷ l) (sym g.1)))
      where
        v : UnitLeft
        v = record { component = (k.0).component; has_dc = false; old = o ∷ old }

        later_one : (length t.left ≡ 1 + length us) ⊎ Passed c (after_first c s t x es told bits k) k.4 k.6 t (length (o ∷ old)) us → Result us
        later_one (inl l) = inl l
        later_one (inr q) = inr (more_passed c s t x es told bits k (length u.old) (length (o ∷ old)) 0 us us q (omega (arith, size)) (omega arith))
    by [] z g [] left size later =
        let none : k.3 ≡ [] = left ∙ sym g.1 in
        inr (one_passed c s t x es told bits k (length u.old) [] (omega (arith, size)) (ap length (none_after c (after_first c s t x es told bits k) t es k.4 k.6 none k.13)))
    by (v ∷ vs) z g [] left size later = next_one (later v vs z.1 (left ∙ sym g.1))
      where
        next_one : (length t.left ≡ 1 + length vs) ⊎ Passed c (after_first c s t x es told bits k) k.4 k.6 t (length v.old) vs → Result (v ∷ vs)
        next_one (inl l) = inr (one_passed c s t x es told bits k (length u.old) (v ∷ vs) (omega (arith, size)) (omega (arith, l)))
        next_one (inr q) = inr (more_passed c s t x es told bits k (length u.old) (length v.old) 1 (v ∷ vs) vs q (omega (arith, size, z.0)) (omega arith))

-- A PART OF ONE MORE leaves as many units
part_left : (c : Coding) (s : Standing) (u : UnitLeft) (others : List UnitLeft) (here : List ℤ) (bits : List Bool) → c.most_run ≡ 0 → PartOfElement c s u others here bits → length s.left ≡ 1 + length others
part_left c s u others here bits run (in_code h) = omega (arith, ap length h.left)
part_left c s u others here bits run (in_difference size extra h few) = omega (arith, ap length h.left)
part_left c s u others here bits run (in_number r size extra h few) = omega (arith, ap length h.left)
part_left c s u others here bits run (in_count n extra h few) = omega (arith, ap length h.left)
part_left c s u others here bits run (in_value r v h due) = omega (arith, ap length h.left)
part_left c s u others here bits run (in_long r h due) = omega (arith, ap length h.left)
part_left c s u others here bits run (in_ends bands h due) =
    let d = h.most in
    let n = h.sum in
    let a = h.some in
    let one = one_band h.total (omega (arith, n, a)) (omega (arith, d, run)) in
    omega (arith, ap length h.left, length-append h.whole (record u { old = h.first ++ u.old } ∷ others), n, a, one)

-- THE LAW: of complete elements and a part of one more, first bits encode the units of which nothing is left
pub record FirstUnits (c : Coding) (units : List UnitLeft) (told : List ℤ) (left : List UnitLeft) (bits : List Bool) : Type 0 where
  pub whole : List ℤ
  pub rest : List ℤ
  pub front : List Bool
  pub behind : List Bool
  pub told_is : told ≡ whole ++ rest
  pub bits_is : bits ≡ front ++ behind
  pub first : TellsFirst c units whole front
  pub size : length whole + 64 * length left ≡ 64 * length units

pub first_units : (c : Coding) (units : List UnitLeft) (told : List ℤ) (left : List UnitLeft) (bits : List Bool) → c.most_run ≡ 0 → AreWhole units → StandsInUnits c units told left bits → FirstUnits c units told left bits
unfolding CutAt
first_units c [] told left bits run w s =
    let n = part_left c s.standing s.unit s.others s.here s.part run s.is_part in
    absurd (omega (arith, n, ap length (none_after c (at_start []) s.standing s.elements s.before s.front refl s.covers)))
first_units c (u ∷ units) told left bits run w s = by (cut_at c s.elements (at_start (u ∷ units)) s.standing s.before s.front u units run w.1 refl s.covers)
  where
    n : length (s.standing).left ≡ 1 + length s.others
    n = part_left c s.standing s.unit s.others s.here s.part run s.is_part

    m : length left ≡ 1 + length s.others
    m = omega (arith, ap length s.first)

    by : (length (s.standing).left ≡ 1 + length units) ⊎ Passed c (at_start (u ∷ units)) s.before s.front s.standing (length u.old) units → FirstUnits c (u ∷ units) told left bits
    by (inl l) = record {
      whole = [];
      rest = told;
      front = [];
      behind = bits;
      told_is = refl;
      bits_is = refl;
      first = ([], at_start (u ∷ units), (refl, refl, refl));
      size = omega (arith, n, m, l);
    }
    by (inr q) = record {
      whole = q.whole;
      rest = q.rest ++ s.here;
      front = q.front;
      behind = q.behind ++ s.part;
      told_is = s.same ∙ ap (λ l. l ++ s.here) q.told_is ∙ append_assoc q.whole q.rest s.here;
      bits_is = s.cut ∙ ap (λ l. l ++ s.part) q.bits_is ∙ append_assoc q.front q.behind s.part;
      first = (q.elements, q.mid, q.covers);
      size = omega (arith, n, m, q.left, q.size, w.0);
    }

-- WHAT IS LEFT: some of the first unit, and all of the remaining ones
AreLeft : List UnitLeft → Type 0
AreLeft [] = Unit {0}
AreLeft (u ∷ units) = (1 ≤ length u.old) × AreWhole units

left_whole : (units : List UnitLeft) → AreWhole units → AreLeft units
unfolding AreLeft
left_whole [] w = tt
left_whole (u ∷ units) w = (omega (arith, w.0), w.1)

left_after : (c : Coding) (s t : Standing) (es : List Element) (told : List ℤ) (bits : List Bool) → c.most_run ≡ 0 → AreLeft s.left → Covers c s es told bits t → AreLeft t.left
unfolding AreLeft
left_after c s t [] told bits run w k = subst (λ (q : Standing). AreLeft q.left) (sym k.2) w
left_after c s t (x ∷ es) told bits run w k =
    left_after c (record { predictions = predictions_after s.predictions (k.0).component x; left = k.3 }) t es k.4 k.6 run (subst AreLeft (sym p.left_is) (by p.old)) k.13
  where
    p : PassesSome k.0 k.1 k.3 k.2
    p = passes_some c (s.predictions (k.0).component) x k.0 k.1 k.2 k.3 (ends_one c (s.predictions (k.0).component) x k.0 k.1 k.2 k.3 run k.11) k.11

    here : AreLeft (k.0 ∷ k.1)
    here = subst AreLeft k.7 w

    by : (old : List ℤ) → AreLeft (going_on k.0 old k.1)
    by [] = left_whole k.1 here.1
    by (o ∷ old) = (omega arith, here.1)

-- so it is with a part of one more
left_part : (c : Coding) (s : Standing) (u : UnitLeft) (others : List UnitLeft) (here : List ℤ) (bits : List Bool) → c.most_run ≡ 0 → AreLeft s.left → PartOfElement c s u others here bits → AreLeft (u ∷ others)
unfolding AreLeft
left_part c s u others here bits run w (in_code h) = subst AreLeft h.left w
left_part c s u others here bits run w (in_difference size extra h few) = subst AreLeft h.left w
left_part c s u others here bits run w (in_number r size extra h few) = subst AreLeft h.left w
left_part c s u others here bits run w (in_count n extra h few) = subst AreLeft h.left w
left_part c s u others here bits run w (in_value r v h due) = (omega (arith, ap length due.2), (subst AreLeft h.left w).1)
left_part c s u others here bits run w (in_long r h due) = (omega (arith, ap length due.2), (subst AreLeft h.left w).1)
left_part c s u others here bits run w (in_ends bands h due) = by h.whole h.left
  where
    one : length h.whole ≡ 0
    one =
        let d = h.most in
        let n = h.sum in
        let a = h.some in
        let one = one_band h.total (omega (arith, n, a)) (omega (arith, d, run)) in
        omega (arith, n, a, one)

    by : (whole : List UnitLeft) → s.left ≡ whole ++ record u { old = h.first ++ u.old } ∷ others → (1 ≤ length u.old) × AreWhole others
    by [] e = (omega (arith, ap length due.2), (subst AreLeft e w).1)
    by (v ∷ vs) e = (omega (arith, ap length due.2), later vs (subst AreLeft e w).1)
      where
        later : (vs : List UnitLeft) → AreWhole (vs ++ record u { old = h.first ++ u.old } ∷ others) → AreWhole others
        later [] z = z.1
        later (y ∷ ys) z = later ys z.1

whole_values : (units : List UnitLeft) → AreWhole units → length (old_values units) ≡ 64 * length units
whole_values [] w = refl
whole_values (u ∷ units) w = omega (arith, length-append u.old (old_values units), w.0, whole_values units w.1)

-- Fewer values are encoded than those of one more unit.
pub few_told : (c : Coding) (units : List UnitLeft) (told : List ℤ) (left : List UnitLeft) (bits : List Bool) → c.most_run ≡ 0 → AreWhole units → StandsInUnits c units told left bits → length told + 64 * length left < 64 * (length units + 1)
unfolding AreLeft
few_told c units told left bits run w s =
    let k = left_part c s.standing s.unit s.others s.here s.part run (left_after c (at_start units) s.standing s.elements s.before s.front run (left_whole units w) s.covers) s.is_part in
    let all = stands_all c units bits told left s in
    let some = k.0 in
    omega (arith, all, ap (λ vs. length (old_values vs)) s.first, length-append (s.unit).old (old_values s.others), some, whole_values s.others k.1, whole_values units w, ap length s.first)
