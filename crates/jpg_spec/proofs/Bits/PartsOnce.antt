-- Bits can be complete elements and a part of one more in only one way.
use Rattle.std.proofs.Common.{◌≡◌, ℕ, ◌+◌, ◌-◌, ◌*◌, ◌/◌, ◌%◌, ◌<◌, ◌≤◌, Bool, true, false, cond, ◌==◌, List, [], ◌∷◌, ◌++◌, length, refl, sym, ap, ◌∙◌, subst, arith, inl, inr, ⊎_elim, ℤ}
use Rattle.std.specs.Prelude.{◌⊎◌}
use Rattle.std.proofs.lemmas.Bool.Decides.{nat_tests}
use Rattle.std.proofs.lemmas.List.{append_assoc, append-nil, length-append}
use Rattle.jpg_spec.specs.Bits.{bits_of}
use Rattle.jpg_spec.specs.Numbers.{category, extra_bits, digits}
use Rattle.jpg_spec.specs.Elements.{Coding, UnitLeft, Standing, Element, Covers, codes_due, at_start, is_zero, nonzeros_in, corrected, old_values}
use Rattle.jpg_spec.specs.Parts.{IsFront, WantsCorrection, PartOfElement, in_code, in_difference, in_number, in_count, in_value, in_long, in_ends, AreUnderWay, StandsInOneWay}
use Rattle.jpg_spec.specs.Sound.{IsSound}
use Rattle.jpg_spec.proofs.Basics.Facts.{facts}
use Rattle.jpg_spec.proofs.Bits.Values.{nonzeros-append}
use Rattle.jpg_spec.proofs.Bits.Once.{BeginsSymbol, Continues, elements_once, head_inj, symbol_once}
use Rattle.jpg_spec.proofs.Bits.Parts.{in_ac, some_old, same_head, part_front}
use Rattle.jpg_spec.proofs.Bits.PartStands.{before_part, codes_one, codes_not_empty, empty_front, part_no_code, part_no_more}
use Rattle.jpg_spec.proofs.Bits.Sound.{decodes}
use Rattle.jpg_spec.proofs.Basics.Common.{append_inj, clash}

-- WHAT WAS SKIPPED is determined by how many corrections it took

abbrev old_one : ℤ → ℕ
old_one o = cond (is_zero o) 0 1

values_once : (a b : List ℤ) (x y : ℤ) (xs ys : List ℤ) → a ++ x ∷ xs ≡ b ++ y ∷ ys → is_zero x ≡ false → is_zero y ≡ false → nonzeros_in a ≡ nonzeros_in b → (a ≡ b) × (x ∷ xs ≡ y ∷ ys)
values_once [] [] x y xs ys e zx zy n = (refl, e)
values_once [] (q ∷ b) x y xs ys e zx zy n =
    let s = some_old q b (ap is_zero (sym (same_head x q xs (b ++ y ∷ ys) e)) ∙ zx) in
    absurd (omega (arith, n, s))
values_once (p ∷ a) [] x y xs ys e zx zy n =
    let s = some_old p a (ap is_zero (same_head p y (a ++ x ∷ xs) ys e) ∙ zy) in
    absurd (omega (arith, n, s))
values_once (p ∷ a) (q ∷ b) x y xs ys e zx zy n =
    let h : p ≡ q = cc in
    let t : a ++ x ∷ xs ≡ b ++ y ∷ ys = cc in
    let o : old_one p ≡ old_one q = ap old_one h in
    let r = values_once a b x y xs ys t zx zy (omega (arith, n, o)) in
    (ap (λ z. z ∷ a) h ∙ ap (λ zs. q ∷ zs) r.0, r.1)

-- the same over units, of which the last one is passed in part
record PassedOnce (whole whole' : List UnitLeft) (first first' : List ℤ) (u u' : UnitLeft) (others others' : List UnitLeft) : Type 0 where
  whole_same : whole ≡ whole'
  first_same : first ≡ first'
  unit_same : u ≡ u'
  others_same : others ≡ others'

abbrev in_part : List ℤ → UnitLeft → UnitLeft
in_part first u = record u { old = first ++ u.old }

unit_once : (first first' : List ℤ) (u u' : UnitLeft) → in_part first u ≡ in_part first' u' → WantsCorrection u → WantsCorrection u' → nonzeros_in first ≡ nonzeros_in first' → (first ≡ first') × (u ≡ u')
unit_once first first' u u' e w w' n =
    let olds : first ++ w.0 ∷ w.1 ≡ first' ++ w'.0 ∷ w'.1 = ap (λ l. first ++ l) (sym w.2) ∙ ap (λ (v : UnitLeft). v.old) e ∙ ap (λ l. first' ++ l) w'.2 in
    let r = values_once first first' w.0 w'.0 w.1 w'.1 olds w.3 w'.3 n in
    let old : u.old ≡ u'.old = w.2 ∙ r.1 ∙ sym w'.2 in
    let i : u.component ≡ u'.component = ap (λ (v : UnitLeft). v.component) e in
    let d : u.has_dc ≡ u'.has_dc = ap (λ (v : UnitLeft). v.has_dc) e in
    (r.0, ap (λ l. (let v : UnitLeft = record u { old = l } in v)) old ∙ ap (λ n. (let v : UnitLeft = record { component = n; has_dc = u.has_dc; old = u'.old } in v)) i ∙ ap (λ b. (let v : UnitLeft = record { component = u'.component; has_dc = b; old = u'.old } in v)) d)

-- a unit that is passed completely has one more correction than a part of it
more_old : (first : List ℤ) (u v : UnitLeft) → in_part first u ≡ v → WantsCorrection u → nonzeros_in first + 1 ≤ nonzeros_in v.old
more_old first u v e w =
    let o : v.old ≡ first ++ w.0 ∷ w.1 = ap (λ (x : UnitLeft). x.old) (sym e) ∙ ap (λ l. first ++ l) w.2 in
    omega (arith, ap nonzeros_in o, nonzeros-append first (w.0 ∷ w.1), some_old w.0 w.1 w.3)

flat_more : (v : UnitLeft) (whole : List UnitLeft) (first : List ℤ) → nonzeros_in (old_values (v ∷ whole) ++ first) ≡ nonzeros_in v.old + nonzeros_in (old_values whole ++ first)
flat_more v whole first = ap nonzeros_in (append_assoc v.old (old_values whole) first) ∙ nonzeros-append v.old (old_values whole ++ first)

passed_once : (whole whole' : List UnitLeft) (first first' : List ℤ) (u u' : UnitLeft) (others others' : List UnitLeft) → whole ++ in_part first u ∷ others ≡ whole' ++ in_part first' u' ∷ others' → WantsCorrection u → WantsCorrection u'
    → nonzeros_in (old_values whole ++ first) ≡ nonzeros_in (old_values whole' ++ first') → PassedOnce whole whole' first first' u u' others others'
passed_once [] [] first first' u u' others others' e w w' n =
    let h = head_inj (in_part first u) (in_part first' u') others others' e in
    let r = unit_once first first' u u' h.0 w w' n in
    record { whole_same = refl; first_same = r.0; unit_same = r.1; others_same = h.1 }
passed_once [] (v' ∷ whole') first first' u u' others others' e w w' n =
    let h = head_inj (in_part first u) v' others (whole' ++ in_part first' u' ∷ others') e in
    absurd (omega (arith, n, more_old first u v' h.0 w, flat_more v' whole' first'))
passed_once (v ∷ whole) [] first first' u u' others others' e w w' n =
    let h = head_inj v (in_part first' u') (whole ++ in_part first u ∷ others) others' e in
    absurd (omega (arith, n, more_old first' u' v (sym h.0) w', flat_more v whole first))
passed_once (v ∷ whole) (v' ∷ whole') first first' u u' others others' e w w' n =
    let h = head_inj v v' (whole ++ in_part first u ∷ others) (whole' ++ in_part first' u' ∷ others') e in
    let o : nonzeros_in v.old ≡ nonzeros_in v'.old = ap (λ (x : UnitLeft). nonzeros_in x.old) h.0 in
    let r = passed_once whole whole' first first' u u' others others' h.1 w w' (omega (arith, n, o, flat_more v whole first, flat_more v' whole' first')) in
    record { whole_same = ap (λ x. x ∷ whole) h.0 ∙ ap (λ xs. v' ∷ xs) r.whole_same; first_same = r.first_same; unit_same = r.unit_same; others_same = r.others_same }

-- TWO KINDS of parts, of which no bits have both

-- how many additional bits an AC symbol needs
abbrev wanted : ℕ → ℕ
wanted symbol = cond (symbol % 16 == 0) (cond (symbol == 0xf0) 0 (symbol / 16)) (symbol % 16)

wanted_value : (run size : ℕ) → 1 ≤ size → size ≤ 15 → wanted (16 * run + size) ≡ size
wanted_value run size some most =
    let m : (16 * run + size) % 16 ≡ size = omega (arith, some, most) in
    let z : ((16 * run + size) % 16 == 0) ≡ false = grind (arith, nat_tests) in
    ap (λ b. cond b (cond (16 * run + size == 0xf0) 0 ((16 * run + size) / 16)) ((16 * run + size) % 16)) z ∙ m

wanted_ends : (n : ℕ) → n ≤ 14 → wanted (16 * n) ≡ n
wanted_ends n most =
    let m : (16 * n) % 16 ≡ 0 = omega arith in
    let z : ((16 * n) % 16 == 0) ≡ true = grind (arith, nat_tests) in
    let l : (16 * n == 0xf0) ≡ false = grind (arith, nat_tests) in
    let q : (16 * n) / 16 ≡ n = omega arith in
    ap (λ b. cond b (cond (16 * n == 0xf0) 0 ((16 * n) / 16)) ((16 * n) % 16)) z ∙ ap (λ b. cond b 0 ((16 * n) / 16)) l ∙ q

-- before the additional bits are complete: nothing was skipped
record Early (c : Coding) (s : Standing) (u : UnitLeft) (others : List UnitLeft) (here : List ℤ) (bits : List Bool) : Type 0 where
  left : s.left ≡ u ∷ others
  none : here ≡ []
  short : IsFront (codes_due c u) bits
      ⊎ ((u.has_dc ≡ true) ⊎ ((symbol : ℕ) × (extra : List Bool) × BeginsSymbol (codes_due c u) symbol extra bits × (length extra < wanted symbol)))

-- after them: as many corrections as what was skipped takes, and a further one follows
record Late (c : Coding) (s : Standing) (u : UnitLeft) (others : List UnitLeft) (here : List ℤ) (bits : List Bool) : Type 0 where
  unit : UnitLeft
  units : List UnitLeft
  whole : List UnitLeft
  first : List ℤ
  symbol : ℕ
  number : List Bool
  corrections : List Bool
  begun : s.left ≡ unit ∷ units
  no_dc : unit.has_dc ≡ false
  left : s.left ≡ whole ++ in_part first u ∷ others
  word : BeginsSymbol (codes_due c unit) symbol (number ++ corrections) bits
  long : length number ≡ wanted symbol
  each : nonzeros_in (old_values whole ++ first) ≡ length corrections
  told : here ≡ corrected c.al (old_values whole ++ first) corrections
  due : WantsCorrection u

shape : (c : Coding) (s : Standing) (u : UnitLeft) (others : List UnitLeft) (here : List ℤ) (bits : List Bool) → IsSound c → PartOfElement c s u others here bits → Early c s u others here bits ⊎ Late c s u others here bits
shape c s u others here bits sound (in_code h) = inl (record { left = h.left; none = h.none; short = inl h.front })
shape c s u others here bits sound (in_difference size extra h few) = inl (record { left = h.left; none = h.none; short = inr (inl h.has_dc) })
shape c s u others here bits sound (in_number run size extra h few) =
    let w = wanted_value run size h.some (omega (arith, h.most, sound.categories)) in
    inl (record { left = h.left; none = h.none; short = inr (inr (16 * run + size, extra, record { code = h.code; is_code = in_ac c u (h.code, 16 * run + size) h.no_dc h.coded; cut = h.split }, omega (arith, w, few))) })
shape c s u others here bits sound (in_count n extra h few) =
    let w = wanted_ends n (omega (arith, h.most, sound.runs)) in
    inl (record { left = h.left; none = h.none; short = inr (inr (16 * n, extra, record { code = h.code; is_code = in_ac c u (h.code, 16 * n) h.no_dc h.coded; cut = h.split }, omega (arith, w, few))) })
shape c s u others here bits sound (in_value run v h due) =
    inr (record {
      unit = in_part h.passed u;
      units = others;
      whole = [];
      first = h.passed;
      symbol = 16 * h.zeros + category v;
      number = extra_bits v;
      corrections = h.corrections;
      begun = h.left;
      no_dc = h.no_dc;
      left = h.left;
      word = record { code = h.code; is_code = in_ac c u (h.code, 16 * h.zeros + category v) h.no_dc h.coded; cut = h.split };
      long = facts.size v ∙ sym (wanted_value h.zeros (category v) h.some (omega (arith, h.most, sound.categories)));
      each = h.each;
      told = h.told;
      due = due;
    })
shape c s u others here bits sound (in_long run h due) =
    inr (record {
      unit = in_part h.passed u;
      units = others;
      whole = [];
      first = h.passed;
      symbol = 0xf0;
      number = [];
      corrections = h.corrections;
      begun = h.left;
      no_dc = h.no_dc;
      left = h.left;
      word = record { code = h.code; is_code = in_ac c u (h.code, 0xf0) h.no_dc h.coded; cut = h.split };
      long = refl;
      each = h.each;
      told = h.told;
      due = due;
    })
shape c s u others here bits sound (in_ends bands h due) =
    let n = digits h.total - 1 in
    inr (record {
      unit = h.unit;
      units = h.units;
      whole = h.whole;
      first = h.first;
      symbol = 16 * n;
      number = bits_of n h.total;
      corrections = h.corrections;
      begun = h.begun;
      no_dc = h.no_dc;
      left = h.left;
      word = record { code = h.code; is_code = in_ac c h.unit (h.code, 16 * n) h.no_dc h.coded; cut = h.split };
      long = facts.bits n h.total ∙ sym (wanted_ends n (omega (arith, h.most, sound.runs)));
      each = h.each;
      told = h.told;
      due = due;
    })

-- what two parts of the same bits have in common
record Same (u u' : UnitLeft) (others others' : List UnitLeft) (here here' : List ℤ) : Type 0 where
  units : u ∷ others ≡ u' ∷ others'
  values : here ≡ here'

module _ (c : Coding) (s : Standing) (bits : List Bool) (sound : IsSound c) where
  early_once : (u u' : UnitLeft) (others others' : List UnitLeft) (here here' : List ℤ) → Early c s u others here bits → Early c s u' others' here' bits → Same u u' others others' here here'
  early_once u u' others others' here here' h k = record { units = sym h.left ∙ k.left; values = h.none ∙ sym k.none }

  late_once : (u u' : UnitLeft) (others others' : List UnitLeft) (here here' : List ℤ) → Late c s u others here bits → Late c s u' others' here' bits → Same u u' others others' here here'
  late_once u u' others others' here here' h k =
      let t = head_inj k.unit h.unit k.units h.units (sym k.begun ∙ h.begun) in
      let word = subst (λ v. BeginsSymbol (codes_due c v) k.symbol (k.number ++ k.corrections) bits) t.0 k.word in
      let q = symbol_once (codes_one c sound h.unit) h.word word in
      let i = append_inj h.number k.number h.corrections k.corrections (h.long ∙ ap wanted q.0 ∙ sym k.long) q.1 in
      let p = passed_once h.whole k.whole h.first k.first u u' others others' (sym h.left ∙ k.left) h.due k.due (h.each ∙ ap length i.1 ∙ sym k.each) in
      record {
        units = ap (λ v. v ∷ others) p.unit_same ∙ ap (λ vs. u' ∷ vs) p.others_same;
        values = h.told ∙ ap (λ w. corrected c.al (old_values w ++ h.first) h.corrections) p.whole_same ∙ ap (λ f. corrected c.al (old_values k.whole ++ f) h.corrections) p.first_same
            ∙ ap (λ cs. corrected c.al (old_values k.whole ++ k.first) cs) i.1 ∙ sym k.told;
      }

  early_not_late : (u u' : UnitLeft) (others others' : List UnitLeft) (here here' : List ℤ) → Early c s u others here bits → Late c s u' others' here' bits → ⊥
  early_not_late u u' others others' here here' h k = by h.short
    where
      same : (u ≡ k.unit) × (others ≡ k.units)
      same = head_inj u k.unit others k.units (sym h.left ∙ k.begun)

      word : BeginsSymbol (codes_due c u) k.symbol (k.number ++ k.corrections) bits
      word = subst (λ v. BeginsSymbol (codes_due c v) k.symbol (k.number ++ k.corrections) bits) (sym same.0) k.word

      by : (IsFront (codes_due c u) bits ⊎ ((u.has_dc ≡ true) ⊎ ((symbol : ℕ) × (extra : List Bool) × BeginsSymbol (codes_due c u) symbol extra bits × (length extra < wanted symbol)))) → ⊥
      by (inl (inl z)) = codes_not_empty c sound u (word.code, k.symbol) word.is_code (empty_front word.code (k.number ++ k.corrections) (sym word.cut ∙ z))
      by (inl (inr g)) = part_no_code bits (codes_one c sound u) g word
      by (inr (inl d)) = clash u.has_dc d (ap (λ (v : UnitLeft). v.has_dc) same.0 ∙ k.no_dc)
      by (inr (inr e)) =
          let q = symbol_once (codes_one c sound u) e.2 word in
          let few = e.3 in
          omega (arith, few, ap wanted q.0, ap length q.1, length-append k.number k.corrections, k.long)

  part_once : (u u' : UnitLeft) (others others' : List UnitLeft) (here here' : List ℤ) → PartOfElement c s u others here bits → PartOfElement c s u' others' here' bits → Same u u' others others' here here'
  part_once u u' others others' here here' p q = by (shape c s u others here bits sound p) (shape c s u' others' here' bits sound q)
    where
      by : (Early c s u others here bits ⊎ Late c s u others here bits) → (Early c s u' others' here' bits ⊎ Late c s u' others' here' bits) → Same u u' others others' here here'
      by (inl h) (inl k) = early_once u u' others others' here here' h k
      by (inl h) (inr k) = absurd (early_not_late u u' others others' here here' h k)
      by (inr h) (inl k) = absurd (early_not_late u' u others' others here' here k h)
      by (inr h) (inr k) = late_once u u' others others' here here' h k

-- THE LAW
pub stands_once : (c : Coding) (units : List UnitLeft) (bits : List Bool) → IsSound c → StandsInOneWay c units bits
stands_once c units bits sound told told' left left' w v =
    ⊎_elim
    (λ (g : Continues (before_part w) (before_part v)). on (told, left, w) (told', left', v) g.elements g.values g.spelling g.covers g.joined.1 g.behind)
    (λ (g : Continues (before_part v) (before_part w)). (let h = on (told', left', v) (told, left, w) g.elements g.values g.spelling g.covers g.joined.1 g.behind in (sym h.0, sym h.1)))
    (elements_once c (at_start units) w.elements v.elements bits (decodes c sound) (before_part w) (before_part v))
  where
    on : (x y : AreUnderWay c units bits) (es : List Element) (values : List ℤ) (spelling : List Bool) → Covers c (x.2).standing es values spelling (y.2).standing → (y.2).before ≡ (x.2).before ++ values
        → (x.2).part ≡ spelling ++ (y.2).part → (x.0 ≡ y.0) × (x.1 ≡ y.1)
    on (told, left, w) (told', left', v) [] values spelling k before part =
        let b : v.before ≡ w.before = before ∙ ap (λ l. w.before ++ l) k.0 ∙ append-nil w.before in
        let p : w.part ≡ v.part = part ∙ ap (λ l. l ++ v.part) k.1 in
        let q1 : PartOfElement c w.standing v.unit v.others v.here v.part = subst (λ t. PartOfElement c t v.unit v.others v.here v.part) k.2 v.is_part in
        let q : PartOfElement c w.standing v.unit v.others v.here w.part = subst (λ l. PartOfElement c w.standing v.unit v.others v.here l) (sym p) q1 in
        let r = part_once c w.standing w.part sound w.unit v.unit w.others v.others w.here v.here w.is_part q in
        (w.same ∙ ap (λ l. l ++ w.here) (sym b) ∙ ap (λ l. v.before ++ l) r.values ∙ sym v.same, w.first ∙ r.units ∙ sym v.first)
    on (told, left, w) (told', left', v) (e ∷ es) values spelling k before part =
        let at = part_front c w.standing w.unit w.others w.here w.part w.is_part in
        absurd (part_no_more c w.standing at.unit at.units w.part e es sound at.left at.is_front (record { told = values; front = spelling; rest = v.part; standing = v.standing; cut = part; covers = k }))
