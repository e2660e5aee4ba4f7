-- The units of a DC scan.
use Rattle.std.proofs.Common.{◌≡◌, ℕ, suc, ◌*◌, ◌^◌, ◌<◌, ◌≤◌, Bool, true, false, cond, List, [], ◌∷◌, ◌++◌, refl, sym, ap, ◌∙◌, subst, arith, ℤ, pos, negsuc, ◌+ℤ◌, ◌*ℤ◌, ◌≤ℤ◌, inl, inr, ◌&&◌, ◌==◌}
use Rattle.std.specs.Prelude.{nat_abs, int_le, nat_le}
use Rattle.std.specs.List.{Contains}
use Rattle.std.proofs.lemmas.Int.{ints}
use Rattle.std.proofs.lemmas.Nat.{mul-le}
use Rattle.std.proofs.lemmas.Bool.Decides.{nat_tests}
use Rattle.std.proofs.Math.IntN.{pos-*ℤ-pos, negsuc-*ℤ-pos}
use Rattle.std.proofs.lemmas.List.{append-nil}
use Rattle.jpg_spec.specs.Codes.{Code}
use Rattle.jpg_spec.specs.Numbers.{category, extra_bits}
use Rattle.jpg_spec.specs.Elements.{Element, difference, dc_bit, Coding, Standing, Tells, SpellsElement, codes_due, predictions_after, predicted, at_start, scaled, are_in_bounds}
use Rattle.jpg_spec.specs.ScanFaults.{BitsShow, DataReveals}
use Rattle.jpg_spec.specs.declared.fault.Fault.{Fault}
use Rattle.jpg_spec.specs.declared.fault.Fault.TheVariants as fault
use Rattle.jpg_spec.proofs.Bits.Values.{covers_then}
use Rattle.jpg_huff.specs.Walk.{BeginsNoCode}
use Rattle.jpg_coefs.specs.declared.machine.UnitFault.TheVariants as unit_fault
use Rattle.jpg_spec.specs.Parts.{BeginsCode, IsFront, InDifference}
use Rattle.jpg_prog_read.specs.declared.scan.DcScan.{DcScan}
use Rattle.jpg_prog_read.specs.declared.dc.DcStep.{DcStep}
use Rattle.jpg_prog_read.specs.declared.dc.DcStep.TheVariants.{More, Done, Fault as Fails}
use Rattle.jpg_prog_read.specs.declared.dc.DcValue.{DcValue}
use Rattle.jpg_prog_read.specs.declared.dc.DcValue.TheVariants.{Within, Beyond}
use Rattle.jpg_prog_read.specs.Stands.{UnitPlace}
use Rattle.jpg_prog_read.specs.DcWork.{DcWork, InDcRange, IsDcValue, fresh}
use Rattle.jpg_prog_read.specs.RepresentsDcUnit.{BeginsDc, IsDcCodingOf, AnswersDcBit, AnswersDcRefinement, dc_unit, IsDcPart, DcBetween, RepresentsDcUnit}
use Rattle.jpg_huff.proofs.Fronts.{due_apart, walk_shows}
use Rattle.jpg_spec.proofs.Basics.Common.{and_intro, clash, part_more, in_order, from_test, both_false, neg_abs}
use Rattle.jpg_spec.proofs.Basics.Small.{zero_bits, zero_category}
use Rattle.jpg_prog_read.proofs.Multiples.{one_scaled}

-- NUMBERS

grows : (n s : ℕ) → 1 ≤ s → n ≤ n * s
grows n s h = let m = mul-le n 1 n s (omega arith) h in omega (arith, m)

pub wide : (w : ℤ) (s : ℕ) → 1 ≤ s → nat_abs w ≤ nat_abs (w *ℤ pos s)
wide (pos n) s h = subst (λ (x : ℤ). n ≤ nat_abs x) (sym (pos-*ℤ-pos n s)) (grows n s h)
wide (negsuc n) s h = subst (λ (x : ℤ). nat_abs (negsuc n) ≤ nat_abs x) (sym (negsuc-*ℤ-pos n s)) (omega (arith, neg_abs (suc n * s), grows (suc n) s h))

pub in_word : (x low high : ℤ) → negsuc 32766 ≤ℤ low → high ≤ℤ pos 32767 → low ≤ℤ x → x ≤ℤ high → nat_abs x ≤ 32767
in_word x low high a b c d = omega (arith, ints, a, b, c, d)

-- BOUNDS

dc_within : (c : Coding) (low high v : ℤ) → c.bounds.dc_low ≡ low → c.bounds.dc_high ≡ high → low ≤ℤ v → v ≤ℤ high → are_in_bounds c.bounds true (v ∷ []) ≡ true
dc_within c low high v a b l h =
    let k : int_le c.bounds.dc_low v ≡ true = ap (λ (x : ℤ). int_le x v) a ∙ in_order low v l in
    let m : int_le v c.bounds.dc_high ≡ true = ap (λ (x : ℤ). int_le v x) b ∙ in_order v high h in
    and_intro (int_le c.bounds.dc_low v && int_le v c.bounds.dc_high) true (and_intro (int_le c.bounds.dc_low v) (int_le v c.bounds.dc_high) k m) refl

dc_beyond : (c : Coding) (low high v : ℤ) → c.bounds.dc_low ≡ low → c.bounds.dc_high ≡ high → ((low ≤ℤ v) × (v ≤ℤ high) → ⊥) → are_in_bounds c.bounds true (v ∷ []) ≡ false
dc_beyond c low high v a b h =
    both_false (int_le c.bounds.dc_low v) (int_le v c.bounds.dc_high)
    (λ t. h (from_test low v (ap (λ (x : ℤ). int_le x v) (sym a) ∙ t.0), from_test v high (ap (λ (x : ℤ). int_le v x) (sym b) ∙ t.1)))

-- COMPLETE UNITS

-- The bits are complete units, and this element of the next.
pub record HasElement (at : UnitPlace) (p : ℕ → ℤ) (o : ℤ) (bits : List Bool) (e : Element) : Type 0 where
  pub front : List Bool
  pub part : List Bool
  pub whole : DcBetween at.coding at.units at.told p (dc_unit at.component o ∷ at.others) front
  pub split : bits ≡ front ++ part
  pub spells : SpellsElement (codes_due at.coding (dc_unit at.component o)) e part

-- one more unit
one_more : (at : UnitPlace) (p : ℕ → ℤ) (o : ℤ) (bits : List Bool) (e : Element) (h : HasElement at p o bits e) (v : ℤ) (q : ℕ → ℤ)
    → Tells at.coding (h.whole.mid.predictions at.component) e (dc_unit at.component o) at.others (v ∷ []) at.others
    → are_in_bounds at.coding.bounds true (v ∷ []) ≡ true → ((j : ℕ) → predictions_after h.whole.mid.predictions at.component e j ≡ q j)
    → DcBetween at.coding at.units (at.told ++ v ∷ []) q at.others bits
one_more at p o bits e h v q tells ok after =
    let b = h.whole in
    let t : Standing = record { predictions = predictions_after b.mid.predictions at.component e; left = at.others } in
    subst (λ (x : List Bool). DcBetween at.coding at.units (at.told ++ v ∷ []) q at.others x) (sym h.split) (record {
      elements = b.elements ++ e ∷ [];
      mid = t;
      covers = covers_then at.coding (at_start at.units) b.mid t b.elements (e ∷ []) at.told (v ∷ []) h.front h.part b.covers
          (dc_unit at.component o, at.others, v ∷ [], at.others, [], h.part, [], b.left, refl, sym (append-nil h.part), h.spells, tells, ok, (refl, refl, refl));
      left = refl;
      predicts = after;
    })

predicted_same : (p q : ℕ → ℤ) (i : ℕ) (w x : ℤ) → ((j : ℕ) → p j ≡ q j) → w ≡ x → (j : ℕ) → predicted p i w j ≡ predicted q i x j
predicted_same p q i w x h e j = ap (λ (y : ℤ). cond (j == i) y (p j)) e ∙ ap (λ (y : ℤ). cond (j == i) x y) (h j)

-- A FIRST PASS

-- With this bit this difference is complete, whatever bits the unit was given.
abbrev pub Completes : DcScan → List Code → DcWork → Bool → ℤ → Type 0
Completes b dc s next d =
    (at : UnitPlace) (p : ℕ → ℤ) (o : ℤ) (bits : List Bool) → IsDcCodingOf b dc at.coding at.component → RepresentsDcUnit at p o bits s
    → HasElement at p o (bits ++ next ∷ []) (difference d) × (category d ≤ at.coding.bounds.dc_cat)

-- the step of its value
abbrev pub step_of : DcValue → DcStep
step_of (Within w v) = Done w v
step_of Beyond = Fails unit_fault.CoefRange

difference_tells : (b : DcScan) (dc : List Code) (at : UnitPlace) (o q d : ℤ) → IsDcCodingOf b dc at.coding at.component → category d ≤ at.coding.bounds.dc_cat
    → Tells at.coding q (difference d) (dc_unit at.component o) at.others (scaled at.coding.al (q +ℤ d) ∷ []) at.others
difference_tells b dc at o q d k few = (o, [], refl, k.first, few, refl, refl, refl)

value_is : (b : DcScan) (dc : List Code) (at : UnitPlace) (q prediction d : ℤ) → IsDcCodingOf b dc at.coding at.component → q ≡ prediction
    → scaled at.coding.al (q +ℤ d) ≡ (prediction +ℤ d) *ℤ pos b.scale
value_is b dc at q prediction d k e = ap (λ (z : ℤ). scaled at.coding.al (z +ℤ d)) e ∙ ap (λ n. (prediction +ℤ d) *ℤ pos n) (sym k.scale)

pub difference_read : (b : DcScan) (dc : List Code) (prediction : ℤ) (s new : DcWork) (next : Bool) (d : ℤ) (x : DcValue) → Completes b dc s next d
    → IsDcValue b (prediction +ℤ d) x → AnswersDcBit b dc prediction s next (step_of x) new
difference_read b dc prediction s new next d (Within w v) complete (new_w, new_v, range) at p o bits k q f =
    let e = complete at p o bits k f in
    let h = e.0 in
    let now = h.whole.mid.predictions in
    let i = at.component in
    let x : now i ≡ prediction = h.whole.predicts i ∙ q in
    let y : scaled at.coding.al (now i +ℤ d) ≡ v = value_is b dc at (now i) prediction d k x ∙ sym new_v in
    let r : InDcRange b v = subst (λ (z : ℤ). InDcRange b z) (sym new_v) range in
    one_more at p o (bits ++ next ∷ []) (difference d) h v (predicted p i w)
    (subst (λ (z : ℤ). Tells at.coding (now i) (difference d) (dc_unit i o) at.others (z ∷ []) at.others) y (difference_tells b dc at o (now i) d k e.1))
    (dc_within at.coding b.low b.high v k.low k.high r.0 r.1) (predicted_same now p i (now i +ℤ d) w h.whole.predicts (ap (λ (z : ℤ). z +ℤ d) x ∙ sym new_w))
difference_read b dc prediction s new next d Beyond complete beyond at p o bits k q f =
    let e = complete at p o bits k f in
    let h = e.0 in
    let now = h.whole.mid.predictions in
    let v = scaled at.coding.al (now at.component +ℤ d) in
    let x = value_is b dc at (now at.component) prediction d k (h.whole.predicts at.component ∙ q) in
    let out : are_in_bounds at.coding.bounds true (v ∷ []) ≡ false =
    ap (λ (z : ℤ). are_in_bounds at.coding.bounds true (z ∷ [])) x ∙ dc_beyond at.coding b.low b.high ((prediction +ℤ d) *ℤ pos b.scale) k.low k.high beyond in
    record {
      elements = h.whole.elements;
      told = at.told;
      front = h.front;
      here = h.part;
      rest = [];
      standing = h.whole.mid;
      unit = dc_unit at.component o;
      others = at.others;
      cut = h.split ∙ sym (append-nil (h.front ++ h.part));
      covers = h.whole.covers;
      left = h.whole.left;
      codes = λ t. (let z : true ≡ false = sym t.1 ∙ k.first in cc);
      shows = inr (inr (inr (inl (refl, (difference d, v ∷ [], at.others, h.spells, difference_tells b dc at o (now at.component) d k e.1, out)))));
    }

-- A REFINEMENT

bit_scaled : (al step : ℕ) (next : Bool) → step ≡ 2 ^ al → cond next (pos step) (pos 0) ≡ scaled al (cond next (pos 1) (pos 0))
bit_scaled al step true e = ap pos e ∙ sym (one_scaled (2 ^ al))
bit_scaled al step false e = sym (pos-*ℤ-pos 0 (2 ^ al) ∙ ap pos (omega arith))

refined_fits : (b : DcScan) (o v : ℤ) (next : Bool) → v ≡ o +ℤ cond next (pos b.scale) (pos 0) → b.low ≤ℤ o → (o +ℤ pos b.scale) ≤ℤ b.high → (b.low ≤ℤ v) × (v ≤ℤ b.high)
refined_fits b o v true e l h = (omega (arith, ints, e, l, h), omega (arith, ints, e, l, h))
refined_fits b o v false e l h = (omega (arith, ints, e, l, h), omega (arith, ints, e, l, h))

pub refine_read : (b : DcScan) (o v : ℤ) (next : Bool) → v ≡ o +ℤ cond next (pos b.scale) (pos 0) → b.low ≤ℤ o → (o +ℤ pos b.scale) ≤ℤ b.high
    → AnswersDcRefinement b o next v
refine_read b o v next e l h at p bits k f =
    let r = refined_fits b o v next e l h in
    let sum : v ≡ o +ℤ scaled at.coding.al (cond next (pos 1) (pos 0)) = e ∙ ap (λ (x : ℤ). o +ℤ x) (bit_scaled at.coding.al b.scale next k.scale) in
    one_more at p o (bits ++ next ∷ []) (dc_bit next) (record { front = bits; part = next ∷ []; whole = f; split = refl; spells = refl }) v p
    (o, [], refl, k.refines, refl, ap (λ (x : ℤ). x ∷ []) sum, refl) (dc_within at.coding b.low b.high v k.low k.high r.0 r.1) f.predicts

-- FROM BIT TO BIT

code_part : (at : UnitPlace) (mid : Standing) (o : ℤ) (part : List Bool) (s : DcWork) → s.size ≡ 0 → IsDcPart at mid o part s
    → (part ≡ s.walked) × IsFront (at.coding.dc at.component) s.walked
code_part at mid o part s z (inl h) = (sym h.1, subst (λ x. IsFront (at.coding.dc at.component) x) (sym h.1) h.2.front)
code_part at mid o part s z (inr h) = absurd (omega (arith, h.0, z))

-- one more bit of a code, of which some were walked
in_code : {at : UnitPlace} {p : ℕ → ℤ} {o : ℤ} {bits : List Bool} {s : DcWork} → s.size ≡ 0 → (f : RepresentsDcUnit at p o bits s)
    → ((next : Bool) → bits ++ next ∷ [] ≡ f.front ++ (s.walked ++ next ∷ [])) × IsFront (at.coding.dc at.component) s.walked
in_code {at} {p} {o} {bits} {s} z f =
    let h = code_part at f.whole.mid o f.part s z f.is_part in
    (λ next. part_more bits f.front f.part next f.split ∙ ap (λ x. f.front ++ (x ++ next ∷ [])) h.0, h.1)

in_number : (at : UnitPlace) (mid : Standing) (o : ℤ) (part : List Bool) (s : DcWork) → 1 ≤ s.size → IsDcPart at mid o part s
    → (s.walked ≡ []) × InDifference at.coding mid (dc_unit at.component o) at.others [] part s.size s.extra
in_number at mid o part s z (inl h) = absurd (omega (arith, h.0, z))
in_number at mid o part s z (inr h) = (h.1, h.2)

pub dc_begins : BeginsDc fresh
dc_begins at p o bits f = record {
  front = bits;
  part = [];
  whole = f;
  split = sym (append-nil bits);
  is_part = inl (refl, refl, record { left = f.left; none = refl; front = inl refl; no_code = λ d k. refl });
}

pub dc_more : (b : DcScan) (dc : List Code) (prediction : ℤ) (s mid : DcWork) (next : Bool) → s.size ≡ 0 → mid ≡ record s { walked = mid.walked }
    → BeginsCode dc (s.walked ++ next ∷ []) → mid.walked ≡ s.walked ++ next ∷ [] → AnswersDcBit b dc prediction s next More mid
dc_more b dc prediction s mid next z same begins w at p o bits k q f = record {
  front = f.front;
  part = s.walked ++ next ∷ [];
  whole = f.whole;
  split = (in_code z f).0 next;
  is_part = inl (
    ap (λ (n : DcWork). n.size) same ∙ z,
    w,
    record {
      left = f.whole.left;
      none = refl;
      front = inr (subst (λ t. BeginsCode t (s.walked ++ next ∷ [])) (sym k.dc_codes) begins);
      no_code = λ d r. absurd (clash at.coding.refines r k.first);
    },
  );
}

dc_shows : {at : UnitPlace} {p : ℕ → ℤ} {o : ℤ} {bits : List Bool} {s : DcWork} (next : Bool) (shown : Fault) → at.coding.refines ≡ false → s.size ≡ 0
    → RepresentsDcUnit at p o bits s → ((q : Standing) → BitsShow at.coding q (dc_unit at.component o) at.others shown (s.walked ++ next ∷ []))
    → DataReveals at.coding at.units shown (bits ++ next ∷ [])
dc_shows {at} {p} {o} {bits} {s} next shown first z f h = record {
  elements = f.whole.elements;
  told = at.told;
  front = f.front;
  here = s.walked ++ next ∷ [];
  rest = [];
  standing = f.whole.mid;
  unit = dc_unit at.component o;
  others = at.others;
  cut = (in_code z f).0 next ∙ sym (append-nil (f.front ++ (s.walked ++ next ∷ [])));
  covers = f.whole.covers;
  left = f.whole.left;
  codes = λ t. (let q : true ≡ false = sym t.1 ∙ first in cc);
  shows = h f.whole.mid;
}

pub dc_none : (b : DcScan) (dc : List Code) (prediction : ℤ) (s new : DcWork) (next : Bool) → s.size ≡ 0 → BeginsNoCode dc (s.walked ++ next ∷ [])
    → AnswersDcBit b dc prediction s next (Fails unit_fault.NoCode) new
dc_none b dc prediction s new next z h at p o bits k q f =
    let n : BeginsNoCode (at.coding.dc at.component) (s.walked ++ next ∷ []) = subst (λ t. BeginsNoCode t (s.walked ++ next ∷ [])) (sym k.dc_codes) h in
    dc_shows next fault.NoCode k.first z f
    (λ q. inl (refl, walk_shows (at.coding.dc at.component) s.walked next (due_apart at.coding (dc_unit at.component o) k.sound) (in_code z f).1 n))

pub dc_bad : (b : DcScan) (dc : List Code) (prediction : ℤ) (s new : DcWork) (next : Bool) (symbol : ℕ) → s.size ≡ 0
    → Contains dc (s.walked ++ next ∷ [], symbol) → b.most_category < symbol → AnswersDcBit b dc prediction s next (Fails unit_fault.BadSymbol) new
dc_bad b dc prediction s new next symbol z h bad at p o bits k q f =
    let n : Contains (at.coding.dc at.component) (s.walked ++ next ∷ [], symbol) = subst (λ t. Contains t (s.walked ++ next ∷ [], symbol)) (sym k.dc_codes) h in
    let l : nat_le symbol at.coding.bounds.dc_cat ≡ false = ap (nat_le symbol) k.most ∙ grind (arith, nat_tests) in
    dc_shows next fault.BadSymbol k.first z f (λ q. inr (inl (refl, (symbol, n, l))))

pub dc_begun : (b : DcScan) (dc : List Code) (prediction : ℤ) (s mid new : DcWork) (next : Bool) (size : ℕ) → s.size ≡ 0 → mid.walked ≡ []
    → Contains dc (s.walked ++ next ∷ [], size) → 1 ≤ size → size ≤ b.most_category → new ≡ record mid { size = size; extra = [] }
    → AnswersDcBit b dc prediction s next More new
dc_begun b dc prediction s mid new next size z w known some most begun at p o bits k q f =
    let n : Contains (at.coding.dc at.component) (s.walked ++ next ∷ [], size) = subst (λ t. Contains t (s.walked ++ next ∷ [], size)) (sym k.dc_codes) known in
    subst (λ (x : DcWork). RepresentsDcUnit at p o (bits ++ next ∷ []) x) (sym begun) (record {
      front = f.front;
      part = s.walked ++ next ∷ [];
      whole = f.whole;
      split = (in_code z f).0 next;
      is_part = inr (
        some,
        w,
        record {
          code = s.walked ++ next ∷ [];
          left = f.whole.left;
          none = refl;
          has_dc = refl;
          first = k.first;
          some = omega arith;
          coded = n;
          split = sym (append-nil (s.walked ++ next ∷ []));
          most = omega (arith, most, k.most);
        },
      );
    })

pub dc_wanting : (b : DcScan) (dc : List Code) (prediction : ℤ) (s new : DcWork) (next : Bool) → 1 ≤ s.size → new ≡ record s { extra = s.extra ++ next ∷ [] }
    → AnswersDcBit b dc prediction s next More new
dc_wanting b dc prediction s new next z e at p o bits k q f =
    let j = in_number at f.whole.mid o f.part s z f.is_part in
    let h = j.1 in
    subst (λ (x : DcWork). RepresentsDcUnit at p o (bits ++ next ∷ []) x) (sym e) (record {
      front = f.front;
      part = f.part ++ next ∷ [];
      whole = f.whole;
      split = part_more bits f.front f.part next f.split;
      is_part = inr (
        z,
        j.0,
        record {
          code = h.code;
          left = h.left;
          none = h.none;
          has_dc = h.has_dc;
          first = h.first;
          some = h.some;
          coded = h.coded;
          split = part_more f.part h.code s.extra next h.split;
          most = h.most;
        },
      );
    })

-- a complete difference: 0 by its code alone, others by their last extra bit
pub zero_completes : (b : DcScan) (dc : List Code) (s : DcWork) (next : Bool) (size : ℕ) → s.size ≡ 0 → Contains dc (s.walked ++ next ∷ [], size) → size ≡ 0
    → Completes b dc s next (pos 0)
zero_completes b dc s next size z known is at p o bits k f =
    let code = s.walked ++ next ∷ [] in
    let zero : Contains dc (code, category (pos 0)) = subst (λ (y : ℕ). Contains dc (code, y)) (is ∙ sym zero_category) known in
    let n : Contains (at.coding.dc at.component) (code, category (pos 0)) = subst (λ t. Contains t (code, category (pos 0))) (sym k.dc_codes) zero in (
      record { front = f.front; part = code; whole = f.whole; split = (in_code z f).0 next; spells = (code, n, sym (ap (λ x. code ++ x) zero_bits ∙ append-nil code)) },
      omega (arith, zero_category),
    )

pub number_completes : (b : DcScan) (dc : List Code) (s : DcWork) (next : Bool) (d : ℤ) → 1 ≤ s.size → category d ≡ s.size → extra_bits d ≡ s.extra ++ next ∷ []
    → Completes b dc s next d
number_completes b dc s next d z size extra at p o bits k f =
    let h = (in_number at f.whole.mid o f.part s z f.is_part).1 in
    let coded = subst (λ (y : ℕ). Contains (at.coding.dc at.component) (h.code, y)) (sym size) h.coded in (
      record {
        front = f.front;
        part = f.part ++ next ∷ [];
        whole = f.whole;
        split = part_more bits f.front f.part next f.split;
        spells = (h.code, coded, part_more f.part h.code s.extra next h.split ∙ ap (λ x. h.code ++ x) (sym extra));
      },
      omega (arith, size, h.most),
    )
