-- Values that are skipped, and complete elements.
use Rattle.std.proofs.Common.{◌≡◌, ℕ, ◌+◌, ◌-◌, ◌<◌, ◌≤◌, Bool, true, false, List, [], ◌∷◌, ◌++◌, length, take, drop, refl, sym, ap, ◌∙◌, subst, arith, ℤ, pos, inl, inr, ◌&&◌, ◌≤ℤ◌}
use Rattle.std.proofs.lemmas.List.Elements.{All-tail}
use Rattle.std.specs.Prelude.{int_le, nat_abs, slice_index_or, ◌*◌}
use Rattle.std.specs.List.{Contains}
use Rattle.std.proofs.lemmas.Int.{ints}
use Rattle.std.proofs.lemmas.Grind.{flat_map-append}
use Rattle.std.proofs.lemmas.List.{append_assoc, append-nil, length-append}
use Rattle.jpg_spec.specs.Bits.{bits_of}
use Rattle.jpg_spec.specs.Numbers.{extra_bits, digits}
use Rattle.jpg_spec.specs.Elements.{Element, value, long_run, ends, Coding, UnitLeft, Standing, Covers, Tells, SpellsElement, codes_due, predictions_after, at_start, is_zero, zeros_in, nonzeros_in, grown, corrected, scaled, old_values, going_on, are_in_bounds}
use Rattle.jpg_spec.specs.Parts.{band_unit, InValue, InLong, InEnds}
use Rattle.jpg_spec.specs.ScanFaults.{DataReveals}
use Rattle.jpg_spec.specs.declared.fault.Fault.TheVariants as fault
use Rattle.jpg_spec.proofs.Bits.Values.{covers_then}
use Rattle.jpg_spec.proofs.Bits.Parts.{ac_due, ends_are, ends_fit}
use Rattle.jpg_spec.proofs.Bits.Values.{corrected_push, corrected_zero, going_same}
use Rattle.jpg_spec.proofs.Basics.Common.{bounds_join, in_order, from_test}
use Rattle.jpg_prog_read.specs.declared.stage.Stage.{Stage}
use Rattle.jpg_prog_read.specs.declared.stage.Stage.TheVariants as stage
use Rattle.jpg_prog_read.specs.declared.scan.BandScan.{BandScan}
use Rattle.jpg_prog_read.specs.declared.band.BandStep.{BandStep}
use Rattle.jpg_prog_read.specs.declared.band.BandStep.TheVariants.{More, Done, Fault as Shown}
use Rattle.jpg_prog_read.specs.InWork.{InWork, IsPassing, IsOpenBand, IsEnd, DoesWait, AreRefinable, IsRefinable}
use Rattle.jpg_prog_read.specs.ReaderSteps.{AfterValue, StaysOpen, HasSkipped}
use Rattle.jpg_prog_read.specs.Stands.{UnitPlace, unit_left, IsElementPart, RepresentsBandUnit, IsRest, Answered}
use Rattle.jpg_prog_read.proofs.BandSteps.{same_more, join_more, zeros_zero, nonzeros_zero, zeros_old, nonzeros_old, zeros_skip, length_push, part_of, passed_on}

-- a unit of which this is left, with its first value moved to those that are skipped
left_more : (mid : List UnitLeft) (i : ℕ) (others : List UnitLeft) (passed rest more : List ℤ) (o : ℤ) → rest ≡ o ∷ more → mid ≡ band_unit i (passed ++ rest) ∷ others → mid ≡ band_unit i ((passed ++ o ∷ []) ++ more) ∷ others
left_more mid i others passed rest more o r e = e ∙ ap (λ (l : List ℤ). band_unit i l ∷ others) (ap (λ l. passed ++ l) r ∙ join_more passed o more)

-- the same after units that are passed completely
left_behind : (left whole : List UnitLeft) (i : ℕ) (others : List UnitLeft) (first rest more : List ℤ) (o : ℤ) → rest ≡ o ∷ more → left ≡ whole ++ band_unit i (first ++ rest) ∷ others → left ≡ whole ++ band_unit i ((first ++ o ∷ []) ++ more) ∷ others
left_behind left whole i others first rest more o r e = e ∙ ap (λ (l : List ℤ). whole ++ band_unit i l ∷ others) (ap (λ l. first ++ l) r ∙ join_more first o more)

-- A VALUE IS SKIPPED: a zero, or an old value with its correction

-- the bits of its correction, its new value, and how many zeros it is
record Skip (al : ℕ) : Type 0 where
  old : ℤ
  bits : List Bool
  new : ℤ
  zeros : ℕ
  left : (rest : List ℤ) → zeros_in (old ∷ rest) ≡ zeros + zeros_in rest
  more : (passed : List ℤ) → zeros_in (passed ++ old ∷ []) ≡ zeros_in passed + zeros
  each : (passed : List ℤ) (corrections : List Bool) → nonzeros_in passed ≡ length corrections → nonzeros_in (passed ++ old ∷ []) ≡ length (corrections ++ bits)
  told : (passed : List ℤ) (corrections : List Bool) → nonzeros_in passed ≡ length corrections → corrected al (passed ++ old ∷ []) (corrections ++ bits) ≡ corrected al passed corrections ++ new ∷ []

abbrev a_zero : (al : ℕ) → Skip al
a_zero al = record {
  old = pos 0;
  bits = [];
  new = pos 0;
  zeros = 1;
  left = λ rest. refl;
  more = zeros_zero;
  each = λ passed corrections e. nonzeros_zero passed ∙ e ∙ ap length (sym (append-nil corrections));
  told = λ passed corrections e. ap (corrected al (passed ++ pos 0 ∷ [])) (append-nil corrections) ∙ corrected_zero al passed corrections e;
}

abbrev an_old : (al : ℕ) (o : ℤ) (b : Bool) → is_zero o ≡ false → Skip al
an_old al o b z = record {
  old = o;
  bits = b ∷ [];
  new = grown al b o;
  zeros = 0;
  left = λ rest. omega (arith, zeros_skip o rest z);
  more = λ passed. omega (arith, zeros_old passed o z);
  each = λ passed corrections e. nonzeros_old passed o z ∙ ap (λ n. n + 1) e ∙ sym (length_push corrections b);
  told = λ passed corrections e. corrected_push al passed corrections o b z e;
}

-- the state after it
abbrev after_skip : {al : ℕ} → InWork → Skip al → InWork
after_skip s k = record s { done = s.done ++ k.new ∷ []; rest = drop 1 s.rest; run = s.run - k.zeros }

-- further bits behind two parts, and behind three
behind_two : (bits code after more : List Bool) → bits ≡ code ++ after → bits ++ more ≡ code ++ (after ++ more)
behind_two bits code after more e = ap (λ x. x ++ more) e ∙ append_assoc code after more

behind_three : (bits code extra after more : List Bool) → bits ≡ code ++ (extra ++ after) → bits ++ more ≡ code ++ (extra ++ (after ++ more))
behind_three bits code extra after more e = behind_two bits code (extra ++ after) more e ∙ ap (λ x. code ++ x) (append_assoc extra after more)

value_on : (at : UnitPlace) (mid : Standing) (here : List ℤ) (bits : List Bool) (s : InWork) (k : Skip at.coding.al) → s.rest ≡ k.old ∷ drop 1 s.rest
    → k.zeros ≤ s.run → InValue at.coding mid (unit_left at s) at.others here bits s.run s.due
    → InValue at.coding mid (band_unit at.component (drop 1 s.rest)) at.others (here ++ k.new ∷ []) (bits ++ k.bits) (s.run - k.zeros) s.due
value_on at mid here bits s k r some h = record {
  passed = h.passed ++ k.old ∷ [];
  code = h.code;
  corrections = h.corrections ++ k.bits;
  zeros = h.zeros;
  left = left_more mid.left at.component at.others h.passed s.rest (drop 1 s.rest) k.old r h.left;
  no_dc = h.no_dc;
  coded = h.coded;
  split = behind_three bits h.code (extra_bits s.due) h.corrections k.bits h.split;
  some = h.some;
  most = h.most;
  short = h.short;
  sum = omega (arith, k.more h.passed, h.sum, some);
  room = omega (arith, h.room, ap zeros_in r, k.left (drop 1 s.rest), some);
  each = k.each h.passed h.corrections h.each;
  told = ap (λ l. l ++ k.new ∷ []) h.told ∙ sym (k.told h.passed h.corrections h.each);
}

long_on : (at : UnitPlace) (mid : Standing) (here : List ℤ) (bits : List Bool) (s : InWork) (k : Skip at.coding.al) → s.rest ≡ k.old ∷ drop 1 s.rest
    → k.zeros ≤ s.run → InLong at.coding mid (unit_left at s) at.others here bits s.run
    → InLong at.coding mid (band_unit at.component (drop 1 s.rest)) at.others (here ++ k.new ∷ []) (bits ++ k.bits) (s.run - k.zeros)
long_on at mid here bits s k r some h = record {
  passed = h.passed ++ k.old ∷ [];
  code = h.code;
  corrections = h.corrections ++ k.bits;
  left = left_more mid.left at.component at.others h.passed s.rest (drop 1 s.rest) k.old r h.left;
  no_dc = h.no_dc;
  coded = h.coded;
  split = behind_two bits h.code h.corrections k.bits h.split;
  sum = omega (arith, k.more h.passed, h.sum, some);
  each = k.each h.passed h.corrections h.each;
  told = ap (λ l. l ++ k.new ∷ []) h.told ∙ sym (k.told h.passed h.corrections h.each);
}

ends_on : (at : UnitPlace) (mid : Standing) (here : List ℤ) (bits : List Bool) (s : InWork) (k : Skip at.coding.al) → s.rest ≡ k.old ∷ drop 1 s.rest
    → InEnds at.coding mid (unit_left at s) at.others here bits s.bands
    → InEnds at.coding mid (band_unit at.component (drop 1 s.rest)) at.others (here ++ k.new ∷ []) (bits ++ k.bits) s.bands
ends_on at mid here bits s k r h =
    let passed = old_values h.whole ++ h.first in
    let join : old_values h.whole ++ (h.first ++ k.old ∷ []) ≡ passed ++ k.old ∷ [] = sym (append_assoc (old_values h.whole) h.first (k.old ∷ [])) in
    record {
      unit = h.unit;
      units = h.units;
      whole = h.whole;
      first = h.first ++ k.old ∷ [];
      total = h.total;
      code = h.code;
      corrections = h.corrections ++ k.bits;
      begun = h.begun;
      left = left_behind mid.left h.whole at.component at.others h.first s.rest (drop 1 s.rest) k.old r h.left;
      no_dc = h.no_dc;
      coded = h.coded;
      split = behind_three bits h.code (bits_of (digits h.total - 1) h.total) h.corrections k.bits h.split;
      sum = h.sum;
      some = h.some;
      most = h.most;
      fits = h.fits;
      each = ap nonzeros_in join ∙ k.each passed h.corrections h.each;
      told = ap (λ l. l ++ k.new ∷ []) h.told ∙ sym (ap (λ l. corrected at.coding.al l (h.corrections ++ k.bits)) join ∙ k.told passed h.corrections h.each);
    }

skipped : {at : UnitPlace} {bits : List Bool} {s : InWork} (f : RepresentsBandUnit at bits s) (g : Stage) (k : Skip at.coding.al) → s.stage ≡ g
    → s.rest ≡ k.old ∷ drop 1 s.rest → k.zeros ≤ s.run → are_in_bounds at.coding.bounds false (k.new ∷ []) ≡ true → IsPassing g s
    → RepresentsBandUnit at (bits ++ k.bits) (after_skip s k)
skipped {at} {bits} {s} f stage.Value k e r some ok g =
    let p = part_of f stage.Value e in
    passed_on f (bits ++ k.bits) (f.part ++ k.bits) (after_skip s k) stage.Value k.new e refl (behind_two bits f.front f.part k.bits f.split) ok (p.0, value_on at f.mid f.here f.part s k r some p.1)
skipped {at} {bits} {s} f stage.Long k e r some ok g =
    let p = part_of f stage.Long e in
    passed_on f (bits ++ k.bits) (f.part ++ k.bits) (after_skip s k) stage.Long k.new e refl (behind_two bits f.front f.part k.bits f.split) ok (p.0, long_on at f.mid f.here f.part s k r some p.1)
skipped {at} {bits} {s} f stage.Ends k e r some ok g =
    let p = part_of f stage.Ends e in
    passed_on f (bits ++ k.bits) (f.part ++ k.bits) (after_skip s k) stage.Ends k.new e refl (behind_two bits f.front f.part k.bits f.split) ok
    (p.0, ends_on at f.mid f.here f.part s k r p.1, omega (arith, p.2, ap zeros_in r, k.left (drop 1 s.rest), some))
skipped f other k e r some ok g = absurd g

-- the state with one more value
abbrev pub with_value : InWork → ℤ → InWork
with_value s v = record s { done = s.done ++ v ∷ []; rest = drop 1 s.rest }

abbrev pub with_zero : InWork → InWork
with_zero s = record s { done = s.done ++ pos 0 ∷ []; rest = drop 1 s.rest; run = s.run - 1 }

pub zero_passed : {at : UnitPlace} {bits : List Bool} {s : InWork} (f : RepresentsBandUnit at bits s) (g : Stage) → s.stage ≡ g → s.rest ≡ pos 0 ∷ drop 1 s.rest
    → 1 ≤ s.run → are_in_bounds at.coding.bounds false (pos 0 ∷ []) ≡ true → IsPassing g s → RepresentsBandUnit at bits (with_zero s)
zero_passed {at} {bits} {s} f g e r some ok p = subst (λ b. RepresentsBandUnit at b (with_zero s)) (append-nil bits) (skipped f g (a_zero at.coding.al) e r some ok p)

pub old_corrected : {at : UnitPlace} {bits : List Bool} {s : InWork} (f : RepresentsBandUnit at bits s) (g : Stage) (o : ℤ) (b : Bool) → s.stage ≡ g
    → s.rest ≡ o ∷ drop 1 s.rest → is_zero o ≡ false → are_in_bounds at.coding.bounds false (grown at.coding.al b o ∷ []) ≡ true → IsPassing g s
    → RepresentsBandUnit at (bits ++ b ∷ []) (with_value s (grown at.coding.al b o))
old_corrected {at} {bits} {s} f g o b e r z ok p =
    let run : s.run - 0 ≡ s.run = omega arith in
    subst (λ n. RepresentsBandUnit at (bits ++ b ∷ []) (record s { done = s.done ++ grown at.coding.al b o ∷ []; rest = drop 1 s.rest; run = n })) run (skipped f g (an_old at.coding.al o b z) e r (omega arith) ok p)

-- COMPLETE ELEMENTS

some_going : (i : ℕ) (rest : List ℤ) (others : List UnitLeft) → 1 ≤ length rest → going_on (band_unit i []) rest others ≡ band_unit i rest ∷ others
some_going i [] others h = absurd (omega arith)
some_going i (o ∷ rest) others h = refl

-- The last bits of a unit's state are a complete element of the units that are left, with the values that it tells; and the state after it.
record EndsElement {at : UnitPlace} {bits : List Bool} {s : InWork} (f : RepresentsBandUnit at bits s) (n : InWork) : Type 0 where
  element : Element
  unit : UnitLeft
  units : List UnitLeft
  here : List ℤ
  left : f.mid.left ≡ unit ∷ units
  spells : SpellsElement (codes_due at.coding unit) element f.part
  tells : Tells at.coding (f.mid.predictions unit.component) element unit units here (going_on (band_unit at.component []) n.rest at.others)
  in_bounds : are_in_bounds at.coding.bounds unit.has_dc here ≡ true
  same : f.before ++ here ≡ at.told ++ n.done
  code : n.stage ≡ stage.Code
  quiet : n.walked ≡ []

module _ {at : UnitPlace} {bits : List Bool} {s : InWork} (f : RepresentsBandUnit at bits s) where
  -- the standing after it
  abbrev standing_of : (n : InWork) → EndsElement f n → Standing
  standing_of n e = record { predictions = predictions_after f.mid.predictions e.unit.component e.element; left = going_on (band_unit at.component []) n.rest at.others }

  covers_whole : (n : InWork) (e : EndsElement f n)
      → Covers at.coding (at_start at.units) (f.elements ++ e.element ∷ []) (f.before ++ e.here) (f.front ++ f.part) (standing_of n e)
  covers_whole n e =
      covers_then at.coding (at_start at.units) f.mid (standing_of n e) f.elements (e.element ∷ []) f.before e.here f.front f.part f.covers
      (e.unit, e.units, e.here, going_on (band_unit at.component []) n.rest at.others, [], f.part, [], e.left, sym (append-nil e.here), sym (append-nil f.part), e.spells, e.tells, e.in_bounds, (refl, refl, refl))

  after_whole : (step : BandStep) (n : InWork) → EndsElement f n → AfterValue step n → Answered at bits step n
  after_whole More n e after = record {
    elements = f.elements ++ e.element ∷ [];
    before = f.before ++ e.here;
    front = f.front ++ f.part;
    mid = standing_of n e;
    here = [];
    part = [];
    covers = covers_whole n e;
    split = f.split ∙ sym (append-nil (f.front ++ f.part));
    same = append-nil (f.before ++ e.here) ∙ e.same;
    in_bounds = refl;
    is_part = subst (λ g. IsElementPart at (standing_of n e) [] [] n g) (sym e.code)
        (e.quiet, record { left = some_going at.component n.rest at.others after; none = refl; front = inl refl; no_code = λ d k. refl });
  }
  after_whole Done n e after = record {
    elements = f.elements ++ e.element ∷ [];
    before = f.before ++ e.here;
    front = f.front ++ f.part;
    mid = standing_of n e;
    here = [];
    part = [];
    covers = covers_whole n e;
    split = f.split ∙ sym (append-nil (f.front ++ f.part));
    same = append-nil (f.before ++ e.here) ∙ e.same;
    in_bounds = refl;
    quiet = e.quiet;
    is_rest = subst (λ g. IsRest at.coding (standing_of n e) at.others [] [] n g) (sym e.code) (ap (λ r. going_on (band_unit at.component []) r at.others) after, refl, refl);
  }
  after_whole (Shown x) n e after = absurd after

-- the state after a complete element that ends with this value
abbrev pub after_value : InWork → ℤ → InWork
after_value s v = record s { done = s.done ++ v ∷ []; rest = drop 1 s.rest; stage = stage.Code }

bounds_out : (c : Coding) (xs : List ℤ) (v : ℤ) → are_in_bounds c.bounds false (v ∷ []) ≡ false → are_in_bounds c.bounds false (xs ++ v ∷ []) ≡ false
bounds_out c [] v h = h
bounds_out c (x ∷ xs) v h = last (int_le (pos (nat_abs x)) c.bounds.ac) (are_in_bounds c.bounds false (xs ++ v ∷ [])) (bounds_out c xs v h)
  where
    last : (a b : Bool) → b ≡ false → (a && b) ≡ false
    last true b e = e
    last false b e = refl

-- if one band is left to end and is skipped, all its values are
all_passed : (i bands : ℕ) (others whole : List UnitLeft) (first rest : List ℤ) → bands ≡ 1 → rest ≡ [] → old_values (whole ++ take bands (band_unit i (first ++ rest) ∷ others)) ≡ old_values whole ++ first
all_passed i bands others whole first rest one r =
    ap (λ n. old_values (whole ++ take n (band_unit i (first ++ rest) ∷ others))) one ∙ flat_map-append (λ (v : UnitLeft). v.old) whole (band_unit i (first ++ rest) ∷ [])
    ∙ ap (λ l. old_values whole ++ l) (append-nil (first ++ rest) ∙ ap (λ l. first ++ l) r ∙ append-nil first)

module _ {at : UnitPlace} {bits : List Bool} {s : InWork} (f : RepresentsBandUnit at bits s) where
  -- A VALUE

  value_tells : (q : ℤ) → s.rest ≡ pos 0 ∷ drop 1 s.rest → s.run ≡ 0 → (h : InValue at.coding f.mid (unit_left at s) at.others f.here f.part s.run s.due)
      → Tells at.coding q (value h.zeros s.due h.corrections) (band_unit at.component (h.passed ++ s.rest)) at.others (f.here ++ scaled at.coding.al s.due ∷ []) (going_on (band_unit at.component []) (drop 1 s.rest) at.others)
  value_tells q r z h = (
    h.passed,
    drop 1 s.rest,
    refl,
    h.some,
    h.most,
    h.short,
    ap (λ l. h.passed ++ l) r,
    omega (arith, h.sum, z),
    h.each,
    ap (λ l. l ++ scaled at.coding.al s.due ∷ []) h.told,
    going_same (band_unit at.component []) (band_unit at.component (h.passed ++ s.rest)) refl (drop 1 s.rest) at.others,
  )

  pub value_whole : (step : BandStep) → s.stage ≡ stage.Value → s.rest ≡ pos 0 ∷ drop 1 s.rest → s.run ≡ 0
      → are_in_bounds at.coding.bounds false (scaled at.coding.al s.due ∷ []) ≡ true → AfterValue step (after_value s (scaled at.coding.al s.due))
      → Answered at bits step (after_value s (scaled at.coding.al s.due))
  value_whole step e r z ok after =
      let p = part_of f stage.Value e in let h = p.1 in let v = scaled at.coding.al s.due in
      let last : EndsElement f (after_value s v) =
      record {
        element = value h.zeros s.due h.corrections;
        unit = band_unit at.component (h.passed ++ s.rest);
        units = at.others;
        here = f.here ++ v ∷ [];
        left = h.left;
        spells = (h.code, h.coded, h.split);
        tells = value_tells (f.mid.predictions at.component) r z h;
        in_bounds = bounds_join at.coding f.here (v ∷ []) f.in_bounds ok;
        same = same_more f.before f.here at.told s.done v f.same;
        code = refl;
        quiet = p.0;
      } in
      after_whole f step (after_value s v) last after

  pub value_out : s.stage ≡ stage.Value → s.rest ≡ pos 0 ∷ drop 1 s.rest → s.run ≡ 0
      → are_in_bounds at.coding.bounds false (scaled at.coding.al s.due ∷ []) ≡ false → DataReveals at.coding at.units fault.CoefRange bits
  value_out e r z out =
      let h = (part_of f stage.Value e).1 in
      record {
        elements = f.elements;
        told = f.before;
        front = f.front;
        here = f.part;
        rest = [];
        standing = f.mid;
        unit = band_unit at.component (h.passed ++ s.rest);
        others = at.others;
        cut = f.split ∙ sym (append-nil (f.front ++ f.part));
        covers = f.covers;
        left = h.left;
        codes = λ k. (let z : false ≡ true = k.0 in cc);
        shows = inr (inr (inr (inl (
          refl,
          (
            value h.zeros s.due h.corrections,
            f.here ++ scaled at.coding.al s.due ∷ [],
            going_on (band_unit at.component []) (drop 1 s.rest) at.others,
            (h.code, h.coded, h.split),
            value_tells (f.mid.predictions at.component) r z h,
            bounds_out at.coding f.here (scaled at.coding.al s.due) out,
          ),
        ))));
      }

  -- it is never expected with nothing left
  pub value_not_ended : s.stage ≡ stage.Value → s.rest ≡ [] → ⊥
  value_not_ended e r = omega (arith, ((part_of f stage.Value e).1).room, ap zeros_in r)

  -- SIXTEEN ZEROS: the last of them, or the end of the band before it

  pub long_whole : (step : BandStep) → s.stage ≡ stage.Long → s.rest ≡ pos 0 ∷ drop 1 s.rest → s.run ≡ 0
      → are_in_bounds at.coding.bounds false (pos 0 ∷ []) ≡ true → AfterValue step (after_value s (pos 0)) → Answered at bits step (after_value s (pos 0))
  long_whole step e r z ok after =
      let p = part_of f stage.Long e in let h = p.1 in
      let u = band_unit at.component (h.passed ++ s.rest) in
      let last : EndsElement f (after_value s (pos 0)) =
      record {
        element = long_run h.corrections;
        unit = u;
        units = at.others;
        here = f.here ++ pos 0 ∷ [];
        left = h.left;
        spells = (h.code, h.coded, h.split);
        tells = (
          h.passed ++ pos 0 ∷ [],
          drop 1 s.rest,
          refl,
          inl (h.passed, ap (λ l. h.passed ++ l) r, omega (arith, h.sum, z), refl),
          nonzeros_zero h.passed ∙ h.each,
          ap (λ l. l ++ pos 0 ∷ []) h.told ∙ sym (corrected_zero at.coding.al h.passed h.corrections h.each),
          going_same (band_unit at.component []) u refl (drop 1 s.rest) at.others,
        );
        in_bounds = bounds_join at.coding f.here (pos 0 ∷ []) f.in_bounds ok;
        same = same_more f.before f.here at.told s.done (pos 0) f.same;
        code = refl;
        quiet = p.0;
      } in
      after_whole f step (after_value s (pos 0)) last after

  pub long_ended : s.stage ≡ stage.Long → s.rest ≡ [] → Answered at bits Done (record s { stage = stage.Code })
  long_ended e r =
      let p = part_of f stage.Long e in let h = p.1 in
      let u = band_unit at.component (h.passed ++ s.rest) in
      let w : h.passed ++ s.rest ≡ h.passed = ap (λ l. h.passed ++ l) r ∙ append-nil h.passed in
      let n : InWork = record s { stage = stage.Code } in
      let last : EndsElement f n =
      record {
        element = long_run h.corrections;
        unit = u;
        units = at.others;
        here = f.here;
        left = h.left;
        spells = (h.code, h.coded, h.split);
        tells = (h.passed, [], refl, inr (w, omega (arith, h.sum), refl), h.each, h.told, ap (λ l. going_on (band_unit at.component []) l at.others) r);
        in_bounds = f.in_bounds;
        same = f.same;
        code = refl;
        quiet = p.0;
      } in
      after_whole f Done n last r

  -- ENDS OF BANDS

  -- while they are read, their run isn't 0
  pub ends_run : s.stage ≡ stage.Ends → s.run ≡ 0 → ⊥
  ends_run e z = omega (arith, (part_of f stage.Ends e).2, z)

  -- the last one
  pub ends_ended : s.stage ≡ stage.Ends → s.rest ≡ [] → s.bands ≡ 1 → Answered at bits Done (record s { bands = 0; stage = stage.Code })
  ends_ended e r one =
      let p = part_of f stage.Ends e in let h = p.1 in
      let are = ends_are at.coding f.mid (unit_left at s) at.others f.here f.part s.bands h in
      let all : old_values (take h.total (h.unit ∷ h.units)) ≡ old_values h.whole ++ h.first = ap old_values are.0 ∙ all_passed at.component s.bands at.others h.whole h.first s.rest one r in
      let left : at.others ≡ drop h.total (h.unit ∷ h.units) = sym (are.1 ∙ ap (λ n. drop n (band_unit at.component (h.first ++ s.rest) ∷ at.others)) one) in
      let n : InWork = record s { bands = 0; stage = stage.Code } in
      let last : EndsElement f n =
      record {
        element = ends h.total h.corrections;
        unit = h.unit;
        units = h.units;
        here = f.here;
        left = h.begun;
        spells = (h.code, subst (λ t. Contains t (h.code, 16 * (digits h.total - 1))) (sym (ac_due at.coding h.unit h.no_dc)) h.coded, h.split);
        tells = (
          h.no_dc,
          omega (arith, h.sum, h.some),
          h.most,
          ends_fit at.coding f.mid (unit_left at s) at.others f.here f.part s.bands h,
          ap nonzeros_in all ∙ h.each,
          h.told ∙ ap (λ l. corrected at.coding.al l h.corrections) (sym all),
          ap (λ l. going_on (band_unit at.component []) l at.others) r ∙ left,
        );
        in_bounds = ap (λ b. are_in_bounds at.coding.bounds b f.here) h.no_dc ∙ f.in_bounds;
        same = f.same;
        code = refl;
        quiet = p.0;
      } in
      after_whole f Done n last r

-- one more unit is passed completely
unit_passed : (i : ℕ) (whole : List UnitLeft) (first rest : List ℤ) → rest ≡ [] → old_values (whole ++ band_unit i (first ++ rest) ∷ []) ++ [] ≡ old_values whole ++ first
unit_passed i whole first rest r =
    append-nil (old_values (whole ++ band_unit i (first ++ rest) ∷ [])) ∙ flat_map-append (λ (v : UnitLeft). v.old) whole (band_unit i (first ++ rest) ∷ [])
    ∙ ap (λ l. old_values whole ++ l) (append-nil (first ++ rest) ∙ ap (λ l. first ++ l) r ∙ append-nil first)

-- so that the next one is begun
next_begun : (at : UnitPlace) (mid : Standing) (s : InWork) (next : UnitLeft) (others : List UnitLeft) (here : List ℤ) (bits : List Bool) → s.rest ≡ []
    → 2 ≤ s.bands → InEnds at.coding mid (unit_left at s) (next ∷ others) here bits s.bands → InEnds at.coding mid next others here bits (s.bands - 1)
next_begun at mid s next others here bits r some h =
    let w = band_unit at.component (h.first ++ s.rest) in
    let passed = unit_passed at.component h.whole h.first s.rest r in
    record {
      unit = h.unit;
      units = h.units;
      whole = h.whole ++ w ∷ [];
      first = [];
      total = h.total;
      code = h.code;
      corrections = h.corrections;
      begun = h.begun;
      left = h.left ∙ sym (append_assoc h.whole (w ∷ []) (next ∷ others));
      no_dc = h.no_dc;
      coded = h.coded;
      split = h.split;
      sum = omega (arith, h.sum, length-append h.whole (w ∷ []), some);
      some = omega (arith, some);
      most = h.most;
      fits = omega (arith, h.fits, some);
      each = ap nonzeros_in passed ∙ h.each;
      told = h.told ∙ ap (λ l. corrected at.coding.al l h.corrections) (sym passed);
    }

pub ends_go_on : {at : UnitPlace} {bits : List Bool} {s : InWork} (f : RepresentsBandUnit at bits s) → s.stage ≡ stage.Ends → s.rest ≡ [] → 2 ≤ s.bands
    → Answered at bits Done (record s { bands = s.bands - 1 })
ends_go_on {at} {bits} {s} f e r some =
    let p = part_of f stage.Ends e in
    let n : InWork = record s { bands = s.bands - 1 } in
    record {
      elements = f.elements;
      before = f.before;
      front = f.front;
      mid = f.mid;
      here = f.here;
      part = f.part;
      covers = f.covers;
      split = f.split;
      same = f.same;
      in_bounds = f.in_bounds;
      quiet = p.0;
      is_rest = subst (λ g. IsRest at.coding f.mid at.others f.here f.part n g) (sym e) (by at.others p.1);
    }
  where
    by : (others : List UnitLeft) → InEnds at.coding f.mid (unit_left at s) others f.here f.part s.bands
        → (next : UnitLeft) × (more : List UnitLeft) × (others ≡ next ∷ more) × InEnds at.coding f.mid next more f.here f.part (s.bands - 1)
    by [] h = absurd (omega (arith, h.fits, some))
    by (next ∷ more) h = (next, more, refl, next_begun at f.mid s next more f.here f.part r some h)

-- BOUNDS

pub in_limit : (c : Coding) (limit : ℕ) (x : ℤ) → c.bounds.ac ≡ pos limit → nat_abs x ≤ limit → are_in_bounds c.bounds false (x ∷ []) ≡ true
in_limit c limit x e h =
    let o : pos (nat_abs x) ≤ℤ pos limit = omega (arith, ints) in
    ap (λ (m : ℤ). int_le (pos (nat_abs x)) m && true) e ∙ ap (λ b. b && true) (in_order (pos (nat_abs x)) (pos limit) o)

pub out_limit : (c : Coding) (limit : ℕ) (x : ℤ) → c.bounds.ac ≡ pos limit → limit < nat_abs x → are_in_bounds c.bounds false (x ∷ []) ≡ false
out_limit c limit x e h = ap (λ (m : ℤ). int_le (pos (nat_abs x)) m && true) e ∙ not_true (int_le (pos (nat_abs x)) (pos limit)) (λ t. no (from_test (pos (nat_abs x)) (pos limit) t))
  where
    not_true : (b : Bool) → (b ≡ true → ⊥) → (b && true) ≡ false
    not_true true h = absurd (h refl)
    not_true false h = refl

    no : pos (nat_abs x) ≤ℤ pos limit → ⊥
    no k = omega (arith, ints, k, h)

pub zero_in : (c : Coding) (limit : ℕ) → c.bounds.ac ≡ pos limit → are_in_bounds c.bounds false (pos 0 ∷ []) ≡ true
zero_in c limit e = in_limit c limit (pos 0) e (omega arith)

-- WHETHER THE UNIT CONTINUES

pub opened : (b : BandScan) (step : BandStep) (s : InWork) → s.stage ≡ stage.Code → AreRefinable b s.rest → AfterValue step s → StaysOpen b step s
opened b More s e fits after = record { left = after; fits = fits; waits = subst (λ g. DoesWait g s) (sym e) tt }
opened b Done s e fits after = record { whole = after; ended = subst (λ g. IsEnd g s) (sym e) tt }
opened b (Shown f) s e fits after = absurd after

pub fits_more : (b : BandScan) (rest : List ℤ) → AreRefinable b rest → AreRefinable b (drop 1 rest)
fits_more b [] h = h
fits_more b (o ∷ rest) h = All-tail (IsRefinable b) o rest h

-- zeros one after another
pub passing_same : (g : Stage) (s n : InWork) → n.bands ≡ s.bands → IsPassing g s → IsPassing g n
passing_same stage.Ends s n e h = omega (arith, e, h)
passing_same other s n e h = h

pub passing_more : (s n : InWork) → n ≡ with_zero s → IsPassing s.stage s → IsPassing n.stage n
passing_more s n e h = subst (λ (x : InWork). IsPassing x.stage x) (sym e) (passing_same s.stage s (with_zero s) refl h)

pub still_passing : (o n : InWork) → HasSkipped o n → IsPassing o.stage o → IsPassing n.stage n
still_passing o n h p = subst (λ g. IsPassing g n) (sym h.stage) (passing_same o.stage o n h.bands p)

-- an old value that isn't zero waits for its correction
waits_old : (g : Stage) (s : InWork) → is_zero (slice_index_or s.rest 0 (pos 0)) ≡ false → IsPassing g s → DoesWait g s
waits_old stage.Value s z p = z
waits_old stage.Long s z p = z
waits_old stage.Ends s z p = (z, p)
waits_old other s z p = absurd p

pub old_opened : (b : BandScan) (o n : InWork) (v : ℤ) → HasSkipped o n → AreRefinable b o.rest → IsPassing o.stage o → 1 ≤ length n.rest → n.rest ≡ v ∷ drop 1 n.rest → is_zero v ≡ false → IsOpenBand b n
old_opened b o n v h fits p some r z =
    record { left = some; fits = h.fits b fits; waits = waits_old n.stage n (ap (λ (l : List ℤ). is_zero (slice_index_or l 0 (pos 0))) r ∙ z) (still_passing o n h p) }
