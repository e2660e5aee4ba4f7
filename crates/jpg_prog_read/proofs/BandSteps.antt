-- From the current unit of a band to the answer at the next bit.
use Rattle.std.proofs.Common.{◌≡◌, ℕ, ◌+◌, ◌-◌, ◌*◌, ◌/◌, ◌%◌, ◌^◌, ◌<◌, ◌≤◌, Bool, true, false, cond, List, [], ◌∷◌, ◌++◌, length, refl, sym, ap, ◌∙◌, subst, arith, ℤ, pos, inl, inr}
use Rattle.std.specs.Prelude.{nat_le}
use Rattle.std.specs.List.{Contains}
use Rattle.std.proofs.lemmas.Bool.Decides.{nat_tests}
use Rattle.std.proofs.lemmas.List.{append_assoc, append-nil, length-append}
use Rattle.jpg_spec.specs.Bits.{bits_of}
use Rattle.jpg_spec.specs.Codes.{Code}
use Rattle.jpg_spec.specs.Numbers.{category, extra_bits, digits}
use Rattle.jpg_spec.specs.Elements.{Coding, UnitLeft, Standing, is_zero, zeros_in, nonzeros_in, are_in_bounds}
use Rattle.jpg_spec.specs.Parts.{BeginsCode, IsFront, band_unit, InEnds}
use Rattle.jpg_spec.specs.ScanFaults.{BitsShow, DataReveals}
use Rattle.jpg_spec.specs.declared.fault.Fault.{Fault}
use Rattle.jpg_spec.specs.declared.fault.Fault.TheVariants as fault
use Rattle.jpg_spec.proofs.Bits.Values.{zeros_push, nonzeros_push}
use Rattle.jpg_spec.proofs.Basics.Common.{bounds_join, part_more, and_false}
use Rattle.jpg_spec.proofs.Bits.Once.{head_inj}
use Rattle.jpg_spec.proofs.Basics.Small.{one_digit}
use Rattle.jpg_huff.specs.Walk.{BeginsNoCode}
use Rattle.jpg_huff.proofs.Fronts.{due_apart, walk_shows}
use Rattle.jpg_prog_read.specs.declared.stage.Stage.{Stage}
use Rattle.jpg_prog_read.specs.declared.stage.Stage.TheVariants as stage
use Rattle.jpg_prog_read.specs.declared.scan.BandScan.{BandScan}
use Rattle.jpg_prog_read.specs.InWork.{InWork, with_band}
use Rattle.jpg_prog_read.specs.Stands.{IsCodingOf, UnitPlace, unit_left, IsElementPart, IsRest, RepresentsBandUnit, BetweenUnits}

-- LISTS

pub same_more : (before here told done : List ℤ) (x : ℤ) → before ++ here ≡ told ++ done → before ++ (here ++ x ∷ []) ≡ told ++ (done ++ x ∷ [])
same_more before here told done x e = sym (append_assoc before here (x ∷ [])) ∙ ap (λ l. l ++ x ∷ []) e ∙ append_assoc told done (x ∷ [])

pub join_more : (passed : List ℤ) (o : ℤ) (rest : List ℤ) → passed ++ o ∷ rest ≡ (passed ++ o ∷ []) ++ rest
join_more passed o rest = sym (append_assoc passed (o ∷ []) rest)

-- a further zero, and a further correction
pub zeros_zero : (passed : List ℤ) → zeros_in (passed ++ pos 0 ∷ []) ≡ zeros_in passed + 1
zeros_zero passed = zeros_push passed (pos 0)

pub nonzeros_zero : (passed : List ℤ) → nonzeros_in (passed ++ pos 0 ∷ []) ≡ nonzeros_in passed
nonzeros_zero passed = nonzeros_push passed (pos 0) ∙ (let e : nonzeros_in passed + 0 ≡ nonzeros_in passed = omega arith in e)

pub zeros_old : (passed : List ℤ) (o : ℤ) → is_zero o ≡ false → zeros_in (passed ++ o ∷ []) ≡ zeros_in passed
zeros_old passed o z = zeros_push passed o ∙ ap (λ b. zeros_in passed + cond b 1 0) z ∙ (let e : zeros_in passed + 0 ≡ zeros_in passed = omega arith in e)

pub nonzeros_old : (passed : List ℤ) (o : ℤ) → is_zero o ≡ false → nonzeros_in (passed ++ o ∷ []) ≡ nonzeros_in passed + 1
nonzeros_old passed o z = nonzeros_push passed o ∙ ap (λ b. nonzeros_in passed + cond b 0 1) z

pub zeros_skip : (o : ℤ) (rest : List ℤ) → is_zero o ≡ false → zeros_in (o ∷ rest) ≡ zeros_in rest
zeros_skip o rest z = ap (λ b. cond b 1 0 + zeros_in rest) z ∙ (let e : 0 + zeros_in rest ≡ zeros_in rest = omega arith in e)

pub length_push : (bits : List Bool) (b : Bool) → length (bits ++ b ∷ []) ≡ length bits + 1
length_push bits b = length-append bits (b ∷ [])

no_bits : bits_of (digits 1 - 1) 1 ≡ []
unfolding digits bits_of
no_bits = refl

-- REPRESENTING BITS

-- the codes of the unit's component are these
coded : {b : BandScan} {ac : List Code} {c : Coding} {i : ℕ} (w : List Bool) (symbol : ℕ) → IsCodingOf b ac c i → Contains ac (w, symbol)
    → Contains (c.ac i) (w, symbol)
coded w symbol k h = subst (λ t. Contains t (w, symbol)) (sym k.ac_codes) h

-- FROM THE BITS OF A UNIT, and its state
module _ {at : UnitPlace} {bits : List Bool} {s : InWork} (f : RepresentsBandUnit at bits s) where
  -- the part of an element that the machine has at this stage
  pub part_of : (g : Stage) → s.stage ≡ g → IsElementPart at f.mid f.here f.part s g
  part_of g e = subst (λ x. IsElementPart at f.mid f.here f.part s x) e f.is_part

  -- that part is some bits of a code, or none
  code_of : s.stage ≡ stage.Code
      → (f.mid.left ≡ unit_left at s ∷ at.others) × (f.here ≡ []) × ((next : Bool) → bits ++ next ∷ [] ≡ f.front ++ (s.walked ++ next ∷ [])) × IsFront (at.coding.ac at.component) s.walked
  code_of e =
      let p = part_of stage.Code e in (
        p.1.left,
        p.1.none,
        λ next. part_more bits f.front f.part next f.split ∙ ap (λ x. f.front ++ (x ++ next ∷ [])) (sym p.0),
        subst (λ x. IsFront (at.coding.ac at.component) x) (sym p.0) p.1.front,
      )

  -- the same complete elements, and another part of the next
  follows : (more part : List Bool) (here : List ℤ) (n : InWork) (g : Stage) → n.stage ≡ g → more ≡ f.front ++ part → f.before ++ here ≡ at.told ++ n.done
      → are_in_bounds at.coding.bounds false here ≡ true → IsElementPart at f.mid here part n g → RepresentsBandUnit at more n
  follows more part here n g e split same ok p = record {
    elements = f.elements;
    before = f.before;
    front = f.front;
    mid = f.mid;
    here = here;
    part = part;
    covers = f.covers;
    split = split;
    same = same;
    in_bounds = ok;
    is_part = subst (λ x. IsElementPart at f.mid here part n x) (sym e) p;
  }

  -- with the same values, and with one more
  further : (more part : List Bool) (n : InWork) (g : Stage) → n.stage ≡ g → n.done ≡ s.done → more ≡ f.front ++ part → IsElementPart at f.mid f.here part n g
      → RepresentsBandUnit at more n
  further more part n g e done split p = follows more part f.here n g e split (f.same ∙ ap (λ l. at.told ++ l) (sym done)) f.in_bounds p

  pub passed_on : (more part : List Bool) (n : InWork) (g : Stage) (v : ℤ) → n.stage ≡ g → n.done ≡ s.done ++ v ∷ [] → more ≡ f.front ++ part
      → are_in_bounds at.coding.bounds false (v ∷ []) ≡ true → IsElementPart at f.mid (f.here ++ v ∷ []) part n g → RepresentsBandUnit at more n
  passed_on more part n g v e done split ok p =
      follows more part (f.here ++ v ∷ []) n g e split (same_more f.before f.here at.told s.done v f.same ∙ ap (λ l. at.told ++ l) (sym done)) (bounds_join at.coding f.here (v ∷ []) f.in_bounds ok) p

  -- one more bit of a code
  pub code_more : (next : Bool) → s.stage ≡ stage.Code → BeginsCode (at.coding.ac at.component) (s.walked ++ next ∷ [])
      → RepresentsBandUnit at (bits ++ next ∷ []) (record s { walked = s.walked ++ next ∷ [] })
  code_more next e h =
      let p = code_of e in
      further (bits ++ next ∷ []) (s.walked ++ next ∷ []) (record s { walked = s.walked ++ next ∷ [] }) stage.Code e refl (p.2 next)
      (refl, record { left = p.0; none = p.1; front = inr h; no_code = λ d k. (let z : false ≡ true = d in cc) })

  -- the fault of the bits of a code
  code_shows : (next : Bool) (shown : Fault) → s.stage ≡ stage.Code
      → ((q : Standing) → BitsShow at.coding q (unit_left at s) at.others shown (s.walked ++ next ∷ []))
      → DataReveals at.coding at.units shown (bits ++ next ∷ [])
  code_shows next shown e h =
      let p = code_of e in
      record {
        elements = f.elements;
        told = f.before;
        front = f.front;
        here = s.walked ++ next ∷ [];
        rest = [];
        standing = f.mid;
        unit = unit_left at s;
        others = at.others;
        cut = p.2 next ∙ sym (append-nil (f.front ++ (s.walked ++ next ∷ [])));
        covers = f.covers;
        left = p.0;
        codes = λ k. (let z : false ≡ true = k.0 in cc);
        shows = h f.mid;
      }

  pub code_none : {b : BandScan} {ac : List Code} (next : Bool) → IsCodingOf b ac at.coding at.component → s.stage ≡ stage.Code
      → BeginsNoCode ac (s.walked ++ next ∷ []) → DataReveals at.coding at.units fault.NoCode (bits ++ next ∷ [])
  code_none next k e h =
      let n : BeginsNoCode (at.coding.ac at.component) (s.walked ++ next ∷ []) = subst (λ t. BeginsNoCode t (s.walked ++ next ∷ [])) (sym k.ac_codes) h in
      code_shows next fault.NoCode e (λ q. inl (refl, walk_shows (at.coding.ac at.component) s.walked next (due_apart at.coding (unit_left at s) k.sound) (code_of e).3 n))

  pub code_bad : {b : BandScan} {ac : List Code} (next : Bool) (symbol : ℕ) → IsCodingOf b ac at.coding at.component → s.stage ≡ stage.Code
      → Contains ac (s.walked ++ next ∷ [], symbol) → b.most_category < symbol % 16 → DataReveals at.coding at.units fault.BadSymbol (bits ++ next ∷ [])
  code_bad next symbol k e h bad =
      let l : nat_le (symbol % 16) at.coding.most_category ≡ false = ap (nat_le (symbol % 16)) k.categories ∙ grind (arith, nat_tests) in
      code_shows next fault.BadSymbol e (λ q. inr (inl (refl, (symbol, coded (s.walked ++ next ∷ []) symbol k h, and_false (nat_le (symbol % 16) at.coding.most_category) _ l))))

  pub code_bad_run : {b : BandScan} {ac : List Code} (next : Bool) (symbol : ℕ) → IsCodingOf b ac at.coding at.component → s.stage ≡ stage.Code
      → Contains ac (s.walked ++ next ∷ [], symbol) → (1 ≤ symbol % 16) × (symbol % 16 ≤ b.most_category) × (zeros_in s.rest ≤ symbol / 16)
      → DataReveals at.coding at.units fault.BadRun (bits ++ next ∷ [])
  code_bad_run {b} {ac} next symbol k e h bad =
      let code = s.walked ++ next ∷ [] in
      let j : symbol ≡ 16 * (symbol / 16) + symbol % 16 = omega arith in
      let m = coded code (16 * (symbol / 16) + symbol % 16) k (subst (λ (y : ℕ). Contains ac (code, y)) j h) in
      code_shows next fault.BadRun e (λ q. inr (inr (inl (refl, (symbol / 16, symbol % 16, m, refl, bad.0, omega (arith, bad.1, k.categories), bad.2)))))

  -- the code of a value, and that of ends of bands, is complete
  pub number_begun : {b : BandScan} {ac : List Code} (next : Bool) (run size : ℕ) → IsCodingOf b ac at.coding at.component → s.stage ≡ stage.Code
      → Contains ac (s.walked ++ next ∷ [], 16 * run + size) → 1 ≤ size → size ≤ b.most_category → run ≤ 15 → run < zeros_in s.rest
      → RepresentsBandUnit at (bits ++ next ∷ []) (record s { walked = []; stage = stage.Number; run = run; size = size; extra = [] })
  number_begun next run size k e h some most short room =
      let p = code_of e in let code = s.walked ++ next ∷ [] in
      further (bits ++ next ∷ []) code (record s { walked = []; stage = stage.Number; run = run; size = size; extra = [] }) stage.Number refl refl (p.2 next)
      (refl, record { code = code; left = p.0; none = p.1; no_dc = refl; coded = coded code (16 * run + size) k h; split = sym (append-nil code); some = some; most = omega (arith, most, k.categories); short = short; room = room })

  pub count_begun : {b : BandScan} {ac : List Code} (next : Bool) (size run : ℕ) → IsCodingOf b ac at.coding at.component → s.stage ≡ stage.Code
      → Contains ac (s.walked ++ next ∷ [], 16 * size) → size ≤ 14
      → RepresentsBandUnit at (bits ++ next ∷ []) (record s { walked = []; stage = stage.Count; run = run; size = size; extra = [] })
  count_begun next size run k e h most =
      let p = code_of e in let code = s.walked ++ next ∷ [] in
      further (bits ++ next ∷ []) code (record s { walked = []; stage = stage.Count; run = run; size = size; extra = [] }) stage.Count refl refl (p.2 next)
      (refl, record { code = code; left = p.0; none = p.1; no_dc = refl; coded = coded code (16 * size) k h; split = sym (append-nil code); most = omega (arith, most, k.runs) })

  -- one more extra bit
  pub number_more : (next : Bool) → s.stage ≡ stage.Number → RepresentsBandUnit at (bits ++ next ∷ []) (record s { extra = s.extra ++ next ∷ [] })
  number_more next e =
      let p = part_of stage.Number e in let q = p.1 in
      further (bits ++ next ∷ []) (f.part ++ next ∷ []) (record s { extra = s.extra ++ next ∷ [] }) stage.Number e refl (part_more bits f.front f.part next f.split)
      (p.0, record { code = q.code; left = q.left; none = q.none; no_dc = q.no_dc; coded = q.coded; split = part_more f.part q.code s.extra next q.split; some = q.some; most = q.most; short = q.short; room = q.room })

  pub count_more : (next : Bool) → s.stage ≡ stage.Count → RepresentsBandUnit at (bits ++ next ∷ []) (record s { extra = s.extra ++ next ∷ [] })
  count_more next e =
      let p = part_of stage.Count e in let q = p.1 in
      further (bits ++ next ∷ []) (f.part ++ next ∷ []) (record s { extra = s.extra ++ next ∷ [] }) stage.Count e refl (part_more bits f.front f.part next f.split)
      (p.0, record { code = q.code; left = q.left; none = q.none; no_dc = q.no_dc; coded = q.coded; split = part_more f.part q.code s.extra next q.split; most = q.most })

  -- the number of a value is complete
  pub value_begun : (v : ℤ) → s.stage ≡ stage.Number → category v ≡ s.size → extra_bits v ≡ s.extra
      → RepresentsBandUnit at bits (record s { stage = stage.Value; due = v })
  value_begun v e size extra =
      let p = part_of stage.Number e in let q = p.1 in
      further bits f.part (record s { stage = stage.Value; due = v }) stage.Value refl refl f.split (
        p.0,
        record {
          passed = [];
          code = q.code;
          corrections = [];
          zeros = s.run;
          left = q.left;
          no_dc = refl;
          coded = subst (λ (y : ℕ). Contains (at.coding.ac at.component) (q.code, 16 * s.run + y)) (sym size) q.coded;
          split = q.split ∙ ap (λ x. q.code ++ x) (sym extra ∙ sym (append-nil (extra_bits v)));
          some = omega (arith, size, q.some);
          most = omega (arith, size, q.most);
          short = q.short;
          sum = omega arith;
          room = q.room;
          each = refl;
          told = q.none;
        },
      )

  -- sixteen zeros follow
  pub long_begun : {b : BandScan} {ac : List Code} (next : Bool) → IsCodingOf b ac at.coding at.component → s.stage ≡ stage.Code
      → Contains ac (s.walked ++ next ∷ [], 0xf0) → RepresentsBandUnit at (bits ++ next ∷ []) (record s { walked = []; stage = stage.Long; run = 15 })
  long_begun next k e h =
      let p = code_of e in let code = s.walked ++ next ∷ [] in
      further (bits ++ next ∷ []) code (record s { walked = []; stage = stage.Long; run = 15 }) stage.Long refl refl (p.2 next)
      (refl, record { passed = []; code = code; corrections = []; left = p.0; no_dc = refl; coded = coded code 0xf0 k h; split = sym (append-nil code); sum = refl; each = refl; told = p.1 })

  -- ends of bands follow
  ends_part : (part code : List Bool) (total : ℕ) → f.mid.left ≡ unit_left at s ∷ at.others → f.here ≡ []
      → Contains (at.coding.ac at.component) (code, 16 * (digits total - 1)) → part ≡ code ++ bits_of (digits total - 1) total → 1 ≤ total
      → digits total ≤ at.coding.most_run + 1 → total ≤ 1 + length at.others → InEnds at.coding f.mid (unit_left at s) at.others f.here part total
  ends_part part code total left none h split some most fits = record {
    unit = unit_left at s;
    units = at.others;
    whole = [];
    first = [];
    total = total;
    code = code;
    corrections = [];
    begun = left;
    left = left;
    no_dc = refl;
    coded = h;
    split = split ∙ ap (λ x. code ++ x) (sym (append-nil (bits_of (digits total - 1) total)));
    sum = omega arith;
    some = some;
    most = most;
    fits = fits;
    each = refl;
    told = none;
  }

  pub end_begun : {b : BandScan} {ac : List Code} (next : Bool) → IsCodingOf b ac at.coding at.component → s.stage ≡ stage.Code
      → Contains ac (s.walked ++ next ∷ [], 0) → zeros_in s.rest < 255
      → RepresentsBandUnit at (bits ++ next ∷ []) (record s { walked = []; stage = stage.Ends; run = 255; bands = 1 })
  end_begun next k e h small =
      let p = code_of e in let code = s.walked ++ next ∷ [] in
      let z : 16 * (digits 1 - 1) ≡ 0 = omega (arith, one_digit) in
      let none : code ≡ code ++ bits_of (digits 1 - 1) 1 = sym (ap (λ x. code ++ x) no_bits ∙ append-nil code) in
      let is : Contains (at.coding.ac at.component) (code, 16 * (digits 1 - 1)) = subst (λ (y : ℕ). Contains (at.coding.ac at.component) (code, y)) (sym z) (coded code 0 k h) in
      further (bits ++ next ∷ []) code (record s { walked = []; stage = stage.Ends; run = 255; bands = 1 }) stage.Ends refl refl (p.2 next)
      (refl, ends_part code code 1 p.0 p.1 is none (omega arith) (omega (arith, one_digit)) (omega arith), small)

  pub ends_begun : {b : BandScan} {ac : List Code} (total : ℕ) → IsCodingOf b ac at.coding at.component → s.stage ≡ stage.Count → 1 ≤ total
      → digits total ≡ s.size + 1 → bits_of s.size total ≡ s.extra → total ≤ 1 + length at.others → zeros_in s.rest < 255
      → RepresentsBandUnit at bits (record s { stage = stage.Ends; run = 255; bands = total })
  ends_begun total k e some size extra fits small =
      let p = part_of stage.Count e in let q = p.1 in
      let m : digits total - 1 ≡ s.size = omega (arith, size) in
      let is = subst (λ (y : ℕ). Contains (at.coding.ac at.component) (q.code, 16 * y)) (sym m) q.coded in
      let split : f.part ≡ q.code ++ bits_of (digits total - 1) total = q.split ∙ ap (λ x. q.code ++ x) (sym extra ∙ ap (λ y. bits_of y total) (sym m)) in
      further bits f.part (record s { stage = stage.Ends; run = 255; bands = total }) stage.Ends refl refl f.split
      (p.0, ends_part f.part q.code total q.left q.none is split some (omega (arith, size, q.most, k.runs)) fits, small)

  -- more bands than are left
  pub run_past : {b : BandScan} {ac : List Code} (total x : ℕ) → IsCodingOf b ac at.coding at.component → s.stage ≡ stage.Count → total ≡ 2 ^ s.size + x
      → x < 2 ^ s.size → bits_of s.size x ≡ s.extra → 1 + length at.others < total → DataReveals at.coding at.units fault.RunPastEnd bits
  run_past total x k e sum small extra past =
      let q = (part_of stage.Count e).1 in
      record {
        elements = f.elements;
        told = f.before;
        front = f.front;
        here = f.part;
        rest = [];
        standing = f.mid;
        unit = unit_left at s;
        others = at.others;
        cut = f.split ∙ sym (append-nil (f.front ++ f.part));
        covers = f.covers;
        left = q.left;
        codes = λ k. (let z : false ≡ true = k.0 in cc);
        shows = inr (inr (inr (inr (refl, (s.size, x, q.code, q.coded, refl, omega (arith, q.most, k.runs), q.split ∙ ap (λ y. q.code ++ y) (sym extra), small, omega (arith, sum, past))))));
      }

-- ends of bands that continue, at the next unit
pub ends_next : (at : UnitPlace) (bits : List Bool) (s n : InWork) (front band behind : List ℤ) → n ≡ with_band s front band behind → stage.Ends ≡ n.stage → zeros_in band < 255
    → BetweenUnits at.coding at.units at.told (band_unit at.component band ∷ at.others) bits s → RepresentsBandUnit at bits n × (s.stage ≡ stage.Ends)
ends_next at bits s n front band behind is ends small f = (subst (λ (m : InWork). RepresentsBandUnit at bits m) (sym is) there, code)
  where
    new : InWork
    new = with_band s front band behind

    code : s.stage ≡ stage.Ends
    code = sym (ends ∙ ap (λ (m : InWork). m.stage) is)

    next : UnitLeft
    next = band_unit at.component band

    met : InEnds at.coding f.mid next at.others f.here f.part s.bands
    met =
        let r : IsRest at.coding f.mid (next ∷ at.others) f.here f.part s stage.Ends = subst (λ (g : Stage). IsRest at.coding f.mid (next ∷ at.others) f.here f.part s g) code f.is_rest in
        let h = head_inj next r.0 at.others r.1 r.2 in
        let e : InEnds at.coding f.mid r.0 at.others f.here f.part s.bands = subst (λ us. InEnds at.coding f.mid r.0 us f.here f.part s.bands) (sym h.1) r.3 in
        subst (λ v. InEnds at.coding f.mid v at.others f.here f.part s.bands) (sym h.0) e

    there : RepresentsBandUnit at bits new
    there = record {
      elements = f.elements;
      before = f.before;
      front = f.front;
      mid = f.mid;
      here = f.here;
      part = f.part;
      covers = f.covers;
      split = f.split;
      same = f.same ∙ sym (append-nil at.told);
      in_bounds = f.in_bounds;
      is_part = subst (λ (g : Stage). IsElementPart at f.mid f.here f.part new g) (sym code) (f.quiet, met, small);
    }
