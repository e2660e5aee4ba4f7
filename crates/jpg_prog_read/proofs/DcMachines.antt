-- The machines of DC scans: one more bit, an interval that begins, and units that are left.
use Rattle.std.proofs.Common.{◌≡◌, ℕ, suc, ◌<◌, ◌≤◌, Bool, cond, List, [], ◌∷◌, ◌++◌, length, refl, sym, ap, ◌∙◌, subst, arith, ℤ, pos, ◌+ℤ◌, ◌≤ℤ◌, ⊎_elim, ◌==◌}
use Rattle.std.specs.Prelude.{slice_get, slice_set, slice_index_or, Some, Result, Ok, Err}
use Rattle.std.specs.List.{All}
use Rattle.std.proofs.lemmas.Bool.{cases_eq}
use Rattle.std.proofs.lemmas.List.{append-nil, nil_from_length, length-map, length-set, get_or-set_same, get_or-set_other}
use Rattle.std.proofs.lemmas.List.Elements.{All-drop}
use Rattle.jpg_spec.specs.Elements.{Coding, predicted}
use Rattle.jpg_spec.specs.Geometry.{padded_blocks}
use Rattle.jpg_spec.specs.Parts.{StandsInUnits}
use Rattle.jpg_spec.specs.Scan.{Scan, unit_at}
use Rattle.jpg_spec.specs.declared.frame.Place.{Place}
use Rattle.jpg_spec.proofs.Basics.Common.{not_same, same_itself, zeros_at}
use Rattle.jpg_coefs.specs.Picture.{Picture, block_in, map_of}
use Rattle.jpg_coefs.specs.Machine.{Interval, Kind, Answered, Chain, Step, IsUnfinished, KeepsUnits, units_of}
use Rattle.jpg_coefs.specs.declared.machine.UnitFault.{UnitFault}
use Rattle.jpg_coefs.specs.declared.machine.UnitStep.{UnitStep}
use Rattle.jpg_coefs.specs.declared.machine.UnitStep.TheVariants as step
use Rattle.jpg_prog_read.specs.declared.dc.DcStep.{DcStep}
use Rattle.jpg_prog_read.specs.declared.dc.DcStep.TheVariants.{More, Done, Fault}
use Rattle.jpg_prog_read.specs.declared.dc_first.DcFirst.{DcFirst}
use Rattle.jpg_prog_read.specs.declared.dc_refine.DcRefine.{DcRefine}
use Rattle.jpg_prog_read.specs.DcWork.{DcWork, IsDcOpen, fresh}
use Rattle.jpg_prog_read.specs.RepresentsDcUnit.{DcAnswered, AnswersDcRefinement, DcBetween, IsDcRefinementOf, dc_unit}
use Rattle.jpg_prog_read.specs.DcPlaces.{IsSpot, with_dc, InInterval, next_of, old_dc, IsWithin}
use Rattle.jpg_huff.specs.Tables.{symbol_codes}
use Rattle.jpg_huff.specs.declared.table.Table.{Table}
use Rattle.jpg_prog_read.specs.BitsTaken.{HurriesOn}
use Rattle.jpg_prog_read.specs.DcLookedUp.{DcThrough}
use Rattle.jpg_prog_read.specs.DcFirstPass.{table_in, prediction_at, HurriesUnit, HasTable, ReadsBy, ReadsBit, CanRead, RepresentsDcFirst, FirstReady, first_pass, with_unit, behind_unit}
use Rattle.jpg_prog_read.specs.DcRefinement.{HasDcRoom, HasRoomAt, RepresentsDcRefine, RefineReady, refinement, after_bit}
use Rattle.jpg_prog_read.proofs.DcPlaces.{next_is, next_spot, old_still, on_to, within_next, whole_next, interval_read, next_ready, at_first, within_first, whole_first}
use Rattle.jpg_prog_read.proofs.DcUnits.{dc_begins}
use Rattle.jpg_prog_read.proofs.Due.{dc_due, dc_next_due}
use Rattle.jpg_spec.proofs.Places.PictureInWork.{some_places}

-- the same machine and picture after a bit, in another way
module _ {M : Type 0} (k : Kind M) (m : M) (now : Picture) (bit : Bool) (answer : Result UnitStep UnitFault) where
  pub same_step : {x y : M} {p q : Picture} → x ≡ y → p ≡ q → Step k m now bit answer y q → Step k m now bit answer x p
  same_step {x} {y} {p} {q} e f h = subst (λ n. Step k m now bit answer n p) (sym e) (subst (λ n. Step k m now bit answer y n) (sym f) h)

-- A BIT OF A FIRST PASS

predicts_more : (predictions : List ℤ) (q : ℕ → ℤ) (c k : ℕ) (v : ℤ) → length predictions ≡ 4 → c < 4 → slice_index_or predictions k (pos 0) ≡ q k
    → slice_index_or (slice_set predictions c v) k (pos 0) ≡ predicted q c v k
predicts_more predictions q c k v four lt h =
    ⊎_elim
    (λ (e : k ≡ c). (let s : slice_index_or (slice_set predictions c v) c (pos 0) ≡ v = get_or-set_same predictions c v (pos 0) (omega (arith, four, lt)) in
    ap (λ (n : ℕ). slice_index_or (slice_set predictions c v) n (pos 0)) e ∙ s ∙ ap (λ (b : Bool). cond b v (q k)) (sym (ap (λ (n : ℕ). n == c) e ∙ same_itself c))))
    (λ (n : k ≡ c → ⊥). (let s : slice_index_or (slice_set predictions c v) k (pos 0) ≡ slice_index_or predictions k (pos 0) = get_or-set_other predictions c k v (pos 0) n in
    s ∙ h ∙ ap (λ (b : Bool). cond b v (q k)) (sym (not_same k c n))))
    (cases_eq k c)

-- where the next place is this one
module _ (m : DcFirst) (p : Place) (now : Picture) (first : slice_get m.cursor 0 ≡ Some p) where
  first_small : {i : Interval} {bits : List Bool} → (o : RepresentsDcFirst m i bits now) → o.within.next.component < 4
  first_small o = (next_spot o.places).small

  answered : (b : Bool) (answer : DcStep) (new : DcWork) → ReadsBit m p.component b answer new → (i : Interval) (bits : List Bool)
      → (o : RepresentsDcFirst m i bits now) → DcAnswered (next_of i o.within) o.predictions (old_dc i o.within) (bits ++ b ∷ []) answer new
  answered b answer new r i bits o =
      let k = o.within.next.component in
      let R : ℕ → Type 0 = λ q. ReadsBit m q b answer new in
      let h = subst R (ap (λ (q : Place). q.component) (sym (next_is o.places p first))) r in
      h.2 (next_of i o.within) o.predictions (old_dc i o.within) bits (o.reads.codes k h.0 h.1) (sym (o.predicts k (first_small o))) o.stands

  pub step_within : (b : Bool) (new : DcWork) → IsDcOpen new → ReadsBit m p.component b More new → Step first_pass m now b (Ok step.More) (with_unit m new) now
  step_within b new open_ r i bits o = record {
    reads = o.reads;
    looks = o.looks;
    tables = o.tables;
    four = o.four;
    at_work = open_;
    within = o.within;
    places = o.places;
    predictions = o.predictions;
    predicts = o.predicts;
    stands = answered b More new r i bits o;
  }

  pub step_fault : (new : DcFirst) (b : Bool) (unit : DcWork) (f : UnitFault) → ReadsBit m p.component b (Fault f) unit
      → Step first_pass m now b (Err f) new now
  step_fault new b unit f r i bits o = (answered b (Fault f) unit r i bits o, refl)

  pub step_unit : (b : Bool) (unit : DcWork) (w v : ℤ) → length now.blocks ≡ padded_blocks now.frame → ReadsBit m p.component b (Done w v) unit → 2 ≤ m.left
      → Step first_pass m now b (Ok step.More) (behind_unit m p.component w) (with_dc now p v)
  step_unit b unit w v count r many i bits o =
      let k = o.within.next.component in
      let l = some_places o.within.more (omega (arith, (o.places).count, many)) in
      let at = on_to o.within v l.0 l.1 in
      let q = predicted o.predictions k w in
      let T : Place → Type 0 = λ s. RepresentsDcFirst (behind_unit m s.component w) i (bits ++ b ∷ []) (with_dc now s v) in
      subst T (next_is o.places p first) (record {
        reads = o.reads;
        looks = o.looks;
        tables = All-drop (HasTable m.tables) 1 m.cursor o.tables;
        four = length-set m.predictions k w ∙ o.four;
        at_work = λ some. absurd (omega (arith, some));
        within = at;
        places = within_next o.places v l.0 l.1 count l.2;
        predictions = q;
        predicts = λ j lt. predicts_more m.predictions o.predictions k j w o.four (first_small o) (o.predicts j lt);
        stands = dc_begins (next_of i at) q (old_dc i at) (bits ++ b ∷ []) (whole_next i o.within v l.0 l.1 q (bits ++ b ∷ []) (o.places).band (o.places).sized l.2 (answered b (Done w v) unit r i bits o));
      })

  pub step_last : (b : Bool) (unit : DcWork) (w v : ℤ) → length now.blocks ≡ padded_blocks now.frame → ReadsBit m p.component b (Done w v) unit → m.left ≡ 1
      → Step first_pass m now b (Ok step.IntervalDone) (behind_unit m p.component w) (with_dc now p v)
  step_last b unit w v count r one i bits o =
      let k = o.within.next.component in
      let none = nil_from_length o.within.more (omega (arith, (o.places).count, one)) in
      let T : Place → Type 0 = λ s. Answered first_pass i (bits ++ b ∷ []) (Ok step.IntervalDone) now (behind_unit m s.component w) (with_dc now s v) in
      subst T (next_is o.places p first) (
        interval_read o.places v (predicted o.predictions k w) (bits ++ b ∷ []) count none (answered b (Done w v) unit r i bits o),
        λ j follows fits. record {
          reads = subst (λ (s : Scan). ReadsBy m.scan m.tables s.coding) (sym follows.scan) o.reads;
          looks = o.looks;
          tables = All-drop (HasTable m.tables) 1 m.cursor o.tables;
          four = length-set m.predictions k w ∙ o.four;
          places = next_ready o.places j v count none follows fits;
        },
      )

  -- before a bit
  pub can_read : (i : Interval) (bits : List Bool) → RepresentsDcFirst m i bits now → CanRead m p.component
  can_read i bits o =
      let all = subst (λ (l : List Place). All (HasTable m.tables) l) (o.places).left o.tables in
      let t = all 0 o.within.next (omega arith) in
      subst (λ (q : Place). CanRead m q.component) (next_is o.places p first)
      (record { small = first_small o; sane = (o.reads).sane; table = t.table; there = t.there; looks = o.looks; at_work = o.at_work })

  pub first_spot : (i : Interval) (bits : List Bool) → RepresentsDcFirst m i bits now → IsSpot now.frame p
  first_spot i bits o = subst (λ (q : Place). IsSpot now.frame q) (next_is o.places p first) (next_spot o.places)

-- THE BIT OF A REFINEMENT

-- where the next place is this one, and its value is x
module _ (m : DcRefine) (p : Place) (now : Picture) (x : ℤ) (first : slice_get m.cursor 0 ≡ Some p) (old : x ≡ slice_index_or (block_in now p.component p.x p.y) 0 (pos 0)) where
  old_is : {i : Interval} {bits : List Bool} → (o : RepresentsDcRefine m i bits now) → x ≡ old_dc i o.within
  old_is o = old ∙ ap (λ (q : Place). slice_index_or (block_in now q.component q.x q.y) 0 (pos 0)) (sym (next_is o.places p first)) ∙ old_still o.places

  refined : (b : Bool) (v : ℤ) → AnswersDcRefinement m.scan x b v → (i : Interval) (bits : List Bool) → (o : RepresentsDcRefine m i bits now)
      → DcBetween i.scan.coding (units_of i) (o.within.whole ++ v ∷ []) o.predictions (next_of i o.within).others (bits ++ b ∷ [])
  refined b v r i bits o =
      let R : ℤ → Type 0 = λ y. AnswersDcRefinement m.scan y b v in
      subst R (old_is o) r (next_of i o.within) o.predictions bits o.coded o.between

  -- it has room
  pub next_room : (i : Interval) (bits : List Bool) → RepresentsDcRefine m i bits now → (m.scan.low ≤ℤ x) × ((x +ℤ pos m.scan.scale) ≤ℤ m.scan.high)
  next_room i bits o =
      let e = old_is o in
      let c = i.scan.coding in
      let there = subst (λ (l : List Place). All (HasRoomAt c (map_of i.before)) l) (o.places).all (o.kind).room in
      let r : HasDcRoom c (old_dc i o.within) = middle c i o.within.done o.within.next o.within.more there in
      let low : m.scan.low ≤ℤ old_dc i o.within = subst (λ (y : ℤ). y ≤ℤ old_dc i o.within) (o.coded).low r.low in
      let high : (old_dc i o.within +ℤ pos m.scan.scale) ≤ℤ m.scan.high =
      subst (λ (y : ℤ). (old_dc i o.within +ℤ pos m.scan.scale) ≤ℤ y) (o.coded).high (subst (λ (k : ℕ). (old_dc i o.within +ℤ pos k) ≤ℤ c.bounds.dc_high) (sym (o.coded).scale) r.high) in
      (subst (λ (y : ℤ). m.scan.low ≤ℤ y) (sym e) low, subst (λ (y : ℤ). (y +ℤ pos m.scan.scale) ≤ℤ m.scan.high) (sym e) high)
    where
      middle : (c : Coding) (i : Interval) (done : List Place) (next : Place) (more : List Place) → All (HasRoomAt c (map_of i.before)) (done ++ next ∷ more)
          → HasRoomAt c (map_of i.before) next
      middle c i [] next more h = h 0 next (omega arith)
      middle c i (p ∷ done) next more h = middle c i done next more (λ k d lt. h (suc k) d (omega (arith, lt)))

  pub step_bit : (b : Bool) (v : ℤ) → length now.blocks ≡ padded_blocks now.frame → AnswersDcRefinement m.scan x b v → 2 ≤ m.left
      → Step refinement m now b (Ok step.More) (after_bit m) (with_dc now p v)
  step_bit b v count r many i bits o =
      let l = some_places o.within.more (omega (arith, (o.places).count, many)) in
      let T : Place → Type 0 = λ s. RepresentsDcRefine (after_bit m) i (bits ++ b ∷ []) (with_dc now s v) in
      subst T (next_is o.places p first) (record {
        sane = o.sane;
        coded = o.coded;
        kind = o.kind;
        within = on_to o.within v l.0 l.1;
        places = within_next o.places v l.0 l.1 count l.2;
        predictions = o.predictions;
        between = whole_next i o.within v l.0 l.1 o.predictions (bits ++ b ∷ []) (o.places).band (o.places).sized l.2 (refined b v r i bits o);
      })

  pub step_last_bit : (b : Bool) (v : ℤ) → length now.blocks ≡ padded_blocks now.frame → AnswersDcRefinement m.scan x b v → m.left ≡ 1
      → Step refinement m now b (Ok step.IntervalDone) (after_bit m) (with_dc now p v)
  step_last_bit b v count r one i bits o =
      let none = nil_from_length o.within.more (omega (arith, (o.places).count, one)) in
      let T : Place → Type 0 = λ s. Answered refinement i (bits ++ b ∷ []) (Ok step.IntervalDone) now (after_bit m) (with_dc now s v) in
      subst T (next_is o.places p first) (
        interval_read o.places v o.predictions (bits ++ b ∷ []) count none (refined b v r i bits o),
        λ j follows fits. record {
          sane = o.sane;
          coded = subst (λ (s : Scan). IsDcRefinementOf m.scan s.coding) (sym follows.scan) o.coded;
          kind = fits;
          places = next_ready o.places j v count none follows fits.band;
        },
      )

pub refine_spot : (m : DcRefine) (p : Place) (now : Picture) (i : Interval) (bits : List Bool) → slice_get m.cursor 0 ≡ Some p → RepresentsDcRefine m i bits now
    → IsSpot now.frame p
refine_spot m p now i bits first o = subst (λ (q : Place). IsSpot now.frame q) (next_is o.places p first) (next_spot o.places)

-- AN INTERVAL BEGINS

-- before its first bit
abbrev pub begun : DcFirst → ℕ → DcFirst
begun m units = record m { predictions = pos 0 ∷ pos 0 ∷ pos 0 ∷ pos 0 ∷ []; unit = fresh; left = units }

pub first_begins : (m new : DcFirst) (i : Interval) (units : ℕ) → FirstReady m i → length i.places ≡ units → 1 ≤ units → new ≡ begun m units → RepresentsDcFirst new i [] i.before
first_begins m new i units r count some is =
    let l = some_places i.places (omega (arith, count, some)) in
    let at = at_first l.0 l.1 in
    subst (λ (q : DcFirst). RepresentsDcFirst q i [] i.before) (sym is) (record {
      reads = r.reads;
      looks = r.looks;
      tables = r.tables;
      four = refl;
      at_work = λ some. absurd (omega (arith, some));
      within = at;
      places = within_first m.cursor m.left units i l.0 l.1 r.places l.2 count;
      predictions = λ k. pos 0;
      predicts = λ k lt. zeros_at k;
      stands = dc_begins (next_of i at) (λ k. pos 0) (old_dc i at) [] (whole_first m.cursor m.left i l.0 l.1 r.places l.2);
    })

pub refine_begins : (m new : DcRefine) (i : Interval) (units : ℕ) → RefineReady m i → length i.places ≡ units → 1 ≤ units → new ≡ record m { left = units } → RepresentsDcRefine new i [] i.before
refine_begins m new i units r count some is =
    let l = some_places i.places (omega (arith, count, some)) in
    subst (λ (q : DcRefine). RepresentsDcRefine q i [] i.before) (sym is) (record {
      sane = r.sane;
      coded = r.coded;
      kind = r.kind;
      within = at_first l.0 l.1;
      places = within_first m.cursor m.left units i l.0 l.1 r.places l.2 count;
      predictions = λ k. pos 0;
      between = whole_first m.cursor m.left i l.0 l.1 r.places l.2;
    })

-- UNITS THAT ARE LEFT

unfinished : (places : List Place) (units : ℕ) (i : Interval) (bits : List Bool) (now : Picture) (w : InInterval) → IsWithin places units i now w
    → StandsInUnits i.scan.coding (units_of i) w.whole (dc_unit w.next.component (old_dc i w) ∷ (next_of i w).others) bits → IsUnfinished i bits now units
unfinished places units i bits now w o stands = record {
  done = w.done;
  due = w.next ∷ w.more;
  whole = w.whole;
  part = [];
  left = dc_unit w.next.component (old_dc i w) ∷ (next_of i w).others;
  all = o.all;
  some = omega (arith, o.count);
  due_count = omega (arith, o.count);
  left_count = omega (arith, o.count, length-map w.more (unit_at i.scan (map_of i.before)));
  frame = o.frame;
  read = o.read;
  stands = subst (λ (told : List ℤ). StandsInUnits i.scan.coding (units_of i) told (dc_unit w.next.component (old_dc i w) ∷ (next_of i w).others) bits) (sym (append-nil w.whole)) stands;
}

pub first_keeps_units : KeepsUnits DcFirst first_pass
first_keeps_units = record {
  unfinished = λ m i bits now o. unfinished m.cursor m.left i bits now o.within o.places (dc_due m.unit o.at_work (next_of i o.within) o.predictions (old_dc i o.within) bits o.stands);
  fits = λ m i bits now o. (o.places).band;
  none_left = λ m i r. (r.places).none;
}

pub refine_keeps_units : KeepsUnits DcRefine refinement
refine_keeps_units = record {
  unfinished = λ m i bits now o. unfinished m.cursor m.left i bits now o.within o.places
      (dc_next_due i.scan.coding (units_of i) o.within.whole o.predictions (dc_unit o.within.next.component (old_dc i o.within)) (next_of i o.within).others bits o.between);
  fits = λ m i bits now o. o.kind;
  none_left = λ m i r. (r.places).none;
}

-- BITS OF A UNIT AT ONCE

chain_on : (m : DcFirst) (p : Place) (now : Picture) (table : Table) (bits : List Bool) (t : DcWork) → slice_get m.cursor 0 ≡ Some p → table_in m.tables p.component ≡ Some table → DcThrough m.scan (symbol_codes table) m.unit bits t → Chain first_pass m now bits (with_unit m t) now
chain_on m p now table [] t first there x = (ap (λ (u : DcWork). with_unit m u) x, refl)
chain_on m p now table (bit ∷ bits) t first there x =
    (with_unit m x.0, now, step_within m p now first bit x.0 (x.1).goes_on (table, there, (x.1).answered (prediction_at m p.component)), chain_on (with_unit m x.0) p now table bits t first there x.2)

pub hurried : (m : DcFirst) (p : Place) (now : Picture) (store : List Bool) (t : DcWork) (rest : List Bool) → slice_get m.cursor 0 ≡ Some p → HurriesUnit m p.component store t rest → HurriesOn first_pass m now store (with_unit m t) rest
hurried m p now store t rest first h = record { taken = (h.2).bits; split = (h.2).split; chain = chain_on m p now h.0 (h.2).bits t first h.1 (h.2).through; left = refl }
