-- What is due of a scan's units, one place after another.
use Rattle.std.proofs.Common.{◌≡◌, ℕ, zero, suc, ◌+◌, ◌-◌, ◌%◌, ◌<◌, ◌≤◌, ◌==◌, cond, List, [], ◌∷◌, length, take, drop, None, Some, refl, sym, ap, ◌∙◌, subst, arith, ⊎_elim, ℤ, pos}
use Rattle.std.specs.Prelude.{All, map, slice_get, slice_index_or, slice_set, Result, Ok, Err}
use Rattle.std.proofs.Math.Path.{fun_ext}
use Rattle.std.proofs.Math.Seq.{take_all}
use Rattle.std.proofs.lemmas.Bool.{cases_eq}
use Rattle.std.proofs.lemmas.List.Elements.{All-drop, All-same}
use Rattle.std.proofs.lemmas.List.{get_or-set_same, get_or-set_other, length-drop, drop_all}
use Rattle.jpg_spec.specs.Geometry.{Frame}
use Rattle.jpg_spec.specs.Lists.{chunks, chunks_of}
use Rattle.jpg_spec.specs.Segments.{ScanHead}
use Rattle.jpg_spec.specs.Scan.{Blocks}
use Rattle.jpg_spec.specs.declared.frame.Place.{Place}
use Rattle.jpg_spec.proofs.Basics.Common.{not_same, same_itself}
use Rattle.jpg_spec_write.specs.ScanText.{UnitDue, units_due, last_dc}
use Rattle.jpg_base.specs.declared.stop.WriteFault.{WriteFault}
use Rattle.jpg_coefs.specs.Sinks.{IsScanPlace, block_due, no_last, last_in, At, Due, SinkKind, Goes, with_unit, TakesUnit, of_places, before_next, at_end, Begins, Ends, IsNextPlace, TakesPlace}
use Rattle.jpg_coefs.specs.ScanUnits.{Begun, IsGoing, IsLeft, Spot, later_due, left_due, no_dc}
use Rattle.jpg_coefs.proofs.Places.{taken, first_is}

-- LAST DC VALUES in a list

last_set : (last : List ℤ) (i : ℕ) (block : List ℤ) → i < length last → last_dc (last_in last) i block ≡ last_in (slice_set last i (slice_index_or block 0 (pos 0)))
last_set last i block h = fun_ext (λ j.
    let v = slice_index_or block 0 (pos 0) in
    ⊎_elim
    (λ (e : j ≡ i). ap (λ b. cond b v (last_in last j)) (ap (λ n. n == i) e ∙ same_itself i) ∙ sym (ap (last_in (slice_set last i v)) e ∙ get_or-set_same last i v (pos 0) h))
    (λ (n : j ≡ i → ⊥). ap (λ b. cond b v (last_in last j)) (not_same j i n) ∙ sym (get_or-set_other last i j v (pos 0) n))
    (cases_eq j i))

none_in : no_last ≡ last_in no_dc
none_in = fun_ext at
  where
    at : (j : ℕ) → pos 0 ≡ last_in no_dc j
    at zero = refl
    at (suc zero) = refl
    at (suc (suc zero)) = refl
    at (suc (suc (suc zero))) = refl
    at (suc (suc (suc (suc j)))) = refl

-- ONE PLACE

-- Of its block, which is due after the last DC value, this value is the DC value; and the block was taken.
pub record PlaceTaken {S O D : Type 0} (k : SinkKind S O D) (blocks : Blocks) (last : List ℤ) (p : Place) (value : ℤ) (old : At S O D) (result : Result (Unit {0}) WriteFault) (new : At S O D) : Type 0 where
  pub before : ℤ
  pub block : List ℤ
  pub same : before ≡ last_in last p.component
  pub is : block ≡ block_due blocks before p
  pub first : value ≡ slice_index_or block 0 (pos 0)
  pub takes : TakesUnit k (p.component, block) before old result new

module _ {S O D : Type 0} (k : SinkKind S O D) (blocks : Blocks) where
  pub goes_place : {last : List ℤ} {p : Place} {value : ℤ} {old new : At S O D} {result : Result (Unit {0}) WriteFault} → p.component < length last → PlaceTaken k blocks last p value old result new
      → TakesPlace k blocks last p old result (slice_set last p.component value) new
  goes_place {last} {p} {value} {old} {new} {result} small t d places h =
      let i = p.component in
      let b = block_due blocks (last_in last i) p in
      let e : t.block ≡ b = t.is ∙ ap (λ q. block_due blocks q p) t.same in
      let due : Due S O D = record d { last = last_in last; rest = units_due blocks (last_dc (last_in last) i b) places } in
      let goes = t.takes due (sym t.same) (subst (λ x. k.due (with_unit due (i, x)) old) (sym e) h) in
      let s = last_set last i b small ∙ ap (λ v. last_in (slice_set last i v)) (sym (t.first ∙ ap (λ x. slice_index_or x 0 (pos 0)) e)) in
      subst (λ q. Goes k (record d { last = q; rest = units_due blocks q places }) result new) s (subst (λ x. Goes k (record due { last = last_dc (last_in last) i x }) result new) e goes)

-- a place is the first of them
pub record IsAtPlace {S O D : Type 0} (w : Begun S O D) (s : Spot S O D) (p : Place) : Type 0 where
  pub first : slice_get s.cursor 0 ≡ Some p
  pub some : 1 ≤ s.count
  pub left : IsLeft w s

dropped : (n : ℕ) (places : List Place) (p : Place) → slice_get places 0 ≡ Some p → 1 ≤ n → drop n places ≡ drop (n - 1) (drop 1 places)
dropped n [] p e h = cc
dropped zero (q ∷ places) p e h = absurd (omega (arith, h))
dropped (suc n) (q ∷ places) p e h = (let k : n ≡ suc n - 1 = omega arith in ap (λ m. drop m places) k)

module _ {S O D : Type 0} (w : Begun S O D) (s : Spot S O D) where
  -- the places after the first one
  abbrev after : List Place
  after = drop 1 s.cursor

  -- what is due of the later intervals
  abbrev others : IsLeft w s → Due S O D
  others l = later_due w l.number l.most (drop (s.count - 1) after)

  first_left : (p : Place) → (h : IsAtPlace w s p) → w.kind.due (of_places (others h.left) w.blocks s.last (p ∷ take (s.count - 1) after)) s.now
  first_left p h =
      subst (λ ps. w.kind.due (of_places (others h.left) w.blocks s.last ps) s.now) (taken s.count s.cursor p h.first h.some)
      (subst (λ ps. w.kind.due (of_places (later_due w (h.left).number (h.left).most ps) w.blocks s.last (take s.count s.cursor)) s.now) (dropped s.count s.cursor p h.first h.some) (h.left).due)

  pub next_place : (p : Place) → IsAtPlace w s p → IsNextPlace w.kind w.blocks s.last p s.now
  next_place p h = (others h.left, take (s.count - 1) after, first_left p h)

  -- a fault at it
  pub place_fault : (p : Place) (last : List ℤ) (new : At S O D) (f : WriteFault) → IsAtPlace w s p → TakesPlace w.kind w.blocks s.last p s.now (Err f) last new → w.kind.ended w.from w.all (Err f) new.out new.desk
  place_fault p last new f h takes = takes (others h.left) (take (s.count - 1) after) (first_left p h)

  -- after it
  pub place_left : (p : Place) (last : List ℤ) (cursor : List Place) (new : At S O D) → IsAtPlace w s p → cursor ≡ drop 1 s.cursor → TakesPlace w.kind w.blocks s.last p s.now (Ok tt) last new
      → IsLeft w (record { last = last; count = s.count - 1; turn = s.turn; cursor = cursor; now = new })
  place_left p last cursor new h e takes = record {
    number = (h.left).number;
    most = (h.left).most;
    enough = (let n = ap length (dropped s.count s.cursor p h.first h.some ∙ ap (drop (s.count - 1)) (sym e)) in omega (arith, n, (h.left).enough));
    turn_is = (h.left).turn_is;
    due = subst (λ ps. w.kind.due (left_due w (h.left).number (h.left).most (record { last = last; count = s.count - 1; turn = s.turn; cursor = ps; now = new })) new) (sym e)
        (takes (others h.left) (take (s.count - 1) after) (first_left p h));
  }

  -- no place is left
  none_left : length s.cursor ≡ 0 → (l : IsLeft w s) → w.kind.due (at_end (left_due w l.number l.most s)) s.now
  unfolding chunks_of
  none_left none l = by l.most s.count s.cursor none l.due
    where
      at_places : ℕ → List Place → Spot S O D
      at_places count cursor = record s { count = count; cursor = cursor }

      by : (most count : ℕ) (cursor : List Place) → length cursor ≡ 0 → w.kind.due (left_due w l.number most (at_places count cursor)) s.now → w.kind.due (at_end (left_due w l.number most (at_places count cursor))) s.now
      by most count (p ∷ cursor) none h = absurd (omega (arith, none))
      by zero zero [] none h = h
      by zero (suc count) [] none h = h
      by (suc most) zero [] none h = h
      by (suc most) (suc count) [] none h = h

  pub ended_left : (result : Result (Unit {0}) WriteFault) (new : At S O D) → length s.cursor ≡ 0 → IsLeft w s → Ends w.kind None s.now result new → w.kind.ended w.from w.all result new.out new.desk
  ended_left result new none l goes = goes (left_due w l.number l.most s) (none_left none l)

-- no place of this interval is left, but others are
pub record IsBetween {S O D : Type 0} (w : Begun S O D) (s : Spot S O D) : Type 0 where
  pub whole : s.count ≡ 0
  pub some : 1 ≤ length s.cursor
  pub left : IsLeft w s

abbrev pub between_due : {S O D : Type 0} → Begun S O D → ℕ → ℕ → Spot S O D → Due S O D
between_due w number most s = record (later_due w number most (drop w.each s.cursor)) { last = last_in s.last }

abbrev pub next_due : {S O D : Type 0} → Begun S O D → Spot S O D → List UnitDue
next_due w s = units_due w.blocks no_last (take w.each s.cursor)

between_left : {S O D : Type 0} (w : Begun S O D) (s : Spot S O D) → (b : IsBetween w s)
    → (most : ℕ) × ((b.left).most ≡ suc most) × w.kind.due (before_next (between_due w (b.left).number most s) (next_due w s)) s.now
unfolding chunks_of
between_left {S} {O} {D} w s b = by s.count s.cursor (b.left).most b.whole b.some (b.left).enough (b.left).due
  where
    at_places : ℕ → List Place → Spot S O D
    at_places count cursor = record s { count = count; cursor = cursor }

    by : (count : ℕ) (cursor : List Place) (most : ℕ) → count ≡ 0 → 1 ≤ length cursor → length (drop count cursor) ≤ most → w.kind.due (left_due w (b.left).number most (at_places count cursor)) s.now
        → (m : ℕ) × (most ≡ suc m) × w.kind.due (before_next (between_due w (b.left).number m (at_places count cursor)) (next_due w (at_places count cursor))) s.now
    by (suc count) cursor most z some e h = absurd (omega (arith, z))
    by zero [] most z some e h = absurd (omega (arith, some))
    by zero (p ∷ cursor) zero z some e h = absurd (omega (arith, e))
    by zero (p ∷ cursor) (suc m) z some e h = (m, refl, h)

module _ {S O D : Type 0} (w : Begun S O D) (s : Spot S O D) (b : IsBetween w s) where
  pub between_fault : (new : At S O D) (f : WriteFault) → Ends w.kind (Some s.turn) s.now (Err f) new → w.kind.ended w.from w.all (Err f) new.out new.desk
  between_fault new f goes = (let t = between_left w s b in goes (between_due w (b.left).number t.0 s) (next_due w s) (b.left).turn_is t.2)

  -- and the next interval begins
  pub next_left : (new : At S O D) → 1 ≤ w.each → Ends w.kind (Some s.turn) s.now (Ok tt) new → IsLeft w (record { last = no_dc; count = w.each; turn = (s.turn + 1) % 8; cursor = s.cursor; now = new })
  next_left new size goes =
      let t = between_left w s b in
      let l = b.left in
      let e = t.1 in
      let turn = l.turn_is in
      record {
        number = l.number + 1;
        most = t.0;
        enough = (let n = length-drop w.each s.cursor in let m = length-drop s.count s.cursor in omega (arith, n, m, size, b.whole, b.some, e, l.enough));
        turn_is = omega (arith, turn);
        due = subst (λ q. w.kind.due (record (later_due w (l.number + 1) t.0 (drop w.each s.cursor)) { last = q; rest = units_due w.blocks q (take w.each s.cursor) }) new) none_in
            (goes (between_due w l.number t.0 s) (next_due w s) l.turn_is t.2);
      }

-- THE FIRST INTERVAL

none_chunks : (most each : ℕ) → chunks_of {X = Place} most each [] ≡ []
unfolding chunks_of
none_chunks zero each = refl
none_chunks (suc most) each = refl

first_chunk : (n each : ℕ) (places : List Place) → 1 ≤ length places → each ≡ cond (n == 0) (length places) n
    → (most : ℕ) × (length places ≡ suc most) × (chunks n places ≡ take each places ∷ chunks_of most each (drop each places))
unfolding chunks_of
first_chunk n each [] some is = absurd (omega (arith, some))
first_chunk zero each (p ∷ places) some is =
    let all = p ∷ places in
    let few : length all ≤ each = omega (arith, is) in
    (length places, refl, sym (ap (λ ps. take each all ∷ chunks_of (length places) each ps) (drop_all each all few) ∙ ap (λ cs. take each all ∷ cs) (none_chunks (length places) each) ∙ ap (λ ps. ps ∷ []) (take_all each all few)))
first_chunk (suc n) each (p ∷ places) some is =
    let same : each ≡ suc n = is ∙ ap (λ b. cond b (length (p ∷ places)) (suc n)) (not_same (suc n) 0 (λ z. omega (arith, z))) in
    (length places, refl, ap (λ m. take m (p ∷ places) ∷ chunks_of (length places) m (drop m (p ∷ places))) (sym same))

-- before its first unit, with intervals of `n` units each (0: one of all)
pub begins_left : {S O D : Type 0} {w : Begun S O D} (n : ℕ) (places cursor : List Place) → w.all ≡ map (units_due w.blocks no_last) (chunks n places)
    → 1 ≤ length places → w.each ≡ cond (n == 0) (length places) n → 1 ≤ w.each → cursor ≡ places → Begins w.kind w.all w.from → IsLeft w (record { last = no_dc; count = w.each; turn = 0; cursor = cursor; now = w.from })
begins_left {S} {O} {D} {w} n places cursor all some is size e begins =
    let c = first_chunk n w.each places some is in
    let h = begins (units_due w.blocks no_last (take w.each places)) (map (units_due w.blocks no_last) (chunks_of c.0 w.each (drop w.each places))) (all ∙ ap (map (units_due w.blocks no_last)) c.2) in
    subst (λ ps. IsLeft w (record { last = no_dc; count = w.each; turn = 0; cursor = ps; now = w.from })) (sym e) (record {
      number = 0;
      most = c.0;
      enough = (let d = length-drop w.each places in omega (arith, d, c.1, size));
      turn_is = refl;
      due = subst (λ q. w.kind.due (record (later_due w 0 c.0 (drop w.each places)) { last = q; rest = units_due w.blocks q (take w.each places) }) w.from) none_in h;
    })

-- where it stands after a place, with these last DC values, places and state
abbrev pub after_place : {S O D : Type 0} → Spot S O D → List ℤ → List Place → At S O D → Spot S O D
after_place s last cursor new = record { last = last; count = s.count - 1; turn = s.turn; cursor = cursor; now = new }

module _ {S O D : Type 0} {f : Frame} {head : ScanHead} {w : Begun S O D} {s : Spot S O D} {left : ℕ} (g : IsGoing f head w s left) where
  pub scan_place : (p : Place) → slice_get s.cursor 0 ≡ Some p → IsScanPlace f head p
  scan_place p first = first_is (IsScanPlace f head) s.cursor p g.places first

  pub at_place : (p : Place) → slice_get s.cursor 0 ≡ Some p → IsAtPlace w s p
  at_place p first = record { first = first; some = g.due; left = g.work }

  pub places_after : (cursor : List Place) → cursor ≡ drop 1 s.cursor → length cursor ≡ left - 1
  places_after cursor e = (let n = ap length e in let d = length-drop 1 s.cursor in omega (arith, n, d, g.number))

  pub left_after : {p : Place} {last : List ℤ} {cursor : List Place} {new : At S O D} → slice_get s.cursor 0 ≡ Some p → cursor ≡ drop 1 s.cursor → TakesPlace w.kind w.blocks s.last p s.now (Ok tt) last new
      → IsLeft w (after_place s last cursor new)
  left_after {p} {last} {cursor} {new} first e takes = place_left w s p last cursor new (at_place p first) e takes

  places_left : (cursor : List Place) → cursor ≡ drop 1 s.cursor → All (IsScanPlace f head) cursor
  places_left cursor e = All-same (IsScanPlace f head) cursor _ e (All-drop (IsScanPlace f head) 1 s.cursor g.places)

  -- in the same interval, or at its end
  pub goes_on : {last : List ℤ} {cursor : List Place} {new : At S O D} → cursor ≡ drop 1 s.cursor → length last ≡ 4 → 1 ≤ left - 1 → 1 ≤ s.count - 1 → IsLeft w (after_place s last cursor new)
      → IsGoing f head w (after_place s last cursor new) (left - 1)
  goes_on {cursor} e four some due l = record {
    work = l;
    number = sym (places_after cursor e);
    some = some;
    size = g.size;
    due = due;
    places = places_left cursor e;
    few = g.few;
    four = four;
    turn = g.turn;
  }

  pub at_its_end : {last : List ℤ} {cursor : List Place} {new : At S O D} → cursor ≡ drop 1 s.cursor → 1 ≤ left - 1 → s.count - 1 ≡ 0 → IsLeft w (after_place s last cursor new) → IsBetween w (after_place s last cursor new)
  at_its_end {cursor} e some whole l = record { whole = whole; some = (let n = places_after cursor e in omega (arith, n, some)); left = l }

  pub goes_on_between : {last : List ℤ} {cursor : List Place} {new later : At S O D} → cursor ≡ drop 1 s.cursor → 1 ≤ left - 1 → IsBetween w (after_place s last cursor new)
      → Ends w.kind (Some s.turn) new (Ok tt) later → IsGoing f head w (record { last = no_dc; count = w.each; turn = (s.turn + 1) % 8; cursor = cursor; now = later }) (left - 1)
  goes_on_between {last} {cursor} {new} {later} e some b ends = record {
    work = next_left w (after_place s last cursor new) b later g.size ends;
    number = sym (places_after cursor e);
    some = some;
    size = g.size;
    due = g.size;
    places = places_left cursor e;
    few = g.few;
    four = refl;
    turn = omega arith;
  }
