-- Units of a DC scan, one after another in the picture.
use Rattle.std.proofs.Common.{◌≡◌, ℕ, zero, suc, ◌+◌, ◌-◌, ◌≤◌, Bool, true, false, List, [], ◌∷◌, ◌++◌, length, drop, refl, sym, ap, ◌∙◌, subst, arith, ℤ, pos, ◌==◌}
use Rattle.std.specs.Prelude.{take, map, nat_le, slice_get, slice_set, slice_index_or, Some}
use Rattle.std.specs.List.{All}
use Rattle.std.proofs.lemmas.Bool.Decides.{nat_tests}
use Rattle.std.proofs.lemmas.List.{append_assoc, length-set, get_or-set_same, get_or-set_other}
use Rattle.std.proofs.lemmas.List.Elements.{All-head, All-drop}
use Rattle.jpg_spec.specs.Elements.{UnitLeft}
use Rattle.jpg_spec.specs.Geometry.{Frame, padded_blocks}
use Rattle.jpg_spec.specs.Lists.{any_of}
use Rattle.jpg_spec.specs.Scan.{Blocks, Scan, band, block_at, unit_at}
use Rattle.jpg_spec.specs.PictureInWork.{is_at, is_in_band, AreDistinct, UnitsRead}
use Rattle.jpg_spec.specs.declared.frame.Place.{Place}
use Rattle.jpg_spec.proofs.Places.PictureInWork.{apart_of, apart_swap, distinct_behind}
use Rattle.jpg_spec.proofs.Bits.UnitsRead.{units_first, units_next, units_last}
use Rattle.jpg_spec.proofs.Basics.Common.{and_intro, clash, some_once}
use Rattle.jpg_coefs.specs.Picture.{Picture, block_in, map_of, HasPlace, KeepsOutside}
use Rattle.jpg_coefs.specs.Machine.{Interval, units_of, IsWholeInterval, Follows}
use Rattle.jpg_coefs.proofs.Maps.{map_at, put_here, put_changes}
use Rattle.jpg_prog_read.specs.RepresentsDcUnit.{DcBetween, dc_unit}
use Rattle.jpg_prog_read.specs.DcPlaces.{IsDcBand, IsSpot, dc_at, with_dc, InInterval, next_of, old_dc, AreCompleteUnits, IsWithin, IsNextInterval}

-- THE BAND

one_value : (block : List ℤ) → 1 ≤ length block → take 1 block ≡ slice_index_or block 0 (pos 0) ∷ []
one_value [] h = absurd (omega arith)
one_value (v ∷ block) h = refl

band_is : (s : Scan) (block : List ℤ) → IsDcBand s → 1 ≤ length block → band s block ≡ slice_index_or block 0 (pos 0) ∷ []
band_is s block d some = ap (λ n. take (n + 1 - s.ss) (drop s.ss block)) d.se ∙ ap (λ n. take (0 + 1 - n) (drop n block)) d.ss ∙ one_value block some

unit_is : (s : Scan) (blocks : Blocks) (p : Place) → IsDcBand s → ((k x y : ℕ) → length (blocks k x y) ≡ 64) → unit_at s blocks p ≡ dc_unit p.component (dc_at blocks p)
unit_is s blocks p d sized =
    ap (λ (n : ℕ). (let u : UnitLeft = record { component = p.component; has_dc = n == 0; old = band s (block_at blocks p) } in u)) d.ss
    ∙ ap (λ (l : List ℤ). (let u : UnitLeft = record { component = p.component; has_dc = true; old = l } in u)) (band_is s (block_at blocks p) d (omega (arith, sized p.component p.x p.y)))

after_dc : (s : Scan) (k : ℕ) → IsDcBand s → is_in_band s k ≡ false → k ≡ 0 → ⊥
after_dc s (suc k) d e z = absurd (omega (arith, z))
after_dc s zero d e z =
    let a : nat_le s.ss 0 ≡ true = grind (arith, nat_tests, d.ss) in
    let b : nat_le 0 s.se ≡ true = grind (arith, nat_tests) in
    clash (is_in_band s 0) (and_intro (nat_le s.ss 0) (nat_le 0 s.se) a b) e

-- A VALUE IS PUT at a place

dc_keeps : (s : Scan) (q : Picture) (p : Place) (v : ℤ) → IsDcBand s → HasPlace q p → length (block_in q p.component p.x p.y) ≡ 64 → KeepsOutside s q p (slice_set (block_in q p.component p.x p.y) 0 v)
dc_keeps s q p v d h long =
    let block = block_in q p.component p.x p.y in
    record {
      size = length-set block 0 v ∙ long;
      same = λ k e. get_or-set_other block 0 k v (pos 0) (after_dc s k d e) ∙ ap (λ (b : List ℤ). slice_index_or b k (pos 0)) (sym (map_at q p.component p.x p.y h.place));
    }

dc_put : (s : Scan) (q : Picture) (p : Place) (v : ℤ) → IsDcBand s → HasPlace q p → length (block_in q p.component p.x p.y) ≡ 64 → band s (block_at (map_of (with_dc q p v)) p) ≡ v ∷ []
dc_put s q p v d h long =
    let block = slice_set (block_in q p.component p.x p.y) 0 v in
    let size : length block ≡ 64 = length-set (block_in q p.component p.x p.y) 0 v ∙ long in
    ap (band s) (put_here q p block h) ∙ band_is s block d (omega (arith, size)) ∙ ap (λ (x : ℤ). x ∷ []) (get_or-set_same (block_in q p.component p.x p.y) 0 v (pos 0) (omega (arith, long)))

-- after the next unit, if one more is left
abbrev pub on_to : InInterval → ℤ → Place → List Place → InInterval
on_to w v next more = record { done = w.done ++ w.next ∷ []; whole = w.whole ++ v ∷ []; next = next; more = more }

pub whole_next : (i : Interval) (w : InInterval) (v : ℤ) (next : Place) (more : List Place) (p : ℕ → ℤ) (bits : List Bool) → IsDcBand i.scan → ((k x y : ℕ) → length (map_of i.before k x y) ≡ 64) → w.more ≡ next ∷ more
    → DcBetween i.scan.coding (units_of i) (w.whole ++ v ∷ []) p (next_of i w).others bits → AreCompleteUnits i (on_to w v next more) p bits
whole_next i w v next more p bits d sized e b =
    let unit = unit_at i.scan (map_of i.before) in
    subst (λ (us : List UnitLeft). DcBetween i.scan.coding (units_of i) (w.whole ++ v ∷ []) p us bits)
    (ap (map unit) e ∙ ap (λ (u : UnitLeft). u ∷ map unit more) (unit_is i.scan (map_of i.before) next d sized)) b

-- WITHIN AN INTERVAL
module _ {places : List Place} {units : ℕ} {i : Interval} {now : Picture} {w : InInterval} (o : IsWithin places units i now w) where
  -- the place of the next unit
  pub next_is : (p : Place) → slice_get places 0 ≡ Some p → w.next ≡ p
  next_is p e = some_once w.next p (sym (ap (λ (l : List Place). slice_get l 0) o.left) ∙ e)

  pub next_spot : IsSpot now.frame w.next
  next_spot =
      let all = subst (λ (l : List Place). All (IsSpot i.before.frame) l) o.left o.spots in
      subst (λ (f : Frame). IsSpot f w.next) (sym o.frame) (All-head (IsSpot i.before.frame) w.next (w.more ++ i.later) all)

  -- it isn't one of those whose units are complete
  next_apart : any_of (is_at w.next.component w.next.x w.next.y) w.done ≡ false
  next_apart =
      let e : i.places ++ i.later ≡ w.done ++ w.next ∷ (w.more ++ i.later) = ap (λ (l : List Place). l ++ i.later) o.all ∙ append_assoc w.done (w.next ∷ w.more) i.later in
      (apart_swap w.done (w.next ∷ (w.more ++ i.later)) (apart_of w.done (w.next ∷ (w.more ++ i.later)) (subst (λ (l : List Place). AreDistinct l) e o.distinct))).0

  -- and its DC value is the one before the interval
  pub old_still : slice_index_or (block_in now w.next.component w.next.x w.next.y) 0 (pos 0) ≡ old_dc i w
  old_still =
      let p = w.next in
      ap (λ (b : List ℤ). slice_index_or b 0 (pos 0)) (sym (map_at now p.component p.x p.y next_spot.padded) ∙ (o.read.changes).elsewhere p.component p.x p.y next_apart)

  -- THE NEXT UNIT IS COMPLETE

  unit_read : (v : ℤ) → length now.blocks ≡ padded_blocks now.frame
      → UnitsRead i.scan (w.done ++ w.next ∷ []) (map_of i.before) (map_of (with_dc now w.next v)) (w.whole ++ v ∷ [])
  unit_read v count =
      let p = w.next in
      let h : HasPlace now p = record { place = next_spot.padded; count = count } in
      let long : length (block_in now p.component p.x p.y) ≡ 64 = sym (ap length (map_at now p.component p.x p.y h.place)) ∙ (o.read.changes).sizes p.component p.x p.y in
      let after = with_dc now p v in
      let block = slice_set (block_in now p.component p.x p.y) 0 v in
      let read = units_next i.scan w.done p (map_of i.before) (map_of now) (map_of after) w.whole next_apart o.read (put_changes i.scan now p block h (dc_keeps i.scan now p v o.band h long)) in
      subst (λ (l : List ℤ). UnitsRead i.scan (w.done ++ p ∷ []) (map_of i.before) (map_of after) (w.whole ++ l)) (dc_put i.scan now p v o.band h long) read

  -- if one more is left
  pub within_next : (v : ℤ) (next : Place) (more : List Place) → length now.blocks ≡ padded_blocks now.frame → w.more ≡ next ∷ more
      → IsWithin (drop 1 places) (units - 1) i (with_dc now w.next v) (on_to w v next more)
  within_next v next more count e = record {
    band = o.band;
    distinct = o.distinct;
    sized = o.sized;
    all = o.all ∙ ap (λ (l : List Place). w.done ++ w.next ∷ l) e ∙ sym (append_assoc w.done (w.next ∷ []) (next ∷ more));
    left = ap (drop 1) o.left ∙ ap (λ (l : List Place). l ++ i.later) e;
    count = omega (arith, o.count, ap length e);
    spots = All-drop (IsSpot i.before.frame) 1 places o.spots;
    frame = o.frame;
    read = unit_read v count;
  }

  -- and if it was the last one
  pub interval_read : (v : ℤ) (p : ℕ → ℤ) (bits : List Bool) → length now.blocks ≡ padded_blocks now.frame → w.more ≡ []
      → DcBetween i.scan.coding (units_of i) (w.whole ++ v ∷ []) p (next_of i w).others bits → IsWholeInterval i bits (with_dc now w.next v)
  interval_read v p bits count none b =
      let after = with_dc now w.next v in
      let all : i.places ≡ w.done ++ w.next ∷ [] = o.all ∙ ap (λ (l : List Place). w.done ++ w.next ∷ l) none in
      let read = subst (λ (l : List Place). UnitsRead i.scan l (map_of i.before) (map_of after) (w.whole ++ v ∷ [])) (sym all) (unit_read v count) in
      record {
        frame = o.frame;
        read = units_last i.scan i.places (map_of i.before) (map_of after) (w.whole ++ v ∷ []) bits read (b.elements, b.mid, b.covers, b.left ∙ ap (map (unit_at i.scan (map_of i.before))) none);
      }

  pub next_ready : (j : Interval) (v : ℤ) → length now.blocks ≡ padded_blocks now.frame → w.more ≡ [] → Follows i (with_dc now w.next v) j → IsDcBand j.scan
      → IsNextInterval (drop 1 places) (units - 1) j
  next_ready j v count none follows d = record {
    band = d;
    distinct = subst (λ (l : List Place). AreDistinct l) (sym follows.places) (distinct_behind i.places i.later o.distinct);
    sized = subst (λ (q : Picture). (k x y : ℕ) → length (map_of q k x y) ≡ 64) (sym follows.before) ((unit_read v count).changes).sizes;
    left = ap (drop 1) o.left ∙ ap (λ (l : List Place). l ++ i.later) none ∙ sym follows.places;
    none = omega (arith, o.count, ap length none);
    spots = subst (λ (q : Picture). All (IsSpot q.frame) (drop 1 places)) (sym follows.before) (subst (λ (f : Frame). All (IsSpot f) (drop 1 places)) (sym o.frame) (All-drop (IsSpot i.before.frame) 1 places o.spots));
  }

-- AN INTERVAL BEGINS

abbrev pub at_first : Place → List Place → InInterval
at_first next more = record { done = []; whole = []; next = next; more = more }

pub within_first : (places : List Place) (old units : ℕ) (i : Interval) (next : Place) (more : List Place) → IsNextInterval places old i → i.places ≡ next ∷ more → length i.places ≡ units → IsWithin places units i i.before (at_first next more)
within_first places old units i next more r e count = record {
  band = r.band;
  distinct = r.distinct;
  sized = r.sized;
  all = e;
  left = r.left ∙ ap (λ (l : List Place). l ++ i.later) e;
  count = omega (arith, count, ap length e);
  spots = r.spots;
  frame = refl;
  read = units_first i.scan (map_of i.before) r.sized;
}

pub whole_first : (places : List Place) (units : ℕ) (i : Interval) (next : Place) (more : List Place) → IsNextInterval places units i → i.places ≡ next ∷ more → AreCompleteUnits i (at_first next more) (λ k. pos 0) []
whole_first places units i next more r e =
    let unit = unit_at i.scan (map_of i.before) in
    record {
      elements = [];
      mid = record { predictions = λ k. pos 0; left = units_of i };
      covers = (refl, refl, refl);
      left = ap (map unit) e ∙ ap (λ (u : UnitLeft). u ∷ map unit more) (unit_is i.scan (map_of i.before) next r.band r.sized);
      predicts = λ j. refl;
    }
