-- Units of an end-of-band run whose bands have only zeros.
use Rattle.std.proofs.Common.{◌≡◌, ℕ, zero, suc, ◌+◌, ◌-◌, ◌/◌, ◌%◌, ◌^◌, ◌<◌, ◌≤◌, Bool, true, false, List, [], ◌∷◌, ◌++◌, length, drop, drop-drop, refl, sym, ap, ◌∙◌, subst, arith, ℤ, pos, negsuc, inl, inr, ◌⊎◌}
use Rattle.std.specs.Prelude.{slice_get, slice_index_or, Some, if◌then◌else◌}
use Rattle.std.specs.Int.{bit_at}
use Rattle.std.specs.List.{All}
use Rattle.std.proofs.lemmas.List.{append_assoc, length-append, length-drop, length-map, length-take-le}
use Rattle.std.proofs.lemmas.List.Elements.{All-head, All-tail}
use Rattle.jpg_base.specs.Marks.{marks}
use Rattle.jpg_base.proofs.Marked.{marks_are, marks_after}
use Rattle.jpg_spec.specs.Codes.{Code}
use Rattle.jpg_spec.specs.Elements.{Coding, UnitLeft, Standing, is_zero, zeros}
use Rattle.jpg_spec.specs.Parts.{band_unit, InEnds}
use Rattle.jpg_spec.specs.Scan.{band, block_at, unit_at}
use Rattle.jpg_spec.specs.PictureInWork.{UnitsRead, OneChanges}
use Rattle.jpg_spec.specs.declared.frame.Place.{Place}
use Rattle.jpg_spec.proofs.Basics.Common.{clash, some_once}
use Rattle.jpg_spec.proofs.Basics.Rows.{all_back}
use Rattle.jpg_spec.proofs.Bits.UnitsRead.{units_next}
use Rattle.jpg_coefs.specs.Picture.{Picture, map_of, block_in}
use Rattle.jpg_coefs.specs.Machine.{Interval, units_of}
use Rattle.jpg_prog_read.specs.declared.ac_reader.AcReader.{AcReader}
use Rattle.jpg_prog_read.specs.declared.scan.BandScan.{BandScan}
use Rattle.jpg_prog_read.specs.declared.stage.Stage.{Stage}
use Rattle.jpg_prog_read.specs.declared.stage.Stage.TheVariants as stage
use Rattle.jpg_prog_read.specs.InWork.{InWork, IsWholeUnit, IsEnd, IsPassing, HasNothing, band_values, with_band}
use Rattle.jpg_prog_read.specs.Stands.{IsCodingOf, UnitPlace, BetweenUnits, IsRest, RepresentsBandUnit}
use Rattle.jpg_prog_read.specs.RepresentsAcScan.{HasCorrectionRoom, BandHasRoom, IsReadable, units_at, place_of, IsBetweenUnits, NextIsEmpty}
use Rattle.jpg_prog_read.specs.ReaderSteps.{IsSaneBand}
use Rattle.jpg_prog_read.specs.ZerosPassed.{after_zeros}
use Rattle.jpg_prog_read.proofs.AcUnits.{IsBetweenAt, between_at, unit_is, places_are, due_apart, block_same, old_band, coding_at}
use Rattle.jpg_prog_read.proofs.BandSteps.{ends_next}
use Rattle.jpg_prog_read.proofs.Marked.{marks_first}
use Rattle.jpg_prog_read.proofs.NewValues.{zeros_all, zeros_first}
use Rattle.jpg_prog_read.proofs.Passing.{zero_in, ends_ended, ends_go_on}
use Rattle.jpg_prog_read.proofs.ZerosPassed.{zeros_passed}

-- ZEROS

pub zeros_long : (n : ℕ) → length (zeros n) ≡ n
zeros_long zero = refl
zeros_long (suc n) = omega (arith, zeros_long n)

zeros_behind : (n : ℕ) → drop n (zeros n) ≡ []
zeros_behind zero = refl
zeros_behind (suc n) = zeros_behind n

-- values of which none is marked
pub unmarked : (values : List ℤ) → marks values ≡ 0 → values ≡ zeros (length values)
unmarked [] e = refl
unmarked (pos zero ∷ values) e = ap (λ (l : List ℤ). pos 0 ∷ l) (unmarked values (omega (arith, e)))
unmarked (pos (suc m) ∷ values) e = absurd (omega (arith, e))
unmarked (negsuc m ∷ values) e = absurd (omega (arith, e))

pub zeros_unmarked : (n : ℕ) → marks (zeros n) ≡ 0
zeros_unmarked zero = refl
zeros_unmarked (suc n) = omega (arith, zeros_unmarked n)

-- the marks of a band, by those of its block
pub band_marks : (b : BandScan) (block : List ℤ) (word : ℕ) → length block ≡ 64 → word < 2 ^ 64 → ((k : ℕ) → k < 64 → bit_at word k ≡ (if is_zero (slice_index_or block k (pos 0)) then 0 else 1)) → word / 2 ^ b.start % 2 ^ (b.end - b.start) ≡ marks (band_values b block)
band_marks b block word long small bits =
    ap (λ n. n / 2 ^ b.start % 2 ^ (b.end - b.start)) (marks_are block word long small bits)
    ∙ ap (λ n. n % 2 ^ (b.end - b.start)) (marks_after block b.start)
    ∙ marks_first (drop b.start block) (b.end - b.start)

pub band_long : (b : BandScan) (block : List ℤ) → IsSaneBand b → length block ≡ 64 → length (band_values b block) ≡ b.end - b.start
band_long b block sane long = length-take-le (b.end - b.start) (drop b.start block) (omega (arith, length-drop b.start block, long, sane.begun, sane.inside))

zero_is : (o : ℤ) → is_zero o ≡ true → o ≡ pos 0
zero_is (pos zero) e = refl
zero_is (pos (suc n)) e = cc
zero_is (negsuc n) e = cc

-- in a first pass
first_zero : (c : Coding) (o : ℤ) → c.refines ≡ false → HasCorrectionRoom c o → o ≡ pos 0
first_zero c o first (inl z) = zero_is o z
first_zero c o first (inr h) = absurd (clash c.refines h.0 first)

first_zeros : (c : Coding) (values : List ℤ) → c.refines ≡ false → All (HasCorrectionRoom c) values → values ≡ zeros (length values)
first_zeros c [] first all = refl
first_zeros c (o ∷ values) first all =
    ap (λ (x : ℤ). x ∷ values) (first_zero c o first (All-head (HasCorrectionRoom c) o values all))
    ∙ ap (λ (l : List ℤ). pos 0 ∷ l) (first_zeros c values first (All-tail (HasCorrectionRoom c) o values all))

-- BETWEEN TWO UNITS only a part of the state matters

same_rest : (c : Coding) (mid : Standing) (left : List UnitLeft) (here : List ℤ) (bits : List Bool) (x n : InWork) (g : Stage) → n.bands ≡ x.bands → IsRest c mid left here bits x g → IsRest c mid left here bits n g
same_rest c mid left here bits x n stage.Code e r = r
same_rest c mid left here bits x n stage.Ends e r = (r.0, r.1, r.2, subst (λ (k : ℕ). InEnds c mid r.0 r.1 here bits k) (sym e) r.3)
same_rest c mid left here bits x n other e r = absurd r

same_between : (c : Coding) (units : List UnitLeft) (told : List ℤ) (left : List UnitLeft) (bits : List Bool) (x n : InWork) → n.walked ≡ x.walked → n.stage ≡ x.stage → n.bands ≡ x.bands
    → BetweenUnits c units told left bits x → BetweenUnits c units told left bits n
same_between c units told left bits x n walked stages bands f = record {
  elements = f.elements;
  before = f.before;
  front = f.front;
  mid = f.mid;
  here = f.here;
  part = f.part;
  covers = f.covers;
  split = f.split;
  same = f.same;
  in_bounds = f.in_bounds;
  quiet = walked ∙ f.quiet;
  is_rest = same_rest c f.mid left f.here f.part x n n.stage bands (subst (λ (g : Stage). IsRest c f.mid left f.here f.part x g) (sym stages) f.is_rest);
}

-- A BAND OF ZEROS IS PASSED

-- how it is counted
pub record IsCounted (s n : InWork) : Type 0 where
  pub some : 1 ≤ s.bands
  pub last : s.bands ≡ 1 → n ≡ record s { bands = 0; stage = stage.Code }
  pub more : 2 ≤ s.bands → n ≡ record s { bands = s.bands - 1 }

by_bands : (bands : ℕ) → 1 ≤ bands → (bands ≡ 1) ⊎ (2 ≤ bands)
by_bands zero some = absurd (omega (arith, some))
by_bands (suc zero) some = inl refl
by_bands (suc (suc n)) some = inr (omega arith)

band_passed : (at : UnitPlace) (bits : List Bool) (s n : InWork) (ac : List Code) (b : BandScan) (count : ℕ) → IsCodingOf b ac at.coding at.component → s.stage ≡ stage.Ends → count < 255 → IsCounted s n
    → BetweenUnits at.coding at.units at.told (band_unit at.component (zeros count) ∷ at.others) bits s → BetweenUnits at.coding at.units (at.told ++ zeros count) at.others bits n
band_passed at bits s n ac b count k ends few counted f = by (by_bands s.bands counted.some)
  where
    loaded : InWork
    loaded = with_band s [] (zeros count) []

    begun : RepresentsBandUnit at bits (with_band s [] (zeros count) []) × (s.stage ≡ stage.Ends)
    begun = ends_next at bits s (with_band s [] (zeros count) []) [] (zeros count) [] refl (sym ends) (omega (arith, zeros_all count, few)) f

    over : InWork
    over = after_zeros (with_band s [] (zeros count) []) count

    passed : RepresentsBandUnit at bits (after_zeros (with_band s [] (zeros count) []) count)
    passed =
        zeros_passed at bits (with_band s [] (zeros count) []) count (omega (arith, zeros_long count)) (zeros_first count count (omega arith)) (omega (arith, few)) (zero_in at.coding b.most_magnitude k.bounds) begun.0
        (subst (λ (g : Stage). IsPassing g (with_band s [] (zeros count) [])) (sym ends) counted.some)

    by : (s.bands ≡ 1) ⊎ (2 ≤ s.bands) → BetweenUnits at.coding at.units (at.told ++ zeros count) at.others bits n
    by (inl one) =
        subst (λ (m : InWork). BetweenUnits at.coding at.units (at.told ++ zeros count) at.others bits m) (sym (counted.last one))
        (same_between at.coding at.units (at.told ++ zeros count) at.others bits (record (after_zeros (with_band s [] (zeros count) []) count) { bands = 0; stage = stage.Code }) (record s { bands = 0; stage = stage.Code }) refl refl refl
        (ends_ended passed ends (zeros_behind count) one))
    by (inr some) =
        subst (λ (m : InWork). BetweenUnits at.coding at.units (at.told ++ zeros count) at.others bits m) (sym (counted.more some))
        (same_between at.coding at.units (at.told ++ zeros count) at.others bits (record (after_zeros (with_band s [] (zeros count) []) count) { bands = s.bands - 1 }) (record s { bands = s.bands - 1 }) refl refl refl
        (ends_go_on passed ends (zeros_behind count) some))

-- the unit is complete again
still_whole : (s n : InWork) → s.stage ≡ stage.Ends → IsCounted s n → IsWholeUnit s → IsWholeUnit n
still_whole s n ends counted w = by (by_bands s.bands counted.some)
  where
    by : (s.bands ≡ 1) ⊎ (2 ≤ s.bands) → IsWholeUnit n
    by (inl one) = subst (λ (m : InWork). IsWholeUnit m) (sym (counted.last one)) (record { whole = w.whole; ended = tt })
    by (inr some) =
        subst (λ (m : InWork). IsWholeUnit m) (sym (counted.more some))
        (record { whole = w.whole; ended = subst (λ (g : Stage). IsEnd g (record s { bands = s.bands - 1 })) (sym ends) (omega (arith, some)) })

-- THE NEXT UNIT

-- there is one
pub next_there : (m : AcReader) (i : Interval) (bits : List Bool) (now : Picture) → IsBetweenUnits m i bits now → 1 ≤ m.left → (p : Place) × (slice_get m.cursor 0 ≡ Some p)
next_there m i bits now w some = by w.due (w.has_due).cursor (omega (arith, (w.has_due).left, some))
  where
    by : (due : List Place) → m.cursor ≡ due ++ i.later → 1 ≤ length due → (p : Place) × (slice_get m.cursor 0 ≡ Some p)
    by [] e some = absurd (omega (arith, some))
    by (p ∷ more) e some = (p, ap (λ (l : List Place). slice_get l 0) e)

pub cursor_there : (m : AcReader) (i : Interval) (bits : List Bool) (now : Picture) → IsBetweenUnits m i bits now → 1 ≤ m.left → 1 ≤ length m.cursor
cursor_there m i bits now w some =
    let d = w.has_due in
    omega (arith, d.left, some, ap length d.cursor, long w.due i.later)
  where
    long : (due later : List Place) → length due ≤ length (due ++ later)
    long [] later = omega arith
    long (p ∷ due) later = omega (arith, long due later)

module _ {m : AcReader} {i : Interval} {bits : List Bool} {now : Picture} {p : Place} (t : IsBetweenAt m i bits now p) where
  -- in a first pass its band has only zeros
  first_empty : m.scan.refines ≡ false → band i.scan (block_at (map_of i.before) p) ≡ zeros (m.scan.end - m.scan.start)
  first_empty first =
      let d = t.has_due in let sane = (d.reads).sane in
      let P = BandHasRoom i.scan (map_of i.before) in
      let all : All P (p ∷ (t.more ++ i.later)) = all_back P t.done (p ∷ (t.more ++ i.later)) (subst (λ (l : List Place). All P l) (places_are d) (d.kind).room) in
      let room : All (HasCorrectionRoom i.scan.coding) (band i.scan (block_at (map_of i.before) p)) = All-head P p (t.more ++ i.later) all in
      let z = first_zeros i.scan.coding (band i.scan (block_at (map_of i.before) p)) ((coding_at d).refines ∙ first) room in
      let size : length (block_at (map_of now) p) ≡ 64 = ((d.read).changes).sizes p.component p.x p.y in
      let here = drop i.scan.ss (block_at (map_of i.before) p) in
      let long : length here ≡ 64 - i.scan.ss = length-drop i.scan.ss (block_at (map_of i.before) p) ∙ ap (λ (l : List ℤ). length l - i.scan.ss) (sym (block_same d)) ∙ ap (λ n. n - i.scan.ss) size in
      let n : length (band i.scan (block_at (map_of i.before) p)) ≡ i.scan.se + 1 - i.scan.ss = length-take-le (i.scan.se + 1 - i.scan.ss) here (omega (arith, long, (d.kind).most)) in
      let e : i.scan.se + 1 - i.scan.ss ≡ m.scan.end - m.scan.start = omega (arith, (d.reads).start, (d.reads).end) in
      z ∙ ap zeros (n ∙ e)

  -- the same by its block
  seen_empty : (block : List ℤ) → block ≡ block_in now p.component p.x p.y → HasNothing m.scan block → band i.scan (block_at (map_of i.before) p) ≡ zeros (m.scan.end - m.scan.start)
  seen_empty block is nothing = sym (old_band t block is) ∙ nothing

  -- it is passed
  over_next : (n : InWork) → m.unit.stage ≡ stage.Ends → IsCounted m.unit n → band i.scan (block_at (map_of i.before) p) ≡ zeros (m.scan.end - m.scan.start)
      → IsBetweenUnits (record m { unit = n; cursor = drop 1 m.cursor; left = m.left - 1 }) i bits now
  over_next n ends counted empty =
      let d = t.has_due in let sane = (d.reads).sane in
      let count = m.scan.end - m.scan.start in
      let unit : unit_at i.scan (map_of i.before) p ≡ band_unit p.component (zeros count) = unit_is i.scan (map_of i.before) p (d.kind).some ∙ ap (band_unit p.component) empty in
      let next : BetweenUnits i.scan.coding (units_of i) t.whole (band_unit p.component (zeros count) ∷ units_at i t.more) bits m.unit =
      subst (λ (u : UnitLeft). BetweenUnits i.scan.coding (units_of i) t.whole (u ∷ units_at i t.more) bits m.unit) unit t.between in
      let still : OneChanges i.scan p (map_of now) (map_of now) = record { elsewhere = λ k x y e. refl; outside = λ k e. refl; size = ((d.read).changes).sizes p.component p.x p.y } in
      let read = units_next i.scan t.done p (map_of i.before) (map_of now) (map_of now) t.whole (due_apart d) d.read still in
      let told : band i.scan (block_at (map_of now) p) ≡ zeros count = ap (band i.scan) (block_same d) ∙ empty in
      record {
        done = t.done ++ p ∷ [];
        due = t.more;
        whole = t.whole ++ zeros count;
        has_due = record {
          reads = d.reads;
          kind = d.kind;
          distinct = d.distinct;
          all = d.all ∙ sym (append_assoc t.done (p ∷ []) t.more);
          cursor = ap (drop 1) d.cursor;
          left = omega (arith, d.left);
          spots = All-tail (IsReadable m.scan m.codes i.before.frame i.scan.coding) p (t.more ++ i.later) d.spots;
          frame = d.frame;
          read = subst (λ (l : List ℤ). UnitsRead i.scan (t.done ++ p ∷ []) (map_of i.before) (map_of now) (t.whole ++ l)) told read;
        };
        ended = still_whole m.unit n ends counted t.ended;
        between = band_passed (place_of i p t.more t.whole) bits m.unit n m.codes m.scan count (coding_at d) ends (omega (arith, sane.inside)) counted next;
      }

pub first_is_empty : (m : AcReader) (i : Interval) (bits : List Bool) (now : Picture) → IsBetweenUnits m i bits now → 1 ≤ m.left → m.scan.refines ≡ false → NextIsEmpty m i
first_is_empty m i bits now w some first p there = first_empty (between_at m i bits now p w some there) first

pub seen_is_empty : (m : AcReader) (i : Interval) (bits : List Bool) (now : Picture) (p : Place) (block : List ℤ) → IsBetweenUnits m i bits now → 1 ≤ m.left → slice_get m.cursor 0 ≡ Some p → block ≡ block_in now p.component p.x p.y
    → HasNothing m.scan block → NextIsEmpty m i
seen_is_empty m i bits now p block w some there is nothing q first =
    subst (λ (r : Place). band i.scan (block_at (map_of i.before) r) ≡ zeros (m.scan.end - m.scan.start)) (some_once p q (sym there ∙ first))
    (seen_empty (between_at m i bits now p w some there) block is nothing)

pub next_passed : (m : AcReader) (n : InWork) (i : Interval) (bits : List Bool) (now : Picture) → 1 ≤ m.left → m.unit.stage ≡ stage.Ends → IsCounted m.unit n → NextIsEmpty m i → IsBetweenUnits m i bits now
    → IsBetweenUnits (record m { unit = n; cursor = drop 1 m.cursor; left = m.left - 1 }) i bits now
next_passed m n i bits now some ends counted empty w =
    let p = next_there m i bits now w some in
    over_next (between_at m i bits now p.0 w some p.1) n ends counted (empty p.0 p.1)

-- A RUN OF A FIRST PASS

-- its units are left
bands_fit : (m : AcReader) (i : Interval) (bits : List Bool) (now : Picture) → m.unit.stage ≡ stage.Ends → IsBetweenUnits m i bits now → (1 ≤ m.unit.bands) × (m.unit.bands ≤ m.left)
bands_fit m i bits now ends w =
    let f = w.between in
    let r : IsRest i.scan.coding f.mid (units_at i w.due) f.here f.part m.unit stage.Ends = subst (λ (g : Stage). IsRest i.scan.coding f.mid (units_at i w.due) f.here f.part m.unit g) ends f.is_rest in
    let long : length (units_at i w.due) ≡ length w.due = length-map w.due (unit_at i.scan (map_of i.before)) in
    ((r.3).some, omega (arith, (r.3).fits, ap length r.2, long, (w.has_due).left))

abbrev run_over : AcReader → ℕ → AcReader
run_over m count = record m { unit = record (m.unit) { bands = 0; stage = stage.Code }; cursor = drop count m.cursor; left = m.left - count }

run_from : (k : ℕ) (m : AcReader) (i : Interval) (bits : List Bool) (now : Picture) → m.unit.bands ≡ suc k → m.unit.stage ≡ stage.Ends → m.scan.refines ≡ false → IsBetweenUnits m i bits now → IsBetweenUnits (run_over m (suc k)) i bits now
run_from zero m i bits now e ends first w =
    let n : InWork = record (m.unit) { bands = 0; stage = stage.Code } in
    let some = bands_fit m i bits now ends w in
    let there : 1 ≤ m.left = omega (arith, some.0, some.1) in
    let counted : IsCounted m.unit n = record { some = some.0; last = λ h. refl; more = λ h. absurd (omega (arith, h, e)) } in
    next_passed m n i bits now there ends counted (first_is_empty m i bits now w there first) w
run_from (suc k) m i bits now e ends first w =
    let n : InWork = record (m.unit) { bands = m.unit.bands - 1 } in
    let some = bands_fit m i bits now ends w in
    let there : 1 ≤ m.left = omega (arith, some.0, some.1) in
    let counted : IsCounted m.unit n = record { some = some.0; last = λ h. absurd (omega (arith, h, e)); more = λ h. refl } in
    let mid : AcReader = record m { unit = n; cursor = drop 1 m.cursor; left = m.left - 1 } in
    let next = next_passed m n i bits now there ends counted (first_is_empty m i bits now w there first) w in
    let rest : IsBetweenUnits (run_over mid (suc k)) i bits now = run_from k mid i bits now (omega (arith, e)) ends first next in
    let C : List Place → Type 0 = λ l. IsBetweenUnits (record m { unit = record (m.unit) { bands = 0; stage = stage.Code }; cursor = l; left = m.left - 1 - suc k }) i bits now in
    let L : ℕ → Type 0 = λ x. IsBetweenUnits (record m { unit = record (m.unit) { bands = 0; stage = stage.Code }; cursor = drop (suc (suc k)) m.cursor; left = x }) i bits now in
    let all : drop (suc k) (drop 1 m.cursor) ≡ drop (suc (suc k)) m.cursor = drop-drop (suc k) 1 m.cursor ∙ ap (λ x. drop x m.cursor) (let z : 1 + suc k ≡ suc (suc k) = omega arith in z) in
    let less : m.left - 1 - suc k ≡ m.left - suc (suc k) = omega arith in
    subst L less (subst C all rest)

pub run_passed : (m : AcReader) (i : Interval) (bits : List Bool) (now : Picture) → m.unit.stage ≡ stage.Ends → m.scan.refines ≡ false → IsBetweenUnits m i bits now → IsBetweenUnits (run_over m m.unit.bands) i bits now
run_passed m i bits now ends first w = by m.unit.bands refl (bands_fit m i bits now ends w).0
  where
    by : (bands : ℕ) → m.unit.bands ≡ bands → 1 ≤ bands → IsBetweenUnits (run_over m m.unit.bands) i bits now
    by zero e some = absurd (omega (arith, some))
    by (suc k) e some = subst (λ x. IsBetweenUnits (run_over m x) i bits now) (sym e) (run_from k m i bits now e ends first w)

pub run_fits : (m : AcReader) (i : Interval) (bits : List Bool) (now : Picture) → m.unit.stage ≡ stage.Ends → IsBetweenUnits m i bits now → (m.unit.bands ≤ m.left) × (m.unit.bands ≤ length m.cursor)
run_fits m i bits now ends w =
    let d = w.has_due in let fit = bands_fit m i bits now ends w in
    (fit.1, omega (arith, fit.1, d.left, ap length d.cursor, length-append w.due i.later))
