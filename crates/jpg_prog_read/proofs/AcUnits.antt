-- The units of a progressive AC scan, one after another.
use Rattle.std.proofs.Common.{◌≡◌, ℕ, ◌+◌, ◌-◌, ◌<◌, ◌≤◌, Bool, true, false, List, [], ◌∷◌, ◌++◌, length, take, drop, refl, sym, ap, ◌∙◌, subst, arith, ℤ, pos, nat_abs, inl, inr, ⊎_elim}
use Rattle.std.specs.Prelude.{slice_get, slice_index_or, Some}
use Rattle.std.specs.List.{All}
use Rattle.std.proofs.lemmas.Bool.{cases_lt}
use Rattle.std.proofs.lemmas.List.{append_assoc, append-nil, nil_from_length, length-append, length-drop, length-map, length-take-le, take_at, drop_at, get_or-take, get_or-drop}
use Rattle.std.proofs.lemmas.List.Elements.{All-head, All-tail, All-weaker}
use Rattle.jpg_spec.specs.Lists.{any_of}
use Rattle.jpg_spec.specs.Codes.{Code}
use Rattle.jpg_spec.specs.Geometry.{Frame, padded_blocks}
use Rattle.jpg_spec.specs.Elements.{Coding, UnitLeft, Covers, SpellsUnits, at_start}
use Rattle.jpg_spec.specs.Parts.{band_unit}
use Rattle.jpg_spec.specs.Scan.{Blocks, Scan, band, block_at, unit_at}
use Rattle.jpg_spec.specs.PictureInWork.{is_at, is_in_band, AreDistinct, UnitsRead}
use Rattle.jpg_spec.specs.declared.frame.Place.{Place}
use Rattle.jpg_spec.proofs.Basics.Common.{not_same, some_once, clash}
use Rattle.jpg_spec.proofs.Bits.Once.{no_units}
use Rattle.jpg_spec.proofs.Places.PictureInWork.{distinct_behind, next_apart}
use Rattle.jpg_spec.proofs.Basics.Rows.{all_back}
use Rattle.jpg_spec.proofs.Bits.UnitsRead.{units_first, units_next, units_last}
use Rattle.jpg_base.specs.Cursor.{IsPadded}
use Rattle.jpg_coefs.specs.Picture.{Picture, map_of, block_in, with_block, put_at, HasPlace, KeepsOutside}
use Rattle.jpg_coefs.specs.Machine.{Interval, units_of, Follows, IsWholeInterval}
use Rattle.jpg_coefs.proofs.Maps.{map_at, put_here, put_changes}
use Rattle.jpg_prog_read.proofs.Known.{in_band}
use Rattle.jpg_prog_read.specs.declared.ac_reader.AcReader.{AcReader}
use Rattle.jpg_prog_read.specs.declared.stage.Stage.{Stage}
use Rattle.jpg_prog_read.specs.declared.stage.Stage.TheVariants as stage
use Rattle.jpg_prog_read.specs.declared.scan.BandScan.{BandScan}
use Rattle.jpg_prog_read.specs.declared.band.BandStep.{BandStep}
use Rattle.jpg_prog_read.specs.declared.band.BandStep.TheVariants.{More, Done, Fault}
use Rattle.jpg_prog_read.specs.InWork.{InWork, IsBeforeUnits, IsWholeUnit, IsEnd, IsRefinable, AreRefinable, band_values}
use Rattle.jpg_prog_read.specs.ReaderSteps.{IsSaneBand, StaysOpen, KeepsOtherValues}
use Rattle.jpg_prog_read.specs.Stands.{IsCodingOf, BetweenUnits, IsRest, Answered, AnswersBit, AnswersBand, BeginsQuietly, IsNoFault}
use Rattle.jpg_prog_read.specs.RepresentsAcScan.{HasCorrectionRoom, BandHasRoom, IsAcInterval, ReadsBy, IsReadable, units_at, HasDue, place_of, IsOfBlock, IsInUnit, HasWhole, IsBetweenUnits, IsBefore, RepresentsAcScan, AcReady, UnitAnswered}

-- THE UNIT AT A PLACE

pub unit_is : (s : Scan) (before : Blocks) (p : Place) → 1 ≤ s.ss → unit_at s before p ≡ band_unit p.component (band s (block_at before p))
unit_is s before p some = ap (λ (b : Bool). (let u : UnitLeft = record { component = p.component; has_dc = b; old = band s (block_at before p) } in u)) (not_same s.ss 0 (λ e. omega (arith, e, some)))

pub band_is : (b : BandScan) (s : Scan) (block : List ℤ) → ReadsBy b s → band_values b block ≡ band s block
band_is b s block r = ap (λ n. take (n - b.start) (drop b.start block)) r.end ∙ ap (λ n. take (s.se + 1 - n) (drop n block)) r.start

refinable_one : (b : BandScan) (codes : List Code) (c : Coding) (k : ℕ) (o : ℤ) → IsCodingOf b codes c k → HasCorrectionRoom c o → IsRefinable b o
refinable_one b codes c k o is (inl z) = inl z
refinable_one b codes c k o is (inr h) = inr (omega (arith, h.1, is.scale, ap nat_abs is.bounds))

-- where this place is the next that is left
module _ {m : AcReader} {i : Interval} {now : Picture} {done : List Place} {p : Place} {more : List Place} {whole : List ℤ} (d : HasDue m i now done (p ∷ more) whole) where
  pub places_are : i.places ++ i.later ≡ done ++ p ∷ (more ++ i.later)
  places_are = ap (λ (l : List Place). l ++ i.later) d.all ∙ append_assoc done (p ∷ more) i.later

  pub due_apart : any_of (is_at p.component p.x p.y) done ≡ false
  due_apart = next_apart done p (more ++ i.later) (subst (λ (l : List Place). AreDistinct l) places_are d.distinct)

  -- its block is the one before the interval
  pub block_same : block_at (map_of now) p ≡ block_at (map_of i.before) p
  block_same = ((d.read).changes).elsewhere p.component p.x p.y due_apart

  pub padded_at : IsPadded now.frame p.component p.x p.y
  padded_at = subst (λ (g : Frame). IsPadded g p.component p.x p.y) (sym d.frame) (All-head (IsReadable m.scan m.codes i.before.frame i.scan.coding) p (more ++ i.later) d.spots).padded

  pub coding_at : IsCodingOf m.scan m.codes i.scan.coding p.component
  coding_at = (All-head (IsReadable m.scan m.codes i.before.frame i.scan.coding) p (more ++ i.later) d.spots).coding

-- with another current unit
due_with : {m : AcReader} {i : Interval} {now : Picture} {done due : List Place} {whole : List ℤ} (n : InWork) (f : Bool) → HasDue m i now done due whole
    → HasDue (record m { unit = n; fresh = f }) i now done due whole
due_with n f d = record { reads = d.reads; kind = d.kind; distinct = d.distinct; all = d.all; cursor = d.cursor; left = d.left; spots = d.spots; frame = d.frame; read = d.read }

-- A BIT OF THE CURRENT UNIT

pub unit_read : (m : AcReader) (n : InWork) (i : Interval) (bits : List Bool) (bit : Bool) (now : Picture) (step : BandStep) → IsInUnit m i bits now → StaysOpen m.scan step n → KeepsOtherValues m.unit n
    → AnswersBit m.scan m.codes m.left m.unit bit step n → UnitAnswered (record m { unit = n }) i (bits ++ bit ∷ []) now step
unit_read m n i bits bit now step u open_ outside answers = by step open_ (answers (place_of i u.next u.more u.whole) bits (coding_at u.has_due) count u.stands)
  where
    count : m.left ≡ 1 + length (units_at i u.more)
    count = omega (arith, (u.has_due).left, length-map u.more (unit_at i.scan (map_of i.before)))

    by : (step : BandStep) → StaysOpen m.scan step n → Answered (place_of i u.next u.more u.whole) (bits ++ bit ∷ []) step n → UnitAnswered (record m { unit = n }) i (bits ++ bit ∷ []) now step
    by More o a = record {
      done = u.done;
      next = u.next;
      more = u.more;
      whole = u.whole;
      has_due = due_with n m.fresh u.has_due;
      begun = u.begun;
      goes_on = o;
      block = record { front = outside.0 ∙ (u.block).front; behind = outside.1 ∙ (u.block).behind };
      stands = a;
    }
    by Done o a = record {
      done = u.done;
      next = u.next;
      more = u.more;
      whole = u.whole;
      has_due = due_with n m.fresh u.has_due;
      ended = o;
      block = record { front = outside.0 ∙ (u.block).front; behind = outside.1 ∙ (u.block).behind };
      between = a;
    }
    by (Fault f) o a = a

-- THE NEXT UNIT IS TAKEN

-- at a place
pub record IsBetweenAt (m : AcReader) (i : Interval) (bits : List Bool) (now : Picture) (p : Place) : Type 0 where
  pub done : List Place
  pub more : List Place
  pub whole : List ℤ
  pub has_due : HasDue m i now done (p ∷ more) whole
  pub ended : IsWholeUnit m.unit
  pub between : BetweenUnits i.scan.coding (units_of i) whole (units_at i (p ∷ more)) bits m.unit

due_is : (due later cursor : List Place) (p : Place) → cursor ≡ due ++ later → 1 ≤ length due → slice_get cursor 0 ≡ Some p → (more : List Place) × (due ≡ p ∷ more)
due_is [] later cursor p e some f = absurd (omega arith)
due_is (q ∷ more) later cursor p e some f = (more, ap (λ (x : Place). x ∷ more) (some_once q p (sym (ap (λ (l : List Place). slice_get l 0) e) ∙ f)))

pub between_at : (m : AcReader) (i : Interval) (bits : List Bool) (now : Picture) (p : Place) → IsBetweenUnits m i bits now → 1 ≤ m.left → slice_get m.cursor 0 ≡ Some p → IsBetweenAt m i bits now p
between_at m i bits now p w some first =
    let d = due_is w.due i.later m.cursor p (w.has_due).cursor (omega (arith, (w.has_due).left, some)) first in
    record {
      done = w.done;
      more = d.0;
      whole = w.whole;
      has_due = subst (λ (l : List Place). HasDue m i now w.done l w.whole) d.1 w.has_due;
      ended = w.ended;
      between = subst (λ (l : List Place). BetweenUnits i.scan.coding (units_of i) w.whole (units_at i l) bits m.unit) d.1 w.between;
    }

-- THE BLOCK at that place
module _ {m : AcReader} {i : Interval} {bits : List Bool} {now : Picture} {p : Place} (t : IsBetweenAt m i bits now p) (block : List ℤ) (is : block ≡ block_in now p.component p.x p.y) where
  block_there : block ≡ block_at (map_of now) p
  block_there = is ∙ sym (map_at now p.component p.x p.y (padded_at t.has_due))

  pub old_band : band_values m.scan block ≡ band i.scan (block_at (map_of i.before) p)
  old_band = band_is m.scan i.scan block (t.has_due).reads ∙ ap (band i.scan) (block_there ∙ block_same t.has_due)

  -- its values take corrections
  pub takes_bits : AreRefinable m.scan (band_values m.scan block)
  takes_bits =
      let d = t.has_due in
      let P = BandHasRoom i.scan (map_of i.before) in
      let all : All P (p ∷ (t.more ++ i.later)) = all_back P t.done (p ∷ (t.more ++ i.later)) (subst (λ (l : List Place). All P l) (places_are d) (d.kind).room) in
      let room : All (HasCorrectionRoom i.scan.coding) (band i.scan (block_at (map_of i.before) p)) = All-head P p (t.more ++ i.later) all in
      subst (λ (l : List ℤ). All (IsRefinable m.scan) l) (sym old_band)
      (All-weaker (HasCorrectionRoom i.scan.coding) (IsRefinable m.scan) (λ o h. refinable_one m.scan m.codes i.scan.coding p.component o (coding_at d) h) (band i.scan (block_at (map_of i.before) p)) room)

  -- the unit that it gives is the next
  unit_next : BetweenUnits i.scan.coding (units_of i) t.whole (band_unit p.component (band_values m.scan block) ∷ units_at i t.more) bits m.unit
  unit_next =
      let unit : unit_at i.scan (map_of i.before) p ≡ band_unit p.component (band_values m.scan block) = unit_is i.scan (map_of i.before) p ((t.has_due).kind).some ∙ ap (band_unit p.component) (sym old_band) in
      subst (λ (u : UnitLeft). BetweenUnits i.scan.coding (units_of i) t.whole (u ∷ units_at i t.more) bits m.unit) unit t.between

  pub unit_taken : (n : InWork) (step : BandStep) → StaysOpen m.scan step n → (n.front ≡ take m.scan.start block) × (n.behind ≡ drop m.scan.end block)
      → AnswersBand m.scan (band_values m.scan block) m.unit step n → UnitAnswered (record m { unit = n; fresh = false }) i bits now step
  unit_taken n step open_ outside answers = by step open_ (answers m.codes (place_of i p t.more t.whole) bits (coding_at t.has_due) unit_next)
    where
      by : (step : BandStep) → StaysOpen m.scan step n → Answered (place_of i p t.more t.whole) bits step n
          → UnitAnswered (record m { unit = n; fresh = false }) i bits now step
      by More o a = record {
        done = t.done;
        next = p;
        more = t.more;
        whole = t.whole;
        has_due = due_with n false t.has_due;
        begun = refl;
        goes_on = o;
        block = record { front = outside.0 ∙ ap (take m.scan.start) block_there; behind = outside.1 ∙ ap (drop m.scan.end) block_there };
        stands = a;
      }
      by Done o a = record {
        done = t.done;
        next = p;
        more = t.more;
        whole = t.whole;
        has_due = due_with n false t.has_due;
        ended = o;
        block = record { front = outside.0 ∙ ap (take m.scan.start) block_there; behind = outside.1 ∙ ap (drop m.scan.end) block_there };
        between = a;
      }
      by (Fault f) o a = a

  pub taken_quietly : (step : BandStep) → BeginsQuietly m.scan (band_values m.scan block) m.unit step → IsNoFault step
  taken_quietly step quiet = quiet m.codes (place_of i p t.more t.whole) bits (coding_at t.has_due) unit_next

-- A UNIT IS PUT AT ITS PLACE

-- a block with a new band
pub record HasNewBand (b : BandScan) (old new done : List ℤ) : Type 0 where
  pub front : take b.start new ≡ take b.start old
  pub behind : drop b.end new ≡ drop b.end old
  pub values : band_values b new ≡ done

new_band : (b : BandScan) (x front done behind r : List ℤ) → IsSaneBand b → length x ≡ 64 → front ≡ take b.start x → behind ≡ drop b.end x → r ≡ front ++ (done ++ behind) → length r ≡ 64 → HasNewBand b x r done
new_band b x front done behind r sane l f h e k =
    let lf : length front ≡ b.start = ap length f ∙ length-take-le b.start x (omega (arith, sane.begun, sane.inside, l)) in
    let lb : length behind ≡ 64 - b.end = ap length h ∙ length-drop b.end x ∙ ap (λ n. n - b.end) l in
    let lr : length front + (length done + length behind) ≡ 64 = sym (length-append front (done ++ behind) ∙ ap (λ n. length front + n) (length-append done behind)) ∙ sym (ap length e) ∙ k in
    let ld : length done ≡ b.end - b.start = omega (arith, lf, lb, lr, sane.begun, sane.inside) in
    let lfd : length (front ++ done) ≡ b.end = omega (arith, length-append front done, lf, ld, sane.begun) in
    record {
      front = ap (take b.start) e ∙ take_at front (done ++ behind) b.start lf ∙ f;
      behind = ap (drop b.end) (e ∙ sym (append_assoc front done behind)) ∙ drop_at (front ++ done) behind b.end lfd ∙ h;
      values = ap (λ l. take (b.end - b.start) (drop b.start l)) e ∙ ap (take (b.end - b.start)) (drop_at front (done ++ behind) b.start lf) ∙ take_at done behind (b.end - b.start) ld;
    }

-- outside the band the values are the same
outside_same : (b : BandScan) (s : Scan) (old new done : List ℤ) (k : ℕ) → ReadsBy b s → HasNewBand b old new done → is_in_band s k ≡ false → slice_index_or new k (pos 0) ≡ slice_index_or old k (pos 0)
outside_same b s old new done k r h e =
    ⊎_elim
    (λ (lt : k < b.start). sym (get_or-take b.start new k (pos 0) lt) ∙ ap (λ (l : List ℤ). slice_index_or l k (pos 0)) h.front ∙ get_or-take b.start old k (pos 0) lt)
    (λ (le : b.start ≤ k).
    ⊎_elim
    (λ (lt : k < b.end). absurd (clash (is_in_band s k) (in_band s k (omega (arith, le, r.start)) (omega (arith, lt, r.end))) e))
    (λ (far : b.end ≤ k). (let n : b.end + (k - b.end) ≡ k = omega (arith, far) in
    let at : (l : List ℤ) → slice_index_or l k (pos 0) ≡ slice_index_or (drop b.end l) (k - b.end) (pos 0) = λ l. ap (λ (j : ℕ). slice_index_or l j (pos 0)) (sym n) ∙ sym (get_or-drop b.end l (k - b.end) (pos 0)) in
    at new ∙ ap (λ (l : List ℤ). slice_index_or l (k - b.end) (pos 0)) h.behind ∙ sym (at old)))
    (cases_lt k b.end))
    (cases_lt k b.start)

pub whole_place : (m : AcReader) (i : Interval) (bits : List Bool) (now : Picture) (p : Place) → (w : HasWhole m i bits now) → slice_get m.cursor 0 ≡ Some p → w.next ≡ p
whole_place m i bits now p w first = some_once w.next p (sym (ap (λ (l : List Place). slice_get l 0) (w.has_due).cursor) ∙ first)

pub whole_padded : (m : AcReader) (i : Interval) (bits : List Bool) (now : Picture) (p : Place) → HasWhole m i bits now → slice_get m.cursor 0 ≡ Some p → IsPadded now.frame p.component p.x p.y
whole_padded m i bits now p w first =
    subst (λ (q : Place). IsPadded now.frame q.component q.x q.y) (whole_place m i bits now p w first) (padded_at w.has_due)

pub unit_put : (m : AcReader) (i : Interval) (bits : List Bool) (now : Picture) (p : Place) (r : List ℤ) → HasWhole m i bits now → slice_get m.cursor 0 ≡ Some p → length now.blocks ≡ padded_blocks now.frame
    → r ≡ m.unit.front ++ (m.unit.done ++ m.unit.behind) → length r ≡ 64 → IsBetweenUnits (record m { cursor = drop 1 m.cursor; left = m.left - 1 }) i bits (with_block now p.component p.x p.y r)
unit_put m i bits now p r w first count e size =
    let at = whole_place m i bits now p w first in
    let d : HasDue m i now w.done (p ∷ w.more) w.whole = subst (λ (q : Place). HasDue m i now w.done (q ∷ w.more) w.whole) at w.has_due in
    let of : IsOfBlock m now p = subst (λ (q : Place). IsOfBlock m now q) at w.block in
    let x = block_at (map_of now) p in
    let h : HasNewBand m.scan x r m.unit.done =
    new_band m.scan x m.unit.front m.unit.done m.unit.behind r (d.reads).sane (((d.read).changes).sizes p.component p.x p.y) of.front of.behind e size in
    let there : HasPlace now p = record { place = padded_at d; count = count } in
    let keeps : KeepsOutside i.scan now p r = record { size = size; same = λ k o. outside_same m.scan i.scan x r m.unit.done k d.reads h o } in
    let after = put_at now p r in
    let read = units_next i.scan w.done p (map_of i.before) (map_of now) (map_of after) w.whole (due_apart d) d.read (put_changes i.scan now p r there keeps) in
    let told : band i.scan (block_at (map_of after) p) ≡ m.unit.done = ap (band i.scan) (put_here now p r there) ∙ sym (band_is m.scan i.scan r d.reads) ∙ h.values in
    record {
      done = w.done ++ p ∷ [];
      due = w.more;
      whole = w.whole ++ m.unit.done;
      has_due = record {
        reads = d.reads;
        kind = d.kind;
        distinct = d.distinct;
        all = d.all ∙ sym (append_assoc w.done (p ∷ []) w.more);
        cursor = ap (drop 1) d.cursor;
        left = omega (arith, d.left);
        spots = All-tail (IsReadable m.scan m.codes i.before.frame i.scan.coding) p (w.more ++ i.later) d.spots;
        frame = d.frame;
        read = subst (λ (l : List ℤ). UnitsRead i.scan (w.done ++ p ∷ []) (map_of i.before) (map_of after) (w.whole ++ l)) told read;
      };
      ended = w.ended;
      between = w.between;
    }

-- THE END OF THE INTERVAL

between_done : (c : Coding) (units : List UnitLeft) (told : List ℤ) (bits : List Bool) (s : InWork) (g : Stage) → s.stage ≡ g → BetweenUnits c units told [] bits s → SpellsUnits c units told bits
between_done c units told bits s stage.Code e f =
    let p = subst (λ g. IsRest c f.mid [] f.here f.part s g) e f.is_rest in
    let t : told ≡ f.before = sym (ap (λ l. f.before ++ l) (sym p.1) ∙ f.same) ∙ append-nil f.before in
    (f.elements, f.mid, subst (λ x. Covers c (at_start units) f.elements told x f.mid) (sym (f.split ∙ ap (λ l. f.front ++ l) p.2 ∙ append-nil f.front)) (subst (λ x. Covers c (at_start units) f.elements x f.front f.mid) (sym t) f.covers), p.0)
between_done c units told bits s stage.Ends e f =
    let p = subst (λ g. IsRest c f.mid [] f.here f.part s g) e f.is_rest in
    absurd (no_units p.0 p.1 (sym p.2))
between_done c units told bits s other e f = absurd (subst (λ g. IsRest c f.mid [] f.here f.part s g) e f.is_rest)

pub interval_done : (m : AcReader) (i : Interval) (bits : List Bool) (now : Picture) → m.left ≡ 0 → IsBetweenUnits m i bits now → IsWholeInterval i bits now × ((j : Interval) → Follows i now j → IsAcInterval j → AcReady m j)
interval_done m i bits now none w =
    let nil : w.due ≡ [] = nil_from_length w.due (omega (arith, (w.has_due).left, none)) in
    let d : HasDue m i now w.done [] w.whole = subst (λ (l : List Place). HasDue m i now w.done l w.whole) nil w.has_due in
    let rest : BetweenUnits i.scan.coding (units_of i) w.whole [] bits m.unit = subst (λ (l : List Place). BetweenUnits i.scan.coding (units_of i) w.whole (units_at i l) bits m.unit) nil w.between in
    let read : UnitsRead i.scan i.places (map_of i.before) (map_of now) w.whole = subst (λ (l : List Place). UnitsRead i.scan l (map_of i.before) (map_of now) w.whole) (sym (d.all ∙ append-nil w.done)) d.read in (
      record { frame = d.frame; read = units_last i.scan i.places (map_of i.before) (map_of now) w.whole bits read (between_done i.scan.coding (units_of i) w.whole bits m.unit m.unit.stage refl rest) },
      λ j follows kind. (let F : Frame → Type 0 = λ g. All (IsReadable m.scan m.codes g i.scan.coding) i.later in
          let C : Scan → Type 0 = λ s. All (IsReadable m.scan m.codes j.before.frame s.coding) (j.places ++ j.later) in
          let L : List Place → Type 0 = λ l. All (IsReadable m.scan m.codes j.before.frame i.scan.coding) l in
          let frame : i.before.frame ≡ j.before.frame = sym (ap (λ (q : Picture). q.frame) follows.before ∙ d.frame) in
          record {
            reads = subst (λ (s : Scan). ReadsBy m.scan s) (sym follows.scan) d.reads;
            kind = kind;
            distinct = subst (λ (l : List Place). AreDistinct l) (sym follows.places) (distinct_behind i.places i.later d.distinct);
            sized = subst (λ (q : Picture). (k x y : ℕ) → length (map_of q k x y) ≡ 64) (sym follows.before) ((d.read).changes).sizes;
            cursor = d.cursor ∙ sym follows.places;
            left = none;
            spots = subst C (sym follows.scan) (subst L (sym follows.places) (subst F frame d.spots));
          }),
    )

-- AN INTERVAL BEGINS

fresh_between : (c : Coding) (units : List UnitLeft) (s : InWork) → IsBeforeUnits s → BetweenUnits c units [] units [] s
fresh_between c units s f =
    record { elements = []; before = []; front = []; mid = at_start units; here = []; part = []; covers = (refl, refl, refl); split = refl; same = refl; in_bounds = refl; quiet = f.quiet; is_rest = subst (λ g. IsRest c (at_start units) units [] [] s g) (sym f.code) (refl, refl, refl) }

pub begins : (m : AcReader) (n : InWork) (i : Interval) (units : ℕ) → AcReady m i → length i.places ≡ units → 1 ≤ units → IsBeforeUnits n → RepresentsAcScan (record m { unit = n; left = units; fresh = true }) i [] i.before
begins m n i units r count some f =
    inl
    (record {
      fresh = refl;
      between = record {
        done = [];
        due = i.places;
        whole = [];
        has_due = record {
          reads = r.reads;
          kind = r.kind;
          distinct = r.distinct;
          all = refl;
          cursor = r.cursor;
          left = sym count;
          spots = r.spots;
          frame = refl;
          read = units_first i.scan (map_of i.before) r.sized;
        };
        ended = record { whole = f.whole; ended = subst (λ g. IsEnd g n) (sym f.code) tt };
        between = fresh_between i.scan.coding (units_of i) n f;
      };
      code = f.code;
      some = some;
    })

-- THE FIRST UNIT IS TAKEN

pub before_of : (m : AcReader) (i : Interval) (bits : List Bool) (now : Picture) → m.fresh ≡ true → RepresentsAcScan m i bits now → IsBefore m i bits now
before_of m i bits now e (inl b) = b
before_of m i bits now e (inr u) = absurd (clash m.fresh e u.begun)

pub in_unit_of : (m : AcReader) (i : Interval) (bits : List Bool) (now : Picture) → m.fresh ≡ false → RepresentsAcScan m i bits now → IsInUnit m i bits now
in_unit_of m i bits now e (inl b) = absurd (clash m.fresh b.fresh e)
in_unit_of m i bits now e (inr u) = u

pub first_taken : (m : AcReader) (i : Interval) (bits : List Bool) (now : Picture) (step : BandStep) → step ≡ More → UnitAnswered m i bits now step → IsInUnit m i bits now
first_taken m i bits now step e a = subst (λ s. UnitAnswered m i bits now s) e a

pub some_left : (m : AcReader) (i : Interval) (bits : List Bool) (now : Picture) → RepresentsAcScan m i bits now → 1 ≤ m.left
some_left m i bits now (inl b) = b.some
some_left m i bits now (inr u) = omega (arith, (u.has_due).left)
