-- The units of a scan, given to a sink by several calls.
use Rattle.std.proofs.Common.{◌≡◌, ℕ, zero, suc, ◌+◌, ◌-◌, ◌%◌, ◌<◌, ◌≤◌, ◌*◌, ◌==◌, Bool, true, false, cond, List, [], ◌∷◌, length, take, drop, None, Some, refl, sym, ap, ◌∙◌, subst, arith, ℤ}
use Rattle.std.specs.Prelude.{All, slice_get, Result, Ok, Err}
use Rattle.std.proofs.lemmas.List.{drop-drop, drop-take}
use Rattle.std.proofs.lemmas.List.Elements.{All-cons, All-drop, All-nil, All-same}
use Rattle.jpg_spec.specs.Geometry.{Frame, IsReal, mcu_units, units}
use Rattle.jpg_spec.specs.FrameHeader.{IsFrame}
use Rattle.jpg_spec.specs.Segments.{ScanHead, head_components}
use Rattle.jpg_spec.proofs.Basics.Common.{not_same}
use Rattle.jpg_base.specs.Cursor.{AreIn}
use Rattle.jpg_spec.specs.Elements.{zeros}
use Rattle.jpg_spec.specs.Scan.{Blocks, block_at}
use Rattle.jpg_spec.specs.declared.frame.Place.{Place}
use Rattle.jpg_base.specs.declared.stop.WriteFault.{WriteFault}
use Rattle.jpg_coefs.specs.Sinks.{At, Begins, Ends, IsNextPlace, IsOpen, IsScanPlace, SinkKind, TakesPlace, block_due, intervals_due}
use Rattle.jpg_coefs.specs.ScanUnits.{AfterGiving, AgreeAt, CanGive, GivenScan, GoesOnOrEnds, IsGiven, IsGoing, IsLeft, IsUngiven, Spot, begun_of, new_scan, no_dc, spot_of, units_each}
use Rattle.jpg_coefs.specs.declared.intervals.ScanUnits.{ScanUnits}
use Rattle.jpg_coefs.proofs.Places.{first_is, is_real_place, scan_places, some_places}
use Rattle.jpg_coefs.proofs.ScanDue.{after_place, at_its_end, at_place, begins_left, between_fault, ended_left, goes_on, goes_on_between, left_after, next_place, place_fault, places_after, scan_place}

-- BLOCKS that agree at a place

-- the block that is written at a place: that of the view, or a padding block
pub due_real : (blocks : Blocks) (last : ℤ) (p : Place) → p.real ≡ true → block_due blocks last p ≡ block_at blocks p
due_real blocks last p e = ap (λ b. cond b (block_at blocks p) (last ∷ zeros 63)) e

pub due_padding : (blocks : Blocks) (last : ℤ) (p : Place) → p.real ≡ false → block_due blocks last p ≡ last ∷ zeros 63
due_padding blocks last p e = ap (λ b. cond b (block_at blocks p) (last ∷ zeros 63)) e

pub due_same : (blocks others : Blocks) (last : ℤ) (p : Place) → AgreeAt blocks others p → block_due others last p ≡ block_due blocks last p
due_same blocks others last p agree = by p.real refl
  where
    by : (b : Bool) → p.real ≡ b → block_due others last p ≡ block_due blocks last p
    by true e = ap (λ b. cond b (block_at others p) (last ∷ zeros 63)) e ∙ sym (agree e) ∙ sym (ap (λ b. cond b (block_at blocks p) (last ∷ zeros 63)) e)
    by false e = ap (λ b. cond b (block_at others p) (last ∷ zeros 63)) e ∙ sym (ap (λ b. cond b (block_at blocks p) (last ∷ zeros 63)) e)

first_of : (P : Place → Type 0) (n : ℕ) (places : List Place) (p : Place) → 1 ≤ n → slice_get places 0 ≡ Some p → All P (take n places) → P p
first_of P n [] p some first all = cc
first_of P zero (q ∷ places) p some first all = absurd (omega (arith, some))
first_of P (suc n) (q ∷ places) p some first all = first_is P (q ∷ take n places) p all first

others_of : (P : Place → Type 0) (n : ℕ) (places cursor : List Place) → 1 ≤ n → cursor ≡ drop 1 places → All P (take n places) → All P (take (n - 1) cursor)
others_of P n places cursor some e all =
    let more : n ≡ 1 + (n - 1) = omega (arith, some) in
    let cut = ap (take (n - 1)) e ∙ sym (drop-take 1 (n - 1) places) ∙ ap (λ m. drop 1 (take m places)) (sym more) in
    All-same P (take (n - 1) cursor) _ cut (All-drop P 1 (take n places) all)

module _ {S O D : Type 0} {k : SinkKind S O D} {g : GivenScan S O D} {f : Frame} {others : Blocks} {u : ScanUnits} {now : At S O D} {rest : ℕ} (some : 1 ≤ rest) (h : CanGive k g f others rest u now) where
  -- THE FIRST PLACE that is left

  pub real_there : (p : Place) → slice_get u.cursor 0 ≡ Some p → p.real ≡ true → IsReal f p.component p.x p.y
  real_there p first real = subst (λ (n : Frame). IsReal n p.component p.x p.y) h.frame (is_real_place g.frame g.head p (scan_place (h.given).going p first) real)

  pub four_there : (p : Place) → slice_get u.cursor 0 ≡ Some p → p.component < 4
  four_there p first = (let is = scan_place (h.given).going p first in let few = ((h.given).going).few in omega (arith, is.there, few))

  agree_there : (p : Place) → slice_get u.cursor 0 ≡ Some p → AgreeAt g.blocks others p
  agree_there p first = first_of (AgreeAt g.blocks others) rest u.cursor p some first h.same

  pub next_there : (p : Place) → slice_get u.cursor 0 ≡ Some p → (blocks : Blocks) × AgreeAt blocks others p × IsNextPlace k blocks u.last p now
  next_there p first = (g.blocks, agree_there p first, next_place (begun_of k g) (spot_of u now) p (at_place (h.given).going p first))

  module _ (p : Place) (first : slice_get u.cursor 0 ≡ Some p) (last : List ℤ) (new : At S O D) where
    pub fault_there : (fault : WriteFault) → ((blocks : Blocks) → AgreeAt blocks others p → TakesPlace k blocks u.last p now (Err fault) last new) → k.ended g.from g.all (Err fault) new.out new.desk
    fault_there fault takes = place_fault (begun_of k g) (spot_of u now) p last new fault (at_place (h.given).going p first) (takes g.blocks (agree_there p first))

    module _ (cursor : List Place) (stepped : cursor ≡ drop 1 u.cursor) (takes : (blocks : Blocks) → AgreeAt blocks others p → TakesPlace k blocks u.last p now (Ok tt) last new) where
      -- AFTER IT

      pub left_there : IsLeft (begun_of k g) (after_place (spot_of u now) last cursor new)
      left_there = left_after (h.given).going first stepped (takes g.blocks (agree_there p first))

      pub open_there : IsOpen k new
      open_there = (_, left_there.due)

      pub places_there : length cursor ≡ u.left - 1
      places_there = places_after (h.given).going cursor stepped

      -- the scan is complete
      pub ends_there : (result : Result (Unit {0}) WriteFault) (later : At S O D) → u.left - 1 ≡ 0 → Ends k None new result later → k.ended g.from g.all result later.out later.desk
      ends_there result later none ends = ended_left (begun_of k g) (after_place (spot_of u now) last cursor new) result later (omega (arith, places_there, none)) left_there ends

      abbrev in_interval : ScanUnits
      in_interval = record u { cursor = cursor; left = u.left - 1; due = u.due - 1; last = last }

      -- the interval goes on
      pub more_there : length last ≡ 4 → 1 ≤ u.left - 1 → 1 ≤ u.due - 1 → IsGiven k g in_interval new
      more_there four more due = record { going = goes_on (h.given).going stepped four more due left_there; each = (h.given).each }

      -- or ends
      pub turn_fault : (later : At S O D) (fault : WriteFault) → 1 ≤ u.left - 1 → u.due - 1 ≡ 0 → Ends k (Some u.turn) new (Err fault) later → k.ended g.from g.all (Err fault) later.out later.desk
      turn_fault later fault more whole ends = between_fault (begun_of k g) (after_place (spot_of u now) last cursor new) (at_its_end (h.given).going stepped more whole left_there) later fault ends

      abbrev in_next_interval : ScanUnits
      in_next_interval = record u { cursor = cursor; left = u.left - 1; due = u.each; turn = (u.turn + 1) % 8; last = no_dc }

      pub next_interval_there : (later : At S O D) → 1 ≤ u.left - 1 → u.due - 1 ≡ 0 → Ends k (Some u.turn) new (Ok tt) later → IsGiven k g in_next_interval later
      next_interval_there later more whole ends = record {
        going = subst (λ n. IsGoing g.frame g.head (begun_of k g) (record { last = no_dc; count = n; turn = (u.turn + 1) % 8; cursor = cursor; now = later }) (u.left - 1)) (sym (h.given).each)
            (goes_on_between (h.given).going stepped more (at_its_end (h.given).going stepped more whole left_there) ends);
        each = (h.given).each;
      }

      -- and the others may be given
      pub can_go_on : (next : ScanUnits) (later : At S O D) → next.cursor ≡ cursor → IsGiven k g next later → CanGive k g f others (rest - 1) next later
      can_go_on next later same given = record { given = given; frame = h.frame; same = others_of (AgreeAt g.blocks others) rest u.cursor next.cursor some (same ∙ stepped) h.same }

-- BEFORE THE FIRST UNIT

each_some : (most all : ℕ) → 1 ≤ all → 1 ≤ cond (most == 0) all most
each_some zero all some = some
each_some (suc n) all some = subst (λ b. 1 ≤ cond b all (suc n)) (sym (not_same (suc n) 0 (λ z. omega (arith, z)))) (omega arith)

all_agree : (blocks : Blocks) (places : List Place) → All (AgreeAt blocks blocks) places
all_agree blocks [] = All-nil (AgreeAt blocks blocks)
all_agree blocks (p ∷ places) = All-cons (AgreeAt blocks blocks) p places (λ real. refl) (all_agree blocks places)

module _ {S O D : Type 0} (k : SinkKind S O D) (f : Frame) (head : ScanHead) (interval : ℕ) (blocks : Blocks) (u : ScanUnits) (now : At S O D) (frame : IsFrame f) (are : AreIn f (head_components head)) (new : IsUngiven f head interval u) where
  abbrev places : List Place
  places = units f (head_components head)

  some_left : 1 ≤ length places
  some_left = some_places f head frame are

  spot_is : spot_of u now ≡ record { last = no_dc; count = units_each f head interval; turn = 0; cursor = places; now = now }
  spot_is =
      ap (λ l. (let s : Spot S O D = record { last = l; count = u.due; turn = u.turn; cursor = u.cursor; now = now } in s)) new.last
      ∙ ap (λ n. (let s : Spot S O D = record { last = no_dc; count = n; turn = u.turn; cursor = u.cursor; now = now } in s)) (new.due ∙ new.each)
      ∙ ap (λ t. (let s : Spot S O D = record { last = no_dc; count = units_each f head interval; turn = t; cursor = u.cursor; now = now } in s)) new.turn
      ∙ ap (λ c. (let s : Spot S O D = record { last = no_dc; count = units_each f head interval; turn = 0; cursor = c; now = now } in s)) new.cursor

  size_there : 1 ≤ units_each f head interval
  size_there = each_some (interval * mcu_units f (head_components head)) (length places) some_left

  pub begins_given : Begins k (intervals_due f head interval blocks) now → IsGiven k (new_scan f head interval blocks now) u now
  begins_given begins = record {
    going = record {
      work = subst (λ s. IsLeft (begun_of k (new_scan f head interval blocks now)) s) (sym spot_is)
          (begins_left (interval * mcu_units f (head_components head)) places places refl some_left refl size_there refl begins);
      number = new.left ∙ ap length (sym new.cursor);
      some = omega (arith, some_left, new.left);
      size = size_there;
      due = omega (arith, size_there, new.due, new.each);
      places = All-same (IsScanPlace f head) u.cursor places new.cursor (scan_places f head are);
      few = frame.count_high;
      four = ap length new.last;
      turn = omega (arith, new.turn);
    };
    each = new.each;
  }

  -- all of them may be given at once
  pub can_give_all : Begins k (intervals_due f head interval blocks) now → CanGive k (new_scan f head interval blocks now) f blocks u.left u now
  can_give_all begins = record { given = begins_given begins; frame = refl; same = all_agree blocks (take u.left u.cursor) }

-- THE RESULT

module _ {S O D : Type 0} (k : SinkKind S O D) (g : GivenScan S O D) (count left : ℕ) where
  pub after_last : (result : Result (Unit {0}) WriteFault) (u : ScanUnits) (now : At S O D) → count ≡ left → k.ended g.from g.all result now.out now.desk → AfterGiving k g count left result u now
  after_last (Ok done) u now all ended = record { goes_on = λ less. absurd (omega (arith, all, less)); ends = λ e. ended }
  after_last (Err fault) u now all ended = ended

  pub after_some : (u : ScanUnits) (now : At S O D) → 1 ≤ u.left → u.left + count ≡ left → IsGiven k g u now → GoesOnOrEnds k g count left u now
  after_some u now some sum given = record { goes_on = λ less. (given, sum); ends = λ e. absurd (omega (arith, e, some, sum)) }

  pub after_all : (result : Result (Unit {0}) WriteFault) (u : ScanUnits) (now : At S O D) → count ≡ left → AfterGiving k g count left result u now → k.ended g.from g.all result now.out now.desk
  after_all (Ok done) u now all h = h.ends all
  after_all (Err fault) u now all h = h

-- THE PLACES that are left

pub stepped : {count rest : ℕ} (places : List Place) {cursor : List Place} → 1 ≤ rest → rest ≤ count → cursor ≡ drop (count - rest) places → drop 1 cursor ≡ drop (count - (rest - 1)) places
stepped {count} {rest} places {cursor} some most e =
    let n : count - rest + 1 ≡ count - (rest - 1) = omega (arith, some, most) in
    ap (drop 1) e ∙ drop-drop 1 (count - rest) places ∙ ap (λ m. drop m places) n
