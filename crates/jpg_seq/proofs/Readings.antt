-- Bits of a store, taken unit by unit.
use Rattle.std.proofs.Common.{◌≡◌, ℕ, ◌+◌, ◌-◌, ◌<◌, ◌≤◌, Bool, List, [], ◌∷◌, ◌++◌, length, refl, sym, ap, ◌∙◌, subst, arith, pos, slice_get, Some, Result, Ok, Err, append_assoc, All, zero, suc, true, false, ◌==◌, ◌&&◌, take, drop, ℤ, drop-drop, length-set}
use Rattle.std.proofs.lemmas.List.Elements.{All-head, All-weaker, All-same, All-tail, All-take}
use Rattle.jpg_spec.specs.Elements.{UnitLeft, Standing}
use Rattle.jpg_spec.specs.Geometry.{Frame, padded_blocks}
use Rattle.jpg_spec.specs.declared.frame.Place.{Place}
use Rattle.jpg_spec.proofs.Bits.UnitsRead.{units_first}
use Rattle.jpg_base.specs.Cursor.{IsPadded}
use Rattle.jpg_coefs.specs.Picture.{map_of, with_block, Picture, block_index, is_padded, put_at}
use Rattle.jpg_coefs.proofs.Chains.{chain_then, chain_stands}
use Rattle.jpg_coefs.specs.Machine.{Interval, Step, Chain, ChainTo, TakesBits}
use Rattle.jpg_coefs.specs.declared.machine.UnitStep.{UnitStep}
use Rattle.jpg_coefs.specs.declared.machine.UnitStep.TheVariants as step
use Rattle.jpg_coefs.specs.declared.machine.Taken.TheVariants as taken
use Rattle.jpg_seq.specs.declared.reader.SeqReader.{SeqReader}
use Rattle.jpg_seq.specs.declared.work.Coder.{Coder}
use Rattle.jpg_seq.specs.declared.work.UnitEnd.TheVariants as took
use Rattle.jpg_coefs.specs.declared.machine.UnitFault.{UnitFault}
use Rattle.jpg_seq.specs.Work.{Work, StepsThrough, no_work}
use Rattle.jpg_seq.specs.Reader.{coder_at, behind, with_work, new_units_at, IsPlaceReadable, CanRead, ReadsOn, RepresentsSeqScan, SeqReady, sequential, Spot, SoFar, IsRowOf, IsInRow, AreInRow, Part, Shows, all_blocks, lowered, no_tops, one_row, top_of, CanPut, CanReadInto, IsOpen, PutsUnit, ReadsInto, ReadsPlaces, ReadsSoFar}
use Rattle.jpg_seq.proofs.Machines.{env_at, next_is, after_unit, chain_within, step_unit, step_last, step_fault, fresh_work}
use Rattle.jpg_spec.proofs.Places.PictureInWork.{some_places}
use Rattle.jpg_spec.proofs.Basics.Common.{zeros_at, both, some_once, same_of}
use Rattle.jpg_spec.specs.PictureInWork.{is_at}
use Rattle.jpg_coefs.specs.declared.machine.Taken.{Taken}
use Rattle.jpg_coefs.proofs.Maps.{put_here, put_others, at_place}

-- the bits up to the last one of a unit
abbrev UpTo : ℕ → Spot → Result UnitStep UnitFault → Spot → Type 0
UpTo most from answer new = (bits : List Bool) × (from.store ≡ bits ++ new.store) × ChainTo sequential most from.machine from.picture bits answer new.machine new.picture

-- A complete unit was read, and its block is put into the picture.
pub record PutsBlock (now : Spot) (p : Place) (unit : Work) (new : Spot) : Type 0 where
  pub count : length (now.picture).blocks ≡ padded_blocks (now.picture).frame
  pub reads : ReadsOn now.machine p.component now.store took.Done unit new.store
  pub machine : new.machine ≡ behind (with_work now.machine unit) p.component
  pub block : new.picture ≡ with_block now.picture p.component p.x p.y unit.values

-- its last bit, by which the machine takes a step
bit_step : {now : Spot} {p : Place} {unit : Work} {new : Spot} (answer : UnitStep) → (put : PutsBlock now p unit new)
    → (let h = (put.reads).2.2 in Step sequential (with_work now.machine h.2) now.picture h.1 (Ok answer) (after_unit now.machine unit p.component) (with_block now.picture p.component p.x p.y unit.values)
    → Step sequential (with_work now.machine h.2) now.picture h.1 (Ok answer) new.machine new.picture)
bit_step {now} {p} {unit} {new} answer put one =
    let h = (put.reads).2.2 in
    rw (put.machine, put.block) one

two_left : {now : Spot} {p : Place} {unit : Work} {new : Spot} → PutsBlock now p unit new → 1 ≤ (new.machine).left → 2 ≤ (now.machine).left
two_left put some = omega (arith, ap (λ (q : SeqReader). q.left) put.machine, some)

module _ {most : ℕ} {from now : Spot} {done : ℕ} (s : SoFar most from now done) where
  pub some_left : 1 ≤ (now.machine).left
  some_left = omega (arith, (s.standing).left)

  pub has_place : 1 ≤ length (now.machine).cursor
  has_place = omega (arith, ap length (s.standing).cursor)

module _ {most : ℕ} {from now : Spot} {done : ℕ} (s : SoFar most from now done) {p : Place} (first : slice_get (now.machine).cursor 0 ≡ Some p) where
  -- the place is one of the interval's
  readable : IsPlaceReadable now.machine ((s.interval).before).frame p
  readable =
      let o = s.standing in
      subst (IsPlaceReadable now.machine ((s.interval).before).frame) (next_is now.machine s.interval s.bits now.picture p first o)
      (All-head (IsPlaceReadable now.machine ((s.interval).before).frame) o.next (o.more ++ (s.interval).later) o.spots)

  pub can_read : CanRead now.machine p.component
  can_read =
      let o = s.standing in
      let n = next_is now.machine s.interval s.bits now.picture p first o in
      let r = All-head (IsPlaceReadable now.machine ((s.interval).before).frame) o.next (o.more ++ (s.interval).later) o.spots in
      subst (λ (q : Place). CanRead now.machine q.component) n (record { small = r.small; sane = o.reads.sane; coder = r.coder; there = r.there; at_work = o.at_work r.coder r.there })

  pub can_put : IsPadded (now.picture).frame p.component p.x p.y
  can_put = subst (λ (g : Frame). IsPadded g p.component p.x p.y) (sym (s.standing).frame) readable.padded

  -- all bits were taken
  pub empty_ends : {unit : Work} {rest : List Bool} → ReadsOn now.machine p.component now.store took.Empty unit rest
      → TakesBits sequential most from.machine from.picture from.store taken.More (with_work now.machine unit) now.picture rest
  empty_ends {unit} {rest} r =
      let t = r.2.0 in
      let c = chain_within now.machine p r.0 now.picture t (now.machine).unit unit first r.1 r.2.2 in
      let all = s.split ∙ ap (λ z. s.taken ++ z) r.2.1 ∙ sym (append_assoc s.taken t rest) in
      (s.taken ++ t, all, (chain_then sequential from.machine now.machine (with_work now.machine unit) from.picture now.picture now.picture s.taken t s.chain c, omega (arith, s.count, s.few), r.2.4 refl))

  up_to : (answer : Result UnitStep UnitFault) (new : Spot) (coder : Coder) → coder_at now.machine p.component ≡ Some coder → (bits : List Bool) → now.store ≡ bits ++ new.store → (front : List Bool) (bit : Bool) (mid : Work) → bits ≡ front ++ bit ∷ []
      → StepsThrough (env_at now.machine coder p.component) (now.machine).unit front mid → Step sequential (with_work now.machine mid) now.picture bit answer new.machine new.picture → UpTo most from answer new
  up_to answer new coder there bits split front bit mid cut leads one =
      let m = now.machine in
      let c = chain_within m p coder now.picture front m.unit mid first there leads in (
        s.taken ++ bits,
        s.split ∙ ap (λ z. s.taken ++ z) split ∙ sym (append_assoc s.taken bits new.store),
        (
          s.taken ++ front,
          bit,
          with_work m mid,
          now.picture,
          ap (λ z. s.taken ++ z) cut ∙ sym (append_assoc s.taken front (bit ∷ [])),
          chain_then sequential from.machine m (with_work m mid) from.picture now.picture now.picture s.taken front s.chain c,
          omega (arith, s.count, s.few),
          one,
        ),
      )

  pub fault_ends : {rest : List Bool} {fault : UnitFault} (unit : Work) (new : SeqReader) → ReadsOn now.machine p.component now.store (took.Fault fault) unit rest
      → TakesBits sequential most from.machine from.picture from.store (taken.Fault fault) new now.picture rest
  fault_ends {rest} {fault} unit new r =
      let h = r.2.2 in
      up_to (Err fault) (record { machine = new; picture = now.picture; store = rest }) r.0 r.1 r.2.0 r.2.1 h.0 h.1 h.2 h.3 h.4 (step_fault (with_work now.machine h.2) new p r.0 now.picture h.1 fault first r.1 h.5)

  -- a unit with its last bit
  last_bit : {unit : Work} {new : Spot} (answer : UnitStep) → (put : PutsBlock now p unit new)
      → (let h = (put.reads).2.2 in Step sequential (with_work now.machine h.2) now.picture h.1 (Ok answer) (after_unit now.machine unit p.component) (with_block now.picture p.component p.x p.y unit.values))
      → UpTo most from (Ok answer) new
  last_bit {unit} {new} answer put one = (let r = put.reads in let h = r.2.2 in up_to (Ok answer) new r.0 r.1 r.2.0 r.2.1 h.0 h.1 h.2 h.3 h.4 (bit_step answer put one))

  pub interval_ends : {unit : Work} {new : Spot} → PutsBlock now p unit new → (new.machine).left ≡ 0
      → TakesBits sequential most from.machine from.picture from.store taken.IntervalDone new.machine new.picture new.store
  interval_ends {unit} put none =
      let r = put.reads in
      let h = r.2.2 in
      let one : (now.machine).left ≡ 1 = omega (arith, ap (λ (q : SeqReader). q.left) put.machine, none, (s.standing).left) in
      last_bit step.IntervalDone put (step_last (with_work now.machine h.2) p r.0 now.picture h.1 unit first r.1 put.count h.5 one)

  pub units_end : {unit : Work} {new : Spot} → PutsBlock now p unit new → 1 ≤ (new.machine).left → most ≤ done + 1
      → TakesBits sequential most from.machine from.picture from.store taken.Units new.machine new.picture new.store
  units_end {unit} put some enough =
      let r = put.reads in
      let h = r.2.2 in
      let left = ap (λ (q : SeqReader). q.left) put.machine in
      let two = two_left put some in
      let u = last_bit step.More put (step_unit (with_work now.machine h.2) p r.0 now.picture h.1 unit first r.1 put.count h.5 two) in
      (u.0, u.1, (u.2, omega (arith, s.count, left, two, enough), omega (arith, left, two)))

  pub goes_on : {unit : Work} {new : Spot} → PutsBlock now p unit new → 1 ≤ (new.machine).left → done + 1 < most → SoFar most from new (done + 1)
  goes_on {unit} {new} put some few =
      let m = now.machine in
      let r = put.reads in
      let h = r.2.2 in
      let t = r.2.0 in
      let left : (new.machine).left ≡ m.left - 1 = ap (λ (q : SeqReader). q.left) put.machine in
      let two = two_left put some in
      let one = bit_step step.More put (step_unit (with_work m h.2) p r.0 now.picture h.1 unit first r.1 put.count h.5 two) in
      let c = chain_within m p r.0 now.picture h.0 m.unit h.2 first r.1 h.4 in
      let last : Chain sequential (with_work m h.2) now.picture (h.1 ∷ []) new.machine new.picture = (new.machine, new.picture, one, (refl, refl)) in
      let there : Chain sequential m now.picture t new.machine new.picture =
      subst (λ (z : List Bool). Chain sequential m now.picture z new.machine new.picture) (sym h.3) (chain_then sequential m (with_work m h.2) new.machine now.picture now.picture new.picture h.0 (h.1 ∷ []) c last) in
      record {
        taken = s.taken ++ t;
        split = s.split ∙ ap (λ z. s.taken ++ z) r.2.1 ∙ sym (append_assoc s.taken t new.store);
        chain = chain_then sequential from.machine m new.machine from.picture now.picture new.picture s.taken t s.chain there;
        count = omega (arith, s.count, left, two);
        few = few;
        interval = s.interval;
        bits = s.bits ++ t;
        standing = chain_stands sequential m new.machine now.picture new.picture s.interval s.bits t there s.standing;
      }

-- AN INTERVAL BEGINS

pub begins : (m new : SeqReader) (i : Interval) (units : ℕ) → SeqReady m i → length i.places ≡ units → 1 ≤ units → new ≡ record m { unit = no_work; predictions = pos 0 ∷ pos 0 ∷ pos 0 ∷ pos 0 ∷ []; left = units } → RepresentsSeqScan new i [] i.before
begins m new i units r count some is =
    let l = some_places i.places (omega arith) in
    let target : SeqReader = record m { unit = no_work; predictions = pos 0 ∷ pos 0 ∷ pos 0 ∷ pos 0 ∷ []; left = units } in
    let places : i.places ++ i.later ≡ l.0 ∷ (l.1 ++ i.later) = ap (λ (z : List Place). z ++ i.later) l.2 in
    let all = All-weaker (IsPlaceReadable m i.before.frame) (IsPlaceReadable target i.before.frame) (λ q s. record { small = s.small; padded = s.padded; coder = s.coder; there = s.there }) (i.places ++ i.later) r.spots in
    rw is (record {
      reads = record { sane = r.reads.sane; codes = r.reads.codes };
      kind = r.kind;
      distinct = r.distinct;
      done = [];
      next = l.0;
      more = l.1;
      all = l.2;
      cursor = r.cursor ∙ places;
      left = omega (arith, count, ap length l.2);
      spots = rw places at all;
      whole = [];
      predictions = λ k. pos 0;
      elements = [];
      front = [];
      part = [];
      covers = (refl, refl, ap (λ (u : List UnitLeft). (let s : Standing = record { predictions = λ k. pos 0; left = u } in s)) (sym (r.kind.units ∙ ap new_units_at l.2)));
      split = refl;
      four = refl;
      predicts = λ k lt. zeros_at k;
      unit_elements = [];
      unit_front = [];
      unit_covers = (refl, refl, refl);
      unit_split = refl;
      at_work = λ c e. fresh_work target c l.0.component;
      frame = refl;
      read = units_first i.scan (map_of i.before) r.sized;
    })

-- Bits that are taken into the blocks that are stored.

-- the numbers of a place
of_place : (i x y : ℕ) (p : Place) → is_at i x y p ≡ true → (p.component ≡ i) × (p.x ≡ x) × (p.y ≡ y)
of_place i x y p e =
    let a = both (p.component == i && p.x == x) (p.y == y) e in
    let b = both (p.component == i) (p.x == x) a.0 in
    (same_of p.component i b.0, same_of p.x x b.1, same_of p.y y a.1)

-- A block is put into the picture, and into the MCU row.
pub row_put : (tops : List ℕ) (whole row : Picture) (p : Place) (block : List ℤ) → IsRowOf tops whole row → length row.blocks ≡ padded_blocks row.frame → IsPadded whole.frame p.component p.x p.y → IsInRow row.frame tops p
    → IsRowOf tops (put_at whole p block) (put_at row (lowered tops p) block)
row_put tops whole row p block r count pad here = record { framed = r.framed; count = counted; blocks = λ i x y inside. by i x y inside (is_at i x y q) refl }
  where
    q : Place
    q = lowered tops p

    counted : length (put_at whole p block).blocks ≡ padded_blocks whole.frame
    counted = length-set whole.blocks (block_index whole.frame p.component p.x p.y) block ∙ r.count

    by : (i x y : ℕ) → is_padded row.frame i x y ≡ true → (b : Bool) → is_at i x y q ≡ b → map_of (put_at row q block) i x y ≡ map_of (put_at whole p block) i x (top_of tops i + y)
    by i x y inside true e =
        let o = of_place i x y q e in
        let up : p.y ≡ top_of tops p.component + y = omega (arith, o.2, here.below) in
        let a : map_of (put_at row q block) i x y ≡ block = rw (sym o.0, sym o.1, sym o.2) (put_here row q block (record { place = here.padded; count = count })) in
        let b : map_of (put_at whole p block) i x (top_of tops i + y) ≡ block = rw (sym o.0, sym o.1, sym up) (put_here whole p block (record { place = pad; count = r.count })) in
        a ∙ sym b
    by i x y inside false e =
        put_others row q block (record { place = here.padded; count = count }) i x y e
        ∙ r.blocks i x y inside
        ∙ sym (put_others whole p block (record { place = pad; count = r.count }) i x (top_of tops i + y) (apart (is_at i x (top_of tops i + y) p) refl))
      where
        apart : (b : Bool) → is_at i x (top_of tops i + y) p ≡ b → b ≡ false
        apart false h = refl
        apart true h =
            let o = of_place i x (top_of tops i + y) p h in
            let up : top_of tops p.component ≡ top_of tops i = ap (top_of tops) o.0 in
            let yes : is_at i x y q ≡ true = at_place i x y q o.0 o.1 (omega (arith, o.2, up)) in
            let no : true ≡ false = sym yes ∙ e in
            absurd cc

-- the grids of a whole picture begin at row 0
zero_top : (i : ℕ) → top_of no_tops i ≡ 0
zero_top zero = refl
zero_top (suc zero) = refl
zero_top (suc (suc zero)) = refl
zero_top (suc (suc (suc zero))) = refl
zero_top (suc (suc (suc (suc i)))) = refl

-- A block is put into the picture, and into what is stored of it.
shown_put : (part : Part) (tops : List ℕ) (whole stored : Picture) (p : Place) (block : List ℤ) → Shows part tops whole stored → length stored.blocks ≡ padded_blocks stored.frame → IsPadded whole.frame p.component p.x p.y → IsInRow stored.frame tops p
    → Shows part tops (put_at whole p block) (put_at stored (lowered tops p) block)
shown_put all_blocks tops whole stored p block (none, is) count pad here =
    let y : p.y - top_of tops p.component ≡ p.y = omega (arith, ap (λ (t : List ℕ). top_of t p.component) none, zero_top p.component) in
    let q : lowered tops p ≡ p = ap (λ (z : ℕ). (let r : Place = record p { y = z } in r)) y in
    (none, ap (λ (r : Place). put_at stored r block) q ∙ ap (λ (r : Picture). put_at r p block) is)
shown_put one_row tops whole stored p block r count pad here = row_put tops whole stored p block r count pad here

-- all blocks of the picture are there
shown_count : (part : Part) (tops : List ℕ) (whole stored : Picture) → Shows part tops whole stored → length stored.blocks ≡ padded_blocks stored.frame → length whole.blocks ≡ padded_blocks whole.frame
shown_count all_blocks tops whole stored (none, is) count = subst (λ (q : Picture). length q.blocks ≡ padded_blocks q.frame) is count
shown_count one_row tops whole stored r count = r.count

-- ALL BLOCKS are stored

-- The next places are among them.
pub all_inside : (m : SeqReader) (now : Picture) (most : ℕ) → IsOpen m now → AreInRow now.frame no_tops (take most m.cursor)
all_inside m now most (i, bits, o) =
    let inside : (p : Place) → IsPlaceReadable m i.before.frame p → IsInRow now.frame no_tops p = λ p r.
    record {
      below = omega (arith, zero_top p.component);
      padded = subst (λ (f : Frame). IsPadded f p.component p.x (p.y - top_of no_tops p.component)) (sym o.frame)
          (subst (λ y. IsPadded i.before.frame p.component p.x y) (omega (arith, zero_top p.component)) r.padded);
    } in
    let places = o.next ∷ (o.more ++ i.later) in
    All-take (IsInRow now.frame no_tops) most m.cursor
    (All-same (IsInRow now.frame no_tops) m.cursor places o.cursor (All-weaker (IsPlaceReadable m i.before.frame) (IsInRow now.frame no_tops) inside places o.spots))

-- The bits are taken into the picture.
pub all_taken : (most : ℕ) (m new : SeqReader) (now after : Picture) (store rest : List Bool) (answer : Taken) → IsOpen m now → ReadsInto most no_tops m now store answer new after rest
    → TakesBits sequential most m now store answer new after rest
all_taken most m new now after store rest answer o t =
    let k = t all_blocks now (refl, refl) o in
    subst (λ (q : Picture). TakesBits sequential most m now store answer new q rest) (sym k.1.1) k.2

-- one of the places that are next
pub next_inside : (P : Place → Type 0) (places : List Place) (most done : ℕ) (p : Place) → All P (take most places) → done < most → slice_get (drop done places) 0 ≡ Some p → P p
next_inside P places zero done p all few is = absurd (omega (arith, few))
next_inside P [] (suc most) zero p all few is = absurd cc
next_inside P [] (suc most) (suc done) p all few is = absurd cc
next_inside P (q ∷ places) (suc most) zero p all few is = subst P (some_once q p is) (All-head P q (take most places) all)
next_inside P (q ∷ places) (suc most) (suc done) p all few is = next_inside P places most done p (All-tail P q (take most places) all) (omega (arith, few)) is

-- WHAT WAS READ SO FAR, and what ends it

pub row_starts : (most : ℕ) (tops : List ℕ) (s : Spot) → 1 ≤ most → ReadsSoFar most tops s s 0
row_starts most tops s some = record {
  so_far = λ part whole is o. (whole, is, record { taken = []; split = refl; chain = (refl, refl); count = omega arith; few = some; interval = o.0; bits = o.1; standing = o.2 });
  framed = refl;
  few = some;
  cursor = refl;
  left = omega arith;
}

module _ {most : ℕ} {tops : List ℕ} {from now : Spot} {done : ℕ} (r : ReadsSoFar most tops from now done) {p : Place} (first : slice_get (now.machine).cursor 0 ≡ Some p) where
  pub row_can_read : CanReadInto tops from.machine from.picture → CanRead now.machine p.component
  row_can_read o = can_read (r.so_far o.0 o.1 o.2 o.3).2 first

  row_here : AreInRow (from.picture).frame tops (take most (from.machine).cursor) → IsInRow (now.picture).frame tops p
  row_here inside =
      subst (λ (f : Frame). IsInRow f tops p) (sym r.framed)
      (next_inside (IsInRow (from.picture).frame tops) (from.machine).cursor most done p inside r.few (ap (λ (l : List Place). slice_get l 0) (sym r.cursor) ∙ first))

  pub row_can_put : (unit : Work) → CanReadInto tops from.machine from.picture → AreInRow (from.picture).frame tops (take most (from.machine).cursor) → length unit.values ≡ 64 → CanPut (with_work now.machine unit) (now.picture).frame tops p
  row_can_put unit o inside whole = (let w = r.so_far o.0 o.1 o.2 o.3 in record { small = (row_can_read o).small; here = row_here inside; whole = whole; left = some_left w.2; place = has_place w.2 })

  pub row_empty : {unit : Work} {rest : List Bool} → ReadsOn now.machine p.component now.store took.Empty unit rest
      → ReadsPlaces most tops from.machine from.picture from.store taken.More (with_work now.machine unit) now.picture rest
  row_empty {unit} reads = record { takes = λ part whole is o. (let w = r.so_far part whole is o in (w.0, w.1, empty_ends w.2 first reads)); passes = record { units = done; few = r.few; cursor = r.cursor; left = r.left } }

  pub row_fault : {rest : List Bool} {fault : UnitFault} (unit : Work) → ReadsOn now.machine p.component now.store (took.Fault fault) unit rest
      → ReadsPlaces most tops from.machine from.picture from.store (taken.Fault fault) (with_work now.machine unit) now.picture rest
  row_fault unit reads = record {
    takes = λ part whole is o. (let w = r.so_far part whole is o in (w.0, w.1, fault_ends w.2 first unit (with_work now.machine unit) reads));
    passes = record { units = done; few = r.few; cursor = r.cursor; left = r.left };
  }

-- A unit is complete, and its block is put into what is stored.
module _ {most : ℕ} {tops : List ℕ} {from now : Spot} {done : ℕ} (r : ReadsSoFar most tops from now done) {p : Place} (first : slice_get (now.machine).cursor 0 ≡ Some p)
    (open_now : CanReadInto tops from.machine from.picture) (inside : AreInRow (from.picture).frame tops (take most (from.machine).cursor)) {unit : Work} {machine : SeqReader} {picture : Picture} {store : List Bool}
    (reads : ReadsOn now.machine p.component now.store took.Done unit store) (put : PutsUnit tops (with_work now.machine unit) now.picture p machine picture) where
  abbrev new : Spot
  new = record { machine = machine; picture = picture; store = store }

  some : 1 ≤ (now.machine).left
  some = some_left (r.so_far open_now.0 open_now.1 open_now.2 open_now.3).2

  -- the picture that it is a part of, by then
  put_now : (part : Part) (after : Picture) → Shows part tops after now.picture → IsPadded after.frame p.component p.x p.y → Shows part tops (put_at after p unit.values) new.picture
  put_now part after is pad = subst (λ (q : Picture). Shows part tops (put_at after p unit.values) q) (sym put.block) (shown_put part tops after now.picture p unit.values is put.count pad (row_here r first inside))

  put_whole : (part : Part) (after : Picture) → Shows part tops after now.picture → PutsBlock (record now { picture = after }) p unit (record new { picture = put_at after p unit.values })
  put_whole part after is = record { count = shown_count part tops after now.picture is put.count; reads = reads; machine = put.machine; block = refl }

  cursor_one : (new.machine).cursor ≡ drop (done + 1) (from.machine).cursor
  cursor_one = ap (λ (q : SeqReader). q.cursor) put.machine ∙ ap (drop 1) r.cursor ∙ drop-drop 1 done (from.machine).cursor

  left_one : (from.machine).left ≡ (new.machine).left + (done + 1)
  left_one = omega (arith, r.left, ap (λ (q : SeqReader). q.left) put.machine, some)

  pub row_interval : machine.left ≡ 0 → ReadsPlaces most tops from.machine from.picture from.store taken.IntervalDone machine picture store
  row_interval none = record {
    takes = λ part whole at o. (let w = r.so_far part whole at o in (put_at w.0 p unit.values, put_now part w.0 w.1 (can_put w.2 first), interval_ends w.2 first (put_whole part w.0 w.1) none));
    passes = record { units = done + 1; few = (omega (arith, r.few), none); cursor = cursor_one; left = left_one };
  }

  pub row_units : 1 ≤ machine.left → most ≤ done + 1 → ReadsPlaces most tops from.machine from.picture from.store taken.Units machine picture store
  row_units more enough = record {
    takes = λ part whole at o. (let w = r.so_far part whole at o in (put_at w.0 p unit.values, put_now part w.0 w.1 (can_put w.2 first), units_end w.2 first (put_whole part w.0 w.1) more enough));
    passes = record { units = done + 1; few = (omega (arith, r.few, enough), more); cursor = cursor_one; left = left_one };
  }

  pub row_goes_on : 1 ≤ machine.left → done + 1 < most → ReadsSoFar most tops from new (done + 1)
  row_goes_on more few = record {
    so_far = λ part whole at o. (let w = r.so_far part whole at o in (put_at w.0 p unit.values, put_now part w.0 w.1 (can_put w.2 first), goes_on w.2 first (put_whole part w.0 w.1) more few));
    framed = ap (λ (q : Picture). q.frame) put.block ∙ r.framed;
    few = few;
    cursor = cursor_one;
    left = left_one;
  }
