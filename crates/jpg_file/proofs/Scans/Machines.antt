-- A kind of machine among others: what one of its machines does, it does as one of them.
use Rattle.std.proofs.Common.{◌≡◌, ℕ, Bool, cond, List, [], ◌∷◌, ◌++◌, refl, sym, ap, subst, ◌∙◌, ◌==◌, ◌&&◌, true, false, arith, not, nat_lt, Result, Ok, Err, ◌||◌, ◌≤◌, ℤ, pos, map, slice_index_or, All, zero, suc, ◌-◌, ◌*◌, min, length, take, drop, append-nil, length-append, length-take, length-drop, take-append-drop}
use Rattle.jpg_spec.specs.Elements.{Coding}
use Rattle.jpg_spec.specs.Geometry.{Frame, is_progressive, units, mcu_units}
use Rattle.jpg_spec.specs.Scan.{Scan, TablesInForce, scan_coding, Blocks, band, block_at, unit_at, scan_of}
use Rattle.jpg_spec.specs.Segments.{ScanHead, head_components}
use Rattle.jpg_coefs.specs.Picture.{Picture, map_of}
use Rattle.jpg_coefs.specs.Machine.{Answered, Chain, ChainTo, Interval, IsUnfinished, KeepsUnits, Kind, Step, TakesBits, units_of}
use Rattle.jpg_coefs.specs.declared.machine.Taken.{Taken}
use Rattle.jpg_coefs.specs.declared.machine.Taken.TheVariants as taken
use Rattle.jpg_coefs.specs.declared.machine.UnitFault.{UnitFault}
use Rattle.jpg_coefs.specs.declared.machine.UnitStep.{UnitStep}
use Rattle.jpg_coefs.specs.declared.machine.UnitStep.TheVariants.{More, IntervalDone}
use Rattle.jpg_seq.specs.declared.reader.SeqReader.{SeqReader}
use Rattle.jpg_seq.specs.Reader.{sequential, HasTables, IsSeqScan, in_force, IsSequential, new_units_at}
use Rattle.jpg_seq.proofs.Machines.{keeps_units, valid}
use Rattle.jpg_prog_read.specs.declared.ac_reader.AcReader.{AcReader}
use Rattle.jpg_prog_read.specs.declared.dc_first.DcFirst.{DcFirst as First}
use Rattle.jpg_prog_read.specs.declared.dc_refine.DcRefine.{DcRefine as Refine}
use Rattle.jpg_prog_read.specs.RepresentsAcScan.{progressive_ac, BandHasRoom, HasCorrectionRoom, IsAcInterval}
use Rattle.jpg_prog_read.specs.DcFirstPass.{first_pass}
use Rattle.jpg_prog_read.specs.DcRefinement.{refinement, HasDcRoom as DcHasRoom, HasRoomAt, TakesOneBit}
use Rattle.jpg_prog_read.proofs.AcDue as ac
use Rattle.jpg_prog_read.proofs.DcMachines.{first_keeps_units, refine_keeps_units}
use Rattle.jpg_file.specs.Read.Machine.{GivesBits, GivesRun, any_scan, scan_kind, FitsKind, ScanKind, whole_blocks, dc_first, dc_later, ac_band, HasNeeded, IsOfHeader, IsScanHeader}
use Rattle.jpg_file.specs.declared.read.machine.ScanReader.{ScanReader}
use Rattle.jpg_file.specs.declared.read.machine.ScanReader.TheVariants.{Sequential, DcFirst, DcRefine, Ac}
use Rattle.std.proofs.lemmas.List.Elements.{All-weaker, All-nil, All-cons, All-head, All-tail}
use Rattle.jpg_spec.specs.declared.frame.ScanPart.{ScanPart}
use Rattle.jpg_huff.specs.declared.set.TableSet.{TableSet}
use Rattle.jpg_prog_read.specs.DcNew.{IsOfFirst}
use Rattle.jpg_prog_read.specs.NewAcReader.{IsOfAcScan}
use Rattle.std.proofs.lemmas.Bool.Decides.{nat_tests}
use Rattle.jpg_spec.specs.Lists.{any_of, is_among, joined, chunks, chunks_of, is_distinct}
use Rattle.jpg_spec.specs.InForce.{huffman_in_force, head_in, restart_in_force}
use Rattle.jpg_spec.specs.Items.{segments_of, Item}
use Rattle.jpg_spec.specs.PictureInWork.{AreDistinct, ScanSoFar, is_at}
use Rattle.jpg_spec.specs.ScanReading.{ScanAt, ScanPlace, scan_at}
use Rattle.jpg_spec.specs.declared.frame.Limits.{Limits}
use Rattle.jpg_spec.specs.declared.frame.Place.{Place}
use Rattle.jpg_spec.proofs.Files.BlocksOnce.{joined_chunks}
use Rattle.jpg_spec.proofs.Basics.Common.{same_of, not_zero}
use Rattle.jpg_spec.proofs.Bits.IntervalUnits.{head_of, sequential_units}
use Rattle.jpg_spec.proofs.Places.PictureInWork.{AreApart, apart_of, apart_swap, joined_join, so_far_units, so_far_first}
use Rattle.jpg_spec_write.proofs.PlacedBlocks.{each_all}
use Rattle.jpg_spec.proofs.Places.PlacesDistinct.{units_distinct}
use Rattle.jpg_spec.proofs.Places.PlacesFound.{each_units}
use Rattle.jpg_spec.proofs.Basics.Rows.{all_back, all_front}
use Rattle.jpg_spec.proofs.Files.ScanAnswers.{units_at}
use Rattle.jpg_prog_read.specs.DcPlaces.{IsDcBand}
use Rattle.jpg_file.specs.Read.InData.{IsInterval, IsReadable, frame_at, AreIntervals, InData}
use Rattle.jpg_file.proofs.Headers.HeaderTaken.{Says, head_says, BeginsPass, ac_band_room, dc_room}
use Rattle.jpg_spec.specs.Markers.{kept_rule}
use Rattle.jpg_spec.specs.FileMeaning.{scan_after}
use Rattle.jpg_spec.proofs.Places.PlacesSome.{head_units_some}
use Rattle.jpg_spec.proofs.Files.ScanSteps.{first_place}
use Rattle.jpg_spec.proofs.Files.ItemSteps.{scan_begun}
use Rattle.jpg_file.specs.Read.ScanStart.{Begins, HeadHeld, before_data}

-- Machines of the kind k are machines of the kind all, made by e: as such they represent what they represent by
-- themselves, also after more bits.
pub record IsOneOf (M N : Type 0) (e : M → N) (k : Kind M) (all : Kind N) : Type 0 where
  pub own : (m : M) (i : Interval) (bits : List Bool) (now : Picture) → all.stands (e m) i bits now → k.stands m i bits now
  pub stands : (m new : M) (i : Interval) (bits more : List Bool) (now after : Picture) → all.stands (e m) i bits now → k.stands new i more after → all.stands (e new) i more after
  pub ready : (m new : M) (i j : Interval) (bits : List Bool) (now : Picture) → all.stands (e m) i bits now → j.scan ≡ i.scan → k.ready new j → all.ready (e new) j
  pub fits : (m : M) (i j : Interval) (bits : List Bool) (now : Picture) → all.stands (e m) i bits now → j.scan ≡ i.scan → all.fits j → k.fits j
  pub left : (m : M) → all.left (e m) ≡ k.left m

-- ONE BIT

module _ {M N : Type 0} (e : M → N) (k : Kind M) (all : Kind N) (o : IsOneOf M N e k all) where
  answered : (m new : M) (i : Interval) (bits more : List Bool) (now after : Picture) (answer : Result UnitStep UnitFault) → all.stands (e m) i bits now
      → Answered k i more answer now new after → Answered all i more answer now (e new) after
  answered m new i bits more now after (Ok More) s a = o.stands m new i bits more now after s a
  answered m new i bits more now after (Ok IntervalDone) s a = (a.0, λ j follows fits. o.ready m new i j bits now s (follows.scan) (a.1 j follows (o.fits m i j bits now s (follows.scan) fits)))
  answered m new i bits more now after (Err f) s a = a

  pub step_of : (m new : M) (now after : Picture) (bit : Bool) (answer : Result UnitStep UnitFault) → Step k m now bit answer new after
      → Step all (e m) now bit answer (e new) after
  step_of m new now after bit answer step = λ i bits s. answered m new i bits (bits ++ bit ∷ []) now after answer s (step i bits (o.own m i bits now s))

  -- BITS one after another

  chain_of : (m new : M) (now after : Picture) (bits : List Bool) → Chain k m now bits new after → Chain all (e m) now bits (e new) after
  chain_of m new now after [] h = (ap e h.0, h.1)
  chain_of m new now after (b ∷ bits) h = (e h.0, h.1, step_of m h.0 now h.1 b (Ok More) h.2, chain_of h.0 new h.1 after bits h.3)

  chain_to_of : (most : ℕ) (m new : M) (now after : Picture) (bits : List Bool) (answer : Result UnitStep UnitFault)
      → ChainTo k most m now bits answer new after → ChainTo all most (e m) now bits answer (e new) after
  chain_to_of most m new now after bits answer (front, bit, mid, between, cut, chain, few, last) = (
    front,
    bit,
    e mid,
    between,
    cut,
    chain_of m mid now between front chain,
    omega (arith, few, o.left m, o.left mid),
    step_of mid new between after bit answer last,
  )

  pub takes_of : (most : ℕ) (m new : M) (now after : Picture) (store rest : List Bool) (answer : Taken) → TakesBits k most m now store answer new after rest
      → TakesBits all most (e m) now store answer (e new) after rest
  takes_of most m new now after store rest taken.More (bits, cut, (chain, few, none)) = (bits, cut, (chain_of m new now after bits chain, omega (arith, few, o.left m, o.left new), none))
  takes_of most m new now after store rest taken.Units (bits, cut, (chain, many, some)) =
      (bits, cut, (chain_to_of most m new now after bits (Ok More) chain, omega (arith, many, o.left m, o.left new), omega (arith, some, o.left new)))
  takes_of most m new now after store rest taken.IntervalDone (bits, cut, chain) = (bits, cut, chain_to_of most m new now after bits (Ok IntervalDone) chain)
  takes_of most m new now after store rest (taken.Fault f) (bits, cut, chain) = (bits, cut, chain_to_of most m new now after bits (Err f) chain)

  -- A STRETCH of bytes

  gives_of : (m new : M) (now after : Picture) (bits waiting : List Bool) (answer : Taken) → GivesBits k m now bits answer waiting new after
      → GivesBits all (e m) now bits answer waiting (e new) after
  gives_of m new now after bits waiting taken.More (none, chain) = (none, chain_of m new now after bits chain)
  gives_of m new now after bits waiting taken.Units (front, cut, chain) = (front, cut, chain_of m new now after front chain)
  gives_of m new now after bits waiting taken.IntervalDone (none, (most, front, rest, cut, chain)) = (none, (most, front, rest, cut, chain_to_of most m new now after front (Ok IntervalDone) chain))
  gives_of m new now after bits waiting (taken.Fault f) (none, (most, front, rest, cut, chain)) = (none, (most, front, rest, cut, chain_to_of most m new now after front (Err f) chain))

  pub run_of : (m new : M) (now after : Picture) (bytes : List ℕ) (n : ℕ) (answer : Taken) (waiting : List Bool)
      → GivesRun M k m now bytes n answer waiting new after → GivesRun N all (e m) now bytes n answer waiting (e new) after
  run_of m new now after bytes n answer waiting g = record {
    mid = e g.mid;
    between = g.between;
    early = g.early;
    count = g.count;
    within = g.within;
    chain = chain_of m g.mid now g.between _ g.chain;
    last = gives_of g.mid new g.between after _ waiting answer g.last;
  }

-- THE KINDS OF SCAN

pub is_sequential : IsOneOf SeqReader ScanReader (λ m. Sequential m) sequential any_scan
is_sequential = record {
  own = λ m i bits now s. s.0;
  stands = λ m new i bits more now after s t. (t, s.1);
  ready = λ m new i j bits now s e r. (r, ap scan_kind e ∙ s.1);
  fits = λ m i j bits now s e f. subst (λ k. FitsKind k j) (ap scan_kind e ∙ s.1) f;
  left = λ m. refl;
}

pub is_dc_first : IsOneOf First ScanReader (λ m. DcFirst m) first_pass any_scan
is_dc_first = record {
  own = λ m i bits now s. s.0;
  stands = λ m new i bits more now after s t. (t, s.1);
  ready = λ m new i j bits now s e r. (r, ap scan_kind e ∙ s.1);
  fits = λ m i j bits now s e f. subst (λ k. FitsKind k j) (ap scan_kind e ∙ s.1) f;
  left = λ m. refl;
}

pub is_dc_later : IsOneOf Refine ScanReader (λ m. DcRefine m) refinement any_scan
is_dc_later = record {
  own = λ m i bits now s. s.0;
  stands = λ m new i bits more now after s t. (t, s.1);
  ready = λ m new i j bits now s e r. (r, ap scan_kind e ∙ s.1);
  fits = λ m i j bits now s e f. subst (λ k. FitsKind k j) (ap scan_kind e ∙ s.1) f;
  left = λ m. refl;
}

pub is_ac : IsOneOf AcReader ScanReader (λ m. Ac m) progressive_ac any_scan
is_ac = record {
  own = λ m i bits now s. s.0;
  stands = λ m new i bits more now after s t. (t, s.1);
  ready = λ m new i j bits now s e r. (r, ap scan_kind e ∙ s.1);
  fits = λ m i j bits now s e f. subst (λ k. FitsKind k j) (ap scan_kind e ∙ s.1) f;
  left = λ m. refl;
}

unfinished : (m : ScanReader) (i : Interval) (bits : List Bool) (now : Picture) → any_scan.stands m i bits now → IsUnfinished i bits now (any_scan.left m)
unfinished (Sequential m) i bits now s = keeps_units.unfinished m i bits now s.0
unfinished (DcFirst m) i bits now s = first_keeps_units.unfinished m i bits now s.0
unfinished (DcRefine m) i bits now s = refine_keeps_units.unfinished m i bits now s.0
unfinished (Ac m) i bits now s = ac.keeps_units.unfinished m i bits now s.0

fits : (m : ScanReader) (i : Interval) (bits : List Bool) (now : Picture) → any_scan.stands m i bits now → any_scan.fits i
fits (Sequential m) i bits now s = subst (λ k. FitsKind k i) (sym s.1) (keeps_units.fits m i bits now s.0)
fits (DcFirst m) i bits now s = subst (λ k. FitsKind k i) (sym s.1) (first_keeps_units.fits m i bits now s.0)
fits (DcRefine m) i bits now s = subst (λ k. FitsKind k i) (sym s.1) (refine_keeps_units.fits m i bits now s.0)
fits (Ac m) i bits now s = subst (λ k. FitsKind k i) (sym s.1) (ac.keeps_units.fits m i bits now s.0)

none_left : (m : ScanReader) (i : Interval) → any_scan.ready m i → any_scan.left m ≡ 0
none_left (Sequential m) i r = keeps_units.none_left m i r.0
none_left (DcFirst m) i r = first_keeps_units.none_left m i r.0
none_left (DcRefine m) i r = refine_keeps_units.none_left m i r.0
none_left (Ac m) i r = ac.keeps_units.none_left m i r.0

pub scans_keep_units : KeepsUnits ScanReader any_scan
scans_keep_units = record { unfinished = unfinished; fits = fits; none_left = none_left }

-- the kind of a scan by its header
abbrev pub head_kind : Bool → ScanHead → ScanKind
head_kind false head = whole_blocks
head_kind true head = cond (head.ss == 0) (cond (nat_lt 0 head.ah) dc_later dc_first) ac_band

pub kind_of_coding : (f : Frame) (tables : TablesInForce) (head : ScanHead) (s : Scan) → s.coding ≡ scan_coding f tables head → s.ss ≡ cond (is_progressive f.process) head.ss 0 → scan_kind s ≡ head_kind (is_progressive f.process) head
kind_of_coding f tables head s coding ss =
    let b = is_progressive f.process in
    ap (λ (c : Coding). cond (c.most_run == 0) whole_blocks (cond (s.ss == 0) (cond c.refines dc_later dc_first) ac_band)) coding
    ∙ ap (λ n. cond (cond b 14 0 == 0) whole_blocks (cond (n == 0) (cond (b && nat_lt 0 head.ah) dc_later dc_first) ac_band)) ss
    ∙ by b
  where
    by : (b : Bool) → cond (cond b 14 0 == 0) whole_blocks (cond (cond b head.ss 0 == 0) (cond (b && nat_lt 0 head.ah) dc_later dc_first) ac_band) ≡ head_kind b head
    by false = refl
    by true = refl

-- The machine of a scan before its first unit: which one a header requires, and that it is ready.

-- THE KIND of a header

pub kind_of : (f : Frame) (head : ScanHead) (set : TableSet) (i : Interval) (first later : Bool) → IsOfHeader f head set i → is_progressive f.process ≡ true → (head.ss == 0) ≡ first → nat_lt 0 head.ah ≡ later
    → scan_kind i.scan ≡ cond first (cond later dc_later dc_first) ac_band
kind_of f head set i first later of e z some =
    kind_of_coding f (in_force set) head i.scan of.coding of.ss ∙ ap (λ b. head_kind b head) e ∙ ap (λ t. cond t (cond (nat_lt 0 head.ah) dc_later dc_first) ac_band) z ∙ ap (λ t. cond first (cond t dc_later dc_first) ac_band) some

-- THE HEADER as each machine needs it

pub as_plain : (f : Frame) (head : ScanHead) (set : TableSet) → IsScanHeader f head set → is_progressive f.process ≡ false → IsSeqScan f head set
as_plain f head set h plain = record {
  sequential = plain;
  components = h.components;
  distinct = h.distinct;
  tables = All-weaker (HasNeeded f head set) (HasTables set) one head.parts h.tables;
}
  where
    one : (p : ScanPart) → HasNeeded f head set p → HasTables set p
    one p n =
        let d = n.dc (ap (λ b. not b || head.ss == 0 && head.ah == 0) plain) in
        let a = n.ac (ap (λ b. not b || nat_lt 0 head.ss) plain) in
        record { dc = d.table; in_dc = d.there; ac = a.ac; in_ac = a.in_ac }

-- AN INTERVAL as each machine needs it

pub of_band : (f : Frame) (head : ScanHead) (set : TableSet) (i : Interval) → IsOfHeader f head set i → is_progressive f.process ≡ true → scan_kind i.scan ≡ ac_band → IsOfAcScan f head set i
of_band f head set i of progressive k = record {
  tables = in_force set;
  in_force = record { same = λ slot. refl; valid = valid set };
  coding = of.coding;
  ss = of.ss ∙ ap (λ b. cond b head.ss 0) progressive;
  se = of.se ∙ ap (λ b. cond b head.se 63) progressive;
  kind = subst (λ q. FitsKind q i) k of.kind;
  sized = of.sized;
  places = of.places;
  frame = of.frame;
}

pub of_first : (f : Frame) (head : ScanHead) (set : TableSet) (i : Interval) → IsOfHeader f head set i → scan_kind i.scan ≡ dc_first → IsOfFirst f head set i
of_first f head set i of k = record {
  tables = in_force set;
  in_set = record { valid = valid set; dc = λ slot. refl };
  of_scan = record { coding = of.coding; sized = of.sized; places = of.places; frame = of.frame };
  band = subst (λ q. FitsKind q i) k of.kind;
}

-- The current interval of a scan that is read is of the scan's kind (T.81, A.2, E.1.4, G.1.2).

pub distinct_places : (limits : Limits) (p : ScanPlace) → IsReadable limits p → AreDistinct (scan_at limits p).places
distinct_places limits p r = units_distinct (frame_at limits p) (head_components (head_of limits p)) r.distinct

-- the units of the current interval are in the picture as before the scan
pub same_units : (limits : Limits) (p : ScanPlace) (i : Interval) → IsReadable limits p → IsInterval limits p i → ScanSoFar (scan_at limits p) p.blocks (map_of i.before) p.done (p.places ∷ p.later) → units_of i ≡ units_at limits p
same_units limits p i r is w =
    let s = scan_at limits p in
    ap (λ (q : Scan). map (unit_at q (map_of i.before)) i.places) is.scan
    ∙ ap (map (unit_at s (map_of i.before))) is.places
    ∙ so_far_units s p.blocks (map_of i.before) p.done p.places p.later (distinct_places limits p r) w

-- EVERY PLACE that is left has its block from before the scan

blocks_kept : (P : List ℤ → Type 0) (old new : Blocks) (others places : List Place) → ((i x y : ℕ) → any_of (is_at i x y) others ≡ false → new i x y ≡ old i x y) → AreApart places others → All (λ q. P (block_at old q)) places
    → All (λ q. P (block_at new q)) places
blocks_kept P old new others [] same apart all = All-nil (λ (q : Place). P (block_at new q))
blocks_kept P old new others (q ∷ places) same apart all =
    let here : block_at new q ≡ block_at old q = same q.component q.x q.y apart.0 in
    All-cons (λ (q : Place). P (block_at new q)) q places (subst P (sym here) (All-head (λ (q : Place). P (block_at old q)) q places all))
    (blocks_kept P old new others places same apart.1 (All-tail (λ (q : Place). P (block_at old q)) q places all))

-- what holds of the blocks of all places before the scan, holds in the current picture for the places that are left
due_kept : (P : List ℤ → Type 0) (s : Scan) (before work : Blocks) (done : List (List ℕ)) (places : List Place) (later : List (List Place)) → AreDistinct s.places → ScanSoFar s before work done (places ∷ later) → All (λ q. P (block_at before q)) s.places
    → All (λ q. P (block_at work q)) (places ++ joined later)
due_kept P s before work done places later distinct w all =
    let cut : s.places ≡ joined w.front ++ (places ++ joined later) = sym (joined_chunks s.interval s.places) ∙ ap joined w.cut ∙ joined_join w.front (places ∷ later) in
    let apart = apart_swap (joined w.front) (places ++ joined later) (apart_of (joined w.front) (places ++ joined later) (subst AreDistinct cut distinct)) in
    let due = all_back (λ (q : Place). P (block_at before q)) (joined w.front) (places ++ joined later) (subst (λ (l : List Place). All (λ (q : Place). P (block_at before q)) l) cut all) in
    blocks_kept P before work (joined w.front) (places ++ joined later) (w.changes).elsewhere apart due

-- each place of the scan is of one of its components
each_place : (P : Place → Type 0) (limits : Limits) (p : ScanPlace) → ((q : Place) → is_among q.component (head_components (head_of limits p)) ≡ true → P q) → All P (scan_at limits p).places
each_place P limits p h =
    let parts = head_components (head_of limits p) in
    each_all P (units (frame_at limits p) parts) (each_units P (frame_at limits p) parts (λ i x y e. h _ e))

-- THE KINDS

-- the current interval of a scan of the file
module _ (limits : Limits) (bytes : List ℕ) (p : ScanPlace) (i : Interval) (at : ScanAt limits bytes p []) (readable : IsReadable limits p) (is : IsInterval limits p i)
    (so_far : ScanSoFar (scan_at limits p) p.blocks (map_of i.before) p.done (p.places ∷ p.later)) where
  plain_fits : is_progressive (frame_at limits p).process ≡ false → IsSequential i
  plain_fits e =
      let head = head_of limits p in
      record {
        units = same_units limits p i readable is so_far ∙ sequential_units limits bytes p [] at e ∙ ap new_units_at (sym is.places);
        ss = ap (λ (s : Scan). s.ss) is.scan ∙ ap (λ b. cond b head.ss 0) e;
        se = ap (λ (s : Scan). s.se) is.scan ∙ ap (λ b. cond b head.se 63) e;
      }

  module _ (e : is_progressive (frame_at limits p).process ≡ true) where
    says_at : Says (frame_at limits p) (head_of limits p)
    says_at = head_says limits (segments_of p.items) p.contents e (at.allowed).1

    ss_at : i.scan.ss ≡ (head_of limits p).ss
    ss_at = ap (λ (s : Scan). s.ss) is.scan ∙ ap (λ b. cond b (head_of limits p).ss 0) e

    se_at : i.scan.se ≡ (head_of limits p).se
    se_at = ap (λ (s : Scan). s.se) is.scan ∙ ap (λ b. cond b (head_of limits p).se 63) e

    begins_at : (q : Place) → is_among q.component (head_components (head_of limits p)) ≡ true → BeginsPass limits p.items p.blocks p.contents q
    begins_at q among = record { begins = record { leads = at.leads; allowed = (at.allowed).1; among = among }; progressive = e }

    dc_fits : ((head_of limits p).ss == 0) ≡ true → IsDcBand i.scan
    dc_fits z = record {
      ss = ss_at ∙ same_of (head_of limits p).ss 0 z;
      se = se_at ∙ says_at.dc z;
    }

    later_fits : ((head_of limits p).ss == 0) ≡ true → ((head_of limits p).ah == 0) ≡ false → TakesOneBit i
    later_fits z some =
        let s = scan_at limits p in
        let P : List ℤ → Type 0 = λ block. DcHasRoom s.coding (slice_index_or block 0 (pos 0)) in
        let all = each_place (HasRoomAt s.coding p.blocks) limits p (λ q among. dc_room limits p.items p.blocks p.contents q (begins_at q among) (same_of (head_of limits p).ss 0 z) some) in
        let due = due_kept P s p.blocks (map_of i.before) p.done p.places p.later (distinct_places limits p readable) so_far all in
        let here = all_front (HasRoomAt s.coding (map_of i.before)) p.places (joined p.later) due in
        let S : Scan → Type 0 = λ t. All (HasRoomAt t.coding (map_of i.before)) i.places in
        let L : List Place → Type 0 = λ l. All (HasRoomAt s.coding (map_of i.before)) l in
        record { band = dc_fits z; room = subst S (sym is.scan) (subst L (sym is.places) here) }

    band_fits : ((head_of limits p).ss == 0) ≡ false → IsAcInterval i
    band_fits z =
        let s = scan_at limits p in
        let head = head_of limits p in
        let limit = says_at.band z in
        let some : 1 ≤ head.ss = grind (arith, nat_tests, z) in
        let P : List ℤ → Type 0 = λ block. All (HasCorrectionRoom s.coding) (band s block) in
        let all = each_place (BandHasRoom s p.blocks) limits p (λ q among. ac_band_room limits p.items p.blocks p.contents q (begins_at q among) some limit.1) in
        let due = due_kept P s p.blocks (map_of i.before) p.done p.places p.later (distinct_places limits p readable) so_far all in
        let same : p.places ++ joined p.later ≡ i.places ++ i.later = ap (λ l. l ++ joined p.later) (sym is.places) ∙ ap (λ l. i.places ++ l) (sym is.later) in
        let S : Scan → Type 0 = λ t. All (BandHasRoom t (map_of i.before)) (i.places ++ i.later) in
        let L : List Place → Type 0 = λ l. All (BandHasRoom s (map_of i.before)) l in
        record {
          some = omega (arith, some, ss_at);
          band = omega (arith, limit.0, ss_at, se_at);
          most = omega (arith, limit.1, se_at);
          room = subst S (sym is.scan) (subst L same due);
        }

  -- THE INTERVAL is of the scan's kind
  pub interval_fits : any_scan.fits i
  interval_fits = subst (λ k. FitsKind k i) (sym kind) (by (is_progressive (frame_at limits p).process) refl)
    where
      kind : scan_kind i.scan ≡ head_kind (is_progressive (frame_at limits p).process) (head_of limits p)
      kind = ap scan_kind is.scan ∙ kind_of_coding (frame_at limits p) (huffman_in_force (segments_of p.items)) (head_of limits p) (scan_at limits p) refl refl

      dc : is_progressive (frame_at limits p).process ≡ true → ((head_of limits p).ss == 0) ≡ true → (u : Bool) → nat_lt 0 (head_of limits p).ah ≡ u → FitsKind (cond u dc_later dc_first) i
      dc e z true h = later_fits e z (grind (arith, nat_tests, h))
      dc e z false h = dc_fits e z

      progressive : is_progressive (frame_at limits p).process ≡ true → (u : Bool) → ((head_of limits p).ss == 0) ≡ u → FitsKind (cond u (cond (nat_lt 0 (head_of limits p).ah) dc_later dc_first) ac_band) i
      progressive e true z = dc e z (nat_lt 0 (head_of limits p).ah) refl
      progressive e false z = band_fits e z

      by : (b : Bool) → is_progressive (frame_at limits p).process ≡ b → FitsKind (head_kind b (head_of limits p)) i
      by false e = plain_fits e
      by true e = progressive e ((head_of limits p).ss == 0) refl

-- A scan begins: its intervals, its machine, its place.

-- INTERVALS
others_are : (most n : ℕ) (xs : List Place) → length xs ≤ most → AreIntervals (suc n) (chunks_of most (suc n) xs) × (joined (chunks_of most (suc n) xs) ≡ xs)
unfolding chunks_of
others_are zero n [] le = (tt, refl)
others_are zero n (x ∷ xs) le = absurd (omega arith)
others_are (suc most) n [] le = (tt, refl)
others_are (suc most) n (x ∷ xs) le =
    let next : List Place = take (suc n) (x ∷ xs) in
    let rest : List Place = drop (suc n) (x ∷ xs) in
    let l : length rest ≤ most = omega (arith, length-drop (suc n) (x ∷ xs)) in
    let r = others_are most n rest l in
    let a = length-take (suc n) (x ∷ xs) in
    let b = length-drop (suc n) (x ∷ xs) in
    let c = ap length r.1 in
    ((omega (arith, a), omega (arith, a, b, c), r.0), ap (λ z. next ++ z) r.1 ∙ take-append-drop (suc n) (x ∷ xs))

pub record Cut (n : ℕ) (xs : List Place) : Type 0 where
  pub first : List Place
  pub later : List (List Place)
  pub cut : chunks n xs ≡ first ∷ later
  pub all : xs ≡ first ++ joined later
  pub many : length first ≡ cond (n == 0) (length xs) (min n (length xs))
  pub are : AreIntervals n later

pub cut_first : (n : ℕ) (xs : List Place) → 1 ≤ length xs → Cut n xs
unfolding chunks_of
cut_first zero xs some = record { first = xs; later = []; cut = refl; all = sym (append-nil xs); many = refl; are = tt }
cut_first (suc n) [] some = absurd (omega arith)
cut_first (suc n) (x ∷ xs) some =
    let l : length (drop (suc n) (x ∷ xs)) ≤ length xs = omega (arith, length-drop (suc n) (x ∷ xs)) in
    let r = others_are (length xs) n (drop (suc n) (x ∷ xs)) l in
    record {
      first = take (suc n) (x ∷ xs);
      later = chunks_of (length xs) (suc n) (drop (suc n) (x ∷ xs));
      cut = refl;
      all = sym (ap (λ z. take (suc n) (x ∷ xs) ++ z) r.1 ∙ take-append-drop (suc n) (x ∷ xs));
      many = length-take (suc n) (x ∷ xs) ∙ sym (ap (λ b. cond b (length (x ∷ xs)) (min (suc n) (length (x ∷ xs)))) (not_zero n));
      are = r.0;
    }

-- THE FIRST INTERVAL

-- a scan that begins after these items: its header and what is held of it, where the bytes end, and the picture so far
pub record NewScan : Type 0 where
  pub limits : Limits
  pub items : List Item
  pub blocks : Blocks
  pub contents : List ℕ
  pub bytes : List ℕ
  pub frame : Frame
  pub head : ScanHead
  pub set : TableSet
  pub interval : ℕ
  pub now : Picture
  pub begins : Begins limits items blocks contents bytes frame head set interval now

abbrev pub scan_of_new : NewScan → Scan
scan_of_new n = scan_after n.limits (segments_of n.items) n.contents

pub record Start (n : NewScan) : Type 0 where
  pub cut : Cut (n.interval * mcu_units n.frame (head_components n.head)) (units n.frame (head_components n.head))
  pub at : ScanAt n.limits n.bytes (first_place n.items n.blocks n.contents cut.first cut.later) []
  pub scan : scan_of_new n ≡ scan_of n.frame (huffman_in_force (segments_of n.items)) n.interval n.head

pub start_of : (n : NewScan) → Start n
start_of n =
    let b = n.begins in
    let h = b.header in
    let head = n.head in
    let tables = huffman_in_force (segments_of n.items) in
    let restart = restart_in_force (segments_of n.items) in
    let s : scan_of_new n ≡ scan_of n.frame tables n.interval head =
    ap (λ g. scan_of g tables restart (head_in g n.contents)) h.framed ∙ ap (λ k. scan_of n.frame tables restart k) h.header ∙ ap (λ i. scan_of n.frame tables i head) (sym h.restart) in
    let cut = cut_first (n.interval * mcu_units n.frame (head_components head)) (units n.frame (head_components head)) (head_units_some n.frame head h.is_frame h.is_head) in
    let due : chunks (scan_of_new n).interval (scan_of_new n).places ≡ cut.first ∷ cut.later = ap (λ (q : Scan). chunks q.interval q.places) s ∙ cut.cut in
    record {
      cut = cut;
      at = scan_begun n.limits (kept_rule n.limits) b.sent n.bytes n.items n.blocks n.contents b.tail cut.first cut.later (b.at).beside (b.at).leads b.spelled b.allowed b.rule due;
      scan = s;
    }

abbrev pub first_interval : (n : NewScan) → Start n → Interval
first_interval n s = record { scan = scan_of_new n; places = (s.cut).first; later = joined (s.cut).later; before = n.now }

module _ (n : NewScan) (s : Start n) (sized : (i x y : ℕ) → length (map_of n.now i x y) ≡ 64) where
  abbrev place : ScanPlace
  place = first_place n.items n.blocks n.contents (s.cut).first (s.cut).later

  abbrev due : List (List Place)
  due = (s.cut).first ∷ (s.cut).later

  h : HeadHeld n.limits n.items n.blocks n.contents n.frame n.head n.set n.interval n.now
  h = (n.begins).header

  -- the places of the scan, and the picture, at its first interval
  readable : IsReadable n.limits place
  readable = record {
    distinct = ap (λ (g : Frame). is_distinct (head_components (head_in g n.contents))) h.framed ∙ ap (λ (k : ScanHead). is_distinct (head_components k)) h.header ∙ (h.scan_header).distinct;
  }

  is_first : IsInterval n.limits place (first_interval n s)
  is_first = record { scan = refl; places = refl; later = refl }

  so_far : ScanSoFar (scan_of_new n) n.blocks (map_of n.now) [] due
  so_far =
      let sc = scan_of_new n in
      let sizes : (i x y : ℕ) → length (n.blocks i x y) ≡ 64 = λ i x y. ap (λ (g : Blocks). length (g i x y)) h.as_map ∙ sized i x y in
      let cut : chunks sc.interval sc.places ≡ due = ap (λ (q : Scan). chunks q.interval q.places) s.scan ∙ (s.cut).cut in
      let before = subst (λ (l : List (List Place)). ScanSoFar sc n.blocks n.blocks [] l) cut (so_far_first sc n.blocks sizes) in
      subst (λ (g : Blocks). ScanSoFar sc n.blocks g [] due) h.as_map before

  pub first_of_scan : IsOfHeader n.frame n.head n.set (first_interval n s)
  first_of_scan = record {
    coding = ap (λ (q : Scan). q.coding) s.scan ∙ sym h.codings;
    ss = ap (λ (q : Scan). q.ss) s.scan;
    se = ap (λ (q : Scan). q.se) s.scan;
    kind = interval_fits n.limits n.bytes place (first_interval n s) s.at readable is_first so_far;
    sized = sized;
    places = sym (s.cut).all;
    frame = h.pictured;
  }

  pub in_data : (m : ScanReader) (each left : ℕ) → any_scan.stands m (first_interval n s) [] n.now
      → each ≡ n.interval * mcu_units n.frame (head_components n.head) → left ≡ length (joined (s.cut).later)
      → InData n.limits n.items n.contents n.bytes (before_data m each left) n.now
  in_data m each left stands size is =
      record {
        place = place;
        of = (refl, refl);
        fill = 0;
        at = s.at;
        waits = refl;
        work = record {
          readable = readable;
          at = record { interval = first_interval n s; is = is_first; framed = h.pictured ∙ sym h.framed; stands = stands; so_far = so_far };
          turn = omega arith;
          due = is;
          later = subst (λ k. AreIntervals k (s.cut).later) (sym size) (s.cut).are;
        };
      }

-- COUNTS
pub counted : (m n u first units all : ℕ) → m ≡ cond (n == 0) u (min n u) → first ≡ cond (units == 0) all (min units all) → units ≡ n → all ≡ u → m ≡ first
counted m n u first units all e f is many = e ∙ ap (λ k. cond (n == 0) k (min n k)) (sym many) ∙ ap (λ k. cond (k == 0) all (min k all)) (sym is) ∙ sym f

pub due_after : (n : ℕ) (xs : List Place) (c : Cut n xs) (first all : ℕ) → length c.first ≡ first → all ≡ length xs → all - first ≡ length (joined c.later)
due_after n xs c first all e f = omega (arith, e, f, ap length c.all, length-append c.first (joined c.later))
