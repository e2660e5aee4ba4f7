-- The place that the bytes reach in a scan of all components, and the MCU rows that it means.
use Rattle.std.proofs.Common.{◌≡◌, ℕ, Bool, List, [], ◌∷◌, ◌++◌, length, refl, sym, ap, ◌∙◌, subst, arith, zero, suc, ◌+◌, ◌-◌, ◌*◌, ◌<◌, ◌≤◌, ◌==◌, true, false, cond, take, drop, inl, inr, ℤ, map, flat_map, replicate, append_assoc, append-nil, length-append, take_all, add-mul}
use Rattle.std.proofs.lemmas.List.{append_cancel_left}
use Rattle.jpg_spec.specs.Bits.{bits_of_bytes}
use Rattle.jpg_spec.specs.Lists.{chunks, joined}
use Rattle.jpg_spec.specs.Segments.{head_components}
use Rattle.jpg_spec.specs.InForce.{head_in}
use Rattle.jpg_spec.specs.Items.{segments_of, Item}
use Rattle.jpg_spec.specs.Scan.{Blocks, Scan, unit_at, band, block_at}
use Rattle.jpg_spec.specs.FileMeaning.{Leads, no_blocks}
use Rattle.jpg_spec.specs.FirstFault.{HoldsAll}
use Rattle.jpg_spec.specs.PictureInWork.{ScanSoFar, UnitsRead}
use Rattle.jpg_spec.specs.ScanReading.{ScanAt, ScanPlace, scan_at, with_byte}
use Rattle.jpg_spec.specs.RowsParsed.{IsScanOfAll, TellsBlocks, TellsFirst, BeginsScanOfAll}
use Rattle.jpg_spec.specs.RowLaws.{ReadsUnits, HasNoMoreData, StopsInRows, TellsNoMore}
use Rattle.jpg_spec.specs.declared.frame.Limits.{Limits}
use Rattle.jpg_spec.specs.declared.frame.Place.{Place}
use Rattle.jpg_spec.proofs.Files.BlocksOnce.{joined_chunks}
use Rattle.jpg_spec.proofs.Places.PictureInWork.{joined_join, so_far_units}
use Rattle.jpg_spec.proofs.Places.PlacesDistinct.{units_distinct}
use Rattle.jpg_spec.proofs.Basics.Rows.{append_apart}
use Rattle.jpg_spec.proofs.McuRows.RowsRead.{interval_tells, units_tell}
use Rattle.jpg_coefs.specs.Picture.{Picture, map_of}
use Rattle.jpg_coefs.specs.Machine.{Interval, units_of}
use Rattle.jpg_seq.specs.Reader.{RepresentsSeqScan, new_units_at, IsPlaceReadable, prediction_at, row_units}
use Rattle.jpg_seq.specs.declared.reader.SeqReader.{SeqReader}
use Rattle.jpg_file.specs.Read.InData.{IsInterval, IsReadable, frame_at, AtWork, InData, IsRowAt, scan_left, HalfData, unfinished}
use Rattle.jpg_spec.proofs.McuRows.RowBands.{as_many}
use Rattle.std.proofs.lemmas.List.Elements.{All-head}
use Rattle.jpg_spec.specs.Elements.{Standing, at_start, UnitLeft}
use Rattle.jpg_spec.specs.Geometry.{Frame, units}
use Rattle.jpg_spec.specs.Parts.{StandsInUnits}
use Rattle.jpg_spec.specs.ScanRows.{first_rows}
use Rattle.jpg_spec.proofs.Bits.Values.{covers_then}
use Rattle.jpg_spec.proofs.Bits.DataFacts.{completes_holds}
use Rattle.jpg_spec.proofs.McuRows.RowCounts.{length_rows}
use Rattle.jpg_spec.proofs.McuRows.RowsHeader.{begun_places, place_header}
use Rattle.jpg_spec.proofs.McuRows.RowsOnce.{rows_more}
use Rattle.jpg_spec.proofs.McuRows.RowsStop.{stop_completes}
use Rattle.jpg_spec.proofs.Files.ScanSteps.{inside}
use Rattle.jpg_base.specs.Cursor.{scan_mcus_down}
use Rattle.jpg_base.proofs.UnitCounts.{length_units}
use Rattle.jpg_seq.specs.Work.{env_in, standing_at, unit_in_work}
use Rattle.jpg_seq.proofs.Elements.{work_part}
use Rattle.jpg_seq.proofs.Machines.{length_row, units_by_row}
use Rattle.jpg_file.specs.Read.Machine.{any_scan}
use Rattle.jpg_file.specs.Read.Strips.{CompletesBefore, IsFirstScan, components_of, frame_behind}
use Rattle.jpg_file.specs.declared.read.machine.ScanReader.{ScanReader}
use Rattle.jpg_file.specs.declared.read.machine.ScanReader.TheVariants.{Sequential}
use Rattle.jpg_file.specs.declared.read.rows.RowWork.{RowWork}
use Rattle.jpg_file.specs.declared.read.scan.InScan.{InScan}
use Rattle.jpg_file.proofs.Scans.ScanBytes.{due_at, read_at, of_half, of_work}
use Rattle.jpg_file.proofs.ByRow.StripRows.{interval_due}
use Rattle.jpg_spec.proofs.EndsEarly.EarlyRows.{shorter_front}
use Rattle.jpg_spec.proofs.Basics.Common.{not_zero}

-- What the bytes encode up to a place inside the data of a scan of all components: the blocks of first places of the
-- scan.

-- The places whose blocks are decoded, those of the current interval after them, and that they are the scan's first
-- ones.
pub record TellsAt (limits : Limits) (p : ScanPlace) (told : Blocks) : Type 0 where
  pub front : List (List Place)
  pub part : List Place
  pub rest : List Place
  pub chunked : chunks (scan_at limits p).interval (scan_at limits p).places ≡ front ++ p.places ∷ p.later
  pub cut : p.places ≡ part ++ rest
  pub tells : TellsBlocks (scan_at limits p) p.done p.coded (joined front ++ part) told
  pub same : tells.part ≡ part

part_same : (s : Scan) (done : List (List ℕ)) (coded : List ℕ) (front left : List (List Place)) (part : List Place) (told : Blocks) → (t : TellsBlocks s done coded (joined front ++ part) told) → chunks s.interval s.places ≡ front ++ left → length front ≡ length done → t.part ≡ part
part_same s done coded front left part told t chunked size =
    let n = as_many s no_blocks told t.whole done t.spelled in
    let e = append_apart t.whole front ((t.part ++ t.rest) ∷ t.later) left (n ∙ sym size) (sym t.intervals ∙ chunked) in
    sym (append_cancel_left (joined front) part t.part (t.all ∙ ap (λ w. joined w ++ t.part) e.0))

-- UNITS of the current interval

units_read : (limits : Limits) (p : ScanPlace) (i : Interval) (m : SeqReader) (bits more : List Bool) (now : Picture) → Leads limits p.items p.blocks → IsScanOfAll limits (segments_of p.items) p.contents → IsReadable limits p → IsInterval limits p i
    → ScanSoFar (scan_at limits p) p.blocks (map_of i.before) p.done (p.places ∷ p.later) → RepresentsSeqScan m i bits now → bits_of_bytes p.coded ≡ bits ++ more → ReadsUnits limits p (map_of now)
units_read limits p i m bits more now leads all readable is so_far o cut = record {
  leads = leads;
  of_all = all;
  distinct = units_distinct (frame_at limits p) (head_components (head_in (frame_at limits p) p.contents)) readable.distinct;
  old = map_of i.before;
  so_far = so_far;
  part = o.done;
  rest = o.next ∷ o.more;
  cut = sym is.places ∙ o.all;
  told = o.whole;
  read = subst (λ (s : Scan). UnitsRead s o.done (map_of i.before) (map_of now) o.whole) is.scan o.read;
  bits = o.front;
  behind = o.part ++ more;
  coded = cut ∙ ap (λ z. z ++ more) o.split ∙ append_assoc o.front o.part more;
  spelled = spelled;
}
  where
    first : TellsFirst i.scan.coding (map (unit_at i.scan (map_of i.before)) i.places) o.whole o.front
    first = (o.elements, record { predictions = o.predictions; left = new_units_at (o.next ∷ o.more) }, o.covers)

    spelled : TellsFirst (scan_at limits p).coding (map (unit_at (scan_at limits p) (map_of i.before)) p.places) o.whole o.front
    spelled =
        subst (λ (l : List Place). TellsFirst (scan_at limits p).coding (map (unit_at (scan_at limits p) (map_of i.before)) l) o.whole o.front) is.places
        (subst (λ (t : Scan). TellsFirst t.coding (map (unit_at t (map_of i.before)) i.places) o.whole o.front) is.scan first)

-- `left` of its units are left
pub record UnitsAt (limits : Limits) (p : ScanPlace) (told : Blocks) (left : ℕ) : Type 0 where
  pub at : TellsAt limits p told
  pub left_is : length at.rest ≡ left

pub units_at : (limits : Limits) (p : ScanPlace) (i : Interval) (m : SeqReader) (bits more : List Bool) (now : Picture) → Leads limits p.items p.blocks → IsScanOfAll limits (segments_of p.items) p.contents → IsReadable limits p → IsInterval limits p i
    → ScanSoFar (scan_at limits p) p.blocks (map_of i.before) p.done (p.places ∷ p.later) → RepresentsSeqScan m i bits now → bits_of_bytes p.coded ≡ bits ++ more → UnitsAt limits p (map_of now) m.left
unfolding units_read
units_at limits p i m bits more now leads all readable is so_far o cut =
    let s = scan_at limits p in
    let t : TellsBlocks s p.done p.coded (joined so_far.front ++ o.done) (map_of now) = units_tell limits p (map_of now) (units_read limits p i m bits more now leads all readable is so_far o cut) in
    let size = as_many s p.blocks (map_of i.before) so_far.front p.done so_far.spelled in
    record {
      at = record {
        front = so_far.front;
        part = o.done;
        rest = o.next ∷ o.more;
        chunked = so_far.cut;
        cut = sym is.places ∙ o.all;
        tells = t;
        same = part_same s p.done p.coded so_far.front (p.places ∷ p.later) o.done (map_of now) t so_far.cut size;
      };
      left_is = omega (arith, o.left);
    }

-- THE CURRENT INTERVAL, complete

due_front : (s : Scan) (before : Blocks) (all : List (List Place)) (done : List (List ℕ)) (due : List (List Place)) → HoldsAll s before all done due → (front : List (List Place)) × (all ≡ front ++ due) × (length front ≡ length done)
due_front s before all [] due h = ([], h, refl)
due_front s before [] (c ∷ done) due h = absurd h
due_front s before (p ∷ all) (c ∷ done) due h = let r = due_front s before all done due h.2 in (p ∷ r.0, ap (λ l. p ∷ l) r.1, (let z = r.2 in omega (arith, z)))

pub whole_at : (limits : Limits) (bytes tail : List ℕ) (p : ScanPlace) (now : Blocks) → ScanAt limits bytes p tail → IsScanOfAll limits (segments_of p.items) p.contents → ScanSoFar (scan_at limits p) p.blocks now (p.done ++ p.coded ∷ []) p.later
    → UnitsAt limits p now 0
whole_at limits bytes tail p now at all so_far =
    let s = scan_at limits p in
    let d = due_front s p.blocks (chunks s.interval s.places) p.done (p.places ∷ p.later) at.due in
    let size = as_many s p.blocks now so_far.front (p.done ++ p.coded ∷ []) so_far.spelled in
    let long = length-append p.done (p.coded ∷ []) in
    let more : length (d.0 ++ p.places ∷ []) ≡ length so_far.front = length-append d.0 (p.places ∷ []) ∙ (let z = d.2 in omega (arith, size, long, z)) in
    let e : (so_far.front ≡ d.0 ++ p.places ∷ []) × (p.later ≡ p.later) = append_apart so_far.front (d.0 ++ p.places ∷ []) p.later p.later (sym more) (sym so_far.cut ∙ d.1 ∙ sym (append_assoc d.0 (p.places ∷ []) p.later)) in
    let places : joined so_far.front ≡ joined d.0 ++ p.places = ap joined e.0 ∙ joined_join d.0 (p.places ∷ []) ∙ ap (λ l. joined d.0 ++ l) (append-nil p.places) in
    let t : TellsBlocks s p.done p.coded (joined d.0 ++ p.places) now = subst (λ l. TellsBlocks s p.done p.coded l now) places (interval_tells limits p now (record { leads = at.leads; of_all = all; so_far = so_far })) in
    record {
      at = record {
        front = d.0;
        part = p.places;
        rest = [];
        chunked = d.1;
        cut = sym (append-nil p.places);
        tells = t;
        same = part_same s p.done p.coded d.0 (p.places ∷ p.later) p.places now t d.1 d.2;
      };
      left_is = refl;
    }

-- THEY ARE THE SCAN'S first ones
pub told_first : (limits : Limits) (p : ScanPlace) (told : Blocks) → (t : TellsAt limits p told) → (scan_at limits p).places ≡ (joined t.front ++ t.part) ++ (t.rest ++ joined p.later)
told_first limits p told t =
    let s = scan_at limits p in
    sym (joined_chunks s.interval s.places) ∙ ap joined t.chunked ∙ joined_join t.front (p.places ∷ p.later) ∙ ap (λ l. joined t.front ++ (l ++ joined p.later)) t.cut
    ∙ ap (λ l. joined t.front ++ l) (append_assoc t.part t.rest (joined p.later)) ∙ sym (append_assoc (joined t.front) t.part (t.rest ++ joined p.later))

-- What the bytes encode up to a place inside the data of a scan of all components, and how many MCU rows they complete.

-- THE PLACE, and what is decoded there; `left` units are left
pub record PlaceTells (limits : Limits) (items : List Item) (contents bytes : List ℕ) (whole : Picture) (left : ℕ) : Type 0 where
  pub place : ScanPlace
  pub of : (place.items ≡ items) × (place.contents ≡ contents)
  pub tail : List ℕ
  pub at : ScanAt limits bytes place tail
  pub of_all : IsScanOfAll limits (segments_of place.items) place.contents
  pub told : TellsAt limits place (map_of whole)
  pub left_is : length told.rest + length (joined place.later) ≡ left

pub all_at : (limits : Limits) (items : List Item) (contents : List ℕ) (p : ScanPlace) → (p.items ≡ items) × (p.contents ≡ contents) → IsScanOfAll limits (segments_of items) contents → IsScanOfAll limits (segments_of p.items) p.contents
all_at limits items contents p of all =
    subst (λ (c : List ℕ). IsScanOfAll limits (segments_of p.items) c) (sym of.1) (subst (λ (l : List Item). IsScanOfAll limits (segments_of l) contents) (sym of.0) all)

pub scan_of_all : (limits : Limits) (items : List Item) (contents : List ℕ) (rows : RowWork) (left : ℕ) → IsFirstScan limits items → IsRowAt (frame_behind limits items) (components_of limits items contents) rows left → IsScanOfAll limits (segments_of items) contents
scan_of_all limits items contents rows left first at = record { first = first.first; sequential = first.sequential; all = at.all }

-- as the machine calls it
pub machine_stands : (m : ScanReader) (n : SeqReader) (i : Interval) (bits : List Bool) (now : Picture) → m ≡ Sequential n → any_scan.stands m i bits now → RepresentsSeqScan n i bits now
machine_stands m n i bits now is s = let own = subst (λ (q : ScanReader). any_scan.stands q i bits now) is s in own.0

pub left_due : (w : InScan) (n : SeqReader) → w.machine ≡ Sequential n → w.whole ≡ false → scan_left w ≡ w.due + n.left
left_due w n is whole = ap (λ b. w.due + cond b 0 (any_scan.left w.machine)) whole ∙ ap (λ (q : ScanReader). w.due + any_scan.left q) is

pub left_whole : (w : InScan) → w.whole ≡ true → scan_left w ≡ w.due
left_whole w whole = ap (λ b. w.due + cond b 0 (any_scan.left w.machine)) whole ∙ omega arith

-- some bits wait
pub half_tells : (limits : Limits) (items : List Item) (contents bytes : List ℕ) (waiting : List Bool) (s : InScan) (whole : Picture)
    → HalfData limits items contents bytes waiting s whole → IsFirstScan limits items → IsScanOfAll limits (segments_of items) contents
    → PlaceTells limits items contents bytes whole (scan_left s)
half_tells limits items contents bytes waiting s whole h first all =
    let p = with_byte h.place h.byte in
    let d = of_half limits items contents bytes waiting s whole h in
    let here = all_at limits items contents p h.of all in
    let m = interval_due limits items contents p s whole waiting d h.of first in
    let o = machine_stands s.machine m.machine d.interval d.taken whole m.is d.stands in
    let u = units_at limits p d.interval m.machine d.taken waiting whole (h.at).leads here d.readable d.is d.so_far o d.cut in
    record { place = p; of = h.of; tail = []; at = h.at; of_all = here; told = u.at; left_is = omega (arith, u.left_is, left_due s m.machine m.is d.whole, d.due) }

-- NO MORE UNITS of the current interval are decoded

pub parts_stand : (m : SeqReader) (i : Interval) (bits : List Bool) (now : Picture) → (o : RepresentsSeqScan m i bits now)
    → StandsInUnits i.scan.coding (units_of i) (o.whole ++ m.unit.values) (unit_in_work o.next.component m.unit.values ∷ new_units_at o.more) bits × (length m.unit.values < 64)
parts_stand m i bits now o =
    let r = All-head (IsPlaceReadable m i.before.frame) o.next (o.more ++ i.later) o.spots in
    let k = o.next.component in
    let others = new_units_at o.more in
    let st : List ℤ → Standing = λ v. standing_at o.predictions k others v in
    let work = o.at_work r.coder r.there in (
      record {
        elements = o.elements ++ o.unit_elements;
        before = o.whole ++ m.unit.values;
        front = o.front ++ o.unit_front;
        standing = st m.unit.values;
        unit = unit_in_work k m.unit.values;
        others = others;
        here = [];
        part = m.unit.part;
        cut = o.split ∙ ap (λ z. o.front ++ z) o.unit_split ∙ sym (append_assoc o.front o.unit_front m.unit.part);
        covers = covers_then i.scan.coding (at_start (units_of i)) (st []) (st m.unit.values) o.elements o.unit_elements o.whole m.unit.values o.front o.unit_front o.covers o.unit_covers;
        same = sym (append-nil (o.whole ++ m.unit.values));
        first = refl;
        is_part = work_part i.scan.coding (env_in m.bounds r.coder (prediction_at m k)) k o.predictions others m.unit.values m.unit.part (o.reads.codes k r.coder r.there, sym (o.predicts k r.small)) work.left work.part;
        in_bounds = refl;
      },
      work.left,
    )

-- the values of complete blocks
wide : (s : Scan) (block : List ℤ) → s.ss ≡ 0 → s.se ≡ 63 → length block ≡ 64 → length (band s block) ≡ 64
wide s block ss se long =
    let is : band s block ≡ block = ap (λ n. take (s.se + 1 - n) (drop n block)) ss ∙ ap (λ n. take (n + 1 - 0) (drop 0 block)) se ∙ take_all (63 + 1 - 0) block (omega (arith, long)) in
    ap length is ∙ long

pub bands_long : (s : Scan) (told : Blocks) (places : List Place) → s.ss ≡ 0 → s.se ≡ 63 → ((i x y : ℕ) → length (told i x y) ≡ 64) → length (flat_map (λ p. band s (block_at told p)) places) ≡ 64 * length places
bands_long s told [] ss se sizes = refl
bands_long s told (p ∷ places) ss se sizes =
    let here = wide s (block_at told p) ss se (sizes p.component p.x p.y) in
    omega (arith, length-append (band s (block_at told p)) (flat_map (λ p. band s (block_at told p)) places), here, bands_long s told places ss se sizes)

-- what is after the complete units encodes less than the next unit
no_more_units : (limits : Limits) (p : ScanPlace) (i : Interval) (m : SeqReader) (now : Picture) (count : ℕ) → IsReadable limits p → IsInterval limits p i → ScanSoFar (scan_at limits p) p.blocks (map_of i.before) p.done (p.places ∷ p.later)
    → RepresentsSeqScan m i (bits_of_bytes p.coded) now → length p.places ≡ count + m.left → TellsNoMore (scan_at limits p) p.blocks p.places p.coded count
no_more_units limits p i m now count readable is so_far o sum = inl (o.whole ++ m.unit.values, left, stands, few)
  where
    left : List UnitLeft
    left = unit_in_work o.next.component m.unit.values ∷ new_units_at o.more

    bits : List Bool
    bits = bits_of_bytes p.coded

    first : StandsInUnits (scan_at limits p).coding (map (unit_at (scan_at limits p) (map_of i.before)) p.places) (o.whole ++ m.unit.values) (unit_in_work o.next.component m.unit.values ∷ new_units_at o.more) (bits_of_bytes p.coded)
    first =
        subst (λ (l : List Place). StandsInUnits (scan_at limits p).coding (map (unit_at (scan_at limits p) (map_of i.before)) l) (o.whole ++ m.unit.values) (unit_in_work o.next.component m.unit.values ∷ new_units_at o.more) (bits_of_bytes p.coded)) is.places
        (subst (λ (s : Scan). StandsInUnits s.coding (map (unit_at s (map_of i.before)) i.places) (o.whole ++ m.unit.values) (unit_in_work o.next.component m.unit.values ∷ new_units_at o.more) (bits_of_bytes p.coded)) is.scan
        (parts_stand m i (bits_of_bytes p.coded) now o).0)

    stands : StandsInUnits (scan_at limits p).coding (map (unit_at (scan_at limits p) p.blocks) p.places) (o.whole ++ m.unit.values) (unit_in_work o.next.component m.unit.values ∷ new_units_at o.more) (bits_of_bytes p.coded)
    stands =
        let distinct = units_distinct (frame_at limits p) (head_components (head_in (frame_at limits p) p.contents)) readable.distinct in
        subst (λ (us : List UnitLeft). StandsInUnits (scan_at limits p).coding us (o.whole ++ m.unit.values) (unit_in_work o.next.component m.unit.values ∷ new_units_at o.more) (bits_of_bytes p.coded))
        (so_far_units (scan_at limits p) p.blocks (map_of i.before) p.done p.places p.later distinct so_far) first

    few : length (o.whole ++ m.unit.values) < 64 * (count + 1)
    few =
        let long = ap length o.read.told_there ∙ bands_long i.scan (map_of now) o.done o.kind.ss o.kind.se o.read.changes.sizes in
        let all = ap length (sym is.places ∙ o.all) ∙ length-append o.done (o.next ∷ o.more) in
        let less = (parts_stand m i (bits_of_bytes p.coded) now o).1 in
        omega (arith, long, all, less, o.left, sum, length-append o.whole m.unit.values)

-- THE PLACE where data bytes stop
pub record PlaceStops (limits : Limits) (items : List Item) (contents bytes : List ℕ) (whole : Picture) (left : ℕ) : Type 0 where
  pub tells : PlaceTells limits items contents bytes whole left
  pub units : TellsNoMore (scan_at limits tells.place) (tells.place).blocks (tells.place).places (tells.place).coded (length (tells.told).part)
  pub last : HasNoMoreData (scan_at limits tells.place) tells.place tells.tail

pub place_stops : (limits : Limits) (items : List Item) (contents bytes tail : List ℕ) (p : ScanPlace) (w : InScan) (whole : Picture) → (p.items ≡ items) × (p.contents ≡ contents) → ScanAt limits bytes p tail → AtWork limits p w whole
    → HasNoMoreData (scan_at limits p) p tail → IsFirstScan limits items → IsScanOfAll limits (segments_of items) contents → PlaceStops limits items contents bytes whole (scan_left w)
place_stops limits items contents bytes tail p w whole of at work last first all = by w.whole refl
  where
    here : IsScanOfAll limits (segments_of p.items) p.contents
    here = all_at limits items contents p of all

    by : (b : Bool) → w.whole ≡ b → PlaceStops limits items contents bytes whole (scan_left w)
    by false e =
        let k = due_at limits p w whole e work in
        let m = interval_due limits items contents p w whole [] (of_work limits p w whole e work) of first in
        let o = machine_stands w.machine m.machine k.interval (bits_of_bytes p.coded) whole m.is k.stands in
        let u = units_at limits p k.interval m.machine (bits_of_bytes p.coded) [] whole at.leads here work.readable k.is k.so_far o (sym (append-nil (bits_of_bytes p.coded))) in
        let left = left_due w m.machine m.is e in
        let sum = ap length (u.at).cut ∙ length-append (u.at).part (u.at).rest in
        record {
          tells = record { place = p; of = of; tail = tail; at = at; of_all = here; told = u.at; left_is = omega (arith, u.left_is, left, work.due) };
          units = no_more_units limits p k.interval m.machine whole (length (u.at).part) work.readable k.is k.so_far o (omega (arith, sum, u.left_is));
          last = last;
        }
    by true e =
        let k = read_at limits p w whole e work in
        let u = whole_at limits bytes tail p (map_of whole) at here k.so_far in
        let left = left_whole w e in
        let sum = ap length (u.at).cut ∙ length-append (u.at).part (u.at).rest in
        record {
          tells = record { place = p; of = of; tail = tail; at = at; of_all = here; told = u.at; left_is = omega (arith, u.left_is, left, work.due) };
          units = inr (inr (completes_holds (scan_at limits p) p.blocks p.places p.coded k.completes, omega (arith, sum, u.left_is)));
          last = last;
        }

pub data_stops : (limits : Limits) (items : List Item) (contents bytes : List ℕ) (s : InScan) (whole : Picture) → InData limits items contents bytes s whole → IsFirstScan limits items → IsScanOfAll limits (segments_of items) contents
    → PlaceStops limits items contents bytes whole (scan_left s)
data_stops limits items contents bytes s whole d first all =
    place_stops limits items contents bytes (replicate d.fill 255) d.place s whole d.of d.at d.work (inl (d.fill, refl)) first all

-- MCU ROWS of the places that are decoded
pub record RowCut (f : Frame) (ids : List ℕ) (rows : RowWork) (places : List Place) : Type 0 where
  pub m : ℕ
  pub count : m + unfinished rows ≡ scan_mcus_down f ids
  pub more : List Place
  pub first : places ≡ first_rows f ids m ++ more
  pub few : length places < length (first_rows f ids (m + 1))

rows_long : (f : Frame) (ids : List ℕ) (n : ℕ) → length (first_rows f ids n) ≡ n * row_units f ids
rows_long f ids n = length_rows f ids n ∙ ap (λ k. n * k) (length_row f ids 0)

first_of : (f : Frame) (ids : List ℕ) (places rest : List Place) (m : ℕ) → units f ids ≡ places ++ rest → m ≤ scan_mcus_down f ids → m * row_units f ids ≤ length places → (more : List Place) × (places ≡ first_rows f ids m ++ more)
first_of f ids places rest m all few low =
    let r = rows_more f ids m (scan_mcus_down f ids) few in
    shorter_front places (first_rows f ids m) rest r.0 (sym all ∙ units_by_row f ids ∙ r.1) (omega (arith, rows_long f ids m, low))

pub rows_cut : (f : Frame) (ids : List ℕ) (rows : RowWork) (left : ℕ) (places rest : List Place) → IsRowAt f ids rows left → units f ids ≡ places ++ rest → length rest ≡ left → 1 ≤ length (units f ids) → RowCut f ids rows places
rows_cut f ids rows left places rest at all size some = by rows.left refl
  where
    R : ℕ
    R = row_units f ids

    long : length (units f ids) ≡ at.row * row_units f ids + row_units f ids + rows.later * row_units f ids
    long =
        length_units f ids ∙ ap (λ n. n * row_units f ids) (sym at.count) ∙ add-mul (at.row + 1) rows.later (row_units f ids) ∙ ap (λ n. n + rows.later * row_units f ids) (add-mul at.row 1 (row_units f ids)) ∙ omega arith

    count : length places + rows.left ≡ at.row * row_units f ids + row_units f ids
    count =
        let behind : rows.later * rows.units ≡ rows.later * row_units f ids = ap (λ n. rows.later * n) at.size in
        let sum = ap length all ∙ length-append places rest in
        omega (arith, long, at.sum, behind, sum, size)

    one : 1 ≤ row_units f ids
    one = positive (row_units f ids) refl
      where
        positive : (n : ℕ) → row_units f ids ≡ n → 1 ≤ row_units f ids
        positive zero e = absurd (omega (arith, some, length_units f ids, ap (λ k. scan_mcus_down f ids * k) e, (let z : scan_mcus_down f ids * 0 ≡ 0 = omega arith in z)))
        positive (suc n) e = omega (arith, e)

    next : (at.row + 1) * row_units f ids ≡ at.row * row_units f ids + row_units f ids
    next = add-mul at.row 1 (row_units f ids) ∙ omega arith

    after : (at.row + 1 + 1) * row_units f ids ≡ at.row * row_units f ids + row_units f ids + row_units f ids
    after = add-mul (at.row + 1) 1 (row_units f ids) ∙ omega (arith, next)

    by : (n : ℕ) → rows.left ≡ n → RowCut f ids rows places
    by zero e =
        let c = first_of f ids places rest (at.row + 1) all (omega (arith, at.count)) (omega (arith, count, e, next)) in
        let due : unfinished rows ≡ rows.later + 0 = ap (λ n. rows.later + cond (n == 0) 0 1) e in
        record { m = at.row + 1; count = omega (arith, due, at.count); more = c.0; first = c.1; few = omega (arith, rows_long f ids (at.row + 1 + 1), after, count, e, one) }
    by (suc n) e =
        let c = first_of f ids places rest at.row all (omega (arith, at.count)) (omega (arith, count, e, at.few, at.size)) in
        let due : unfinished rows ≡ rows.later + 1 = ap (λ n. rows.later + cond (n == 0) 0 1) e ∙ ap (λ b. rows.later + cond b 0 1) (not_zero n) in
        record { m = at.row; count = omega (arith, due, at.count); more = c.0; first = c.1; few = omega (arith, rows_long f ids (at.row + 1), next, count, e) }

-- THE HEADER
pub begins_at : (limits : Limits) (bytes tail : List ℕ) (p : ScanPlace) → ScanAt limits bytes p tail → IsScanOfAll limits (segments_of p.items) p.contents → BeginsScanOfAll limits bytes (segments_of p.items) p.contents
begins_at limits bytes tail p at all = record {
  front = at.front ++ at.head;
  rest = at.text ++ tail;
  cut = at.cut ∙ append_assoc (at.front ++ at.head) at.text tail;
  header = place_header limits bytes tail (inside limits bytes p tail at) all.first;
  unbroken = at.allowed.1;
  of_all = all;
}

-- WHAT IS COMPLETE
pub stops_complete : (limits : Limits) (items : List Item) (contents bytes : List ℕ) (whole : Picture) (rows : RowWork) (left : ℕ) → PlaceStops limits items contents bytes whole left
    → IsRowAt (frame_behind limits items) (components_of limits items contents) rows left → CompletesBefore limits bytes (segments_of items) contents rows
stops_complete limits items contents bytes whole rows left z at =
    subst (λ (l : List Item). CompletesBefore limits bytes (segments_of l) contents rows) (t.of).0 (subst (λ (c : List ℕ). CompletesBefore limits bytes (segments_of (t.place).items) c rows) (t.of).1 done)
  where
    t : PlaceTells limits items contents bytes whole left
    t = z.tells

    P : List Place
    P = joined (z.tells.told).front ++ (z.tells.told).part

    there : IsRowAt (frame_behind limits (z.tells.place).items) (components_of limits (z.tells.place).items (z.tells.place).contents) rows left
    there =
        subst (λ (c : List ℕ). IsRowAt (frame_behind limits (z.tells.place).items) (components_of limits (z.tells.place).items c) rows left) (sym (z.tells.of).1)
        (subst (λ (l : List Item). IsRowAt (frame_behind limits l) (components_of limits l contents) rows left) (sym (z.tells.of).0) at)

    begins : BeginsScanOfAll limits bytes (segments_of (z.tells.place).items) (z.tells.place).contents
    begins = begins_at limits bytes z.tells.tail z.tells.place z.tells.at z.tells.of_all

    done : CompletesBefore limits bytes (segments_of (z.tells.place).items) (z.tells.place).contents rows
    done =
        let p = z.tells.place in
        let told = z.tells.told in
        let c =
        rows_cut (frame_behind limits p.items) (components_of limits p.items p.contents) rows left (joined told.front ++ told.part) (told.rest ++ joined p.later) there (told_first limits p (map_of whole) told)
        (length-append told.rest (joined p.later) ∙ z.tells.left_is) (begun_places limits bytes (segments_of p.items) p.contents begins) in
        let w : StopsInRows limits bytes c.m = record {
          place = p;
          tail = z.tells.tail;
          at = z.tells.at;
          of_all = z.tells.of_all;
          places = joined told.front ++ told.part;
          more = c.more;
          told = map_of whole;
          tells = told.tells;
          first = c.first;
          few = c.few;
          units = subst (λ (l : List Place). TellsNoMore (scan_at limits p) p.blocks p.places p.coded (length l)) (sym told.same) z.units;
          last = z.last;
        } in
        record { begins = begins; m = c.m; count = c.count; blocks = _; completed = stop_completes limits bytes c.m w }
