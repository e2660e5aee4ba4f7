-- Where a fault stops a scan that is read MCU row by MCU row: which MCU rows the bytes up to it complete.
use Rattle.std.proofs.Common.{◌≡◌, ◌+◌, ◌<◌, ◌≤◌, Bool, List, [], ◌∷◌, ◌++◌, length, refl, sym, ap, ◌∙◌, subst, arith, inl, ◌⊎◌, ⊎_elim, ℤ, ℕ, ◌-◌, ◌*◌, cond, inr, suc, ◌/◌, ◌%◌, true, false, take, get_or, Err, Ok, append_assoc, append-nil, length-append, replicate, Result}
use Rattle.std.proofs.lemmas.Bool.{cases_lt}
use Rattle.std.proofs.lemmas.List.{append_cancel_left, take_more}
use Rattle.jpg_spec.specs.Elements.{Coding, Covers, Element, UnitLeft, at_start}
use Rattle.jpg_spec.specs.Parts.{StandsInUnits, in_code}
use Rattle.jpg_spec.specs.ScanFaults.{DataReveals}
use Rattle.jpg_spec.specs.Sound.{IsSound}
use Rattle.jpg_spec.specs.RowsParsed.{TellsFirst, IsScanOfAll}
use Rattle.jpg_spec.specs.declared.fault.Fault.{Fault}
use Rattle.jpg_spec.proofs.Basics.Facts.{facts}
use Rattle.jpg_spec.proofs.Bits.Once.{GoesOn, fronts_once}
use Rattle.jpg_spec.proofs.Bits.Parts.{FrontAt, part_front}
use Rattle.jpg_spec.proofs.Bits.PartStands.{codes_one, coding_is, no_further, part_not_shown, part_due}
use Rattle.jpg_spec.proofs.EndsEarly.EarlyRows.{shorter_front}
use Rattle.jpg_spec.specs.Bits.{bits_of_bytes, bits_of}
use Rattle.jpg_spec.specs.Lists.{joined}
use Rattle.jpg_spec.specs.Scan.{Scan, Blocks}
use Rattle.jpg_spec.specs.Items.{Item, segments_of}
use Rattle.jpg_spec.specs.ScanReading.{ScanAt, ScanPlace, scan_at, LeadingMarker, with_byte}
use Rattle.jpg_spec.specs.PictureInWork.{ScanSoFar}
use Rattle.jpg_spec.specs.RowLaws.{TellsNoMore, HasNoMoreData}
use Rattle.jpg_spec.specs.declared.frame.Limits.{Limits}
use Rattle.jpg_spec.proofs.Files.ScanAnswers.{units_at as units_there}
use Rattle.jpg_spec.proofs.Segments.TablesInForce.{scan_sound}
use Rattle.jpg_coefs.specs.Picture.{Picture, map_of}
use Rattle.jpg_coefs.specs.Machine.{Interval, fault_of, units_of, TakesBits, Chain, ChainTo}
use Rattle.jpg_coefs.specs.declared.machine.UnitFault.{UnitFault}
use Rattle.jpg_coefs.proofs.Chains.{chain_stands, some_taken}
use Rattle.jpg_seq.specs.Reader.{RepresentsSeqScan, new_units_at, IsRowOf}
use Rattle.jpg_seq.specs.Work.{unit_in_work}
use Rattle.jpg_seq.specs.declared.reader.SeqReader.{SeqReader}
use Rattle.jpg_file.specs.Read.InData.{InData, IsInterval, IsReadable, AtWork, scan_answer, work_after, IsRowAt, scan_left, unfinished, HalfData, IsWrongMarker, PassesByte, PassesRun}
use Rattle.jpg_file.specs.Read.Machine.{any_scan, scan_kind, whole_blocks, TakesRowBits}
use Rattle.jpg_file.specs.Read.Strips.{IsRowInScan, PassesRest, CompletesBefore, IsFirstScan, components_of, frame_behind}
use Rattle.jpg_file.specs.Read.Window.{ShowsInRow, StopsRowData, StopsRowRun, FewBefore, LastRowRun}
use Rattle.jpg_file.specs.declared.read.machine.ScanReader.{ScanReader}
use Rattle.jpg_file.specs.declared.read.rows.RowWork.{RowWork}
use Rattle.jpg_file.proofs.ByRow.RowsPlaced.{PlaceStops, all_at, bands_long, machine_stands, parts_stand, stops_complete, units_at, left_whole, place_stops, scan_of_all, TellsAt, whole_at, data_stops}
use Rattle.jpg_file.proofs.Scans.ScanBytes.{of_place, InInterval, data_at, due_at, due_units, marker_at, read_at, with_bytes, front_plain, open_at, plain_at, left_in, of_bytes, of_half, of_work, before_last}
use Rattle.jpg_file.proofs.ByRow.StripRows.{kind_at, scan_of_place, seq_of}
use Rattle.jpg_spec.proofs.Headers.SameNumbers.{some_not_zero}
use Rattle.jpg_spec.specs.FirstFault.{HoldsUnits}
use Rattle.jpg_spec.proofs.Bits.DataFacts.{bits_join, completes_holds}
use Rattle.jpg_spec.proofs.Files.ScanSteps.{marker_code}
use Rattle.jpg_huff.specs.Gate.{IsData}
use Rattle.jpg_coefs.specs.declared.machine.Taken.{Taken}
use Rattle.jpg_coefs.specs.declared.machine.Taken.TheVariants as taken
use Rattle.jpg_file.specs.declared.read.scan.InScan.{InScan}
use Rattle.jpg_file.proofs.Scans.Runs.{run_cut, bits_before, chain_cut}
use Rattle.jpg_file.proofs.ByRow.RowTurns.{open_half, open_scan}
use Rattle.jpg_coefs.specs.declared.machine.UnitStep.{UnitStep}
use Rattle.jpg_coefs.specs.declared.machine.UnitStep.TheVariants as step
use Rattle.jpg_spec_write.proofs.ProgressiveLength.{bytes_long}
use Rattle.jpg_file.specs.declared.read.window.Window.TheVariants as window

-- What bits encode before a fault that the next bit reveals: no more than up to the place where they end (T.81, F.2.2).

-- a prefix of the bits encodes at most as many values as all of them
pub stands_most : (c : Coding) (units : List UnitLeft) (told : List ℤ) (left : List UnitLeft) (bits : List Bool) (other : List ℤ) (front rest : List Bool) → IsSound c → StandsInUnits c units told left bits
    → TellsFirst c units other front → bits ≡ front ++ rest → length other ≤ length told
stands_most c units told left bits other front rest sound w k e =
    ⊎_elim
    (λ (g : GoesOn c w.elements k.0 w.before other w.front front w.standing k.1). longer g.elements g.values g.spelling g.covers g.joined.1
    (append_cancel_left w.front w.part (g.spelling ++ rest) (sym w.cut ∙ e ∙ ap (λ l. l ++ rest) g.joined.2 ∙ append_assoc w.front g.spelling rest)))
    (λ (g : GoesOn c k.0 w.elements other w.before front w.front k.1 w.standing). (let l = ap length g.joined.1 ∙ length-append other g.values in omega (arith, l, size)))
    (fronts_once c (at_start units) w.elements k.0 w.before other w.front front w.part rest w.standing k.1 facts (coding_is c sound) (codes_one c sound) w.covers k.2 (sym w.cut ∙ e))
  where
    at : FrontAt c w.standing w.part
    at = part_front c w.standing w.unit w.others w.here w.part w.is_part

    size : length told ≡ length w.before + length w.here
    size = ap length w.same ∙ length-append w.before w.here

    longer : (es : List Element) (values : List ℤ) (spelling : List Bool) → Covers c w.standing es values spelling k.1 → other ≡ w.before ++ values → w.part ≡ spelling ++ rest → length other ≤ length told
    longer [] values spelling h same cut = let l = ap length same ∙ length-append w.before values in let n = ap length h.0 in omega (arith, l, n, size)
    longer (d ∷ es) values spelling h same cut = absurd (no_further c w.standing at.unit at.units w.part rest d es values spelling k.1 sound at.left at.is_front h cut)

-- the complete elements before the fault end in the next unit, with no bits of it
whole_stands : (c : Coding) (units : List UnitLeft) (fault : Fault) (bits : List Bool) → (d : DataReveals c units fault bits) → StandsInUnits c units d.told (d.unit ∷ d.others) d.front
whole_stands c units fault bits d = record {
  elements = d.elements;
  before = d.told;
  front = d.front;
  standing = d.standing;
  unit = d.unit;
  others = d.others;
  here = [];
  part = [];
  cut = sym (append-nil d.front);
  covers = d.covers;
  same = sym (append-nil d.told);
  first = refl;
  is_part = in_code (record { left = d.left; none = refl; front = inl refl; no_code = λ a b. refl });
  in_bounds = refl;
}

no_bits : (a b : List Bool) → length (a ++ b) ≡ 0 → a ++ b ≡ []
no_bits [] [] e = refl
no_bits [] (x ∷ b) e = absurd (omega (arith, e))
no_bits (x ∷ a) b e = absurd (omega (arith, e))

-- THE LAW: if bits end in a unit and the next bit reveals a fault, at most as much was decoded before it
pub shown_most : (c : Coding) (units : List UnitLeft) (told : List ℤ) (left : List UnitLeft) (bits : List Bool) (bit : Bool) (fault : Fault) → IsSound c → StandsInUnits c units told left bits → (d : DataReveals c units fault (bits ++ bit ∷ []))
    → length d.told ≤ length told
shown_most c units told left bits bit fault sound w d =
    ⊎_elim
    (λ (h : length bits < length d.front). absurd (never h))
    (λ (h : length d.front ≤ length bits). (let r = shorter_front bits d.front (bit ∷ []) (d.here ++ d.rest) all h in stands_most c units told left bits d.told d.front r.0 sound w (d.elements, d.standing, d.covers) r.1))
    (cases_lt (length bits) (length d.front))
  where
    all : bits ++ bit ∷ [] ≡ d.front ++ (d.here ++ d.rest)
    all = d.cut ∙ append_assoc d.front d.here d.rest

    never : length bits < length d.front → ⊥
    never h =
        let size : length (d.here ++ d.rest) ≡ 0 = omega (arith, h, ap length all, length-append d.front (d.here ++ d.rest), length-append bits (bit ∷ [])) in
        let none : bits ++ bit ∷ [] ≡ d.front = all ∙ ap (λ l. d.front ++ l) (no_bits d.here d.rest size) ∙ append-nil d.front in
        part_not_shown c units d.told (d.unit ∷ d.others) d.front fault sound (whole_stands c units fault (bits ++ bit ∷ []) d) (subst (λ l. DataReveals c units fault l) none d)

-- Data of a scan of all components that have a fault: which units are decoded before it, and which MCU rows are
-- complete.

-- a fault before which fewer than `most` values are decoded
abbrev ShownFew : Fault → List Bool → ℕ → Coding → List UnitLeft → Type 0
ShownFew fault bits most c units = (d : DataReveals c units fault bits) × (length d.told < most)

-- whatever bits follow
shown_on : (c : Coding) (units : List UnitLeft) (fault : Fault) (bits more : List Bool) (most : ℕ) → (d : DataReveals c units fault bits) → length d.told < most → ShownFew fault (bits ++ more) most c units
shown_on c units fault bits more most d few = (
  record {
    elements = d.elements;
    told = d.told;
    front = d.front;
    here = d.here;
    rest = d.rest ++ more;
    standing = d.standing;
    unit = d.unit;
    others = d.others;
    cut = ap (λ l. l ++ more) d.cut ∙ append_assoc (d.front ++ d.here) d.rest more;
    covers = d.covers;
    left = d.left;
    codes = d.codes;
    shows = d.shows;
  },
  few,
)

pub sound_of : (limits : Limits) (p : ScanPlace) (i : Interval) → IsInterval limits p i → IsSound i.scan.coding
sound_of limits p i is = subst (λ (s : Scan). IsSound s.coding) (sym is.scan) (scan_sound limits (segments_of p.items) p.contents)

-- THE UNITS that a machine has completed
whole_long : (n : SeqReader) (i : Interval) (bits : List Bool) (now : Picture) → (o : RepresentsSeqScan n i bits now) → length o.whole ≡ 64 * length o.done
whole_long n i bits now o = ap length o.read.told_there ∙ bands_long i.scan (map_of now) o.done o.kind.ss o.kind.se o.read.changes.sizes

-- with more bits no more units are left
pub fewer_left : (n mid : SeqReader) (i : Interval) (bits more : List Bool) (now between : Picture) → IsSound i.scan.coding → RepresentsSeqScan n i bits now → RepresentsSeqScan mid i (bits ++ more) between → mid.left ≤ n.left
fewer_left n mid i bits more now between sound o k =
    let p = parts_stand mid i (bits ++ more) between k in
    let cut : bits ++ more ≡ o.front ++ (o.part ++ more) = ap (λ l. l ++ more) o.split ∙ append_assoc o.front o.part more in
    let most =
    stands_most i.scan.coding (units_of i) (k.whole ++ mid.unit.values) (unit_in_work k.next.component mid.unit.values ∷ new_units_at k.more) (bits ++ more) o.whole o.front (o.part ++ more) sound p.0
    (o.elements, record { predictions = o.predictions; left = new_units_at (o.next ∷ o.more) }, o.covers) cut in
    let less = p.1 in
    let a = ap length o.all ∙ length-append o.done (o.next ∷ o.more) in
    let b = ap length k.all ∙ length-append k.done (k.next ∷ k.more) in
    omega (arith, most, less, a, b, o.left, k.left, whole_long n i bits now o, whole_long mid i (bits ++ more) between k, length-append k.whole mid.unit.values)

-- NO MORE UNITS are decoded before the fault
module _ (limits : Limits) (q : ScanPlace) (i : Interval) (readable : IsReadable limits q) (is : IsInterval limits q i)
    (so_far : ScanSoFar (scan_at limits q) q.blocks (map_of i.before) q.done (q.places ∷ q.later)) where
  fault_units : (n : SeqReader) (bits more : List Bool) (bit : Bool) (now : Picture) (f : UnitFault) (count : ℕ) → RepresentsSeqScan n i bits now
      → bits_of_bytes q.coded ≡ bits ++ (bit ∷ more) → DataReveals i.scan.coding (units_of i) (fault_of f) (bits ++ bit ∷ []) → length q.places ≡ count + n.left
      → TellsNoMore (scan_at limits q) q.blocks q.places q.coded count
  fault_units n bits more bit now f count o cut d sum =
      let p = parts_stand n i bits now o in
      let less = p.1 in
      let most = shown_most i.scan.coding (units_of i) (o.whole ++ n.unit.values) (unit_in_work o.next.component n.unit.values ∷ new_units_at o.more) bits bit (fault_of f) (sound_of limits q i is) p.0 d in
      let a = ap length (sym is.places ∙ o.all) ∙ length-append o.done (o.next ∷ o.more) in
      let few : length d.told < 64 * (count + 1) = omega (arith, most, less, a, o.left, sum, whole_long n i bits now o, length-append o.whole n.unit.values) in
      let on = shown_on i.scan.coding (units_of i) (fault_of f) (bits ++ bit ∷ []) more (64 * (count + 1)) d few in
      let all : (bits ++ bit ∷ []) ++ more ≡ bits_of_bytes q.coded = append_assoc bits (bit ∷ []) more ∙ sym cut in
      let there = of_place limits q i (ShownFew (fault_of f) ((bits ++ bit ∷ []) ++ more) (64 * (count + 1))) readable is so_far on in
      let k = subst (λ l. ShownFew (fault_of f) l (64 * (count + 1)) (scan_at limits q).coding (units_there limits q)) all there in
      inr (inl (fault_of f, k.0, k.1))

-- THE PLACE with the fault, where `left` units of the current interval are left, and `due` after it
pub record FaultStops (limits : Limits) (items : List Item) (contents bytes : List ℕ) (left most due : ℕ) : Type 0 where
  pub whole : Picture
  pub units : ℕ
  pub few : left < units + most
  pub low : units ≤ left
  pub stops : PlaceStops limits items contents bytes whole (due + units)

regroup : (a front rest : List Bool) (bit : Bool) → a ++ ((front ++ bit ∷ []) ++ rest) ≡ (a ++ front) ++ (bit ∷ rest)
regroup a front rest bit = simp append_assoc

module _ (limits : Limits) (items : List Item) (contents bytes : List ℕ) (p : ScanPlace) (w : InScan) (now : Picture) (store : List Bool) where
  pub fault_stops : (d : InInterval limits p w now store) (most : ℕ) (f : UnitFault) → (p.items ≡ items) × (p.contents ≡ contents) → ScanAt limits bytes p []
      → IsFirstScan limits items → IsScanOfAll limits (segments_of items) contents → ShowsInRow most w.machine now store f
      → FaultStops limits items contents bytes (any_scan.left w.machine) most (length (joined p.later))
  fault_stops d most f of at first all (new, after, rest, (bits, taken, (front, bit, mid, between, last_is, chain, few, last))) =
      let i = d.interval in
      let a = d.taken in
      let here = all_at limits items contents p of all in
      let kind : scan_kind i.scan ≡ whole_blocks = ap scan_kind ((d.is).scan ∙ scan_of_place limits items contents p of.0 of.1) ∙ kind_at limits items contents first.sequential in
      let there = chain_stands any_scan w.machine mid now between i a front chain d.stands in
      let x = seq_of w.machine i a now d.stands kind in
      let y = seq_of mid i (a ++ front) between there kind in
      let o = machine_stands mid y.0 i (a ++ front) between y.1 there in
      -- the bits at which the fault occurs
      let cut : bits_of_bytes p.coded ≡ (a ++ front) ++ (bit ∷ rest) = d.cut ∙ ap (λ l. a ++ l) (taken ∙ ap (λ l. l ++ rest) last_is) ∙ regroup a front rest bit in
      let u = units_at limits p i y.0 (a ++ front) (bit ∷ rest) between at.leads here d.readable d.is d.so_far o cut in
      let sum = ap length (u.at).cut ∙ length-append (u.at).part (u.at).rest in
      let low = fewer_left x.0 y.0 i a front now between (sound_of limits p i d.is) (machine_stands w.machine x.0 i a now x.1 d.stands) o in
      let old : any_scan.left w.machine ≡ (x.0).left = ap (λ (r : ScanReader). any_scan.left r) x.1 in
      let mid_left : any_scan.left mid ≡ (y.0).left = ap (λ (r : ScanReader). any_scan.left r) y.1 in
      let shown = (last i (a ++ front) there).0 in
      record {
        whole = between;
        units = (y.0).left;
        few = omega (arith, few, mid_left);
        low = omega (arith, low, old);
        stops = record {
          tells = record { place = p; of = of; tail = []; at = at; of_all = here; told = u.at; left_is = omega (arith, u.left_is) };
          units = fault_units limits p i d.readable d.is d.so_far y.0 (a ++ front) rest bit between f (length (u.at).part) o cut shown (omega (arith, sum, u.left_is));
          last = inl (0, refl);
        };
      }

-- THE MCU ROWS: the current one isn't complete

pub fault_completes : (limits : Limits) (items : List Item) (contents bytes : List ℕ) (rows : RowWork) (left due : ℕ) → FaultStops limits items contents bytes left rows.left due
    → IsRowAt (frame_behind limits items) (components_of limits items contents) rows (due + left) → CompletesBefore limits bytes (segments_of items) contents rows
fault_completes limits items contents bytes rows left due z at =
    record { begins = c.begins; m = c.m; count = omega (arith, c.count, same); blocks = c.blocks; completed = c.completed }
  where
    -- with the units that are complete before the fault
    there : IsRowAt (frame_behind limits items) (components_of limits items contents) (record rows { left = rows.left - (left - z.units) }) (due + z.units)
    there = record {
      frame = at.frame;
      there = at.there;
      all = at.all;
      row = at.row;
      begins = at.begins;
      size = at.size;
      count = at.count;
      few = omega (arith, at.few);
      sum = omega (arith, at.sum, z.few, z.low);
    }

    c : CompletesBefore limits bytes (segments_of items) contents (record rows { left = rows.left - (left - z.units) })
    c = stops_complete limits items contents bytes z.whole (record rows { left = rows.left - (left - z.units) }) (due + z.units) z.stops there

    same : unfinished (record rows { left = rows.left - (left - z.units) }) ≡ unfinished rows
    same = ap (λ b. rows.later + cond b 0 1) (some_not_zero (rows.left - (left - z.units)) (omega (arith, z.few, z.low)) ∙ sym (some_not_zero rows.left (omega (arith, z.few, z.low))))

-- Bits and bytes that have a fault while an MCU row is read.

-- BITS of the current MCU row

pub row_stops : (w : RowWork) (m after : ScanReader) (row : Picture) (bits rest : List Bool) (answer : Taken) → TakesRowBits w.left w.tops m w.coefs bits answer after row rest → StopsRowData w m bits answer
row_stops w m after row bits rest answer t = λ f whole e of o.
    (let k = t whole of o in (after, k.0, rest, subst (λ (a : Taken). TakesBits any_scan w.left m whole bits a after k.0 rest) e k.2))

pub run_stops_row : (w : RowWork) (m after : ScanReader) (row : Picture) (bytes : List ℕ) (rest : List Bool) (n : ℕ) (answer : Taken)
    → n ≡ length bytes - length rest / 8 → TakesRowBits w.left w.tops m w.coefs (bits_of_bytes bytes) answer after row rest → StopsRowRun w m bytes n answer
run_stops_row w m after row bytes rest n answer count t = λ f whole e of o.
    (let k = t whole of o in first_taken f whole k.0 (subst (λ (a : Taken). TakesBits any_scan w.left m whole (bits_of_bytes bytes) a after k.0 rest) e k.2))
  where
    -- the fault is in the bytes up to the one that has it
    first_taken : (f : UnitFault) (whole now : Picture) → TakesBits any_scan w.left m whole (bits_of_bytes bytes) (taken.Fault f) after now rest
        → ShowsInRow w.left m whole (bits_of_bytes (take n bytes)) f
    first_taken f whole now (bits, cut, chain) =
        let c = run_cut bytes bits rest n cut (some_taken any_scan w.left m after whole now bits (Err f) chain) count in
        let byte = get_or bytes c.early 0 in
        let is : bits_of_bytes (take n bytes) ≡ bits ++ c.rest =
        ap (λ k. bits_of_bytes (take k bytes)) c.count ∙ ap bits_of_bytes (take_more bytes c.early 0 c.within) ∙ bits_join (take c.early bytes) (byte ∷ [])
        ∙ ap (λ z. bits_of_bytes (take c.early bytes) ++ z) (append-nil (bits_of 8 byte) ∙ c.byte)
        ∙ sym (append_assoc (bits_of_bytes (take c.early bytes)) c.front c.rest) ∙ ap (λ z. z ++ c.rest) (sym c.cut) in
        (after, now, c.rest, (bits, is, chain))

-- DATA BYTES of the scan

extra_told : (limits : Limits) (p : ScanPlace) (byte : ℕ) (told : Blocks) → TellsAt limits p told → TellsAt limits (with_byte p byte) told
extra_told limits p byte told t =
    let k = t.tells in
    record {
      front = t.front;
      part = t.part;
      rest = t.rest;
      chunked = t.chunked;
      cut = t.cut;
      tells = record {
        whole = k.whole;
        part = k.part;
        rest = k.rest;
        later = k.later;
        bits = k.bits;
        behind = k.behind ++ bits_of_bytes (byte ∷ []);
        intervals = k.intervals;
        all = k.all;
        spelled = k.spelled;
        cut = bits_join p.coded (byte ∷ []) ∙ ap (λ z. z ++ bits_of_bytes (byte ∷ [])) k.cut ∙ append_assoc k.bits k.behind (bits_of_bytes (byte ∷ []));
        first = k.first;
        sizes = k.sizes;
      };
      same = t.same;
    }

extra_holds : (limits : Limits) (p : ScanPlace) (byte : ℕ) → HoldsUnits (scan_at limits p) p.blocks p.places p.coded → HoldsUnits (scan_at limits p) p.blocks p.places (p.coded ++ byte ∷ [])
extra_holds limits p byte (told, (bits, rest, cut, spells)) =
    (told, (bits, rest ++ bits_of_bytes (byte ∷ []), bits_join p.coded (byte ∷ []) ∙ ap (λ z. z ++ bits_of_bytes (byte ∷ [])) cut ∙ append_assoc bits rest (bits_of_bytes (byte ∷ [])), spells))

leading : (fill code : ℕ) → (code ≡ 0 → ⊥) → (code ≡ 255 → ⊥) → LeadingMarker (replicate (suc fill) 255 ++ code ∷ [])
leading fill code z f =
    let tail = replicate (suc fill) 255 ++ code ∷ [] in
    record { code = code; marker = tail; rest = []; spelled = marker_code fill code z f; cut = sym (append-nil tail) }

no_more_data : (limits : Limits) (p : ScanPlace) (fill code : ℕ) (w : InScan) (now : Picture) → (code ≡ 0 → ⊥) → (code ≡ 255 → ⊥) → AtWork limits p w now → (w.whole ≡ true → code ≡ 0xd0 + w.turn → ⊥)
    → HasNoMoreData (scan_at limits p) p (replicate (suc fill) 255 ++ code ∷ [])
unfolding leading
no_more_data limits p fill code w now z f work wrong = inr (leading fill code z f, by w.whole refl)
  where
    by : (b : Bool) → w.whole ≡ b → HoldsUnits (scan_at limits p) p.blocks p.places p.coded → code ≡ 0xd0 + length p.done % 8 → p.later ≡ []
    by true e holds is = absurd (wrong e (omega (arith, is, work.turn)))
    by false e holds is =
        let u = due_units limits p w.machine now work.readable (due_at limits p w now e work) in
        absurd ((part_due (scan_at limits p) p.blocks p.places u.0 u.1 p.coded (scan_sound limits (segments_of p.items) p.contents) u.2).0 holds)

module _ (limits : Limits) (items : List Item) (contents bytes : List ℕ) where
  -- data bytes, of which the last has the fault
  interval_stops : (p : ScanPlace) (w : InScan) (now : Picture) (rest : List Bool) (rows : RowWork) (f : UnitFault) → InInterval limits p w now rest
      → (p.items ≡ items) × (p.contents ≡ contents) → ScanAt limits bytes p [] → ShowsInRow rows.left w.machine now rest f → IsFirstScan limits items
      → IsRowAt (frame_behind limits items) (components_of limits items contents) rows (scan_left w) → CompletesBefore limits bytes (segments_of items) contents rows
  interval_stops p w now rest rows f d of at shows first row =
      let all = scan_of_all limits items contents rows (scan_left w) first row in
      let z = fault_stops limits items contents bytes p w now rest d rows.left f of at first all shows in
      let there = subst (λ n. IsRowAt (frame_behind limits items) (components_of limits items contents) rows n) (left_in limits p w now rest d) row in
      fault_completes limits items contents bytes rows (any_scan.left w.machine) (length (joined p.later)) z there

  -- A DATA BYTE after a complete interval

  pub extra_stops : (front tail : List ℕ) (p : ScanPlace) (byte : ℕ) (w : InScan) (now : Picture) (rows : RowWork)
      → (p.items ≡ items) × (p.contents ≡ contents) → ScanAt limits front p tail → ScanAt limits bytes (with_byte p byte) [] → AtWork limits p w now
      → w.whole ≡ true → IsFirstScan limits items → IsRowAt (frame_behind limits items) (components_of limits items contents) rows (scan_left w)
      → CompletesBefore limits bytes (segments_of items) contents rows
  unfolding extra_told
  extra_stops front tail p byte w now rows of before at work e first row =
      let here = all_at limits items contents p of (scan_of_all limits items contents rows (scan_left w) first row) in
      let k = read_at limits p w now e work in
      let u = whole_at limits front tail p (map_of now) before here k.so_far in
      let sum = ap length (u.at).cut ∙ length-append (u.at).part (u.at).rest in
      let t = extra_told limits p byte (map_of now) u.at in
      let holds = extra_holds limits p byte (completes_holds (scan_at limits p) p.blocks p.places p.coded k.completes) in
      let z : PlaceStops limits items contents bytes now (scan_left w) = record {
        tells = record { place = with_byte p byte; of = of; tail = []; at = at; of_all = here; told = t; left_is = omega (arith, u.left_is, left_whole w e, work.due) };
        units = inr (inr (holds, omega (arith, sum, u.left_is)));
        last = inl (0, refl);
      } in
      stops_complete limits items contents bytes now rows (scan_left w) z row

  -- A MARKER that doesn't begin the next interval

  pub marker_stops : (p : ScanPlace) (fill code : ℕ) (w : InScan) (now : Picture) (rows : RowWork) → (p.items ≡ items) × (p.contents ≡ contents)
      → (code ≡ 0 → ⊥) → (code ≡ 255 → ⊥) → ScanAt limits bytes p (replicate (suc fill) 255 ++ code ∷ []) → AtWork limits p w now
      → (w.whole ≡ true → code ≡ 0xd0 + w.turn → ⊥) → IsFirstScan limits items
      → IsRowAt (frame_behind limits items) (components_of limits items contents) rows (scan_left w)
      → CompletesBefore limits bytes (segments_of items) contents rows
  marker_stops p fill code w now rows of z f at work wrong first row =
      let tail = replicate (suc fill) 255 ++ code ∷ [] in
      let all = scan_of_all limits items contents rows (scan_left w) first row in
      let k = place_stops limits items contents bytes tail p w now of at work (no_more_data limits p fill code w now z f work wrong) first all in
      stops_complete limits items contents bytes now rows (scan_left w) k row

-- WHAT THE SCAN ANSWERS: only a fault stops it

faulty : (given : Result Bool Fault) (came_to : Taken) (fault : Fault) → given ≡ scan_answer came_to → given ≡ Err fault → (f : UnitFault) × (came_to ≡ taken.Fault f)
faulty given (taken.Fault f) fault is e = (f, refl)
faulty given other fault is e = absurd (let z : (let s : Result Bool Fault = Ok false in s) ≡ Err fault = sym is ∙ e in cc)

module _ (limits : Limits) (items : List Item) (contents bytes : List ℕ) (old new : InScan) (w after : RowWork) (whole : Picture)
    (row : IsRowOf w.tops whole w.coefs) (at : IsRowInScan limits items contents old w) (fault : Fault) where
  pub byte_stopped : (byte : ℕ) (given : Result Bool Fault) → InData limits items contents bytes old whole → PassesByte old (window.Row w) byte given new (window.Row after)
      → given ≡ Err fault → CompletesBefore limits (bytes ++ byte ∷ []) (segments_of items) contents w
  byte_stopped byte given d (inl n) e = by (n.why fault e)
    where
      by : ((passed : ℕ) × IsData old.gate byte passed × (old.whole ≡ true)) ⊎ IsWrongMarker old byte → CompletesBefore limits (bytes ++ byte ∷ []) (segments_of items) contents w
      by (inl (passed, is_data, over)) =
          extra_stops limits items contents (bytes ++ byte ∷ []) bytes (replicate d.fill 255) d.place passed old whole w d.of d.at (data_at limits items contents bytes byte passed old whole d is_data) d.work over at.0 at.1
      by (inr (gate, z, f, wrong)) =
          let m = marker_at limits items contents bytes byte old whole false d gate z f in
          marker_stops limits items contents (bytes ++ byte ∷ []) d.place m.fill byte old whole w d.of z f m.at d.work wrong at.0 at.1
  byte_stopped byte given d (inr p) e =
      let t = p.took in
      let g = faulty given t.taken fault t.is e in
      interval_stops limits items contents (bytes ++ byte ∷ []) (with_bytes d.place (p.passed ∷ [])) old whole (bits_of_bytes (p.passed ∷ [])) w g.0
      (of_bytes limits d.place old whole (p.passed ∷ []) t.due d.work) d.of (data_at limits items contents bytes byte p.passed old whole d p.is_data)
      (t.took.0 g.0 whole g.1 row (open_scan limits items contents bytes old whole d t.due)) at.0 at.1

  pub rest_stopped : (given : Result Bool Fault) → HalfData limits items contents bytes w.waiting old whole → PassesRest old w given new after
      → given ≡ Err fault → CompletesBefore limits bytes (segments_of items) contents w
  rest_stopped given h t e =
      let g = faulty given t.taken fault t.is e in
      interval_stops limits items contents bytes (with_byte h.place h.byte) old whole w.waiting w g.0 (of_half limits items contents bytes w.waiting old whole h) h.of h.at
      (t.took.0 g.0 whole g.1 row (open_half limits items contents bytes w.waiting old whole h)) at.0 at.1

  pub run_stopped : (run : List ℕ) (n : ℕ) (given : Result Bool Fault) → n ≤ length run → InData limits items contents bytes old whole
      → PassesRun old (window.Row w) run n given new (window.Row after) → given ≡ Err fault → CompletesBefore limits (bytes ++ take n run) (segments_of items) contents w
  run_stopped run n given few d (gate, plain, t) e =
      let g = faulty given t.taken fault t.is e in
      let there = plain_at limits bytes d.place (take n run) (front_plain run n few plain) (open_at limits items contents bytes old whole d gate) in
      interval_stops limits items contents (bytes ++ take n run) (with_bytes d.place (take n run)) old whole (bits_of_bytes (take n run)) w g.0
      (of_bytes limits d.place old whole (take n run) t.due d.work) d.of there (t.took.0 g.0 whole g.1 row (open_scan limits items contents bytes old whole d t.due)) at.0 at.1

-- Some plain bytes of a scan that is read MCU row by MCU row: those before the last one don't complete the current row.

-- BITS that a machine takes, up to the byte with the last of them

module _ (most : ℕ) (m new : ScanReader) (now after : Picture) (bytes : List ℕ) where
  before_all : (bits rest : List Bool) (n : ℕ) → 1 ≤ length bits → n ≡ length bytes - length rest / 8 → bits_of_bytes bytes ≡ bits ++ rest
      → Chain any_scan m now bits new after → any_scan.left m < any_scan.left new + most → FewBefore most m now bytes n
  before_all bits rest n some count cut chain few =
      let c = run_cut bytes bits rest n cut some count in
      let C : List Bool → Type 0 = λ z. Chain any_scan m now z new after in
      let two = chain_cut any_scan m new now after (bits_of_bytes (take c.early bytes)) c.front (subst C c.cut chain) in
      record {
        early = c.early;
        count = c.count;
        within = c.within;
        mid = two.mid;
        between = two.between;
        chain = two.first;
        more = c.front;
        far = new;
        later = after;
        on = two.second;
        few = few;
      }

  before_answer : (bits rest : List Bool) (n : ℕ) (answer : Result UnitStep UnitFault) → n ≡ length bytes - length rest / 8 → bits_of_bytes bytes ≡ bits ++ rest
      → ChainTo any_scan most m now bits answer new after → FewBefore most m now bytes n
  before_answer bits rest n answer count cut chain =
      let c = run_cut bytes bits rest n cut (some_taken any_scan most m new now after bits answer chain) count in
      let xs = bits_of_bytes (take c.early bytes) in
      let split = bits_before bits xs c.front chain.0 chain.1 chain.4 c.cut c.some in
      let C : List Bool → Type 0 = λ z. Chain any_scan m now z chain.2 chain.3 in
      let two = chain_cut any_scan m chain.2 now chain.3 xs split.0 (subst C split.1 chain.5) in
      record {
        early = c.early;
        count = c.count;
        within = c.within;
        mid = two.mid;
        between = two.between;
        chain = two.first;
        more = split.0;
        far = chain.2;
        later = chain.3;
        on = two.second;
        few = chain.6;
      }

  few_before : (rest : List Bool) (n : ℕ) (answer : Taken) → 1 ≤ length bytes → n ≡ length bytes - length rest / 8
      → TakesBits any_scan most m now (bits_of_bytes bytes) answer new after rest → FewBefore most m now bytes n
  few_before rest n taken.More some count (bits, cut, (chain, few, none)) =
      before_all bits rest n (omega (arith, some, ap length cut, length-append bits rest, ap length none, bytes_long bytes)) count cut chain few
  few_before rest n taken.Units some count (bits, cut, (chain, many, more)) = before_answer bits rest n (Ok step.More) count cut chain
  few_before rest n taken.IntervalDone some count (bits, cut, chain) = before_answer bits rest n (Ok step.IntervalDone) count cut chain
  few_before rest n (taken.Fault f) some count (bits, cut, chain) = before_answer bits rest n (Err f) count cut chain

pub last_in_row : (w : RowWork) (m after : ScanReader) (row : Picture) (bytes : List ℕ) (rest : List Bool) (n : ℕ) (answer : Taken) → 1 ≤ length bytes
    → n ≡ length bytes - length rest / 8 → TakesRowBits w.left w.tops m w.coefs (bits_of_bytes bytes) answer after row rest → LastRowRun w m bytes n
last_in_row w m after row bytes rest n answer some count t = λ whole of o.
    (let k = t whole of o in few_before w.left m after whole k.0 bytes rest n answer some count k.2)

-- with more bits no more units are left
fewer : (i : Interval) (m mid : ScanReader) (now between : Picture) (a bits : List Bool) → IsSound i.scan.coding → scan_kind i.scan ≡ whole_blocks → any_scan.stands m i a now
    → Chain any_scan m now bits mid between → any_scan.left mid ≤ any_scan.left m
fewer i m mid now between a bits sound kind stands chain =
    let there = chain_stands any_scan m mid now between i a bits chain stands in
    let x = seq_of m i a now stands kind in
    let y = seq_of mid i (a ++ bits) between there kind in
    let low = fewer_left x.0 y.0 i a bits now between sound (machine_stands m x.0 i a now x.1 stands) (machine_stands mid y.0 i (a ++ bits) between y.1 there) in
    let old : any_scan.left m ≡ (x.0).left = ap (λ (r : ScanReader). any_scan.left r) x.1 in
    let new : any_scan.left mid ≡ (y.0).left = ap (λ (r : ScanReader). any_scan.left r) y.1 in
    omega (arith, low, old, new)

-- PLAIN BYTES inside the data of the scan
pub run_last : (limits : Limits) (items : List Item) (contents bytes : List ℕ) (old new : InScan) (w after : RowWork) (whole : Picture) (run : List ℕ) (n : ℕ) (given : Result Bool Fault)
    → IsRowOf w.tops whole w.coefs → IsRowInScan limits items contents old w → InData limits items contents bytes old whole → PassesRun old (window.Row w) run n given new (window.Row after)
    → (early : ℕ) × (n ≡ early + 1) × CompletesBefore limits (bytes ++ take early run) (segments_of items) contents w
run_last limits items contents bytes old new w after whole run n given row at d (gate, plain, t) =
    let due = t.due in
    let k = t.took.1 whole row (open_scan limits items contents bytes old whole d due) in
    let low = k.within in
    let few = k.few in
    let front = bytes ++ take k.early run in
    let mid = before_last old whole gate due k.mid k.between run k.early (omega (arith, low)) plain k.chain limits items contents bytes d in
    let all = scan_of_all limits items contents w (scan_left old) at.0 at.1 in
    let i = of_work limits d.place old whole due d.work in
    let sound = sound_of limits d.place i.interval i.is in
    let kind : scan_kind (i.interval).scan ≡ whole_blocks = ap scan_kind ((i.is).scan ∙ scan_of_place limits items contents d.place (d.of).0 (d.of).1) ∙ kind_at limits items contents (at.0).sequential in
    let there = chain_stands any_scan old.machine k.mid whole k.between i.interval i.taken (bits_of_bytes (take k.early run)) k.chain i.stands in
    let fewer_mid = fewer i.interval old.machine k.mid whole k.between i.taken (bits_of_bytes (take k.early run)) sound kind i.stands k.chain in
    let fewer_far = fewer i.interval k.mid k.far k.between k.later (i.taken ++ bits_of_bytes (take k.early run)) k.more sound kind there k.on in
    let left : scan_left old ≡ old.due + any_scan.left old.machine = ap (λ b. old.due + cond b 0 (any_scan.left old.machine)) due in
    let stops : FaultStops limits items contents front (any_scan.left old.machine) w.left old.due = record {
      whole = k.between;
      units = any_scan.left k.mid;
      few = omega (arith, few, fewer_far);
      low = fewer_mid;
      stops = data_stops limits items contents front (work_after old k.mid taken.More) k.between mid at.0 all;
    } in (
      k.early,
      k.count,
      fault_completes limits items contents front w (any_scan.left old.machine) old.due stops (subst (λ s. IsRowAt (frame_behind limits items) (components_of limits items contents) w s) left at.1),
    )
