-- The current MCU row of a scan of all components: its place, data that go on, bits that wait, and what is after it.
use Rattle.std.proofs.Common.{◌≡◌, ℕ, ◌+◌, ◌-◌, ◌*◌, ◌<◌, ◌≤◌, Bool, false, List, ◌∷◌, ◌++◌, length, drop, take, sym, ap, ◌∙◌, subst, arith, [], true, cond, refl, ⊎_elim, Some, inl, inr, ◌⊎◌, Ok, Err, append_assoc, length-append, Result, is_some, add-mul}
use Rattle.std.proofs.Math.Seq.{drop-append_seam}
use Rattle.jpg_spec.specs.Geometry.{Frame, mcu_row_frame, units, is_progressive}
use Rattle.jpg_spec.specs.Lists.{joined, any_of}
use Rattle.jpg_spec.specs.ScanReading.{ScanPlace, scan_at, with_byte}
use Rattle.jpg_spec.specs.declared.frame.Limits.{Limits}
use Rattle.jpg_spec.specs.declared.frame.Place.{Place}
use Rattle.jpg_spec.proofs.Files.BlocksOnce.{joined_chunks}
use Rattle.jpg_base.proofs.UnitCounts.{length_units}
use Rattle.jpg_base.specs.Cursor.{scan_mcus_down}
use Rattle.jpg_coefs.specs.Picture.{Picture, map_of}
use Rattle.jpg_coefs.specs.Machine.{Interval}
use Rattle.jpg_seq.specs.Reader.{RepresentsSeqScan, AreInRow, row_units, IsInRow, IsRowOf}
use Rattle.jpg_seq.specs.declared.reader.SeqReader.{SeqReader}
use Rattle.jpg_seq.proofs.Machines.{row_inside, row_next}
use Rattle.jpg_file.specs.Read.InData.{AtWork, InData, IsInterval, IsRowAt, scan_left, HalfData, InRowData, IsHalfRow, IsInsideRow, IsDataOf, AfterBytes, TakesRestInRow, CountsScan, IsRowIn, IsBlankAfter, KeepsRowIn, TurnsRow, completes_row, unfinished}
use Rattle.jpg_file.specs.Read.Machine.{any_scan, ac_band, dc_first, dc_later, scan_kind, whole_blocks, IsInsideMcuRow}
use Rattle.jpg_file.specs.declared.read.machine.ScanReader.{ScanReader}
use Rattle.jpg_file.specs.declared.read.machine.ScanReader.TheVariants.{Sequential, DcFirst, DcRefine, Ac}
use Rattle.jpg_file.specs.declared.read.rows.RowWork.{RowWork}
use Rattle.jpg_spec.proofs.Places.PictureInWork.{joined_join, any_join}
use Rattle.jpg_file.proofs.Scans.ScanBytes.{InInterval, left_in, of_work, of_half, read_at}
use Rattle.std.proofs.lemmas.Bool.{cases_lt}
use Rattle.jpg_spec.specs.InForce.{head_in, huffman_in_force}
use Rattle.jpg_spec.specs.Items.{Item, segments_of}
use Rattle.jpg_spec.specs.FileMeaning.{scan_after, Leads}
use Rattle.jpg_spec.specs.Scan.{Scan, Blocks}
use Rattle.jpg_spec.proofs.Basics.Common.{some_once, neither, clash}
use Rattle.jpg_file.specs.Read.Strips.{PassesRest, AfterRows, IsFirstScan, RowsInside, components_of, frame_behind, GoesByRow, RowsAfter, RepresentsRows}
use Rattle.jpg_file.specs.declared.read.file.FileState.{FileState}
use Rattle.jpg_file.specs.declared.read.scan.InScan.{InScan}
use Rattle.jpg_file.specs.declared.read.step.Step.TheVariants as step
use Rattle.jpg_file.proofs.Scans.Machines.{head_kind, kind_of_coding, scans_keep_units}
use Rattle.jpg_file.proofs.ByRow.RowTurns.{counts_in, counts_scan, blank_at}
use Rattle.jpg_spec.specs.Markers.{has_scan}
use Rattle.jpg_spec.specs.PictureInWork.{ScanSoFar, is_at}
use Rattle.jpg_spec.proofs.McuRows.RowsLater.{blank}
use Rattle.jpg_spec.specs.declared.fault.Fault.{Fault}
use Rattle.jpg_file.specs.Read.File.{IsStop, ScanHeld}
use Rattle.jpg_file.specs.declared.read.step.Step.{Step}
use Rattle.jpg_file.specs.declared.read.window.Window.TheVariants as window
use Rattle.jpg_file.proofs.Files.FileSteps.{held_as}
use Rattle.jpg_file.specs.Read.SegmentState.{HasBegunAll}

-- The place of the machine of a scan that is read row by row: the places that are left, by their number.

-- A tail of a list is determined by its length.
tail_is : (all front back : List Place) → all ≡ front ++ back → back ≡ drop (length all - length back) all
tail_is all front back e =
    let n : length all - length back ≡ length front = omega (arith, ap length e, length-append front back) in
    sym (ap (drop (length all - length back)) e ∙ ap (λ k. drop k (front ++ back)) n ∙ drop-append_seam front back)

-- the place of a sequential machine
seq_left : (m : SeqReader) (i : Interval) (bits : List Bool) (now : Picture) → RepresentsSeqScan m i bits now → (front : List Place) × (i.places ++ i.later ≡ front ++ m.cursor) × (length m.cursor ≡ m.left + length i.later)
seq_left m i bits now o = (
  o.done,
  ap (λ (l : List Place). l ++ i.later) o.all ∙ append_assoc o.done (o.next ∷ o.more) i.later ∙ ap (λ (l : List Place). o.done ++ l) (sym o.cursor),
  omega (arith, ap length o.cursor, o.left, length-append o.more i.later),
)

-- the places of the scan that are left are its last ones
pub cursor_in : (limits : Limits) (p : ScanPlace) (w : InScan) (m : SeqReader) (now : Picture) (rest : List Bool) → InInterval limits p w now rest
    → w.machine ≡ Sequential m → m.cursor ≡ drop (length (scan_at limits p).places - scan_left w) (scan_at limits p).places
cursor_in limits p w m now rest d is =
    let s = scan_at limits p in
    let i = d.interval in
    let front = joined (d.so_far).front in
    let stands = subst (λ (q : ScanReader). any_scan.stands q i d.taken now) is d.stands in
    let t = seq_left m i d.taken now stands.0 in
    let later = (d.is).later in
    let cut : s.places ≡ front ++ (p.places ++ joined p.later) = sym (joined_chunks s.interval s.places) ∙ ap joined (d.so_far).cut ∙ joined_join (d.so_far).front (p.places ∷ p.later) in
    let here : p.places ++ joined p.later ≡ t.0 ++ m.cursor =
    ap (λ (l : List Place). l ++ joined p.later) (sym (d.is).places) ∙ ap (λ (l : List Place). i.places ++ l) (sym later) ∙ t.1 in
    let all : s.places ≡ (front ++ t.0) ++ m.cursor = cut ∙ ap (λ (l : List Place). front ++ l) here ∙ sym (append_assoc front t.0 m.cursor) in
    let left : any_scan.left w.machine ≡ m.left = ap (λ (q : ScanReader). any_scan.left q) is in
    let size : length m.cursor ≡ scan_left w = omega (arith, t.2, left_in limits p w now rest d, left, ap length later) in
    tail_is s.places (front ++ t.0) m.cursor all ∙ ap (λ n. drop (length s.places - n) s.places) size

module _ (limits : Limits) (p : ScanPlace) (f : Frame) (ids : List ℕ) (places : (scan_at limits p).places ≡ units f ids)
    (row : Picture) (rows : RowWork) (framed : row.frame ≡ mcu_row_frame f) where
  -- So the next ones are those that are left of the MCU row.
  pub row_by : (machine : ScanReader) (m : SeqReader) (left : ℕ) → machine ≡ Sequential m
      → m.cursor ≡ drop (length (scan_at limits p).places - left) (scan_at limits p).places → IsRowAt f ids rows left
      → IsInsideMcuRow rows.tops row rows.left machine
  row_by machine m left is cursor at =
      let s = scan_at limits p in
      let R = row_units f ids in
      let few : rows.left ≤ R = omega (arith, at.few, at.size) in
      let low : at.row < scan_mcus_down f ids = omega (arith, at.count) in
      let behind : rows.later * rows.units ≡ rows.later * R = ap (λ n. rows.later * n) at.size in
      let sum : scan_mcus_down f ids * R ≡ at.row * R + R + rows.later * R =
      ap (λ n. n * R) (sym at.count) ∙ add-mul (at.row + 1) rows.later R ∙ ap (λ n. n + rows.later * R) (add-mul at.row 1 R) ∙ omega arith in
      let long : length s.places ≡ at.row * R + R + rows.later * R = ap length places ∙ length_units f ids ∙ sum in
      let first : length s.places - left ≡ at.row * R + (R - rows.left) = omega (arith, long, at.sum, behind, few) in
      let next : m.cursor ≡ drop (at.row * R + (R - rows.left)) (units f ids) =
      cursor ∙ ap (λ n. drop n s.places) first ∙ ap (λ (l : List Place). drop (at.row * R + (R - rows.left)) l) places in
      let inside = row_next (IsInRow (mcu_row_frame f) rows.tops) f ids m.cursor at.row rows.left next low few (row_inside f ids rows.tops at.row at.frame at.there at.all at.begins) in
      record { machine = m; is = is; inside = subst (λ (g : Frame). AreInRow g rows.tops (take rows.left m.cursor)) (sym framed) inside }

  pub row_is_next : (w : InScan) (m : SeqReader) (now : Picture) → w.machine ≡ Sequential m → w.whole ≡ false → AtWork limits p w now
      → IsRowAt f ids rows (scan_left w) → IsInsideMcuRow rows.tops row rows.left w.machine
  row_is_next w m now is whole k at = row_by w.machine m (scan_left w) is (cursor_in limits p w m now [] (of_work limits p w now whole k) is) at

-- The current MCU row, and the scan of a file that it is in.

-- THE MACHINE of a scan of complete blocks
pub seq_of : (m : ScanReader) (i : Interval) (bits : List Bool) (now : Picture) → any_scan.stands m i bits now → scan_kind i.scan ≡ whole_blocks → (n : SeqReader) × (m ≡ Sequential n)
seq_of (Sequential n) i bits now s e = (n, refl)
seq_of (DcFirst n) i bits now s e = (let z : dc_first ≡ whole_blocks = sym s.1 ∙ e in absurd cc)
seq_of (DcRefine n) i bits now s e = (let z : dc_later ≡ whole_blocks = sym s.1 ∙ e in absurd cc)
seq_of (Ac n) i bits now s e = (let z : ac_band ≡ whole_blocks = sym s.1 ∙ e in absurd cc)

pub kind_at : (limits : Limits) (items : List Item) (contents : List ℕ) → is_progressive (frame_behind limits items).process ≡ false → scan_kind (scan_after limits (segments_of items) contents) ≡ whole_blocks
kind_at limits items contents e =
    let f = frame_behind limits items in
    let head = head_in f contents in
    kind_of_coding f (huffman_in_force (segments_of items)) head (scan_after limits (segments_of items) contents) refl refl ∙ ap (λ b. head_kind b head) e

-- if units of such a scan are left
pub record RowDue (limits : Limits) (items : List Item) (contents : List ℕ) (w : InScan) (whole : Picture) : Type 0 where
  pub place : ScanPlace
  pub of : (place.items ≡ items) × (place.contents ≡ contents)
  pub machine : SeqReader
  pub is : w.machine ≡ Sequential machine
  pub cursor : machine.cursor ≡ drop (length (scan_at limits place).places - scan_left w) (scan_at limits place).places
  pub framed : whole.frame ≡ frame_behind limits items
  pub some : 1 ≤ scan_left w

pub scan_of_place : (limits : Limits) (items : List Item) (contents : List ℕ) (p : ScanPlace) → p.items ≡ items → p.contents ≡ contents → scan_at limits p ≡ scan_after limits (segments_of items) contents
scan_of_place limits items contents p a b = ap (λ (l : List Item). scan_after limits (segments_of l) p.contents) a ∙ ap (λ c. scan_after limits (segments_of items) c) b

module _ (limits : Limits) (items : List Item) (contents : List ℕ) (p : ScanPlace) (w : InScan) (whole : Picture) where
  pub interval_due : (rest : List Bool) → InInterval limits p w whole rest → (p.items ≡ items) × (p.contents ≡ contents) → IsFirstScan limits items
      → RowDue limits items contents w whole
  interval_due rest d of first =
      let u = scans_keep_units.unfinished w.machine d.interval d.taken whole d.stands in
      let kind = ap scan_kind ((d.is).scan ∙ scan_of_place limits items contents p of.0 of.1) ∙ kind_at limits items contents first.sequential in
      let m = seq_of w.machine d.interval d.taken whole d.stands kind in
      record {
        place = p;
        of = of;
        machine = m.0;
        is = m.1;
        cursor = cursor_in limits p w m.0 whole rest d m.1;
        framed = u.frame ∙ d.framed ∙ ap (λ (l : List Item). frame_behind limits l) of.0;
        some = omega (arith, left_in limits p w whole rest d, u.some);
      }

module _ (limits : Limits) (items : List Item) (contents bytes : List ℕ) where
  pub data_due : (s : InScan) (whole : Picture) → InData limits items contents bytes s whole → s.whole ≡ false → IsFirstScan limits items
      → RowDue limits items contents s whole
  data_due s whole d e first = interval_due limits items contents d.place s whole [] (of_work limits d.place s whole e d.work) d.of first

  pub half_due : (waiting : List Bool) (s : InScan) (whole : Picture) → HalfData limits items contents bytes waiting s whole → IsFirstScan limits items
      → RowDue limits items contents s whole
  half_due waiting s whole h first =
      interval_due limits items contents (with_byte h.place h.byte) s whole waiting (of_half limits items contents bytes waiting s whole h) h.of first

-- the next ones are in the row
pub due_inside : (limits : Limits) (items : List Item) (contents : List ℕ) (w : InScan) (whole : Picture) (rows : RowWork) → RowDue limits items contents w whole → IsRowIn (frame_behind limits items) (components_of limits items contents) rows (scan_left w)
    → IsRowOf rows.tops whole rows.coefs → IsInsideRow rows w.machine
due_inside limits items contents w whole rows d at row =
    let places = ap (λ (s : Scan). s.places) (scan_of_place limits items contents d.place (d.of).0 (d.of).1) in
    row_by limits d.place (frame_behind limits items) (components_of limits items contents) places rows.coefs rows (row.framed ∙ ap mcu_row_frame d.framed) w.machine d.machine (scan_left w) d.is d.cursor at.at

-- THE CONDITIONS of a call

no_bits : (bits : List Bool) → (1 ≤ length bits → false ≡ true) → bits ≡ []
no_bits [] f = refl
no_bits (bit ∷ bits) f = (let z : false ≡ true = f (omega arith) in absurd cc)

module _ (limits : Limits) (items : List Item) (contents bytes : List ℕ) where
  pub row_data : (s : InScan) (whole : Picture) (rows : RowWork) → InData limits items contents bytes s whole → IsFirstScan limits items
      → IsRowIn (frame_behind limits items) (components_of limits items contents) rows (scan_left s) → IsRowOf rows.tops whole rows.coefs
      → (1 ≤ scan_left s → 1 ≤ rows.left) → IsDataOf s (window.Row rows)
  row_data s whole rows d first at row turned = record {
    whole = whole;
    shows = row;
    inside = (limits, items, contents, bytes, d);
    due = λ e. (let k = data_due limits items contents bytes s whole d e first in (due_inside limits items contents s whole rows k at row, turned k.some));
  }

  pub half_row : (s : InScan) (whole : Picture) (rows : RowWork) → HalfData limits items contents bytes rows.waiting s whole → IsFirstScan limits items
      → IsRowIn (frame_behind limits items) (components_of limits items contents) rows (scan_left s) → IsRowOf rows.tops whole rows.coefs
      → (1 ≤ scan_left s → 1 ≤ rows.left) → IsHalfRow s rows
  half_row s whole rows h first at row turned =
      let k = half_due limits items contents bytes rows.waiting s whole h first in
      record {
        whole = whole;
        row = row;
        half = (limits, items, contents, bytes, h);
        due = (due_inside limits items contents s whole rows k at row, turned k.some);
      }

  -- THE RESULT OF DATA without a fault

  pub data_goes : (new : FileState) (old : InScan) (s : InScan) (now : Picture) (rows after : RowWork) (row : Bool) → new.scan ≡ Some s
      → InRowData limits items contents bytes after.waiting s now → ScanHeld limits items contents bytes new s.gate → IsFirstScan limits items → HasBegunAll new.begun.progress
      → IsRowIn (frame_behind limits items) (components_of limits items contents) rows (scan_left old) → IsRowOf after.tops now after.coefs
      → CountsScan old rows row s after → (1 ≤ scan_left old → 1 ≤ rows.left) → AfterRows limits bytes (cond row step.Row step.More) new after
  data_goes new old s now rows after row inside coded held first all at of c turned = by row c
    where
      within : (row : Bool) → CountsScan old rows row s after → RowsInside limits bytes new after now
      within row c = record { items = items; contents = contents; scan = s; inside = inside; coded = coded; held = held; of = first; all = all; at = counts_in (frame_behind limits items) (components_of limits items contents) old s rows after row at c }

      by : (row : Bool) → CountsScan old rows row s after → AfterRows limits bytes (cond row step.Row step.More) new after
      by true c = record { whole = now; row = of; inside = within true c; left = (c.whole refl).1 }
      by false c = record {
        stands = record { whole = now; row = of; at = inl (within false c) };
        none = no_bits after.waiting c.wait;
        turned = λ scan e some. (let is : scan ≡ s = some_once _ _ (sym e ∙ inside) in
            let left : 1 ≤ scan_left s = subst (λ (q : InScan). 1 ≤ scan_left q) is some in
            ⊎_elim
            (λ (h : 0 < after.left). omega (arith, h))
            (λ (h : after.left ≤ 0). (let z = c.goes refl (omega (arith, h)) in let more = turned (omega (arith, left, c.scan)) in absurd (omega (arith, z, more))))
            (cases_lt 0 after.left));
      }

-- The picture that the data of a first scan are in: all of it after the current MCU row is zero.

-- The places of a scan that are left; all blocks except those at the places done are as before the scan.
pub record Remains (limits : Limits) (p : ScanPlace) (left : ℕ) (now : Picture) : Type 0 where
  pub done : List Place
  pub places : List Place
  pub cut : (scan_at limits p).places ≡ done ++ places
  pub size : length places ≡ left
  pub elsewhere : (i x y : ℕ) → any_of (is_at i x y) done ≡ false → map_of now i x y ≡ p.blocks i x y

-- units are left
stands_remain : (limits : Limits) (p : ScanPlace) (i : Interval) (m : ScanReader) (bits : List Bool) (now : Picture) → IsInterval limits p i → ScanSoFar (scan_at limits p) p.blocks (map_of i.before) p.done (p.places ∷ p.later) → any_scan.stands m i bits now
    → Remains limits p (any_scan.left m + length (joined p.later)) now
stands_remain limits p i m bits now is so_far stands =
    let u = scans_keep_units.unfinished m i bits now stands in
    let s = scan_at limits p in
    let front = joined so_far.front in
    let later = joined p.later in
    let here : p.places ≡ u.done ++ u.due = sym is.places ∙ u.all in
    record {
      done = front ++ u.done;
      places = u.due ++ later;
      cut = sym (joined_chunks s.interval s.places) ∙ ap joined so_far.cut ∙ joined_join so_far.front (p.places ∷ p.later)
          ∙ ap (λ (l : List Place). front ++ (l ++ later)) here ∙ ap (λ (l : List Place). front ++ l) (append_assoc u.done u.due later) ∙ sym (append_assoc front u.done (u.due ++ later));
      size = omega (arith, length-append u.due later, u.due_count);
      elsewhere = λ i x y none.
          (let n = neither (any_of (is_at i x y) front) (any_of (is_at i x y) u.done) (sym (any_join (is_at i x y) front u.done) ∙ none) in
          u.read.changes.elsewhere i x y n.1 ∙ so_far.changes.elsewhere i x y n.0);
    }

interval_remains : (limits : Limits) (p : ScanPlace) (w : InScan) (now : Picture) (rest : List Bool) → InInterval limits p w now rest → Remains limits p (scan_left w) now
interval_remains limits p w now rest d =
    let n : any_scan.left w.machine + length (joined p.later) ≡ scan_left w = omega (arith, left_in limits p w now rest d) in
    subst (λ l. Remains limits p l now) n (stands_remain limits p d.interval w.machine d.taken now d.is d.so_far d.stands)

work_remains : (limits : Limits) (p : ScanPlace) (w : InScan) (now : Picture) → AtWork limits p w now → Remains limits p (scan_left w) now
work_remains limits p w now k = by w.whole refl
  where
    by : (b : Bool) → w.whole ≡ b → Remains limits p (scan_left w) now
    by false e = interval_remains limits p w now [] (of_work limits p w now e k)
    by true e =
        let r = read_at limits p w now e k in
        let s = scan_at limits p in
        record {
          done = joined (r.so_far).front;
          places = joined p.later;
          cut = sym (joined_chunks s.interval s.places) ∙ ap joined (r.so_far).cut ∙ joined_join (r.so_far).front p.later;
          size = omega (arith, ap (λ b. w.due + cond b 0 (any_scan.left w.machine)) e, k.due);
          elsewhere = (r.so_far).changes.elsewhere;
        }

-- SO ALL AFTER THE ROW IS ZERO
remains_blank : (limits : Limits) (items : List Item) (contents : List ℕ) (p : ScanPlace) (left : ℕ) (w : RowWork) (whole : Picture)
    → Leads limits p.items p.blocks → (p.items ≡ items) × (p.contents ≡ contents) → has_scan (segments_of items) ≡ false → whole.frame ≡ frame_behind limits items
    → Remains limits p left whole → IsRowIn (frame_behind limits items) (components_of limits items contents) w left → IsBlankAfter w whole
remains_blank limits items contents p left w whole leads of first framed r k =
    let f = frame_behind limits items in
    let ids = components_of limits items contents in
    let none = blank limits p.items p.blocks leads (ap (λ (l : List Item). has_scan (segments_of l)) of.0 ∙ first) in
    let places : (scan_at limits p).places ≡ units f ids = ap (λ (t : Scan). t.places) (scan_of_place limits items contents p of.0 of.1) in
    blank_at f ids w whole r.done r.places (sym places ∙ r.cut) (subst (λ n. IsRowIn f ids w n) (sym r.size) k) framed (λ i x y e. r.elsewhere i x y e ∙ ap (λ (b : Blocks). b i x y) none)

-- with bits that wait, or without
module _ (limits : Limits) (items : List Item) (contents bytes : List ℕ) where
  -- the picture is the file's
  pub rest_framed : (waiting : List Bool) (s : InScan) (whole : Picture) → InRowData limits items contents bytes waiting s whole → IsFirstScan limits items
      → whole.frame ≡ frame_behind limits items
  rest_framed [] s whole d first = by s.whole refl
    where
      by : (b : Bool) → s.whole ≡ b → whole.frame ≡ frame_behind limits items
      by false e = (data_due limits items contents bytes s whole d e first).framed
      by true e = (read_at limits d.place s whole e d.work).framed ∙ ap (λ (l : List Item). frame_behind limits l) (d.of).0
  rest_framed (bit ∷ bits) s whole h first = (half_due limits items contents bytes (bit ∷ bits) s whole h first).framed

  pub rest_blank : (waiting : List Bool) (s : InScan) (w : RowWork) (whole : Picture) → InRowData limits items contents bytes waiting s whole
      → IsFirstScan limits items → IsRowIn (frame_behind limits items) (components_of limits items contents) w (scan_left s) → IsBlankAfter w whole
  rest_blank [] s w whole d first k =
      remains_blank limits items contents d.place (scan_left s) w whole (d.at).leads d.of first.first (rest_framed [] s whole d first) (work_remains limits d.place s whole d.work) k
  rest_blank (bit ∷ bits) s w whole h first k =
      let p = with_byte h.place h.byte in
      remains_blank limits items contents p (scan_left s) w whole (h.at).leads h.of first.first (rest_framed (bit ∷ bits) s whole h first)
      (interval_remains limits p s whole (bit ∷ bits) (of_half limits items contents bytes (bit ∷ bits) s whole h)) k

-- From one MCU row of a file to the next, and bits that waited.

-- A ROW WITH UNITS that are left, inside the scan
pub record RowReady (limits : Limits) (bytes : List ℕ) (w : FileState) (scan : InScan) (rows : RowWork) : Type 0 where
  pub items : List Item
  pub contents : List ℕ
  pub whole : Picture
  pub coded : InRowData limits items contents bytes rows.waiting scan whole
  pub held : ScanHeld limits items contents bytes w scan.gate
  pub of : IsFirstScan limits items
  pub all : HasBegunAll w.begun.progress
  pub at : IsRowIn (frame_behind limits items) (components_of limits items contents) rows (scan_left scan)
  pub row : IsRowOf rows.tops whole rows.coefs
  pub turned : 1 ≤ scan_left scan → 1 ≤ rows.left

-- the scan is being read
pub inside_row : (limits : Limits) (bytes : List ℕ) (w : FileState) (rows : RowWork) → (k : RepresentsRows limits bytes w rows) → is_some w.scan ≡ true
    → RowsInside limits bytes w rows k.whole
inside_row limits bytes w rows k some = by k.at
  where
    by : RowsInside limits bytes w rows k.whole ⊎ RowsAfter limits bytes w rows k.whole → RowsInside limits bytes w rows k.whole
    by (inl r) = r
    by (inr b) = absurd (clash (is_some w.scan) some (ap is_some ((b.between).beside).none))

module _ (limits : Limits) (bytes : List ℕ) (w : FileState) (scan : InScan) (is : w.scan ≡ Some scan) where
  -- the next row is begun
  pub next_ready : (old new : RowWork) → RepresentsRows limits bytes w old → KeepsRowIn old new → TurnsRow old new → new.waiting ≡ old.waiting
      → RowReady limits bytes w scan new
  next_ready old new k keeps turns same =
      let r = inside_row limits bytes w old k (ap is_some is) in
      let one : r.scan ≡ scan = some_once r.scan scan (sym r.inside ∙ is) in
      let at = keeps (frame_behind limits r.items) (components_of limits r.items r.contents) (scan_left r.scan) r.at in
      let row = turns k.whole k.row (rest_blank limits r.items r.contents bytes old.waiting r.scan old k.whole r.coded r.of r.at) in
      subst (λ (s : InScan). RowReady limits bytes w s new) one
      (record {
        items = r.items;
        contents = r.contents;
        whole = k.whole;
        coded = subst (λ z. InRowData limits r.items r.contents bytes z r.scan k.whole) (sym same) r.coded;
        held = r.held;
        of = r.of;
        all = r.all;
        at = at.0;
        row = row;
        turned = at.1;
      })

  -- and no further row is complete
  pub next_counts : (old new : RowWork) → RepresentsRows limits bytes w old → KeepsRowIn old new → unfinished new ≡ unfinished old
  next_counts old new k keeps =
      let r = inside_row limits bytes w old k (ap is_some is) in
      (keeps (frame_behind limits r.items) (components_of limits r.items r.contents) (scan_left r.scan) r.at).2

  -- the one that continues
  pub row_ready : (rows : RowWork) → GoesByRow limits bytes w rows → RowReady limits bytes w scan rows
  row_ready rows g =
      let k = g.stands in
      let r = inside_row limits bytes w rows k (ap is_some is) in
      let one : r.scan ≡ scan = some_once r.scan scan (sym r.inside ∙ is) in
      subst (λ (s : InScan). RowReady limits bytes w s rows) one
      (record { items = r.items; contents = r.contents; whole = k.whole; coded = r.coded; held = r.held; of = r.of; all = r.all; at = r.at; row = k.row; turned = g.turned r.scan r.inside })

pub nothing : (bits : List Bool) → length bits ≡ 0 → bits ≡ []
nothing [] e = refl
nothing (bit ∷ bits) e = absurd (omega (arith, e))

-- THE FILE with a current MCU row and a scan, and n bytes taken
abbrev pub file_with : FileState → RowWork → InScan → ℕ → FileState
file_with w rows s n = record w { window = window.Row rows; scan = Some s; taken = n }

pub half_of : (limits : Limits) (items : List Item) (contents bytes : List ℕ) (waiting_bytes : List Bool) (s : InScan) (whole : Picture) → 1 ≤ length waiting_bytes → InRowData limits items contents bytes waiting_bytes s whole → HalfData limits items contents bytes waiting_bytes s whole
half_of limits items contents bytes [] s whole some d = absurd (omega (arith, some))
half_of limits items contents bytes (bit ∷ bits) s whole some h = h

pub ready_goes : (limits : Limits) (bytes : List ℕ) (w : FileState) (scan : InScan) (rows : RowWork) → RowReady limits bytes w scan rows → rows.waiting ≡ []
    → GoesByRow limits bytes (file_with w rows scan w.taken) rows
ready_goes limits bytes w scan rows r none = record {
  stands = record {
    whole = r.whole;
    row = r.row;
    at = inl (record { items = r.items; contents = r.contents; scan = scan; inside = refl; coded = r.coded; held = held_as w (window.Row rows) (Some scan) refl r.held; of = r.of; all = r.all; at = r.at });
  };
  none = none;
  turned = λ s e some. r.turned (subst (λ (q : InScan). 1 ≤ scan_left q) (sym (some_once scan s e)) some);
}

-- THE BITS that waited

module _ (limits : Limits) (bytes : List ℕ) (w : FileState) (scan : InScan) (rows : RowWork) (r : RowReady limits bytes w scan rows)
    (some : 1 ≤ length rows.waiting) where
  -- the data, the last byte of which has bits that wait
  half : HalfData limits r.items r.contents bytes rows.waiting scan r.whole
  half = half_of limits r.items r.contents bytes rows.waiting scan r.whole some r.coded

  pub ready_half : IsHalfRow scan rows
  ready_half = half_row limits r.items r.contents bytes scan r.whole rows half r.of r.at r.row r.turned

  -- their result
  pub rest_counts : (new : InScan) (after : RowWork) (given : Result Bool Fault) → PassesRest scan rows given new after
      → CountsScan scan rows (completes_row rows.left after.left) new after
  rest_counts new after given t = counts_scan scan rows t.taken new after t.machine t.due ready_half.due.1 t.took.1 t.work

  pub rest_goes : {over : Bool} (new : InScan) (after : RowWork) (given : Result Bool Fault) (result : Step) → TakesRestInRow scan rows given new after
      → given ≡ Ok over → PassesRest scan rows given new after → new.gate ≡ scan.gate → result ≡ cond (completes_row rows.left after.left) step.Row step.More
      → AfterRows limits bytes result (file_with w after new w.taken) after
  rest_goes new after given result took is passes gate came =
      let t = took limits r.items r.contents bytes r.whole r.row half in
      let coded = subst (λ (a : Result Bool Fault). AfterBytes limits r.items r.contents bytes a after.waiting new t.0) is t.2 in
      subst (λ (a : Step). AfterRows limits bytes a (file_with w after new w.taken) after) (sym came)
      (data_goes limits r.items r.contents bytes (file_with w after new w.taken) scan new t.0 rows after (completes_row rows.left after.left) refl coded (held_as w (window.Row after) (Some new) gate r.held) r.of r.all r.at t.1 (rest_counts new after given passes) r.turned)

  pub rest_stops : (new : InScan) (after : RowWork) (given : Result Bool Fault) (fault : Fault) → TakesRestInRow scan rows given new after
      → given ≡ Err fault → IsStop limits bytes (record { fault = fault; at = w.taken })
  rest_stops new after given fault took is =
      let t = took limits r.items r.contents bytes r.whole r.row half in
      ((r.held).count, subst (λ (a : Result Bool Fault). AfterBytes limits r.items r.contents bytes a after.waiting new t.0) is t.2)
