-- The colours of a picture are among those that its components may have.
use Rattle.std.proofs.Common.{◌≡◌, [], ◌∷◌, ℕ, zero, suc, ◌≤◌, ◌<◌, Bool, true, false, if◌then◌else◌, List, length, map, Option, subst, sym, refl, ap, ◌∙◌, arith, slice_index_or, not, ◌&&◌, Some, None, Ok, ◌+◌, ◌*◌, ⊎_elim, inl, pos, ◌||◌, unwrap_or, find, is_none, reverse, append-nil, ◌⊎◌, ◌++◌, take, drop, inr, Err, is_some, append_assoc, length-append, length-take-le, take_all, take-append-drop}
use Rattle.std.proofs.lemmas.List.{length-map, length-replicate, reverse-reverse, take-append-le}
use Rattle.jpg_spec.specs.Lists.{below, are_equal, any_of}
use Rattle.jpg_spec.proofs.Basics.Common.{length_below, clash, some_once, some_of}
use Rattle.jpg_spec.specs.Colours.{is_some_zero, is_some_number, colours_of}
use Rattle.jpg_spec.specs.FrameHeader.{IsFrame, identifiers}
use Rattle.jpg_spec.specs.Jfif.{jfif_of, adobe_transform, is_jfif, parsed_jfif}
use Rattle.jpg_spec.specs.Meaning.{colour_of, Meaning, PictureComponent}
use Rattle.jpg_spec.specs.declared.frame.Colour.TheVariants.{YCbCr, Rgb, Cmyk, Ycck}
use Rattle.jpg_file.specs.Read.PictureKept.{IsQuantTable, component_view, IsStripHead, may_have, IsHeadOfPicture, bare_picture}
use Rattle.jpg_file.specs.Read.PictureRead.{picture_meaning}
use Rattle.jpg_file.specs.declared.read.strip_head.StripHead.{StripHead}
use Rattle.jpg_file.specs.declared.read.picture.Picture.{Picture as Shown}
use Rattle.jpg_spec.specs.Geometry.{Frame, is_progressive, padded_blocks, units, mcus_down, component_at}
use Rattle.jpg_spec.specs.Segments.{ScanHead, head_components, QuantTable}
use Rattle.jpg_spec.specs.ScanContents.{IsHead}
use Rattle.jpg_spec.specs.History.{has_begun, is_repeated, quant_of}
use Rattle.jpg_spec.specs.InForce.{frame_of, heads_of, no_frame, head_in, no_head, parsed_or, colours_after}
use Rattle.jpg_spec.specs.Items.{segments_of, Item, contents_rule}
use Rattle.jpg_spec.specs.Markers.{code_fault, Segment, has_scan, kept_after, kept_rule}
use Rattle.jpg_spec.specs.declared.frame.Limits.{Limits}
use Rattle.jpg_spec.specs.declared.frame.ScanPart.{ScanPart}
use Rattle.jpg_spec.proofs.Headers.AcceptedHeads.{accepted}
use Rattle.jpg_spec.proofs.Bits.FirstPasses.{head_at}
use Rattle.jpg_spec.proofs.Headers.FrameFound.{framed}
use Rattle.jpg_spec.proofs.McuRows.RowCounts.{head_below, head_names}
use Rattle.jpg_scans.specs.declared.progress.Progress.{Progress}
use Rattle.jpg_file.specs.Read.SegmentState.{HasBegunAll, RepresentsHeads, HasBegun, segments_view, Holds, SegmentView, JudgesHead, is_wanted}
use Rattle.jpg_file.specs.Read.File.{HasCompleteHeader, NotesHead, head_or, AfterFileByte, RepresentsFile, AfterHead, HeadWhole, waiting_bytes, with_picture, TakesHead, limits_of}
use Rattle.jpg_file.specs.declared.read.file.FileState.{FileState}
use Rattle.jpg_file.proofs.Files.FileSteps.{frame_held, FrameFor, unbroken, head_is, head_left, front_of}
use Rattle.jpg_spec.proofs.McuRows.RowsLater.{any_named, blank}
use Rattle.std.proofs.lemmas.Bool.{cases_lt}
use Rattle.jpg_spec.specs.Faults.{Parsed}
use Rattle.jpg_spec.specs.FileMeaning.{scan_after, meaning_of, picture_component}
use Rattle.jpg_spec.specs.Scan.{Blocks}
use Rattle.jpg_coefs.specs.Picture.{Picture}
use Rattle.jpg_coefs.proofs.Maps.{blank_is}
use Rattle.jpg_markers.specs.Reading.{IsAfterScan, RepresentsSegments, reading_of}
use Rattle.jpg_markers.specs.declared.segments.SegmentReader.{SegmentReader}
use Rattle.jpg_seq.specs.Reader.{IsRowOf}
use Rattle.jpg_file.specs.Read.ScanStart.{HasSizes}
use Rattle.jpg_file.specs.Read.Items.{BehindHead, AfterSegment}
use Rattle.jpg_file.specs.Read.FirstHeader.{HasHead, first_header_of, colours_by, HasNoHead, IsFirstHeader, IsFirstHeaderOf}
use Rattle.jpg_file.specs.Read.InData.{InData, scan_left, InRowData, IsRowIn, zero_picture, unfinished}
use Rattle.jpg_file.specs.Read.Strips.{GoesByRow, IsHeadOfAll, components_of, contents_held, frame_behind, rows_of_all, BeginsAll, HoldsScan, RowsKnown, TellsScan, TellsStrip, rows_of_scan, FindsNone, HasNoRows, NoRowsIn, NoneAfter, AfterScanBegins, FindsHead}
use Rattle.jpg_file.specs.declared.read.scan_history.ScanHistory.{ScanHistory}
use Rattle.jpg_file.specs.declared.read.items.Items.{Items}
use Rattle.jpg_file.specs.declared.read.rows.RowWork.{RowWork}
use Rattle.jpg_file.specs.declared.read.scan.InScan.{InScan}
use Rattle.jpg_file.proofs.Headers.InForce.{noted, heads_first, adobe_same, filter_reverse, quant_sound, all_once}
use Rattle.jpg_spec.proofs.Basics.Each.{Each}
use Rattle.jpg_base.specs.Cursor.{scan_mcus_down}
use Rattle.jpg_file.specs.declared.read.first_header.Head.{Head}
use Rattle.jpg_spec.specs.QuantContents.{quant_in}
use Rattle.jpg_spec.specs.declared.frame.Colour.{Colour}
use Rattle.jpg_spec.specs.declared.jfif.Jfif.{Jfif}
use Rattle.jpg_spec.proofs.Headers.ColoursKept.{picture_colours}
use Rattle.jpg_spec.proofs.McuRows.RowsWhole.{map_below}
use Rattle.jpg_spec.specs.FirstFault.{Reveals}
use Rattle.jpg_spec.specs.Header.{IsHeader}
use Rattle.jpg_spec.specs.RowsParsed.{BeginsScanOfAll, IsScanOfAll}
use Rattle.jpg_spec.specs.declared.fault.FaultAt.{FaultAt}
use Rattle.jpg_spec.specs.declared.fault.Fault.{Fault}
use Rattle.jpg_spec.proofs.Files.FileLaws.{shown_not_standing}
use Rattle.jpg_spec.proofs.Headers.FirstScan.{header_stands}
use Rattle.jpg_spec.proofs.Files.ItemSteps.{contents_shown}
use Rattle.jpg_spec.proofs.Headers.OneHeader.{whole_once}
use Rattle.jpg_base.specs.declared.stop.Stop.{Stop}
use Rattle.jpg_base.specs.declared.stop.Stop.TheVariants as stop
use Rattle.jpg_file.specs.declared.read.step.Step.{Step}
use Rattle.jpg_file.specs.declared.read.step.Step.TheVariants as step
use Rattle.jpg_file.specs.declared.read.window.Window.{Window}

four_by : (zero_told told : Bool) → may_have 4 (if zero_told then Cmyk else if told then Ycck else Cmyk) ≡ true
four_by true told = refl
four_by false true = refl
four_by false false = refl

three_by : (seen zero_told told letters : Bool) → may_have 3 (if seen then YCbCr else if zero_told then Rgb else if told then YCbCr else if letters then Rgb else YCbCr) ≡ true
three_by true z t l = refl
three_by false true t l = refl
three_by false false true l = refl
three_by false false false true = refl
three_by false false false false = refl

pub colours_fit : (n : ℕ) (ids : List ℕ) (seen : Bool) (adobe : Option ℕ) → 1 ≤ n → n ≤ 4 → may_have n (colours_of n ids seen adobe) ≡ true
colours_fit zero ids seen adobe low high = absurd (omega (arith, low))
colours_fit (suc zero) ids seen adobe low high = refl
colours_fit (suc (suc zero)) ids seen adobe low high = refl
colours_fit (suc (suc (suc zero))) ids seen adobe low high = three_by seen (is_some_zero adobe) (is_some_number adobe) (are_equal ids (82 ∷ 71 ∷ 66 ∷ []))
colours_fit (suc (suc (suc (suc zero)))) ids seen adobe low high = four_by (is_some_zero adobe) (is_some_number adobe)
colours_fit (suc (suc (suc (suc (suc n))))) ids seen adobe low high = absurd (omega (arith, high))

pub colours_of_picture : (p : Shown) → may_have (length p.frame.components) p.colour ≡ true
colours_of_picture p =
    let is = p.keeps in
    let n = length p.frame.components in
    let M = picture_meaning p in
    let count : length M.components ≡ n = length-map (below n) (component_view p.frame p.quants.items) ∙ length_below n in
    let fits : may_have (length M.components) (colour_of M) ≡ true =
    colours_fit (length M.components) (map (λ c. c.id) M.components) (jfif_of M.kept).seen (adobe_transform M.kept) (omega (arith, count, is.frame.count_low)) (omega (arith, count, is.frame.count_high))
    in
    subst (λ c. may_have n c ≡ true) (sym is.colour) (subst (λ k. may_have k (colour_of M) ≡ true) count fits)

pub head_fits : (p : Shown) (h : StripHead) → h.frame ≡ p.frame → h.colour ≡ p.colour → h.quants.items ≡ p.quants.items → IsStripHead h
head_fits p h f c q =
    let is = p.keeps in
    record {
      frame = subst IsFrame (sym f) is.frame;
      tables = ap (λ xs. length xs) q ∙ is.tables ∙ sym (ap (λ g. length g.components) f);
      quants = λ (i : ℕ) (less : i < length h.frame.components).
          subst (λ xs. IsQuantTable (slice_index_or xs i [])) (sym q) (is.quants i (subst (λ g. i < length g.components) f less));
      colour = subst (λ g. may_have (length g.components) h.colour ≡ true) (sym f) (subst (λ k. may_have (length p.frame.components) k ≡ true) (sym c) (colours_of_picture p));
    }

-- The scan header at which reading MCU row by MCU row begins.

-- After a scan of all components of a sequential frame each scan header has a fault.

part_count : (head : ScanHead) → length (head_components head) ≡ length head.parts
part_count head = length-map head.parts (λ (p : ScanPart). p.component)

-- AFTER A SCAN of all components
pub all_begun : (o : Option Progress) (f : Frame) (head : ScanHead) (heads : List ScanHead) → RepresentsHeads o f (head ∷ heads) → IsHead f head → length (head_components head) ≡ length f.components → is_progressive f.process ≡ false → HasBegunAll o
all_begun None f head heads s k all sequential = absurd cc
all_begun (Some p) f head heads s k all sequential = λ g others t. (
  sym t.process ∙ s.process ∙ sequential,
  λ i low.
      (let less : i < length f.components = subst (λ n. i < n) (sym t.count ∙ s.count) low in
      let few : i < 4 = omega (arith, less, all, k.few, part_count head) in
      sym (t.begun i few) ∙ s.begun i few ∙ ap (λ b. b || has_begun heads i) (head_names f head i k all less)),
)

-- no header is accepted
pub none_accepted : (limits : Limits) (bytes : List ℕ) (w : FileState) (f : Frame) (contents : List ℕ) (head : ScanHead) → HasCompleteHeader limits bytes w → HasBegunAll w.begun.progress → w.items.held.frame ≡ Some f
    → JudgesHead contents f (segments_view w.items.held) w.begun (Ok head) → ⊥
none_accepted limits bytes w f contents head h begun is judges =
    let s = h.at in
    let before = segments_of h.items in
    let g = frame_of limits before in
    let framed : g ≡ f = ap (λ (o : Option Frame). unwrap_or o no_frame) (sym (s.holds).frame ∙ is) in
    let at = head_at limits before contents (judges limits before framed s.holds (h.beside).begun).0 in
    let k : IsHead g at.head = accepted g contents at.head at.told in
    let heads = heads_of g before in
    let all = begun g heads ((h.beside).begun).scans in
    let some : 1 ≤ length (head_components at.head) = omega (arith, k.some, part_count at.head) in
    let again : is_repeated g heads at.head ≡ true =
    ap (λ b. not b && any_of (has_begun heads) (head_components at.head)) all.0 ∙ any_named (has_begun heads) (length g.components) (head_components at.head) (head_below g at.head k) some all.1 in
    clash (is_repeated g heads at.head) again (at.is_admitted).repeated

-- and there is a frame
pub frame_there : (limits : Limits) (bytes : List ℕ) (w : FileState) → HasCompleteHeader limits bytes w → w.items.held.frame ≡ None → ⊥
frame_there limits bytes w h none =
    let s = h.at in
    let allowed = subst (λ n. code_fault (segments_of h.items) n ≡ None) h.code s.allowed in
    let held = frame_held limits h.items h.blocks w.items.held.frame (s.at).leads (s.holds).frame (framed (segments_of h.items) allowed) in
    let z : None ≡ Some held.frame = sym none ∙ held.has in
    cc

-- The first scan of a file that is read MCU row by MCU row begins.

-- THE HEADER
pub head_found : (limits : Limits) (bytes : List ℕ) (w : FileState) (f : Frame) (head : ScanHead) (contents : List ℕ) → (h : HasCompleteHeader limits bytes w) → w.items.held.frame ≡ Some f → contents ≡ contents_held w → is_progressive f.process ≡ false → length head.parts ≡ length f.components
    → JudgesHead contents f (segments_view w.items.held) w.begun (Ok head) → IsHeadOfAll limits h.items (contents_held w) f head
head_found limits bytes w f head contents h is same sequential all judges =
    let s = h.at in
    let before = segments_of h.items in
    let framed : frame_of limits before ≡ f = ap (λ (o : Option Frame). unwrap_or o no_frame) (sym (s.holds).frame ∙ is) in
    let j = judges limits before framed s.holds (h.beside).begun in
    record { framed = framed; told = ap (head_in f) (sym same) ∙ ap (λ (t : Parsed ScanHead). parsed_or no_head t) j.1; is_head = j.2; sequential = sequential; all = all }

pub components_all : (f : Frame) (head : ScanHead) → length head.parts ≡ length f.components → length (head_components head) ≡ length f.components
components_all f head all = length-map head.parts (λ (p : ScanPart). p.component) ∙ all

-- ZERO BLOCKS before it

pub zero_sizes : (f : Frame) → HasSizes (zero_picture f)
zero_sizes f i x y = ap (λ (m : Blocks). length (m i x y)) (blank_is (zero_picture f) (padded_blocks f) refl) ∙ length-replicate 64 (pos 0)

pub zero_whole : (limits : Limits) (bytes : List ℕ) (w : FileState) (f : Frame) → (h : HasCompleteHeader limits bytes w) → frame_behind limits h.items ≡ f → IsFrame f → has_scan (segments_of h.items) ≡ false → HeadWhole limits bytes h.items h.blocks (with_picture w (zero_picture f))
zero_whole limits bytes w f h is is_frame first =
    let before = segments_of h.items in
    let allowed = subst (λ n. code_fault before n ≡ None) h.code (h.at).allowed in
    let held = frame_held limits h.items h.blocks w.items.held.frame ((h.at).at).leads ((h.at).holds).frame (framed before allowed) in
    let one : held.frame ≡ f = sym held.is ∙ is in
    record {
      segment = h.at;
      code = h.code;
      frame = f;
      framed = held.has ∙ ap (λ (g : Frame). Some g) one;
      is_frame = is_frame;
      begun = (h.beside).begun;
      coefs = zero_picture f;
      has = refl;
      pictured = refl;
      as_map = blank limits h.items h.blocks ((h.at).at).leads first ∙ sym (blank_is (zero_picture f) (padded_blocks f) refl);
      count = (h.beside).count;
      same = (h.beside).same;
    }

pub first_of : (limits : Limits) (bytes : List ℕ) (w : FileState) → (h : HasCompleteHeader limits bytes w) → w.head ≡ None → has_scan (segments_of h.items) ≡ false
first_of limits bytes w h none = subst (λ o. HasHead limits bytes (segments_of h.items) o) none (h.beside).head

-- ROOM for a segment changes nothing
room_made : (limits : Limits) (items : List Item) (contents : List ℕ) (old : Items) (s : SegmentReader) → reading_of s ≡ reading_of old.segments → BehindHead limits items contents old → BehindHead limits items contents (record old { segments = s })
room_made limits items contents old s e h = record {
  sent = h.sent;
  stands = subst (λ r. RepresentsSegments h.sent ((0xda, contents) ∷ segments_of items) r) (sym e) h.stands;
  behind = subst (λ r. IsAfterScan r) (sym e) h.behind;
  bounded = ap (λ r. r.limits) e ∙ h.bounded;
  holds = h.holds;
}

pub head_room : (limits : Limits) (bytes : List ℕ) (items : List Item) (old : Items) (taken : FileState) (z : Picture) (s : SegmentReader) → reading_of s ≡ reading_of (taken.items).segments → AfterHead limits bytes items old (Ok tt) (with_picture taken z)
    → AfterHead limits bytes items old (Ok tt) (with_picture (record taken { items = record taken.items { segments = s } }) z)
head_room limits bytes items old taken z s e a =
    let k = a.0 in (
      record {
        coefs = k.coefs;
        has = k.has;
        scan = k.scan;
        inside = k.inside;
        at = k.at;
        head = room_made limits items (reading_of old.segments).contents taken.items s e k.head;
        count = k.count;
        behind = subst (λ r. r.taken + waiting_bytes (k.scan).gate ≤ taken.taken) (sym e) k.behind;
      },
      a.1,
    )

-- THE FIRST ROW

-- as the header after these items requires
row_as : (limits : Limits) (items : List Item) (contents : List ℕ) (f : Frame) (head : ScanHead) (rows : RowWork) (left : ℕ) → frame_behind limits items ≡ f → head_in f contents ≡ head → left ≡ length (scan_after limits (segments_of items) contents).places
    → IsRowIn f (head_components head) rows (length (units f (head_components head))) → IsRowIn (frame_behind limits items) (components_of limits items contents) rows left
row_as limits items contents f head rows left is told all k =
    let a = subst (λ (x : ScanHead). IsRowIn f (head_components x) rows (length (units f (head_components x)))) (sym told) k in
    let b = subst (λ (g : Frame). IsRowIn g (head_components (head_in g contents)) rows (length (units g (head_components (head_in g contents))))) (sym is) a in
    subst (λ n. IsRowIn (frame_behind limits items) (components_of limits items contents) rows n) (sym all) b

some_left : (rows : RowWork) (left : ℕ) → rows.left ≡ rows.units → left ≡ rows.left + rows.later * rows.units → 1 ≤ left → 1 ≤ rows.left
some_left rows left whole sum some = ⊎_elim
    (λ (h : 0 < rows.left). omega (arith, h))
    (λ (h : rows.left ≤ 0). (let z : rows.units ≡ 0 = omega (arith, h, whole) in absurd (omega (arith, some, sum, h, ap (λ u. rows.later * u) z, (let e : rows.later * 0 ≡ 0 = omega arith in e)))))
    (cases_lt 0 rows.left)

-- all components were in a scan
pub begun_here : (limits : Limits) (items : List Item) (contents : List ℕ) (b : ScanHistory) (f : Frame) (head : ScanHead) → IsHeadOfAll limits items contents f head → HasBegun limits b ((0xda, contents) ∷ segments_of items) → HasBegunAll b.progress
begun_here limits items contents b f head k h =
    let before = segments_of items in
    let g = frame_of limits before in
    let told : head_in g contents ≡ head = ap (λ (x : Frame). head_in x contents) k.framed ∙ k.told in
    let s : RepresentsHeads b.progress g (head_in g contents ∷ heads_of g before) = h.scans in
    all_begun b.progress f head (heads_of g before) (subst (λ (x : Frame). RepresentsHeads b.progress x (head ∷ heads_of g before)) k.framed (subst (λ (x : ScanHead). RepresentsHeads b.progress g (x ∷ heads_of g before)) told s)) k.is_head
    (components_all f head k.all) k.sequential

-- The first scan of a file begins, and has all its components: the file before its header is taken, after it, and
-- where that header is noted.
pub record FirstBegins (limits : Limits) (bytes : List ℕ) (old new : FileState) : Type 0 where
  pub taken : FileState
  pub frame : Frame
  pub head : ScanHead
  pub stands : HasCompleteHeader limits bytes old
  pub of_all : IsHeadOfAll limits stands.items (contents_held old) frame head
  pub first : has_scan (segments_of stands.items) ≡ false
  pub after : AfterHead limits bytes stands.items old.items (Ok tt) (with_picture taken (zero_picture frame))
  pub notes : NotesHead taken new

-- by a header that is taken with a picture of zeros, and room for a segment after it
abbrev pub first_begins : (w read new : FileState) (f : Frame) (head : ScanHead) (s : SegmentReader) → IsFrame f → FindsHead w (Some (f, head)) → w.head ≡ None
    → ((now : Picture) → HasSizes now → TakesHead (with_picture w now) (Ok tt) (with_picture read now)) → reading_of s ≡ reading_of read.items.segments
    → NotesHead (record read { items = record read.items { segments = s } }) new → (bytes : List ℕ) → HasCompleteHeader (limits_of w) bytes w → FirstBegins (limits_of w) bytes w new
first_begins w read new f head s is_frame finds first after same notes bytes h =
    let z = zero_picture f in
    let k = finds (limits_of w) bytes h in
    let before = first_of (limits_of w) bytes w h first in
    record {
      taken = record read { items = record read.items { segments = s } };
      frame = f;
      head = head;
      stands = h;
      of_all = k;
      first = before;
      after = head_room (limits_of w) bytes h.items w.items read z s same (after z (zero_sizes f) bytes h.items h.blocks (zero_whole (limits_of w) bytes w f h k.framed is_frame before));
      notes = notes;
    }

module _ (limits : Limits) (bytes : List ℕ) (old new : FileState) (b : FirstBegins limits bytes old new) where
  -- the segments before it, and its contents
  abbrev before : List Segment
  before = segments_of (b.stands).items

  abbrev contents : List ℕ
  contents = contents_held old

  abbrev z : Picture
  z = zero_picture b.frame

  holds : Holds limits (segments_view b.taken.items.held) ((0xda, contents) ∷ before)
  holds = (((b.after).0).head).holds

  -- the frame that is kept is its frame
  pub frame_kept : FrameFor limits before b.taken.items.held.frame
  frame_kept =
      let h = b.stands in
      let allowed = subst (λ n. code_fault before n ≡ None) h.code (h.at).allowed in
      frame_held limits h.items h.blocks b.taken.items.held.frame ((h.at).at).leads holds.frame (framed before allowed)

  pub rows_begun : (rows : RowWork) → b.taken.head ≡ old.head
      → ((scan : InScan) → b.taken.scan ≡ Some scan → scan_left scan ≡ length (scan_after limits before contents).places)
      → IsRowOf rows.tops z rows.coefs → IsRowIn b.frame (head_components b.head) rows (length (units b.frame (head_components b.head)))
      → rows.waiting ≡ [] → rows.left ≡ rows.units → (o : Window) (strip : Option StripHead) → GoesByRow limits bytes (record new { window = o; strip = strip }) rows
  rows_begun rows kept left row at empty whole o strip =
      let h = b.stands in
      let k = b.of_all in
      let taken = b.taken in
      let begun = (b.after).1 in
      let s = (b.after).0 in
      let had = subst (λ o. HasHead limits bytes before o) (sym kept) (h.beside).head in
      let now = noted limits bytes h.items h.blocks old.items contents (segments_view taken.items.held) frame_kept.frame taken.taken taken.head h.at h.code refl
      (unbroken limits h.items contents bytes (with_picture taken z) s) holds frame_kept.has s.count had in
      let coded : InData limits h.items contents bytes s.scan z = subst (λ (q : Picture). InData limits h.items contents bytes s.scan q) (all_once s.coefs z (sym s.has)) s.at in
      let in_scan = row_as limits h.items contents b.frame b.head rows (scan_left s.scan) k.framed k.told (left s.scan s.inside) at in
      let sum = (in_scan.at).sum in
      subst (λ (w : FileState). GoesByRow limits bytes (record w { window = o; strip = strip }) rows) (sym b.notes)
      (record {
        stands = record {
          whole = z;
          row = row;
          at = inl (record {
            items = h.items;
            contents = contents;
            scan = s.scan;
            inside = s.inside;
            coded = subst (λ (l : List Bool). InRowData limits h.items contents bytes l s.scan z) (sym empty) coded;
            held = record {
              head = s.head;
              count = s.count;
              behind = s.behind;
              begun = begun;
              within = (h.beside).within;
              first_head = now;
            };
            of = record { first = b.first; sequential = ap (λ (g : Frame). is_progressive g.process) k.framed ∙ k.sequential };
            all = begun_here limits h.items contents taken.begun b.frame b.head k begun;
            at = in_scan;
          });
        };
        none = empty;
        turned = λ scan e some. some_left rows (scan_left s.scan) whole sum (subst (λ (q : InScan). 1 ≤ scan_left q) (some_once scan s.scan (sym e ∙ s.inside)) some);
      })

-- The number of MCU rows of the first scan of a file, if it has all components.

-- AS MANY as any list of all components gives

many_down : (f : Frame) (ids : List ℕ) → 2 ≤ length ids → scan_mcus_down f ids ≡ mcus_down f
many_down f [] some = absurd (omega (arith, some))
many_down f (i ∷ []) some = absurd (omega (arith, some))
many_down f (i ∷ j ∷ ids) some = refl

rows_same : (f : Frame) (ids : List ℕ) → 1 ≤ length ids → length ids ≡ length f.components → Each (λ x. x < length f.components) ids → scan_mcus_down f ids ≡ rows_of_all f
rows_same f [] some all low = absurd (omega (arith, some))
rows_same f (i ∷ []) some all low =
    let z : i ≡ 0 = omega (arith, low.0, all) in
    ap (λ n. scan_mcus_down f (n ∷ [])) z ∙ ap (λ n. scan_mcus_down f (below n)) all
rows_same f (i ∷ j ∷ ids) some all low = sym (many_down f (below (length f.components)) (omega (arith, all, length_below (length f.components))))

pub head_rows : (f : Frame) (head : ScanHead) → IsHead f head → length head.parts ≡ length f.components → scan_mcus_down f (head_components head) ≡ rows_of_all f
head_rows f head is all =
    let some : 1 ≤ length (head_components head) = omega (arith, is.some, length-map head.parts (λ (p : ScanPart). p.component)) in
    rows_same f (head_components head) some (components_all f head all) (head_below f head is)

-- THE HEADER that is kept has the scan's frame

abbrev frame_or : Frame → Option Head → Frame
frame_or f None = f
frame_or f (Some h) = h.frame

told_frame : (t : SegmentView) (n : ℕ) (f : Frame) (kept : Head) → t.frame ≡ Some f → first_header_of t n ≡ Some kept → kept.frame ≡ f
told_frame t n f kept is e = ap (λ (o : Option Head). frame_or f o) (sym e) ∙ ap (λ (o : Option Frame). frame_or f (first_header_of (record t { frame = o }) n)) is

pub kept_frame : (limits : Limits) (bytes : List ℕ) (old new : FileState) (kept : Head) (b : FirstBegins limits bytes old new) → b.taken.head ≡ None
    → new.head ≡ Some kept → kept.frame ≡ b.frame
kept_frame limits bytes old new kept b none is =
    let taken = b.taken in
    let held = frame_kept limits bytes old new b in
    let has : taken.items.held.frame ≡ Some b.frame = held.has ∙ ap (λ (g : Frame). Some g) (sym held.is ∙ (b.of_all).framed) in
    let told = first_header_of (segments_view taken.items.held) taken.taken in
    told_frame (segments_view taken.items.held) taken.taken b.frame kept has (sym (ap (λ (w : FileState). w.head) b.notes ∙ ap (λ (o : Option Head). head_or o told) none) ∙ is)

-- The head of the picture whose MCU rows are read, as it is where the first scan begins.

-- WHAT IS KEPT there

held_jfif : (limits : Limits) (before : List Segment) (h : SegmentView) → Holds limits h before → h.jfif ≡ jfif_of (reverse (kept_after before))
held_jfif limits before h k = k.jfif ∙ ap (λ l. parsed_jfif (find is_jfif l)) (sym (reverse-reverse (kept_after before)))

held_colour : (limits : Limits) (before : List Segment) (h : SegmentView) → Holds limits h before → colours_by (frame_of limits before) h.jfif h.kept ≡ colours_after limits before
held_colour limits before h k =
    let kept : List Segment = reverse (kept_after before) in
    let f = frame_of limits before in
    let held : adobe_transform h.kept ≡ adobe_transform kept = ap adobe_transform (k.kept ∙ sym (filter_reverse (is_wanted h.keeping) (kept_after before))) ∙ adobe_same h.keeping kept in
    ap (λ (j : Jfif). colours_by f j h.kept) (held_jfif limits before h k) ∙ ap (λ (a : Option ℕ). colours_of (length f.components) (identifiers f.components) (jfif_of kept).seen a) held

-- THE HEAD
pub record IsHeld (w : FileState) (h : StripHead) : Type 0 where
  pub frame : w.items.held.frame ≡ Some h.frame
  pub is_frame : IsFrame h.frame
  pub colour : h.colour ≡ colours_by h.frame (segments_view w.items.held).jfif (segments_view w.items.held).kept
  pub count : length h.quants.items ≡ length h.frame.components
  pub tables : (i : ℕ) → i < length h.frame.components → slice_index_or h.quants.items i [] ≡ unwrap_or (quant_in w.begun.quants i) []
  pub jfif : h.jfif ≡ (segments_view w.items.held).jfif

module _ (limits : Limits) (before : List Segment) (w : FileState) (k : HoldsScan limits before w) where
  pub held_frame : (f : Frame) → w.items.held.frame ≡ Some f → frame_of limits before ≡ f
  held_frame f is = ap (λ (o : Option Frame). unwrap_or o no_frame) (sym (k.holds).frame ∙ is)

  -- each component has its table
  pub held_table : (f : Frame) (i : ℕ) → w.items.held.frame ≡ Some f → IsFrame f → i < length f.components → is_none (quant_in w.begun.quants i) ≡ false
  held_table f i is is_frame low =
      let g = frame_of limits before in
      let heads = heads_of g before in
      let same : g ≡ f = held_frame f is in
      let begun = (k.all g heads (k.begun).scans).1 i (subst (λ (x : Frame). i < length x.components) (sym same) low) in
      let few = is_frame.count_high in
      (k.begun).there i (omega (arith, low, few)) begun

  table_of : (h : StripHead) (i : ℕ) → IsHeld w h → i < length h.frame.components
      → slice_index_or h.quants.items i [] ≡ unwrap_or (quant_of h.frame before i) []
  table_of h i l low =
      let few = (l.is_frame).count_high in
      l.tables i low ∙ ap (λ (o : Option QuantTable). unwrap_or o []) ((k.begun).quants i (omega (arith, low, few)) ∙ ap (λ (g : Frame). quant_of g before i) (held_frame h.frame l.frame))

  table_sound : (h : StripHead) (i : ℕ) → IsHeld w h → i < length h.frame.components → IsQuantTable (slice_index_or h.quants.items i [])
  table_sound h i l low =
      let few = (l.is_frame).count_high in
      let x = some_of (quant_in w.begun.quants i) (held_table h.frame i l.frame l.is_frame low) in
      let sound = quant_sound (frame_of limits before) before i x.0 (sym ((k.begun).quants i (omega (arith, low, few))) ∙ x.1) in
      let is : slice_index_or h.quants.items i [] ≡ x.0 = l.tables i low ∙ ap (λ (o : Option QuantTable). unwrap_or o []) x.1 in
      subst IsQuantTable (sym is) (record { long = sound.long; some = sound.some })

colour_fits : (f : Frame) (c : Colour) (j : Jfif) (kept : List Segment) → IsFrame f → c ≡ colours_by f j kept → may_have (length f.components) c ≡ true
colour_fits f c j kept is e = ap (may_have (length f.components)) e ∙ colours_fit (length f.components) (identifiers f.components) j.seen (adobe_transform kept) is.count_low is.count_high

pub strip_tells : (w : FileState) (h : StripHead) → IsHeld w h → TellsScan w h
strip_tells w h l limits before k = (
  sym same,
  λ blocks. record {
    head = record {
      frame = l.is_frame;
      tables = l.count;
      quants = λ i low. table_sound limits before w k h i l low;
      colour = colour_fits h.frame h.colour (segments_view w.items.held).jfif (segments_view w.items.held).kept l.is_frame l.colour;
    };
    same = whole blocks;
    colour = l.colour ∙ ap (λ (g : Frame). colours_by g (segments_view w.items.held).jfif (segments_view w.items.held).kept) (sym same) ∙ held_colour limits before (segments_view w.items.held) k.holds ∙ sym (picture_colours limits before blocks);
    jfif = l.jfif ∙ held_jfif limits before (segments_view w.items.held) k.holds;
  },
)
  where
    same : frame_of limits before ≡ h.frame
    same = held_frame limits before w k h.frame l.frame

    whole : (blocks : Blocks) → (let M = meaning_of (frame_of limits before) before blocks in M ≡ record (bare_picture h.frame h.quants.items M.blocks) { kept = M.kept })
    whole blocks =
        subst (λ (g : Frame). (let M = meaning_of g before blocks in M ≡ record (bare_picture h.frame h.quants.items M.blocks) { kept = M.kept })) (sym same)
        (ap (λ (cs : List PictureComponent). let n : Meaning = record (meaning_of h.frame before blocks) { components = cs } in n) (sym (map_below (component_view h.frame h.quants.items) (picture_component h.frame before) (length h.frame.components)
        (λ i low. ap (λ (t : QuantTable). let c : PictureComponent = record { id = (component_at h.frame i).id; h = (component_at h.frame i).h; v = (component_at h.frame i).v; quants = t } in c) (table_of limits before w k h i l low)))))

-- WHERE THE SCAN BEGINS
pub begins_told : (limits : Limits) (bytes : List ℕ) (old new : FileState) (b : FirstBegins limits bytes old new)
    → BeginsAll limits bytes (segments_of (b.stands).items) (contents_held old) new
begins_told limits bytes old new b =
    let h = b.stands in
    let k = b.of_all in
    let contents = contents_held old in
    let before = segments_of h.items in
    let all : List Segment = (0xda, contents) ∷ before in
    let s = (b.after).0 in
    let begun = (b.after).1 in
    let rule = unbroken limits h.items contents bytes (with_picture b.taken (zero_picture b.frame)) s in
    let x = heads_first limits bytes h.items h.blocks old.items contents h.at h.code refl b.first rule in
    let held = frame_kept limits bytes old new b in
    let told : head_in (frame_of limits before) contents ≡ b.head = ap (λ (g : Frame). head_in g contents) k.framed ∙ k.told in
    record {
      begins = record {
        front = bytes;
        rest = [];
        cut = sym (append-nil bytes);
        header = x;
        unbroken = rule;
        of_all = record {
          first = b.first;
          sequential = ap (λ (g : Frame). is_progressive g.process) k.framed ∙ k.sequential;
          all = ap (λ (x : ScanHead). length (head_components x)) told ∙ components_all b.frame b.head k.all ∙ ap (λ (g : Frame). length g.components) (sym k.framed);
        };
      };
      holds = subst (λ (w : FileState). HoldsScan limits all w) (sym b.notes) (record { holds = (s.head).holds; begun = begun; all = begun_here limits h.items contents b.taken.begun b.frame b.head k begun; frame = held.frame; has = held.has });
    }

-- its MCU rows are counted, and the head of its picture is known
pub rows_known : (limits : Limits) (bytes : List ℕ) (before : List Segment) (contents : List ℕ) (new : FileState) (rows : RowWork) (strip : StripHead)
    → BeginsAll limits bytes before contents new → unfinished rows ≡ rows_of_scan limits before contents → TellsScan new strip
    → RowsKnown limits bytes 0 rows (Some strip)
rows_known limits bytes before contents new rows strip b count tells = record {
  before = before;
  contents = contents;
  begins = b.begins;
  told = tells limits ((0xda, contents) ∷ before) b.holds;
  count = (let e : 0 + unfinished rows ≡ unfinished rows = omega arith in e) ∙ count;
}

-- as many as its header says
pub head_counts : (limits : Limits) (items : List Item) (contents : List ℕ) (f : Frame) (head : ScanHead) → IsHeadOfAll limits items contents f head
    → scan_mcus_down f (head_components head) ≡ rows_of_scan limits (segments_of items) contents
head_counts limits items contents f head k =
    ap (λ (x : ScanHead). scan_mcus_down f (head_components x)) (sym k.told) ∙ ap (λ (g : Frame). scan_mcus_down g (head_components (head_in g contents))) (sym k.framed)

-- A COPY of the head
head_copied : (a b : StripHead) → a.frame ≡ b.frame → a.colour ≡ b.colour → a.quants.items ≡ b.quants.items → a.jfif ≡ b.jfif → a ≡ b
head_copied a b f c q j =
    ap (λ (x : Frame). let h : StripHead = record a { frame = x } in h) f ∙ ap (λ (x : Colour). let h : StripHead = record a { frame = b.frame; colour = x } in h) c
    ∙ ap (λ (x : List QuantTable). let h : StripHead = record b { quants = record { items = x }; jfif = a.jfif } in h) q ∙ ap (λ (x : Jfif). let h : StripHead = record b { jfif = x } in h) j

pub strip_copied : (a b : StripHead) → a.frame ≡ b.frame → a.colour ≡ b.colour → a.quants.items ≡ b.quants.items → a.jfif ≡ b.jfif → (o : Option StripHead) → o ≡ Some b → (f : Frame) (picture : Blocks → Meaning) → TellsStrip o f picture
    → (a.frame ≡ f) × ((blocks : Blocks) → IsHeadOfPicture a (picture blocks))
strip_copied a b f c q j o is g picture t = (let x : TellsStrip (Some a) g picture = subst (λ (h : StripHead). TellsStrip (Some h) g picture) (sym (head_copied a b f c q j)) (subst (λ (s : Option StripHead). TellsStrip s g picture) is t) in x)

-- No scan of all components begins in the bytes, if no MCU row is being read after them.

-- BYTES WITHOUT SUCH A SCAN: those without a complete header
pub no_rows : (limits : Limits) (bytes : List ℕ) → HasNoHead limits bytes → HasNoRows limits bytes
no_rows limits bytes none before contents b =
    none before contents (length b.front) (subst (λ l. IsHeader limits l before contents) (sym (front_of b.front b.rest bytes (length b.front) refl b.cut)) b.header)

-- a scan that begins in a prefix of the bytes
begun_less : (limits : Limits) (bytes more : List ℕ) (before : List Segment) (contents : List ℕ) → (b : BeginsScanOfAll limits (bytes ++ more) before contents) → length b.front ≤ length bytes → BeginsScanOfAll limits bytes before contents
begun_less limits bytes more before contents b few =
    let n = length b.front in
    let is : take n bytes ≡ b.front = sym (take-append-le n bytes more few) ∙ front_of b.front b.rest (bytes ++ more) n refl b.cut in
    record {
      front = b.front;
      rest = drop n bytes;
      cut = sym (take-append-drop n bytes) ∙ ap (λ l. l ++ drop n bytes) is;
      header = b.header;
      unbroken = b.unbroken;
      of_all = b.of_all;
    }

-- After the first scan header none begins.
none_more : (limits : Limits) (bytes more : List ℕ) (h : Head) → IsFirstHeader limits bytes h → HasNoRows limits bytes → HasNoRows limits (bytes ++ more)
none_more limits bytes more h k none before contents b =
    let cut : take h.at bytes ++ (drop h.at bytes ++ more) ≡ b.front ++ b.rest = sym (append_assoc (take h.at bytes) (drop h.at bytes) more) ∙ ap (λ l. l ++ more) (take-append-drop h.at bytes) ∙ b.cut in
    let one = whole_once limits (take h.at bytes) b.front (drop h.at bytes ++ more) b.rest k.before before k.contents contents k.header b.header cut in
    let within = k.within in
    let size = length-take-le h.at bytes within in
    let long = ap (λ l. length l) one.0 in
    none before contents (begun_less limits bytes more before contents b (omega (arith, within, size, long)))

seen_head : (limits : Limits) (bytes : List ℕ) (o : Option Head) → is_some o ≡ true → IsFirstHeaderOf limits bytes o → (h : Head) × IsFirstHeader limits bytes h
seen_head limits bytes None some k = absurd cc
seen_head limits bytes (Some h) some k = (h, k)

pub none_seen : (limits : Limits) (bytes more : List ℕ) (w : FileState) → RepresentsFile limits bytes w → is_some w.head ≡ true → HasNoRows limits bytes → HasNoRows limits (bytes ++ more)
none_seen limits bytes more w s some none = (let k = seen_head limits bytes w.head some (head_is limits bytes w s) in none_more limits bytes more k.0 k.1 none)

-- before it none did
pub none_before : (limits : Limits) (bytes : List ℕ) (w : FileState) → RepresentsFile limits bytes w → w.head ≡ None → HasNoRows limits bytes
none_before limits bytes w s none = no_rows limits bytes (let k = subst (λ (o : Option Head). IsFirstHeaderOf limits bytes o) none (head_is limits bytes w s) in k)

-- after bytes that change nothing of it
pub none_passed : (limits : Limits) (bytes more : List ℕ) (w mid : FileState) (o : Option Head) → w.head ≡ o → mid.head ≡ o → RepresentsFile limits bytes w → RepresentsFile limits (bytes ++ more) mid → HasNoRows limits bytes → HasNoRows limits (bytes ++ more)
none_passed limits bytes more w mid None was is k after none = none_before limits (bytes ++ more) mid after is
none_passed limits bytes more w mid (Some head) was is k after none = none_seen limits bytes more w k (ap is_some was) none

-- A byte that reveals a fault begins none.
none_at_fault : (limits : Limits) (front : List ℕ) (byte : ℕ) (fault : Fault) → Reveals limits fault (front ++ byte ∷ []) → HasNoRows limits front → HasNoRows limits (front ++ byte ∷ [])
none_at_fault limits front byte fault shown none before contents b = by (cases_lt (length front) (length b.front))
  where
    all : List ℕ
    all = front ++ byte ∷ []

    by : (length front < length b.front) ⊎ (length b.front ≤ length front) → ⊥
    by (inr few) = none before contents (begun_less limits front (byte ∷ []) before contents b few)
    by (inl many) =
        let one = length-append front (byte ∷ []) in
        let is : all ≡ b.front = sym (take_all (length b.front) all (omega (arith, many, one))) ∙ front_of b.front b.rest all (length b.front) refl b.cut in
        shown_not_standing limits fault all [] b.front shown (header_stands limits b.front before contents b.header b.unbroken) (append-nil all ∙ is)

-- THE FIRST SCAN HEADER

-- it is of another scan
pub none_other : (limits : Limits) (bytes : List ℕ) (w : FileState) (f : Frame) (head : ScanHead) (contents : List ℕ) → (h : HasCompleteHeader limits bytes w) → w.items.held.frame ≡ Some f → contents ≡ contents_held w
    → JudgesHead contents f (segments_view w.items.held) w.begun (Ok head) → (is_progressive f.process ≡ false → length head.parts ≡ length f.components → ⊥) → IsScanOfAll limits (segments_of h.items) (contents_held w) → ⊥
none_other limits bytes w f head contents h is same judges other all =
    let s = h.at in
    let before = segments_of h.items in
    let framed : frame_of limits before ≡ f = ap (λ (o : Option Frame). unwrap_or o no_frame) (sym (s.holds).frame ∙ is) in
    let j = judges limits before framed s.holds (h.beside).begun in
    let told : head_in f (contents_held w) ≡ head = ap (head_in f) (sym same) ∙ ap (λ (t : Parsed ScanHead). parsed_or no_head t) j.1 in
    let count : length (head_components (head_in f (contents_held w))) ≡ length f.components = subst (λ (g : Frame). length (head_components (head_in g (contents_held w))) ≡ length g.components) framed all.all in
    other (subst (λ (g : Frame). is_progressive g.process ≡ false) framed all.sequential)
    (sym (length-map head.parts (λ (p : ScanPart). p.component)) ∙ ap (λ (x : ScanHead). length (head_components x)) (sym told) ∙ count)

-- SO NONE BEGINS with its last byte
pub none_found : (limits : Limits) (front : List ℕ) (byte : ℕ) (w : FileState) → (h : HasCompleteHeader limits (front ++ byte ∷ []) w) → w.head ≡ None → FindsNone w None → HasNoRows limits front → HasNoRows limits (front ++ byte ∷ [])
none_found limits front byte w h first finds none = by (contents_rule limits before 0xda (contents_held w)) refl
  where
    all : List ℕ
    all = front ++ byte ∷ []

    before : List Segment
    before = segments_of h.items

    at : AfterSegment limits (front ++ byte ∷ []) h.items h.blocks w.items
    at = h.at

    by : (o : Option Fault) → contents_rule limits (segments_of h.items) 0xda (contents_held w) ≡ o → HasNoRows limits (front ++ byte ∷ [])
    by (Some fault) e =
        let broken = subst (λ n. contents_rule limits (segments_of h.items) n (contents_held w) ≡ Some fault) (sym h.code) e in
        none_at_fault limits front byte fault
        (contents_shown limits (kept_rule limits) at.sent all h.items (reading_of w.items.segments).code (contents_held w) fault at.tail (at.at).beside at.spelled at.allowed at.no_end broken) none
    by None e = λ others contents b.
        (let k = heads_first limits all h.items h.blocks w.items (contents_held w) at h.code refl (first_of limits all w h first) e in
        let one = whole_once limits all b.front [] b.rest (segments_of h.items) others (contents_held w) contents k b.header (append-nil all ∙ b.cut) in
        finds limits all h e (subst (λ (c : List ℕ). IsScanOfAll limits (segments_of h.items) c) (sym one.2) (subst (λ (l : List Segment). IsScanOfAll limits l contents) (sym one.1) b.of_all)))

-- THE RESULT OF BYTES

pub none_in : (limits : Limits) (bytes : List ℕ) (rows : Option RowWork) → HasNoRows limits bytes → NoRowsIn limits bytes rows
none_in limits bytes None none = none
none_in limits bytes (Some rows) none = tt

pub none_after : (limits : Limits) (bytes : List ℕ) (answer : Step) (rows : Option RowWork) → HasNoRows limits bytes → NoneAfter limits bytes answer rows
none_after limits bytes (step.Ended stop.NoMemory) rows none = tt
none_after limits bytes other rows none = none_in limits bytes rows none

-- a scan that doesn't begin
pub none_begun : (limits : Limits) (front : List ℕ) (byte : ℕ) (w : FileState) (e : Stop) (rows : Option RowWork) → AfterScanBegins limits (front ++ byte ∷ []) (Err e) w → HasNoRows limits front → NoneAfter limits (front ++ byte ∷ []) (step.Ended e) rows
none_begun limits front byte w (stop.Fault f) rows a none = none_in limits (front ++ byte ∷ []) rows (none_at_fault limits front byte f.fault a.1 none)
none_begun limits front byte w stop.NoMemory rows a none = tt

-- a fault
pub none_fault : (limits : Limits) (front : List ℕ) (byte : ℕ) (f : FaultAt) (rows : Option RowWork) → Reveals limits f.fault (front ++ byte ∷ []) → HasNoRows limits front → NoneAfter limits (front ++ byte ∷ []) (step.Ended (stop.Fault f)) rows
none_fault limits front byte f rows shown none = none_in limits (front ++ byte ∷ []) rows (none_at_fault limits front byte f.fault shown none)

-- only a byte before the first scan header may begin one
pub none_headed : (limits : Limits) (front : List ℕ) (byte : ℕ) (w : FileState) (answer : Step) (rows : Option RowWork) → RepresentsFile limits front w → HasNoRows limits front → (w.head ≡ None → NoneAfter limits (front ++ byte ∷ []) answer rows)
    → NoneAfter limits (front ++ byte ∷ []) answer rows
none_headed limits front byte w answer rows k none first = by w.head refl
  where
    by : (o : Option Head) → w.head ≡ o → NoneAfter limits (front ++ byte ∷ []) answer rows
    by None is = first is
    by (Some head) is = none_after limits (front ++ byte ∷ []) answer rows (none_seen limits front (byte ∷ []) w k (ap is_some is) none)

-- a byte of a file that is read in one go, after which the first scan header is the one that it was
pub none_plain : (asks : Type 0) (limits : Limits) (front : List ℕ) (byte : ℕ) (w new : FileState) (answer : Step) (rows : Option RowWork) → RepresentsFile limits front w → new.head ≡ w.head
    → AfterFileByte asks limits (front ++ byte ∷ []) answer new → HasNoRows limits front → NoneAfter limits (front ++ byte ∷ []) answer rows
none_plain asks limits front byte w new answer rows k same a none = none_headed limits front byte w answer rows k none (λ first. plain answer first a)
  where
    all : List ℕ
    all = front ++ byte ∷ []

    plain : (answer : Step) → w.head ≡ None → AfterFileByte asks limits (front ++ byte ∷ []) answer new → NoneAfter limits (front ++ byte ∷ []) answer rows
    plain step.More first a = none_in limits all rows (none_before limits all new a (same ∙ first))
    plain step.Row first a = absurd a
    plain step.Whole first a = none_in limits all rows (no_rows limits all (let h = subst (λ (o : Option Head). IsFirstHeaderOf limits all o) (same ∙ first) (head_left limits all new a) in h))
    plain (step.Ended (stop.Fault f)) first a = none_fault limits front byte f rows a.1 none
    plain (step.Ended stop.NoMemory) first a = tt
