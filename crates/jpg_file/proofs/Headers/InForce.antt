-- The markers that are kept, and the picture of a file by them.
use Rattle.std.proofs.Common.{◌≡◌, ℕ, Bool, true, false, ◌==◌, List, [], ◌∷◌, ◌++◌, length, map, refl, sym, ap, ◌∙◌, Option, zero, suc, ◌+◌, ◌<◌, ◌≤◌, cond, take, get_or, subst, arith, Some, None, ◌||◌, filter, find, reverse, nat_le, is_none, unwrap_or, slice_index, slice_index_or, append-nil, take_all, Ok, rules, drop, inl, inr, ◌⊎◌, replicate, option_map, length-append, take-append-drop}
use Rattle.std.proofs.lemmas.List.{length-map, map-append, reverse-append, reverse-reverse, take_more, take-append-le}
use Rattle.std.proofs.lemmas.List.Elements.{filter-append}
use Rattle.std.proofs.lemmas.Grind.{reverse_onto}
use Rattle.jpg_spec.specs.Colours.{colours_of}
use Rattle.jpg_spec.specs.Jfif.{adobe_transform, begins_adobe, begins_jfif, is_adobe, is_jfif, jfif_of, parsed_jfif}
use Rattle.jpg_spec.specs.FileMeaning.{meaning_of, picture_component, Leads}
use Rattle.jpg_spec.specs.InForce.{frame_of, heads_of, first_some, head_in, quant_in_force, frame_after, huffman_in_force, restart_in_force, no_frame}
use Rattle.jpg_spec.specs.Markers.{Segment, kept_after, has_scan, SpellsSegment, is_frame_code, has_frame, code_fault, BeginsSegment, PartOfSegment}
use Rattle.jpg_spec.specs.Meaning.{Meaning, colour_of, PictureComponent, real_blocks}
use Rattle.jpg_spec_write.specs.Headed.{copied}
use Rattle.jpg_spec.specs.declared.frame.Copying.{Copying}
use Rattle.jpg_spec.specs.declared.frame.Copying.TheVariants as copying
use Rattle.jpg_spec.specs.Scan.{Blocks}
use Rattle.jpg_spec.specs.declared.frame.Limits.{Limits}
use Rattle.jpg_spec.specs.declared.jfif.Jfif.{Jfif}
use Rattle.jpg_spec.proofs.Basics.Common.{both, clash, or_right, some_once, length_below, some_of, neither, not_same, same_of}
use Rattle.jpg_file.specs.Read.File.{keeping_of, head_or}
use Rattle.jpg_file.specs.Read.SegmentState.{begins_header, is_wanted, kept_for, Holds, segments_view, SegmentView, lacks_any, lacks_part, AddsScan, quant_named, HasBegun, RepresentsHeads, scan_headers}
use Rattle.jpg_file.specs.declared.read.file.FileState.{FileState}
use Rattle.jpg_spec.proofs.Segments.QuantsInForce.{IsQuants, in_force_quants}
use Rattle.jpg_spec.specs.Lists.{below, any_of, is_among}
use Rattle.jpg_spec.specs.Geometry.{Frame, bounds, component_at, no_component}
use Rattle.jpg_spec.specs.FrameHeader.{identifiers}
use Rattle.jpg_spec.specs.Segments.{QuantTable, ScanHead, head_components}
use Rattle.jpg_spec.specs.History.{has_begun, quant_of, names}
use Rattle.jpg_spec.specs.QuantContents.{quant_in, Slots, parsed_quants}
use Rattle.jpg_spec.specs.Ranges.{AreInRange}
use Rattle.jpg_spec.specs.declared.frame.Component.{Component}
use Rattle.jpg_spec.proofs.Bits.FirstPasses.{all_below}
use Rattle.jpg_coefs.specs.Picture.{Picture as Made, map_of}
use Rattle.jpg_file.specs.Read.Left.{Leaves}
use Rattle.jpg_file.specs.Read.PictureKept.{PictureParts, component_view, parts_meaning, IsQuantTable}
use Rattle.jpg_spec.proofs.McuRows.RowsWhole.{map_below}
use Rattle.jpg_spec.specs.HuffContents.{HuffmanSlots, parsed_huffmans}
use Rattle.jpg_spec.specs.Items.{contents_rule, Item, SpellsFront, segment, scan, segments_of}
use Rattle.jpg_spec.proofs.Segments.InForce.{huffmans_put, quants_put}
use Rattle.jpg_markers.specs.Seen.{IsOther}
use Rattle.jpg_spec.specs.declared.frame.ScanPart.{ScanPart}
use Rattle.jpg_spec.proofs.Headers.FrameFound.{framed}
use Rattle.jpg_spec.proofs.Headers.BeforeScans.{no_heads, no_quant}
use Rattle.jpg_spec.proofs.Places.Untouched.{frame_stays}
use Rattle.jpg_file.specs.declared.read.scan_history.ScanHistory.{ScanHistory}
use Rattle.jpg_scans.specs.declared.progress.Progress.{Progress}
use Rattle.jpg_file.specs.Read.Items.{AfterSegment, BetweenItems, AtPlace}
use Rattle.jpg_file.specs.declared.read.items.Items.{Items}
use Rattle.std.proofs.lemmas.Bool.{or_from}
use Rattle.jpg_spec.specs.Header.{UnfinishedHeader, IsHeader}
use Rattle.jpg_spec.proofs.Headers.FrameAfter.{leads_pass}
use Rattle.jpg_spec.proofs.Headers.HeaderFirst.{scan_passed}
use Rattle.jpg_spec.proofs.Headers.OneHeader.{whole_not_standing}
use Rattle.jpg_markers.specs.Reading.{Reading, reading_of}
use Rattle.jpg_file.specs.Read.FirstHeader.{HasHead, HasNoHead, IsFirstHeader, colours_by, first_header_of}
use Rattle.jpg_file.specs.declared.read.first_header.Head.{Head}
use Rattle.jpg_spec.proofs.Files.ItemSteps.{fill_begin, fill_part, fill_segment}
use Rattle.jpg_file.proofs.Files.ItemBytes.{part_after, segment_long}
use Rattle.jpg_spec.proofs.Headers.FileHeader.{no_scan_spelled}
use Rattle.jpg_file.specs.declared.read.window.Window.TheVariants as window

-- The JFIF and Adobe segments of a picture are the same without the markers that are left out.

-- A TEST that admits everything that another one does

pub find_in : (test wanted : Segment → Bool) → ((s : Segment) → test s ≡ true → wanted s ≡ true) → (kept : List Segment) → find test (filter wanted kept) ≡ find test kept
find_in test wanted lets [] = refl
find_in test wanted lets (s ∷ kept) = by (wanted s) (test s) refl refl (find_in test wanted lets kept)
  where
    by : (a b : Bool) → wanted s ≡ a → test s ≡ b → find test (filter wanted kept) ≡ find test kept → find test (filter wanted (s ∷ kept)) ≡ find test (s ∷ kept)
    by true true e h same = rw (e, h) refl
    by true false e h same = rw (e, h) same
    by false true e h same = absurd (clash (wanted s) (lets s h) e)
    by false false e h same = rw (e, h) same

filter_in : (test wanted : Segment → Bool) → ((s : Segment) → test s ≡ true → wanted s ≡ true) → (kept : List Segment) → filter test (filter wanted kept) ≡ filter test kept
filter_in test wanted lets [] = refl
filter_in test wanted lets (s ∷ kept) = by (wanted s) (test s) refl refl (filter_in test wanted lets kept)
  where
    by : (a b : Bool) → wanted s ≡ a → test s ≡ b → filter test (filter wanted kept) ≡ filter test kept → filter test (filter wanted (s ∷ kept)) ≡ filter test (s ∷ kept)
    by true true e h same = rw (e, h) (ap (λ l. s ∷ l) same)
    by true false e h same = rw (e, h) same
    by false true e h same = absurd (clash (wanted s) (lets s h) e)
    by false false e h same = rw (e, h) same

pub filter_reverse : (wanted : Segment → Bool) (kept : List Segment) → filter wanted (reverse kept) ≡ reverse (filter wanted kept)
filter_reverse wanted [] = refl
filter_reverse wanted (s ∷ kept) =
    ap (filter wanted) (reverse_onto kept s []) ∙ filter-append wanted (reverse kept) (s ∷ []) ∙ ap (λ l. l ++ filter wanted (s ∷ [])) (filter_reverse wanted kept) ∙ by (wanted s) refl
  where
    by : (b : Bool) → wanted s ≡ b → reverse (filter wanted kept) ++ filter wanted (s ∷ []) ≡ reverse (filter wanted (s ∷ kept))
    by true e = rw (e) (sym (reverse_onto (filter wanted kept) s []))
    by false e = rw (e) (append-nil (reverse (filter wanted kept)))

-- JFIF and Adobe segments are always kept

header_kept : (keeping : Copying) (s : Segment) → begins_header s ≡ true → is_wanted keeping s ≡ true
header_kept copying.None s e = e
header_kept copying.Comments s e = or_right (s.0 == 0xfe) (begins_header s) e
header_kept copying.All s e = refl

jfif_wanted : (keeping : Copying) (s : Segment) → is_jfif s ≡ true → is_wanted keeping s ≡ true
jfif_wanted keeping s e = header_kept keeping s (ap (λ b. b || begins_adobe s.0 s.1) (both (begins_jfif s.0 s.1) (nat_le 14 (length s.1)) e).0)

adobe_wanted : (keeping : Copying) (s : Segment) → is_adobe s ≡ true → is_wanted keeping s ≡ true
adobe_wanted keeping s e = header_kept keeping s (or_right (begins_jfif s.0 s.1) (begins_adobe s.0 s.1) (both (begins_adobe s.0 s.1) (nat_le 12 (length s.1)) e).0)

pub jfif_found : (keeping : Copying) (kept : List Segment) → find is_jfif (filter (is_wanted keeping) kept) ≡ find is_jfif kept
jfif_found keeping kept = find_in is_jfif (is_wanted keeping) (jfif_wanted keeping) kept

pub jfif_same : (keeping : Copying) (kept : List Segment) → jfif_of (filter (is_wanted keeping) kept) ≡ jfif_of kept
jfif_same keeping kept = ap (λ l. parsed_jfif (find is_jfif l)) (sym (filter_reverse (is_wanted keeping) kept)) ∙ ap parsed_jfif (jfif_found keeping (reverse kept))

pub adobe_same : (keeping : Copying) (kept : List Segment) → adobe_transform (filter (is_wanted keeping) kept) ≡ adobe_transform kept
adobe_same keeping kept =
    let e : find is_adobe (reverse (filter (is_wanted keeping) kept)) ≡ find is_adobe (reverse kept) =
    ap (find is_adobe) (sym (filter_reverse (is_wanted keeping) kept)) ∙ find_in is_adobe (is_wanted keeping) (adobe_wanted keeping) (reverse kept) in
    rw (e) refl

pub colour_same : (keeping : Copying) (M : Meaning) → colour_of (kept_for keeping M) ≡ colour_of M
colour_same keeping M =
    let ids = map (λ c. c.id) M.components in
    ap (λ (j : Jfif). colours_of (length M.components) ids j.seen (adobe_transform (filter (is_wanted keeping) M.kept))) (jfif_same keeping M.kept)
    ∙ ap (λ (a : Option ℕ). colours_of (length M.components) ids (jfif_of M.kept).seen a) (adobe_same keeping M.kept)

-- ALL OF THEM

all_kept : (kept : List Segment) → filter (is_wanted copying.All) kept ≡ kept
all_kept [] = refl
all_kept (s ∷ kept) = ap (λ l. s ∷ l) (all_kept kept)

pub kept_for_all : (M : Meaning) → kept_for copying.All M ≡ M
kept_for_all M = ap (λ (l : List Segment). let N : Meaning = record M { kept = l } in N) (all_kept M.kept)

-- those that are passed on
pub passed_same : (keeping : Copying) (kept : List Segment) → copied keeping (filter (is_wanted keeping) kept) ≡ copied keeping kept
passed_same copying.None kept = refl
passed_same copying.Comments kept = filter_in (λ s. s.0 == 0xfe) (is_wanted copying.Comments) (λ s e. ap (λ b. b || begins_header s) e) kept
passed_same copying.All kept = all_kept kept

-- WHAT A READER KEEPS of the markers of the picture
pub markers_kept : (limits : Limits) (segments : List Segment) (blocks : Blocks) (w : FileState) → Holds limits (segments_view w.items.held) segments
    → w.items.held.kept ≡ (kept_for (keeping_of w) (meaning_of (frame_of limits segments) segments blocks)).kept
markers_kept limits segments blocks w holds = holds.kept ∙ sym (filter_reverse (is_wanted (keeping_of w)) (kept_after segments))

-- The picture of a file, part by part.

-- ADOBE'S SEGMENTS, one by one

pub adobe_more : (kept : List Segment) (s : Segment) → adobe_transform (kept ++ s ∷ []) ≡ cond (is_adobe s) (Some (slice_index s.1 11)) (adobe_transform kept)
adobe_more kept s = by (is_adobe s) refl
  where
    by : (b : Bool) → is_adobe s ≡ b → adobe_transform (kept ++ s ∷ []) ≡ cond b (Some (slice_index s.1 11)) (adobe_transform kept)
    by true e = rw (reverse-append kept (s ∷ []), e) refl
    by false e = rw (reverse-append kept (s ∷ []), e) refl

-- THE COMPONENTS by their places

map_map : {A B C : Type 0} (f : A → B) (g : B → C) (xs : List A) → map g (map f xs) ≡ map (λ x. g (f x)) xs
map_map f g [] = refl
map_map f g (x ∷ xs) = ap (λ l. g (f x) ∷ l) (map_map f g xs)

map_at : (g : Component → ℕ) (xs : List Component) (n : ℕ) → n ≤ length xs → map (λ i. g (get_or xs i no_component)) (below n) ≡ map g (take n xs)
map_at g xs zero low = refl
map_at g xs (suc n) low =
    let one : n + 1 ≡ suc n = omega arith in
    map-append (λ i. g (get_or xs i no_component)) (below n) (n ∷ []) ∙ ap (λ l. l ++ g (get_or xs n no_component) ∷ []) (map_at g xs n (omega (arith, low)))
    ∙ sym (map-append g (take n xs) (get_or xs n no_component ∷ [])) ∙ ap (map g) (sym (take_more xs n no_component (omega (arith, low)))) ∙ ap (λ m. map g (take m xs)) one

names_same : (f : Frame) (quants : List QuantTable) → map (λ c. c.id) (map (component_view f quants) (below (length f.components))) ≡ identifiers f.components
names_same f quants =
    map_map (component_view f quants) (λ c. c.id) (below (length f.components))
    ∙ map_at (λ c. c.id) f.components (length f.components) (omega arith) ∙ ap (λ l. map (λ c. c.id) l) (take_all (length f.components) f.components (omega arith))

pub colour_is : (p : PictureParts) → jfif_of p.kept ≡ p.jfif → colours_of (length p.frame.components) (identifiers p.frame.components) p.jfif.seen (adobe_transform p.kept) ≡ colour_of (parts_meaning p)
colour_is p e =
    let f = p.frame in
    let told = map (component_view f p.quants) (below (length f.components)) in
    let count : length told ≡ length f.components = length-map (below (length f.components)) (component_view f p.quants) ∙ length_below (length f.components) in
    ap (λ n. colours_of n (identifiers f.components) p.jfif.seen (adobe_transform p.kept)) (sym count)
    ∙ ap (λ l. colours_of (length told) l p.jfif.seen (adobe_transform p.kept)) (sym (names_same f p.quants))
    ∙ ap (λ j. colours_of (length told) (map (λ c. c.id) told) j.seen (adobe_transform p.kept)) (sym e)

-- one window, one picture
pub all_once : (a b : Made) → window.All a ≡ window.All b → a ≡ b
all_once a b e = cc

-- WHAT A FILE LEAVES

-- what the parts of the picture are
pub record IsLeft (w : FileState) (p : PictureParts) : Type 0 where
  pub frame : w.items.held.frame ≡ Some p.frame
  pub coefs : w.window ≡ window.All p.coefs
  pub kept : p.kept ≡ (segments_view w.items.held).kept
  pub few : length p.frame.components ≤ 4
  pub tables : (i : ℕ) → i < length p.frame.components → slice_index_or p.quants i [] ≡ unwrap_or (quant_in w.begun.quants i) []

-- the frame and the blocks
record LeftPicture (limits : Limits) (segments : List Segment) (blocks : Blocks) (p : PictureParts) : Type 0 where
  pub frame : frame_of limits segments ≡ p.frame
  pub grids : p.coefs.frame ≡ p.frame
  pub same : blocks ≡ map_of p.coefs

-- THE TABLES were in force, and so have no zeros
pub quant_sound : (f : Frame) (before : List Segment) (i : ℕ) (t : QuantTable) → quant_of f before i ≡ Some t → IsQuants t
quant_sound f [] i t e = cc
quant_sound f (s ∷ before) i t e = by (s.0 == 0xda) e (λ u h. quant_sound f before i u h)
  where
    first : (o : Option QuantTable) (b : Bool) → first_some o (cond b (quant_in_force before (component_at f i).quant) None) ≡ Some t → ((u : QuantTable) → o ≡ Some u → IsQuants u) → IsQuants t
    first (Some x) b h older = older t h
    first None true h older = in_force_quants before (component_at f i).quant t h
    first None false h older = cc

    by : (b : Bool) → cond b (first_some (quant_of f before i) (cond (names (head_in f s.1) i) (quant_in_force before (component_at f i).quant) None)) (quant_of f before i) ≡ Some t
        → ((u : QuantTable) → quant_of f before i ≡ Some u → IsQuants u) → IsQuants t
    by false h older = older t h
    by true h older = first (quant_of f before i) (names (head_in f s.1) i) h older

module _ (limits : Limits) (segments : List Segment) (blocks : Blocks) (w : FileState) (e : Leaves limits segments blocks w) where
  pub table_left : (i : ℕ) → length (frame_of limits segments).components ≤ 4 → i < length (frame_of limits segments).components
      → is_none (quant_in w.begun.quants i) ≡ false
  table_left i few low =
      let f = frame_of limits segments in
      (e.begun).there i (omega (arith, low, few)) (all_below (has_begun (heads_of f segments)) (length f.components) i e.complete low)

  pub left_framed : (f : Frame) → w.items.held.frame ≡ Some f → frame_of limits segments ≡ f
  left_framed f held = e.is ∙ some_once e.frame f (sym e.held ∙ held)

  left_picture : (p : PictureParts) → IsLeft w p → LeftPicture limits segments blocks p
  left_picture p l =
      let same = left_framed p.frame l.frame in
      let is = all_once e.coefs p.coefs (sym e.has ∙ l.coefs) in
      record { frame = same; grids = ap (λ (c : Made). c.frame) (sym is) ∙ e.framed ∙ same; same = e.as_map ∙ ap map_of is }

  pub left_means : (p : PictureParts) → IsLeft w p → parts_meaning p ≡ kept_for (keeping_of w) (meaning_of (frame_of limits segments) segments blocks)
  left_means p l =
      let q = left_picture p l in
      let f = p.frame in
      let table : (i : ℕ) → i < length f.components → slice_index_or p.quants i [] ≡ unwrap_or (quant_of f segments i) [] =
      λ i low. l.tables i low ∙ ap (λ (o : Option QuantTable). unwrap_or o []) ((e.begun).quants i (omega (arith, low, l.few)) ∙ ap (λ (g : Frame). quant_of g segments i) q.frame) in
      let components = map_below (component_view f p.quants) (picture_component f segments) (length f.components)
      (λ i low. ap (λ (t : QuantTable). let c : PictureComponent = record { id = (component_at f i).id; h = (component_at f i).h; v = (component_at f i).v; quants = t } in c) (table i low)) in
      let shown = ap (real_blocks f) (sym q.same) in
      let keeping = keeping_of w in
      let kept = l.kept ∙ (e.holds).kept ∙ sym (filter_reverse (is_wanted keeping) (kept_after segments)) in
      let N = meaning_of f segments blocks in
      ap (λ (cs : List PictureComponent). let n : Meaning = record (parts_meaning p) { components = cs } in n) components
      ∙ ap (λ bs. let n : Meaning = record N { blocks = bs; kept = p.kept } in n) shown
      ∙ ap (λ (ks : List Segment). let n : Meaning = record N { kept = ks } in n) kept
      ∙ ap (λ (g : Frame). kept_for keeping (meaning_of g segments blocks)) (sym q.frame)

  pub left_range : (p : PictureParts) → IsLeft w p → AreInRange (bounds p.frame) (map_of p.coefs)
  left_range p l =
      let q = left_picture p l in
      subst (λ (g : Frame). AreInRange (bounds g) (map_of p.coefs)) q.frame (subst (λ bs. AreInRange (bounds (frame_of limits segments)) bs) q.same e.range)

  pub left_grids : (p : PictureParts) → IsLeft w p → p.coefs.frame ≡ p.frame
  left_grids p l = (left_picture p l).grids

  pub left_jfif : (segments_view w.items.held).jfif ≡ jfif_of (segments_view w.items.held).kept
  left_jfif =
      let h = e.holds in
      let keeping = keeping_of w in
      h.jfif ∙ ap parsed_jfif (sym (jfif_found keeping (kept_after segments))) ∙ ap (λ l. parsed_jfif (find is_jfif l)) (sym (reverse-reverse (filter (is_wanted keeping) (kept_after segments))))
      ∙ ap jfif_of (sym h.kept)

  pub left_quants : (p : PictureParts) (i : ℕ) → IsLeft w p → i < length p.frame.components → IsQuantTable (slice_index_or p.quants i [])
  left_quants p i l low =
      let f = frame_of limits segments in
      let few = l.few in
      let same = left_framed p.frame l.frame in
      let none = table_left i (subst (λ (g : Frame). length g.components ≤ 4) (sym same) l.few) (subst (λ (g : Frame). i < length g.components) (sym same) low) in
      let x = some_of (quant_in w.begun.quants i) none in
      let sound = quant_sound f segments i x.0 (sym ((e.begun).quants i (omega (arith, low, few))) ∙ x.1) in
      let is : slice_index_or p.quants i [] ≡ x.0 = l.tables i low ∙ ap (λ (o : Option QuantTable). unwrap_or o []) x.1 in
      subst IsQuantTable (sym is) (record { long = sound.long; some = sound.some })

-- What is in force at a scan header: segments, the history of scans, and the first header.

-- Tables put into slots are those that are kept.

pub huffmans_taken : (limits : Limits) (h : SegmentView) (before : List Segment) (contents : List ℕ) (new : HuffmanSlots) → parsed_huffmans h.tables contents ≡ Ok new → Holds limits h before
    → (contents_rule limits before 0xc4 contents ≡ None) × Holds limits (record h { tables = new }) ((0xc4, contents) ∷ before)
huffmans_taken limits h before contents new e holds =
    let t = huffmans_put h.tables before contents new e (record { dc_slots = holds.dc_slots; ac_slots = holds.ac_slots; dc = holds.dc; ac = holds.ac }) in (
      t.0,
      record { frame = holds.frame; dc_slots = t.1.dc_slots; ac_slots = t.1.ac_slots; dc = t.1.dc; ac = t.1.ac; quant_slots = holds.quant_slots; quants = holds.quants; interval = holds.interval; scanned = holds.scanned; kept = holds.kept; jfif = holds.jfif },
    )

pub quants_taken : (limits : Limits) (h : SegmentView) (before : List Segment) (contents : List ℕ) (new : Slots) → parsed_quants h.quants contents ≡ Ok new → Holds limits h before
    → (contents_rule limits before 0xdb contents ≡ None) × Holds limits (record h { quants = new }) ((0xdb, contents) ∷ before)
quants_taken limits h before contents new e holds =
    let t = quants_put h.quants before contents new e (record { quant_slots = holds.quant_slots; quants = holds.quants }) in (
      t.0,
      record { frame = holds.frame; dc_slots = holds.dc_slots; ac_slots = holds.ac_slots; dc = holds.dc; ac = holds.ac; quant_slots = t.1.quant_slots; quants = t.1.quants; interval = holds.interval; scanned = holds.scanned; kept = holds.kept; jfif = holds.jfif },
    )

-- A SEGMENT that defines nothing leaves what is in force, with what is kept of it
pub other_holds : (limits : Limits) (h : SegmentView) (before : List Segment) (code : ℕ) (contents : List ℕ) (kept : List Segment) (jfif : Jfif) → IsOther code → Holds limits h before
    → kept ≡ reverse (filter (is_wanted h.keeping) (kept_after ((code, contents) ∷ before))) → jfif ≡ parsed_jfif (find is_jfif (kept_after ((code, contents) ∷ before)))
    → Holds limits (record h { kept = kept; jfif = jfif }) ((code, contents) ∷ before)
other_holds limits h before code contents kept jfif other holds kept_is jfif_is =
    let frame : frame_after limits ((code, contents) ∷ before) ≡ frame_after limits before = search (rules, other) in
    let huffmans : (class slot : ℕ) → huffman_in_force ((code, contents) ∷ before) class slot ≡ huffman_in_force before class slot = λ class slot. search (rules, other) in
    let quants : (slot : ℕ) → quant_in_force ((code, contents) ∷ before) slot ≡ quant_in_force before slot = λ slot. search (rules, other) in
    let interval : restart_in_force ((code, contents) ∷ before) ≡ restart_in_force before = search (rules, other) in
    let scanned : has_scan ((code, contents) ∷ before) ≡ has_scan before = search (rules, other) in
    record {
      frame = holds.frame ∙ sym frame;
      dc_slots = holds.dc_slots;
      ac_slots = holds.ac_slots;
      dc = λ slot. holds.dc slot ∙ sym (huffmans 0 slot);
      ac = λ slot. holds.ac slot ∙ sym (huffmans 1 slot);
      quant_slots = holds.quant_slots;
      quants = λ slot. holds.quants slot ∙ sym (quants slot);
      interval = holds.interval ∙ sym interval;
      scanned = holds.scanned ∙ sym scanned;
      kept = kept_is;
      jfif = jfif_is;
    }

-- Which scans there were, item by item.

-- AFTER A SEGMENT

no_sos : (before : List Segment) (code : ℕ) → code_fault before code ≡ None → has_frame before ≡ false → (code == 0xda) ≡ false
no_sos before code allowed none = not_same code 0xda (λ k. clash (has_frame before) (framed before (subst (λ c. code_fault before c ≡ None) k allowed)) none)

unscanned : (limits : Limits) (items : List Item) (blocks : Blocks) → Leads limits items blocks → has_frame (segments_of items) ≡ false → has_scan (segments_of items) ≡ false
unscanned limits [] blocks l none = refl
unscanned limits (segment code contents ∷ items) blocks l none =
    let n = neither (is_frame_code code) (has_frame (segments_of items)) none in
    or_from (code == 0xda) (has_scan (segments_of items)) (no_sos (segments_of items) code l.0 n.1) (unscanned limits items blocks l.2 n.1)
unscanned limits (scan contents intervals ∷ items) blocks l none =
    absurd (clash (has_frame (segments_of items)) (framed (segments_of items) l.1) (neither (is_frame_code 0xda) (has_frame (segments_of items)) none).1)

-- a frame in force remains, and with none there was nothing in a scan
after_other : {X : Type 0} (limits : Limits) (items : List Item) (blocks : Blocks) (code : ℕ) (contents : List ℕ) (seen : Frame → X) (none : X) → Leads limits items blocks → code_fault (segments_of items) code ≡ None
    → (has_scan (segments_of items) ≡ false → (f : Frame) → seen f ≡ none) → seen (frame_of limits (segments_of items)) ≡ seen (frame_of limits ((code, contents) ∷ segments_of items))
after_other {X} limits items blocks code contents seen none leads allowed blank = by (has_frame before) refl
  where
    before : List Segment
    before = segments_of items

    by : (t : Bool) → has_frame before ≡ t → seen (frame_of limits before) ≡ seen (frame_of limits ((code, contents) ∷ before))
    by true e = ap seen (sym (frame_stays limits before code contents e allowed))
    by false e =
        let n = unscanned limits items blocks leads e in
        blank n (frame_of limits before) ∙ sym (blank n (frame_of limits ((code, contents) ∷ before)))

pub begun_goes_on : (limits : Limits) (b : ScanHistory) (items : List Item) (blocks : Blocks) (code : ℕ) (contents : List ℕ) → Leads limits items blocks → code_fault (segments_of items) code ≡ None → (code ≡ 0xda → ⊥) → HasBegun limits b (segments_of items)
    → HasBegun limits b ((code, contents) ∷ segments_of items)
begun_goes_on limits b items blocks code contents leads allowed other k = record {
  scans = subst (λ heads. RepresentsHeads b.progress new heads) (sym heads_same) (scans_by (has_frame before) refl);
  framed = λ e. or_right (is_frame_code code) (has_frame before) (k.framed e);
  quants = λ i low.
      k.quants i low
      ∙ after_other limits items blocks code contents (λ f. quant_of f before i) None leads allowed (λ n f. no_quant f before i n)
      ∙ sym (quants_same i);
  there = λ i low begun.
      k.there i low
      (after_other limits items blocks code contents (λ f. has_begun (heads_of f before) i) false leads allowed (λ n f. ap (λ heads. has_begun heads i) (no_heads f before n))
      ∙ ap (λ heads. has_begun heads i) (sym heads_same) ∙ begun);
  count = k.count ∙ sym (ap (λ t. cond t (suc (scan_headers before)) (scan_headers before)) (not_same code 0xda other));
}
  where
    before : List Segment
    before = segments_of items

    new : Frame
    new = frame_of limits ((code, contents) ∷ before)

    heads_same : heads_of new ((code, contents) ∷ before) ≡ heads_of new before
    heads_same = ap (λ t. cond t (head_in new contents ∷ heads_of new before) (heads_of new before)) (not_same code 0xda other)

    quants_same : (i : ℕ) → quant_of new ((code, contents) ∷ before) i ≡ quant_of new before i
    quants_same i =
        ap (λ t. cond t (first_some (quant_of new before i) (cond (names (head_in new contents) i) (quant_in_force before (component_at new i).quant) None)) (quant_of new before i)) (not_same code 0xda other)

    -- there is no history before the frame's header, and so before the first scan
    unbegun : (o : Option Progress) → (is_none o ≡ false → has_frame before ≡ true) → has_frame before ≡ false → RepresentsHeads o new (heads_of new before)
    unbegun None framed e = no_heads new before (unscanned limits items blocks leads e)
    unbegun (Some p) framed e = absurd (clash (has_frame before) (framed refl) e)

    scans_by : (t : Bool) → has_frame before ≡ t → RepresentsHeads b.progress new (heads_of new before)
    scans_by true e = subst (λ f. RepresentsHeads b.progress f (heads_of f before)) (sym (frame_stays limits before code contents e allowed)) k.scans
    scans_by false e = unbegun b.progress k.framed e

-- AFTER A SCAN HEADER

still_there : (m a : Bool) (o q : Option QuantTable) → (m || a) ≡ true → (a ≡ true → is_none o ≡ false) → (m ≡ true → is_none q ≡ false) → is_none (first_some o (cond m q None)) ≡ false
still_there m a (Some x) q e old new = refl
still_there true a None q e old new = new refl
still_there false true None q e old new = old refl
still_there false false None q e old new = cc

-- none of the tables that the parts need is lacking
pub table_there : (h : SegmentView) (f : Frame) (head : ScanHead) (i : ℕ) → lacks_any h f head ≡ false → names head i ≡ true → is_none (quant_in h.quants (component_at f i).quant) ≡ false
table_there h f head i none named = at head.parts none named
  where
    by : (p : ScanPart) (t : Bool) (rest : Bool) → (p.component == i) ≡ t → (t || rest) ≡ true → lacks_part h f head p ≡ false → (rest ≡ true → is_none (quant_in h.quants (component_at f i).quant) ≡ false)
        → is_none (quant_in h.quants (component_at f i).quant) ≡ false
    by p true rest e m there older = ap (λ k. is_none (quant_in h.quants (component_at f k).quant)) (sym (same_of p.component i e)) ∙ (neither _ _ there).0
    by p false rest e m there older = older m

    at : (parts : List ScanPart) → any_of (lacks_part h f head) parts ≡ false → is_among i (map (λ p. p.component) parts) ≡ true → is_none (quant_in h.quants (component_at f i).quant) ≡ false
    at [] lacks among = cc
    at (p ∷ parts) lacks among =
        let n = neither (lacks_part h f head p) (any_of (lacks_part h f head) parts) lacks in
        by p (p.component == i) (is_among i (map (λ (p : ScanPart). p.component) parts)) refl among n.0 (at parts n.1)

pub begun_more : (limits : Limits) (b new : ScanHistory) (before : List Segment) (contents : List ℕ) (head : ScanHead) (slots : Slots) → head_in (frame_of limits before) contents ≡ head → has_frame before ≡ true
    → ((slot : ℕ) → quant_in slots slot ≡ quant_in_force before slot) → AddsScan (frame_of limits before) slots b new head
    → ((i : ℕ) → names head i ≡ true → is_none (quant_in slots (component_at (frame_of limits before) i).quant) ≡ false) → HasBegun limits b before → HasBegun limits new ((0xda, contents) ∷ before)
begun_more limits b new before contents head slots e framed held adds tables k = record {
  scans = subst (λ h. RepresentsHeads new.progress f (h ∷ heads_of f before)) (sym e) (adds.scans (heads_of f before) k.scans);
  framed = λ some. framed;
  quants = λ i low.
      (let slot = (component_at f i).quant in
      adds.quants i ∙ ap (λ o. first_some o (quant_named f slots head.parts i)) (k.quants i low)
      ∙ ap (λ o. first_some (quant_of f before i) (cond (is_among i (head_components head)) o None)) (held slot)
      ∙ ap (λ (h : ScanHead). first_some (quant_of f before i) (cond (names h i) (quant_in_force before slot) None)) (sym e));
  there = λ i low begun.
      ap is_none (adds.quants i)
      ∙ still_there (names head i) (has_begun (heads_of f before) i) (quant_in b.quants i) (quant_in slots (component_at f i).quant)
      (sym (ap (λ (h : ScanHead). names h i || has_begun (heads_of f before) i) e) ∙ begun) (k.there i low) (tables i);
  count = (let now = adds.count in let was = k.count in let z : new.scans ≡ suc (scan_headers before) = omega (arith, now, was) in z);
}
  where
    f : Frame
    f = frame_of limits before

-- NO MORE SCANS than bytes

pub scans_within : (items : List Item) (front : List ℕ) → SpellsFront items front → scan_headers (segments_of items) + 2 ≤ length front
scans_within [] front s = (let long = ap length s in omega (arith, long))
scans_within (segment code contents ∷ items) front s =
    let none = ap (λ t. cond t (suc (scan_headers (segments_of items))) (scan_headers (segments_of items))) (not_same code 0xda s.4.2) in
    let few = scans_within items s.0 s.3 in
    let long = ap length s.2 ∙ length-append s.0 s.1 in
    omega (arith, none, few, long)
scans_within (scan contents intervals ∷ items) front s =
    let t = s.4 in
    let few = scans_within items s.0 s.3 in
    let long = ap length s.2 ∙ length-append s.0 s.1 in
    let one = segment_long 0xda contents t.0 t.3 in
    let head = ap length t.2 ∙ length-append t.0 t.1 in
    omega (arith, few, long, one, head)

-- where a scan header is complete
pub header_room : (limits : Limits) (bytes : List ℕ) (items : List Item) (blocks : Blocks) (w : Items) → AfterSegment limits bytes items blocks w → (n : ℕ) → n ≡ scan_headers (segments_of items) → n + 2 ≤ length bytes
header_room limits bytes items blocks w k n e =
    let b = ((k.at).beside).behind in
    let few = scans_within items b.front b.spelled in
    let long = ap length b.cut ∙ length-append b.front (replicate ((k.at).beside).fill 255 ++ k.tail) in
    omega (arith, few, long, e)

-- The first scan header of a file, as it is kept.

-- IT REMAINS with more bytes, and after another segment

longer : (limits : Limits) (bytes more : List ℕ) (h : Head) → IsFirstHeader limits bytes h → IsFirstHeader limits (bytes ++ more) h
longer limits bytes more h k = record {
  before = k.before;
  contents = k.contents;
  within = (let few = k.within in omega (arith, few, length-append bytes more));
  header = subst (λ l. IsHeader limits l k.before k.contents) (sym (take-append-le h.at bytes more k.within)) k.header;
  unbroken = k.unbroken;
  frame = k.frame;
  colour = k.colour;
}

pub has_longer : (limits : Limits) (bytes more all : List ℕ) (before : List Segment) (head : Option Head) → all ≡ bytes ++ more → HasHead limits bytes before head → HasHead limits all before head
has_longer limits bytes more all before None e k = k
has_longer limits bytes more all before (Some h) e k = subst (λ l. IsFirstHeader limits l h) (sym e) (longer limits bytes more h k)

pub has_more : (limits : Limits) (bytes : List ℕ) (before : List Segment) (code : ℕ) (contents : List ℕ) (head : Option Head) → (code ≡ 0xda → ⊥) → HasHead limits bytes before head → HasHead limits bytes ((code, contents) ∷ before) head
has_more limits bytes before code contents None other k = ap (λ b. b || has_scan before) (not_same code 0xda other) ∙ k
has_more limits bytes before code contents (Some h) other k = k

-- BYTES WITHOUT A SCAN are only segments

pub between_header : (limits : Limits) (bytes : List ℕ) (items : List Item) (blocks : Blocks) (w : Items) → BetweenItems limits bytes items blocks w → has_scan (segments_of items) ≡ false → UnfinishedHeader limits bytes
between_header limits bytes items blocks w k none = by k.at
  where
    r : Reading
    r = reading_of w.segments

    filled : (n : ℕ) (tail : List ℕ) → ((code : ℕ) × BeginsSegment (segments_of items) code tail) ⊎ PartOfSegment (segments_of items) tail
        → ((code : ℕ) × BeginsSegment (segments_of items) code (replicate n 255 ++ tail)) ⊎ PartOfSegment (segments_of items) (replicate n 255 ++ tail)
    filled n tail (inl s) = inl (s.0, fill_begin n (segments_of items) s.0 tail s.1)
    filled n tail (inr s) = inr (fill_part n (segments_of items) tail s)

    by : AtPlace limits bytes k.sent items blocks → UnfinishedHeader limits bytes
    by (inl s) = inl (subst (λ l. (l ≡ []) ⊎ (l ≡ 255 ∷ [])) (sym s.same) s.short)
    by (inr (tail, at)) =
        let b = at.beside in
        let behind = b.behind in
        inr (
          segments_of items,
          replicate b.fill 255 ++ tail,
          (record { front = behind.front; cut = behind.cut; spelled = no_scan_spelled items behind.front behind.spelled none; passed = leads_pass limits items blocks at.leads }, none),
          filled b.fill tail (part_after limits bytes k.sent items blocks r tail r.phase k.bounded at (k.stands).1),
        )

pub no_head : (limits : Limits) (bytes : List ℕ) → UnfinishedHeader limits bytes → HasNoHead limits bytes
no_head limits bytes s before contents n h = whole_not_standing limits (take n bytes) (drop n bytes) before contents h (subst (λ l. UnfinishedHeader limits l) (sym (take-append-drop n bytes)) s)

-- A SCAN HEADER, the first one or a later one

kept_colour : (limits : Limits) (before : List Segment) (contents : List ℕ) (h : SegmentView) (f : Frame) → Holds limits h ((0xda, contents) ∷ before) → f ≡ frame_of limits before
    → colours_by f h.jfif h.kept ≡ (let kept = reverse (kept_after before) in colours_by (frame_of limits before) (jfif_of kept) kept)
kept_colour limits before contents h f k e =
    let kept : List Segment = reverse (kept_after before) in
    let jfif : h.jfif ≡ jfif_of kept = k.jfif ∙ ap (λ l. parsed_jfif (find is_jfif l)) (sym (reverse-reverse (kept_after before))) in
    let held : adobe_transform h.kept ≡ adobe_transform kept = ap adobe_transform (k.kept ∙ sym (filter_reverse (is_wanted h.keeping) (kept_after before))) ∙ adobe_same h.keeping kept in
    ap (λ (g : Frame). colours_by g h.jfif h.kept) e ∙ ap (λ (j : Jfif). colours_by (frame_of limits before) j h.kept) jfif
    ∙ ap (λ (a : Option ℕ). let f = frame_of limits before in colours_of (length f.components) (identifiers f.components) (jfif_of kept).seen a) held

module _ (limits : Limits) (bytes : List ℕ) (items : List Item) (blocks : Blocks) (w : Items) (contents : List ℕ) where
  pub heads_first : AfterSegment limits bytes items blocks w → (reading_of w.segments).code ≡ 0xda → (reading_of w.segments).contents ≡ contents
      → has_scan (segments_of items) ≡ false → contents_rule limits (segments_of items) 0xda contents ≡ None
      → IsHeader limits bytes (segments_of items) contents
  heads_first k code same none rule =
      let b = (k.at).beside in
      let behind = b.behind in
      let last = replicate b.fill 255 ++ k.tail in
      let spelled : SpellsSegment 0xda contents k.tail = subst (λ c. SpellsSegment 0xda c k.tail) same (subst (λ n. SpellsSegment n (reading_of w.segments).contents k.tail) code k.spelled) in
      let end : 0xda ≡ 0xd9 → ⊥ = λ (e : 0xda ≡ 0xd9). omega (arith, e) in
      record {
        spelled = (behind.front, last, behind.cut, no_scan_spelled items behind.front behind.spelled none, fill_segment b.fill 0xda contents k.tail spelled, end);
        passed = (subst (λ n. code_fault (segments_of items) n ≡ None) code k.allowed, scan_passed limits (segments_of items) contents rule, leads_pass limits items blocks (k.at).leads);
        first = none;
      }

  pub noted : (h : SegmentView) (f : Frame) (n : ℕ) (old : Option Head) → AfterSegment limits bytes items blocks w → (reading_of w.segments).code ≡ 0xda
      → (reading_of w.segments).contents ≡ contents → contents_rule limits (segments_of items) 0xda contents ≡ None
      → Holds limits h ((0xda, contents) ∷ segments_of items) → h.frame ≡ Some f → n ≡ length bytes → HasHead limits bytes (segments_of items) old
      → HasHead limits bytes ((0xda, contents) ∷ segments_of items) (head_or old (first_header_of h n))
  noted h f n (Some x) k code same rule holds framed count had = had
  noted h f n None k code same rule holds framed count none =
      let before = segments_of items in
      let is_frame : f ≡ frame_of limits before = ap (λ (o : Option Frame). unwrap_or o no_frame) (sym framed ∙ holds.frame) in
      let first = heads_first k code same none rule in
      let x : Head = record { frame = f; colour = colours_by f h.jfif h.kept; at = n } in
      let is : take n bytes ≡ bytes = take_all n bytes (omega (arith, count)) in
      let at : IsFirstHeader limits bytes x = record {
        before = before;
        contents = contents;
        within = omega (arith, count);
        header = subst (λ l. IsHeader limits l before contents) (sym is) first;
        unbroken = rule;
        frame = is_frame;
        colour = kept_colour limits before contents h f holds is_frame;
      } in
      subst (λ (o : Option Frame). HasHead limits bytes ((0xda, contents) ∷ before) (head_or None (option_map (λ (g : Frame). let y : Head = record { frame = g; colour = colours_by g h.jfif h.kept; at = n } in y) o))) (sym framed) at
