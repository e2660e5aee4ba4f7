-- The head of a picture whose MCU rows are read, at the end of its first scan header, is that of the picture where its file
-- ends.
use Rattle.std.proofs.Common.{◌≡◌, ◌⊎◌, ℕ, List, ◌∷◌, ◌++◌, length, ◌<◌, refl, sym, ap, ◌∙◌, subst, inl, inr, Option, Some, None, reverse, append_assoc, ◌+◌, ◌*◌, ◌≤◌, ◌==◌, ◌&&◌, Bool, true, false, cond, [], arith, zero, suc, get_or, ℤ, pos, nat_lt, flat_map, map, replicate, append-nil, length-append, take_all, ◌||◌, if◌then◌else◌}
use Rattle.jpg_spec.specs.Colours.{colours_of}
use Rattle.jpg_spec.specs.Early.{EndsAfter, EndsInside, MeansEarly, segments_with}
use Rattle.jpg_spec.specs.FileMeaning.{Leads, Means, meaning_of, no_blocks}
use Rattle.jpg_spec.specs.FrameHeader.{identifiers, HasFactors, IsFrame, padded_across, padded_down, AreLimits}
use Rattle.jpg_spec.specs.Geometry.{Frame, blocks_across, blocks_down, component_at, h_max, is_real, mcu_row_frame, mcus_down, no_component, v_max, bounds, bounds_of, is_progressive}
use Rattle.jpg_spec.specs.History.{quant_of}
use Rattle.jpg_spec.specs.InForce.{colours_after, frame_of, head_in}
use Rattle.jpg_spec.specs.Items.{Item, SpellsFront, scan, segments_of}
use Rattle.jpg_spec.specs.Jfif.{adobe_transform, jfif_of}
use Rattle.jpg_spec.specs.Markers.{Segment, kept_after}
use Rattle.jpg_spec.specs.Meaning.{Meaning, colour_of, real_blocks}
use Rattle.jpg_spec.specs.RowsParsed.{BeginsScanOfAll, picture_so_far, IsScanOfAll, TellsRows, blocks_in, row_places}
use Rattle.jpg_spec.specs.Scan.{Blocks, Scan, band, block_at, unit_at}
use Rattle.jpg_spec.specs.declared.frame.Limits.{Limits}
use Rattle.jpg_spec.proofs.EndsEarly.EarlyBegun.{begun_behind}
use Rattle.jpg_spec.proofs.EndsEarly.EarlySoFar.{IsItemsScan, inside_scan, items_scan}
use Rattle.jpg_spec.proofs.Headers.ColoursKept.{picture_colours, same_colours_after, same_frame_after, same_jfif_after}
use Rattle.jpg_spec.proofs.Headers.FileHeader.{HasFirstScan, file_header, items_header}
use Rattle.jpg_spec.proofs.Headers.FrameFound.{framed}
use Rattle.jpg_spec.proofs.McuRows.RowsLater.{quants_stay, head_there}
use Rattle.jpg_spec.proofs.McuRows.RowsWhole.{same_meaning}
use Rattle.jpg_spec.proofs.Places.Untouched.{frame_stays}
use Rattle.jpg_file.specs.Read.ReadFile.{TellsHead, AreOfRow, AgreeInRows}
use Rattle.jpg_file.specs.Read.Strips.{TellsStrip, CompletesBefore, RowsSoFar, GoesByRow, IsFirstScan, RowsAfter, RowsInside, components_of, frame_behind, RowIsWhole, rows_of_scan}
use Rattle.jpg_file.specs.Read.PictureKept.{IsHeadOfPicture, bare_picture}
use Rattle.jpg_file.specs.declared.read.strip_head.StripHead.{StripHead}
use Rattle.std.proofs.lemmas.Nat.{mul-le}
use Rattle.std.proofs.lemmas.List.Elements.{All-get_or}
use Rattle.std.proofs.lemmas.List.{get_or_past, length-replicate}
use Rattle.std.proofs.lemmas.Bool.{cases_lt}
use Rattle.jpg_spec.specs.Lists.{any_of, is_among, joined}
use Rattle.jpg_spec.specs.PictureInWork.{is_at, OnlyChanges, ScanSoFar}
use Rattle.jpg_spec.specs.ScanReading.{ScanAt, ScanPlace, scan_at, with_byte}
use Rattle.jpg_spec.proofs.Basics.Common.{lt_yes, same_of}
use Rattle.jpg_spec.proofs.Places.PlacesFound.{real_in_padded}
use Rattle.jpg_spec.proofs.Places.PlacesSome.{h_max_some, v_max_some}
use Rattle.jpg_spec.proofs.McuRows.RowsFound.{found_first}
use Rattle.jpg_spec.proofs.McuRows.RowsHeader.{begun_places, begun_once, begun_frame, rows_begin}
use Rattle.jpg_spec.proofs.Files.ScanSteps.{inside}
use Rattle.jpg_base.specs.Cursor.{scan_mcus_down, AreIn}
use Rattle.jpg_base.proofs.Grids.{down_low}
use Rattle.jpg_coefs.specs.Picture.{Picture, is_padded, map_of, block_in}
use Rattle.jpg_seq.specs.Reader.{IsRowOf, rows_in_mcu, top_of}
use Rattle.jpg_file.specs.Read.InData.{InRowData, unfinished, IsRowAt, scan_left, frame_at}
use Rattle.jpg_file.specs.declared.read.file.FileState.{FileState}
use Rattle.jpg_file.specs.declared.read.rows.RowWork.{RowWork}
use Rattle.jpg_file.specs.declared.read.scan.InScan.{InScan}
use Rattle.jpg_file.proofs.ByRow.RowsPlaced.{told_first, PlaceTells, begins_at, data_stops, half_tells, rows_cut, scan_of_all, stops_complete}
use Rattle.jpg_file.proofs.ByRow.RowTurns.{one_up}
use Rattle.jpg_spec.specs.Elements.{Coding, are_in_bounds, old_values, zeros}
use Rattle.jpg_spec.specs.Ranges.{AreInRange, is_coefficient}
use Rattle.jpg_spec.specs.declared.frame.Place.{Place}
use Rattle.jpg_spec.proofs.Files.BlocksOnce.{length_band}
use Rattle.jpg_spec.proofs.Headers.Precisions.{of_bounds}
use Rattle.jpg_spec.proofs.Files.Ranges.{PlacesWithin, leads_in_range, at_place, intervals_within, value_in, zero_in}
use Rattle.jpg_spec.proofs.EndsEarly.EarlyRanges.{stands_within}
use Rattle.jpg_spec.proofs.Basics.Rows.{append_apart}
use Rattle.jpg_spec.proofs.Bits.Within.{AreWithin}
use Rattle.jpg_coefs.specs.Machine.{Interval, IsUnfinished, units_of}
use Rattle.jpg_file.proofs.Scans.Machines.{scans_keep_units}
use Rattle.jpg_file.proofs.Scans.ScanBytes.{read_at, InInterval, of_half, of_work}
use Rattle.jpg_file.proofs.ByRow.StripRows.{rest_framed}
use Rattle.jpg_spec.proofs.McuRows.RowCounts.{head_names}
use Rattle.std.proofs.lemmas.Bool.Decides.{nat_tests}
use Rattle.jpg_spec.specs.Segments.{head_components}
use Rattle.jpg_spec.specs.RowLaws.{TellsMore, first_blocks}
use Rattle.jpg_spec.proofs.McuRows.RowsOnce.{first_told, rows_once, rows_stay}
use Rattle.jpg_file.proofs.Headers.HeaderTaken.{are_in}

-- of another picture that differs from it only in its kept markers
same_head : (h : StripHead) (M N : Meaning) → IsHeadOfPicture h N → M ≡ record N { kept = M.kept } → colour_of M ≡ colour_of N → jfif_of M.kept ≡ jfif_of N.kept → IsHeadOfPicture h M
same_head h M N k same colours jfif = record {
  head = k.head;
  same =
      same ∙ ap (λ (P : Meaning). let n : Meaning = record P { kept = M.kept } in n) k.same
      ∙ ap (λ (bs : Blocks). let n : Meaning = record (bare_picture h.frame h.quants.items bs) { kept = M.kept } in n) (sym (ap (λ (P : Meaning). P.blocks) same));
  colour = k.colour ∙ sym colours;
  jfif = k.jfif ∙ sym jfif;
}

module _ (limits : Limits) (bytes : List ℕ) (before : List Segment) (contents : List ℕ) (begins : BeginsScanOfAll limits bytes before contents) where
  abbrev all : List Segment
  all = (0xda, contents) ∷ before

  header_stays : frame_of limits all ≡ frame_of limits before
  header_stays = frame_stays limits before 0xda contents (framed before (begins.header).passed.0) (begins.header).passed.0

  colours_stay : colours_after limits all ≡ colours_after limits before
  colours_stay =
      let kept = reverse (kept_after before) in
      ap (λ (f : Frame). colours_of (length f.components) (identifiers f.components) (jfif_of kept).seen (adobe_transform kept)) header_stays

  module _ (h : StripHead) (told : (blocks : Blocks) → IsHeadOfPicture h (picture_so_far limits before contents blocks)) where
    -- after items
    after_items : (items : List Item) (blocks : Blocks) (front tail : List ℕ) → HasFirstScan limits items front → bytes ≡ front ++ tail → SpellsFront items front → Leads limits items blocks
        → IsHeadOfPicture h (meaning_of (frame_of limits (segments_of items)) (segments_of items) blocks)
    after_items items blocks front tail first cut spelled leads =
        same_head h M N (told blocks) (same_meaning (frame_of limits segments) (frame_of limits all) segments all blocks blocks frames quants refl) colours jfif
      where
        segments : List Segment
        segments = segments_of items

        M : Meaning
        M = meaning_of (frame_of limits (segments_of items)) (segments_of items) blocks

        N : Meaning
        N = picture_so_far limits before contents blocks

        at : IsItemsScan limits before contents items blocks front first
        at = items_scan limits bytes before contents items blocks front tail first begins cut spelled leads

        header : (0xda, first.contents) ∷ segments_of first.before ≡ all
        header = ap (λ (b : List Segment). (0xda, first.contents) ∷ b) at.same ∙ ap (λ (c : List ℕ). (0xda, c) ∷ before) at.of

        frames : frame_of limits (segments_of items) ≡ frame_of limits all
        frames =
            ap (λ (z : List Item). frame_of limits (segments_of z)) first.joined ∙ same_frame_after limits first.more first.contents first.intervals first.before blocks at.leads
            ∙ ap (frame_of limits) at.same ∙ sym header_stays

        quants : (i : ℕ) → i < length (frame_of limits all).components → quant_of (frame_of limits all) (segments_of items) i ≡ quant_of (frame_of limits all) all i
        quants i lt =
            let g = frame_of limits all in
            ap (λ (z : List Item). quant_of g (segments_of z) i) first.joined ∙ quants_stay g first.more (scan first.contents first.intervals ∷ first.before) i at.none ∙ ap (λ (s : List Segment). quant_of g s i) header

        colours : colour_of (meaning_of (frame_of limits (segments_of items)) (segments_of items) blocks) ≡ colour_of (picture_so_far limits before contents blocks)
        colours =
            picture_colours limits segments blocks ∙ ap (λ (z : List Item). colours_after limits (segments_of z)) first.joined
            ∙ same_colours_after limits first.more first.contents first.intervals first.before blocks at.leads ∙ ap (colours_after limits) at.same ∙ sym colours_stay ∙ sym (picture_colours limits all blocks)

        jfif : jfif_of (meaning_of (frame_of limits (segments_of items)) (segments_of items) blocks).kept ≡ jfif_of (picture_so_far limits before contents blocks).kept
        jfif =
            ap (λ (z : List Item). jfif_of (reverse (kept_after (segments_of z)))) first.joined ∙ same_jfif_after first.more first.contents first.intervals first.before
            ∙ ap (λ (s : List Segment). jfif_of (reverse (kept_after s))) at.same

    -- OF A COMPLETE FILE
    whole_head : (M : Meaning) → Means limits bytes M → IsHeadOfPicture h M
    whole_head M m =
        subst (λ (P : Meaning). IsHeadOfPicture h P) (sym m.meaning)
        (after_items m.items m.blocks m.front (m.marker ++ m.rest) (file_header limits bytes M m) (m.cut ∙ append_assoc m.front m.marker m.rest) m.spelled m.leads)

    -- OF ONE THAT ENDS EARLY
    early_head : (M : Meaning) → MeansEarly limits bytes M → IsHeadOfPicture h M
    early_head M early = by early.1
      where
        by : EndsAfter limits bytes M ⊎ EndsInside limits bytes M → IsHeadOfPicture h M
        by (inl p) =
            let b = p.behind in
            let named = begun_behind limits bytes p.items p.tail b p.part early.0.begun in
            let first = items_header limits p.items b.blocks b.front b.spelled b.leads named.found named.complete in
            subst (λ (P : Meaning). IsHeadOfPicture h P) (sym p.meaning) (after_items p.items b.blocks b.front p.tail first b.cut b.spelled b.leads)
        by (inr p) =
            let i = p.at in
            let one = inside_scan limits bytes p.tail before contents begins i in
            let header : segments_with i.items i.contents ≡ all = ap (λ (s : List Segment). (0xda, i.contents) ∷ s) one.0 ∙ ap (λ (c : List ℕ). (0xda, c) ∷ before) one.1 in
            subst (λ (P : Meaning). IsHeadOfPicture h P) (sym (p.meaning ∙ ap (λ (s : List Segment). meaning_of (frame_of limits s) s p.after) header)) (told p.after)

  -- of the head that is there
  pub head_of_whole : (o : Option StripHead) (M : Meaning) → TellsStrip o (frame_of limits before) (picture_so_far limits before contents) → Means limits bytes M → TellsHead o M
  head_of_whole None M t m = absurd t
  head_of_whole (Some h) M t m = whole_head h t.1 M m

  pub head_of_early : (o : Option StripHead) (M : Meaning) → TellsStrip o (frame_of limits before) (picture_so_far limits before contents) → MeansEarly limits bytes M → TellsHead o M
  head_of_early None M t m = absurd t
  head_of_early (Some h) M t m = early_head h t.1 M m

-- The MCU rows that are given.

-- MCU rows of a file that is being read which are decoded or complete (T.81, A.2.3).

-- INSIDE THE SCAN, where no bits wait: the MCU rows before the current one are complete, and this one if no unit of it
-- is left
pub inside_completes : (limits : Limits) (bytes : List ℕ) (w : FileState) (rows : RowWork) (whole : Picture) → (r : RowsInside limits bytes w rows whole) → rows.waiting ≡ [] → CompletesBefore limits bytes (segments_of r.items) r.contents rows
inside_completes limits bytes w rows whole r none =
    let d = subst (λ (l : List Bool). InRowData limits r.items r.contents bytes l r.scan whole) none r.coded in
    let first = r.of in
    let all = scan_of_all limits r.items r.contents rows (scan_left r.scan) first (r.at).at in
    stops_complete limits r.items r.contents bytes whole rows (scan_left r.scan) (data_stops limits r.items r.contents bytes r.scan whole d first all) (r.at).at

-- if no bits wait, this many MCU rows are complete
pub goes_completes : (limits : Limits) (bytes : List ℕ) (w : FileState) (rows : RowWork) → GoesByRow limits bytes w rows → RowsSoFar limits bytes rows
goes_completes limits bytes w rows g = by (g.stands).at
  where
    by : RowsInside limits bytes w rows (g.stands).whole ⊎ RowsAfter limits bytes w rows (g.stands).whole → RowsSoFar limits bytes rows
    by (inl r) = inr (segments_of r.items, r.contents, inside_completes limits bytes w rows (g.stands).whole r g.none)
    by (inr b) = inl b.done

-- WHERE BITS MAY WAIT

rest_tells : (limits : Limits) (items : List Item) (contents bytes : List ℕ) (waiting : List Bool) (s : InScan) (whole : Picture) → InRowData limits items contents bytes waiting s whole → IsFirstScan limits items
    → IsScanOfAll limits (segments_of items) contents → PlaceTells limits items contents bytes whole (scan_left s)
rest_tells limits items contents bytes [] s whole d first all = (data_stops limits items contents bytes s whole d first all).tells
rest_tells limits items contents bytes (bit ∷ bits) s whole h first all = half_tells limits items contents bytes (bit ∷ bits) s whole h first all

pub inside_tells : (limits : Limits) (bytes : List ℕ) (w : FileState) (rows : RowWork) (whole : Picture) → (r : RowsInside limits bytes w rows whole) → PlaceTells limits r.items r.contents bytes whole (scan_left r.scan)
inside_tells limits bytes w rows whole r =
    let first = r.of in
    rest_tells limits r.items r.contents bytes rows.waiting r.scan whole r.coded first (scan_of_all limits r.items r.contents rows (scan_left r.scan) first (r.at).at)

-- only the bytes up to the place
bytes_alone : (limits : Limits) (bytes : List ℕ) (p : ScanPlace) (tail : List ℕ) → (at : ScanAt limits bytes p tail) → ScanAt limits (at.front ++ at.head ++ at.text) p []
bytes_alone limits bytes p tail at = record {
  front = at.front;
  head = at.head;
  text = at.text;
  cut = sym (append-nil (at.front ++ at.head ++ at.text));
  spelled = at.spelled;
  header = at.header;
  intervals = at.intervals;
  leads = at.leads;
  allowed = at.allowed;
  due = at.due;
}

-- WHAT IS DECODED: this many MCU rows, of the blocks of this picture
pub record TellsDue (limits : Limits) (bytes : List ℕ) (items : List Item) (contents : List ℕ) (rows : RowWork) (whole : Picture) : Type 0 where
  pub begins : BeginsScanOfAll limits bytes (segments_of items) contents
  pub m : ℕ
  pub count : m + unfinished rows ≡ scan_mcus_down (frame_behind limits items) (components_of limits items contents)
  pub told : TellsRows limits bytes m (blocks_in (row_places limits (segments_of items) contents m) (map_of whole))

pub place_tells : (limits : Limits) (items : List Item) (contents bytes : List ℕ) (whole : Picture) (rows : RowWork) (left : ℕ) → PlaceTells limits items contents bytes whole left
    → IsRowAt (frame_behind limits items) (components_of limits items contents) rows left → TellsDue limits bytes items contents rows whole
place_tells limits items contents bytes whole rows left t at =
    subst (λ (l : List Item). TellsDue limits bytes l contents rows whole) (t.of).0 (subst (λ (c : List ℕ). TellsDue limits bytes (t.place).items c rows whole) (t.of).1 done)
  where
    there : IsRowAt (frame_behind limits (t.place).items) (components_of limits (t.place).items (t.place).contents) rows left
    there =
        subst (λ (c : List ℕ). IsRowAt (frame_behind limits (t.place).items) (components_of limits (t.place).items c) rows left) (sym (t.of).1)
        (subst (λ (l : List Item). IsRowAt (frame_behind limits l) (components_of limits l contents) rows left) (sym (t.of).0) at)

    begins : BeginsScanOfAll limits bytes (segments_of (t.place).items) (t.place).contents
    begins = begins_at limits bytes t.tail t.place t.at t.of_all

    done : TellsDue limits bytes (t.place).items (t.place).contents rows whole
    done =
        let p = t.place in
        let told = t.told in
        let c =
        rows_cut (frame_behind limits p.items) (components_of limits p.items p.contents) rows left (joined told.front ++ told.part) (told.rest ++ joined p.later) there (told_first limits p (map_of whole) told)
        (length-append told.rest (joined p.later) ∙ t.left_is) (begun_places limits bytes (segments_of p.items) p.contents begins) in
        record {
          begins = begins;
          m = c.m;
          count = c.count;
          told = record {
            front = (t.at).front ++ (t.at).head ++ (t.at).text;
            rest = t.tail;
            cut = (t.at).cut;
            place = inside limits ((t.at).front ++ (t.at).head ++ (t.at).text) p [] (bytes_alone limits bytes p t.tail t.at);
            of_all = t.of_all;
            places = joined told.front ++ told.part;
            more = c.more;
            told = map_of whole;
            tells = told.tells;
            first = c.first;
            same = refl;
          };
        }

-- AN MCU ROW that is complete

pub real_in_row : (f : Frame) (i x y : ℕ) → i < length f.components → x < blocks_across f (component_at f i) → y < blocks_down f (component_at f i) → is_real f i x y ≡ true
real_in_row f i x y there across down = ap (λ b. b && nat_lt y (blocks_down f (component_at f i))) (lt_yes x (blocks_across f (component_at f i)) across) ∙ lt_yes y (blocks_down f (component_at f i)) down

-- it is in the row's padded grids
pub padded_in : (f : Frame) (i x y : ℕ) → IsFrame f → i < length f.components → x < blocks_across f (component_at f i) → y < rows_in_mcu f i → is_padded (mcu_row_frame f) i x y ≡ true
padded_in f i x y is there across low =
    let c = component_at f i in
    let g = mcu_row_frame f in
    let wide : blocks_across f c ≤ padded_across f c = real_in_padded f.width c.h (h_max f) (h_max_some f is) in
    let v = (All-get_or HasFactors f.components i no_component there is.factors).v_low in
    let most : rows_in_mcu f i ≤ c.v = few (length f.components == 1) v in
    let high : 1 * c.v ≤ mcus_down g * c.v = mul-le 1 c.v (mcus_down g) c.v (one_up g.height (8 * v_max f) (tall (length f.components == 1) vmax) (omega (arith, vmax))) (omega arith) in
    let deep : y < padded_down g c = omega (arith, low, most, high) in
    ap (λ b. b && (nat_lt x (padded_across g c) && nat_lt y (padded_down g c))) (lt_yes i (length f.components) there)
    ∙ ap (λ b. b && nat_lt y (padded_down g c)) (lt_yes x (padded_across g c) (omega (arith, across, wide))) ∙ lt_yes y (padded_down g c) deep
  where
    vmax : 1 ≤ v_max f
    vmax = down_low f.components is.factors is.count_low

    few : (b : Bool) → 1 ≤ (component_at f i).v → cond b 1 (component_at f i).v ≤ (component_at f i).v
    few true some = some
    few false some = omega arith

    tall : (b : Bool) → 1 ≤ v_max f → 1 ≤ cond b 8 (8 * v_max f)
    tall true some = omega arith
    tall false some = omega (arith, some)

-- the blocks of the current row are those of the picture
pub row_blocks : (limits : Limits) (items : List Item) (contents : List ℕ) (whole : Picture) (rows : RowWork) (left last : ℕ) → IsRowOf rows.tops whole rows.coefs → whole.frame ≡ frame_behind limits items
    → (at : IsRowAt (frame_behind limits items) (components_of limits items contents) rows left) → at.row ≡ last → ((i : ℕ) → i < length (frame_behind limits items).components → is_among i (components_of limits items contents) ≡ true)
    → AreOfRow (frame_behind limits items) last rows.coefs (blocks_in (row_places limits (segments_of items) contents (last + 1)) (map_of whole))
row_blocks limits items contents whole rows left last row framed at is named = record { same = same }
  where
    f : Frame
    f = frame_behind limits items

    ids : List ℕ
    ids = components_of limits items contents

    same : (i x y : ℕ) → i < length (frame_behind limits items).components → x < blocks_across (frame_behind limits items) (component_at (frame_behind limits items) i) → y < rows_in_mcu (frame_behind limits items) i
        → last * rows_in_mcu (frame_behind limits items) i + y < blocks_down (frame_behind limits items) (component_at (frame_behind limits items) i)
        → map_of rows.coefs i x y ≡ blocks_in (row_places limits (segments_of items) contents (last + 1)) (map_of whole) i x (last * rows_in_mcu (frame_behind limits items) i + y)
    same i x y there across low down =
        let v = rows_in_mcu f i in
        let top : top_of rows.tops i ≡ last * v = at.begins i there ∙ ap (λ n. n * v) is in
        let here = row.blocks i x y (subst (λ (g : Frame). is_padded g i x y ≡ true) (sym (row.framed ∙ ap mcu_row_frame framed)) (padded_in f i x y at.frame there across low)) in
        let deep : last * v + y < v * (last + 1) = (let e : v * (last + 1) ≡ last * v + v = grind arith in omega (arith, low, e)) in
        let found : any_of (is_at i x (last * v + y)) (row_places limits (segments_of items) contents (last + 1)) ≡ true =
        found_first f ids i x (last * v + y) (last + 1) at.frame there (named i there) (real_in_row f i x (last * v + y) there across down)
        (subst (λ n. last * v + y < n * (last + 1)) (ap (λ n. cond (n == 1) 1 (component_at f i).v) (sym at.all)) deep) in
        here ∙ ap (λ n. map_of whole i x (n + y)) top ∙ sym (ap (λ b. cond b (map_of whole i x (last * v + y)) (no_blocks i x (last * v + y))) found)

-- The coefficients of the current MCU row are in the bounds of the file's precision (T.81, F.1.2).

-- UNITS THAT ARE LEFT may all be zero

zeros_bounded : (precision : ℕ) (has_dc : Bool) (n : ℕ) → are_in_bounds (bounds_of precision) has_dc (replicate n (pos 0)) ≡ true
zeros_bounded precision has_dc zero = refl
zeros_bounded precision true (suc n) = of_bounds (λ b. are_in_bounds b true (replicate (suc n) (pos 0)) ≡ true) (zeros_bounded 8 false n) (zeros_bounded 12 false n) precision
zeros_bounded precision false (suc n) = of_bounds (λ b. are_in_bounds b false (replicate (suc n) (pos 0)) ≡ true) (zeros_bounded 8 false n) (zeros_bounded 12 false n) precision

-- of first places
places_front : (s : Scan) (before after : Blocks) (places others : List Place) (more : List ℤ) → ((i x y : ℕ) → length (before i x y) ≡ length (after i x y))
    → AreWithin s.coding (map (unit_at s before) (places ++ others)) (flat_map (λ p. band s (block_at after p)) places ++ more) → PlacesWithin s after places
places_front s before after [] others more sizes w = tt
places_front s before after (p ∷ places) others more sizes w =
    let here = band s (block_at after p) in
    let behind = flat_map (λ q. band s (block_at after q)) places in
    let l = w.3 in
    let k = length_band s (block_at before p) (block_at after p) (sizes p.component p.x p.y) in
    let r = append_apart here w.0 (behind ++ more) w.1 (sym (l ∙ k)) (sym (append_assoc here behind more) ∙ w.2) in
    (subst (λ b. are_in_bounds s.coding.bounds (s.ss == 0) b ≡ true) (sym r.0) w.4, places_front s before after places others more sizes (subst (λ t. AreWithin s.coding (map (unit_at s before) (places ++ others)) t) (sym r.1) w.5))

-- A BLOCK in the bounds

pub block_in_range : (precision : ℕ) (l : List ℤ) (k : ℕ) → are_in_bounds (bounds_of precision) true l ≡ true → is_coefficient (bounds_of precision) k (get_or l k (pos 0)) ≡ true
block_in_range precision l k e = by (cases_lt k (length l))
  where
    c : Coding
    c = record { bounds = bounds_of precision; al = 0; refines = false; most_category = 0; most_run = 0; dc = λ i. []; ac = λ i. [] }

    by : (k < length l) ⊎ (length l ≤ k) → is_coefficient (bounds_of precision) k (get_or l k (pos 0)) ≡ true
    by (inl low) = value_in c true l k k e low (λ d. refl) (λ none. cc)
    by (inr past) = subst (λ v. is_coefficient (bounds_of precision) k v ≡ true) (sym (get_or_past l k (pos 0) past)) (zero_in precision k)

-- a scan of complete blocks
record IsWholeScan (precision : ℕ) (s : Scan) : Type 0 where
  ss : s.ss ≡ 0
  se : s.se ≡ 63
  run : s.coding.most_run ≡ 0
  range : s.coding.bounds ≡ bounds_of precision

whole_block : (precision : ℕ) (s : Scan) (block : List ℤ) → IsWholeScan precision s → length block ≡ 64 → band s block ≡ block
whole_block precision s block w long = subst (λ n. band (record s { ss = n }) block ≡ block) (sym w.ss) (subst (λ n. band (record s { ss = 0; se = n }) block ≡ block) (sym w.se) (take_all 64 block (omega (arith, long))))

place_in_range : (precision : ℕ) (s : Scan) (after : Blocks) (places : List Place) (i x y k : ℕ) → IsWholeScan precision s → length (after i x y) ≡ 64 → PlacesWithin s after places → any_of (is_at i x y) places ≡ true
    → is_coefficient (bounds_of precision) k (get_or (after i x y) k (pos 0)) ≡ true
place_in_range precision s after places i x y k w long in_places there =
    let first : (s.ss == 0) ≡ true = ap (λ n. n == 0) w.ss in
    let a = subst (λ l. are_in_bounds s.coding.bounds (s.ss == 0) l ≡ true) (whole_block precision s (after i x y) w long) (at_place s after places i x y in_places there) in
    let b = subst (λ t. are_in_bounds s.coding.bounds t (after i x y) ≡ true) first a in
    block_in_range precision (after i x y) k (subst (λ r. are_in_bounds r true (after i x y) ≡ true) w.range b)

-- IF SOME BLOCKS CHANGE, and these are in the bounds, all are
changes_in_range : (precision : ℕ) (s : Scan) (places : List Place) (old new : Blocks) → IsWholeScan precision s → OnlyChanges s places old new → PlacesWithin s new places → AreInRange (bounds_of precision) old → AreInRange (bounds_of precision) new
changes_in_range precision s places old new w c in_places before = record {
  sizes = c.sizes;
  values = λ i x y k. by i x y k (any_of (is_at i x y) places) refl;
}
  where
    by : (i x y k : ℕ) (b : Bool) → any_of (is_at i x y) places ≡ b → is_coefficient (bounds_of precision) k (get_or (new i x y) k (pos 0)) ≡ true
    by i x y k false e = subst (λ l. is_coefficient (bounds_of precision) k (get_or l k (pos 0)) ≡ true) (sym (c.elsewhere i x y e)) (before.values i x y k)
    by i x y k true e = place_in_range precision s new places i x y k w (c.sizes i x y) in_places e

-- THE CURRENT PICTURE

whole_scan : (limits : Limits) (p : ScanPlace) → is_progressive (frame_at limits p).process ≡ false → IsWholeScan (frame_at limits p).precision (scan_at limits p)
whole_scan limits p e =
    let head = head_in (frame_at limits p) p.contents in
    record { ss = ap (λ b. cond b head.ss 0) e; se = ap (λ b. cond b head.se 63) e; run = ap (λ b. cond b 14 0) e; range = refl }

so_far_in_range : (limits : Limits) (p : ScanPlace) (work : Blocks) (done : List (List ℕ)) (left : List (List Place)) → is_progressive (frame_at limits p).process ≡ false → Leads limits p.items p.blocks → ScanSoFar (scan_at limits p) p.blocks work done left
    → AreInRange (bounds (frame_at limits p)) work
so_far_in_range limits p work done left e leads k =
    let s = scan_at limits p in
    let precision = (frame_at limits p).precision in
    let w = whole_scan limits p e in
    let old : AreInRange (bounds (frame_at limits p)) p.blocks = leads_in_range limits p.items p.blocks leads in
    let sizes : (i x y : ℕ) → length (p.blocks i x y) ≡ length (work i x y) = λ i x y. old.sizes i x y ∙ sym (k.changes.sizes i x y) in
    changes_in_range precision s (joined k.front) p.blocks work w k.changes (intervals_within s p.blocks work k.front done sizes (λ places. inl w.run) k.spelled) old

-- what is read of an interval, with zeros after it
units_in_range : (precision : ℕ) {n : ℕ} (i : Interval) (bits : List Bool) (now : Picture) → IsWholeScan precision i.scan → IsUnfinished i bits now n → AreInRange (bounds_of precision) (map_of i.before) → AreInRange (bounds_of precision) (map_of now)
units_in_range precision i bits now w u old =
    let s = i.scan in
    let before = map_of i.before in
    let sizes : (j x y : ℕ) → length (before j x y) ≡ length (map_of now j x y) = λ j x y. old.sizes j x y ∙ sym (u.read.changes.sizes j x y) in
    let more = u.part ++ zeros (length (old_values u.left)) in
    let all = stands_within s.coding (units_of i) (u.whole ++ u.part) u.left bits (λ b n. ap (λ t. are_in_bounds t b (zeros n)) w.range ∙ zeros_bounded precision b n) (inl w.run) u.stands in
    let cut = subst (λ t. AreWithin s.coding (units_of i) t) (append_assoc u.whole u.part (zeros (length (old_values u.left)))) all in
    let told = subst (λ t. AreWithin s.coding (units_of i) (t ++ more)) u.read.told_there cut in
    let here = subst (λ l. AreWithin s.coding (map (unit_at s before) l) (flat_map (λ p. band s (block_at (map_of now) p)) u.done ++ more)) u.all told in
    changes_in_range precision s u.done before (map_of now) w u.read.changes (places_front s before (map_of now) u.done u.due more sizes here) old

sequential_at : (limits : Limits) (items : List Item) (p : ScanPlace) → p.items ≡ items → IsFirstScan limits items → is_progressive (frame_at limits p).process ≡ false
sequential_at limits items p same first = subst (λ (l : List Item). is_progressive (frame_behind limits l).process ≡ false) (sym same) first.sequential

-- in the bounds of the frame after these items
abbrev InRangeBehind : Limits → List Item → Picture → Type 0
InRangeBehind limits items whole = AreInRange (bounds (frame_behind limits items)) (map_of whole)

interval_in_range : (limits : Limits) (items : List Item) (contents : List ℕ) (p : ScanPlace) (w : InScan) (whole : Picture) (rest : List Bool)
    → InInterval limits p w whole rest → (p.items ≡ items) × (p.contents ≡ contents) → Leads limits p.items p.blocks → IsFirstScan limits items
    → InRangeBehind limits items whole
interval_in_range limits items contents p w whole rest d of leads first =
    let e = sequential_at limits items p of.0 first in
    let precision = (frame_at limits p).precision in
    let u = scans_keep_units.unfinished w.machine d.interval d.taken whole d.stands in
    let x = subst (λ (t : Scan). IsWholeScan precision t) (sym (d.is).scan) (whole_scan limits p e) in
    subst (λ (l : List Item). InRangeBehind limits l whole) of.0
    (units_in_range precision d.interval d.taken whole x u (so_far_in_range limits p (map_of (d.interval).before) p.done (p.places ∷ p.later) e leads d.so_far))

rest_in_range : (limits : Limits) (items : List Item) (contents bytes : List ℕ) (waiting : List Bool) (s : InScan) (whole : Picture)
    → InRowData limits items contents bytes waiting s whole → IsFirstScan limits items → InRangeBehind limits items whole
rest_in_range limits items contents bytes [] s whole d first = by s.whole refl
  where
    by : (b : Bool) → s.whole ≡ b → InRangeBehind limits items whole
    by true is =
        let p = d.place in
        subst (λ (l : List Item). InRangeBehind limits l whole) (d.of).0
        (so_far_in_range limits p (map_of whole) (p.done ++ p.coded ∷ []) p.later (sequential_at limits items p (d.of).0 first) (d.at).leads (read_at limits p s whole is d.work).so_far)
    by false is = interval_in_range limits items contents d.place s whole [] (of_work limits d.place s whole is d.work) d.of (d.at).leads first
rest_in_range limits items contents bytes (bit ∷ bits) s whole h first =
    interval_in_range limits items contents (with_byte h.place h.byte) s whole (bit ∷ bits) (of_half limits items contents bytes (bit ∷ bits) s whole h) h.of (h.at).leads first

-- THE MCU ROW: the blocks of its padded grids are those of the picture, and all others are zero
row_in_range : (precision : ℕ) (tops : List ℕ) (whole row : Picture) → IsRowOf tops whole row → AreInRange (bounds_of precision) (map_of whole) → AreInRange (bounds_of precision) (map_of row)
row_in_range precision tops whole row of range = record {
  sizes = λ i x y. size i x y (is_padded row.frame i x y) refl;
  values = λ i x y k. value i x y k (is_padded row.frame i x y) refl;
}
  where
    outside : (i x y : ℕ) → is_padded row.frame i x y ≡ false → map_of row i x y ≡ zeros 64
    outside i x y e = ap (λ b. cond b (block_in row i x y) (zeros 64)) e

    size : (i x y : ℕ) (b : Bool) → is_padded row.frame i x y ≡ b → length (map_of row i x y) ≡ 64
    size i x y true e = ap length (of.blocks i x y e) ∙ range.sizes i x (top_of tops i + y)
    size i x y false e = ap length (outside i x y e) ∙ length-replicate 64 (pos 0)

    value : (i x y k : ℕ) (b : Bool) → is_padded row.frame i x y ≡ b → is_coefficient (bounds_of precision) k (get_or (map_of row i x y) k (pos 0)) ≡ true
    value i x y k true e = subst (λ l. is_coefficient (bounds_of precision) k (get_or l k (pos 0)) ≡ true) (sym (of.blocks i x y e)) (range.values i x (top_of tops i + y) k)
    value i x y k false e = subst (λ l. is_coefficient (bounds_of precision) k (get_or l k (pos 0)) ≡ true) (sym (outside i x y e)) (block_in_range precision (zeros 64) k (zeros_bounded precision true 64))

-- while a file is read inside the scan, and when an MCU row is complete
pub inside_in_range : (limits : Limits) (bytes : List ℕ) (w : FileState) (rows : RowWork) (whole : Picture) → (r : RowsInside limits bytes w rows whole) → IsRowOf rows.tops whole rows.coefs
    → AreInRange (bounds (frame_behind limits r.items)) (map_of rows.coefs)
inside_in_range limits bytes w rows whole r of =
    row_in_range (frame_behind limits r.items).precision rows.tops whole rows.coefs of (rest_in_range limits r.items r.contents bytes rows.waiting r.scan whole r.coded r.of)

pub given_in_range : (limits : Limits) (bytes : List ℕ) (w : FileState) (rows : RowWork) → (k : RowIsWhole limits bytes w rows) → AreInRange (bounds (frame_behind limits k.inside.items)) (map_of rows.coefs)
given_in_range limits bytes w rows k = inside_in_range limits bytes w rows k.whole k.inside k.row

-- From the MCU rows that were passed, and how many of the scan aren't complete yet, to those that the bytes complete.

-- what has begun remains begun
pub begun_on : (limits : Limits) (bytes more : List ℕ) (before : List Segment) (contents : List ℕ) → BeginsScanOfAll limits bytes before contents → BeginsScanOfAll limits (bytes ++ more) before contents
begun_on limits bytes more before contents b = record {
  front = b.front;
  rest = b.rest ++ more;
  cut = ap (λ l. l ++ more) b.cut ∙ append_assoc b.front b.rest more;
  header = b.header;
  unbroken = b.unbroken;
  of_all = b.of_all;
}

-- one scan has one number of MCU rows
pub same_scan : (limits : Limits) (bytes : List ℕ) (before front : List Segment) (contents first : List ℕ) → BeginsScanOfAll limits bytes before contents → BeginsScanOfAll limits bytes front first → rows_of_scan limits before contents ≡ rows_of_scan limits front first
same_scan limits bytes before front contents first b c =
    let one = begun_once limits bytes before front contents first b c in
    ap (λ (l : List Segment). rows_of_scan limits l contents) one.0 ∙ ap (λ (l : List ℕ). rows_of_scan limits front l) one.1

-- A FURTHER ONE is complete

pub record RowFed (limits : Limits) (bytes : List ℕ) (before : List Segment) (contents : List ℕ) (m : ℕ) (rows : RowWork) : Type 0 where
  pub blocks : Blocks
  pub told : TellsRows limits bytes (m + 1) blocks
  pub framed : rows.coefs.frame ≡ mcu_row_frame (frame_of limits before)
  pub range : AreInRange (bounds (frame_of limits before)) (map_of rows.coefs)
  pub row : AreOfRow (frame_of limits before) m rows.coefs blocks

fed_here : (limits : Limits) (bytes : List ℕ) (w : FileState) (rows : RowWork) (m : ℕ) → (k : RowIsWhole limits bytes w rows) → BeginsScanOfAll limits bytes (segments_of k.inside.items) k.inside.contents
    → m + (unfinished rows + 1) ≡ rows_of_scan limits (segments_of k.inside.items) k.inside.contents → RowFed limits bytes (segments_of k.inside.items) k.inside.contents m rows
fed_here limits bytes w rows m k begins count =
    let r = k.inside in
    let left = scan_left r.scan in
    let t = place_tells limits r.items r.contents bytes k.whole rows left (inside_tells limits bytes w rows k.whole r) (r.at).at in
    let is : t.m ≡ m + 1 = omega (arith, t.count, count) in
    let due : unfinished rows ≡ rows.later + 0 = ap (λ n. rows.later + cond (n == 0) 0 1) k.left in
    let last : ((r.at).at).row ≡ m = omega (arith, due, ((r.at).at).count, count) in
    let framed = rest_framed limits r.items r.contents bytes rows.waiting r.scan k.whole r.coded r.of in
    let head = head_there limits (segments_of r.items) r.contents begins.unbroken in
    record {
      blocks = blocks_in (row_places limits (segments_of r.items) r.contents (m + 1)) (map_of k.whole);
      told = subst (λ n. TellsRows limits bytes n (blocks_in (row_places limits (segments_of r.items) r.contents n) (map_of k.whole))) is t.told;
      framed = (k.row).framed ∙ ap mcu_row_frame framed;
      range = given_in_range limits bytes w rows k;
      row = row_blocks limits r.items r.contents k.whole rows left m k.row framed (r.at).at last (λ i lt. head_names (frame_behind limits r.items) (head_in (frame_behind limits r.items) r.contents) i head ((r.at).at).all lt);
    }

pub row_fed : (limits : Limits) (bytes : List ℕ) (before : List Segment) (contents : List ℕ) (w : FileState) (rows : RowWork) (m : ℕ) → BeginsScanOfAll limits bytes before contents → RowIsWhole limits bytes w rows
    → m + (unfinished rows + 1) ≡ rows_of_scan limits before contents → RowFed limits bytes before contents m rows
row_fed limits bytes before contents w rows m begins k count =
    let r = k.inside in
    let t = place_tells limits r.items r.contents bytes k.whole rows (scan_left r.scan) (inside_tells limits bytes w rows k.whole r) (r.at).at in
    let one = begun_once limits bytes before (segments_of r.items) contents r.contents begins t.begins in
    let f = fed_here limits bytes w rows m k t.begins (count ∙ same_scan limits bytes before (segments_of r.items) contents r.contents begins t.begins) in
    subst (λ (l : List Segment). RowFed limits bytes l contents m rows) (sym one.0) (subst (λ (l : List ℕ). RowFed limits bytes (segments_of r.items) l m rows) (sym one.1) f)

-- The real blocks of first MCU rows: those that bytes encode are those of the picture, whatever follows.

-- REAL BLOCKS of a picture
pub real_here : (f : Frame) (blocks : Blocks) (i x y : ℕ) → i < length f.components → x < blocks_across f (component_at f i) → y < blocks_down f (component_at f i) → real_blocks f blocks i x y ≡ blocks i x y
real_here f blocks i x y there across down =
    ap (λ b. cond (b && is_real f i x y) (blocks i x y) (zeros 64)) (lt_yes i (length f.components) there) ∙ ap (λ b. cond b (blocks i x y) (zeros 64)) (real_in_row f i x y there across down)

module _ (limits : Limits) (bytes : List ℕ) (before : List Segment) (contents : List ℕ) (begins : BeginsScanOfAll limits bytes before contents) where
  -- of the first MCU rows
  pub named_in : (i : ℕ) → i < length (frame_of limits before).components → is_among i (head_components (head_in (frame_of limits before) contents)) ≡ true
  named_in i lt =
      let f = frame_of limits before in head_names f (head_in f contents) i (head_there limits before contents begins.unbroken) begins.of_all.all lt

  row_found : (rows i x y : ℕ) → IsFrame (frame_of limits before) → i < length (frame_of limits before).components
      → x < blocks_across (frame_of limits before) (component_at (frame_of limits before) i)
      → y < blocks_down (frame_of limits before) (component_at (frame_of limits before) i) → y < rows * rows_in_mcu (frame_of limits before) i
      → any_of (is_at i x y) (row_places limits before contents rows) ≡ true
  row_found rows i x y is there across down low =
      let f = frame_of limits before in
      let turned : rows_in_mcu f i * rows ≡ rows * rows_in_mcu f i = grind arith in
      let few : y < rows_in_mcu f i * rows = omega (arith, low, turned) in
      found_first f (head_components (head_in f contents)) i x y rows is there (named_in i there) (real_in_row f i x y there across down)
      (subst (λ n. y < n * rows) (ap (λ n. cond (n == 1) 1 (component_at f i).v) (sym begins.of_all.all)) few)

  in_rows : (rows : ℕ) (all : Blocks) → IsFrame (frame_of limits before) → AgreeInRows (frame_of limits before) rows (blocks_in (row_places limits before contents rows) all) all
  in_rows rows all is = record { same = λ i x y there across down low. ap (λ b. cond b (all i x y) (no_blocks i x y)) (row_found rows i x y is there across down low) }

  -- those of the MCU rows that are decoded are those of the picture
  pub agree_rows : (rows : ℕ) (all : Blocks) → IsFrame (frame_of limits before)
      → AgreeInRows (frame_of limits before) rows (blocks_in (row_places limits before contents rows) all) (real_blocks (frame_of limits before) all)
  agree_rows rows all is = record {
    same = λ i x y there across down low. (in_rows rows all is).same i x y there across down low ∙ sym (real_here (frame_of limits before) all i x y there across down);
  }

  -- and they are among those of more MCU rows
  pub few_of_more : (m n : ℕ) (some others : Blocks) → m ≤ n → TellsRows limits bytes m some → TellsRows limits bytes n others → some ≡ blocks_in (row_places limits before contents m) others
  few_of_more m n some others less first second =
      let w : TellsMore limits bytes m = record { all = n; blocks = others; enough = less; told = second } in
      let j = second.place in
      let same = begun_once limits bytes (segments_of j.items) before j.contents contents (rows_begin limits bytes n others second) begins in
      rows_once limits bytes m some (first_blocks limits bytes m w) first (first_told limits bytes m w)
      ∙ ap (λ s. blocks_in (row_places limits s j.contents m) others) same.0
      ∙ ap (λ c. blocks_in (row_places limits before c m) others) same.1

-- BYTES THAT ARE FED FURTHER encode the same first MCU rows
pub rows_agree : (limits : Limits) (bytes more : List ℕ) (before : List Segment) (contents : List ℕ) (m n : ℕ) (some others : Blocks) → AreLimits limits → BeginsScanOfAll limits bytes before contents
    → m ≤ n → TellsRows limits bytes m some → TellsRows limits (bytes ++ more) n others → AgreeInRows (frame_of limits before) m some others
rows_agree limits bytes more before contents m n some others limited begins less first second =
    let all = bytes ++ more in
    let on = begun_on limits bytes more before contents begins in
    let few = few_of_more limits all before contents on m n some others less (rows_stay limits bytes more m some first) second in
    subst (λ (b : Blocks). AgreeInRows (frame_of limits before) m b others) (sym few)
    (in_rows limits all before contents on m others (begun_frame limits bytes before contents limited begins))

-- HOW MANY MCU ROWS a scan of all components has
pub all_down : (f : Frame) (ids : List ℕ) → AreIn f ids → length ids ≡ length f.components
    → scan_mcus_down f ids ≡ (if length f.components == 1 then blocks_down f (component_at f 0) else mcus_down f)
all_down f [] are all = absurd (omega (arith, are.some))
all_down f (i ∷ []) are all =
    let first : i ≡ 0 = (let l = are.there 0 0 (omega arith) in omega (arith, l, all)) in
    ap (λ n. blocks_down f (component_at f n)) first ∙ ap (λ n. cond (n == 1) (blocks_down f (component_at f 0)) (mcus_down f)) all
all_down f (i ∷ j ∷ more) are all =
    let several : (length f.components == 1) ≡ false = grind (arith, nat_tests, all) in
    sym (ap (λ b. cond b (blocks_down f (component_at f 0)) (mcus_down f)) several)

pub rows_begun : (limits : Limits) (bytes : List ℕ) (before : List Segment) (contents : List ℕ) → BeginsScanOfAll limits bytes before contents
    → rows_of_scan limits before contents ≡ (let f = frame_of limits before in if length f.components == 1 then blocks_down f (component_at f 0) else mcus_down f)
rows_begun limits bytes before contents begins =
    let f = frame_of limits before in
    let head = head_in f contents in
    all_down f (head_components head) (are_in f head (head_there limits before contents begins.unbroken)) begins.of_all.all

-- NO REAL BLOCK is after all MCU rows
pub rows_cover : (f : Frame) (ids : List ℕ) (i : ℕ) → IsFrame f → length ids ≡ length f.components → is_among i ids ≡ true → blocks_down f (component_at f i) ≤ scan_mcus_down f ids * rows_in_mcu f i
rows_cover f [] i is all among = cc
rows_cover f (j ∷ []) i is all among =
    let s : j ≡ i = same_of j i (alone (j == i) among) in
    let one : rows_in_mcu f i ≡ 1 = ap (λ n. cond (n == 1) 1 (component_at f i).v) (sym all) in
    let whole : blocks_down f (component_at f j) ≡ blocks_down f (component_at f i) = ap (λ k. blocks_down f (component_at f k)) s in
    omega (arith, whole, ap (λ n. blocks_down f (component_at f j) * n) one)
  where
    alone : (b : Bool) → (b || false) ≡ true → b ≡ true
    alone true e = refl
    alone false e = e
rows_cover f (j ∷ k ∷ more) i is all among =
    let several : (length f.components == 1) ≡ false = grind (arith, nat_tests, all) in
    let each : rows_in_mcu f i ≡ (component_at f i).v = ap (λ b. cond b 1 (component_at f i).v) several in
    let c = component_at f i in
    let down : blocks_down f c ≤ mcus_down f * c.v = real_in_padded f.height c.v (v_max f) (v_max_some f is) in
    omega (arith, down, ap (λ n. mcus_down f * n) each)
