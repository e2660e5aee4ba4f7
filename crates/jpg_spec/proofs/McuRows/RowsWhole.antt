-- A complete file's bytes complete all MCU rows of a scan of all components, with the blocks of its picture.
use Rattle.std.proofs.Common.{◌≡◌, ℕ, zero, suc, ◌+◌, ◌<◌, ◌≤◌, Bool, true, false, cond, ◌&&◌, List, [], ◌∷◌, ◌++◌, length, refl, sym, ap, ◌∙◌, subst, arith}
use Rattle.std.specs.Prelude.{nat_lt, map, flat_map, unwrap_or}
use Rattle.std.proofs.Math.Path.{fun_ext}
use Rattle.std.proofs.lemmas.List.{append_assoc, append-nil, map-append}
use Rattle.jpg_spec.specs.Lists.{any_of, below, chunks, joined}
use Rattle.jpg_spec.specs.Elements.{zeros}
use Rattle.jpg_spec.specs.Geometry.{Frame, component_at, is_real}
use Rattle.jpg_spec.specs.Scan.{Blocks, SpellsInterval, SpellsIntervals}
use Rattle.jpg_spec.specs.Meaning.{Meaning, PictureComponent, real_blocks}
use Rattle.jpg_spec.specs.Markers.{Segment}
use Rattle.jpg_spec.specs.History.{quant_of}
use Rattle.jpg_spec.specs.Items.{Item, scan, segments_of, SpellsFront, SpellsIntervalsText}
use Rattle.jpg_spec.specs.FileMeaning.{Leads, meaning_of, no_blocks, picture_component, scan_after}
use Rattle.jpg_spec.specs.FirstFault.{InsideScan}
use Rattle.jpg_spec.specs.PictureInWork.{is_at}
use Rattle.jpg_spec.specs.RowsParsed.{IsScanOfAll, TellsBlocks, TellsFirst, TellsRows, blocks_in, row_places}
use Rattle.jpg_spec.specs.declared.frame.Limits.{Limits}
use Rattle.jpg_spec.specs.declared.frame.Place.{Place}
use Rattle.jpg_spec.proofs.Files.BlocksOnce.{band_of, joined_chunks}
use Rattle.jpg_spec.proofs.Basics.Common.{both, lt_of}
use Rattle.jpg_spec.proofs.Places.PictureInWork.{joined_join}
use Rattle.jpg_spec.proofs.McuRows.RowBands.{units_before, whole_first}
use Rattle.jpg_spec.proofs.McuRows.RowsBegin.{told_fit}
use Rattle.jpg_spec.proofs.McuRows.RowsLater.{blank}
use Rattle.jpg_spec.proofs.McuRows.RowsOnce.{also_told, one_first_scan}
use Rattle.jpg_spec.proofs.Files.ItemsOnce.{EndsAt, end_holds, ends_at}

-- A SCAN AND WHAT IS BEFORE IT, at the beginning of some bytes
pub record WholeScan (limits : Limits) (before : List Item) (contents : List ℕ) (intervals : List (List ℕ)) (blocks : Blocks) (front : List ℕ) : Type 0 where
  pub of_all : IsScanOfAll limits (segments_of before) contents
  pub spelled : SpellsFront (scan contents intervals ∷ before) front
  pub leads : Leads limits (scan contents intervals ∷ before) blocks

module _ (limits : Limits) (before : List Item) (contents : List ℕ) (intervals : List (List ℕ)) (blocks : Blocks) (front : List ℕ) where
  scan_ends : (w : WholeScan limits before contents intervals blocks front)
      → (let s = scan_after limits (segments_of before) contents in EndsAt s (w.leads).0 blocks (chunks s.interval s.places) intervals)
  scan_ends w =
      let s = scan_after limits (segments_of before) contents in
      ends_at s (w.leads).0 blocks (chunks s.interval s.places) 0 intervals (w.spelled).4.1 (w.spelled).4.4 (w.leads).4.spelled

  abbrev scan_place : (w : WholeScan limits before contents intervals blocks front)
      → (let s = scan_after limits (segments_of before) contents in EndsAt s (w.leads).0 blocks (chunks s.interval s.places) intervals) → InsideScan limits front []
  scan_place w h =
      let s = scan_after limits (segments_of before) contents in
      let t = w.spelled in
      record {
        items = before;
        blocks = (w.leads).0;
        contents = contents;
        done = h.done;
        coded = h.last;
        places = h.places;
        later = [];
        front = t.0;
        head = t.4.0;
        text = t.4.1;
        cut = t.2 ∙ ap (λ l. t.0 ++ l) t.4.2 ∙ sym (append_assoc t.0 t.4.0 t.4.1) ∙ sym (append-nil (t.0 ++ t.4.0 ++ t.4.1));
        spelled = t.3;
        header = t.4.3;
        intervals = subst (λ l. SpellsIntervalsText 0 l t.4.1) h.are t.4.4;
        leads = (w.leads).3;
        allowed = ((w.leads).1, (w.leads).2);
        due = end_holds s (w.leads).0 blocks (chunks s.interval s.places) intervals h;
      }

  scan_tells : (w : WholeScan limits before contents intervals blocks front)
      → (h : (let s = scan_after limits (segments_of before) contents in EndsAt s (w.leads).0 blocks (chunks s.interval s.places) intervals))
      → TellsBlocks (scan_after limits (segments_of before) contents) h.done h.last (joined h.whole ++ h.places) blocks
  scan_tells w h =
      let s = scan_after limits (segments_of before) contents in
      let none : (w.leads).0 ≡ no_blocks = blank limits before (w.leads).0 (w.leads).3 (w.of_all).first in
      let here : SpellsInterval s no_blocks blocks h.places h.last = subst (λ o. SpellsInterval s o blocks h.places h.last) none h.here in
      let same : h.places ≡ h.places ++ [] = sym (append-nil h.places) in
      record {
        whole = h.whole;
        part = h.places;
        rest = [];
        later = [];
        bits = here.0;
        behind = here.1.0;
        intervals = h.cut ∙ ap (λ p. h.whole ++ p ∷ []) same;
        all = refl;
        spelled = subst (λ o. SpellsIntervals s o blocks h.whole h.done) none h.spelled;
        cut = here.1.2;
        first = subst (λ q. TellsFirst s.coding (units_before s q) (flat_map (band_of s blocks) h.places) here.0) same (whole_first s blocks h.places h.last here);
        sizes = (w.leads).4.sizes;
      }

  -- the first bytes encode all its rows
  pub scan_rows : (rest : List ℕ) (rows : ℕ) → WholeScan limits before contents intervals blocks front
      → (scan_after limits (segments_of before) contents).places ≡ row_places limits (segments_of before) contents rows
      → TellsRows limits (front ++ rest) rows (blocks_in (row_places limits (segments_of before) contents rows) blocks)
  scan_rows rest rows w all =
      let s = scan_after limits (segments_of before) contents in
      let h = scan_ends w in
      record {
        front = front;
        rest = rest;
        cut = refl;
        place = scan_place w h;
        of_all = w.of_all;
        places = joined h.whole ++ h.places;
        more = [];
        told = blocks;
        tells = scan_tells w h;
        first =
            ap (λ l. joined h.whole ++ l) (sym (append-nil h.places)) ∙ sym (joined_join h.whole (h.places ∷ [])) ∙ ap joined (sym h.cut) ∙ joined_chunks s.interval s.places ∙ all
            ∙ sym (append-nil (row_places limits (segments_of before) contents rows));
        same = refl;
      }

  -- and no more
  pub scan_rows_all : (rest : List ℕ) (rows : ℕ) (x : Blocks) → WholeScan limits before contents intervals blocks front
      → (scan_after limits (segments_of before) contents).places ≡ row_places limits (segments_of before) contents rows → 1 ≤ length (scan_after limits (segments_of before) contents).places
      → TellsRows limits (front ++ rest) (rows + 1) x → ⊥
  scan_rows_all rest rows x w all some v =
      let h = scan_ends w in
      let i : InsideScan limits front [] = scan_place w h in
      let j = v.place in
      let one = one_first_scan limits front v.front rest v.rest i j (w.of_all).first (v.of_all).first v.cut in
      let few = told_fit limits (segments_of before) contents rows v all some (also_told limits (front ++ rest) (rows + 1) x v before contents one.items one.contents) in
      omega (arith, few)

-- THE PICTURE of the rows is that of the file

pub map_below : {A : Type 0} (g h : ℕ → A) (n : ℕ) → ((i : ℕ) → i < n → g i ≡ h i) → map g (below n) ≡ map h (below n)
map_below g h zero e = refl
map_below g h (suc n) e =
    map-append g (below n) (n ∷ []) ∙ ap (λ l. l ++ g n ∷ []) (map_below g h n (λ i lt. e i (omega (arith, lt)))) ∙ ap (λ x. map h (below n) ++ x ∷ []) (e n (omega arith)) ∙ sym (map-append h (below n) (n ∷ []))

-- real blocks are in the scan of all components
pub real_in_rows : (f : Frame) (places : List Place) (told : Blocks) → ((i x y : ℕ) → i < length f.components → is_real f i x y ≡ true → any_of (is_at i x y) places ≡ true) → real_blocks f (blocks_in places told) ≡ real_blocks f told
real_in_rows f places told found = fun_ext (λ i. fun_ext (λ x. fun_ext (λ y. by i x y (nat_lt i (length f.components) && is_real f i x y) refl)))
  where
    by : (i x y : ℕ) (t : Bool) → (nat_lt i (length f.components) && is_real f i x y) ≡ t → real_blocks f (blocks_in places told) i x y ≡ real_blocks f told i x y
    by i x y false e = ap (λ t. cond t (blocks_in places told i x y) (zeros 64)) e ∙ sym (ap (λ t. cond t (told i x y) (zeros 64)) e)
    by i x y true e =
        let k = both (nat_lt i (length f.components)) (is_real f i x y) e in
        let at = found i x y (lt_of i (length f.components) k.0) k.1 in
        ap (λ t. cond (nat_lt i (length f.components) && is_real f i x y) (cond t (told i x y) (no_blocks i x y)) (zeros 64)) at

-- meanings of one frame, with the same tables and real blocks
pub same_meaning : (f g : Frame) (a b : List Segment) (x y : Blocks) → f ≡ g → ((i : ℕ) → i < length g.components → quant_of g a i ≡ quant_of g b i) → real_blocks g x ≡ real_blocks g y
    → meaning_of f a x ≡ record (meaning_of g b y) { kept = (meaning_of f a x).kept }
same_meaning f g a b x y e quants blocks = subst (λ h. meaning_of h a x ≡ record (meaning_of g b y) { kept = (meaning_of h a x).kept }) (sym e) here
  where
    parts : map (picture_component g a) (below (length g.components)) ≡ map (picture_component g b) (below (length g.components))
    parts =
        map_below (picture_component g a) (picture_component g b) (length g.components)
        (λ i lt. ap (λ o. (let c : PictureComponent = record { id = (component_at g i).id; h = (component_at g i).h; v = (component_at g i).v; quants = unwrap_or o [] } in c)) (quants i lt))

    here : meaning_of g a x ≡ record (meaning_of g b y) { kept = (meaning_of g a x).kept }
    here =
        ap (λ cs. (let m : Meaning = record (meaning_of g a x) { components = cs } in m)) parts
        ∙ ap (λ bs. (let m : Meaning = record (meaning_of g a x) { components = map (picture_component g b) (below (length g.components)); blocks = bs } in m)) blocks
