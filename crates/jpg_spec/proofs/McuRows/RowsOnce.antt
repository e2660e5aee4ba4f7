-- MCU rows can be decoded from bytes in only one way, and bytes complete only one number of them.
use Rattle.std.proofs.Common.{◌≡◌, ℕ, zero, suc, ◌+◌, ◌-◌, ◌<◌, ◌≤◌, Bool, true, false, cond, ◌==◌, List, [], ◌∷◌, ◌++◌, length, take, drop, refl, sym, ap, ◌∙◌, subst, arith, inl, inr, ⊎_elim, ℤ}
use Rattle.std.specs.Prelude.{◌||◌, flat_map}
use Rattle.std.proofs.Math.Path.{fun_ext}
use Rattle.std.proofs.Math.Seq.{take_all}
use Rattle.std.proofs.lemmas.Bool.{cases_lt}
use Rattle.std.proofs.lemmas.List.{append_assoc, append-nil}
use Rattle.std.proofs.lemmas.List.Concat.{flat_map-append}
use Rattle.jpg_spec.specs.Lists.{any_of, below, chunks}
use Rattle.jpg_spec.specs.Geometry.{Frame, is_progressive}
use Rattle.jpg_spec.specs.Segments.{head_components}
use Rattle.jpg_spec.specs.Scan.{Blocks, Scan, band}
use Rattle.jpg_spec.specs.Markers.{Segment, SpellsSegment, has_scan}
use Rattle.jpg_spec.specs.InForce.{frame_of, head_in}
use Rattle.jpg_spec.specs.Items.{Item, segment, scan, segment_of, segments_of, SpellsItem}
use Rattle.jpg_spec.specs.FileMeaning.{no_blocks, scan_after}
use Rattle.jpg_spec.specs.FirstFault.{InsideScan}
use Rattle.jpg_spec.specs.PictureInWork.{is_at}
use Rattle.jpg_spec.specs.ScanRows.{first_rows, scan_row}
use Rattle.jpg_spec.specs.RowLaws.{TellsMore, first_blocks}
use Rattle.jpg_spec.specs.RowsParsed.{CompletesRows, TellsBlocks, TellsRows, blocks_in, row_places}
use Rattle.jpg_spec.specs.declared.frame.Limits.{Limits}
use Rattle.jpg_spec.specs.declared.frame.Place.{Place}
use Rattle.jpg_spec.proofs.Basics.Common.{clash, or_right}
use Rattle.jpg_spec.proofs.Files.FilesOnce.{inside_after, inside_more, one_header}
use Rattle.jpg_spec.proofs.Files.ItemsOnce.{HasNext, Meets, meet}
use Rattle.jpg_spec.proofs.Segments.MarkersOnce.{segment_once}
use Rattle.jpg_spec.proofs.Segments.TablesInForce.{scan_sound}
use Rattle.jpg_spec.proofs.McuRows.RowBands.{AgreeAt, DecodedTo, TellsAt, TwoDecoded, front_within, reached, told_alike}

-- THE FIRST SCAN of a file is one

-- what begins as a scan header does is a scan
begun_scan : (first : Item) (here head contents rest v : List ℕ) → SpellsSegment 0xda contents head → SpellsItem first here → head ++ rest ≡ here ++ v → (segment_of first).0 ≡ 0xda
begun_scan (segment c xs) here head contents rest v h s e = absurd (s.2 (sym (segment_once 0xda c contents xs head here rest v h s.0 e).0))
begun_scan (scan xs m) here head contents rest v h s e = refl

scan_among : (later : List Item) (first : Item) (items : List Item) → (segment_of first).0 ≡ 0xda → has_scan (segments_of (later ++ first ∷ items)) ≡ true
scan_among [] first items e = ap (λ n. (n == 0xda) || has_scan (segments_of items)) e
scan_among (x ∷ later) first items e = or_right ((segment_of x).0 == 0xda) (has_scan (segments_of (later ++ first ∷ items))) (scan_among later first items e)

no_first : (limits : Limits) (a tail rest : List ℕ) (i : InsideScan limits a tail) (items : List Item) (v : List ℕ) → HasNext limits i.items (i.head ++ rest) items v → has_scan (segments_of items) ≡ false → ⊥
no_first limits a tail rest i items v g none =
    clash (has_scan (segments_of items)) (ap (λ l. has_scan (segments_of l)) g.joined ∙ scan_among g.later g.first i.items (begun_scan g.first g.here i.head i.contents rest (g.text ++ v) i.header g.spelled g.behind)) none

pub record SameScan (limits : Limits) (a b x y : List ℕ) (i : InsideScan limits a []) (j : InsideScan limits b []) : Type 0 where
  pub items : i.items ≡ j.items
  pub contents : i.contents ≡ j.contents
  pub stream : i.text ++ x ≡ j.text ++ y

pub one_first_scan : (limits : Limits) (a b x y : List ℕ) (i : InsideScan limits a []) (j : InsideScan limits b []) → has_scan (segments_of i.items) ≡ false → has_scan (segments_of j.items) ≡ false → a ++ x ≡ b ++ y
    → SameScan limits a b x y i j
one_first_scan limits a b x y i j none none' e =
    by (meet limits (a ++ x) i.items j.items u v (inside_after limits (a ++ x) x i') (inside_after limits (a ++ x) y j'))
  where
    i' : InsideScan limits (a ++ x) x
    i' = inside_more limits a x (a ++ x) [] refl i

    j' : InsideScan limits (a ++ x) y
    j' = inside_more limits b y (a ++ x) [] (sym e) j

    u : List ℕ
    u = i.head ++ (i.text ++ x)

    v : List ℕ
    v = j.head ++ (j.text ++ y)

    by : Meets limits i.items u j.items v → SameScan limits a b x y i j
    by (inl k) = let h = one_header limits (a ++ x) x i' y j' (i.text ++ x) (j.text ++ y) k.1 in record { items = k.0; contents = h.0; stream = h.1 }
    by (inr (inl g)) = absurd (no_first limits a [] (i.text ++ x) i j.items v g none')
    by (inr (inr g)) = absurd (no_first limits b [] (j.text ++ y) j i.items u g none)

-- BLOCKS of a sequential scan are complete bands
pub whole_band : (limits : Limits) (before : List Segment) (contents : List ℕ) (block : List ℤ) → is_progressive (frame_of limits before).process ≡ false → length block ≡ 64 → band (scan_after limits before contents) block ≡ block
whole_band limits before contents block plain long =
    let head = head_in (frame_of limits before) contents in
    ap (λ b. take (cond b head.se 63 + 1 - cond b head.ss 0) (drop (cond b head.ss 0) block)) plain ∙ take_all 64 block (omega (arith, long))

pub same_blocks : (limits : Limits) (before : List Segment) (contents : List ℕ) (places a b : List Place) (told other : Blocks) → is_progressive (frame_of limits before).process ≡ false
    → ((i x y : ℕ) → length (told i x y) ≡ 64) → ((i x y : ℕ) → length (other i x y) ≡ 64)
    → ((i x y : ℕ) → any_of (is_at i x y) places ≡ true → any_of (is_at i x y) a ≡ true) → ((i x y : ℕ) → any_of (is_at i x y) places ≡ true → any_of (is_at i x y) b ≡ true)
    → AgreeAt (scan_after limits before contents) a b told other → blocks_in places told ≡ blocks_in places other
same_blocks limits before contents places a b told other plain sizes others in_a in_b agree = fun_ext (λ i. fun_ext (λ x. fun_ext (λ y. by i x y (any_of (is_at i x y) places) refl)))
  where
    by : (i x y : ℕ) (t : Bool) → any_of (is_at i x y) places ≡ t → blocks_in places told i x y ≡ blocks_in places other i x y
    by i x y false e = ap (λ t. cond t (told i x y) (no_blocks i x y)) e ∙ sym (ap (λ t. cond t (other i x y) (no_blocks i x y)) e)
    by i x y true e =
        let same : told i x y ≡ other i x y =
        sym (whole_band limits before contents (told i x y) plain (sizes i x y)) ∙ agree i x y (in_a i x y e) (in_b i x y e) ∙ whole_band limits before contents (other i x y) plain (others i x y) in
        ap (λ t. cond t (told i x y) (no_blocks i x y)) e ∙ same ∙ sym (ap (λ t. cond t (other i x y) (no_blocks i x y)) e)

-- IN ONE WAY

abbrev pub decoded : {s : Scan} {done : List (List ℕ)} {coded : List ℕ} {places : List Place} {told : Blocks} → TellsBlocks s done coded places told → List ℕ → DecodedTo
decoded {done = done} {coded = coded} {told = told} w behind = record { done = done; coded = coded; behind = behind; told = told; whole = w.whole; part = w.part }

abbrev pub tells_at : {s : Scan} {done : List (List ℕ)} {coded : List ℕ} {places : List Place} {told : Blocks} (w : TellsBlocks s done coded places told) (behind : List ℕ) → TellsAt s (chunks s.interval s.places) (decoded w behind)
tells_at w behind = record { rest = w.rest; later = w.later; bits = w.bits; unread = w.behind; intervals = w.intervals; spelled = w.spelled; cut = w.cut; first = w.first; sizes = w.sizes }

-- what rows are, of the scan with other names for its items and its header
pub record ToldAlso (limits : Limits) {bytes : List ℕ} {rows : ℕ} {blocks : Blocks} (w : TellsRows limits bytes rows blocks) (before : List Segment) (contents : List ℕ) : Type 0 where
  pub tells : TellsBlocks (scan_after limits before contents) (w.place).done (w.place).coded w.places w.told
  pub first : w.places ≡ row_places limits before contents rows ++ w.more
  pub same : blocks ≡ blocks_in (row_places limits before contents rows) w.told

pub also_told : (limits : Limits) (bytes : List ℕ) (rows : ℕ) (blocks : Blocks) (w : TellsRows limits bytes rows blocks) (items : List Item) (contents : List ℕ) → items ≡ (w.place).items → contents ≡ (w.place).contents
    → ToldAlso limits w (segments_of items) contents
also_told limits bytes rows blocks w items contents e f =
    let told : ToldAlso limits w (segments_of (w.place).items) (w.place).contents = record { tells = w.tells; first = w.first; same = w.same } in
    subst (λ c. ToldAlso limits w (segments_of items) c) (sym f) (subst (λ z. ToldAlso limits w (segments_of z) (w.place).contents) (sym e) told)

pub rows_once : (limits : Limits) (bytes : List ℕ) (rows : ℕ) (x y : Blocks) → TellsRows limits bytes rows x → TellsRows limits bytes rows y → x ≡ y
rows_once limits bytes rows x y v w =
    let i = v.place in
    let j = w.place in
    let scan = one_first_scan limits v.front w.front v.rest w.rest i j (v.of_all).first (w.of_all).first (sym v.cut ∙ w.cut) in
    let before = segments_of i.items in
    let s = scan_after limits before i.contents in
    let all = chunks s.interval s.places in
    let also = also_told limits bytes rows y w i.items i.contents scan.items scan.contents in
    let a = decoded v.tells v.rest in
    let b = decoded also.tells w.rest in
    let two : TwoDecoded s all 0 a b =
    record { text = i.text; other = j.text; first = tells_at v.tells v.rest; second = tells_at also.tells w.rest; spelled = i.intervals; other_spelled = j.intervals; same = scan.stream } in
    let rows = row_places limits before i.contents rows in
    v.same
    ∙ same_blocks limits before i.contents rows (reached a) (reached b) v.told w.told (v.of_all).sequential (v.tells).sizes (also.tells).sizes
    (front_within (reached a) rows v.more (sym (v.tells).all ∙ v.first)) (front_within (reached b) rows w.more (sym (also.tells).all ∙ also.first))
    (told_alike s (scan_sound limits before i.contents) all 0 a b two)
    ∙ sym also.same

-- FEWER ROWS are decoded with more
pub below_more : (m n : ℕ) → m ≤ n → (e : List ℕ) × (below n ≡ below m ++ e)
below_more m zero h = ([], let z : m ≡ 0 = omega (arith, h) in ap below (sym z) ∙ sym (append-nil (below m)))
below_more m (suc n) h =
    ⊎_elim
    (λ (k : m < suc n). (let r = below_more m n (omega (arith, k)) in (r.0 ++ n ∷ [], ap (λ l. l ++ n ∷ []) r.1 ∙ append_assoc (below m) r.0 (n ∷ []))))
    (λ (k : suc n ≤ m). (let z : m ≡ suc n = omega (arith, h, k) in ([], ap below (sym z) ∙ sym (append-nil (below m)))))
    (cases_lt m (suc n))

pub rows_more : (f : Frame) (ids : List ℕ) (m n : ℕ) → m ≤ n → (e : List Place) × (first_rows f ids n ≡ first_rows f ids m ++ e)
rows_more f ids m n h = let r = below_more m n h in (flat_map (scan_row f ids) r.0, ap (flat_map (scan_row f ids)) r.1 ∙ flat_map-append (scan_row f ids) (below m) r.0)

pub fewer_rows : (limits : Limits) (bytes : List ℕ) (m n : ℕ) (blocks : Blocks) → m ≤ n → (w : TellsRows limits bytes n blocks)
    → TellsRows limits bytes m (blocks_in (row_places limits (segments_of (w.place).items) (w.place).contents m) w.told)
fewer_rows limits bytes m n blocks h w =
    let f = frame_of limits (segments_of (w.place).items) in
    let r = rows_more f (head_components (head_in f (w.place).contents)) m n h in
    record {
      front = w.front;
      rest = w.rest;
      cut = w.cut;
      place = w.place;
      of_all = w.of_all;
      places = w.places;
      more = r.0 ++ w.more;
      told = w.told;
      tells = w.tells;
      first = w.first ∙ ap (λ l. l ++ w.more) r.1 ∙ append_assoc (first_rows f (head_components (head_in f (w.place).contents)) m) r.0 w.more;
      same = refl;
    }

-- of the blocks of more rows those of fewer
fewer_same : (fewer more : List Place) (told : Blocks) → ((i x y : ℕ) → any_of (is_at i x y) fewer ≡ true → any_of (is_at i x y) more ≡ true) → blocks_in fewer (blocks_in more told) ≡ blocks_in fewer told
fewer_same fewer more told within = fun_ext (λ i. fun_ext (λ x. fun_ext (λ y. by i x y (any_of (is_at i x y) fewer) refl)))
  where
    by : (i x y : ℕ) (t : Bool) → any_of (is_at i x y) fewer ≡ t → blocks_in fewer (blocks_in more told) i x y ≡ blocks_in fewer told i x y
    by i x y false e = ap (λ t. cond t (blocks_in more told i x y) (no_blocks i x y)) e ∙ sym (ap (λ t. cond t (told i x y) (no_blocks i x y)) e)
    by i x y true e = ap (λ t. cond (any_of (is_at i x y) fewer) (cond t (told i x y) (no_blocks i x y)) (no_blocks i x y)) (within i x y e)

pub first_told : (limits : Limits) (bytes : List ℕ) (rows : ℕ) (w : TellsMore limits bytes rows) → TellsRows limits bytes rows (first_blocks limits bytes rows w)
first_told limits bytes rows w =
    let v = w.told in
    let before = segments_of (v.place).items in
    let contents = (v.place).contents in
    let r = rows_more (frame_of limits before) (head_components (head_in (frame_of limits before) contents)) rows w.all w.enough in
    let few = row_places limits before contents rows in
    let same : blocks_in few w.blocks ≡ blocks_in few v.told =
    ap (blocks_in few) v.same ∙ fewer_same few (row_places limits before contents w.all) v.told (front_within (row_places limits before contents w.all) few r.0 r.1) in
    subst (λ b. TellsRows limits bytes rows b) (sym same) (fewer_rows limits bytes rows w.all w.blocks w.enough v)

-- WHATEVER FOLLOWS
pub rows_stay : (limits : Limits) (bytes more : List ℕ) (rows : ℕ) (x : Blocks) → TellsRows limits bytes rows x → TellsRows limits (bytes ++ more) rows x
rows_stay limits bytes more rows x w = record {
  front = w.front;
  rest = w.rest ++ more;
  cut = ap (λ l. l ++ more) w.cut ∙ append_assoc w.front w.rest more;
  place = w.place;
  of_all = w.of_all;
  places = w.places;
  more = w.more;
  told = w.told;
  tells = w.tells;
  first = w.first;
  same = w.same;
}

-- THE LAW: bytes complete one number of rows
pub completed_once : (limits : Limits) (bytes : List ℕ) (m n : ℕ) (x y : Blocks) → CompletesRows limits bytes m x → CompletesRows limits bytes n y → (m ≡ n) × (x ≡ y)
completed_once limits bytes m n x y a b =
    let few : (k l : ℕ) (u v : Blocks) → CompletesRows limits bytes k u → TellsRows limits bytes l v → k < l → ⊥ = λ k l u v c w h. c.1 _ (fewer_rows limits bytes (k + 1) l v (omega (arith, h)) w) in
    let same : m ≡ n = ⊎_elim (λ (h : m < n). absurd (few m n x y a b.0 h)) (λ (h : n ≤ m). ⊎_elim (λ (k : n < m). absurd (few n m y x b a.0 k)) (λ (k : m ≤ n). (let z : m ≡ n = omega (arith, h, k) in z)) (cases_lt n m)) (cases_lt m n) in
    (same, rows_once limits bytes n x y (subst (λ k. TellsRows limits bytes k x) same a.0) b.0)

-- and no more are decoded than it
pub told_few : (limits : Limits) (bytes : List ℕ) (m n : ℕ) (x y : Blocks) → TellsRows limits bytes m x → CompletesRows limits bytes n y → m ≤ n
told_few limits bytes m n x y w c = ⊎_elim (λ (h : n < m). absurd (c.1 _ (fewer_rows limits bytes (n + 1) m x (omega (arith, h)) w))) (λ (h : m ≤ n). h) (cases_lt n m)
