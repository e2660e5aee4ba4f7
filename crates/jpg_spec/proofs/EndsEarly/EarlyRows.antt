-- THE LAW: a file that ends early in a scan of all components, or after it, has the blocks of the MCU rows that it
-- completes, and none after the next one.
use Rattle.std.proofs.Common.{◌≡◌, ℕ, ◌+◌, ◌*◌, ◌/◌, ◌%◌, ◌<◌, ◌≤◌, Bool, true, false, cond, List, [], ◌∷◌, ◌++◌, length, map, take, drop, refl, sym, ap, ◌∙◌, subst, arith, inl, inr, ◌⊎◌, ⊎_elim, pos}
use Rattle.std.specs.Prelude.{◌&&◌, nat_lt, replicate}
use Rattle.std.proofs.Math.Path.{fun_ext}
use Rattle.std.proofs.Math.Nat.{div-add-mod', mod-lt}
use Rattle.std.proofs.lemmas.Bool.{cases_lt}
use Rattle.std.proofs.lemmas.Nat.{mul-le}
use Rattle.std.proofs.lemmas.List.{append_assoc, length-append, length-map, length-replicate, take-append-drop, take-append-le, take_all}
use Rattle.jpg_spec.specs.Bits.{bits_of_bytes}
use Rattle.jpg_spec.specs.Lists.{any_of, is_among, joined}
use Rattle.jpg_spec.specs.Geometry.{Frame, is_real, units}
use Rattle.jpg_spec.specs.FrameHeader.{AreLimits}
use Rattle.jpg_spec.specs.Segments.{head_components}
use Rattle.jpg_spec.specs.Elements.{UnitLeft, zeros}
use Rattle.jpg_spec.specs.Parts.{StandsInUnits}
use Rattle.jpg_spec.specs.Scan.{Blocks, Scan, unit_at}
use Rattle.jpg_spec.specs.Meaning.{Meaning, real_blocks}
use Rattle.jpg_spec.specs.Markers.{Segment}
use Rattle.jpg_spec.specs.InForce.{frame_of, head_in}
use Rattle.jpg_spec.specs.Items.{segments_of}
use Rattle.jpg_spec.specs.FileMeaning.{no_blocks, scan_after}
use Rattle.jpg_spec.specs.FirstFault.{AfterItems, InsideScan, HaveBegun}
use Rattle.jpg_spec.specs.Early.{EndsAfter, EndsInside, ScanInPart, UnitsWhole}
use Rattle.jpg_spec.specs.PictureInWork.{is_at, AreDistinct, ScanSoFar}
use Rattle.jpg_spec.specs.ScanReading.{ScanAt, ScanPlace}
use Rattle.jpg_spec.specs.ScanRows.{first_rows, scan_row}
use Rattle.jpg_spec.specs.RowsParsed.{BeginsScanOfAll, CompletesRows, TellsFirst, blocks_in, row_places}
use Rattle.jpg_spec.specs.RowLaws.{EndsEarlyInRows, ReadsUnits, complete_rows, early_rows}
use Rattle.jpg_spec.specs.declared.frame.Limits.{Limits}
use Rattle.jpg_spec.specs.declared.frame.Place.{Place}
use Rattle.jpg_spec.proofs.Files.BlocksOnce.{joined_chunks}
use Rattle.jpg_spec.proofs.Basics.Common.{both, clash, lt_of, neither}
use Rattle.jpg_spec.proofs.EndsEarly.EarlyBegun.{AllNamed, begun_behind}
use Rattle.jpg_spec.proofs.EndsEarly.EarlySoFar.{inside_scan}
use Rattle.jpg_spec.proofs.Headers.FileHeader.{HasFirstScan, items_header}
use Rattle.jpg_spec.proofs.Headers.FrameFound.{framed}
use Rattle.jpg_spec.proofs.Places.PictureInWork.{any_join, joined_join, so_far_units}
use Rattle.jpg_spec.proofs.Places.PlacesDistinct.{units_distinct}
use Rattle.jpg_spec.proofs.Places.PlacesFound.{real_found}
use Rattle.jpg_spec.proofs.Basics.Rows.{append_apart}
use Rattle.jpg_spec.proofs.McuRows.RowBands.{front_within}
use Rattle.jpg_spec.proofs.McuRows.RowCounts.{head_names, length_rows, rows_down, units_by_row}
use Rattle.jpg_spec.proofs.McuRows.RowsHeader.{all_complete, begun_frame, begun_places}
use Rattle.jpg_spec.proofs.McuRows.RowsLater.{blank, head_there}
use Rattle.jpg_spec.proofs.McuRows.RowsOfItems.{HoldsRows, rows_of_first}
use Rattle.jpg_spec.proofs.McuRows.RowsOnce.{completed_once, rows_more, whole_band}
use Rattle.jpg_spec.proofs.McuRows.RowsReader.{reads_complete, whole_completes}
use Rattle.jpg_spec.proofs.McuRows.RowsStopped.{HasWholeBands, bands_size}
use Rattle.jpg_spec.proofs.Bits.UnitsCut.{AreWhole, FirstUnits, few_told, first_units}
use Rattle.jpg_spec.proofs.Places.Untouched.{frame_stays}

-- PLACES that begin those of a scan: this many MCU rows of them are complete

pub shorter_front : {A : Type 0} (a b x y : List A) → a ++ x ≡ b ++ y → length b ≤ length a → (more : List A) × (a ≡ b ++ more)
shorter_front a b x y e few =
    let n = length b in
    let is : take n a ≡ b = sym (take-append-le n a x few) ∙ ap (take n) e ∙ take-append-le n b y (omega arith) ∙ take_all n b (omega arith) in
    (drop n a, sym (take-append-drop n a) ∙ ap (λ l. l ++ drop n a) is)

record RowFit (f : Frame) (ids : List ℕ) (told : List Place) : Type 0 where
  pub rows : ℕ
  pub more : List Place
  pub first : told ≡ first_rows f ids rows ++ more
  pub few : length told < length (first_rows f ids (rows + 1))
  pub within : (i x y : ℕ) → any_of (is_at i x y) told ≡ true → any_of (is_at i x y) (first_rows f ids (rows + 1)) ≡ true

row_fit : (f : Frame) (ids : List ℕ) (told rest : List Place) → units f ids ≡ told ++ rest → 1 ≤ length (units f ids) → RowFit f ids told
row_fit f ids told rest cut some = record {
  rows = n;
  more = first.0;
  first = first.1;
  few = omega (arith, count, small, length_rows f ids (n + 1), next);
  within = λ i x y m. front_within (first_rows f ids (n + 1)) told wide.0 wide.1 i x y m;
}
  where
    R : ℕ
    R = length (scan_row f ids 0)

    D : ℕ
    D = rows_down f ids

    all : length (units f ids) ≡ D * R
    all = ap length (units_by_row f ids) ∙ length_rows f ids D

    one : 1 ≤ R
    one = ⊎_elim (λ (h : 0 < R). omega (arith, h)) (λ (h : R ≤ 0). (let z : R ≡ 0 = omega (arith, h) in absurd (omega (arith, some, all, ap (λ r. D * r) z)))) (cases_lt 0 R)

    n : ℕ
    n = length told / R

    count : length told ≡ n * R + length told % R
    count = sym (div-add-mod' (length told) R)

    small : length told % R < R
    small = mod-lt (length told) one

    next : (n + 1) * R ≡ n * R + R
    next = grind arith

    low : n ≤ D
    low =
        ⊎_elim
        (λ (h : D < n). (let a : (D + 1) * R ≤ n * R = mul-le (D + 1) R n R (omega (arith, h)) (omega arith) in
        let b : (D + 1) * R ≡ D * R + R = grind arith in
        let c = ap length cut ∙ length-append told rest in
        absurd (omega (arith, a, b, c, all, count, one))))
        (λ (h : n ≤ D). h) (cases_lt D n)

    first : (more : List Place) × (told ≡ first_rows f ids n ++ more)
    first =
        let r = rows_more f ids n D low in
        shorter_front told (first_rows f ids n) rest r.0 (sym cut ∙ units_by_row f ids ∙ r.1) (omega (arith, count, length_rows f ids n))

    wide : (more : List Place) × (first_rows f ids (n + 1) ≡ told ++ more)
    wide =
        let up = rows_more f ids D (D + 1) (omega arith) in
        let r = rows_more f ids (n + 1) (D + 1) (omega (arith, low)) in
        shorter_front (first_rows f ids (n + 1)) told r.0 (rest ++ up.0) (sym r.1 ∙ up.1 ∙ ap (λ l. l ++ up.0) (sym (units_by_row f ids) ∙ cut) ∙ append_assoc told rest up.0) (omega (arith, count, small, length_rows f ids (n + 1), next))

-- WHERE IT ENDS: its blocks, of which this many rows are complete
record EarlyAt (limits : Limits) (bytes : List ℕ) (before : List Segment) (contents : List ℕ) (M : Meaning) : Type 0 where
  pub all : Blocks
  pub rows : ℕ
  pub completed : CompletesRows limits bytes rows (blocks_in (row_places limits before contents rows) all)
  pub same : M.blocks ≡ real_blocks (frame_of limits before) all
  pub none : (i x y : ℕ) → i < length (frame_of limits before).components → is_real (frame_of limits before) i x y ≡ true → any_of (is_at i x y) (row_places limits before contents (rows + 1)) ≡ false → all i x y ≡ zeros 64

named_there : (limits : Limits) (bytes : List ℕ) (before : List Segment) (contents : List ℕ) (i : ℕ) → BeginsScanOfAll limits bytes before contents → i < length (frame_of limits before).components → is_among i (head_components (head_in (frame_of limits before) contents)) ≡ true
named_there limits bytes before contents i begins lt =
    let f = frame_of limits before in head_names f (head_in f contents) i (head_there limits before contents begins.unbroken) begins.of_all.all lt

-- AFTER THE SCAN all its rows are there
behind_at : (limits : Limits) (bytes : List ℕ) (M : Meaning) (before : List Segment) (contents : List ℕ) → AreLimits limits → BeginsScanOfAll limits bytes before contents → HaveBegun limits bytes → EndsAfter limits bytes M → EarlyAt limits bytes before contents M
behind_at limits bytes M before contents limited begins begun p = record {
  all = (p.behind).blocks;
  rows = D;
  completed = all_complete limits bytes D (blocks_in (row_places limits before contents D) b.blocks) before contents begins places held.told;
  same = ap (λ (N : Meaning). N.blocks) p.meaning ∙ ap (λ g. real_blocks g b.blocks) held.framed;
  none = λ i x y there real away. absurd (clash (any_of (is_at i x y) (row_places limits before contents (D + 1))) (found i x y there real) away);
}
  where
    b : AfterItems limits bytes p.items p.tail
    b = p.behind

    f : Frame
    f = frame_of limits before

    ids : List ℕ
    ids = head_components (head_in (frame_of limits before) contents)

    D : ℕ
    D = rows_down (frame_of limits before) (head_components (head_in (frame_of limits before) contents))

    places : (scan_after limits before contents).places ≡ row_places limits before contents D
    places = units_by_row f ids

    named : AllNamed limits (segments_of p.items)
    named = begun_behind limits bytes p.items p.tail p.behind p.part begun

    first : HasFirstScan limits p.items (p.behind).front
    first = items_header limits p.items b.blocks b.front b.spelled b.leads named.found named.complete

    held : HoldsRows limits bytes before contents p.items (p.behind).blocks D
    held = rows_of_first limits bytes before contents p.items b.blocks b.front p.tail D first begins b.cut b.spelled b.leads places

    found : (i x y : ℕ) → i < length (frame_of limits before).components → is_real (frame_of limits before) i x y ≡ true → any_of (is_at i x y) (row_places limits before contents (D + 1)) ≡ true
    found i x y there real =
        let r = rows_more f ids D (D + 1) (omega arith) in
        front_within (first_rows f ids (D + 1)) (first_rows f ids D) r.0 r.1 i x y
        (sym (ap (any_of (is_at i x y)) (units_by_row f ids)) ∙ real_found f ids i x y (begun_frame limits bytes before contents limited begins) there (named_there limits bytes before contents i begins there) real)

-- INSIDE THE SCAN

-- a sequential scan of complete blocks
units_whole : (s : Scan) (blocks : Blocks) (places : List Place) → HasWholeBands s → ((i x y : ℕ) → length (blocks i x y) ≡ 64) → AreWhole (map (unit_at s blocks) places)
units_whole s blocks [] wide sizes = tt
units_whole s blocks (p ∷ places) wide sizes = (wide (blocks p.component p.x p.y) (sizes p.component p.x p.y), units_whole s blocks places wide sizes)

-- the place
abbrev place_of : (limits : Limits) → (bytes tail : List ℕ) → InsideScan limits bytes tail → ScanPlace
place_of limits bytes tail i = record { items = i.items; blocks = i.blocks; contents = i.contents; done = i.done; coded = i.coded; places = i.places; later = i.later }

abbrev at_place : (limits : Limits) → (bytes tail : List ℕ) → (i : InsideScan limits bytes tail) → ScanAt limits bytes (place_of limits bytes tail i) tail
at_place limits bytes tail i = record {
  front = i.front;
  head = i.head;
  text = i.text;
  cut = i.cut;
  spelled = i.spelled;
  header = i.header;
  intervals = i.intervals;
  leads = i.leads;
  allowed = i.allowed;
  due = i.due;
}

-- the first scan, of all components
record IsInAll (limits : Limits) (bytes tail : List ℕ) (i : InsideScan limits bytes tail) : Type 0 where
  pub limited : AreLimits limits
  pub begins : BeginsScanOfAll limits bytes (segments_of i.items) i.contents

record InsideAt (limits : Limits) (bytes tail : List ℕ) (i : InsideScan limits bytes tail) (now : Blocks) : Type 0 where
  pub rows : ℕ
  pub completed : CompletesRows limits bytes rows (blocks_in (row_places limits (segments_of i.items) i.contents rows) now)
  pub none : (x y z : ℕ) → any_of (is_at x y z) (row_places limits (segments_of i.items) i.contents (rows + 1)) ≡ false → now x y z ≡ zeros 64

not_among : (a b : Bool) → (a ≡ true → b ≡ true) → b ≡ false → a ≡ false
not_among true b h e = absurd (clash b (h refl) e)
not_among false b h e = refl

-- with units of the current interval
module _ (limits : Limits) (bytes tail : List ℕ) (i : InsideScan limits bytes tail) (z : IsInAll limits bytes tail i) (fill : (n : ℕ) × (tail ≡ replicate n 255)) (now : Blocks) where
  abbrev f : Frame
  f = frame_of limits (segments_of i.items)

  abbrev ids : List ℕ
  ids = head_components (head_in f i.contents)

  abbrev s : Scan
  s = scan_after limits (segments_of i.items) i.contents

  blocks_none : i.blocks ≡ no_blocks
  blocks_none = blank limits i.items i.blocks i.leads ((z.begins).of_all).first

  sizes : (x y k : ℕ) → length (i.blocks x y k) ≡ 64
  sizes x y k = ap (λ (b : Blocks). length (b x y k)) blocks_none ∙ length-replicate 64 (pos 0)

  wide : HasWholeBands s
  wide block long = ap length (whole_band limits (segments_of i.items) i.contents block ((z.begins).of_all).sequential long) ∙ long

  run : s.coding.most_run ≡ 0
  run = ap (λ b. cond b 14 0) ((z.begins).of_all).sequential

  distinct : AreDistinct s.places
  distinct = units_distinct f ids (head_there limits (segments_of i.items) i.contents i.allowed.1).distinct

  units_inside : (w : UnitsWhole s i.blocks i.done i.coded i.places i.later now) → InsideAt limits bytes tail i now
  units_inside w = record {
    rows = fit.rows;
    completed = reads_complete limits bytes fit.rows (record {
      place = place_of limits bytes tail i;
      tail = tail;
      at = at_place limits bytes tail i;
      now = now;
      reads = reads;
      next = inl (w.part, w.left, subst (λ (us : List UnitLeft). StandsInUnits s.coding us (w.told ++ w.part) w.left (bits_of_bytes i.coded)) (sym same_units) w.stands, short);
      more = fit.more;
      first = fit.first;
      few = fit.few;
      last = inl fill;
    });
    none = λ x y k away.
        (let none = not_among (any_of (is_at x y k) (joined (w.so_far).front ++ w.whole)) (any_of (is_at x y k) (first_rows f ids (fit.rows + 1))) (fit.within x y k) away in
        let apart = neither (any_of (is_at x y k) (joined (w.so_far).front)) (any_of (is_at x y k) w.whole) (sym (any_join (is_at x y k) (joined (w.so_far).front) w.whole) ∙ none) in
        (w.read).changes.elsewhere x y k apart.1 ∙ ((w.so_far).changes).elsewhere x y k apart.0 ∙ ap (λ (b : Blocks). b x y k) blocks_none);
  }
    where
      places : s.places ≡ (joined (w.so_far).front ++ w.whole) ++ (w.due ++ joined i.later)
      places =
          sym (joined_chunks s.interval s.places) ∙ ap joined (w.so_far).cut ∙ joined_join (w.so_far).front (i.places ∷ i.later) ∙ ap (λ l. joined (w.so_far).front ++ (l ++ joined i.later)) w.all
          ∙ ap (λ l. joined (w.so_far).front ++ l) (append_assoc w.whole w.due (joined i.later)) ∙ sym (append_assoc (joined (w.so_far).front) w.whole (w.due ++ joined i.later))

      fit : RowFit f ids (joined (w.so_far).front ++ w.whole)
      fit = row_fit f ids (joined (w.so_far).front ++ w.whole) (w.due ++ joined i.later) places (begun_places limits bytes (segments_of i.items) i.contents z.begins)

      units_before : List UnitLeft
      units_before = map (unit_at s i.blocks) i.places

      same_units : map (unit_at s w.work) i.places ≡ map (unit_at s i.blocks) i.places
      same_units = so_far_units s i.blocks w.work i.done i.places i.later distinct w.so_far

      all_whole : AreWhole (map (unit_at s i.blocks) i.places)
      all_whole = units_whole s i.blocks i.places wide sizes

      count : length (map (unit_at s i.blocks) i.places) ≡ length w.whole + length w.due
      count = length-map i.places (unit_at s i.blocks) ∙ ap length w.all ∙ length-append w.whole w.due

      told_size : length w.told ≡ 64 * length w.whole
      told_size = ap length (w.read).told_there ∙ bands_size s now w.whole wide (w.read).changes.sizes

      q : FirstUnits s.coding (map (unit_at s i.blocks) i.places) (w.told ++ w.part) w.left (bits_of_bytes i.coded)
      q = first_units s.coding units_before (w.told ++ w.part) w.left (bits_of_bytes i.coded) run all_whole w.stands

      same_told : w.told ≡ q.whole
      same_told = (append_apart w.told q.whole w.part q.rest (omega (arith, told_size, q.size, count, w.count)) q.told_is).0

      short : length w.part < 64
      short =
          let few = few_told s.coding units_before (w.told ++ w.part) w.left (bits_of_bytes i.coded) run all_whole w.stands in
          omega (arith, few, length-append w.told w.part, told_size, count, w.count)

      first : TellsFirst s.coding (map (unit_at s w.work) i.places) w.told q.front
      first =
          subst (λ (us : List UnitLeft). TellsFirst s.coding us w.told q.front) (sym same_units) (subst (λ l. TellsFirst s.coding units_before l q.front) (sym same_told) q.first)

      reads : ReadsUnits limits (place_of limits bytes tail i) now
      reads = record {
        leads = i.leads;
        of_all = (z.begins).of_all;
        distinct = distinct;
        old = w.work;
        so_far = w.so_far;
        part = w.whole;
        rest = w.due;
        cut = w.all;
        told = w.told;
        read = w.read;
        bits = q.front;
        behind = q.behind;
        coded = q.bits_is;
        spelled = first;
      }

  -- or with all of it
  interval_inside : (k : ScanSoFar s i.blocks now (i.done ++ i.coded ∷ []) i.later) → InsideAt limits bytes tail i now
  interval_inside k = record {
    rows = fit.rows;
    completed = whole_completes limits bytes fit.rows (record {
      place = place_of limits bytes tail i;
      tail = tail;
      at = at_place limits bytes tail i;
      now = now;
      reads = record { leads = i.leads; of_all = (z.begins).of_all; so_far = k };
      more = fit.more;
      first = fit.first;
      few = fit.few;
      last = inl fill;
    });
    none = λ x y n away.
        (let none = not_among (any_of (is_at x y n) (joined k.front)) (any_of (is_at x y n) (first_rows f ids (fit.rows + 1))) (fit.within x y n) away in
        (k.changes).elsewhere x y n none ∙ ap (λ (b : Blocks). b x y n) blocks_none);
  }
    where
      places : s.places ≡ joined k.front ++ joined i.later
      places = sym (joined_chunks s.interval s.places) ∙ ap joined k.cut ∙ joined_join k.front i.later

      fit : RowFit f ids (joined k.front)
      fit = row_fit f ids (joined k.front) (joined i.later) places (begun_places limits bytes (segments_of i.items) i.contents z.begins)

  part_inside : ScanInPart s i.blocks i.done i.coded i.places i.later now → InsideAt limits bytes tail i now
  part_inside (inl w) = units_inside w
  part_inside (inr k) = interval_inside k

-- it is this scan
inside_at : (limits : Limits) (bytes : List ℕ) (M : Meaning) (before : List Segment) (contents : List ℕ) → AreLimits limits → BeginsScanOfAll limits bytes before contents → EndsInside limits bytes M → EarlyAt limits bytes before contents M
inside_at limits bytes M before contents limited begins p =
    let i = p.at in
    let one = inside_scan limits bytes p.tail before contents begins i in
    let there : BeginsScanOfAll limits bytes (segments_of i.items) i.contents =
    subst (λ c. BeginsScanOfAll limits bytes (segments_of i.items) c) (sym one.1) (subst (λ b. BeginsScanOfAll limits bytes b contents) (sym one.0) begins) in
    let k = part_inside limits bytes p.tail i (record { limited = limited; begins = there }) p.fill p.after p.scan in
    let stays = frame_stays limits (segments_of i.items) 0xda i.contents (framed (segments_of i.items) i.allowed.0) i.allowed.0 in
    let here : EarlyAt limits bytes (segments_of i.items) i.contents M = record {
      all = p.after;
      rows = k.rows;
      completed = k.completed;
      same = ap (λ (N : Meaning). N.blocks) p.meaning ∙ ap (λ g. real_blocks g p.after) stays;
      none = λ x y n lt real away. k.none x y n away;
    } in
    subst (λ c. EarlyAt limits bytes before c M) one.1 (subst (λ b. EarlyAt limits bytes b i.contents M) one.0 here)

-- THE LAW
early_at : (limits : Limits) (bytes : List ℕ) (M : Meaning) (rows : ℕ) → (w : EndsEarlyInRows limits bytes M rows) → EarlyAt limits bytes (w.ends).before (w.ends).contents M
early_at limits bytes M rows w = by (w.ends).early.1
  where
    by : EndsAfter limits bytes M ⊎ EndsInside limits bytes M → EarlyAt limits bytes (w.ends).before (w.ends).contents M
    by (inl p) = behind_at limits bytes M (w.ends).before (w.ends).contents w.limited (w.ends).begins (w.ends).early.0.begun p
    by (inr p) = inside_at limits bytes M (w.ends).before (w.ends).contents w.limited (w.ends).begins p

-- real blocks of some places
real_in : (f : Frame) (places : List Place) (all : Blocks) → blocks_in places (real_blocks f all) ≡ real_blocks f (blocks_in places all)
real_in f places all = fun_ext (λ i. fun_ext (λ x. fun_ext (λ y. by i x y (any_of (is_at i x y) places) (nat_lt i (length f.components) && is_real f i x y) refl refl)))
  where
    by : (i x y : ℕ) (a b : Bool) → any_of (is_at i x y) places ≡ a → (nat_lt i (length f.components) && is_real f i x y) ≡ b → blocks_in places (real_blocks f all) i x y ≡ real_blocks f (blocks_in places all) i x y
    by i x y true b e h = ap (λ t. cond t (real_blocks f all i x y) (no_blocks i x y)) e ∙ sym (ap (λ t. cond (nat_lt i (length f.components) && is_real f i x y) (cond t (all i x y) (no_blocks i x y)) (zeros 64)) e)
    by i x y false true e h =
        ap (λ t. cond t (real_blocks f all i x y) (no_blocks i x y)) e ∙ sym (ap (λ t. cond t (blocks_in places all i x y) (zeros 64)) h ∙ ap (λ t. cond t (all i x y) (no_blocks i x y)) e)
    by i x y false false e h = ap (λ t. cond t (real_blocks f all i x y) (no_blocks i x y)) e ∙ sym (ap (λ t. cond t (blocks_in places all i x y) (zeros 64)) h)

pub rows_complete : (limits : Limits) (bytes : List ℕ) (M : Meaning) (rows : ℕ) (w : EndsEarlyInRows limits bytes M rows) → early_rows limits bytes M rows w rows ≡ complete_rows limits bytes M rows w
rows_complete limits bytes M rows w =
    let a = early_at limits bytes M rows w in
    let f = frame_of limits (w.ends).before in
    let P = row_places limits (w.ends).before (w.ends).contents in
    let one = completed_once limits bytes rows a.rows w.blocks (blocks_in (P a.rows) a.all) w.completed a.completed in
    ap (λ n. blocks_in (P n) M.blocks) one.0 ∙ ap (blocks_in (P a.rows)) a.same ∙ real_in f (P a.rows) a.all ∙ ap (real_blocks f) (sym one.1)

pub rows_none : (limits : Limits) (bytes : List ℕ) (M : Meaning) (rows : ℕ) (w : EndsEarlyInRows limits bytes M rows) → early_rows limits bytes M rows w (rows + 1) ≡ M.blocks
rows_none limits bytes M rows w = fun_ext (λ i. fun_ext (λ x. fun_ext (λ y. by i x y (any_of (is_at i x y) (row_places limits (w.ends).before (w.ends).contents (rows + 1))) refl)))
  where
    a : EarlyAt limits bytes (w.ends).before (w.ends).contents M
    a = early_at limits bytes M rows w

    f : Frame
    f = frame_of limits (w.ends).before

    P : ℕ → List Place
    P n = row_places limits (w.ends).before (w.ends).contents n

    count : rows ≡ a.rows
    count = (completed_once limits bytes rows a.rows w.blocks (blocks_in (P a.rows) a.all) w.completed a.completed).0

    none : (i x y : ℕ) → any_of (is_at i x y) (row_places limits (w.ends).before (w.ends).contents (rows + 1)) ≡ false → M.blocks i x y ≡ zeros 64
    none i x y away = ap (λ (b : Blocks). b i x y) a.same ∙ real (nat_lt i (length f.components) && is_real f i x y) refl
      where
        real : (t : Bool) → (nat_lt i (length f.components) && is_real f i x y) ≡ t → real_blocks f a.all i x y ≡ zeros 64
        real false e = ap (λ t. cond t (a.all i x y) (zeros 64)) e
        real true e =
            let k = both (nat_lt i (length f.components)) (is_real f i x y) e in
            ap (λ t. cond t (a.all i x y) (zeros 64)) e ∙ a.none i x y (lt_of i (length f.components) k.0) k.1 (subst (λ n. any_of (is_at i x y) (P (n + 1)) ≡ false) count away)

    by : (i x y : ℕ) (t : Bool) → any_of (is_at i x y) (row_places limits (w.ends).before (w.ends).contents (rows + 1)) ≡ t → blocks_in (row_places limits (w.ends).before (w.ends).contents (rows + 1)) M.blocks i x y ≡ M.blocks i x y
    by i x y true e = ap (λ t. cond t (M.blocks i x y) (no_blocks i x y)) e
    by i x y false e = ap (λ t. cond t (M.blocks i x y) (no_blocks i x y)) e ∙ sym (none i x y e)
