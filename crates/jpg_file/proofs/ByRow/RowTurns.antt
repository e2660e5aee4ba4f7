-- Bits, and the data of a scan, while an MCU row is read, of which some bits may wait.
use Rattle.std.proofs.Common.{◌≡◌, ℕ, Bool, List, sym, subst, ◌+◌, ◌-◌, ◌*◌, ◌/◌, ◌≤◌, length, drop, get_or, refl, ap, ◌∙◌, arith, false, [], ◌∷◌, ◌++◌, Ok, Err, take, append_assoc, zero, suc, ◌^◌, ◌<◌, ◌==◌, true, cond, ⊎_elim, ◌%◌, inl, inr, Result, nat_lt, replicate, ◌&&◌, ◌||◌, map, flat_map, get_or-drop, get_or-take, length-append, length-drop, length-take, add-mul, div-le_self, le-div_iff_mul-le, div-add-mod', div-lt_iff_lt-mul, mod-lt, All}
use Rattle.jpg_coefs.specs.Machine.{Interval, TakesBits, Chain, Kind}
use Rattle.jpg_coefs.specs.Picture.{Picture, is_padded, map_of}
use Rattle.jpg_coefs.specs.declared.machine.Taken.{Taken}
use Rattle.jpg_seq.specs.Reader.{sequential, IsCountOf, PassesPlaces, ReadsInto, AreInRow, one_row, row_units, rows_in_mcu, top_of}
use Rattle.jpg_seq.specs.declared.reader.SeqReader.{SeqReader}
use Rattle.jpg_file.specs.Read.Machine.{any_scan, IsInsideMcuRow, IsOpenRowScan, TakesRowBits, GivesBits, GivesRun, waits_of, AnswersIn}
use Rattle.jpg_file.specs.declared.read.machine.ScanReader.{ScanReader}
use Rattle.jpg_file.specs.declared.read.machine.ScanReader.TheVariants.{Sequential}
use Rattle.jpg_file.proofs.Scans.Machines.{is_sequential, takes_of}
use Rattle.jpg_spec.specs.Bits.{bits_of, bits_of_bytes}
use Rattle.jpg_coefs.specs.declared.machine.Taken.TheVariants as taken
use Rattle.jpg_file.specs.Read.Strips.{CountsRows}
use Rattle.jpg_file.specs.Read.Window.{CountsRow, CanTake, TakesBitsInto, TakesBytesInto}
use Rattle.jpg_file.specs.Read.InData.{HalfData, AfterBytes, TakesRun, IsRowIn, KeepsRowIn, TurnsRow, block_rows_of, completes_row, unfinished, CountsScan, IsBlankAfter, IsDataOf, PassesByte, AtWork, scan_answer, work_after, ArePlain, InData, scan_left}
use Rattle.jpg_file.specs.declared.read.rows.RowWork.{RowWork}
use Rattle.jpg_file.proofs.Scans.Runs.{given, run_given, answers_after}
use Rattle.jpg_spec.specs.Items.{Item, segments_of}
use Rattle.jpg_spec.specs.ScanReading.{ScanPlace, ScanAt, with_byte}
use Rattle.jpg_spec.specs.declared.frame.Limits.{Limits}
use Rattle.jpg_coefs.specs.declared.machine.UnitStep.TheVariants as unit
use Rattle.jpg_coefs.proofs.Chains.{chain_then}
use Rattle.jpg_file.specs.declared.read.scan.InScan.{InScan}
use Rattle.jpg_file.proofs.Scans.ScanBytes.{due_data, before_last, open_at, of_half, of_work, never_over}
use Rattle.jpg_spec.proofs.Files.ScanSteps.{plain_data}
use Rattle.std.proofs.lemmas.Bool.{cases_lt}
use Rattle.std.proofs.lemmas.Bool.Decides.{nat_tests}
use Rattle.std.proofs.lemmas.List.Elements.{All-get_or, All-nil}
use Rattle.std.proofs.lemmas.Nat.{mul-le}
use Rattle.jpg_spec.specs.Elements.{zeros}
use Rattle.jpg_spec.specs.Geometry.{Frame, component_at, div_up, h_max, mcu_units, no_component, scan_mcus_across, units, v_max, blocks_across, mcu_part, mcus_across, place}
use Rattle.jpg_spec.specs.FrameHeader.{HasFactors, IsFrame}
use Rattle.jpg_spec.specs.Scan.{Blocks}
use Rattle.jpg_spec.proofs.Basics.Common.{both, lt_of, lt_yes, not_same, clash, same_of, zero_is}
use Rattle.jpg_base.specs.Cursor.{AreIn, scan_mcus_down}
use Rattle.jpg_base.proofs.Grids.{across_low, down_high, down_low}
use Rattle.jpg_base.proofs.ScanPlaces.{few_blocks, all_rows, all_row, all_ids}
use Rattle.jpg_base.proofs.UnitCounts.{length_units, some_factors}
use Rattle.jpg_coefs.proofs.Maps.{blank_is}
use Rattle.jpg_spec.specs.FileMeaning.{scan_after, no_blocks}
use Rattle.jpg_spec.specs.InForce.{frame_of, head_in}
use Rattle.jpg_spec.specs.Segments.{ScanHead, head_components}
use Rattle.jpg_spec.specs.declared.fault.Fault.{Fault}
use Rattle.jpg_file.specs.Read.Step.{IsNoRow}
use Rattle.jpg_file.specs.declared.read.step.Step.{Step}
use Rattle.jpg_file.specs.declared.read.step.Step.TheVariants as step
use Rattle.std.proofs.lemmas.List.{get_or_append_left}
use Rattle.jpg_spec.specs.Lists.{any_of, below}
use Rattle.jpg_spec.specs.PictureInWork.{is_at}
use Rattle.jpg_spec.specs.declared.frame.Place.{Place}
use Rattle.jpg_spec.specs.ScanRows.{scan_row}
use Rattle.jpg_seq.proofs.Machines.{row_next}
use Rattle.jpg_file.specs.declared.read.window.Window.TheVariants as window

-- The machine of a sequential scan among the others, while an MCU row is read.

pub own : (m : ScanReader) (machine : SeqReader) (whole : Picture) → m ≡ Sequential machine → IsOpenRowScan m whole → (i : Interval) × (bits : List Bool) × sequential.stands machine i bits whole
own m machine whole is o = (o.0, o.1, is_sequential.own machine o.0 o.1 whole (subst (λ (q : ScanReader). any_scan.stands q o.0 o.1 whole) is o.2))

module _ (tops : List ℕ) (m : ScanReader) (machine : SeqReader) (row : Picture) (is : m ≡ Sequential machine) where
  pub row_takes : (most : ℕ) (new : SeqReader) (after : Picture) (store rest : List Bool) (answer : Taken)
      → ReadsInto most tops machine row store answer new after rest → TakesRowBits most tops m row store answer (Sequential new) after rest
  row_takes most new after store rest answer t = λ whole at o.
      (let k = t one_row whole at (own m machine whole is o) in
      let a = takes_of (λ q. Sequential q) sequential any_scan is_sequential most machine new whole k.0 store rest answer k.2 in
      (k.0, k.1, subst (λ (q : ScanReader). TakesBits any_scan most q whole store answer (Sequential new) k.0 rest) (sym is) a))

  pub row_inside : (most : ℕ) → IsInsideMcuRow tops row most m → AreInRow row.frame tops (take most machine.cursor)
  row_inside most inside = subst (λ (q : SeqReader). AreInRow row.frame tops (take most q.cursor)) (let e : Sequential inside.machine ≡ Sequential machine = sym inside.is ∙ is in let z : inside.machine ≡ machine = cc in z) inside.inside

-- The current MCU row: the result of its data, and how many of its units are left.

few_passed : (most : ℕ) (m new : SeqReader) (answer : Taken) → (p : PassesPlaces most m answer new) → p.units ≤ most
few_passed most m new taken.More p = omega (arith, p.few)
few_passed most m new taken.Units p = omega (arith, p.few.0)
few_passed most m new taken.IntervalDone p = p.few.0
few_passed most m new (taken.Fault f) p = omega (arith, p.few)

waits_all : (most : ℕ) (m new : SeqReader) (answer : Taken) (rest : List Bool) → (p : PassesPlaces most m answer new) → 1 ≤ length (waits_of answer rest) → p.units ≡ most
waits_all most m new taken.Units rest p some = p.few.0
waits_all most m new other rest p some = absurd (omega (arith, some))

pub some_left : (most : ℕ) (m new : SeqReader) (answer : Taken) → PassesPlaces most m answer new → m.left - new.left ≤ most
some_left most m new answer p = omega (arith, p.left, few_passed most m new answer p)

pub counts_row : (w : RowWork) (machine : ScanReader) (m new : SeqReader) (row : Picture) (answer : Taken) (left : ℕ) (waiting rest : List Bool) → machine ≡ Sequential m
    → (p : PassesPlaces w.left m answer new) → w.left ≡ left + p.units → waiting ≡ waits_of answer rest
    → CountsRow w machine answer (record w { coefs = row; left = left; waiting = waiting }) (Sequential new)
counts_row w machine m new row answer left waiting rest is p count waits =
    subst (λ (q : ScanReader). CountsRow w q answer (record w { coefs = row; left = left; waiting = waiting }) (Sequential new)) (sym is)
    (record {
      same = refl;
      passed = p.units;
      left = count;
      interval = p.left;
      ended = λ e. (subst (λ a. IsCountOf w.left a new p.units) e p.few).1;
      wait = λ some. omega (arith, count, waits_all w.left m new answer rest p (subst (λ z. 1 ≤ length z) waits some));
    })

module _ (w : RowWork) (m after : ScanReader) (row : Picture) (answer : Taken) where
  -- DATA of the row

  pub data_takes : (left : ℕ) (bits rest waiting : List Bool) → waiting ≡ waits_of answer rest → TakesRowBits w.left w.tops m w.coefs bits answer after row rest
      → TakesBitsInto (window.Row w) m bits answer (window.Row (record w { coefs = row; left = left; waiting = waiting })) after
  data_takes left bits rest waiting waits t = λ whole at o.
      (let k = t whole at o in (k.0, k.1, subst (λ (z : List Bool). GivesBits any_scan m whole bits answer z after k.0) (sym waits) (given any_scan m whole w.left after k.0 bits rest answer k.2)))

  pub run_takes_row : (left : ℕ) (bytes : List ℕ) (count n : ℕ) (last waiting : List Bool) → 1 ≤ length bytes → count ≤ 8 * length bytes
      → n ≡ length bytes - length (drop count (bits_of_bytes bytes)) / 8 → last ≡ drop (count - 8 * (n - 1)) (bits_of 8 (get_or bytes (n - 1) 0))
      → waiting ≡ waits_of answer last → TakesRowBits w.left w.tops m w.coefs (bits_of_bytes bytes) answer after row (drop count (bits_of_bytes bytes))
      → TakesBytesInto (window.Row w) m bytes n answer (window.Row (record w { coefs = row; left = left; waiting = waiting })) after
  run_takes_row left bytes count n last waiting some within size is waits t = λ whole at o.
      (let k = t whole at o in (
        k.0,
        k.1,
        subst (λ (z : List Bool). GivesRun ScanReader any_scan m whole bytes n answer z after k.0) (sym waits) (run_given any_scan m after whole k.0 w.left bytes count n last answer some within size is k.2),
      ))

  -- at least one byte is taken
  pub some_in_row : (bytes : List ℕ) (count n : ℕ) → CanTake (window.Row w) m → 1 ≤ length bytes → count ≤ 8 * length bytes
      → n ≡ length bytes - length (drop count (bits_of_bytes bytes)) / 8
      → TakesRowBits w.left w.tops m w.coefs (bits_of_bytes bytes) answer after row (drop count (bits_of_bytes bytes)) → 1 ≤ n
  some_in_row bytes count n can some within size t =
      let k = t can.whole can.shows can.given in
      omega (arith, (run_given any_scan m after can.whole k.0 w.left bytes count n _ answer some within size refl k.2).count)

-- Bits that are passed to a machine while an MCU row is read, of which some wait.

module _ {M : Type 0} (k : Kind M) (m mid new : M) (now between after : Picture) where
  -- BITS, and then those that waited
  rest_then : (bits waiting rest : List Bool) (answer : Taken) → GivesBits k m now bits taken.Units waiting mid between
      → GivesBits k mid between waiting answer rest new after → GivesBits k m now bits answer rest new after
  rest_then bits waiting rest taken.More (front, cut, chain) (none, more) =
      let C : List Bool → Type 0 = λ z. Chain k m now z new after in
      (none, subst C (sym cut) (chain_then k m mid new now between after front waiting chain more))
  rest_then bits waiting rest taken.Units (front, cut, chain) (more, split, next) =
      (front ++ more, cut ∙ ap (λ z. front ++ z) split ∙ sym (append_assoc front more rest), chain_then k m mid new now between after front more chain next)
  rest_then bits waiting rest taken.IntervalDone (front, cut, chain) (none, a) =
      (none, subst (λ z. AnswersIn k m now z (Ok unit.IntervalDone) new after) (sym cut) (answers_after k m now mid new between after front waiting (Ok unit.IntervalDone) chain a))
  rest_then bits waiting rest (taken.Fault f) (front, cut, chain) (none, a) =
      (none, subst (λ z. AnswersIn k m now z (Err f) new after) (sym cut) (answers_after k m now mid new between after front waiting (Err f) chain a))

-- INSIDE DATA: the result of a data byte, some bits of which may wait

module _ (limits : Limits) (items : List Item) (contents bytes : List ℕ) where
  pub half_after : (p : ScanPlace) (byte : ℕ) (w : InScan) (before after : Picture) (answer : Taken) (waiting : List Bool) (m : ScanReader)
      → (p.items ≡ items) × (p.contents ≡ contents) → ScanAt limits bytes (with_byte p byte) [] → AtWork limits p w before → w.whole ≡ false
      → GivesBits any_scan w.machine before (bits_of 8 byte) answer waiting m after
      → AfterBytes limits items contents bytes (scan_answer answer) waiting (work_after w m answer) after
  half_after p byte w before after answer waiting m of at k e b = by answer waiting b
    where
      none : (answer : Taken) → GivesBits any_scan w.machine before (bits_of 8 byte) answer [] m after → AfterBytes limits items contents bytes (scan_answer answer) [] (work_after w m answer) after
      none answer b = due_data limits p w before e k items contents bytes byte m after answer of at b

      by : (answer : Taken) (waiting : List Bool) → GivesBits any_scan w.machine before (bits_of 8 byte) answer waiting m after → AfterBytes limits items contents bytes (scan_answer answer) waiting (work_after w m answer) after
      by answer [] b = none answer b
      by taken.More (bit ∷ bits) b = absurd (omega (arith, ap length b.0))
      by taken.Units (bit ∷ bits) b = record { place = p; byte = byte; of = of; at = at; gate = refl; old = w; before = before; work = k; due = e; same = refl; bits = b }
      by taken.IntervalDone (bit ∷ bits) b = absurd (omega (arith, ap length b.0))
      by (taken.Fault f) (bit ∷ bits) b = absurd (omega (arith, ap length b.0))

  -- the bits that waited are taken
  pub half_then : (waiting rest : List Bool) (s : InScan) (now after : Picture) (answer : Taken) (m : ScanReader)
      → HalfData limits items contents bytes waiting s now → GivesBits any_scan s.machine now waiting answer rest m after
      → AfterBytes limits items contents bytes (scan_answer answer) rest (work_after s m answer) after
  half_then waiting rest s now after answer m h b =
      let all = rest_then any_scan (h.old).machine s.machine m h.before now after (bits_of 8 h.byte) waiting rest answer h.bits b in
      subst (λ (w : InScan). AfterBytes limits items contents bytes (scan_answer answer) rest (work_after w m answer) after) (sym h.same)
      (half_after h.place h.byte h.old h.before after answer rest m h.of h.at h.work h.due all)

-- The data of a scan while an MCU row is read.

module _ (limits : Limits) (items : List Item) (contents bytes : List ℕ) where
  -- the machine represents the bits of the interval
  pub open_scan : (s : InScan) (now : Picture) → InData limits items contents bytes s now → s.whole ≡ false → IsOpenRowScan s.machine now
  open_scan s now d e = (let k = of_work limits d.place s now e d.work in (k.interval, k.taken, k.stands))

  pub open_half : (waiting : List Bool) (s : InScan) (now : Picture) → HalfData limits items contents bytes waiting s now → IsOpenRowScan s.machine now
  open_half waiting s now h = (let k = of_half limits items contents bytes waiting s now h in (k.interval, k.taken, k.stands))

-- SOME PLAIN BYTES one after another
pub run_takes : (s : InScan) (m : ScanReader) (now after : Picture) (run : List ℕ) (n : ℕ) (answer : Taken) (waiting : List Bool) → s.gate ≡ false → s.whole ≡ false → ArePlain run
    → GivesRun ScanReader any_scan s.machine now run n answer waiting m after → TakesRun s now run n (scan_answer answer) waiting (work_after s m answer) after
run_takes s m now after run n answer waiting gate whole plain g =
    let low = g.within in
    let byte = get_or run g.early 0 in
    let mid = work_after s g.mid taken.More in
    record {
      mid = mid;
      between = g.between;
      early = g.early;
      count = g.count;
      within = low;
      «open» = refl;
      before = before_last s now gate whole g.mid g.between run g.early (omega (arith, low)) plain g.chain;
      last = λ limits items contents bytes d.
          (let at = plain_data limits bytes d.place byte (open_at limits items contents bytes mid g.between d refl) (plain g.early low) in
          half_after limits items contents (bytes ++ byte ∷ []) d.place byte mid g.between after answer waiting m d.of at d.work refl g.last);
    }

-- From one MCU row of a scan of all components to the next: blocks, and how many units and MCU rows are left.

-- The first MCU row of a scan of all components, and from one row to the next.

-- AT LEAST ONE ROW

pub one_up : (n d : ℕ) → 1 ≤ n → 1 ≤ d → 1 ≤ div_up n d
one_up n d some low = (le-div_iff_mul-le low).1 (omega (arith, some, low))

one_each : (size n most : ℕ) → 1 ≤ size → 1 ≤ n → 1 ≤ most → 1 ≤ div_up (div_up (size * n) most) 8
one_each size n most some few low = let one : 1 * 1 ≤ size * n = mul-le 1 1 size n some few in one_up (div_up (size * n) most) 8 (one_up (size * n) most (omega (arith, one)) low) (omega arith)

pub some_rows : (f : Frame) (ids : List ℕ) → IsFrame f → AreIn f ids → 1 ≤ scan_mcus_down f ids
some_rows f [] k there = absurd (omega (arith, there.some))
some_rows f (i ∷ []) k there =
    one_each f.height (component_at f i).v (v_max f) k.height_low (All-get_or HasFactors f.components i no_component (there.there 0 0 (omega arith)) k.factors).v_low (down_low f.components k.factors k.count_low)
some_rows f (i ∷ j ∷ more) k there = (let low = down_low f.components k.factors k.count_low in one_up f.height (8 * v_max f) k.height_low (omega (arith, low)))

-- the rows of a component that is there
pub rows_there : (f : Frame) (i : ℕ) → i < length f.components → block_rows_of f i ≡ rows_in_mcu f i
rows_there f i lt = ap (λ b. cond b (rows_in_mcu f i) 0) (lt_yes i (length f.components) lt)

some_across : (f : Frame) (ids : List ℕ) → IsFrame f → AreIn f ids → 1 ≤ scan_mcus_across f ids
some_across f [] k there = absurd (omega (arith, there.some))
some_across f (i ∷ []) k there =
    one_each f.width (component_at f i).h (h_max f) k.width_low (All-get_or HasFactors f.components i no_component (there.there 0 0 (omega arith)) k.factors).h_low (across_low f.components k.factors k.count_low)
some_across f (i ∷ j ∷ more) k there = (let low = across_low f.components k.factors k.count_low in one_up f.width (8 * h_max f) k.width_low (omega (arith, low)))

some_in_mcu : (f : Frame) (ids : List ℕ) → IsFrame f → AreIn f ids → 1 ≤ mcu_units f ids
some_in_mcu f [] k there = absurd (omega (arith, there.some))
some_in_mcu f (i ∷ []) k there = omega arith
some_in_mcu f (i ∷ j ∷ more) k there = some_factors f (i ∷ j ∷ more) k.factors there.some there.there

-- each has units
take_in_row : (f : Frame) (ids : List ℕ) → IsFrame f → AreIn f ids → 1 ≤ row_units f ids
take_in_row f ids k there =
    let one : 1 * 1 ≤ row_units f ids = mul-le 1 1 (scan_mcus_across f ids) (mcu_units f ids) (some_across f ids k there) (some_in_mcu f ids k there) in
    omega (arith, one)

-- rows that aren't complete
pub whole_counted : (w : RowWork) → w.left ≡ 0 → unfinished w ≡ w.later
whole_counted w e = ap (λ n. w.later + cond (n == 0) 0 1) e ∙ omega arith

pub part_counted : (w : RowWork) → 1 ≤ w.left → unfinished w ≡ w.later + 1
part_counted w some = (let e : (w.left == 0) ≡ false = grind (arith, nat_tests, some) in ap (λ b. w.later + cond b 0 1) e)

-- THE FIRST ROW
pub no_tops : (i : ℕ) → top_of (0 ∷ 0 ∷ 0 ∷ 0 ∷ []) i ≡ 0
no_tops zero = refl
no_tops (suc zero) = refl
no_tops (suc (suc zero)) = refl
no_tops (suc (suc (suc zero))) = refl
no_tops (suc (suc (suc (suc i)))) = refl

pub first_in : (f : Frame) (ids : List ℕ) (w : RowWork) → IsFrame f → AreIn f ids → length ids ≡ length f.components → ((i : ℕ) → top_of w.tops i ≡ 0) → ((i : ℕ) → top_of w.steps i ≡ block_rows_of f i) → w.units ≡ row_units f ids → w.left ≡ w.units
    → 1 + w.later ≡ scan_mcus_down f ids → IsRowIn f ids w (length (units f ids))
first_in f ids w k there all tops steps size left count =
    let R = row_units f ids in
    let long : length (units f ids) ≡ R + w.later * R = length_units f ids ∙ ap (λ n. n * R) (sym count) ∙ add-mul 1 w.later R ∙ omega arith in
    record {
      at = record {
        frame = k;
        there = there;
        all = all;
        row = 0;
        begins = λ i lt. tops i ∙ omega arith;
        size = size;
        count = omega (arith, count);
        few = omega (arith, left);
        sum = long ∙ ap (λ n. n + w.later * R) (sym size ∙ sym left) ∙ ap (λ n. w.left + w.later * n) (sym size);
      };
      steps = steps;
      tops = λ i. tops i ∙ omega arith;
      some = omega (arith, size, take_in_row f ids k there);
    }

-- and as many MCU rows aren't complete as the scan has
pub first_unfinished : (f : Frame) (ids : List ℕ) (size left later : ℕ) → IsFrame f → AreIn f ids → size ≡ row_units f ids → left ≡ size → 1 + later ≡ scan_mcus_down f ids → later + cond (left == 0) 0 1 ≡ scan_mcus_down f ids
first_unfinished f ids size left later k there is whole count =
    let some = take_in_row f ids k there in
    ap (λ b. later + cond b 0 1) (not_same left 0 (λ e. omega (arith, e, whole, is, some))) ∙ omega (arith, count)

-- if no units of the scan are left, all its MCU rows are complete
pub none_unfinished : (f : Frame) (ids : List ℕ) (w : RowWork) (left : ℕ) → IsRowIn f ids w left → left ≡ 0 → unfinished w ≡ 0
none_unfinished f ids w left k none =
    let sum = k.at.sum in
    let many : w.later * 1 ≤ w.later * w.units = mul-le w.later 1 w.later w.units (omega arith) k.some in
    ap (λ l. w.later + cond (l == 0) 0 1) (let z : w.left ≡ 0 = omega (arith, sum, none) in z) ∙ omega (arith, sum, none, many)

-- THE NEXT ROW

pub turned : (old new : RowWork) (n : ℕ) → new.coefs.frame ≡ old.coefs.frame → new.coefs.blocks ≡ replicate n (zeros 64) → ((i : ℕ) → top_of new.tops i ≡ top_of old.tops i + top_of old.steps i) → TurnsRow old new
turned old new n framed cleared tops = λ whole is blank. record {
  framed = framed ∙ is.framed;
  count = is.count;
  blocks = λ i x y inside.
      (let seen = subst (λ (g : Frame). is_padded g i x y ≡ true) (framed ∙ is.framed) inside in
      let b = both (nat_lt i (length whole.frame.components)) _ seen in
      let there = lt_of i (length whole.frame.components) b.0 in
      ap (λ (m : Blocks). m i x y) (blank_is new.coefs n cleared) ∙ sym (blank i x (top_of new.tops i + y) there (omega (arith, tops i))));
}

pub next_in : (old new : RowWork) → old.left ≡ 0 → 1 ≤ old.later → new.left ≡ old.units → new.units ≡ old.units → new.steps ≡ old.steps → new.later ≡ old.later - 1 → ((i : ℕ) → top_of new.tops i ≡ top_of old.tops i + top_of old.steps i) → KeepsRowIn old new
next_in old new none some left units steps later tops = λ f ids n k.
    (let a = k.at in
    let U = old.units in
    let one : old.later ≡ 1 + new.later = omega (arith, some, later) in
    let sum : n ≡ U + new.later * U = a.sum ∙ ap (λ l. l + old.later * U) none ∙ ap (λ l. 0 + l * U) one ∙ ap (λ l. 0 + l) (add-mul 1 new.later U) ∙ omega arith in
    let step : (i : ℕ) → top_of new.tops i ≡ (a.row + 1) * block_rows_of f i = λ i. tops i ∙ ap (λ t. t + top_of old.steps i) (k.tops i) ∙ ap (λ t. a.row * block_rows_of f i + t) (k.steps i) ∙ sym (add-mul a.row 1 (block_rows_of f i) ∙ omega arith) in (
      record {
        at = record {
          frame = a.frame;
          there = a.there;
          all = a.all;
          row = a.row + 1;
          begins = λ i lt. step i ∙ ap (λ r. (a.row + 1) * r) (rows_there f i lt);
          size = units ∙ a.size;
          count = omega (arith, a.count, one);
          few = omega (arith, left, units);
          sum = sum ∙ ap (λ l. l + new.later * U) (sym left) ∙ ap (λ u. new.left + new.later * u) (sym units);
        };
        steps = λ i. ap (λ (l : List ℕ). top_of l i) steps ∙ k.steps i;
        tops = step;
        some = omega (arith, units, k.some);
      },
      λ more. ⊎_elim
          (λ (h : 0 < U). omega (arith, h, left))
          (λ (h : U ≤ 0). (let z : U ≡ 0 = omega (arith, h) in absurd (omega (arith, more, sum, z, ap (λ u. new.later * u) z, (let e : new.later * 0 ≡ 0 = omega arith in e)))))
          (cases_lt 0 U),
      part_counted new (omega (arith, left, k.some)) ∙ omega (arith, one) ∙ sym (whole_counted old none),
    ))

-- the additions don't overflow
rows_few : (f : Frame) (i : ℕ) → IsFrame f → block_rows_of f i ≤ 4
rows_few f i k = by (nat_lt i (length f.components)) refl
  where
    by : (b : Bool) → nat_lt i (length f.components) ≡ b → cond b (rows_in_mcu f i) 0 ≤ 4
    by false e = omega arith
    by true e = one (length f.components == 1)
      where
        high : (component_at f i).v ≤ 4
        high = (All-get_or HasFactors f.components i no_component (lt_of i (length f.components) e) k.factors).v_high

        one : (b : Bool) → cond b 1 (component_at f i).v ≤ 4
        one true = omega arith
        one false = high

rows_down : (f : Frame) (ids : List ℕ) → IsFrame f → AreIn f ids → scan_mcus_down f ids ≤ 2 ^ 20
rows_down f [] k there = omega arith
rows_down f (i ∷ []) k there =
    let x = All-get_or HasFactors f.components i no_component (there.there 0 0 (omega arith)) k.factors in
    few_blocks f.height (component_at f i).v (v_max f) k.height_high x.v_high (down_high f.components k.factors)
rows_down f (i ∷ j ∷ more) k there =
    let most : div_up f.height (8 * v_max f) ≤ f.height + 8 * v_max f - 1 = div-le_self (f.height + 8 * v_max f - 1) (8 * v_max f) in
    omega (arith, most, k.height_high, down_high f.components k.factors)

pub tops_few : (f : Frame) (ids : List ℕ) (n : ℕ) (w : RowWork) → IsRowIn f ids w n → (i : ℕ) → top_of w.tops i + top_of w.steps i < 4294967296
tops_few f ids n w k i =
    let a = k.at in
    let all : top_of w.tops i + top_of w.steps i ≡ (a.row + 1) * block_rows_of f i = ap (λ t. t + top_of w.steps i) (k.tops i) ∙ ap (λ t. a.row * block_rows_of f i + t) (k.steps i) ∙ sym (add-mul a.row 1 (block_rows_of f i) ∙ omega arith) in
    let most : (a.row + 1) * block_rows_of f i ≤ 2 ^ 20 * 4 = mul-le (a.row + 1) (block_rows_of f i) (2 ^ 20) 4 (omega (arith, a.count, rows_down f ids a.frame a.there)) (rows_few f i a.frame) in
    omega (arith, all, most)

-- The number of units that are left of a scan, and of its current MCU row.

-- all of a scan that begins
pub begun_left : (w : InScan) (all first : ℕ) → w.whole ≡ false → w.due ≡ all - first → any_scan.left w.machine ≡ first → first ≤ all → scan_left w ≡ all
begun_left w all first whole due left few =
    let is : scan_left w ≡ w.due + any_scan.left w.machine = ap (λ b. w.due + cond b 0 (any_scan.left w.machine)) whole in
    omega (arith, is, due, left, few)

pub begun_places : (limits : Limits) (items : List Item) (contents : List ℕ) (f : Frame) (head : ScanHead) → frame_of limits (segments_of items) ≡ f → head_in f contents ≡ head → length (scan_after limits (segments_of items) contents).places ≡ length (units f (head_components head))
begun_places limits items contents f head framed header =
    ap (λ (g : Frame). length (units g (head_components (head_in g contents)))) framed ∙ ap (λ (h : ScanHead). length (units f (head_components h))) header

-- no unit is complete
pub none_counted : (old new : InScan) (w : RowWork) → scan_left new ≡ scan_left old → w.waiting ≡ [] → CountsScan old w false new w
none_counted old new w left none = record {
  same = refl;
  passed = 0;
  left = omega arith;
  scan = omega (arith, left);
  whole = λ e. absurd cc;
  goes = λ e z. z;
  wait = λ some. absurd (omega (arith, some, ap length none));
}

data_left : (answer : Taken) (old : InScan) (m : ScanReader) (passed : ℕ) → old.whole ≡ false → any_scan.left old.machine ≡ any_scan.left m + passed → (answer ≡ taken.IntervalDone → any_scan.left m ≡ 0) → scan_left old ≡ scan_left (work_after old m answer) + passed
data_left answer old m passed due left ended =
    let a : scan_left old ≡ old.due + any_scan.left old.machine = ap (λ b. old.due + cond b 0 (any_scan.left old.machine)) due in
    omega (arith, a, left, by answer ended)
  where
    by : (answer : Taken) → (answer ≡ taken.IntervalDone → any_scan.left m ≡ 0) → scan_left (work_after old m answer) ≡ old.due + any_scan.left m
    by taken.More ended = refl
    by taken.Units ended = refl
    by taken.IntervalDone ended = omega (arith, ended refl)
    by (taken.Fault f) ended = refl

-- data of the current scan
pub counts_scan : (old : InScan) (w : RowWork) (answer : Taken) (new : InScan) (after : RowWork) (m : ScanReader) → old.whole ≡ false → 1 ≤ w.left → CountsRow w old.machine answer after m → new ≡ work_after old m answer
    → CountsScan old w (completes_row w.left after.left) new after
counts_scan old w answer new after m due some c is = subst (λ b. CountsScan old w b new after) (sym (ap (λ b. b && (after.left == 0)) (lt_yes 0 w.left some))) (record {
  same = c.same;
  passed = c.passed;
  left = c.left;
  scan = data_left answer old m c.passed due c.interval c.ended ∙ ap (λ (s : InScan). scan_left s + c.passed) (sym is);
  whole = λ e. (some, same_of after.left 0 e);
  goes = λ e z. absurd (clash (after.left == 0) (zero_is after.left z) e);
  wait = λ more. zero_is after.left (c.wait more);
})

-- a byte of it, or another one
never_completes : (n : ℕ) → completes_row n n ≡ false
never_completes zero = refl
never_completes (suc n) = ap (λ b. b && (suc n == 0)) (lt_yes 0 (suc n) (omega arith)) ∙ not_same (suc n) 0 (λ e. omega (arith, e))

-- one window, one row
pub row_once : (a b : RowWork) → window.Row a ≡ window.Row b → a ≡ b
row_once a b e = cc

pub byte_counts : (old new : InScan) (w after : RowWork) (byte : ℕ) (answer : Result Bool Fault) → IsDataOf old (window.Row w) → w.waiting ≡ []
    → PassesByte old (window.Row w) byte answer new (window.Row after) → CountsScan old w (completes_row w.left after.left) new after
byte_counts old new w after byte answer can none (inl n) =
    subst (λ (v : RowWork). CountsScan old w (completes_row w.left v.left) new v) (sym (row_once after w n.same))
    (subst (λ b. CountsScan old w b new w) (sym (never_completes w.left)) (none_counted old new w n.left none))
byte_counts old new w after byte answer can none (inr p) =
    let t = p.took in
    counts_scan old w t.taken new after t.machine t.due (can.due t.due).1 t.took.2 t.work

-- a marker that ends the data changes no row
pub marker_same : (old new : InScan) (w after : RowWork) (byte : ℕ) (answer : Result Bool Fault) → PassesByte old (window.Row w) byte answer new (window.Row after) → answer ≡ Ok true → after ≡ w
marker_same old new w after byte answer (inl n) e = row_once after w n.same
marker_same old new w after byte answer (inr p) e = absurd (never_over p.took.taken (sym p.took.is ∙ e))

-- So the row remains in its scan.
pub counts_in : (f : Frame) (ids : List ℕ) (old new : InScan) (w after : RowWork) (row : Bool) → IsRowIn f ids w (scan_left old) → CountsScan old w row new after → IsRowIn f ids after (scan_left new)
counts_in f ids old new w after row k c =
    let a = k.at in
    subst (λ (r : RowWork). IsRowIn f ids r (scan_left new)) (sym c.same) (record {
      at = record {
        frame = a.frame;
        there = a.there;
        all = a.all;
        row = a.row;
        begins = a.begins;
        size = a.size;
        count = a.count;
        few = omega (arith, a.few, c.left);
        sum = omega (arith, a.sum, c.left, c.scan);
      };
      steps = k.steps;
      tops = k.tops;
      some = k.some;
    })

-- AND A FURTHER ROW IS COMPLETE, or none
pub counts_rows : (old new : InScan) (w after : RowWork) (row : Bool) (result : Step) → CountsScan old w row new after → result ≡ cond row step.Row step.More → CountsRows result w after
counts_rows old new w after row result c is = subst (λ (s : Step). CountsRows s w after) (sym is) (by row c)
  where
    later : after.later ≡ w.later
    later = ap (λ (r : RowWork). r.later) c.same

    by : (row : Bool) → CountsScan old w row new after → CountsRows (cond row step.Row step.More) w after
    by true c = let e = c.whole refl in part_counted w e.0 ∙ omega (arith, later, whole_counted after e.1)
    by false c = ⊎_elim
        (λ (h : 0 < after.left). part_counted after (omega (arith, h)) ∙ omega (arith, later) ∙ sym (part_counted w (omega (arith, h, c.left))))
        (λ (h : after.left ≤ 0). (let z = c.goes refl (omega (arith, h)) in whole_counted after (omega (arith, h)) ∙ later ∙ sym (whole_counted w z)))
        (cases_lt 0 after.left)

-- none
pub same_rows : (w after : RowWork) (result : Step) → IsNoRow result → unfinished after ≡ unfinished w → CountsRows result w after
same_rows w after step.More k e = e
same_rows w after step.Row k e = absurd k
same_rows w after step.Whole k e = e
same_rows w after (step.Ended s) k e = tt

-- after another row, of which none was complete
pub rows_then : (old w after : RowWork) (result : Step) → unfinished w ≡ unfinished old → CountsRows result w after → CountsRows result old after
rows_then old w after step.More e c = c ∙ e
rows_then old w after step.Row e c = sym e ∙ c
rows_then old w after step.Whole e c = c ∙ e
rows_then old w after (step.Ended s) e c = tt

-- After the current MCU row nothing of the picture was changed yet.

-- a place of the first n MCU rows
abbrev pub IsAbove : Frame → ℕ → Place → Type 0
IsAbove f n p = p.y < n * rows_in_mcu f p.component

-- LISTS of rows

-- THE PLACES OF AN MCU ROW are above the next one

pub row_above : (f : Frame) (ids : List ℕ) (k : ℕ) → length ids ≡ length f.components → All (IsAbove f (k + 1)) (scan_row f ids k)
row_above f [] k all = All-nil (IsAbove f (k + 1))
row_above f (i ∷ []) k all =
    let one : rows_in_mcu f i ≡ 1 = ap (λ n. cond (n == 1) 1 (component_at f i).v) (sym all) in
    all_row (IsAbove f (k + 1)) (λ x. place f i x k) (blocks_across f (component_at f i)) (λ x hx. omega (arith, ap (λ n. (k + 1) * n) one))
row_above f (i ∷ j ∷ more) k all =
    let ids = i ∷ j ∷ more in
    let several : (length f.components == 1) ≡ false = grind (arith, nat_tests, all) in
    all_rows (IsAbove f (k + 1)) (λ mx. flat_map (mcu_part f mx k) ids) (mcus_across f)
    (λ mx hx. all_ids (IsAbove f (k + 1)) (mcu_part f mx k) ids
    (λ n hn. let d = get_or ids n 0 in
    let c = component_at f d in
    let rows : (k + 1) * rows_in_mcu f d ≡ k * c.v + c.v = ap (λ b. (k + 1) * cond b 1 c.v) several ∙ add-mul k 1 c.v ∙ omega arith in
    all_rows (IsAbove f (k + 1)) (λ v. map (λ h. place f d (mx * c.h + h) (k * c.v + v)) (below c.h)) c.v
    (λ v hv. all_row (IsAbove f (k + 1)) (λ h. place f d (mx * c.h + h) (k * c.v + v)) c.h (λ h hh. omega (arith, rows, hv)))))

-- THOSE OF THE FIRST n ROWS

pub first_above : (f : Frame) (ids : List ℕ) (n j : ℕ) (d : Place) → length ids ≡ length f.components → n ≤ scan_mcus_down f ids → j < n * row_units f ids → IsAbove f n (get_or (units f ids) j d)
first_above f ids n j d all few low =
    let R = row_units f ids in
    let D = scan_mcus_down f ids in
    let some : 1 ≤ R = ⊎_elim (λ (h : 0 < R). omega (arith, h)) (λ (h : R ≤ 0). (let z : R ≡ 0 = omega (arith, h) in absurd (omega (arith, low, ap (λ r. n * r) z)))) (cases_lt 0 R) in
    let q = j / R in
    let r = j % R in
    let e : j ≡ q * R + r = sym (div-add-mod' j R) in
    let small : r < R = mod-lt j some in
    let row : q < n = (div-lt_iff_lt-mul some).1 low in
    let k = q * R + (R - R) in
    let first : k ≡ q * R = omega arith in
    let long : length (units f ids) ≡ D * R = length_units f ids in
    let whole : q * R + R ≤ D * R = omega (arith, mul-le (q + 1) R D R (omega (arith, row, few)) (omega arith), add-mul q 1 R) in
    let l : List Place = take R (drop k (units f ids)) in
    let size : length l ≡ R = omega (arith, length-take R (drop k (units f ids)), length-drop k (units f ids), long, whole, first) in
    let a = row_next (IsAbove f (q + 1)) f ids (drop k (units f ids)) q R refl (omega (arith, row, few)) (omega arith) (row_above f ids q all) in
    let at : get_or l r d ≡ get_or (units f ids) j d =
    get_or-take R (drop k (units f ids)) r d small ∙ get_or-drop k (units f ids) r d ∙ ap (λ (m : ℕ). get_or (units f ids) m d) (omega (arith, first, e)) in
    let p = get_or (units f ids) j d in
    let here : IsAbove f (q + 1) p = subst (IsAbove f (q + 1)) at (All-get_or (IsAbove f (q + 1)) l r d (omega (arith, size, small)) a) in
    let more : (q + 1) * rows_in_mcu f p.component ≤ n * rows_in_mcu f p.component = mul-le (q + 1) (rows_in_mcu f p.component) n (rows_in_mcu f p.component) (omega (arith, row)) (omega arith) in
    omega (arith, here, more)

-- A BLOCK AFTER THEM

of_place : (i x y : ℕ) (p : Place) → is_at i x y p ≡ true → (p.component ≡ i) × (p.y ≡ y)
of_place i x y p e =
    let a = both (p.component == i && p.x == x) (p.y == y) e in
    let b = both (p.component == i) (p.x == x) a.0 in
    (same_of p.component i b.0, same_of p.y y a.1)

none_of : (test : Place → Bool) (places : List Place) (d : Place) → ((k : ℕ) → k < length places → test (get_or places k d) ≡ false) → any_of test places ≡ false
none_of test [] d each = refl
none_of test (p ∷ places) d each = ap (λ b. b || any_of test places) (each 0 (omega arith)) ∙ none_of test places d (λ k h. each (suc k) (omega arith))

not_at : (f : Frame) (n i x y : ℕ) (p : Place) → n * rows_in_mcu f i ≤ y → IsAbove f n p → is_at i x y p ≡ false
not_at f n i x y p low above = by (is_at i x y p) refl
  where
    by : (b : Bool) → is_at i x y p ≡ b → b ≡ false
    by false e = refl
    by true e =
        let o = of_place i x y p e in
        absurd (omega (arith, above, low, o.1, ap (λ c. n * rows_in_mcu f c) o.0))

-- The places done are those of the scan except as many as are left. If all else is as in a picture without blocks, so
-- is all after the row.
pub blank_at : (f : Frame) (ids : List ℕ) (w : RowWork) (whole : Picture) (done cursor : List Place) → units f ids ≡ done ++ cursor → IsRowIn f ids w (length cursor) → whole.frame ≡ f
    → ((i x y : ℕ) → any_of (is_at i x y) done ≡ false → map_of whole i x y ≡ no_blocks i x y) → IsBlankAfter w whole
blank_at f ids w whole done cursor cut k framed elsewhere = λ i x y lt low.
    (let a = k.at in
    let R = row_units f ids in
    let D = scan_mcus_down f ids in
    let n = a.row + 1 in
    let there : i < length f.components = subst (λ (g : Frame). i < length g.components) framed lt in
    let behind : n * rows_in_mcu f i ≤ y = omega (arith, low, k.tops i, k.steps i, rows_there f i there, ap (λ r. a.row * r) (rows_there f i there), add-mul a.row 1 (rows_in_mcu f i)) in
    let later : w.later * w.units ≡ w.later * R = ap (λ u. w.later * u) a.size in
    let all : D * R ≡ n * R + w.later * R = ap (λ d. d * R) (sym a.count) ∙ add-mul n w.later R in
    let size : length done ≤ n * R = omega (arith, length_units f ids, ap length cut, length-append done cursor, a.sum, later, all) in
    let none : Place = place f 0 0 0 in
    elsewhere i x y (none_of (is_at i x y) done none
    (λ j h. let is : get_or (units f ids) j none ≡ get_or done j none = ap (λ (l : List Place). get_or l j none) cut ∙ get_or_append_left done cursor none j h in
    not_at f n i x y (get_or done j none) behind (subst (IsAbove f n) is (first_above f ids n j none a.all (omega (arith, a.count)) (omega (arith, h, size)))))))
