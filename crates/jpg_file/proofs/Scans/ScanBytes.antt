-- Inside the data of a scan: the effect of the machine's answers on the place.
use Rattle.std.proofs.Common.{◌≡◌, ℕ, zero, suc, ◌+◌, ◌-◌, ◌%◌, ◌≤◌, min, Bool, true, false, List, [], ◌∷◌, ◌++◌, length, refl, sym, ap, ◌∙◌, subst, arith, ℤ, Ok, Err, cond, take, flat_map, replicate, Result, append-nil, append_assoc, length-append, length-take-le, get_or-take, Option, Some, None}
use Rattle.jpg_spec.specs.Bits.{bits_of, bits_of_bytes}
use Rattle.jpg_spec.specs.Elements.{Coding, UnitLeft, SpellsUnits}
use Rattle.jpg_spec.specs.Scan.{Scan, band, block_at}
use Rattle.jpg_spec.specs.ScanFaults.{DataReveals}
use Rattle.jpg_spec.specs.InForce.{frame_of}
use Rattle.jpg_spec.specs.Items.{Item, segments_of}
use Rattle.jpg_spec.specs.FirstFault.{Reveals}
use Rattle.jpg_spec.specs.UnfinishedFile.{UnfinishedFile}
use Rattle.jpg_spec.specs.ScanReading.{ScanPlace, scan_at, with_byte, with_interval, ScanAt}
use Rattle.jpg_spec.specs.Parts.{StandsInUnits}
use Rattle.jpg_spec.specs.PictureInWork.{IntervalRead, ScanSoFar}
use Rattle.jpg_spec.specs.Lists.{joined}
use Rattle.jpg_spec.specs.declared.fault.Fault.{Fault, Fault as Named}
use Rattle.jpg_spec.specs.declared.fault.Fault.TheVariants as fault
use Rattle.jpg_spec.specs.declared.frame.Limits.{Limits}
use Rattle.jpg_spec.specs.declared.frame.Place.{Place}
use Rattle.jpg_spec.proofs.Bits.DataFacts.{bits_join}
use Rattle.jpg_spec.proofs.Places.PictureInWork.{byte_packs, so_far_next, so_far_last}
use Rattle.jpg_spec.proofs.Files.ScanSteps.{plain_data, stuffed_data, filled_data, marker_data, marker_code, complete_stands}
use Rattle.jpg_spec.proofs.Files.ScanAnswers.{units_at, bits_shown, bits_complete, units_due, units_short, interval_wrong, interval_begun}
use Rattle.jpg_coefs.specs.Picture.{Picture, map_of}
use Rattle.jpg_coefs.specs.Machine.{Chain, Interval, IsWholeInterval, units_of, fault_of}
use Rattle.jpg_coefs.specs.declared.machine.UnitFault.{UnitFault}
use Rattle.jpg_coefs.specs.declared.machine.UnitStep.TheVariants.{IntervalDone}
use Rattle.jpg_coefs.specs.declared.machine.Taken.{Taken}
use Rattle.jpg_coefs.specs.declared.machine.Taken.TheVariants as taken
use Rattle.jpg_coefs.proofs.Chains.{answer_to, chain_stands, some_taken}
use Rattle.jpg_file.specs.declared.read.machine.ScanReader.{ScanReader}
use Rattle.jpg_file.specs.Read.Machine.{any_scan, AnswersIn, GivesBits}
use Rattle.jpg_huff.specs.Gate.{IsData}
use Rattle.jpg_file.specs.declared.read.scan.InScan.{InScan}
use Rattle.jpg_file.specs.Read.InData.{frame_at, IsReadable, IsInterval, IsDue, IsRead, AtInterval, AreIntervals, AtWork, MarkerAt, Waits, InData, AfterMarker, ends_interval, scan_answer, work_after, ArePlain, scan_left, IsInside, AfterByte, AfterBytes, HalfData, IsDataOf, TakesByte, TakesByteInto, TakesRun, TakesRunInto}
use Rattle.jpg_file.proofs.Scans.Machines.{distinct_places, interval_fits, same_units, scans_keep_units}
use Rattle.jpg_file.specs.declared.read.file.FileState.{FileState}
use Rattle.jpg_file.specs.Read.File.{waiting_bytes, IsInsideScanOfFile}
use Rattle.jpg_spec.proofs.Basics.Common.{some_once}
use Rattle.jpg_file.specs.declared.read.window.Window.TheVariants as window
use Rattle.jpg_file.proofs.Headers.InForce.{all_once}

abbrev pub Due : Limits → ScanPlace → ScanReader → Picture → Type 0
Due limits p m now = IsDue ScanReader any_scan limits p m now

abbrev pub Read : Limits → ScanPlace → ScanReader → Picture → Type 0
Read limits p m now = IsRead ScanReader any_scan limits p m now

pub due_at : (limits : Limits) (p : ScanPlace) (w : InScan) (now : Picture) → w.whole ≡ false → AtWork limits p w now → Due limits p w.machine now
due_at limits p w now e k = subst (λ b. AtInterval limits p b w.machine now) e k.at

pub read_at : (limits : Limits) (p : ScanPlace) (w : InScan) (now : Picture) → w.whole ≡ true → AtWork limits p w now → Read limits p w.machine now
read_at limits p w now e k = subst (λ b. AtInterval limits p b w.machine now) e k.at

-- what holds of the units of the current interval, as the machine has them, holds of those at the place
pub of_place : (limits : Limits) (p : ScanPlace) (i : Interval) (P : Coding → List UnitLeft → Type 0) → IsReadable limits p → IsInterval limits p i → ScanSoFar (scan_at limits p) p.blocks (map_of i.before) p.done (p.places ∷ p.later)
    → P i.scan.coding (units_of i) → P (scan_at limits p).coding (units_at limits p)
of_place limits p i P r is w k =
    subst (λ (q : Scan). P q.coding (units_at limits p)) is.scan (subst (λ us. P i.scan.coding us) (same_units limits p i r is w) k)

-- if units are left
pub due_units : (limits : Limits) (p : ScanPlace) (m : ScanReader) (now : Picture) → IsReadable limits p → Due limits p m now
    → (told : List ℤ) × (left : List UnitLeft) × StandsInUnits (scan_at limits p).coding (units_at limits p) told left (bits_of_bytes p.coded)
due_units limits p m now r d =
    let u = scans_keep_units.unfinished m d.interval (bits_of_bytes p.coded) now d.stands in
    (u.whole ++ u.part, u.left, of_place limits p d.interval (λ c us. StandsInUnits c us (u.whole ++ u.part) u.left (bits_of_bytes p.coded)) r d.is d.so_far u.stands)

-- DATA whose bits the machine took

abbrev pub with_bytes : ScanPlace → List ℕ → ScanPlace
with_bytes p more = record p { coded = p.coded ++ more }

module _ (limits : Limits) (p : ScanPlace) (w : InScan) (now : Picture) (e : w.whole ≡ false) (k : AtWork limits p w now) where
  d : Due limits p w.machine now
  d = due_at limits p w now e k

  -- the place with more data, by its interval
  work_on : (run : List ℕ) (m : ScanReader) (answer : Taken) (after : Picture) → AtInterval limits (with_bytes p run) (ends_interval answer) m after
      → AtWork limits (with_bytes p run) (work_after w m answer) after
  work_on run m answer after at = record { readable = record { distinct = (k.readable).distinct }; at = at; turn = k.turn; due = k.due; later = k.later }

  -- a chain of their bits
  pub due_chain : (run : List ℕ) (m : ScanReader) (after : Picture) → Chain any_scan w.machine now (bits_of_bytes run) m after
      → AtWork limits (with_bytes p run) (work_after w m taken.More) after
  due_chain run m after chain =
      work_on run m taken.More after (record {
        interval = d.interval;
        is = record { scan = (d.is).scan; places = (d.is).places; later = (d.is).later };
        framed = d.framed;
        stands = subst (λ l. any_scan.stands m d.interval l after) (sym (bits_join p.coded run)) (chain_stands any_scan w.machine m now after d.interval (bits_of_bytes p.coded) (bits_of_bytes run) chain d.stands);
        so_far = d.so_far;
      })

  -- a byte
  due_more : (byte : ℕ) (bits : List Bool) (m : ScanReader) (after : Picture) → bits_of 8 byte ≡ bits → Chain any_scan w.machine now bits m after
      → AtWork limits (with_byte p byte) (work_after w m taken.More) after
  due_more byte bits m after cut chain =
      due_chain (byte ∷ []) m after (subst (λ z. Chain any_scan w.machine now z m after) (sym (append-nil (bits_of 8 byte) ∙ cut)) chain)

  due_fault : (bytes : List ℕ) (byte : ℕ) (m : ScanReader) (after : Picture) (f : UnitFault) → ScanAt limits bytes (with_byte p byte) []
      → AnswersIn any_scan w.machine now (bits_of 8 byte) (Err f) m after → Reveals limits (fault_of f) bytes
  due_fault bytes byte m after f at (most, front, rest, cut, chain) =
      let t = answer_to any_scan most w.machine m now after d.interval (bits_of_bytes p.coded) front (Err f) chain d.stands in
      bits_shown limits bytes p byte (fault_of f) front rest at cut
      (of_place limits p d.interval (λ c us. DataReveals c us (fault_of f) (bits_of_bytes p.coded ++ front)) k.readable d.is d.so_far t.0)

  due_whole : (byte : ℕ) (m : ScanReader) (after : Picture) → AnswersIn any_scan w.machine now (bits_of 8 byte) (Ok IntervalDone) m after
      → AtWork limits (with_byte p byte) (work_after w m taken.IntervalDone) after
  due_whole byte m after (most, front, rest, cut, chain) =
      let i = d.interval in
      let s = scan_at limits p in
      let bits = bits_of_bytes p.coded ++ front in
      let some = some_taken any_scan most w.machine m now after front (Ok IntervalDone) chain in
      let ends = answer_to any_scan most w.machine m now after i (bits_of_bytes p.coded) front (Ok IntervalDone) chain d.stands in
      let whole : IsWholeInterval i bits after = ends.0 in
      let told : List ℤ = flat_map (λ q. band i.scan (block_at (map_of after) q)) i.places in
      let spelled = of_place limits p i (λ c us. SpellsUnits c us told bits) k.readable d.is d.so_far (whole.read).spelled in
      let read : IntervalRead s p.places (map_of i.before) (map_of after) bits =
      subst (λ (q : Scan). IntervalRead q p.places (map_of i.before) (map_of after) bits) (d.is).scan (subst (λ l. IntervalRead i.scan l (map_of i.before) (map_of after) bits) (d.is).places whole.read) in
      work_on (byte ∷ []) m taken.IntervalDone after (record {
        interval = i;
        is = record { scan = (d.is).scan; places = (d.is).places; later = (d.is).later };
        fits = scans_keep_units.fits w.machine i (bits_of_bytes p.coded) now d.stands;
        framed = whole.frame ∙ d.framed;
        completes = bits_complete limits p byte front rest told cut some spelled;
        so_far = so_far_next s p.blocks (map_of i.before) (map_of after) p.done (p.coded ++ byte ∷ []) bits p.places p.later (distinct_places limits p k.readable) d.so_far (byte_packs p.coded byte front rest cut some) read;
        ready = ends.1;
      })

  -- the result of a byte of which no bits wait
  pub due_data : (items : List Item) (contents bytes : List ℕ) (byte : ℕ) (m : ScanReader) (after : Picture) (answer : Taken)
      → (p.items ≡ items) × (p.contents ≡ contents) → ScanAt limits bytes (with_byte p byte) []
      → GivesBits any_scan w.machine now (bits_of 8 byte) answer [] m after → AfterBytes limits items contents bytes (scan_answer answer) [] (work_after w m answer) after
  due_data items contents bytes byte m after answer of at = by answer
    where
      on : (answer : Taken) → AtWork limits (with_byte p byte) (work_after w m answer) after → InData limits items contents bytes (work_after w m answer) after
      on answer work = record { place = with_byte p byte; of = of; fill = 0; at = at; waits = refl; work = work }

      by : (answer : Taken) → GivesBits any_scan w.machine now (bits_of 8 byte) answer [] m after → AfterBytes limits items contents bytes (scan_answer answer) [] (work_after w m answer) after
      by taken.More (none, chain) = on taken.More (due_more byte (bits_of 8 byte) m after refl chain)
      by taken.Units (front, cut, chain) = on taken.Units (due_more byte front m after (cut ∙ append-nil front) chain)
      by taken.IntervalDone (none, a) = on taken.IntervalDone (due_whole byte m after a)
      by (taken.Fault f) (none, a) = due_fault bytes byte m after f at a

-- by what the machine's answer means
pub as_stepped : (w new : InScan) (m : ScanReader) (taken : Taken) (answer : Result Bool Fault) (P : Result Bool Fault → InScan → Type 0) → answer ≡ scan_answer taken → new ≡ work_after w m taken
    → P (scan_answer taken) (work_after w m taken) → P answer new
as_stepped w new m taken answer P is work k = subst (λ (a : Result Bool Fault). P a new) (sym is) (subst (λ (v : InScan). P (scan_answer taken) v) (sym work) k)

-- A MARKER

none_later : (n : ℕ) (later : List (List Place)) → AreIntervals n later → length (joined later) ≡ 0 → later ≡ []
none_later n [] k e = refl
none_later n (next ∷ others) k e = absurd (omega (arith, k.0, e, length-append next (joined others)))

some_later : (n : ℕ) (later : List (List Place)) → 1 ≤ length (joined later) → (next : List Place) × (others : List (List Place)) × (later ≡ next ∷ others)
some_later n [] e = absurd (omega arith)
some_later n (next ∷ others) e = (next, others, refl)

-- a further interval is expected, and begins
pub record NextBegins (limits : Limits) (bytes : List ℕ) (p : ScanPlace) : Type 0 where
  pub next : List Place
  pub others : List (List Place)
  pub due : p.later ≡ next ∷ others
  pub at : ScanAt limits bytes (with_interval p next others) []

module _ (limits : Limits) (bytes : List ℕ) (p : ScanPlace) (code : ℕ) (w : InScan) (now : Picture) (m : MarkerAt limits bytes p code w now) where
  abbrev k : AtWork limits p w now
  k = m.work

  pub short_marker : w.whole ≡ false → Reveals limits fault.EntropyShort bytes
  short_marker e =
      let u = due_units limits p w.machine now k.readable (due_at limits p w now e k) in
      units_short limits bytes p m.fill code u.0 u.1 m.no_zero m.no_fill m.at u.2

  module _ (e : w.whole ≡ true) where
    abbrev r : Read limits p w.machine now
    r = read_at limits p w now e k

    pub last_marker : w.due ≡ 0 → AfterMarker limits bytes p (Ok true) w now
    last_marker none = (
      r.framed,
      so_far_last (scan_at limits p) p.blocks (map_of now) (p.done ++ p.coded ∷ [])
          (subst (λ l. ScanSoFar (scan_at limits p) p.blocks (map_of now) (p.done ++ p.coded ∷ []) l) (none_later w.interval p.later k.later (sym k.due ∙ none)) r.so_far),
    )

    pub wrong_marker : (w.due ≡ 0 → ⊥) → (code ≡ 0xd0 + w.turn → ⊥) → Reveals limits fault.RestartWrong bytes
    wrong_marker some wrong =
        let l = some_later w.interval p.later (omega (arith, some, k.due)) in
        interval_wrong limits bytes p l.0 l.1 m.fill code m.no_zero m.no_fill m.at r.completes l.2 (λ h. wrong (omega (arith, h, k.turn)))

    pub right_marker : (w.due ≡ 0 → ⊥) → code ≡ 0xd0 + w.turn → NextBegins limits bytes p
    right_marker some right =
        let l = some_later w.interval p.later (omega (arith, some, k.due)) in
        let c : code ≡ 0xd0 + length p.done % 8 = omega (arith, right, k.turn) in
        let here = subst (λ n. ScanAt limits bytes p (replicate (suc m.fill) 255 ++ n ∷ [])) c m.at in
        record { next = l.0; others = l.1; due = l.2; at = interval_begun limits bytes p l.0 l.1 m.fill here r.completes l.2 }

    -- THE NEXT INTERVAL

    module _ (b : NextBegins limits bytes p) where
      abbrev new : ScanPlace
      new = with_interval p b.next b.others

      abbrev pub next_one : Interval
      next_one = record { scan = (r.interval).scan; places = b.next; later = joined b.others; before = now }

      is_next : IsInterval limits new next_one
      is_next = record { scan = (r.is).scan; places = refl; later = refl }

      readable : IsReadable limits new
      readable = record { distinct = (k.readable).distinct }

      so_far : ScanSoFar (scan_at limits p) p.blocks (map_of now) (p.done ++ p.coded ∷ []) (b.next ∷ b.others)
      so_far = subst (λ l. ScanSoFar (scan_at limits p) p.blocks (map_of now) (p.done ++ p.coded ∷ []) l) b.due r.so_far

      later : AreIntervals w.interval (b.next ∷ b.others)
      later = subst (λ l. AreIntervals w.interval l) b.due k.later

      all : w.due ≡ length b.next + length (joined b.others)
      all = k.due ∙ ap (λ l. length (joined l)) b.due ∙ length-append b.next (joined b.others)

      pub next_ready : any_scan.ready w.machine next_one
      next_ready =
          r.ready next_one (record { scan = refl; before = refl; places = sym ((r.is).later ∙ ap joined b.due) })
          (interval_fits limits bytes new next_one b.at readable is_next so_far)

      pub next_count : (length b.next ≡ min w.interval w.due) × (1 ≤ length b.next)
      next_count = (later.1 ∙ ap (min w.interval) (sym all), later.0)

      pub next_work : (machine : ScanReader) (n : ℕ) → n ≡ min w.interval w.due
          → ((i : Interval) → any_scan.ready w.machine i → length i.places ≡ n → any_scan.stands machine i [] i.before)
          → AfterMarker limits bytes p (Ok false) (record w { machine = machine; whole = false; due = w.due - n; turn = (w.turn + 1) % 8 }) now
      next_work machine n few begun = (
        b.next,
        b.others,
        b.at,
        record {
          readable = readable;
          at = record { interval = next_one; is = is_next; framed = r.framed; stands = begun next_one next_ready (next_count.0 ∙ sym few); so_far = so_far };
          turn = omega (arith, k.turn, length-append p.done (p.coded ∷ []));
          due = omega (arith, all, few, next_count.0);
          later = later.2;
        },
      )

-- A BYTE of the file, by what the gate lets through

-- of the gate nothing is required
gated : (limits : Limits) (p : ScanPlace) (w : InScan) (now : Picture) (gate : Bool) → AtWork limits p w now → AtWork limits p (record w { gate = gate }) now
gated limits p w now gate k = record { readable = k.readable; at = k.at; turn = k.turn; due = k.due; later = k.later }

pub ff_byte : (limits : Limits) (items : List Item) (contents bytes : List ℕ) (byte : ℕ) (s : InScan) (gate : Bool) (now : Picture) → InData limits items contents bytes s now → byte ≡ 255 → gate ≡ true
    → InData limits items contents (bytes ++ byte ∷ []) (record s { gate = gate }) now
ff_byte limits items contents bytes byte s gate now d e g = record {
  place = d.place;
  of = d.of;
  fill = suc d.fill;
  at = subst (λ n. ScanAt limits (bytes ++ n ∷ []) d.place (replicate (suc d.fill) 255)) (sym e) (filled_data limits bytes d.place d.fill d.at);
  waits = subst (λ b. Waits b (suc d.fill)) (sym g) (d.fill, refl);
  work = gated limits d.place s now gate d.work;
}

-- some FF after the first
pub ff_bytes : (limits : Limits) (items : List Item) (contents bytes : List ℕ) (n : ℕ) (s : InScan) (now : Picture) → InData limits items contents bytes s now → s.gate ≡ true → InData limits items contents (bytes ++ replicate n 255) s now
ff_bytes limits items contents bytes zero s now d g = subst (λ (b : List ℕ). InData limits items contents b s now) (sym (append-nil bytes)) d
ff_bytes limits items contents bytes (suc n) s now d g =
    let one = ff_byte limits items contents bytes 255 s true now d refl refl in
    let same = subst (λ (b : Bool). InData limits items contents (bytes ++ 255 ∷ []) (record s { gate = b }) now) (sym g) one in
    subst (λ (b : List ℕ). InData limits items contents b s now) (append_assoc bytes (255 ∷ []) (replicate n 255)) (ff_bytes limits items contents (bytes ++ 255 ∷ []) n s now same g)

pub never_over : (answer : Taken) → scan_answer answer ≡ Ok true → ⊥
never_over taken.More e = cc
never_over taken.Units e = cc
never_over taken.IntervalDone e = cc
never_over (taken.Fault f) e = cc

-- after FF bytes
module _ (limits : Limits) (items : List Item) (contents bytes : List ℕ) where
  pub data_at : (byte passed : ℕ) (s : InScan) (now : Picture) (d : InData limits items contents bytes s now) → IsData s.gate byte passed
      → ScanAt limits (bytes ++ byte ∷ []) (with_byte d.place passed) []
  data_at byte passed s now d k = by s.gate d.waits k
    where
      by : (g : Bool) → Waits g d.fill → IsData g byte passed → ScanAt limits (bytes ++ byte ∷ []) (with_byte d.place passed) []
      by false none (other, is) =
          subst (λ n. ScanAt limits (bytes ++ byte ∷ []) (with_byte d.place n) []) (sym is) (plain_data limits bytes d.place byte (subst (λ n. ScanAt limits bytes d.place (replicate n 255)) none d.at) other)
      by true (n, some) (zero_byte, is) =
          subst (λ m. ScanAt limits (bytes ++ byte ∷ []) (with_byte d.place m) []) (sym is)
          (subst (λ m. ScanAt limits (bytes ++ m ∷ []) (with_byte d.place 255) []) (sym zero_byte) (stuffed_data limits bytes d.place n (subst (λ m. ScanAt limits bytes d.place (replicate m 255)) some d.at)))

  pub data_answer : (byte : ℕ) (answer : Taken) (waiting : List Bool) (s : InScan) (now : Picture)
      → AfterBytes limits items contents bytes (scan_answer answer) waiting s now → AfterByte limits items contents bytes byte (scan_answer answer) waiting s now
  data_answer byte taken.More waiting s now k = k
  data_answer byte taken.Units waiting s now k = k
  data_answer byte taken.IntervalDone waiting s now k = k
  data_answer byte (taken.Fault f) waiting s now k = k

  pub marker_at : (code : ℕ) (s : InScan) (now : Picture) (gate : Bool) (d : InData limits items contents bytes s now) → s.gate ≡ true → (code ≡ 0 → ⊥) → (code ≡ 255 → ⊥)
      → MarkerAt limits (bytes ++ code ∷ []) d.place code (record s { gate = gate }) now
  marker_at code s now gate d g z f =
      let some = subst (λ b. Waits b d.fill) g d.waits in
      record {
        fill = some.0;
        no_zero = z;
        no_fill = f;
        at = marker_data limits bytes d.place some.0 code (subst (λ m. ScanAt limits bytes d.place (replicate m 255)) some.1 d.at);
        work = gated limits d.place s now gate d.work;
      }

  pub marker_byte : (p : ScanPlace) (code : ℕ) (s w : InScan) (now : Picture) (answer : Result Bool Fault) → (p.items ≡ items) × (p.contents ≡ contents)
      → MarkerAt limits bytes p code s now → w.gate ≡ false → AfterMarker limits bytes p answer w now → AfterByte limits items contents bytes code answer [] w now
  marker_byte p code s w now (Ok false) of m g (next, others, begun, k) =
      record { place = with_interval p next others; of = of; fill = 0; at = begun; waits = subst (λ b. Waits b 0) (sym g) refl; work = k }
  marker_byte p code s w now (Ok true) of m g (framed, means) = (
    refl,
    record {
      place = p;
      of = of;
      fill = m.fill;
      at = m.at;
      marker = marker_code 0 code m.no_zero m.no_fill;
      framed = framed ∙ ap (λ (i : List Item). frame_of limits (segments_of i)) of.0;
      means = means;
    },
  )
  marker_byte p code s w now (Err f) of m g k = k

  -- INSIDE DATA the bytes have no fault
  pub data_stands : (s : InScan) (now : Picture) → InData limits items contents bytes s now → UnfinishedFile limits bytes
  data_stands s now d = by s.whole (d.work).at
    where
      by : (b : Bool) → AtInterval limits d.place b s.machine now → UnfinishedFile limits bytes
      by false k = (let u = due_units limits d.place s.machine now (d.work).readable k in units_due limits bytes d.place d.fill u.0 u.1 d.at u.2)
      by true k = complete_stands limits bytes d.place d.fill d.at k.completes

-- Inside an interval of a scan: units are left, and its machine took bits of the data.

-- the current interval at a place, the bits of it that the machine took, and those that follow them
pub record InInterval (limits : Limits) (p : ScanPlace) (w : InScan) (now : Picture) (rest : List Bool) : Type 0 where
  pub interval : Interval
  pub readable : IsReadable limits p
  pub is : IsInterval limits p interval
  pub framed : interval.before.frame ≡ frame_at limits p
  pub so_far : ScanSoFar (scan_at limits p) p.blocks (map_of interval.before) p.done (p.places ∷ p.later)
  pub taken : List Bool
  pub cut : bits_of_bytes p.coded ≡ taken ++ rest
  pub stands : any_scan.stands w.machine interval taken now
  pub whole : w.whole ≡ false
  pub due : w.due ≡ length (joined p.later)

module _ (limits : Limits) (p : ScanPlace) (w : InScan) (now : Picture) where
  -- as many units are left as in it, and after it
  pub left_in : (rest : List Bool) → InInterval limits p w now rest → scan_left w ≡ length (joined p.later) + any_scan.left w.machine
  left_in rest d = omega (arith, ap (λ b. w.due + cond b 0 (any_scan.left w.machine)) d.whole, d.due)

  -- the machine took all bits, or none of those of further bytes
  due_of : (coded : List ℕ) (rest : List Bool) → bits_of_bytes coded ≡ bits_of_bytes p.coded ++ rest → w.whole ≡ false → AtWork limits p w now
      → InInterval limits (record p { coded = coded }) w now rest
  due_of coded rest cut e k =
      let d = due_at limits p w now e k in
      record {
        interval = d.interval;
        readable = record { distinct = (k.readable).distinct };
        is = record { scan = (d.is).scan; places = (d.is).places; later = (d.is).later };
        framed = d.framed;
        so_far = d.so_far;
        taken = bits_of_bytes p.coded;
        cut = cut;
        stands = d.stands;
        whole = e;
        due = k.due;
      }

  pub of_bytes : (more : List ℕ) → w.whole ≡ false → AtWork limits p w now → InInterval limits (with_bytes p more) w now (bits_of_bytes more)
  of_bytes more e k = due_of (p.coded ++ more) (bits_of_bytes more) (bits_join p.coded more) e k

  pub of_work : w.whole ≡ false → AtWork limits p w now → InInterval limits p w now []
  of_work e k = due_of p.coded [] (sym (append-nil (bits_of_bytes p.coded))) e k

-- bits of the last byte wait
module _ (limits : Limits) (items : List Item) (contents bytes : List ℕ) where
  pub of_half : (waiting : List Bool) (s : InScan) (now : Picture) (h : HalfData limits items contents bytes waiting s now)
      → InInterval limits (with_byte h.place h.byte) s now waiting
  of_half waiting s now h =
      let p = h.place in
      let k = due_at limits p h.old h.before h.due h.work in
      let b = h.bits in
      let coded = bits_of_bytes p.coded in
      let one : bits_of_bytes (h.byte ∷ []) ≡ bits_of 8 h.byte = append-nil (bits_of 8 h.byte) in
      record {
        interval = k.interval;
        readable = record { distinct = ((h.work).readable).distinct };
        is = record { scan = (k.is).scan; places = (k.is).places; later = (k.is).later };
        framed = k.framed;
        so_far = k.so_far;
        taken = coded ++ b.0;
        cut = bits_join p.coded (h.byte ∷ []) ∙ ap (λ z. coded ++ z) (one ∙ b.1) ∙ sym (append_assoc coded b.0 waiting);
        stands = chain_stands any_scan (h.old).machine s.machine h.before now k.interval coded b.0 b.2 k.stands;
        whole = ap (λ (q : InScan). q.whole) h.same;
        due = ap (λ (q : InScan). q.due) h.same ∙ (h.work).due;
      }

-- Plain bytes one after another, inside the data of a scan.

-- THE PLACE after plain bytes
pub plain_at : (limits : Limits) (bytes : List ℕ) (p : ScanPlace) (run : List ℕ) → ArePlain run → ScanAt limits bytes p [] → ScanAt limits (bytes ++ run) (with_bytes p run) []
plain_at limits bytes p [] plain w =
    subst (λ l. ScanAt limits l (with_bytes p []) []) (sym (append-nil bytes)) (subst (λ l. ScanAt limits bytes (record p { coded = l }) []) (sym (append-nil p.coded)) (same p w))
  where
    same : (q : ScanPlace) → ScanAt limits bytes q [] → ScanAt limits bytes (record q { coded = q.coded }) []
    same q s = s
plain_at limits bytes p (b ∷ run) plain w =
    let first = plain_data limits bytes p b w (λ e. plain zero (omega arith) e) in
    let others = plain_at limits (bytes ++ b ∷ []) (with_byte p b) run (λ k low e. plain (suc k) (omega (arith, low)) e) first in
    subst (λ l. ScanAt limits l (with_bytes p (b ∷ run)) []) (append_assoc bytes (b ∷ []) run)
    (subst (λ l. ScanAt limits ((bytes ++ b ∷ []) ++ run) (record p { coded = l }) []) (append_assoc p.coded (b ∷ []) run) others)

-- a prefix of plain bytes is plain
pub front_plain : (run : List ℕ) (n : ℕ) → n ≤ length run → ArePlain run → ArePlain (take n run)
front_plain run n few plain k low e =
    let size = length-take-le n run few in
    plain k (omega (arith, low, size, few)) (sym (get_or-take n run k 0 (omega (arith, low, size))) ∙ e)

-- no FF waits
none_waits : (gate : Bool) (fill : ℕ) → gate ≡ false → Waits gate fill → fill ≡ 0
none_waits false fill e w = w
none_waits true fill e w = cc

pub open_at : (limits : Limits) (items : List Item) (contents bytes : List ℕ) (s : InScan) (now : Picture) → (d : InData limits items contents bytes s now) → s.gate ≡ false → ScanAt limits bytes d.place []
open_at limits items contents bytes s now d e = subst (λ n. ScanAt limits bytes d.place (replicate n 255)) (none_waits s.gate d.fill e d.waits) d.at

-- THE STATE before the last of the bytes
module _ (s : InScan) (now : Picture) (gate : s.gate ≡ false) (whole : s.whole ≡ false) where
  pub before_last : (m : ScanReader) (between : Picture) (run : List ℕ) (early : ℕ) → early ≤ length run → ArePlain run
      → Chain any_scan s.machine now (bits_of_bytes (take early run)) m between → (limits : Limits) (items : List Item) (contents bytes : List ℕ)
      → InData limits items contents bytes s now → InData limits items contents (bytes ++ take early run) (work_after s m taken.More) between
  before_last m between run early few plain chain limits items contents bytes d =
      record {
        place = with_bytes d.place (take early run);
        of = d.of;
        fill = 0;
        at = plain_at limits bytes d.place (take early run) (front_plain run early few plain) (open_at limits items contents bytes s now d gate);
        waits = refl;
        work = due_chain limits d.place s now whole d.work (take early run) m between chain;
      }

-- A byte inside the data of a scan, for the reader of a file.

pub none_some : {A : Type 0} (o : Option A) (a : A) → o ≡ Some a → o ≡ None → ⊥
none_some o a e h = cc

pub few_wait : (b : Bool) → waiting_bytes b ≤ 1
few_wait false = omega arith
few_wait true = omega arith

-- all blocks of the picture are stored, and no bits wait
pub whole_data : (limits : Limits) (items : List Item) (contents bytes : List ℕ) (s : InScan) (now : Picture) → InData limits items contents bytes s now → IsDataOf s (window.All now)
whole_data limits items contents bytes s now d = record {
  whole = now;
  shows = refl;
  inside = (limits, items, contents, bytes, d);
  due = λ e. (let k = of_work limits d.place s now e d.work in (scans_keep_units.unfinished s.machine k.interval k.taken now k.stands).some);
}

pub whole_byte : (s new : InScan) (now after : Picture) (byte : ℕ) (answer : Result Bool Named) → TakesByteInto s (window.All now) byte answer new (window.All after) → TakesByte s now byte answer [] new after
whole_byte s new now after byte answer t = λ limits items contents bytes d.
    (let k = t now refl (limits, items, contents, bytes, d) in subst (λ (q : Picture). AfterByte limits items contents (bytes ++ byte ∷ []) byte answer [] new q) (sym k.1) (k.2 limits items contents bytes d))

pub whole_run : (s new : InScan) (now after : Picture) (run : List ℕ) (n : ℕ) (answer : Result Bool Named) → IsInside s now → TakesRunInto s (window.All now) run n answer new (window.All after) → TakesRun s now run n answer [] new after
whole_run s new now after run n answer inside t = (let k = t now refl inside in subst (λ (q : Picture). TakesRun s now run n answer [] new q) (sym k.1) k.2)

-- the bytes are represented by the picture and the scan that are kept
pub data_of : {w : FileState} {coefs : Picture} {scan : InScan} → w.window ≡ window.All coefs → w.scan ≡ Some scan → {limits : Limits} {bytes : List ℕ} → (s : IsInsideScanOfFile limits bytes w) → InData limits s.items s.contents bytes scan coefs
data_of {w} {coefs} {scan} has is {limits} {bytes} s =
    subst (λ (q : Picture). InData limits s.items s.contents bytes scan q) (all_once s.coefs coefs (sym s.has ∙ has))
    (subst (λ (q : InScan). InData limits s.items s.contents bytes q s.coefs) (some_once s.scan scan (sym s.inside ∙ is)) s.coded)
