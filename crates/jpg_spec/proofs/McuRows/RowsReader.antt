-- THE LAW: a reader inside a scan of all components completes the MCU rows whose units it read.
use Rattle.std.proofs.Common.{◌≡◌, ℕ, ◌+◌, ◌*◌, ◌<◌, List, ◌∷◌, ◌++◌, length, refl, sym, ap, ◌∙◌, subst, arith, inl, inr, ℤ}
use Rattle.std.specs.Prelude.{flat_map, map}
use Rattle.std.proofs.lemmas.List.{append-nil, length-append}
use Rattle.jpg_spec.specs.Bits.{bits_of_bytes}
use Rattle.jpg_spec.specs.Lists.{chunks, joined}
use Rattle.jpg_spec.specs.Elements.{UnitLeft}
use Rattle.jpg_spec.specs.Parts.{StandsInUnits}
use Rattle.jpg_spec.specs.Scan.{Blocks, Scan, unit_at}
use Rattle.jpg_spec.specs.ScanFaults.{DataReveals}
use Rattle.jpg_spec.specs.Items.{segments_of}
use Rattle.jpg_spec.specs.FirstFault.{HoldsUnits}
use Rattle.jpg_spec.specs.ScanReading.{scan_at}
use Rattle.jpg_spec.specs.RowsParsed.{CompletesRows, TellsBlocks, TellsRows}
use Rattle.jpg_spec.specs.RowLaws.{IsUnderWay, ReadsAtLeast, ReadsUnitsOfRows, ReadsWholeRows, StopsInRows, TellsNoMore, blocks_read}
use Rattle.jpg_spec.specs.declared.fault.Fault.{Fault}
use Rattle.jpg_spec.specs.declared.frame.Limits.{Limits}
use Rattle.jpg_spec.specs.declared.frame.Place.{Place}
use Rattle.jpg_spec.proofs.Files.BlocksOnce.{band_of}
use Rattle.jpg_spec.proofs.Places.PictureInWork.{so_far_units}
use Rattle.jpg_spec.proofs.McuRows.RowsOnce.{whole_band}
use Rattle.jpg_spec.proofs.McuRows.RowsRead.{interval_tells, last_of, units_tell}
use Rattle.jpg_spec.proofs.Files.ScansOnce.{places_apart}
use Rattle.jpg_spec.proofs.McuRows.RowsStop.{due_cut, place_at, stop_completes}
use Rattle.jpg_spec.proofs.McuRows.RowsStopped.{bands_size}

-- THE NEXT UNIT has begun
under_way : (s : Scan) (before old : Blocks) (places : List Place) (coded : List ℕ) (told : List ℤ) (count : ℕ) → map (unit_at s old) places ≡ map (unit_at s before) places → length told ≡ 64 * count
    → IsUnderWay s old places coded told count → TellsNoMore s before places coded count
under_way s before old places coded told count same size (inl k) =
    let few = k.3 in
    inl (told ++ k.0, k.1, subst (λ (us : List UnitLeft). StandsInUnits s.coding us (told ++ k.0) k.1 (bits_of_bytes coded)) same k.2, omega (arith, few, size, length-append told k.0))
under_way s before old places coded told count same size (inr k) =
    let P : List UnitLeft → Type 0 = λ us. (fault : Fault) × (shown : DataReveals s.coding us fault (bits_of_bytes coded)) × (length shown.told < 64 * (count + 1)) in
    let p : P (map (unit_at s old) places) = k in
    inr (inl (subst P same p))

pub reads_complete : (limits : Limits) (bytes : List ℕ) (rows : ℕ) (w : ReadsUnitsOfRows limits bytes rows) → CompletesRows limits bytes rows (blocks_read limits w.place rows w.now)
reads_complete limits bytes rows w =
    let p = w.place in
    let s = scan_at limits p in
    let r = w.reads in
    let size : length r.told ≡ 64 * length r.part =
    ap length (r.read).told_there
    ∙ bands_size s w.now r.part (λ block long. ap length (whole_band limits (segments_of p.items) p.contents block (r.of_all).sequential long) ∙ long) (r.read).changes.sizes in
    let stop : StopsInRows limits bytes rows = record {
      place = p;
      tail = w.tail;
      at = w.at;
      of_all = r.of_all;
      places = _;
      more = w.more;
      told = w.now;
      tells = units_tell limits p w.now r;
      first = w.first;
      few = w.few;
      units = under_way s p.blocks r.old p.places p.coded r.told (length r.part) (so_far_units s p.blocks r.old p.done p.places p.later r.distinct r.so_far) size w.next;
      last = w.last;
    } in
    stop_completes limits bytes rows stop

-- THE INTERVAL is complete
pub whole_completes : (limits : Limits) (bytes : List ℕ) (rows : ℕ) (w : ReadsWholeRows limits bytes rows) → CompletesRows limits bytes rows (blocks_read limits w.place rows w.now)
whole_completes limits bytes rows w =
    let p = w.place in
    let s = scan_at limits p in
    let t : TellsBlocks s p.done p.coded _ w.now = interval_tells limits p w.now w.reads in
    let due = due_cut s p.blocks w.now (chunks s.interval s.places) t.whole p.done (p.places ∷ p.later) ((t.part ++ t.rest) ∷ t.later) (w.at).due t.spelled t.intervals in
    let cut = (places_apart p.places (t.part ++ t.rest) p.later t.later due).0 in
    let h = last_of s p.blocks w.now (w.reads).so_far.front p.done p.coded (w.reads).so_far.spelled in
    let at : HoldsUnits s p.blocks h.part p.coded = (flat_map (band_of s w.now) h.part, (h.here.0, h.here.1.0, h.here.1.2, h.here.2)) in
    let holds : HoldsUnits s p.blocks p.places p.coded = subst (λ q. HoldsUnits s p.blocks q p.coded) (sym (cut ∙ append-nil h.part)) at in
    let stop : StopsInRows limits bytes rows = record {
      place = p;
      tail = w.tail;
      at = w.at;
      of_all = (w.reads).of_all;
      places = _;
      more = w.more;
      told = w.now;
      tells = t;
      first = w.first;
      few = w.few;
      units = inr (inr (holds, sym (ap length (cut ∙ append-nil t.part))));
      last = w.last;
    } in
    stop_completes limits bytes rows stop

-- ROWS that are read are decoded
pub reads_tell : (limits : Limits) (bytes : List ℕ) (rows : ℕ) (w : ReadsAtLeast limits bytes rows) → TellsRows limits bytes rows (blocks_read limits w.place rows w.now)
reads_tell limits bytes rows w = record {
  front = (w.at).front ++ (w.at).head ++ (w.at).text;
  rest = w.tail;
  cut = (w.at).cut;
  place = place_at limits bytes w.place w.tail w.at;
  of_all = (w.reads).of_all;
  places = joined (w.reads).so_far.front ++ (w.reads).part;
  more = w.more;
  told = w.now;
  tells = units_tell limits w.place w.now w.reads;
  first = w.first;
  same = refl;
}
