-- The bits of an AC scan's units: those of the elements of its bands.
use Rattle.std.proofs.Common.{◌≡◌, ℕ, zero, suc, ◌+◌, ◌-◌, ◌^◌, ◌<◌, ◌≤◌, ◌==◌, ◌&&◌, ◌||◌, Bool, true, false, cond, List, [], ◌∷◌, ◌++◌, length, take, drop, refl, sym, ap, ◌∙◌, subst, arith, ℤ, pos, nat_abs, lit<, Result, Ok, Err}
use Rattle.std.specs.Prelude.{map, flat_map, slice_index_or, nat_lt, nat_le, int_le, ◌≤ℤ◌}
use Rattle.std.specs.List.{All}
use Rattle.std.proofs.lemmas.Int.{ints}
use Rattle.std.proofs.Math.Path.{fun_ext}
use Rattle.std.proofs.lemmas.List.{append-nil, get_or-replicate}
use Rattle.std.proofs.lemmas.List.Elements.{All-head}
use Rattle.jpg_spec.specs.Codes.{Code}
use Rattle.jpg_spec.specs.Lists.{is_empty, is_among}
use Rattle.jpg_spec.specs.Geometry.{Frame, bounds}
use Rattle.jpg_spec.specs.Segments.{HuffmanTable, ScanHead, table_codes}
use Rattle.jpg_spec.specs.ScanContents.{is_band, are_bits}
use Rattle.jpg_spec.specs.Elements.{Element, difference, dc_bit, value, long_run, ends, are_in_bounds, IsBlockIn, is_zero, zeros}
use Rattle.jpg_spec_write.specs.Sending.{Sent, correction, newly_significant, sent, up_to_last, after_last, corrections_of, value_elements, ended_bands, band_elements}
use Rattle.jpg_spec.specs.Scan.{Blocks, block_at, part_of}
use Rattle.jpg_spec_write.specs.ScanText.{UnitDue, Owned, band_of, is_dc, interval_elements, unit_elements, element_bits}
use Rattle.jpg_spec_write.specs.WrittenFile.{HasBlocksIn}
use Rattle.jpg_spec.specs.declared.frame.Place.{Place}
use Rattle.jpg_spec.specs.declared.frame.Bounds.{Bounds}
use Rattle.jpg_spec.specs.declared.frame.ScanPart.{ScanPart}
use Rattle.jpg_spec.proofs.Basics.Common.{both, le_of, same_of, lt_yes, not_same, from_test}
use Rattle.jpg_spec.proofs.Basics.Each.{Each, each_join}
use Rattle.jpg_spec.proofs.Headers.Precisions.{of_bounds}
use Rattle.jpg_spec.proofs.Basics.Small.{are_bounds}
use Rattle.jpg_huff.specs.declared.set.TableSet.{TableSet}
use Rattle.jpg_base.specs.Desk.{DeskState}
use Rattle.jpg_base.specs.declared.stop.WriteFault.{WriteFault}
use Rattle.jpg_huff.specs.Waiting.{Waiting}
use Rattle.jpg_coefs.specs.Sinks.{IsScanPlace, block_due}
use Rattle.jpg_coefs.specs.BitSinks.{interval_bits, PutsUpTo}
use Rattle.jpg_coefs.proofs.Places.{found_part, part_here, is_real_place}
use Rattle.jpg_prog_write.specs.Items.{spelled, texts}
use Rattle.jpg_prog_write.specs.Bands.{IsBandOf, IsReady, IsShort, sents, band_sents, elements_left, elements_waiting}
use Rattle.jpg_prog_write.specs.Putting.{PutsBand}
use Rattle.jpg_prog_write.specs.ScanSinks.{IsAcHead, IsBandUnit, AreBandsOf, bands_left}
use Rattle.jpg_prog_write.specs.Written.{IsProgScan, tables_in, codes_in, no_scan_part, first_slot}
use Rattle.jpg_prog_write.specs.declared.band.Band.{Band}
use Rattle.jpg_prog_write.specs.declared.bands.Bands.{Bands}

-- THE HEADER of an AC scan

few_bits : (f : Frame) (head : ScanHead) → are_bits f head ≡ true → head.al ≤ 13
few_bits f head e =
    let low = le_of head.al (bounds f).al (both (head.ah == 0 || head.ah == head.al + 1) (nat_le head.al (bounds f).al) e).1 in
    let few = (are_bounds f.precision).al_few in
    omega (arith, low, few)

pub bits_of_head : (f : Frame) (head : ScanHead) → IsProgScan f head → head.al ≤ 13
bits_of_head f head is = few_bits f head (both (is_band (length head.parts) head) (are_bits f head) is.parameters).1

pub ac_head : (f : Frame) (head : ScanHead) → IsProgScan f head → 1 ≤ head.ss → IsAcHead head
ac_head f head is some =
    let p = both (is_band (length head.parts) head) (are_bits f head) is.parameters in
    let n = length head.parts in
    let e : (n == 1 && (nat_le head.ss head.se && nat_le head.se 63)) ≡ true =
    sym (ap (λ b. cond b (head.se == 0) (n == 1 && (nat_le head.ss head.se && nat_le head.se 63))) (not_same head.ss 0 (λ z. omega (arith, z, some)))) ∙ p.0 in
    let q = both (n == 1) (nat_le head.ss head.se && nat_le head.se 63) e in
    let r = both (nat_le head.ss head.se) (nat_le head.se 63) q.1 in
    record { one = same_of n 1 q.0; some = some; order = le_of head.ss head.se r.0; most = le_of head.se 63 r.1; bits = few_bits f head p.1 }

-- the one part is that of each place
one_part : (f : Frame) (head : ScanHead) (p : Place) → length head.parts ≡ 1 → IsScanPlace f head p → (part_of head p.component).ac ≡ first_slot head
one_part f head p one is = by head.parts one is.named
  where
    first : (b : Bool) → (b || false) ≡ true → b ≡ true
    first true e = refl
    first false e = e

    by : (parts : List ScanPart) → length parts ≡ 1 → is_among p.component (map (λ q. q.component) parts) ≡ true
        → (found_part parts p.component).ac ≡ (slice_index_or parts 0 no_scan_part).ac
    by (q ∷ []) e n = ap (λ (r : ScanPart). r.ac) (part_here q [] p.component (first (q.component == p.component) n))
    by parts e n = absurd (omega (arith, e))

-- BANDS

band_same : (head : ScanHead) (band : Band) (block : List ℤ) → IsBandOf head band → sents band band.start band.end block ≡ band_of head block
unfolding sents
band_same head band block b =
    ap (λ r. map (sent r band.al) (take (band.end - band.start) (drop band.start block))) b.refines
    ∙ ap (λ a. map (sent (nat_lt 0 head.ah) a) (take (band.end - band.start) (drop band.start block))) b.al
    ∙ ap (λ n. map (sent (nat_lt 0 head.ah) head.al) (take (n - band.start) (drop band.start block))) b.end
    ∙ ap (λ n. map (sent (nat_lt 0 head.ah) head.al) (take (head.se + 1 - n) (drop n block))) b.start

-- ALL ELEMENTS ARE OF BANDS

abbrev pub IsOfBand : Element → Type 0
IsOfBand e = is_dc e ≡ false

values_band : (run : ℕ) (bits : List Bool) (band : List Sent) → Each IsOfBand (value_elements run bits band)
values_band run bits [] = tt
values_band run bits (correction b ∷ band) = values_band run (bits ++ b ∷ []) band
values_band run bits (newly_significant v ∷ band) = by (is_zero v) (run == 15) (values_band 0 [] band) (values_band (run + 1) bits band)
  where
    by : (z r : Bool) → Each IsOfBand (value_elements 0 [] band) → Each IsOfBand (value_elements (run + 1) bits band) → Each IsOfBand (cond z (cond r (long_run bits ∷ value_elements 0 [] band) (value_elements (run + 1) bits band)) (value run v bits ∷ value_elements 0 [] band))
    by true true none more = (refl, none)
    by true false none more = more
    by false r none more = (refl, none)

ended_band : (bands : ℕ) (bits : List Bool) → Each IsOfBand (ended_bands bands bits)
ended_band zero bits = tt
ended_band (suc bands) bits = (refl, tt)

pub all_band : (bands : ℕ) (bits : List Bool) (later : List (List Sent)) → Each IsOfBand (band_elements 32767 bands bits later)
all_band bands bits [] = ended_band bands bits
all_band bands bits (band ∷ later) =
    let front = up_to_last band in
    let rest = after_last band in
    let waits = cond (is_empty front) bands 0 in
    let waiting = cond (is_empty front) bits [] ++ corrections_of rest in
    each_join IsOfBand (cond (is_empty front) [] (ended_bands bands bits ++ value_elements 0 [] front))
    (cond (is_empty rest) (band_elements 32767 0 [] later) (cond (waits + 1 == 32767 || nat_lt 937 (length waiting)) (ended_bands (waits + 1) waiting ++ band_elements 32767 0 [] later) (band_elements 32767 (waits + 1) waiting later)))
    (first (is_empty front)) (second (is_empty rest) (waits + 1 == 32767 || nat_lt 937 (length waiting)) waits waiting (λ n bs. all_band n bs later))
  where
    first : (b : Bool) → Each IsOfBand (cond b [] (ended_bands bands bits ++ value_elements 0 [] (up_to_last band)))
    first true = tt
    first false = each_join IsOfBand (ended_bands bands bits) (value_elements 0 [] (up_to_last band)) (ended_band bands bits) (values_band 0 [] (up_to_last band))

    second : (b full : Bool) (waits : ℕ) (waiting : List Bool) → ((n : ℕ) (bs : List Bool) → Each IsOfBand (band_elements 32767 n bs later)) → Each IsOfBand (cond b (band_elements 32767 0 [] later) (cond full (ended_bands (waits + 1) waiting ++ band_elements 32767 0 [] later) (band_elements 32767 (waits + 1) waiting later)))
    second true full waits waiting go = go 0 []
    second false true waits waiting go = each_join IsOfBand (ended_bands (waits + 1) waiting) (band_elements 32767 0 [] later) (ended_band (waits + 1) waiting) (go 0 [])
    second false false waits waiting go = go (waits + 1) waiting

-- THEIR BITS

abbrev pub Tables : Type 0
Tables = ℕ → ℕ → HuffmanTable

one_spelled : (T : Tables) (head : ScanHead) (i : ℕ) (e : Element) → IsOfBand e → element_bits T head (i, e) ≡ spelled (table_codes (T 1 (part_of head i).ac)) e
unfolding element_bits
one_spelled T head i (difference d) h = cc
one_spelled T head i (dc_bit b) h = cc
one_spelled T head i (value run v bits) h = refl
one_spelled T head i (long_run bits) h = refl
one_spelled T head i (ends bands bits) h = refl

owned_all : {X : Type 0} (each : Owned → List X) (plain : Element → List X) (u : UnitDue) (due : List UnitDue) (es : List Element) → ((e : Element) → IsOfBand e → each (u.0, e) ≡ plain e) → Each IsOfBand es
    → flat_map each (flat_map (λ e. map (λ (v : UnitDue). (let o : Owned = (v.0, e) in o)) (take 1 (u ∷ due))) es) ≡ flat_map plain es
owned_all each plain u due [] same h = refl
owned_all each plain u due (e ∷ es) same h =
    let rest = flat_map each (flat_map (λ e. map (λ (v : UnitDue). (let o : Owned = (v.0, e) in o)) (take 1 (u ∷ due))) es) in
    ap (λ x. x ++ rest) (same e h.0) ∙ ap (λ x. plain e ++ x) (owned_all each plain u due es same h.1)

-- the results of the elements of the bands of an interval
pub band_all : {X : Type 0} (each : Owned → List X) (plain : Element → List X) (head : ScanHead) (band : Band) (due : List UnitDue) → 1 ≤ head.ss → IsBandOf head band → All (IsBandUnit head) due
    → ((u : UnitDue) → IsBandUnit head u → (e : Element) → IsOfBand e → each (u.0, e) ≡ plain e)
    → flat_map plain (band_elements 32767 0 [] (map (λ (u : UnitDue). band_sents band u.1) due)) ≡ flat_map each (interval_elements true head due)
band_all {X} each plain head band [] some b all same = by (nat_lt 0 head.ss)
  where
    by : (r : Bool) → (let nothing : List X = [] in nothing) ≡ flat_map each (cond r (flat_map (λ e. map (λ (v : UnitDue). (let o : Owned = (v.0, e) in o)) []) []) (unit_elements false (nat_lt 0 head.ah) head.al (λ i. pos 0) []))
    by true = refl
    by false = refl
band_all each plain head band (u ∷ due) some b all same =
    let es = band_elements 32767 0 [] (map (λ (v : UnitDue). band_of head v.1) (u ∷ due)) in
    ap (λ (of : List ℤ → List Sent). flat_map plain (band_elements 32767 0 [] (map (λ (v : UnitDue). of v.1) (u ∷ due)))) (fun_ext (λ block. band_same head band block b))
    ∙ sym (owned_all each plain u due es (same u (All-head (IsBandUnit head) u due all)) (all_band 0 [] (map (λ (v : UnitDue). band_of head v.1) (u ∷ due))))
    ∙ ap (λ r. flat_map each (cond r (flat_map (λ e. map (λ (v : UnitDue). (let o : Owned = (v.0, e) in o)) (take 1 (u ∷ due))) es) (unit_elements false (nat_lt 0 head.ah) head.al (λ i. pos 0) (u ∷ due)))) (sym (lt_yes 0 head.ss some))

-- where no EOB run waits, the bands of an interval
pub none_waits : {X : Type 0} (of : List Element → List X) (b : Bands) (due : List UnitDue) → IsReady b → b.bands ≡ 0 → of (bands_left b due) ≡ of (band_elements 32767 0 [] (map (λ (u : UnitDue). band_sents b.band u.1) due))
none_waits of b due ready none =
    let later = map (λ (u : UnitDue). band_sents b.band u.1) due in
    ap (λ n. of (band_elements 32767 n b.waiting.items later)) none ∙ ap (λ bits. of (band_elements 32767 0 bits later)) (ready.none none)

pub band_texts : (set : TableSet) (head : ScanHead) (b : Bands) (due : List UnitDue) → AreBandsOf head b → b.bands ≡ 0 → All (IsBandUnit head) due
    → texts (codes_in set 1 (first_slot head)) (bands_left b due) ≡ interval_bits true (tables_in set) head due
unfolding texts
band_texts set head b due are none all =
    none_waits (texts (codes_in set 1 (first_slot head))) b due are.ready none
    ∙ band_all (element_bits (tables_in set) head) (spelled (codes_in set 1 (first_slot head))) head b.band due are.ac.some are.band all
    (λ u is e of. one_spelled (tables_in set) head u.0 e of ∙ ap (λ n. spelled (codes_in set 1 n) e) is.slot)

module _ (s0 s1 : DeskState) (o0 o1 : Waiting) (codes : List Code) where
  -- the bands of a unit, and of those after it
  pub band_puts : (old mid new : Bands) (u : UnitDue) (due : List UnitDue) (result : Result (Unit {0}) WriteFault) → new.band ≡ mid.band → mid.band ≡ old.band
      → ((later : List (List Sent)) → elements_waiting old (band_sents old.band u.1 ∷ later) ≡ elements_left mid later)
      → PutsBand s0 o0 codes mid result new o1 s1 → PutsUpTo s0 o0 (texts codes (bands_left old (u ∷ due))) (texts codes (bands_left new due)) result o1 s1
  band_puts old mid new u due (Ok tt) same begun e puts =
      let later = map (λ (v : UnitDue). band_sents old.band v.1) due in
      let p = puts later in
      (p.0, ap (texts codes) (e later) ∙ sym p.1 ∙ ap (λ band. p.0 ++ texts codes (elements_waiting new (map (λ (v : UnitDue). band_sents band v.1) due))) (sym (same ∙ begun)), p.2)
  band_puts old mid new u due (Err f) same begun e puts =
      let later = map (λ (v : UnitDue). band_sents old.band v.1) due in
      (texts codes (elements_left mid later), [], ap (texts codes) (e later) ∙ sym (append-nil (texts codes (elements_left mid later))), puts later)

-- BLOCKS

small_at : (r : Bounds) → r.ac ≤ℤ pos 16383 → (values : List ℤ) (k : ℕ) → are_in_bounds r false values ≡ true → nat_abs (slice_index_or values k (pos 0)) < 2 ^ 14
small_at r b [] k ok = lit< tt
small_at r b (v ∷ values) k ok =
    let h = both (int_le (pos (nat_abs v)) r.ac) (are_in_bounds r false values) ok in
    by k (from_test (pos (nat_abs v)) r.ac h.0) (λ n. small_at r b values n h.1)
  where
    by : (k : ℕ) → pos (nat_abs v) ≤ℤ r.ac → ((n : ℕ) → nat_abs (slice_index_or values n (pos 0)) < 2 ^ 14) → nat_abs (slice_index_or (v ∷ values) k (pos 0)) < 2 ^ 14
    by zero few ih = omega (arith, ints, few, b)
    by (suc n) few ih = ih n

block_small : (r : Bounds) → r.ac ≤ℤ pos 16383 → (block : List ℤ) → are_in_bounds r true block ≡ true → (k : ℕ) → 1 ≤ k → nat_abs (slice_index_or block k (pos 0)) < 2 ^ 14
block_small r b [] ok k h = lit< tt
block_small r b (v ∷ values) ok zero h = absurd (omega (arith, h))
block_small r b (v ∷ values) ok (suc k) h = small_at r b values k (both (int_le r.dc_low v && int_le v r.dc_high) (are_in_bounds r false values) ok).1

block_short : (f : Frame) (block : List ℤ) → IsBlockIn (bounds f) block → IsShort block
block_short f block is =
    let most : (bounds f).ac ≤ℤ pos 16383 = of_bounds (λ b. b.ac ≤ℤ pos 16383) (omega (arith, ints)) (omega (arith, ints)) f.precision in
    record { long = is.0; short = λ k one few. block_small (bounds f) most block is.1 k one }

padded_short : (last : ℤ) → IsShort (last ∷ zeros 63)
padded_short last = record { long = refl; short = at }
  where
    at : (k : ℕ) → 1 ≤ k → k < 64 → nat_abs (slice_index_or (last ∷ zeros 63) k (pos 0)) < 2 ^ 14
    at zero one few = absurd (omega (arith, one))
    at (suc k) one few = (let e = get_or-replicate 63 k (pos 0) (pos 0) (omega (arith, few)) in subst (λ v. nat_abs v < 2 ^ 14) (sym e) (lit< tt))

due_short : (f : Frame) (head : ScanHead) (blocks : Blocks) (last : ℤ) (p : Place) → HasBlocksIn f blocks → IsScanPlace f head p → IsShort (block_due blocks last p)
due_short f head blocks last p all is = by p.real refl
  where
    by : (b : Bool) → p.real ≡ b → IsShort (cond b (block_at blocks p) (last ∷ zeros 63))
    by true e = block_short f (block_at blocks p) (all p.component p.x p.y (is_real_place f head p is e))
    by false e = padded_short last

pub unit_fits : (f : Frame) (head : ScanHead) (blocks : Blocks) (last : ℤ) (p : Place) → HasBlocksIn f blocks → length head.parts ≡ 1 → IsScanPlace f head p → IsBandUnit head (p.component, block_due blocks last p)
unit_fits f head blocks last p all one is = record { slot = one_part f head p one is; short = due_short f head blocks last p all is }
