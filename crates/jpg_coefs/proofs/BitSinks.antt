-- Sinks of bits, one call after another.
use Rattle.std.proofs.Common.{◌≡◌, ℕ, ◌+◌, ◌*◌, ◌%◌, Bool, List, [], ◌∷◌, ◌++◌, Option, None, Some, Result, Ok, Err, refl, sym, ap, ◌∙◌, ℤ}
use Rattle.std.specs.Prelude.{map, flat_map, All}
use Rattle.std.proofs.lemmas.List.{append_assoc, append-nil}
use Rattle.std.proofs.lemmas.List.Elements.{All-head, All-tail, All-nil, All-cons, All-same}
use Rattle.jpg_base.specs.Desk.{DeskState}
use Rattle.jpg_base.specs.declared.stop.WriteFault.{WriteFault}
use Rattle.jpg_base.specs.Cursor.{AreIn}
use Rattle.jpg_spec.specs.Bits.{data_of}
use Rattle.jpg_spec.specs.Lists.{chunks}
use Rattle.jpg_spec.specs.Geometry.{Frame, units, mcu_units, is_progressive}
use Rattle.jpg_spec.specs.Segments.{HuffmanTable, ScanHead, head_components}
use Rattle.jpg_spec.specs.Scan.{Blocks}
use Rattle.jpg_spec.specs.declared.frame.Place.{Place}
use Rattle.jpg_spec.proofs.Basics.Rows.{map_map}
use Rattle.jpg_spec.proofs.Basics.Each.{Each, each_rows}
use Rattle.jpg_spec_write.specs.ScanText.{UnitDue, Owned, units_due, last_dc, interval_elements, element_bits, scan_elements, scan_data, intervals_text}
use Rattle.jpg_huff.specs.Waiting.{Waiting}
use Rattle.jpg_huff.specs.BitOut.{CanSend, Puts, Pads, Sends}
use Rattle.jpg_huff.proofs.Together.{puts_nothing, puts_then, puts_fault, puts_same, puts_pad, puts_unpadded, sends_nothing, sends_then, sends_fault, sends_same}
use Rattle.jpg_coefs.specs.Sinks.{IsScanPlace, block_due, no_last, intervals_due, At, Due, Goes, after_unit, before_next, in_next, at_end, TakesUnit, Ends, Begins}
use Rattle.jpg_coefs.specs.BitSinks.{interval_bits, text_of, Output, output, IsWriting, BitSink, WritesDue, bit_kind, PutsUpTo, PutsRestart, PutsEnd}
use Rattle.jpg_coefs.proofs.Places.{each_place}

-- ALL DATA

pub written_text : (T : ℕ → ℕ → HuffmanTable) (f : Frame) (head : ScanHead) (interval : ℕ) (blocks : Blocks) (b : Bool) → is_progressive f.process ≡ b
    → text_of (interval_bits b T head) 0 (intervals_due f head interval blocks) ≡ scan_data T head (scan_elements f head interval blocks)
unfolding scan_data
written_text T f head interval blocks b e =
    let cs = chunks (interval * mcu_units f (head_components head)) (units f (head_components head)) in
    ap (intervals_text 0) (map_map (λ (due : List UnitDue). data_of (interval_bits b T head due)) (units_due blocks no_last) cs)
    ∙ sym (ap (λ b. intervals_text 0 (map (λ elements. data_of (flat_map (element_bits T head) elements)) (map (λ places. interval_elements b head (units_due blocks no_last places)) cs))) e
    ∙ ap (intervals_text 0) (map_map (λ (elements : List Owned). data_of (flat_map (element_bits T head) elements)) (λ places. interval_elements b head (units_due blocks no_last places)) cs))

-- what holds of all units of a scan
units_hold : (P : UnitDue → Type 0) (f : Frame) (head : ScanHead) (blocks : Blocks) (last : ℕ → ℤ) (places : List Place) → ((p : Place) (last : ℤ) → IsScanPlace f head p → P (p.component, block_due blocks last p)) → Each (IsScanPlace f head) places
    → All P (units_due blocks last places)
units_hold P f head blocks last [] at e = All-nil P
units_hold P f head blocks last (p ∷ places) at e =
    let block = block_due blocks (last p.component) p in
    let u : UnitDue = (p.component, block) in
    All-cons P u (units_due blocks (last_dc last p.component block) places) (at p (last p.component) e.0) (units_hold P f head blocks (last_dc last p.component block) places at e.1)

rows_hold : (P : UnitDue → Type 0) (f : Frame) (head : ScanHead) (blocks : Blocks) (rows : List (List Place)) → ((p : Place) (last : ℤ) → IsScanPlace f head p → P (p.component, block_due blocks last p)) → Each (λ row. Each (IsScanPlace f head) row) rows
    → All (λ due. All P due) (map (units_due blocks no_last) rows)
rows_hold P f head blocks [] at e = All-nil (λ (due : List UnitDue). All P due)
rows_hold P f head blocks (row ∷ rows) at e =
    All-cons (λ (due : List UnitDue). All P due) (units_due blocks no_last row) (map (units_due blocks no_last) rows) (units_hold P f head blocks no_last row at e.0) (rows_hold P f head blocks rows at e.1)

pub all_units : (P : UnitDue → Type 0) (f : Frame) (head : ScanHead) (interval : ℕ) (blocks : Blocks) → AreIn f (head_components head) → ((p : Place) (last : ℤ) → IsScanPlace f head p → P (p.component, block_due blocks last p))
    → All (λ due. All P due) (intervals_due f head interval blocks)
all_units P f head interval blocks is at =
    rows_hold P f head blocks (chunks (interval * mcu_units f (head_components head)) (units f (head_components head))) at
    (each_rows (IsScanPlace f head) (interval * mcu_units f (head_components head)) (units f (head_components head)) (each_place f head is))

-- BEFORE THE FIRST UNIT

pub begins : {S D : Type 0} (b : BitSink S) (state : D → DeskState) (now : At S Waiting D) (all : List (List UnitDue)) → b.later now.sink now.sink → CanSend (state now.desk) now.out → All (λ due. All (b.fits now.sink) due) all
    → ((due : List UnitDue) → All (b.fits now.sink) due → b.rest now.sink no_last due ≡ b.bits now.sink due) → Begins (bit_kind b state) all now
begins b state now all same can fits start first later e =
    let P : List UnitDue → Type 0 = λ due. All (b.fits now.sink) due in
    let each = All-same P (first ∷ later) all (sym e) fits in
    record {
      sink = same;
      rest_fits = All-head P first later each;
      later_fits = All-tail P first later each;
      writing = record {
        this = first;
        sent = [];
        between = state now.desk;
        before = now.out;
        joined = ap (text_of (b.bits now.sink) 0) (sym e);
        sends = sends_nothing (state now.desk) now.out can.none;
        put = [];
        whole = start first (All-head P first later each);
        puts = puts_nothing (state now.desk) now.out;
        created = can.created;
      };
    }

-- SOME BITS

-- the data of an interval, and what is left of it
interval_data : (bits : List UnitDue → List Bool) (number : ℕ) (this : List UnitDue) (later : List (List UnitDue)) → (more : List ℕ) × (text_of bits number (this ∷ later) ≡ data_of (bits this) ++ more)
interval_data bits number this [] = ([], sym (append-nil (data_of (bits this))))
interval_data bits number this (next ∷ later) = (_, refl)

module _ {bits : List UnitDue → List Bool} {from now : Output} {all later : List (List UnitDue)} {number : ℕ} {rest : List Bool} (w : IsWriting bits from all number later rest now) where
  put_more : {piece : List Bool} {r : Result (Unit {0}) WriteFault} {new : Output} → Puts now.state now.out piece r new.out new.state → Puts w.between w.before (w.put ++ piece) r new.out new.state
  put_more {piece} {r} {new} h = puts_then w.between now.state new.state w.before now.out new.out w.put piece r w.puts h

  whole_by : (piece left : List Bool) → rest ≡ piece ++ left → (w.put ++ piece) ++ left ≡ bits w.this
  whole_by piece left e = append_assoc w.put piece left ∙ ap (λ x. w.put ++ x) (sym e) ∙ w.whole

  more_bits : {piece left : List Bool} {new : Output} → rest ≡ piece ++ left → Puts now.state now.out piece (Ok tt) new.out new.state → IsWriting bits from all number later left new
  more_bits {piece} {left} {new} e h = record {
    this = w.this;
    sent = w.sent;
    between = w.between;
    before = w.before;
    joined = w.joined;
    sends = w.sends;
    put = w.put ++ piece;
    whole = whole_by piece left e;
    puts = put_more {new = new} h;
    created = h.kept.output_created ∙ w.created;
  }

  fault_bits : {piece : List Bool} {new : Output} (left : List Bool) (f : WriteFault) → rest ≡ piece ++ left → Puts now.state now.out piece (Err f) new.out new.state
      → Sends from.state from.out (text_of bits 0 all) (Err f) new.out new.state
  fault_bits {piece} {new} left f e h =
      let put = puts_fault w.between new.state w.before new.out (w.put ++ piece) left f (put_more {new = new} h) in
      let d = interval_data bits number w.this later in
      let part = sends_fault w.between new.state w.before new.out (data_of (bits w.this)) d.0 f (puts_unpadded w.between new.state w.before new.out (bits w.this) f w.sends.none (puts_same w.between new.state w.before new.out _ _ (Err f) (whole_by piece left e) put)) in
      sends_same from.state new.state from.out new.out _ _ (Err f) (ap (λ x. w.sent ++ x) (sym d.1) ∙ w.joined) (sends_then from.state w.between new.state from.out w.before new.out w.sent _ (Err f) w.sends part)

  -- the rest of an interval is put
  all_put : {new : Output} → Puts now.state now.out rest (Ok tt) new.out new.state → Puts w.between w.before (bits w.this) (Ok tt) new.out new.state
  all_put {new} h = puts_same w.between new.state w.before new.out _ _ (Ok tt) w.whole (put_more {new = new} h)

module _ {S D : Type 0} (b : BitSink S) (state : D → DeskState) where
  -- ONE UNIT

  pub takes_unit : (u : UnitDue) (last : ℤ) (old new : At S Waiting D) (result : Result (Unit {0}) WriteFault)
      → ((from : S) (lasts : ℕ → ℤ) (rest : List UnitDue) → b.later from old.sink → b.fits from u → lasts u.0 ≡ last
      → ((u : Unit {0}) → result ≡ Ok u → b.later from new.sink) × PutsUpTo (state old.desk) old.out (b.rest old.sink lasts (u ∷ rest)) (b.rest new.sink (last_dc lasts u.0 u.1) rest) result new.out (state new.desk))
      → TakesUnit (bit_kind b state) u last old result new
  takes_unit u last old new result puts d e w = by result (puts d.from.sink d.last d.rest w.sink (All-head (b.fits d.from.sink) u d.rest w.rest_fits) e)
    where
      by : (r : Result (Unit {0}) WriteFault)
          → ((u : Unit {0}) → r ≡ Ok u → b.later d.from.sink new.sink) × PutsUpTo (state old.desk) old.out (b.rest old.sink d.last (u ∷ d.rest)) (b.rest new.sink (last_dc d.last u.0 u.1) d.rest) r new.out (state new.desk)
          → Goes (bit_kind b state) (after_unit d u) r new
      by (Ok tt) h = record {
        sink = h.0 tt refl;
        rest_fits = All-tail (b.fits d.from.sink) u d.rest w.rest_fits;
        later_fits = w.later_fits;
        writing = more_bits w.writing {new = output state new} h.1.1 h.1.2;
      }
      by (Err f) h = fault_bits w.writing {new = output state new} h.1.1 f h.1.2 h.1.3

  -- ENDS

  -- a fault came with the last bits of an interval
  end_fault : (d : Due S Waiting D) (old new : At S Waiting D) (f : WriteFault) → WritesDue b state d old → Puts (state old.desk) old.out (b.rest old.sink d.last d.rest) (Err f) new.out (state new.desk)
      → Sends (state d.from.desk) d.from.out (text_of (b.bits d.from.sink) 0 d.all) (Err f) new.out (state new.desk)
  end_fault d old new f w h = fault_bits w.writing {new = output state new} [] f (sym (append-nil (b.rest old.sink d.last d.rest))) h

  -- Between two states the bits that are left of an interval are put; the next interval begins in the latter.
  record EndsBits (d : Due S Waiting D) (next : List UnitDue) (old mid new : At S Waiting D) : Type 0 where
    due : WritesDue b state (before_next d next) old
    puts : Puts (state old.desk) old.out (b.rest old.sink d.last []) (Ok tt) mid.out (state mid.desk)
    later : b.later d.from.sink new.sink
    start : b.rest new.sink no_last next ≡ b.bits d.from.sink next

  -- they are put, and then a restart marker
  restarts : (turn : ℕ) (d : Due S Waiting D) (next : List UnitDue) (old mid new : At S Waiting D) (result : Result (Unit {0}) WriteFault) → turn ≡ d.number % 8 → EndsBits d next old mid new
      → PutsRestart turn (state mid.desk) mid.out result new.out (state new.desk) → Goes (bit_kind b state) (in_next d next) result new
  restarts turn d next old mid new result t w k = by result all sent
    where
      bits : List UnitDue → List Bool
      bits = b.bits d.from.sink

      v : IsWriting bits (output state d.from) d.all d.number (next ∷ d.later) (b.rest old.sink d.last []) (output state old)
      v = (w.due).writing

      piece : List ℕ
      piece = data_of (bits v.this) ++ 255 ∷ (0xd0 + turn) ∷ []

      sent : Sends (state d.from.desk) d.from.out (v.sent ++ piece) result new.out (state new.desk)
      sent = sends_then (state d.from.desk) v.between (state new.desk) d.from.out v.before new.out v.sent piece result v.sends (k v.between v.before (bits v.this) v.sends.none (all_put v {new = output state mid} w.puts))

      all : (v.sent ++ piece) ++ text_of bits (d.number + 1) (next ∷ d.later) ≡ text_of bits 0 d.all
      all = append_assoc v.sent piece _
          ∙ ap (λ x. v.sent ++ x) (append_assoc (data_of (bits v.this)) (255 ∷ (0xd0 + turn) ∷ []) _)
          ∙ ap (λ n. v.sent ++ (data_of (bits v.this) ++ 255 ∷ (0xd0 + n) ∷ text_of bits (d.number + 1) (next ∷ d.later))) t ∙ v.joined

      by : (r : Result (Unit {0}) WriteFault) → (v.sent ++ piece) ++ text_of bits (d.number + 1) (next ∷ d.later) ≡ text_of bits 0 d.all
          → Sends (state d.from.desk) d.from.out (v.sent ++ piece) r new.out (state new.desk) → Goes (bit_kind b state) (in_next d next) r new
      by (Ok tt) e s = record {
        sink = w.later;
        rest_fits = All-head (λ (due : List UnitDue). All (b.fits d.from.sink) due) next d.later (w.due).later_fits;
        later_fits = All-tail (λ (due : List UnitDue). All (b.fits d.from.sink) due) next d.later (w.due).later_fits;
        writing = record {
          this = next;
          sent = v.sent ++ piece;
          between = state new.desk;
          before = new.out;
          joined = e;
          sends = s;
          put = [];
          whole = w.start;
          puts = puts_nothing (state new.desk) new.out;
          created = s.kept.output_created ∙ sym v.sends.kept.output_created ∙ sym v.puts.kept.output_created ∙ v.created;
        };
      }
      by (Err f) e s = sends_same (state d.from.desk) (state new.desk) d.from.out new.out _ _ (Err f) e (sends_fault (state d.from.desk) (state new.desk) d.from.out new.out (v.sent ++ piece) _ f s)

  -- they are put, and padded
  finishes : (d : Due S Waiting D) (old mid : At S Waiting D) (result : Result (Unit {0}) WriteFault) (out : Waiting) (desk : D) → WritesDue b state (at_end d) old
      → Puts (state old.desk) old.out (b.rest old.sink d.last []) (Ok tt) mid.out (state mid.desk) → Pads (state mid.desk) mid.out result out (state desk)
      → Sends (state d.from.desk) d.from.out (text_of (b.bits d.from.sink) 0 d.all) result out (state desk)
  finishes d old mid result out desk w h k =
      let v = w.writing in
      let put = all_put v {new = output state mid} h in
      sends_same (state d.from.desk) (state desk) d.from.out out _ _ result v.joined
      (sends_then (state d.from.desk) v.between (state desk) d.from.out v.before out v.sent _ result v.sends (puts_pad v.between (state mid.desk) (state desk) v.before mid.out out (b.bits d.from.sink v.this) result v.sends.none put k))

-- the bits of one call
pub puts_up_to : (s0 s1 : DeskState) (o0 o1 : Waiting) (all piece rest : List Bool) (r : Result (Unit {0}) WriteFault) → all ≡ piece ++ rest → Puts s0 o0 piece r o1 s1 → PutsUpTo s0 o0 all rest r o1 s1
puts_up_to s0 s1 o0 o1 all piece rest (Ok tt) e h = (piece, e, h)
puts_up_to s0 s1 o0 o1 all piece rest (Err f) e h = (piece, rest, e, h)

-- a fault of the pad
pub pad_fault : (marker : Option ℕ) (s1 s2 : DeskState) (o1 o2 : Waiting) (f : WriteFault) → Pads s1 o1 (Err f) o2 s2 → PutsEnd marker s1 o1 (Err f) o2 s2
pad_fault None s1 s2 o1 o2 f h = h
pad_fault (Some n) s1 s2 o1 o2 f h = λ s0 o0 bits none k. sends_fault s0 s2 o0 o2 _ _ f (puts_pad s0 s1 s2 o0 o1 o2 bits (Err f) none k h)

module _ {S D : Type 0} (b : BitSink S) (state : D → DeskState) where
  pub ends : (marker : Option ℕ) (old mid new : At S Waiting D) (result : Result (Unit {0}) WriteFault)
      → ((last : ℕ → ℤ) → Puts (state old.desk) old.out (b.rest old.sink last []) (Ok tt) mid.out (state mid.desk)) → PutsEnd marker (state mid.desk) mid.out result new.out (state new.desk)
      → ((from : S) (due : List UnitDue) → b.later from old.sink → All (b.fits from) due → b.later from new.sink × (b.rest new.sink no_last due ≡ b.bits from due)) → Ends (bit_kind b state) marker old result new
  ends (Some n) old mid new result puts h start = λ d next t w.
      let s = start d.from.sink next w.sink (All-head (λ (due : List UnitDue). All (b.fits d.from.sink) due) next d.later w.later_fits) in
      restarts b state n d next old mid new result t (record { due = w; puts = puts d.last; later = s.0; start = s.1 }) h
  ends None old mid new result puts h start = λ d w. finishes b state d old mid result new.out new.desk w (puts d.last) h

  pub ends_fault : (marker : Option ℕ) (old new : At S Waiting D) (f : WriteFault) → ((last : ℕ → ℤ) → Puts (state old.desk) old.out (b.rest old.sink last []) (Err f) new.out (state new.desk))
      → Ends (bit_kind b state) marker old (Err f) new
  ends_fault (Some n) old new f puts = λ d next t w. end_fault b state (before_next d next) old new f w (puts d.last)
  ends_fault None old new f puts = λ d w. end_fault b state (at_end d) old new f w (puts d.last)

  -- where no bits of the units are left
  pub plain_ends : (marker : Option ℕ) (old new : At S Waiting D) (result : Result (Unit {0}) WriteFault) → ((last : ℕ → ℤ) → b.rest old.sink last [] ≡ [])
      → PutsEnd marker (state old.desk) old.out result new.out (state new.desk)
      → ((from : S) (due : List UnitDue) → b.later from old.sink → All (b.fits from) due → b.later from new.sink × (b.rest new.sink no_last due ≡ b.bits from due)) → Ends (bit_kind b state) marker old result new
  plain_ends marker old new result none h start =
      ends marker old old new result (λ last. puts_same (state old.desk) (state old.desk) old.out old.out _ _ (Ok tt) (sym (none last)) (puts_nothing (state old.desk) old.out)) h start
