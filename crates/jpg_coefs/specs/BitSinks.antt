-- WHAT SINKS OF BITS WRITE: the bits of each interval, padded with ones, and RST0 to RST7 in turn between them (T.81,
-- E.1.4).
use Rattle.std.specs.Prelude.{◌≡◌, ℕ, ◌+◌, Bool, true, List, [], ◌∷◌, ◌++◌, map, flat_map, All, ℤ, Option, Some, None, Result, Ok, Err}
use Rattle.jpg_base.specs.Desk.{DeskState}
use Rattle.jpg_base.specs.declared.stop.WriteFault.{WriteFault}
use Rattle.jpg_spec.specs.Bits.{data_of}
use Rattle.jpg_spec.specs.Segments.{HuffmanTable, ScanHead}
use Rattle.jpg_spec_write.specs.ScanText.{UnitDue, interval_elements, element_bits, intervals_text}
use Rattle.jpg_huff.specs.Waiting.{Waiting}
use Rattle.jpg_huff.specs.BitOut.{Puts, Pads, Sends}
use Rattle.jpg_coefs.specs.Sinks.{At, Due, SinkKind}

-- the bits of the units of an interval, by these tables
abbrev pub interval_bits : Bool → (ℕ → ℕ → HuffmanTable) → ScanHead → List UnitDue → List Bool
interval_bits is_prog tables head due = flat_map (element_bits tables head) (interval_elements is_prog head due)

-- the data of intervals, the first of which has this number
abbrev pub text_of : (List UnitDue → List Bool) → ℕ → List (List UnitDue) → List ℕ
text_of bits number intervals = intervals_text number (map (λ due. data_of (bits due)) intervals)

-- a desk, and the bits that wait before it
pub record Output : Type 0 where
  pub state : DeskState
  pub out : Waiting

abbrev pub output : {S D : Type 0} → (D → DeskState) → At S Waiting D → Output
output state a = record { state = state a.desk; out = a.out }

-- After a first state some intervals are written, and the bits of a further one but for a rest.
pub record IsWriting (bits : List UnitDue → List Bool) (from : Output) (all : List (List UnitDue)) (number : ℕ) (later : List (List UnitDue)) (rest : List Bool) (now : Output) : Type 0 where
  pub this : List UnitDue
  pub sent : List ℕ
  pub between : DeskState
  pub before : Waiting
  pub joined : sent ++ text_of bits number (this ∷ later) ≡ text_of bits 0 all
  pub sends : Sends from.state from.out sent (Ok tt) before between
  pub put : List Bool
  pub whole : put ++ rest ≡ bits this
  pub puts : Puts between before put (Ok tt) now.out now.state
  pub created : (now.state).output_created ≡ true

-- A sink whose results are bits: those of an interval, the units that it takes, the bits of the rest of an interval in
-- some state, after these DC values, and its later states.
pub record BitSink (S : Type 0) : Type 1 where
  pub bits : S → List UnitDue → List Bool
  pub fits : S → UnitDue → Type 0
  pub rest : S → (ℕ → ℤ) → List UnitDue → List Bool
  pub later : S → S → Type 0

pub record WritesDue {S D : Type 0} (b : BitSink S) (state : D → DeskState) (d : Due S Waiting D) (now : At S Waiting D) : Type 0 where
  pub sink : b.later d.from.sink now.sink
  pub rest_fits : All (b.fits d.from.sink) d.rest
  pub later_fits : All (λ due. All (b.fits d.from.sink) due) d.later
  pub writing : IsWriting (b.bits d.from.sink) (output state d.from) d.all d.number d.later (b.rest now.sink d.last d.rest) (output state now)

abbrev pub bit_kind : {S D : Type 0} → BitSink S → (D → DeskState) → SinkKind S Waiting D
bit_kind b state = record {
  due = λ d now. WritesDue b state d now;
  ended = λ from all result out desk. Sends (state from.desk) from.out (text_of (b.bits from.sink) 0 all) result out (state desk);
}

-- The bits before this rest are put; a fault comes with some of them.
abbrev pub PutsUpTo : DeskState → Waiting → List Bool → List Bool → Result (Unit {0}) WriteFault → Waiting → DeskState → Type 0
PutsUpTo s0 o0 all rest (Ok u) o1 s1 = (piece : List Bool) × (all ≡ piece ++ rest) × Puts s0 o0 piece (Ok tt) o1 s1
PutsUpTo s0 o0 all rest (Err f) o1 s1 = (piece : List Bool) × (more : List Bool) × (all ≡ piece ++ more) × Puts s0 o0 piece (Err f) o1 s1

-- Whatever bits were put, they are padded, and a restart marker is written after them.
abbrev pub PutsRestart : ℕ → DeskState → Waiting → Result (Unit {0}) WriteFault → Waiting → DeskState → Type 0
PutsRestart turn s1 o1 result o2 s2 = (s0 : DeskState) (o0 : Waiting) (bits : List Bool) → o0.bits ≡ [] → Puts s0 o0 bits (Ok tt) o1 s1 → Sends s0 o0 (data_of bits ++ 255 ∷ (0xd0 + turn) ∷ []) result o2 s2

-- an interval's bits are padded, and a restart marker is written after them, none after the last interval
abbrev pub PutsEnd : Option ℕ → DeskState → Waiting → Result (Unit {0}) WriteFault → Waiting → DeskState → Type 0
PutsEnd (Some marker) s1 o1 result o2 s2 = PutsRestart marker s1 o1 result o2 s2
PutsEnd None s1 o1 result o2 s2 = Pads s1 o1 result o2 s2
