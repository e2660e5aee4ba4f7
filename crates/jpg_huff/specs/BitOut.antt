-- Bits that are written. Each call changes nothing of the desk but the outputs and the counts.
use Rattle.std.specs.Prelude.{◌≡◌, ℕ, ◌*◌, Bool, true, List, [], ◌++◌, length, Result, Ok, Err}
use Rattle.jpg_base.specs.Desk.{DeskState}
use Rattle.jpg_spec.specs.Bits.{bits_of, stuffed, whole_bytes, data_of}
use Rattle.jpg_base.specs.declared.stop.WriteFault.{WriteFault}
use Rattle.jpg_huff.specs.Out.{Emits, OnlyWrites}
use Rattle.jpg_huff.specs.Waiting.{Waiting}
use Rattle.jpg_huff.specs.declared.out.ExtendedCode.{ExtendedCode}

abbrev pub nothing_waits : Waiting
nothing_waits = record { bytes = []; bits = [] }

abbrev pub waiting : List ℕ → List Bool → Waiting
waiting bytes bits = record { bytes = bytes; bits = bits }

-- the bytes that wait, followed by bits that the caller has
abbrev pub holding : Waiting → List Bool → Waiting
holding out bits = waiting out.bytes bits

-- the bits of a code, followed by its extra bits
abbrev pub extended_bits : ExtendedCode → List Bool
extended_bits c = bits_of c.code.length c.code.bits ++ bits_of c.size c.extra

-- an output is created, and no bits wait
pub record CanSend (s : DeskState) (out : Waiting) : Type 0 where
  pub created : s.output_created ≡ true
  pub none : out.bits ≡ []

-- bits fill complete bytes
abbrev pub FillBytes : List Bool → Type 0
FillBytes bits = (n : ℕ) × (length bits ≡ 8 * n)

-- the bits that wait after those that were written, none after a fault
abbrev pub StayAfter : List Bool → Result (Unit {0}) WriteFault → List Bool → Type 0
StayAfter rest (Ok u) new = new ≡ rest
StayAfter rest (Err fault) new = new ≡ []

-- The bits are appended to those that wait. Complete bytes of them are written stuffed, and the rest waits.
pub record Puts (s0 : DeskState) (old : Waiting) (bits : List Bool) (result : Result (Unit {0}) WriteFault) (new : Waiting) (s1 : DeskState) : Type 0 where
  pub kept : OnlyWrites s0 s1
  pub front : List Bool
  pub rest : List Bool
  pub all : old.bits ++ bits ≡ front ++ rest
  pub whole : FillBytes front
  pub bytes : Emits s0 old.bytes (stuffed (whole_bytes front)) result new.bytes s1
  pub behind : StayAfter rest result new.bits

-- The bits are appended to those that the caller has, after bytes that wait, and the caller has those that wait then.
abbrev pub PutsInto : DeskState → List ℕ → List Bool → List Bool → Result (List Bool) WriteFault → List ℕ → DeskState → Type 0
PutsInto s0 old held bits (Ok left) new s1 = Puts s0 (waiting old held) bits (Ok tt) (waiting new left) s1
PutsInto s0 old held bits (Err fault) new s1 = Puts s0 (waiting old held) bits (Err fault) (waiting new []) s1

-- The bits are appended to those that the caller has, after the bytes of a buffer that has no bits.
abbrev pub PutsAfter : DeskState → Waiting → List Bool → List Bool → Result (List Bool) WriteFault → Waiting → DeskState → Type 0
PutsAfter s0 old held bits result new s1 = PutsInto s0 old.bytes held bits result new.bytes s1

-- The bits that wait are written, with ones up to a complete byte.
pub record Pads (s0 : DeskState) (old : Waiting) (result : Result (Unit {0}) WriteFault) (new : Waiting) (s1 : DeskState) : Type 0 where
  pub kept : OnlyWrites s0 s1
  pub bytes : Emits s0 old.bytes (data_of old.bits) result new.bytes s1
  pub none : new.bits ≡ []

-- Bytes are written as they are, where no bits wait.
pub record Sends (s0 : DeskState) (old : Waiting) (piece : List ℕ) (result : Result (Unit {0}) WriteFault) (new : Waiting) (s1 : DeskState) : Type 0 where
  pub kept : OnlyWrites s0 s1
  pub bytes : Emits s0 old.bytes piece result new.bytes s1
  pub none : new.bits ≡ []
