-- What contracts see of a desk over real files: its counts, and whether an input is open and an output was created.
use Rattle.std.specs.Prelude.{◌≡◌, ℕ, ◌≤◌, List, Option, None, false, length, take}
use Rattle.std.specs.Io.KnownBytes.{Appends, Consumes, IsAtEnd, Keeps}
use Rattle.jpg_base.specs.declared.names.Put.{Put}
use Rattle.jpg_base.specs.declared.names.Put.TheVariants.{Done, Failed}
use Rattle.jpg_base.specs.declared.names.Got.{Got}
use Rattle.jpg_base.specs.declared.names.Got.TheVariants as got
use Rattle.jpg_base.specs.declared.standard.Parsed.{Parsed}
use Rattle.jpg_base.specs.declared.standard.Source.{Source}
use Rattle.jpg_base.specs.declared.standard.Source.TheVariants as source
use Rattle.jpg_base.specs.declared.standard.Sink.{Sink}
use Rattle.jpg_base.specs.declared.standard.Sink.TheVariants as sink
use Rattle.jpg_base.specs.Desk.{DeskState}

abbrev pub std_state : Parsed → DeskState
std_state reported = record {
  files = None;
  left = None;
  outputs = None;
  said = None;
  asked = None;
  counts = reported.counts;
  input_open = reported.input_open;
  output_created = reported.output_created;
}

-- a desk at which no call was made: no bytes are known
pub record TellsNothing (state : DeskState) : Type 0 where
  pub counts : state.counts ≡ record { opens = 0; reads = 0; writes = 0; says = 0 }
  pub input_open : state.input_open ≡ false
  pub output_created : state.output_created ≡ false

-- the result of a read: the buffer begins with at least one of the next bytes, or none are left
abbrev pub ReadsSome : Option (List ℕ) → Got → List ℕ → Option (List ℕ) → Type 0
ReadsSome old (got.Bytes n) buf new = (1 ≤ n) × (n ≤ length buf) × Consumes old new (take n buf)
ReadsSome old got.End buf new = IsAtEnd new
ReadsSome old got.Failed buf new = Keeps old new

-- a writer gained the complete piece, or a first part of it
abbrev pub WritesAll : Option (List ℕ) → List ℕ → Put → Option (List ℕ) → Type 0
WritesAll old piece Done new = Appends old new piece
WritesAll old piece Failed new = (n : ℕ) × Appends old new (take n piece)

-- the bytes that a source gives from here on, where they are known
abbrev pub source_left : {S F : Type 0} → (S → Option (List ℕ)) → (F → Option (List ℕ)) → Source S F → Option (List ℕ)
source_left standard file source.Closed = None
source_left standard file (source.Standard reader) = standard reader
source_left standard file (source.File f) = file f

-- the bytes that the file of a sink has, where they are known; of standard output nothing is known
abbrev pub sink_contents : {S F : Type 0} → (F → Option (List ℕ)) → Sink S F → Option (List ℕ)
sink_contents file sink.Closed = None
sink_contents file (sink.Standard output) = None
sink_contents file (sink.File output) = file output.file
sink_contents file (sink.Beside output) = file output.file
