-- What contracts see of a desk in memory, and what its calls do in addition to those of any desk.
use Rattle.std.specs.Prelude.{◌≡◌, ◌+◌, ◌-◌, ◌/◌, ◌^◌, ◌==◌, None, [], ◌∷◌, ℕ, List, Bool, true, false, Option, Some, if◌then◌else◌, map, min, take, is_some, nat_lt, length, Vec}
use Rattle.std.specs.declared.alloc.Global.{Global}
use Rattle.std.specs.Option.{option_map}
use Rattle.jpg_base.specs.declared.names.Name.{Name}
use Rattle.jpg_base.specs.declared.names.Put.{Put}
use Rattle.jpg_base.specs.declared.names.Put.TheVariants as put
use Rattle.jpg_base.specs.declared.names.Got.{Got}
use Rattle.jpg_base.specs.declared.names.Got.TheVariants as got
use Rattle.jpg_base.specs.declared.names.Counts.{Counts}
use Rattle.jpg_base.specs.declared.memory.Stored.{Stored}
use Rattle.jpg_base.specs.declared.memory.Asked.{Asked}
use Rattle.jpg_base.specs.declared.memory.Failure.{Failure}
use Rattle.jpg_base.specs.declared.memory.Part.{Part}
use Rattle.jpg_base.specs.declared.memory.Part.TheVariants.{Half, First}
use Rattle.jpg_base.specs.declared.memory.MemoryDesk.{MemoryDesk}
use Rattle.jpg_base.specs.Desk.{DeskState, raised}
use Rattle.jpg_base.specs.Input.{input_rest, given_of}
use Rattle.jpg_base.specs.Name.{file_of, is_same_name}

abbrev pub named : Stored → Name × List ℕ
named s = (s.name, s.bytes.items)

abbrev pub answered : Asked → Name × Put
answered a = (a.name, a.answer)

abbrev pub names_view : Option (Vec Asked Global) → Option (List (Name × Put))
names_view asked = option_map (λ v. map answered v.items) asked

abbrev pub memory_state : MemoryDesk → DeskState
memory_state d = record {
  files = Some (file_of (map named d.files.items));
  left = option_map input_rest d.input;
  outputs = Some (map named d.outputs.items);
  said = Some d.said.items;
  asked = names_view d.asked;
  counts = d.counts;
  input_open = is_some d.input;
  output_created = nat_lt 0 (length d.outputs.items);
}

abbrev pub memory_outputs : MemoryDesk → List (Name × List ℕ)
memory_outputs d = map named d.outputs.items

abbrev pub memory_said : MemoryDesk → List ℕ
memory_said d = d.said.items

-- the calls so far
abbrev pub memory_calls : MemoryDesk → ℕ
memory_calls d = d.calls

abbrev pub chosen : Failure → ℕ × Part
chosen f = (f.call, f.part)

-- the numbers of the calls that fail, counted from 1, each with the part of its piece that a write appends; the newest
-- first
abbrev pub memory_failing : MemoryDesk → List (ℕ × Part)
memory_failing d = map chosen d.failing.items

-- the most bytes that a read gives
abbrev pub memory_piece : MemoryDesk → ℕ
memory_piece d = d.piece

-- how many bytes of a piece of this length are its part
abbrev pub part_length : Part → ℕ → ℕ
part_length Half length = length / 2
part_length (First count) length = min length count

-- the part that was chosen last for the call of this number, where it is one that fails
abbrev pub part_of : List (ℕ × Part) → ℕ → Option Part
part_of [] call = None
part_of (failure ∷ failing) call = if failure.0 == call then Some failure.1 else part_of failing call

-- the part of the call after this many calls, where it is one that fails. Calls after the last number don't fail.
abbrev pub next_part : ℕ → List (ℕ × Part) → Option Part
next_part calls failing = if nat_lt calls (2 ^ 64 - 1) then part_of failing (calls + 1) else None

-- the part of the next call, where it is one that fails
abbrev pub part_of_next : MemoryDesk → Option Part
part_of_next d = next_part d.calls (memory_failing d)

-- whether the next call is one that fails
abbrev pub fails_next : MemoryDesk → Bool
fails_next d = is_some (part_of_next d)

-- how many bytes of a piece of this length a failing call appends: its part, or none where there was no memory
abbrev pub appended_length : Bool → Part → ℕ → ℕ
appended_length true part length = part_length part length
appended_length false part length = 0

-- A call that was chosen to fail does so, and these bytes were appended: its part of the piece, or nothing without
-- memory.
abbrev pub FailsWith : Option Part → List ℕ → Put → (List ℕ → Type 0) → Type 0
FailsWith None piece answer Appended = Unit {0}
FailsWith (Some part) piece answer Appended =
    (answer ≡ put.Failed) × ((memory : Bool) × Appended (take (appended_length memory part (length piece)) piece))

-- a state with one more file, or with that of this name replaced
abbrev pub with_file : Name → List ℕ → DeskState → DeskState
with_file name bytes state = record state {
  files = option_map (λ had. (λ n. if is_same_name name n then Some bytes else had n)) state.files;
}

-- the result of a read into a buffer of this length
abbrev pub read_answer : MemoryDesk → ℕ → Got
read_answer d room = if fails_next d then got.Failed else given_of (min d.piece room) (option_map input_rest d.input)

-- the number of calls, those that fail and the most bytes of a read don't change
pub record SameNumbers (old new : MemoryDesk) : Type 0 where
  pub calls : memory_calls new ≡ memory_calls old
  pub failing : memory_failing new ≡ memory_failing old
  pub piece : memory_piece new ≡ memory_piece old

-- the call of this number fails from now on, with this part
pub record Chosen (old : MemoryDesk) (call : ℕ) (part : Part) (new : MemoryDesk) : Type 0 where
  pub failing : memory_failing new ≡ (call, part) ∷ memory_failing old
  pub calls : memory_calls new ≡ memory_calls old
  pub piece : memory_piece new ≡ memory_piece old

-- a call took the next number, and left these counts
pub record Called (old : MemoryDesk) (counted : Counts) (new : MemoryDesk) : Type 0 where
  pub calls : memory_calls new ≡ raised (memory_calls old)
  pub failing : memory_failing new ≡ memory_failing old
  pub piece : memory_piece new ≡ memory_piece old
  pub counts : (memory_state new).counts ≡ counted

-- no file, no input, no output, no message, no name and no failure
pub record HasNothing (state : DeskState) : Type 0 where
  pub files : state.files ≡ Some (λ name. None)
  pub left : state.left ≡ None
  pub outputs : state.outputs ≡ Some []
  pub said : state.said ≡ Some []
  pub asked : state.asked ≡ Some []
  pub counts : state.counts ≡ record { opens = 0; reads = 0; writes = 0; says = 0 }
  pub input_open : state.input_open ≡ false
  pub output_created : state.output_created ≡ false

-- a new desk, which gives at most this many bytes per read: no call was made, and none fails
pub record IsNew (desk : MemoryDesk) (most : ℕ) : Type 0 where
  pub nothing : HasNothing (memory_state desk)
  pub calls : memory_calls desk ≡ 0
  pub failing : memory_failing desk ≡ []
  pub piece : memory_piece desk ≡ most
