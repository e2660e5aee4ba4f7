-- What contracts see of a quiet desk: the same bytes for every name, and those that are left.
use Rattle.std.specs.Prelude.{◌≡◌, ◌-◌, ◌^◌, ℕ, List, Option, None, Some, false, if◌then◌else◌, min}
use Rattle.jpg_base.specs.declared.names.Got.{Got}
use Rattle.jpg_base.specs.declared.names.Counts.{Counts}
use Rattle.jpg_base.specs.declared.quiet.QuietDesk.{QuietDesk}
use Rattle.jpg_base.specs.Desk.{DeskState}
use Rattle.jpg_base.specs.Input.{input_rest, given_of}

-- no call has failed
abbrev pub no_failures : Counts
no_failures = record { opens = 0; reads = 0; writes = 0; says = 0 }

abbrev pub quiet_state : QuietDesk → DeskState
quiet_state d = record {
  files = Some (λ name. Some d.input.bytes.items);
  left = if d.is_open then Some (input_rest d.input) else None;
  outputs = None;
  said = None;
  asked = None;
  counts = no_failures;
  input_open = d.is_open;
  output_created = d.is_created;
}

-- the result of a read into a buffer of this length: as many of the bytes left as fit
abbrev pub quiet_answer : QuietDesk → ℕ → Got
quiet_answer d room = given_of (min (2 ^ 32 - 1) room) (quiet_state d).left

-- a new desk, which has these bytes for every name: no call was made
pub record IsNewQuiet (bytes : List ℕ) (state : DeskState) : Type 0 where
  pub files : state.files ≡ Some (λ name. Some bytes)
  pub left : state.left ≡ None
  pub outputs : state.outputs ≡ None
  pub said : state.said ≡ None
  pub asked : state.asked ≡ None
  pub counts : state.counts ≡ no_failures
  pub input_open : state.input_open ≡ false
  pub output_created : state.output_created ≡ false
