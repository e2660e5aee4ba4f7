-- What is known of a desk beside its calls.
use Rattle.std.specs.Prelude.{◌≡◌, Bool, true, false}
use Rattle.jpg_base.specs.Desk.{DeskState}
use Rattle.jpg_base.specs.declared.names.Put.{Put}
use Rattle.jpg_base.specs.declared.names.Put.TheVariants.{Done, Failed}
use Rattle.test_parts.specs.declared.base.desks.Ready.{Ready}

-- what is said to be open and created is
pub record IsReady (ready : Ready) (state : DeskState) : Type 0 where
  pub input : ready.input ≡ true → state.input_open ≡ true
  pub output : ready.output ≡ true → state.output_created ≡ true

abbrev pub is_done : Put → Bool
is_done Done = true
is_done Failed = false
