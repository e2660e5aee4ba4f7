-- What becomes of an output over real files when a run has ended.
use Rattle.std.specs.Prelude.{ℕ, Bool, true, false}
use Rattle.jpg_base.specs.declared.names.Put.{Put}
use Rattle.jpg_base.specs.declared.names.Put.TheVariants as put
use Rattle.jpg_base.specs.declared.standard.Output.{Output}
use Rattle.jpg_spec_words.specs.declared.answers.Why.{Why}
use Rattle.jpg_spec_words.specs.declared.answers.Why.TheVariants as why
use Rattle.jpg_cli.specs.declared.ending.Ending.{Ending}
use Rattle.jpg_cli.specs.declared.ending.Ending.TheVariants.{TakesPlace, IsRemoved, IsRemovedAloud}

-- rows of a refused file replace no file
abbrev pub refused_ending : Bool → Ending
refused_ending true = IsRemoved
refused_ending false = TakesPlace

-- an input that ended early doesn't replace itself
abbrev pub early_ending : Bool → Ending
early_ending true = IsRemovedAloud
early_ending false = TakesPlace

abbrev pub ending_of : Output → Why → Ending
ending_of output why.WriteFault = IsRemoved
ending_of output (why.ReadFault which) = IsRemoved
ending_of output why.NoMemory = IsRemoved
ending_of output (why.Refused fault) = refused_ending output.is_there
ending_of output (why.Warned bytes) = early_ending output.is_input
ending_of output other = TakesPlace

-- the exit status: that of the run, or 1 if a complete output can't take its place
abbrev pub status_after : ℕ → Put → ℕ
status_after code put.Done = code
status_after code put.Failed = 1
