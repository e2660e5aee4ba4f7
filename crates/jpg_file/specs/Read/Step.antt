-- The result of bytes of a file that is read, and what it isn't.
use Rattle.jpg_base.specs.declared.stop.Stop.TheVariants as stop
use Rattle.jpg_file.specs.declared.read.step.Step.{Step}
use Rattle.jpg_file.specs.declared.read.step.Step.TheVariants as step

-- where it stops
abbrev pub IfStops : Step → Type 0 → Type 0
IfStops step.More holds = Unit {0}
IfStops step.Row holds = Unit {0}
IfStops step.Whole holds = Unit {0}
IfStops (step.Ended e) holds = holds

-- where it is NoMemory
abbrev pub IfWants : Step → Type 0 → Type 0
IfWants step.More holds = Unit {0}
IfWants step.Row holds = Unit {0}
IfWants step.Whole holds = Unit {0}
IfWants (step.Ended (stop.Fault f)) holds = Unit {0}
IfWants (step.Ended stop.NoMemory) holds = holds

-- no MCU row is complete
abbrev pub IsNoRow : Step → Type 0
IsNoRow step.More = Unit {0}
IsNoRow step.Row = ⊥
IsNoRow step.Whole = Unit {0}
IsNoRow (step.Ended e) = Unit {0}

-- not NoMemory
abbrev pub HasMemory : Step → Type 0
HasMemory step.More = Unit {0}
HasMemory step.Row = Unit {0}
HasMemory step.Whole = Unit {0}
HasMemory (step.Ended (stop.Fault f)) = Unit {0}
HasMemory (step.Ended stop.NoMemory) = ⊥
