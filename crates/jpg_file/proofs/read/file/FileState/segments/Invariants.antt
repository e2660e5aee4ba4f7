use Rattle.std.proofs.Common.{◌≡◌, ◌-◌, length}
use Rattle.jpg_file.specs.Read.Going.{GoesOn}
use Rattle.jpg_file.specs.Read.File.{NeedsNoMemory, settings_of}
use Rattle.jpg_file.proofs.read.file.FileState.segments.Given as goal

abbrev pub invariant-loop-done : goal.invariant-loop-done
invariant-loop-done l = GoesOn l.fn.self l.bytes l.done l.self × (NeedsNoMemory l.fn.self → NeedsNoMemory l.self) × (settings_of l.self ≡ settings_of l.fn.self)

abbrev pub decreases-loop-done : goal.decreases-loop-done
decreases-loop-done l = length l.bytes - l.done
