use Rattle.std.proofs.Common.{◌-◌, length, None}
use Rattle.jpg_seq.specs.Work.{env_by, TakesFromStore}
use Rattle.jpg_seq.specs.Source.{bits_in}
use Rattle.jpg_seq.proofs.work.UnitWork.take.Given as goal

abbrev pub invariant-loop-end : goal.invariant-loop-end
invariant-loop-end l = TakesFromStore (env_by l.env) l.fn.self (bits_in l.fn.source) None l.self (bits_in l.source)

abbrev pub decreases-loop-end : goal.decreases-loop-end
decreases-loop-end l = 64 - length l.self.values
