use Rattle.std.proofs.Common.{Bool, List}
use Rattle.jpg_coefs.specs.Machine.{Interval}
use Rattle.jpg_prog_read.specs.RepresentsAcScan.{HasWhole}
use Rattle.jpg_prog_read.proofs.ac_reader.AcReader.go_on.Given as goal

abbrev pub invariant-loop-self : goal.invariant-loop-self
invariant-loop-self l =
    record {
      has_whole : (i : Interval) × (bits : List Bool) × HasWhole l.self i bits l.coefs;
      leads : (i : Interval) (bits : List Bool) → HasWhole l.fn.self i bits l.fn.coefs → HasWhole l.self i bits l.coefs;
    }

abbrev pub decreases-loop-self : goal.decreases-loop-self
decreases-loop-self l = l.self.left
