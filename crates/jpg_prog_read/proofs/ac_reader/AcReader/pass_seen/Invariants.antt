use Rattle.std.proofs.Common.{◌≤◌, Bool, List}
use Rattle.jpg_coefs.specs.Machine.{Interval}
use Rattle.jpg_prog_read.specs.RepresentsAcScan.{IsBetweenUnits, PassesUnits}
use Rattle.jpg_prog_read.proofs.ac_reader.AcReader.pass_seen.Given as goal

abbrev pub invariant-loop-self : goal.invariant-loop-self
invariant-loop-self l =
    record {
      between : (i : Interval) × (bits : List Bool) × IsBetweenUnits l.self i bits l.coefs;
      passes : PassesUnits l.fn.self l.coefs l.self;
      count : l.self.left ≤ l.fn.self.left;
    }

abbrev pub decreases-loop-self : goal.decreases-loop-self
decreases-loop-self l = l.self.left
