use Rattle.std.proofs.Common.{◌≡◌, false, length}
use Rattle.jpg_prog_read.specs.RepresentsAcScan.{progressive_ac}
use Rattle.jpg_prog_read.specs.BitsTaken.{TookSome}
use Rattle.jpg_prog_read.proofs.ac_reader.AcReader.read.Given as goal

abbrev pub invariant-loop-self : goal.invariant-loop-self
invariant-loop-self l =
    record {
      taken : TookSome progressive_ac l.most l.fn.self l.fn.coefs l.fn.store l.self l.coefs l.store;
      begun : l.self.fresh ≡ false;
    }

abbrev pub decreases-loop-self : goal.decreases-loop-self
decreases-loop-self l = length l.store
