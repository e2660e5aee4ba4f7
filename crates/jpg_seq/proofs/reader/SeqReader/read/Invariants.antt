use Rattle.jpg_seq.specs.Reader.{with_work, ReadsSoFar}
use Rattle.jpg_seq.specs.Source.{bits_in}
use Rattle.jpg_seq.proofs.reader.SeqReader.read.Given as goal

abbrev pub invariant-loop-fault : goal.invariant-loop-fault
invariant-loop-fault l =
    ReadsSoFar l.most l.tops (record { machine = with_work l.fn.self l.fn.unit; picture = l.fn.coefs; store = bits_in l.fn.source }) (record { machine = with_work l.self l.unit; picture = l.coefs; store = bits_in l.source }) l.done

abbrev pub decreases-loop-fault : goal.decreases-loop-fault
decreases-loop-fault l = l.self.left
