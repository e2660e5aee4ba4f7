use Rattle.jpg_huff.specs.Counts.{AreCounts, NotesBut}
use Rattle.jpg_seq.specs.ScanWritten.{run_marks}
use Rattle.jpg_seq.proofs.count.count_run.Given as goal

abbrev pub invariant-loop-left : goal.invariant-loop-left
invariant-loop-left l = record {
  counts : AreCounts l.counts;
  part : NotesBut l.fn.counts (run_marks l.slot l.fn.run l.fn.value) (run_marks l.slot l.left l.fn.value) l.counts;
}

abbrev pub decreases-loop-left : goal.decreases-loop-left
decreases-loop-left l = l.left
