use Rattle.std.proofs.Common.{◌-◌, drop}
use Rattle.jpg_huff.specs.Counts.{AreCounts, NotesBut}
use Rattle.jpg_seq.specs.ScanWritten.{ac_mark, band_marks}
use Rattle.jpg_seq.proofs.Written.{AreLeft, left_told}
use Rattle.jpg_seq.proofs.count.count_band.Given as goal

abbrev pub invariant-loop-rest : goal.invariant-loop-rest
invariant-loop-rest l = record {
  counts : AreCounts l.counts;
  part : NotesBut l.fn.counts (band_marks l.slot (drop 1 l.block)) (left_told (ac_mark l.slot) (drop l.next l.block)) l.counts;
  left : AreLeft l.block l.next l.rest;
}

abbrev pub decreases-loop-rest : goal.decreases-loop-rest
decreases-loop-rest l = 64 - l.next
