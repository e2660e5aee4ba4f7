use Rattle.std.specs.Prelude.{◌≡◌, List}
use Rattle.jpg_spec_write.specs.Sending.{Sent}
use Rattle.jpg_prog_write.specs.Bands.{IsReady, elements_left, steps_left}
use Rattle.jpg_huff.specs.Counts.{AreCounts, NotesBut}
use Rattle.jpg_prog_write.specs.Counted.{marks_of}
use Rattle.jpg_prog_write.proofs.count.count_band.Given as goal

abbrev pub invariant-loop-item : goal.invariant-loop-item
invariant-loop-item l = record {
  ready : IsReady l.bands;
  counts : AreCounts l.counts;
  band : l.bands.band ≡ l.fn.bands.band;
  part : (later : List (List Sent)) → NotesBut l.fn.counts (marks_of l.slot (elements_left l.fn.bands later)) (marks_of l.slot (elements_left l.bands later)) l.counts;
}

abbrev pub decreases-loop-item : goal.decreases-loop-item
decreases-loop-item l = steps_left l.bands
