use Rattle.std.specs.Prelude.{◌≡◌, ◌≤◌, ◌-◌, true, []}
use Rattle.jpg_huff.specs.Counts.{AreCounts, NotesBut}
use Rattle.jpg_spec_write.specs.Sending.{value_elements}
use Rattle.jpg_prog_write.specs.Bands.{sents, ends_new}
use Rattle.jpg_prog_write.specs.Counted.{marks_of}
use Rattle.jpg_prog_write.proofs.count.count_from.Given as goal

abbrev pub invariant-loop-at : goal.invariant-loop-at
invariant-loop-at l = record {
  from : l.part.from ≤ l.at;
  most : l.at ≤ l.part.last;
  front : ends_new (sents l.part.band l.at l.part.last l.part.block.now) ≡ true;
  none : l.waiting.items ≡ [];
  counts : AreCounts l.counts;
  part : NotesBut l.fn.counts (marks_of l.slot (value_elements 0 [] (sents l.part.band l.part.from l.part.last l.part.block.now))) (marks_of l.slot (value_elements 0 [] (sents l.part.band l.at l.part.last l.part.block.now))) l.counts;
}

abbrev pub decreases-loop-at : goal.decreases-loop-at
decreases-loop-at l = l.part.last - l.at
