use Rattle.std.specs.Prelude.{◌≡◌, ◌+◌, ◌-◌, ◌<◌, ◌≤◌, true, [], length}
use Rattle.jpg_spec_write.specs.Sending.{value_elements}
use Rattle.jpg_prog_write.specs.Bands.{sents, ends_new}
use Rattle.jpg_prog_write.proofs.bands.value_from.Given as goal

abbrev pub invariant-loop-at : goal.invariant-loop-at
invariant-loop-at l = record {
  from : l.part.from ≤ l.at;
  some : l.at < l.part.last;
  run : l.run ≤ 15;
  room : length l.waiting.items + l.part.from ≤ l.at;
  front : ends_new (sents l.part.band l.at l.part.last l.part.block.now) ≡ true;
  same : value_elements 0 [] (sents l.part.band l.part.from l.part.last l.part.block.now) ≡ value_elements l.run l.waiting.items (sents l.part.band l.at l.part.last l.part.block.now);
}

abbrev pub decreases-loop-at : goal.decreases-loop-at
decreases-loop-at l = l.part.last - l.at
