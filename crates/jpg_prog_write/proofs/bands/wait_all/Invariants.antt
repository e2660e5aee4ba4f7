use Rattle.std.specs.Prelude.{◌≡◌, ◌+◌, ◌-◌, ◌≤◌, ◌++◌, length}
use Rattle.jpg_spec_write.specs.Sending.{corrections_of}
use Rattle.jpg_prog_write.specs.Bands.{sents}
use Rattle.jpg_prog_write.proofs.bands.wait_all.Given as goal

abbrev pub invariant-loop-k : goal.invariant-loop-k
invariant-loop-k l = record {
  from : l.from ≤ l.k;
  room : length l.waiting.items + l.from ≤ 937 + l.k;
  left : l.waiting.items ++ corrections_of (sents l.band l.k l.band.end l.block) ≡ l.fn.waiting.items ++ corrections_of (sents l.band l.from l.band.end l.block);
}

abbrev pub decreases-loop-k : goal.decreases-loop-k
decreases-loop-k l = l.band.end - l.k
