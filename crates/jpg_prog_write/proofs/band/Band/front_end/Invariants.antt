use Rattle.std.specs.Prelude.{◌≡◌, ◌≤◌, false}
use Rattle.jpg_spec.specs.Lists.{any_of}
use Rattle.jpg_spec_write.specs.Sending.{is_new}
use Rattle.jpg_prog_write.specs.Bands.{sents}
use Rattle.jpg_prog_write.proofs.band.Band.front_end.Given as goal

abbrev pub invariant-loop-end : goal.invariant-loop-end
invariant-loop-end l = record {
  low : l.self.start ≤ l.end;
  high : l.end ≤ l.self.end;
  none : any_of is_new (sents l.self l.end l.self.end l.block) ≡ false;
}

abbrev pub decreases-loop-end : goal.decreases-loop-end
decreases-loop-end l = l.end
