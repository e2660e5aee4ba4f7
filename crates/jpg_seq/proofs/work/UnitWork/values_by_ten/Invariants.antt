use Rattle.std.proofs.Common.{◌≡◌, ◌<◌, ◌≤◌, ◌-◌, [], length, None}
use Rattle.jpg_seq.specs.Work.{env_by, TakesFromStore}
use Rattle.jpg_seq.specs.Source.{bits_in}
use Rattle.jpg_seq.proofs.work.UnitWork.values_by_ten.Given as goal

abbrev pub invariant-loop-here : goal.invariant-loop-here
invariant-loop-here l = record {
  some : 1 ≤ length l.self.values;
  less : length l.self.values < 64;
  none : l.self.part ≡ [];
  more : length l.fn.self.values ≤ length l.self.values;
  takes : TakesFromStore (env_by l.env) l.fn.self (bits_in l.fn.source) None l.self (bits_in l.here);
}

abbrev pub decreases-loop-here : goal.decreases-loop-here
decreases-loop-here l = 64 - length l.self.values
