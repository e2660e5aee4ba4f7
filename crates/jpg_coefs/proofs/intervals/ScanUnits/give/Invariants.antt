use Rattle.std.specs.Prelude.{◌≡◌, ◌≤◌, ◌+◌, ◌-◌, drop}
use Rattle.jpg_coefs.specs.Sinks.{at}
use Rattle.jpg_coefs.specs.ScanUnits.{CanGive, GivenScan}
use Rattle.jpg_coefs.proofs.intervals.ScanUnits.give.Given as goal

abbrev pub invariant-loop-self : goal.invariant-loop-self
invariant-loop-self g l =
    let f = g.V.BlockView.numbers l.next.view.now in
    let blocks = g.V.BlockView.blocks l.next.view.now in
    let k = g.S.UnitSink.kind in
    record {
      some : 1 ≤ l.rest;
      few : l.rest ≤ l.self.left;
      most : l.rest ≤ l.next.count;
      sum : l.self.left + l.next.count ≡ l.fn.self.left + l.rest;
      cursor : l.self.cursor ≡ drop (l.next.count - l.rest) l.fn.self.cursor;
      can : (r : GivenScan _ _ _) → CanGive k r f blocks l.next.count l.fn.self (at l.fn.sink l.fn.out l.fn.desk) → CanGive k r f blocks l.rest l.self (at l.sink l.out l.desk);
    }

abbrev pub decreases-loop-self : goal.decreases-loop-self
decreases-loop-self g l = l.rest
