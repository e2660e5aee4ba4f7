use Rattle.std.specs.Prelude.{◌≡◌, ◌<◌, ◌-◌, true, length}
use Rattle.jpg_desk.proofs.Pumped.{GoesOn}
use Rattle.jpg_desk.proofs.pieces.pump_on.Given as goal

abbrev pub invariant-loop-sink : goal.invariant-loop-sink
invariant-loop-sink g l =
    let state = g.D.Desk.state in
    record {
      fed : GoesOn g.S.PieceSink.kind l.initial.taken (l.initial.sink, state l.initial.desk) l.taken (l.sink, state l.desk);
      opened : (state l.desk).input_open ≡ true;
      most : l.most ≡ g.S.PieceSink.kind.most l.sink;
      short : l.taken < l.most;
      room : length l.buffer ≡ 16384;
    }

abbrev pub decreases-loop-sink : goal.decreases-loop-sink
decreases-loop-sink g l = l.most - l.taken
