use Rattle.std.proofs.Common.{sym}
use Rattle.jpg_huff.proofs.Emitted.{OnlyWrites-same, OnlyWrites-then}
use Rattle.jpg_cli.proofs.ByRow.EarlyEnding.{early_finished, ending_due, ending_stopped, ending_whole, zeros_lend, zeros_still, zeros_then}
use Rattle.jpg_cli.proofs.ByRow.RowsPushed.{less_rows}
use Rattle.jpg_cli.proofs.tools.djpeg_rows.finish_zeros.Goals as goal

pub loop-image-init : goal.loop-image-init
loop-image-init g c = record { kept = OnlyWrites-same (g.D.Desk.state c.args.desk.now); shows = λ s run n k. k }

pub push_zero-requires-clause-due : goal.push_zero-requires-clause-due
push_zero-requires-clause-due g c = ending_due (zeros_still c.requires.zeros c.loop-image.invariant.shows) (sym c.loop-image-test.ensures)

pub push_zero-requires-clause-end : goal.push_zero-requires-clause-end
push_zero-requires-clause-end g c = (zeros_still c.requires.zeros c.loop-image.invariant.shows).end

pub push_zero-requires-clause-created : goal.push_zero-requires-clause-created
push_zero-requires-clause-created g c = ((zeros_still c.requires.zeros c.loop-image.invariant.shows).desk).created

pub returns-in-Err-clause-shown : goal.returns-in-Err-clause-shown
returns-in-Err-clause-shown g c = λ s run n x.
    let k = c.loop-image.invariant.shows s run n x in
    ending_stopped k (ending_due k (sym c.loop-image-test.ensures)) (zeros_lend k) c.in-Err.ensures

pub loop-image-smaller : goal.loop-image-smaller
loop-image-smaller g c =
    let due = ending_due (zeros_still c.requires.zeros c.loop-image.invariant.shows) (sym c.loop-image-test.ensures) in
    less_rows due c.in_default.is c.push_zero.ensures

pub loop-image-preserved : goal.loop-image-preserved
loop-image-preserved g c =
    let so = c.loop-image in
    let next = c.push_zero.ensures in
    record {
      kept = OnlyWrites-then _ _ _ so.invariant.kept next.only;
      shows = λ s run n x.
          (let k = so.invariant.shows s run n x in zeros_then c.in_default.is k (ending_due k (sym c.loop-image-test.ensures)) next);
    }

pub finish-requires-clause-whole : goal.finish-requires-clause-whole
finish-requires-clause-whole g c = ending_whole (zeros_still c.requires.zeros c.loop-image.invariant.shows) (sym c.loop-image-test.ensures)

pub finish-requires-clause-end : goal.finish-requires-clause-end
finish-requires-clause-end g c = (zeros_still c.requires.zeros c.loop-image.invariant.shows).end

pub finish-requires-clause-created : goal.finish-requires-clause-created
finish-requires-clause-created g c = ((zeros_still c.requires.zeros c.loop-image.invariant.shows).desk).created

pub returns-clause-shown : goal.returns-clause-shown
returns-clause-shown g c = λ s run n x. early_finished c.finish.ensures (sym c.loop-image-test.ensures) (c.loop-image.invariant.shows s run n x)
