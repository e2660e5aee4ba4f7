use Rattle.std.proofs.Common.{◌+◌, drop, refl, sym, ap}
use Rattle.std.proofs.lemmas.Result.{err_from_is_err_and}
use Rattle.jpg_huff.specs.BitOut.{Sends}
use Rattle.jpg_huff.proofs.InParts.{of_bytes, part_start, part_same, part_then, part_fault}
use Rattle.jpg_huff.proofs.Together.{can_after, sends_nothing}
use Rattle.jpg_file.specs.Write.WriteScan.{CanWriteScan, scans_bytes, scans_due, so_far}
use Rattle.jpg_file.proofs.Writing.ScansDue.{entry_can, scan_left}
use Rattle.jpg_file.proofs.write.write_scans.Goals as goal

pub loop-i-init : goal.loop-i-init
loop-i-init g c =
    let s = g.D.Desk.state c.args.desk.now in
    let plan = c.args.plan.now in
    let f = g.V.BlockView.numbers c.args.view.now in
    let blocks = g.V.BlockView.blocks c.args.view.now in
    record {
      can = c.requires.can;
      part = part_start Sends s c.args.out.now (scans_due plan f blocks) _ (sends_nothing s c.args.out.now c.requires.can.none) (ap (λ w. scans_bytes plan f blocks w plan.script) c.new-given.ensures);
    }

pub write_scan-requires-clause-scan : goal.write_scan-requires-clause-scan
write_scan-requires-clause-scan g c =
    entry_can (CanWriteScan c.args.plan.now (g.V.BlockView.numbers c.args.view.now) (g.V.BlockView.blocks c.args.view.now)) c.args.plan.now.script c.loop-i.i _ c.entry-entry.ensures c.requires.scans

pub returns-in_err-write_scan : goal.returns-in_err-write_scan
returns-in_err-write_scan g c =
    let back = err_from_is_err_and c.from_residual.result c.from_residual.ensures.1 in
    rw (back.1, back.2) (part_fault Sends of_bytes _ _ _ _ _ _ _ _ _ _ c.in_err-write_scan.field-0.0
    (scan_left c.args.plan.now (g.V.BlockView.numbers c.args.view.now) (g.V.BlockView.blocks c.args.view.now) (so_far c.loop-i.given) c.loop-i.i _ c.entry-entry.ensures) c.loop-i.invariant.part c.in_err-write_scan.ensures.sends)

pub loop-i-preserved : goal.loop-i-preserved
loop-i-preserved g c =
    let plan = c.args.plan.now in
    let f = g.V.BlockView.numbers c.args.view.now in
    let blocks = g.V.BlockView.blocks c.args.view.now in
    record {
      can = can_after _ _ _ _ _ c.loop-i.invariant.can c.in_ok-write_scan.ensures.sends;
      part = part_same Sends _ _ _ _ _ _ _ (ap (λ w. scans_bytes plan f blocks w (drop (c.loop-i.i + 1) plan.script)) (sym (c.in_ok-write_scan.ensures.given tt refl)))
          (part_then Sends of_bytes _ _ _ _ _ _ _ _ _ _
          (scan_left plan f blocks (so_far c.loop-i.given) c.loop-i.i _ c.entry-entry.ensures) c.loop-i.invariant.part c.in_ok-write_scan.ensures.sends);
    }
