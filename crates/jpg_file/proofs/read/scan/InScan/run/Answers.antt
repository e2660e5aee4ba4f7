use Rattle.jpg_file.specs.Read.InData.{TakesRun}
use Rattle.jpg_file.specs.Read.Window.{waiting_in}
use Rattle.jpg_file.proofs.ByRow.RowTurns.{open_scan, run_takes}
use Rattle.jpg_file.proofs.Scans.ScanBytes.{as_stepped}
use Rattle.jpg_file.proofs.read.scan.InScan.run.Goals as goal

pub returns-clause-takes : goal.returns-clause-takes
returns-clause-takes c = λ whole shows i.
    let s = c.args.self.now in
    let n = c.take_bytes-n.result.0 in let step = c.take_bytes-n.result.1 in let m = c.take_bytes-n.new.machine in
    let waiting = waiting_in c.take_bytes-n.new.self in
    let t = c.take_bytes-n.ensures.takes whole shows (open_scan i.0 i.1 i.2 i.3 s whole i.4 c.requires.due) in
    let k = run_takes s m whole t.0 c.args.run.now n step waiting c.requires.gate c.requires.due c.requires.plain t.2 in
    (t.0, t.1, as_stepped s c.stepped.new.self m step c.stepped.result (λ a v. TakesRun s whole c.args.run.now n a waiting v t.0) c.stepped.ensures.answer c.stepped.ensures.work k)
