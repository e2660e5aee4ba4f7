use Rattle.std.proofs.Common.{length}
use Rattle.jpg_file.proofs.Scans.Runs.{HasRun}
use Rattle.jpg_file.proofs.read.machine.take_run.Given as goal

abbrev pub invariant-loop-rest : goal.invariant-loop-rest
invariant-loop-rest g l = HasRun _ g.M.ScanMachine.kind l.fn.machine l.fn.coefs l.fn.bytes l.machine l.coefs l.rest

abbrev pub decreases-loop-rest : goal.decreases-loop-rest
decreases-loop-rest g l = length l.rest
