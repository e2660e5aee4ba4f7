use Rattle.jpg_file.proofs.ByRow.WindowBytes.{data_came, data_ready, fault_came, run_taken}
use Rattle.jpg_file.proofs.read.file.FileState.run.Goals as goal

pub run-n-requires-clause-inside : goal.run-n-requires-clause-inside
run-n-requires-clause-inside c = (let o = c.requires.stands in (data_ready o.0 c.args.self.now c.in-Some.scan c.in-Some.is o.1).given)

pub returns-in-Ok : goal.returns-in-Ok
returns-in-Ok c =
    let o = c.requires.stands in
    let t = c.run-n in
    run_taken c.args.self.now c.in-Some.scan c.in-Some.is o.0 o.1 c.args.bytes.now c.args.size t.result.0 t.new.self t.new.window t.result.1 c.row_step.result c.requires.within c.requires.plain t.ensures.takes t.ensures.passes
    (data_came t.result.1 c.row_step.result _ _ _ _ _ c.in-Ok.is c.left-before.ensures c.left.ensures c.row_step.ensures.is)

pub returns-in-Err : goal.returns-in-Err
returns-in-Err c =
    let o = c.requires.stands in
    let t = c.run-n in
    run_taken c.args.self.now c.in-Some.scan c.in-Some.is o.0 o.1 c.args.bytes.now c.args.size t.result.0 t.new.self t.new.window t.result.1 c.fault_at.result c.requires.within c.requires.plain t.ensures.takes t.ensures.passes
    (fault_came t.result.1 c.in-Err.fault c.fault_at.result _ _ _ c.in-Err.is c.fault_at.ensures.is)
