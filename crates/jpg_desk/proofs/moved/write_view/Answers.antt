use Rattle.jpg_desk.proofs.Output.{output_done, output_failed}
use Rattle.jpg_desk.proofs.moved.write_view.Goals as goal

pub returns-in-Ok-clause-output : goal.returns-in-Ok-clause-output
returns-in-Ok-clause-output g c =
    let state = g.D.Desk.state in
    output_done (state c.args.desk.now) (state c.create_output.new.desk) (state c.write_file.new.desk) c.args.output.now _ c.in-Done.ensures c.in-Ok.ensures.only c.in-Ok.ensures.bytes

pub returns-in-Err-clause-output : goal.returns-in-Err-clause-output
returns-in-Err-clause-output g c =
    let state = g.D.Desk.state in
    output_failed (state c.args.desk.now) (state c.create_output.new.desk) (state c.write_file.new.desk) c.args.output.now _ _ c.in-Done.ensures c.in-Err.ensures.only c.in-Err.ensures.bytes
