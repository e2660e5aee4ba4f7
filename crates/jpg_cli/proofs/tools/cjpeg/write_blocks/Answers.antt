use Rattle.jpg_cli.proofs.Encoding.EncodedWritten.{can_write, parts_of, view_faulty, view_written}
use Rattle.jpg_cli.proofs.tools.cjpeg.write_blocks.Goals as goal

pub write_view-requires : goal.write_view-requires
write_view-requires g c =
    let h = c.requires in
    can_write h.2 (parts_of h.3) c.script_due-script.result c.plan_of-plan.result c.plan_of-plan.ensures c.script_due-script.ensures c.in-Ok.ensures

pub returns-in-Err-clause-wrote : goal.returns-in-Err-clause-wrote
returns-in-Err-clause-wrote g c = λ e I asked is.
    view_faulty asked (parts_of is) c.script_due-script.result c.args.words.now.files.output (g.D.Desk.state c.args.desk.now) c.in-Err.fault c.script_due-script.ensures c.in-Err.ensures

pub returns-in-Ok-clause-wrote : goal.returns-in-Ok-clause-wrote
returns-in-Ok-clause-wrote g c = λ e I asked is.
    let state = g.D.Desk.state in
    view_written asked (parts_of is) c.script_due-script.result c.plan_of-plan.result c.args.words.now.files.output (state c.args.desk.now) (state c.write_view.new.desk) c.write_view.result
    c.plan_of-plan.ensures c.script_due-script.ensures c.in-Ok.ensures c.write_view.ensures.output
