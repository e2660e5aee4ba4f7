use Rattle.jpg_cli.proofs.Encoding.Worked.{report_unwritten, report_written}
use Rattle.jpg_cli.proofs.tools.jpgwork.write_report.Goals as goal

pub returns-in-Done-write-clause-wrote : goal.returns-in-Done-write-clause-wrote
returns-in-Done-write-clause-wrote g c =
    let state = g.D.Desk.state in
    report_written c.args.report.now (state c.args.desk.now) (state c.create.new.self) (state c.write.new.self) c.in-Done.ensures c.in-Done-write.ensures

pub returns-in-Failed-write-clause-wrote : goal.returns-in-Failed-write-clause-wrote
returns-in-Failed-write-clause-wrote g c =
    let state = g.D.Desk.state in
    report_unwritten c.args.report.now (state c.args.desk.now) (state c.create.new.self) (state c.write.new.self) c.in-Done.ensures c.in-Failed-write.ensures
