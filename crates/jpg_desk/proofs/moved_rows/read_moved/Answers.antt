use Rattle.jpg_transform.specs.Planned.{choice_view}
use Rattle.jpg_desk.proofs.RowsFrom.{moved_read}
use Rattle.jpg_desk.proofs.moved_rows.read_moved.Goals as goal

pub returns-in-Done-clause-read : goal.returns-in-Done-clause-read
returns-in-Done-clause-read g c =
    let state = g.D.Desk.state in
    moved_read (choice_view c.args.choice.now) (state c.args.desk.now) _ (state c.take_moved.new.desk) c.args.name.now c.take_moved.result c.in-Done.ensures c.take_moved.ensures.kept c.take_moved.ensures.read
