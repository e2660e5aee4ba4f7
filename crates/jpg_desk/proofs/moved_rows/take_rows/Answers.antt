use Rattle.jpg_transform.specs.Planned.{choice_view}
use Rattle.jpg_desk.proofs.RowsPicture.{some_head}
use Rattle.jpg_desk.proofs.moved_rows.take_rows.Goals as goal

pub job_for-requires : goal.job_for-requires
job_for-requires g c = some_head c.requires.began

pub returns-in-None : goal.returns-in-None
returns-in-None g c = c.keep_rows.ensures (choice_view c.args.choice.now)

pub returns-in-Some : goal.returns-in-Some
returns-in-Some g c = c.move_rows.ensures (choice_view c.args.choice.now) c.in-Some.ensures
