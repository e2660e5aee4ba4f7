use Rattle.jpg_file.specs.Read.PictureRead.{picture_meaning}
use Rattle.jpg_transform.specs.Planned.{choice_view}
use Rattle.example_callers.proofs.Calls.{turned_by, unread}
use Rattle.example_callers.proofs.pictures.turn.Goals as goal

pub returns-in-Ok-plan : goal.returns-in-Ok-plan
returns-in-Ok-plan c =
    turned_by c.args.file.now (picture_meaning c.in-Ok.picture) (choice_view c.args.choice.now) c.write_turned.result c.in-Ok.ensures c.write_turned.ensures

pub returns-in-Err : goal.returns-in-Err
returns-in-Err c = unread c.args.file.now (choice_view c.args.choice.now) c.in-Err.stop c.in-Err.ensures

pub returns : goal.returns
returns c = (picture_meaning c.in-Ok.picture, c.in-Ok.ensures, c.in-Err-plan.ensures)
