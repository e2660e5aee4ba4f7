use Rattle.jpg_transform.specs.Planned.{choice_view}
use Rattle.jpg_transform.proofs.AnyPicture.{picture_of}
use Rattle.jpg_desk.proofs.moved_rows.job_for.Goals as goal

pub row_scan-requires : goal.row_scan-requires
row_scan-requires c =
    let some = c.requires in
    let found = picture_of c.args.head.now some.meaning some.is some.range in
    (found.0, choice_view c.args.choice.now, c.in-Ok.ensures found.0 found.1.head)
