use Rattle.std.proofs.Common.{sym, subst}
use Rattle.jpg_spec.specs.Geometry.{Frame}
use Rattle.jpg_spec_move.specs.Moved.{moved}
use Rattle.jpg_coefs.specs.Picture.{map_of}
use Rattle.jpg_file.specs.Read.PictureRead.{picture_meaning}
use Rattle.jpg_transform.specs.Places.{IsSeenAs}
use Rattle.jpg_transform.specs.Planned.{choice_view}
use Rattle.example_callers.proofs.Calls.{unread}
use Rattle.example_callers.proofs.pictures.turn_coefs.Goals as goal

pub returns-in-Err : goal.returns-in-Err
returns-in-Err c = unread c.args.file.now (choice_view c.args.choice.now) c.in-Err.stop c.in-Err.ensures

pub returns-in-Ok-apply : goal.returns-in-Ok-apply
returns-in-Ok-apply c =
    let p = c.in-Ok.picture in
    let a = choice_view c.args.choice.now in
    let coefs = c.in-Ok-apply.coefs in
    (picture_meaning p, c.in-Ok.ensures, subst (λ (f : Frame). IsSeenAs (moved a (picture_meaning p)) f (map_of coefs)) (sym c.in-Ok-apply.ensures.frame) (c.in-Ok-apply.ensures.shows a c.in-Ok-plan.ensures))
