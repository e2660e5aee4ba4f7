use Rattle.std.proofs.Common.{sym, subst, ◌∙◌}
use Rattle.jpg_spec_image.specs.ImageText.{end_text}
use Rattle.jpg_spec_image.specs.Pixels.{info, pixels}
use Rattle.jpg_file.specs.Read.PictureRead.{picture_meaning}
use Rattle.jpg_pnm_bmp.specs.EndState.{EndState, IsImageInfo}
use Rattle.jpg_color.specs.DecodeRows.{Decodes, finished_end}
use Rattle.jpg_color.proofs.Decoded.{decodes_none, if_ok_then, image_info, of_picture, told_of}
use Rattle.jpg_color.proofs.decode.decode_rows.Goals as goal

pub write_image-requires-clause-info : goal.write_image-requires-clause-info
write_image-requires-clause-info g c = subst IsImageInfo (sym (c.info_of-info.ensures ∙ told_of c.args.picture.now c.args.gray)) (image_info c.args.picture.now c.args.gray c.requires.admitted)

pub returns-in_default-clause-written : goal.returns-in_default-clause-written
returns-in_default-clause-written g c =
    let e : EndState = (goal.ImageEnd-dyn g (c.args.end.now.vtable, c.args.end.now.value)).progress c.args.end.now.value in
    let meaning = picture_meaning c.args.picture.now in
    decodes_none e.kind (info meaning c.args.gray) (pixels meaning c.args.gray c.args.smooth)

pub returns-clause-written : goal.returns-clause-written
returns-clause-written g c =
    let e : EndState = (goal.ImageEnd-dyn g (c.args.end.now.vtable, c.args.end.now.value)).progress c.args.end.now.value in
    let all = of_picture (end_text e.kind) (c.info_of-info.ensures ∙ told_of c.args.picture.now c.args.gray) c.in-Ok.ensures in
    subst (λ text. Decodes (g.D.Desk.state c.args.desk.now) text c.write_image.result (g.D.Desk.state c.write_image.new.desk)) all c.write_image.ensures.written

pub returns-clause-end : goal.returns-clause-end
returns-clause-end g c =
    let e : EndState = (goal.ImageEnd-dyn g (c.args.end.now.vtable, c.args.end.now.value)).progress c.args.end.now.value in
    if_ok_then c.write_image.result (λ x. x ∙ of_picture (finished_end e.kind) (c.info_of-info.ensures ∙ told_of c.args.picture.now c.args.gray) c.in-Ok.ensures)
    c.write_image.ensures.end
