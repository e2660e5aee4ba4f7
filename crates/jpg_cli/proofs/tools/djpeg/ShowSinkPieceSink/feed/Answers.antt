use Rattle.std.proofs.Common.{None, Ok, Err, false, refl}
use Rattle.jpg_cli.specs.Tools.ShowingRows.{Shower}
use Rattle.jpg_cli.proofs.Pieces.FirstShown.{taken_admitted}
use Rattle.jpg_cli.proofs.Pieces.InputShown.{begun, can_begin, can_draw, can_next, drawn_first, drawn_next, fed_as, first_ended, first_more, new_plain, not_begun, taken_ended, undone, whole_here, whole_read}
use Rattle.jpg_cli.proofs.tools.djpeg.ShowSinkPieceSink.feed.Goals as goal

pub draw_next-requires-clause-reads : goal.draw_next-requires-clause-reads
draw_next-requires-clause-reads g c = can_next c.requires.2.fed.fed c.requires.2.reads c.requires.2.most c.in-Some.is

pub returns-in-Some-clause-fed : goal.returns-in-Some-clause-fed
returns-in-Some-clause-fed g c = λ from bytes b.
    let view : _ → Shower = λ s. record { words = s.words.now; reader = s.reader; image = s.image; end = (goal.ImageEnd-dyn g (s.end.now.vtable, s.end.now.value)).progress s.end.now.value } in
    let e = c.draw_next.ensures in
    fed_as view from _ c.draw_next.result _ _ (drawn_next b.fed.fed b.reads b.most c.in-Some.is c.draw_next.new.reader c.draw_next.new.image _ c.draw_next.result (g.D.Desk.state c.draw_next.new.desk) e.by_row e.kept e.drawn)

pub take_first-requires-clause-more : goal.take_first-requires-clause-more
take_first-requires-clause-more g c = undone c.requires.2.fed.fed c.requires.2.reads.kept

pub take-requires-clause-done : goal.take-requires-clause-done
take-requires-clause-done g c = (whole_read c.requires.2.fed.fed c.requires.2.reads c.requires.2.most c.in_default.is c.take_first.new.reader c.in-Whole.ensures.taken).holds.done.done

pub take-requires-clause-plain : goal.take-requires-clause-plain
take-requires-clause-plain g c = (whole_read c.requires.2.fed.fed c.requires.2.reads c.requires.2.most c.in_default.is c.take_first.new.reader c.in-Whole.ensures.taken).none

pub write_image-requires-clause-admitted : goal.write_image-requires-clause-admitted
write_image-requires-clause-admitted g c =
    let e = c.in-Whole.ensures in
    taken_admitted _ _ _ _ _ _ (whole_here c.requires.2.fed.fed c.requires.2.reads c.requires.2.most c.in_default.is c.take_first.new.reader c.take.result e.limits e.taken c.take.ensures.meaning)

pub write_image-requires-clause-end : goal.write_image-requires-clause-end
write_image-requires-clause-end g c = new_plain c.requires.2.fed.fed c.requires.2.reads.kept c.in_default.is

pub returns-in-Ok-clause-fed : goal.returns-in-Ok-clause-fed
returns-in-Ok-clause-fed g c = λ from bytes b.
    let e = c.in-Whole.ensures in
    let k = c.in-Ok.ensures in
    taken_ended b.fed.fed b.reads.kept c.in_default.is (whole_here b.fed.fed b.reads b.most c.in_default.is c.take_first.new.reader c.take.result e.limits e.taken c.take.ensures.meaning) (Ok None) _ (g.D.Desk.state c.write_image.new.desk) refl k.kept k.left (k.wrote None)

pub returns-in-Whole-clause-fed : goal.returns-in-Whole-clause-fed
returns-in-Whole-clause-fed g c = λ from bytes b.
    let e = c.in-Whole.ensures in
    let k = c.in-Err.ensures in
    taken_ended b.fed.fed b.reads.kept c.in_default.is (whole_here b.fed.fed b.reads b.most c.in_default.is c.take_first.new.reader c.take.result e.limits e.taken c.take.ensures.meaning) (Err c.in-Err.why) _ (g.D.Desk.state c.write_image.new.desk) refl k.kept k.left (k.wrote None)

pub begin_image-requires-clause-end : goal.begin_image-requires-clause-end
begin_image-requires-clause-end g c = new_plain c.requires.2.fed.fed c.requires.2.reads.kept c.in_default.is

pub begin_image-requires-clause-begun : goal.begin_image-requires-clause-begun
begin_image-requires-clause-begun g c = can_begin c.requires.2.fed.fed c.requires.2.reads c.requires.2.most c.in_default.is c.take_first.new.reader c.in-Rows.answer c.in-Rows.ensures.taken

pub draw_piece-drawn-requires-clause-draws : goal.draw_piece-drawn-requires-clause-draws
draw_piece-drawn-requires-clause-draws g c = can_draw c.requires.2.fed.fed c.requires.2.reads c.requires.2.most c.in_default.is c.take_first.new.reader c.in-Rows.answer c.in-Rows.ensures.taken c.in-Ok-begin_image.ensures.begins

pub draw_piece-drawn-requires-clause-done : goal.draw_piece-drawn-requires-clause-done
draw_piece-drawn-requires-clause-done g c = (begun c.requires.2.fed.fed c.requires.2.reads c.requires.2.most c.in_default.is c.take_first.new.reader c.in-Rows.answer c.in-Rows.ensures.taken).done

pub returns-in-More-clause-fed : goal.returns-in-More-clause-fed
returns-in-More-clause-fed g c = λ from bytes b.
    let view : _ → Shower = λ s. record { words = s.words.now; reader = s.reader; image = s.image; end = (goal.ImageEnd-dyn g (s.end.now.vtable, s.end.now.value)).progress s.end.now.value } in
    let e = c.in-More.ensures in
    fed_as view from _ (Ok false) _ _ (first_more b.fed.fed b.reads b.most c.in_default.is c.take_first.new.reader e.by_row e.limits e.taken)

pub returns-in-Ok-begin_image-clause-fed : goal.returns-in-Ok-begin_image-clause-fed
returns-in-Ok-begin_image-clause-fed g c = λ from bytes b.
    let view : _ → Shower = λ s. record { words = s.words.now; reader = s.reader; image = s.image; end = (goal.ImageEnd-dyn g (s.end.now.vtable, s.end.now.value)).progress s.end.now.value } in
    let made = c.in-Ok-begin_image.ensures in
    let e = c.draw_piece-drawn.ensures in
    fed_as view from _ c.draw_piece-drawn.result _ _ (drawn_first b.fed.fed b.reads b.most c.in_default.is c.take_first.new.reader c.in-Rows.answer c.in-Rows.ensures.taken made.begins c.args.piece.ref_ptr c.draw_piece-drawn.new.reader c.draw_piece-drawn.new.image _ c.draw_piece-drawn.result (g.D.Desk.state c.draw_piece-drawn.new.desk) e.by_row made.kept made.open e.kept e.drawn)

pub returns-in-Rows-clause-fed : goal.returns-in-Rows-clause-fed
returns-in-Rows-clause-fed g c = λ from bytes b.
    let left = c.in-Err-begin_image.ensures in
    not_begun b.fed.fed b.reads b.most c.in_default.is c.take_first.new.reader c.in-Rows.answer c.in-Rows.ensures.taken c.in-Err-begin_image.why ((goal.ImageEnd-dyn g (c.begin_image.new.end.vtable, c.begin_image.new.end.value)).progress c.begin_image.new.end.value) _ (g.D.Desk.state c.begin_image.new.desk) refl left.kept left.begins

pub returns-clause-fed : goal.returns-clause-fed
returns-clause-fed g c = λ from bytes b. first_ended b.fed.fed b.reads b.most c.in_default.is c.in-Ended.why c.take_first.new.reader _ refl c.in-Ended.ensures.taken
