use Rattle.std.proofs.Common.{Err, ap, refl, subst, sym, ◌∙◌, ◌<◌, Result}
use Rattle.jpg_base.specs.declared.stop.Stop.{Stop}
use Rattle.jpg_coefs.specs.Picture.{Picture as Coefs}
use Rattle.jpg_file.specs.Read.ReadFile.{ReaderState}
use Rattle.jpg_file.specs.declared.read.pieces.FedRow.{FedRow}
use Rattle.jpg_preview.proofs.PieceSteps.{rest_is}
use Rattle.jpg_spec_words.specs.declared.answers.Why.{Why}
use Rattle.jpg_desk.specs.Pump.{AfterTaking}
use Rattle.jpg_desk.specs.RowsRead.{rows_reader, rows_to_give}
use Rattle.jpg_desk.specs.RowsTo.{CanPut}
use Rattle.jpg_desk.proofs.RowsRead.{as_ok, at_answer, ends_done, ends_more, ends_stopped, fewer_due, row_due, row_next}
use Rattle.jpg_desk.proofs.rows_read.RowsRead.take_rows.Goals as goal

pub returns-in-More : goal.returns-in-More
returns-in-More c = λ from all k. ends_more (at_answer (as_ok c.in-Ok.is c.in-More.is) (c.loop-answer.invariant from all k))

pub returns-in-Done : goal.returns-in-Done
returns-in-Done c = λ from all k rest. ends_done c.in-Done.used (at_answer (as_ok c.in-Ok.is c.in-Done.is) (c.loop-answer.invariant from all k))

pub returns-in-Err : goal.returns-in-Err
returns-in-Err c = λ from all k.
    subst (λ (w : Why). AfterTaking rows_reader from all (Err w) c.loop-answer.self) (sym c.why_stopped.ensures) (ends_stopped c.in-Err.stop (at_answer c.in-Err.is (c.loop-answer.invariant from all k)))

pub row_coefs-requires : goal.row_coefs-requires
row_coefs-requires c =
    let r = c.requires in
    let d = row_due (at_answer (as_ok c.in-Ok.is c.in-Row.is) (c.loop-answer.invariant r.0 r.1 r.2)) in
    (d.row, ap (λ (s : ReaderState). s.rows) c.deref.ensures ∙ d.has)

pub put-requires : goal.put-requires
put-requires c =
    let r = c.requires in
    let d = row_due (at_answer (as_ok c.in-Ok.is c.in-Row.is) (c.loop-answer.invariant r.0 r.1 r.2)) in
    let lent = c.row_coefs.ensures d.row (ap (λ (s : ReaderState). s.rows) c.deref.ensures ∙ d.has) in
    (d.frame, d.count, d.blocks, subst (λ (x : Coefs). CanPut d.frame d.count d.blocks x c.loop-answer.self.to) (sym lent) d.can)

pub slice_bounds-rest-count : goal.slice_bounds-rest-count
slice_bounds-rest-count c = (let r = c.requires in (row_due (at_answer (as_ok c.in-Ok.is c.in-Row.is) (c.loop-answer.invariant r.0 r.1 r.2))).within)

pub slice_bounds-rest-start : goal.slice_bounds-rest-start
slice_bounds-rest-start c = (let r = c.requires in (row_due (at_answer (as_ok c.in-Ok.is c.in-Row.is) (c.loop-answer.invariant r.0 r.1 r.2))).within)

pub feed_keeping-answer-requires-clause-undone : goal.feed_keeping-answer-requires-clause-undone
feed_keeping-answer-requires-clause-undone c =
    (let r = c.requires in ap (λ (s : ReaderState). s.done) c.deref_mut.ensures.value ∙ (row_due (at_answer (as_ok c.in-Ok.is c.in-Row.is) (c.loop-answer.invariant r.0 r.1 r.2))).undone)

pub feed_keeping-answer-requires-clause-in_rows : goal.feed_keeping-answer-requires-clause-in_rows
feed_keeping-answer-requires-clause-in_rows c =
    (let r = c.requires in ap (λ (s : ReaderState). s.in_rows) c.deref_mut.ensures.value ∙ (row_due (at_answer (as_ok c.in-Ok.is c.in-Row.is) (c.loop-answer.invariant r.0 r.1 r.2))).in_rows)

pub loop-answer-preserved : goal.loop-answer-preserved
loop-answer-preserved c = λ from all k.
    (let e = c.feed_keeping-answer.ensures in
    row_next c.feed_keeping-answer.result (at_answer (as_ok c.in-Ok.is c.in-Row.is) (c.loop-answer.invariant from all k)) c.deref_mut.ensures.value (rest_is c.loop-answer.rest.now c.in-Row.used) e.answered e.done
    (record { limits = e.limits; in_rows = e.in_rows; keeping = e.keeping }) refl (λ rows has. c.row_coefs.ensures rows (ap (λ (s : ReaderState). s.rows) c.deref.ensures ∙ has)) c.in-Ok-put.ensures refl)

pub loop-answer-smaller : goal.loop-answer-smaller
loop-answer-smaller c =
    let r = c.requires in
    let e = c.feed_keeping-answer.ensures in
    let is = as_ok c.in-Ok.is c.in-Row.is in
    subst (λ (a : Result FedRow Stop). rows_to_give c.feed_keeping-answer.result c.feed_keeping-answer.new.self < rows_to_give a (c.loop-answer.self.reader).value) (sym is)
    (fewer_due c.feed_keeping-answer.result (at_answer is (c.loop-answer.invariant r.0 r.1 r.2)) c.deref_mut.ensures.value (rest_is c.loop-answer.rest.now c.in-Row.used) e.answered e.done
    (record { limits = e.limits; in_rows = e.in_rows; keeping = e.keeping }))
