use Rattle.std.proofs.Common.{Err, Ok, Some, refl, sym}
use Rattle.jpg_cli.proofs.Pieces.FirstShown.{taken_admitted}
use Rattle.jpg_cli.proofs.Pieces.InputShown.{can_end, early_ended, early_here, early_read, end_stopped, new_plain, taken_ended, undone}
use Rattle.jpg_cli.proofs.tools.djpeg.ShowSinkPieceSink.end.Goals as goal

pub end-requires : goal.end-requires
end-requires g c = undone c.requires.2.fed.fed c.requires.2.ended.kept

pub returns-in-Stop : goal.returns-in-Stop
returns-in-Stop g c = λ from bytes b.
    let e = c.in-Stop.ensures in
    end_stopped b.fed.fed b.fed.short b.ended c.in-Stop.stop c.why_stopped.result c.why_stopped.ensures c.end.new.self _ refl e.rows_answered e.limits

pub finish_early-requires : goal.finish_early-requires
finish_early-requires g c =
    let e = c.in-Early.ensures in
    record { early = can_end c.requires.2.fed.fed c.requires.2.fed.short c.requires.2.ended c.in-Early.count c.end.new.self e.rows_answered e.limits c.in-Some.is }

pub returns-in-Ok : goal.returns-in-Ok
returns-in-Ok g c = λ from bytes b.
    let e = c.in-Early.ensures in
    let k = c.in-Ok.ensures in
    early_ended b.fed.fed b.fed.short b.ended c.in-Early.count c.end.new.self e.rows_answered e.limits c.in-Some.is (Ok (Some c.in-Early.count)) (Ok c.in-Ok.field-0) _ (g.D.Desk.state c.finish_early.new.desk) refl k.kept refl k.shown

pub returns-in-Err : goal.returns-in-Err
returns-in-Err g c = λ from bytes b.
    let e = c.in-Early.ensures in
    let k = c.in-Err.ensures in
    early_ended b.fed.fed b.fed.short b.ended c.in-Early.count c.end.new.self e.rows_answered e.limits c.in-Some.is (Err c.why_of.result) (Err c.in-Err.stop) _ (g.D.Desk.state c.finish_early.new.desk) refl k.kept (sym c.why_of.ensures) k.shown

pub take-requires-clause-done : goal.take-requires-clause-done
take-requires-clause-done g c =
    let e = c.in-Early.ensures in
    (early_read c.requires.2.fed.fed c.requires.2.fed.short c.requires.2.ended c.in-Early.count c.end.new.self e.rows_answered e.limits c.in_default.is).holds.ended.done

pub take-requires-clause-plain : goal.take-requires-clause-plain
take-requires-clause-plain g c =
    let e = c.in-Early.ensures in
    (early_read c.requires.2.fed.fed c.requires.2.fed.short c.requires.2.ended c.in-Early.count c.end.new.self e.rows_answered e.limits c.in_default.is).none

pub write_image-requires-clause-admitted : goal.write_image-requires-clause-admitted
write_image-requires-clause-admitted g c =
    let e = c.in-Early.ensures in
    taken_admitted _ _ _ _ _ _ (early_here c.requires.2.fed.fed c.requires.2.fed.short c.requires.2.ended c.in-Early.count c.end.new.self e.rows_answered e.limits c.in_default.is c.take.result c.take.ensures.early)

pub write_image-requires-clause-end : goal.write_image-requires-clause-end
write_image-requires-clause-end g c = new_plain c.requires.2.fed.fed c.requires.2.ended.kept c.in_default.is

pub returns-in-Ok-write_image : goal.returns-in-Ok-write_image
returns-in-Ok-write_image g c = λ from bytes b.
    let e = c.in-Early.ensures in
    let k = c.in-Ok-write_image.ensures in
    taken_ended b.fed.fed b.ended.kept c.in_default.is (early_here b.fed.fed b.fed.short b.ended c.in-Early.count c.end.new.self e.rows_answered e.limits c.in_default.is c.take.result c.take.ensures.early) (Ok (Some c.in-Early.count)) _ (g.D.Desk.state c.write_image.new.desk) refl k.kept k.left (k.wrote (Some c.in-Early.count))

pub returns : goal.returns
returns g c = λ from bytes b.
    let e = c.in-Early.ensures in
    let k = c.in-Err-write_image.ensures in
    taken_ended b.fed.fed b.ended.kept c.in_default.is (early_here b.fed.fed b.fed.short b.ended c.in-Early.count c.end.new.self e.rows_answered e.limits c.in_default.is c.take.result c.take.ensures.early) (Err c.in-Err-write_image.why) _ (g.D.Desk.state c.write_image.new.desk) refl k.kept k.left (k.wrote (Some c.in-Early.count))
