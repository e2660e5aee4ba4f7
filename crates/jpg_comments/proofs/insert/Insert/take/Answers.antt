use Rattle.std.proofs.Common.{◌++◌, Some, Ok, Err, refl}
use Rattle.std.proofs.lemmas.Result.{err_from_is_err_and}
use Rattle.jpg_markers.specs.Reading.{reading_of}
use Rattle.jpg_comments.specs.Inserting.{InsertsUpTo}
use Rattle.jpg_comments.proofs.Taken.{appends_as}
use Rattle.jpg_comments.proofs.HeadByPieces.{AfterCopy}
use Rattle.jpg_comments.proofs.InsertedPieces.{StandsWith, copies_more, goes_on_after, stops_after}
use Rattle.jpg_comments.proofs.insert.Insert.take.Goals as goal

pub returns-in_err-taken-in-Some-clause-answered : goal.returns-in_err-taken-in-Some-clause-answered
returns-in_err-taken-in-Some-clause-answered c = λ comment bytes text h.
    let self = c.args.self.now in
    let back = err_from_is_err_and c.from_residual.result c.from_residual.ensures.1 in
    let piece = c.args.piece.now in
    let e = c.in_err-taken-in-Some.field-0.0 in
    rw (back.1, back.2) (appends_as (λ all. AfterCopy self.limits comment self.replace (bytes ++ piece) all (Err e)) (λ all. InsertsUpTo self.limits comment self.replace bytes piece all e) text c.args.out.now c.copy.new.out
    (copies_more comment bytes text self h piece c.args.out.now c.copy.new.out c.in-Some.taken self.limits.input (Err e) refl c.in-Some.is c.in_err-taken-in-Some.ensures)
    (λ all s. stops_after self.limits comment self.replace bytes piece all e s))

pub returns-in_ok-taken-in-Some-clause-answered : goal.returns-in_ok-taken-in-Some-clause-answered
returns-in_ok-taken-in-Some-clause-answered c = λ comment bytes text h.
    let self = c.args.self.now in
    let piece = c.args.piece.now in
    let r = reading_of self.reader in
    let n = c.in_ok-taken-in-Some.taken in
    appends_as (λ all. AfterCopy self.limits comment self.replace (bytes ++ piece) all (Ok n)) (λ all. StandsWith self.limits comment self.replace self.stop self.segment (bytes ++ piece) all (Some n) self.head r) text c.args.out.now c.copy.new.out
    (copies_more comment bytes text self h piece c.args.out.now c.copy.new.out c.in-Some.taken self.limits.input (Ok n) refl c.in-Some.is c.in_ok-taken-in-Some.ensures)
    (λ all done. goes_on_after comment bytes piece all self.head n self r h.0 h.2 done)
