use Rattle.std.proofs.Common.{◌≡◌, ◌++◌, ◌∙◌, ℕ, Option, Some, Ok, Err, refl, ap, subst}
use Rattle.std.proofs.lemmas.List.{take_rest}
use Rattle.std.proofs.lemmas.Result.{err_from_is_err_and}
use Rattle.jpg_markers.specs.Reading.{reading_of}
use Rattle.jpg_comments.specs.Appending.{AppendsText}
use Rattle.jpg_comments.specs.Inserting.{AfterHeadPiece, CopiesRest, InsertsUpTo}
use Rattle.jpg_comments.proofs.Taken.{appends_none, appends_as}
use Rattle.jpg_comments.proofs.HeadByPieces.{AfterCopy, whole_head}
use Rattle.jpg_comments.proofs.InsertedPieces.{HeadThere, StandsWith, kept_of, stops_after, stops_before, goes_on_before, stops_at_head, copies_rest, goes_on_after}
use Rattle.jpg_comments.proofs.insert.Insert.begin.Goals as goal

pub returns-in_err-used-clause-answered : goal.returns-in_err-used-clause-answered
returns-in_err-used-clause-answered c = λ comment bytes text h.
    let self = c.args.self.now in
    let k = kept_of comment bytes text self h c.requires in
    let next = reading_of c.read_head.new.reader in
    let e = c.in_err-used.field-0.0 in
    let back = err_from_is_err_and c.from_residual.result c.from_residual.ensures.1 in
    let after = c.in_err-used.ensures.answered self.limits bytes k.0 in
    rw (back.1, back.2) (appends_none (λ all. InsertsUpTo self.limits comment self.replace bytes c.args.piece.now all e) text c.args.out.now
    (stops_before self.limits comment self.replace bytes c.args.piece.now text e k.1 after))

pub returns-in_default-clause-answered : goal.returns-in_default-clause-answered
returns-in_default-clause-answered c = λ comment bytes text h.
    let self = c.args.self.now in
    let k = kept_of comment bytes text self h c.requires in
    let next = reading_of c.read_head.new.reader in
    let after = c.in_ok-used.ensures.answered self.limits bytes k.0 in
    appends_none (λ all. StandsWith self.limits comment self.replace self.stop self.segment (bytes ++ c.args.piece.now) all self.taken c.read_head.new.head next) text c.args.out.now
    (goes_on_before comment bytes text self h c.args.piece.now c.read_head.new.head next c.requires
    (subst (λ (o : Option ℕ). AfterHeadPiece self.limits self.replace bytes c.args.piece.now (Ok o) c.read_head.new.head next) c.in_default.is after))

pub returns-in_err-write_head-clause-answered : goal.returns-in_err-write_head-clause-answered
returns-in_err-write_head-clause-answered c = λ comment bytes text h.
    let self = c.args.self.now in
    let piece = c.args.piece.now in
    let k = kept_of comment bytes text self h c.requires in
    let next = reading_of c.read_head.new.reader in
    let used = c.in-Some.used in
    let head = c.read_head.new.head in
    let after = subst (λ (o : Option ℕ). AfterHeadPiece self.limits self.replace bytes piece (Ok o) head next) c.in-Some.is (c.in_ok-used.ensures.answered self.limits bytes k.0) in
    let w : HeadThere self.limits comment self.replace bytes piece = record { head = head; segment = self.segment; used = used; next = next; same = h.2; after = after } in
    let back = err_from_is_err_and c.from_residual-in_err-write_head.result c.from_residual-in_err-write_head.ensures.1 in
    let whole = whole_head head self.segment next.code in
    let is : whole_head c.as_slice.result.now c.as_slice-2.result.now c.code.result ≡ whole =
    ap (λ l. whole_head l c.as_slice-2.result.now c.code.result) c.as_slice.ensures ∙ ap (λ l. whole_head head l c.code.result) c.as_slice-2.ensures ∙ ap (λ n. whole_head head self.segment n) c.code.ensures in
    let part = subst (λ l. AppendsText l (Err c.in_err-write_head.field-0.0) c.args.out.now c.write_head.new.out) is c.in_err-write_head.ensures in
    rw (back.1, back.2) (stops_at_head self.limits comment self.replace bytes piece w text k.1 c.args.out.now c.write_head.new.out c.in_err-write_head.field-0.0 part)

pub returns-in_err-taken-clause-answered : goal.returns-in_err-taken-clause-answered
returns-in_err-taken-clause-answered c = λ comment bytes text h.
    let self = c.args.self.now in
    let piece = c.args.piece.now in
    let k = kept_of comment bytes text self h c.requires in
    let next = reading_of c.read_head.new.reader in
    let used = c.in-Some.used in
    let head = c.read_head.new.head in
    let after = subst (λ (o : Option ℕ). AfterHeadPiece self.limits self.replace bytes piece (Ok o) head next) c.in-Some.is (c.in_ok-used.ensures.answered self.limits bytes k.0) in
    let w : HeadThere self.limits comment self.replace bytes piece = record { head = head; segment = self.segment; used = used; next = next; same = h.2; after = after } in
    let back = err_from_is_err_and c.from_residual-in_err-taken.result c.from_residual-in_err-taken.ensures.1 in
    let is : whole_head c.as_slice.result.now c.as_slice-2.result.now c.code.result ≡ whole_head head self.segment next.code =
    ap (λ l. whole_head l c.as_slice-2.result.now c.code.result) c.as_slice.ensures ∙ ap (λ l. whole_head head l c.code.result) c.as_slice-2.ensures ∙ ap (λ n. whole_head head self.segment n) c.code.ensures in
    let wrote = c.in_ok-write_head.ensures ∙ ap (λ l. c.args.out.now ++ l) is in
    let e = c.in_err-taken.field-0.0 in
    rw (back.1, back.2) (appends_as (λ all. AfterCopy self.limits comment self.replace (bytes ++ piece) all (Err e)) (λ all. InsertsUpTo self.limits comment self.replace bytes piece all e) text c.args.out.now c.copy.new.out
    (copies_rest self.limits comment self.replace bytes piece w text k.1 c.args.out.now c.write_head.new.out c.copy.new.out c.taken.result self.limits.input (Err e) refl wrote c.taken.ensures
    (subst (λ l. CopiesRest c.taken.result self.limits.input l (Err e) c.write_head.new.out c.copy.new.out) (take_rest piece used) c.in_err-taken.ensures))
    (λ all s. stops_after self.limits comment self.replace bytes piece all e s))

pub returns-clause-answered : goal.returns-clause-answered
returns-clause-answered c = λ comment bytes text h.
    let self = c.args.self.now in
    let piece = c.args.piece.now in
    let k = kept_of comment bytes text self h c.requires in
    let next = reading_of c.read_head.new.reader in
    let used = c.in-Some.used in
    let head = c.read_head.new.head in
    let after = subst (λ (o : Option ℕ). AfterHeadPiece self.limits self.replace bytes piece (Ok o) head next) c.in-Some.is (c.in_ok-used.ensures.answered self.limits bytes k.0) in
    let w : HeadThere self.limits comment self.replace bytes piece = record { head = head; segment = self.segment; used = used; next = next; same = h.2; after = after } in
    let is : whole_head c.as_slice.result.now c.as_slice-2.result.now c.code.result ≡ whole_head head self.segment next.code =
    ap (λ l. whole_head l c.as_slice-2.result.now c.code.result) c.as_slice.ensures ∙ ap (λ l. whole_head head l c.code.result) c.as_slice-2.ensures ∙ ap (λ n. whole_head head self.segment n) c.code.ensures in
    let wrote = c.in_ok-write_head.ensures ∙ ap (λ l. c.args.out.now ++ l) is in
    appends_as (λ all. AfterCopy self.limits comment self.replace (bytes ++ piece) all (Ok c.in_ok-taken.taken)) (λ all. StandsWith self.limits comment self.replace self.stop self.segment (bytes ++ piece) all (Some c.in_ok-taken.taken) head next) text c.args.out.now c.copy.new.out
    (copies_rest self.limits comment self.replace bytes piece w text k.1 c.args.out.now c.write_head.new.out c.copy.new.out c.taken.result self.limits.input (Ok c.in_ok-taken.taken) refl wrote c.taken.ensures
    (subst (λ l. CopiesRest c.taken.result self.limits.input l (Ok c.in_ok-taken.taken) c.write_head.new.out c.copy.new.out) (take_rest piece used) c.in_ok-taken.ensures))
    (λ all done. goes_on_after comment bytes piece all head c.in_ok-taken.taken self next h.0 h.2 done)
