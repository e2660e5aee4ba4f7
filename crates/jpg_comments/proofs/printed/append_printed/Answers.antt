use Rattle.std.proofs.Common.{◌++◌, ◌∷◌, []}
use Rattle.jpg_spec_write.specs.CommentText.{printed}
use Rattle.jpg_comments.specs.Pieces.{plain_text}
use Rattle.jpg_comments.proofs.Appended.{leaves_same, leaves_rest, leaves_none, leaves_still, leaves_part, at_exit, pushed}
use Rattle.jpg_comments.proofs.Shown.{found, found_none, printed_before, printed_text, printed_none}
use Rattle.jpg_comments.proofs.printed.append_printed.Goals as goal

pub returns-in_err-append_plain : goal.returns-in_err-append_plain
returns-in_err-append_plain c =
    let text = printed c.args.comment.now in
    let old = c.args.out.now in
    let rest = c.loop-place.rest.now in
    let plain = c.split_at.result.0.now in
    let others = c.split_at.result.1.now in
    let first = found rest c.memchr3.result c.in-Some.place c.memchr3.ensures c.in-Some.is in
    let left = leaves_same text old c.loop-place.out (printed rest) (plain_text plain ++ printed others)
    (printed_before rest plain others c.in-Some.place first c.split_at.ensures.front c.split_at.ensures.back) c.loop-place.invariant in
    at_exit _ text old c.append_plain.new.out c.from_residual.result c.in_err-append_plain.field-0.0 c.from_residual.ensures.1
    (leaves_part text old c.loop-place.out c.append_plain.new.out (plain_text plain) (printed others) c.in_err-append_plain.field-0.0 left c.in_err-append_plain.ensures)

pub returns-in_err-push_some : goal.returns-in_err-push_some
returns-in_err-push_some c =
    let text = printed c.args.comment.now in
    let old = c.args.out.now in
    let rest = c.loop-place.rest.now in
    let plain = c.split_at.result.0.now in
    let others = c.split_at.result.1.now in
    let shown = c.first_escaped.result.0.now in
    let behind = c.first_escaped.result.1.now in
    let first = found rest c.memchr3.result c.in-Some.place c.memchr3.ensures c.in-Some.is in
    let left = leaves_rest text old c.loop-place.out c.append_plain.new.out (plain_text plain) (printed others)
    (leaves_same text old c.loop-place.out (printed rest) (plain_text plain ++ printed others)
    (printed_before rest plain others c.in-Some.place first c.split_at.ensures.front c.split_at.ensures.back) c.loop-place.invariant) c.in_ok-append_plain.ensures in
    at_exit _ text old c.push_some.new.out c.from_residual-in_err-push_some.result c.in_err-push_some.field-0.0 c.from_residual-in_err-push_some.ensures.1
    (leaves_still text old c.append_plain.new.out c.push_some.new.out shown (printed behind) c.in_err-push_some.field-0.0
    (leaves_same text old c.append_plain.new.out (printed others) (shown ++ printed behind) (printed_text others shown behind c.first_escaped.ensures.text) left) c.in_err-push_some.ensures.some c.in_err-push_some.ensures.same)

pub loop-place-preserved : goal.loop-place-preserved
loop-place-preserved c =
    let text = printed c.args.comment.now in
    let old = c.args.out.now in
    let rest = c.loop-place.rest.now in
    let plain = c.split_at.result.0.now in
    let others = c.split_at.result.1.now in
    let shown = c.first_escaped.result.0.now in
    let behind = c.first_escaped.result.1.now in
    let first = found rest c.memchr3.result c.in-Some.place c.memchr3.ensures c.in-Some.is in
    let left = leaves_rest text old c.loop-place.out c.append_plain.new.out (plain_text plain) (printed others)
    (leaves_same text old c.loop-place.out (printed rest) (plain_text plain ++ printed others)
    (printed_before rest plain others c.in-Some.place first c.split_at.ensures.front c.split_at.ensures.back) c.loop-place.invariant) c.in_ok-append_plain.ensures in
    leaves_rest text old c.append_plain.new.out c.push_some.new.out shown (printed behind)
    (leaves_same text old c.append_plain.new.out (printed others) (shown ++ printed behind) (printed_text others shown behind c.first_escaped.ensures.text) left) c.in_ok-push_some.ensures.whole

pub returns-in_err-append_plain-2 : goal.returns-in_err-append_plain-2
returns-in_err-append_plain-2 c =
    let text = printed c.args.comment.now in
    let old = c.args.out.now in
    let rest = c.loop-place.rest.now in
    let first = found_none rest c.memchr3.result c.memchr3.ensures c.in_default.is in
    let left = leaves_same text old c.loop-place.out (printed rest) (plain_text rest ++ 10 ∷ []) (printed_none rest first) c.loop-place.invariant in
    at_exit _ text old c.append_plain-2.new.out c.from_residual-in_err-append_plain-2.result c.in_err-append_plain-2.field-0.0 c.from_residual-in_err-append_plain-2.ensures.1
    (leaves_part text old c.loop-place.out c.append_plain-2.new.out (plain_text rest) (10 ∷ []) c.in_err-append_plain-2.field-0.0 left c.in_err-append_plain-2.ensures)

pub returns : goal.returns
returns c =
    let text = printed c.args.comment.now in
    let old = c.args.out.now in
    let rest = c.loop-place.rest.now in
    let first = found_none rest c.memchr3.result c.memchr3.ensures c.in_default.is in
    let left = leaves_rest text old c.loop-place.out c.append_plain-2.new.out (plain_text rest) (10 ∷ [])
    (leaves_same text old c.loop-place.out (printed rest) (plain_text rest ++ 10 ∷ []) (printed_none rest first) c.loop-place.invariant) c.in_ok-append_plain-2.ensures in
    leaves_none text old c.append_plain-2.new.out (10 ∷ []) c.push_some-2.new.out c.push_some-2.result left
    (pushed c.push_some-2.result (10 ∷ []) c.append_plain-2.new.out c.push_some-2.new.out c.push_some-2.ensures.whole c.push_some-2.ensures.same c.push_some-2.ensures.some)
