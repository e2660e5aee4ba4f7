use Rattle.std.proofs.Common.{drop, ◌++◌, ◌∷◌, ap, sym, ◌∙◌}
use Rattle.std.specs.Prelude.{slice_index}
use Rattle.std.proofs.lemmas.List.{take_rest}
use Rattle.jpg_spec_write.specs.CommentText.{octal}
use Rattle.jpg_comments.specs.Pieces.{plain_text}
use Rattle.jpg_comments.proofs.Appended.{leaves_same, leaves_rest, leaves_none, leaves_still, at_exit, pushed}
use Rattle.jpg_comments.proofs.Shown.{unprintable_first, unprintable_none}
use Rattle.jpg_comments.proofs.printed.append_plain.Goals as goal

pub returns-in_err-push_some : goal.returns-in_err-push_some
returns-in_err-push_some c =
    let text = plain_text c.args.bytes.now in
    let old = c.args.out.now in
    let rest = c.loop-place.rest.now in
    let run = c.split_at.result.0.now in
    let others = c.split_at.result.1.now in
    let found = unprintable_first rest run others c.in-Some.place (sym c.first_unprintable.ensures.first ∙ c.in-Some.is) c.split_at.ensures.front c.split_at.ensures.back in
    let behind = (92 ∷ octal (slice_index others 0)) ++ plain_text (drop 1 others) in
    let left = leaves_same text old c.loop-place.out (plain_text rest) (run ++ behind) found c.loop-place.invariant in
    at_exit _ text old c.push_some.new.out c.from_residual.result c.in_err-push_some.field-0.0 c.from_residual.ensures.1
    (leaves_still text old c.loop-place.out c.push_some.new.out run behind c.in_err-push_some.field-0.0 left c.in_err-push_some.ensures.some c.in_err-push_some.ensures.same)

pub returns-in_err-push_some-2 : goal.returns-in_err-push_some-2
returns-in_err-push_some-2 c =
    let text = plain_text c.args.bytes.now in
    let old = c.args.out.now in
    let rest = c.loop-place.rest.now in
    let run = c.split_at.result.0.now in
    let others = c.split_at.result.1.now in
    let found = unprintable_first rest run others c.in-Some.place (sym c.first_unprintable.ensures.first ∙ c.in-Some.is) c.split_at.ensures.front c.split_at.ensures.back in
    let behind = (92 ∷ octal (slice_index others 0)) ++ plain_text (drop 1 others) in
    let left = leaves_rest text old c.loop-place.out c.push_some.new.out run behind
    (leaves_same text old c.loop-place.out (plain_text rest) (run ++ behind) found c.loop-place.invariant) c.in_ok-push_some.ensures.whole in
    at_exit _ text old c.push_some-in-Some.new.out c.from_residual-in_err-push_some-2.result c.in_err-push_some-2.field-0.0 c.from_residual-in_err-push_some-2.ensures.1
    (leaves_still text old c.push_some.new.out c.push_some-in-Some.new.out c.octal.result (plain_text (drop 1 others)) c.in_err-push_some-2.field-0.0
    (leaves_same text old c.push_some.new.out behind (c.octal.result ++ plain_text (drop 1 others)) (ap (λ d. d ++ plain_text (drop 1 others)) (sym c.octal.ensures)) left) c.in_err-push_some-2.ensures.some c.in_err-push_some-2.ensures.same)

pub loop-place-preserved : goal.loop-place-preserved
loop-place-preserved c =
    let text = plain_text c.args.bytes.now in
    let old = c.args.out.now in
    let rest = c.loop-place.rest.now in
    let run = c.split_at.result.0.now in
    let others = c.split_at.result.1.now in
    let found = unprintable_first rest run others c.in-Some.place (sym c.first_unprintable.ensures.first ∙ c.in-Some.is) c.split_at.ensures.front c.split_at.ensures.back in
    let digits = 92 ∷ octal (slice_index others 0) in
    let behind = plain_text (drop 1 others) in
    let left = leaves_rest text old c.loop-place.out c.push_some.new.out run (digits ++ behind)
    (leaves_same text old c.loop-place.out (plain_text rest) (run ++ (digits ++ behind)) found c.loop-place.invariant) c.in_ok-push_some.ensures.whole in
    leaves_same text old c.push_some-in-Some.new.out behind _ (ap plain_text (sym (take_rest others 1)))
    (leaves_rest text old c.push_some.new.out c.push_some-in-Some.new.out digits behind left (c.in_ok-push_some-2.ensures.whole ∙ ap (λ d. c.push_some.new.out ++ d) c.octal.ensures))

pub returns : goal.returns
returns c =
    let text = plain_text c.args.bytes.now in
    let rest = c.loop-place.rest.now in
    leaves_none text c.args.out.now c.loop-place.out rest c.push_some-2.new.out c.push_some-2.result
    (leaves_same text c.args.out.now c.loop-place.out (plain_text rest) rest (unprintable_none rest (sym c.first_unprintable.ensures.first ∙ c.in_default.is)) c.loop-place.invariant)
    (pushed c.push_some-2.result rest c.loop-place.out c.push_some-2.new.out c.push_some-2.ensures.whole c.push_some-2.ensures.same c.push_some-2.ensures.some)
