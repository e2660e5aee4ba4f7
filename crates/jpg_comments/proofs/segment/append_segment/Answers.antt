use Rattle.std.proofs.Common.{◌∙◌, ap, arith, get_or, List, ℕ, length, ◌+◌, ◌<◌, [], ◌∷◌, ◌++◌}
use Rattle.std.specs.Int.{to_be_bytes, w16}
use Rattle.jpg_spec_write.specs.FileText.{segment_text}
use Rattle.jpg_comments.proofs.Appended.{at_exit, leaves_all, leaves_rest, leaves_none, leaves_still, pushed}
use Rattle.jpg_comments.proofs.segment.append_segment.Goals as goal

pub returns-in_err-push_some : goal.returns-in_err-push_some
returns-in_err-push_some c =
    let old = c.args.out.now in
    let contents = c.args.contents.now in
    let text = segment_text c.args.code contents in
    let head = 255 ∷ c.args.code ∷ to_be_bytes w16 (length contents + 2) in
    let some : 0 < length head = omega arith in
    at_exit _ text old c.push_some.new.out c.from_residual.result c.in_err-push_some.field-0.0 c.from_residual.ensures.1
    (leaves_still text old old c.push_some.new.out head contents c.in_err-push_some.field-0.0 (leaves_all text old) some c.in_err-push_some.ensures.same)

pub returns : goal.returns
returns c =
    let old = c.args.out.now in
    let contents = c.args.contents.now in
    let text = segment_text c.args.code contents in
    let head = 255 ∷ c.args.code ∷ to_be_bytes w16 (length contents + 2) in
    let behind = leaves_rest text old old c.push_some.new.out head contents (leaves_all text old) (c.in_ok-push_some.ensures.whole ∙ ap (λ (b : List ℕ). old ++ 255 ∷ c.args.code ∷ get_or b 0 0 ∷ get_or b 1 0 ∷ []) c.to_be_bytes.ensures) in
    leaves_none text old c.push_some.new.out contents c.push_some-2.new.out c.push_some-2.result behind
    (pushed c.push_some-2.result contents c.push_some.new.out c.push_some-2.new.out c.push_some-2.ensures.whole c.push_some-2.ensures.same c.push_some-2.ensures.some)
