use Rattle.std.proofs.Common.{◌∷◌, [], ◌++◌}
use Rattle.std.proofs.lemmas.List.{append_assoc}
use Rattle.jpg_comments.proofs.Appended.{leaves_all, leaves_same, leaves_rest, leaves_none, leaves_still, at_exit, pushed}
use Rattle.jpg_comments.proofs.insert.write_head.Goals as goal

pub returns-in_err-push_some : goal.returns-in_err-push_some
returns-in_err-push_some c =
    let old = c.args.out.now in
    let head = c.args.head.now in let segment = c.args.segment.now in
    let marker = 255 ∷ c.args.code ∷ [] in
    let text = head ++ segment ++ marker in
    let left = leaves_same text old old text (head ++ (segment ++ marker)) (append_assoc head segment marker) (leaves_all text old) in
    at_exit _ text old c.push_some.new.out c.from_residual.result c.in_err-push_some.field-0.0 c.from_residual.ensures.1
    (leaves_still text old old c.push_some.new.out head (segment ++ marker) c.in_err-push_some.field-0.0 left c.in_err-push_some.ensures.some c.in_err-push_some.ensures.same)

pub returns-in_err-push_some-2 : goal.returns-in_err-push_some-2
returns-in_err-push_some-2 c =
    let old = c.args.out.now in
    let head = c.args.head.now in let segment = c.args.segment.now in
    let marker = 255 ∷ c.args.code ∷ [] in
    let text = head ++ segment ++ marker in
    let left = leaves_rest text old old c.push_some.new.out head (segment ++ marker) (leaves_same text old old text (head ++ (segment ++ marker)) (append_assoc head segment marker) (leaves_all text old)) c.in_ok-push_some.ensures.whole in
    at_exit _ text old c.push_some-2.new.out c.from_residual-in_err-push_some-2.result c.in_err-push_some-2.field-0.0 c.from_residual-in_err-push_some-2.ensures.1
    (leaves_still text old c.push_some.new.out c.push_some-2.new.out segment marker c.in_err-push_some-2.field-0.0 left c.in_err-push_some-2.ensures.some c.in_err-push_some-2.ensures.same)

pub returns : goal.returns
returns c =
    let old = c.args.out.now in
    let head = c.args.head.now in let segment = c.args.segment.now in
    let marker = 255 ∷ c.args.code ∷ [] in
    let text = head ++ segment ++ marker in
    let first = leaves_rest text old old c.push_some.new.out head (segment ++ marker) (leaves_same text old old text (head ++ (segment ++ marker)) (append_assoc head segment marker) (leaves_all text old)) c.in_ok-push_some.ensures.whole in
    let left = leaves_rest text old c.push_some.new.out c.push_some-2.new.out segment marker first c.in_ok-push_some-2.ensures.whole in
    leaves_none text old c.push_some-2.new.out marker c.push_some-3.new.out c.push_some-3.result left
    (pushed c.push_some-3.result marker c.push_some-2.new.out c.push_some-3.new.out c.push_some-3.ensures.whole c.push_some-3.ensures.same c.push_some-3.ensures.some)
