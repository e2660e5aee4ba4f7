use Rattle.std.proofs.Common.{List, [], ℕ, Err, ◌≤◌, length, refl, sym, subst}
use Rattle.jpg_comments.specs.WriteInserted.{HasInserted}
use Rattle.jpg_cli.specs.Tools.CommentInserted.{task_view}
use Rattle.jpg_cli.specs.Tools.InsertComment.{IsBegunWith}
use Rattle.jpg_cli.proofs.Comments.CommentInserted.{comment_untaken, input_opened, input_unopened, not_begun}
use Rattle.jpg_cli.proofs.tools.wrjpgcom.insert_comment.Goals as goal

pub returns-in-Err-clause-inserted : goal.returns-in-Err-clause-inserted
returns-in-Err-clause-inserted g c =
    let state = g.D.Desk.state in
    comment_untaken (task_view c.args.words.now) (state c.args.desk.now) (state c.take_comment.new.desk) c.in-Err.why c.in-Err.ensures.kept c.in-Err.ensures.after

pub returns-in-Err-with_comment-clause-inserted : goal.returns-in-Err-with_comment-clause-inserted
returns-in-Err-with_comment-clause-inserted g c =
    let state = g.D.Desk.state in
    not_begun (task_view c.args.words.now) (state c.args.desk.now) (state c.take_comment.new.desk) c.in-Ok.comment c.in-Err-with_comment.why c.in-Ok.ensures.kept c.in-Ok.ensures.after
    (subst (λ (b : List ℕ). IsBegunWith b c.args.words.now.replace (Err c.in-Err-with_comment.why)) c.as_slice.ensures c.in-Err-with_comment.ensures)

pub returns-in-Failed-clause-inserted : goal.returns-in-Failed-clause-inserted
returns-in-Failed-clause-inserted g c =
    let state = g.D.Desk.state in
    let begun = c.in-Ok-with_comment.ensures in
    let short = subst (λ (b : List ℕ). length b ≤ 65000) c.as_slice.ensures begun.0 in
    input_unopened (task_view c.args.words.now) (state c.args.desk.now) (state c.take_comment.new.desk) (state c.open.new.self) c.in-Ok.comment c.in-Ok.ensures.kept c.in-Ok.ensures.after short c.in-Failed.ensures

pub insert_into-requires-clause-begun : goal.insert_into-requires-clause-begun
insert_into-requires-clause-begun g c =
    let state = g.D.Desk.state in
    let begun = c.in-Ok-with_comment.ensures in
    let task = task_view c.args.words.now in
    let short = subst (λ (b : List ℕ). length b ≤ 65000) c.as_slice.ensures begun.0 in
    let new = subst (λ (b : List ℕ). HasInserted b [] [] c.in-Ok-with_comment.insert) c.as_slice.ensures begun.1 in
    let reading = input_opened task (state c.args.desk.now) (state c.take_comment.new.desk) (state c.open.new.self) c.in-Ok.comment c.in-Ok.ensures.kept c.in-Ok.ensures.after short c.in-Done.ensures in
    (task, c.in-Ok.comment, state c.args.desk.now, record { output = refl; replace = sym begun.3; inserts = new; reading = reading })

pub returns-clause-inserted : goal.returns-clause-inserted
returns-clause-inserted g c =
    let state = g.D.Desk.state in
    let begun = c.in-Ok-with_comment.ensures in
    let insert = c.in-Ok-with_comment.insert in
    let task = task_view c.args.words.now in
    let short = subst (λ (b : List ℕ). length b ≤ 65000) c.as_slice.ensures begun.0 in
    let new = subst (λ (b : List ℕ). HasInserted b [] [] insert) c.as_slice.ensures begun.1 in
    let reading = input_opened task (state c.args.desk.now) (state c.take_comment.new.desk) (state c.open.new.self) c.in-Ok.comment c.in-Ok.ensures.kept c.in-Ok.ensures.after short c.in-Done.ensures in
    c.insert_into.ensures.after task c.in-Ok.comment (state c.args.desk.now) (record { output = refl; replace = sym begun.3; inserts = new; reading = reading })
