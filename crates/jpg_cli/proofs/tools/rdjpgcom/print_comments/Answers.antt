use Rattle.std.proofs.Common.{[], inl}
use Rattle.jpg_cli.proofs.Comments.CommentsPrinted.{printed_from}
use Rattle.jpg_cli.proofs.tools.rdjpgcom.print_comments.Goals as goal

pub copy_comments-requires-clause-read : goal.copy_comments-requires-clause-read
copy_comments-requires-clause-read g c = c.reserve.ensures.read [] [] c.new-comments.ensures.read

pub returns-in-Done-create-clause-printed : goal.returns-in-Done-create-clause-printed
returns-in-Done-create-clause-printed g c =
    let state = g.D.Desk.state in
    let files = c.args.files.now in
    inl (printed_from (state c.args.desk.now) (state c.open.new.self) (state c.create.new.self) (state c.copy_comments.new.desk) files.input files.output c.copy_comments.result c.in-Done.ensures c.in-Done-create.ensures c.copy_comments.ensures.0 c.copy_comments.ensures.1)
