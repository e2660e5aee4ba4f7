use Rattle.std.proofs.Common.{◌∙◌, sym, subst, List, ℕ, arith}
use Rattle.std.specs.Prelude.{◌++◌}
use Rattle.jpg_desk.specs.Pump.{AfterFeed}
use Rattle.jpg_cli.specs.Tools.ReadComments.{print_kind}
use Rattle.jpg_cli.specs.declared.tools.rdjpgcom.PrintSink.{PrintSink}
use Rattle.jpg_cli.proofs.Comments.CommentsCopied.{piece_printed, piece_unprinted}
use Rattle.jpg_cli.proofs.tools.rdjpgcom.PrintSinkPieceSink.feed.Goals as goal

pub take_piece-due-requires-clause-more : goal.take_piece-due-requires-clause-more
take_piece-due-requires-clause-more g c = c.requires.2.fed.fed.read.1

pub take_piece-due-requires-clause-ready : goal.take_piece-due-requires-clause-ready
take_piece-due-requires-clause-ready g c = c.requires.2.fed.fed.ready

pub take_piece-due-requires-clause-limits : goal.take_piece-due-requires-clause-limits
take_piece-due-requires-clause-limits g c = c.requires.2.fed.fed.limits

pub take_piece-due-requires-clause-short : goal.take_piece-due-requires-clause-short
take_piece-due-requires-clause-short g c = (let few = c.requires.2.reads.few in omega (arith, few))

pub write_text-requires : goal.write_text-requires
write_text-requires g c = (let b = c.requires.2 in b.reads.kept.copies.output_created ∙ b.fed.fed.created)

pub returns-in-Done-clause-fed : goal.returns-in-Done-clause-fed
returns-in-Done-clause-fed g c = λ from bytes b.
    let e = c.take_piece-due.ensures in
    let new = c.take_piece-due.new.comments in
    subst (λ (out : List ℕ). AfterFeed print_kind from (bytes ++ c.args.piece.now) c.take_piece-due.result (record { comments = new; out = out }, g.D.Desk.state c.write_text.new.desk)) (sym c.in-Done.ensures.empty)
    (piece_printed b c.take_piece-due.result c.take_piece-due.new.out new e.limits e.taken c.in-Done.ensures.kept e.ready c.in-Done.ensures.written)

pub returns-in-Failed-clause-fed : goal.returns-in-Failed-clause-fed
returns-in-Failed-clause-fed g c = λ from bytes b.
    let e = c.take_piece-due.ensures in
    let new = c.take_piece-due.new.comments in
    let sink : PrintSink = record { comments = new; out = c.write_text.new.text } in
    piece_unprinted b c.take_piece-due.result c.take_piece-due.new.out new e.limits e.taken c.in-Failed.ensures.kept c.in-Failed.ensures.written sink
