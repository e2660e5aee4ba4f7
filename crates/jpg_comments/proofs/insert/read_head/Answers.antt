use Rattle.std.proofs.Common.{Ok, Err, rules}
use Rattle.jpg_base.specs.declared.stop.Fed.TheVariants as fed
use Rattle.jpg_comments.proofs.InsertedPieces.{head_fed}
use Rattle.jpg_comments.proofs.insert.read_head.Goals as goal

pub returns-in-Ok-More-clause-answered : goal.returns-in-Ok-More-clause-answered
returns-in-Ok-More-clause-answered c = head_fed _ c.args.reader.now c.feed_piece.new.state c.args.piece.now c.args.head.now c.feed_piece.new.out c.feed_piece.result (Ok fed.More) (search rules) c.feed_piece.ensures

pub returns-in-Ok-Done-clause-answered : goal.returns-in-Ok-Done-clause-answered
returns-in-Ok-Done-clause-answered c = head_fed _ c.args.reader.now c.feed_piece.new.state c.args.piece.now c.args.head.now c.feed_piece.new.out c.feed_piece.result (Ok (fed.Done c.in-Ok-Done.used)) (search rules) c.feed_piece.ensures

pub returns-in-Err-clause-answered : goal.returns-in-Err-clause-answered
returns-in-Err-clause-answered c = head_fed _ c.args.reader.now c.feed_piece.new.state c.args.piece.now c.args.head.now c.feed_piece.new.out c.feed_piece.result (Err c.in-Err.stop) c.in-Err.is c.feed_piece.ensures
