use Rattle.std.proofs.Common.{◌≡◌, true, Result, Ok, Err, refl, rules, subst}
use Rattle.std.specs.Prelude.{OnOk}
use Rattle.jpg_base.specs.declared.names.NoMemory.{NoMemory}
use Rattle.jpg_base.specs.declared.stop.Fed.TheVariants as fed
use Rattle.jpg_comments.proofs.ByPiece.{comments_fed}
use Rattle.jpg_comments.proofs.comments.Comments.feed.Goals as goal

pub returns-in-Ok-More-clause-answered : goal.returns-in-Ok-More-clause-answered
returns-in-Ok-More-clause-answered c = λ bytes text h.
    let ready : c.reserve.new.self.ready ≡ true = subst (λ (r : Result (Unit {0}) NoMemory). OnOk r (c.reserve.new.self.ready ≡ true)) c.in-Ok.is c.reserve.ensures.ready in
    comments_fed bytes c.args.piece.now text c.args.out.now c.feed_piece-answer.new.out _ c.reserve.new.self _ c.feed_piece-answer.result (Ok fed.More) (search rules) (c.reserve.ensures.read bytes text h) refl (refl, refl, ready) c.feed_piece-answer.ensures

pub returns-in-Ok-Done-clause-answered : goal.returns-in-Ok-Done-clause-answered
returns-in-Ok-Done-clause-answered c = λ bytes text h.
    comments_fed bytes c.args.piece.now text c.args.out.now c.feed_piece-answer.new.out _ c.reserve.new.self _ c.feed_piece-answer.result (Ok (fed.Done c.in-Ok-Done.field-0-0)) (search rules) (c.reserve.ensures.read bytes text h) refl tt c.feed_piece-answer.ensures

pub returns-in-Err-answer-clause-answered : goal.returns-in-Err-answer-clause-answered
returns-in-Err-answer-clause-answered c = λ bytes text h.
    comments_fed bytes c.args.piece.now text c.args.out.now c.feed_piece-answer.new.out _ c.reserve.new.self _ c.feed_piece-answer.result (Err c.in-Err-answer.stop) c.in-Err-answer.is (c.reserve.ensures.read bytes text h) refl tt c.feed_piece-answer.ensures
