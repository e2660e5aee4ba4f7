use Rattle.std.proofs.Common.{arith}
use Rattle.std.proofs.lemmas.Grind.{common_steps}
use Rattle.std.proofs.lemmas.List.{take_rest}
use Rattle.jpg_base.proofs.Written.{written_step}
use Rattle.jpg_base.proofs.standard.write_whole.Goals as goal

pub loop-rest-preserved : goal.loop-rest-preserved
loop-rest-preserved g c =
    written_step (g.W.Write.contents c.args.writer.now) (g.W.Write.contents c.loop-rest.writer) (g.W.Write.contents c.write.new.self)
    c.args.piece.now c.loop-rest.rest.now _ c.in-Ok.count c.in-Ok.ensures.bound
    (grind (arith, common_steps, take_rest)) c.loop-rest.invariant c.in-Ok.ensures.bytes
