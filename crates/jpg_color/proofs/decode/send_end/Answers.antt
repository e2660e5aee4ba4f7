use Rattle.std.proofs.lemmas.Result.{err_from_is_err_and}
use Rattle.jpg_color.proofs.Ending.{starts, answered_so, part_fails, part_finished, part_last, part_more, fewer}
use Rattle.jpg_color.proofs.decode.send_end.Goals as goal

pub loop-init : goal.loop-init
loop-init g c = (starts c.requires.end c.requires.whole c.requires.created, λ few. few)

pub send_part-requires-clause-end : goal.send_part-requires-clause-end
send_part-requires-clause-end g c = c.loop.invariant.0.can

pub send_part-requires-clause-created : goal.send_part-requires-clause-created
send_part-requires-clause-created g c = c.loop.invariant.0.created

pub returns-in_err-send_part-clause-sent : goal.returns-in_err-send_part-clause-sent
returns-in_err-send_part-clause-sent g c =
    let back = err_from_is_err_and c.from_residual.result c.from_residual.ensures.1 in
    rw (back.1, back.2) (part_fails c.loop.invariant.0 c.in_err-send_part.ensures.sends)

pub loop-smaller : goal.loop-smaller
loop-smaller g c = fewer c.loop.invariant.0 (answered_so c.in-More.is c.in_ok-send_part.ensures.sends)

pub loop-preserved : goal.loop-preserved
loop-preserved g c = (part_more c.loop.invariant.0 (answered_so c.in-More.is c.in_ok-send_part.ensures.sends), λ few. c.in_ok-send_part.ensures.few (c.loop.invariant.1 few))

pub returns-in-Done-clause-sent : goal.returns-in-Done-clause-sent
returns-in-Done-clause-sent g c = part_last c.loop.invariant.0 (answered_so c.in-Done.is c.in_ok-send_part.ensures.sends)

pub returns-in-Done-clause-end : goal.returns-in-Done-clause-end
returns-in-Done-clause-end g c = part_finished c.loop.invariant.0 (answered_so c.in-Done.is c.in_ok-send_part.ensures.sends)
