use Rattle.std.proofs.Common.{◌∙◌, sym, refl}
use Rattle.jpg_markers.proofs.Definitions.{judged_on, judged_bad, judged_all}
use Rattle.jpg_markers.proofs.huffmans.judge.Goals as goal

pub loop-rest-preserved : goal.loop-rest-preserved
loop-rest-preserved c = rw c.in-Ok.ensures.rest (sym (judged_on c.loop-rest.rest.now _ _ c.in-len1-up.len_at_least refl c.in-Ok.ensures.value) ∙ c.loop-rest.invariant)

pub returns-in-Err : goal.returns-in-Err
returns-in-Err c = sym (judged_bad c.loop-rest.rest.now _ c.in-Err.fault c.in-len1-up.len_at_least refl c.in-Err.ensures.value) ∙ c.loop-rest.invariant

pub returns : goal.returns
returns c = sym (judged_all c.loop-rest.rest.now c.in_default.len_below) ∙ c.loop-rest.invariant
