use Rattle.std.proofs.Common.{◌∙◌, sym, refl}
use Rattle.jpg_markers.proofs.Tables.{goes_on_at, ends_at, none_left_at}
use Rattle.jpg_markers.proofs.quants.all_tables.Goals as goal

pub returns-in-Err : goal.returns-in-Err
returns-in-Err c = sym (ends_at c.loop-rest.set c.loop-rest.rest.now _ c.in-Err.fault c.in-len1-up.len_at_least refl (sym c.in-Err.ensures.value)) ∙ c.loop-rest.invariant

pub loop-rest-preserved : goal.loop-rest-preserved
loop-rest-preserved c = rw c.behind-rest.ensures (sym (goes_on_at c.loop-rest.set c.in-Ok.next c.loop-rest.rest.now _ c.in-len1-up.len_at_least refl (sym c.in-Ok.ensures.value)) ∙ c.loop-rest.invariant)

pub returns : goal.returns
returns c = sym (none_left_at c.loop-rest.set c.loop-rest.rest.now c.in_default.len_below) ∙ c.loop-rest.invariant
