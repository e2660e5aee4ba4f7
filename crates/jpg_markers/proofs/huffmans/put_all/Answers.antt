use Rattle.std.proofs.Common.{◌∙◌, sym, refl}
use Rattle.jpg_huff.specs.Definitions.{definitions_of}
use Rattle.jpg_markers.proofs.Definitions.{put_on, put_bad, put_none}
use Rattle.jpg_markers.proofs.huffmans.put_all.Goals as goal

pub loop-rest-preserved : goal.loop-rest-preserved
loop-rest-preserved c = rw c.in-Ok.ensures.rest
    (sym (put_on (definitions_of c.loop-rest.tables) (definitions_of c.put.new.tables) c.loop-rest.rest.now _ _ c.in-len1-up.len_at_least refl c.in-Ok.ensures.value c.put.ensures) ∙ c.loop-rest.invariant)

pub returns-in-Err-clause-refused : goal.returns-in-Err-clause-refused
returns-in-Err-clause-refused c = sym c.loop-rest.invariant ∙ put_bad (definitions_of c.loop-rest.tables) c.loop-rest.rest.now _ c.in-Err.fault c.in-len1-up.len_at_least refl c.in-Err.ensures.value

pub returns-clause-accepted : goal.returns-clause-accepted
returns-clause-accepted c = sym c.loop-rest.invariant ∙ put_none (definitions_of c.loop-rest.tables) c.loop-rest.rest.now c.in_default.len_below
