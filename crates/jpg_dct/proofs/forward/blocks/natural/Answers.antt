use Rattle.std.proofs.Common.{rules, refl, ◌∙◌}
use Rattle.std.proofs.lemmas.List.{length-set}
use Rattle.jpg_dct.proofs.Zigzag.{place_step, places_done, place_low}
use Rattle.jpg_dct.proofs.forward.blocks.natural.Goals as goal

pub loop-n-preserved : goal.loop-n-preserved
loop-n-preserved c = (
  length-set c.loop-n.quants c.loop-n.n _ ∙ c.loop-n.invariant.0,
  place_step c.args.table.now c.loop-n.quants c.loop-n.n _ c.loop-n.invariant.0 (search rules) c.loop-n.invariant.1 refl,
)

pub returns : goal.returns
returns c = places_done c.args.table.now c.loop-n.quants c.loop-n.n c.loop-n.invariant.0 (search rules) c.loop-n.invariant.1

pub bounds-table-n : goal.bounds-table-n
bounds-table-n c = place_low c.loop-n.n (search rules)
