use Rattle.std.proofs.Common.{rules, refl, ◌∙◌}
use Rattle.std.proofs.lemmas.List.{length-set}
use Rattle.jpg_dct.proofs.TableLists.{natural_below, natural_fits, number_more, numbers_done}
use Rattle.jpg_dct.proofs.table_text.table_of.Goals as goal

pub bounds-rows-k : goal.bounds-rows-k
bounds-rows-k c = natural_below c.args.rows.now c.loop-k.k c.requires (search rules)

pub offset_bounds-rows-k : goal.offset_bounds-rows-k
offset_bounds-rows-k c = natural_fits c.loop-k.k (search rules)

pub loop-k-preserved : goal.loop-k-preserved
loop-k-preserved c = (
  length-set c.loop-k.values c.loop-k.k _ ∙ c.loop-k.invariant.0,
  number_more c.args.rows.now c.loop-k.values c.loop-k.k _ c.loop-k.invariant.0 (search rules) c.loop-k.invariant.1 refl,
)

pub returns : goal.returns
returns c = c.of.ensures ∙ numbers_done c.args.rows.now c.loop-k.values c.loop-k.k c.loop-k.invariant.0 (search rules) c.loop-k.invariant.1
