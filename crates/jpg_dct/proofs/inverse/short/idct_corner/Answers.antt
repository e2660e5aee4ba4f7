use Rattle.jpg_dct.proofs.ShortBlocks.{Stages, columns_are}
use Rattle.jpg_dct.proofs.Corners.{right_zero}
use Rattle.jpg_dct.proofs.inverse.short.idct_corner.Goals as goal

pub columns-done-requires : goal.columns-done-requires
columns-done-requires c = c.upper_rows-given.ensures.all

pub left_turned-across-requires-clause-small : goal.left_turned-across-requires-clause-small
left_turned-across-requires-clause-small c = c.columns-done.ensures.all

pub left_turned-across-requires-clause-zero : goal.left_turned-across-requires-clause-zero
left_turned-across-requires-clause-zero c = right_zero c.args.values.now c.upper_rows-given.result c.columns-done.result c.requires.corner c.upper_rows-given.ensures.at c.columns-done.ensures.at

pub shown-requires : goal.shown-requires
shown-requires c = c.left_turned-across.ensures.all

pub returns : goal.returns
returns c =
    let stages : Stages c.args.values.now c.upper_rows-given.result c.columns-done.result c.left_turned-across.result = record {
      given_at = c.upper_rows-given.ensures.at;
      done_at = c.columns-done.ensures.at;
      across_at = λ u v lu lv. c.left_turned-across.ensures.at v u lv lu;
    } in
    c.shown.ensures c.args.values.now (columns_are stages)
