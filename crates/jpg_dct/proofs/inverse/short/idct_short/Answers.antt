use Rattle.std.proofs.Common.{subst, sym, nat_abs, ◌≤◌}
use Rattle.jpg_dct.proofs.ShortBlocks.{Stages, columns_are}
use Rattle.jpg_dct.proofs.inverse.short.idct_short.Goals as goal

pub columns-done-requires : goal.columns-done-requires
columns-done-requires c = c.rows-given.ensures.all

pub turned-across-requires : goal.turned-across-requires
turned-across-requires c = c.columns-done.ensures.all

pub shown-requires : goal.shown-requires
shown-requires c = λ v lv. record {
  long = c.turned-across.ensures.long v lv;
  small = λ u lu. subst (λ x. nat_abs x ≤ 32767) (sym (c.turned-across.ensures.at u v lu lv)) ((c.columns-done.ensures.all u lu).small v lv);
}

pub returns : goal.returns
returns c =
    let stages : Stages c.args.values.now c.rows-given.result c.columns-done.result c.turned-across.result = record {
      given_at = c.rows-given.ensures.at;
      done_at = c.columns-done.ensures.at;
      across_at = c.turned-across.ensures.at;
    } in
    c.shown.ensures c.args.values.now (columns_are stages)
