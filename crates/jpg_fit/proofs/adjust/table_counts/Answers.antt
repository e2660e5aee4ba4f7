use Rattle.std.proofs.Common.{◌≡◌, ◌<◌, length, sym, ap, ◌∙◌, subst, rules}
use Rattle.std.specs.Prelude.{All, reverse}
use Rattle.jpg_spec_fit.specs.Fitted.{limited}
use Rattle.jpg_fit.proofs.Splits.{few_counted, counts_are}
use Rattle.jpg_fit.proofs.adjust.table_counts.Goals as goal

pub limit-requires : goal.limit-requires
limit-requires c =
    let l : length c.args.sizes.now ≡ 257 = search rules in
    few_counted c.args.sizes.now _ l c.sizes_counted-counts.ensures

pub turned-requires : goal.turned-requires
turned-requires c =
    let e = counts_are c.args.sizes.now c.limit.new.counts c.short_sizes-short.result c.one_less.new.counts (c.limit.ensures ∙ ap (limited 256) c.sizes_counted-counts.ensures) c.short_sizes-short.ensures c.one_less.ensures in
    subst (All (λ n. n < 256)) (sym e) c.requires

pub returns : goal.returns
returns c =
    let e = counts_are c.args.sizes.now c.limit.new.counts c.short_sizes-short.result c.one_less.new.counts (c.limit.ensures ∙ ap (limited 256) c.sizes_counted-counts.ensures) c.short_sizes-short.ensures c.one_less.ensures in
    c.turned.ensures ∙ ap reverse e
