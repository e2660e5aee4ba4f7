use Rattle.std.proofs.Common.{take, refl, sym, ◌∙◌}
use Rattle.jpg_fit.proofs.Made.{parts, no_parts, small_counts}
use Rattle.jpg_fit.proofs.table.put_symbols.Goals as goal

pub returns-then-not-is_any_sent-clause-parts : goal.returns-then-not-is_any_sent-clause-parts
returns-then-not-is_any_sent-clause-parts c = no_parts c.args.counts.now _ c.told-counts (sym c.is_any_sent.ensures ∙ c.if-not-is_any_sent.true) refl

pub table_counts-bits-requires : goal.table_counts-bits-requires
table_counts-bits-requires c = small_counts c.args.counts.now c.code_sizes-sizes.result c.told-counts c.code_sizes-sizes.ensures

pub returns-clause-parts : goal.returns-clause-parts
returns-clause-parts c =
    parts c.args.counts.now c.code_sizes-sizes.result c.table_counts-bits.result (take c.sort-count.result c.sort-count.new.symbols) c.told-counts c.code_sizes-sizes.ensures c.table_counts-bits.ensures c.sort-count.ensures.kept
