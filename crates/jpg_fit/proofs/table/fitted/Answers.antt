use Rattle.std.proofs.Common.{sym, arith}
use Rattle.std.proofs.lemmas.List.{length-take-le}
use Rattle.jpg_fit.proofs.Made.{made_table, never_bad}
use Rattle.jpg_fit.proofs.table.fitted.Goals as goal

pub slice_bounds-new-end : goal.slice_bounds-new-end
slice_bounds-new-end c = sym (length-take-le c.put_symbols-count.result.1 c.put_symbols-count.new.symbols (omega (arith, c.put_symbols-count.ensures.within, c.put_symbols-count.array_long)))

pub unreachable-requires : goal.unreachable-requires
unreachable-requires c = never_bad c.args.counts.now _ _ c.in-Err.field-0 c.put_symbols-count.ensures.parts c.in-Err.ensures

pub returns : goal.returns
returns c = made_table c.args.counts.now _ _ c.in-Ok.table c.put_symbols-count.ensures.parts c.in-Ok.ensures
