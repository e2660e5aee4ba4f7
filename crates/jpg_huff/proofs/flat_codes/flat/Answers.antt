use Rattle.std.proofs.Common.{arith}
use Rattle.jpg_huff.specs.Flat.{symbols_in}
use Rattle.jpg_huff.proofs.FlatMade.{kept_count, made_flat, never_bad}
use Rattle.jpg_huff.proofs.flat_codes.flat.Goals as goal

pub returns-in-Ok : goal.returns-in-Ok
returns-in-Ok c =
    let all = c.gather-count.new.symbols in
    let symbols = symbols_in c.args.counts.now in
    let n = kept_count all symbols c.gather-count.result c.gather-count.ensures.kept (omega (arith, c.gather-count.ensures.most, c.gather-count.array_long)) in
    made_flat symbols c.flat_counts.result _ c.gather-count.result c.in-Ok.table c.requires n c.flat_counts.ensures c.gather-count.ensures.kept c.in-Ok.ensures

pub returns-in-Err : goal.returns-in-Err
returns-in-Err c =
    let all = c.gather-count.new.symbols in
    let symbols = symbols_in c.args.counts.now in
    let n = kept_count all symbols c.gather-count.result c.gather-count.ensures.kept (omega (arith, c.gather-count.ensures.most, c.gather-count.array_long)) in
    absurd (never_bad symbols c.flat_counts.result _ c.gather-count.result c.in-Err.field-0 c.requires n c.flat_counts.ensures c.gather-count.ensures.kept c.in-Err.ensures)
