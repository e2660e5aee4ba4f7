use Rattle.std.proofs.Common.{◌<◌, sym, subst, refl}
use Rattle.jpg_transform.specs.RowsMoved.{moved_scan}
use Rattle.jpg_transform.proofs.RowsMoved.{begins_moved, count_in}
use Rattle.jpg_transform.proofs.row_mover.RowMover.new.Goals as goal

pub all_rows-rows-requires-clause-there : goal.all_rows-rows-requires-clause-there
all_rows-rows-requires-clause-there c = λ i low. count_in i c.requires (subst (λ n. i < n) c.count.ensures.value low)

pub returns : goal.returns
returns c = λ blocks.
    begins_moved (moved_scan c.args.source.now c.args.job.now c.args.scan.head.now c.args.encoders c.args.scan.interval) blocks _ c.requires refl c.all_columns-columns.ensures
    (λ i low. c.all_rows-rows.ensures i (subst (λ n. i < n) (sym c.count.ensures.value) low)) c.units_moved-units.ensures c.new-scan.ensures.left c.new-scan.ensures.keeps
