use Rattle.std.proofs.Common.{refl}
use Rattle.jpg_desk.proofs.RowsData.{all_moved, can_move, data_short, has_data, none_put}
use Rattle.jpg_desk.proofs.moved_rows.rows_data.Goals as goal

pub new-mover-requires : goal.new-mover-requires
new-mover-requires g c = (let r = c.requires.job in can_move c.as_ref-scan.result.now c.new-encoders.result r.1 r.2 c.checked.ensures c.as_ref-scan.ensures c.new-encoders.ensures)

pub read_rows-requires-clause-none : goal.read_rows-requires-clause-none
read_rows-requires-clause-none g c = none_put c.args.job.now.job c.as_ref-scan.result.now c.new-encoders.result c.new-encoders.ensures c.new-mover.ensures

pub data_of-requires : goal.data_of-requires
data_of-requires g c = (let r = c.requires.job in all_moved (c.in-Ok-read_rows.ensures (r.0).copying r.2.0 r.2.1).1)

pub returns-in-Err-data_of : goal.returns-in-Err-data_of
returns-in-Err-data_of g c = λ keeping start begun.
    (let r = c.in-Ok-read_rows.ensures keeping start begun in (r.0, data_short r.1))

pub returns : goal.returns
returns g c = λ keeping start begun.
    (let r = c.in-Ok-read_rows.ensures keeping start begun in (r.0, has_data r.1 c.in-Ok-data_of.data refl c.as_ref-scan.ensures c.in-Ok-data_of.ensures))
