use Rattle.jpg_file.proofs.ByRow.StripRows.{row_is_next}
use Rattle.jpg_file.proofs.laws.rows_are_due_in_order.Goals as goal

pub returns : goal.returns
returns c = λ limits p w now row rows f ids d. row_is_next limits p f ids d.places row rows d.framed w d.machine now d.is d.due d.work d.at
