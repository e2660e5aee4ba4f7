use Rattle.jpg_spec.proofs.McuRows.RowsHeader.{begun_once, rows_begin}
use Rattle.jpg_spec.proofs.row_laws.rows_follow_their_header.Goals as goal

pub returns-clause-begins : goal.returns-clause-begins
returns-clause-begins c = rows_begin

pub returns-clause-once : goal.returns-clause-once
returns-clause-once c = λ limits bytes a b x y v w. begun_once limits bytes a b x y v w
