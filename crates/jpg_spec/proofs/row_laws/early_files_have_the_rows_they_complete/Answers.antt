use Rattle.jpg_spec.proofs.EndsEarly.EarlyRows.{rows_complete, rows_none}
use Rattle.jpg_spec.proofs.row_laws.early_files_have_the_rows_they_complete.Goals as goal

pub returns-clause-complete : goal.returns-clause-complete
returns-clause-complete c = rows_complete

pub returns-clause-none : goal.returns-clause-none
returns-clause-none c = rows_none
