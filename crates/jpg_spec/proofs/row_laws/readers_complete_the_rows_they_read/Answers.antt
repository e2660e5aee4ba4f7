use Rattle.jpg_spec.proofs.McuRows.RowsReader.{reads_complete, reads_tell, whole_completes}
use Rattle.jpg_spec.proofs.row_laws.readers_complete_the_rows_they_read.Goals as goal

pub returns-clause-told : goal.returns-clause-told
returns-clause-told c = reads_tell

pub returns-clause-rows : goal.returns-clause-rows
returns-clause-rows c = reads_complete

pub returns-clause-whole : goal.returns-clause-whole
returns-clause-whole c = whole_completes
