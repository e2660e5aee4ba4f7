use Rattle.jpg_spec_image.specs.RowLaws.{begun_rows as rows_of}
use Rattle.jpg_spec.proofs.McuRows.RowsHeader.{all_complete, rows_few}
use Rattle.jpg_spec_image.proofs.RowsHeader.{begun_covered, begun_rows}
use Rattle.jpg_spec_image.proofs.row_laws.scans_of_all_have_the_rows_of_their_picture.Goals as goal

pub returns-clause-places : goal.returns-clause-places
returns-clause-places c = λ limits bytes w. begun_rows limits bytes w.before w.contents w.blocks w.limited w.begins

pub returns-clause-few : goal.returns-clause-few
returns-clause-few c = λ limits bytes rows x w told. rows_few limits bytes rows (rows_of limits bytes w) x w.before w.contents w.begins (begun_rows limits bytes w.before w.contents w.blocks w.limited w.begins) told

pub returns-clause-all : goal.returns-clause-all
returns-clause-all c = λ limits bytes x w told. all_complete limits bytes (rows_of limits bytes w) x w.before w.contents w.begins (begun_rows limits bytes w.before w.contents w.blocks w.limited w.begins) told

pub returns-clause-covered : goal.returns-clause-covered
returns-clause-covered c = λ limits bytes gray smooth w none. begun_covered limits bytes w.before w.contents w.blocks gray smooth w.limited w.begins none
