use Rattle.std.specs.Prelude.{◌++◌}
use Rattle.jpg_spec.specs.Lists.{joined}
use Rattle.jpg_spec.specs.FileMeaning.{scan_after}
use Rattle.jpg_spec_image.specs.RowLaws.{begun_rows as rows_of}
use Rattle.jpg_spec.proofs.McuRows.RowCounts.{length_rows}
use Rattle.jpg_spec.proofs.McuRows.RowsBegin.{begin_rows, told_places}
use Rattle.jpg_spec.proofs.McuRows.RowsHeader.{begun_places}
use Rattle.jpg_spec_image.proofs.RowsHeader.{begun_rows}
use Rattle.jpg_spec_image.proofs.row_laws.units_are_told_row_by_row.Goals as goal

pub returns-clause-rows : goal.returns-clause-rows
returns-clause-rows c = λ limits bytes w places rows t.
    begin_rows limits w.before w.contents (rows_of limits bytes w) rows places ((t.tells).rest ++ joined (t.tells).later) (begun_rows limits bytes w.before w.contents w.blocks w.limited w.begins)
    (begun_places limits bytes w.before w.contents w.begins) (told_places (scan_after limits w.before w.contents) t.done t.coded places t.told t.tells) t.enough

pub returns-clause-long : goal.returns-clause-long
returns-clause-long c = length_rows
