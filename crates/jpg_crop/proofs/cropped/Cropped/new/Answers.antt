use Rattle.std.proofs.Common.{subst}
use Rattle.jpg_spec.specs.FrameHeader.{IsFrame}
use Rattle.jpg_crop.proofs.CroppedViews.{has_places, shows_crop, writes_crop}
use Rattle.jpg_crop.proofs.cropped.Cropped.new.Goals as goal

pub invariant_of-result : goal.invariant_of-result
invariant_of-result g c = record {
  places = has_places (subst IsFrame c.frame.ensures c.checked.ensures) c.requires.1 (record { frame = c.checked-2.ensures; columns_are = c.all_columns.ensures; rows_are = c.all_rows.ensures });
}

pub returns-clause-shows : goal.returns-clause-shows
returns-clause-shows g c =
    shows_crop (subst IsFrame c.frame.ensures c.checked.ensures) (record { frame = c.checked-2.ensures; columns_are = c.all_columns.ensures; rows_are = c.all_rows.ensures })

pub returns-clause-writes : goal.returns-clause-writes
returns-clause-writes g c =
    writes_crop (subst IsFrame c.frame.ensures c.checked.ensures) (record { frame = c.checked-2.ensures; columns_are = c.all_columns.ensures; rows_are = c.all_rows.ensures })
