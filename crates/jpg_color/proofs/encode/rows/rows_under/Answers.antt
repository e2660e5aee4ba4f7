use Rattle.jpg_color.proofs.PlaneWindows.{under_fits, under_has, under_long}
use Rattle.jpg_color.proofs.encode.rows.rows_under.Goals as goal

pub part-requires : goal.part-requires
part-requires c = under_fits c.requires.window c.requires.there

pub returns-clause-long : goal.returns-clause-long
returns-clause-long c = under_long c.requires.window c.requires.there c.part.ensures

pub returns-clause-rows : goal.returns-clause-rows
returns-clause-rows c = under_has c.requires.window c.requires.there c.part.ensures
