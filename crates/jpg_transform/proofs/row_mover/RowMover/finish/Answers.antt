use Rattle.jpg_transform.specs.RowsMoved.{scan_of}
use Rattle.jpg_transform.proofs.RowsMoved.{gives_end, keeps_all, none_is_left}
use Rattle.jpg_transform.proofs.row_mover.RowMover.finish.Goals as goal

pub finish-requires-clause-all : goal.finish-requires-clause-all
finish-requires-clause-all c = none_is_left c.requires.3

pub finish-requires-clause-keeps : goal.finish-requires-clause-keeps
finish-requires-clause-keeps c = (scan_of c.requires.0 c.requires.2, keeps_all c.requires.3)

pub returns : goal.returns
returns c = gives_end c.args.self c.finish.result c.finish.ensures
