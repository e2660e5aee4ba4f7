use Rattle.jpg_spec.proofs.Bits.PartStands.{part_not_held, part_shows_none}
use Rattle.jpg_spec.proofs.file_meaning_laws.parts_leave_units_due.Goals as goal

pub returns-clause-held : goal.returns-clause-held
returns-clause-held c = λ coding units bits sound w. part_not_held coding units w.0 w.1 bits sound w.2

pub returns-clause-shown : goal.returns-clause-shown
returns-clause-shown c = λ coding units bits sound w. part_shows_none coding units w.0 w.1 bits sound w.2
