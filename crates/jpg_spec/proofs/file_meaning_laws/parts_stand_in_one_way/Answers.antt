use Rattle.jpg_spec.proofs.Bits.PartsCounted.{stands_all}
use Rattle.jpg_spec.proofs.Bits.PartsOnce.{stands_once}
use Rattle.jpg_spec.proofs.file_meaning_laws.parts_stand_in_one_way.Goals as goal

pub returns-clause-one : goal.returns-clause-one
returns-clause-one c = stands_once

pub returns-clause-all : goal.returns-clause-all
returns-clause-all c = stands_all
