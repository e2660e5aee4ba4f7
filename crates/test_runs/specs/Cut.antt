-- A desk in memory whose first read is cut.
use Rattle.jpg_base.specs.Desk.{DeskState}
use Rattle.jpg_base.specs.Memory.{memory_state}
use Rattle.test_runs.specs.declared.cut_desk.CutDesk.{CutDesk}

-- what the desk in memory reports
abbrev pub cut_state : CutDesk → DeskState
cut_state d = memory_state d.desk
