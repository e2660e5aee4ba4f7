-- WHERE RESTART MARKERS ARE in the scans of a file, as they are asked for (T.81, B.2.4.4).
use Rattle.jpg_spec_write.specs.FileText.{Restart as Restarts, off, rows, mcus}
use Rattle.jpg_scans.specs.declared.restart.Restart.{Restart}
use Rattle.jpg_scans.specs.declared.restart.Restart.TheVariants.{Off, Rows, Mcus}

abbrev pub restart_of : Restart → Restarts
restart_of Off = off
restart_of (Rows n) = rows n
restart_of (Mcus n) = mcus n
