use Rattle.std.proofs.Common.{refl}
use Rattle.jpg_prog_read.proofs.DcMachines.{refine_begins}
use Rattle.jpg_prog_read.proofs.dc_refine.DcRefineScanMachine.restart.Goals as goal

pub returns-clause-begun : goal.returns-clause-begun
returns-clause-begun c = λ i ready count. refine_begins c.args.self.now _ i c.args.units ready count c.requires.some refl
