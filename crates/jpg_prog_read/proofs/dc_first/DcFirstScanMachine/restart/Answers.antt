use Rattle.std.proofs.Common.{ap, pos, ◌∷◌, []}
use Rattle.jpg_prog_read.specs.DcWork.{DcWork}
use Rattle.jpg_prog_read.specs.declared.dc_first.DcFirst.{DcFirst}
use Rattle.jpg_prog_read.proofs.DcMachines.{first_begins}
use Rattle.jpg_prog_read.proofs.dc_first.DcFirstScanMachine.restart.Goals as goal

pub returns-clause-begun : goal.returns-clause-begun
returns-clause-begun c = λ i ready count.
    first_begins c.args.self.now _ i c.args.units ready count c.requires.some (ap (λ (w : DcWork). (let r : DcFirst = record (c.args.self.now) { unit = w; predictions = pos 0 ∷ pos 0 ∷ pos 0 ∷ pos 0 ∷ []; left = c.args.units } in r)) c.new-self.ensures.fresh)
