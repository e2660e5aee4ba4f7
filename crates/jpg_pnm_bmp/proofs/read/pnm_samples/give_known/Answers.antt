use Rattle.std.proofs.Common.{[], sym, subst}
use Rattle.std.proofs.lemmas.List.{append-nil}
use Rattle.jpg_pnm_bmp.specs.PnmSamples.{IsNoFault}
use Rattle.jpg_pnm_bmp.proofs.read.pnm_samples.give_known.Goals as goal

pub returns-in-Fault : goal.returns-in-Fault
returns-in-Fault c = (c.in-Fault.is, ([], sym (append-nil c.args.made.now)))

pub returns-in-NoMemory : goal.returns-in-NoMemory
returns-in-NoMemory c = (subst IsNoFault (sym c.in-NoMemory.is) tt, ([], sym (append-nil c.args.made.now)))
