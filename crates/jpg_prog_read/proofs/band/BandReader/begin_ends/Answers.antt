use Rattle.std.proofs.Common.{subst, arith, ◌<◌, ◌-◌, drop}
use Rattle.jpg_spec.specs.Elements.{zeros_in}
use Rattle.jpg_prog_read.specs.InWork.{InWork}
use Rattle.jpg_prog_read.proofs.Reading.{zeros_take}
use Rattle.jpg_prog_read.proofs.band.BandReader.begin_ends.Goals as goal

pub returns-clause-small : goal.returns-clause-small
returns-clause-small c =
    let i = c.self.inside in
    subst (λ (s : InWork). zeros_in s.rest < 255) c.self.view_is (omega (arith, zeros_take (i.end - i.at) (drop i.at i.values), c.self.invariant.fits))
