use Rattle.std.proofs.Common.{ap}
use Rattle.jpg_base.specs.declared.stop.Stop.{Stop}
use Rattle.jpg_base.specs.declared.stop.Stop.TheVariants as stop
use Rattle.jpg_spec.specs.declared.fault.Fault.TheVariants.{ImageShort}
use Rattle.jpg_targa.proofs.SamplesRead.{given_short}
use Rattle.jpg_targa.proofs.read.given.TargaSamples.end.Goals as goal

pub returns-clause-answered : goal.returns-clause-answered
returns-clause-answered c = λ bytes given h.
    (ap (λ n. (let s : Stop = stop.Fault (record { fault = ImageShort; at = n }) in s)) h.2.taken_is, given_short bytes given c.args.self.now.reader.work h.2.gives)
