use Rattle.std.proofs.Common.{ap}
use Rattle.jpg_base.specs.declared.stop.Stop.{Stop}
use Rattle.jpg_base.specs.declared.stop.Stop.TheVariants as stop
use Rattle.jpg_spec.specs.declared.fault.Fault.TheVariants.{ImageShort}
use Rattle.jpg_targa.proofs.PiecesRead.{read_short}
use Rattle.jpg_targa.proofs.read.reader.TargaReader.end.Goals as goal

pub returns-clause-answered : goal.returns-clause-answered
returns-clause-answered c = λ bytes h.
    (ap (λ n. (let s : Stop = stop.Fault (record { fault = ImageShort; at = n }) in s)) h.3.taken_is, read_short bytes c.args.self.now.reader.taken c.args.self.now.reader.work h.3)
