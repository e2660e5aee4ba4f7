use Rattle.std.proofs.Common.{sym, subst}
use Rattle.jpg_targa.specs.TargaGiven.{IsBegunTarga}
use Rattle.jpg_targa.proofs.SamplesRead.{given_begun}
use Rattle.jpg_targa.proofs.read.given.TargaSamples.info.Goals as goal

pub returns-clause-told : goal.returns-clause-told
returns-clause-told c = λ bytes given h. subst (λ i. IsBegunTarga i bytes) (sym c.info.ensures) (given_begun bytes given c.args.self.now.reader.work h.2.gives)
