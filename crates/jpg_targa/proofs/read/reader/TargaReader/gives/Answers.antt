use Rattle.jpg_targa.proofs.SamplesRead.{tells_given, tells_not_given}
use Rattle.jpg_targa.proofs.read.reader.TargaReader.gives.Goals as goal

pub returns-clause-some : goal.returns-clause-some
returns-clause-some c = tells_given c.args.self.now c.begun_info.result c.begun_info.ensures.some

pub returns-clause-none : goal.returns-clause-none
returns-clause-none c = tells_not_given c.args.self.now c.begun_info.result c.begun_info.ensures.none
