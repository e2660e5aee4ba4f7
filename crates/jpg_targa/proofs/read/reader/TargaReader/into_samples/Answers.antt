use Rattle.std.proofs.Common.{[]}
use Rattle.std.proofs.Math.Logic.{∥∥₁_map}
use Rattle.jpg_targa.proofs.SamplesRead.{none_given_yet}
use Rattle.jpg_targa.proofs.read.reader.TargaReader.into_samples.Goals as goal

pub new-requires : goal.new-requires
new-requires c =
    let r = c.args.self in
    ∥∥₁_map (r.going c.requires.stop c.requires.done) (λ b. (b.0, [], none_given_yet b.0 r.reader.work c.requires.begun b.1))

pub returns-clause-fed : goal.returns-clause-fed
returns-clause-fed c = λ bytes h. c.new.ensures.fed bytes [] (none_given_yet bytes c.args.self.reader.work c.requires.begun h.3.stands) h.3.taken_is
