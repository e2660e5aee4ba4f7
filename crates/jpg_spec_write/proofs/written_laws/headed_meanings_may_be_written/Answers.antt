use Rattle.jpg_spec_write.proofs.WrittenHeading.{heading}
use Rattle.jpg_spec_write.proofs.written_laws.headed_meanings_may_be_written.Goals as goal

pub returns : goal.returns
returns c = λ limits copying M is. heading limits copying M is
