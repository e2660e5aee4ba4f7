use Rattle.jpg_file.proofs.Headers.InForce.{huffmans_taken, quants_taken}
use Rattle.jpg_file.proofs.read.segment_state.SegmentState.take.Goals as goal

pub returns-in-Ok-clause-held : goal.returns-in-Ok-clause-held
returns-in-Ok-clause-held c = λ before holds within. rw c.in-196.is (huffmans_taken _ _ _ _ _ c.in-Ok.ensures.accepted holds)

pub returns-in-Ok-read_dqt-clause-held : goal.returns-in-Ok-read_dqt-clause-held
returns-in-Ok-read_dqt-clause-held c = λ before holds within. rw c.in-219.is (quants_taken _ _ _ _ _ c.in-Ok-read_dqt.ensures.accepted holds)
