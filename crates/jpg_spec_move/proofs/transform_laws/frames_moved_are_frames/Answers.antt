use Rattle.jpg_spec_move.proofs.CroppedFrames.{moved_is}
use Rattle.jpg_spec_move.proofs.transform_laws.frames_moved_are_frames.Goals as goal

pub returns : goal.returns
returns c = λ choice f is. moved_is choice f is.frame (λ gray. (is.gray gray).across) (λ gray. (is.gray gray).down) is.inside
