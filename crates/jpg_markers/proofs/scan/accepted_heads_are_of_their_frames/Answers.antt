use Rattle.jpg_spec.proofs.Headers.AcceptedHeads.{accepted}
use Rattle.jpg_markers.proofs.scan.accepted_heads_are_of_their_frames.Goals as goal

pub returns : goal.returns
returns c = λ f contents head told. accepted f contents head told
