use Rattle.jpg_spec_image.proofs.ShownAlike.{shown_alike}
use Rattle.jpg_spec_image.proofs.shown_laws.pictures_are_not_shown_for_their_own_reason.Goals as goal

pub returns : goal.returns
returns c = shown_alike
