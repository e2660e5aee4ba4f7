use Rattle.jpg_spec_image.proofs.OneReason.{one_reason}
use Rattle.jpg_spec_image.proofs.shown_laws.files_are_not_shown_for_one_reason.Goals as goal

pub returns : goal.returns
returns c = one_reason
