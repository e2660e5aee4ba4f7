use Rattle.jpg_spec.proofs.EndsEarly.EarlySoFar.{so_far_early}
use Rattle.jpg_spec.proofs.row_laws.early_pictures_follow_their_scan_header.Goals as goal

pub returns : goal.returns
returns c = λ limits bytes M w. so_far_early limits bytes M w
