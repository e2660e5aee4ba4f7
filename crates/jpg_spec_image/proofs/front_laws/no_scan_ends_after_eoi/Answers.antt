use Rattle.jpg_spec_image.proofs.Fronts.{none_after}
use Rattle.jpg_spec_image.proofs.front_laws.no_scan_ends_after_eoi.Goals as goal

pub returns : goal.returns
returns c = λ limits scans byte bytes more M w. none_after limits bytes byte more M w.0 w.1 scans
