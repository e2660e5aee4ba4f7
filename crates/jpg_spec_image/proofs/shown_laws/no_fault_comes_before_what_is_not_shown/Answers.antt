use Rattle.std.proofs.Common.{take}
use Rattle.jpg_spec.proofs.Headers.FirstScan.{header_stands}
use Rattle.jpg_spec_image.proofs.shown_laws.no_fault_comes_before_what_is_not_shown.Goals as goal

pub returns : goal.returns
returns c = λ limits gray bytes f w. header_stands limits (take f.at bytes) w.before w.contents w.header w.unbroken
