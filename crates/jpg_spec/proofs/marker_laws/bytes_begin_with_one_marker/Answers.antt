use Rattle.std.proofs.Common.{sym, ◌∙◌}
use Rattle.jpg_spec.proofs.Segments.MarkersOnce.{marker_once}
use Rattle.jpg_spec.proofs.marker_laws.bytes_begin_with_one_marker.Goals as goal

pub returns : goal.returns
returns c = λ bytes a b. marker_once a.code b.code a.marker b.marker a.rest b.rest a.spelled b.spelled (sym a.cut ∙ b.cut)
