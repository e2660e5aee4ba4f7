use Rattle.std.proofs.Common.{sym, ◌∙◌}
use Rattle.jpg_spec.proofs.Segments.MarkersOnce.{segment_once}
use Rattle.jpg_spec.proofs.marker_laws.bytes_begin_with_one_segment.Goals as goal

pub returns : goal.returns
returns c = λ bytes a b. segment_once a.code b.code a.contents b.contents a.front b.front a.rest b.rest a.spelled b.spelled (sym a.cut ∙ b.cut)
