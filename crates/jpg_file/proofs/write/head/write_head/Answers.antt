use Rattle.std.proofs.Common.{ap, ◌∙◌}
use Rattle.std.proofs.lemmas.Result.{err_from_is_err_and}
use Rattle.jpg_spec_write.specs.FileText.{segment_text}
use Rattle.jpg_huff.proofs.Together.{sends_then, sends_fault, sends_same}
use Rattle.jpg_file.proofs.write.head.write_head.Goals as goal

pub returns-in_err-write_interval : goal.returns-in_err-write_interval
returns-in_err-write_interval g c =
    let back = err_from_is_err_and c.from_residual.result c.from_residual.ensures.1 in
    rw (back.1, back.2) (sends_fault _ _ _ _ _ _ _ c.in_err-write_interval.ensures)

pub returns : goal.returns
returns g c =
    sends_then _ _ _ _ _ _ _ _ _ c.in_ok-write_interval.ensures (sends_same _ _ _ _ _ _ _
    (ap (segment_text 0xda) (c.as_slice.ensures.value ∙ c.contents_of.ensures)) c.write_segment.ensures)
