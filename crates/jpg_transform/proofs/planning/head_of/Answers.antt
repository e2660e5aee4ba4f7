use Rattle.std.proofs.Common.{ap, ◌∙◌}
use Rattle.jpg_spec.specs.FileMeaning.{no_blocks}
use Rattle.jpg_spec.specs.Geometry.{Frame}
use Rattle.jpg_spec.specs.FrameHeader.{is_precision}
use Rattle.jpg_spec_write.proofs.WrittenHeading.{progressive_precision}
use Rattle.jpg_file.specs.Read.PictureKept.{bare_picture}
use Rattle.jpg_transform.specs.Planned.{choice_view, process_in, scans_view}
use Rattle.jpg_transform.proofs.MovedHead.{frame_precision_stays, process_allows}
use Rattle.jpg_transform.proofs.PlannedHead.{head_greatest}
use Rattle.jpg_transform.proofs.planning.head_of.Goals as goal

pub moved_frame-requires : goal.moved_frame-requires
moved_frame-requires c = head_greatest c.args.choice.now.gray c.args.head.now c.requires.admitted

pub with_process-requires : goal.with_process-requires
with_process-requires c =
    let h = c.args.head.now in
    let s = scans_view c.args.choice.now.scans in
    let tables = c.as_slice-2.result.now in
    let process = c.process_in-process.result in
    ap (λ (g : Frame). is_precision process g.precision) c.moved_frame.ensures ∙ ap (is_precision process) (frame_precision_stays (choice_view c.args.choice.now) h.frame)
    ∙ ap (λ q. is_precision q h.frame.precision) c.process_in-process.ensures ∙ ap (λ n. is_precision (process_in s n tables) h.frame.precision) c.precision.ensures
    ∙ process_allows s h.frame.precision tables (progressive_precision (bare_picture h.frame h.quants.items no_blocks) c.requires.head.frame.precision)
