use Rattle.std.proofs.Common.{refl, ap, ◌∙◌}
use Rattle.jpg_spec.specs.Segments.{ScanHead}
use Rattle.jpg_prog_read.specs.DcNew.{dc_scan_of}
use Rattle.jpg_prog_read.proofs.DcNew.{refine_ready}
use Rattle.jpg_prog_read.proofs.dc_refine.DcRefine.new.Goals as goal

pub returns : goal.returns
returns c = λ i o.
    refine_ready c.args.frame.now c.args.head.now _ c.checked.ensures c.requires (c.dc_scan.ensures ∙ ap (λ (h : ScanHead). dc_scan_of c.args.frame.now h.al) c.head.view_is) c.new.ensures refl i o.tables o.of_scan o.kind
