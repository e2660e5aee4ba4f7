use Rattle.std.proofs.Common.{◌≡◌, sym, ap, ◌∙◌, subst}
use Rattle.jpg_spec.specs.Segments.{ScanHead, head_components}
use Rattle.jpg_base.specs.Cursor.{AreIn}
use Rattle.jpg_file.specs.Write.WriteScan.{head_for, scan_head}
use Rattle.jpg_file.proofs.Writing.ScansDue.{in_file}
use Rattle.jpg_file.proofs.write.scan.due_of.Goals as goal

pub interval_of-interval-requires : goal.interval_of-interval-requires
interval_of-interval-requires c =
    let plan = c.args.planned.plan.now in
    let e = c.args.planned.entry.now in
    let head : c.head_of-head.result ≡ head_for plan e = c.head_of-head.ensures ∙ ap (λ b. scan_head b plan.out.colour e) c.is_progressive-is_prog.ensures in
    subst (λ (h : ScanHead). AreIn plan.out.frame (head_components h)) (sym head) (in_file plan c.requires.0 c.requires.1 e c.requires.2)
