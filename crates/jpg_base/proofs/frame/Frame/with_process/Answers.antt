use Rattle.std.proofs.Common.{◌≡◌, true, sym, subst}
use Rattle.jpg_spec.specs.Geometry.{Frame}
use Rattle.jpg_spec.specs.FrameHeader.{is_precision}
use Rattle.jpg_base.specs.Frame.{numbers_of}
use Rattle.jpg_base.proofs.Checked.{with_process}
use Rattle.jpg_base.proofs.frame.Frame.with_process.Goals as goal

pub invariant_of-result : goal.invariant_of-result
invariant_of-result c =
    let f = numbers_of c.self.inside.process c.self.inside.precision c.self.inside.width c.self.inside.height c.self.inside.components.items in
    rw (c.kept.ensures, c.as_slice.ensures.value)
    (with_process c.args.process f c.self.inside.h_max c.self.inside.v_max (subst (λ (g : Frame). is_precision c.args.process g.precision ≡ true) (sym c.self.view_is) c.requires) c.self.invariant)
