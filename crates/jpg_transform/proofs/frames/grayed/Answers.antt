use Rattle.std.proofs.Common.{true, [], ◌∷◌, List, ap}
use Rattle.jpg_spec.specs.declared.frame.Component.{Component}
use Rattle.jpg_spec_move.proofs.MovedFrames.{grayed_is}
use Rattle.jpg_transform.proofs.MovedFrame.{same_sides}
use Rattle.jpg_transform.proofs.frames.grayed.Goals as goal

pub made-requires : goal.made-requires
made-requires c =
    let f = c.args.frame.now in
    let first = c.requires c.if-not-gray.false in
    same_sides f.process f.precision _ _ f.width f.height _ _ c.width.ensures c.height.ensures
    (ap (λ (d : Component). (let ds : List Component = record { id = d.id; h = 1; v = 1; quant = d.quant } ∷ [] in ds)) c.component.ensures.value)
    (grayed_is true f c.checked.ensures (λ e. first.across) (λ e. first.down))
