use Rattle.std.proofs.Common.{◌∙◌}
use Rattle.jpg_spec_move.specs.declared.transform.Transform.TheVariants.{Transpose}
use Rattle.jpg_spec_move.proofs.MovedFrames.{transformed_is}
use Rattle.jpg_transform.proofs.MovedFrame.{same_sides}
use Rattle.jpg_transform.proofs.frames.transformed.Goals as goal

pub made-requires : goal.made-requires
made-requires c =
    let f = c.args.frame.now in
    same_sides f.process f.precision _ _ f.height f.width _ _ c.height.ensures c.width.ensures (c.as_slice.ensures.value ∙ c.exchanged.ensures) (transformed_is Transpose f c.checked.ensures)
