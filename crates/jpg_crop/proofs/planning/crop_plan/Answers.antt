use Rattle.std.proofs.Common.{◌∙◌, false, refl, sym}
use Rattle.jpg_crop.proofs.CropPlanned.{fault_is, planned_for}
use Rattle.jpg_crop.proofs.planning.crop_plan.Goals as goal

pub returns-then-not-is_inside-clause-plan : goal.returns-then-not-is_inside-clause-plan
returns-then-not-is_inside-clause-plan c = λ choice h. fault_is c.args.picture.now choice c.args.job.now c.args.area.now false h (sym c.is_inside.ensures ∙ c.if-not-is_inside.true)

pub returns-clause-plan : goal.returns-clause-plan
returns-clause-plan c = λ choice h.
    (let inside = sym c.is_inside.ensures ∙ c.if-not-is_inside.false in
    record {
      planned = planned_for c.args.picture.now choice c.args.job.now c.args.area.now _ h inside
          (record {
            frame = c.cropped_frame.ensures;
            quants = c.copied.ensures ∙ c.as_slice.ensures.value;
            colour = refl;
            jfif = refl;
            copying = refl;
            script = c.copy.ensures;
            huffman = refl;
            restart = refl;
          });
      cut = record { inside = inside; frame = c.cropped_frame.ensures; across = c.corner_across.ensures; down = c.corner_down.ensures };
    })
