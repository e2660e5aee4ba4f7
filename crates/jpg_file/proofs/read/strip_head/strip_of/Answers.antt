use Rattle.std.proofs.Common.{Some, ap, refl, sym, ◌∙◌}
use Rattle.jpg_spec.specs.Geometry.{Frame}
use Rattle.jpg_file.proofs.ByRow.StripBegin.{strip_tells}
use Rattle.jpg_file.proofs.read.strip_head.strip_of.Goals as goal

pub returns : goal.returns
returns c = strip_tells c.args.file.now _
    (record { frame = c.in-Some.is ∙ ap (λ (g : Frame). Some g) (sym c.copy-frame.ensures); is_frame = c.checked.ensures; colour = c.colours-colour.ensures; count = c.tables_of-quants.ensures.count; tables = c.tables_of-quants.ensures.tables; jfif = refl })
