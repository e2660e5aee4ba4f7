use Rattle.jpg_base.proofs.RowFrame.{row_is_checked}
use Rattle.jpg_base.specs.Frame.{numbers_of}
use Rattle.jpg_base.proofs.frame.Frame.row.Goals as goal

pub invariant_of-result : goal.invariant_of-result
invariant_of-result c =
    let f = numbers_of c.self.inside.process c.self.inside.precision c.self.inside.width c.self.inside.height c.self.inside.components.items in
    rw (c.mcu_lines.ensures, c.kept.ensures, c.as_slice.ensures.value, ← c.self.view_is)
    (row_is_checked f c.self.inside.h_max c.self.inside.v_max c.self.invariant)
