use Rattle.std.proofs.Common.{sym}
use Rattle.jpg_spec.specs.Segments.{head_components}
use Rattle.jpg_base.proofs.UnitCounts.{length_units}
use Rattle.jpg_base.proofs.frame.Frame.scan_units.Goals as goal

pub returns : goal.returns
returns c =
    let f = c.args.self.now in let ids = head_components c.args.head.now in let g = c.scan_mcus-mcus in
    rw (c.from.ensures, c.from-2.ensures, g.ensures.wide, g.ensures.high, c.mcu_units.ensures.value) (sym (length_units f ids))
