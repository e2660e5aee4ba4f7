use Rattle.std.proofs.Common.{true, refl, ap, ◌∙◌}
use Rattle.jpg_spec_write.specs.ScanText.{element_bits}
use Rattle.jpg_coefs.specs.Sinks.{at}
use Rattle.jpg_coefs.specs.BitSinks.{interval_bits}
use Rattle.jpg_coefs.proofs.BitSinks.{plain_ends}
use Rattle.jpg_prog_write.specs.Written.{tables_in}
use Rattle.jpg_prog_write.specs.ScanSinks.{dc_units}
use Rattle.jpg_prog_write.proofs.DcUnits.{first_all}
use Rattle.jpg_prog_write.proofs.dc.DcUnitsUnitSinkBitOut.end.Goals as goal

pub returns : goal.returns
returns g c =
    let s = c.args.self.now in
    plain_ends dc_units g.D.Desk.state c.args.marker (at s c.args.out.now c.args.desk.now) (at s c.end_interval.new.out c.end_interval.new.desk) c.end_interval.result (λ last. refl) c.end_interval.ensures
    (λ from due h fits. (h, first_all (element_bits (tables_in s.tables.now) s.head.now) s.head.now due h.1.dc ∙ ap (λ s. interval_bits true (tables_in s.tables.now) s.head.now due) h.0))
