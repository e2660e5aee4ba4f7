use Rattle.std.proofs.Common.{refl, pos}
use Rattle.std.specs.Prelude.{slice_index_or}
use Rattle.jpg_spec_write.specs.ScanText.{element_bits}
use Rattle.jpg_coefs.specs.Sinks.{at}
use Rattle.jpg_coefs.proofs.BitSinks.{takes_unit, puts_up_to}
use Rattle.jpg_prog_write.specs.Written.{tables_in}
use Rattle.jpg_prog_write.specs.ScanSinks.{dc_units}
use Rattle.jpg_prog_write.proofs.DcUnits.{next_unit}
use Rattle.jpg_prog_write.proofs.dc.DcUnitsUnitSinkBitOut.unit.Goals as goal

pub put_unit-requires-clause-bits : goal.put_unit-requires-clause-bits
put_unit-requires-clause-bits g c = c.requires.2.sink.1.bits

pub returns : goal.returns
returns g c =
    let state = g.D.Desk.state in
    let s = c.args.self.now in
    let u = c.args.unit in
    takes_unit dc_units state (u.component, u.block.now) u.last (at s c.args.out.now c.args.desk.now) (at s c.put_unit.new.out c.put_unit.new.desk) c.put_unit.result
    (λ from lasts rest same fits e. (
      (λ v k. same),
      puts_up_to (state c.args.desk.now) (state c.put_unit.new.desk) c.args.out.now c.put_unit.new.out _ _ _ c.put_unit.result
          (next_unit (element_bits (tables_in s.tables.now) s.head.now) s.head.now lasts u.component u.last (slice_index_or u.block.now 0 (pos 0)) u.block.now rest e refl) c.put_unit.ensures,
    ))
