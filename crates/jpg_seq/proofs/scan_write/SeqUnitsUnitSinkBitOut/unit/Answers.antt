use Rattle.std.proofs.Common.{sym, subst}
use Rattle.std.proofs.lemmas.List.Elements.{All-head}
use Rattle.jpg_spec.specs.Scan.{part_of}
use Rattle.jpg_coefs.specs.Sinks.{at}
use Rattle.jpg_coefs.proofs.BitSinks.{takes_unit, puts_up_to}
use Rattle.jpg_seq.specs.Reader.{HasTables}
use Rattle.jpg_seq.specs.ScanWritten.{seq_units}
use Rattle.jpg_seq.proofs.Written.{next_unit}
use Rattle.jpg_seq.proofs.scan_write.SeqUnitsUnitSinkBitOut.unit.Goals as goal

pub put_unit-requires-clause-tables : goal.put_unit-requires-clause-tables
put_unit-requires-clause-tables g c =
    let d = c.requires.0 in
    let w = c.requires.2 in
    subst (λ s. HasTables s.encoders (part_of s.head.now c.args.unit.component)) (sym w.sink) (All-head (seq_units.fits d.from.sink) (c.args.unit.component, c.args.unit.block.now) d.rest w.rest_fits).0

pub put_unit-requires-clause-short : goal.put_unit-requires-clause-short
put_unit-requires-clause-short g c =
    let d = c.requires.0 in
    (All-head (seq_units.fits d.from.sink) (c.args.unit.component, c.args.unit.block.now) d.rest c.requires.2.rest_fits).1

pub returns : goal.returns
returns g c =
    let state = g.D.Desk.state in
    let s = c.args.self.now in
    takes_unit seq_units state (c.args.unit.component, c.args.unit.block.now) c.args.unit.last (at s c.args.out.now c.args.desk.now) (at s c.put_unit.new.out c.put_unit.new.desk) c.put_unit.result
    (λ from lasts rest same fits e. (
      (λ u k. same),
      puts_up_to (state c.args.desk.now) (state c.put_unit.new.desk) c.args.out.now c.put_unit.new.out _ _ _ c.put_unit.result (next_unit s.encoders s.head.now lasts c.args.unit.component c.args.unit.last c.args.unit.block.now rest e) c.put_unit.ensures,
    ))
