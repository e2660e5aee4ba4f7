use Rattle.std.proofs.Common.{refl, ap, true, false, flat_map}
use Rattle.jpg_spec_write.specs.ScanText.{unit_elements, element_bits}
use Rattle.jpg_coefs.specs.Sinks.{at, no_last}
use Rattle.jpg_coefs.proofs.BitSinks.{plain_ends}
use Rattle.jpg_seq.specs.ScanWritten.{tables_in, seq_units}
use Rattle.jpg_seq.proofs.scan_write.SeqUnitsUnitSinkBitOut.end.Goals as goal

pub returns : goal.returns
returns g c =
    let s = c.args.self.now in
    plain_ends seq_units g.D.Desk.state c.args.marker (at s c.args.out.now c.args.desk.now) (at s c.end_interval.new.out c.end_interval.new.desk) c.end_interval.result (λ last. refl) c.end_interval.ensures
    (λ from due h fits. (h, ap (λ s. flat_map (element_bits (tables_in s.encoders) s.head.now) (unit_elements true false 0 no_last due)) h))
