use Rattle.std.proofs.Common.{refl, drop}
use Rattle.jpg_spec.specs.Bits.{bits_of_bytes}
use Rattle.jpg_seq.specs.Reader.{all_blocks}
use Rattle.jpg_seq.proofs.Readings.{all_inside, all_taken}
use Rattle.test_parts.proofs.Begun.{goes_on}
use Rattle.test_parts.proofs.scans.machine.one_stretch.Goals as goal

pub bytes-got-requires-clause-open : goal.bytes-got-requires-clause-open
bytes-got-requires-clause-open c = (all_blocks, c.args.coefs.now, (refl, refl), c.requires.open)

pub bytes-got-requires-clause-inside : goal.bytes-got-requires-clause-inside
bytes-got-requires-clause-inside c = all_inside c.args.machine.now c.args.coefs.now 18446744073709551615 c.requires.open

pub returns-clause-goes_on : goal.returns-clause-goes_on
returns-clause-goes_on c =
    let got = c.bytes-got in let bits = bits_of_bytes c.args.bytes.now in
    goes_on _ c.args.machine.now got.new.self c.args.coefs.now got.new.coefs _ _ got.result.taken
    (all_taken _ c.args.machine.now got.new.self c.args.coefs.now got.new.coefs bits (drop got.result.bits bits) got.result.taken c.requires.open got.ensures.takes) c.requires.open
