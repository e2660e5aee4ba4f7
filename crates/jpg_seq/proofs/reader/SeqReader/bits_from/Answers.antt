use Rattle.std.proofs.Common.{ap, arith, length, length-append, append-nil}
use Rattle.jpg_seq.specs.Source.{bits_in}
use Rattle.jpg_seq.proofs.reader.SeqReader.bits_from.Goals as goal

pub take_all-requires : goal.take_all-requires
take_all-requires c =
    let o = c.requires.open in
    let t = ((rw (c.copy-unit.ensures, c.copy.ensures, append-nil c.args.store.now) at c.read-taken.ensures.takes) o.0 o.1 o.2 o.3).2 in
    omega (arith, c.len.ensures.most, c.len.ensures.value, ap length t.1, length-append t.0 (bits_in c.read-taken.new.source))

pub returns-clause-takes : goal.returns-clause-takes
returns-clause-takes c = rw c.take_all.ensures.store (rw (c.copy-unit.ensures, c.copy.ensures, append-nil c.args.store.now) at c.read-taken.ensures.takes)
