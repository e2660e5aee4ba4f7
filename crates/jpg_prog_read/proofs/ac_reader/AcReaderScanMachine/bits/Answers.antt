use Rattle.std.proofs.Common.{refl, subst, arith, inr, [], List, Bool}
use Rattle.std.proofs.lemmas.List.{nil_from_length as nil_of}
use Rattle.jpg_coefs.specs.Machine.{TakesBits}
use Rattle.jpg_prog_read.specs.RepresentsAcScan.{progressive_ac}
use Rattle.jpg_prog_read.proofs.AcBits.{settled}
use Rattle.jpg_prog_read.proofs.ac_reader.AcReaderScanMachine.bits.Goals as goal

pub read-taken-requires-clause-open : goal.read-taken-requires-clause-open
read-taken-requires-clause-open c = (c.requires.open.0, c.requires.open.1, inr (c.settle.ensures.settles c.requires.open.0 c.requires.open.1 c.requires.open.2))

pub returns : goal.returns
returns c =
    let taken =
    subst (λ (s : List Bool). TakesBits progressive_ac c.args.most c.settle.new.self c.args.coefs.now s c.read-taken.result c.read-taken.new.self c.read-taken.new.coefs c.read-taken.new.store) c.copy-here.ensures c.read-taken.ensures in
    settled c.args.most c.args.self.now c.settle.new.self c.args.coefs.now c.settle.ensures.settles c.settle.ensures.count
    c.args.store.now c.read-taken.result c.read-taken.new.self c.read-taken.new.coefs c.read-taken.new.store (omega (arith, c.if-len-eq0.false, c.len.ensures.value)) taken

pub returns-then-len-eq0 : goal.returns-then-len-eq0
returns-then-len-eq0 c = ([], refl, ((refl, refl), omega (arith, c.requires.some), nil_of c.args.store.now (omega (arith, c.if-len-eq0.true, c.len.ensures.value))))
