use Rattle.test_parts.proofs.Begun.{goes_on}
use Rattle.test_parts.proofs.scans.machine.one_store.Goals as goal

pub returns-clause-goes_on : goal.returns-clause-goes_on
returns-clause-goes_on c =
    goes_on _ c.args.machine.now c.bits-taken.new.self c.args.coefs.now c.bits-taken.new.coefs c.loop-bit.store c.bits-taken.new.store c.bits-taken.result c.bits-taken.ensures c.requires.open
