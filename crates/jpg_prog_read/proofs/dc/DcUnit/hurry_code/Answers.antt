use Rattle.std.proofs.Common.{ap, arith}
use Rattle.jpg_prog_read.specs.DcWork.{DcWork}
use Rattle.jpg_prog_read.proofs.BandBits.{quiet_of}
use Rattle.jpg_prog_read.proofs.DcLookedUp.{code_hurried}
use Rattle.jpg_prog_read.proofs.dc.DcUnit.hurry_code.Goals as goal

pub returns-then-symbol-scan : goal.returns-then-symbol-scan
returns-then-symbol-scan c =
    code_hurried c.args.scan.now c.args.codes.now c.args.self.now c.begin.new.self c.args.store.now c.in-Symbol.length c.in-Symbol.symbol c.skip_few.new.self
    (omega (arith, c.size.ensures.value, ap (λ (u : DcWork). u.size) c.self.view_is, c.if-size-gt0.false)) (quiet_of c.self.inside.begun c.self.inside.walk c.args.self.now.walked c.self.invariant c.if-self.false (ap (λ (u : DcWork). u.walked) c.self.view_is))
    c.in-Symbol.ensures (omega (arith, c.if-symbol-scan.true)) (omega (arith, c.if-symbol-scan.true)) c.begin.ensures c.skip_few.ensures
