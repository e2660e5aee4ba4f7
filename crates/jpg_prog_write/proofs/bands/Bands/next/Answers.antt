use Rattle.std.proofs.Common.{arith}
use Rattle.jpg_prog_write.proofs.ElementsDue.{gives_ends, leaves_all}
use Rattle.jpg_prog_write.proofs.bands.Bands.next.Goals as goal

pub returns-then-self-gt0-clause-some : goal.returns-then-self-gt0-clause-some
returns-then-self-gt0-clause-some c = gives_ends c.args.self.now c.end_bands.new.self c.end_bands.result c.requires (omega (arith, c.if-self.true)) (omega (arith, c.if-self-gt0.true)) c.end_bands.ensures.item c.end_bands.ensures.new

pub returns-else-self-2-clause-none : goal.returns-else-self-2-clause-none
returns-else-self-2-clause-none c = leaves_all c.args.self.now c.requires (omega (arith, c.if-self.false)) (omega (arith, c.if-self-2.false))
