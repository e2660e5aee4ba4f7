use Rattle.std.proofs.Common.{◌∙◌, ap, refl, arith, replicate}
use Rattle.jpg_spec.specs.Transposed.{transposed}
use Rattle.jpg_base.proofs.Exchanged.{place_low, exchange_step, exchange_all}
use Rattle.jpg_base.proofs.quant.QuantTable.transposed.Goals as goal

pub bounds-self-inside-k : goal.bounds-self-inside-k
bounds-self-inside-k c = place_low c.loop-k.k (omega arith)

pub loop-k-preserved : goal.loop-k-preserved
loop-k-preserved c = exchange_step c.self.inside.values (replicate 64 0) c.loop-k.values c.loop-k.k _ refl c.loop-k-test.true c.loop-k.invariant refl

pub returns : goal.returns
returns c = exchange_all c.self.inside.values (replicate 64 0) c.loop-k.values c.loop-k.k refl (omega arith) c.loop-k.invariant ∙ ap (transposed 0) c.self.view_is
