use Rattle.std.proofs.Common.{◌≡◌, drop, sym, ap, ◌∙◌, arith}
use Rattle.jpg_markers.specs.Kept.{kept_pair, segments_of}
use Rattle.jpg_markers.proofs.KeptBytes.{one_less, found_at}
use Rattle.jpg_markers.proofs.kept.KeptList.get.Goals as goal

pub loop-preserved : goal.loop-preserved
loop-preserved c = (
  c.first.ensures.rest,
  one_less c.args.self.now c.loop.counter (kept_pair c.first.result.0) (segments_of c.first.result.1.now) (sym c.loop.invariant.1 ∙ c.first.ensures.first),
)

pub returns-clause-value : goal.returns-clause-value
returns-clause-value c =
    let at : c.loop.counter ≡ c.args.i = omega (arith, c.loop-test.false, c.loop.auto.counter-end) in
    found_at c.args.self.now c.args.i (kept_pair c.first-2.result.0) (segments_of c.first-2.result.1.now) (ap (λ n. drop n c.args.self.now) (sym at) ∙ sym c.loop.invariant.1 ∙ c.first-2.ensures.first)
