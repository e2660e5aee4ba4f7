use Rattle.std.proofs.Common.{◌≡◌, ℕ, drop, sym, subst, ◌∙◌, arith}
use Rattle.jpg_markers.specs.Kept.{kept_pair, segments_of}
use Rattle.jpg_markers.proofs.KeptBytes.{one_less}
use Rattle.jpg_markers.proofs.KeptByte.{start_is}
use Rattle.jpg_markers.proofs.kept.KeptList.start_of.Goals as goal

pub loop-preserved : goal.loop-preserved
loop-preserved c = (
  c.first.ensures.rest,
  one_less c.args.self.now c.loop.counter (kept_pair c.first.result.0) (segments_of c.first.result.1.now) (sym c.loop.invariant.1 ∙ c.first.ensures.first),
)

pub overflow_sub-result : goal.overflow_sub-result
overflow_sub-result c =
    let long = start_is c.self.inside.bytes.items c.loop.rest.now c.args.self.now c.loop.counter c.self.invariant.0 c.self.view_is c.loop.invariant.0 c.loop.invariant.1 in
    omega (arith, long, c.len.ensures)

pub returns : goal.returns
returns c =
    let at : c.loop.counter ≡ c.args.i = omega (arith, c.loop-test.false, c.loop.auto.counter-end) in
    let long = start_is c.self.inside.bytes.items c.loop.rest.now c.args.self.now c.args.i c.self.invariant.0 c.self.view_is c.loop.invariant.0 (subst (λ (n : ℕ). segments_of c.loop.rest.now ≡ drop n c.args.self.now) at c.loop.invariant.1) in
    omega (arith, long, c.len.ensures)
