use Rattle.std.proofs.Common.{◌≡◌, ◌∙◌, ap, arith}
use Rattle.std.specs.Prelude.{nat_lt, filter, slice_index}
use Rattle.jpg_spec.specs.Lists.{below}
use Rattle.jpg_huff.specs.Flat.{symbols_in}
use Rattle.jpg_huff.proofs.flat_codes.gather.Goals as goal

pub returns-clause-kept : goal.returns-clause-kept
unfolding symbols_in
returns-clause-kept c =
    let e : c.loop-symbol.symbol ≡ 256 = omega (arith, c.loop-symbol-test.false, c.loop-symbol.auto.symbol-end) in
    c.loop-symbol.invariant.kept ∙ ap (λ n. filter (λ s. nat_lt 0 (slice_index c.args.counts.now s)) (below n)) e
