use Rattle.std.specs.Prelude.{◌≡◌, ◌≤◌, nat_lt, take, filter, slice_index}
use Rattle.jpg_spec.specs.Lists.{below}
use Rattle.jpg_huff.proofs.flat_codes.gather.Given as goal

abbrev pub invariant-loop-symbol : goal.invariant-loop-symbol
invariant-loop-symbol l = record {
  kept : take l.count l.symbols ≡ filter (λ s. nat_lt 0 (slice_index l.counts s)) (below l.symbol);
  most : l.count ≤ l.symbol;
}
