use Rattle.std.specs.Prelude.{◌≡◌, ℕ, ◌<◌, ◌*ℤ◌, pos, length, slice_index}
use Rattle.jpg_spec.specs.Lists.{index_of}
use Rattle.jpg_spec.specs.Zigzag.{zigzag}
use Rattle.jpg_spec_image.specs.Dct.{number_at}
use Rattle.jpg_dct.proofs.inverse.multipliers.long_products.Given as goal

abbrev pub invariant-loop-n : goal.invariant-loop-n
invariant-loop-n l =
    (length l.values ≡ 64)
    × ((k : ℕ) → k < l.n → number_at l.values k ≡ number_at l.given (index_of k zigzag) *ℤ pos (slice_index l.quants (index_of k zigzag)))
