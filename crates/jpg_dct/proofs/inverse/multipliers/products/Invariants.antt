use Rattle.std.specs.Prelude.{◌≡◌, ℕ, ◌<◌, ◌*ℤ◌, length}
use Rattle.std.specs.Int.{int_wrap, w16}
use Rattle.jpg_spec_image.specs.Dct.{number_at}
use Rattle.jpg_dct.proofs.inverse.multipliers.products.Given as goal

abbrev pub invariant-loop-n : goal.invariant-loop-n
invariant-loop-n l = (length l.values ≡ 64) × ((k : ℕ) → k < l.n → number_at l.values k ≡ int_wrap w16 (number_at l.given k *ℤ number_at l.factors k))
