use Rattle.std.specs.Prelude.{◌≡◌, ℕ, ◌<◌, length, slice_index}
use Rattle.jpg_dct.specs.Division.{Divides}
use Rattle.jpg_dct.proofs.forward.blocks.Divisors.new.Given as goal

abbrev pub invariant-loop-n : goal.invariant-loop-n
invariant-loop-n l =
    (length l.halves ≡ 64) × (length l.factors ≡ 64) × (length l.scales ≡ 64)
    × ((k : ℕ) → k < l.n → Divides (slice_index l.quants k) (slice_index l.halves k) (slice_index l.factors k) (slice_index l.scales k))
