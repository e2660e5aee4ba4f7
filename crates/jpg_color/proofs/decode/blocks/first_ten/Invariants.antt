use Rattle.std.specs.Prelude.{◌≡◌, ◌<◌, ◌≤◌, ℕ, pos, take, length}
use Rattle.jpg_spec_image.specs.Dct.{number_at}
use Rattle.jpg_color.proofs.decode.blocks.first_ten.Given as goal

abbrev pub invariant-loop-k : goal.invariant-loop-k
invariant-loop-k l = (length l.values ≡ 64) × (take l.k l.values ≡ take l.k l.block) × ((n : ℕ) → l.k ≤ n → n < 64 → number_at l.values n ≡ pos 0)
