-- Division by eight quantisers as two multiplications, of each of which the high half is taken.
use Rattle.std.specs.Prelude.{◌≡◌, ℕ, ◌+◌, ◌*◌, ◌/◌, ◌<◌, ◌≤◌, List, length, slice_index, ℤ, pos, negsuc, neg_ℤ}
use Rattle.jpg_spec_image.specs.ForwardDct.{multiples}

-- a magnitude with the sign of a number
abbrev pub with_sign : ℤ → ℕ → ℤ
with_sign (pos n) size = pos size
with_sign (negsuc n) size = neg_ℤ (pos size)

abbrev pub high_part : ℕ → ℕ → ℕ
high_part a b = a * b / 65536

abbrev pub divided : ℕ → ℕ → ℕ → ℕ → ℕ
divided size half factor scale = high_part (high_part (size + half) factor) scale

-- numbers that divide all magnitudes that occur as a quantiser does
pub record Divides (q half factor scale : ℕ) : Type 0 where
  pub small : half ≤ 8196
  pub byte_pair : factor < 65536
  pub few : scale ≤ 16384
  pub all : (size : ℕ) → size ≤ 8192 → divided size half factor scale ≡ multiples size q

-- a power of two that is close below d
pub record IsNear (d v : ℕ) : Type 0 where
  pub some : 4 ≤ v
  pub below : v < d
  pub few : v ≤ 8192
  pub near : d ≤ 3 * v
  pub whole : v * (65536 / v) ≡ 65536

-- 64 of them
pub record AreDivisors (quants halves factors scales : List ℕ) : Type 0 where
  pub long : length quants ≡ 64
  pub at : (n : ℕ) → n < 64 → Divides (slice_index quants n) (slice_index halves n) (slice_index factors n) (slice_index scales n)

pub record AreFewer (halves scales : List ℕ) : Type 0 where
  pub half : (n : ℕ) → n < 64 → slice_index halves n ≤ 8196
  pub scale : (n : ℕ) → n < 64 → slice_index scales n ≤ 16384
