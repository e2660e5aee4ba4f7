-- Quantisers as factors of 16 bits, with the greatest coefficients whose products are at most 1090.
use Rattle.std.specs.Prelude.{◌≡◌, ℕ, ◌*◌, ◌<◌, ◌≤◌, List, map, length, slice_index, ℤ, pos, ◌*ℤ◌, nat_abs}
use Rattle.jpg_spec.specs.Lists.{below}
use Rattle.jpg_spec_image.specs.Dct.{number_at}

pub record Multiplies (q : ℕ) (factor : ℤ) (limit : ℕ) : Type 0 where
  pub few : limit * q ≤ 1090
  pub is : 1 ≤ limit → factor ≡ pos q
  pub most : (x : ℕ) → x ≤ 1024 → x * q ≤ 1090 → x ≤ limit

-- 64 of them
pub record AreMultipliers (quants : List ℕ) (factors : List ℤ) (limits : List ℕ) : Type 0 where
  pub long : length quants ≡ 64
  pub at : (n : ℕ) → n < 64 → Multiplies (slice_index quants n) (number_at factors n) (slice_index limits n)

abbrev pub AreLimited : List ℤ → List ℕ → Type 0
AreLimited given limits = (n : ℕ) → n < 64 → nat_abs (number_at given n) ≤ slice_index limits n

-- each coefficient times its quantiser, all in zigzag order
abbrev pub scaled : List ℕ → List ℤ → List ℤ
scaled quants given = map (λ n. number_at given n *ℤ pos (slice_index quants n)) (below 64)
