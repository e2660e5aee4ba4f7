-- Pictures with 64 numbers in each block and in each quantisation table, as each file's picture has them (T.81, A.3.3,
-- B.2.4.1).
use Rattle.std.specs.Prelude.{◌≡◌, ℕ, length, All}
use Rattle.jpg_spec.specs.Meaning.{Meaning}

pub record HasWholeBlocks (M : Meaning) : Type 0 where
  pub blocks : (i x y : ℕ) → length (M.blocks i x y) ≡ 64
  pub quants : All (λ c. length c.quants ≡ 64) M.components
