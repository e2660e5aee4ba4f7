-- THE RANGE OF COEFFICIENTS: the first of a block is its DC, the others are AC (T.81, F.1.2, G.1.2).
use Rattle.std.specs.Prelude.{◌≡◌, ℕ, Bool, true, ◌&&◌, ◌==◌, if◌then◌else◌, length, ℤ, pos, nat_abs, int_le}
use Rattle.jpg_spec.specs.Scan.{Blocks, coefficient}
use Rattle.jpg_spec.specs.declared.frame.Bounds.{Bounds}

abbrev pub is_coefficient : Bounds → ℕ → ℤ → Bool
is_coefficient b k v = if k == 0 then int_le b.dc_low v && int_le v b.dc_high else int_le (pos (nat_abs v)) b.ac

-- blocks of 64 coefficients, all in the bounds
pub record AreInRange (b : Bounds) (blocks : Blocks) : Type 0 where
  pub sizes : (i x y : ℕ) → length (blocks i x y) ≡ 64
  pub values : (i x y k : ℕ) → is_coefficient b k (coefficient blocks i x y k) ≡ true
