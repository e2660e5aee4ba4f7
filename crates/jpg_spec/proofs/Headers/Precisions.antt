-- What holds of the bounds of both precisions.
use Rattle.std.proofs.Common.{◌≡◌, ℕ, Bool, true, false, ◌==◌, ◌&&◌, cond, refl, pos}
use Rattle.std.specs.Prelude.{int_le}
use Rattle.jpg_spec.specs.Geometry.{bounds_8, bounds_12, bounds_of}
use Rattle.jpg_spec.specs.declared.frame.Bounds.{Bounds}

pub of_bounds : (P : Bounds → Type 0) → P bounds_8 → P bounds_12 → (precision : ℕ) → P (bounds_of precision)
of_bounds P eight twelve precision = by (precision == 12)
  where
    by : (b : Bool) → P (cond b bounds_12 bounds_8)
    by true = twelve
    by false = eight

-- 0 is a value of AC and of DC
pub zero_ac : (precision : ℕ) → int_le (pos 0) (bounds_of precision).ac ≡ true
zero_ac precision = of_bounds (λ b. int_le (pos 0) b.ac ≡ true) refl refl precision

pub zero_dc : (precision : ℕ) → (int_le (bounds_of precision).dc_low (pos 0) && int_le (pos 0) (bounds_of precision).dc_high) ≡ true
zero_dc precision = of_bounds (λ b. (int_le b.dc_low (pos 0) && int_le (pos 0) b.dc_high) ≡ true) refl refl precision
