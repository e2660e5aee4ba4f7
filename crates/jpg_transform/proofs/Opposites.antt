-- Each value of a picture can change its sign in 16 bits, whatever its precision.
use Rattle.std.proofs.Common.{◌≡◌, ℕ, ◌==◌, ◌&&◌, Bool, true, false, cond, get_or, sym, subst, arith, ℤ, pos, negsuc}
use Rattle.std.specs.Prelude.{int_le, nat_abs, ◌≤ℤ◌}
use Rattle.std.specs.List.{All}
use Rattle.std.proofs.lemmas.Int.{ints}
use Rattle.std.proofs.lemmas.List.Elements.{All-from_get_or}
use lib.Signed.{le_z_yes}
use lib.Dec.{T}
use Rattle.jpg_spec.specs.Geometry.{Frame, bounds, bounds_of}
use Rattle.jpg_spec.specs.Ranges.{AreInRange, is_coefficient}
use Rattle.jpg_spec.specs.Scan.{Blocks}
use Rattle.jpg_spec.specs.declared.frame.Bounds.{Bounds}
use Rattle.jpg_spec.proofs.Basics.Common.{both}
use Rattle.jpg_spec.proofs.Headers.Precisions.{of_bounds}
use Rattle.jpg_spec.proofs.Basics.Small.{dc_small}
use Rattle.jpg_transform.specs.Places.{HasOpposites}

abs_low : (v : ℤ) → pos (nat_abs v) ≤ℤ pos 32767 → negsuc 32766 ≤ℤ v
abs_low (pos n) h = omega (arith, ints)
abs_low (negsuc n) h = omega (arith, ints, h)

low_by : (b : Bounds) (k : ℕ) (v : ℤ) → negsuc 32766 ≤ℤ b.dc_low → b.ac ≤ℤ pos 32767 → is_coefficient b k v ≡ true → negsuc 32766 ≤ℤ v
low_by b k v low high e = by (k == 0) e
  where
    by : (t : Bool) → cond t (int_le b.dc_low v && int_le v b.dc_high) (int_le (pos (nat_abs v)) b.ac) ≡ true → negsuc 32766 ≤ℤ v
    by true e =
        let m = both (int_le b.dc_low v) (int_le v b.dc_high) e in
        let d = dc_small b v m.0 m.1 in
        let least = d.low in
        omega (arith, ints, low, least)
    by false e =
        let m : pos (nat_abs v) ≤ℤ b.ac = le_z_yes (subst T (sym e) tt) in
        abs_low v (omega (arith, ints, m, high))

dc_above : (precision : ℕ) → negsuc 32766 ≤ℤ (bounds_of precision).dc_low
dc_above precision = of_bounds (λ b. negsuc 32766 ≤ℤ b.dc_low) (omega (arith, ints)) (omega (arith, ints)) precision

ac_below : (precision : ℕ) → (bounds_of precision).ac ≤ℤ pos 32767
ac_below precision = of_bounds (λ b. b.ac ≤ℤ pos 32767) (omega (arith, ints)) (omega (arith, ints)) precision

pub all_above : (f : Frame) (blocks : Blocks) → AreInRange (bounds f) blocks → (i x y : ℕ) → All (λ v. negsuc 32766 ≤ℤ v) (blocks i x y)
all_above f blocks are i x y = All-from_get_or (λ v. negsuc 32766 ≤ℤ v) (blocks i x y) (pos 0)
    (λ k h. low_by (bounds f) k (get_or (blocks i x y) k (pos 0)) (dc_above f.precision) (ac_below f.precision) (are.values i x y k))

pub opposites : (f : Frame) (blocks : Blocks) → AreInRange (bounds f) blocks → HasOpposites f blocks
opposites f blocks are = record { above = λ i x y r. all_above f blocks are i x y }
