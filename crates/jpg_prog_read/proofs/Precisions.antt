-- What the bounds of both precisions have in common, as this crate's numbers need it.
use Rattle.std.proofs.Common.{◌≡◌, ℕ, ◌-◌, ◌^◌, ◌≤◌, refl, arith, pos, negsuc, nat_abs, lit≤}
use Rattle.std.specs.Prelude.{◌≤ℤ◌}
use Rattle.std.proofs.lemmas.Int.{ints}
use Rattle.jpg_spec.specs.Geometry.{bounds_8, bounds_12, bounds_of}
use Rattle.jpg_spec.specs.declared.frame.Bounds.{Bounds}
use Rattle.jpg_spec.proofs.Headers.Precisions.{of_bounds}

-- the greatest values are powers of two less 1, and all fit words of 16 bits
pub record FitsWords (b : Bounds) : Type 0 where
  pub dc_high : b.dc_high ≡ pos (2 ^ b.ac_cat - 1)
  pub ac : b.ac ≡ pos (2 ^ b.ac_cat - 1)
  pub bits : b.al ≤ b.ac_cat
  pub al : b.al ≤ 13
  pub low : negsuc 32766 ≤ℤ b.dc_low
  pub high : b.dc_high ≤ℤ pos 32767
  pub magnitude : nat_abs b.ac ≤ 32767
  pub dc_cat : b.dc_cat ≤ 15
  pub ac_cat : b.ac_cat ≤ 14

pub fits_words : (precision : ℕ) → FitsWords (bounds_of precision)
fits_words precision = of_bounds FitsWords eight twelve precision
  where
    eight : FitsWords bounds_8
    eight = record {
      dc_high = refl;
      ac = refl;
      bits = lit≤ tt;
      al = lit≤ tt;
      low = omega (arith, ints);
      high = omega (arith, ints);
      magnitude = lit≤ tt;
      dc_cat = lit≤ tt;
      ac_cat = lit≤ tt;
    }

    twelve : FitsWords bounds_12
    twelve = record {
      dc_high = refl;
      ac = refl;
      bits = lit≤ tt;
      al = lit≤ tt;
      low = omega (arith, ints);
      high = omega (arith, ints);
      magnitude = lit≤ tt;
      dc_cat = lit≤ tt;
      ac_cat = lit≤ tt;
    }
