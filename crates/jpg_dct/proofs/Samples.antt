-- Sums of columns and rows as they are rounded.
use Rattle.std.proofs.Common.{◌≡◌, ℕ, ◌+◌, ◌-◌, ◌/◌, ◌%◌, ◌≤◌, ◌<◌, ◌^◌, ℤ, pos, negsuc, ◌+ℤ◌, nat_abs, FitsSigned, to_z, of_z, ap, ◌∙◌, arith}
use Rattle.std.specs.Int.{Width, w32, w64, int_wrap, int_shr, int_rem_euclid}
use mir.Val.{hbits}
use Rattle.std.proofs.lemmas.Int.{ints, to_z-of_z, of_z-to_z, int_wrap_fits, int_wrap-add_left, fits_signed_from_abs}
use lib.Signed.{mag_shr}
use Rattle.jpg_spec_image.specs.Dct.{ranged, sample_of}
use Rattle.jpg_dct.proofs.Wrapped.{start}

pub shifted_fits : (w : Width) (z : ℤ) (m : ℕ) → FitsSigned w z → FitsSigned w (int_shr z m)
shifted_fits w z m f = record { sfits = omega (arith, mag_shr z (2 ^ m), f.sfits) }

-- x is the sum s, wrapped to the width
pub one_rounded : (w : Width) {x : ℤ} (s : ℤ) {r : ℤ} → x ≡ int_wrap w s → nat_abs (s +ℤ pos 1024) < 2 ^ hbits w
    → r ≡ int_shr (int_wrap w (to_z w (of_z w x) +ℤ pos 1024)) 11 → to_z w (of_z w r) ≡ int_shr (s +ℤ pos 1024) 11
one_rounded w {x} s {r} ex small e =
    let f : FitsSigned w (s +ℤ pos 1024) = fits_signed_from_abs w (s +ℤ pos 1024) small in
    let is : r ≡ int_shr (s +ℤ pos 1024) 11 =
    e ∙ ap (λ y. int_shr (int_wrap w (y +ℤ pos 1024)) 11) (start w x s ex)
    ∙ ap (λ y. int_shr y 11) (int_wrap-add_left w s (pos 1024) ∙ int_wrap_fits w (s +ℤ pos 1024) f)
    in
    ap (λ y. to_z w (of_z w y)) is ∙ to_z-of_z w (int_shr (s +ℤ pos 1024) 11) (shifted_fits w (s +ℤ pos 1024) 11 f)

pub one_bound : (s : ℤ) (n top : ℕ) → nat_abs s ≤ n → n + 1024 < top → nat_abs (s +ℤ pos 1024) < top
one_bound s n top h l = omega (arith, ints, h, l)

-- ten bits of a number, of the number wrapped to 32 bits, and to 64
pub low32 : (z : ℤ) → of_z w32 (int_wrap w32 z) / 262144 % 1024 ≡ nat_abs (int_rem_euclid (int_shr z 18) (pos 1024))
unfolding int_wrap
low32 (pos a) =
    ap (λ n. n / 262144 % 1024) (of_z-to_z w32 (a % 4294967296) (omega arith)) ∙ omega arith
low32 (negsuc a) =
    ap (λ n. n / 262144 % 1024) (of_z-to_z w32 (4294967296 - 1 - a % 4294967296) (omega arith)) ∙ omega arith

low64 : (z : ℤ) → of_z w64 (int_wrap w64 z) / 262144 % 1024 ≡ nat_abs (int_rem_euclid (int_shr z 18) (pos 1024))
unfolding int_wrap
low64 (pos a) =
    ap (λ n. n / 262144 % 1024) (of_z-to_z w64 (a % 18446744073709551616) (omega arith)) ∙ omega arith
low64 (negsuc a) =
    ap (λ n. n / 262144 % 1024) (of_z-to_z w64 (18446744073709551616 - 1 - a % 18446744073709551616) (omega arith)) ∙ omega arith

pub one_sample64 : {x : ℤ} (s : ℤ) {r : ℕ} → x ≡ int_wrap w64 s → r ≡ ranged (of_z w64 (int_wrap w64 (to_z w64 (of_z w64 x) +ℤ pos 131072)) / 262144 % 1024)
    → r ≡ sample_of (int_shr (s +ℤ pos 131072) 18)
one_sample64 {x} s ex e =
    e ∙ ap (λ y. ranged (of_z w64 (int_wrap w64 (y +ℤ pos 131072)) / 262144 % 1024)) (start w64 x s ex)
    ∙ ap (λ y. ranged (of_z w64 y / 262144 % 1024)) (int_wrap-add_left w64 s (pos 131072))
    ∙ ap ranged (low64 (s +ℤ pos 131072))
