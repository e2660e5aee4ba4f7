-- Lines of small numbers: bounds of their frequencies.
use Rattle.std.proofs.Common.{ℕ, ◌*◌, ◌≤◌, ℤ, pos, ◌+ℤ◌, ◌*ℤ◌, ◌≤ℤ◌, neg_ℤ, nat_abs, sym, subst, arith}
use Rattle.std.specs.Int.{int_shr}
use Rattle.std.proofs.lemmas.Int.{ints}
use Rattle.jpg_spec_image.specs.ForwardDct.{line_frequencies}
use Rattle.jpg_dct.proofs.Bounds.{AreBelow}
use Rattle.jpg_dct.proofs.Several.{EightOf, on}
use Rattle.jpg_spec_image.proofs.Frequencies.{InWidth, LineIn, line_below, sum_of, first_is, sum_low, sum_high, rounded_row}

in_width : (M : ℕ) (x : ℤ) → nat_abs x ≤ M → InWidth (neg_ℤ (pos M)) (2 * M) x
in_width M x h = record { low = omega (arith, ints, h); high = omega (arith, ints, h) }

pub line_small : (M : ℕ) (d : EightOf ℤ) → nat_abs d.at0 ≤ M → nat_abs d.at1 ≤ M → nat_abs d.at2 ≤ M → nat_abs d.at3 ≤ M
    → nat_abs d.at4 ≤ M → nat_abs d.at5 ≤ M → nat_abs d.at6 ≤ M → nat_abs d.at7 ≤ M → AreBelow (65536 * M) (on line_frequencies d)
line_small M d h0 h1 h2 h3 h4 h5 h6 h7 =
    let line : LineIn (neg_ℤ (pos M)) (2 * M) d.at0 d.at1 d.at2 d.at3 d.at4 d.at5 d.at6 d.at7 = record {
      at0 = in_width M d.at0 h0;
      at1 = in_width M d.at1 h1;
      at2 = in_width M d.at2 h2;
      at3 = in_width M d.at3 h3;
      at4 = in_width M d.at4 h4;
      at5 = in_width M d.at5 h5;
      at6 = in_width M d.at6 h6;
      at7 = in_width M d.at7 h7;
    } in
    let b = line_below (neg_ℤ (pos M)) (2 * M) d.at0 d.at1 d.at2 d.at3 d.at4 d.at5 d.at6 d.at7 line in
    let s : ℤ = on sum_of d in
    let l : (neg_ℤ (pos M) *ℤ pos 8) ≤ℤ s = sum_low (neg_ℤ (pos M)) (2 * M) d.at0 d.at1 d.at2 d.at3 d.at4 d.at5 d.at6 d.at7 line in
    let h : s ≤ℤ ((neg_ℤ (pos M) +ℤ pos (2 * M)) *ℤ pos 8) = sum_high (neg_ℤ (pos M)) (2 * M) d.at0 d.at1 d.at2 d.at3 d.at4 d.at5 d.at6 d.at7 line in
    let first : nat_abs (s *ℤ pos 8192) ≤ 65536 * M = omega (arith, ints, l, h) in
    record {
      at0 = subst (λ x. nat_abs x ≤ 65536 * M) (sym (first_is d.at0 d.at1 d.at2 d.at3 d.at4 d.at5 d.at6 d.at7)) first;
      at1 = omega (arith, b.at1);
      at2 = omega (arith, b.at2);
      at3 = omega (arith, b.at3);
      at4 = omega (arith, b.at4);
      at5 = omega (arith, b.at5);
      at6 = omega (arith, b.at6);
      at7 = omega (arith, b.at7);
    }

pub row_bound : (x : ℤ) → nat_abs x ≤ 65536 * 128 → nat_abs (int_shr (x +ℤ pos 1024) 11) ≤ 4096
row_bound x h = rounded_row x 4096 (omega (arith, h))
