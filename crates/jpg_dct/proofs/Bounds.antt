-- Bounds of the sums of a line.
use Rattle.std.proofs.Common.{◌≡◌, ℕ, ◌+◌, ◌*◌, ◌≤◌, ◌<◌, List, [], ◌∷◌, ◌++◌, get_or, ℤ, pos, ◌+ℤ◌, ◌-ℤ◌, ◌*ℤ◌, neg_ℤ, nat_abs, All, take, length, max, subst, sym, arith}
use Rattle.std.proofs.lemmas.Int.{ints, unsigned_abs-mul}
use Rattle.std.proofs.lemmas.Nat.{mul-le}
use Rattle.std.proofs.lemmas.List.{take_more, take_all}
use Rattle.std.proofs.lemmas.List.Elements.{All-weaker, All-push}
use Rattle.jpg_spec_image.specs.Dct.{even_sums, odd_sums, joined_sums, line_sums, number_at}
use Rattle.jpg_dct.proofs.Several.{EightOf, on}
use Rattle.jpg_spec_image.proofs.Frequencies.{abs_neg}

abs_sum : (a b : ℤ) (m n : ℕ) → nat_abs a ≤ m → nat_abs b ≤ n → nat_abs (a +ℤ b) ≤ m + n
abs_sum a b m n ha hb = omega (arith, ints, ha, hb)

abs_less : (a b : ℤ) (m n : ℕ) → nat_abs a ≤ m → nat_abs b ≤ n → nat_abs (a -ℤ b) ≤ m + n
abs_less a b m n ha hb = abs_sum a (neg_ℤ b) m n ha (omega (arith, abs_neg b, hb))

pub abs_scaled : (a : ℤ) (k m : ℕ) → nat_abs a ≤ m → nat_abs (a *ℤ pos k) ≤ m * k
abs_scaled a k m h =
    let e : nat_abs (a *ℤ pos k) ≡ nat_abs a * k = unsigned_abs-mul a (pos k) in
    let l : nat_abs a * k ≤ m * k = mul-le (nat_abs a) k m k h (omega arith) in
    omega (arith, e, l)

record even_small (M : ℕ) (i0 i2 i4 i6 : ℤ) : Type 0 where
  at0 : nat_abs (number_at (even_sums i0 i2 i4 i6) 0) ≤ 40387 * M
  at1 : nat_abs (number_at (even_sums i0 i2 i4 i6) 1) ≤ 40387 * M
  at2 : nat_abs (number_at (even_sums i0 i2 i4 i6) 2) ≤ 40387 * M
  at3 : nat_abs (number_at (even_sums i0 i2 i4 i6) 3) ≤ 40387 * M

even_is_small : (M : ℕ) (i0 i2 i4 i6 : ℤ) → nat_abs i0 ≤ M → nat_abs i2 ≤ M → nat_abs i4 ≤ M → nat_abs i6 ≤ M → even_small M i0 i2 i4 i6
unfolding even_sums
even_is_small M i0 i2 i4 i6 h0 h2 h4 h6 =
    let hsum : nat_abs (i2 +ℤ i6) ≤ (M + M) = abs_sum i2 i6 M M h2 h6 in
    let ha : nat_abs ((i2 +ℤ i6) *ℤ pos 4433) ≤ ((M + M) * 4433) = abs_scaled (i2 +ℤ i6) 4433 (M + M) hsum in
    let hp6 : nat_abs (i6 *ℤ pos 15137) ≤ (M * 15137) = abs_scaled i6 15137 M h6 in
    let ht2 : nat_abs (((i2 +ℤ i6) *ℤ pos 4433) -ℤ (i6 *ℤ pos 15137)) ≤ (((M + M) * 4433) + (M * 15137)) = abs_less ((i2 +ℤ i6) *ℤ pos 4433) (i6 *ℤ pos 15137) ((M + M) * 4433) (M * 15137) ha hp6 in
    let hp2 : nat_abs (i2 *ℤ pos 6270) ≤ (M * 6270) = abs_scaled i2 6270 M h2 in
    let ht3 : nat_abs (((i2 +ℤ i6) *ℤ pos 4433) +ℤ (i2 *ℤ pos 6270)) ≤ (((M + M) * 4433) + (M * 6270)) = abs_sum ((i2 +ℤ i6) *ℤ pos 4433) (i2 *ℤ pos 6270) ((M + M) * 4433) (M * 6270) ha hp2 in
    let hnear : nat_abs (i0 +ℤ i4) ≤ (M + M) = abs_sum i0 i4 M M h0 h4 in
    let ht0 : nat_abs ((i0 +ℤ i4) *ℤ pos 8192) ≤ ((M + M) * 8192) = abs_scaled (i0 +ℤ i4) 8192 (M + M) hnear in
    let hgap : nat_abs (i0 -ℤ i4) ≤ (M + M) = abs_less i0 i4 M M h0 h4 in
    let ht1 : nat_abs ((i0 -ℤ i4) *ℤ pos 8192) ≤ ((M + M) * 8192) = abs_scaled (i0 -ℤ i4) 8192 (M + M) hgap in
    let hb0 : nat_abs (((i0 +ℤ i4) *ℤ pos 8192) +ℤ (((i2 +ℤ i6) *ℤ pos 4433) +ℤ (i2 *ℤ pos 6270))) ≤ (((M + M) * 8192) + (((M + M) * 4433) + (M * 6270))) = abs_sum ((i0 +ℤ i4) *ℤ pos 8192) (((i2 +ℤ i6) *ℤ pos 4433) +ℤ (i2 *ℤ pos 6270)) ((M + M) * 8192) (((M + M) * 4433) + (M * 6270)) ht0 ht3 in
    let hb1 : nat_abs (((i0 -ℤ i4) *ℤ pos 8192) +ℤ (((i2 +ℤ i6) *ℤ pos 4433) -ℤ (i6 *ℤ pos 15137))) ≤ (((M + M) * 8192) + (((M + M) * 4433) + (M * 15137))) = abs_sum ((i0 -ℤ i4) *ℤ pos 8192) (((i2 +ℤ i6) *ℤ pos 4433) -ℤ (i6 *ℤ pos 15137)) ((M + M) * 8192) (((M + M) * 4433) + (M * 15137)) ht1 ht2 in
    let hb2 : nat_abs (((i0 -ℤ i4) *ℤ pos 8192) -ℤ (((i2 +ℤ i6) *ℤ pos 4433) -ℤ (i6 *ℤ pos 15137))) ≤ (((M + M) * 8192) + (((M + M) * 4433) + (M * 15137))) = abs_less ((i0 -ℤ i4) *ℤ pos 8192) (((i2 +ℤ i6) *ℤ pos 4433) -ℤ (i6 *ℤ pos 15137)) ((M + M) * 8192) (((M + M) * 4433) + (M * 15137)) ht1 ht2 in
    let hb3 : nat_abs (((i0 +ℤ i4) *ℤ pos 8192) -ℤ (((i2 +ℤ i6) *ℤ pos 4433) +ℤ (i2 *ℤ pos 6270))) ≤ (((M + M) * 8192) + (((M + M) * 4433) + (M * 6270))) = abs_less ((i0 +ℤ i4) *ℤ pos 8192) (((i2 +ℤ i6) *ℤ pos 4433) +ℤ (i2 *ℤ pos 6270)) ((M + M) * 8192) (((M + M) * 4433) + (M * 6270)) ht0 ht3 in
    record { at0 = omega (arith, hb0); at1 = omega (arith, hb1); at2 = omega (arith, hb2); at3 = omega (arith, hb3) }

record odd_small (M : ℕ) (i1 i3 i5 i7 : ℤ) : Type 0 where
  at0 : nat_abs (number_at (odd_sums i1 i3 i5 i7) 0) ≤ 137832 * M
  at1 : nat_abs (number_at (odd_sums i1 i3 i5 i7) 1) ≤ 137832 * M
  at2 : nat_abs (number_at (odd_sums i1 i3 i5 i7) 2) ≤ 137832 * M
  at3 : nat_abs (number_at (odd_sums i1 i3 i5 i7) 3) ≤ 137832 * M

odd_is_small : (M : ℕ) (i1 i3 i5 i7 : ℤ) → nat_abs i1 ≤ M → nat_abs i3 ≤ M → nat_abs i5 ≤ M → nat_abs i7 ≤ M → odd_small M i1 i3 i5 i7
unfolding odd_sums
odd_is_small M i1 i3 i5 i7 h1 h3 h5 h7 =
    let hlow : nat_abs (i1 +ℤ i3) ≤ (M + M) = abs_sum i1 i3 M M h1 h3 in
    let hhigh : nat_abs (i5 +ℤ i7) ≤ (M + M) = abs_sum i5 i7 M M h5 h7 in
    let hall : nat_abs ((i1 +ℤ i3) +ℤ (i5 +ℤ i7)) ≤ ((M + M) + (M + M)) = abs_sum (i1 +ℤ i3) (i5 +ℤ i7) (M + M) (M + M) hlow hhigh in
    let hz5 : nat_abs (((i1 +ℤ i3) +ℤ (i5 +ℤ i7)) *ℤ pos 9633) ≤ (((M + M) + (M + M)) * 9633) = abs_scaled ((i1 +ℤ i3) +ℤ (i5 +ℤ i7)) 9633 ((M + M) + (M + M)) hall in
    let hs71 : nat_abs (i7 +ℤ i1) ≤ (M + M) = abs_sum i7 i1 M M h7 h1 in
    let hz1 : nat_abs ((i7 +ℤ i1) *ℤ pos 7373) ≤ ((M + M) * 7373) = abs_scaled (i7 +ℤ i1) 7373 (M + M) hs71 in
    let hs53 : nat_abs (i5 +ℤ i3) ≤ (M + M) = abs_sum i5 i3 M M h5 h3 in
    let hz2 : nat_abs ((i5 +ℤ i3) *ℤ pos 20995) ≤ ((M + M) * 20995) = abs_scaled (i5 +ℤ i3) 20995 (M + M) hs53 in
    let hs73 : nat_abs (i7 +ℤ i3) ≤ (M + M) = abs_sum i7 i3 M M h7 h3 in
    let hp73 : nat_abs ((i7 +ℤ i3) *ℤ pos 16069) ≤ ((M + M) * 16069) = abs_scaled (i7 +ℤ i3) 16069 (M + M) hs73 in
    let hz3 : nat_abs ((((i1 +ℤ i3) +ℤ (i5 +ℤ i7)) *ℤ pos 9633) -ℤ ((i7 +ℤ i3) *ℤ pos 16069)) ≤ ((((M + M) + (M + M)) * 9633) + ((M + M) * 16069)) = abs_less (((i1 +ℤ i3) +ℤ (i5 +ℤ i7)) *ℤ pos 9633) ((i7 +ℤ i3) *ℤ pos 16069) (((M + M) + (M + M)) * 9633) ((M + M) * 16069) hz5 hp73 in
    let hs51 : nat_abs (i5 +ℤ i1) ≤ (M + M) = abs_sum i5 i1 M M h5 h1 in
    let hp51 : nat_abs ((i5 +ℤ i1) *ℤ pos 3196) ≤ ((M + M) * 3196) = abs_scaled (i5 +ℤ i1) 3196 (M + M) hs51 in
    let hz4 : nat_abs ((((i1 +ℤ i3) +ℤ (i5 +ℤ i7)) *ℤ pos 9633) -ℤ ((i5 +ℤ i1) *ℤ pos 3196)) ≤ ((((M + M) + (M + M)) * 9633) + ((M + M) * 3196)) = abs_less (((i1 +ℤ i3) +ℤ (i5 +ℤ i7)) *ℤ pos 9633) ((i5 +ℤ i1) *ℤ pos 3196) (((M + M) + (M + M)) * 9633) ((M + M) * 3196) hz5 hp51 in
    let hp7 : nat_abs (i7 *ℤ pos 2446) ≤ (M * 2446) = abs_scaled i7 2446 M h7 in
    let hd0 : nat_abs ((i7 *ℤ pos 2446) -ℤ ((i7 +ℤ i1) *ℤ pos 7373)) ≤ ((M * 2446) + ((M + M) * 7373)) = abs_less (i7 *ℤ pos 2446) ((i7 +ℤ i1) *ℤ pos 7373) (M * 2446) ((M + M) * 7373) hp7 hz1 in
    let ho0 : nat_abs (((i7 *ℤ pos 2446) -ℤ ((i7 +ℤ i1) *ℤ pos 7373)) +ℤ ((((i1 +ℤ i3) +ℤ (i5 +ℤ i7)) *ℤ pos 9633) -ℤ ((i7 +ℤ i3) *ℤ pos 16069))) ≤ (((M * 2446) + ((M + M) * 7373)) + ((((M + M) + (M + M)) * 9633) + ((M + M) * 16069))) = abs_sum ((i7 *ℤ pos 2446) -ℤ ((i7 +ℤ i1) *ℤ pos 7373)) ((((i1 +ℤ i3) +ℤ (i5 +ℤ i7)) *ℤ pos 9633) -ℤ ((i7 +ℤ i3) *ℤ pos 16069)) ((M * 2446) + ((M + M) * 7373)) ((((M + M) + (M + M)) * 9633) + ((M + M) * 16069)) hd0 hz3 in
    let hp5 : nat_abs (i5 *ℤ pos 16819) ≤ (M * 16819) = abs_scaled i5 16819 M h5 in
    let hd1 : nat_abs ((i5 *ℤ pos 16819) -ℤ ((i5 +ℤ i3) *ℤ pos 20995)) ≤ ((M * 16819) + ((M + M) * 20995)) = abs_less (i5 *ℤ pos 16819) ((i5 +ℤ i3) *ℤ pos 20995) (M * 16819) ((M + M) * 20995) hp5 hz2 in
    let ho1 : nat_abs (((i5 *ℤ pos 16819) -ℤ ((i5 +ℤ i3) *ℤ pos 20995)) +ℤ ((((i1 +ℤ i3) +ℤ (i5 +ℤ i7)) *ℤ pos 9633) -ℤ ((i5 +ℤ i1) *ℤ pos 3196))) ≤ (((M * 16819) + ((M + M) * 20995)) + ((((M + M) + (M + M)) * 9633) + ((M + M) * 3196))) = abs_sum ((i5 *ℤ pos 16819) -ℤ ((i5 +ℤ i3) *ℤ pos 20995)) ((((i1 +ℤ i3) +ℤ (i5 +ℤ i7)) *ℤ pos 9633) -ℤ ((i5 +ℤ i1) *ℤ pos 3196)) ((M * 16819) + ((M + M) * 20995)) ((((M + M) + (M + M)) * 9633) + ((M + M) * 3196)) hd1 hz4 in
    let hp3 : nat_abs (i3 *ℤ pos 25172) ≤ (M * 25172) = abs_scaled i3 25172 M h3 in
    let hd2 : nat_abs ((i3 *ℤ pos 25172) -ℤ ((i5 +ℤ i3) *ℤ pos 20995)) ≤ ((M * 25172) + ((M + M) * 20995)) = abs_less (i3 *ℤ pos 25172) ((i5 +ℤ i3) *ℤ pos 20995) (M * 25172) ((M + M) * 20995) hp3 hz2 in
    let ho2 : nat_abs (((i3 *ℤ pos 25172) -ℤ ((i5 +ℤ i3) *ℤ pos 20995)) +ℤ ((((i1 +ℤ i3) +ℤ (i5 +ℤ i7)) *ℤ pos 9633) -ℤ ((i7 +ℤ i3) *ℤ pos 16069))) ≤ (((M * 25172) + ((M + M) * 20995)) + ((((M + M) + (M + M)) * 9633) + ((M + M) * 16069))) = abs_sum ((i3 *ℤ pos 25172) -ℤ ((i5 +ℤ i3) *ℤ pos 20995)) ((((i1 +ℤ i3) +ℤ (i5 +ℤ i7)) *ℤ pos 9633) -ℤ ((i7 +ℤ i3) *ℤ pos 16069)) ((M * 25172) + ((M + M) * 20995)) ((((M + M) + (M + M)) * 9633) + ((M + M) * 16069)) hd2 hz3 in
    let hp1 : nat_abs (i1 *ℤ pos 12299) ≤ (M * 12299) = abs_scaled i1 12299 M h1 in
    let hd3 : nat_abs ((i1 *ℤ pos 12299) -ℤ ((i7 +ℤ i1) *ℤ pos 7373)) ≤ ((M * 12299) + ((M + M) * 7373)) = abs_less (i1 *ℤ pos 12299) ((i7 +ℤ i1) *ℤ pos 7373) (M * 12299) ((M + M) * 7373) hp1 hz1 in
    let ho3 : nat_abs (((i1 *ℤ pos 12299) -ℤ ((i7 +ℤ i1) *ℤ pos 7373)) +ℤ ((((i1 +ℤ i3) +ℤ (i5 +ℤ i7)) *ℤ pos 9633) -ℤ ((i5 +ℤ i1) *ℤ pos 3196))) ≤ (((M * 12299) + ((M + M) * 7373)) + ((((M + M) + (M + M)) * 9633) + ((M + M) * 3196))) = abs_sum ((i1 *ℤ pos 12299) -ℤ ((i7 +ℤ i1) *ℤ pos 7373)) ((((i1 +ℤ i3) +ℤ (i5 +ℤ i7)) *ℤ pos 9633) -ℤ ((i5 +ℤ i1) *ℤ pos 3196)) ((M * 12299) + ((M + M) * 7373)) ((((M + M) + (M + M)) * 9633) + ((M + M) * 3196)) hd3 hz4 in
    record { at0 = omega (arith, ho0); at1 = omega (arith, ho1); at2 = omega (arith, ho2); at3 = omega (arith, ho3) }

pub record AreBelow (n : ℕ) (sums : List ℤ) : Type 0 where
  pub at0 : nat_abs (number_at sums 0) ≤ n
  pub at1 : nat_abs (number_at sums 1) ≤ n
  pub at2 : nat_abs (number_at sums 2) ≤ n
  pub at3 : nat_abs (number_at sums 3) ≤ n
  pub at4 : nat_abs (number_at sums 4) ≤ n
  pub at5 : nat_abs (number_at sums 5) ≤ n
  pub at6 : nat_abs (number_at sums 6) ≤ n
  pub at7 : nat_abs (number_at sums 7) ≤ n

pub line_is_small : (M : ℕ) (d : EightOf ℤ) → nat_abs d.at0 ≤ M → nat_abs d.at1 ≤ M → nat_abs d.at2 ≤ M → nat_abs d.at3 ≤ M
    → nat_abs d.at4 ≤ M → nat_abs d.at5 ≤ M → nat_abs d.at6 ≤ M → nat_abs d.at7 ≤ M → AreBelow (178219 * M) (on line_sums d)
unfolding joined_sums
line_is_small M d h0 h1 h2 h3 h4 h5 h6 h7 =
    let b = even_is_small M d.at0 d.at2 d.at4 d.at6 h0 h2 h4 h6 in
    let o = odd_is_small M d.at1 d.at3 d.at5 d.at7 h1 h3 h5 h7 in
    let e : ℕ → ℤ = number_at (even_sums d.at0 d.at2 d.at4 d.at6) in
    let f : ℕ → ℤ = number_at (odd_sums d.at1 d.at3 d.at5 d.at7) in
    record {
      at0 = omega (arith, abs_sum (e 0) (f 3) (40387 * M) (137832 * M) b.at0 o.at3);
      at1 = omega (arith, abs_sum (e 1) (f 2) (40387 * M) (137832 * M) b.at1 o.at2);
      at2 = omega (arith, abs_sum (e 2) (f 1) (40387 * M) (137832 * M) b.at2 o.at1);
      at3 = omega (arith, abs_sum (e 3) (f 0) (40387 * M) (137832 * M) b.at3 o.at0);
      at4 = omega (arith, abs_less (e 3) (f 0) (40387 * M) (137832 * M) b.at3 o.at0);
      at5 = omega (arith, abs_less (e 2) (f 1) (40387 * M) (137832 * M) b.at2 o.at1);
      at6 = omega (arith, abs_less (e 1) (f 2) (40387 * M) (137832 * M) b.at1 o.at2);
      at7 = omega (arith, abs_less (e 0) (f 3) (40387 * M) (137832 * M) b.at0 o.at3);
    }

-- the greatest magnitude with one more number
pub greatest_step : (xs : List ℤ) (k g more : ℕ) → k < length xs → All (λ x. nat_abs x ≤ g) (take k xs) → more ≡ max g (nat_abs (get_or xs k (pos 0)))
    → All (λ x. nat_abs x ≤ more) (take (k + 1) xs)
greatest_step xs k g more lt all e =
    let old : All (λ x. nat_abs x ≤ more) (take k xs) = All-weaker (λ x. nat_abs x ≤ g) (λ x. nat_abs x ≤ more) (λ (x : ℤ) (h : nat_abs x ≤ g). omega (arith, h, e)) (take k xs) all in
    let both : All (λ x. nat_abs x ≤ more) (take k xs ++ get_or xs k (pos 0) ∷ []) = All-push (λ x. nat_abs x ≤ more) (take k xs) (get_or xs k (pos 0)) old (omega (arith, e)) in
    subst (λ ys. All (λ x. nat_abs x ≤ more) ys) (sym (take_more xs k (pos 0) lt)) both

pub greatest_all : (xs : List ℤ) (k g : ℕ) → length xs ≤ k → All (λ x. nat_abs x ≤ g) (take k xs) → All (λ x. nat_abs x ≤ g) xs
greatest_all xs k g le all = subst (λ ys. All (λ x. nat_abs x ≤ g) ys) (take_all k xs le) all
