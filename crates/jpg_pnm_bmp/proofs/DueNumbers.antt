-- Which numbers of a PNM text are expected, by those that are known.
use Rattle.std.proofs.Common.{◌≡◌, ℕ, ◌+◌, ◌-◌, Bool, true, cond, List, [], ◌∷◌, ◌++◌, length, sym, ap, ◌∙◌, arith}
use Rattle.std.specs.Prelude.{nat_lt}
use Rattle.std.proofs.lemmas.Bool.Decides.{nat_tests}
use Rattle.std.proofs.lemmas.List.{length-append}
use Rattle.jpg_spec_image.specs.Images.{sample_count}
use Rattle.jpg_spec_image.specs.PnmText.{is_plain, pnm_info, is_number_due}

-- the third number, and no samples yet
pub third_due : (format w h n count : ℕ) → count ≡ sample_count (pnm_info format (w ∷ h ∷ n ∷ [])) → is_plain format ≡ true → nat_lt 0 count ≡ is_number_due format (w ∷ h ∷ n ∷ [])
third_due format w h n count e p =
    let shift : nat_lt 0 count ≡ nat_lt 3 (3 + count) = grind (arith, nat_tests) in
    shift ∙ ap (λ k. nat_lt 3 (3 + k)) e ∙ ap (λ (v : Bool). nat_lt 3 (cond v (3 + sample_count (pnm_info format (w ∷ h ∷ n ∷ []))) 3)) (sym p)

-- one more sample
pub sample_due : (format w h m : ℕ) (samples : List ℕ) (n count before long : ℕ) → count ≡ sample_count (pnm_info format (w ∷ h ∷ m ∷ (samples ++ n ∷ []))) → is_plain format ≡ true → length samples ≡ before + long
    → nat_lt long (count - 1 - before) ≡ is_number_due format (w ∷ h ∷ m ∷ (samples ++ n ∷ []))
sample_due format w h m samples n count before long e p l =
    let more = length-append samples (n ∷ []) in
    let shift : nat_lt long (count - 1 - before) ≡ nat_lt (3 + (before + long + 1)) (3 + count) = grind (arith, nat_tests) in
    let at : length (w ∷ h ∷ m ∷ (samples ++ n ∷ [])) ≡ 3 + (before + long + 1) = omega (arith, more, l) in
    shift ∙ ap (λ k. nat_lt (3 + (before + long + 1)) (3 + k)) e ∙ ap (λ k. nat_lt k (3 + sample_count (pnm_info format (w ∷ h ∷ m ∷ (samples ++ n ∷ []))))) (sym at)
    ∙ ap (λ (v : Bool). nat_lt (length (w ∷ h ∷ m ∷ (samples ++ n ∷ []))) (cond v (3 + sample_count (pnm_info format (w ∷ h ∷ m ∷ (samples ++ n ∷ [])))) 3)) (sym p)
