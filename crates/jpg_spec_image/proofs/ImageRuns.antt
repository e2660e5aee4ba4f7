-- The state at the end of some bytes is found by reading them one by one.
use Rattle.std.proofs.Common.{◌≡◌, ℕ, ◌+◌, ◌-◌, ◌*◌, ◌<◌, ◌≤◌, Bool, true, false, cond, not, ◌&&◌, ◌==◌, List, [], ◌∷◌, ◌++◌, refl, sym, ap, ◌∙◌, arith, None, Some}
use Rattle.std.specs.Prelude.{◌||◌, nat_lt, nat_le}
use Rattle.std.proofs.lemmas.Bool.Decides.{nat_tests}
use Rattle.jpg_spec.specs.Lists.{all_of, is_empty}
use Rattle.jpg_spec.specs.NumberTexts.{is_digit, digits_from, in_comment, without_comments, NumberWord, number_text}
use Rattle.jpg_spec.proofs.Basics.Common.{both, or_right, le_of, not_lt_of, negated}
use Rattle.jpg_spec_image.specs.Images.{is_side, are_few_pixels}
use Rattle.jpg_spec_image.specs.PnmText.{is_pnm_space, begins_gap, ends_in_comment, is_gap_so_far, is_gap, is_number_word, parsed_number, number_fault, greatest_sample, ended_fault}
use Rattle.jpg_spec_image.specs.ImageSteps.{ImageState, in_gap, in_number, failed, fault_or, capped, after_number, step, run}
use Rattle.jpg_spec.specs.declared.fault.Fault.TheVariants.{ImageText, ImageHeader, ImageUnsupported, ImageValue}

pub run_join : (s : ImageState) (xs ys : List ℕ) → run s (xs ++ ys) ≡ run (run s xs) ys
unfolding run
run_join s [] ys = refl
run_join s (x ∷ xs) ys = run_join (step s x) xs ys

-- BYTES of gaps and digits

pub digit_no_gap : (b : ℕ) → is_digit b ≡ true → begins_gap b ≡ false
digit_no_gap b e =
    let l = le_of 48 b (both (nat_le 48 b) (nat_le b 57) e).0 in
    grind (arith, nat_tests, l)

pub gap_no_digit : (b : ℕ) → begins_gap b ≡ true → is_digit b ≡ false
gap_no_digit b e = by (is_digit b) refl
  where
    by : (v : Bool) → is_digit b ≡ v → is_digit b ≡ false
    by true f = let g : ⊥ = cc_of (begins_gap b) e (digit_no_gap b f) in absurd g
      where
        cc_of : (w : Bool) → w ≡ true → w ≡ false → ⊥
        cc_of w p q = cc
    by false f = f

small_digit : (b : ℕ) → is_digit b ≡ true → b - 48 ≤ 9
small_digit b e = let h = le_of b 57 (both (nat_le 48 b) (nat_le b 57) e).1 in omega (arith, h)

-- A GAP

-- a byte of a gap, in a comment or not
gap_goes_on : (format : ℕ) (numbers : List ℕ) (some commented : Bool) (b : ℕ) → (commented || begins_gap b) ≡ true → step (in_gap format numbers some commented) b ≡ in_gap format numbers true (in_comment commented b)
gap_goes_on format numbers some commented b e = ap (λ (v : Bool). cond v (in_gap format numbers true (in_comment commented b)) (cond (some && is_digit b) (in_number format numbers (b - 48)) (failed ImageText))) e

pub in_gap_yet : (commented : Bool) (b : ℕ) → is_pnm_space (cond (in_comment commented b) 32 b) ≡ true → (commented || begins_gap b) ≡ true
in_gap_yet true b e = refl
in_gap_yet false b e = by (b == 35) e
  where
    by : (v : Bool) → is_pnm_space (cond v 32 b) ≡ true → (is_pnm_space b || v) ≡ true
    by true e = or_right (is_pnm_space b) true refl
    by false e = ap (λ (w : Bool). w || false) e

gap_run : (format : ℕ) (numbers : List ℕ) (commented : Bool) (gap : List ℕ) → all_of is_pnm_space (without_comments commented gap) ≡ true
    → run (in_gap format numbers true commented) gap ≡ in_gap format numbers true (ends_in_comment commented gap)
unfolding run
gap_run format numbers commented [] e = refl
gap_run format numbers commented (b ∷ gap) e =
    let s = both (is_pnm_space (cond (in_comment commented b) 32 b)) (all_of is_pnm_space (without_comments (in_comment commented b) gap)) e in
    ap (λ x. run x gap) (gap_goes_on format numbers true commented b (in_gap_yet commented b s.0)) ∙ gap_run format numbers (in_comment commented b) gap s.1

pub some_gap_run : (format : ℕ) (numbers : List ℕ) (some : Bool) (gap : List ℕ) → is_gap_so_far gap ≡ true → is_empty gap ≡ false
    → run (in_gap format numbers some false) gap ≡ in_gap format numbers true (ends_in_comment false gap)
unfolding run
some_gap_run format numbers some [] e n = cc
some_gap_run format numbers some (b ∷ gap) e n =
    let s = both (is_pnm_space (cond (in_comment false b) 32 b)) (all_of is_pnm_space (without_comments (in_comment false b) gap)) e in
    ap (λ x. run x gap) (gap_goes_on format numbers some false b (in_gap_yet false b s.0)) ∙ gap_run format numbers (in_comment false b) gap s.1

-- A NUMBER

pub capped_more : (n d : ℕ) → capped (10 * capped n + d) ≡ capped (10 * n + d)
capped_more n d = omega arith

pub capped_small : (n : ℕ) → n ≤ 65500 → capped n ≡ n
capped_small n h = omega (arith, h)

digits_run : (format : ℕ) (numbers : List ℕ) (n : ℕ) (digits : List ℕ) → all_of is_digit digits ≡ true
    → run (in_number format numbers (capped n)) digits ≡ in_number format numbers (capped (digits_from n digits))
unfolding run
digits_run format numbers n [] e = refl
digits_run format numbers n (d ∷ digits) e =
    let s = both (is_digit d) (all_of is_digit digits) e in
    ap (λ x. run x digits)
    (ap (λ (v : Bool). cond v (in_number format numbers (capped (10 * capped n + (d - 48)))) (fault_or (ended_fault format numbers (capped n) d) (after_number format (numbers ++ capped n ∷ []) d))) s.0
    ∙ ap (in_number format numbers) (capped_more n (d - 48)))
    ∙ digits_run format numbers (10 * n + (d - 48)) digits s.1

pub first_digit : (format : ℕ) (numbers : List ℕ) (d : ℕ) → is_digit d ≡ true → step (in_gap format numbers true false) d ≡ in_number format numbers (capped (d - 48))
first_digit format numbers d e =
    let h = small_digit d e in
    let c : d - 48 ≡ capped (d - 48) = omega (arith, h) in
    ap (λ (v : Bool). cond v (in_gap format numbers true (in_comment false d)) (cond (true && is_digit d) (in_number format numbers (d - 48)) (failed ImageText))) (digit_no_gap d e)
    ∙ ap (λ (v : Bool). cond v (in_number format numbers (d - 48)) (failed ImageText)) e
    ∙ ap (in_number format numbers) c

pub word_run : (format : ℕ) (numbers : List ℕ) (w : NumberWord) → is_number_word w ≡ true
    → run (in_gap format numbers false false) (number_text w) ≡ in_number format numbers (capped (parsed_number w))
unfolding run
word_run format numbers w e =
    let s = both (is_gap w.gap) (not (is_empty w.digits) && all_of is_digit w.digits) e in
    let g = both (is_gap_so_far w.gap && not (ends_in_comment false w.gap)) (not (is_empty w.gap)) s.0 in
    let h = both (is_gap_so_far w.gap) (not (ends_in_comment false w.gap)) g.0 in
    let d = both (not (is_empty w.digits)) (all_of is_digit w.digits) s.1 in
    run_join (in_gap format numbers false false) w.gap w.digits
    ∙ ap (λ x. run x w.digits) (some_gap_run format numbers false w.gap h.0 (negated (is_empty w.gap) g.1) ∙ ap (in_gap format numbers true) (negated (ends_in_comment false w.gap) h.1))
    ∙ all_digits w.digits (negated (is_empty w.digits) d.0) d.1
  where
    all_digits : (digits : List ℕ) → is_empty digits ≡ false → all_of is_digit digits ≡ true → run (in_gap format numbers true false) digits ≡ in_number format numbers (capped (digits_from 0 digits))
    all_digits [] n a = cc
    all_digits (b ∷ digits) n a =
        let s = both (is_digit b) (all_of is_digit digits) a in
        let z : b - 48 ≡ 10 * 0 + (b - 48) = omega arith in
        ap (λ x. run x digits) (first_digit format numbers b s.0) ∙ digits_run format numbers (b - 48) digits s.1
        ∙ ap (λ k. in_number format numbers (capped (digits_from k digits))) z

too_large : (w n : ℕ) → nat_le n 65500 ≡ false → number_fault (w ∷ []) n ≡ Some ImageHeader
too_large w n e = by (nat_le 1 n) (are_few_pixels w n)
  where
    by : (u x : Bool) → cond ((u && nat_le n 65500) && x) None (Some ImageHeader) ≡ Some ImageHeader
    by true x = ap (λ (v : Bool). cond (v && x) None (Some ImageHeader)) e
    by false x = refl

capped_height : (w n : ℕ) → number_fault (w ∷ []) (capped n) ≡ number_fault (w ∷ []) n
capped_height w n = by (nat_le n 100000) refl
  where
    by : (v : Bool) → nat_le n 100000 ≡ v → number_fault (w ∷ []) (capped n) ≡ number_fault (w ∷ []) n
    by true e = let l = le_of n 100000 e in let c : capped n ≡ n = omega (arith, l) in ap (number_fault (w ∷ [])) c
    by false e =
        let g : 100000 < n = grind (arith, nat_tests) in
        let a : nat_le (capped n) 65500 ≡ false = grind (arith, nat_tests) in
        let b : nat_le n 65500 ≡ false = grind (arith, nat_tests) in
        too_large w (capped n) a ∙ sym (too_large w n b)

capped_below : (n m : ℕ) → m ≤ 255 → nat_lt m (capped n) ≡ nat_lt m n
capped_below n m h = grind (arith, nat_tests)

-- capping a number doesn't change its fault
pub capped_fault : (numbers : List ℕ) (n : ℕ) → greatest_sample numbers ≤ 255 → number_fault numbers (capped n) ≡ number_fault numbers n
capped_fault [] n h = ap (λ (v : Bool). cond v None (Some ImageHeader)) side
  where
    side : is_side (capped n) ≡ is_side n
    side = grind (arith, nat_tests)
capped_fault (w ∷ []) n h = capped_height w n
capped_fault (w ∷ g ∷ []) n h = ap (λ (v : Bool). cond v (Some ImageHeader) (cond (nat_lt 255 (capped n)) (Some ImageUnsupported) None)) none ∙ ap (λ (v : Bool). cond (n == 0) (Some ImageHeader) (cond v (Some ImageUnsupported) None)) (capped_below n 255 (omega arith))
  where
    none : (capped n == 0) ≡ (n == 0)
    none = grind (arith, nat_tests)
capped_fault (w ∷ g ∷ m ∷ numbers) n h = ap (λ (v : Bool). cond v (Some ImageValue) None) (capped_below n m h)

-- a number without a fault isn't capped
pub right_small : (numbers : List ℕ) (n : ℕ) → greatest_sample numbers ≤ 255 → number_fault numbers n ≡ None → capped n ≡ n
right_small numbers n h e = capped_small n (small numbers h e)
  where
    sided : (x : Bool) → cond (is_side n && x) None (Some ImageHeader) ≡ None → n ≤ 65500
    sided x e = by (nat_le 1 n) (nat_le n 65500) refl e
      where
        by : (u v : Bool) → nat_le n 65500 ≡ v → cond ((u && v) && x) None (Some ImageHeader) ≡ None → n ≤ 65500
        by true true p e = le_of n 65500 p
        by true false p e = cc
        by false v p e = cc

    small : (numbers : List ℕ) → greatest_sample numbers ≤ 255 → number_fault numbers n ≡ None → n ≤ 65500
    small [] h e = by (nat_le 1 n) (nat_le n 65500) refl e
      where
        by : (u v : Bool) → nat_le n 65500 ≡ v → cond (u && v) None (Some ImageHeader) ≡ None → n ≤ 65500
        by true true p e = le_of n 65500 p
        by true false p e = cc
        by false v p e = cc
    small (w ∷ []) h e = sided (are_few_pixels w n) e
    small (w ∷ g ∷ []) h e = by (n == 0) (nat_lt 255 n) refl e
      where
        by : (u v : Bool) → nat_lt 255 n ≡ v → cond u (Some ImageHeader) (cond v (Some ImageUnsupported) None) ≡ None → n ≤ 65500
        by true v p e = cc
        by false true p e = cc
        by false false p e = let l = not_lt_of 255 n p in omega (arith, l)
    small (w ∷ g ∷ m ∷ numbers) h e = by (nat_lt m n) refl e
      where
        by : (u : Bool) → nat_lt m n ≡ u → cond u (Some ImageValue) None ≡ None → n ≤ 65500
        by true p e = cc
        by false p e = let l = not_lt_of m n p in omega (arith, l, h)
