-- The sequential script of a frame passes.
use Rattle.std.proofs.Common.{◌≡◌, ℕ, zero, suc, ◌≤◌, Bool, true, false, cond, not, List, [], ◌∷◌, ◌++◌, length, refl, ap, ◌∙◌, arith, ◌&&◌}
use Rattle.std.specs.Prelude.{map, nat_lt, nat_le}
use Rattle.jpg_spec.specs.Lists.{any_of, all_of, is_among, is_distinct, below}
use Rattle.jpg_spec.specs.Geometry.{Frame, factor_sum}
use Rattle.jpg_spec.specs.FrameHeader.{IsFrame}
use Rattle.jpg_spec_write.specs.Script.{Entry, sequential_script}
use Rattle.jpg_spec_write.specs.WrittenFile.{is_sequential_entry, is_script_after}

-- the same test, of a number of components and the sums of their factors
abbrev entry_test : ℕ → (List ℕ → ℕ) → List ℕ → Entry → Bool
entry_test n sum done e =
    (nat_le 1 (length e.components) && nat_le (length e.components) 4)
    && (all_of (λ i. nat_lt i n) e.components
    && (is_distinct e.components
    && (not (nat_lt 1 (length e.components) && nat_lt 10 (sum e.components)) && not (any_of (λ i. is_among i done) e.components))))

abbrev script_test : ℕ → (List ℕ → ℕ) → List ℕ → List Entry → Bool
script_test n sum done [] = all_of (λ i. is_among i done) (below n)
script_test n sum done (e ∷ script) = entry_test n sum done e && script_test n sum (e.components ++ done) script

same_test : (f : Frame) (done : List ℕ) (script : List Entry) → is_script_after f done script ≡ script_test (length f.components) (factor_sum f) done script
same_test f done [] = refl
same_test f done (e ∷ script) = ap (λ b. is_sequential_entry f done e && b) (same_test f (e.components ++ done) script)

abbrev entry_of : List ℕ → Entry
entry_of components = record { components = components; ss = 0; se = 63; ah = 0; al = 0 }

abbrev script_of : ℕ → (List ℕ → ℕ) → List Entry
script_of n sum = cond (nat_lt 1 n && nat_lt 10 (sum (below n))) (map (λ i. entry_of (i ∷ [])) (below n)) (entry_of (below n) ∷ [])

Passes : ℕ → Type 0
Passes n = (sum : List ℕ → ℕ) → script_test n sum [] (script_of n sum) ≡ true

passes_one : Passes 1
unfolding Passes
passes_one sum = refl

passes_two : Passes 2
unfolding Passes
passes_two sum = by (nat_lt 10 (sum (below 2))) refl
  where
    by : (b : Bool) → nat_lt 10 (sum (below 2)) ≡ b → script_test 2 sum [] (cond (true && b) (map (λ i. entry_of (i ∷ [])) (below 2)) (entry_of (below 2) ∷ [])) ≡ true
    by true e = refl
    by false e = ap (λ b. (not b && true) && true) e

passes_three : Passes 3
unfolding Passes
passes_three sum = by (nat_lt 10 (sum (below 3))) refl
  where
    by : (b : Bool) → nat_lt 10 (sum (below 3)) ≡ b → script_test 3 sum [] (cond (true && b) (map (λ i. entry_of (i ∷ [])) (below 3)) (entry_of (below 3) ∷ [])) ≡ true
    by true e = refl
    by false e = ap (λ b. (not b && true) && true) e

passes_four : Passes 4
unfolding Passes
passes_four sum = by (nat_lt 10 (sum (below 4))) refl
  where
    by : (b : Bool) → nat_lt 10 (sum (below 4)) ≡ b → script_test 4 sum [] (cond (true && b) (map (λ i. entry_of (i ∷ [])) (below 4)) (entry_of (below 4) ∷ [])) ≡ true
    by true e = refl
    by false e = ap (λ b. (not b && true) && true) e

all_pass : (n : ℕ) → 1 ≤ n → n ≤ 4 → Passes n
all_pass zero l h = absurd (omega (arith, l))
all_pass (suc zero) l h = passes_one
all_pass (suc (suc zero)) l h = passes_two
all_pass (suc (suc (suc zero))) l h = passes_three
all_pass (suc (suc (suc (suc zero)))) l h = passes_four
all_pass (suc (suc (suc (suc (suc n))))) l h = absurd (omega (arith, h))

pub sequential_passes : (f : Frame) → IsFrame f → is_script_after f [] (sequential_script f) ≡ true
unfolding Passes
sequential_passes f is = same_test f [] (sequential_script f) ∙ all_pass (length f.components) is.count_low is.count_high (factor_sum f)
