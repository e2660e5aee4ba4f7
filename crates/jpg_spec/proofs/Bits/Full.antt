-- The typical tables have codes for all that a sequential scan of precision 8 sends.
use Rattle.std.proofs.Common.{◌≡◌, ◌≢◌, ℕ, zero, suc, ◌<◌, Bool, true, List, ap, ◌∙◌, arith, ⊎_elim, ◌&&◌}
use Rattle.std.specs.List.{Contains}
use Rattle.std.proofs.lemmas.Bool.{cases_eq}
use Rattle.jpg_spec.specs.Codes.{Code}
use Rattle.jpg_spec.proofs.Basics.Common.{both}

-- TESTS on all numbers below one

abbrev pub all_pass : ℕ → (ℕ → Bool) → Bool
all_pass zero test = true
all_pass (suc n) test = test n && all_pass n test

pub passed : (n : ℕ) (test : ℕ → Bool) → all_pass n test ≡ true → (k : ℕ) → k < n → test k ≡ true
passed zero test e k h = let f : ⊥ = omega arith in absurd f
passed (suc n) test e k h =
    let b = both (test n) (all_pass n test) e in
    ⊎_elim (λ (s : k ≡ n). ap test s ∙ b.0) (λ (s : k ≢ n). passed n test b.1 k (omega arith)) (cases_eq k n)

abbrev pub Has : List Code → ℕ → Type 0
Has table symbol = (code : List Bool) × Contains table (code, symbol)
