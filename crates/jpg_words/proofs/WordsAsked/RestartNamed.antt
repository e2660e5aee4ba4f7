-- A B at the end of the value of -restart.
use Rattle.std.proofs.Common.{◌≡◌, ◌==◌, ◌++◌, ℕ, true, false, cond, List, [], ◌∷◌, refl, ap, ◌∙◌}
use Rattle.jpg_spec_words.specs.Requests.{ends_with_b, without_b}
use Rattle.jpg_spec_words.specs.Switches.{lower}

ends_after : (b c : ℕ) (rest : List ℕ) → ends_with_b (b ∷ rest ++ c ∷ []) ≡ ends_with_b (rest ++ c ∷ [])
ends_after b c [] = refl
ends_after b c (d ∷ rest) = refl

pub ends_at : (before : List ℕ) (c : ℕ) → ends_with_b (before ++ c ∷ []) ≡ (lower c == 98)
ends_at [] c = refl
ends_at (b ∷ before) c = ends_after b c before ∙ ends_at before c

-- a text without it
one_after : (b c : ℕ) (rest : List ℕ) → without_b (b ∷ rest ++ c ∷ []) ≡ b ∷ without_b (rest ++ c ∷ [])
one_after b c [] = refl
one_after b c (d ∷ rest) = refl

pub with_b : (before : List ℕ) (c : ℕ) → (lower c == 98) ≡ true → without_b (before ++ c ∷ []) ≡ before
with_b [] c is = ap (λ t. cond t [] (c ∷ [])) is
with_b (b ∷ before) c is = one_after b c before ∙ ap (λ t. b ∷ t) (with_b before c is)

pub no_b : (before : List ℕ) (c : ℕ) → (lower c == 98) ≡ false → without_b (before ++ c ∷ []) ≡ before ++ c ∷ []
no_b [] c not = ap (λ t. cond t [] (c ∷ [])) not
no_b (b ∷ before) c not = one_after b c before ∙ ap (λ t. b ∷ t) (no_b before c not)
