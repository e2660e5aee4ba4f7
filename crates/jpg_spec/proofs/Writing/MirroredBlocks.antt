-- Blocks mirrored left to right: 64 values again, and mirrored twice what they were.
use Rattle.std.proofs.Common.{◌≡◌, ℕ, suc, ◌%◌, ◌≤◌, Bool, true, false, cond, List, [], ◌∷◌, length, refl, ap, ◌∙◌, arith, ℤ, ◌==◌}
use Rattle.std.specs.Prelude.{map, zip, neg_ℤ}
use Rattle.std.proofs.Math.IntN.{neg_ℤ-neg_ℤ}

abbrev pub mirror_at : List ℕ → List ℤ → List ℤ
mirror_at places block = map (λ p. cond (p.0 % 2 == 1) (neg_ℤ p.1) p.1) (zip places block)

pub length_mirror : (places : List ℕ) (block : List ℤ) → length block ≤ length places → length (mirror_at places block) ≡ length block
length_mirror [] [] h = refl
length_mirror (n ∷ places) [] h = refl
length_mirror [] (v ∷ block) h = absurd (omega arith)
length_mirror (n ∷ places) (v ∷ block) h = ap suc (length_mirror places block (omega arith))

sign_twice : (b : Bool) (v : ℤ) → cond b (neg_ℤ (cond b (neg_ℤ v) v)) (cond b (neg_ℤ v) v) ≡ v
sign_twice true v = neg_ℤ-neg_ℤ v
sign_twice false v = refl

pub mirror_twice : (places : List ℕ) (block : List ℤ) → length block ≤ length places → mirror_at places (mirror_at places block) ≡ block
mirror_twice [] [] h = refl
mirror_twice (n ∷ places) [] h = refl
mirror_twice [] (v ∷ block) h = absurd (omega arith)
mirror_twice (n ∷ places) (v ∷ block) h = ap (λ t. t ∷ mirror_at places (mirror_at places block)) (sign_twice (n % 2 == 1) v) ∙ ap (λ t. v ∷ t) (mirror_twice places block (omega arith))

abbrev pub IsBlock : List ℤ → Type 0
IsBlock block = length block ≡ 64
