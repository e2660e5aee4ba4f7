use Rattle.std.proofs.Common.{ℕ, [], ◌∷◌, refl, inl, inr, arith, ◌≡◌}
use Rattle.jpg_spec.specs.Markers.{soi}
use Rattle.jpg_spec.proofs.marker_examples.lengths_count_themselves.Goals as goal

not_code : (a b : ℕ) → a ≡ b → 224 ≡ b → a ≡ 224
not_code a b e f = omega (arith, e, f)

pub returns : goal.returns
returns c =
    inr (
      [],
      0xff ∷ 0xff ∷ 0xff ∷ 0xe0 ∷ 0x00 ∷ 0x01 ∷ [],
      record { front = soi; cut = refl; spelled = refl; passed = tt },
      inr (inr (inl (refl, (0xe0, 0xff ∷ 0xff ∷ 0xff ∷ 0xe0 ∷ [], 0, 1, ((2, refl, ((λ e. omega (arith, e)), (λ e. omega (arith, e)))), refl, (λ e. omega (arith, e))), refl, omega arith)))),
    )
