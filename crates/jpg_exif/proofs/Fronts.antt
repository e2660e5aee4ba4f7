-- The test for a prefix, as the standard library computes it.
use Rattle.std.proofs.Common.{◌≡◌, ℕ, List, [], ◌∷◌, length, take, refl, ap}
use Rattle.std.specs.Prelude.{◌==◌, ◌&&◌}
use lib.Pointwise.{pointwise}
use Rattle.jpg_spec.specs.Lists.{begins_with}

pub starts_is : (front rest : List ℕ) → pointwise (λ a b. a == b) front (take (length front) rest) ≡ begins_with front rest
starts_is [] rest = refl
starts_is (b ∷ front) [] = refl
starts_is (b ∷ front) (x ∷ rest) = ap (λ r. b == x && r) (starts_is front rest)
