-- Lists that are compared element by element.
use Rattle.std.proofs.Common.{◌≡◌, ℕ, Bool, ◌&&◌, List, [], ◌∷◌, refl, ap}
use lib.Dec.{eqb}
use lib.Pointwise.{pointwise}
use Rattle.jpg_spec.specs.Lists.{are_equal}

pub pointwise-are_equal : (xs ys : List ℕ) → pointwise eqb xs ys ≡ are_equal xs ys
pointwise-are_equal [] [] = refl
pointwise-are_equal [] (y ∷ ys) = refl
pointwise-are_equal (x ∷ xs) [] = refl
pointwise-are_equal (x ∷ xs) (y ∷ ys) = ap (λ (b : Bool). eqb x y && b) (pointwise-are_equal xs ys)
