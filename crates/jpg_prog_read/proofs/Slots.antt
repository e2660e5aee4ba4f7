-- The contents of slots, some of which are empty, when one is written.
use Rattle.std.proofs.Common.{◌≡◌, ℕ, zero, suc, ◌<◌, List, [], ◌∷◌, length, set, refl, ap, arith}
use Rattle.std.specs.Prelude.{Option, None, Some, slice_get}
use Rattle.jpg_spec.specs.Lists.{slot_value}

pub at_set : {X : Type 0} → (slots : List (Option X)) (c : ℕ) (o : Option X) → c < length slots → slot_value (slice_get (set slots c o) c) ≡ o
at_set [] c o h = absurd (omega (arith, h))
at_set (q ∷ slots) zero None h = refl
at_set (q ∷ slots) zero (Some x) h = refl
at_set (q ∷ slots) (suc c) o h = at_set slots c o (omega (arith, h))

pub other_set : {X : Type 0} → (slots : List (Option X)) (c k : ℕ) (o : Option X) → (k ≡ c → ⊥) → slice_get (set slots c o) k ≡ slice_get slots k
other_set [] c k o n = refl
other_set (q ∷ slots) zero zero o n = absurd (n refl)
other_set (q ∷ slots) zero (suc k) o n = refl
other_set (q ∷ slots) (suc c) zero o n = refl
other_set (q ∷ slots) (suc c) (suc k) o n = other_set slots c k o (λ e. n (ap suc e))

-- four slots that are empty
pub all_empty : {X : Type 0} (k : ℕ) (x : X) → slot_value (slice_get (let slots : List (Option X) = None ∷ None ∷ None ∷ None ∷ [] in slots) k) ≡ Some x → ⊥
all_empty zero x e = cc
all_empty (suc zero) x e = cc
all_empty (suc (suc zero)) x e = cc
all_empty (suc (suc (suc zero))) x e = cc
all_empty (suc (suc (suc (suc k)))) x e = cc
