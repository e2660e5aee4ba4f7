-- What holds of each item of a list, of lists that are joined, and of rows.
use Rattle.std.proofs.Common.{List, [], ◌∷◌, ◌++◌, ℕ, sym, subst}
use Rattle.std.specs.Prelude.{flat_map}
use Rattle.jpg_spec.specs.Lists.{chunks}
use Rattle.jpg_spec.proofs.Files.BlocksOnce.{joined_chunks}

-- what holds of each
abbrev pub Each : {A : Type 0} → (A → Type 0) → List A → Type 0
Each P [] = Unit {0}
Each P (x ∷ xs) = P x × Each P xs

pub each_map : {A : Type 0} (P Q : A → Type 0) (xs : List A) → ((x : A) → P x → Q x) → Each P xs → Each Q xs
each_map P Q [] f h = tt
each_map P Q (x ∷ xs) f h = (f x h.0, each_map P Q xs f h.1)

pub each_join : {A : Type 0} (P : A → Type 0) (a b : List A) → Each P a → Each P b → Each P (a ++ b)
each_join P [] b h k = k
each_join P (x ∷ a) b h k = (h.0, each_join P a b h.1 k)

pub each_split : {A : Type 0} (P : A → Type 0) (a b : List A) → Each P (a ++ b) → Each P a × Each P b
each_split P [] b h = (tt, h)
each_split P (x ∷ a) b h = let k = each_split P a b h.1 in ((h.0, k.0), k.1)

-- LISTS OF LISTS

pub each_flat : {A B : Type 0} (P : B → Type 0) (g : A → List B) (xs : List A) → Each P (flat_map g xs) → Each (λ x. Each P (g x)) xs
each_flat P g [] h = tt
each_flat P g (x ∷ xs) h = let k = each_split P (g x) (flat_map g xs) h in (k.0, each_flat P g xs k.1)

pub each_rows : {A : Type 0} (P : A → Type 0) (n : ℕ) (xs : List A) → Each P xs → Each (λ row. Each P row) (chunks n xs)
each_rows P n xs h = each_flat P (λ row. row) (chunks n xs) (subst (λ l. Each P l) (sym (joined_chunks n xs)) h)
