-- Encoders that are put into slots, one after another.
use Rattle.std.proofs.Common.{◌≡◌, ℕ, zero, suc, ◌<◌, ◌≤◌, ◌+◌, List, [], ◌∷◌, length, set, refl, sym, ap, subst, ◌∙◌, arith, lit<, ⊎_elim}
use Rattle.std.specs.Prelude.{Option, None, Some, slice_get}
use Rattle.std.specs.Option.{option_map}
use Rattle.std.proofs.lemmas.Bool.{cases_eq, cases_lt}
use Rattle.jpg_spec.specs.Lists.{slot_value}
use Rattle.jpg_huff.specs.declared.table.Table.{Table}
use Rattle.jpg_huff.specs.Sets.{in_slot}
use Rattle.jpg_huff.proofs.Sets.{four_slots}

at_slot : {Y : Type 0} (places : List (Option Y)) (n : ℕ) (o : Option Y) → n < length places → slot_value (slice_get (set places n o) n) ≡ o
at_slot [] n o h = absurd (omega arith)
at_slot (q ∷ places) zero None h = refl
at_slot (q ∷ places) zero (Some x) h = refl
at_slot (q ∷ places) (suc n) o h = at_slot places n o (omega arith)

other_slot : {Y : Type 0} (places : List (Option Y)) (n k : ℕ) (o : Option Y) → (k ≡ n → ⊥) → slice_get (set places n o) k ≡ slice_get places k
other_slot [] n k o h = refl
other_slot (q ∷ places) zero zero o h = absurd (h refl)
other_slot (q ∷ places) zero (suc k) o h = refl
other_slot (q ∷ places) (suc n) zero o h = refl
other_slot (q ∷ places) (suc n) (suc k) o h = other_slot places n k o (λ e. h (ap suc e))

below_of : (k n : ℕ) → k < suc n → (k ≡ n → ⊥) → k < n
below_of k n h other = ⊎_elim (λ (low : k < n). low) (λ (high : n ≤ k). absurd (other (omega (arith, h, high)))) (cases_lt k n)

-- the first n places have the tables of their slots
abbrev pub HasFirst : {Y : Type 0} → (Table → Y) → List (Option Table) → ℕ → List (Option Y) → Type 0
HasFirst f tables n places = (k : ℕ) → k < n → slot_value (slice_get places k) ≡ option_map f (in_slot tables k)

pub first_more : {Y : Type 0} (f : Table → Y) (tables : List (Option Table)) (n : ℕ) (places : List (Option Y)) (o : Option Y) → n < length places → o ≡ option_map f (in_slot tables n) → HasFirst f tables n places
    → HasFirst f tables (suc n) (set places n o)
first_more f tables n places o low is had k h =
    ⊎_elim (λ (e : k ≡ n). subst (λ m. slot_value (slice_get (set places n o) m) ≡ option_map f (in_slot tables m)) (sym e) (at_slot places n o low ∙ is))
    (λ (other : k ≡ n → ⊥). ap slot_value (other_slot places n k o other) ∙ had k (below_of k n h other)) (cases_eq k n)

pub all_slots : {Y : Type 0} (f : Table → Y) (tables : List (Option Table)) (places : List (Option Y)) → length tables ≡ 4 → length places ≡ 4 → HasFirst f tables 4 places
    → (slot : ℕ) → slot_value (slice_get places slot) ≡ option_map f (in_slot tables slot)
all_slots f tables (a ∷ b ∷ c ∷ d ∷ []) long four had = four_slots f tables a b c d long (had 0 (lit< tt)) (had 1 (lit< tt)) (had 2 (lit< tt)) (had 3 (lit< tt))
all_slots f tables other long four had = absurd (omega (arith, four))
