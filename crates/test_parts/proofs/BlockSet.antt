-- Values that are put into a block within the bounds.
use Rattle.std.proofs.Common.{◌≡◌, ℕ, zero, suc, ◌≤◌, true, false, List, [], ◌∷◌, refl, sym, ◌∙◌, subst, ℤ, pos, negsuc, ◌&&◌, arith}
use Rattle.std.specs.Prelude.{slice_set, int_le, nat_abs, neg_ℤ}
use Rattle.std.proofs.lemmas.Int.{ints}
use Rattle.std.proofs.lemmas.List.{length-set}
use Rattle.jpg_spec.specs.Elements.{are_in_bounds, IsBlockIn}
use Rattle.jpg_spec.specs.declared.frame.Bounds.{Bounds}
use Rattle.jpg_spec.proofs.Basics.Common.{both, and_intro, from_test, in_order}

set_ac : (r : Bounds) (values : List ℤ) (k : ℕ) (v : ℤ) → int_le (pos (nat_abs v)) r.ac ≡ true → are_in_bounds r false values ≡ true → are_in_bounds r false (slice_set values k v) ≡ true
set_ac r [] k v small ok = refl
set_ac r (w ∷ values) zero v small ok =
    and_intro (int_le (pos (nat_abs v)) r.ac) (are_in_bounds r false values) small (both (int_le (pos (nat_abs w)) r.ac) (are_in_bounds r false values) ok).1
set_ac r (w ∷ values) (suc k) v small ok =
    let h = both (int_le (pos (nat_abs w)) r.ac) (are_in_bounds r false values) ok in
    and_intro (int_le (pos (nat_abs w)) r.ac) (are_in_bounds r false (slice_set values k v)) h.0 (set_ac r values k v small h.1)

pub set_later : (r : Bounds) (block : List ℤ) (k : ℕ) (v : ℤ) → 1 ≤ k → int_le (pos (nat_abs v)) r.ac ≡ true → are_in_bounds r true block ≡ true → are_in_bounds r true (slice_set block k v) ≡ true
set_later r [] k v h small ok = refl
set_later r (w ∷ values) zero v h small ok = absurd (omega arith)
set_later r (w ∷ values) (suc k) v h small ok =
    let first = int_le r.dc_low w && int_le w r.dc_high in
    let b = both first (are_in_bounds r false values) ok in
    and_intro first (are_in_bounds r false (slice_set values k v)) b.0 (set_ac r values k v small b.1)

pub set_first : (r : Bounds) (block : List ℤ) (v : ℤ) → int_le r.dc_low v ≡ true → int_le v r.dc_high ≡ true → are_in_bounds r true block ≡ true → are_in_bounds r true (slice_set block 0 v) ≡ true
set_first r [] v low high ok = refl
set_first r (w ∷ values) v low high ok =
    and_intro (int_le r.dc_low v && int_le v r.dc_high) (are_in_bounds r false values) (and_intro (int_le r.dc_low v) (int_le v r.dc_high) low high)
    (both (int_le r.dc_low w && int_le w r.dc_high) (are_in_bounds r false values) ok).1

pub small_of : (v : ℤ) → int_le (neg_ℤ (pos 1023)) v ≡ true → int_le v (pos 1023) ≡ true → int_le (pos (nat_abs v)) (pos 1023) ≡ true
small_of (pos n) low high = high
small_of (negsuc n) low high =
    let h = from_test (neg_ℤ (pos 1023)) (negsuc n) low in
    in_order (pos (suc n)) (pos 1023) (omega (arith, ints))

pub block_set : (r : Bounds) (block : List ℤ) (k : ℕ) (v : ℤ) (new : List ℤ) → new ≡ slice_set block k v → IsBlockIn r block → are_in_bounds r true (slice_set block k v) ≡ true → IsBlockIn r new
block_set r block k v new e h ok = subst (IsBlockIn r) (sym e) (length-set block k v ∙ h.0, ok)
