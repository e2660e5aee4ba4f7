-- The blocks that a scan writes with their places, and the blocks that it leads to.
use Rattle.std.proofs.Common.{◌≡◌, ℕ, zero, suc, Bool, true, false, cond, List, [], ◌∷◌, ◌++◌, length, refl, ap, ◌∙◌, arith, ℤ, pos, ◌==◌, ◌&&◌}
use Rattle.std.specs.Prelude.{◌||◌, map, flat_map, int_le, nat_abs, slice_index_or}
use Rattle.std.specs.List.{All}
use Rattle.std.proofs.lemmas.List.Elements.{All-nil, All-cons}
use Rattle.jpg_spec.specs.Lists.{any_of, joined}
use Rattle.jpg_spec.specs.Elements.{Coding, are_in_bounds, zeros}
use Rattle.jpg_spec.specs.Scan.{Blocks, block_at}
use Rattle.jpg_spec_write.specs.ScanText.{units_due, last_dc}
use Rattle.jpg_spec_write.specs.Written.{IsWritable}
use Rattle.jpg_spec.specs.PictureInWork.{is_at, AreDistinct}
use Rattle.jpg_spec.specs.declared.frame.Place.{Place}
use Rattle.jpg_spec.proofs.Places.PictureInWork.{is_at_same, is_at_swap}
use Rattle.jpg_spec.proofs.Basics.Common.{both, and_intro, neither}
use Rattle.jpg_spec.proofs.Basics.Each.{Each, each_map, each_join}

pub each_all : {A : Type 0} (P : A → Type 0) (xs : List A) → Each P xs → All P xs
each_all P [] h = All-nil P
each_all P (x ∷ xs) h = All-cons P x xs h.0 (each_all P xs h.1)

pub each_both : {A : Type 0} (P Q R : A → Type 0) (xs : List A) → ((x : A) → P x → Q x → R x) → Each P xs → Each Q xs → Each R xs
each_both P Q R [] f h k = tt
each_both P Q R (x ∷ xs) f h k = (f x h.0 k.0, each_both P Q R xs f h.1 k.1)

-- BLOCKS WITH THEIR PLACES, as an interval writes them

abbrev pub Placed : Type 0
Placed = Place × List ℤ

abbrev pub block_due : Blocks → (ℕ → ℤ) → Place → List ℤ
block_due blocks last p = cond p.real (block_at blocks p) (last p.component ∷ zeros 63)

abbrev pub placed_due : Blocks → (ℕ → ℤ) → List Place → List Placed
placed_due blocks last [] = []
placed_due blocks last (p ∷ places) = (p, block_due blocks last p) ∷ placed_due blocks (last_dc last p.component (block_due blocks last p)) places

pub placed_places : (blocks : Blocks) (last : ℕ → ℤ) (places : List Place) → map (λ (q : Placed). q.0) (placed_due blocks last places) ≡ places
placed_places blocks last [] = refl
placed_places blocks last (p ∷ places) = ap (λ ps. p ∷ ps) (placed_places blocks (last_dc last p.component (block_due blocks last p)) places)

-- of all intervals
abbrev pub all_placed : Blocks → List (List Place) → List Placed
all_placed blocks chunks = flat_map (λ places. placed_due blocks (λ i. pos 0) places) chunks

map_join : {A B : Type 0} (f : A → B) (xs ys : List A) → map f (xs ++ ys) ≡ map f xs ++ map f ys
map_join f [] ys = refl
map_join f (x ∷ xs) ys = ap (λ t. f x ∷ t) (map_join f xs ys)

pub all_places : (blocks : Blocks) (chunks : List (List Place)) → map (λ (q : Placed). q.0) (all_placed blocks chunks) ≡ joined chunks
all_places blocks [] = refl
all_places blocks (places ∷ chunks) =
    map_join (λ (q : Placed). q.0) (placed_due blocks (λ i. pos 0) places) (all_placed blocks chunks)
    ∙ ap (λ ps. ps ++ map (λ (q : Placed). q.0) (all_placed blocks chunks)) (placed_places blocks (λ i. pos 0) places)
    ∙ ap (λ ps. places ++ ps) (all_places blocks chunks)

-- THE BLOCKS AFTER: those that are placed, and elsewhere those before

abbrev pub found_at : List Placed → List ℤ → ℕ → ℕ → ℕ → List ℤ
found_at [] old i x y = old
found_at (q ∷ placed) old i x y = cond (is_at i x y q.0) q.1 (found_at placed old i x y)

abbrev pub blocks_after : List Placed → Blocks → Blocks
blocks_after placed before i x y = found_at placed (before i x y) i x y

pub found_none : (placed : List Placed) (old : List ℤ) (i x y : ℕ) → any_of (is_at i x y) (map (λ (q : Placed). q.0) placed) ≡ false → found_at placed old i x y ≡ old
found_none [] old i x y e = refl
found_none (q ∷ placed) old i x y e =
    let n = neither (is_at i x y q.0) (any_of (is_at i x y) (map (λ (q : Placed). q.0) placed)) e in
    ap (λ b. cond b q.1 (found_at placed old i x y)) n.0 ∙ found_none placed old i x y n.1

abbrev pub IsFound : Blocks → Placed → Type 0
IsFound after q = block_at after q.0 ≡ q.1

-- a further place that is none of these changes none of them
found_on : (q : Placed) (all : List Placed) (before : Blocks) (placed : List Placed) → any_of (is_at (q.0).component (q.0).x (q.0).y) (map (λ (r : Placed). r.0) placed) ≡ false
    → Each (IsFound (blocks_after all before)) placed → Each (IsFound (blocks_after (q ∷ all) before)) placed
found_on q all before [] e h = tt
found_on q all before (r ∷ placed) e h =
    let n = neither (is_at (q.0).component (q.0).x (q.0).y r.0) (any_of (is_at (q.0).component (q.0).x (q.0).y) (map (λ (r : Placed). r.0) placed)) e in
    (ap (λ b. cond b q.1 (block_at (blocks_after all before) r.0)) (is_at_swap r.0 q.0 ∙ n.0) ∙ h.0, found_on q all before placed n.1 h.1)

pub found_each : (before : Blocks) (placed : List Placed) → AreDistinct (map (λ (q : Placed). q.0) placed) → Each (IsFound (blocks_after placed before)) placed
found_each before [] d = tt
found_each before (q ∷ placed) d =
    (ap (λ b. cond b q.1 (block_at (blocks_after placed before) q.0)) (is_at_same q.0), found_on q placed before placed d.0 (found_each before placed d.1))

pub found_size : (placed : List Placed) (old : List ℤ) (i x y : ℕ) → length old ≡ 64 → Each (λ (q : Placed). length q.1 ≡ 64) placed → length (found_at placed old i x y) ≡ 64
found_size [] old i x y l h = l
found_size (q ∷ placed) old i x y l h = by (is_at i x y q.0) (found_size placed old i x y l h.1)
  where
    by : (b : Bool) → length (found_at placed old i x y) ≡ 64 → length (cond b q.1 (found_at placed old i x y)) ≡ 64
    by true later = h.0
    by false later = later

-- WHAT MAY BE WRITTEN

abbrev pub IsLast : Coding → ℤ → Type 0
IsLast c v = (int_le c.bounds.dc_low v && int_le v c.bounds.dc_high) ≡ true

abbrev pub IsRealSendable : Coding → Blocks → Place → Type 0
IsRealSendable c blocks p = p.real ≡ true → IsWritable c (p.component, block_at blocks p)

abbrev pub IsPlacedWritable : Coding → Placed → Type 0
IsPlacedWritable c q = IsWritable c ((q.0).component, q.1)

zeros_in_bounds : (c : Coding) (n : ℕ) → int_le (pos 0) c.bounds.ac ≡ true → are_in_bounds c.bounds false (zeros n) ≡ true
zeros_in_bounds c zero e = refl
zeros_in_bounds c (suc n) e = and_intro (int_le (pos (nat_abs (pos 0))) c.bounds.ac) (are_in_bounds c.bounds false (zeros n)) e (zeros_in_bounds c n e)

due_one : (c : Coding) (blocks : Blocks) (last : ℕ → ℤ) (p : Place) → int_le (pos 0) c.bounds.ac ≡ true → ((i : ℕ) → IsLast c (last i)) → IsRealSendable c blocks p → IsWritable c (p.component, block_due blocks last p)
due_one c blocks last p z l r = by p.real refl
  where
    by : (b : Bool) → p.real ≡ b → IsWritable c (p.component, cond b (block_at blocks p) (last p.component ∷ zeros 63))
    by true e = r e
    by false e = (refl, and_intro (int_le c.bounds.dc_low (last p.component) && int_le (last p.component) c.bounds.dc_high) (are_in_bounds c.bounds false (zeros 63)) (l p.component) (zeros_in_bounds c 63 z))

pub first_last : (c : Coding) (i : ℕ) (block : List ℤ) → IsWritable c (i, block) → IsLast c (slice_index_or block 0 (pos 0))
first_last c i [] w = let f : ⊥ = omega (arith, w.0) in absurd f
first_last c i (v ∷ block) w = (both (int_le c.bounds.dc_low v && int_le v c.bounds.dc_high) (are_in_bounds c.bounds false block) w.1).0

lasts_on : (c : Coding) (last : ℕ → ℤ) (component : ℕ) (block : List ℤ) → ((i : ℕ) → IsLast c (last i)) → IsWritable c (component, block) → (i : ℕ) → IsLast c (last_dc last component block i)
lasts_on c last component block l w i = by (i == component)
  where
    by : (b : Bool) → IsLast c (cond b (slice_index_or block 0 (pos 0)) (last i))
    by true = first_last c component block w
    by false = l i

pub placed_writable : (c : Coding) (blocks : Blocks) (last : ℕ → ℤ) (places : List Place) → int_le (pos 0) c.bounds.ac ≡ true → ((i : ℕ) → IsLast c (last i)) → Each (IsRealSendable c blocks) places → Each (IsPlacedWritable c) (placed_due blocks last places)
placed_writable c blocks last [] z l r = tt
placed_writable c blocks last (p ∷ places) z l r =
    let w = due_one c blocks last p z l r.0 in
    (w, placed_writable c blocks (last_dc last p.component (block_due blocks last p)) places z (lasts_on c last p.component (block_due blocks last p) l w) r.1)

pub due_writable : (c : Coding) (blocks : Blocks) (last : ℕ → ℤ) (places : List Place) → Each (IsPlacedWritable c) (placed_due blocks last places) → Each (IsWritable c) (units_due blocks last places)
due_writable c blocks last [] h = tt
due_writable c blocks last (p ∷ places) h = (h.0, due_writable c blocks (last_dc last p.component (block_due blocks last p)) places h.1)

pub placed_sizes : (c : Coding) (blocks : Blocks) (chunks : List (List Place)) → Each (λ places. Each (IsPlacedWritable c) (placed_due blocks (λ i. pos 0) places)) chunks → Each (λ (q : Placed). length q.1 ≡ 64) (all_placed blocks chunks)
placed_sizes c blocks [] h = tt
placed_sizes c blocks (places ∷ chunks) h =
    each_join (λ (q : Placed). length q.1 ≡ 64) (placed_due blocks (λ i. pos 0) places) (all_placed blocks chunks)
    (each_map (IsPlacedWritable c) (λ (q : Placed). length q.1 ≡ 64) (placed_due blocks (λ i. pos 0) places) (λ q w. w.0) h.0) (placed_sizes c blocks chunks h.1)

-- REAL PLACES have the blocks of the picture
pub found_real : (blocks before : Blocks) (placed : List Placed) (i x y : ℕ) → Each (λ (q : Placed). is_at i x y q.0 ≡ true → q.1 ≡ blocks i x y) placed → any_of (is_at i x y) (map (λ (q : Placed). q.0) placed) ≡ true
    → found_at placed (before i x y) i x y ≡ blocks i x y
found_real blocks before [] i x y h e = cc
found_real blocks before (q ∷ placed) i x y h e = by (is_at i x y q.0) refl e (λ k. found_real blocks before placed i x y h.1 k)
  where
    by : (b : Bool) → is_at i x y q.0 ≡ b → (b || any_of (is_at i x y) (map (λ (q : Placed). q.0) placed)) ≡ true
        → (any_of (is_at i x y) (map (λ (q : Placed). q.0) placed) ≡ true → found_at placed (before i x y) i x y ≡ blocks i x y)
        → cond b q.1 (found_at placed (before i x y) i x y) ≡ blocks i x y
    by true s k later = h.0 s
    by false s k later = later k
