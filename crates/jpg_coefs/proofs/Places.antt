-- The places of a scan, and the part of its header for a component.
use Rattle.std.proofs.Common.{◌≡◌, ℕ, zero, suc, ◌+◌, ◌-◌, ◌<◌, ◌≤◌, ◌==◌, Bool, true, false, cond, List, [], ◌∷◌, length, take, drop, Some, refl, sym, ap, ◌∙◌, subst, arith}
use Rattle.std.specs.Prelude.{map, slice_get, slice_index_or, nat_lt, ◌||◌}
use Rattle.std.specs.List.{All}
use Rattle.std.proofs.lemmas.List.Elements.{All-head, All-nil, All-cons}
use Rattle.jpg_spec.specs.Lists.{index_of, is_among}
use Rattle.jpg_spec.specs.Geometry.{Frame, IsReal, component_at, blocks_across, blocks_down, units}
use Rattle.jpg_spec.specs.FrameHeader.{IsFrame}
use Rattle.jpg_spec.specs.Segments.{ScanHead, head_components}
use Rattle.jpg_spec.specs.declared.frame.Place.{Place}
use Rattle.jpg_spec.specs.declared.frame.ScanPart.{ScanPart}
use Rattle.jpg_base.specs.Cursor.{AreIn}
use Rattle.jpg_spec.proofs.Basics.Common.{both, lt_of, same_of}
use Rattle.jpg_spec.proofs.Basics.Each.{Each}
use Rattle.jpg_spec.proofs.Places.PlacesSome.{units_some}
use Rattle.jpg_spec.proofs.Places.PlacesFound.{each_units}
use Rattle.jpg_coefs.specs.Sinks.{IsScanPlace}

-- THE PART OF A COMPONENT

abbrev pub found_part : List ScanPart → ℕ → ScanPart
found_part parts i = slice_index_or parts (index_of i (map (λ p. p.component) parts)) (record { component = i; dc = 0; ac = 0 })

pub part_here : (p : ScanPart) (parts : List ScanPart) (i : ℕ) → (p.component == i) ≡ true → found_part (p ∷ parts) i ≡ p
part_here p parts i e =
    ap (λ b. slice_index_or (p ∷ parts) (cond b 0 (1 + index_of i (map (λ p. p.component) parts))) (record { component = i; dc = 0; ac = 0 })) e

pub part_later : (p : ScanPart) (parts : List ScanPart) (i : ℕ) → (p.component == i) ≡ false → found_part (p ∷ parts) i ≡ found_part parts i
part_later p parts i n =
    let k = index_of i (map (λ p. p.component) parts) in
    let e : 1 + k ≡ suc k = omega arith in
    ap (λ b. slice_index_or (p ∷ parts) (cond b 0 (1 + k)) (record { component = i; dc = 0; ac = 0 })) n
    ∙ ap (λ m. slice_index_or (p ∷ parts) m (record { component = i; dc = 0; ac = 0 })) e

-- PLACES

pub is_real_place : (f : Frame) (head : ScanHead) (p : Place) → IsScanPlace f head p → p.real ≡ true → IsReal f p.component p.x p.y
is_real_place f head p is e =
    let b = both (nat_lt p.x (blocks_across f (component_at f p.component))) (nat_lt p.y (blocks_down f (component_at f p.component))) (sym is.real ∙ e) in
    record { component = is.there; across = lt_of p.x (blocks_across f (component_at f p.component)) b.0; down = lt_of p.y (blocks_down f (component_at f p.component)) b.1 }

all_each : (P : Place → Type 0) (places : List Place) → Each P places → All P places
all_each P [] e = All-nil P
all_each P (p ∷ places) e = All-cons P p places e.0 (all_each P places e.1)

among_there : (n : ℕ) (components : List ℕ) (i : ℕ) → All (λ j. j < n) components → is_among i components ≡ true → i < n
among_there n [] i all e = cc
among_there n (c ∷ components) i all e = by (c == i) refl e (λ k. among_there n components i (λ k d h. all (suc k) d (omega (arith, h))) k)
  where
    by : (b : Bool) → (c == i) ≡ b → (b || is_among i components) ≡ true → (is_among i components ≡ true → i < n) → i < n
    by true s k later = subst (λ j. j < n) (same_of c i s) (all 0 0 (omega arith))
    by false s k later = later k

pub each_place : (f : Frame) (head : ScanHead) → AreIn f (head_components head) → Each (IsScanPlace f head) (units f (head_components head))
each_place f head is =
    each_units (IsScanPlace f head) f (head_components head) (λ i x y e. record { named = e; there = among_there (length f.components) (head_components head) i is.there e; real = refl })

pub scan_places : (f : Frame) (head : ScanHead) → AreIn f (head_components head) → All (IsScanPlace f head) (units f (head_components head))
scan_places f head is = all_each (IsScanPlace f head) (units f (head_components head)) (each_place f head is)

pub some_places : (f : Frame) (head : ScanHead) → IsFrame f → AreIn f (head_components head) → 1 ≤ length (units f (head_components head))
some_places f head frame is = by (head_components head) is.some is.there
  where
    by : (parts : List ℕ) → 1 ≤ length parts → All (λ i. i < length f.components) parts → 1 ≤ length (units f parts)
    by [] some there = absurd (omega (arith, some))
    by (i ∷ parts) some there = units_some f i parts frame (there 0 0 (omega arith))

-- the first place of those that are left
pub taken : (n : ℕ) (places : List Place) (p : Place) → slice_get places 0 ≡ Some p → 1 ≤ n → take n places ≡ p ∷ take (n - 1) (drop 1 places)
taken n [] p e h = cc
taken zero (q ∷ places) p e h = absurd (omega (arith, h))
taken (suc n) (q ∷ places) p e h =
    let k : suc n - 1 ≡ n = omega arith in
    let s : q ≡ p = once q p e in
    ap (λ x. x ∷ take n places) s ∙ ap (λ m. p ∷ take m places) (sym k)
  where
    once : (a b : Place) → Some a ≡ Some b → a ≡ b
    once a b e = cc

pub first_is : (P : Place → Type 0) (places : List Place) (p : Place) → All P places → slice_get places 0 ≡ Some p → P p
first_is P [] p all e = cc
first_is P (q ∷ places) p all e = subst P (once q p e) (All-head P q places all)
  where
    once : (a b : Place) → Some a ≡ Some b → a ≡ b
    once a b e = cc
