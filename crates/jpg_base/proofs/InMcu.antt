-- The block of a number in an MCU, part by part.
use Rattle.std.proofs.Common.{◌≡◌, ◌<◌, ◌≤◌, ◌+◌, ◌-◌, ◌*◌, ◌/◌, ◌%◌, ◌∷◌, List, ℕ, length, drop, get_or, sym, ap, ◌∙◌, subst, arith}
use Rattle.std.specs.Prelude.{map}
use Rattle.std.proofs.lemmas.List.{drop_more, length-map, get_or-map}
use Rattle.std.specs.List.{All}
use Rattle.std.proofs.lemmas.List.Sums.{sum_by-cons}
use Rattle.jpg_spec.specs.FrameHeader.{HasFactors}
use Rattle.jpg_spec.specs.Geometry.{Frame, factor_sum, component_at, place}
use Rattle.jpg_spec.specs.declared.frame.ScanPart.{ScanPart}
use Rattle.jpg_spec.specs.declared.frame.Place.{Place}
use Rattle.jpg_base.specs.declared.cursor.CursorPart.{CursorPart}
use Rattle.jpg_base.specs.Cursor.{cursor_part_of, spot_of}
use Rattle.jpg_base.proofs.UnitCounts.{mcu_from, in_part, after_part, some_factors}

ids_from : (parts : List ScanPart) (n : ℕ) (p : ScanPart) → n < length parts → map (λ (q : ScanPart). q.component) (drop n parts) ≡ (get_or parts n p).component ∷ map (λ (q : ScanPart). q.component) (drop (n + 1) parts)
ids_from parts n p h = ap (map (λ (q : ScanPart). q.component)) (drop_more parts n p h)

pub found_part : (f : Frame) (mx my : ℕ) (parts : List ScanPart) (n k : ℕ) (p : ScanPart) (d : Place) → n < length parts → 1 ≤ (component_at f (get_or parts n p).component).h
    → k < (component_at f (get_or parts n p).component).h * (component_at f (get_or parts n p).component).v
    → get_or (mcu_from f mx my (map (λ (q : ScanPart). q.component) (drop n parts))) k d
    ≡ place f (get_or parts n p).component (mx * (component_at f (get_or parts n p).component).h + k % (component_at f (get_or parts n p).component).h) (my * (component_at f (get_or parts n p).component).v + k / (component_at f (get_or parts n p).component).h)
found_part f mx my parts n k p d h some lt =
    ap (λ (ids : List ℕ). get_or (mcu_from f mx my ids) k d) (ids_from parts n p h) ∙ in_part f mx my (get_or parts n p).component k (map (λ (q : ScanPart). q.component) (drop (n + 1) parts)) d some lt

pub next_part : (f : Frame) (mx my : ℕ) (parts : List ScanPart) (n k : ℕ) (p : ScanPart) (d : Place) → n < length parts
    → (component_at f (get_or parts n p).component).h * (component_at f (get_or parts n p).component).v ≤ k
    → get_or (mcu_from f mx my (map (λ (q : ScanPart). q.component) (drop n parts))) k d
    ≡ get_or (mcu_from f mx my (map (λ (q : ScanPart). q.component) (drop (n + 1) parts))) (k - (component_at f (get_or parts n p).component).h * (component_at f (get_or parts n p).component).v) d
next_part f mx my parts n k p d h le =
    ap (λ (ids : List ℕ). get_or (mcu_from f mx my ids) k d) (ids_from parts n p h) ∙ after_part f mx my (get_or parts n p).component k (map (λ (q : ScanPart). q.component) (drop (n + 1) parts)) d le

pub fewer_left : (f : Frame) (parts : List ScanPart) (n k : ℕ) (p : ScanPart) → n < length parts → k < factor_sum f (map (λ (q : ScanPart). q.component) (drop n parts))
    → (component_at f (get_or parts n p).component).h * (component_at f (get_or parts n p).component).v ≤ k
    → k - (component_at f (get_or parts n p).component).h * (component_at f (get_or parts n p).component).v < factor_sum f (map (λ (q : ScanPart). q.component) (drop (n + 1) parts))
fewer_left f parts n k p h lt le =
    let ids = map (λ (q : ScanPart). q.component) (drop (n + 1) parts) in
    let i = (get_or parts n p).component in
    omega (arith, lt, ap (factor_sum f) (ids_from parts n p h), sum_by-cons (λ (j : ℕ). (component_at f j).h * (component_at f j).v) i ids)

pub spot_same : (f : Frame) (i : ℕ) (p : CursorPart) (column row k x y : ℕ) → p ≡ cursor_part_of f i → x ≡ column * p.h + k % p.h → y ≡ row * p.v + k / p.h
    → spot_of p x y ≡ place f i (column * (component_at f i).h + k % (component_at f i).h) (row * (component_at f i).v + k / (component_at f i).h)
spot_same f i p column row k x y e ex ey =
    ap (λ (n : ℕ). spot_of p n y) ex ∙ ap (λ (n : ℕ). spot_of p (column * p.h + k % p.h) n) ey
    ∙ ap (λ (q : CursorPart). spot_of q (column * q.h + k % q.h) (row * q.v + k / q.h)) e

ids_there : (f : Frame) (parts : List ScanPart) → All (λ p. p.component < length f.components) parts
    → All (λ i. i < length f.components) (map (λ (p : ScanPart). p.component) parts)
ids_there f parts all k d h =
    let z : ScanPart = record { component = 0; dc = 0; ac = 0 } in
    let lt : k < length parts = omega (arith, h, length-map parts (λ (p : ScanPart). p.component)) in
    subst (λ (n : ℕ). n < length f.components) (sym (get_or-map (λ (p : ScanPart). p.component) parts k z d lt)) (all k z lt)

abbrev pub ids_of : List ScanPart → List ℕ
ids_of parts = map (λ (p : ScanPart). p.component) parts

-- the components of several parts
pub record AreSeveral (f : Frame) (ids : List ℕ) : Type 0 where
  pub two : 2 ≤ length ids
  pub some : 1 ≤ factor_sum f ids

pub several_are : (f : Frame) (parts : List ScanPart) → All HasFactors f.components → 2 ≤ length parts → All (λ p. p.component < length f.components) parts
    → AreSeveral f (ids_of parts)
several_are f parts factors several there =
    let two : 2 ≤ length (ids_of parts) = omega (arith, length-map parts (λ (p : ScanPart). p.component), several) in
    record { two = two; some = some_factors f (ids_of parts) factors (omega (arith, two)) (ids_there f parts there) }
