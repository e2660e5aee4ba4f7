-- An interval's units, read one by one.
use Rattle.std.proofs.Common.{◌≡◌, ℕ, Bool, true, false, ◌==◌, ◌&&◌, List, [], ◌∷◌, ◌++◌, length, refl, sym, ap, ◌∙◌, subst, ℤ, pos}
use Rattle.std.specs.Prelude.{map, flat_map, slice_index_or}
use Rattle.std.proofs.lemmas.List.{append-nil}
use Rattle.std.proofs.lemmas.List.Concat.{flat_map-append}
use Rattle.jpg_spec.specs.Lists.{any_of}
use Rattle.jpg_spec.specs.Elements.{SpellsUnits}
use Rattle.jpg_spec.specs.Scan.{Blocks, Scan, band, block_at, unit_at, coefficient}
use Rattle.jpg_spec.specs.PictureInWork.{is_at, IntervalRead, UnitsRead, OneChanges}
use Rattle.jpg_spec.specs.declared.frame.Place.{Place}
use Rattle.jpg_spec.proofs.Places.PictureInWork.{AreApart, any_join, apart_swap, same_at}
use Rattle.jpg_spec.proofs.Basics.Common.{both, same_of, neither}

pub units_first : (s : Scan) (old : Blocks) → ((i x y : ℕ) → length (old i x y) ≡ 64) → UnitsRead s [] old old []
units_first s old sizes = record { told_there = refl; changes = record { elsewhere = λ i x y h. refl; outside = λ i x y k h. refl; sizes = sizes } }

-- what holds of the block at a place, and of all others, holds of all
by_place : (P : ℕ → ℕ → ℕ → Type 0) (p : Place) → P p.component p.x p.y → ((i x y : ℕ) → is_at i x y p ≡ false → P i x y) → (i x y : ℕ) → P i x y
by_place P p here others i x y = by (is_at i x y p) refl
  where
    by : (b : Bool) → is_at i x y p ≡ b → P i x y
    by true e =
        let u = both (p.component == i && p.x == x) (p.y == y) e in
        let v = both (p.component == i) (p.x == x) u.0 in
        subst (λ n. P i x n) (same_of p.y y u.1) (subst (λ n. P i n p.y) (same_of p.x x v.1) (subst (λ n. P n p.x p.y) (same_of p.component i v.0) here))
    by false e = others i x y e

-- THE STEP: the next unit is complete, and its block has the values that it encodes
pub units_next : (s : Scan) (places : List Place) (p : Place) (old mid new : Blocks) (told : List ℤ) → any_of (is_at p.component p.x p.y) places ≡ false → UnitsRead s places old mid told → OneChanges s p mid new
    → UnitsRead s (places ++ p ∷ []) old new (told ++ band s (block_at new p))
units_next s places p old mid new told apart w c = record {
  told_there =
      ap (λ l. l ++ band s (block_at new p)) (w.told_there ∙ sym still)
      ∙ ap (λ l. flat_map (λ q. band s (block_at new q)) places ++ l) (sym (append-nil (band s (block_at new p))))
      ∙ sym (flat_map-append (λ q. band s (block_at new q)) places (p ∷ []));
  changes = record {
    elsewhere = λ i x y h. (let k = neither (any_of (is_at i x y) places) (any_of (is_at i x y) (p ∷ [])) (sym (any_join (is_at i x y) places (p ∷ [])) ∙ h) in
        let n = neither (is_at i x y p) false k.1 in
        c.elsewhere i x y n.0 ∙ (w.changes).elsewhere i x y k.0);
    outside = λ i x y k h. by_place (λ i x y. coefficient new i x y k ≡ coefficient mid i x y k) p (c.outside k h) (λ i x y e. ap (λ l. slice_index_or l k (pos 0)) (c.elsewhere i x y e)) i x y ∙ (w.changes).outside i x y k h;
    sizes = by_place (λ i x y. length (new i x y) ≡ 64) p c.size (λ i x y e. ap length (c.elsewhere i x y e) ∙ (w.changes).sizes i x y);
  };
}
  where
    one : (i x y : ℕ) → any_of (is_at i x y) (p ∷ []) ≡ false → new i x y ≡ mid i x y
    one i x y h = c.elsewhere i x y (neither (is_at i x y p) false h).0

    away : AreApart places (p ∷ [])
    away = apart_swap (p ∷ []) places (apart, tt)

    still : flat_map (λ q. band s (block_at new q)) places ≡ flat_map (λ q. band s (block_at mid q)) places
    still = same_at mid new (p ∷ []) one places away (λ b. band s b)

-- after the last one the interval was read
pub units_last : (s : Scan) (places : List Place) (old new : Blocks) (told : List ℤ) (bits : List Bool) → UnitsRead s places old new told → SpellsUnits s.coding (map (unit_at s old) places) told bits → IntervalRead s places old new bits
units_last s places old new told bits w k =
    record { spelled = subst (λ l. SpellsUnits s.coding (map (unit_at s old) places) l bits) w.told_there k; changes = w.changes }
