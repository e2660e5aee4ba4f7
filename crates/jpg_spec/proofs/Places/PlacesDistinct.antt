-- No block is at two places of a scan.
use Rattle.std.proofs.Common.{◌≡◌, ◌≢◌, ℕ, zero, suc, ◌+◌, ◌-◌, ◌*◌, ◌/◌, ◌<◌, ◌≤◌, Bool, true, false, ◌==◌, ◌&&◌, not, List, [], ◌∷◌, ◌++◌, refl, sym, ap, ◌∙◌, subst, arith}
use Rattle.std.specs.Prelude.{◌||◌, map, flat_map}
use Rattle.std.proofs.lemmas.Bool.Decides.{nat_tests}
use Rattle.std.proofs.lemmas.Nat.{div-mul-add}
use Rattle.std.proofs.lemmas.List.{append-nil}
use Rattle.std.proofs.lemmas.List.Concat.{flat_map-append}
use Rattle.jpg_spec.specs.Lists.{any_of, below, is_among, is_distinct}
use Rattle.jpg_spec.specs.Geometry.{Frame, component_at, blocks_across, blocks_down, mcus_across, mcus_down, place, mcu_part, single_units, interleaved_units, units}
use Rattle.jpg_spec.specs.PictureInWork.{is_at, AreDistinct}
use Rattle.jpg_spec.specs.declared.frame.Place.{Place}
use Rattle.jpg_spec.proofs.Places.PictureInWork.{AreApart, any_join, apart_swap}
use Rattle.jpg_spec.proofs.Basics.Common.{both, same_of, neither}

-- A KEY is a number that the place of a block has.
abbrev pub Key : Type 0
Key = ℕ → ℕ → ℕ → ℕ

abbrev pub AllKey : Key → ℕ → List Place → Type 0
AllKey key n [] = Unit {0}
AllKey key n (p ∷ places) = (key p.component p.x p.y ≡ n) × AllKey key n places

key_join : (key : Key) (n : ℕ) (a b : List Place) → AllKey key n a → AllKey key n b → AllKey key n (a ++ b)
key_join key n [] b s t = t
key_join key n (p ∷ a) b s t = (s.0, key_join key n a b s.1 t)

-- a block of another key isn't among them
none_at : (key : Key) (n i x y : ℕ) (places : List Place) → AllKey key n places → key i x y ≢ n → any_of (is_at i x y) places ≡ false
none_at key n i x y [] k h = refl
none_at key n i x y (q ∷ places) k h = by (is_at i x y q) refl (none_at key n i x y places k.1 h)
  where
    by : (b : Bool) → is_at i x y q ≡ b → any_of (is_at i x y) places ≡ false → (is_at i x y q || any_of (is_at i x y) places) ≡ false
    by true e later =
        let u = both (q.component == i && q.x == x) (q.y == y) e in
        let v = both (q.component == i) (q.x == x) u.0 in
        let same : key i x y ≡ n = ap (λ m. key m x y) (sym (same_of q.component i v.0)) ∙ ap (λ m. key q.component m y) (sym (same_of q.x x v.1)) ∙ ap (λ m. key q.component q.x m) (sym (same_of q.y y u.1)) ∙ k.0 in
        absurd (h same)
    by false e later = ap (λ b. b || any_of (is_at i x y) places) e ∙ later

apart_by : (key : Key) (m n : ℕ) (a b : List Place) → m ≢ n → AllKey key m a → AllKey key n b → AreApart a b
apart_by key m n [] b h s t = tt
apart_by key m n (p ∷ a) b h s t = (none_at key n p.component p.x p.y b t (λ e. h (sym s.0 ∙ e)), apart_by key m n a b h s.1 t)

apart_join : (a b c : List Place) → AreApart a c → AreApart b c → AreApart (a ++ b) c
apart_join [] b c s t = t
apart_join (p ∷ a) b c s t = (s.0, apart_join a b c s.1 t)

distinct_join : (a b : List Place) → AreDistinct a → AreDistinct b → AreApart a b → AreDistinct (a ++ b)
distinct_join [] b s t h = t
distinct_join (p ∷ a) b s t h =
    (any_join (is_at p.component p.x p.y) a b ∙ ap (λ r. r || any_of (is_at p.component p.x p.y) b) s.0 ∙ h.0, distinct_join a b s.1 t h.1)

-- PIECES by the numbers below one
flat_below : (f : ℕ → List Place) (n : ℕ) → flat_map f (below (suc n)) ≡ flat_map f (below n) ++ f n
flat_below f n = flat_map-append f (below n) (n ∷ []) ∙ ap (λ l. flat_map f (below n) ++ l) (append-nil (f n))

all_below : (key : Key) (c : ℕ) (f : ℕ → List Place) (n : ℕ) → ((k : ℕ) → k < n → AllKey key c (f k)) → AllKey key c (flat_map f (below n))
all_below key c f zero h = tt
all_below key c f (suc n) h =
    subst (λ l. AllKey key c l) (sym (flat_below f n)) (key_join key c (flat_map f (below n)) (f n) (all_below key c f n (λ k l. h k (omega (arith, l)))) (h n (omega arith)))

pieces_apart : (key : Key) (f : ℕ → List Place) (n m : ℕ) (b : List Place) → n ≤ m → ((k : ℕ) → k < m → AllKey key k (f k)) → AllKey key m b → AreApart (flat_map f (below n)) b
pieces_apart key f zero m b l h k = tt
pieces_apart key f (suc n) m b l h k =
    let other : n ≢ m = λ e. omega (arith, e, l) in
    subst (λ z. AreApart z b) (sym (flat_below f n))
    (apart_join (flat_map f (below n)) (f n) b (pieces_apart key f n m b (omega (arith, l)) h k) (apart_by key n m (f n) b other (h n (omega (arith, l))) k))

pub distinct_below : (key : Key) (f : ℕ → List Place) (n : ℕ) → ((k : ℕ) → k < n → AreDistinct (f k) × AllKey key k (f k)) → AreDistinct (flat_map f (below n))
distinct_below key f zero h = tt
distinct_below key f (suc n) h =
    subst (λ l. AreDistinct l) (sym (flat_below f n))
    (distinct_join (flat_map f (below n)) (f n) (distinct_below key f n (λ k l. h k (omega (arith, l)))) (h n (omega arith)).0
    (pieces_apart key f n n (f n) (omega arith) (λ k l. (h k (omega (arith, l))).1) (h n (omega arith)).1))

pub map_is_flat : (g : ℕ → Place) (xs : List ℕ) → map g xs ≡ flat_map (λ x. g x ∷ []) xs
map_is_flat g [] = refl
map_is_flat g (x ∷ xs) = ap (λ l. g x ∷ l) (map_is_flat g xs)

-- one place for each
row_distinct : (key : Key) (g : ℕ → Place) (n : ℕ) → ((k : ℕ) → k < n → key (g k).component (g k).x (g k).y ≡ k) → AreDistinct (map g (below n))
row_distinct key g n h = subst (λ l. AreDistinct l) (sym (map_is_flat g (below n))) (distinct_below key (λ x. g x ∷ []) n (λ k l. ((refl, tt), (h k l, tt))))

row_key : (key : Key) (c : ℕ) (g : ℕ → Place) (n : ℕ) → ((k : ℕ) → k < n → key (g k).component (g k).x (g k).y ≡ c) → AllKey key c (map g (below n))
row_key key c g n h = subst (λ l. AllKey key c l) (sym (map_is_flat g (below n))) (all_below key c (λ x. g x ∷ []) n (λ k l. (h k l, tt)))

-- PIECES by the components of a scan
all_parts : (key : Key) (c : ℕ) (f : ℕ → List Place) (parts : List ℕ) → ((i : ℕ) → AllKey key c (f i)) → AllKey key c (flat_map f parts)
all_parts key c f [] h = tt
all_parts key c f (i ∷ parts) h = key_join key c (f i) (flat_map f parts) (h i) (all_parts key c f parts h)

parts_apart : (f : ℕ → List Place) (i : ℕ) (parts : List ℕ) → ((i : ℕ) → AllKey (λ j x y. j) i (f i)) → is_among i parts ≡ false → AreApart (f i) (flat_map f parts)
parts_apart f i parts h none = swap (flat_map f parts) (f i) (by parts none)
  where
    by : (parts : List ℕ) → is_among i parts ≡ false → AreApart (flat_map f parts) (f i)
    by [] e = tt
    by (j ∷ parts) e =
        let k = neither (j == i) (is_among i parts) e in
        let other : j ≢ i = λ s. differ j i k.0 s in
        apart_join (f j) (flat_map f parts) (f i) (apart_by (λ j x y. j) j i (f j) (f i) other (h j) (h i)) (by parts k.1)
      where
        differ : (j i : ℕ) → (j == i) ≡ false → j ≡ i → ⊥
        differ j i e s = grind (arith, nat_tests)

    swap : (a b : List Place) → AreApart a b → AreApart b a
    swap a b d = apart_swap a b d

distinct_parts : (f : ℕ → List Place) (parts : List ℕ) → is_distinct parts ≡ true → ((i : ℕ) → AreDistinct (f i) × AllKey (λ j x y. j) i (f i)) → AreDistinct (flat_map f parts)
distinct_parts f [] e h = tt
distinct_parts f (i ∷ parts) e h =
    let k = both (not (is_among i parts)) (is_distinct parts) e in
    distinct_join (f i) (flat_map f parts) (h i).0 (distinct_parts f parts k.1 h) (parts_apart f i parts (λ j. (h j).1) (no (is_among i parts) k.0))
  where
    no : (b : Bool) → not b ≡ true → b ≡ false
    no true e = sym e
    no false e = refl

-- THE PLACES OF A SCAN

single_distinct : (f : Frame) (i : ℕ) → AreDistinct (single_units f i)
single_distinct f i =
    distinct_below (λ j x y. y) (λ y. map (λ x. place f i x y) (below (blocks_across f (component_at f i)))) (blocks_down f (component_at f i))
    (λ y l. (
      row_distinct (λ j x y. x) (λ x. place f i x y) (blocks_across f (component_at f i)) (λ x k. refl),
      row_key (λ j x y. y) y (λ x. place f i x y) (blocks_across f (component_at f i)) (λ x k. refl),
    ))

-- the MCU of a block
abbrev pub mcu_x : Frame → Key
mcu_x f i x y = x / (component_at f i).h

abbrev pub mcu_y : Frame → Key
mcu_y f i x y = y / (component_at f i).v

mcu_part_key : (key : Key) (n : ℕ) (f : Frame) (mx my i : ℕ) → ((h v : ℕ) → h < (component_at f i).h → v < (component_at f i).v → key i (mx * (component_at f i).h + h) (my * (component_at f i).v + v) ≡ n) → AllKey key n (mcu_part f mx my i)
mcu_part_key key n f mx my i k =
    let c = component_at f i in
    all_below key n (λ v. map (λ h. place f i (mx * c.h + h) (my * c.v + v)) (below c.h)) c.v
    (λ v lv. row_key key n (λ h. place f i (mx * c.h + h) (my * c.v + v)) c.h (λ h lh. k h v lh lv))

mcu_part_distinct : (f : Frame) (mx my i : ℕ) → AreDistinct (mcu_part f mx my i)
mcu_part_distinct f mx my i =
    let c = component_at f i in
    distinct_below (λ j x y. y - my * c.v) (λ v. map (λ h. place f i (mx * c.h + h) (my * c.v + v)) (below c.h)) c.v
    (λ v lv. (
      row_distinct (λ j x y. x - mx * c.h) (λ h. place f i (mx * c.h + h) (my * c.v + v)) c.h (λ h lh. less (mx * c.h) h),
      row_key (λ j x y. y - my * c.v) v (λ h. place f i (mx * c.h + h) (my * c.v + v)) c.h (λ h lh. less (my * c.v) v),
    ))
  where
    less : (a b : ℕ) → a + b - a ≡ b
    less a b = omega arith

interleaved_distinct : (f : Frame) (parts : List ℕ) → is_distinct parts ≡ true → AreDistinct (interleaved_units f parts)
interleaved_distinct f parts e =
    distinct_below (mcu_y f) (λ my. flat_map (λ mx. flat_map (mcu_part f mx my) parts) (below (mcus_across f))) (mcus_down f)
    (λ my ly. (
      distinct_below (mcu_x f) (λ mx. flat_map (mcu_part f mx my) parts) (mcus_across f)
          (λ mx lx. (
            distinct_parts (mcu_part f mx my) parts e (λ i. (mcu_part_distinct f mx my i, mcu_part_key (λ j x y. j) i f mx my i (λ h v lh lv. refl))),
            all_parts (mcu_x f) mx (mcu_part f mx my) parts (λ i. mcu_part_key (mcu_x f) mx f mx my i (λ h v lh lv. div-mul-add mx (component_at f i).h h lh)),
          )),
      all_below (mcu_y f) my (λ mx. flat_map (mcu_part f mx my) parts) (mcus_across f)
          (λ mx lx. all_parts (mcu_y f) my (mcu_part f mx my) parts (λ i. mcu_part_key (mcu_y f) my f mx my i (λ h v lh lv. div-mul-add my (component_at f i).v v lv))),
    ))

-- THE LAW
pub units_distinct : (f : Frame) (parts : List ℕ) → is_distinct parts ≡ true → AreDistinct (units f parts)
unfolding units
units_distinct f [] e = tt
units_distinct f (i ∷ []) e = single_distinct f i
units_distinct f (i ∷ j ∷ parts) e = interleaved_distinct f (i ∷ j ∷ parts) e
