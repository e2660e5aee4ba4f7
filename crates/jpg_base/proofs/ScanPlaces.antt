-- The places of a scan by its header.
use Rattle.std.proofs.Common.{◌≡◌, ℕ, zero, suc, ◌+◌, ◌*◌, ◌-◌, ◌^◌, ◌<◌, ◌≤◌, List, [], ◌∷◌, ◌++◌, length, get_or, refl, sym, ap, ◌∙◌, subst, arith}
use Rattle.std.specs.Prelude.{map, flat_map}
use Rattle.std.specs.List.{All}
use Rattle.std.proofs.lemmas.List.{append-nil, get_or-map, length-map, map-append}
use Rattle.std.proofs.lemmas.List.Elements.{All-nil, All-cons, All-append}
use Rattle.std.proofs.lemmas.Grind.{flat_map-append}
use Rattle.std.proofs.lemmas.List.Concat.{flat_map_single}
use Rattle.std.proofs.lemmas.List.Folds.{flat_map-map}
use Rattle.std.proofs.Math.Nat.{div-le_self, mul_comm}
use Rattle.std.proofs.lemmas.Nat.{mul-le, mul-add-lt}
use Rattle.jpg_spec.specs.Lists.{below}
use Rattle.jpg_spec.specs.Geometry.{Frame, div_up, place, mcu_part, interleaved_units, units, component_at, blocks_across, blocks_down, mcus_across, mcus_down, h_max, v_max, IsReal}
use Rattle.jpg_spec.specs.FrameHeader.{IsFrame, padded_across, padded_down}
use Rattle.jpg_base.proofs.Grids.{across_low, down_low}
use Rattle.jpg_spec.proofs.Places.PlacesFound.{real_in_padded}
use Rattle.jpg_spec.specs.declared.frame.Place.{Place}
use Rattle.jpg_spec.specs.declared.frame.ScanPart.{ScanPart}
use Rattle.jpg_base.specs.Cursor.{AreIn, IsPadded, lone_part, cursor_part_of, part_spots, mcu_spots, line_spots, all_spots}

pub flat_map_same : {A B : Type 0} (f g : A → List B) (xs : List A) → ((x : A) → f x ≡ g x) → flat_map f xs ≡ flat_map g xs
flat_map_same f g [] same = refl
flat_map_same f g (x ∷ xs) same = ap (λ t. t ++ flat_map f xs) (same x) ∙ ap (λ t. g x ++ t) (flat_map_same f g xs same)

lone_mcu : (f : Frame) (i row column : ℕ) → mcu_spots (lone_part f i ∷ []) row column ≡ place f i column row ∷ []
lone_mcu f i row column =
    let x : column * 1 + 0 ≡ column = omega arith in
    let y : row * 1 + 0 ≡ row = omega arith in
    ap (λ (n : ℕ). place f i n (row * 1 + 0) ∷ []) x ∙ ap (λ (n : ℕ). place f i column n ∷ []) y

lone_line : (f : Frame) (i wide row : ℕ) → line_spots (lone_part f i ∷ []) wide row ≡ map (λ x. place f i x row) (below wide)
lone_line f i wide row =
    flat_map_same (mcu_spots (lone_part f i ∷ []) row) (λ x. place f i x row ∷ []) (below wide) (lone_mcu f i row) ∙ flat_map_single (λ x. place f i x row) (below wide)

pub lone_units : (f : Frame) (i : ℕ) (components : List ℕ) → components ≡ i ∷ []
    → all_spots (lone_part f i ∷ []) (blocks_across f (component_at f i)) (blocks_down f (component_at f i)) ≡ units f components
unfolding units
lone_units f i components e =
    let wide = blocks_across f (component_at f i) in
    flat_map_same (line_spots (lone_part f i ∷ []) wide) (λ y. map (λ x. place f i x y) (below wide)) (below (blocks_down f (component_at f i))) (lone_line f i wide) ∙ ap (units f) (sym e)

several_mcu : (f : Frame) (parts : List ScanPart) (row column : ℕ) → mcu_spots (map (λ p. cursor_part_of f p.component) parts) row column ≡ flat_map (mcu_part f column row) (map (λ p. p.component) parts)
several_mcu f parts row column =
    flat_map-map (λ p. part_spots p column row) (λ p. cursor_part_of f p.component) parts ∙ sym (flat_map-map (mcu_part f column row) (λ p. p.component) parts)

several_all : (f : Frame) (parts : List ScanPart) → all_spots (map (λ p. cursor_part_of f p.component) parts) (mcus_across f) (mcus_down f) ≡ interleaved_units f (map (λ p. p.component) parts)
several_all f parts =
    flat_map_same _ _ (below (mcus_down f)) (λ row. flat_map_same _ _ (below (mcus_across f)) (several_mcu f parts row))

interleaved_are : (f : Frame) (components : List ℕ) → 2 ≤ length components → interleaved_units f components ≡ units f components
unfolding units
interleaved_are f (i ∷ j ∷ more) h = refl
interleaved_are f few h = absurd (omega (arith, h))

pub several_units : (f : Frame) (parts : List ScanPart) → 2 ≤ length parts → all_spots (map (λ p. cursor_part_of f p.component) parts) (mcus_across f) (mcus_down f) ≡ units f (map (λ p. p.component) parts)
several_units f parts h = several_all f parts ∙ interleaved_are f (map (λ p. p.component) parts) (omega (arith, length-map parts (λ (p : ScanPart). p.component)))

pub only_one : (parts : List ScanPart) (d : ScanPart) → length parts ≡ 1 → map (λ p. p.component) parts ≡ (get_or parts 0 d).component ∷ []
only_one (p ∷ []) d e = refl
only_one parts d e = absurd (omega (arith, e))

pub all_parts : (P : ℕ → Type 0) (parts : List ScanPart) → All P (map (λ p. p.component) parts) → All (λ p. P p.component) parts
all_parts P parts all k d h =
    subst P (get_or-map (λ (p : ScanPart). p.component) parts k d 0 h) (all k 0 (omega (arith, length-map parts (λ (p : ScanPart). p.component))))

div_up_most : (n d : ℕ) → div_up n d ≤ n + d - 1
div_up_most n d = div-le_self (n + d - 1) d

pub few_blocks : (side factor most : ℕ) → side ≤ 65500 → factor ≤ 4 → most ≤ 4 → div_up (div_up (side * factor) most) 8 ≤ 2 ^ 20
few_blocks side factor most s f m = omega (arith, div_up_most (side * factor) most, div_up_most (div_up (side * factor) most) 8, mul-le side factor 65500 4 s f)

-- WHERE THEY ARE

pub all_rows : (P : Place → Type 0) (f : ℕ → List Place) (n : ℕ) → ((k : ℕ) → k < n → All P (f k)) → All P (flat_map f (below n))
all_rows P f zero each = All-nil P
all_rows P f (suc n) each =
    let last : All P (f n ++ []) = subst (λ ps. All P ps) (sym (append-nil (f n))) (each n (omega arith)) in
    subst (λ ps. All P ps) (sym (flat_map-append f (below n) (n ∷ []))) (All-append P (flat_map f (below n)) (f n ++ []) (all_rows P f n (λ k h. each k (omega arith))) last)

pub all_row : (P : Place → Type 0) (g : ℕ → Place) (n : ℕ) → ((k : ℕ) → k < n → P (g k)) → All P (map g (below n))
all_row P g zero each = All-nil P
all_row P g (suc n) each =
    subst (λ ps. All P ps) (sym (map-append g (below n) (n ∷ []))) (All-append P (map g (below n)) (g n ∷ []) (all_row P g n (λ k h. each k (omega arith))) (All-cons P (g n) [] (each n (omega arith)) (All-nil P)))

pub all_ids : (P : Place → Type 0) (f : ℕ → List Place) (ids : List ℕ) → ((j : ℕ) → j < length ids → All P (f (get_or ids j 0))) → All P (flat_map f ids)
all_ids P f [] each = All-nil P
all_ids P f (i ∷ ids) each = All-append P (f i) (flat_map f ids) (each 0 (omega arith)) (all_ids P f ids (λ j h. each (suc j) (omega arith)))

pub in_row : (a w b h : ℕ) → a < h → b < w → a * w + b < h * w
in_row a w b h x y = subst (λ n. a * w + b < n) (mul_comm w h) (mul-add-lt a w b h x y)

-- a real block is one of the padded grid
pub padded_of : (f : Frame) (i x y : ℕ) → IsFrame f → IsReal f i x y → IsPadded f i x y
padded_of f i x y k r =
    let c = component_at f i in
    let across : blocks_across f c ≤ padded_across f c = real_in_padded f.width c.h (h_max f) (across_low f.components k.factors k.count_low) in
    let down : blocks_down f c ≤ padded_down f c = real_in_padded f.height c.v (v_max f) (down_low f.components k.factors k.count_low) in
    record { component = r.component; across = omega (arith, r.across, across); down = omega (arith, r.down, down) }

-- a place of the frame, of one of these components
pub record IsOneOf (f : Frame) (ids : List ℕ) (p : Place) : Type 0 where
  pub place : IsPadded f p.component p.x p.y
  pub index : ℕ
  pub there : index < length ids
  pub same : get_or ids index 0 ≡ p.component

pub units_in : (f : Frame) (ids : List ℕ) → IsFrame f → AreIn f ids → All (IsOneOf f ids) (units f ids)
unfolding units
units_in f [] k a = All-nil (IsOneOf f [])
units_in f (i ∷ []) k a =
    let c = component_at f i in
    let lt : i < length f.components = a.there 0 0 (omega arith) in
    all_rows (IsOneOf f (i ∷ [])) (λ y. map (λ x. place f i x y) (below (blocks_across f c))) (blocks_down f c)
    (λ y hy. all_row (IsOneOf f (i ∷ [])) (λ x. place f i x y) (blocks_across f c)
    (λ x hx. record { place = padded_of f i x y k (record { component = lt; across = hx; down = hy }); index = 0; there = omega arith; same = refl }))
units_in f (i ∷ j ∷ more) k a =
    let ids = i ∷ j ∷ more in
    all_rows (IsOneOf f ids) (λ my. flat_map (λ mx. flat_map (mcu_part f mx my) ids) (below (mcus_across f))) (mcus_down f)
    (λ my hy. all_rows (IsOneOf f ids) (λ mx. flat_map (mcu_part f mx my) ids) (mcus_across f)
    (λ mx hx. all_ids (IsOneOf f ids) (mcu_part f mx my) ids
    (λ n hn. let d = get_or ids n 0 in
    let c = component_at f d in
    all_rows (IsOneOf f ids) (λ v. map (λ h. place f d (mx * c.h + h) (my * c.v + v)) (below c.h)) c.v
    (λ v hv. all_row (IsOneOf f ids) (λ h. place f d (mx * c.h + h) (my * c.v + v)) c.h
    (λ h hh. record {
      place = record { component = a.there n 0 hn; across = in_row mx c.h h (mcus_across f) hx hh; down = in_row my c.v v (mcus_down f) hy hv };
      index = n;
      there = hn;
      same = refl;
    })))))
