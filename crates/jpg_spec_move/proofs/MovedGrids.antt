-- Where the blocks of a transformed picture come from: real places from real places, and each place from the one of the
-- formula.
use Rattle.std.proofs.Common.{◌≡◌, ℕ, ◌+◌, ◌-◌, ◌*◌, ◌/◌, ◌<◌, ◌≤◌, Bool, true, false, cond, ◌&&◌, ◌==◌, [], length, get_or, map, refl, sym, ap, ◌∙◌, subst, arith, ⊎_elim}
use Rattle.std.proofs.lemmas.Bool.{cases_lt}
use Rattle.std.proofs.lemmas.List.{length-map}
use Rattle.std.proofs.Math.ListN as listn
use Rattle.std.proofs.Math.Nat.{div-mul-le_self, mul-le-mul_right, mul-div_cancel_left, mul-div-le}
use Rattle.std.proofs.lemmas.Nat.{le-div}
use Rattle.jpg_spec.specs.Geometry.{Frame, div_up, greatest, h_max, v_max, IsReal}
use Rattle.jpg_spec.specs.Meaning.{Meaning, PictureComponent, picture_frame, component_of}
use Rattle.jpg_spec_move.specs.Transforms.{transformed, transposes, mirrors_across, mirrors_down, opposite, changed_columns, changed_rows, transpose, exchanged_axes}
use Rattle.jpg_spec.specs.Grids.{Grids, frame_grids, picture_grids}
use Rattle.jpg_spec_move.specs.Moved.{trimmed, whole_side, transformed_frame, exchanged_factors, columns_in, rows_in}
use Rattle.jpg_spec.specs.declared.frame.Component.{Component}
use Rattle.jpg_spec_move.specs.declared.transform.Transform.{Transform}
use Rattle.jpg_spec_move.specs.declared.transform.Transform.TheVariants.{Keep, FlipH, FlipV, Rotate180}
use Rattle.jpg_spec.proofs.Basics.Rows.{map_map}
use Rattle.jpg_spec_move.proofs.MovedFrames.{up_mono}
use Rattle.jpg_spec.proofs.Basics.Common.{lt_yes, lt_no}
use Rattle.jpg_spec.proofs.Headers.FrameFound.{real_side, factor_across, factor_down}

-- ALONG ONE SIDE

at_least : (n d m : ℕ) → 0 < d → m * d ≤ n → m ≤ div_up n d
at_least n d m some h = le-div m (n + d - 1) d some (omega (arith, h))

pub whole_in_real : (side factor most : ℕ) → 0 < most → side / (8 * most) * factor ≤ real_side side factor most
whole_in_real side factor most some =
    let q = side / (8 * most) in
    let under : q * (8 * most) ≤ side = div-mul-le_self side (8 * most) in
    let scaled : q * (8 * most) * factor ≤ side * factor = mul-le-mul_right factor under in
    let turned : q * (8 * most) * factor ≡ q * factor * 8 * most = grind arith in
    let samples : q * factor * 8 ≤ div_up (side * factor) most = at_least (side * factor) most (q * factor * 8) some (omega (arith, scaled, turned)) in
    at_least (div_up (side * factor) most) 8 (q * factor) (omega arith) samples

pub opposite_low : (changed x n : ℕ) → changed ≤ n → x < n → opposite changed x < n
opposite_low changed x n h lt = ⊎_elim inside outside (cases_lt x changed)
  where
    inside : x < changed → opposite changed x < n
    inside a = subst (λ (b : Bool). cond b (changed - 1 - x) x < n) (sym (lt_yes x changed a)) (omega (arith, a, h))

    outside : changed ≤ x → opposite changed x < n
    outside a = subst (λ (b : Bool). cond b (changed - 1 - x) x < n) (sym (lt_no x changed a)) lt

pub real_mono : (a b factor most : ℕ) → 0 < most → a ≤ b → real_side a factor most ≤ real_side b factor most
real_mono a b factor most some h =
    up_mono (div_up (a * factor) most) (div_up (b * factor) most) 8 (omega arith) (up_mono (a * factor) (b * factor) most some (mul-le-mul_right factor h))

trimmed_low : (side m : ℕ) → whole_side side m ≤ side
trimmed_low side m = by (side / m == 0)
  where
    by : (b : Bool) → cond b side (m * (side / m)) ≤ side
    by true = omega arith
    by false = mul-div-le side m

trimmed_again : (side m : ℕ) → 0 < m → whole_side side m / m ≡ side / m
trimmed_again side m some = by (side / m == 0)
  where
    by : (b : Bool) → cond b side (m * (side / m)) / m ≡ side / m
    by true = refl
    by false = mul-div_cancel_left (side / m) some

-- GRIDS

abbrev pub over_grids : Bool → Grids → Grids
over_grids true G = record { width = G.height; height = G.width; across = G.down; down = G.across }
over_grids false G = G

abbrev pub trim_grids : Bool → Transform → Grids → Grids
trim_grids trim t G = record G {
  width = cond (trim && mirrors_across t) (whole_side G.width (8 * greatest G.across)) G.width;
  height = cond (trim && mirrors_down t) (whole_side G.height (8 * greatest G.down)) G.height;
}

abbrev pub columns_by : Transform → Grids → ℕ → ℕ
columns_by t G i = cond (mirrors_across t) ((G.width / (8 * greatest G.across)) * get_or G.across i 1) 0

abbrev pub rows_by : Transform → Grids → ℕ → ℕ
rows_by t G i = cond (mirrors_down t) ((G.height / (8 * greatest G.down)) * get_or G.down i 1) 0

-- of frames

exchanged_grids : (f : Frame) → frame_grids (record f { width = f.height; height = f.width; components = map exchanged_factors f.components }) ≡ over_grids true (frame_grids f)
exchanged_grids f =
    ap (λ l. (let G : Grids = record { width = f.height; height = f.width; across = l; down = map (λ c. c.v) (map exchanged_factors f.components) } in G)) (map_map (λ c. c.h) exchanged_factors f.components)
    ∙ ap (λ l. (let G : Grids = record { width = f.height; height = f.width; across = map (λ c. c.v) f.components; down = l } in G)) (map_map (λ c. c.v) exchanged_factors f.components)

pub turned_frame : (t : Transform) (f : Frame) → frame_grids (transformed_frame t f) ≡ over_grids (transposes t) (frame_grids f)
turned_frame t f = by (transposes t)
  where
    by : (b : Bool) → frame_grids (cond b (record f { width = f.height; height = f.width; components = map exchanged_factors f.components }) f) ≡ over_grids b (frame_grids f)
    by true = exchanged_grids f
    by false = refl

-- of meanings

exchanged_picture : (M : Meaning) → picture_grids (transpose M) ≡ over_grids true (picture_grids M)
exchanged_picture M =
    ap (λ l. (let G : Grids = record { width = M.height; height = M.width; across = l; down = map (λ c. c.v) (map exchanged_axes M.components) } in G)) (map_map (λ c. c.h) exchanged_axes M.components)
    ∙ ap (λ l. (let G : Grids = record { width = M.height; height = M.width; across = map (λ c. c.v) M.components; down = l } in G)) (map_map (λ c. c.v) exchanged_axes M.components)

pub turned_picture : (t : Transform) (M : Meaning) → picture_grids (transformed t M) ≡ over_grids (transposes t) (picture_grids M)
turned_picture Keep M = refl
turned_picture FlipH M = refl
turned_picture FlipV M = refl
turned_picture Rotate180 M = refl
turned_picture t M = exchanged_picture M

pub cut_picture : (trim : Bool) (t : Transform) (M : Meaning) → picture_grids (trimmed trim t M) ≡ trim_grids trim t (picture_grids M)
cut_picture false t M = refl
cut_picture true t M = refl

pub framed_picture : (M : Meaning) → frame_grids (picture_frame M) ≡ picture_grids M
framed_picture M =
    let mk : PictureComponent → Component = λ c. record { id = c.id; h = c.h; v = c.v; quant = 0 } in
    ap (λ l. (let G : Grids = record { width = M.width; height = M.height; across = l; down = map (λ c. c.v) (map mk M.components) } in G)) (map_map (λ c. c.h) mk M.components)
    ∙ ap (λ l. (let G : Grids = record { width = M.width; height = M.height; across = map (λ c. c.h) M.components; down = l } in G)) (map_map (λ c. c.v) mk M.components)

-- columns and rows by grids

pub part_across : (M : Meaning) (i : ℕ) → (component_of M i).h ≡ get_or (map (λ c. c.h) M.components) i 1
part_across M i = sym (listn.get_or-map (λ c. c.h) M.components i (record { id = 0; h = 1; v = 1; quants = [] }))

pub part_down : (M : Meaning) (i : ℕ) → (component_of M i).v ≡ get_or (map (λ c. c.v) M.components) i 1
part_down M i = sym (listn.get_or-map (λ c. c.v) M.components i (record { id = 0; h = 1; v = 1; quants = [] }))

pub columns_picture : (t : Transform) (M : Meaning) (i : ℕ) → changed_columns t M i ≡ columns_by t (picture_grids M) i
columns_picture t M i = ap (λ k. cond (mirrors_across t) ((M.width / (8 * greatest (map (λ c. c.h) M.components))) * k) 0) (part_across M i)

pub rows_picture : (t : Transform) (M : Meaning) (i : ℕ) → changed_rows t M i ≡ rows_by t (picture_grids M) i
rows_picture t M i = ap (λ k. cond (mirrors_down t) ((M.height / (8 * greatest (map (λ c. c.v) M.components))) * k) 0) (part_down M i)

pub columns_frame : (t : Transform) (f : Frame) (i : ℕ) → columns_in t f i ≡ columns_by t (frame_grids f) i
columns_frame t f i = ap (λ k. cond (mirrors_across t) ((f.width / (8 * h_max f)) * k) 0) (factor_across f i)

pub rows_frame : (t : Transform) (f : Frame) (i : ℕ) → rows_in t f i ≡ rows_by t (frame_grids f) i
rows_frame t f i = ap (λ k. cond (mirrors_down t) ((f.height / (8 * v_max f)) * k) 0) (factor_down f i)

-- trimming changes none of them
pub columns_cut : (trim : Bool) (t : Transform) (G : Grids) (i : ℕ) → 0 < greatest G.across → columns_by t (trim_grids trim t G) i ≡ columns_by t G i
columns_cut trim t G i some = by trim (mirrors_across t)
  where
    by : (a b : Bool) → cond b ((cond (a && b) (whole_side G.width (8 * greatest G.across)) G.width / (8 * greatest G.across)) * get_or G.across i 1) 0 ≡ cond b ((G.width / (8 * greatest G.across)) * get_or G.across i 1) 0
    by true true = ap (λ q. q * get_or G.across i 1) (trimmed_again G.width (8 * greatest G.across) (omega (arith, some)))
    by false true = refl
    by a false = refl

pub rows_cut : (trim : Bool) (t : Transform) (G : Grids) (i : ℕ) → 0 < greatest G.down → rows_by t (trim_grids trim t G) i ≡ rows_by t G i
rows_cut trim t G i some = by trim (mirrors_down t)
  where
    by : (a b : Bool) → cond b ((cond (a && b) (whole_side G.height (8 * greatest G.down)) G.height / (8 * greatest G.down)) * get_or G.down i 1) 0 ≡ cond b ((G.height / (8 * greatest G.down)) * get_or G.down i 1) 0
    by true true = ap (λ q. q * get_or G.down i 1) (trimmed_again G.height (8 * greatest G.down) (omega (arith, some)))
    by false true = refl
    by a false = refl

-- REAL PLACES by grids

pub record IsIn (G : Grids) (i x y : ℕ) : Type 0 where
  pub component : i < length G.across
  pub across : x < real_side G.width (get_or G.across i 1) (greatest G.across)
  pub down : y < real_side G.height (get_or G.down i 1) (greatest G.down)

pub to_grids : (f : Frame) (i x y : ℕ) → IsReal f i x y → IsIn (frame_grids f) i x y
to_grids f i x y r = record {
  component = (let l = length-map f.components (λ c. c.h) in omega (arith, l, r.component));
  across = subst (λ k. x < real_side f.width k (h_max f)) (factor_across f i) r.across;
  down = subst (λ k. y < real_side f.height k (v_max f)) (factor_down f i) r.down;
}

pub from_grids : (f : Frame) (i x y : ℕ) → IsIn (frame_grids f) i x y → IsReal f i x y
from_grids f i x y r = record {
  component = (let l = length-map f.components (λ c. c.h) in omega (arith, l, r.component));
  across = subst (λ k. x < real_side f.width k (h_max f)) (sym (factor_across f i)) r.across;
  down = subst (λ k. y < real_side f.height k (v_max f)) (sym (factor_down f i)) r.down;
}

-- a real place of a trimmed picture is one of the picture
pub untrimmed : (trim : Bool) (t : Transform) (G : Grids) (i x y : ℕ) → 0 < greatest G.across → 0 < greatest G.down → IsIn (trim_grids trim t G) i x y → IsIn G i x y
untrimmed trim t G i x y h v r =
    let across : real_side (trim_grids trim t G).width (get_or G.across i 1) (greatest G.across) ≤ real_side G.width (get_or G.across i 1) (greatest G.across) =
    real_mono (trim_grids trim t G).width G.width (get_or G.across i 1) (greatest G.across) h (side (trim && mirrors_across t) G.width (8 * greatest G.across)) in
    let down : real_side (trim_grids trim t G).height (get_or G.down i 1) (greatest G.down) ≤ real_side G.height (get_or G.down i 1) (greatest G.down) =
    real_mono (trim_grids trim t G).height G.height (get_or G.down i 1) (greatest G.down) v (side (trim && mirrors_down t) G.height (8 * greatest G.down)) in
    record { component = r.component; across = omega (arith, r.across, across); down = omega (arith, r.down, down) }
  where
    side : (b : Bool) (s m : ℕ) → cond b (whole_side s m) s ≤ s
    side true s m = trimmed_low s m
    side false s m = omega arith

-- the place opposite is real
pub opposite_in : (t : Transform) (G : Grids) (i x y : ℕ) → 0 < greatest G.across → 0 < greatest G.down → IsIn G i x y → IsIn G i (opposite (columns_by t G i) x) (opposite (rows_by t G i) y)
opposite_in t G i x y h v r = record {
  component = r.component;
  across = opposite_low (columns_by t G i) x (real_side G.width (get_or G.across i 1) (greatest G.across)) (some (mirrors_across t) (whole_in_real G.width (get_or G.across i 1) (greatest G.across) h)) r.across;
  down = opposite_low (rows_by t G i) y (real_side G.height (get_or G.down i 1) (greatest G.down)) (some (mirrors_down t) (whole_in_real G.height (get_or G.down i 1) (greatest G.down) v)) r.down;
}
  where
    some : (b : Bool) {k n : ℕ} → k ≤ n → cond b k 0 ≤ n
    some true e = e
    some false e = omega arith
