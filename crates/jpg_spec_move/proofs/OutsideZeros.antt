-- Transformed pictures have zeros outside their real grids, if the pictures have.
use Rattle.std.proofs.Common.{◌≡◌, ℕ, ◌-◌, ◌<◌, ◌≤◌, Bool, true, false, cond, ◌&&◌, List, length, refl, sym, ap, ◌∙◌, subst, arith, ⊎_elim, ℤ}
use Rattle.std.specs.Prelude.{nat_lt}
use Rattle.std.proofs.lemmas.Bool.{cases_lt, ltb-true}
use Rattle.std.proofs.lemmas.List.{length-map}
use Rattle.jpg_spec.specs.Geometry.{Frame, greatest, blocks_across, blocks_down, component_at, is_real, IsReal}
use Rattle.jpg_spec.specs.Elements.{zeros}
use Rattle.jpg_spec.specs.Meaning.{Meaning, picture_frame, real_blocks}
use Rattle.jpg_spec.specs.Scan.{Blocks}
use Rattle.jpg_spec_move.specs.Moves.{mirrored, mirrored_down}
use Rattle.jpg_spec.specs.Transposed.{transposed}
use Rattle.jpg_spec_move.specs.Transforms.{transformed, transposes, opposite, changed_columns, changed_rows, signed, turned_over}
use Rattle.jpg_spec.specs.Grids.{Grids, picture_grids}
use Rattle.jpg_spec.specs.WholeBlocks.{HasWholeBlocks}
use Rattle.jpg_spec_move.specs.declared.transform.Transform.{Transform}
use Rattle.jpg_spec_move.proofs.Transforming.{by_formula}
use Rattle.jpg_spec_move.proofs.MovedGrids.{over_grids, columns_by, rows_by, turned_picture, framed_picture, columns_picture, rows_picture, IsIn, to_grids, from_grids, opposite_in}
use Rattle.jpg_spec.proofs.Basics.Common.{lt_yes, lt_no}
use Rattle.jpg_spec.proofs.Places.OutsideZeros.{test, HasRealBlocks}

-- zero blocks don't change

zeros_mirrored : (b : Bool) → cond b (mirrored (zeros 64)) (zeros 64) ≡ zeros 64
unfolding mirrored
zeros_mirrored true = refl
zeros_mirrored false = refl

zeros_down : (b : Bool) → cond b (mirrored_down (zeros 64)) (zeros 64) ≡ zeros 64
unfolding mirrored_down
zeros_down true = refl
zeros_down false = refl

zeros_over : (b : Bool) → turned_over b (zeros 64) ≡ zeros 64
unfolding transposed
zeros_over true = refl
zeros_over false = refl

zeros_signed : (a b over : Bool) → signed a b (turned_over over (zeros 64)) ≡ zeros 64
zeros_signed a b over =
    ap (signed a b) (zeros_over over) ∙ ap (λ here. cond a (mirrored here) here) (zeros_down b) ∙ zeros_mirrored a

-- whether a place is real

both_true : (a b c : Bool) → a && (b && c) ≡ true → (a ≡ true) × (b ≡ true) × (c ≡ true)
both_true true true true e = (refl, refl, refl)
both_true true true false e = absurd (cc)
both_true true false c e = absurd (cc)
both_true false b c e = absurd (cc)

is_test : (f : Frame) (i x y : ℕ) → test f i x y ≡ true → IsReal f i x y
is_test f i x y e =
    let p = both_true (nat_lt i (length f.components)) (nat_lt x (blocks_across f (component_at f i))) (nat_lt y (blocks_down f (component_at f i))) e in
    record {
      component = ltb-true i (length f.components) p.0;
      across = ltb-true x (blocks_across f (component_at f i)) p.1;
      down = ltb-true y (blocks_down f (component_at f i)) p.2;
    }

pub true_test : (f : Frame) (i x y : ℕ) → IsReal f i x y → test f i x y ≡ true
true_test f i x y r =
    ap (λ b. b && is_real f i x y) (lt_yes i (length f.components) r.component)
    ∙ ap (λ b. b && nat_lt y (blocks_down f (component_at f i))) (lt_yes x (blocks_across f (component_at f i)) r.across)
    ∙ lt_yes y (blocks_down f (component_at f i)) r.down

pub real_true : (f : Frame) (blocks : Blocks) (i x y : ℕ) → IsReal f i x y → real_blocks f blocks i x y ≡ blocks i x y
real_true f blocks i x y r = ap (λ b. cond b (blocks i x y) (zeros 64)) (true_test f i x y r)

pub opposite_twice : (w x : ℕ) → opposite w (opposite w x) ≡ x
opposite_twice w x = ⊎_elim inside outside (cases_lt x w)
  where
    inside : x < w → opposite w (opposite w x) ≡ x
    inside h =
        let there : w - 1 - x < w = omega (arith, h) in
        let back : w - 1 - (w - 1 - x) ≡ x = omega (arith, h) in
        ap (λ b. opposite w (cond b (w - 1 - x) x)) (lt_yes x w h) ∙ ap (λ b. cond b (w - 1 - (w - 1 - x)) (w - 1 - x)) (lt_yes (w - 1 - x) w there) ∙ back

    outside : w ≤ x → opposite w (opposite w x) ≡ x
    outside h = ap (λ b. opposite w (cond b (w - 1 - x) x)) (lt_no x w h) ∙ ap (λ b. cond b (w - 1 - x) x) (lt_no x w h)

-- THE LAW

-- the real places of a picture, by its grids
pub in_picture : (M : Meaning) (i x y : ℕ) → IsIn (picture_grids M) i x y → IsReal (picture_frame M) i x y
in_picture M i x y r = from_grids (picture_frame M) i x y (subst (λ (K : Grids). IsIn K i x y) (sym (framed_picture M)) r)

pub of_picture : (M : Meaning) (i x y : ℕ) → IsReal (picture_frame M) i x y → IsIn (picture_grids M) i x y
of_picture M i x y r = subst (λ (K : Grids). IsIn K i x y) (framed_picture M) (to_grids (picture_frame M) i x y r)

over_in : (over : Bool) (G : Grids) (i x y : ℕ) → length G.across ≡ length G.down → IsIn G i (cond over y x) (cond over x y) → IsIn (over_grids over G) i x y
over_in true G i x y e r = record { component = omega (arith, e, r.component); across = r.down; down = r.across }
over_in false G i x y e r = r

same_lengths : (M : Meaning) → length (picture_grids M).across ≡ length (picture_grids M).down
same_lengths M = length-map M.components (λ c. c.h) ∙ sym (length-map M.components (λ c. c.v))

kept_zeros : (b c over : Bool) (sa sb : Bool) (block : List ℤ) → (b ≡ true → c ≡ true) → cond c (signed sa sb (turned_over over (cond b block (zeros 64)))) (zeros 64) ≡ signed sa sb (turned_over over (cond b block (zeros 64)))
kept_zeros b true over sa sb block h = refl
kept_zeros true false over sa sb block h = absurd (let e : false ≡ true = h refl in cc)
kept_zeros false false over sa sb block h = sym (zeros_signed sa sb over)

chosen : (over : Bool) (A : ℕ → ℕ → List ℤ) (x y : ℕ) → cond over (A y x) (A x y) ≡ A (cond over y x) (cond over x y)
chosen true A x y = refl
chosen false A x y = refl

pub transformed_real : (M : Meaning) (t : Transform) → HasWholeBlocks M → 0 < greatest (picture_grids (transformed t M)).across → 0 < greatest (picture_grids (transformed t M)).down → HasRealBlocks M → HasRealBlocks (transformed t M)
transformed_real M t w h v real i x y =
    let T = transformed t M in
    let over = transposes t in
    let c = changed_columns t T i in
    let r = changed_rows t T i in
    let a = opposite c x in
    let b = opposite r y in
    let sx = cond over b a in
    let sy = cond over a b in
    let here : T.blocks i x y ≡ signed (nat_lt x c) (nat_lt y r) (turned_over over (cond (test (picture_frame M) i sx sy) (M.blocks i sx sy) (zeros 64))) =
    by_formula M t w i x y ∙ ap (λ k. signed (nat_lt x c) (nat_lt y r) (turned_over over k)) (chosen over (M.blocks i) a b ∙ real i sx sy) in
    let goes : test (picture_frame M) i sx sy ≡ true → test (picture_frame T) i x y ≡ true = λ e.
    (let inM : IsIn (picture_grids M) i sx sy = of_picture M i sx sy (is_test (picture_frame M) i sx sy e) in
    let inT : IsIn (picture_grids T) i a b = subst (λ (K : Grids). IsIn K i a b) (sym (turned_picture t M)) (over_in over (picture_grids M) i a b (same_lengths M) inM) in
    let back : IsIn (picture_grids T) i (opposite (columns_by t (picture_grids T) i) a) (opposite (rows_by t (picture_grids T) i) b) = opposite_in t (picture_grids T) i a b h v inT in
    let named : IsIn (picture_grids T) i (opposite c a) (opposite r b) =
    subst (λ n. IsIn (picture_grids T) i (opposite n a) (opposite r b)) (sym (columns_picture t T i)) (subst (λ n. IsIn (picture_grids T) i (opposite (columns_by t (picture_grids T) i) a) (opposite n b)) (sym (rows_picture t T i)) back) in
    let there : IsIn (picture_grids T) i x y = subst (λ n. IsIn (picture_grids T) i n y) (opposite_twice c x) (subst (λ n. IsIn (picture_grids T) i (opposite c a) n) (opposite_twice r y) named) in
    true_test (picture_frame T) i x y (in_picture T i x y there)) in
    here
    ∙ sym (kept_zeros (test (picture_frame M) i sx sy) (test (picture_frame T) i x y) over (nat_lt x c) (nat_lt y r) (M.blocks i sx sy) goes)
    ∙ ap (λ k. cond (test (picture_frame T) i x y) k (zeros 64)) (sym here)
