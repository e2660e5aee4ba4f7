-- The transforms of pictures: their compositions, and the place and the signs of each block.
use Rattle.std.proofs.Common.{◌≡◌, ℕ, zero, suc, ◌-◌, ◌*◌, ◌/◌, ◌<◌, ◌≤◌, Bool, true, false, cond, List, [], ◌∷◌, length, get_or, refl, sym, ap, ◌∙◌, subst, arith, ⊎_elim, ℤ, pos, map}
use Rattle.std.specs.Prelude.{nat_lt}
use Rattle.std.specs.List.{All}
use Rattle.std.proofs.Math.Path.{fun_ext}
use Rattle.std.proofs.lemmas.Bool.{cases_lt}
use Rattle.std.proofs.lemmas.List.Elements.{All-map, All-from_get_or}
use Rattle.jpg_spec.specs.Geometry.{greatest}
use Rattle.jpg_spec.specs.Meaning.{Meaning, PictureComponent, most_across, most_down, component_of}
use Rattle.jpg_spec_move.specs.Moves.{mirrored, mirrored_down, whole_columns, whole_rows, flip_h, flip_v}
use Rattle.jpg_spec.specs.Transposed.{transposed}
use Rattle.jpg_spec_move.specs.Transforms.{exchanged_axes, transpose, transformed, inverse, transposes, changed_columns, changed_rows, placed, signed, turned_over}
use Rattle.jpg_spec.specs.WholeBlocks.{HasWholeBlocks}
use Rattle.jpg_spec.specs.Laws.{with_blocks}
use Rattle.jpg_spec_move.specs.declared.transform.Transform.{Transform}
use Rattle.jpg_spec_move.specs.declared.transform.Transform.TheVariants.{Keep, FlipH, FlipV, Transpose, Transverse, Rotate90, Rotate180, Rotate270}
use Rattle.jpg_spec.proofs.Basics.Rows.{map_map, map_alike}
use Rattle.jpg_spec.proofs.Writing.MirroredBlocks.{IsBlock}
use Rattle.jpg_spec_move.proofs.MirroredBlocks.{mirrored_block, mirrored_twice}
use Rattle.jpg_spec_move.proofs.BlockLaws.{length_transposed, transposed_twice, mirrored_transposed, mirrored_down_transposed, mirrored_both, mirrored_down_block, mirrored_down_twice}
use Rattle.jpg_spec.proofs.Basics.Common.{lt_yes, lt_no}

-- BLOCKS IN A LINE, some of which change places

abbrev flipped : (List ℤ → List ℤ) → ℕ → (ℕ → List ℤ) → ℕ → List ℤ
flipped m w line x = cond (nat_lt x w) (m (line (w - 1 - x))) (line x)

flipped_twice : (m : List ℤ → List ℤ) (w : ℕ) (line : ℕ → List ℤ) (x : ℕ) → ((k : ℕ) → m (m (line k)) ≡ line k) → flipped m w (flipped m w line) x ≡ line x
flipped_twice m w line x twice = ⊎_elim inside outside (cases_lt x w)
  where
    inside : x < w → flipped m w (flipped m w line) x ≡ line x
    inside h =
        let there : w - 1 - x < w = omega (arith, h) in
        let back : w - 1 - (w - 1 - x) ≡ x = omega (arith, h) in
        ap (λ b. cond b (m (flipped m w line (w - 1 - x))) (flipped m w line x)) (lt_yes x w h)
        ∙ ap (λ b. m (cond b (m (line (w - 1 - (w - 1 - x)))) (line (w - 1 - x)))) (lt_yes (w - 1 - x) w there)
        ∙ twice (w - 1 - (w - 1 - x)) ∙ ap line back

    outside : w ≤ x → flipped m w (flipped m w line) x ≡ line x
    outside h =
        ap (λ b. cond b (m (flipped m w line (w - 1 - x))) (flipped m w line x)) (lt_no x w h) ∙ ap (λ b. cond b (m (line (w - 1 - x))) (line x)) (lt_no x w h)

-- two Bools, four blocks: the order of two flips is the same
crossed : (m n : List ℤ → List ℤ) (a b : Bool) (both left up here : List ℤ) → m (n both) ≡ n (m both)
    → cond a (m (cond b (n both) left)) (cond b (n up) here) ≡ cond b (n (cond a (m both) up)) (cond a (m left) here)
crossed m n true true both left up here e = e
crossed m n true false both left up here e = refl
crossed m n false true both left up here e = refl
crossed m n false false both left up here e = refl

-- what doesn't change in a picture

block_flipped : (m : List ℤ → List ℤ) (b : Bool) (there here : List ℤ) → ((c : List ℤ) → IsBlock c → IsBlock (m c)) → IsBlock there → IsBlock here → IsBlock (cond b (m there) here)
block_flipped m true there here step p q = step there p
block_flipped m false there here step p q = q

pub whole_h : (M : Meaning) → HasWholeBlocks M → HasWholeBlocks (flip_h M)
whole_h M w = record {
  blocks = λ i x y. block_flipped mirrored (nat_lt x (whole_columns M i)) (M.blocks i (whole_columns M i - 1 - x) y) (M.blocks i x y) mirrored_block (w.blocks i (whole_columns M i - 1 - x) y) (w.blocks i x y);
  quants = w.quants;
}

pub whole_v : (M : Meaning) → HasWholeBlocks M → HasWholeBlocks (flip_v M)
whole_v M w = record {
  blocks = λ i x y. block_flipped mirrored_down (nat_lt y (whole_rows M i)) (M.blocks i x (whole_rows M i - 1 - y)) (M.blocks i x y) mirrored_down_block (w.blocks i x (whole_rows M i - 1 - y)) (w.blocks i x y);
  quants = w.quants;
}

tables_whole : (cs : List PictureComponent) → All (λ c. length c.quants ≡ 64) (map exchanged_axes cs)
tables_whole cs = All-map (λ c. length c.quants ≡ 64) exchanged_axes cs (each cs)
  where
    each : (cs : List PictureComponent) → All (λ c. length (exchanged_axes c).quants ≡ 64) cs
    each cs = All-from_get_or (λ c. length (exchanged_axes c).quants ≡ 64) cs (record { id = 0; h = 1; v = 1; quants = [] }) (λ k h. length_transposed 0 _)

pub whole_t : (M : Meaning) → HasWholeBlocks M → HasWholeBlocks (transpose M)
whole_t M w = record {
  blocks = λ i x y. length_transposed (pos 0) (M.blocks i y x);
  quants = tables_whole M.components;
}

-- TWO FLIPS AND A TRANSPOSITION

pub h_twice : (M : Meaning) → HasWholeBlocks M → flip_h (flip_h M) ≡ M
h_twice M w =
    ap (with_blocks M)
    (fun_ext (λ i. fun_ext (λ x. fun_ext (λ y. flipped_twice mirrored (whole_columns M i) (λ k. M.blocks i k y) x (λ k. mirrored_twice (M.blocks i k y) (w.blocks i k y))))))

pub v_twice : (M : Meaning) → HasWholeBlocks M → flip_v (flip_v M) ≡ M
v_twice M w =
    ap (with_blocks M)
    (fun_ext (λ i. fun_ext (λ x. fun_ext (λ y. flipped_twice mirrored_down (whole_rows M i) (λ k. M.blocks i x k) y (λ k. mirrored_down_twice (M.blocks i x k) (w.blocks i x k))))))

pub flips_cross : (M : Meaning) → HasWholeBlocks M → flip_h (flip_v M) ≡ flip_v (flip_h M)
flips_cross M w =
    ap (with_blocks M)
    (fun_ext (λ i. fun_ext (λ x. fun_ext (λ y.
    (let a = whole_columns M i - 1 - x in
    let b = whole_rows M i - 1 - y in
    crossed mirrored mirrored_down (nat_lt x (whole_columns M i)) (nat_lt y (whole_rows M i)) (M.blocks i a b) (M.blocks i a y) (M.blocks i x b) (M.blocks i x y) (mirrored_both (M.blocks i a b) (w.blocks i a b)))))))

component_twice : (c : PictureComponent) → length c.quants ≡ 64 → exchanged_axes (exchanged_axes c) ≡ c
component_twice c l = ap (λ q. (let d : PictureComponent = record c { quants = q } in d)) (transposed_twice 0 c.quants l)

same_list : (cs : List PictureComponent) → map (λ c. c) cs ≡ cs
same_list [] = refl
same_list (c ∷ cs) = ap (λ t. c ∷ t) (same_list cs)

pub t_twice : (M : Meaning) → HasWholeBlocks M → transpose (transpose M) ≡ M
t_twice M w =
    let e : map exchanged_axes (map exchanged_axes M.components) ≡ M.components =
    map_map exchanged_axes exchanged_axes M.components ∙ map_alike (λ c. length c.quants ≡ 64) (λ c. exchanged_axes (exchanged_axes c)) (λ c. c) M.components component_twice w.quants ∙ same_list M.components in
    ap (λ cs. (let N : Meaning = record M { components = cs; blocks = (transpose (transpose M)).blocks } in N)) e
    ∙ ap (with_blocks M) (fun_ext (λ i. fun_ext (λ x. fun_ext (λ y. transposed_twice (pos 0) (M.blocks i x y) (w.blocks i x y)))))

-- the factors with their axes exchanged

abbrev no_part : PictureComponent
no_part = record { id = 0; h = 1; v = 1; quants = [] }

across_down : (cs : List PictureComponent) (i : ℕ) → (get_or (map exchanged_axes cs) i no_part).h ≡ (get_or cs i no_part).v
across_down [] i = refl
across_down (c ∷ cs) zero = refl
across_down (c ∷ cs) (suc i) = across_down cs i

down_across : (cs : List PictureComponent) (i : ℕ) → (get_or (map exchanged_axes cs) i no_part).v ≡ (get_or cs i no_part).h
down_across [] i = refl
down_across (c ∷ cs) zero = refl
down_across (c ∷ cs) (suc i) = down_across cs i

pub columns_transposed : (M : Meaning) (i : ℕ) → whole_columns (transpose M) i ≡ whole_rows M i
columns_transposed M i =
    let e : most_across (transpose M) ≡ most_down M = ap greatest (map_map (λ c. c.h) exchanged_axes M.components) in
    ap (λ k. (M.height / (8 * k)) * (component_of (transpose M) i).h) e ∙ ap (λ k. (M.height / (8 * most_down M)) * k) (across_down M.components i)

pub rows_transposed : (M : Meaning) (i : ℕ) → whole_rows (transpose M) i ≡ whole_columns M i
rows_transposed M i =
    let e : most_down (transpose M) ≡ most_across M = ap greatest (map_map (λ c. c.v) exchanged_axes M.components) in
    ap (λ k. (M.width / (8 * k)) * (component_of (transpose M) i).v) e ∙ ap (λ k. (M.width / (8 * most_across M)) * k) (down_across M.components i)

-- a flip of a line can be moved past the exchange of axes
through : (m n : List ℤ → List ℤ) (b : Bool) (there here : List ℤ) → m (transposed (pos 0) there) ≡ transposed (pos 0) (n there)
    → cond b (m (transposed (pos 0) there)) (transposed (pos 0) here) ≡ transposed (pos 0) (cond b (n there) here)
through m n true there here e = e
through m n false there here e = refl

pub h_over : (M : Meaning) → HasWholeBlocks M → flip_h (transpose M) ≡ transpose (flip_v M)
h_over M w = ap (with_blocks (transpose M)) (fun_ext (λ i. fun_ext (λ x. fun_ext (λ y. at i x y))))
  where
    at : (i x y : ℕ) → (flip_h (transpose M)).blocks i x y ≡ (transpose (flip_v M)).blocks i x y
    at i x y =
        ap (λ k. cond (nat_lt x k) (mirrored (transposed (pos 0) (M.blocks i y (k - 1 - x)))) (transposed (pos 0) (M.blocks i y x))) (columns_transposed M i)
        ∙ through mirrored mirrored_down (nat_lt x (whole_rows M i)) (M.blocks i y (whole_rows M i - 1 - x)) (M.blocks i y x) (mirrored_transposed (M.blocks i y (whole_rows M i - 1 - x)) (w.blocks i y (whole_rows M i - 1 - x)))

pub v_over : (M : Meaning) → HasWholeBlocks M → flip_v (transpose M) ≡ transpose (flip_h M)
v_over M w = ap (with_blocks (transpose M)) (fun_ext (λ i. fun_ext (λ x. fun_ext (λ y. at i x y))))
  where
    at : (i x y : ℕ) → (flip_v (transpose M)).blocks i x y ≡ (transpose (flip_h M)).blocks i x y
    at i x y =
        ap (λ k. cond (nat_lt y k) (mirrored_down (transposed (pos 0) (M.blocks i (k - 1 - y) x))) (transposed (pos 0) (M.blocks i y x))) (rows_transposed M i)
        ∙ through mirrored_down mirrored (nat_lt y (whole_columns M i)) (M.blocks i (whole_columns M i - 1 - y) x) (M.blocks i y x) (mirrored_down_transposed (M.blocks i (whole_columns M i - 1 - y) x) (w.blocks i (whole_columns M i - 1 - y) x))

-- THE INVERSE

pub undone : (M : Meaning) (t : Transform) → HasWholeBlocks M → transformed (inverse t) (transformed t M) ≡ M
undone M Keep w = refl
undone M FlipH w = h_twice M w
undone M FlipV w = v_twice M w
undone M Transpose w = t_twice M w
undone M Rotate90 w = ap transpose (h_twice (transpose M) (whole_t M w)) ∙ t_twice M w
undone M Rotate270 w = ap flip_h (t_twice (flip_h M) (whole_h M w)) ∙ h_twice M w
undone M Rotate180 w =
    let v = whole_v M w in
    ap flip_h (sym (flips_cross (flip_v M) v)) ∙ h_twice (flip_v (flip_v M)) (whole_v (flip_v M) v) ∙ v_twice M w
undone M Transverse w =
    let v = whole_v M w in
    let n = whole_h (flip_v M) v in
    let N = flip_h (flip_v M) in
    ap (λ K. transpose (flip_h K)) (v_over N n) ∙ ap transpose (h_over (flip_h N) (whole_h N n)) ∙ t_twice (flip_v (flip_h N)) (whole_v (flip_h N) (whole_h N n))
    ∙ ap flip_v (h_twice (flip_v M) v) ∙ v_twice M w

-- THE FORMULA

-- the block of the formula, by whether its column and its row change places
abbrev shape : Bool → (ℕ → ℕ → List ℤ) → Bool → Bool → ℕ → ℕ → ℕ → ℕ → List ℤ
shape over blocks a b x' x y' y = signed a b (turned_over over (cond over (blocks (cond b y' y) (cond a x' x)) (blocks (cond a x' x) (cond b y' y))))

never : (x : ℕ) → nat_lt x 0 ≡ false
never x = lt_no x 0 (omega arith)

across_alone : (over : Bool) (blocks : ℕ → ℕ → List ℤ) (w x y : ℕ) → shape over blocks (nat_lt x w) false (w - 1 - x) x (0 - 1 - y) y ≡ placed over w 0 blocks x y
across_alone over blocks w x y = sym (ap (λ b. shape over blocks (nat_lt x w) b (w - 1 - x) x (0 - 1 - y) y) (never y))

down_alone : (over : Bool) (blocks : ℕ → ℕ → List ℤ) (r x y : ℕ) → shape over blocks false (nat_lt y r) (0 - 1 - x) x (r - 1 - y) y ≡ placed over 0 r blocks x y
down_alone over blocks r x y = sym (ap (λ b. shape over blocks b (nat_lt y r) (0 - 1 - x) x (r - 1 - y) y) (never x))

neither : (over : Bool) (blocks : ℕ → ℕ → List ℤ) (x y : ℕ) → shape over blocks false false (0 - 1 - x) x (0 - 1 - y) y ≡ placed over 0 0 blocks x y
neither over blocks x y = sym (ap (λ b. shape over blocks b false (0 - 1 - x) x (0 - 1 - y) y) (never x)) ∙ across_alone over blocks 0 x y

-- a block of the transposed picture, or of the picture as it is
abbrev moved_block : Bool → (ℕ → ℕ → List ℤ) → ℕ → ℕ → List ℤ
moved_block over blocks x y = turned_over over (cond over (blocks y x) (blocks x y))

one_across : (over a : Bool) (blocks : ℕ → ℕ → List ℤ) (x' x y' y : ℕ) → cond a (mirrored (moved_block over blocks x' y)) (moved_block over blocks x y) ≡ shape over blocks a false x' x y' y
one_across over true blocks x' x y' y = refl
one_across over false blocks x' x y' y = refl

one_down : (over b : Bool) (blocks : ℕ → ℕ → List ℤ) (x' x y' y : ℕ) → cond b (mirrored_down (moved_block over blocks x y')) (moved_block over blocks x y) ≡ shape over blocks false b x' x y' y
one_down over true blocks x' x y' y = refl
one_down over false blocks x' x y' y = refl

two : (over a b : Bool) (blocks : ℕ → ℕ → List ℤ) (x' x y' y : ℕ)
    → cond a (mirrored (cond b (mirrored_down (moved_block over blocks x' y')) (moved_block over blocks x' y))) (cond b (mirrored_down (moved_block over blocks x y')) (moved_block over blocks x y))
    ≡ shape over blocks a b x' x y' y
two over true true blocks x' x y' y = refl
two over true false blocks x' x y' y = refl
two over false true blocks x' x y' y = refl
two over false false blocks x' x y' y = refl

abbrev ByFormula : Transform → Meaning → Meaning → Type 0
ByFormula t M out = (i x y : ℕ) → out.blocks i x y ≡ placed (transposes t) (changed_columns t out i) (changed_rows t out i) (M.blocks i) x y

at_270 : (M : Meaning) → HasWholeBlocks M → ByFormula Rotate270 M (transpose (flip_h M))
at_270 M w = subst (λ (N : Meaning). ByFormula Rotate270 M N) (v_over M w) here
  where
    here : ByFormula Rotate270 M (flip_v (transpose M))
    here i x y =
        let r = whole_rows (transpose M) i in
        one_down true (nat_lt y r) (M.blocks i) (0 - 1 - x) x (r - 1 - y) y ∙ down_alone true (M.blocks i) r x y

at_transverse : (M : Meaning) → HasWholeBlocks M → ByFormula Transverse M (transpose (flip_h (flip_v M)))
at_transverse M w =
    subst (λ (N : Meaning). ByFormula Transverse M N)
    (flips_cross (transpose M) (whole_t M w) ∙ ap flip_v (h_over M w) ∙ v_over (flip_v M) (whole_v M w)) here
  where
    here : ByFormula Transverse M (flip_h (flip_v (transpose M)))
    here i x y =
        let c = whole_columns (transpose M) i in
        let r = whole_rows (transpose M) i in
        two true (nat_lt x c) (nat_lt y r) (M.blocks i) (c - 1 - x) x (r - 1 - y) y

pub by_formula : (M : Meaning) (t : Transform) → HasWholeBlocks M → ByFormula t M (transformed t M)
by_formula M Keep w i x y = neither false (M.blocks i) x y
by_formula M FlipH w i x y =
    let c = whole_columns M i in
    one_across false (nat_lt x c) (M.blocks i) (c - 1 - x) x (0 - 1 - y) y ∙ across_alone false (M.blocks i) c x y
by_formula M FlipV w i x y =
    let r = whole_rows M i in
    one_down false (nat_lt y r) (M.blocks i) (0 - 1 - x) x (r - 1 - y) y ∙ down_alone false (M.blocks i) r x y
by_formula M Rotate180 w i x y =
    let c = whole_columns M i in
    let r = whole_rows M i in
    two false (nat_lt x c) (nat_lt y r) (M.blocks i) (c - 1 - x) x (r - 1 - y) y
by_formula M Transpose w i x y = neither true (M.blocks i) x y
by_formula M Rotate90 w i x y =
    let c = whole_columns (transpose M) i in
    one_across true (nat_lt x c) (M.blocks i) (c - 1 - x) x (0 - 1 - y) y ∙ across_alone true (M.blocks i) c x y
by_formula M Rotate270 w i x y = at_270 M w i x y
by_formula M Transverse w i x y = at_transverse M w i x y
