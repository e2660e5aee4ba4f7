-- Blocks that are put place by place are those of the real grids in the end.
use Rattle.std.proofs.Common.{◌≡◌, ℕ, ◌+◌, Bool, true, false, cond, ◌&&◌, ◌==◌, List, length, refl, sym, ap, ◌∙◌, subst, arith, ℤ}
use Rattle.std.proofs.Math.Path.{fun_ext}
use Rattle.std.specs.Prelude.{nat_lt, ◌||◌, replicate}
use Rattle.std.proofs.lemmas.Bool.Decides.{nat_tests}
use Rattle.jpg_spec.specs.Elements.{zeros}
use Rattle.jpg_spec.specs.FrameHeader.{IsFrame}
use Rattle.jpg_spec.specs.Geometry.{Frame, IsReal, blocks_across, component_at, is_real, padded_blocks}
use Rattle.jpg_spec.specs.Meaning.{real_blocks}
use Rattle.jpg_spec.specs.Scan.{Blocks}
use Rattle.jpg_spec.specs.PictureInWork.{is_at}
use Rattle.jpg_spec.specs.declared.frame.Place.{Place}
use Rattle.jpg_spec.proofs.Basics.Common.{both, same_of, eq_swap}
use Rattle.jpg_base.specs.Cursor.{IsPadded}
use Rattle.jpg_base.proofs.ScanPlaces.{padded_of}
use Rattle.jpg_coefs.specs.Picture.{Picture, HasPlace, map_of, with_block}
use Rattle.jpg_coefs.proofs.Maps.{blank_is, put_here, put_others}
use Rattle.jpg_coefs.specs.Copied.{CopiesBlocks, in_components, in_grid, in_grid_row, in_grids, in_row, in_first_rows, is_place}

-- ONE BLOCK

pub place_there : (f g : Frame) (i x y : ℕ) → IsFrame f → g ≡ f → IsReal f i x y → IsPadded g i x y
place_there f g i x y is e r = subst (λ (h : Frame). IsPadded h i x y) (sym e) (padded_of f i x y is r)

place_by : (i x y j u v : ℕ) → is_place i x y j u v ≡ is_at j u v (record { component = i; x = x; y = y; real = true })
place_by i x y j u v =
    ap (λ t. t && (u == x && v == y)) (eq_swap j i) ∙ ap (λ t. (i == j) && (t && v == y)) (eq_swap u x) ∙ ap (λ t. (i == j) && (x == u && t)) (eq_swap v y)
    ∙ grouped (i == j) (x == u) (y == v)
  where
    grouped : (a b c : Bool) → (a && (b && c)) ≡ (a && b && c)
    grouped true b c = refl
    grouped false b c = refl

pub put_one : (i x y : ℕ) (seen : Blocks) (old : Picture) → IsPadded old.frame i x y → length old.blocks ≡ padded_blocks old.frame → CopiesBlocks (is_place i x y) seen old (with_block old i x y (seen i x y))
put_one i x y seen old there count = record { frame = refl; blocks = λ j u v. at j u v (is_place i x y j u v) refl }
  where
    p : Place
    p = record { component = i; x = x; y = y; real = true }

    has : HasPlace old p
    has = record { place = there; count = count }

    at : (j u v : ℕ) (b : Bool) → is_place i x y j u v ≡ b → map_of (with_block old i x y (seen i x y)) j u v ≡ cond b (seen j u v) (map_of old j u v)
    at j u v false e = put_others old p (seen i x y) has j u v (sym (place_by i x y j u v) ∙ e)
    at j u v true e =
        let a = both (j == i) (u == x && v == y) e in
        let b = both (u == x) (v == y) a.1 in
        let jj = same_of j i a.0 in
        let uu = same_of u x b.0 in
        let vv = same_of v y b.1 in
        ap (λ k. map_of (with_block old i x y (seen i x y)) k u v) jj ∙ ap (λ k. map_of (with_block old i x y (seen i x y)) i k v) uu ∙ ap (λ k. map_of (with_block old i x y (seen i x y)) i x k) vv
        ∙ put_here old p (seen i x y) has
        ∙ sym (ap (λ k. seen k u v) jj ∙ ap (λ k. seen i k v) uu ∙ ap (λ k. seen i x k) vv)

-- MORE AND MORE PLACES

abbrev IsBoth : (a b c : ℕ → ℕ → ℕ → Bool) → Type 0
IsBoth a b c = (i x y : ℕ) → c i x y ≡ (a i x y || b i x y)

copies_none : (chosen : ℕ → ℕ → ℕ → Bool) (seen : Blocks) (old : Picture) → ((i x y : ℕ) → chosen i x y ≡ false) → CopiesBlocks chosen seen old old
copies_none chosen seen old none = record { frame = refl; blocks = λ i x y. sym (ap (λ b. cond b (seen i x y) (map_of old i x y)) (none i x y)) }

copies_more : (a b c : ℕ → ℕ → ℕ → Bool) (seen : Blocks) (old mid new : Picture) → IsBoth a b c → CopiesBlocks a seen old mid → CopiesBlocks b seen mid new → CopiesBlocks c seen old new
copies_more a b c seen old mid new e first second = record {
  frame = second.frame ∙ first.frame;
  blocks = λ i x y.
      second.blocks i x y ∙ ap (λ m. cond (b i x y) (seen i x y) m) (first.blocks i x y) ∙ by (a i x y) (b i x y) (seen i x y) (map_of old i x y)
      ∙ sym (ap (λ t. cond t (seen i x y) (map_of old i x y)) (e i x y));
}
  where
    by : (t s : Bool) (n o : List ℤ) → cond s n (cond t n o) ≡ cond (t || s) n o
    by true true n o = refl
    by true false n o = refl
    by false s n o = refl

less_none : (u : ℕ) → nat_lt u 0 ≡ false
less_none u = grind (arith, nat_tests)

pub no_rows : (f : Frame) (i : ℕ) (seen : Blocks) (old : Picture) → CopiesBlocks (in_first_rows f i 0) seen old old
no_rows f i seen old =
    copies_none (in_first_rows f i 0) seen old
    (λ j u v. ap (λ t. (j == i) && (nat_lt u (blocks_across f (component_at f i)) && t)) (less_none v) ∙ never (j == i) (nat_lt u (blocks_across f (component_at f i))))
  where
    never : (a b : Bool) → (a && (b && false)) ≡ false
    never true true = refl
    never true false = refl
    never false b = refl

-- by the next one of a row, of rows, of components
less_more : (u x : ℕ) → nat_lt u (x + 1) ≡ (nat_lt u x || u == x)
less_more u x = grind (arith, nat_tests)

inner : (p a b r : Bool) → (p && ((a || b) && r)) ≡ ((p && (a && r)) || (p && (b && r)))
inner true true b true = refl
inner true true true false = refl
inner true true false false = refl
inner true false b r = refl
inner false a b r = refl

last : (p q a b : Bool) → (p && (q && (a || b))) ≡ ((p && (q && a)) || (p && (q && b)))
last true true a b = refl
last true false a b = refl
last false q a b = refl

outer : (a b r : Bool) → ((a || b) && r) ≡ ((a && r) || (b && r))
outer true true true = refl
outer true true false = refl
outer true false true = refl
outer true false false = refl
outer false b r = refl

pub row_more : (i y count : ℕ) (seen : Blocks) (old mid new : Picture) → CopiesBlocks (in_row i y count) seen old mid → CopiesBlocks (is_place i count y) seen mid new → CopiesBlocks (in_row i y (count + 1)) seen old new
row_more i y count seen old mid new =
    copies_more (in_row i y count) (is_place i count y) (in_row i y (count + 1)) seen old mid new
    (λ j u v. ap (λ t. (j == i) && (t && v == y)) (less_more u count) ∙ inner (j == i) (nat_lt u count) (u == count) (v == y))

pub rows_more : (f : Frame) (i count : ℕ) (seen : Blocks) (old mid new : Picture) → CopiesBlocks (in_first_rows f i count) seen old mid → CopiesBlocks (in_grid_row f i count) seen mid new → CopiesBlocks (in_first_rows f i (count + 1)) seen old new
rows_more f i count seen old mid new =
    copies_more (in_first_rows f i count) (in_grid_row f i count) (in_first_rows f i (count + 1)) seen old mid new
    (λ j u v.
    ap (λ t. (j == i) && (nat_lt u (blocks_across f (component_at f i)) && t)) (less_more v count)
    ∙ last (j == i) (nat_lt u (blocks_across f (component_at f i))) (nat_lt v count) (v == count))

at_same : (j n : ℕ) (t : ℕ → Bool) → (j == n && t j) ≡ (j == n && t n)
at_same j n t = by (j == n) refl
  where
    by : (b : Bool) → (j == n) ≡ b → (b && t j) ≡ (b && t n)
    by true e = ap t (same_of j n e)
    by false e = refl

pub components_more : (f : Frame) (count : ℕ) (seen : Blocks) (old mid new : Picture) → CopiesBlocks (in_components f count) seen old mid → CopiesBlocks (in_grid f count) seen mid new → CopiesBlocks (in_components f (count + 1)) seen old new
components_more f count seen old mid new =
    copies_more (in_components f count) (in_grid f count) (in_components f (count + 1)) seen old mid new
    (λ j u v.
    ap (λ t. t && is_real f j u v) (less_more j count) ∙ outer (nat_lt j count) (j == count) (is_real f j u v)
    ∙ ap (λ t. (nat_lt j count && is_real f j u v) || t) (at_same j count (λ k. is_real f k u v)))

-- ALL OF THEM, put among zero blocks

pub all_real : (f : Frame) (seen : Blocks) (old new : Picture) (n : ℕ) → old.blocks ≡ replicate n (zeros 64) → CopiesBlocks (in_grids f) seen old new → (i x y : ℕ) → map_of new i x y ≡ real_blocks f seen i x y
all_real f seen old new n none all i x y =
    all.blocks i x y ∙ ap (λ (b : Blocks). cond (in_grids f i x y) (seen i x y) (b i x y)) (blank_is old n none)

pub zero_outside : (f : Frame) (seen : Blocks) (old new : Picture) (n : ℕ) → old.blocks ≡ replicate n (zeros 64) → CopiesBlocks (in_grids f) seen old new → real_blocks f (map_of new) ≡ map_of new
zero_outside f seen old new n none all = fun_ext (λ i. fun_ext (λ x. fun_ext (λ y. by i x y (in_grids f i x y) (all_real f seen old new n none all i x y))))
  where
    by : (i x y : ℕ) (b : Bool) → map_of new i x y ≡ cond b (seen i x y) (zeros 64) → cond b (map_of new i x y) (zeros 64) ≡ map_of new i x y
    by i x y true e = refl
    by i x y false e = sym e
