-- Pictures as maps of blocks.
use Rattle.std.proofs.Common.{◌≡◌, ℕ, ◌<◌, ◌≤◌, Bool, true, false, cond, ◌&&◌, ◌==◌, List, length, refl, sym, ap, ◌∙◌, arith, ℤ, pos, ⊎_elim}
use Rattle.std.proofs.Math.Path.{fun_ext}
use Rattle.std.specs.Prelude.{nat_lt, replicate, slice_index_or}
use Rattle.std.specs.List.{All}
use Rattle.std.proofs.lemmas.Bool.{cases_lt}
use Rattle.std.proofs.lemmas.Bool.Decides.{nat_tests}
use Rattle.std.proofs.lemmas.List.{get_or_past, get_or-replicate, length-replicate}
use Rattle.jpg_spec.specs.Elements.{zeros}
use Rattle.jpg_spec.specs.FileMeaning.{no_blocks}
use Rattle.jpg_spec.specs.Geometry.{Frame, component_at}
use Rattle.jpg_spec.specs.FrameHeader.{padded_across, padded_down}
use Rattle.jpg_spec.specs.Scan.{Scan, block_at}
use Rattle.jpg_spec.specs.PictureInWork.{is_at, OneChanges}
use Rattle.jpg_spec.specs.declared.frame.Place.{Place}
use Rattle.jpg_spec.proofs.Basics.Common.{both, lt_of, lt_yes}
use Rattle.jpg_base.specs.Cursor.{IsPadded}
use Rattle.jpg_coefs.specs.Picture.{Picture, HasPlace, KeepsOutside, is_padded, block_index, block_in, map_of, put_at}
use Rattle.jpg_coefs.proofs.Apart.{changed, stays}

padded_is : (f : Frame) (i x y : ℕ) → is_padded f i x y ≡ true → IsPadded f i x y
padded_is f i x y e =
    let a = both (nat_lt i (length f.components)) (nat_lt x (padded_across f (component_at f i)) && nat_lt y (padded_down f (component_at f i))) e in
    let b = both (nat_lt x (padded_across f (component_at f i))) (nat_lt y (padded_down f (component_at f i))) a.1 in
    record { component = lt_of i (length f.components) a.0; across = lt_of x (padded_across f (component_at f i)) b.0; down = lt_of y (padded_down f (component_at f i)) b.1 }

padded_yes : (f : Frame) (i x y : ℕ) → IsPadded f i x y → is_padded f i x y ≡ true
padded_yes f i x y p =
    ap (λ t. t && (nat_lt x (padded_across f (component_at f i)) && nat_lt y (padded_down f (component_at f i)))) (lt_yes i (length f.components) p.component)
    ∙ ap (λ t. t && nat_lt y (padded_down f (component_at f i))) (lt_yes x (padded_across f (component_at f i)) p.across)
    ∙ lt_yes y (padded_down f (component_at f i)) p.down

pub map_at : (q : Picture) (i x y : ℕ) → IsPadded q.frame i x y → map_of q i x y ≡ block_in q i x y
map_at q i x y p = ap (λ t. cond t (block_in q i x y) (zeros 64)) (padded_yes q.frame i x y p)

pub map_sizes : (q : Picture) → All (λ b. length b ≡ 64) q.blocks → (i x y : ℕ) → length (map_of q i x y) ≡ 64
map_sizes q all i x y = by (is_padded q.frame i x y)
  where
    at : (j : ℕ) → length (slice_index_or q.blocks j (zeros 64)) ≡ 64
    at j = ⊎_elim
        (λ (h : j < length q.blocks). all j (zeros 64) h)
        (λ (h : length q.blocks ≤ j). ap length (get_or_past q.blocks j (zeros 64) h) ∙ length-replicate 64 (pos 0))
        (cases_lt j (length q.blocks))

    by : (b : Bool) → length (cond b (block_in q i x y) (zeros 64)) ≡ 64
    by true = at (block_index q.frame i x y)
    by false = length-replicate 64 (pos 0)

-- all blocks of a new picture are zero
pub blank_is : (q : Picture) (n : ℕ) → q.blocks ≡ replicate n (zeros 64) → map_of q ≡ no_blocks
blank_is q n e = fun_ext (λ i. fun_ext (λ x. fun_ext (λ y. by i x y (is_padded q.frame i x y))))
  where
    at : (j : ℕ) → slice_index_or (replicate n (zeros 64)) j (zeros 64) ≡ zeros 64
    at j = ⊎_elim
        (λ (h : j < n). get_or-replicate n j (zeros 64) (zeros 64) h)
        (λ (h : n ≤ j). get_or_past (replicate n (zeros 64)) j (zeros 64) (omega (arith, h, length-replicate n (zeros 64))))
        (cases_lt j n)

    by : (i x y : ℕ) (b : Bool) → cond b (slice_index_or q.blocks (block_index q.frame i x y) (zeros 64)) (zeros 64) ≡ zeros 64
    by i x y false = refl
    by i x y true = ap (λ (l : List (List ℤ)). slice_index_or l (block_index q.frame i x y) (zeros 64)) e ∙ at (block_index q.frame i x y)

-- A BLOCK IS PUT at a place

pub put_here : (q : Picture) (p : Place) (block : List ℤ) → HasPlace q p → block_at (map_of (put_at q p block)) p ≡ block
put_here q p block h = map_at (put_at q p block) p.component p.x p.y h.place ∙ changed q p.component p.x p.y block h.place h.count

pub same_test : (a b : ℕ) → a ≡ b → (a == b) ≡ true
same_test a b e = grind (arith, nat_tests, e)

pub at_place : (i x y : ℕ) (p : Place) → p.component ≡ i → p.x ≡ x → p.y ≡ y → is_at i x y p ≡ true
at_place i x y p a b c =
    ap (λ t. t && p.x == x && p.y == y) (same_test p.component i a) ∙ ap (λ t. t && p.y == y) (same_test p.x x b) ∙ same_test p.y y c

pub put_others : (q : Picture) (p : Place) (block : List ℤ) → HasPlace q p → (i x y : ℕ) → is_at i x y p ≡ false → map_of (put_at q p block) i x y ≡ map_of q i x y
put_others q p block w i x y e = by (is_padded q.frame i x y) refl
  where
    by : (b : Bool) → is_padded q.frame i x y ≡ b → cond b (block_in (put_at q p block) i x y) (zeros 64) ≡ cond b (block_in q i x y) (zeros 64)
    by false h = refl
    by true h =
        stays q p.component p.x p.y i x y block w.place (padded_is q.frame i x y h)
        (λ s. (let z : true ≡ false = sym (at_place i x y p s.0 s.1 s.2) ∙ e in
        let no : ⊥ = cc in no))

-- Of a block that is put with a new band only the band changed.
pub put_changes : (s : Scan) (q : Picture) (p : Place) (block : List ℤ) → HasPlace q p → KeepsOutside s q p block → OneChanges s p (map_of q) (map_of (put_at q p block))
put_changes s q p block h keeps = record {
  elsewhere = put_others q p block h;
  outside = λ k e. ap (λ (b : List ℤ). slice_index_or b k (pos 0)) (put_here q p block h) ∙ keeps.same k e;
  size = ap length (put_here q p block h) ∙ keeps.size;
}
