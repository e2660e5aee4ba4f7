-- Blocks of small coefficients: their rows as vectors, and their columns and rows as lists.
use Rattle.std.proofs.Common.{◌≡◌, ℕ, ◌+◌, ◌-◌, ◌*◌, ◌/◌, ◌%◌, ◌<◌, ◌≤◌, Bool, true, false, List, [], ◌∷◌, ◌++◌, length, slice_index, get_or, map, flat_map, All, ℤ, pos, negsuc, ◌+ℤ◌, ◌-ℤ◌, ◌*ℤ◌, nat_abs, nat_lt, to_z, of_z, refl, sym, ap, ◌∙◌, subst, arith}
use Rattle.std.specs.Int.{w16, w32, int_wrap, int_shr}
use mathlib.Core.Bool.{cond}
use Rattle.std.specs.Simd.Lanes.{chunk}
use Rattle.std.proofs.lemmas.Int.{ints, to_z-of_z, of_z-to_z, int_wrap_fits, fits_signed_from_abs, wrapping_add_is, int_wrap-add_left, SFits-int_wrap}
use Rattle.std.proofs.lemmas.Bool.{ltb-true, ltb-false}
use Rattle.std.proofs.lemmas.List.{length-map, get_or-map, get_or_append_left, get_or-append-add}
use Rattle.std.proofs.lemmas.List.Sums.{AllPass-from_list_all}
use Rattle.std.proofs.lemmas.Simd.{length-chunk, get_or-chunk}
use Rattle.jpg_spec.specs.Lists.{below}
use Rattle.jpg_spec.proofs.Basics.Rows.{map_alike}
use Rattle.jpg_spec_image.specs.Dct.{number_at, even_sums, odd_sums, joined_sums, line_sums, column, columns, column_at, ranged, sample_of, sample_row, inverse_dct}
use Rattle.jpg_dct.specs.declared.forward.lanes.Eight.{Eight}
use Rattle.jpg_dct.specs.declared.inverse.short.Sums.{Sums}
use Rattle.jpg_dct.specs.Eights.{IsEight, vector, vectors}
use Rattle.jpg_dct.specs.Sums.{AreColumns, AreLong, sums_at, lane_at, line_at, wrapped_more, column_number, low_of, limited_of, told_at, told_row}
use Rattle.jpg_dct.proofs.Several.{eight, same8}
use Rattle.jpg_dct.proofs.Bounds.{AreBelow}
use Rattle.jpg_dct.proofs.Samples.{low32}
use Rattle.jpg_dct.proofs.Lows.{joined_is}
use Rattle.jpg_dct.proofs.Eights.{seen, fits16, same16, scaled_small}
use Rattle.jpg_dct.proofs.LongSums.{seen_at, wrapped_at, even_first, even_second, even_third, even_fourth, odd_first, odd_second, odd_third, odd_fourth}
use Rattle.jpg_spec_image.proofs.CodedBlocks.{all_at}

-- ROWS

pub row_at : (values part : List ℤ) (v : ℕ) → length part ≡ 8 → ((k : ℕ) → k < 8 → number_at part k ≡ number_at values (8 * v + k)) → All (λ x. nat_abs x ≤ 1090) values
    → (k : ℕ) → k < 8 → number_at (seen w16 (chunk 0 8 part)) k ≡ number_at values (8 * v + k)
row_at values part v long at small k lt =
    let z : 0 + k ≡ k = omega arith in
    let few : nat_abs (number_at values (8 * v + k)) ≤ 1090 = all_at (λ x. nat_abs x ≤ 1090) values (8 * v + k) (pos 0) small (omega arith) in
    seen_at w16 (chunk 0 8 part) k (omega (arith, length-chunk 0 8 part (omega (arith, long)), lt))
    ∙ ap (λ x. to_z w16 (of_z w16 x)) (get_or-chunk 0 8 part k (pos 0) lt ∙ ap (number_at part) z ∙ at k lt)
    ∙ to_z-of_z w16 (number_at values (8 * v + k)) (fits16 (number_at values (8 * v + k)) (omega (arith, few)))

pub row_small : (values part : List ℤ) (v : ℕ) → length part ≡ 8 → ((k : ℕ) → k < 8 → number_at part k ≡ number_at values (8 * v + k)) → All (λ x. nat_abs x ≤ 1090) values
    → IsEight 1090 (seen w16 (chunk 0 8 part))
row_small values part v long at small = record {
  long = length-map (map (of_z w16) (chunk 0 8 part)) (to_z w16) ∙ length-map (chunk 0 8 part) (of_z w16) ∙ length-chunk 0 8 part (omega (arith, long));
  small = λ k lt. subst (λ x. nat_abs x ≤ 1090) (sym (row_at values part v long at small k lt)) (all_at (λ x. nat_abs x ≤ 1090) values (8 * v + k) (pos 0) small (omega arith));
}

-- a lane of a vector, as it is passed on
pub passed : {n : ℕ} {r : List ℤ} (k : ℕ) {x : ℤ} → n ≤ 32767 → IsEight n r → number_at r k ≡ x → number_at (seen w16 r) k ≡ x
passed {n} {r} k few e is = ap (λ xs. number_at xs k) (same16 n r few e) ∙ is

-- COLUMNS: how large their sums are

four_bound : (a b c d k l m n : ℤ) → nat_abs a ≤ 1090 → nat_abs b ≤ 1090 → nat_abs c ≤ 1090 → nat_abs d ≤ 1090
    → nat_abs (((a *ℤ k) +ℤ (b *ℤ l)) +ℤ ((c *ℤ m) +ℤ (d *ℤ n))) ≤ 1090 * nat_abs k + 1090 * nat_abs l + (1090 * nat_abs m + 1090 * nat_abs n)
four_bound a b c d k l m n ha hb hc hd =
    let ea : nat_abs (a *ℤ k) ≤ 1090 * nat_abs k = scaled_small a k 1090 ha in
    let eb : nat_abs (b *ℤ l) ≤ 1090 * nat_abs l = scaled_small b l 1090 hb in
    let ec : nat_abs (c *ℤ m) ≤ 1090 * nat_abs m = scaled_small c m 1090 hc in
    let ed : nat_abs (d *ℤ n) ≤ 1090 * nat_abs n = scaled_small d n 1090 hd in
    let ab : nat_abs ((a *ℤ k) +ℤ (b *ℤ l)) ≤ 1090 * nat_abs k + 1090 * nat_abs l = omega (arith, ints, ea, eb) in
    let cd : nat_abs ((c *ℤ m) +ℤ (d *ℤ n)) ≤ 1090 * nat_abs m + 1090 * nat_abs n = omega (arith, ints, ec, ed) in
    omega (arith, ints, ab, cd)

record FourBelow (n : ℕ) (sums : List ℤ) : Type 0 where
  at0 : nat_abs (number_at sums 0) ≤ n
  at1 : nat_abs (number_at sums 1) ≤ n
  at2 : nat_abs (number_at sums 2) ≤ n
  at3 : nat_abs (number_at sums 3) ≤ n

as_it_is : {x y : ℤ} {m n : ℕ} → x ≡ y → nat_abs x ≤ m → m ≤ n → nat_abs y ≤ n
as_it_is {x} {y} {m} {n} e h l = omega (arith, ap nat_abs e, h, l)

even_bound : (a b c d : ℤ) → nat_abs a ≤ 1090 → nat_abs b ≤ 1090 → nat_abs c ≤ 1090 → nat_abs d ≤ 1090 → FourBelow 34357890 (even_sums a b c d)
even_bound a b c d ha hb hc hd = record {
  at0 = as_it_is (even_first a b c d) (four_bound a b c d (pos 8192) (pos 10703) (pos 8192) (pos 4433) ha hb hc hd) (omega arith);
  at1 = as_it_is (even_second a b c d) (four_bound a b c d (pos 8192) (pos 4433) (negsuc 8191) (negsuc 10703) ha hb hc hd) (omega arith);
  at2 = as_it_is (even_third a b c d) (four_bound a b c d (pos 8192) (negsuc 4432) (negsuc 8191) (pos 10704) ha hb hc hd) (omega arith);
  at3 = as_it_is (even_fourth a b c d) (four_bound a b c d (pos 8192) (negsuc 10702) (pos 8192) (negsuc 4432) ha hb hc hd) (omega arith);
}

odd_bound : (a b c d : ℤ) → nat_abs a ≤ 1090 → nat_abs b ≤ 1090 → nat_abs c ≤ 1090 → nat_abs d ≤ 1090 → FourBelow 32365370 (odd_sums a b c d)
odd_bound a b c d ha hb hc hd = record {
  at0 = as_it_is (odd_first a b c d) (four_bound a b c d (pos 2260) (negsuc 6435) (pos 9633) (negsuc 11362) ha hb hc hd) (omega arith);
  at1 = as_it_is (odd_second a b c d) (four_bound a b c d (pos 6437) (negsuc 11361) (pos 2261) (pos 9633) ha hb hc hd) (omega arith);
  at2 = as_it_is (odd_third a b c d) (four_bound a b c d (pos 9633) (negsuc 2258) (negsuc 11361) (negsuc 6435) ha hb hc hd) (omega arith);
  at3 = as_it_is (odd_fourth a b c d) (four_bound a b c d (pos 11363) (pos 9633) (pos 6437) (pos 2260) ha hb hc hd) (omega arith);
}

both_below : (x y : ℤ) → nat_abs x ≤ 34357890 → nat_abs y ≤ 32365370 → nat_abs (x +ℤ y) ≤ 66723260
both_below x y hx hy = omega (arith, ints, hx, hy)

less_below : (x y : ℤ) → nat_abs x ≤ 34357890 → nat_abs y ≤ 32365370 → nat_abs (x -ℤ y) ≤ 66723260
less_below x y hx hy = omega (arith, ints, hx, hy)

-- the eight sums of line k
pub line_bound : (d : Eight) (k : ℕ) → k < 8 → ((v : ℕ) → v < 8 → IsEight 1090 (vector d v)) → AreBelow 66723260 (line_at d k)
unfolding joined_sums
line_bound d k lt small =
    let h = λ (v : ℕ) (lv : v < 8). (small v lv).small k lt in
    let e = even_bound (number_at d.v0 k) (number_at d.v2 k) (number_at d.v4 k) (number_at d.v6 k) (h 0 (omega arith)) (h 2 (omega arith)) (h 4 (omega arith)) (h 6 (omega arith)) in
    let b : ℕ → ℤ = number_at (even_sums (number_at d.v0 k) (number_at d.v2 k) (number_at d.v4 k) (number_at d.v6 k)) in
    let c : ℕ → ℤ = number_at (odd_sums (number_at d.v1 k) (number_at d.v3 k) (number_at d.v5 k) (number_at d.v7 k)) in
    let o = odd_bound (number_at d.v1 k) (number_at d.v3 k) (number_at d.v5 k) (number_at d.v7 k) (h 1 (omega arith)) (h 3 (omega arith)) (h 5 (omega arith)) (h 7 (omega arith)) in
    record {
      at0 = both_below (b 0) (c 3) e.at0 o.at3;
      at1 = both_below (b 1) (c 2) e.at1 o.at2;
      at2 = both_below (b 2) (c 1) e.at2 o.at1;
      at3 = both_below (b 3) (c 0) e.at3 o.at0;
      at4 = less_below (b 3) (c 0) e.at3 o.at0;
      at5 = less_below (b 2) (c 1) e.at2 o.at1;
      at6 = less_below (b 1) (c 2) e.at1 o.at2;
      at7 = less_below (b 0) (c 3) e.at0 o.at3;
    }

-- a vector of such sums, as it is passed on
pub record AreSmallSums (f : ℕ → ℤ) (r : List ℤ) : Type 0 where
  pub all : IsEight 67106816 (seen w32 r)
  pub at : (k : ℕ) → k < 8 → number_at (seen w32 r) k ≡ f k +ℤ pos 1024

pub small_sums : (f : ℕ → ℤ) (r : List ℤ) → length r ≡ 8 → ((k : ℕ) → k < 8 → number_at r k ≡ int_wrap w32 (f k +ℤ pos 1024)) → ((k : ℕ) → k < 8 → nat_abs (f k) ≤ 66723260)
    → AreSmallSums f r
small_sums f r long at few =
    let more = λ (k : ℕ) (lt : k < 8). more_small (f k) (few k lt) in
    let is = λ (k : ℕ) (lt : k < 8). wrapped_at r k (f k +ℤ pos 1024) long lt (at k lt) ∙ int_wrap_fits w32 (f k +ℤ pos 1024) (fits_signed_from_abs w32 (f k +ℤ pos 1024) (omega (arith, more k lt))) in
    record {
      all = record {
        long = length-map (map (of_z w32) r) (to_z w32) ∙ length-map r (of_z w32) ∙ long;
        small = λ k lt. subst (λ z. nat_abs z ≤ 67106816) (sym (is k lt)) (more k lt);
      };
      at = is;
    }
  where
    more_small : (x : ℤ) → nat_abs x ≤ 66723260 → nat_abs (x +ℤ pos 1024) ≤ 67106816
    more_small x h = omega (arith, ints, h)

-- SAMPLES

-- a sum with 512 samples more
low_moved : (z : ℤ) → low_of (int_wrap w32 (z +ℤ pos 134348800)) ≡ (of_z w32 (int_wrap w32 (z +ℤ pos 131072)) / 262144 % 1024 + 512) % 1024
low_moved z =
    let y : ℤ = z +ℤ pos 131072 in
    let m : ℕ = of_z w32 (int_wrap w32 y) in
    let o : z +ℤ pos 134348800 ≡ y +ℤ pos 134217728 = omega (arith, ints) in
    let e : to_z w32 ((m + 134217728) % 4294967296) ≡ int_wrap w32 (y +ℤ pos 134217728) =
    wrapping_add_is w32 (int_wrap w32 y) (pos 134217728) (SFits-int_wrap w32 y) (fits_signed_from_abs w32 (pos 134217728) (omega arith)) ∙ int_wrap-add_left w32 y (pos 134217728) in
    let n : of_z w32 (to_z w32 ((m + 134217728) % 4294967296)) ≡ (m + 134217728) % 4294967296 = of_z-to_z w32 ((m + 134217728) % 4294967296) (omega arith) in
    let r : (m + 134217728) % 4294967296 / 262144 % 1024 ≡ (m / 262144 % 1024 + 512) % 1024 = omega arith in
    ap (λ x. low_of (int_wrap w32 x)) o ∙ ap low_of (sym e) ∙ ap (λ x. x / 262144 % 1024) n ∙ r

by_tests : (a b c : Bool) (m : ℕ) → nat_lt m 128 ≡ a → nat_lt m 512 ≡ b → nat_lt m 896 ≡ c → m < 1024
    → limited_of ((m + 512) % 1024) ≡ cond a (m + 128) (cond b 255 (cond c 0 (m - 896)))
by_tests true b c m ea eb ec lt = (let h = ltb-true m 128 ea in omega (arith, h))
by_tests false true c m ea eb ec lt = (let h = ltb-false m 128 ea in let g = ltb-true m 512 eb in omega (arith, h, g))
by_tests false false true m ea eb ec lt = (let h = ltb-false m 512 eb in let g = ltb-true m 896 ec in omega (arith, h, g))
by_tests false false false m ea eb ec lt = (let h = ltb-false m 896 ec in omega (arith, h, lt))

limited_is : (m : ℕ) → m < 1024 → limited_of ((m + 512) % 1024) ≡ ranged m
limited_is m lt = by_tests (nat_lt m 128) (nat_lt m 512) (nat_lt m 896) m refl refl refl lt

sample_is : (x e : ℤ) → x ≡ int_wrap w32 (e +ℤ pos 134348800) → told_at x ≡ sample_of (int_shr (e +ℤ pos 131072) 18)
sample_is x e ex =
    let m : ℕ = of_z w32 (int_wrap w32 (e +ℤ pos 131072)) / 262144 % 1024 in
    ap told_at ex ∙ ap limited_of (low_moved e) ∙ limited_is m (omega arith) ∙ ap ranged (low32 (e +ℤ pos 131072))

-- THE BLOCK

flat_alike : (f g : ℕ → List ℕ) → ((v : ℕ) → v < 8 → f v ≡ g v) → flat_map f (below 8) ≡ flat_map g (below 8)
flat_alike f g same =
    joined_is f (below 8)
    ∙ ap (flat_map (λ y. y)) (map_alike (λ v. nat_lt v 8 ≡ true) f g (below 8) (λ v h. same v (ltb-true v 8 h)) (AllPass-from_list_all (λ v. nat_lt v 8) (below 8) refl))
    ∙ sym (joined_is g (below 8))

-- row v of columns 0, 1, 4 and 5 in one list, and of 2, 3, 6 and 7 in another one
abbrev pub paired_row : List ℕ → List ℕ → ℕ → List ℕ
paired_row a b v =
    get_or a v 0 ∷ get_or a (8 + v) 0 ∷ get_or b v 0 ∷ get_or b (8 + v) 0 ∷ get_or a (16 + v) 0 ∷ get_or a (24 + v) 0 ∷ get_or b (16 + v) 0 ∷ get_or b (24 + v) 0 ∷ []

pub told_rows : (p0 p1 p2 p3 : List ℕ) → length p0 ≡ 16 → length p1 ≡ 16 → flat_map (paired_row (p0 ++ p2) (p1 ++ p3)) (below 8) ≡ flat_map (told_row p0 p1 p2 p3) (below 8)
told_rows p0 p1 p2 p3 l0 l1 =
    flat_alike (paired_row (p0 ++ p2) (p1 ++ p3)) (told_row p0 p1 p2 p3)
    (λ v lt. eight (front p0 p2 v l0 (omega (arith, lt))) (front p0 p2 (8 + v) l0 (omega (arith, lt))) (front p1 p3 v l1 (omega (arith, lt))) (front p1 p3 (8 + v) l1 (omega (arith, lt)))
    (back p0 p2 v (16 + v) l0 refl) (back p0 p2 (8 + v) (24 + v) l0 (omega arith)) (back p1 p3 v (16 + v) l1 refl) (back p1 p3 (8 + v) (24 + v) l1 (omega arith)))
  where
    front : (a b : List ℕ) (k : ℕ) → length a ≡ 16 → k < 16 → get_or (a ++ b) k 0 ≡ slice_index a k
    front a b k long lt = get_or_append_left a b 0 k (omega (arith, long, lt))

    back : (a b : List ℕ) (k n : ℕ) → length a ≡ 16 → n ≡ 16 + k → get_or (a ++ b) n 0 ≡ slice_index b k
    back a b k n long e = ap (λ m. get_or (a ++ b) m 0) e ∙ ap (λ m. get_or (a ++ b) (m + k) 0) (sym long) ∙ get_or-append-add a b k 0

-- the columns of a block: from its rows, the columns one after another, and the same transposed
pub record Stages (values : List ℤ) (given done across : Eight) : Type 0 where
  pub given_at : (u v : ℕ) → u < 8 → v < 8 → number_at (vector given v) u ≡ number_at values (8 * v + u)
  pub done_at : (k : ℕ) → k < 8 → lane_at done k ≡ map column_number (line_at given k)
  pub across_at : (u v : ℕ) → u < 8 → v < 8 → number_at (vector across v) u ≡ number_at (vector done u) v

column_is : {values : List ℤ} {given done across : Eight} → Stages values given done across → (u : ℕ) → u < 8 → lane_at done u ≡ column values u
unfolding column
column_is {values} {given} {done} {across} h u lu =
    let z : 8 * 0 + u ≡ u = omega arith in
    let at = λ (v : ℕ) (lv : v < 8). h.given_at u v lu lv in
    h.done_at u lu
    ∙ same8 (λ a b c d e f g i. map column_number (line_sums a b c d e f g i)) (at 0 (omega arith) ∙ ap (number_at values) z) (at 1 (omega arith)) (at 2 (omega arith)) (at 3 (omega arith))
    (at 4 (omega arith)) (at 5 (omega arith)) (at 6 (omega arith)) (at 7 (omega arith))

pub columns_are : {values : List ℤ} {given done across : Eight} → Stages values given done across → AreColumns values across
columns_are {values} {given} {done} {across} h u v lu lv =
    h.across_at v u lv lu ∙ sym (get_or-map (λ xs. number_at xs u) (vectors done) v [] (pos 0) lv) ∙ ap (λ l. number_at l v) (column_is h u lu)

line_is : (values : List ℤ) (across : Eight) → AreColumns values across → (v : ℕ) → v < 8 → line_at across v
    ≡ line_sums (column_at (columns values) v 0) (column_at (columns values) v 1) (column_at (columns values) v 2) (column_at (columns values) v 3)
    (column_at (columns values) v 4) (column_at (columns values) v 5) (column_at (columns values) v 6) (column_at (columns values) v 7)
line_is values across h v lv =
    let at = λ (u : ℕ) (lu : u < 8). h u v lu lv in
    same8 line_sums (at 0 (omega arith)) (at 1 (omega arith)) (at 2 (omega arith)) (at 3 (omega arith)) (at 4 (omega arith)) (at 5 (omega arith)) (at 6 (omega arith)) (at 7 (omega arith))

-- sums of the rows of a block
pub record RowSums (values : List ℤ) (across : Eight) (s : Sums) : Type 0 where
  pub columns_are : AreColumns values across
  pub long : AreLong s
  pub sums_are : (k : ℕ) → k < 8 → sums_at s k ≡ map (wrapped_more (pos 134348800)) (line_at across k)

-- two columns of samples
pub record AreShortValues (a b : List ℤ) (p : List ℕ) : Type 0 where
  pub first : (k : ℕ) → k < 8 → slice_index p k ≡ told_at (number_at (seen w32 a) k)
  pub second : (k : ℕ) → k < 8 → slice_index p (8 + k) ≡ told_at (number_at (seen w32 b) k)

sum_told : (r : List ℤ) (e : ℤ) (v : ℕ) → length r ≡ 8 → v < 8 → number_at r v ≡ wrapped_more (pos 134348800) e → told_at (number_at (seen w32 r) v) ≡ sample_of (int_shr (e +ℤ pos 131072) 18)
sum_told r e v long lt at = sample_is (number_at (seen w32 r) v) e (wrapped_at r v (e +ℤ pos 134348800) long lt at)

pub block_is : {values : List ℤ} {across : Eight} {s : Sums} (p0 p1 p2 p3 : List ℕ) → RowSums values across s
    → AreShortValues s.v0 s.v1 p0 → AreShortValues s.v2 s.v3 p1 → AreShortValues s.v4 s.v5 p2 → AreShortValues s.v6 s.v7 p3 → flat_map (told_row p0 p1 p2 p3) (below 8) ≡ inverse_dct values
unfolding inverse_dct sample_row joined_sums
block_is {values} {across} {s} p0 p1 p2 p3 h t0 t1 t2 t3 =
    flat_alike (told_row p0 p1 p2 p3) (sample_row (columns values))
    (λ v lv. (let c : ℕ → ℤ = column_at (columns values) v in
    let sums : List ℤ = line_sums (c 0) (c 1) (c 2) (c 3) (c 4) (c 5) (c 6) (c 7) in
    let e : sums_at s v ≡ map (wrapped_more (pos 134348800)) sums = h.sums_are v lv ∙ ap (map (wrapped_more (pos 134348800))) (line_is values across h.columns_are v lv) in
    let l = h.long in
    eight
    (t0.first v lv ∙ sum_told s.v0 (number_at sums 0) v l.at0 lv (ap (λ (xs : List ℤ). number_at xs 0) e))
    (t0.second v lv ∙ sum_told s.v1 (number_at sums 1) v l.at1 lv (ap (λ (xs : List ℤ). number_at xs 1) e))
    (t1.first v lv ∙ sum_told s.v2 (number_at sums 2) v l.at2 lv (ap (λ (xs : List ℤ). number_at xs 2) e))
    (t1.second v lv ∙ sum_told s.v3 (number_at sums 3) v l.at3 lv (ap (λ (xs : List ℤ). number_at xs 3) e))
    (t2.first v lv ∙ sum_told s.v4 (number_at sums 4) v l.at4 lv (ap (λ (xs : List ℤ). number_at xs 4) e))
    (t2.second v lv ∙ sum_told s.v5 (number_at sums 5) v l.at5 lv (ap (λ (xs : List ℤ). number_at xs 5) e))
    (t3.first v lv ∙ sum_told s.v6 (number_at sums 6) v l.at6 lv (ap (λ (xs : List ℤ). number_at xs 6) e))
    (t3.second v lv ∙ sum_told s.v7 (number_at sums 7) v l.at7 lv (ap (λ (xs : List ℤ). number_at xs 7) e))))
