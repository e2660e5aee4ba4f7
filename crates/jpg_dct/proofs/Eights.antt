-- Lanes of eight: sums, products of pairs and rounding, each lane as an integer.
use Rattle.std.proofs.Common.{◌≡◌, ℕ, ◌+◌, ◌-◌, ◌*◌, ◌/◌, ◌%◌, suc, negsuc, ⊎_elim, ◌<◌, ◌≤◌, List, [], ◌++◌, length, slice_index, slice_index_or, get_or, map, ℤ, pos, ◌+ℤ◌, ◌-ℤ◌, ◌*ℤ◌, nat_abs, to_z, of_z, FitsSigned, rules, ◌≤ℤ◌, sym, ap, ◌∙◌, subst, arith}
use Rattle.std.specs.Int.{Width, w16, w32, int_wrap, int_shr}
use lib.Signed.{shr_z}
use lib.Lanes.{Each1}
use Rattle.std.proofs.lemmas.Int.{ints, to_z-of_z, int_wrap_fits, fits_signed_from_abs, wrapping_add_is, wrapping_sub_is, wrapping_mul_is, wrapping_add-bits, int_wrap-add_left, int_wrap-add_right, SFits-int_wrap, unsigned_abs-mul}
use Rattle.std.proofs.lemmas.Nat.{mod_below, mul-le}
use Rattle.std.proofs.lemmas.Bool.{cases_lt}
use Rattle.std.proofs.lemmas.List.{get_or-map, get_or_append_left, get_or-append-add, length-map, ext_get_or}
use Rattle.jpg_spec.specs.Lists.{below}
use Rattle.jpg_spec_image.specs.Dct.{number_at, odd_sums}
use Rattle.jpg_spec.proofs.Basics.Common.{length_below}
use Rattle.jpg_spec.proofs.Basics.Rows.{at_below}
use Rattle.jpg_spec_image.specs.ForwardDct.{level, even_frequencies}
use Rattle.jpg_spec_image.proofs.Frequencies.{odd_at0, odd_at1, odd_at2, odd_at3, even_at1, even_at3}
use Rattle.jpg_dct.specs.declared.forward.lanes.Eight.{Eight}
use Rattle.jpg_dct.specs.declared.forward.lanes.Four.{Four}
use Rattle.jpg_dct.specs.declared.forward.lanes.Factors.{Factors}
use Rattle.jpg_dct.specs.Eights.{HasRoom, IsLine, quarter, IsEight, AreEight, IsRow, vector, four_of, half_rounded, eighth}

-- lane k of two vectors, one after the other
abbrev pub lane : Width → List ℤ → List ℤ → ℕ → ℕ
lane w a b k = get_or (map (of_z w) a ++ map (of_z w) b) k 0

pub lane_is : (w : Width) (a b : List ℤ) (k : ℕ) → length a ≡ 8 → k < 8 → lane w a b k ≡ of_z w (number_at a k)
lane_is w a b k long lt =
    let m : length (map (of_z w) a) ≡ length a = length-map a (of_z w) in
    get_or_append_left (map (of_z w) a) (map (of_z w) b) 0 k (omega (arith, m, long, lt)) ∙ get_or-map (of_z w) a k (pos 0) 0 (omega (arith, long, lt))

-- a function of lanes, eight times
pub eight_at : (f : ℕ → ℤ) (k : ℕ) → k < 8 → number_at (map f (below 8)) k ≡ f k
eight_at f k lt = get_or-map f (below 8) k 0 (pos 0) (omega (arith, length_below 8, lt)) ∙ ap f (at_below 8 k lt)

pub fits16 : (x : ℤ) → nat_abs x ≤ 32767 → FitsSigned w16 x
fits16 x h = fits_signed_from_abs w16 x (omega (arith, h))

fits32 : (x : ℤ) → nat_abs x ≤ 1073741824 → FitsSigned w32 x
fits32 x h = fits_signed_from_abs w32 x (omega (arith, h))

pub sums_are : (a b : List ℤ) → IsEight 8192 a → IsEight 8192 b → (k : ℕ) → k < 8
    → number_at (map (λ n. to_z w16 ((lane w16 a a n + lane w16 b b n) % 65536)) (below 8)) k ≡ number_at a k +ℤ number_at b k
sums_are a b ea eb k lt =
    let x : ℤ = number_at a k in
    let y : ℤ = number_at b k in
    let hx : nat_abs x ≤ 8192 = ea.small k lt in
    let hy : nat_abs y ≤ 8192 = eb.small k lt in
    eight_at (λ n. to_z w16 ((lane w16 a a n + lane w16 b b n) % 65536)) k lt
    ∙ ap (λ m. to_z w16 ((m + lane w16 b b k) % 65536)) (lane_is w16 a a k ea.long lt)
    ∙ ap (λ m. to_z w16 ((of_z w16 x + m) % 65536)) (lane_is w16 b b k eb.long lt)
    ∙ wrapping_add_is w16 x y (fits16 x (omega (arith, hx))) (fits16 y (omega (arith, hy)))
    ∙ int_wrap_fits w16 (x +ℤ y) (fits16 (x +ℤ y) (omega (arith, ints, hx, hy)))

pub differences_are : (a b : List ℤ) → IsEight 8192 a → IsEight 8192 b → (k : ℕ) → k < 8
    → number_at (map (λ n. to_z w16 ((lane w16 a a n + (65536 - lane w16 b b n)) % 65536)) (below 8)) k ≡ number_at a k -ℤ number_at b k
differences_are a b ea eb k lt =
    let x : ℤ = number_at a k in
    let y : ℤ = number_at b k in
    let hx : nat_abs x ≤ 8192 = ea.small k lt in
    let hy : nat_abs y ≤ 8192 = eb.small k lt in
    eight_at (λ n. to_z w16 ((lane w16 a a n + (65536 - lane w16 b b n)) % 65536)) k lt
    ∙ ap (λ m. to_z w16 ((m + (65536 - lane w16 b b k)) % 65536)) (lane_is w16 a a k ea.long lt)
    ∙ ap (λ m. to_z w16 ((of_z w16 x + (65536 - m)) % 65536)) (lane_is w16 b b k eb.long lt)
    ∙ wrapping_sub_is w16 x y (fits16 x (omega (arith, hx))) (fits16 y (omega (arith, hy)))
    ∙ int_wrap_fits w16 (x -ℤ y) (fits16 (x -ℤ y) (omega (arith, ints, hx, hy)))

-- PRODUCTS of pairs

pub second_is : (w : Width) (a b : List ℤ) (k : ℕ) → length a ≡ 8 → length b ≡ 8 → k < 8 → lane w a b (8 + k) ≡ of_z w (number_at b k)
second_is w a b k la lb lt =
    let m : length (map (of_z w) a) ≡ 8 = length-map a (of_z w) ∙ la in
    ap (λ n. get_or (map (of_z w) a ++ map (of_z w) b) (n + k) 0) (sym m)
    ∙ get_or-append-add (map (of_z w) a) (map (of_z w) b) k 0
    ∙ get_or-map (of_z w) b k (pos 0) 0 (omega (arith, lb, lt))

abbrev pub product_lane : ℕ → ℤ → ℕ
product_lane m k = of_z w32 (to_z w16 m) * of_z w32 k % 4294967296

product_is : (m : ℕ) (x k : ℤ) → m ≡ of_z w16 x → nat_abs x ≤ 32767 → FitsSigned w32 k → to_z w32 (product_lane m k) ≡ int_wrap w32 (x *ℤ k)
product_is m x k e h fk =
    ap (λ n. to_z w32 (product_lane n k)) e
    ∙ ap (λ z. to_z w32 (of_z w32 z * of_z w32 k % 4294967296)) (to_z-of_z w16 x (fits16 x h))
    ∙ wrapping_mul_is w32 x k (fits32 x (omega (arith, h))) fk

pub dots_are : (a b : List ℤ) (p q : ℤ) → IsEight 32767 a → IsEight 32767 b → FitsSigned w32 p → FitsSigned w32 q → (k : ℕ) → k < 8
    → number_at (map (λ n. to_z w32 ((product_lane (lane w16 a b n) p + product_lane (lane w16 a b (8 + n)) q) % 4294967296)) (below 8)) k
    ≡ int_wrap w32 ((number_at a k *ℤ p) +ℤ (number_at b k *ℤ q))
dots_are a b p q ea eb fp fq k lt =
    let x : ℤ = number_at a k in
    let y : ℤ = number_at b k in
    let m : ℕ = product_lane (lane w16 a b k) p in
    let n : ℕ = product_lane (lane w16 a b (8 + k)) q in
    let em : to_z w32 m ≡ int_wrap w32 (x *ℤ p) = product_is (lane w16 a b k) x p (lane_is w16 a b k ea.long lt) (ea.small k lt) fp in
    let en : to_z w32 n ≡ int_wrap w32 (y *ℤ q) = product_is (lane w16 a b (8 + k)) y q (second_is w16 a b k ea.long eb.long lt) (eb.small k lt) fq in
    eight_at (λ n. to_z w32 ((product_lane (lane w16 a b n) p + product_lane (lane w16 a b (8 + n)) q) % 4294967296)) k lt
    ∙ wrapping_add-bits w32 m n (mod_below (of_z w32 (to_z w16 (lane w16 a b k)) * of_z w32 p) 4294967296 (omega arith)) (mod_below (of_z w32 (to_z w16 (lane w16 a b (8 + k))) * of_z w32 q) 4294967296 (omega arith))
    ∙ ap (λ z. int_wrap w32 (z +ℤ to_z w32 n)) em ∙ int_wrap-add_left w32 (x *ℤ p) (to_z w32 n)
    ∙ ap (λ z. int_wrap w32 ((x *ℤ p) +ℤ z)) en ∙ int_wrap-add_right w32 (x *ℤ p) (y *ℤ q)

-- ROUNDING

abbrev pub rounded_lane : ℕ → ℤ
rounded_lane m = to_z w32 (of_z w32 (shr_z (to_z w32 ((m + 32768) % 4294967296)) 65536))

pub rounded_small : (x : ℤ) → nat_abs x ≤ 536870912 → nat_abs (int_shr (x +ℤ pos 32768) 16) ≤ 8192
rounded_small (pos n) h = (let e : (n + 32768) / 65536 ≤ 8192 = omega (arith, ints, h) in e)
rounded_small (negsuc n) h =
    ⊎_elim
    (λ (a : n < 32768). (let x : negsuc n +ℤ pos 32768 ≡ pos (32767 - n) = omega (arith, ints, a) in
    let e : (32767 - n) / 65536 ≤ 8192 = omega (arith, a) in
    subst (λ z. nat_abs (int_shr z 16) ≤ 8192) (sym x) e))
    (λ (b : 32768 ≤ n). (let x : negsuc n +ℤ pos 32768 ≡ negsuc (n - 32768) = omega (arith, ints, b) in
    let e : suc ((n - 32768) / 65536) ≤ 8192 = omega (arith, ints, b, h) in
    subst (λ z. nat_abs (int_shr z 16) ≤ 8192) (sym x) e))
    (cases_lt n 32768)

rounded_lane_is : (m : ℕ) (x : ℤ) → m ≡ of_z w32 x → nat_abs x ≤ 536870912 → rounded_lane m ≡ int_shr (x +ℤ pos 32768) 16
rounded_lane_is m x e h =
    let s : ℤ = int_shr (x +ℤ pos 32768) 16 in
    let small : nat_abs s ≤ 8192 = rounded_small x h in
    ap rounded_lane e
    ∙ ap (λ z. to_z w32 (of_z w32 (shr_z z 65536)))
    (wrapping_add_is w32 x (pos 32768) (fits32 x (omega (arith, h))) (fits32 (pos 32768) (omega arith)) ∙ int_wrap_fits w32 (x +ℤ pos 32768) (fits32 (x +ℤ pos 32768) (omega (arith, ints, h))))
    ∙ to_z-of_z w32 s (fits32 s (omega (arith, small)))

-- each lane fits 16 bits
pub rounded_fits : (x : List ℤ) → IsEight 536870912 x → (k : ℕ) → k < 8 → FitsSigned w16 (rounded_lane (lane w32 x x k))
rounded_fits x e k lt =
    let is : rounded_lane (lane w32 x x k) ≡ int_shr (number_at x k +ℤ pos 32768) 16 = rounded_lane_is (lane w32 x x k) (number_at x k) (lane_is w32 x x k e.long lt) (e.small k lt) in
    let small : nat_abs (int_shr (number_at x k +ℤ pos 32768) 16) ≤ 8192 = rounded_small (number_at x k) (e.small k lt) in
    subst (λ z. FitsSigned w16 z) (sym is) (fits16 (int_shr (number_at x k +ℤ pos 32768) 16) (omega (arith, small)))

pub roundeds_are : (x : List ℤ) → IsEight 536870912 x → (k : ℕ) → k < 8
    → number_at (map (λ n. to_z w16 (of_z w16 (rounded_lane (lane w32 x x n)))) (below 8)) k ≡ int_shr (number_at x k +ℤ pos 32768) 16
roundeds_are x e k lt =
    eight_at (λ n. to_z w16 (of_z w16 (rounded_lane (lane w32 x x n)))) k lt
    ∙ to_z-of_z w16 (rounded_lane (lane w32 x x k)) (rounded_fits x e k lt)
    ∙ rounded_lane_is (lane w32 x x k) (number_at x k) (lane_is w32 x x k e.long lt) (e.small k lt)

-- what the cast requires of all lanes
pub all_fit : (x : List ℤ) → IsEight 536870912 x → Each1 (FitsSigned w16) (map (λ n. rounded_lane (lane w32 x x n)) (below 8))
all_fit x e =
    let p = rounded_fits x e in
    (p 0 (omega arith), (p 1 (omega arith), (p 2 (omega arith), (p 3 (omega arith), (p 4 (omega arith), (p 5 (omega arith), (p 6 (omega arith), (p 7 (omega arith), tt))))))))

-- ROWS AND COLUMNS transposed

abbrev pub again : ℤ → ℤ
again x = to_z w16 (of_z w16 x)

thrice : (x : ℤ) → nat_abs x ≤ 32767 → again (again (again (again x))) ≡ x
thrice x h =
    let once : again x ≡ x = to_z-of_z w16 x (fits16 x (omega (arith, h))) in
    ap (λ z. again (again (again z))) once ∙ ap (λ z. again (again z)) once ∙ ap again once ∙ once

abbrev pub turned_lane : Eight → ℕ → ℕ → ℤ
turned_lane d v u = again (again (again (to_z w16 (lane w16 (vector d (u % 4)) (vector d (4 + u % 4)) (8 * (u / 4) + v)))))

turned_lane_is : (d : Eight) → ((u : ℕ) → u < 8 → IsEight 32767 (vector d u)) → (u v : ℕ) → u < 8 → v < 8 → turned_lane d v u ≡ number_at (vector d u) v
turned_lane_is d all u v lu lv =
    ap (λ z. again (again (again z))) to_z_lane ∙ thrice (number_at (vector d u) v) ((all u lu).small v lv)
  where
    to_z_lane : to_z w16 (lane w16 (vector d (u % 4)) (vector d (4 + u % 4)) (8 * (u / 4) + v)) ≡ to_z w16 (of_z w16 (number_at (vector d u) v))
    to_z_lane =
        ⊎_elim
        (λ (a : u < 4). (let r : u % 4 ≡ u = omega (arith, a) in
        let q : 8 * (u / 4) + v ≡ v = omega (arith, a) in
        ap (λ n. to_z w16 (lane w16 (vector d (u % 4)) (vector d (4 + u % 4)) n)) q
        ∙ ap (λ n. to_z w16 (lane w16 (vector d n) (vector d (4 + u % 4)) v)) r
        ∙ ap (to_z w16) (lane_is w16 (vector d u) (vector d (4 + u % 4)) v (all u lu).long lv)))
        (λ (b : 4 ≤ u). (let r : 4 + u % 4 ≡ u = omega (arith, b, lu) in
        let q : 8 * (u / 4) + v ≡ 8 + v = omega (arith, b, lu) in
        ap (λ n. to_z w16 (lane w16 (vector d (u % 4)) (vector d (4 + u % 4)) n)) q
        ∙ ap (λ n. to_z w16 (lane w16 (vector d (u % 4)) (vector d n) (8 + v))) r
        ∙ ap (to_z w16) (second_is w16 (vector d (u % 4)) (vector d u) v (all (u % 4) (omega arith)).long (all u lu).long lv)))
        (cases_lt u 4)

-- vectors that are eight functions
pub vector_at : (f : ℕ → ℕ → ℤ) (u v : ℕ) → u < 8 → v < 8 → number_at (slice_index_or (map (λ v. map (f v) (below 8)) (below 8)) v []) u ≡ f v u
vector_at f u v lu lv =
    ap (λ l. number_at l u) (get_or-map (λ v. map (f v) (below 8)) (below 8) v 0 [] (omega (arith, length_below 8, lv)) ∙ ap (λ v. map (f v) (below 8)) (at_below 8 v lv))
    ∙ eight_at (f v) u lu

pub vectors_long : (f : ℕ → ℕ → ℤ) (v : ℕ) → v < 8 → length (slice_index_or (map (λ v. map (f v) (below 8)) (below 8)) v []) ≡ 8
vectors_long f v lv =
    ap length (get_or-map (λ v. map (f v) (below 8)) (below 8) v 0 [] (omega (arith, length_below 8, lv)))
    ∙ length-map (below 8) (f (get_or (below 8) v 0)) ∙ length_below 8

pub turned_are : (d : Eight) → ((u : ℕ) → u < 8 → IsEight 32767 (vector d u)) → (u v : ℕ) → u < 8 → v < 8
    → number_at (slice_index_or (map (λ v. map (turned_lane d v) (below 8)) (below 8)) v []) u ≡ number_at (vector d u) v
turned_are d all u v lu lv = vector_at (turned_lane d) u v lu lv ∙ turned_lane_is d all u v lu lv

-- SAMPLES as columns

abbrev pub level_lane : ℕ → ℤ
level_lane n = to_z w16 ((n * 16 % 65536 + (65536 - 2048)) % 65536)

level_lane_is : (n : ℕ) → n < 256 → level_lane n ≡ (pos n -ℤ pos 128) *ℤ pos 16
level_lane_is n lt =
    let e : n * 16 % 65536 ≡ n * 16 = omega (arith, lt) in
    ap (λ m. to_z w16 ((m + (65536 - 2048)) % 65536)) e
    ∙ wrapping_sub_is w16 (pos (n * 16)) (pos 2048) (fits16 (pos (n * 16)) (omega (arith, lt))) (fits16 (pos 2048) (omega arith))
    ∙ int_wrap_fits w16 (pos (n * 16) -ℤ pos 2048) (fits16 (pos (n * 16) -ℤ pos 2048) (omega (arith, ints, lt)))
    ∙ omega (arith, ints)

abbrev pub sample_lane : List (List ℕ) → ℕ → ℕ → ℕ
sample_lane rows u v = slice_index (slice_index_or rows (v % 4) [] ++ slice_index_or rows (4 + v % 4) []) (8 * (v / 4) + u)

sample_lane_is : (s : List ℕ) (rows : List (List ℕ)) → ((v : ℕ) → v < 8 → IsRow s v (slice_index_or rows v [])) → (u v : ℕ) → u < 8 → v < 8 → sample_lane rows u v ≡ slice_index (slice_index_or rows v []) u
sample_lane_is s rows all u v lu lv =
    ⊎_elim
    (λ (a : v < 4). (let r : v % 4 ≡ v = omega (arith, a) in
    let q : 8 * (v / 4) + u ≡ u = omega (arith, a) in
    ap (λ n. slice_index (slice_index_or rows (v % 4) [] ++ slice_index_or rows (4 + v % 4) []) n) q
    ∙ ap (λ n. slice_index (slice_index_or rows n [] ++ slice_index_or rows (4 + v % 4) []) u) r
    ∙ get_or_append_left (slice_index_or rows v []) (slice_index_or rows (4 + v % 4) []) 0 u (omega (arith, (all v lv).long, lu))))
    (λ (b : 4 ≤ v). (let r : 4 + v % 4 ≡ v = omega (arith, b, lv) in
    let q : 8 * (v / 4) + u ≡ 8 + u = omega (arith, b, lv) in
    let long : length (slice_index_or rows (v % 4) []) ≡ 8 = (all (v % 4) (omega arith)).long in
    ap (λ n. slice_index (slice_index_or rows (v % 4) [] ++ slice_index_or rows (4 + v % 4) []) n) q
    ∙ ap (λ n. slice_index (slice_index_or rows (v % 4) [] ++ slice_index_or rows n []) (8 + u)) r
    ∙ ap (λ n. slice_index (slice_index_or rows (v % 4) [] ++ slice_index_or rows v []) (n + u)) (sym long)
    ∙ get_or-append-add (slice_index_or rows (v % 4) []) (slice_index_or rows v []) u 0))
    (cases_lt v 4)

pub levels_are : (s : List ℕ) (rows : List (List ℕ)) → ((v : ℕ) → v < 8 → IsRow s v (slice_index_or rows v [])) → (u v : ℕ) → u < 8 → v < 8
    → number_at (slice_index_or (map (λ u. map (λ v. level_lane (sample_lane rows u v)) (below 8)) (below 8)) u []) v ≡ level s (8 * v + u) *ℤ pos 16
levels_are s rows all u v lu lv =
    let r : List ℕ = slice_index_or rows v [] in
    let is : IsRow s v r = all v lv in
    vector_at (λ u v. level_lane (sample_lane rows u v)) v u lv lu
    ∙ ap level_lane (sample_lane_is s rows all u v lu lv)
    ∙ level_lane_is (slice_index r u) (is.small u lu)
    ∙ ap (λ n. (pos n -ℤ pos 128) *ℤ pos 16) (is.at u lu)

pub levels_small : (s : List ℕ) (rows : List (List ℕ)) → ((v : ℕ) → v < 8 → IsRow s v (slice_index_or rows v [])) → (u : ℕ) → u < 8
    → IsEight 2048 (slice_index_or (map (λ u. map (λ v. level_lane (sample_lane rows u v)) (below 8)) (below 8)) u [])
levels_small s rows all u lu = record {
  long = vectors_long (λ u v. level_lane (sample_lane rows u v)) u lu;
  small = λ v lv. subst (λ z. nat_abs z ≤ 2048) (sym (levels_are s rows all u v lu lv)) (one v lv);
}
  where
    one : (v : ℕ) → v < 8 → nat_abs (level s (8 * v + u) *ℤ pos 16) ≤ 2048
    one v lv =
        let h : slice_index s (8 * v + u) < 256 = subst (λ n. n < 256) ((all v lv).at u lu) ((all v lv).small u lu) in
        omega (arith, ints, h)

pub all_rounded : (x r : List ℤ) → IsEight 536870912 x → length r ≡ 8 → ((k : ℕ) → k < 8 → number_at r k ≡ int_shr (number_at x k +ℤ pos 32768) 16) → IsEight 8192 r
all_rounded x r e long at = record {
  long = long;
  small = λ k lt. subst (λ z. nat_abs z ≤ 8192) (sym (at k lt)) (rounded_small (number_at x k) (e.small k lt));
}

pub scaled_small : (a k : ℤ) (m : ℕ) → nat_abs a ≤ m → nat_abs (a *ℤ k) ≤ m * nat_abs k
scaled_small a k m h =
    let e : nat_abs (a *ℤ k) ≡ nat_abs a * nat_abs k = unsigned_abs-mul a k in
    let l : nat_abs a * nat_abs k ≤ m * nat_abs k = mul-le (nat_abs a) (nat_abs k) m (nat_abs k) h (omega arith) in
    omega (arith, e, l)

two_small : (a b k l : ℤ) → nat_abs a ≤ 16384 → nat_abs b ≤ 16384 → nat_abs k + nat_abs l ≤ 32768 → nat_abs ((a *ℤ k) +ℤ (b *ℤ l)) ≤ 536870912
two_small a b k l ha hb few =
    let ea : nat_abs (a *ℤ k) ≤ 16384 * nat_abs k = scaled_small a k 16384 ha in
    let eb : nat_abs (b *ℤ l) ≤ 16384 * nat_abs l = scaled_small b l 16384 hb in
    omega (arith, ints, ea, eb, few)

pub exact : (x : ℤ) → nat_abs x ≤ 536870912 → int_wrap w32 x ≡ x
exact x h = int_wrap_fits w32 x (fits32 x (omega (arith, h)))

-- what two products give
pub two_are : (a b r : List ℤ) (k l : ℤ) → IsEight 16384 a → IsEight 16384 b → nat_abs k + nat_abs l ≤ 32768 → ((i : ℕ) → i < 8 → number_at r i ≡ int_wrap w32 ((number_at a i *ℤ k) +ℤ (number_at b i *ℤ l)))
    → (i : ℕ) → i < 8 → number_at r i ≡ (number_at a i *ℤ k) +ℤ (number_at b i *ℤ l)
two_are a b r k l ea eb few at i lt =
    at i lt ∙ exact ((number_at a i *ℤ k) +ℤ (number_at b i *ℤ l)) (two_small (number_at a i) (number_at b i) k l (ea.small i lt) (eb.small i lt) few)

pub two_eight : (a b r : List ℤ) (k l : ℤ) → IsEight 16384 a → IsEight 16384 b → nat_abs k + nat_abs l ≤ 32768 → length r ≡ 8 → ((i : ℕ) → i < 8 → number_at r i ≡ int_wrap w32 ((number_at a i *ℤ k) +ℤ (number_at b i *ℤ l)))
    → IsEight 536870912 r
two_eight a b r k l ea eb few long at = record {
  long = long;
  small = λ i lt. subst (λ z. nat_abs z ≤ 536870912) (sym (two_are a b r k l ea eb few at i lt)) (two_small (number_at a i) (number_at b i) k l (ea.small i lt) (eb.small i lt) few);
}

-- sums of 32 bits, each correct in its low bits
pub wide_sums_are : (a b : List ℤ) → length a ≡ 8 → length b ≡ 8 → (i : ℕ) → i < 8 → (x y : ℤ) → number_at a i ≡ int_wrap w32 x → number_at b i ≡ int_wrap w32 y
    → number_at (map (λ n. to_z w32 ((lane w32 a a n + lane w32 b b n) % 4294967296)) (below 8)) i ≡ int_wrap w32 (x +ℤ y)
wide_sums_are a b la lb i lt x y ex ey =
    eight_at (λ n. to_z w32 ((lane w32 a a n + lane w32 b b n) % 4294967296)) i lt
    ∙ ap (λ m. to_z w32 ((m + lane w32 b b i) % 4294967296)) (lane_is w32 a a i la lt ∙ ap (of_z w32) ex)
    ∙ ap (λ m. to_z w32 ((of_z w32 (int_wrap w32 x) + m) % 4294967296)) (lane_is w32 b b i lb lt ∙ ap (of_z w32) ey)
    ∙ wrapping_add_is w32 (int_wrap w32 x) (int_wrap w32 y) (SFits-int_wrap w32 x) (SFits-int_wrap w32 y)
    ∙ int_wrap-add_left w32 x (int_wrap w32 y) ∙ int_wrap-add_right w32 x y

-- VECTORS as a call sees them
abbrev pub seen : Width → List ℤ → List ℤ
seen w xs = map (to_z w) (map (of_z w) xs)

pub same_seen : (w : Width) (xs : List ℤ) → ((k : ℕ) → k < length xs → FitsSigned w (number_at xs k)) → seen w xs ≡ xs
same_seen w xs fit =
    let l1 : length (seen w xs) ≡ length (map (of_z w) xs) = length-map (map (of_z w) xs) (to_z w) in
    let l2 : length (map (of_z w) xs) ≡ length xs = length-map xs (of_z w) in
    ext_get_or (pos 0) (seen w xs) xs (l1 ∙ l2)
    (λ k lt. (let here : k < length xs = omega (arith, lt, l1, l2) in
    get_or-map (to_z w) (map (of_z w) xs) k 0 (pos 0) (omega (arith, here, l2))
    ∙ ap (to_z w) (get_or-map (of_z w) xs k (pos 0) 0 here)
    ∙ to_z-of_z w (number_at xs k) (fit k here)))

pub same16 : (n : ℕ) (xs : List ℤ) → n ≤ 32767 → IsEight n xs → seen w16 xs ≡ xs
same16 n xs few e = same_seen w16 xs (λ k lt. fits16 (number_at xs k) (omega (arith, few, e.small k (omega (arith, lt, e.long)))))

pub same32 : (xs : List ℤ) → IsEight 536870912 xs → seen w32 xs ≡ xs
same32 xs e = same_seen w32 xs (λ k lt. fits32 (number_at xs k) (omega (arith, e.small k (omega (arith, lt, e.long)))))

-- the same of products, of what a call sees
pub plain_dots : (a b r : List ℤ) (k l : ℤ) → IsEight 32767 a → IsEight 32767 b → FitsSigned w32 k → FitsSigned w32 l
    → ((i : ℕ) → i < 8 → number_at r i ≡ int_wrap w32 ((number_at (seen w16 a) i *ℤ to_z w32 (of_z w32 k)) +ℤ (number_at (seen w16 b) i *ℤ to_z w32 (of_z w32 l))))
    → (i : ℕ) → i < 8 → number_at r i ≡ int_wrap w32 ((number_at a i *ℤ k) +ℤ (number_at b i *ℤ l))
plain_dots a b r k l ea eb fk fl at i lt =
    at i lt
    ∙ ap (λ xs. int_wrap w32 ((number_at xs i *ℤ to_z w32 (of_z w32 k)) +ℤ (number_at (seen w16 b) i *ℤ to_z w32 (of_z w32 l)))) (same16 32767 a (omega arith) ea)
    ∙ ap (λ xs. int_wrap w32 ((number_at a i *ℤ to_z w32 (of_z w32 k)) +ℤ (number_at xs i *ℤ to_z w32 (of_z w32 l)))) (same16 32767 b (omega arith) eb)
    ∙ ap (λ z. int_wrap w32 ((number_at a i *ℤ z) +ℤ (number_at b i *ℤ to_z w32 (of_z w32 l)))) (to_z-of_z w32 k fk)
    ∙ ap (λ z. int_wrap w32 ((number_at a i *ℤ k) +ℤ (number_at b i *ℤ z))) (to_z-of_z w32 l fl)

pub seen_eight16 : {n : ℕ} {xs : List ℤ} → n ≤ 32767 → IsEight n xs → IsEight n (seen w16 xs)
seen_eight16 {n} {xs} few e = subst (IsEight n) (sym (same16 n xs few e)) e

pub seen_eight32 : (xs : List ℤ) → IsEight 536870912 xs → IsEight 536870912 (seen w32 xs)
seen_eight32 xs e = subst (IsEight 536870912) (sym (same32 xs e)) e

-- a vector that was rounded, as it is passed on
pub rounded_at : (x r : List ℤ) → IsEight 536870912 x → IsEight 8192 r → ((i : ℕ) → i < 8 → number_at r i ≡ half_rounded (number_at (seen w32 x) i))
    → (i : ℕ) → i < 8 → number_at (seen w16 r) i ≡ half_rounded (number_at x i)
rounded_at x r ex er at i lt = ap (λ xs. number_at xs i) (same16 8192 r (omega arith) er) ∙ at i lt ∙ ap (λ xs. half_rounded (number_at xs i)) (same32 x ex)

-- FOUR PRODUCTS

wrapped_seen : (r : List ℤ) (f : ℕ → ℤ) → length r ≡ 8 → ((i : ℕ) → i < 8 → number_at r i ≡ int_wrap w32 (f i)) → seen w32 r ≡ r
wrapped_seen r f long at = same_seen w32 r (λ k lt. subst (λ z. FitsSigned w32 z) (sym (at k (omega (arith, lt, long)))) (SFits-int_wrap w32 (f k)))

pub seen_long : (w : Width) (r : List ℤ) → length r ≡ 8 → length (seen w r) ≡ 8
seen_long w r long = length-map (map (of_z w) r) (to_z w) ∙ length-map r (of_z w) ∙ long

-- two products, as a call sees them
pub seen_dots : (a b r : List ℤ) (k l : ℤ) → IsEight 32767 a → IsEight 32767 b → FitsSigned w32 k → FitsSigned w32 l → length r ≡ 8
    → ((i : ℕ) → i < 8 → number_at r i ≡ int_wrap w32 ((number_at (seen w16 a) i *ℤ to_z w32 (of_z w32 k)) +ℤ (number_at (seen w16 b) i *ℤ to_z w32 (of_z w32 l))))
    → (i : ℕ) → i < 8 → number_at (seen w32 r) i ≡ int_wrap w32 ((number_at a i *ℤ k) +ℤ (number_at b i *ℤ l))
seen_dots a b r k l ea eb fk fl long at i lt =
    let plain = plain_dots a b r k l ea eb fk fl at in
    ap (λ xs. number_at xs i) (wrapped_seen r (λ i. (number_at a i *ℤ k) +ℤ (number_at b i *ℤ l)) long plain) ∙ plain i lt

pub more_eight : {m n : ℕ} {xs : List ℤ} → m ≤ n → IsEight m xs → IsEight n xs
more_eight le e = record { long = e.long; small = λ k lt. omega (arith, le, e.small k lt) }

pub line_seen : {xs : List ℤ} → IsLine xs → IsEight 8192 (seen w16 xs)
line_seen h = seen_eight16 (omega arith) (more_eight (omega arith) h.small)

four_small : (a b c d k l m n : ℤ) → nat_abs a ≤ 8192 → nat_abs b ≤ 8192 → nat_abs c ≤ 8192 → nat_abs d ≤ 8192 → nat_abs k + nat_abs l + (nat_abs m + nat_abs n) ≤ 65536
    → nat_abs (((a *ℤ k) +ℤ (b *ℤ l)) +ℤ ((c *ℤ m) +ℤ (d *ℤ n))) ≤ 536870912
four_small a b c d k l m n ha hb hc hd few =
    let ea : nat_abs (a *ℤ k) ≤ 8192 * nat_abs k = scaled_small a k 8192 ha in
    let eb : nat_abs (b *ℤ l) ≤ 8192 * nat_abs l = scaled_small b l 8192 hb in
    let ec : nat_abs (c *ℤ m) ≤ 8192 * nat_abs m = scaled_small c m 8192 hc in
    let ed : nat_abs (d *ℤ n) ≤ 8192 * nat_abs n = scaled_small d n 8192 hd in
    let ab : nat_abs ((a *ℤ k) +ℤ (b *ℤ l)) ≤ 8192 * nat_abs k + 8192 * nat_abs l = omega (arith, ints, ea, eb) in
    let cd : nat_abs ((c *ℤ m) +ℤ (d *ℤ n)) ≤ 8192 * nat_abs m + 8192 * nat_abs n = omega (arith, ints, ec, ed) in
    omega (arith, ints, ab, cd, few)

pub record AreLanes (f : ℕ → ℤ) (r : List ℤ) : Type 0 where
  pub all : IsEight 536870912 r
  pub at : (i : ℕ) → i < 8 → number_at r i ≡ f i

-- four products of lane i of four vectors, added up
pub four_are : (v : Four) (k : Factors) (r : List ℤ) → AreEight 8192 v → nat_abs k.0 + nat_abs k.1 + (nat_abs k.2 + nat_abs k.3) ≤ 65536 → length r ≡ 8
    → ((i : ℕ) → i < 8 → number_at r i ≡ int_wrap w32 (four_of v k i)) → AreLanes (four_of v k) r
four_are v k r e few long wrapped =
    let small = λ (i : ℕ) (lt : i < 8).
    four_small (number_at v.v0 i) (number_at v.v1 i) (number_at v.v2 i) (number_at v.v3 i) k.0 k.1 k.2 k.3
    (e.at0.small i lt) (e.at1.small i lt) (e.at2.small i lt) (e.at3.small i lt) few in
    let at = λ (i : ℕ) (lt : i < 8). wrapped i lt ∙ exact (four_of v k i) (small i lt) in
    record {
      all = record { long = long; small = λ i lt. subst (λ z. nat_abs z ≤ 536870912) (sym (at i lt)) (small i lt) };
      at = at;
    }

-- SUMS AND DIFFERENCES of what a call sees

pub record AreSums (m : ℕ) (f : ℤ → ℤ → ℤ) (a b r : List ℤ) : Type 0 where
  pub all : IsEight m r
  pub at : (k : ℕ) → k < 8 → number_at r k ≡ f (number_at a k) (number_at b k)

-- of numbers of at most m
made : (m : ℕ) (f : ℤ → ℤ → ℤ) → ((x y : ℤ) → nat_abs x ≤ m → nat_abs y ≤ m → nat_abs (f x y) ≤ m + m) → (a b r : List ℤ) → m ≤ 8192 → IsEight m a → IsEight m b → length r ≡ 8
    → ((k : ℕ) → k < 8 → number_at r k ≡ f (number_at (seen w16 a) k) (number_at (seen w16 b) k)) → AreSums (m + m) f a b (seen w16 r)
made m f bound a b r few ea eb long at =
    let plain = λ (k : ℕ) (lt : k < 8). (
    at k lt ∙ ap (λ xs. f (number_at xs k) (number_at (seen w16 b) k)) (same16 m a (omega (arith, few)) ea)
    ∙ ap (λ xs. f (number_at a k) (number_at xs k)) (same16 m b (omega (arith, few)) eb)) in
    let all : IsEight (m + m) r = record {
      long = long;
      small = λ k lt. subst (λ z. nat_abs z ≤ m + m) (sym (plain k lt)) (bound (number_at a k) (number_at b k) (ea.small k lt) (eb.small k lt));
    } in
    let same : seen w16 r ≡ r = same16 (m + m) r (omega (arith, few)) all in
    record { all = subst (IsEight (m + m)) (sym same) all; at = λ k lt. ap (λ xs. number_at xs k) same ∙ plain k lt }

pub sums_made : {m : ℕ} {a b : List ℤ} (r : List ℤ) → m ≤ 8192 → IsEight m a → IsEight m b → length r ≡ 8
    → ((k : ℕ) → k < 8 → number_at r k ≡ number_at (seen w16 a) k +ℤ number_at (seen w16 b) k) → AreSums (m + m) (λ x y. x +ℤ y) a b (seen w16 r)
sums_made {m} {a} {b} r few ea eb long at = made m (λ x y. x +ℤ y) (λ x y hx hy. omega (arith, ints, hx, hy)) a b r few ea eb long at

pub differences_made : {m : ℕ} {a b : List ℤ} (r : List ℤ) → m ≤ 8192 → IsEight m a → IsEight m b → length r ≡ 8
    → ((k : ℕ) → k < 8 → number_at r k ≡ number_at (seen w16 a) k -ℤ number_at (seen w16 b) k) → AreSums (m + m) (λ x y. x -ℤ y) a b (seen w16 r)
differences_made {m} {a} {b} r few ea eb long at = made m (λ x y. x -ℤ y) (λ x y hx hy. omega (arith, ints, hx, hy)) a b r few ea eb long at

-- FREQUENCIES by products

-- twice a number rounded
halved : (x : ℤ) → half_rounded (x *ℤ pos 2) ≡ eighth x
halved (pos n) = (let e : (n * 2 + 32768) / 65536 ≡ (n + 16384) / 32768 = omega arith in ap pos e)
halved (negsuc n) =
    ⊎_elim
    (λ (a : n < 16384). (let x : (negsuc n *ℤ pos 2) +ℤ pos 32768 ≡ pos (2 * (16383 - n)) = omega (arith, ints, a) in
    let y : negsuc n +ℤ pos 16384 ≡ pos (16383 - n) = omega (arith, ints, a) in
    let e : 2 * (16383 - n) / 65536 ≡ (16383 - n) / 32768 = omega arith in
    ap (λ z. int_shr z 16) x ∙ ap pos e ∙ sym (ap (λ z. int_shr z 15) y)))
    (λ (b : 16384 ≤ n). (let x : (negsuc n *ℤ pos 2) +ℤ pos 32768 ≡ negsuc (2 * (n - 16384) + 1) = omega (arith, ints, b) in
    let y : negsuc n +ℤ pos 16384 ≡ negsuc (n - 16384) = omega (arith, ints, b) in
    let e : (2 * (n - 16384) + 1) / 65536 ≡ (n - 16384) / 32768 = omega arith in
    ap (λ z. int_shr z 16) x ∙ ap negsuc e ∙ sym (ap (λ z. int_shr z 15) y)))
    (cases_lt n 16384)

-- by a sum x that is twice the frequency f
twice : (x f : ℤ) → x ≡ f *ℤ pos 2 → half_rounded x ≡ eighth f
twice x f e = ap half_rounded e ∙ halved f

pub even_second : (p0 p1 p2 p3 q2 q3 : ℤ) → q2 ≡ p1 -ℤ p2 → q3 ≡ p0 -ℤ p3 → half_rounded ((q3 *ℤ pos 21406) +ℤ (q2 *ℤ pos 8866)) ≡ eighth (number_at (even_frequencies p0 p1 p2 p3) 1)
even_second p0 p1 p2 p3 q2 q3 e2 e3 =
    twice ((q3 *ℤ pos 21406) +ℤ (q2 *ℤ pos 8866)) (number_at (even_frequencies p0 p1 p2 p3) 1) (omega (arith, ints, e2, e3, even_at1 p0 p1 p2 p3))

pub even_fourth : (p0 p1 p2 p3 q2 q3 : ℤ) → q2 ≡ p1 -ℤ p2 → q3 ≡ p0 -ℤ p3 → half_rounded ((q3 *ℤ pos 8866) +ℤ (q2 *ℤ negsuc 21407)) ≡ eighth (number_at (even_frequencies p0 p1 p2 p3) 3)
even_fourth p0 p1 p2 p3 q2 q3 e2 e3 =
    twice ((q3 *ℤ pos 8866) +ℤ (q2 *ℤ negsuc 21407)) (number_at (even_frequencies p0 p1 p2 p3) 3) (omega (arith, ints, e2, e3, even_at3 p0 p1 p2 p3))

abbrev pub four_products : ℤ → ℤ → ℤ → ℤ → ℤ → ℤ → ℤ → ℤ → ℤ
four_products a b c d k l m n = ((a *ℤ k) +ℤ (b *ℤ l)) +ℤ ((c *ℤ m) +ℤ (d *ℤ n))

pub odd_first : (a b c d : ℤ) → half_rounded (four_products a b c d (pos 4520) (negsuc 12871) (pos 19266) (negsuc 22725)) ≡ eighth (number_at (odd_sums a b c d) 0)
odd_first a b c d = twice (four_products a b c d (pos 4520) (negsuc 12871) (pos 19266) (negsuc 22725)) (number_at (odd_sums a b c d) 0) (omega (arith, ints, odd_at0 a b c d))

pub odd_second : (a b c d : ℤ) → half_rounded (four_products a b c d (pos 12874) (negsuc 22723) (pos 4522) (pos 19266)) ≡ eighth (number_at (odd_sums a b c d) 1)
odd_second a b c d = twice (four_products a b c d (pos 12874) (negsuc 22723) (pos 4522) (pos 19266)) (number_at (odd_sums a b c d) 1) (omega (arith, ints, odd_at1 a b c d))

pub odd_third : (a b c d : ℤ) → half_rounded (four_products a b c d (pos 19266) (negsuc 4517) (negsuc 22723) (negsuc 12871)) ≡ eighth (number_at (odd_sums a b c d) 2)
odd_third a b c d = twice (four_products a b c d (pos 19266) (negsuc 4517) (negsuc 22723) (negsuc 12871)) (number_at (odd_sums a b c d) 2) (omega (arith, ints, odd_at2 a b c d))

pub odd_fourth : (a b c d : ℤ) → half_rounded (four_products a b c d (pos 22726) (pos 19266) (pos 12874) (pos 4520)) ≡ eighth (number_at (odd_sums a b c d) 3)
odd_fourth a b c d = twice (four_products a b c d (pos 22726) (pos 19266) (pos 12874) (pos 4520)) (number_at (odd_sums a b c d) 3) (omega (arith, ints, odd_at3 a b c d))

-- lane k of a vector that a call gave, as it is passed on
pub handed : {r : List ℤ} (k : ℕ) {x : ℤ} → IsEight 8192 r → number_at r k ≡ x → number_at (seen w16 r) k ≡ x
handed {r} k e is = ap (λ xs. number_at xs k) (same16 8192 r (omega arith) e) ∙ is

-- four vectors, as a call sees them
abbrev four_vectors : List ℤ → List ℤ → List ℤ → List ℤ → Four
four_vectors a b c d = record { v0 = a; v1 = b; v2 = c; v3 = d }

abbrev pub seen_four : Four → Four
seen_four v = four_vectors (seen w16 v.v0) (seen w16 v.v1) (seen w16 v.v2) (seen w16 v.v3)

pub same_four : {n : ℕ} {v : Four} → n ≤ 32767 → AreEight n v → seen_four v ≡ v
same_four {n} {v} few e =
    ap (λ xs. four_vectors xs (seen w16 v.v1) (seen w16 v.v2) (seen w16 v.v3)) (same16 n v.v0 few e.at0)
    ∙ ap (λ xs. four_vectors v.v0 xs (seen w16 v.v2) (seen w16 v.v3)) (same16 n v.v1 few e.at1)
    ∙ ap (λ xs. four_vectors v.v0 v.v1 xs (seen w16 v.v3)) (same16 n v.v2 few e.at2)
    ∙ ap (four_vectors v.v0 v.v1 v.v2) (same16 n v.v3 few e.at3)

pub four_seen : {n : ℕ} {v : Four} → n ≤ 32767 → AreEight n v → AreEight n (seen_four v)
four_seen {n} {v} few e = subst (AreEight n) (sym (same_four few e)) e

-- four products of what a call sees
pub of_four : (v : Four) (k : Factors) (r : List ℤ) (x : ℤ) (i : ℕ) → AreEight 8192 v → IsEight 8192 r
    → number_at r i ≡ half_rounded (four_of (seen_four v) k i) → half_rounded (four_of v k i) ≡ x → number_at (seen w16 r) i ≡ x
of_four v k r x i e er at is = handed i er (at ∙ ap (λ v. half_rounded (four_of v k i)) (same_four (omega arith) e) ∙ is)

-- QUARTERS

pub fits_room : (s : ℤ) (n : ℕ) → n ≤ 2 → HasRoom s → FitsSigned w16 (s +ℤ pos n)
fits_room s n few h = (let l = h.low in let u = h.high in fits_between (s +ℤ pos n) (omega (arith, ints, l, few)) (omega (arith, ints, u, few)))
  where
    fits_between : (v : ℤ) → negsuc 32767 ≤ℤ v → v ≤ℤ pos 32767 → FitsSigned w16 v
    fits_between v low high = search (rules, low, high, arith, ints)

pub quarter_small : (s : ℤ) → HasRoom s → nat_abs (quarter s) ≤ 8192
quarter_small (pos n) h = (let u = h.high in let e : (n + 2) / 4 ≤ 8192 = omega (arith, ints, u) in e)
quarter_small (negsuc n) h =
    ⊎_elim
    (λ (a : n < 2). (let y : negsuc n +ℤ pos 2 ≡ pos (1 - n) = omega (arith, ints, a) in
    let e : (1 - n) / 4 ≤ 8192 = omega arith in
    subst (λ z. nat_abs (int_shr z 2) ≤ 8192) (sym y) e))
    (λ (b : 2 ≤ n). (let y : negsuc n +ℤ pos 2 ≡ negsuc (n - 2) = omega (arith, ints, b) in
    let l = h.low in
    let e : suc ((n - 2) / 4) ≤ 8192 = omega (arith, ints, b, l) in
    subst (λ z. nat_abs (int_shr z 2) ≤ 8192) (sym y) e))
    (cases_lt n 2)

-- of the bits of a sum
abbrev pub quarter_lane : ℕ → ℤ
quarter_lane m = to_z w16 (of_z w16 (shr_z (to_z w16 ((m + 2) % 65536)) 4))

quarter_lane_is : (m : ℕ) (s : ℤ) → m < 65536 → to_z w16 m ≡ s → HasRoom s → quarter_lane m ≡ quarter s
quarter_lane_is m s lt e h =
    let q : nat_abs (quarter s) ≤ 8192 = quarter_small s h in
    ap (λ z. to_z w16 (of_z w16 (shr_z z 4)))
    (wrapping_add-bits w16 m 2 lt (omega arith) ∙ ap (λ z. int_wrap w16 (z +ℤ pos 2)) e ∙ int_wrap_fits w16 (s +ℤ pos 2) (fits_room s 2 (omega arith) h))
    ∙ to_z-of_z w16 (quarter s) (fits16 (quarter s) (omega (arith, q)))

room_fits : (s : ℤ) → HasRoom s → FitsSigned w16 s
room_fits s h = (let e : s +ℤ pos 0 ≡ s = omega (arith, ints) in subst (λ z. FitsSigned w16 z) e (fits_room s 0 (omega arith) h))

pub quarter_sums_are : (a b : List ℤ) → IsEight 16384 a → IsEight 16384 b → ((k : ℕ) → k < 8 → HasRoom (number_at a k +ℤ number_at b k)) → (k : ℕ) → k < 8
    → number_at (map (λ n. quarter_lane ((lane w16 a a n + lane w16 b b n) % 65536)) (below 8)) k ≡ quarter (number_at a k +ℤ number_at b k)
quarter_sums_are a b ea eb room k lt =
    let x : ℤ = number_at a k in
    let y : ℤ = number_at b k in
    eight_at (λ n. quarter_lane ((lane w16 a a n + lane w16 b b n) % 65536)) k lt
    ∙ ap (λ m. quarter_lane ((m + lane w16 b b k) % 65536)) (lane_is w16 a a k ea.long lt)
    ∙ ap (λ m. quarter_lane ((of_z w16 x + m) % 65536)) (lane_is w16 b b k eb.long lt)
    ∙ quarter_lane_is ((of_z w16 x + of_z w16 y) % 65536) (x +ℤ y) (mod_below (of_z w16 x + of_z w16 y) 65536 (omega arith))
    (wrapping_add_is w16 x y (fits16 x (omega (arith, ea.small k lt))) (fits16 y (omega (arith, eb.small k lt))) ∙ int_wrap_fits w16 (x +ℤ y) (room_fits (x +ℤ y) (room k lt))) (room k lt)

pub quarter_differences_are : (a b : List ℤ) → IsEight 16384 a → IsEight 16384 b → ((k : ℕ) → k < 8 → HasRoom (number_at a k -ℤ number_at b k)) → (k : ℕ) → k < 8
    → number_at (map (λ n. quarter_lane ((lane w16 a a n + (65536 - lane w16 b b n)) % 65536)) (below 8)) k ≡ quarter (number_at a k -ℤ number_at b k)
quarter_differences_are a b ea eb room k lt =
    let x : ℤ = number_at a k in
    let y : ℤ = number_at b k in
    eight_at (λ n. quarter_lane ((lane w16 a a n + (65536 - lane w16 b b n)) % 65536)) k lt
    ∙ ap (λ m. quarter_lane ((m + (65536 - lane w16 b b k)) % 65536)) (lane_is w16 a a k ea.long lt)
    ∙ ap (λ m. quarter_lane ((of_z w16 x + (65536 - m)) % 65536)) (lane_is w16 b b k eb.long lt)
    ∙ quarter_lane_is ((of_z w16 x + (65536 - of_z w16 y)) % 65536) (x -ℤ y) (mod_below (of_z w16 x + (65536 - of_z w16 y)) 65536 (omega arith))
    (wrapping_sub_is w16 x y (fits16 x (omega (arith, ea.small k lt))) (fits16 y (omega (arith, eb.small k lt))) ∙ int_wrap_fits w16 (x -ℤ y) (room_fits (x -ℤ y) (room k lt))) (room k lt)

pub quarters_eight : (f : ℕ → ℤ) (r : List ℤ) → length r ≡ 8 → ((k : ℕ) → k < 8 → HasRoom (f k)) → ((k : ℕ) → k < 8 → number_at r k ≡ quarter (f k)) → IsEight 8192 r
quarters_eight f r long room at = record { long = long; small = λ k lt. subst (λ z. nat_abs z ≤ 8192) (sym (at k lt)) (quarter_small (f k) (room k lt)) }

quartered : (s : ℤ) → quarter s ≡ eighth (s *ℤ pos 8192)
quartered (pos n) = (let e : (n + 2) / 4 ≡ (n * 8192 + 16384) / 32768 = omega arith in ap pos e)
quartered (negsuc n) =
    ⊎_elim
    (λ (a : n < 2). (let x : (negsuc n *ℤ pos 8192) +ℤ pos 16384 ≡ pos (8192 * (1 - n)) = omega (arith, ints, a) in
    let y : negsuc n +ℤ pos 2 ≡ pos (1 - n) = omega (arith, ints, a) in
    let e : (1 - n) / 4 ≡ 8192 * (1 - n) / 32768 = omega arith in
    ap (λ z. int_shr z 2) y ∙ ap pos e ∙ sym (ap (λ z. int_shr z 15) x)))
    (λ (b : 2 ≤ n). (let x : (negsuc n *ℤ pos 8192) +ℤ pos 16384 ≡ negsuc (8192 * (n - 2) + 8191) = omega (arith, ints, b) in
    let y : negsuc n +ℤ pos 2 ≡ negsuc (n - 2) = omega (arith, ints, b) in
    let e : (n - 2) / 4 ≡ (8192 * (n - 2) + 8191) / 32768 = omega arith in
    ap (λ z. int_shr z 2) y ∙ ap negsuc e ∙ sym (ap (λ z. int_shr z 15) x)))
    (cases_lt n 2)

pub even_first : (p0 p1 p2 p3 q0 q1 : ℤ) → q0 ≡ p0 +ℤ p3 → q1 ≡ p1 +ℤ p2 → quarter (q0 +ℤ q1) ≡ eighth (number_at (even_frequencies p0 p1 p2 p3) 0)
unfolding even_frequencies
even_first p0 p1 p2 p3 q0 q1 e0 e1 = ap (λ q. quarter (q +ℤ q1)) e0 ∙ ap (λ q. quarter ((p0 +ℤ p3) +ℤ q)) e1 ∙ quartered ((p0 +ℤ p3) +ℤ (p1 +ℤ p2))

pub even_third : (p0 p1 p2 p3 q0 q1 : ℤ) → q0 ≡ p0 +ℤ p3 → q1 ≡ p1 +ℤ p2 → quarter (q0 -ℤ q1) ≡ eighth (number_at (even_frequencies p0 p1 p2 p3) 2)
unfolding even_frequencies
even_third p0 p1 p2 p3 q0 q1 e0 e1 = ap (λ q. quarter (q -ℤ q1)) e0 ∙ ap (λ q. quarter ((p0 +ℤ p3) -ℤ q)) e1 ∙ quartered ((p0 +ℤ p3) -ℤ (p1 +ℤ p2))

pub room_as : (f : ℤ → ℤ → ℤ) (x y a b : ℤ) → x ≡ a → y ≡ b → HasRoom (f a b) → HasRoom (f x y)
room_as f x y a b ex ey h = subst (λ z. HasRoom (f z y)) (sym ex) (subst (λ z. HasRoom (f a z)) (sym ey) h)

-- a number of a line
pub record InLine (x : ℤ) : Type 0 where
  pub low : nat_abs x ≤ 4096
  pub high : x ≤ℤ pos 4090

pub in_line : (xs : List ℤ) (k : ℕ) → IsLine xs → k < 8 → InLine (number_at xs k)
in_line xs k h lt = record { low = h.small.small k lt; high = h.high k lt }

-- the sum of two of them
pub record IsPair (p : ℤ) : Type 0 where
  pub low : negsuc 8191 ≤ℤ p
  pub high : p ≤ℤ pos 8180

pub pair_in : {p a b : ℤ} → p ≡ a +ℤ b → InLine a → InLine b → IsPair p
pair_in e ha hb = record { low = omega (arith, ints, e, ha.low, hb.low); high = omega (arith, ints, e, ha.high, hb.high) }

-- lane k of four vectors of such sums
pub record FourPairs (p0 p1 p2 p3 : List ℤ) (k : ℕ) : Type 0 where
  pub at0 : IsPair (number_at p0 k)
  pub at1 : IsPair (number_at p1 k)
  pub at2 : IsPair (number_at p2 k)
  pub at3 : IsPair (number_at p3 k)

pub sum_room : {p0 p1 p2 p3 : List ℤ} {k : ℕ} → FourPairs p0 p1 p2 p3 k → HasRoom ((number_at p0 k +ℤ number_at p3 k) +ℤ (number_at p1 k +ℤ number_at p2 k))
sum_room h = record {
  low = omega (arith, ints, h.at0.low, h.at1.low, h.at2.low, h.at3.low);
  high = omega (arith, ints, h.at0.high, h.at1.high, h.at2.high, h.at3.high);
}

pub gap_room : {p0 p1 p2 p3 : List ℤ} {k : ℕ} → FourPairs p0 p1 p2 p3 k → HasRoom ((number_at p0 k +ℤ number_at p3 k) -ℤ (number_at p1 k +ℤ number_at p2 k))
gap_room h = record {
  low = omega (arith, ints, h.at0.low, h.at1.high, h.at2.high, h.at3.low);
  high = omega (arith, ints, h.at0.high, h.at1.low, h.at2.low, h.at3.high);
}
