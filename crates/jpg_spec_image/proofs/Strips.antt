-- Which rows of samples a row of the image is made from.
use Rattle.std.proofs.Common.{◌≡◌, ◌⊎◌, inl, inr, ℕ, zero, suc, ◌+◌, ◌-◌, ◌*◌, ◌/◌, ◌%◌, ◌<◌, ◌≤◌, min, Bool, true, false, ◌&&◌, ◌==◌, if◌then◌else◌, List, [], ◌∷◌, map, slice_index, take, subst, ◌||◌, ⊎_elim, refl, sym, ap, ◌∙◌, arith}
use Rattle.std.proofs.lemmas.Bool.Decides.{nat_tests}
use Rattle.std.proofs.lemmas.List.{get_or-map}
use Rattle.std.proofs.Math.Nat.{le-div_iff_mul-le, div-lt_iff_lt-mul}
use Rattle.std.proofs.lemmas.Bool.{cases_lt, eqb-true, false≢true}
use Rattle.jpg_spec.specs.Lists.{below, any_of}
use Rattle.jpg_spec.proofs.Basics.Rows.{at_below}
use Rattle.jpg_spec.specs.Scan.{Blocks}
use Rattle.jpg_spec.specs.Meaning.{Meaning, component_of}
use Rattle.jpg_spec_image.specs.Dct.{dequantised, inverse_dct}
use Rattle.jpg_spec_image.specs.Upsampling.{Stretch, is_smoothed, has_far_rows, near_row, far_row, upsampled_row, up_row, up_rows2, repeat_row}
use Rattle.jpg_spec_image.specs.Pixels.{plane, plane_row, stretch_of, upsampled, samples_across}
use Rattle.jpg_spec_image.specs.Strips.{ready_of, IsRowReady, Agree, rows_from, kept_row, lines, block_rows, known_rows, ready, IsCovered}
use Rattle.jpg_spec.proofs.Basics.Common.{any_append, length_below, or_right}

-- TWO ROWS

pub down_is_two : (s : Stretch) → has_far_rows s ≡ true → s.down ≡ 2
down_is_two s e = grind (arith, nat_tests)

record Between (low high n : ℕ) : Type 0 where
  least : low ≤ n
  most : n < high

near_two : (s : Stretch) (j k y : ℕ) → s.down ≡ 2 → 2 * j - 1 ≤ y → (y < 2 * k - 1) ⊎ ((k ≡ s.high) × (y < s.high * s.down)) → Between (j - 1) k (y / 2)
near_two s j k y d low (inl h) = record { least = omega (arith, low); most = omega (arith, h) }
near_two s j k y d low (inr (e, h)) =
    let m : s.high * s.down ≡ s.high * 2 = ap (λ n. s.high * n) d in
    record { least = omega (arith, low); most = omega (arith, e, h, m) }

far_even : (s : Stretch) (y : ℕ) → (y % 2 == 0) ≡ true → far_row s y ≡ y / 2 - 1
far_even s y e = ap (λ b. if b then y / 2 - 1 else min (y / 2 + 1) (s.high - 1)) e

far_odd : (s : Stretch) (y : ℕ) → (y % 2 == 0) ≡ false → far_row s y ≡ min (y / 2 + 1) (s.high - 1)
far_odd s y e = ap (λ b. if b then y / 2 - 1 else min (y / 2 + 1) (s.high - 1)) e

far_two : (s : Stretch) (j k y : ℕ) (b : Bool) → (y % 2 == 0) ≡ b → s.down ≡ 2 → k ≤ s.high → 2 * j - 1 ≤ y → (y < 2 * k - 1) ⊎ ((k ≡ s.high) × (y < s.high * s.down)) → Between (j - 1) k (far_row s y)
far_two s j k y true e d le low h =
    let even : y % 2 ≡ 0 = grind (arith, nat_tests, e) in
    let is : far_row s y ≡ y / 2 - 1 = far_even s y e in
    let n : Between (j - 1) k (y / 2) = near_two s j k y d low h in
    record { least = omega (arith, is, even, low); most = omega (arith, is, n.most) }
far_two s j k y false e d le low h =
    let odd : y % 2 ≡ 1 = grind (arith, nat_tests, e) in
    let is : far_row s y ≡ min (y / 2 + 1) (s.high - 1) = far_odd s y e in
    let n : Between (j - 1) k (y / 2) = near_two s j k y d low h in
    record { least = omega (arith, is, n.least, n.most, le); most = far_most h n.most odd is }
  where
    far_most : (y < 2 * k - 1) ⊎ ((k ≡ s.high) × (y < s.high * s.down)) → y / 2 < k → y % 2 ≡ 1 → far_row s y ≡ min (y / 2 + 1) (s.high - 1) → far_row s y < k
    far_most (inl l) m odd is = omega (arith, is, l, odd)
    far_most (inr (k_is, l)) m odd is = omega (arith, is, k_is, m)

-- ONE ROW

near_one : (s : Stretch) (j k y : ℕ) → 1 ≤ s.down → j * s.down ≤ y → (y < k * s.down) ⊎ ((k ≡ s.high) × (y < s.high * s.down)) → Between (j - 1) k (y / s.down)
near_one s j k y d low h =
    let l : j ≤ y / s.down = (le-div_iff_mul-le d).1 low in
    record { least = omega (arith, l); most = (div-lt_iff_lt-mul d).1 (within h) }
  where
    within : (y < k * s.down) ⊎ ((k ≡ s.high) × (y < s.high * s.down)) → y < k * s.down
    within (inl l) = l
    within (inr (e, l)) = subst (λ n. y < n * s.down) (sym e) l

-- the row, by whether it needs two rows, and otherwise by whether it is smoothed
pub chosen : (b c : Bool) (across : ℕ) (near far other_near other_far : List ℕ) → near ≡ other_near → (b ≡ true → far ≡ other_far)
    → (if b then up_rows2 near far else if c then up_row near else repeat_row across near) ≡ (if b then up_rows2 other_near other_far else if c then up_row other_near else repeat_row across other_near)
chosen true c across near far other_near other_far en ef = ap (λ x. up_rows2 x far) en ∙ ap (up_rows2 other_near) (ef refl)
chosen false true across near far other_near other_far en ef = ap up_row en
chosen false false across near far other_near other_far en ef = ap (repeat_row across) en

pub window : (s : Stretch) (rows others : ℕ → List ℕ) (j k y : ℕ) → 1 ≤ s.down → k ≤ s.high → Agree (j - 1) k rows others → ready_of s j ≤ y → IsRowReady s k y
    → upsampled_row s rows y ≡ upsampled_row s others y
window s rows others j k y down le agree low h =
    chosen (has_far_rows s) (is_smoothed s && s.down == 1) s.across (rows (near_row s y)) (rows (far_row s y)) (others (near_row s y)) (others (far_row s y))
    (near_same (has_far_rows s) refl) far_same
  where
    near_same : (b : Bool) → has_far_rows s ≡ b → rows (near_row s y) ≡ others (near_row s y)
    near_same true e =
        let d : s.down ≡ 2 = down_is_two s e in
        let n : Between (j - 1) k (y / 2) = near_two s j k y d (subst (λ b. (if b then 2 * j - 1 else j * s.down) ≤ y) e low) (subst (λ b. (y < (if b then 2 * k - 1 else k * s.down)) ⊎ ((k ≡ s.high) × (y < s.high * s.down))) e h) in
        let m : near_row s y ≡ y / 2 = ap (λ q. y / q) d in
        agree (near_row s y) (omega (arith, m, n.least)) (omega (arith, m, n.most))
    near_same false e =
        let n : Between (j - 1) k (y / s.down) = near_one s j k y down (subst (λ b. (if b then 2 * j - 1 else j * s.down) ≤ y) e low) (subst (λ b. (y < (if b then 2 * k - 1 else k * s.down)) ⊎ ((k ≡ s.high) × (y < s.high * s.down))) e h) in
        agree (near_row s y) n.least n.most

    far_same : has_far_rows s ≡ true → rows (far_row s y) ≡ others (far_row s y)
    far_same e =
        let n : Between (j - 1) k (far_row s y) = far_two s j k y (y % 2 == 0) refl (down_is_two s e) le (subst (λ b. (if b then 2 * j - 1 else j * s.down) ≤ y) e low) (subst (λ b. (y < (if b then 2 * k - 1 else k * s.down)) ⊎ ((k ≡ s.high) × (y < s.high * s.down))) e h) in
        agree (far_row s y) n.least n.most

-- KEPT ROWS

pub kept_is : (rows : ℕ → List ℕ) (first count r : ℕ) → first ≤ r → r < first + count → kept_row first (rows_from rows first count) r ≡ rows r
kept_is rows first count r low high =
    let m : r - first < count = omega (arith, low, high) in
    let n : first + (r - first) ≡ r = omega (arith, low) in
    get_or-map (λ k. rows (first + k)) (below count) (r - first) 0 [] (subst (λ n. r - first < n) (sym (length_below count)) m)
    ∙ ap (λ k. rows (first + k)) (at_below count (r - first) m)
    ∙ ap rows n

pub kept_window : (s : Stretch) (rows : ℕ → List ℕ) (j k y : ℕ) → 1 ≤ s.down → k ≤ s.high → ready_of s j ≤ y → IsRowReady s k y
    → upsampled_row s (kept_row (j - 1) (rows_from rows (j - 1) (k - (j - 1)))) y ≡ upsampled_row s rows y
kept_window s rows j k y down le low h =
    window s (kept_row (j - 1) (rows_from rows (j - 1) (k - (j - 1)))) rows j k y down le
    (λ (r : ℕ) (l : j - 1 ≤ r) (m : r < k). kept_is rows (j - 1) (k - (j - 1)) r l (omega (arith, l, m))) low h

-- ROWS OF SAMPLES AND OF BLOCKS

map_same : {X Y : Type 0} (f g : X → Y) → ((x : X) → f x ≡ g x) → (xs : List X) → map f xs ≡ map g xs
map_same f g e [] = refl
map_same f g e (x ∷ xs) = ap (λ y. y ∷ map f xs) (e x) ∙ ap (λ ys. g x ∷ ys) (map_same f g e xs)

pub same_samples : (M : Meaning) (others : Blocks) (i y : ℕ) → ((x : ℕ) → M.blocks i x (y / 8) ≡ others i x (y / 8)) → plane_row M i y ≡ plane_row (record M { blocks = others }) i y
same_samples M others i y e =
    map_same (λ x. plane M i x y) (λ x. slice_index (inverse_dct (dequantised (component_of M i).quants (others i (x / 8) (y / 8)))) (8 * (y % 8) + x % 8))
    (λ (x : ℕ). ap (λ b. slice_index (inverse_dct (dequantised (component_of M i).quants b)) (8 * (y % 8) + x % 8)) (e (x / 8))) (below (samples_across M i))

pub same_rows : (M : Meaning) (others : Blocks) (smooth : Bool) (i n k y : ℕ) → ((x z : ℕ) → z < n → M.blocks i x z ≡ others i x z)
    → 1 ≤ (stretch_of M smooth i).down → k ≤ (stretch_of M smooth i).high → k ≤ 8 * n → IsRowReady (stretch_of M smooth i) k y
    → upsampled M smooth i y ≡ upsampled (record M { blocks = others }) smooth i y
same_rows M others smooth i n k y e down high le h =
    let rows : ℕ → List ℕ = plane_row M i in
    let new : ℕ → List ℕ = plane_row (record M { blocks = others }) i in
    let same : (r : ℕ) → 0 ≤ r → r < k → rows r ≡ new r =
    λ (r : ℕ) (l : 0 ≤ r) (m : r < k). same_samples M others i r (λ (x : ℕ). e x (r / 8) (omega (arith, m, le)))
    in
    ap (take M.width) (window (stretch_of M smooth i) rows new 0 k y down high same (zero_ready (has_far_rows (stretch_of M smooth i))) h)
  where
    zero_ready : (b : Bool) → (if b then 2 * 0 - 1 else 0 * (stretch_of M smooth i).down) ≤ y
    zero_ready true = omega arith
    zero_ready false = omega arith

-- WHAT IS READY

all_known : (n high d height y : ℕ) → high ≤ n → height ≤ high * d → y < height → (min n high ≡ high) × (y < high * d)
all_known n high d height y le tall lt = (omega (arith, le), omega (arith, tall, lt))

-- some MCU rows are missing
not_all : (far any : Bool) (n d high height lm y : ℕ) → lm ≡ n * d → height ≤ high * d → lm < height → (far ≡ true → any ≡ true) → (far ≡ true → d ≡ 2)
    → y < (if any then lm - 1 else lm) → (n < high) ⊎ (high ≤ n)
    → (y < (if far then 2 * min n high - 1 else min n high * d)) ⊎ ((min n high ≡ high) × (y < high * d))
not_all far true n d high height lm y e tall short fa two lt (inr le) = inr (all_known n high d height y le tall (omega (arith, lt, short)))
not_all far false n d high height lm y e tall short fa two lt (inr le) = inr (all_known n high d height y le tall (omega (arith, lt, short)))
not_all true true n d high height lm y e tall short fa two lt (inl more) =
    let k : min n high ≡ n = omega (arith, more) in
    let m : n * d ≡ n * 2 = ap (λ q. n * q) (two refl) in
    inl (omega (arith, e, m, k, lt))
not_all true false n d high height lm y e tall short fa two lt (inl more) = absurd (false≢true (fa refl))
not_all false true n d high height lm y e tall short fa two lt (inl more) =
    let k : min n high ≡ n = omega (arith, more) in
    let m : min n high * d ≡ n * d = ap (λ q. q * d) k in
    inl (omega (arith, e, m, lt))
not_all false false n d high height lm y e tall short fa two lt (inl more) =
    let k : min n high ≡ n = omega (arith, more) in
    let m : min n high * d ≡ n * d = ap (λ q. q * d) k in
    inl (omega (arith, e, m, lt))

any_in : (t : ℕ → Bool) (n x : ℕ) → x < n → t x ≡ true → any_of t (below n) ≡ true
any_in t zero x h e = absurd (omega (arith, h))
any_in t (suc n) x h e =
    any_append t (below n) (n ∷ [])
    ∙ ⊎_elim
    (λ (k : x < n). ap (λ b. b || any_of t (n ∷ [])) (any_in t n x k e))
    (λ (k : n ≤ x). (let s : x ≡ n = omega (arith, h, k) in
    or_right (any_of t (below n)) (any_of t (n ∷ [])) (ap (λ m. any_of t (m ∷ [])) (sym s) ∙ ap (λ b. b || false) e)))
    (cases_lt x n)

pub ready_told : (M : Meaning) (count : ℕ) (smooth : Bool) (all m i y : ℕ) → IsCovered M smooth all i → i < count → m ≤ all → y < ready M count smooth all m
    → IsRowReady (stretch_of M smooth i) (known_rows M i m) y
ready_told M count smooth all m i y covered has le lt = by_all (m == all) refl
  where
    by_all : (b : Bool) → (m == all) ≡ b → IsRowReady (stretch_of M smooth i) (known_rows M i m) y
    by_all true e =
        let is : m ≡ all = eqb-true m all e in
        let low : y < M.height = subst (λ b. y < (if b then M.height else if any_of (λ j. has_far_rows (stretch_of M smooth j)) (below count) then lines M * m - 1 else lines M * m)) e lt in
        inr (all_known (8 * block_rows M i * m) (stretch_of M smooth i).high (stretch_of M smooth i).down M.height y
        (subst (λ n. (stretch_of M smooth i).high ≤ 8 * block_rows M i * n) (sym is) covered.enough) covered.tall low)
    by_all false e =
        let some : m < all = grind (arith, nat_tests, le) in
        let low : y < (if any_of (λ j. has_far_rows (stretch_of M smooth j)) (below count) then lines M * m - 1 else lines M * m) =
        subst (λ b. y < (if b then M.height else if any_of (λ j. has_far_rows (stretch_of M smooth j)) (below count) then lines M * m - 1 else lines M * m)) e lt
        in
        let d = (stretch_of M smooth i).down in
        let product : 8 * block_rows M i * d * m ≡ 8 * block_rows M i * m * d = grind arith in
        not_all (has_far_rows (stretch_of M smooth i)) (any_of (λ j. has_far_rows (stretch_of M smooth j)) (below count)) (8 * block_rows M i * m) d (stretch_of M smooth i).high M.height (lines M * m) y
        (ap (λ n. n * m) covered.whole ∙ product) covered.tall (covered.no_more m some)
        (λ (t : has_far_rows (stretch_of M smooth i) ≡ true). any_in (λ j. has_far_rows (stretch_of M smooth j)) count i has t)
        (λ (t : has_far_rows (stretch_of M smooth i) ≡ true). down_is_two (stretch_of M smooth i) t)
        low (cases_lt (8 * block_rows M i * m) (stretch_of M smooth i).high)
