-- Sums that are accumulated, and means of them.
use Rattle.std.proofs.Common.{◌≡◌, ℕ, zero, suc, ◌+◌, ◌-◌, ◌*◌, ◌/◌, ◌%◌, ◌<◌, ◌≤◌, min, List, [], ◌∷◌, ◌++◌, length, take, set, slice_index, map, add-one, refl, sym, ap, ◌∙◌, arith, ⊎_elim, Bool}
use Rattle.std.specs.Prelude.{sum_by, nat_lt, if◌then◌else◌}
use Rattle.std.proofs.lemmas.Bool.{cases_lt}
use Rattle.std.proofs.lemmas.Nat.{div_below, mul-le}
use Rattle.std.proofs.lemmas.List.{take_more_set, take_all, map-append, length-take-le, get_or-take, get_or-map}
use Rattle.std.proofs.lemmas.List.Sums.{sum_by-append}
use Rattle.jpg_spec.specs.Lists.{below}
use Rattle.jpg_spec_image.specs.Downsampling.{mean_of, edge_repeated, in_rows, sum_under, downsampled, down_rows}
use Rattle.jpg_spec.proofs.Basics.Common.{lt_yes, lt_no, length_below, sum_one}
use Rattle.jpg_spec.proofs.Basics.Rows.{by_items, at_below}
use Rattle.jpg_sample.specs.Means.{row_part, block_part, quarter_at, quarter_of}

pub sum_more : (f : ℕ → ℕ) (n : ℕ) → sum_by f (below (n + 1)) ≡ sum_by f (below n) + f n
sum_more f n = ap (λ m. sum_by f (below m)) (add-one n) ∙ sum_by-append f (below n) (n ∷ []) ∙ ap (λ s. sum_by f (below n) + s) (sum_one f n)

pub sum_alike : (f g : ℕ → ℕ) (n : ℕ) → ((k : ℕ) → k < n → f k ≡ g k) → sum_by f (below n) ≡ sum_by g (below n)
sum_alike f g zero same = refl
sum_alike f g (suc n) same =
    sum_by-append f (below n) (n ∷ []) ∙ ap (λ s. sum_by f (below n) + s) (sum_one f n)
    ∙ ap (λ s. s + f n) (sum_alike f g n (λ k h. same k (omega (arith, h)))) ∙ ap (λ s. sum_by g (below n) + s) (same n (omega arith))
    ∙ sym (sum_by-append g (below n) (n ∷ []) ∙ ap (λ s. sum_by g (below n) + s) (sum_one g n))

-- the first column under column x
pub first_alike : (x width across u : ℕ) → 1 ≤ across → 1 ≤ width → min ((if nat_lt x width then across * x else width) + u) (width - 1) ≡ min (across * x + u) (width - 1)
first_alike x width across u some wide =
    ⊎_elim
    (λ (a : x < width). ap (λ (t : Bool). min ((if t then across * x else width) + u) (width - 1)) (lt_yes x width a))
    (λ (b : width ≤ x). (let m : 1 * x ≤ across * x = mul-le 1 x across x some (omega arith) in
    ap (λ (t : Bool). min ((if t then across * x else width) + u) (width - 1)) (lt_no x width b) ∙ omega (arith, m, b, wide)))
    (cases_lt x width)

-- the samples under column x
pub under_is : (rows : List ℕ) (width across down x : ℕ) → 1 ≤ across → 1 ≤ width
    → block_part rows width across down (if nat_lt x width then across * x else width) ≡ sum_under across down (edge_repeated width down (in_rows width rows)) x 0
under_is rows width across down x some wide =
    sum_alike (row_part rows width across (if nat_lt x width then across * x else width)) (λ v. sum_by (λ u. edge_repeated width down (in_rows width rows) (across * x + u) (down * 0 + v)) (below across)) down
    (λ v lv. sum_alike (λ u. slice_index rows (v * width + min ((if nat_lt x width then across * x else width) + u) (width - 1)))
    (λ u. edge_repeated width down (in_rows width rows) (across * x + u) (down * 0 + v)) across
    (λ u lu. (let e : min (down * 0 + v) (down - 1) ≡ v = omega (arith, lv) in
    ap (λ m. slice_index rows (v * width + m)) (first_alike x width across u some wide) ∙ ap (λ w. slice_index rows (w * width + min (across * x + u) (width - 1))) (sym e))))

pub one_mean : (rows : List ℕ) (width across down x first sum r : ℕ) → 1 ≤ across → 1 ≤ width → first ≡ (if nat_lt x width then across * x else width)
    → sum ≡ block_part rows width across down first → r ≡ mean_of across down x sum → r ≡ downsampled across down (edge_repeated width down (in_rows width rows)) x 0
one_mean rows width across down x first sum r some wide ef es er =
    er ∙ ap (mean_of across down x) (es ∙ ap (block_part rows width across down) ef ∙ under_is rows width across down x some wide)

-- one more sample of the row
pub mean_more : (f : ℕ → ℕ) (out : List ℕ) (x r : ℕ) → x < length out → take x out ≡ map f (below x) → r ≡ f x → take (x + 1) (set out x r) ≡ map f (below (x + 1))
mean_more f out x r lt e is =
    take_more_set out x r lt ∙ ap (λ ys. ys ++ r ∷ []) e ∙ ap (λ y. map f (below x) ++ y ∷ []) is ∙ sym (map-append f (below x) (x ∷ [])) ∙ ap (λ m. map f (below m)) (sym (add-one x))

pub row_done : (across down width : ℕ) (rows out : List ℕ) (x n : ℕ) → length out ≡ n → x ≡ n
    → take x out ≡ map (λ k. downsampled across down (edge_repeated width down (in_rows width rows)) k 0) (below x) → out ≡ down_rows across down width rows n
unfolding down_rows
row_done across down width rows out x n long is e =
    sym (take_all x out (omega (arith, long, is))) ∙ e ∙ ap (λ m. map (λ k. downsampled across down (edge_repeated width down (in_rows width rows)) k 0) (below m)) is

-- what was made of them before
pub row_made : (across down width : ℕ) (rows out : List ℕ) (n : ℕ) → take n out ≡ down_rows across down width rows n
    → take n out ≡ map (λ k. downsampled across down (edge_repeated width down (in_rows width rows)) k 0) (below n)
unfolding down_rows
row_made across down width rows out n e = e

pub nothing_made : (across down width : ℕ) (rows : List ℕ) → [] ≡ down_rows across down width rows 0
unfolding down_rows
nothing_made across down width rows = refl

pub small_mean : (sum count : ℕ) → 1 ≤ count → sum ≤ 255 * count → (sum + count / 2) / count < 256
small_mean sum count some h = div_below (sum + count / 2) count 256 (omega (arith, some)) (omega (arith, h, some))

pub sum_added : (f : ℕ → ℕ) (n sum more : ℕ) → sum ≡ sum_by f (below n) → more ≡ f n → sum + more ≡ sum_by f (below (n + 1))
sum_added f n sum more e is = ap (λ s. s + more) e ∙ ap (λ m. sum_by f (below n) + m) is ∙ sym (sum_more f n)

pub sum_bound : (across v sum more : ℕ) → sum ≤ 255 * across * v → more ≤ 255 * across → sum + more ≤ 255 * across * (v + 1)
sum_bound across v sum more h m = (let e : 255 * across * (v + 1) ≡ 255 * across * v + 255 * across = grind arith in omega (arith, h, m, e))

-- the mean of four whose columns are there
pub quarter_is : (rows : List ℕ) (width x r : ℕ) → 2 * x + 1 < width
    → r ≡ (slice_index rows (2 * x) + slice_index rows (2 * x + 1) + (slice_index rows (width + 2 * x) + slice_index rows (width + 2 * x + 1)) + (1 + x % 2)) / 4
    → r ≡ downsampled 2 2 (edge_repeated width 2 (in_rows width rows)) x 0
quarter_is rows width x r there er =
    let plane : ℕ → ℕ → ℕ = edge_repeated width 2 (in_rows width rows) in
    let e00 : plane (2 * x + 0) 0 ≡ slice_index rows (2 * x) = ap (slice_index rows) (omega (arith, there)) in
    let e10 : plane (2 * x + 1) 0 ≡ slice_index rows (2 * x + 1) = ap (slice_index rows) (omega (arith, there)) in
    let e01 : plane (2 * x + 0) 1 ≡ slice_index rows (width + 2 * x) = ap (slice_index rows) (omega (arith, there)) in
    let e11 : plane (2 * x + 1) 1 ≡ slice_index rows (width + 2 * x + 1) = ap (slice_index rows) (omega (arith, there)) in
    let s : sum_under 2 2 plane x 0 ≡ slice_index rows (2 * x) + slice_index rows (2 * x + 1) + (slice_index rows (width + 2 * x) + slice_index rows (width + 2 * x + 1)) = omega (arith, e00, e10, e01, e11) in
    er ∙ sym (ap (λ n. (n + (1 + x % 2)) / 4) s)

pub quarter_as : (rows : List ℕ) (width x a b c d r : ℕ) → 2 * x + 1 < width → a ≡ slice_index rows (2 * x) → b ≡ slice_index rows (2 * x + 1) → c ≡ slice_index rows (width + 2 * x) → d ≡ slice_index rows (width + 2 * x + 1)
    → r ≡ (a + b + (c + d) + (1 + x % 2)) / 4 → r ≡ downsampled 2 2 (edge_repeated width 2 (in_rows width rows)) x 0
quarter_as rows width x a b c d r there ea eb ec ed er =
    quarter_is rows width x r there (er ∙ ap (λ n. (n + (1 + x % 2)) / 4) (omega (arith, ea, eb, ec, ed)))

-- only one sample
single_is : (rows : List ℕ) (width x : ℕ) → x < width → downsampled 1 1 (edge_repeated width 1 (in_rows width rows)) x 0 ≡ slice_index rows x
single_is rows width x there =
    let plane : ℕ → ℕ → ℕ = edge_repeated width 1 (in_rows width rows) in
    let e : plane (1 * x + 0) 0 ≡ slice_index rows x = ap (slice_index rows) (omega (arith, there)) in
    let s : sum_under 1 1 plane x 0 ≡ slice_index rows x = omega (arith, e) in
    let q : (n : ℕ) → (n + 0) / 1 ≡ n = λ n. omega arith in
    ap (λ n. (n + 0) / 1) s ∙ q (slice_index rows x)

pub copy_is : (rows : List ℕ) (width n : ℕ) → n ≤ width → length rows ≡ width → take n rows ≡ down_rows 1 1 width rows n
unfolding down_rows
copy_is rows width n few long =
    sym (by_items n (λ x. downsampled 1 1 (edge_repeated width 1 (in_rows width rows)) x 0) (take n rows) 0 (length-take-le n rows (omega (arith, few, long)))
    (λ i h. single_is rows width i (omega (arith, h, few)) ∙ sym (get_or-take n rows i 0 h)))

-- the mean of two whose columns are there
pub half_as : (rows : List ℕ) (width x a b r : ℕ) → 2 * x + 1 < width → a ≡ slice_index rows (2 * x) → b ≡ slice_index rows (2 * x + 1) → r ≡ (a + b + x % 2) / 2
    → r ≡ downsampled 2 1 (edge_repeated width 1 (in_rows width rows)) x 0
half_as rows width x a b r there ea eb er =
    let plane : ℕ → ℕ → ℕ = edge_repeated width 1 (in_rows width rows) in
    let e0 : plane (2 * x + 0) 0 ≡ slice_index rows (2 * x) = ap (slice_index rows) (omega (arith, there)) in
    let e1 : plane (2 * x + 1) 0 ≡ slice_index rows (2 * x + 1) = ap (slice_index rows) (omega (arith, there)) in
    let s : sum_under 2 1 plane x 0 ≡ a + b = omega (arith, e0, e1, ea, eb) in
    er ∙ sym (ap (λ n. (n + x % 2) / 2) s)

-- one of eight means
pub one_of_eight : (rows upper lower means : List ℕ) (width c k : ℕ) → k < 8 → 16 * c + 16 ≤ width
    → ((j : ℕ) → j < 16 → slice_index upper j ≡ slice_index rows (16 * c + j)) → ((j : ℕ) → j < 16 → slice_index lower j ≡ slice_index rows (width + 16 * c + j))
    → means ≡ map (quarter_at upper lower) (below 8) → slice_index means k ≡ quarter_of rows width (8 * c + k)
one_of_eight rows upper lower means width c k few there up low is =
    let x = 8 * c + k in
    let at : slice_index means k ≡ quarter_at upper lower k =
    ap (λ l. slice_index l k) is ∙ get_or-map (quarter_at upper lower) (below 8) k 0 0 (omega (arith, length_below 8, few)) ∙ ap (quarter_at upper lower) (at_below 8 k few) in
    let a : slice_index upper (2 * k) ≡ slice_index rows (2 * x) = up (2 * k) (omega (arith, few)) ∙ ap (slice_index rows) (omega arith) in
    let b : slice_index upper (2 * k + 1) ≡ slice_index rows (2 * x + 1) = up (2 * k + 1) (omega (arith, few)) ∙ ap (slice_index rows) (omega arith) in
    let d : slice_index lower (2 * k) ≡ slice_index rows (width + 2 * x) = low (2 * k) (omega (arith, few)) ∙ ap (slice_index rows) (omega arith) in
    let e : slice_index lower (2 * k + 1) ≡ slice_index rows (width + 2 * x + 1) = low (2 * k + 1) (omega (arith, few)) ∙ ap (slice_index rows) (omega arith) in
    let odd : k % 2 ≡ x % 2 = omega arith in
    quarter_as rows width x _ _ _ _ (slice_index means k) (omega (arith, few, there)) a b d e
    (at ∙ ap (λ n. (slice_index upper (2 * k) + slice_index upper (2 * k + 1) + (slice_index lower (2 * k) + slice_index lower (2 * k + 1)) + (1 + n)) / 4) odd)

pub quarters_done : (rows out : List ℕ) (width x n : ℕ) → length out ≡ n → x ≡ n → ((k : ℕ) → k < x → slice_index out k ≡ quarter_of rows width k) → out ≡ down_rows 2 2 width rows n
unfolding down_rows
quarters_done rows out width x n long is same =
    sym (by_items n (quarter_of rows width) out 0 long (λ i h. sym (same i (omega (arith, h, is)))))

-- values at places below n, and at m places more
pub made_more : (f : ℕ → ℕ) (old new : List ℕ) (n m : ℕ) → ((k : ℕ) → k < n → slice_index old k ≡ f k) → ((k : ℕ) → k < n → slice_index new k ≡ slice_index old k)
    → ((k : ℕ) → k < m → slice_index new (n + k) ≡ f (n + k)) → (k : ℕ) → k < n + m → slice_index new k ≡ f k
made_more f old new n m made before here k lt =
    ⊎_elim
    (λ (a : k < n). before k a ∙ made k a)
    (λ (b : n ≤ k). (let e : n + (k - n) ≡ k = omega (arith, b) in ap (slice_index new) (sym e) ∙ here (k - n) (omega (arith, b, lt)) ∙ ap f e))
    (cases_lt k n)
