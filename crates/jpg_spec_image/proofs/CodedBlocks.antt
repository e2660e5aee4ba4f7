-- The coefficients of a block of samples, quantised, are in the baseline range.
use Rattle.std.proofs.Common.{◌≡◌, ℕ, zero, suc, ◌+◌, ◌-◌, ◌*◌, ◌/◌, ◌%◌, ◌≤◌, ◌<◌, true, false, List, [], ◌∷◌, ◌++◌, length, map, get_or, slice_index, All, ℤ, pos, negsuc, ◌+ℤ◌, ◌*ℤ◌, ◌≤ℤ◌, neg_ℤ, nat_abs, refl, sym, ap, ◌∙◌, arith, subst, ⊎_elim}
use Rattle.std.specs.Prelude.{flat_map, zip, nat_lt, nat_le, ◌&&◌, drop, min}
use Rattle.std.specs.Int.{int_shr}
use Rattle.std.proofs.lemmas.Int.{ints}
use Rattle.std.proofs.lemmas.Nat.{div_below}
use Rattle.std.proofs.lemmas.Bool.{cases_lt}
use Rattle.std.proofs.lemmas.List.{length-append, length-map, get_or-map, get_or_append_left, get_or-append_right, append-nil}
use Rattle.std.proofs.lemmas.List.Elements.{All-head, All-tail, All-weaker}
use Rattle.std.proofs.lemmas.List.Sums.{AllPass-from_list_all}
use Rattle.std.proofs.lemmas.Grind.{flat_map-append}
use Rattle.std.proofs.lemmas.Slice.Zip.{length-zip}
use Rattle.jpg_spec.specs.Lists.{below}
use Rattle.jpg_spec.specs.Zigzag.{zigzag}
use Rattle.jpg_spec.specs.Elements.{are_in_bounds, IsBlockIn}
use Rattle.jpg_spec.specs.Geometry.{bounds_of}
use Rattle.jpg_spec.specs.Segments.{IsQuantiser}
use Rattle.jpg_spec_image.specs.Dct.{number_at, column_at}
use Rattle.jpg_spec_image.specs.ForwardDct.{level, woven, line_frequencies, frequency_row, frequency_rows, frequency_column, frequency_columns, across_columns, forward_dct, multiples, quantised, quantised_block}
use Rattle.jpg_spec.proofs.Basics.Common.{length_below, and_intro, both, in_order, le_of, lt_of, neg_abs}
use Rattle.jpg_spec.proofs.Basics.Rows.{at_below}
use Rattle.jpg_spec_image.proofs.Frequencies.{InWidth, LineIn, line_below, sum_of, first_is, sum_low, sum_high, rounded_row, rounded_low, rounded_high}

-- ROWS of samples

pub all_at : {X : Type 0} (P : X → Type 0) (xs : List X) (i : ℕ) (d : X) → All P xs → P d → P (get_or xs i d)
all_at P [] i d all p = p
all_at P (x ∷ xs) zero d all p = All-head P x xs all
all_at P (x ∷ xs) (suc i) d all p = all_at P xs i d (All-tail P x xs all) p

pub level_in : (samples : List ℕ) (k : ℕ) → All (λ s. s < 256) samples → InWidth (neg_ℤ (pos 128)) 255 (level samples k)
level_in samples k all =
    let h : slice_index samples k < 256 = all_at (λ s. s < 256) samples k 0 all (omega arith) in
    record { low = omega (arith, ints, h); high = omega (arith, ints, h) }

pub record RowIn (row : List ℤ) : Type 0 where
  pub at0 : InWidth (neg_ℤ (pos 4096)) 8160 (number_at row 0)
  pub at1 : InWidth (neg_ℤ (pos 4080)) 8160 (number_at row 1)
  pub at2 : InWidth (neg_ℤ (pos 4080)) 8160 (number_at row 2)
  pub at3 : InWidth (neg_ℤ (pos 4080)) 8160 (number_at row 3)
  pub at4 : InWidth (neg_ℤ (pos 4080)) 8160 (number_at row 4)
  pub at5 : InWidth (neg_ℤ (pos 4080)) 8160 (number_at row 5)
  pub at6 : InWidth (neg_ℤ (pos 4080)) 8160 (number_at row 6)
  pub at7 : InWidth (neg_ℤ (pos 4080)) 8160 (number_at row 7)

about_zero : (x : ℤ) → nat_abs x ≤ 4080 → InWidth (neg_ℤ (pos 4080)) 8160 x
about_zero x h = record { low = omega (arith, ints, h); high = omega (arith, ints, h) }

-- four times a sum, as it is rounded
pub four_times : (s : ℤ) → int_shr ((s *ℤ pos 8192) +ℤ pos 1024) 11 ≡ s *ℤ pos 4
four_times (pos n) = (let e : (n * 8192 + 1024) / 2048 ≡ n * 4 = omega arith in ap pos e)
four_times (negsuc n) =
    let z : (negsuc n *ℤ pos 8192) +ℤ pos 1024 ≡ negsuc (n * 8192 + 7167) = omega (arith, ints) in
    let e : (n * 8192 + 7167) / 2048 ≡ n * 4 + 3 = omega arith in
    let t : negsuc (n * 4 + 3) ≡ negsuc n *ℤ pos 4 = omega (arith, ints) in
    ap (λ x. int_shr x 11) z ∙ ap negsuc e ∙ t

pub line_in : (samples : List ℕ) (k : ℕ) → All (λ s. s < 256) samples
    → LineIn (neg_ℤ (pos 128)) 255 (level samples k) (level samples (k + 1)) (level samples (k + 2)) (level samples (k + 3)) (level samples (k + 4)) (level samples (k + 5)) (level samples (k + 6)) (level samples (k + 7))
line_in samples k all = record {
  at0 = level_in samples k all;
  at1 = level_in samples (k + 1) all;
  at2 = level_in samples (k + 2) all;
  at3 = level_in samples (k + 3) all;
  at4 = level_in samples (k + 4) all;
  at5 = level_in samples (k + 5) all;
  at6 = level_in samples (k + 6) all;
  at7 = level_in samples (k + 7) all;
}

first_in : (f s : ℤ) → f ≡ s *ℤ pos 8192 → neg_ℤ (pos 1024) ≤ℤ s → s ≤ℤ pos 1016 → InWidth (neg_ℤ (pos 4096)) 8160 (int_shr (f +ℤ pos 1024) 11)
first_in f s e l h =
    subst (λ x. InWidth (neg_ℤ (pos 4096)) 8160 x) (sym (ap (λ x. int_shr (x +ℤ pos 1024) 11) e ∙ four_times s))
    (record { low = omega (arith, ints, l, h); high = omega (arith, ints, l, h) })

row_of : (d0 d1 d2 d3 d4 d5 d6 d7 : ℤ) → LineIn (neg_ℤ (pos 128)) 255 d0 d1 d2 d3 d4 d5 d6 d7
    → RowIn (map (λ f. int_shr (f +ℤ pos 1024) 11) (line_frequencies d0 d1 d2 d3 d4 d5 d6 d7))
unfolding woven
row_of d0 d1 d2 d3 d4 d5 d6 d7 line =
    let b = line_below (neg_ℤ (pos 128)) 255 d0 d1 d2 d3 d4 d5 d6 d7 line in
    let s : ℤ = sum_of d0 d1 d2 d3 d4 d5 d6 d7 in
    let low : neg_ℤ (pos 1024) ≤ℤ s = omega (arith, ints, sum_low (neg_ℤ (pos 128)) 255 d0 d1 d2 d3 d4 d5 d6 d7 line) in
    let high : s ≤ℤ pos 1016 = omega (arith, ints, sum_high (neg_ℤ (pos 128)) 255 d0 d1 d2 d3 d4 d5 d6 d7 line) in
    let f : List ℤ = line_frequencies d0 d1 d2 d3 d4 d5 d6 d7 in
    record {
      at0 = first_in (number_at f 0) s (first_is d0 d1 d2 d3 d4 d5 d6 d7) low high;
      at1 = about_zero _ (rounded_row (number_at f 1) 4080 b.at1);
      at2 = about_zero _ (rounded_row (number_at f 2) 4080 b.at2);
      at3 = about_zero _ (rounded_row (number_at f 3) 4080 b.at3);
      at4 = about_zero _ (rounded_row (number_at f 4) 4080 b.at4);
      at5 = about_zero _ (rounded_row (number_at f 5) 4080 b.at5);
      at6 = about_zero _ (rounded_row (number_at f 6) 4080 b.at6);
      at7 = about_zero _ (rounded_row (number_at f 7) 4080 b.at7);
    }

pub row_in : (samples : List ℕ) (v : ℕ) → All (λ s. s < 256) samples → RowIn (frequency_row samples v)
unfolding frequency_row
row_in samples v all = row_of _ _ _ _ _ _ _ _ (line_in samples (8 * v) all)

-- COLUMNS of the rows

pub record ColumnIn (m n : ℕ) (column : List ℤ) : Type 0 where
  pub low : neg_ℤ (pos m) ≤ℤ number_at column 0
  pub high : number_at column 0 ≤ℤ pos n
  pub at1 : nat_abs (number_at column 1) ≤ 8160
  pub at2 : nat_abs (number_at column 2) ≤ 8160
  pub at3 : nat_abs (number_at column 3) ≤ 8160
  pub at4 : nat_abs (number_at column 4) ≤ 8160
  pub at5 : nat_abs (number_at column 5) ≤ 8160
  pub at6 : nat_abs (number_at column 6) ≤ 8160
  pub at7 : nat_abs (number_at column 7) ≤ 8160

rounded_column : (x : ℤ) → nat_abs x ≤ 32768 * 8160 → nat_abs (int_shr (x +ℤ pos 16384) 15) ≤ 8160
rounded_column x h =
    let l : neg_ℤ (pos 8160) ≤ℤ int_shr (x +ℤ pos 16384) 15 = rounded_low x 8160 (omega (arith, ints, h)) in
    let u : int_shr (x +ℤ pos 16384) 15 ≤ℤ pos 8160 = rounded_high x 8160 (omega (arith, ints, h)) in
    omega (arith, ints, l, u)

module _ (d0 d1 d2 d3 d4 d5 d6 d7 : ℤ) where
  column_of : (lo : ℤ) (m n : ℕ) → neg_ℤ (pos m) ≤ℤ (lo *ℤ pos 2) → ((lo +ℤ pos 8160) *ℤ pos 2) ≤ℤ pos n → LineIn lo 8160 d0 d1 d2 d3 d4 d5 d6 d7
      → ColumnIn m n (map (λ f. int_shr (f +ℤ pos 16384) 15) (line_frequencies d0 d1 d2 d3 d4 d5 d6 d7))
  unfolding woven
  column_of lo m n hm hn line =
      let b = line_below lo 8160 d0 d1 d2 d3 d4 d5 d6 d7 line in
      let s : ℤ = sum_of d0 d1 d2 d3 d4 d5 d6 d7 in
      let f : List ℤ = line_frequencies d0 d1 d2 d3 d4 d5 d6 d7 in
      let e : number_at f 0 ≡ s *ℤ pos 8192 = first_is d0 d1 d2 d3 d4 d5 d6 d7 in
      let l : (lo *ℤ pos 8) ≤ℤ s = sum_low lo 8160 d0 d1 d2 d3 d4 d5 d6 d7 line in
      let h : s ≤ℤ ((lo +ℤ pos 8160) *ℤ pos 8) = sum_high lo 8160 d0 d1 d2 d3 d4 d5 d6 d7 line in
      let low : neg_ℤ (pos (32768 * m)) ≤ℤ (s *ℤ pos 8192) = omega (arith, ints, l, hm) in
      let high : (s *ℤ pos 8192) ≤ℤ pos (32768 * n) = omega (arith, ints, h, hn) in
      record {
        low = rounded_low (number_at f 0) m (subst (λ x. neg_ℤ (pos (32768 * m)) ≤ℤ x) (sym e) low);
        high = rounded_high (number_at f 0) n (subst (λ x. x ≤ℤ pos (32768 * n)) (sym e) high);
        at1 = rounded_column (number_at f 1) b.at1;
        at2 = rounded_column (number_at f 2) b.at2;
        at3 = rounded_column (number_at f 3) b.at3;
        at4 = rounded_column (number_at f 4) b.at4;
        at5 = rounded_column (number_at f 5) b.at5;
        at6 = rounded_column (number_at f 6) b.at6;
        at7 = rounded_column (number_at f 7) b.at7;
      }

-- number u of a row, except the first
pub behind_first : (row : List ℤ) (u : ℕ) → RowIn row → 1 ≤ u → u < 8 → InWidth (neg_ℤ (pos 4080)) 8160 (number_at row u)
behind_first row zero h some few = absurd (omega (arith, some))
behind_first row (suc zero) h some few = h.at1
behind_first row (suc (suc zero)) h some few = h.at2
behind_first row (suc (suc (suc zero))) h some few = h.at3
behind_first row (suc (suc (suc (suc zero)))) h some few = h.at4
behind_first row (suc (suc (suc (suc (suc zero))))) h some few = h.at5
behind_first row (suc (suc (suc (suc (suc (suc zero)))))) h some few = h.at6
behind_first row (suc (suc (suc (suc (suc (suc (suc zero))))))) h some few = h.at7
behind_first row (suc (suc (suc (suc (suc (suc (suc (suc u)))))))) h some few = absurd (omega (arith, few))

pub first_column : (samples : List ℕ) → All (λ s. s < 256) samples → ColumnIn 8192 8128 (frequency_column (frequency_rows samples) 0)
unfolding frequency_column
first_column samples all =
    column_of _ _ _ _ _ _ _ _ (neg_ℤ (pos 4096)) 8192 8128 (omega (arith, ints)) (omega (arith, ints))
    (record {
      at0 = (row_in samples 0 all).at0;
      at1 = (row_in samples 1 all).at0;
      at2 = (row_in samples 2 all).at0;
      at3 = (row_in samples 3 all).at0;
      at4 = (row_in samples 4 all).at0;
      at5 = (row_in samples 5 all).at0;
      at6 = (row_in samples 6 all).at0;
      at7 = (row_in samples 7 all).at0;
    })

pub other_column : (samples : List ℕ) (u : ℕ) → All (λ s. s < 256) samples → 1 ≤ u → u < 8 → ColumnIn 8160 8160 (frequency_column (frequency_rows samples) u)
unfolding frequency_column
other_column samples u all some few =
    column_of _ _ _ _ _ _ _ _ (neg_ℤ (pos 4080)) 8160 8160 (omega (arith, ints)) (omega (arith, ints))
    (record {
      at0 = behind_first _ u (row_in samples 0 all) some few;
      at1 = behind_first _ u (row_in samples 1 all) some few;
      at2 = behind_first _ u (row_in samples 2 all) some few;
      at3 = behind_first _ u (row_in samples 3 all) some few;
      at4 = behind_first _ u (row_in samples 4 all) some few;
      at5 = behind_first _ u (row_in samples 5 all) some few;
      at6 = behind_first _ u (row_in samples 6 all) some few;
      at7 = behind_first _ u (row_in samples 7 all) some few;
    })

-- number v of a column, except the first of the first
pub in_column : (m n v : ℕ) (column : List ℤ) → ColumnIn m n column → 1 ≤ v → v < 8 → nat_abs (number_at column v) ≤ 8160
in_column m n zero column h some few = absurd (omega (arith, some))
in_column m n (suc zero) column h some few = h.at1
in_column m n (suc (suc zero)) column h some few = h.at2
in_column m n (suc (suc (suc zero))) column h some few = h.at3
in_column m n (suc (suc (suc (suc zero)))) column h some few = h.at4
in_column m n (suc (suc (suc (suc (suc zero))))) column h some few = h.at5
in_column m n (suc (suc (suc (suc (suc (suc zero)))))) column h some few = h.at6
in_column m n (suc (suc (suc (suc (suc (suc (suc zero))))))) column h some few = h.at7
in_column m n (suc (suc (suc (suc (suc (suc (suc (suc v)))))))) column h some few = absurd (omega (arith, few))

-- THE 64 NUMBERS

-- rows of eight, one after another
rows_long : (f : ℕ → List ℤ) (n : ℕ) → ((v : ℕ) → length (f v) ≡ 8) → length (flat_map f (below n)) ≡ 8 * n
rows_long f zero long = refl
rows_long f (suc n) long =
    ap length (flat_map-append f (below n) (n ∷ []) ∙ ap (λ t. flat_map f (below n) ++ t) (append-nil (f n)))
    ∙ length-append (flat_map f (below n)) (f n)
    ∙ omega (arith, rows_long f n long, long n)

pub in_rows : (f : ℕ → List ℤ) (n v u : ℕ) → ((v : ℕ) → length (f v) ≡ 8) → v < n → u < 8 → number_at (flat_map f (below n)) (8 * v + u) ≡ number_at (f v) u
in_rows f zero v u long lv lu = absurd (omega (arith, lv))
in_rows f (suc n) v u long lv lu =
    let l : length (flat_map f (below n)) ≡ 8 * n = rows_long f n long in
    let split : flat_map f (below n ++ n ∷ []) ≡ flat_map f (below n) ++ f n = flat_map-append f (below n) (n ∷ []) ∙ ap (λ t. flat_map f (below n) ++ t) (append-nil (f n)) in
    ap (λ xs. number_at xs (8 * v + u)) split
    ∙ ⊎_elim
    (λ (a : v < n). get_or_append_left (flat_map f (below n)) (f n) (pos 0) (8 * v + u) (omega (arith, l, a, lu)) ∙ in_rows f n v u long a lu)
    (λ (b : n ≤ v). (let e : v ≡ n = omega (arith, b, lv) in
    let z : 8 * v + u - 8 * n ≡ u = omega (arith, e) in
    get_or-append_right (flat_map f (below n)) (f n) (8 * n) (8 * v + u) (pos 0) l (omega (arith, b))
    ∙ ap (λ k. number_at (f n) k) z ∙ ap (λ k. number_at (f k) u) (sym e)))
    (cases_lt v n)

across_long : (columns : List (List ℤ)) (v : ℕ) → length (across_columns columns v) ≡ 8
across_long columns v = length-map (below 8) (column_at columns v) ∙ length_below 8

pub across_at : (columns : List (List ℤ)) (v u : ℕ) → u < 8 → number_at (across_columns columns v) u ≡ number_at (get_or columns u []) v
across_at columns v u lu =
    get_or-map (column_at columns v) (below 8) u 0 (pos 0) (omega (arith, length_below 8, lu)) ∙ ap (column_at columns v) (at_below 8 u lu)

pub columns_at : (rows : List (List ℤ)) (u : ℕ) → u < 8 → get_or (frequency_columns rows) u [] ≡ frequency_column rows u
columns_at rows u lu = get_or-map (frequency_column rows) (below 8) u 0 [] (omega (arith, length_below 8, lu)) ∙ ap (frequency_column rows) (at_below 8 u lu)

pub number_is : (samples : List ℕ) (v u : ℕ) → v < 8 → u < 8 → number_at (forward_dct samples) (8 * v + u) ≡ number_at (frequency_column (frequency_rows samples) u) v
unfolding forward_dct
number_is samples v u lv lu =
    let columns : List (List ℤ) = frequency_columns (frequency_rows samples) in
    in_rows (across_columns columns) 8 v u (across_long columns) lv lu
    ∙ across_at columns v u lu ∙ ap (λ c. number_at c v) (columns_at (frequency_rows samples) u lu)

pub forward_long : (samples : List ℕ) → length (forward_dct samples) ≡ 64
unfolding forward_dct
forward_long samples = (let columns : List (List ℤ) = frequency_columns (frequency_rows samples) in rows_long (across_columns columns) 8 (across_long columns))

pub ac_small : (samples : List ℕ) (n : ℕ) → All (λ s. s < 256) samples → 1 ≤ n → n < 64 → nat_abs (number_at (forward_dct samples) n) ≤ 8160
ac_small samples n all some few =
    let v : ℕ = n / 8 in
    let u : ℕ = n % 8 in
    let e : n ≡ 8 * (n / 8) + n % 8 = omega arith in
    let lv : n / 8 < 8 = omega (arith, few) in
    let lu : n % 8 < 8 = omega arith in
    let is : number_at (forward_dct samples) n ≡ number_at (frequency_column (frequency_rows samples) u) v = ap (number_at (forward_dct samples)) e ∙ number_is samples v u lv lu in
    subst (λ x. nat_abs x ≤ 8160) (sym is)
    (⊎_elim
    (λ (a : n % 8 < 1). (let z : n % 8 ≡ 0 = omega (arith, a) in
    subst (λ w. nat_abs (number_at (frequency_column (frequency_rows samples) w) v) ≤ 8160) (sym z)
    (in_column 8192 8128 v (frequency_column (frequency_rows samples) 0) (first_column samples all) (omega (arith, e, z, some)) lv)))
    (λ (b : 1 ≤ n % 8). (let c = other_column samples u all b lu in
    ⊎_elim
    (λ (a : n / 8 < 1). (let z : n / 8 ≡ 0 = omega (arith, a) in
    let s : nat_abs (number_at (frequency_column (frequency_rows samples) u) 0) ≤ 8160 = omega (arith, ints, c.low, c.high) in
    subst (λ w. nat_abs (number_at (frequency_column (frequency_rows samples) u) w) ≤ 8160) (sym z) s))
    (λ (d : 1 ≤ n / 8). in_column 8160 8160 v (frequency_column (frequency_rows samples) u) c d lv)
    (cases_lt (n / 8) 1)))
    (cases_lt (n % 8) 1))

pub record DcIn (x : ℤ) : Type 0 where
  pub low : neg_ℤ (pos 8192) ≤ℤ x
  pub high : x ≤ℤ pos 8128

pub dc_in : (samples : List ℕ) → All (λ s. s < 256) samples → DcIn (number_at (forward_dct samples) 0)
dc_in samples all =
    let c = first_column samples all in
    subst DcIn (sym (number_is samples 0 0 (omega arith) (omega arith))) (record { low = c.low; high = c.high })

-- QUANTISED

most_multiples : (n q k : ℕ) → 1 ≤ q → n + 4 * q < (k + 1) * (8 * q) → multiples n q ≤ k
most_multiples n q k some h = (let l : multiples n q < k + 1 = div_below (n + 4 * q) (8 * q) (k + 1) (omega (arith, some)) h in omega (arith, l))

pub ac_quantised : (t : ℤ) (q : ℕ) → nat_abs t ≤ 8160 → 1 ≤ q → nat_abs (quantised t q) ≤ 1023
ac_quantised (pos n) q h some =
    let few : n ≤ 8160 = h in
    let m : multiples n q ≤ 1020 = most_multiples n q 1020 some (omega (arith, few, some)) in
    omega (arith, m)
ac_quantised (negsuc n) q h some =
    let few : n + 1 ≤ 8160 = omega (arith, ints, h) in
    let m : multiples (n + 1) q ≤ 1020 = most_multiples (n + 1) q 1020 some (omega (arith, few, some)) in
    omega (arith, m, neg_abs (multiples (n + 1) q))

pub dc_low : (t : ℤ) (q : ℕ) → DcIn t → 1 ≤ q → neg_ℤ (pos 1024) ≤ℤ quantised t q
dc_low (pos n) q h some = omega (arith, ints)
dc_low (negsuc n) q h some =
    let few : n + 1 ≤ 8192 = omega (arith, ints, h.low) in
    let m : multiples (n + 1) q ≤ 1024 = most_multiples (n + 1) q 1024 some (omega (arith, few, some)) in
    omega (arith, ints, m)

pub dc_high : (t : ℤ) (q : ℕ) → DcIn t → 1 ≤ q → quantised t q ≤ℤ pos 1023
dc_high (pos n) q h some =
    let few : n ≤ 8128 = omega (arith, ints, h.high) in
    let m : multiples n q ≤ 1016 = most_multiples n q 1016 some (omega (arith, few, some)) in
    omega (arith, ints, m)
dc_high (negsuc n) q h some = omega (arith, ints)

-- THE BLOCK

abbrev coded_at : List ℤ → (ℕ × ℕ) → ℤ
coded_at numbers p = quantised (number_at numbers p.0) p.1

after_dc : (samples : List ℕ) (places quants : List ℕ) → All (λ s. s < 256) samples → All (λ n. (1 ≤ n) × (n < 64)) places → All IsQuantiser quants
    → are_in_bounds (bounds_of 8) false (map (coded_at (forward_dct samples)) (zip places quants)) ≡ true
after_dc samples [] quants bytes places some = refl
after_dc samples (n ∷ ns) [] bytes places some = refl
after_dc samples (n ∷ ns) (q ∷ qs) bytes places some =
    let at = All-head (λ n. (1 ≤ n) × (n < 64)) n ns places in
    let q1 = All-head IsQuantiser q qs some in
    let small : nat_abs (quantised (number_at (forward_dct samples) n) q) ≤ 1023 = ac_quantised (number_at (forward_dct samples) n) q (ac_small samples n bytes at.0 at.1) q1.0 in
    and_intro _ _ (in_order (pos (nat_abs (quantised (number_at (forward_dct samples) n) q))) (pos 1023) (omega (arith, ints, small)))
    (after_dc samples ns qs bytes (All-tail (λ n. (1 ≤ n) × (n < 64)) n ns places) (All-tail IsQuantiser q qs some))

ac_place : (n : ℕ) → (nat_le 1 n && nat_lt n 64) ≡ true → (1 ≤ n) × (n < 64)
ac_place n h = (let s = both (nat_le 1 n) (nat_lt n 64) h in (le_of 1 n s.0, lt_of n 64 s.1))

all_ac : All (λ n. (1 ≤ n) × (n < 64)) (drop 1 zigzag)
all_ac = All-weaker (λ n. (nat_le 1 n && nat_lt n 64) ≡ true) (λ n. (1 ≤ n) × (n < 64)) ac_place (drop 1 zigzag) (AllPass-from_list_all (λ n. nat_le 1 n && nat_lt n 64) (drop 1 zigzag) refl)

pub block_in_bounds : (samples quants : List ℕ) → All (λ s. s < 256) samples → All IsQuantiser quants
    → are_in_bounds (bounds_of 8) true (quantised_block quants (forward_dct samples)) ≡ true
block_in_bounds samples [] bytes some = refl
block_in_bounds samples (q ∷ qs) bytes some =
    let q1 = All-head IsQuantiser q qs some in
    let dc = dc_in samples bytes in
    let t : ℤ = number_at (forward_dct samples) 0 in
    let low = in_order (neg_ℤ (pos 1024)) (quantised t q) (dc_low t q dc q1.0) in
    let high = in_order (quantised t q) (pos 1023) (dc_high t q dc q1.0) in
    and_intro _ _ (and_intro _ _ low high) (after_dc samples (drop 1 zigzag) qs bytes all_ac (All-tail IsQuantiser q qs some))

pub block_long : (quants : List ℕ) (numbers : List ℤ) → length quants ≡ 64 → length (quantised_block quants numbers) ≡ 64
block_long quants numbers long =
    length-map (zip zigzag quants) (coded_at numbers) ∙ length-zip zigzag quants ∙ ap (λ n. min 64 n) long

pub coded_block_in : (quants samples : List ℕ) → length quants ≡ 64 → All IsQuantiser quants → All (λ s. s < 256) samples
    → IsBlockIn (bounds_of 8) (quantised_block quants (forward_dct samples))
coded_block_in quants samples long some bytes = (block_long quants (forward_dct samples) long, block_in_bounds samples quants bytes some)
