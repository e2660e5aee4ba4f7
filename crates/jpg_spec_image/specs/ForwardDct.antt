-- The forward transform of a block (T.81, A.3.3), by the accurate integer method of release 6b: rows, then columns. Its
-- coefficients quantised (A.3.4) and in zigzag order (A.3.6).
use Rattle.std.specs.Prelude.{ℕ, ◌+◌, ◌*◌, ◌/◌, List, [], ◌∷◌, map, flat_map, zip, slice_index, ℤ, pos, negsuc, neg_ℤ, ◌+ℤ◌, ◌-ℤ◌, ◌*ℤ◌}
use Rattle.std.specs.Int.{int_shr}
use Rattle.jpg_spec.specs.Lists.{below}
use Rattle.jpg_spec.specs.Zigzag.{zigzag}
use Rattle.jpg_spec_image.specs.Dct.{number_at, odd_sums, column_at}

-- A LINE of eight numbers, to eight frequencies (8192 times too large)

-- the even frequencies, from the sums of pairs at the same distance from the ends
unfoldable pub even_frequencies : ℤ → ℤ → ℤ → ℤ → List ℤ
even_frequencies p0 p1 p2 p3 =
    let q0 = p0 +ℤ p3 in
    let q1 = p1 +ℤ p2 in
    let q2 = p1 -ℤ p2 in
    let q3 = p0 -ℤ p3 in
    let a = (q2 +ℤ q3) *ℤ pos 4433 in
    ((q0 +ℤ q1) *ℤ pos 8192) ∷ (a +ℤ (q3 *ℤ pos 6270)) ∷ ((q0 -ℤ q1) *ℤ pos 8192) ∷ (a -ℤ (q2 *ℤ pos 15137)) ∷ []

-- the even and the odd ones in their order
unfoldable pub woven : List ℤ → List ℤ → List ℤ
woven e o =
    number_at e 0 ∷ number_at o 3 ∷ number_at e 1 ∷ number_at o 2 ∷ number_at e 2 ∷ number_at o 1 ∷ number_at e 3 ∷ number_at o 0 ∷ []

-- the odd ones, from the differences, by the inverse's odd sums: the calculation is the same in both directions
abbrev pub line_frequencies : ℤ → ℤ → ℤ → ℤ → ℤ → ℤ → ℤ → ℤ → List ℤ
line_frequencies d0 d1 d2 d3 d4 d5 d6 d7 =
    woven (even_frequencies (d0 +ℤ d7) (d1 +ℤ d6) (d2 +ℤ d5) (d3 +ℤ d4)) (odd_sums (d0 -ℤ d7) (d1 -ℤ d6) (d2 -ℤ d5) (d3 -ℤ d4))

-- A BLOCK of 64 samples

-- a sample minus 128 (A.3.1)
abbrev pub level : List ℕ → ℕ → ℤ
level samples k = pos (slice_index samples k) -ℤ pos 128

-- row v: its frequencies, rounded to four times too large
unfoldable pub frequency_row : List ℕ → ℕ → List ℤ
frequency_row samples v =
    map (λ f. int_shr (f +ℤ pos 1024) 11)
    (line_frequencies (level samples (8 * v)) (level samples (8 * v + 1)) (level samples (8 * v + 2)) (level samples (8 * v + 3))
    (level samples (8 * v + 4)) (level samples (8 * v + 5)) (level samples (8 * v + 6)) (level samples (8 * v + 7)))

-- the rows one after another
abbrev pub frequency_rows : List ℕ → List (List ℤ)
frequency_rows samples = map (frequency_row samples) (below 8)

-- column u of the rows: its frequencies, rounded to eight times the coefficients
unfoldable pub frequency_column : List (List ℤ) → ℕ → List ℤ
frequency_column rows u =
    map (λ f. int_shr (f +ℤ pos 16384) 15)
    (line_frequencies (column_at rows u 0) (column_at rows u 1) (column_at rows u 2) (column_at rows u 3)
    (column_at rows u 4) (column_at rows u 5) (column_at rows u 6) (column_at rows u 7))

abbrev pub frequency_columns : List (List ℤ) → List (List ℤ)
frequency_columns rows = map (frequency_column rows) (below 8)

-- number v of each column
abbrev pub across_columns : List (List ℤ) → ℕ → List ℤ
across_columns columns v = map (column_at columns v) (below 8)

-- eight times the 64 coefficients, in natural order
unfoldable pub forward_dct : List ℕ → List ℤ
forward_dct samples = let columns = frequency_columns (frequency_rows samples) in flat_map (across_columns columns) (below 8)

-- QUANTISING

-- eight times a coefficient, as a multiple of a quantiser: the nearest one, or of two equally near ones the one farther
-- from 0 (A.3.4)
abbrev pub multiples : ℕ → ℕ → ℕ
multiples size q = (size + 4 * q) / (8 * q)

abbrev pub quantised : ℤ → ℕ → ℤ
quantised (pos n) q = pos (multiples n q)
quantised (negsuc n) q = neg_ℤ (pos (multiples (n + 1) q))

-- the block of 64 such numbers in natural order, quantised and in zigzag order, the order of its quantisers (A.3.4,
-- A.3.6)
abbrev pub quantised_block : List ℕ → List ℤ → List ℤ
quantised_block quants numbers = map (λ p. quantised (number_at numbers p.0) p.1) (zip zigzag quants)
