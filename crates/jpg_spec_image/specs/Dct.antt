-- The inverse transform of a block (T.81, A.3.3, F.2.1.5), by the accurate integer method of release 6b: columns, then
-- rows.
use Rattle.std.specs.Prelude.{ℕ, ◌+◌, ◌-◌, nat_lt, if◌then◌else◌, List, [], ◌∷◌, map, flat_map, slice_index, slice_index_or, ℤ, pos, ◌+ℤ◌, ◌-ℤ◌, ◌*ℤ◌, nat_abs}
use Rattle.std.specs.Int.{int_shr, int_rem_euclid}
use Rattle.jpg_spec.specs.Lists.{below, index_of}
use Rattle.jpg_spec.specs.Zigzag.{zigzag}

abbrev pub number_at : List ℤ → ℕ → ℤ
number_at numbers k = slice_index_or numbers k (pos 0)

-- a block in natural order (A.3.6): each coefficient times its quantiser (A.3.4, F.2.1.4)
unfoldable pub dequantised : List ℕ → List ℤ → List ℤ
dequantised quants block = map (λ n. number_at block (index_of n zigzag) *ℤ pos (slice_index quants (index_of n zigzag))) (below 64)

-- A LINE of eight frequencies, to eight sums (8192 times too large)

-- the part of the even frequencies, b0 to b3
unfoldable pub even_sums : ℤ → ℤ → ℤ → ℤ → List ℤ
even_sums i0 i2 i4 i6 =
    let a = (i2 +ℤ i6) *ℤ pos 4433 in
    let t2 = a -ℤ (i6 *ℤ pos 15137) in
    let t3 = a +ℤ (i2 *ℤ pos 6270) in
    let t0 = (i0 +ℤ i4) *ℤ pos 8192 in
    let t1 = (i0 -ℤ i4) *ℤ pos 8192 in
    (t0 +ℤ t3) ∷ (t1 +ℤ t2) ∷ (t1 -ℤ t2) ∷ (t0 -ℤ t3) ∷ []

-- the part of the odd ones, o0 to o3
unfoldable pub odd_sums : ℤ → ℤ → ℤ → ℤ → List ℤ
odd_sums i1 i3 i5 i7 =
    let z5 = ((i1 +ℤ i3) +ℤ (i5 +ℤ i7)) *ℤ pos 9633 in
    let z1 = (i7 +ℤ i1) *ℤ pos 7373 in
    let z2 = (i5 +ℤ i3) *ℤ pos 20995 in
    let z3 = z5 -ℤ ((i7 +ℤ i3) *ℤ pos 16069) in
    let z4 = z5 -ℤ ((i5 +ℤ i1) *ℤ pos 3196) in
    (((i7 *ℤ pos 2446) -ℤ z1) +ℤ z3) ∷ (((i5 *ℤ pos 16819) -ℤ z2) +ℤ z4) ∷ (((i3 *ℤ pos 25172) -ℤ z2) +ℤ z3) ∷ (((i1 *ℤ pos 12299) -ℤ z1) +ℤ z4) ∷ []

-- the two together: the first four sums are mirrored in the last four
unfoldable pub joined_sums : List ℤ → List ℤ → List ℤ
joined_sums b o =
    (number_at b 0 +ℤ number_at o 3) ∷ (number_at b 1 +ℤ number_at o 2) ∷ (number_at b 2 +ℤ number_at o 1) ∷ (number_at b 3 +ℤ number_at o 0) ∷
    (number_at b 3 -ℤ number_at o 0) ∷ (number_at b 2 -ℤ number_at o 1) ∷ (number_at b 1 -ℤ number_at o 2) ∷ (number_at b 0 -ℤ number_at o 3) ∷ []

abbrev pub line_sums : ℤ → ℤ → ℤ → ℤ → ℤ → ℤ → ℤ → ℤ → List ℤ
line_sums i0 i1 i2 i3 i4 i5 i6 i7 = joined_sums (even_sums i0 i2 i4 i6) (odd_sums i1 i3 i5 i7)

-- A BLOCK

-- column u of the block: its sums, rounded to four times a sample
unfoldable pub column : List ℤ → ℕ → List ℤ
column block u =
    map (λ e. int_shr (e +ℤ pos 1024) 11)
    (line_sums (number_at block u) (number_at block (8 + u)) (number_at block (16 + u)) (number_at block (24 + u))
    (number_at block (32 + u)) (number_at block (40 + u)) (number_at block (48 + u)) (number_at block (56 + u)))

-- the columns one after another
abbrev pub columns : List ℤ → List (List ℤ)
columns block = map (column block) (below 8)

-- A number, modulo 1024, as a sample: 128 is added (A.3.1), and the result is limited to 0 to 255
abbrev pub ranged : ℕ → ℕ
ranged m = if nat_lt m 128 then m + 128 else if nat_lt m 512 then 255 else if nat_lt m 896 then 0 else m - 896

abbrev pub sample_of : ℤ → ℕ
sample_of x = ranged (nat_abs (int_rem_euclid x (pos 1024)))

-- number v of column u
abbrev pub column_at : List (List ℤ) → ℕ → ℕ → ℤ
column_at done v u = number_at (slice_index_or done u []) v

-- row v of the samples
unfoldable pub sample_row : List (List ℤ) → ℕ → List ℕ
sample_row done v =
    map (λ e. sample_of (int_shr (e +ℤ pos 131072) 18))
    (line_sums (column_at done v 0) (column_at done v 1) (column_at done v 2) (column_at done v 3)
    (column_at done v 4) (column_at done v 5) (column_at done v 6) (column_at done v 7))

-- the 64 samples, row by row
unfoldable pub inverse_dct : List ℤ → List ℕ
inverse_dct block = let done = columns block in flat_map (sample_row done) (below 8)
