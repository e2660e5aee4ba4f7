-- How a row of samples is upsampled, and which rows a row of the image is made from (release 6b's upsampling).
use Rattle.std.specs.Prelude.{ℕ, ◌+◌, ◌-◌, ◌*◌, ◌/◌, ◌%◌, min, Bool, nat_lt, ◌&&◌, ◌==◌, if◌then◌else◌, List, [], ◌∷◌, length, flat_map, replicate, slice_index}
use Rattle.jpg_spec.specs.Lists.{below}

-- 2 BY 1: each sample gives two, weighted towards the neighbour on their side. The first and the last are unweighted.
abbrev pub left_of : List ℕ → ℕ → ℕ
left_of row i = if i == 0 then slice_index row i else (3 * slice_index row i + slice_index row (i - 1) + 1) / 4

abbrev pub right_of : List ℕ → ℕ → ℕ
right_of row i = if i + 1 == length row then slice_index row i else (3 * slice_index row i + slice_index row (i + 1) + 2) / 4

abbrev pub pair_of : List ℕ → ℕ → List ℕ
pair_of row i = left_of row i ∷ right_of row i ∷ []

unfoldable pub up_row : List ℕ → List ℕ
up_row row = flat_map (pair_of row) (below (length row))

-- 2 BY 2: the same of column sums, in which the near row counts three times
abbrev pub column_sum : List ℕ → List ℕ → ℕ → ℕ
column_sum near far i = 3 * slice_index near i + slice_index far i

abbrev pub left_of2 : List ℕ → List ℕ → ℕ → ℕ
left_of2 near far i = if i == 0 then (4 * column_sum near far i + 8) / 16 else (3 * column_sum near far i + column_sum near far (i - 1) + 8) / 16

abbrev pub right_of2 : List ℕ → List ℕ → ℕ → ℕ
right_of2 near far i = if i + 1 == length near then (4 * column_sum near far i + 7) / 16 else (3 * column_sum near far i + column_sum near far (i + 1) + 7) / 16

abbrev pub pair_of2 : List ℕ → List ℕ → ℕ → List ℕ
pair_of2 near far i = left_of2 near far i ∷ right_of2 near far i ∷ []

unfoldable pub up_rows2 : List ℕ → List ℕ → List ℕ
up_rows2 near far = flat_map (pair_of2 near far) (below (length near))

-- ANY OTHER RATIO: samples are repeated
unfoldable pub repeat_row : ℕ → List ℕ → List ℕ
repeat_row times row = flat_map (λ s. replicate times s) row

-- A PLANE of `high` rows of `wide` samples, by a ratio `across` and `down`

pub record Stretch : Type 0 where
  pub wide : ℕ
  pub high : ℕ
  pub across : ℕ
  pub down : ℕ
  pub smooth : Bool

abbrev pub is_smoothed : Stretch → Bool
is_smoothed s = s.smooth && (nat_lt 2 s.wide && s.across == 2)

-- rows are made from two rows of samples
abbrev pub has_far_rows : Stretch → Bool
has_far_rows s = is_smoothed s && s.down == 2

-- the row above for an upper row, the row below for a lower one, and at the plane's edge the row itself
abbrev pub near_row : Stretch → ℕ → ℕ
near_row s y = y / s.down

abbrev pub far_row : Stretch → ℕ → ℕ
far_row s y = if y % 2 == 0 then y / 2 - 1 else min (y / 2 + 1) (s.high - 1)

-- row y, not yet cut to the image's width
abbrev pub upsampled_row : Stretch → (ℕ → List ℕ) → ℕ → List ℕ
upsampled_row s rows y =
    if has_far_rows s then up_rows2 (rows (near_row s y)) (rows (far_row s y))
    else if is_smoothed s && s.down == 1 then up_row (rows (near_row s y))
    else repeat_row s.across (rows (near_row s y))
