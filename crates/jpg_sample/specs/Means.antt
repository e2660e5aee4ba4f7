-- The samples that are averaged to one, by their first column.
use Rattle.std.specs.Prelude.{ℕ, ◌+◌, ◌-◌, ◌*◌, ◌/◌, ◌%◌, min, List, sum_by, slice_index}
use Rattle.jpg_spec.specs.Lists.{below}
use Rattle.jpg_spec_image.specs.Downsampling.{edge_repeated, in_rows, downsampled}

-- of row v, the last column repeated
abbrev pub row_part : List ℕ → ℕ → ℕ → ℕ → ℕ → ℕ
row_part rows width across first v = sum_by (λ u. slice_index rows (v * width + min (first + u) (width - 1))) (below across)

-- of all rows
abbrev pub block_part : List ℕ → ℕ → ℕ → ℕ → ℕ → ℕ
block_part rows width across down first = sum_by (row_part rows width across first) (below down)

-- the quarter of 2 by 2 samples, for column k of a pair of rows
abbrev pub quarter_at : List ℕ → List ℕ → ℕ → ℕ
quarter_at upper lower k =
    (slice_index upper (2 * k) + slice_index upper (2 * k + 1) + (slice_index lower (2 * k) + slice_index lower (2 * k + 1)) + (1 + k % 2)) / 4

-- that of column x of two rows
abbrev pub quarter_of : List ℕ → ℕ → ℕ → ℕ
quarter_of rows width x = downsampled 2 2 (edge_repeated width 2 (in_rows width rows)) x 0
