-- How a plane is downsampled (as by release 6b): each sample is the mean of those in its place.
use Rattle.std.specs.Prelude.{ℕ, ◌+◌, ◌-◌, ◌*◌, ◌/◌, ◌%◌, min, ◌&&◌, ◌==◌, if◌then◌else◌, List, map, sum_by, slice_index}
use Rattle.jpg_spec.specs.Lists.{below}

-- A plane goes on after its last column and row: they are repeated.
abbrev pub edge_repeated : ℕ → ℕ → (ℕ → ℕ → ℕ) → ℕ → ℕ → ℕ
edge_repeated wide high plane x y = plane (min x (wide - 1)) (min y (high - 1))

-- the sum of the samples that are averaged to sample x, y, `across` by `down` of them
abbrev pub sum_under : ℕ → ℕ → (ℕ → ℕ → ℕ) → ℕ → ℕ → ℕ
sum_under across down plane x y = sum_by (λ v. sum_by (λ u. plane (across * x + u) (down * y + v)) (below across)) (below down)

-- Their mean, for column x. For 2 by 1 and 2 by 2 (across by down) halves and quarters are rounded down and up
-- alternately, otherwise to the nearest number.
abbrev pub mean_of : ℕ → ℕ → ℕ → ℕ → ℕ
mean_of across down x sum =
    if across == 2 && down == 1 then (sum + x % 2) / 2
    else if across == 2 && down == 2 then (sum + (1 + x % 2)) / 4
    else (sum + across * down / 2) / (across * down)

abbrev pub downsampled : ℕ → ℕ → (ℕ → ℕ → ℕ) → ℕ → ℕ → ℕ
downsampled across down plane x y = mean_of across down x (sum_under across down plane x y)

-- ROWS: `down` rows of `wide` samples, one after another, made one row of `count`
abbrev pub in_rows : ℕ → List ℕ → ℕ → ℕ → ℕ
in_rows wide samples x y = slice_index samples (y * wide + x)

unfoldable pub down_rows : ℕ → ℕ → ℕ → List ℕ → ℕ → List ℕ
down_rows across down wide samples count = map (λ x. downsampled across down (edge_repeated wide down (in_rows wide samples)) x 0) (below count)
