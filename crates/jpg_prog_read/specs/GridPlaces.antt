-- The remaining places of a scan of one component, row by row (T.81, A.2.2).
use Rattle.std.specs.Prelude.{ℕ, ◌+◌, ◌*◌, ◌<◌, ◌≤◌, nat_lt, ◌&&◌, List, map, flat_map, drop}
use Rattle.jpg_spec.specs.Lists.{below}
use Rattle.jpg_spec.specs.declared.frame.Place.{Place}

-- a row of a grid, and all of them
abbrev pub grid_row : ℕ → ℕ → ℕ → ℕ → List Place
grid_row i wide high y = map (λ x. (let p : Place = record { component = i; x = x; y = y; real = nat_lt x wide && nat_lt y high } in p)) (below wide)

abbrev pub grid_places : ℕ → ℕ → ℕ → List Place
grid_places i wide high = flat_map (grid_row i wide high) (below high)

-- those from a column and a row on
unfoldable pub places_from : ℕ → ℕ → ℕ → ℕ → ℕ → List Place
places_from i wide high column row = drop (row * wide + column) (grid_places i wide high)

pub record IsAtPlace (wide high column row : ℕ) : Type 0 where
  pub at_column : column < wide
  pub at_row : row ≤ high
