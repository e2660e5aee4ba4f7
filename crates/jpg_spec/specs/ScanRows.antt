-- THE MCU ROWS OF A SCAN: its places, row by row (T.81, A.2.2, A.2.3).
use Rattle.std.specs.Prelude.{ℕ, List, [], ◌∷◌, map, flat_map}
use Rattle.jpg_spec.specs.Lists.{below}
use Rattle.jpg_spec.specs.Geometry.{Frame, blocks_across, component_at, mcu_part, mcus_across, place}
use Rattle.jpg_spec.specs.declared.frame.Place.{Place}

-- the places of a scan of these components in MCU row k
abbrev pub scan_row : Frame → List ℕ → ℕ → List Place
scan_row f [] k = []
scan_row f (i ∷ []) k = map (λ x. place f i x k) (below (blocks_across f (component_at f i)))
scan_row f (i ∷ j ∷ more) k = flat_map (λ mx. flat_map (mcu_part f mx k) (i ∷ j ∷ more)) (below (mcus_across f))

-- those of this many first MCU rows
abbrev pub first_rows : Frame → List ℕ → ℕ → List Place
first_rows f components rows = flat_map (scan_row f components) (below rows)
