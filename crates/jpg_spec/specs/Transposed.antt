-- A block or a table with its axes exchanged (T.81, A.3.6 and Figure A.6 for the places).
use Rattle.std.specs.Prelude.{ℕ, ◌+◌, ◌*◌, ◌/◌, ◌%◌, List, map, slice_index_or}
use Rattle.jpg_spec.specs.Lists.{index_of}
use Rattle.jpg_spec.specs.Zigzag.{zigzag}

-- the place in zigzag order with the horizontal and the vertical frequency exchanged, where the natural index is n = 8
-- * v + u
abbrev pub exchanged : ℕ → ℕ
exchanged n = index_of (8 * (n % 8) + n / 8) zigzag

unfoldable pub transposed : {X : Type 0} → X → List X → List X
transposed default block = map (λ n. slice_index_or block (exchanged n) default) zigzag
