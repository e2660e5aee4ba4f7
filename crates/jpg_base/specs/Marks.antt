-- The values that aren't 0, by the bits of a word.
use Rattle.std.specs.Prelude.{ℕ, Bool, not, List, map, ℤ}
use Rattle.std.specs.Simd.Lanes.{mask_l}
use Rattle.jpg_spec.specs.Elements.{is_zero}

abbrev pub is_some : ℤ → Bool
is_some v = not (is_zero v)

-- a bit for each value, the first one the lowest: 1 where it isn't 0
abbrev pub marks : List ℤ → ℕ
marks values = mask_l (map is_some values)
