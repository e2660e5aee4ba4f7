-- HOW A PICTURE IS TRANSFORMED (the manual of jpegtran): mirrored left to right or top to bottom, and given a header
-- for writing.
use Rattle.std.specs.Prelude.{ℕ, ◌-◌, ◌*◌, ◌/◌, ◌%◌, nat_lt, ◌==◌, if◌then◌else◌, List, map, zip, ℤ, neg_ℤ}
use Rattle.jpg_spec.specs.Meaning.{Meaning, most_across, component_of, most_down}
use Rattle.jpg_spec.specs.Zigzag.{zigzag}

-- BLOCKS

-- the sign of odd horizontal frequencies is changed
unfoldable pub mirrored : List ℤ → List ℤ
mirrored block = map (λ p. if p.0 % 2 == 1 then neg_ℤ p.1 else p.1) (zip zigzag block)

-- the sign of odd vertical frequencies is changed
unfoldable pub mirrored_down : List ℤ → List ℤ
mirrored_down block = map (λ p. if p.0 / 8 % 2 == 1 then neg_ℤ p.1 else p.1) (zip zigzag block)

-- the columns and the rows of a component that are in complete iMCUs
abbrev pub whole_columns : Meaning → ℕ → ℕ
whole_columns M i = (M.width / (8 * most_across M)) * (component_of M i).h

abbrev pub whole_rows : Meaning → ℕ → ℕ
whole_rows M i = (M.height / (8 * most_down M)) * (component_of M i).v

-- Columns of complete iMCUs are exchanged and mirrored. The others remain.
abbrev pub flip_h : Meaning → Meaning
flip_h M = record M {
  blocks = λ i x y.
      let whole = whole_columns M i in
      if nat_lt x whole then mirrored (M.blocks i (whole - 1 - x) y) else M.blocks i x y;
}

-- Rows of complete iMCUs are exchanged and mirrored. The others remain.
abbrev pub flip_v : Meaning → Meaning
flip_v M = record M {
  blocks = λ i x y.
      let whole = whole_rows M i in
      if nat_lt y whole then mirrored_down (M.blocks i x (whole - 1 - y)) else M.blocks i x y;
}
