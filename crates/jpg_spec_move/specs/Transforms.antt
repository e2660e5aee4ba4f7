-- THE EIGHT TRANSFORMS of a picture (the manual of jpegtran): two flips and a transposition, their compositions, and
-- the inverse of each.
use Rattle.std.specs.Prelude.{Bool, true, false, ◌-◌, ℕ, nat_lt, if◌then◌else◌, List, map, ℤ, pos}
use Rattle.jpg_spec.specs.Meaning.{Meaning, PictureComponent}
use Rattle.jpg_spec_move.specs.Moves.{mirrored, mirrored_down, whole_columns, whole_rows, flip_h, flip_v}
use Rattle.jpg_spec.specs.Transposed.{transposed}
use Rattle.jpg_spec_move.specs.declared.transform.Transform.{Transform}
use Rattle.jpg_spec_move.specs.declared.transform.Transform.TheVariants.{Keep, FlipH, FlipV, Transpose, Transverse, Rotate90, Rotate180, Rotate270}

-- factors and quantisers with their axes exchanged
abbrev pub exchanged_axes : PictureComponent → PictureComponent
exchanged_axes c = record { id = c.id; h = c.v; v = c.h; quants = transposed 0 c.quants }

-- Columns become rows: sides, factors, quantisers, places and frequencies are exchanged.
abbrev pub transpose : Meaning → Meaning
transpose M = record M {
  width = M.height;
  height = M.width;
  components = map exchanged_axes M.components;
  blocks = λ i x y. transposed (pos 0) (M.blocks i y x);
}

abbrev pub rotate_180 : Meaning → Meaning
rotate_180 M = flip_h (flip_v M)

-- Rotations are clockwise.
abbrev pub transformed : Transform → Meaning → Meaning
transformed Keep M = M
transformed FlipH M = flip_h M
transformed FlipV M = flip_v M
transformed Transpose M = transpose M
transformed Rotate90 M = flip_h (transpose M)
transformed Rotate270 M = transpose (flip_h M)
transformed Rotate180 M = rotate_180 M
transformed Transverse M = transpose (rotate_180 M)

abbrev pub inverse : Transform → Transform
inverse Keep = Keep
inverse FlipH = FlipH
inverse FlipV = FlipV
inverse Transpose = Transpose
inverse Rotate90 = Rotate270
inverse Rotate270 = Rotate90
inverse Rotate180 = Rotate180
inverse Transverse = Transverse

-- ONE FORMULA FOR ALL EIGHT: whether rows become columns, and then whether the columns and the rows of complete iMCUs
-- are mirrored.

abbrev pub transposes : Transform → Bool
transposes Keep = false
transposes FlipH = false
transposes FlipV = false
transposes Rotate180 = false
transposes Transpose = true
transposes Rotate90 = true
transposes Rotate270 = true
transposes Transverse = true

abbrev pub mirrors_across : Transform → Bool
mirrors_across Keep = false
mirrors_across FlipH = true
mirrors_across FlipV = false
mirrors_across Rotate180 = true
mirrors_across Transpose = false
mirrors_across Rotate90 = true
mirrors_across Rotate270 = false
mirrors_across Transverse = true

abbrev pub mirrors_down : Transform → Bool
mirrors_down Keep = false
mirrors_down FlipH = false
mirrors_down FlipV = true
mirrors_down Rotate180 = true
mirrors_down Transpose = false
mirrors_down Rotate90 = false
mirrors_down Rotate270 = true
mirrors_down Transverse = true

-- how many columns and rows of a component of the output are mirrored
abbrev pub changed_columns : Transform → Meaning → ℕ → ℕ
changed_columns t out i = if mirrors_across t then whole_columns out i else 0

abbrev pub changed_rows : Transform → Meaning → ℕ → ℕ
changed_rows t out i = if mirrors_down t then whole_rows out i else 0

-- the opposite column or row, among this many that are mirrored
abbrev pub opposite : ℕ → ℕ → ℕ
opposite changed x = if nat_lt x changed then changed - 1 - x else x

-- a block mirrored left to right, top to bottom, both or not at all
abbrev pub signed : Bool → Bool → List ℤ → List ℤ
signed across down block =
    let here = if down then mirrored_down block else block in
    if across then mirrored here else here

-- a block with its axes exchanged, or as it is
abbrev pub turned_over : Bool → List ℤ → List ℤ
turned_over over block = if over then transposed (pos 0) block else block

-- The block at column x and row y of the output, where this many of its columns and rows are mirrored, from a
-- component's blocks.
abbrev pub placed : Bool → ℕ → ℕ → (ℕ → ℕ → List ℤ) → ℕ → ℕ → List ℤ
placed over columns rows blocks x y =
    let column = opposite columns x in
    let row = opposite rows y in
    let block = if over then blocks row column else blocks column row in
    signed (nat_lt x columns) (nat_lt y rows) (turned_over over block)
