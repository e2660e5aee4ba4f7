-- AN IMAGE ROW BY ROW, while its file is read: which rows of samples are known after some MCU rows, which of them are
-- kept, and which rows of the image are made of them.
use Rattle.std.specs.Prelude.{ℕ, ◌≡◌, ◌⊎◌, ◌+◌, ◌-◌, ◌*◌, ◌<◌, ◌≤◌, min, Bool, ◌==◌, if◌then◌else◌, List, [], length, map, slice_index_or}
use Rattle.jpg_spec.specs.Lists.{below, any_of}
use Rattle.jpg_spec.specs.Geometry.{div_up}
use Rattle.jpg_spec.specs.Meaning.{Meaning, component_of, most_down}
use Rattle.jpg_spec_image.specs.Upsampling.{Stretch, has_far_rows}
use Rattle.jpg_spec_image.specs.Pixels.{samples_down, plane_row, stretch_of, shows_gray}
use Rattle.jpg_spec.specs.declared.frame.Colour.{Colour}

-- ONE PLANE

-- When k rows of a plane are known, and more follow: the rows of the image that need no other. A row that is made from
-- two waits for the row below.
abbrev pub ready_of : Stretch → ℕ → ℕ
ready_of s k = if has_far_rows s then 2 * k - 1 else k * s.down

-- row y of the image is made from the first k rows of the plane
abbrev pub IsRowReady : Stretch → ℕ → ℕ → Type 0
IsRowReady s k y = (y < ready_of s k) ⊎ ((k ≡ s.high) × (y < s.high * s.down))

-- Row y of the image is made from the first k rows of a plane, and not from only the first j.
pub record IsMade (s : Stretch) (j k y : ℕ) : Type 0 where
  pub down : 1 ≤ s.down
  pub high : k ≤ s.high
  pub late : ready_of s j ≤ y
  pub ready : IsRowReady s k y

-- the same rows, from one place up to another
abbrev pub Agree : ℕ → ℕ → (ℕ → List ℕ) → (ℕ → List ℕ) → Type 0
Agree first end rows others = (r : ℕ) → first ≤ r → r < end → rows r ≡ others r

-- rows that are kept: `count` of them from `first`
abbrev pub rows_from : (ℕ → List ℕ) → ℕ → ℕ → List (List ℕ)
rows_from rows first count = map (λ k. rows (first + k)) (below count)

abbrev pub kept_row : ℕ → List (List ℕ) → ℕ → List ℕ
kept_row first kept r = slice_index_or kept (r - first) []

-- A PICTURE

-- the rows of blocks that component i has in an MCU row: one if it is the only component
abbrev pub block_rows : Meaning → ℕ → ℕ
block_rows M i = if length M.components == 1 then 1 else (component_of M i).v

-- lines of the image in an MCU row
abbrev pub lines : Meaning → ℕ
lines M = if length M.components == 1 then 8 else 8 * most_down M

-- the MCU rows of the scan
abbrev pub mcu_rows : Meaning → ℕ
mcu_rows M = div_up M.height (lines M)

-- the rows of samples that are known after m MCU rows
abbrev pub known_rows : Meaning → ℕ → ℕ → ℕ
known_rows M i m = min (8 * block_rows M i * m) (samples_down M i)

-- how many components are displayed
abbrev pub needed : Colour → Bool → ℕ
needed colour gray = if shows_gray colour gray then 1 else 3

-- the rows of the image that are made of m MCU rows of `all`, where the first `shown` components are displayed
abbrev pub ready : Meaning → ℕ → Bool → ℕ → ℕ → ℕ
ready M shown smooth all m =
    if m == all then M.height
    else if any_of (λ i. has_far_rows (stretch_of M smooth i)) (below shown) then lines M * m - 1
    else lines M * m

-- What is kept after m MCU rows of the picture M (zeros where blocks are missing), `given` of whose rows were written:
-- per component that is displayed the rows of samples of the last MCU row and the one above them, and the rows that are
-- given are ready.
abbrev pub first_kept : Meaning → ℕ → ℕ → ℕ
first_kept M i m = 8 * block_rows M i * (m - 1) - 1

pub record IsHeld (M : Meaning) (shown : ℕ) (smooth : Bool) (all m given : ℕ) (held : ℕ → List (List ℕ)) : Type 0 where
  pub some : m ≤ all
  pub early : given ≤ ready M shown smooth all m
  pub late : ready M shown smooth all (m - 1) ≤ given
  pub rows : (i : ℕ) → i < shown → held i ≡ rows_from (plane_row M i) (first_kept M i m) (known_rows M i m - first_kept M i m)

-- The frame's numbers for component i, if the greatest vertical factor is a multiple of its own and there are `all` MCU
-- rows.
pub record IsCovered (M : Meaning) (smooth : Bool) (all i : ℕ) : Type 0 where
  pub whole : lines M ≡ 8 * block_rows M i * (stretch_of M smooth i).down
  pub tall : M.height ≤ (stretch_of M smooth i).high * (stretch_of M smooth i).down
  pub enough : samples_down M i ≤ 8 * block_rows M i * all
  pub no_more : (m : ℕ) → m < all → lines M * m < M.height
