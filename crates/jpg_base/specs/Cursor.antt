-- The remaining places of a scan, from one of them on (T.81, A.2).
use Rattle.std.specs.Prelude.{◌≡◌, ℕ, ◌+◌, ◌*◌, ◌^◌, ◌<◌, ◌≤◌, nat_lt, ◌&&◌, if◌then◌else◌, List, [], ◌∷◌, ◌++◌, length, map, flat_map, drop, slice_index_or, All}
use Rattle.jpg_spec.specs.Lists.{below}
use Rattle.jpg_spec.specs.Geometry.{Frame, component_at, blocks_across, blocks_down, mcus_down}
use Rattle.jpg_spec.specs.FrameHeader.{padded_across, padded_down}
use Rattle.jpg_spec.specs.declared.frame.Place.{Place}
use Rattle.jpg_base.specs.declared.cursor.CursorPart.{CursorPart}

-- one to four components of the frame
pub record AreIn (f : Frame) (components : List ℕ) : Type 0 where
  pub some : 1 ≤ length components
  pub few : length components ≤ 4
  pub there : All (λ i. i < length f.components) components

abbrev pub scan_mcus_down : Frame → List ℕ → ℕ
scan_mcus_down f [] = 0
scan_mcus_down f (i ∷ []) = blocks_down f (component_at f i)
scan_mcus_down f (i ∷ j ∷ parts) = mcus_down f

-- a place of a component's padded grid
pub record IsPadded (f : Frame) (i x y : ℕ) : Type 0 where
  pub component : i < length f.components
  pub across : x < padded_across f (component_at f i)
  pub down : y < padded_down f (component_at f i)

-- the only component of a scan, and one of several
abbrev pub lone_part : Frame → ℕ → CursorPart
lone_part f i = record { component = i; h = 1; v = 1; wide = blocks_across f (component_at f i); high = blocks_down f (component_at f i) }

abbrev pub cursor_part_of : Frame → ℕ → CursorPart
cursor_part_of f i = record { component = i; h = (component_at f i).h; v = (component_at f i).v; wide = blocks_across f (component_at f i); high = blocks_down f (component_at f i) }

abbrev pub parts_of : Frame → List ℕ → List CursorPart
parts_of f [] = []
parts_of f (i ∷ []) = lone_part f i ∷ []
parts_of f (i ∷ j ∷ more) = map (cursor_part_of f) (i ∷ j ∷ more)

abbrev pub no_part : CursorPart
no_part = record { component = 0; h = 0; v = 0; wide = 0; high = 0 }

pub record HasPartFactors (p : CursorPart) : Type 0 where
  pub h_low : 1 ≤ p.h
  pub h_high : p.h ≤ 4
  pub v_low : 1 ≤ p.v
  pub v_high : p.v ≤ 4

abbrev pub spot_of : CursorPart → ℕ → ℕ → Place
spot_of p x y = record { component = p.component; x = x; y = y; real = nat_lt x p.wide && nat_lt y p.high }

-- a row of a component's blocks in an MCU, from one of them on, and the rows below
abbrev pub row_left : CursorPart → ℕ → ℕ → ℕ → ℕ → List Place
row_left p column row down across = map (λ h. spot_of p (column * p.h + h) (row * p.v + down)) (drop across (below p.h))

abbrev pub part_row : CursorPart → ℕ → ℕ → ℕ → List Place
part_row p column row down = row_left p column row down 0

abbrev pub below_row : CursorPart → ℕ → ℕ → ℕ → List Place
below_row p column row down = flat_map (part_row p column row) (drop (down + 1) (below p.v))

abbrev pub part_spots : CursorPart → ℕ → ℕ → List Place
part_spots p column row = flat_map (part_row p column row) (below p.v)

-- the remaining components of the MCU
abbrev pub after_part : List CursorPart → ℕ → ℕ → ℕ → List Place
after_part parts column row part = flat_map (λ p. part_spots p column row) (drop (part + 1) parts)

abbrev pub mcu_spots : List CursorPart → ℕ → ℕ → List Place
mcu_spots parts row column = flat_map (λ p. part_spots p column row) parts

-- the remaining MCUs of the row, and the rows below
abbrev pub after_mcu : List CursorPart → ℕ → ℕ → ℕ → List Place
after_mcu parts wide column row = flat_map (mcu_spots parts row) (drop (column + 1) (below wide))

abbrev pub line_spots : List CursorPart → ℕ → ℕ → List Place
line_spots parts wide row = flat_map (mcu_spots parts row) (below wide)

abbrev pub after_line : List CursorPart → ℕ → ℕ → ℕ → List Place
after_line parts wide high row = flat_map (line_spots parts wide) (drop (row + 1) (below high))

abbrev pub all_spots : List CursorPart → ℕ → ℕ → List Place
all_spots parts wide high = flat_map (line_spots parts wide) (below high)

abbrev pub spots_from : List CursorPart → ℕ → ℕ → ℕ → ℕ → ℕ → ℕ → ℕ → List Place
spots_from parts wide high row column part down across =
    let p = slice_index_or parts part no_part in
    row_left p column row down across ++ (below_row p column row down ++ (after_part parts column row part ++ (after_mcu parts wide column row ++ after_line parts wide high row)))

-- all places that are left, none after the last row
unfoldable pub spots_left : List CursorPart → ℕ → ℕ → ℕ → ℕ → ℕ → ℕ → ℕ → List Place
spots_left parts wide high row column part down across = if nat_lt row high then spots_from parts wide high row column part down across else []

pub record IsAt (parts : List CursorPart) (wide high row column part down across : ℕ) : Type 0 where
  pub factors : All HasPartFactors parts
  pub at_part : part < length parts
  pub at_down : down < (slice_index_or parts part no_part).v
  pub at_across : across < (slice_index_or parts part no_part).h
  pub at_column : column < wide
  pub at_row : row ≤ high
  pub wide_most : wide ≤ 2 ^ 20
  pub high_most : high ≤ 2 ^ 20
