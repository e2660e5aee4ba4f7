-- WHAT A FILE MEANS: its frame's numbers, its components with their quantisation tables, the real blocks, and the
-- markers kept (T.81, B.2.1).
use Rattle.std.specs.Prelude.{ℕ, nat_lt, ◌&&◌, if◌then◌else◌, List, length, map, [], slice_index_or}
use Rattle.jpg_spec.specs.Geometry.{Frame, is_real, greatest}
use Rattle.jpg_spec.specs.Segments.{QuantTable}
use Rattle.jpg_spec.specs.Elements.{zeros}
use Rattle.jpg_spec.specs.Scan.{Blocks}
use Rattle.jpg_spec.specs.Jfif.{jfif_of, adobe_transform}
use Rattle.jpg_spec.specs.Colours.{colours_of}
use Rattle.jpg_spec.specs.declared.frame.Process.{Process}
use Rattle.jpg_spec.specs.declared.frame.Colour.{Colour}

pub record PictureComponent : Type 0 where
  pub id : ℕ
  pub h : ℕ
  pub v : ℕ
  pub quants : QuantTable

pub record Meaning : Type 0 where
  pub process : Process
  pub precision : ℕ
  pub width : ℕ
  pub height : ℕ
  pub components : List PictureComponent
  pub blocks : Blocks
  pub kept : List (ℕ × List ℕ)

-- only the real blocks, and zeros elsewhere, so that equal pictures are equal meanings
abbrev pub real_blocks : Frame → Blocks → Blocks
real_blocks f blocks i x y = if nat_lt i (length f.components) && is_real f i x y then blocks i x y else zeros 64

-- the colours, by the components and the markers kept: the last JFIF header and the last Adobe segment
abbrev pub colour_of : Meaning → Colour
colour_of M = colours_of (length M.components) (map (λ c. c.id) M.components) (jfif_of M.kept).seen (adobe_transform M.kept)

-- the frame's numbers of a meaning (without table slots)
abbrev pub picture_frame : Meaning → Frame
picture_frame M = record {
  process = M.process;
  precision = M.precision;
  width = M.width;
  height = M.height;
  components = map (λ c. record { id = c.id; h = c.h; v = c.v; quant = 0 }) M.components;
}

-- GRAYSCALE: only component 1, with factors 1 by 1

-- only the real blocks
abbrev pub real_alone : Meaning → Meaning
real_alone M = record M { blocks = real_blocks (picture_frame M) M.blocks }

abbrev pub most_across : Meaning → ℕ
most_across M = greatest (map (λ c. c.h) M.components)

abbrev pub most_down : Meaning → ℕ
most_down M = greatest (map (λ c. c.v) M.components)

abbrev pub component_of : Meaning → ℕ → PictureComponent
component_of M i = slice_index_or M.components i (record { id = 0; h = 1; v = 1; quants = [] })
