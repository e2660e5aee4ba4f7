-- The parts of an encoded image, whose blocks are made of the planes of its components when they are asked for (T.81,
-- A.3): what they mean, and the facts that hold of them.
use Rattle.std.specs.Prelude.{◌≡◌, ℕ, ℤ, ◌==◌, ◌<◌, ◌≤◌, if◌then◌else◌, List, [], length, map, slice_index_or}
use Rattle.jpg_spec.specs.Lists.{below}
use Rattle.jpg_spec.specs.Geometry.{Frame, blocks_down, component_at}
use Rattle.jpg_spec.specs.FrameHeader.{IsFrame}
use Rattle.jpg_spec.specs.Jfif.{jfif_of}
use Rattle.jpg_spec.specs.Markers.{Segment}
use Rattle.jpg_spec.specs.Meaning.{Meaning, colour_of, real_blocks}
use Rattle.jpg_spec.specs.Scan.{Blocks}
use Rattle.jpg_spec.specs.Segments.{QuantTable}
use Rattle.jpg_spec.specs.declared.frame.Colour.{Colour}
use Rattle.jpg_spec.specs.declared.jfif.Jfif.{Jfif}
use Rattle.jpg_spec_image.specs.ForwardDct.{forward_dct, quantised_block}
use Rattle.jpg_spec_write.specs.WrittenFile.{HasBlocksIn}
use Rattle.jpg_file.specs.Read.PictureKept.{IsQuantTable, component_view}
use Rattle.jpg_color.specs.EncodeBlocks.{AreRows, plane_at}
use Rattle.jpg_color.specs.declared.encode.strips.Planes.{Planes}

-- THE BLOCKS, of planes and two tables of quantisers

abbrev pub table_by : QuantTable → QuantTable → ℕ → QuantTable
table_by first others i = if i == 0 then first else others

-- block x of a row of blocks
abbrev pub row_block : QuantTable → List (List ℕ) → ℕ → List ℤ
row_block table row x = quantised_block table (forward_dct (slice_index_or row x []))

unfoldable pub blocks_of : Planes → QuantTable → QuantTable → Blocks
blocks_of p first others i x y = row_block (table_by first others i) (slice_index_or (plane_at p i) y []) x

-- all rows of blocks of the real grids are there
abbrev pub HasAllRows : Frame → Planes → Type 0
HasAllRows f p =
    (i : ℕ) → i < length f.components → (blocks_down f (component_at f i) ≤ length (plane_at p i)) × AreRows f i (plane_at p i)

-- PARTS, as those of a picture, with any blocks in place of its coefficients
pub record ViewParts : Type 0 where
  pub frame : Frame
  pub colour : Colour
  pub quants : List QuantTable
  pub blocks : Blocks
  pub kept : List Segment
  pub jfif : Jfif

abbrev pub parts_by : Frame → Colour → List QuantTable → Blocks → List Segment → Jfif → ViewParts
parts_by f colour quants blocks kept jfif = record { frame = f; colour = colour; quants = quants; blocks = blocks; kept = kept; jfif = jfif }

-- what they mean
abbrev pub viewed_meaning : ViewParts → Meaning
viewed_meaning p = record {
  process = p.frame.process;
  precision = p.frame.precision;
  width = p.frame.width;
  height = p.frame.height;
  components = map (component_view p.frame p.quants) (below (length p.frame.components));
  blocks = real_blocks p.frame p.blocks;
  kept = p.kept;
}

-- THE FACTS: one table for each component, without zeros, real blocks in the frame's bounds, and the colours and the JFIF
-- header that the components and the kept markers determine
pub record AreViewParts (p : ViewParts) : Type 0 where
  pub frame : IsFrame p.frame
  pub tables : length p.quants ≡ length p.frame.components
  pub quants : (i : ℕ) → i < length p.frame.components → IsQuantTable (slice_index_or p.quants i [])
  pub range : HasBlocksIn p.frame p.blocks
  pub colour : p.colour ≡ colour_of (viewed_meaning p)
  pub jfif : p.jfif ≡ jfif_of p.kept
