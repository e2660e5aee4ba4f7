-- THE INVARIANT OF A PICTURE (T.81, B.2.1): what its parts mean, and the facts that hold of them.
use Rattle.std.specs.Prelude.{◌≡◌, ◌<◌, false, ℕ, List, [], length, map, slice_index_or, Bool, true, ◌==◌}
use Rattle.jpg_spec.specs.Lists.{any_of, below}
use Rattle.jpg_spec.specs.QuantContents.{is_zero_quant}
use Rattle.jpg_spec.specs.Geometry.{Frame, bounds, component_at}
use Rattle.jpg_spec.specs.FrameHeader.{IsFrame}
use Rattle.jpg_spec.specs.Markers.{Segment}
use Rattle.jpg_spec.specs.Segments.{QuantTable}
use Rattle.jpg_spec.specs.Jfif.{jfif_of}
use Rattle.jpg_spec.specs.Meaning.{Meaning, PictureComponent, colour_of, real_blocks}
use Rattle.jpg_spec.specs.Ranges.{AreInRange}
use Rattle.jpg_spec.specs.declared.frame.Colour.{Colour}
use Rattle.jpg_spec.specs.declared.jfif.Jfif.{Jfif}
use Rattle.jpg_coefs.specs.Picture.{Picture as Coefs, map_of}
use Rattle.jpg_spec.specs.Scan.{Blocks}
use Rattle.jpg_spec.specs.declared.frame.Colour.TheVariants.{Gray, YCbCr, Rgb, Cmyk, Ycck, Unknown}
use Rattle.jpg_file.specs.declared.read.strip_head.StripHead.{StripHead}

-- the parts of a picture
pub record PictureParts : Type 0 where
  pub frame : Frame
  pub colour : Colour
  pub quants : List QuantTable
  pub coefs : Coefs
  pub kept : List Segment
  pub jfif : Jfif

-- a component of a frame, with its table
abbrev pub component_view : Frame → List QuantTable → ℕ → PictureComponent
component_view f quants i = record { id = (component_at f i).id; h = (component_at f i).h; v = (component_at f i).v; quants = slice_index_or quants i [] }

-- WHAT THE PARTS MEAN: the real blocks, and what else a file's meaning has
abbrev pub parts_meaning : PictureParts → Meaning
parts_meaning p = record {
  process = p.frame.process;
  precision = p.frame.precision;
  width = p.frame.width;
  height = p.frame.height;
  components = map (component_view p.frame p.quants) (below (length p.frame.components));
  blocks = real_blocks p.frame (map_of p.coefs);
  kept = p.kept;
}

-- 64 quantisers, none of them 0
pub record IsQuantTable (table : QuantTable) : Type 0 where
  pub long : length table ≡ 64
  pub some : any_of is_zero_quant table ≡ false

-- THE FACTS: one table for each component, the coefficients in the frame's grids and bounds, and the colours and the
-- JFIF header that the components and the kept markers determine.
pub record ArePictureParts (p : PictureParts) : Type 0 where
  pub frame : IsFrame p.frame
  pub tables : length p.quants ≡ length p.frame.components
  pub quants : (i : ℕ) → i < length p.frame.components → IsQuantTable (slice_index_or p.quants i [])
  pub grids : p.coefs.frame ≡ p.frame
  pub range : AreInRange (bounds p.frame) (map_of p.coefs)
  pub colour : p.colour ≡ colour_of (parts_meaning p)
  pub jfif : p.jfif ≡ jfif_of p.kept

-- What the rows of a picture are made from, in addition to blocks: frame, colours and quantisation tables.

-- a picture of these blocks, without markers that are kept
abbrev pub bare_picture : Frame → List QuantTable → Blocks → Meaning
bare_picture f quants blocks = record {
  process = f.process;
  precision = f.precision;
  width = f.width;
  height = f.height;
  components = map (component_view f quants) (below (length f.components));
  blocks = blocks;
  kept = [];
}

-- colours that this many components may have (JFIF 1.02, Adobe's APP14)
abbrev pub may_have : ℕ → Colour → Bool
may_have count Gray = count == 1
may_have count YCbCr = count == 3
may_have count Rgb = count == 3
may_have count Cmyk = count == 4
may_have count Ycck = count == 4
may_have count Unknown = count == 2

-- one table for each component, and colours that they may have
pub record IsStripHead (h : StripHead) : Type 0 where
  pub frame : IsFrame h.frame
  pub tables : length h.quants.items ≡ length h.frame.components
  pub quants : (i : ℕ) → i < length h.frame.components → IsQuantTable (slice_index_or h.quants.items i [])
  pub colour : may_have (length h.frame.components) h.colour ≡ true

-- It is what the rows of this picture are made from, in addition to blocks.
pub record IsHeadOfPicture (h : StripHead) (M : Meaning) : Type 0 where
  pub head : IsStripHead h
  pub same : M ≡ record (bare_picture h.frame h.quants.items M.blocks) { kept = M.kept }
  pub colour : h.colour ≡ colour_of M
  pub jfif : h.jfif ≡ jfif_of M.kept
