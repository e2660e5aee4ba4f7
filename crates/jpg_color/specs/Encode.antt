-- A PICTURE MADE OF AN IMAGE (the manual of cjpeg): what is asked for, when it can be made, and the result.
use Rattle.std.specs.Prelude.{◌≡◌, ℕ, ◌≤◌, Bool, true, false, List, [], length, slice_index_or, All, Option, Some, None, Result, Ok, Err}
use Rattle.jpg_spec_write.specs.declared.huffman.Huffman.TheVariants.{Plain}
use Rattle.jpg_spec_write.specs.FileText.{off}
use Rattle.jpg_spec.specs.Geometry.{Frame}
use Rattle.jpg_spec_image.specs.Images.{Image}
use Rattle.jpg_spec_image.specs.declared.image.ImageInfo.{ImageInfo}
use Rattle.jpg_spec.specs.Meaning.{Meaning, picture_frame}
use Rattle.jpg_spec_write.specs.ScansAsked.{Scans, sequential, standard, asks_progressive}
use Rattle.jpg_spec.specs.Scan.{Blocks}
use Rattle.jpg_spec.specs.Segments.{AreQuantisers}
use Rattle.jpg_spec_encode.specs.Encoded.{Encoding, components_due, count_due, encoded, encoded_block, encoded_head, sampling_fault}
use Rattle.jpg_spec_encode.specs.EncodingLaws.{AreFactors}
use Rattle.jpg_spec_write.specs.declared.picture_fault.PictureFault.{PictureFault}
use Rattle.jpg_pnm_bmp.specs.Made.{IsRightImage}
use Rattle.jpg_pnm_bmp.specs.declared.read.pixels.Image.{Image as Read}
use Rattle.jpg_color.specs.declared.encode.Encoding.{Encoding as Asked}

-- an image that was read
abbrev pub image_view : Read → Image
image_view i = record { info = i.info; samples = i.samples }

-- an image of these numbers and samples
abbrev pub image_of : ImageInfo → List ℕ → Image
image_of info samples = record { info = info; samples = samples }

-- WHAT IS ASKED FOR, in the terms of the definitions: default scans, plain tables, and no restarts

abbrev pub scans_asked : Bool → Scans
scans_asked true = standard
scans_asked false = sequential

abbrev pub encoding_request : Asked → Encoding
encoding_request a = record {
  gray = a.gray;
  scans = scans_asked a.progressive;
  huffman = Plain;
  restart = off;
  factors = a.factors.items;
  first = slice_index_or a.tables 0 [];
  others = slice_index_or a.tables 1 [];
}

-- The same is asked for, whatever its scans, Huffman tables and restarts are, if the scans are of the same kind.
pub record AsksFor (a : Asked) (e : Encoding) : Type 0 where
  pub gray : e.gray ≡ a.gray
  pub scans : asks_progressive e.scans ≡ a.progressive
  pub factors : e.factors ≡ a.factors.items
  pub first : e.first ≡ slice_index_or a.tables 0 []
  pub others : e.others ≡ slice_index_or a.tables 1 []

-- An image with all its samples, factors from 1 to 4 for each component, and tables of 64 quantisers without zeros.
pub record CanEncode (i : Read) (a : Asked) : Type 0 where
  pub image : IsRightImage (image_view i)
  pub factors : All AreFactors a.factors.items
  pub pairs : length a.factors.items ≡ components_due (encoding_request a) (image_view i)
  pub first : AreQuantisers (slice_index_or a.tables 0 [])
  pub others : AreQuantisers (slice_index_or a.tables 1 [])

-- An image whose samples aren't there yet can be encoded: sides that a frame can have, factors, and tables.
pub record CanSample (info : ImageInfo) (a : Asked) : Type 0 where
  pub wide : 1 ≤ info.width
  pub wide_few : info.width ≤ 65500
  pub high : 1 ≤ info.height
  pub high_few : info.height ≤ 65500
  pub factors : All AreFactors a.factors.items
  pub pairs : length a.factors.items ≡ count_due a.gray info.kind
  pub first : AreQuantisers (slice_index_or a.tables 0 [])
  pub others : AreQuantisers (slice_index_or a.tables 1 [])

-- THE RESULT: all but the blocks, the frame, and the fault, which the image's numbers determine; the blocks, and all

abbrev pub encoded_parts : ImageInfo → Asked → Meaning
encoded_parts info a = encoded_head (encoding_request a) (image_of info [])

abbrev pub encoded_frame : ImageInfo → Asked → Frame
encoded_frame info a = picture_frame (encoded_parts info a)

abbrev pub fault_due : ImageInfo → Asked → Option PictureFault
fault_due info a = sampling_fault (encoding_request a) (image_of info [])

abbrev pub blocks_due : Image → Asked → Blocks
blocks_due image a = encoded_block (encoded_parts image.info a) image

abbrev pub picture_due : Image → Asked → Meaning
picture_due image a = encoded (encoding_request a) image

-- the frame, or its fault
abbrev pub IsFramed : ImageInfo → Asked → Result Frame PictureFault → Type 0
IsFramed info a (Ok f) = (f ≡ encoded_frame info a) × (fault_due info a ≡ None)
IsFramed info a (Err fault) = fault_due info a ≡ Some fault
