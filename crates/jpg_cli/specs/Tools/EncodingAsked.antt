-- The encoding that the words of cjpeg ask for, and which images it is for.
use Rattle.std.specs.Prelude.{◌≡◌, All, List, [], length, slice_index_or, Option, option_copied, option_map}
use Rattle.std.specs.Borrow.{Bor}
use Rattle.arrayvec.specs.ArrayVec.{ArrayVec}
use Rattle.jpg_spec_words.specs.EncodeWords.{encoding_asked}
use Rattle.jpg_spec_encode.specs.Encoded.{Encoding, count_due}
use Rattle.jpg_spec_encode.specs.EncodingLaws.{AreFactors}
use Rattle.jpg_spec_image.specs.Images.{Image}
use Rattle.jpg_spec_image.specs.declared.image.ImageKind.{ImageKind}
use Rattle.jpg_spec_write.specs.ScansAsked.{Scans}
use Rattle.jpg_spec.specs.Segments.{AreQuantisers, QuantTable}
use Rattle.jpg_color.specs.Encode.{image_view}
use Rattle.jpg_color.specs.declared.encode.Encoding.{Encoding as Asked}
use Rattle.jpg_pnm_bmp.specs.declared.read.pixels.Image.{Image as Read}
use Rattle.jpg_words.specs.EncodeWords.{encode_view}
use Rattle.jpg_words.specs.declared.cjpeg_request.EncodeWords.{EncodeWords}

-- tables that are lent, if there are some
abbrev pub lent_tables : Option (Bor (ArrayVec QuantTable)) → Option (List QuantTable)
lent_tables tables = option_map (λ v. v.items) (option_copied tables)

-- how an image is encoded then
abbrev pub encoding_by : EncodeWords → Scans → Option (Bor (ArrayVec QuantTable)) → Image → Encoding
encoding_by w scans tables image = encoding_asked (encode_view w) scans (lent_tables tables) image

-- one that was read
abbrev pub asked_of : EncodeWords → Scans → Option (Bor (ArrayVec QuantTable)) → Read → Encoding
asked_of w scans tables i = encoding_by w scans tables (image_view i)

-- An image of this kind can be encoded like this, if its sides are right: factors from 1 to 4 for each component, and
-- tables.
pub record CanEncodeKind (kind : ImageKind) (a : Asked) : Type 0 where
  pub factors : All AreFactors a.factors.items
  pub pairs : length a.factors.items ≡ count_due a.gray kind
  pub first : AreQuantisers (slice_index_or a.tables 0 [])
  pub others : AreQuantisers (slice_index_or a.tables 1 [])
