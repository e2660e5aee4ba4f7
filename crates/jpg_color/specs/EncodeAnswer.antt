-- THE RESULT of an image that is to be encoded: its picture, or the first fault of the factors and the grids (the
-- manual of cjpeg; JFIF 1.02).
use Rattle.std.specs.Prelude.{◌≡◌, [], ◌∷◌, Some, None, Result, Ok, Err}
use Rattle.jpg_spec_write.specs.Headed.{jfif_contents}
use Rattle.jpg_spec_encode.specs.Encoded.{Encoding, density_of, encoded, sampling_fault}
use Rattle.jpg_pnm_bmp.specs.declared.read.pixels.Image.{Image as Read}
use Rattle.jpg_file.specs.Read.PictureRead.{picture_meaning}
use Rattle.jpg_file.specs.declared.read.picture.Picture.{Picture}
use Rattle.jpg_color.specs.Encode.{AsksFor, image_view}
use Rattle.jpg_color.specs.declared.encode.Encoding.{Encoding as Asked}
use Rattle.jpg_color.specs.declared.encode.EncodeStop.{EncodeStop}
use Rattle.jpg_color.specs.declared.encode.EncodeStop.TheVariants as stop

-- the picture of the image, which has no fault; it keeps only the JFIF header
pub record IsEncodedAs (i : Read) (a : Asked) (p : Picture) : Type 0 where
  pub means : (e : Encoding) → AsksFor a e → picture_meaning p ≡ encoded e (image_view i)
  pub faultless : (e : Encoding) → AsksFor a e → sampling_fault e (image_view i) ≡ None
  pub kept : p.kept ≡ (0xe0, jfif_contents (density_of i.info)) ∷ []
  pub jfif : p.jfif ≡ density_of i.info

abbrev pub IsEncoded : Read → Asked → Result Picture EncodeStop → Type 0
IsEncoded i a (Ok p) = IsEncodedAs i a p
IsEncoded i a (Err (stop.Picture fault)) = (e : Encoding) → AsksFor a e → sampling_fault e (image_view i) ≡ Some fault
IsEncoded i a (Err stop.NoMemory) = Unit {0}
