-- AN ENCODED IMAGE as a view of blocks (T.81, A.3): what it means, and of which image it is.
use Rattle.std.specs.Prelude.{◌≡◌, [], ◌∷◌, None}
use Rattle.jpg_spec.specs.Meaning.{Meaning}
use Rattle.jpg_spec.specs.Scan.{Blocks}
use Rattle.jpg_spec_encode.specs.Encoded.{Encoding, density_of, encoded, sampling_fault}
use Rattle.jpg_spec_image.specs.Images.{Image}
use Rattle.jpg_spec_write.specs.Headed.{jfif_contents}
use Rattle.jpg_color.specs.Encode.{AsksFor}
use Rattle.jpg_color.specs.EncodedParts.{ViewParts, blocks_of, viewed_meaning}
use Rattle.jpg_color.specs.declared.encode.Encoding.{Encoding as Asked}
use Rattle.jpg_color.specs.declared.encode.view.EncodedImage.{EncodedImage}

abbrev pub view_blocks : EncodedImage → Blocks
view_blocks v = blocks_of v.planes v.first v.others

abbrev pub view_parts : EncodedImage → ViewParts
view_parts v = record { frame = v.frame; colour = v.colour; quants = v.quants.items; blocks = view_blocks v; kept = v.kept; jfif = v.jfif }

-- WHAT IT MEANS
abbrev pub view_meaning : EncodedImage → Meaning
view_meaning v = viewed_meaning (view_parts v)

-- It is that of this image, which has no fault, whatever is asked for beside its kind of scans; it keeps only the JFIF
-- header.
pub record IsEncodedView (image : Image) (a : Asked) (v : EncodedImage) : Type 0 where
  pub means : (e : Encoding) → AsksFor a e → view_meaning v ≡ encoded e image
  pub faultless : (e : Encoding) → AsksFor a e → sampling_fault e image ≡ None
  pub kept : v.kept ≡ (0xe0, jfif_contents (density_of image.info)) ∷ []
  pub jfif : v.jfif ≡ density_of image.info
