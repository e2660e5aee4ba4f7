-- THE HEAD of an encoded image's file: all that is before its scans.
use Rattle.std.specs.Prelude.{◌≡◌, [], ◌∷◌}
use Rattle.jpg_spec.specs.Scan.{Blocks}
use Rattle.jpg_spec_encode.specs.Encoded.{density_of}
use Rattle.jpg_spec_image.specs.declared.image.ImageInfo.{ImageInfo}
use Rattle.jpg_spec_write.specs.Headed.{jfif_contents}
use Rattle.jpg_color.specs.Encode.{encoded_frame}
use Rattle.jpg_color.specs.EncodedParts.{ViewParts, parts_by}
use Rattle.jpg_color.specs.EncodeHead.{colour_asked, tables_asked}
use Rattle.jpg_color.specs.declared.encode.Encoding.{Encoding as Asked}
use Rattle.jpg_color.specs.declared.encode.image_head.ImageHead.{ImageHead}

-- that of an image with these numbers, encoded like this
pub record IsHeadOf (info : ImageInfo) (a : Asked) (h : ImageHead) : Type 0 where
  pub frame : h.frame ≡ encoded_frame info a
  pub colour : h.colour ≡ colour_asked a
  pub quants : h.quants.items ≡ tables_asked a
  pub kept : h.kept ≡ (0xe0, jfif_contents (density_of info)) ∷ []
  pub jfif : h.jfif ≡ density_of info

-- with these blocks, the parts of its picture
abbrev pub head_parts : ImageHead → Blocks → ViewParts
head_parts h blocks = parts_by h.frame h.colour h.quants.items blocks h.kept h.jfif
