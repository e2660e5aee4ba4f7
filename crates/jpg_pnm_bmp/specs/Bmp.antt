-- The parts of a BMP header before its palette, and the sides that its numbers may encode.
use Rattle.std.specs.Prelude.{ℕ, ◌*◌, ◌≤◌, List, ◌++◌, codes}
use Rattle.jpg_spec_image.specs.ImageText.{long, short, file_size, offset, depth, palette_size}
use Rattle.jpg_spec_image.specs.declared.image.ImageInfo.{ImageInfo}

unfoldable pub file_words : ImageInfo → List ℕ
file_words info = codes "BM" ++ long (file_size info) ++ long 0 ++ long (offset info)

unfoldable pub image_words : ImageInfo → List ℕ
image_words info = long 40 ++ long info.width ++ long info.height ++ short 1 ++ short (depth info.kind) ++ long 0 ++ long 0

unfoldable pub colour_words : ImageInfo → List ℕ
colour_words info = long info.x_metre ++ long info.y_metre ++ long (palette_size info.kind) ++ long 0

-- sides and pixels that an image has at most
pub record IsInBounds (info : ImageInfo) : Type 0 where
  pub width : info.width ≤ 65500
  pub height : info.height ≤ 65500
  pub pixels : info.width * info.height ≤ 1073741824
