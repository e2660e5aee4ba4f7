-- What is so of the bytes that a reader of image files was given, by the format; and its answers to a piece and to the end.
use Rattle.std.proofs.Common.{◌≡◌, ℕ, Bool, true, false, List, length, arith}
use Rattle.jpg_spec.specs.Segments.{standard_limits}
use Rattle.jpg_spec_image.specs.Images.{Image}
use Rattle.jpg_spec_image.proofs.OpenTarga.{open_few}
use Rattle.jpg_pnm_bmp.specs.Made.{AreBytes, IsRightImage}
use Rattle.jpg_pnm_bmp.proofs.EndRead.{fed_open as pixels_open}
use Rattle.jpg_pnm_bmp.proofs.ImageRight.{image_right}
use Rattle.jpg_targa.proofs.PiecesRead.{read_open}
use Rattle.jpg_targa.proofs.TargaRight.{targa_right}
use Rattle.jpg_desk.specs.ImageFile.{HasImageIn, IsOpenIn}
use Rattle.jpg_desk.specs.ImageSource.{HasFed, is_source_read, source_taken}
use Rattle.jpg_desk.specs.declared.image_source.ImageSource.{ImageSource}
use Rattle.jpg_desk.specs.declared.image_source.ImageSource.TheVariants as source

pub fed_taken : (targa : Bool) (bytes : List ℕ) (r : ImageSource) → HasFed targa bytes r → source_taken r ≡ length bytes
fed_taken false bytes (source.Pixels r) h = h.3.taken_is
fed_taken true bytes (source.Targa r) h = h.3.taken_is
fed_taken false bytes (source.Targa r) h = absurd h
fed_taken true bytes (source.Pixels r) h = absurd h

pub fed_more : (targa : Bool) (bytes : List ℕ) (r : ImageSource) → HasFed targa bytes r → is_source_read r ≡ false
fed_more false bytes (source.Pixels r) h = h.1
fed_more true bytes (source.Targa r) h = h.1
fed_more false bytes (source.Targa r) h = absurd h
fed_more true bytes (source.Pixels r) h = absurd h

pub fed_open : (targa : Bool) (bytes : List ℕ) (r : ImageSource) → HasFed targa bytes r → IsOpenIn targa bytes
fed_open false bytes (source.Pixels r) h = pixels_open bytes r h
fed_open true bytes (source.Targa r) h = read_open bytes r.reader.taken r.reader.work h.3
fed_open false bytes (source.Targa r) h = absurd h
fed_open true bytes (source.Pixels r) h = absurd h

-- of Targa they are never as many as may be taken
pub never_full : (bytes : List ℕ) (r : ImageSource) → HasFed true bytes r → length bytes ≡ standard_limits.input → ⊥
never_full bytes (source.Targa r) h full = (let few = open_few bytes h.2 (read_open bytes r.reader.taken r.reader.work h.3) in omega (arith, few, full))
never_full bytes (source.Pixels r) h full = h

pub right_image : (targa : Bool) (bytes : List ℕ) (image : Image) → HasImageIn targa bytes image → AreBytes bytes → IsRightImage image
right_image false bytes image h small = image_right standard_limits bytes image h small
right_image true bytes image h small = targa_right bytes image h small
