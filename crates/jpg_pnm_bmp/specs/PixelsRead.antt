-- An image file, PNM or BMP, that is fed to a reader piece by piece.
use Rattle.std.specs.Prelude.{◌≡◌, ℕ, Bool, true, false, List, Option, Result, Ok, Err}
use Rattle.jpg_base.specs.declared.stop.Stop.{Stop}
use Rattle.jpg_spec_image.specs.Images.{Image}
use Rattle.jpg_pnm_bmp.specs.PiecesFed as pieces
use Rattle.jpg_pnm_bmp.specs.Reader.{EndsImage, pixels_kind}
use Rattle.jpg_pnm_bmp.specs.declared.read.piece.Fed2.{Fed2}
use Rattle.jpg_pnm_bmp.specs.declared.read.pixels.PixelReader.{PixelReader}

-- the image, once it is complete
abbrev pub image_read : PixelReader → Image
image_read r = pieces.image_of r.reader

-- how many bytes were taken
abbrev pub pixels_taken : PixelReader → ℕ
pixels_taken r = r.reader.taken

-- why it stopped, if it did
abbrev pub pixels_stop : PixelReader → Option Stop
pixels_stop r = r.reader.stop

-- The image is complete: neither `feed` nor `end` may be called any more, and `take` may be.
abbrev pub is_image_read : PixelReader → Bool
is_image_read r = r.reader.done

-- These bytes were fed. No prefix of them is complete or has a fault, and more may follow.
abbrev pub HasFedImage : List ℕ → PixelReader → Type 0
HasFedImage bytes r = pieces.HasFed pixels_kind bytes r.reader

-- the result of a piece that is fed
abbrev pub AfterFeed : List ℕ → List ℕ → Result Fed2 Stop → PixelReader → Type 0
AfterFeed bytes piece answer r = pieces.AfterFeed pixels_kind bytes piece answer r.reader

abbrev pub Feeds : PixelReader → List ℕ → Result Fed2 Stop → PixelReader → Type 0
Feeds old piece answer new = pieces.Feeds pixels_kind old.reader piece answer new.reader

abbrev pub Asks : PixelReader → List ℕ → Result Fed2 Stop → Type 0
Asks old piece answer = pieces.Asks pixels_kind old.reader piece answer

abbrev pub KeepsDone : Result Fed2 Stop → PixelReader → Type 0
KeepsDone answer r = pieces.KeepsDone answer r.reader

abbrev pub Ends : PixelReader → Result (Unit {0}) Stop → PixelReader → Type 0
Ends old answer new = (bytes : List ℕ) → HasFedImage bytes old → EndsImage bytes answer (image_read new)

abbrev pub EndsDone : Result (Unit {0}) Stop → PixelReader → Type 0
EndsDone (Ok u) r = r.reader.done ≡ true
EndsDone (Err stop) r = r.reader.done ≡ false
