-- AN IMAGE THAT IS ENCODED while its samples come: what was taken of it, as planes or as the data of a scan.
use Rattle.std.specs.Prelude.{ℕ, List, ◌++◌, Option, None, Some}
use Rattle.jpg_spec_image.specs.declared.image.ImageInfo.{ImageInfo}
use Rattle.jpg_color.specs.EncodeRows.{HasEncoded, RowScan}
use Rattle.jpg_color.specs.EncodeSampling.{HasSampled, samples_left}
use Rattle.jpg_color.specs.declared.encode.Encoding.{Encoding as Asked}
use Rattle.jpg_color.specs.declared.encode.image_encoder.ImageEncoder.{ImageEncoder}
use Rattle.jpg_color.specs.declared.encode.image_encoder.ImageEncoder.TheVariants as encoder

-- how many samples are still to come
abbrev pub encoder_left : ImageEncoder → ℕ
encoder_left (encoder.Planes s) = samples_left s
encoder_left (encoder.Rows r) = samples_left r.sampler

-- THESE SAMPLES WERE TAKEN of an image: as planes, or as the data of a scan
abbrev pub HasTaken : Option RowScan → ImageInfo → Asked → List ℕ → ImageEncoder → Type 0
HasTaken None info a given (encoder.Planes s) = HasSampled info a given s
HasTaken None info a given (encoder.Rows r) = ⊥
HasTaken (Some w) info a given (encoder.Planes s) = ⊥
HasTaken (Some w) info a given (encoder.Rows r) = HasEncoded w info a given r

-- and more
abbrev pub AddsTaken : ImageEncoder → List ℕ → ImageEncoder → Type 0
AddsTaken old samples new =
    (w : Option RowScan) (info : ImageInfo) (a : Asked) (given : List ℕ) → HasTaken w info a given old → HasTaken w info a (given ++ samples) new
