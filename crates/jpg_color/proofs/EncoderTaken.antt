-- An encoder of images that was given some samples.
use Rattle.std.proofs.Common.{◌≡◌, ℕ, zero, suc, ◌+◌, min, List, [], ◌∷◌, ◌++◌, length, take, Option, None, Some, ap, ◌∙◌, arith}
use Rattle.std.proofs.lemmas.List.{take_min}
use Rattle.jpg_spec_image.specs.Images.{sample_count}
use Rattle.jpg_spec_image.specs.declared.image.ImageInfo.{ImageInfo}
use Rattle.jpg_color.specs.EncodeRows.{RowScan}
use Rattle.jpg_color.specs.ImageEncoder.{HasTaken, encoder_left}
use Rattle.jpg_color.specs.declared.encode.Encoding.{Encoding as Asked}
use Rattle.jpg_color.specs.declared.encode.image_encoder.ImageEncoder.{ImageEncoder}
use Rattle.jpg_color.specs.declared.encode.image_encoder.ImageEncoder.TheVariants as encoder

-- HOW MANY ARE LEFT, and of which image

pub count_of : (w : Option RowScan) (info : ImageInfo) (a : Asked) (given : List ℕ) (s : ImageEncoder) → HasTaken w info a given s → length given + encoder_left s ≡ sample_count info
count_of None info a given (encoder.Planes s) h = (h.has).count
count_of None info a given (encoder.Rows r) h = absurd h
count_of (Some w) info a given (encoder.Planes s) h = absurd h
count_of (Some w) info a given (encoder.Rows r) h = (h.0.sampled.has).count

abbrev pub numbers_of : ImageEncoder → ImageInfo
numbers_of (encoder.Planes s) = s.info
numbers_of (encoder.Rows r) = r.sampler.info

pub numbers_are : (w : Option RowScan) (info : ImageInfo) (a : Asked) (given : List ℕ) (s : ImageEncoder) → HasTaken w info a given s → numbers_of s ≡ info
numbers_are None info a given (encoder.Planes s) h = h.numbers
numbers_are None info a given (encoder.Rows r) h = absurd h
numbers_are (Some w) info a given (encoder.Planes s) h = absurd h
numbers_are (Some w) info a given (encoder.Rows r) h = h.0.sampled.numbers

-- OF MORE SAMPLES only the first are taken, as many as are left
pub take_rest : (n left : ℕ) (all more : List ℕ) → length (take n all) + left ≡ n → take n all ++ take (min left (length more)) more ≡ take n (all ++ more)
take_rest zero left all more h = (let none : left ≡ 0 = omega (arith, h) in take_min left more ∙ ap (λ k. take k more) none)
take_rest (suc n) left [] more h = (let all : left ≡ suc n = omega (arith, h) in take_min left more ∙ ap (λ k. take k more) all)
take_rest (suc n) left (x ∷ all) more h = ap (λ (l : List ℕ). x ∷ l) (take_rest n left all more (omega (arith, h)))
