-- THE WORK OF jpgwork: an image that a number describes is encoded, its picture rotated and rotated back, and the
-- result decoded; and the five lines that say how that went (image and lines are the suite's).
use Rattle.std.specs.Prelude.{ℕ, ◌+◌, ◌*◌, ◌/◌, ◌%◌, Bool, true, false, if◌then◌else◌, List, [], ◌∷◌, ◌++◌, length, flat_map, sum, None, codes}
use Rattle.std.specs.Str.{bytes_eq}
use Rattle.jpg_spec.specs.Lists.{below, joined}
use Rattle.jpg_spec.specs.Meaning.{Meaning}
use Rattle.jpg_spec_write.specs.ScansAsked.{sequential, standard}
use Rattle.jpg_spec_image.specs.Images.{Image}
use Rattle.jpg_spec_image.specs.Pixels.{pixels}
use Rattle.jpg_spec_image.specs.declared.image.ImageInfo.{ImageInfo}
use Rattle.jpg_spec_image.specs.declared.image.ImageKind.TheVariants.{Rgb}
use Rattle.jpg_spec_encode.specs.Encoded.{Encoding, encoded, encoded_text}
use Rattle.jpg_spec_move.specs.Moved.{Choice, moved, moved_text}
use Rattle.jpg_spec_move.specs.declared.transform.Transform.TheVariants.{Rotate90, Rotate270}
use Rattle.jpg_spec_words.specs.EncodeWords.{EncodeAsked, encode_default, encoding_asked}
use Rattle.jpg_spec_words.specs.Messages.{then_number}
use Rattle.jpg_spec_words.specs.TransformWords.{TransformAsked, choice_asked, own_progressive, transform_default}

-- THE IMAGE, of 8 n + 5 by 4 n + 3 pixels without a density

abbrev pub work_info : ℕ → ImageInfo
work_info n = record { width = 8 * n + 5; height = 4 * n + 3; kind = Rgb; x_metre = 0; y_metre = 0 }

-- red, green and blue
unfoldable pub work_pixel : ℕ → ℕ → List ℕ
work_pixel x y = (7 * x + 3 * y) % 256 ∷ x * y % 256 ∷ (40 * (x / 16) + 24 * (y / 16)) % 256 ∷ []

unfoldable pub work_row : ℕ → ℕ → List ℕ
work_row n y = flat_map (λ x. work_pixel x y) (below (8 * n + 5))

abbrev pub work_image : ℕ → Image
work_image n = record { info = work_info n; samples = flat_map (work_row n) (below (4 * n + 3)) }

-- WHAT IS DONE, as these words ask for it: `cjpeg -progressive`, `jpegtran -rotate 90`, `jpegtran -rotate 270
-- -progressive`, and `djpeg` without switches

abbrev pub first_asked : EncodeAsked
first_asked = record encode_default { scans = own_progressive }

abbrev pub turned_asked : TransformAsked
turned_asked = record transform_default { transform = Rotate90 }

abbrev pub back_asked : TransformAsked
back_asked = record transform_default { transform = Rotate270; scans = own_progressive }

abbrev pub first_encoding : ℕ → Encoding
first_encoding n = encoding_asked first_asked standard None (work_image n)

abbrev pub turned_choice : Choice
turned_choice = choice_asked turned_asked sequential

abbrev pub back_choice : Choice
back_choice = choice_asked back_asked standard

-- THE PICTURES of the three files, and their texts

abbrev pub first_picture : ℕ → Meaning
first_picture n = encoded (first_encoding n) (work_image n)

abbrev pub turned_picture : ℕ → Meaning
turned_picture n = moved turned_choice (first_picture n)

abbrev pub back_picture : ℕ → Meaning
back_picture n = moved back_choice (turned_picture n)

abbrev pub first_text : ℕ → List ℕ
first_text n = encoded_text (first_encoding n) (work_image n)

abbrev pub turned_text : ℕ → List ℕ
turned_text n = moved_text turned_choice (first_picture n)

abbrev pub back_text : ℕ → List ℕ
back_text n = moved_text back_choice (turned_picture n)

-- THE LINES

-- a name and a number
abbrev pub number_line : List ℕ → ℕ → List ℕ
number_line name n = name ++ then_number n ++ 10 ∷ []

abbrev pub sides_line : ImageInfo → List ℕ
sides_line info = codes "image" ++ then_number info.width ++ then_number info.height ++ 10 ∷ []

abbrev pub back_line : Bool → List ℕ
back_line same = codes "back " ++ (if same then codes "same" else codes "other") ++ 10 ∷ []

-- by the sides, the lengths of two files, whether the third is the first, and the sum of the samples
abbrev pub lines : ImageInfo → ℕ → ℕ → Bool → ℕ → List ℕ
lines info first turned same samples =
    sides_line info ++ number_line (codes "first") first ++ number_line (codes "turned") turned ++ back_line same ++ number_line (codes "samples") samples

-- the sum of all samples of the third file's image
abbrev pub samples_sum : Meaning → ℕ
samples_sum M = sum (joined (pixels M false true))

abbrev pub work_text : ℕ → List ℕ
work_text n =
    lines (work_info n) (length (first_text n)) (length (turned_text n)) (bytes_eq (back_text n) (first_text n)) (samples_sum (back_picture n))
