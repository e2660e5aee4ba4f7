-- WHAT READING AN IMAGE AND ENCODING IT does to a desk (the manual of cjpeg), by its result.
use Rattle.std.specs.Prelude.{◌≡◌, Bool, [], ◌∷◌, None, Some, Result, Ok, Err}
use Rattle.jpg_base.specs.declared.names.Name.{Name}
use Rattle.jpg_base.specs.declared.names.Put.TheVariants as put
use Rattle.jpg_base.specs.Desk.{DeskState}
use Rattle.jpg_spec_encode.specs.Encoded.{Encoding, density_of, encoded, sampling_fault}
use Rattle.jpg_spec_encode.specs.EncodingLaws.{IsEncodable}
use Rattle.jpg_spec_image.specs.Images.{Image}
use Rattle.jpg_spec_words.specs.declared.answers.Why.{Why}
use Rattle.jpg_spec_words.specs.declared.answers.Why.TheVariants as why
use Rattle.jpg_color.specs.EncodeView.{view_meaning}
use Rattle.jpg_color.specs.declared.encode.view.EncodedImage.{EncodedImage}
use Rattle.jpg_desk.specs.declared.encoded_rows.EncodedPicture.{EncodedPicture}
use Rattle.jpg_desk.specs.declared.encoded_rows.EncodedPicture.TheVariants as picture
use Rattle.jpg_desk.specs.Endings.{Asks}
use Rattle.jpg_desk.specs.EncodedRows.{IsEncodedRows}
use Rattle.jpg_desk.specs.Judging.{NoValueRead, NoValueTaken, ReadsFrom, TakesPieces}
use Rattle.jpg_desk.specs.ReadImage.{IsImageRead, image_judging}
use Rattle.jpg_desk.specs.Reading.{rest_of}

-- the picture of the image, which can be encoded and has no fault of its factors and grids
pub record IsEncodedImage (e : Encoding) (I : Image) (v : EncodedImage) : Type 0 where
  pub can : IsEncodable e I
  pub faultless : sampling_fault e I ≡ None
  pub means : view_meaning v ≡ encoded e I
  pub jfif : v.jfif ≡ density_of I.info

-- or the data of its one scan
abbrev pub IsEncodedPicture : Encoding → Image → EncodedPicture → Type 0
IsEncodedPicture e I (picture.Planes v) = IsEncodedImage e I v
IsEncodedPicture e I (picture.Rows r) = IsEncodedRows e I r

-- it, or the fault
abbrev pub Encodes : Encoding → Image → Result EncodedPicture Why → Type 0
Encodes e I (Ok v) = IsEncodedPicture e I v
Encodes e I (Err (why.Picture fault)) = sampling_fault e I ≡ Some fault
Encodes e I (Err why.NoMemory) = Unit {0}
Encodes e I (Err other) = ⊥

-- FROM A DESK whose input is open: an image was read and encoded, or has a fault; or why there is none
abbrev pub EndsEncoding : Bool → (Image → Encoding) → DeskState → Result EncodedPicture Why → DeskState → Type 0
EndsEncoding targa E old (Ok v) new = (I : Image) × TakesPieces (IsImageRead targa I (rest_of new.left)) old new × IsEncodedPicture (E I) I v
EndsEncoding targa E old (Err (why.Picture fault)) new = (I : Image) × TakesPieces (IsImageRead targa I (rest_of new.left)) old new × (sampling_fault (E I) I ≡ Some fault)
EndsEncoding targa E old (Err other) new = NoValueTaken (image_judging targa) old other new

-- FROM THE NAME of the file
abbrev pub EncodedRead : Bool → (Image → Encoding) → Name → DeskState → Result EncodedPicture Why → DeskState → Type 0
EncodedRead targa E file old (Ok v) new =
    Asks (file ∷ []) put.Done old new × ((I : Image) × ReadsFrom (Some file) (IsImageRead targa I (rest_of new.left)) old new × IsEncodedPicture (E I) I v)
EncodedRead targa E file old (Err (why.Picture fault)) new =
    Asks (file ∷ []) put.Done old new × ((I : Image) × ReadsFrom (Some file) (IsImageRead targa I (rest_of new.left)) old new × (sampling_fault (E I) I ≡ Some fault))
EncodedRead targa E file old (Err other) new = NoValueRead (image_judging targa) file old other new
