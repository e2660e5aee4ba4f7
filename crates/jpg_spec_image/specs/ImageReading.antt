-- The state after the bytes of an image so far.
use Rattle.std.specs.Prelude.{◌≡◌, ◌⊎◌, ℕ, ◌+◌, ◌<◌, Bool, true, false, not, ◌&&◌, ◌||◌, ◌==◌, if◌then◌else◌, List, [], ◌∷◌, ◌++◌, length, take}
use Rattle.jpg_spec.specs.Lists.{is_empty, begins_with}
use Rattle.jpg_spec_image.specs.Images.{Image, are_right}
use Rattle.jpg_spec_image.specs.PnmText.{ends_in_comment, is_gap_so_far, AfterNumbers, AfterNumber}
use Rattle.jpg_spec_image.specs.BmpFile.{palette_bytes, bmp_offset, IsBmpHead}
use Rattle.jpg_spec_image.specs.ImageFaults.{ImageHead, body_of, IsBodyFront, IsWholeImage, ShowsImageFault}
use Rattle.jpg_spec_image.specs.ImageSteps.{ImageState, at_start, behind_first, in_gap, in_number, in_bmp_head, in_bmp_front, in_body, whole, failed, past, capped}
use Rattle.jpg_spec.specs.declared.fault.Fault.{Fault}

-- a prefix of the bytes, but not all of them, is complete or has a fault
abbrev pub IsPast : List ℕ → Type 0
IsPast bytes = (n : ℕ) × (n < length bytes) × (((image : Image) × IsWholeImage (take n bytes) image) ⊎ ((fault : Fault) × ShowsImageFault fault (take n bytes)))

pub record InGap (bytes : List ℕ) (format : ℕ) (numbers : List ℕ) (some commented : Bool) : Type 0 where
  pub gap : List ℕ
  pub behind : AfterNumbers bytes format numbers gap
  pub some_is : some ≡ (if is_empty gap then false else true)
  pub first : (is_empty gap && not (is_empty numbers)) ≡ false
  pub so_far : is_gap_so_far gap ≡ true
  pub comment : ends_in_comment false gap ≡ commented

pub record InFront (bytes head palette : List ℕ) (passed : ℕ) : Type 0 where
  pub behind : List ℕ
  pub cut : bytes ≡ head ++ behind
  pub header : IsBmpHead head
  pub palette_is : palette ≡ take (palette_bytes head) behind
  pub passed_is : passed ≡ length behind
  pub room : 54 + length behind < bmp_offset head

pub record InBody (bytes : List ℕ) (head : ImageHead) (body : List ℕ) : Type 0 where
  pub front : List ℕ
  pub header : IsBodyFront head front
  pub cut : bytes ≡ front ++ body
  pub right : are_right (body_of head) 0 body ≡ true
  pub room : length body < (body_of head).count

abbrev pub RepresentsImage : List ℕ → ImageState → Type 0
RepresentsImage bytes at_start = bytes ≡ []
RepresentsImage bytes (behind_first first) = (bytes ≡ first ∷ []) × ((first == 80 || first == 66) ≡ true)
RepresentsImage bytes (in_gap format numbers some commented) = InGap bytes format numbers some commented
RepresentsImage bytes (in_number format numbers n) = (m : ℕ) × AfterNumber bytes format numbers m [] × (n ≡ capped m)
RepresentsImage bytes (in_bmp_head head) = (bytes ≡ head) × (length head < 54) × (begins_with (66 ∷ 77 ∷ []) head ≡ true)
RepresentsImage bytes (in_bmp_front head palette passed) = InFront bytes head palette passed
RepresentsImage bytes (in_body head body) = InBody bytes head body
RepresentsImage bytes (whole image) = IsWholeImage bytes image
RepresentsImage bytes (failed fault) = ShowsImageFault fault bytes
RepresentsImage bytes past = IsPast bytes
