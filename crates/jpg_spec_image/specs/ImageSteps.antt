-- The result of the bytes of an image file, one by one. ImageFaults defines what an image is.
use Rattle.std.specs.Prelude.{ℕ, ◌+◌, ◌-◌, ◌*◌, min, Bool, true, false, nat_lt, not, ◌&&◌, ◌||◌, ◌==◌, if◌then◌else◌, List, [], ◌∷◌, ◌++◌, length, drop, Option, None, Some, Result, Ok, Err}
use Rattle.jpg_spec.specs.NumberTexts.{is_digit, in_comment}
use Rattle.jpg_spec_image.specs.Images.{Image, is_wrong}
use Rattle.jpg_spec_image.specs.PnmText.{is_plain, is_read, is_left_out, begins_gap, is_number_due, number_fault, ended_fault}
use Rattle.jpg_spec_image.specs.BmpFile.{bmp_fault, palette_bytes, bmp_offset}
use Rattle.jpg_spec_image.specs.ImageFaults.{ImageHead, pnm, bmp, body_of, image_of}
use Rattle.jpg_spec.specs.declared.fault.Fault.{Fault}
use Rattle.jpg_spec.specs.declared.fault.Fault.TheVariants.{ImageText, ImageUnsupported, ImageShort, ImageValue}

-- nothing; P or B; in a PNM text its digit and numbers, and then a gap (whether it has bytes, whether a comment goes
-- on) or the current number; the first bytes of a BMP, or all 54, the palette so far, and how many bytes follow the 54;
-- a body so far. Then an image or a fault with the last byte, or bytes after it.
pub data ImageState : Type 0 where
  at_start : ImageState
  behind_first : ℕ → ImageState
  in_gap : ℕ → List ℕ → Bool → Bool → ImageState
  in_number : ℕ → List ℕ → ℕ → ImageState
  in_bmp_head : List ℕ → ImageState
  in_bmp_front : List ℕ → List ℕ → ℕ → ImageState
  in_body : ImageHead → List ℕ → ImageState
  whole : Image → ImageState
  failed : Fault → ImageState
  past : ImageState

abbrev pub fault_or : Option Fault → ImageState → ImageState
fault_or None s = s
fault_or (Some fault) s = failed fault

-- the current number counts up to a bound above all that are allowed
abbrev pub capped : ℕ → ℕ
capped n = min n 100000

abbrev pub first_byte : ℕ → ImageState
first_byte b = if b == 80 || b == 66 then behind_first b else failed ImageText

abbrev pub second_byte : ℕ → ℕ → ImageState
second_byte first b =
    if first == 66 then (if b == 77 then in_bmp_head (66 ∷ 77 ∷ []) else failed ImageText)
    else if is_read b then in_gap b [] false false
    else if is_left_out b then failed ImageUnsupported
    else failed ImageText

abbrev pub gap_byte : ℕ → List ℕ → Bool → Bool → ℕ → ImageState
gap_byte format numbers some commented b =
    if commented || begins_gap b then in_gap format numbers true (in_comment commented b)
    else if some && is_digit b then in_number format numbers (b - 48)
    else failed ImageText

-- the image of P2 and P3
abbrev pub plain_image : ℕ → List ℕ → Image
plain_image format numbers = image_of (pnm format numbers) (drop 3 numbers)

-- these numbers have ended before a byte
abbrev pub after_number : ℕ → List ℕ → ℕ → ImageState
after_number format numbers b =
    if is_number_due format numbers then in_gap format numbers true (in_comment false b)
    else if is_plain format then whole (plain_image format numbers)
    else in_body (pnm format numbers) []

abbrev pub number_byte : ℕ → List ℕ → ℕ → ℕ → ImageState
number_byte format numbers n b =
    if is_digit b then in_number format numbers (capped (10 * n + (b - 48)))
    else fault_or (ended_fault format numbers n b) (after_number format (numbers ++ n ∷ []) b)

abbrev pub bmp_front : List ℕ → List ℕ → ℕ → ImageState
bmp_front head palette passed = if nat_lt (54 + passed) (bmp_offset head) then in_bmp_front head palette passed else in_body (bmp head palette) []

abbrev pub head_so_far : List ℕ → ImageState
head_so_far head = if nat_lt (length head) 54 then in_bmp_head head else fault_or (bmp_fault head) (bmp_front head [] 0)

abbrev pub front_byte : List ℕ → List ℕ → ℕ → ℕ → ImageState
front_byte head palette passed b = bmp_front head (if nat_lt passed (palette_bytes head) then palette ++ b ∷ [] else palette) (passed + 1)

abbrev pub body_so_far : ImageHead → List ℕ → ImageState
body_so_far head body = if nat_lt (length body) (body_of head).count then in_body head body else whole (image_of head body)

abbrev pub body_byte : ImageHead → List ℕ → ℕ → ImageState
body_byte head body b = if is_wrong (body_of head) (length body) b then failed ImageValue else body_so_far head (body ++ b ∷ [])

abbrev pub step : ImageState → ℕ → ImageState
step at_start b = first_byte b
step (behind_first first) b = second_byte first b
step (in_gap format numbers some commented) b = gap_byte format numbers some commented b
step (in_number format numbers n) b = number_byte format numbers n b
step (in_bmp_head head) b = head_so_far (head ++ b ∷ [])
step (in_bmp_front head palette passed) b = front_byte head palette passed b
step (in_body head body) b = body_byte head body b
step (whole image) b = past
step (failed fault) b = past
step past b = past

unfoldable pub run : ImageState → List ℕ → ImageState
run s [] = s
run s (b ∷ bytes) = run (step s b) bytes

-- THE END

abbrev pub ended_by : ℕ → List ℕ → ℕ → Option Fault → Result Image Fault
ended_by format numbers n (Some fault) = Err fault
ended_by format numbers n None = if is_plain format && not (is_number_due format (numbers ++ n ∷ [])) then Ok (plain_image format (numbers ++ n ∷ [])) else Err ImageShort

abbrev pub state_end : ImageState → Result Image Fault
state_end at_start = Err ImageShort
state_end (behind_first first) = Err ImageShort
state_end (in_gap format numbers some commented) = Err ImageShort
state_end (in_number format numbers n) = ended_by format numbers n (number_fault numbers n)
state_end (in_bmp_head head) = Err ImageShort
state_end (in_bmp_front head palette passed) = Err ImageShort
state_end (in_body head body) = Err ImageShort
state_end (whole image) = Ok image
state_end (failed fault) = Err fault
state_end past = Err ImageShort
