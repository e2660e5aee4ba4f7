-- WHAT AN IMAGE FILE MEANS, and its first fault: which prefix of the bytes is complete, which has a fault, and what is
-- judged where the bytes end. No clause mentions a reader or pieces.
use Rattle.std.specs.Prelude.{◌≡◌, ◌⊎◌, ℕ, ◌+◌, ◌-◌, ◌*◌, ◌<◌, ◌≤◌, Bool, true, false, not, ◌&&◌, ◌||◌, ◌==◌, if◌then◌else◌, List, [], ◌∷◌, ◌++◌, length, map, take, drop, Some}
use Rattle.jpg_spec.specs.Lists.{is_empty, begins_with}
use Rattle.jpg_spec.specs.NumberTexts.{is_digit}
use Rattle.jpg_spec.specs.Markers.{IsLeast}
use Rattle.jpg_spec_image.specs.Images.{Image, Body, sample_count, is_wrong, are_right}
use Rattle.jpg_spec_image.specs.PnmText.{is_plain, is_raw, is_left_out, is_read, is_pnm_space, begins_gap, ends_in_comment, is_gap_so_far, pnm_info, greatest_sample, number_fault, ended_fault, AfterNumbers, AfterNumber, AfterLast, scaled_sample}
use Rattle.jpg_spec_image.specs.BmpFile.{bmp_info, bmp_fault, bmp_body_samples, bmp_depth, palette_entries, height, used, line, IsBmpFront}
use Rattle.jpg_spec.specs.declared.fault.Fault.{Fault}
use Rattle.jpg_spec.specs.declared.fault.Fault.TheVariants.{ImageText, ImageUnsupported, ImageShort, ImageValue, InputTooLong}
use Rattle.jpg_spec.specs.declared.frame.Limits.{Limits}

-- WHAT PRECEDES A BODY, by format

-- P5 or P6, by its digit, with its three numbers; a BMP by its 54 bytes and its palette
pub data ImageHead : Type 0 where
  pnm : ℕ → List ℕ → ImageHead
  bmp : List ℕ → List ℕ → ImageHead

abbrev pub IsBodyFront : ImageHead → List ℕ → Type 0
IsBodyFront (pnm format numbers) front = (b : ℕ) × AfterLast front format numbers (b ∷ []) × (is_raw format ≡ true) × (is_pnm_space b ≡ true)
IsBodyFront (bmp head palette) front = IsBmpFront head palette front

abbrev pub one_line : ℕ → ℕ → Body
one_line count limit = record { count = count; line = count; used = count; limit = limit }

-- of the last line of a BMP only the bytes that are used
abbrev pub body_of : ImageHead → Body
body_of (pnm format numbers) = one_line (sample_count (pnm_info format numbers)) (greatest_sample numbers + 1)
body_of (bmp head palette) = record {
  count = line head * (height head - 1) + used head;
  line = line head;
  used = used head;
  limit = if bmp_depth head == 8 then palette_entries head else 256;
}

abbrev pub image_of : ImageHead → List ℕ → Image
image_of (pnm format numbers) body = record { info = pnm_info format numbers; samples = map (scaled_sample (greatest_sample numbers)) body }
image_of (bmp head palette) body = record { info = bmp_info head; samples = bmp_body_samples head palette body }

-- COMPLETE: the last of the bytes makes the last sample known

-- P2 or P3: a byte after the last number ends it
abbrev pub IsPlainWhole : List ℕ → List ℕ → Image → Type 0
IsPlainWhole bytes after image =
    (format : ℕ) × (numbers : List ℕ) × AfterLast bytes format numbers after × (is_plain format ≡ true) × (image ≡ image_of (pnm format numbers) (drop 3 numbers))

abbrev pub IsBodyWhole : List ℕ → Image → Type 0
IsBodyWhole bytes image =
    (head : ImageHead) × (front : List ℕ) × (body : List ℕ) × IsBodyFront head front × (bytes ≡ front ++ body)
    × (length body ≡ (body_of head).count) × (are_right (body_of head) 0 body ≡ true) × (image ≡ image_of head body)

abbrev pub IsWholeImage : List ℕ → Image → Type 0
IsWholeImage bytes image = ((b : ℕ) × IsPlainWhole bytes (b ∷ []) image × (is_digit b ≡ false)) ⊎ IsBodyWhole bytes image

-- WHICH FAULT the last of the bytes reveals

-- byte 1 is neither P nor B, or byte 2 isn't M after B, or a digit from 1 to 7 after P
abbrev pub ShowsNoFormat : List ℕ → Type 0
ShowsNoFormat bytes =
    ((b : ℕ) × (bytes ≡ b ∷ []) × ((b == 80 || b == 66) ≡ false))
    ⊎ (((b : ℕ) × (bytes ≡ 66 ∷ b ∷ []) × ((b == 77) ≡ false))
    ⊎ ((b : ℕ) × (bytes ≡ 80 ∷ b ∷ []) × (is_read b ≡ false) × (is_left_out b ≡ false)))

abbrev pub ShowsLeftOut : List ℕ → Type 0
ShowsLeftOut bytes = (b : ℕ) × (bytes ≡ 80 ∷ b ∷ []) × (is_left_out b ≡ true)

-- neither space nor a comment nor, after some of them, a digit
abbrev pub is_astray : List ℕ → ℕ → Bool
is_astray gap b = not (begins_gap b) && (is_empty gap || not (is_digit b))

-- such a byte, where a number is expected
abbrev pub ShowsNoNumber : List ℕ → Type 0
ShowsNoNumber bytes =
    (format : ℕ) × (numbers : List ℕ) × (gap : List ℕ) × (b : ℕ) × AfterNumbers bytes format numbers (gap ++ b ∷ []) × ((is_empty gap && not (is_empty numbers)) ≡ false)
    × (is_gap_so_far gap ≡ true) × (ends_in_comment false gap ≡ false) × (is_astray gap b ≡ true)

-- a number that ends with a byte that isn't allowed after it, or with which something is wrong
abbrev pub ShowsNumber : Fault → List ℕ → Type 0
ShowsNumber fault bytes =
    (format : ℕ) × (numbers : List ℕ) × (n : ℕ) × (b : ℕ) × AfterNumber bytes format numbers n (b ∷ []) × (is_digit b ≡ false) × (ended_fault format numbers n b ≡ Some fault)

-- 54 bytes that begin as a BMP does
abbrev pub ShowsBmpHead : Fault → List ℕ → Type 0
ShowsBmpHead fault bytes = (length bytes ≡ 54) × (begins_with (66 ∷ 77 ∷ []) bytes ≡ true) × (bmp_fault bytes ≡ Some fault)

-- a byte of the body above its limit
abbrev pub ShowsSample : List ℕ → Type 0
ShowsSample bytes =
    (head : ImageHead) × (front : List ℕ) × (body : List ℕ) × (b : ℕ) × IsBodyFront head front × (bytes ≡ front ++ (body ++ b ∷ []))
    × (length body < (body_of head).count) × (are_right (body_of head) 0 body ≡ true) × (is_wrong (body_of head) (length body) b ≡ true)

abbrev pub ShowsImageFault : Fault → List ℕ → Type 0
ShowsImageFault fault bytes =
    ((fault ≡ ImageText) × ShowsNoFormat bytes)
    ⊎ (((fault ≡ ImageUnsupported) × ShowsLeftOut bytes)
    ⊎ (((fault ≡ ImageText) × ShowsNoNumber bytes)
    ⊎ (ShowsNumber fault bytes
    ⊎ (ShowsBmpHead fault bytes
    ⊎ ((fault ≡ ImageValue) × ShowsSample bytes)))))

-- WHERE THE BYTES END: a number that ends with them is judged there

abbrev pub EndShows : Fault → List ℕ → Type 0
EndShows fault bytes = (format : ℕ) × (numbers : List ℕ) × (n : ℕ) × AfterNumber bytes format numbers n [] × (number_fault numbers n ≡ Some fault)

abbrev pub EndIsWhole : List ℕ → Image → Type 0
EndIsWhole bytes image = IsPlainWhole bytes [] image

-- THE IMAGE, AND THE FIRST FAULT

-- no prefix of the bytes is complete or has a fault
abbrev pub IsOpenImage : List ℕ → Type 0
IsOpenImage bytes = (n : ℕ) → n ≤ length bytes → ((fault : Fault) → ShowsImageFault fault (take n bytes) → ⊥) × ((image : Image) → IsWholeImage (take n bytes) image → ⊥)

-- A file has an image if a prefix within the limit is complete. What follows it is left unread.
abbrev pub IsImage : Limits → List ℕ → Image → Type 0
IsImage limits bytes image =
    ((n : ℕ) × (n ≤ length bytes) × (n ≤ limits.input) × IsWholeImage (take n bytes) image)
    ⊎ ((length bytes < limits.input) × IsOpenImage bytes × EndIsWhole bytes image)

-- the fault of bytes at the input's end, no prefix of which is complete or has one
abbrev pub IsEndFault : List ℕ → Fault → Type 0
IsEndFault bytes fault = EndShows fault bytes ⊎ ((fault ≡ ImageShort) × ((other : Fault) → EndShows other bytes → ⊥) × ((image : Image) → EndIsWhole bytes image → ⊥))

-- If the bytes up to the limit have no complete image and no fault, the input is too long. A number that ends with them
-- isn't judged.
abbrev pub IsImageFault : Limits → List ℕ → Fault → ℕ → Type 0
IsImageFault limits bytes fault n =
    ((n ≤ limits.input) × IsLeast ShowsImageFault bytes fault n)
    ⊎ (((fault ≡ InputTooLong) × (n ≡ limits.input) × (limits.input ≤ length bytes) × IsOpenImage (take limits.input bytes))
    ⊎ ((n ≡ length bytes) × (length bytes < limits.input) × IsOpenImage bytes × IsEndFault bytes fault))
