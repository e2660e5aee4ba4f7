-- The result of the bytes of a Targa file, one by one. TargaFaults defines what its image is.
use Rattle.std.specs.Prelude.{ℕ, ◌+◌, ◌-◌, ◌*◌, nat_lt, ◌==◌, if◌then◌else◌, List, [], ◌∷◌, ◌++◌, length, take, flat_map, Option, None, Some}
use Rattle.jpg_spec.specs.Lists.{below}
use Rattle.jpg_spec_image.specs.Images.{Image, sample_count}
use Rattle.jpg_spec_image.specs.TargaFile.{identifier_length, is_packed, pixel_size, targa_kind, targa_info, targa_fault, targa_image}
use Rattle.jpg_spec.specs.declared.fault.Fault.{Fault}

-- the first bytes of a header; a header, and how many bytes of the identifier are left; the bytes of pixels so far, at
-- the end of a packet; these, the number of copies, and a part of the pixel to be copied; these, and how many bytes of
-- the packet's pixels, or of raw pixels, are left. Then an image or a fault with the last byte, bytes after it, or a
-- number that is no byte where a packet begins.
pub data TargaState : Type 0 where
  in_head : List ℕ → TargaState
  in_identifier : List ℕ → ℕ → TargaState
  at_packet : List ℕ → List ℕ → TargaState
  in_copies : List ℕ → List ℕ → ℕ → List ℕ → TargaState
  in_pixels : List ℕ → List ℕ → ℕ → TargaState
  whole : Image → TargaState
  failed : Fault → TargaState
  past : TargaState
  lost : TargaState

abbrev pub at_start : TargaState
at_start = in_head []

abbrev pub fault_or : Option Fault → TargaState → TargaState
fault_or None s = s
fault_or (Some fault) s = failed fault

-- how many bytes the image's pixels have, and each of them
abbrev pub total : List ℕ → ℕ
total head = sample_count (targa_info head)

abbrev pub size : List ℕ → ℕ
size head = pixel_size (targa_kind head)

-- the image, if these are the bytes of all its pixels
abbrev pub grown : List ℕ → List ℕ → TargaState → TargaState
grown head bytes s = if nat_lt (length bytes) (total head) then s else whole (targa_image head bytes)

abbrev pub body_begun : List ℕ → TargaState
body_begun head = if is_packed head then at_packet head [] else in_pixels head [] (total head)

abbrev pub identifier_left : List ℕ → ℕ → TargaState
identifier_left head left = if left == 0 then body_begun head else in_identifier head left

abbrev pub head_so_far : List ℕ → TargaState
head_so_far head = if nat_lt (length head) 18 then in_head head else fault_or (targa_fault head) (identifier_left head (identifier_length head))

abbrev pub packet_byte : List ℕ → List ℕ → ℕ → TargaState
packet_byte head bytes b =
    if nat_lt b 128 then in_pixels head bytes ((b + 1) * size head)
    else if nat_lt b 256 then in_copies head bytes (b - 127) []
    else lost

-- bytes of pixels and these copies of a pixel, without those that pass the image's end
abbrev pub with_copies : List ℕ → List ℕ → ℕ → List ℕ → List ℕ
with_copies head bytes count pixel = take (total head) (bytes ++ flat_map (λ n. pixel) (below count))

abbrev pub copied : List ℕ → List ℕ → TargaState
copied head bytes = grown head bytes (at_packet head bytes)

abbrev pub copies_so_far : List ℕ → List ℕ → ℕ → List ℕ → TargaState
copies_so_far head bytes count pixel = if nat_lt (length pixel) (size head) then in_copies head bytes count pixel else copied head (with_copies head bytes count pixel)

abbrev pub pixels_so_far : List ℕ → List ℕ → ℕ → TargaState
pixels_so_far head bytes left = grown head bytes (if left == 0 then at_packet head bytes else in_pixels head bytes left)

abbrev pub step : TargaState → ℕ → TargaState
step (in_head head) b = head_so_far (head ++ b ∷ [])
step (in_identifier head left) b = identifier_left head (left - 1)
step (at_packet head bytes) b = packet_byte head bytes b
step (in_copies head bytes count pixel) b = copies_so_far head bytes count (pixel ++ b ∷ [])
step (in_pixels head bytes left) b = pixels_so_far head (bytes ++ b ∷ []) (left - 1)
step (whole image) b = past
step (failed fault) b = past
step past b = past
step lost b = lost

unfoldable pub run : TargaState → List ℕ → TargaState
run s [] = s
run s (b ∷ bytes) = run (step s b) bytes
