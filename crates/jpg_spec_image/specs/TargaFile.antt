-- A TARGA FILE (Truevision TGA File Format Specification, version 2.0): a header of 18 bytes, an identifier that is
-- skipped, and pixels by rows, each one byte (gray) or three (blue, green, red); raw, or in packets.
use Rattle.std.specs.Prelude.{◌≡◌, ℕ, ◌+◌, ◌-◌, ◌*◌, ◌/◌, ◌%◌, ◌<◌, ◌≤◌, Bool, true, false, nat_le, not, ◌&&◌, ◌||◌, ◌==◌, if◌then◌else◌, List, [], ◌∷◌, ◌++◌, length, take, drop, flat_map, slice_index, Option, None, Some}
use Rattle.jpg_spec.specs.Lists.{all_of, is_among, below}
use Rattle.jpg_spec_image.specs.ImageText.{depth, file_samples, row_bytes}
use Rattle.jpg_spec_image.specs.Images.{Image, sample_count, is_side, are_few_pixels}
use Rattle.jpg_spec_image.specs.BmpFile.{short_at}
use Rattle.jpg_spec.specs.declared.fault.Fault.{Fault}
use Rattle.jpg_spec.specs.declared.fault.Fault.TheVariants.{ImageHeader, ImageUnsupported}
use Rattle.jpg_spec_image.specs.declared.image.ImageKind.{ImageKind}
use Rattle.jpg_spec_image.specs.declared.image.ImageKind.TheVariants.{Gray, Rgb}
use Rattle.jpg_spec_image.specs.declared.image.ImageInfo.{ImageInfo}

-- THE HEADER. The bytes of the colour map (3 to 7) and of the origin (8 to 11) aren't looked at.

abbrev pub identifier_length : List ℕ → ℕ
identifier_length head = slice_index head 0

abbrev pub colour_map_type : List ℕ → ℕ
colour_map_type head = slice_index head 1

-- 2 and 3: raw colours, raw grays; 10 and 11: the same in packets
abbrev pub image_type : List ℕ → ℕ
image_type head = slice_index head 2

abbrev pub targa_width : List ℕ → ℕ
targa_width head = short_at head 12

abbrev pub targa_height : List ℕ → ℕ
targa_height head = short_at head 14

abbrev pub targa_depth : List ℕ → ℕ
targa_depth head = slice_index head 16

abbrev pub descriptor : List ℕ → ℕ
descriptor head = slice_index head 17

abbrev pub targa_kind : List ℕ → ImageKind
targa_kind head = if is_among (image_type head) (3 ∷ 11 ∷ []) then Gray else Rgb

abbrev pub is_packed : List ℕ → Bool
is_packed head = is_among (image_type head) (10 ∷ 11 ∷ [])

-- bit 5
abbrev pub is_from_top : List ℕ → Bool
is_from_top head = descriptor head / 32 % 2 == 1

-- columns from the right (bit 4), and rows that are interleaved (bits 6 and 7)
abbrev pub is_ordered_otherwise : List ℕ → Bool
is_ordered_otherwise head = not (descriptor head / 16 % 2 == 0) || not (descriptor head / 64 == 0)

abbrev pub targa_info : List ℕ → ImageInfo
targa_info head = record { width = targa_width head; height = targa_height head; kind = targa_kind head; x_metre = 0; y_metre = 0 }

-- WHAT IS WRONG with a header

abbrev pub is_left_out_targa : List ℕ → Bool
is_left_out_targa head =
    not (colour_map_type head == 0)
    || (not (is_among (image_type head) (2 ∷ 3 ∷ 10 ∷ 11 ∷ [])) || (not (targa_depth head == depth (targa_kind head)) || is_ordered_otherwise head))

abbrev pub has_targa_sides : List ℕ → Bool
has_targa_sides head = (is_side (targa_width head) && is_side (targa_height head)) && are_few_pixels (targa_width head) (targa_height head)

abbrev pub targa_fault : List ℕ → Option Fault
targa_fault head = if is_left_out_targa head then Some ImageUnsupported else if has_targa_sides head then None else Some ImageHeader

-- THE PIXELS: raw, or in packets, which may pass the ends of rows

abbrev pub pixel_size : ImageKind → ℕ
pixel_size Gray = 1
pixel_size Rgb = 3

-- from 1 to 128 copies of a pixel, or that many pixels by their bytes
pub data Packet : Type 0 where
  copies : ℕ → List ℕ → Packet
  pixels : ℕ → List ℕ → Packet

abbrev pub is_packet : ℕ → Packet → Bool
is_packet size (copies count pixel) = (nat_le 1 count && nat_le count 128) && length pixel == size
is_packet size (pixels count bytes) = (nat_le 1 count && nat_le count 128) && length bytes == count * size

abbrev pub packet_text : Packet → List ℕ
packet_text (copies count pixel) = (127 + count) ∷ pixel
packet_text (pixels count bytes) = (count - 1) ∷ bytes

abbrev pub packet_bytes : Packet → List ℕ
packet_bytes (copies count pixel) = flat_map (λ n. pixel) (below count)
packet_bytes (pixels count bytes) = bytes

-- what is read of the packet that has the image's last pixel, where so many bytes of pixels are missing before it: all
-- of a pixel's copies, and pixels up to the last one
abbrev pub last_text : ℕ → Packet → List ℕ
last_text missing (copies count pixel) = packet_text (copies count pixel)
last_text missing (pixels count bytes) = take (1 + missing) (packet_text (pixels count bytes))

-- These bytes are the first `count` bytes of the pixels of packets, and the body ends with the byte that makes the last
-- of them known.
pub record IsPackedBody (size count : ℕ) (body bytes : List ℕ) : Type 0 where
  pub packets : List Packet
  pub last : Packet
  pub formed : all_of (is_packet size) packets ≡ true
  pub last_formed : is_packet size last ≡ true
  pub unfinished : length (flat_map packet_bytes packets) < count
  pub enough : count ≤ length (flat_map packet_bytes packets ++ packet_bytes last)
  pub cut : body ≡ flat_map packet_text packets ++ last_text (count - length (flat_map packet_bytes packets)) last
  pub same : bytes ≡ take count (flat_map packet_bytes packets ++ packet_bytes last)

abbrev pub IsRawBody : ℕ → List ℕ → List ℕ → Type 0
IsRawBody count body bytes = (bytes ≡ body) × (length body ≡ count)

abbrev pub IsBodyOf : Bool → ℕ → ℕ → List ℕ → List ℕ → Type 0
IsBodyOf true size count body bytes = IsPackedBody size count body bytes
IsBodyOf false size count body bytes = IsRawBody count body bytes

abbrev pub IsTargaBody : List ℕ → List ℕ → List ℕ → Type 0
IsTargaBody head body bytes = IsBodyOf (is_packed head) (pixel_size (targa_kind head)) (sample_count (targa_info head)) body bytes

-- THE IMAGE: rows from the top, or from the bottom up

abbrev pub targa_row : List ℕ → List ℕ → ℕ → List ℕ
targa_row head bytes y =
    let line = row_bytes (targa_info head) in
    take line (drop (line * (if is_from_top head then y else targa_height head - 1 - y)) bytes)

abbrev pub targa_image : List ℕ → List ℕ → Image
targa_image head bytes = record {
  info = targa_info head;
  samples = flat_map (λ y. file_samples (targa_kind head) (targa_row head bytes y)) (below (targa_height head));
}

-- 18 bytes with which nothing is wrong, and the identifier
pub record IsTargaFront (head front : List ℕ) : Type 0 where
  pub identifier : List ℕ
  pub cut : front ≡ head ++ identifier
  pub long : length head ≡ 18
  pub right : targa_fault head ≡ None
  pub identifier_long : length identifier ≡ identifier_length head
