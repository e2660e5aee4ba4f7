-- THE HEADER OF A BMP IMAGE: 14 bytes with the place of the pixels, and 40 bytes with the image's numbers; then a
-- palette, where the depth is 8.
use Rattle.std.specs.Prelude.{◌≡◌, ℕ, ◌+◌, ◌-◌, ◌*◌, Bool, true, nat_lt, not, ◌&&◌, ◌||◌, ◌==◌, if◌then◌else◌, List, [], ◌∷◌, ◌++◌, length, take, drop, flat_map, slice_index, Option, None, Some, codes}
use Rattle.jpg_spec.specs.Lists.{is_among, begins_with, below}
use Rattle.jpg_spec.specs.Segments.{two_bytes}
use Rattle.jpg_spec_image.specs.ImageText.{padding, turned_round}
use Rattle.jpg_spec_image.specs.Images.{is_side, are_few_pixels}
use Rattle.jpg_spec.specs.declared.fault.Fault.{Fault}
use Rattle.jpg_spec.specs.declared.fault.Fault.TheVariants.{ImageHeader, ImageUnsupported}
use Rattle.jpg_spec_image.specs.declared.image.ImageKind.TheVariants.{Rgb}
use Rattle.jpg_spec_image.specs.declared.image.ImageInfo.{ImageInfo}

-- NUMBERS of two and of four bytes, the low ones first. A negative one is above all that are allowed.

abbrev pub short_at : List ℕ → ℕ → ℕ
short_at head place = two_bytes (slice_index head (place + 1)) (slice_index head place)

abbrev pub long_at : List ℕ → ℕ → ℕ
long_at head place = 65536 * short_at head (place + 2) + short_at head place

abbrev pub bmp_offset : List ℕ → ℕ
bmp_offset head = long_at head 10

abbrev pub header_size : List ℕ → ℕ
header_size head = long_at head 14

abbrev pub width : List ℕ → ℕ
width head = long_at head 18

abbrev pub height : List ℕ → ℕ
height head = long_at head 22

abbrev pub planes : List ℕ → ℕ
planes head = short_at head 26

abbrev pub bmp_depth : List ℕ → ℕ
bmp_depth head = short_at head 28

abbrev pub compression : List ℕ → ℕ
compression head = long_at head 30

abbrev pub colours_used : List ℕ → ℕ
colours_used head = long_at head 46

abbrev pub bmp_info : List ℕ → ImageInfo
bmp_info head = record { width = width head; height = height head; kind = Rgb; x_metre = long_at head 38; y_metre = long_at head 42 }

-- THE PALETTE: 256 entries if no number is given, each of blue, green, red and an unused byte

abbrev pub palette_entries : List ℕ → ℕ
palette_entries head = if bmp_depth head == 8 then (if colours_used head == 0 then 256 else colours_used head) else 0

abbrev pub palette_bytes : List ℕ → ℕ
palette_bytes head = 4 * palette_entries head

-- red, green and blue
abbrev pub colour : List ℕ → ℕ → List ℕ
colour palette n = slice_index palette (4 * n + 2) ∷ slice_index palette (4 * n + 1) ∷ slice_index palette (4 * n) ∷ []

-- WHAT IS WRONG with a header

abbrev pub has_wrong_precision : List ℕ → Bool
has_wrong_precision head = not (header_size head == 40) || (not (is_among (bmp_depth head) (8 ∷ 24 ∷ [])) || not (compression head == 0))

abbrev pub is_forbidden : List ℕ → Bool
is_forbidden head =
    not ((is_side (width head) && is_side (height head)) && are_few_pixels (width head) (height head))
    || (not (planes head == 1) || (bmp_depth head == 8 && nat_lt 256 (colours_used head) || nat_lt (bmp_offset head) (54 + palette_bytes head)))

abbrev pub bmp_fault : List ℕ → Option Fault
bmp_fault head = if has_wrong_precision head then Some ImageUnsupported else if is_forbidden head then Some ImageHeader else None

-- ROWS, from the bottom up, each a multiple of four bytes

abbrev pub used : List ℕ → ℕ
used head = if bmp_depth head == 8 then width head else 3 * width head

abbrev pub line : List ℕ → ℕ
line head = used head + padding (used head)

-- row y from the top
abbrev pub bmp_line : List ℕ → List ℕ → ℕ → List ℕ
bmp_line head body y = take (used head) (drop (line head * (height head - 1 - y)) body)

abbrev pub colours : List ℕ → List ℕ → List ℕ → List ℕ
colours head palette row = if bmp_depth head == 8 then flat_map (colour palette) row else turned_round row

abbrev pub bmp_body_samples : List ℕ → List ℕ → List ℕ → List ℕ
bmp_body_samples head palette body = flat_map (λ y. colours head palette (bmp_line head body y)) (below (height head))

-- 54 bytes with which nothing is wrong
pub record IsBmpHead (head : List ℕ) : Type 0 where
  pub long : length head ≡ 54
  pub begins : begins_with (codes "BM") head ≡ true
  pub right : bmp_fault head ≡ None

-- The header, the palette, and bytes that are skipped up to the pixels.
pub record IsBmpFront (head palette front : List ℕ) : Type 0 where
  pub skipped : List ℕ
  pub cut : front ≡ head ++ (palette ++ skipped)
  pub header : IsBmpHead head
  pub palette_long : length palette ≡ palette_bytes head
  pub up_to : length front ≡ bmp_offset head
