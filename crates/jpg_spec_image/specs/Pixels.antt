-- THE IMAGE of a picture: planes of samples, upsampled to the size of the image, and their colours (T.81, A.1.1, A.2;
-- JFIF 1.02).
use Rattle.std.specs.Prelude.{ℕ, ◌+◌, ◌*◌, ◌/◌, ◌%◌, Bool, true, false, not, ◌||◌, ◌==◌, if◌then◌else◌, List, [], map, take, slice_index, Option, Some, None}
use Rattle.jpg_spec.specs.Lists.{below, any_of}
use Rattle.jpg_spec.specs.Geometry.{div_up, greatest}
use Rattle.jpg_spec.specs.Jfif.{jfif_of}
use Rattle.jpg_spec.specs.Meaning.{Meaning, colour_of, component_of, most_across, most_down}
use Rattle.jpg_spec_image.specs.Dct.{dequantised, inverse_dct}
use Rattle.jpg_spec_image.specs.Upsampling.{Stretch, upsampled_row}
use Rattle.jpg_spec_image.specs.RedGreenBlue.{rgb_row, interleaved_row}
use Rattle.jpg_spec.specs.declared.frame.Colour.{Colour}
use Rattle.jpg_spec.specs.declared.frame.Colour.TheVariants.{Gray, YCbCr, Rgb, Cmyk, Ycck, Unknown}
use Rattle.jpg_spec.specs.declared.fault.Fault.{Fault}
use Rattle.jpg_spec.specs.declared.fault.Fault.TheVariants.{Precision, ColourOut, FractionalSampling}
use Rattle.jpg_spec_image.specs.declared.image.ImageKind.TheVariants as kind
use Rattle.jpg_spec_image.specs.declared.image.ImageInfo.{ImageInfo}
use Rattle.jpg_spec.specs.declared.jfif.Jfif.{Jfif}

-- PLANES

-- the size of component i in samples (A.1.1)
abbrev pub samples_across : Meaning → ℕ → ℕ
samples_across M i = div_up (M.width * (component_of M i).h) (most_across M)

abbrev pub samples_down : Meaning → ℕ → ℕ
samples_down M i = div_up (M.height * (component_of M i).v) (most_down M)

-- the 64 samples of a block, row by row
abbrev pub block_samples : Meaning → ℕ → ℕ → ℕ → List ℕ
block_samples M i x y = inverse_dct (dequantised (component_of M i).quants (M.blocks i x y))

-- component i at column x and row y
abbrev pub plane : Meaning → ℕ → ℕ → ℕ → ℕ
plane M i x y = slice_index (block_samples M i (x / 8) (y / 8)) (8 * (y % 8) + x % 8)

-- its row y, cut to its size
abbrev pub plane_row : Meaning → ℕ → ℕ → List ℕ
plane_row M i y = map (λ x. plane M i x y) (below (samples_across M i))

-- UPSAMPLED TO THE IMAGE'S SIZE

abbrev pub stretch_of : Meaning → Bool → ℕ → Stretch
stretch_of M smooth i = record {
  wide = samples_across M i;
  high = samples_down M i;
  across = most_across M / (component_of M i).h;
  down = most_down M / (component_of M i).v;
  smooth = smooth;
}

-- row y of component i in the image
abbrev pub upsampled : Meaning → Bool → ℕ → ℕ → List ℕ
upsampled M smooth i y = take M.width (upsampled_row (stretch_of M smooth i) (plane_row M i) y)

-- PIXELS

-- only one component is displayed
abbrev pub shows_gray : Colour → Bool → Bool
shows_gray Gray gray = true
shows_gray YCbCr gray = gray
shows_gray Rgb gray = false
shows_gray Cmyk gray = false
shows_gray Ycck gray = false
shows_gray Unknown gray = false

abbrev pub colour_row : Colour → List ℕ → List ℕ → List ℕ → List ℕ
colour_row Gray a b c = a
colour_row YCbCr a b c = rgb_row a b c
colour_row Rgb a b c = interleaved_row a b c
colour_row Cmyk a b c = []
colour_row Ycck a b c = []
colour_row Unknown a b c = []

-- row y of the image in these colours
abbrev pub shown_row : Colour → Meaning → Bool → Bool → ℕ → List ℕ
shown_row colour M gray smooth y =
    if shows_gray colour gray then upsampled M smooth 0 y
    else colour_row colour (upsampled M smooth 0 y) (upsampled M smooth 1 y) (upsampled M smooth 2 y)

abbrev pub pixel_row : Meaning → Bool → Bool → ℕ → List ℕ
pixel_row M gray smooth y = shown_row (colour_of M) M gray smooth y

abbrev pub pixels : Meaning → Bool → Bool → List (List ℕ)
pixels M gray smooth = map (pixel_row M gray smooth) (below M.height)

-- THE INFO OF THE IMAGE

-- densities of unit 2 are pixels per centimetre
abbrev pub metre : Jfif → ℕ → ℕ
metre j density = if j.unit == 2 then 100 * density else 0

abbrev pub info : Meaning → Bool → ImageInfo
info M gray = record {
  width = M.width;
  height = M.height;
  kind = if shows_gray (colour_of M) gray then kind.Gray else kind.Rgb;
  x_metre = metre (jfif_of M.kept) (jfif_of M.kept).x;
  y_metre = metre (jfif_of M.kept) (jfif_of M.kept).y;
}

-- what is refused: samples that haven't 8 bits, colours that can't be displayed, and a needed component whose factors
-- don't divide the greatest
abbrev pub is_colour_out : Colour → Bool → Bool
is_colour_out Gray gray = false
is_colour_out YCbCr gray = false
is_colour_out Rgb gray = gray
is_colour_out Cmyk gray = true
is_colour_out Ycck gray = true
is_colour_out Unknown gray = true

-- the ratio to the greatest factors isn't an integer
abbrev pub is_fractional : ℕ → ℕ → ℕ × ℕ → Bool
is_fractional across down c = not (across % c.0 == 0) || not (down % c.1 == 0)

-- by the precision, the colour, whether gray is asked for, and the horizontal and vertical factors of each component
abbrev pub out_fault_of : ℕ → Colour → Bool → List (ℕ × ℕ) → Option Fault
out_fault_of precision colour gray factors =
    let across = greatest (map (λ c. c.0) factors) in
    let down = greatest (map (λ c. c.1) factors) in
    let needed = if shows_gray colour gray then take 1 factors else factors in
    if not (precision == 8) then Some Precision
    else if is_colour_out colour gray then Some ColourOut
    else if any_of (is_fractional across down) needed then Some FractionalSampling
    else None

abbrev pub out_fault : Bool → Meaning → Option Fault
out_fault gray M = out_fault_of M.precision (colour_of M) gray (map (λ c. (c.h, c.v)) M.components)
