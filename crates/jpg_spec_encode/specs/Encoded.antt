-- THE PICTURE that an image is encoded as (the manual of cjpeg; T.81, A.1.1, A.2, A.3; JFIF 1.02): planes of luminance
-- and chrominance, downsampled, cut into blocks, transformed and quantised.
use Rattle.std.specs.Prelude.{ℕ, ◌+◌, ◌-◌, ◌*◌, ◌/◌, min, Bool, true, false, nat_le, nat_lt, ◌&&◌, ◌||◌, ◌==◌, if◌then◌else◌, List, [], ◌∷◌, length, map, flat_map, slice_index, slice_index_or, Option, Some, None, find, option_map, ℤ}
use Rattle.jpg_spec.specs.Lists.{below}
use Rattle.jpg_spec.specs.Geometry.{div_up, padded_blocks}
use Rattle.jpg_spec.specs.Segments.{QuantTable, standard_limits}
use Rattle.jpg_spec.specs.Elements.{zeros}
use Rattle.jpg_spec.specs.Meaning.{Meaning, PictureComponent, colour_of, picture_frame, real_blocks, component_of, most_across, most_down}
use Rattle.jpg_spec_write.specs.Headed.{jfif_contents}
use Rattle.jpg_spec_write.specs.ScansAsked.{Scans, asks_progressive, process_due, script_due}
use Rattle.jpg_spec_write.specs.declared.huffman.Huffman.{Huffman}
use Rattle.jpg_spec_image.specs.Images.{Image}
use Rattle.jpg_spec.specs.InForce.{first_some}
use Rattle.jpg_spec_write.specs.Script.{Entry}
use Rattle.jpg_spec_write.specs.ScriptFaults.{script_fault}
use Rattle.jpg_spec_write.specs.FileText.{Restart, file_text, frame_of_meaning}
use Rattle.jpg_spec_image.specs.Pixels.{is_fractional}
use Rattle.jpg_spec_image.specs.Luminance.{to_ycc}
use Rattle.jpg_spec_image.specs.Downsampling.{edge_repeated, downsampled}
use Rattle.jpg_spec_image.specs.ForwardDct.{forward_dct, quantised_block}
use Rattle.jpg_spec.specs.declared.frame.Process.TheVariants.{Baseline}
use Rattle.jpg_spec_image.specs.declared.image.ImageKind.{ImageKind}
use Rattle.jpg_spec_image.specs.declared.image.ImageKind.TheVariants.{Gray, Rgb}
use Rattle.jpg_spec_image.specs.declared.image.ImageInfo.{ImageInfo}
use Rattle.jpg_spec.specs.declared.jfif.Jfif.{Jfif}
use Rattle.jpg_spec_write.specs.declared.picture_fault.PictureFault.{PictureFault}
use Rattle.jpg_spec_write.specs.declared.picture_fault.PictureFault.TheVariants.{FractionalFactors, TooManyBlocks}

-- WHAT IS ASKED FOR: grayscale or not, the scans, Huffman tables and restarts of the file, the horizontal and vertical factors of each
-- component, and two tables of quantisers
pub record Encoding : Type 0 where
  pub gray : Bool
  pub scans : Scans
  pub huffman : Huffman
  pub restart : Restart
  pub factors : List (ℕ × ℕ)
  pub first : QuantTable
  pub others : QuantTable

-- THE COMPONENTS: gray, or luminance and two of chrominance, with identifiers 1, 2 and 3. The first has a table of its
-- own.

abbrev pub is_gray : ImageKind → Bool
is_gray Gray = true
is_gray Rgb = false

abbrev pub count_due : Bool → ImageKind → ℕ
count_due gray kind = if gray || is_gray kind then 1 else 3

abbrev pub components_due : Encoding → Image → ℕ
components_due e image = count_due e.gray image.info.kind

abbrev pub component_due : Encoding → ℕ → PictureComponent
component_due e i =
    let factors = slice_index_or e.factors i (1, 1) in
    record { id = i + 1; h = factors.0; v = factors.1; quants = if i == 0 then e.first else e.others }

-- THE DENSITY: pixels per centimetre, if both are numbers of two bytes and not 0; otherwise none

abbrev pub is_density : ℕ → Bool
is_density n = nat_le 1 n && nat_lt n 65536

abbrev pub density_of : ImageInfo → Jfif
density_of info =
    let x = info.x_metre / 100 in
    let y = info.y_metre / 100 in
    let told = is_density x && is_density y in
    record { seen = true; major = 1; minor = 1; unit = if told then 2 else 0; x = if told then x else 1; y = if told then y else 1 }

-- ALL BUT THE BLOCKS: the process that the scans and tables ask for, precision 8, the image's sides, and only the JFIF
-- header

abbrev pub any_process : Encoding → Image → Meaning
any_process e image = record {
  process = Baseline;
  precision = 8;
  width = image.info.width;
  height = image.info.height;
  components = map (component_due e) (below (components_due e image));
  blocks = λ i x y. zeros 64;
  kept = (0xe0, jfif_contents (density_of image.info)) ∷ [];
}

abbrev pub encoded_head : Encoding → Image → Meaning
encoded_head e image = record (any_process e image) { process = process_due (asks_progressive e.scans) (any_process e image) }

-- THE PLANES, complete

-- component i of pixel n of samples of a kind
abbrev pub pixel_component : ImageKind → List ℕ → ℕ → ℕ → ℕ
pixel_component Gray samples i n = slice_index samples n
pixel_component Rgb samples i n = slice_index (to_ycc (slice_index samples (3 * n)) (slice_index samples (3 * n + 1)) (slice_index samples (3 * n + 2))) i

-- as wide and high as the image, and its last column and row repeated
abbrev pub full_plane : Image → ℕ → ℕ → ℕ → ℕ
full_plane image i x y = edge_repeated image.info.width image.info.height (λ u v. pixel_component image.info.kind image.samples i (v * image.info.width + u)) x y

-- the rows of component i made of rows of the image, as many as its greatest vertical factor or the last one repeated
abbrev pub rows_made : Meaning → ℕ → ℕ
rows_made H i = div_up H.height (most_down H) * (component_of H i).v

-- downsampled to the component's size, and the last of these rows repeated
abbrev pub component_plane : Meaning → Image → ℕ → ℕ → ℕ → ℕ
component_plane H image i x y =
    downsampled (most_across H / (component_of H i).h) (most_down H / (component_of H i).v) (full_plane image i) x (min y (rows_made H i - 1))

-- THE BLOCKS

-- the 64 samples of a block of a plane, row by row
abbrev pub samples_of_block : (ℕ → ℕ → ℕ) → ℕ → ℕ → List ℕ
samples_of_block plane x y = flat_map (λ v. map (λ u. plane (8 * x + u) (8 * y + v)) (below 8)) (below 8)

abbrev pub encoded_block : Meaning → Image → ℕ → ℕ → ℕ → List ℤ
encoded_block H image i x y = quantised_block (component_of H i).quants (forward_dct (samples_of_block (component_plane H image i) x y))

abbrev pub encoded : Encoding → Image → Meaning
encoded e image =
    let H = encoded_head e image in record H { blocks = real_blocks (picture_frame H) (encoded_block H image) }

-- THE FILE: its scans, and its text

abbrev pub encoded_script : Encoding → Image → List Entry
encoded_script e image = script_due e.scans (frame_of_meaning (encoded e image)) (colour_of (encoded e image))

abbrev pub encoded_text : Encoding → Image → List ℕ
encoded_text e image = file_text e.huffman (encoded e image) (encoded_script e image) e.restart

-- THE FIRST FAULT: of the factors, the first component whose ratio to the greatest isn't an integer; of the padded
-- grids; and of the script

abbrev pub has_fraction : Meaning → ℕ → Bool
has_fraction H i = is_fractional (most_across H) (most_down H) ((component_of H i).h, (component_of H i).v)

abbrev pub factors_fault : Meaning → Option PictureFault
factors_fault H = option_map (λ i. FractionalFactors i) (find (has_fraction H) (below (length H.components)))

abbrev pub grids_fault : Meaning → Option PictureFault
grids_fault H = if nat_lt standard_limits.blocks (padded_blocks (picture_frame H)) then Some TooManyBlocks else None

abbrev pub sampling_fault : Encoding → Image → Option PictureFault
sampling_fault e image = first_some (factors_fault (encoded_head e image)) (grids_fault (encoded_head e image))

abbrev pub encode_fault : Encoding → Image → Option PictureFault
encode_fault e image = first_some (sampling_fault e image) (script_fault (frame_of_meaning (encoded e image)) (encoded_script e image))
