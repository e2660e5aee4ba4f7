-- A component of a row of red, green and blue.
use Rattle.std.specs.Prelude.{◌≡◌, ℕ, ◌+◌, ◌*◌, ◌<◌, List, length, slice_index, map}
use Rattle.jpg_spec.specs.Lists.{below}
use Rattle.jpg_spec_encode.specs.Encoded.{pixel_component}
use Rattle.jpg_spec_image.specs.declared.image.ImageKind.{ImageKind}
use Rattle.jpg_spec_image.specs.declared.image.ImageKind.TheVariants.{Gray, Rgb}

abbrev pub component_row : List ℕ → ℕ → ℕ → List ℕ
component_row pixels i count = map (pixel_component Rgb pixels i) (below count)

-- how many numbers a pixel has
abbrev pub numbers_of_pixel : ImageKind → ℕ
numbers_of_pixel Gray = 1
numbers_of_pixel Rgb = 3

-- component i of a row of a number of pixels of a kind
unfoldable pub row_component : ImageKind → List ℕ → ℕ → ℕ → List ℕ
row_component kind row i count = map (pixel_component kind row i) (below count)

-- sixteen samples of component i were put from column 16 * c on, and those before them remain
pub record PutsSixteen (pixels : List ℕ) (i c : ℕ) (old new : List ℕ) : Type 0 where
  pub long : length new ≡ length old
  pub here : (k : ℕ) → k < 16 → slice_index new (16 * c + k) ≡ pixel_component Rgb pixels i (16 * c + k)
  pub before : (k : ℕ) → k < 16 * c → slice_index new k ≡ slice_index old k

-- this many samples of component i are made
pub record HasMade (pixels : List ℕ) (i made : ℕ) (old new : List ℕ) : Type 0 where
  pub long : length new ≡ length old
  pub all : (k : ℕ) → k < made → slice_index new k ≡ pixel_component Rgb pixels i k
