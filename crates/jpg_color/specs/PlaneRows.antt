-- Rows of an image, and the plane of a component.
use Rattle.std.specs.Prelude.{◌≡◌, ℕ, ◌*◌, ◌+◌, ◌≤◌, ◌<◌, ◌-◌, ◌/◌, min, List, length, map, take, drop, slice_index}
use Rattle.jpg_spec.specs.Lists.{below}
use Rattle.jpg_spec_image.specs.Downsampling.{downsampled, in_rows}
use Rattle.jpg_spec_encode.specs.Encoded.{full_plane, samples_of_block}
use Rattle.jpg_spec_image.specs.declared.image.ImageInfo.{ImageInfo}
use Rattle.jpg_color.specs.ColourRows.{numbers_of_pixel}
use Rattle.jpg_color.specs.declared.encode.rows.ImagePlane.{ImagePlane}
use Rattle.jpg_color.specs.declared.encode.rows.Window.{Window}

-- an image has its samples, and sides that a frame can have
pub record HasSamples (info : ImageInfo) (samples : List ℕ) : Type 0 where
  pub wide : 1 ≤ info.width
  pub wide_few : info.width ≤ 65500
  pub high : 1 ≤ info.height
  pub high_few : info.height ≤ 65500
  pub all : length samples ≡ info.height * (numbers_of_pixel info.kind * info.width)

-- row p
abbrev pub row_of : ImageInfo → List ℕ → ℕ → List ℕ
row_of info samples p = take (numbers_of_pixel info.kind * info.width) (drop (p * (numbers_of_pixel info.kind * info.width)) samples)

-- component i, its last column and row repeated
abbrev pub plane_of : ImageInfo → List ℕ → ℕ → ℕ → ℕ → ℕ
plane_of info samples i x y = full_plane (record { info = info; samples = samples }) i x y

-- the rows of the plane that are averaged to row y of one downsampled by `down`, one after another
abbrev pub HasPlaneRows : ImageInfo → List ℕ → ℕ → ℕ → ℕ → List ℕ → Type 0
HasPlaneRows info samples i down y rows = (r u : ℕ) → r < down → u < info.width → slice_index rows (r * info.width + u) ≡ plane_of info samples i u (down * y + r)

-- row p of component i is put as row r, and the rows above it remain
pub record PutsRow (info : ImageInfo) (samples : List ℕ) (i p r : ℕ) (old new : List ℕ) : Type 0 where
  pub long : length new ≡ length old
  pub here : (u : ℕ) → u < info.width → slice_index new (r * info.width + u) ≡ plane_of info samples i u p
  pub before : (k : ℕ) → k < r * info.width → slice_index new k ≡ slice_index old k

-- a component of an image that has its samples, and a ratio from 1 to 4
pub record IsImagePlane (p : ImagePlane) : Type 0 where
  pub image : HasSamples p.info.now p.samples.now
  pub component : p.component < 3
  pub across : (1 ≤ p.ratio.across) × (p.ratio.across ≤ 4)
  pub down : (1 ≤ p.ratio.down) × (p.ratio.down ≤ 4)

-- its plane, downsampled
abbrev pub narrow_plane : ImagePlane → ℕ → ℕ → ℕ
narrow_plane p x y = downsampled p.ratio.across p.ratio.down (plane_of p.info.now p.samples.now p.component) x y

-- its plane, downsampled, where the last row made from the image is repeated
abbrev pub lower_row : ImagePlane → ℕ → ℕ → ℕ → ℕ
lower_row p made x y = narrow_plane p x (min y (made - 1))

-- the first samples of such a row
unfoldable pub downsampled_row : ImagePlane → ℕ → ℕ → List ℕ
downsampled_row p y count = map (λ x. narrow_plane p x y) (below count)

-- the rows from row 8 * y on, as blocks
abbrev pub HasBlocks : ImagePlane → ℕ → ℕ → ℕ → List ℕ → Type 0
HasBlocks p made wide y rows = (x : ℕ) → 8 * x + 8 ≤ wide → samples_of_block (in_rows wide rows) x 0 ≡ samples_of_block (lower_row p made) x y

-- the blocks of eight rows of samples, from the left
unfoldable pub cut_in_blocks : ℕ → List ℕ → List (List ℕ)
cut_in_blocks wide rows = map (λ x. samples_of_block (in_rows wide rows) x 0) (below (wide / 8))

-- WINDOWS of the rows of the plane's component

-- some of its rows, from a multiple of their number on
pub record IsWindow (p : ImagePlane) (w : Window) : Type 0 where
  pub lines : w.lines ≤ 32
  pub at : w.at ≤ 65535
  pub long : length w.rows.now ≡ w.lines * p.info.now.width
  pub rows : HasPlaneRows p.info.now p.samples.now p.component w.lines w.at w.rows.now

-- those for row y of the downsampled plane are among them
pub record IsUnder (p : ImagePlane) (w : Window) (y : ℕ) : Type 0 where
  pub first : w.lines * w.at ≤ p.ratio.down * y
  pub last : p.ratio.down * y + p.ratio.down ≤ w.lines * w.at + w.lines

-- those for eight rows are, where the last one that is made is repeated
pub record AreUnder (p : ImagePlane) (w : Window) (made y : ℕ) : Type 0 where
  pub first : w.lines * w.at ≤ p.ratio.down * min (8 * y) (made - 1)
  pub last : p.ratio.down * (8 * y + 8) ≤ w.lines * w.at + w.lines
