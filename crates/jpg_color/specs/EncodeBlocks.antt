-- The planes of the components of an image, as they are made MCU row by MCU row, in rows of whole blocks.
use Rattle.std.specs.Prelude.{◌≡◌, ℕ, ◌*◌, ◌+◌, ◌-◌, ◌/◌, ◌==◌, ◌<◌, ◌≤◌, min, if◌then◌else◌, List, [], length, slice_index_or}
use Rattle.jpg_spec.specs.EncodingLaws.{AreSamples}
use Rattle.jpg_spec.specs.Geometry.{Frame, blocks_across, component_at, div_up, h_max, v_max}
use Rattle.jpg_spec_encode.specs.Encoded.{full_plane, samples_of_block}
use Rattle.jpg_spec_image.specs.Downsampling.{downsampled}
use Rattle.jpg_spec_image.specs.Images.{Image}
use Rattle.jpg_color.specs.PlaneRows.{HasPlaneRows, HasSamples, IsImagePlane, IsWindow, lower_row}
use Rattle.jpg_spec_image.specs.declared.image.ImageKind.TheVariants.{Rgb}
use Rattle.jpg_color.specs.declared.encode.rows.Source.{Source}
use Rattle.jpg_color.specs.declared.encode.strips.Planes.{Planes}
use Rattle.jpg_color.specs.declared.encode.strips.Strip.{Strip}
use Rattle.jpg_color.specs.declared.encode.strips.StripPart.{StripPart}
use Rattle.jpg_color.specs.declared.encode.strips.Windows.{Windows}

-- PLANES

-- the rows of blocks of component i
abbrev pub plane_at : Planes → ℕ → List (List (List ℕ))
plane_at p i = if i == 0 then p.ys.items else if i == 1 then p.cbs.items else p.crs.items

-- how many samples a row of component i has, in whole blocks
abbrev pub row_wide : Frame → ℕ → ℕ
row_wide f i = 8 * blocks_across f (component_at f i)

-- all blocks of a row, of bytes
pub record IsRow (f : Frame) (i : ℕ) (row : List (List ℕ)) : Type 0 where
  pub long : length row ≡ blocks_across f (component_at f i)
  pub bytes : (x : ℕ) → x < length row → AreSamples (slice_index_or row x [])

-- only such rows
abbrev pub AreRows : Frame → ℕ → List (List (List ℕ)) → Type 0
AreRows f i rows = (y : ℕ) → y < length rows → IsRow f i (slice_index_or rows y [])

-- in each component, and there are those of m rows of MCUs
pub record HasPlanes (f : Frame) (m : ℕ) (p : Planes) : Type 0 where
  pub rows : (i : ℕ) → i < length f.components → AreRows f i (plane_at p i)
  pub enough : (i : ℕ) → i < length f.components → (component_at f i).v * m ≤ length (plane_at p i)

-- THE ROWS OF AN IMAGE

-- component i of an image, downsampled, where the last row made from the image is repeated
abbrev pub lower_plane : Frame → Image → ℕ → ℕ → ℕ → ℕ
lower_plane f image i x y =
    let c = component_at f i in
    downsampled (h_max f / c.h) (v_max f / c.v) (full_plane image i) x (min y (div_up image.info.height (v_max f) * c.v - 1))

-- the blocks of a row are those of row y
abbrev pub IsRowOf : Frame → Image → ℕ → ℕ → List (List ℕ) → Type 0
IsRowOf f image i y row =
    (x : ℕ) → x < blocks_across f (component_at f i) → slice_index_or row x [] ≡ samples_of_block (lower_plane f image i) x y

-- the rows of component i are this many, from one on
pub record AreRowsFrom (f : Frame) (image : Image) (i first count : ℕ) (rows : List (List (List ℕ))) : Type 0 where
  pub long : length rows ≡ count
  pub each : (y : ℕ) → y < count → IsRowOf f image i (first + y) (slice_index_or rows y [])

-- of all components, in m rows of MCUs after the first ones
abbrev pub ArePlanesFrom : Frame → Image → ℕ → ℕ → Planes → Type 0
ArePlanesFrom f image first m p = (i : ℕ) → i < length f.components → AreRowsFrom f image i ((component_at f i).v * first) ((component_at f i).v * m) (plane_at p i)

-- STRIPS: the rows of an image that a row of MCUs is made from, as an image

abbrev pub strip_image : Strip → Image
strip_image s = record { info = s.info.now; samples = s.samples.now }

-- all its samples are there, it is as wide as the frame and at most as high as a row of MCUs; and it has colours if there
-- is chrominance
pub record IsStrip (s : Strip) : Type 0 where
  pub image : HasSamples s.info.now s.samples.now
  pub wide : s.info.now.width ≡ s.frame.now.width
  pub high : s.info.now.height ≤ 8 * v_max s.frame.now
  pub count : length s.frame.now.components ≤ 3
  pub colours : 1 < length s.frame.now.components → (2 < length s.frame.now.components) × (s.info.now.kind ≡ Rgb)
  pub whole : (i : ℕ) → i < length s.frame.now.components → v_max s.frame.now / (component_at s.frame.now i).v * (component_at s.frame.now i).v ≡ v_max s.frame.now

-- the rows of component i of a strip, one after another
abbrev pub HasStripRows : Strip → ℕ → List ℕ → Type 0
HasStripRows s i rows = HasPlaneRows s.info.now s.samples.now i (8 * v_max s.frame.now) 0 rows

pub record IsStripPart (s : Strip) (p : StripPart) : Type 0 where
  pub there : p.component < length s.frame.now.components
  pub long : length p.rows.now ≡ 8 * v_max s.frame.now * s.frame.now.width
  pub rows : HasStripRows s p.component p.rows.now

-- the rows of blocks of component i of a strip are appended to its plane
pub record AppendsRows (f : Frame) (strip : Image) (i count : ℕ) (old new : List (List (List ℕ))) : Type 0 where
  pub long : length new ≡ length old + count
  pub same : (y : ℕ) → y < length old → slice_index_or new y [] ≡ slice_index_or old y []
  pub each : (y : ℕ) → y < count → IsRowOf f strip i y (slice_index_or new (length old + y) [])

-- all of them, and those of all components
abbrev pub AppendsAll : Frame → Image → ℕ → List (List (List ℕ)) → List (List (List ℕ)) → Type 0
AppendsAll f strip i = AppendsRows f strip i (component_at f i).v

abbrev pub AppendsStrip : Frame → Image → Planes → Planes → Type 0
AppendsStrip f strip old new = (i : ℕ) → i < length f.components → AppendsAll f strip i (plane_at old i) (plane_at new i)

-- whatever is appended, it is rows of blocks
pub record GrowsPlane (f : Frame) (i : ℕ) (old new : List (List (List ℕ))) : Type 0 where
  pub rows : AreRows f i old → AreRows f i new
  pub more : length old ≤ length new

abbrev pub GrowsPlanes : Frame → Planes → Planes → Type 0
GrowsPlanes f old new = (i : ℕ) → i < length f.components → GrowsPlane f i (plane_at old i) (plane_at new i)

-- the image that a source is of
abbrev pub source_image : Source → Image
source_image s = record { info = s.plane.info.now; samples = s.plane.samples.now }

-- the plane of a component of a strip, in rows of complete blocks, and the rows of the strip for it
pub record IsSource (f : Frame) (s : Source) : Type 0 where
  pub there : s.plane.component < length f.components
  pub plane : IsImagePlane s.plane
  pub window : IsWindow s.plane s.window
  pub lines : s.window.lines ≡ 8 * v_max f
  pub at : s.window.at ≡ 0
  pub factor : 1 ≤ (component_at f s.plane.component).v
  pub whole : s.plane.ratio.down * (component_at f s.plane.component).v ≡ v_max f
  pub some : (1 ≤ s.made) × (s.made ≤ 1000000)
  pub wide : s.wide ≡ row_wide f s.plane.component
  pub few : 8 * s.wide ≤ 1000000
  pub count : s.count ≡ (component_at f s.plane.component).v
  pub made : s.made ≡ div_up s.plane.info.now.height (v_max f) * (component_at f s.plane.component).v
  pub rows : lower_row s.plane s.made ≡ lower_plane f (source_image s) s.plane.component

-- the rows of blocks that are made from it are appended
abbrev pub AppendsSource : Frame → Source → List (List (List ℕ)) → List (List (List ℕ)) → Type 0
AppendsSource f s = AppendsAll f (source_image s) s.plane.component

-- no samples are averaged, and none are repeated to make blocks whole
pub record IsPlain (s : Source) : Type 0 where
  pub across : s.plane.ratio.across ≡ 1
  pub down : s.plane.ratio.down ≡ 1
  pub wide : s.wide ≡ s.plane.info.now.width

-- WINDOWS

-- the rows of component i
abbrev pub window_at : Windows → ℕ → List ℕ
window_at w i = if i == 0 then w.ys.items else if i == 1 then w.cbs.items else w.crs.items

-- each has room for the rows of a row of MCUs
abbrev pub AreWindows : Frame → Windows → Type 0
AreWindows f w = (i : ℕ) → i < length f.components → length (window_at w i) ≡ 8 * v_max f * f.width

-- and has those of a strip
abbrev pub HasRowsOfStrip : Strip → Windows → Type 0
HasRowsOfStrip s w = (i : ℕ) → i < length s.frame.now.components → HasStripRows s i (window_at w i)
