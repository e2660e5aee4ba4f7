-- AN IMAGE ENCODED MCU ROW BY MCU ROW, as the data of its one scan (T.81, A.2, A.3, F.1.2).
use Rattle.std.specs.Prelude.{◌≡◌, ℕ, ◌+◌, ◌*◌, ◌-◌, ◌&&◌, nat_le, nat_lt, if◌then◌else◌, List, [], ◌++◌, length, slice_index_or}
use Rattle.jpg_spec.specs.Elements.{zeros}
use Rattle.jpg_spec.specs.EncodingLaws.{AreSamples}
use Rattle.jpg_spec.specs.Geometry.{Frame, component_at, units}
use Rattle.jpg_spec.specs.Scan.{Blocks}
use Rattle.jpg_spec.specs.Segments.{QuantTable, ScanHead, head_components}
use Rattle.jpg_spec_image.specs.declared.image.ImageInfo.{ImageInfo}
use Rattle.jpg_huff.specs.declared.set.TableSet.{TableSet}
use Rattle.jpg_seq.specs.ScanWritten.{KeepsScan, WrittenScan, kept_scan, written_data}
use Rattle.jpg_seq.specs.Reader.{IsSeqScan, row_units}
use Rattle.jpg_color.specs.Encode.{blocks_due, encoded_frame, image_of}
use Rattle.jpg_color.specs.EncodeBlocks.{plane_at}
use Rattle.jpg_color.specs.EncodedParts.{row_block, table_by}
use Rattle.jpg_color.specs.EncodeSampling.{Completes, HasSampled}
use Rattle.jpg_color.specs.declared.encode.Encoding.{Encoding as Asked}
use Rattle.jpg_color.specs.declared.encode.row_encoder.RowEncoder.{RowEncoder}
use Rattle.jpg_color.specs.declared.encode.sampler.Sampler.{Sampler}
use Rattle.jpg_color.specs.declared.encode.strips.Planes.{Planes}

-- THE BLOCKS of rows of MCUs after the first ones; zeros elsewhere
unfoldable pub window_blocks : Frame → Planes → QuantTable → QuantTable → ℕ → Blocks
window_blocks f p first others top i x y =
    (let start = (component_at f i).v * top in
    if nat_le start y && nat_lt (y - start) (length (plane_at p i)) then row_block (table_by first others i) (slice_index_or (plane_at p i) (y - start) []) x else zeros 64)

-- THE SCAN: its header, its tables and its restart interval
pub record RowScan : Type 0 where
  pub head : ScanHead
  pub set : TableSet
  pub interval : ℕ

-- It has all components, and its rows of MCUs are those of the frame.
pub record IsRowScan (f : Frame) (w : RowScan) : Type 0 where
  pub scan : IsSeqScan f w.head w.set
  pub all : length (head_components w.head) ≡ length f.components
  pub single : length f.components ≡ 1 → (component_at f 0).v ≡ 1

-- of the picture of an image with these samples
abbrev pub scan_due : RowScan → ImageInfo → Asked → List ℕ → WrittenScan
scan_due w info a samples = kept_scan (encoded_frame info a) w.head w.set w.interval (blocks_due (image_of info samples) a)

abbrev pub data_due : RowScan → ImageInfo → Asked → List ℕ → List ℕ
data_due w info a samples = written_data (encoded_frame info a) w.head w.set w.interval (blocks_due (image_of info samples) a)

-- how many units a row of MCUs has, and all
abbrev pub units_of_row : RowScan → Frame → ℕ
units_of_row w f = row_units f (head_components w.head)

abbrev pub all_units : RowScan → Frame → ℕ
all_units w f = length (units f (head_components w.head))

-- WHAT WAS GIVEN of an image: the rows of MCUs that were made are written, for all images that begin with these samples.
pub record IsWritten (w : RowScan) (info : ImageInfo) (a : Asked) (given : List ℕ) (rows : ℕ) (r : RowEncoder) : Type 0 where
  pub keeps : (samples : List ℕ) → Completes info given samples → AreSamples samples → KeepsScan (scan_due w info a samples) r.scan
  pub left : ((r.scan).units).left + rows * units_of_row w (encoded_frame info a) ≡ all_units w (encoded_frame info a)

pub record HasRows (w : RowScan) (info : ImageInfo) (a : Asked) (given : List ℕ) (r : RowEncoder) : Type 0 where
  pub sampled : HasSampled info a given r.sampler
  pub bytes : AreSamples given
  pub row_scan : IsRowScan (encoded_frame info a) w
  pub units : r.units ≡ units_of_row w (encoded_frame info a)
  pub first : r.first ≡ slice_index_or a.tables 0 []
  pub others : r.others ≡ slice_index_or a.tables 1 []
  pub written : IsWritten w info a given (r.sampler).dropped r

-- all that were made, or all but one
abbrev pub HasEncoded : RowScan → ImageInfo → Asked → List ℕ → RowEncoder → Type 0
HasEncoded w info a given r = HasRows w info a given r × ((r.sampler).made ≡ (r.sampler).dropped)

abbrev pub CanWriteRow : RowScan → ImageInfo → Asked → List ℕ → RowEncoder → Type 0
CanWriteRow w info a given r = HasRows w info a given r × ((r.sampler).made ≡ (r.sampler).dropped + 1)

-- a scan by its parts, and an encoder of the image of a sampler that was given nothing
abbrev pub row_scan : ScanHead → TableSet → ℕ → RowScan
row_scan head set interval = record { head = head; set = set; interval = interval }

abbrev pub BeginsRows : Sampler → RowScan → RowEncoder → Type 0
BeginsRows s w r = (info : ImageInfo) (a : Asked) → HasSampled info a [] s → HasEncoded w info a [] r

-- the row of MCUs that was made is written
abbrev pub WritesRow : RowEncoder → RowEncoder → Type 0
WritesRow old new = (w : RowScan) (info : ImageInfo) (a : Asked) (given : List ℕ) → CanWriteRow w info a given old → HasEncoded w info a given new

-- more samples were given
abbrev pub AddsEncoded : RowEncoder → List ℕ → RowEncoder → Type 0
AddsEncoded old samples new = (w : RowScan) (info : ImageInfo) (a : Asked) (given : List ℕ) → HasEncoded w info a given old → HasEncoded w info a (given ++ samples) new

-- AT THE END: the data of the scan of all the samples that were given
abbrev pub EncodesRows : RowEncoder → List ℕ → Type 0
EncodesRows r text = (w : RowScan) (info : ImageInfo) (a : Asked) (given : List ℕ) → HasEncoded w info a given r → text ≡ data_due w info a given
