-- A PICTURE TRANSFORMED MCU ROW BY MCU ROW, as the data of its one scan, where rows stay rows (T.81, A.2, F.1.2).
use Rattle.std.specs.Prelude.{◌≡◌, ◌==◌, ◌&&◌, ℕ, ◌+◌, ◌-◌, ◌*◌, ◌%◌, ◌<◌, ◌≤◌, Bool, true, false, nat_lt, if◌then◌else◌, List, length, slice_index}
use Rattle.jpg_spec.specs.Elements.{zeros}
use Rattle.jpg_spec.specs.FrameHeader.{IsFrame}
use Rattle.jpg_spec.specs.Geometry.{Frame, IsReal, blocks_down, component_at, mcus_down, units}
use Rattle.jpg_spec.specs.Scan.{Blocks}
use Rattle.jpg_spec.specs.Segments.{ScanHead, head_components}
use Rattle.jpg_spec_move.specs.Moved.{Choice, columns_in, rows_in}
use Rattle.jpg_spec_move.specs.Transforms.{opposite, placed, signed, transposes}
use Rattle.jpg_spec_move.specs.declared.transform.Transform.{Transform}
use Rattle.jpg_spec_write.specs.WrittenFile.{HasBlocksIn}
use Rattle.jpg_coefs.specs.Picture.{Picture as Coefs, map_of}
use Rattle.jpg_file.specs.Read.ReadFile.{AgreeInRows, LendsRow}
use Rattle.jpg_file.specs.Write.WriteFile.{is_sole}
use Rattle.jpg_huff.specs.declared.set.TableSet.{TableSet}
use Rattle.jpg_seq.specs.ScanWritten.{KeepsScan, WrittenScan, kept_scan, written_data}
use Rattle.jpg_seq.specs.Reader.{IsSeqScan, row_units, rows_in_mcu}
use Rattle.jpg_transform.specs.Places.{IsOutput, keeps_rows}
use Rattle.jpg_transform.specs.declared.choice.Job.{Job}
use Rattle.jpg_transform.specs.declared.moved_row.MovedRow.{MovedRow}
use Rattle.jpg_transform.specs.declared.row_mover.RowMover.{RowMover}

-- Rows stay rows, and the file has one scan with typical tables.
abbrev pub goes_by_rows : Job → Bool
goes_by_rows job = keeps_rows job.transform && is_sole job.plan

-- THE BLOCKS of a transformed picture, by its transform and its frame
abbrev pub moved_of : Transform → Frame → Blocks → Blocks
moved_of t out blocks i x y = placed (transposes t) (columns_in t out i) (rows_in t out i) (blocks i) x y

-- THE SCAN of the transformed picture: the frame of the picture that is read, that of the output, and what the data are
-- written with
pub record MovedScan : Type 0 where
  pub source : Frame
  pub out : Frame
  pub transform : Transform
  pub head : ScanHead
  pub set : TableSet
  pub interval : ℕ

abbrev pub moved_scan : Frame → Job → ScanHead → TableSet → ℕ → MovedScan
moved_scan source job head set interval =
    record { source = source; out = job.plan.out.frame; transform = job.transform; head = head; set = set; interval = interval }

-- Rows stay rows, the frame is that of the output for some choice, and the scan has all its components.
pub record IsMovedScan (w : MovedScan) : Type 0 where
  pub source : IsFrame w.source
  pub framed : IsFrame w.out
  pub stays : keeps_rows w.transform ≡ true
  pub choice : Choice
  pub output : IsOutput choice w.transform w.source w.out
  pub precision : w.out.precision ≡ w.source.precision
  pub scan : IsSeqScan w.out w.head w.set
  pub all : length (head_components w.head) ≡ length w.out.components

-- the scan of the picture whose source has these blocks, and its data
abbrev pub scan_of : MovedScan → Blocks → WrittenScan
scan_of w blocks = kept_scan w.out w.head w.set w.interval (moved_of w.transform w.out blocks)

abbrev pub moved_data : MovedScan → Blocks → List ℕ
moved_data w blocks = written_data w.out w.head w.set w.interval (moved_of w.transform w.out blocks)

-- MCU ROWS of the picture that is read, in a scan of all its components
abbrev pub mcu_rows : Frame → ℕ
mcu_rows f = if length f.components == 1 then blocks_down f (component_at f 0) else mcus_down f

-- how many rows of MCUs of the output are in one: several, if only the first component of several is kept
abbrev pub rows_of_output : Frame → Frame → ℕ
rows_of_output source out = if length source.components == length out.components then 1 else (component_at source 0).v

-- how many units of the output, and how many there are
abbrev pub units_moved : MovedScan → ℕ
units_moved w = row_units w.out (head_components w.head) * rows_of_output w.source w.out

abbrev pub all_units : MovedScan → ℕ
all_units w = length (units w.out (head_components w.head))

-- THE VIEW of one MCU row: each row of blocks of the output is the row of the MCU row that it comes from, where so many
-- columns of each component are mirrored, and an MCU row has so many rows of it.
abbrev pub seen_by : Coefs → List ℕ → List ℕ → Blocks
seen_by row columns rows i x y =
    signed (nat_lt x (slice_index columns i)) false (map_of row i (opposite (slice_index columns i) x) (y % slice_index rows i))

abbrev pub row_blocks : MovedRow → Blocks
row_blocks v = seen_by v.row.now v.columns.now v.rows.now

-- Some picture has the same first MCU rows, and all its blocks are within the bounds.
pub record BeginsInBounds (f : Frame) (k : ℕ) (blocks : Blocks) : Type 0 where
  pub others : Blocks
  pub range : HasBlocksIn f others
  pub agree : AgreeInRows f k blocks others

-- WHAT WAS WRITTEN: of a picture with these blocks the first `k` MCU rows, for all pictures that have the same ones.
pub record HasMoved (w : MovedScan) (k : ℕ) (blocks : Blocks) (r : RowMover) : Type 0 where
  pub scan : IsMovedScan w
  pub frame : r.frame.now ≡ w.out
  pub columns : (i : ℕ) → i < length w.out.components → slice_index r.columns i ≡ columns_in w.transform w.out i
  pub rows : (i : ℕ) → i < length w.out.components → slice_index r.rows i ≡ rows_in_mcu w.source i
  pub units : r.units ≡ units_moved w
  pub left : ((r.scan).units).left ≡ all_units w - k * units_moved w
  pub some : BeginsInBounds w.source k blocks
  pub keeps : (others : Blocks) → HasBlocksIn w.source others → AgreeInRows w.source k blocks others → KeepsScan (scan_of w others) r.scan

-- the next MCU row
pub record CanMove (w : MovedScan) (k : ℕ) (blocks : Blocks) (row : Coefs) (r : RowMover) : Type 0 where
  pub has : HasMoved w k blocks r
  pub next : k < mcu_rows w.source
  pub lends : LendsRow w.source k row blocks

abbrev pub MovesRow : RowMover → Coefs → RowMover → Type 0
MovesRow old row new = (w : MovedScan) (k : ℕ) (blocks : Blocks) → CanMove w k blocks row old → HasMoved w (k + 1) blocks new

-- A next MCU row all whose blocks are zero.
pub record CanMoveZero (w : MovedScan) (k : ℕ) (blocks : Blocks) (r : RowMover) : Type 0 where
  pub has : HasMoved w k blocks r
  pub next : k < mcu_rows w.source
  pub zero : (i x y : ℕ) → IsReal w.source i x y → k * rows_in_mcu w.source i ≤ y → y < (k + 1) * rows_in_mcu w.source i → blocks i x y ≡ zeros 64

abbrev pub MovesZero : RowMover → RowMover → Type 0
MovesZero old new = (w : MovedScan) (k : ℕ) (blocks : Blocks) → CanMoveZero w k blocks old → HasMoved w (k + 1) blocks new

-- All MCU rows that are left, all whose blocks are zero.
pub record CanMoveZeros (w : MovedScan) (k : ℕ) (blocks : Blocks) (r : RowMover) : Type 0 where
  pub has : HasMoved w k blocks r
  pub zero : (i x y : ℕ) → IsReal w.source i x y → k * rows_in_mcu w.source i ≤ y → blocks i x y ≡ zeros 64

-- AT THE END: all MCU rows were written.
pub record HasAllMoved (w : MovedScan) (k : ℕ) (blocks : Blocks) (r : RowMover) : Type 0 where
  pub has : HasMoved w k blocks r
  pub all : mcu_rows w.source ≤ k

abbrev pub MovesZeros : RowMover → RowMover → Type 0
MovesZeros old new = (w : MovedScan) (k : ℕ) (blocks : Blocks) → CanMoveZeros w k blocks old → (n : ℕ) × HasAllMoved w n blocks new

abbrev pub GivesMoved : RowMover → List ℕ → Type 0
GivesMoved r text = (w : MovedScan) (k : ℕ) (blocks : Blocks) → HasAllMoved w k blocks r → text ≡ moved_data w blocks

-- whether they were, by how many were given
pub record TellsWhole (w : MovedScan) (k : ℕ) (whole : Bool) : Type 0 where
  pub all : whole ≡ true → mcu_rows w.source ≤ k
  pub more : whole ≡ false → k < mcu_rows w.source
