-- WHERE THE MCU ROWS OF A PICTURE GO that is transformed while it is read: into the data of the output's one scan, or
-- into a picture (T.81, A.2.3).
use Rattle.std.specs.Prelude.{◌≡◌, ℕ, ◌+◌, ◌*◌, ◌<◌, ◌≤◌}
use Rattle.jpg_spec.specs.Elements.{zeros}
use Rattle.jpg_spec.specs.FrameHeader.{IsFrame}
use Rattle.jpg_spec.specs.Geometry.{Frame, IsReal, bounds}
use Rattle.jpg_spec.specs.Ranges.{AreInRange}
use Rattle.jpg_spec.specs.Scan.{Blocks}
use Rattle.jpg_coefs.specs.Picture.{Picture as Coefs, map_of}
use Rattle.jpg_file.specs.Read.ReadFile.{LendsRow}
use Rattle.jpg_file.specs.declared.write.sole.SoleScan.{SoleScan}
use Rattle.jpg_seq.specs.Reader.{rows_in_mcu}
use Rattle.jpg_transform.specs.RowsMoved.{HasAllMoved, HasMoved, MovedScan, mcu_rows, moved_scan}
use Rattle.jpg_transform.specs.declared.choice.Job.{Job}
use Rattle.jpg_transform.specs.declared.row_mover.RowMover.{RowMover}
use Rattle.jpg_desk.specs.RowsKept.{HasKept}
use Rattle.jpg_desk.specs.declared.row_picture.RowPicture.{RowPicture}
use Rattle.jpg_desk.specs.declared.rows_to.RowsTo.{RowsTo}
use Rattle.jpg_desk.specs.declared.rows_to.RowsTo.TheVariants as to

-- the one scan of the output
abbrev pub scan_moved : Frame → Job → SoleScan → MovedScan
scan_moved f job scan = moved_scan f job (scan.due).head scan.tables (scan.due).interval

-- The first `k` MCU rows of these blocks went there.
abbrev pub HavePut : Frame → ℕ → Blocks → RowsTo → Type 0
HavePut f k blocks (to.Moved job scan mover) = HasMoved (scan_moved f job.now scan.now) k blocks mover
HavePut f k blocks (to.Kept picture) = HasKept f k blocks picture

-- in a picture of this frame all real blocks are these
pub record HasAllKept (f : Frame) (blocks : Blocks) (p : RowPicture) : Type 0 where
  pub is_frame : IsFrame f
  pub framed : (p.coefs).frame ≡ f
  pub range : AreInRange (bounds f) (map_of p.coefs)
  pub same : (i x y : ℕ) → IsReal f i x y → map_of p.coefs i x y ≡ blocks i x y

-- All of them did.
abbrev pub HaveAllMoved : Frame → Job → SoleScan → Blocks → RowMover → Type 0
HaveAllMoved f job scan blocks mover = (k : ℕ) × HasAllMoved (scan_moved f job scan) k blocks mover

abbrev pub HaveAll : Frame → Blocks → RowsTo → Type 0
HaveAll f blocks (to.Moved job scan mover) = HaveAllMoved f job.now scan.now blocks mover
HaveAll f blocks (to.Kept picture) = HasAllKept f blocks picture

-- where the same goes
abbrev pub IsSameGoal : RowsTo → RowsTo → Type 0
IsSameGoal (to.Moved job scan mover) (to.Moved job2 scan2 mover2) = (job2 ≡ job) × (scan2 ≡ scan)
IsSameGoal (to.Moved job scan mover) (to.Kept picture2) = ⊥
IsSameGoal (to.Kept picture) (to.Moved job2 scan2 mover2) = ⊥
IsSameGoal (to.Kept picture) (to.Kept picture2) = Unit {0}

-- THE NEXT ROW
pub record CanPut (f : Frame) (k : ℕ) (blocks : Blocks) (row : Coefs) (r : RowsTo) : Type 0 where
  pub put : HavePut f k blocks r
  pub next : k < mcu_rows f
  pub lends : LendsRow f k row blocks

pub record Puts (old : RowsTo) (row : Coefs) (new : RowsTo) : Type 0 where
  pub same : IsSameGoal old new
  pub puts : (f : Frame) (k : ℕ) (blocks : Blocks) → CanPut f k blocks row old → HavePut f (k + 1) blocks new

-- THE ROWS THAT ARE MISSING: if there are any, the first is this one, and all blocks after it are zero.
pub record CanEndRows (f : Frame) (k : ℕ) (blocks : Blocks) (row : Coefs) (r : RowsTo) : Type 0 where
  pub put : HavePut f k blocks r
  pub work : k < mcu_rows f → LendsRow f k row blocks
  pub later : (i x y : ℕ) → (k + 1) * rows_in_mcu f i ≤ y → blocks i x y ≡ zeros 64

pub record EndsRows (old : RowsTo) (row : Coefs) (new : RowsTo) : Type 0 where
  pub same : IsSameGoal old new
  pub ends : (f : Frame) (k : ℕ) (blocks : Blocks) → CanEndRows f k blocks row old → HaveAll f blocks new
