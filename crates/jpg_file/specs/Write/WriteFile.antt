-- A WRITTEN FILE (T.81, B.2): what it means, when it may be written, and what writing does.
use Rattle.std.specs.Prelude.{◌≡◌, ℕ, Bool, true, if◌then◌else◌, List, [], length, Result, Ok, Err, ◌==◌, ◌&&◌, ◌∷◌, ◌++◌}
use Rattle.jpg_spec_write.specs.FileText.{file_text, frame_of_meaning, nothing_written}
use Rattle.jpg_spec.specs.Geometry.{Frame, is_progressive}
use Rattle.jpg_spec.specs.Meaning.{Meaning, colour_of, real_blocks}
use Rattle.jpg_spec_write.specs.Script.{Entry}
use Rattle.jpg_spec.specs.Grids.{frame_grids}
use Rattle.jpg_spec.specs.Scan.{Blocks}
use Rattle.jpg_spec_write.specs.WrittenFile.{HasBlocksIn, is_progressive_after, is_script_after}
use Rattle.jpg_base.specs.Desk.{DeskState, Rose, AppendsLast}
use Rattle.jpg_base.specs.Laws.{AppendsPart}
use Rattle.jpg_base.specs.declared.stop.WriteFault.{WriteFault}
use Rattle.jpg_huff.specs.Out.{OnlyWrites}
use Rattle.jpg_markers.specs.OutHead.{head_meaning}
use Rattle.jpg_scans.specs.Restarts.{restart_of}
use Rattle.jpg_file.specs.declared.write.Plan.{Plan}
use Rattle.jpg_spec.specs.Segments.{head_components}
use Rattle.jpg_spec_write.specs.ScanText.{typical_table}
use Rattle.jpg_seq.specs.Reader.{IsSeqScan}
use Rattle.jpg_seq.specs.ScanWritten.{written_data}
use Rattle.jpg_file.specs.Write.WriteScan.{IsDue, start_text, GivesTables, has_typical}
use Rattle.jpg_file.specs.declared.write.sole.SoleScan.{SoleScan}

-- what the file means: its head, and the real blocks of the view
abbrev pub file_meaning : Plan → List (ℕ × List ℕ) → Blocks → Meaning
file_meaning plan kept blocks = record (head_meaning plan.out kept) { blocks = real_blocks plan.out.frame blocks }

-- its text
abbrev pub file_bytes : Plan → List (ℕ × List ℕ) → Blocks → List ℕ
file_bytes plan kept blocks = file_text plan.huffman (file_meaning plan kept blocks) plan.script (restart_of plan.restart)

-- the test of a script for files of this meaning's process
abbrev pub does_pass : Meaning → List Entry → Bool
does_pass H script = if is_progressive H.process then is_progressive_after H [] script else is_script_after (frame_of_meaning H) [] script

-- A plan with a table for each component and the colours that the file means, whose script passes; and blocks viewed in
-- a frame of the same precision and grids, which is progressive if the file's is, and that can be written.
pub record CanWriteFile (plan : Plan) (kept : List (ℕ × List ℕ)) (f : Frame) (blocks : Blocks) : Type 0 where
  pub precision : f.precision ≡ plan.out.frame.precision
  pub tables : length plan.out.quants.items ≡ length plan.out.frame.components
  pub colour : plan.out.colour ≡ colour_of (file_meaning plan kept blocks)
  pub passes : does_pass (file_meaning plan kept blocks) plan.script ≡ true
  pub seen : is_progressive f.process ≡ is_progressive plan.out.frame.process
  pub grids : frame_grids f ≡ frame_grids plan.out.frame
  pub writable : HasBlocksIn f blocks

-- all of these bytes were written, or after a fault a first part of them
abbrev pub AreAppended : DeskState → List ℕ → Result (Unit {0}) WriteFault → DeskState → Type 0
AreAppended old due (Ok u) new = AppendsLast old.outputs due new.outputs
AreAppended old due (Err fault) new = AppendsPart old.outputs due new.outputs × Rose old.counts.writes new.counts.writes

-- and nothing else changed
pub record WritesDue (old : DeskState) (due : List ℕ) (result : Result (Unit {0}) WriteFault) (new : DeskState) : Type 0 where
  pub only : OnlyWrites old new
  pub bytes : AreAppended old due result new

-- THE ONLY SCAN of a file with typical tables, whose data were encoded before the file is written (T.81, B.2.1, K.3).

-- a plan of one scan with typical tables
abbrev pub is_sole : Plan → Bool
is_sole plan = length plan.script == 1 && has_typical plan.huffman plan.out.frame

-- what its scan is written with: what its only entry asks for, and the typical tables
pub record IsSole (plan : Plan) (scan : SoleScan) : Type 0 where
  pub entry : Entry
  pub only : plan.script ≡ entry ∷ []
  pub typical : has_typical plan.huffman plan.out.frame ≡ true
  pub due : IsDue plan entry scan.due
  pub tables : GivesTables scan.tables typical_table

-- a sequential scan of all components of a frame, whose tables are there
pub record IsOfAll (f : Frame) (scan : SoleScan) : Type 0 where
  pub sequential : IsSeqScan f scan.due.head scan.tables
  pub all : length (head_components scan.due.head) ≡ length f.components

-- of each frame whose blocks the plan may write
abbrev pub IsAllOf : Plan → SoleScan → Type 0
IsAllOf plan scan = (kept : List (ℕ × List ℕ)) (f : Frame) (blocks : Blocks) → CanWriteFile plan kept f blocks → IsOfAll f scan

-- the data of these blocks
pub record IsSoleData (plan : Plan) (kept : List (ℕ × List ℕ)) (f : Frame) (blocks : Blocks) (scan : SoleScan) (bytes : List ℕ) : Type 0 where
  pub can : CanWriteFile plan kept f blocks
  pub sole : IsSole plan scan
  pub written : bytes ≡ written_data f scan.due.head scan.tables scan.due.interval blocks

-- its text, where nothing was written before
abbrev pub sole_text : Frame → SoleScan → List ℕ → List ℕ
sole_text file scan bytes = start_text file nothing_written scan.due scan.tables ++ bytes

-- the file of the blocks whose data these are is written
abbrev pub WritesSole : Plan → List (ℕ × List ℕ) → SoleScan → List ℕ → DeskState → Result (Unit {0}) WriteFault → DeskState → Type 0
WritesSole plan kept scan bytes old result new = (f : Frame) (blocks : Blocks) → IsSoleData plan kept f blocks scan bytes → WritesDue old (file_bytes plan kept blocks) result new
