-- TERMS OF THE LAWS: what holds together in their premises, and what they conclude. No definition uses them.
use Rattle.std.specs.Prelude.{◌≡◌, ℕ, ◌≤◌, false, List, length, All}
use Rattle.jpg_spec.specs.Geometry.{Frame, bounds, is_progressive}
use Rattle.jpg_spec.specs.Segments.{HuffmanTable, ScanHead}
use Rattle.jpg_spec.specs.FrameHeader.{AreLimits}
use Rattle.jpg_spec.specs.Elements.{Coding, IsBlockIn}
use Rattle.jpg_spec.specs.Scan.{scan_coding}
use Rattle.jpg_spec_write.specs.ScanText.{UnitDue, interval_elements}
use Rattle.jpg_spec_write.specs.Written.{HasCode, all_in_force}
use Rattle.jpg_spec.specs.Meaning.{Meaning}
use Rattle.jpg_spec_write.specs.Script.{Entry, sequential_script}
use Rattle.jpg_spec_write.specs.FileText.{Restart, frame_of_meaning, file_text}
use Rattle.jpg_spec_write.specs.WrittenFile.{IsHeaded, IsRestart, IsSequentialFile, IsProgressiveFile}
use Rattle.jpg_spec_write.specs.ScansAsked.{Scans, sequential, standard, given}
use Rattle.jpg_spec_write.specs.declared.huffman.Huffman.{Huffman}
use Rattle.jpg_spec.specs.declared.frame.Limits.{Limits}

-- the coding of a scan by tables
abbrev pub coding_by : (ℕ → ℕ → HuffmanTable) → Frame → ScanHead → Coding
coding_by tables f head = scan_coding f (all_in_force tables) head

-- Units of an interval that a sequential scan can write.
pub record AreWritable (f : Frame) (head : ScanHead) (due : List UnitDue) : Type 0 where
  pub sequential : is_progressive f.process ≡ false
  pub each : All (λ u. IsBlockIn (bounds f) u.1) due

-- Tables with a code for each symbol that is written of the units.
abbrev pub HaveCodes : (ℕ → ℕ → HuffmanTable) → ScanHead → List UnitDue → Type 0
HaveCodes tables head due = All (HasCode tables head) (interval_elements false head due)

-- WRITTEN FILES (T.81, B.2.1)

-- the file of a meaning in some sequential script, with any tables and restarts
pub record HasSequentialScript (limits : Limits) (H : Meaning) (bytes : List ℕ) : Type 0 where
  pub huffman : Huffman
  pub script : List Entry
  pub restart : Restart
  pub file : IsSequentialFile limits H script
  pub text : bytes ≡ file_text huffman H script restart

-- with restarts whose MCUs fit into two bytes
pub record IsSequentialText (limits : Limits) (H : Meaning) (bytes : List ℕ) : Type 0 where
  pub written : HasSequentialScript limits H bytes
  pub small : IsRestart written.restart

-- the text of a file in the script of one scan, or of one for each component
pub record IsOwnText (limits : Limits) (H : Meaning) (bytes : List ℕ) : Type 0 where
  pub huffman : Huffman
  pub restart : Restart
  pub headed : IsHeaded limits H
  pub sequential : is_progressive H.process ≡ false
  pub small : IsRestart restart
  pub text : bytes ≡ file_text huffman H (sequential_script (frame_of_meaning H)) restart

-- and in some progressive script
pub record IsProgressiveText (limits : Limits) (H : Meaning) (bytes : List ℕ) : Type 0 where
  pub huffman : Huffman
  pub script : List Entry
  pub restart : Restart
  pub file : IsProgressiveFile limits H script
  pub small : IsRestart restart
  pub text : bytes ≡ file_text huffman H script restart

-- the bytes are within the input's limit
pub record Fits (limits : Limits) (bytes : List ℕ) : Type 0 where
  pub limited : AreLimits limits
  pub long : length bytes ≤ limits.input

-- the default scans, sequential or progressive
abbrev pub AreOwn : Scans → Type 0
AreOwn sequential = Unit {0}
AreOwn standard = Unit {0}
AreOwn (given script) = ⊥
