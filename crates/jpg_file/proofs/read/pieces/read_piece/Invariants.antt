use Rattle.std.proofs.Common.{length, ◌-◌, ◌≡◌, true}
use Rattle.jpg_file.specs.Read.File.{scans_ended, limits_of}
use Rattle.jpg_file.specs.Read.ReadFile.{TakesPiece}
use Rattle.jpg_file.specs.Read.Strips.{seen_of}
use Rattle.jpg_file.proofs.Files.ReaderFed.{ScansSoFar}
use Rattle.jpg_file.proofs.read.pieces.read_piece.Given as goal

abbrev pub invariant-loop-step : goal.invariant-loop-step
invariant-loop-step l = record {
  taken : TakesPiece (limits_of l.fn.work) (seen_of l.fn.work) l.piece l.done l.step (seen_of l.work);
  scans : l.scans ≡ true → (l.ended ≡ scans_ended l.fn.work) × ScansSoFar (limits_of l.fn.work) (seen_of l.fn.work) l.piece l.done l.step (seen_of l.work);
}

abbrev pub decreases-loop-step : goal.decreases-loop-step
decreases-loop-step l = length l.piece - l.done
