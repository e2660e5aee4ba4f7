use Rattle.std.specs.Prelude.{◌≡◌, false}
use Rattle.jpg_file.specs.Read.ReadFile.{IsPlain}
use Rattle.test_parts.proofs.scans.files.read.Given as goal

abbrev pub invariant-loop-piece : goal.invariant-loop-piece
invariant-loop-piece l = (l.reader.done ≡ false) × IsPlain l.reader
