use Rattle.jpg_file.specs.Read.ReadFile.{IsPlain}
use Rattle.test_parts.proofs.scans.files.feed.Given as goal

abbrev pub invariant-loop-piece : goal.invariant-loop-piece
invariant-loop-piece l = IsPlain l.reader
