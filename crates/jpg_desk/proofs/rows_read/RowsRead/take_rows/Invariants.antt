use Rattle.std.specs.Prelude.{List, ℕ}
use Rattle.jpg_desk.specs.RowsRead.{IsPutInPiece, rows_to_give}
use Rattle.jpg_desk.specs.declared.rows_read.RowsRead.{RowsRead}
use Rattle.jpg_desk.proofs.rows_read.RowsRead.take_rows.Given as goal

-- Whatever was read before, the same holds at the answer to what is left of the piece.
abbrev pub invariant-loop-answer : goal.invariant-loop-answer
invariant-loop-answer l = (from : RowsRead) (all : List ℕ) → IsPutInPiece from all l.piece l.fn.answer l.initial.self → IsPutInPiece from all l.rest l.answer l.self

abbrev pub decreases-loop-answer : goal.decreases-loop-answer
decreases-loop-answer l = rows_to_give l.answer (l.self.reader).value
