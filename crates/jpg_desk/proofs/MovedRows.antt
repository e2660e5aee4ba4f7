-- The file of a picture that was transformed MCU row by MCU row, written.
use Rattle.std.proofs.Common.{ℕ, List, subst}
use Rattle.jpg_base.specs.Desk.{DeskState}
use Rattle.jpg_base.specs.declared.names.Name.{Name}
use Rattle.jpg_spec_move.specs.Moved.{Choice}
use Rattle.jpg_file.specs.declared.read.picture.Picture.{Picture}
use Rattle.jpg_desk.specs.EncodedRows.{WritesRows}
use Rattle.jpg_desk.specs.MovedRows.{IsMovedRows}
use Rattle.jpg_desk.specs.Writing.{AfterOutput, WritesMoved, WritesOwn}
use Rattle.jpg_desk.specs.declared.encoded_rows.EncodedRows.{EncodedRows}
use Rattle.jpg_desk.specs.declared.moved.Wrote.{Wrote}
use Rattle.jpg_desk.proofs.MovedWritten.{own_written, written}

module _ {choice : Choice} {p : Picture} (r : EncodedRows) (output : Name) (old new : DeskState) (answer : Wrote) (is : IsMovedRows choice p r) (writes : WritesRows output r old answer new) where
  -- What was written is the transformed picture, as if the picture had been written by `write_moved`.
  pub rows_moved : WritesMoved choice p output old answer new
  rows_moved = written choice p ((r.file).plan).value output old new answer is.planned (subst (λ (due : List ℕ). AfterOutput output old due answer new) is.text (writes is.frame is.blocks is.has))

  pub rows_own : WritesOwn choice p output old answer new
  rows_own = own_written choice p ((r.file).plan).value output old new answer is.planned (subst (λ (due : List ℕ). AfterOutput output old due answer new) is.text (writes is.frame is.blocks is.has))
