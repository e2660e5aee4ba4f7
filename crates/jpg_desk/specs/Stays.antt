-- WHAT DOESN'T CHANGE of a desk in the steps of a run.
use Rattle.std.specs.Prelude.{◌≡◌}
use Rattle.jpg_base.specs.Desk.{DeskState, NoneFell}

-- no count fell, and the files didn't change
pub record FilesStay (old new : DeskState) : Type 0 where
  pub counts : NoneFell old.counts new.counts
  pub files : new.files ≡ old.files

-- nor did the messages
pub record OnlyWorks (old new : DeskState) : Type 0 where
  pub stays : FilesStay old new
  pub said : new.said ≡ old.said

-- nor did the outputs
pub record Keeps (old new : DeskState) : Type 0 where
  pub works : OnlyWorks old new
  pub outputs : new.outputs ≡ old.outputs

-- nothing but the bytes left, the outputs, the counts and whether the input is open changed
pub record OnlyCopies (old new : DeskState) : Type 0 where
  pub works : OnlyWorks old new
  pub asked : new.asked ≡ old.asked
  pub output_created : new.output_created ≡ old.output_created

-- nor did the outputs
pub record OnlyReads (old new : DeskState) : Type 0 where
  pub copies : OnlyCopies old new
  pub outputs : new.outputs ≡ old.outputs

-- nothing was opened or created, nothing read and nothing written
pub record Untouched (old new : DeskState) : Type 0 where
  pub asked : new.asked ≡ old.asked
  pub outputs : new.outputs ≡ old.outputs
  pub left : new.left ≡ old.left

-- nothing but the messages and the counts changed
pub record OnlySays (old new : DeskState) : Type 0 where
  pub stays : FilesStay old new
  pub same : Untouched old new
