-- Bytes that are written, or wait to be.
use Rattle.std.specs.Prelude.{◌≡◌, ℕ, List, [], ◌++◌, Result, Ok, Err}
use Rattle.jpg_base.specs.Desk.{DeskState, NoneFell, Rose, AppendsLast}
use Rattle.jpg_base.specs.Laws.{AppendsPart}
use Rattle.jpg_base.specs.declared.stop.WriteFault.{WriteFault}

-- nothing but the outputs and the counts changed
pub record OnlyWrites (old new : DeskState) : Type 0 where
  pub counts : NoneFell old.counts new.counts
  pub asked : new.asked ≡ old.asked
  pub files : new.files ≡ old.files
  pub left : new.left ≡ old.left
  pub said : new.said ≡ old.said
  pub input_open : new.input_open ≡ old.input_open
  pub output_created : new.output_created ≡ old.output_created

-- What waited and the new bytes are written or wait. After a fault a first part is written, and nothing waits.
abbrev pub Emits : DeskState → List ℕ → List ℕ → Result (Unit {0}) WriteFault → List ℕ → DeskState → Type 0
Emits s0 old due (Ok u) new s1 = (out : List ℕ) × AppendsLast s0.outputs out s1.outputs × (old ++ due ≡ out ++ new)
Emits s0 old due (Err fault) new s1 = AppendsPart s0.outputs (old ++ due) s1.outputs × (new ≡ []) × Rose s0.counts.writes s1.counts.writes
