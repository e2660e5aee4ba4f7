-- HOW A COMMAND THAT COPIES ENDS: it writes a text for the bytes of its input while it reads them, by why it ended.
-- rdjpgcom and wrjpgcom are such commands.
use Rattle.std.specs.Prelude.{ℕ, ◌≤◌, List, length}
use Rattle.std.specs.Io.KnownBytes.{Consumes}
use Rattle.jpg_base.specs.Desk.{AppendsLast, DeskState, Rose}
use Rattle.jpg_spec.specs.Segments.{standard_limits}
use Rattle.jpg_spec.specs.declared.fault.FaultAt.{FaultAt}
use Rattle.jpg_spec_words.specs.declared.answers.Why.{Why}
use Rattle.jpg_spec_words.specs.declared.answers.Why.TheVariants as why
use Rattle.jpg_spec_words.specs.declared.answers.Which.TheVariants as which
use Rattle.jpg_desk.specs.Reading.{rest_of}

-- WHAT HOLDS of the bytes that were read and the text that was written for them: all is written, and this rest of the
-- input is left; the input is refused with this fault, and this rest is left; no more of it could be read; the text was
-- written only in part; it was written only in part and something of it is left
pub record CopyTexts : Type 1 where
  pub whole : List ℕ → List ℕ → List ℕ → Type 0
  pub refused : FaultAt → List ℕ → List ℕ → List ℕ → Type 0
  pub unread : List ℕ → List ℕ → Type 0
  pub part : List ℕ → List ℕ → Type 0
  pub less : List ℕ → List ℕ → Type 0

-- THE RESULTS, where bytes are read and a text is written in this way
abbrev pub Copies : CopyTexts → ((List ℕ → List ℕ → Type 0) → DeskState → DeskState → Type 0) → DeskState → Why → DeskState → Type 0
Copies t Does old why.Done new = Does (t.whole (rest_of new.left)) old new
Copies t Does old (why.Refused f) new = Does (t.refused f (rest_of new.left)) old new
Copies t Does old (why.ReadFault which.Input) new = Does t.unread old new × Rose old.counts.reads new.counts.reads
Copies t Does old why.WriteFault new = Does t.part old new × Rose old.counts.writes new.counts.writes
Copies t Does old why.NoMemory new = Does t.less old new
Copies t Does old other new = ⊥

-- STEP BY STEP, from a desk whose input is open and whose output is created

-- These bytes were read, no more than may be, and this text was written.
pub record HasCopied (old : DeskState) (bytes text : List ℕ) (new : DeskState) : Type 0 where
  pub most : length bytes ≤ standard_limits.input
  pub read : Consumes old.left new.left bytes
  pub written : AppendsLast old.outputs text new.outputs

abbrev pub CopiesText : (List ℕ → List ℕ → Type 0) → DeskState → DeskState → Type 0
CopiesText Is old new = (bytes : List ℕ) × (text : List ℕ) × HasCopied old bytes text new × Is bytes text
