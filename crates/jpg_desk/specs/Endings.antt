-- HOW A COMMAND ENDS: the names that it opened or created, what it read of an input, and what it wrote.
use Rattle.std.specs.Prelude.{◌≡◌, ℕ, List, [], ◌∷◌, ◌++◌}
use Rattle.jpg_base.specs.declared.names.Name.{Name}
use Rattle.jpg_base.specs.declared.names.Put.{Put}
use Rattle.jpg_base.specs.declared.names.Put.TheVariants as put
use Rattle.jpg_base.specs.Desk.{DeskState, Rose}
use Rattle.jpg_base.specs.Laws.{NotesNames, Grows}
use Rattle.jpg_spec.specs.Segments.{standard_limits}
use Rattle.jpg_desk.specs.Reading.{ReadsBytes}
use Rattle.jpg_desk.specs.Stays.{Keeps}

-- names in the order in which they are opened or created, with their results: this one for the last, and Done for each
-- before it
abbrev pub asked_for : List Name → Put → List (Name × Put)
asked_for [] answer = []
asked_for (name ∷ []) answer = (name, answer) ∷ []
asked_for (name ∷ next ∷ names) answer = (name, put.Done) ∷ asked_for (next ∷ names) answer

-- These names were opened or created, the last one with this result.
abbrev pub Asks : List Name → Put → DeskState → DeskState → Type 0
Asks names answer old new = NotesNames old.asked (asked_for names answer) new.asked

-- These names were opened, and nothing else was done but reading.
pub record GoesOnAfter (names : List Name) (old new : DeskState) : Type 0 where
  pub asked : Asks names put.Done old new
  pub kept : Keeps old new

-- They were opened or created, and no output was added.
pub record Stopped (names : List Name) (answer : Put) (old new : DeskState) : Type 0 where
  pub asked : Asks names answer old new
  pub outputs : new.outputs ≡ old.outputs

-- The last of these names wasn't opened, or created.
pub record Unopened (names : List Name) (old new : DeskState) : Type 0 where
  pub stopped : Stopped names put.Failed old new
  pub opens : Rose old.counts.opens new.counts.opens

-- The last of these names was opened, and reading it failed.
pub record Unread (names : List Name) (old new : DeskState) : Type 0 where
  pub stopped : Stopped names put.Done old new
  pub reads : Rose old.counts.reads new.counts.reads

-- These names were opened, and then an output was created under one more name. It has this text.
pub record Added (names : List Name) (output : Name) (text : List ℕ) (old new : DeskState) : Type 0 where
  pub asked : Asks (names ++ output ∷ []) put.Done old new
  pub outputs : Grows old.outputs (output, text) new.outputs

-- After these names the input was opened, and bytes of it, no more than may be, were read. The output has a text, and
-- this holds of the bytes and the text.
pub record Copied (before : List Name) (input output : Name) (Is : List ℕ → List ℕ → Type 0) (old new : DeskState) : Type 0 where
  pub bytes : List ℕ
  pub text : List ℕ
  pub read : ReadsBytes standard_limits.input input bytes old new
  pub wrote : Added (before ++ input ∷ []) output text old new
  pub is : Is bytes text
