-- WHAT TAKING A TEXT of another file does to a desk, before the input is opened: a script, or tables.
use Rattle.std.specs.Prelude.{◌≡◌, ℕ, ◌+◌, List, [], ◌∷◌, ◌++◌, Result, Err}
use Rattle.jpg_base.specs.declared.names.Name.{Name}
use Rattle.jpg_base.specs.declared.names.Put.TheVariants as put
use Rattle.jpg_base.specs.Desk.{DeskState}
use Rattle.jpg_spec.specs.declared.fault.FaultAt.{FaultAt}
use Rattle.jpg_spec_words.specs.declared.answers.Why.{Why}
use Rattle.jpg_spec_words.specs.declared.answers.Why.TheVariants as why
use Rattle.jpg_spec_words.specs.declared.answers.Which.{Which}
use Rattle.jpg_desk.specs.Endings.{Stopped, Unopened, Unread}
use Rattle.jpg_desk.specs.Reading.{IsFile, IsReadTo, ReadsPart}

-- A KIND OF TEXT: which file has it, for the results; how long it may be; and what one encodes, or its fault
pub record TextKind (A : Type 0) : Type 1 where
  pub which : Which
  pub longest : ℕ
  pub tells : List ℕ → Result A FaultAt → Type 0

-- WHAT A FILE ENCODES: if the files are known, the one of this name has a text, which encodes this or has this fault
pub record TellsIn (A : Type 0) (t : TextKind A) (file : Name) (told : Result A FaultAt) (old : DeskState) : Type 0 where
  pub text : List ℕ
  pub is : IsFile old.files file text
  pub tells : t.tells text told

-- NOTHING WAS TAKEN, after names that were opened before: the file wasn't opened or read, or its text has a fault. No
-- more of it was read than one byte more than the longest text.

pub record TextRefused (A : Type 0) (t : TextKind A) (before : List Name) (file : Name) (f : FaultAt) (old new : DeskState) : Type 0 where
  pub stopped : Stopped (before ++ file ∷ []) put.Done old new
  pub fault : TellsIn A t file (Err f) old
  pub read : IsReadTo (t.longest + 1) fault.text new

abbrev pub StopsAtText : {A : Type 0} → TextKind A → List Name → Name → DeskState → Why → DeskState → Type 0
StopsAtText {A} t before file old (why.Refused f) new = TextRefused A t before file f old new
StopsAtText t before file old (why.OpenFault is) new = (is ≡ t.which) × Unopened (before ++ file ∷ []) old new
StopsAtText t before file old (why.ReadFault is) new = (is ≡ t.which) × Unread (before ++ file ∷ []) old new × ReadsPart t.longest file old new
StopsAtText t before file old why.NoMemory new = Stopped (before ++ file ∷ []) put.Done old new × ReadsPart (t.longest + 1) file old new
StopsAtText t before file old other new = ⊥
