-- TEXTS OF ONE FORM, read byte by byte. TextForms and TextReaders of jpg_spec define what a text tells.
use Rattle.std.specs.Prelude.{List, ℕ, Result, Ok, Err}
use Rattle.jpg_spec.specs.declared.fault.FaultAt.{FaultAt}
use Rattle.jpg_spec.specs.TextForms.{TextForm, Tells}
use Rattle.jpg_spec.specs.TextReaders.{TextReader}
use Rattle.jpg_spec.proofs.Texts.TextsRead.{ReadsForm}

-- Of the states S: the form and the reader, and what a value of T stands for.
pub record TextKind (S T : Type 0) : Type 1 where
  pub A : Type 0
  pub form : TextForm A
  pub reader : TextReader A S
  pub value : T → A

-- it reads the texts of the form
abbrev pub ReadsTexts : {S T : Type 0} → TextKind S T → Type 0
ReadsTexts {S} k = ReadsForm k.A S k.form k.reader

abbrev pub TellsText : {S T : Type 0} → TextKind S T → List ℕ → Result T FaultAt → Type 0
TellsText k text (Ok told) = Tells k.form text (Ok (k.value told))
TellsText k text (Err e) = Tells k.form text (Err e)
