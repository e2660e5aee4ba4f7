-- HOW A CONVERSION ENDS: a command that reads an input, or has none, makes something of it and writes its text to an
-- output, by why it ended. jpegtran, djpeg and cjpeg are such commands, and jpgwork, which has no input.
use Rattle.std.specs.Prelude.{◌≡◌, ◌⊎◌, ◌<◌, ◌≤◌, ℕ, List, [], ◌∷◌, ◌++◌, length, take, Option, None, Some}
use Rattle.jpg_base.specs.declared.names.Name.{Name}
use Rattle.jpg_base.specs.declared.names.Put.TheVariants as put
use Rattle.jpg_base.specs.Desk.{DeskState, Rose}
use Rattle.jpg_spec.specs.declared.fault.FaultAt.{FaultAt}
use Rattle.jpg_spec_words.specs.declared.answers.Why.{Why}
use Rattle.jpg_spec_words.specs.declared.answers.Why.TheVariants as why
use Rattle.jpg_spec_words.specs.declared.answers.Which.TheVariants as which
use Rattle.jpg_spec_write.specs.declared.picture_fault.PictureFault.{PictureFault}
use Rattle.jpg_desk.specs.Endings.{Added, Stopped, Unopened}
use Rattle.jpg_desk.specs.Judging.{IsAllRead, Judging, ReadsFrom, input_names, left_of}

-- WHAT IS WRITTEN BEFORE THE END of the input, where the output is written while it is read: whether it begins in these
-- bytes; the text of all rows that they complete; and the text of some first rows, which they determine
pub record RowTexts : Type 1 where
  pub begin : List ℕ → Type 0
  pub complete : List ℕ → List ℕ → Type 0
  pub determine : List ℕ → List ℕ → Type 0

-- whether the output is created after the input was read, with all that it needs at hand; or while memory is still
-- asked for; or written while the input is read
pub data Writing : Type 1 where
  at_end : Writing
  drawn : Writing
  by_rows : RowTexts → Writing

-- A CONVERSION: the names that are opened before, that of the input, if there is one, and that of the output; what is
-- judged of the bytes; the fault of what is made of a value, its text, and what holds of that; and when the output is
-- written
pub record Conversion (V : Type 0) : Type 1 where
  pub before : List Name
  pub input : Option Name
  pub output : Name
  pub judging : Judging V
  pub fault : V → Option PictureFault
  pub text : V → List ℕ
  pub right : V → Type 0
  pub writing : Writing

abbrev pub names_to_read : {V : Type 0} → Conversion V → List Name
names_to_read c = c.before ++ input_names c.input

abbrev pub names_to_write : {V : Type 0} → Conversion V → List Name
names_to_write c = names_to_read c ++ c.output ∷ []

-- There is an input, and it wasn't opened after these names.
abbrev pub InputUnopened : List Name → Option Name → DeskState → DeskState → Type 0
InputUnopened before None old new = ⊥
InputUnopened before (Some input) old new = Unopened (before ++ input ∷ []) old new

-- WHEN THE INPUT WAS READ

-- It has this value, also if it ends early after this many bytes. What is made of it has this fault, or none.
pub record ReadsValue (V : Type 0) (c : Conversion V) (x : V) (early : Option ℕ) (fault : Option PictureFault) (old new : DeskState) : Type 0 where
  pub read : ReadsFrom c.input (c.judging.has x early (left_of c.input new)) old new
  pub all : IsAllRead early new
  pub is : c.fault x ≡ fault

-- and its text was written
abbrev pub WritesValue : {V : Type 0} → Conversion V → V → Option ℕ → DeskState → DeskState → Type 0
WritesValue {V} c x early old new = ReadsValue V c x early None old new × Added (names_to_read c) c.output (c.text x) old new × c.right x

-- or a first part of it
pub record WritesPart (V : Type 0) (c : Conversion V) (old new : DeskState) : Type 0 where
  pub value : V
  pub early : Option ℕ
  pub count : ℕ
  pub read : ReadsValue V c value early None old new
  pub wrote : Added (names_to_read c) c.output (take count (c.text value)) old new

-- and something of it is left
pub record WritesLess (V : Type 0) (c : Conversion V) (old new : DeskState) : Type 0 where
  pub part : WritesPart V c old new
  pub left : part.count < length (c.text part.value)

-- WHILE IT IS READ

-- which of the bytes that were read count: all, or those before the place of a fault
abbrev pub all_bytes : List ℕ → List ℕ
all_bytes bytes = bytes

abbrev pub bytes_before : FaultAt → List ℕ → List ℕ
bytes_before f bytes = take f.at bytes

-- This holds of the bytes that were read, and the output doesn't begin in those that count.
abbrev pub IsNotBegun : RowTexts → (List ℕ → List ℕ) → (List ℕ → Type 0) → List ℕ → Type 0
IsNotBegun r upto Is bytes = Is bytes × (r.begin (upto bytes) → ⊥)

-- It begins in them, and this is the text of all rows that they complete.
abbrev pub IsSoFar : RowTexts → (List ℕ → List ℕ) → (List ℕ → Type 0) → List ℕ → List ℕ → Type 0
IsSoFar r upto Is text bytes = Is bytes × r.begin (upto bytes) × r.complete (upto bytes) text

-- The output has it.
pub record WritesRows (V : Type 0) (c : Conversion V) (r : RowTexts) (upto : List ℕ → List ℕ) (Is : List ℕ → Type 0) (old new : DeskState) : Type 0 where
  pub text : List ℕ
  pub read : ReadsFrom c.input (IsSoFar r upto Is text) old new
  pub wrote : Added (names_to_read c) c.output text old new

-- The output has a first part of the text of rows that the bytes determine.
pub record WritesRowsInPart (V : Type 0) (c : Conversion V) (r : RowTexts) (old new : DeskState) : Type 0 where
  pub text : List ℕ
  pub count : ℕ
  pub read : ReadsFrom c.input (λ bytes. c.judging.short bytes × r.determine bytes text) old new
  pub wrote : Added (names_to_read c) c.output (take count text) old new

-- and not all of the text, if the bytes have a value
pub record WritesLessRows (V : Type 0) (c : Conversion V) (r : RowTexts) (old new : DeskState) : Type 0 where
  pub part : WritesRowsInPart V c r old new
  pub left : (x : V) → c.judging.has x None (left_of c.input new) (part.read).bytes → length (take part.count part.text) < length (c.text x)

-- What was written is at least the text of these bytes without their last 65,536.
abbrev pub IsWrittenInTime : RowTexts → List ℕ → List ℕ → Type 0
IsWrittenInTime r bytes written =
    (front rest text : List ℕ) → bytes ≡ front ++ rest → 65536 ≤ length rest → r.complete front text → length text ≤ length written

pub record WritesPartInTime (V : Type 0) (c : Conversion V) (r : RowTexts) (old new : DeskState) : Type 0 where
  pub part : WritesPart V c old new
  pub early : IsWrittenInTime r ((part.read).read).bytes (take part.count (c.text part.value))

pub record WritesRowsInTime (V : Type 0) (c : Conversion V) (r : RowTexts) (old new : DeskState) : Type 0 where
  pub part : WritesRowsInPart V c r old new
  pub early : IsWrittenInTime r (part.read).bytes (take part.count part.text)

-- BY WHEN the output is written

-- This holds of the bytes that were read: no output was added, or it has the rows that those that count complete.
abbrev pub StopsReading : {V : Type 0} → Conversion V → Writing → (List ℕ → List ℕ) → (List ℕ → Type 0) → DeskState → DeskState → Type 0
StopsReading {V} c (by_rows r) upto Is old new =
    (Stopped (names_to_read c) put.Done old new × ReadsFrom c.input (IsNotBegun r upto Is) old new) ⊎ WritesRows V c r upto Is old new
StopsReading c other upto Is old new = Stopped (names_to_read c) put.Done old new × ReadsFrom c.input Is old new

-- when the output is created: a value was read whose result has no fault, or rows begin
abbrev pub ReadsAdmitted : {V : Type 0} → Conversion V → DeskState → DeskState → Type 0
ReadsAdmitted {V} c old new = (x : V) × (early : Option ℕ) × ReadsValue V c x early None old new

abbrev pub MayCreate : {V : Type 0} → Conversion V → Writing → DeskState → DeskState → Type 0
MayCreate c (by_rows r) old new = ReadsAdmitted c old new ⊎ ReadsFrom c.input (λ bytes. c.judging.short bytes × r.begin bytes) old new
MayCreate c other old new = ReadsAdmitted c old new

-- the output wasn't written to its end
abbrev pub StopsWriting : {V : Type 0} → Conversion V → Writing → DeskState → DeskState → Type 0
StopsWriting {V} c (by_rows r) old new = WritesPartInTime V c r old new ⊎ WritesRowsInTime V c r old new
StopsWriting {V} c other old new = WritesPart V c old new

-- there was no memory
abbrev pub StopsShort : {V : Type 0} → Conversion V → DeskState → DeskState → Type 0
StopsShort c old new = Stopped (names_to_read c) put.Done old new × ReadsFrom c.input c.judging.short old new

abbrev pub RunsShort : {V : Type 0} → Conversion V → Writing → DeskState → DeskState → Type 0
RunsShort c at_end old new = StopsShort c old new
RunsShort {V} c drawn old new = StopsShort c old new ⊎ WritesLess V c old new
RunsShort {V} c (by_rows r) old new = StopsShort c old new ⊎ (WritesLess V c old new ⊎ WritesLessRows V c r old new)

-- THE RESULTS: Done, or Warned if the input ended early: the output has the text of what is made of the input's value,
-- which has no fault. If the output wasn't written to its end, it has a first part of that text. It is created only
-- after a value was read whose result has no fault; or, where rows are written before, it has those that are ready
-- before a fault's place, or if reading fails, those of all bytes that were read. After NoMemory it has not all of the
-- text, and there is none where all that it needs was at hand.
abbrev pub Converted : {V : Type 0} → Conversion V → DeskState → Why → DeskState → Type 0
Converted {V} c old why.Done new = (x : V) × WritesValue c x None old new
Converted {V} c old (why.Warned n) new = (x : V) × WritesValue c x (Some n) old new
Converted c old (why.Refused f) new = StopsReading c c.writing (bytes_before f) (c.judging.refused f (left_of c.input new)) old new
Converted {V} c old (why.Picture fault) new =
    Stopped (names_to_read c) put.Done old new × ((x : V) × (early : Option ℕ) × ReadsValue V c x early (Some fault) old new)
Converted c old (why.OpenFault which.Input) new = InputUnopened c.before c.input old new
Converted c old (why.OpenFault which.Output) new = Unopened (names_to_write c) old new × MayCreate c c.writing old new
Converted c old (why.ReadFault which.Input) new = Rose old.counts.reads new.counts.reads × StopsReading c c.writing all_bytes c.judging.unfinished old new
Converted c old why.WriteFault new = Rose old.counts.writes new.counts.writes × StopsWriting c c.writing old new
Converted c old why.NoMemory new = RunsShort c c.writing old new
Converted c old other new = ⊥
