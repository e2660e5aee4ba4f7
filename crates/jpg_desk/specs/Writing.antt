-- WHAT WRITING A TRANSFORMED PICTURE does to a desk, by its result (the manual of jpegtran).
use Rattle.std.specs.Prelude.{◌≡◌, ℕ, ◌<◌, Bool, List, All, take, Option, None, Some}
use Rattle.jpg_base.specs.declared.names.Name.{Name}
use Rattle.jpg_base.specs.declared.names.Put.TheVariants as put
use Rattle.jpg_base.specs.Desk.{DeskState, Rose, NotesName}
use Rattle.jpg_base.specs.Laws.{Grows}
use Rattle.jpg_spec.specs.FileMeaning.{Means}
use Rattle.jpg_spec.specs.Early.{IsMeaning}
use Rattle.jpg_spec.specs.Meaning.{Meaning}
use Rattle.jpg_spec_words.specs.declared.answers.Why.{Why}
use Rattle.jpg_spec_words.specs.declared.answers.Why.TheVariants as why
use Rattle.jpg_spec_words.specs.declared.answers.Which.TheVariants as which
use Rattle.jpg_spec_write.specs.declared.picture_fault.PictureFault.{PictureFault}
use Rattle.jpg_spec_move.specs.Moved.{Choice, moved, moved_text, picture_fault}
use Rattle.jpg_spec_move.specs.declared.area.Area.{Area}
use Rattle.jpg_spec.specs.Segments.{standard_limits}
use Rattle.jpg_spec_upright.specs.Upright.{choice_for, picture_for}
use Rattle.jpg_spec_write.specs.WrittenFile.{IsRestart}
use Rattle.jpg_file.specs.Read.PictureRead.{MeansFor, picture_meaning}
use Rattle.jpg_file.specs.declared.read.picture.Picture.{Picture}
use Rattle.jpg_desk.specs.Judging.{done_as}
use Rattle.jpg_desk.specs.Stays.{Untouched}
use Rattle.jpg_desk.specs.declared.moved.Wrote.{Wrote}
use Rattle.jpg_desk.specs.declared.moved.Wrote.TheVariants as wrote

-- some bytes mean this picture, as a complete file or as one that ends early
abbrev pub IsMeant : Meaning → Type 0
IsMeant M = (bytes : List ℕ) × All (λ b. b < 256) bytes × IsMeaning standard_limits bytes M

-- The text of the transformed picture means it.
abbrev pub MeansMoved : Choice → Meaning → Type 0
MeansMoved choice M = Means standard_limits (moved_text choice M) (moved choice M)

-- The text of the transformed picture means it, after it was marked as upright, if that is asked for.
abbrev pub MeansUpright : Bool → Choice → Meaning → Type 0
MeansUpright upright choice M = MeansMoved (choice_for upright choice M) (picture_for upright M)

-- Outputs grew by one of this name, which has a first part of the bytes.
abbrev pub GrowsInPart : Name → DeskState → List ℕ → DeskState → Type 0
GrowsInPart output old due new = (n : ℕ) × Grows old.outputs (output, take n due) new.outputs

-- An output of this name was created and has the text, or a first part of it; or it wasn't created.
abbrev pub AfterOutput : Name → DeskState → List ℕ → Wrote → DeskState → Type 0
AfterOutput output old due wrote.Done new = NotesName old.asked (output, put.Done) new.asked × Grows old.outputs (output, due) new.outputs
AfterOutput output old due (wrote.Picture fault) new = ⊥
AfterOutput output old due wrote.OpenFault new =
    NotesName old.asked (output, put.Failed) new.asked × Rose old.counts.opens new.counts.opens × (new.outputs ≡ old.outputs)
AfterOutput output old due wrote.WriteFault new =
    NotesName old.asked (output, put.Done) new.asked × Rose old.counts.writes new.counts.writes × GrowsInPart output old due new

-- WHAT WAS MADE of an input, which has this fault or none, and this text, is written, by why that ended: it has a
-- fault, and nothing was created; or it has none, and its text is written, of which this holds.
abbrev pub AfterMade : Option PictureFault → List ℕ → Type 0 → Name → DeskState → Why → DeskState → Type 0
AfterMade fault text Right output old why.Done new = (fault ≡ None) × AfterOutput output old text wrote.Done new × Right
AfterMade fault text Right output old (why.Picture p) new = (fault ≡ Some p) × Untouched old new
AfterMade fault text Right output old (why.OpenFault which.Output) new = (fault ≡ None) × AfterOutput output old text wrote.OpenFault new
AfterMade fault text Right output old why.WriteFault new = (fault ≡ None) × AfterOutput output old text wrote.WriteFault new
AfterMade fault text Right output old other new = ⊥

-- the result of a conversion then, if the input ended early after this many bytes
abbrev pub as_early : Option ℕ → Why → Why
as_early early why.Done = done_as early
as_early early other = other

abbrev pub why_wrote : Wrote → Why
why_wrote wrote.Done = why.Done
why_wrote (wrote.Picture fault) = why.Picture fault
why_wrote wrote.OpenFault = why.OpenFault which.Output
why_wrote wrote.WriteFault = why.WriteFault

-- a choice with an area to crop to, or none
abbrev pub in_area : Option Area → Choice → Choice
in_area area choice = record choice { crop = area }

-- THE RESULTS for a transformed picture, whose text means it if some bytes mean the picture
abbrev pub AfterMoved : Choice → Meaning → Name → DeskState → Wrote → DeskState → Type 0
AfterMoved choice M output old answer new =
    AfterMade (picture_fault choice M) (moved_text choice M) (IsMeant M → MeansMoved choice M) output old (why_wrote answer) new

-- Whatever picture this one means, except for markers that the choice doesn't pass on.
abbrev pub WritesMoved : Choice → Picture → Name → DeskState → Wrote → DeskState → Type 0
WritesMoved choice p output old answer new = (M : Meaning) → MeansFor choice.copying p M → AfterMoved choice M output old answer new

-- Of the picture as it is, all whose markers are kept: the same, where the restart interval can be written.
abbrev pub WritesOwn : Choice → Picture → Name → DeskState → Wrote → DeskState → Type 0
WritesOwn choice p output old answer new =
    AfterMade (picture_fault choice (picture_meaning p)) (moved_text choice (picture_meaning p)) (IsRestart choice.restart) output old (why_wrote answer) new
