-- What the laws over runs say.
use Rattle.std.specs.Prelude.{◌≡◌, ℕ, Bool, List, Option, None, false}
use Rattle.jpg_base.specs.Desk.{DeskState}
use Rattle.jpg_spec.specs.Early.{IsMeaning}
use Rattle.jpg_spec.specs.FileMeaning.{Means}
use Rattle.jpg_spec_move.specs.Laws.{IsTransformOf, UndoesTransform}
use Rattle.jpg_spec.specs.Meaning.{Meaning}
use Rattle.jpg_spec_move.specs.Moved.{IsSamePicture, moved_text}
use Rattle.jpg_spec_image.specs.Pixels.{out_fault}
use Rattle.jpg_spec.specs.Segments.{standard_limits}
use Rattle.jpg_spec_move.specs.declared.transform.Transform.{Transform}
use Rattle.jpg_spec.specs.declared.fault.FaultAt.{FaultAt}
use Rattle.jpg_spec_words.specs.declared.answers.Why.{Why}
use Rattle.jpg_spec_words.specs.declared.answers.Why.TheVariants as why
use Rattle.jpg_cli.specs.Certain.{IsOrNoMemory, IsTold}
use Rattle.jpg_cli.specs.Due.{NoneRose}
use Rattle.jpg_cli.specs.Tools.Showing.{Showing, Shown}
use Rattle.jpg_cli.specs.Tools.Turned.{Turned, TurnedWith, Turning}

-- If no count of open, read or write rose, a run that ends in this way has such a result.
abbrev pub WhereNoneRose : (DeskState → Why → DeskState → Type 0) → DeskState → (Why → Type 0) → Type 0
WhereNoneRose Ends old Is = (new : DeskState) (why : Why) → NoneRose old.counts new.counts → Ends old why new → Is why

-- It has this result, or NoMemory.
abbrev pub AnswersOrNoMemory : (DeskState → Why → DeskState → Type 0) → DeskState → Why → Type 0
AnswersOrNoMemory Ends old due = WhereNoneRose Ends old (IsOrNoMemory due)

-- Whichever counts rose, it has such a result.
abbrev pub WhateverRose : (DeskState → Why → DeskState → Type 0) → DeskState → (Why → Type 0) → Type 0
WhateverRose Ends old Is = (new : DeskState) (why : Why) → Ends old why new → Is why

-- A run that transforms a picture refused this input with this fault, however the desk cut it into pieces.
pub record WasRefused (bytes : List ℕ) (f : FaultAt) : Type 0 where
  pub turning : Turning
  pub old : DeskState
  pub new : DeskState
  pub told : IsTold old.files turning.input bytes
  pub turned : Turned turning old (why.Refused f) new

-- A run that decodes a picture did, in grayscale or not.
pub record WasRefusedShown (gray : Bool) (bytes : List ℕ) (f : FaultAt) : Type 0 where
  pub showing : Showing
  pub old : DeskState
  pub new : DeskState
  pub grayed : showing.gray ≡ gray
  pub told : IsTold old.files showing.input bytes
  pub shown : Shown showing old (why.Refused f) new

-- A run was done, perhaps with a warning, that transformed a transform of this picture by its inverse, as the words name
-- it, without trimming, conversion to grayscale and cropping.
pub record WasTurnedBack (t : Transform) (M : Meaning) : Type 0 where
  pub turning : Turning
  pub old : DeskState
  pub new : DeskState
  pub picture : Meaning
  pub early : Option ℕ
  pub turned : TurnedWith turning picture early old new
  pub named : turning.upright ≡ false
  pub made : IsTransformOf t M picture
  pub back : UndoesTransform t turning.choice

-- the text that it wrote
abbrev pub text_back : {t : Transform} {M : Meaning} → WasTurnedBack t M → List ℕ
text_back w = moved_text w.turning.choice w.picture

-- The bytes mean a picture, also if they end early, that can be displayed, in grayscale or not.
abbrev pub MeanShown : Bool → List ℕ → Type 0
MeanShown gray bytes = (M : Meaning) × IsMeaning standard_limits bytes M × (out_fault gray M ≡ None)

-- The bytes mean a picture that is the same in sides, identifiers, factors, quantisers and blocks.
abbrev pub MeanSame : List ℕ → Meaning → Type 0
MeanSame bytes M = (N : Meaning) × Means standard_limits bytes N × IsSamePicture N M
