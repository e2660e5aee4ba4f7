-- IMAGE FILES WHOSE SAMPLES ARE GIVEN AS THEY ARE READ, in any format.
use Rattle.std.specs.Prelude.{◌≡◌, ℕ, true, false, List, ◌++◌, length, take, None, Result, Ok, Err}
use Rattle.jpg_base.specs.declared.stop.Stop.{Stop}
use Rattle.jpg_base.specs.declared.stop.Stop.TheVariants as stop
use Rattle.jpg_spec_image.specs.declared.image.ImageInfo.{ImageInfo}
use Rattle.jpg_pnm_bmp.specs.Made.{image_by_parts}
use Rattle.jpg_pnm_bmp.specs.Pieces.{PieceKind, HasNoFault, AsksRightly}
use Rattle.jpg_pnm_bmp.specs.declared.read.piece.Answer.{Answer}
use Rattle.jpg_pnm_bmp.specs.declared.read.piece.Answer.TheVariants as answer
use Rattle.jpg_pnm_bmp.specs.declared.read.piece.Fed2.{Fed2}
use Rattle.jpg_pnm_bmp.specs.declared.read.piece.Fed2.TheVariants as fed
use Rattle.jpg_pnm_bmp.specs.declared.read.piece.Moved.{Moved}
use Rattle.jpg_pnm_bmp.specs.declared.read.samples.SampleReader.{SampleReader}

-- Of what gives a format's samples: how its files are read; which bytes lead to a state in which more are needed, and which
-- samples were given then; and the numbers of the image.
pub record SampleKind (W : Type 0) : Type 1 where
  pub reads : PieceKind W
  pub gives : List ℕ → List ℕ → W → Type 0
  pub info : W → ImageInfo

-- some bytes led to this state
abbrev pub HasGiven : {W : Type 0} → SampleKind W → W → Type 0
HasGiven k w = (bytes : List ℕ) × (given : List ℕ) × k.gives bytes given w

abbrev pub IsGiving : {W : Type 0} → SampleKind W → W → Type 0
IsGiving k w = ∥ HasGiven k w ∥₁

-- SOME BYTES of a piece, by all that were taken then, by all with the piece, and by all samples that were given then: more
-- bytes are needed; or these are the samples of the image; or a fault is shown.
abbrev pub AfterGiven : {W : Type 0} → SampleKind W → List ℕ → List ℕ → List ℕ → Answer → W → Type 0
AfterGiven k taken all given answer.More w = k.gives taken given w
AfterGiven k taken all given answer.Whole w = k.reads.means all (image_by_parts (k.info w) given) × HasNoFault k.reads taken
AfterGiven k taken all given (answer.Fault fault) w = k.reads.faults all fault (length taken)
AfterGiven k taken all given answer.NoMemory w = HasNoFault k.reads taken

-- samples are appended
abbrev pub Appends : List ℕ → List ℕ → (List ℕ → Type 0) → Type 0
Appends old new P = (more : List ℕ) × (new ≡ old ++ more) × P more

-- for all that was read and given before
abbrev pub GivesSome : {W : Type 0} → SampleKind W → W → List ℕ → List ℕ → Moved → W → List ℕ → Type 0
GivesSome k old piece before m new made =
    (bytes given : List ℕ) → k.gives bytes given old → Appends before made (λ more. AfterGiven k (bytes ++ take m.used piece) (bytes ++ piece) (given ++ more) m.answer new)

-- THE NUMBERS of the image stay, where more bytes are needed and where all samples are given; for all that was read and given
-- before.
abbrev pub HasSameInfo : {W : Type 0} → SampleKind W → W → Answer → W → Type 0
HasSameInfo k old answer.More new = k.info new ≡ k.info old
HasSameInfo k old answer.Whole new = k.info new ≡ k.info old
HasSameInfo k old (answer.Fault fault) new = Unit {0}
HasSameInfo k old answer.NoMemory new = Unit {0}

abbrev pub KeepsInfo : {W : Type 0} → SampleKind W → W → Answer → W → Type 0
KeepsInfo k old a new = (bytes given : List ℕ) → k.gives bytes given old → HasSameInfo k old a new

-- A PIECE, after these bytes, as many as `taken`, and these samples
pub record HasTaken (W : Type 0) (k : SampleKind W) (bytes given : List ℕ) (taken : ℕ) (w : W) : Type 0 where
  pub gives : k.gives bytes given w
  pub taken_is : taken ≡ length bytes

-- its result, whatever follows it
abbrev pub AfterTaken : {W : Type 0} → SampleKind W → List ℕ → List ℕ → List ℕ → Result Fed2 Stop → W → Type 0
AfterTaken k bytes piece given (Ok fed.More) w = k.gives (bytes ++ piece) given w
AfterTaken k bytes piece given (Ok fed.Done) w = k.reads.means (bytes ++ piece) (image_by_parts (k.info w) given)
AfterTaken k bytes piece given (Err (stop.Fault f)) w = k.reads.faults (bytes ++ piece) f.fault f.at
AfterTaken k bytes piece given (Err stop.NoMemory) w = Unit {0}

-- for all that was read and given before
abbrev pub TakesPiece : {W : Type 0} → SampleKind W → W → ℕ → List ℕ → List ℕ → Result Fed2 Stop → W → List ℕ → Type 0
TakesPiece {W} k old taken piece before answer new made =
    (bytes given : List ℕ) → HasTaken W k bytes given taken old → Appends before made (λ more. AfterTaken k bytes piece (given ++ more) answer new)

-- the numbers stay
abbrev pub InfoAfter : {W : Type 0} → SampleKind W → W → Result Fed2 Stop → W → Type 0
InfoAfter k old (Ok f) new = k.info new ≡ k.info old
InfoAfter k old (Err stop) new = Unit {0}

abbrev pub KeepsInfoTaken : {W : Type 0} → SampleKind W → W → Result Fed2 Stop → W → Type 0
KeepsInfoTaken k old answer new = (bytes given : List ℕ) → k.gives bytes given old → InfoAfter k old answer new

abbrev pub AsksTaken : {W : Type 0} → SampleKind W → W → ℕ → List ℕ → Result Fed2 Stop → Type 0
AsksTaken {W} k old taken piece answer = (bytes given : List ℕ) → HasTaken W k bytes given taken old → AsksRightly k.reads bytes piece answer

-- it goes on where more is needed
abbrev pub GoesOn : {W : Type 0} → SampleKind W → Result Fed2 Stop → W → Type 0
GoesOn k (Ok fed.More) w = IsGiving k w
GoesOn k (Ok fed.Done) w = Unit {0}
GoesOn k (Err stop) w = Unit {0}

-- A READER OF SAMPLES

-- it can go on while it hasn't stopped and the image isn't complete
abbrev pub CanGo : {W : Type 0} → SampleKind W → SampleReader W → Type 0
CanGo k r = r.stop ≡ None → r.done ≡ false → IsGiving k r.work

-- These bytes were fed, and these samples given. No prefix of the bytes is complete or has a fault, and more may follow.
abbrev pub HasFed : {W : Type 0} → SampleKind W → List ℕ → List ℕ → SampleReader W → Type 0
HasFed {W} k bytes given r = (r.stop ≡ None) × (r.done ≡ false) × HasTaken W k bytes given r.taken r.work

-- the result of a piece that is fed, by all bytes and samples so far
abbrev pub AfterFeed : {W : Type 0} → SampleKind W → List ℕ → List ℕ → List ℕ → Result Fed2 Stop → SampleReader W → Type 0
AfterFeed k bytes piece given (Ok fed.More) r = HasFed k (bytes ++ piece) given r
AfterFeed k bytes piece given (Ok fed.Done) r = AfterTaken k bytes piece given (Ok fed.Done) r.work
AfterFeed k bytes piece given (Err stop) r = AfterTaken k bytes piece given (Err stop) r.work

-- for all that was fed and given before
abbrev pub Feeds : {W : Type 0} → SampleKind W → SampleReader W → List ℕ → List ℕ → Result Fed2 Stop → SampleReader W → List ℕ → Type 0
Feeds k old piece before answer new made =
    (bytes given : List ℕ) → HasFed k bytes given old → Appends before made (λ more. AfterFeed k bytes piece (given ++ more) answer new)

abbrev pub KeepsInfoFed : {W : Type 0} → SampleKind W → SampleReader W → Result Fed2 Stop → SampleReader W → Type 0
KeepsInfoFed k old answer new = (bytes given : List ℕ) → HasFed k bytes given old → InfoAfter k old.work answer new.work

abbrev pub Asks : {W : Type 0} → SampleKind W → SampleReader W → List ℕ → Result Fed2 Stop → Type 0
Asks k old piece answer = (bytes given : List ℕ) → HasFed k bytes given old → AsksRightly k.reads bytes piece answer

-- the word that keeps `done`
abbrev pub KeepsDone : {W : Type 0} → Result Fed2 Stop → SampleReader W → Type 0
KeepsDone (Ok fed.More) r = r.done ≡ false
KeepsDone (Ok fed.Done) r = r.done ≡ true
KeepsDone (Err stop) r = r.done ≡ false
