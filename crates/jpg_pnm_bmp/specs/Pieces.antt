-- IMAGE FILES THAT ARE READ PIECE BY PIECE, in any format.
use Rattle.std.specs.Prelude.{◌≡◌, ℕ, ◌≤◌, List, ◌++◌, length, take, Result, Ok, Err}
use Rattle.jpg_base.specs.declared.stop.Stop.{Stop}
use Rattle.jpg_base.specs.declared.stop.Stop.TheVariants as stop
use Rattle.jpg_spec.specs.declared.fault.Fault.{Fault}
use Rattle.jpg_spec_image.specs.Images.{Image}
use Rattle.jpg_pnm_bmp.specs.Made.{AreBytes}
use Rattle.jpg_pnm_bmp.specs.declared.read.piece.Answer.{Answer}
use Rattle.jpg_pnm_bmp.specs.declared.read.piece.Answer.TheVariants as answer
use Rattle.jpg_pnm_bmp.specs.declared.read.piece.Fed2.{Fed2}
use Rattle.jpg_pnm_bmp.specs.declared.read.piece.Fed2.TheVariants as fed
use Rattle.jpg_pnm_bmp.specs.declared.read.piece.Moved.{Moved}

-- Of what reads a format: which bytes lead to a state in which more are needed; where the image is complete, and what it
-- is; which fault some bytes show with the last of them; and of all files that begin with some bytes, the image, and the
-- fault with its place.
pub record PieceKind (W : Type 0) : Type 1 where
  pub stands : List ℕ → W → Type 0
  pub can : W → Type 0
  pub image : W → Image
  pub shows : Fault → List ℕ → Type 0
  pub means : List ℕ → Image → Type 0
  pub faults : List ℕ → Fault → ℕ → Type 0

-- some bytes led to this state
abbrev pub IsLed : {W : Type 0} → PieceKind W → W → Type 0
IsLed k w = (bytes : List ℕ) × k.stands bytes w

abbrev pub IsGoing : {W : Type 0} → PieceKind W → W → Type 0
IsGoing k w = ∥ IsLed k w ∥₁

-- WHERE MEMORY IS ASKED FOR: no prefix of the bytes has a fault, nor do they with some first bytes of the piece.
abbrev pub HasNoFault : {W : Type 0} → PieceKind W → List ℕ → Type 0
HasNoFault k bytes = (n : ℕ) → n ≤ length bytes → (fault : Fault) → k.shows fault (take n bytes) → ⊥

abbrev pub GoesRight : {W : Type 0} → PieceKind W → List ℕ → List ℕ → Type 0
GoesRight k bytes piece = (n : ℕ) × (1 ≤ n) × (n ≤ length piece) × HasNoFault k (bytes ++ take n piece)

-- It is asked for by the image too, once that is complete.
abbrev pub AsksRightly : {W : Type 0} → PieceKind W → List ℕ → List ℕ → Result Fed2 Stop → Type 0
AsksRightly k bytes piece (Ok fed.More) = Unit {0}
AsksRightly k bytes piece (Ok fed.Done) = GoesRight k bytes piece
AsksRightly k bytes piece (Err (stop.Fault f)) = Unit {0}
AsksRightly k bytes piece (Err stop.NoMemory) = GoesRight k bytes piece

-- SOME BYTES of a piece, by all that were taken then and by all with the piece: more are needed; or the image is
-- complete; or a fault is shown.
abbrev pub AfterSome : {W : Type 0} → PieceKind W → List ℕ → List ℕ → Answer → W → Type 0
AfterSome k taken all answer.More w = k.stands taken w
AfterSome k taken all answer.Whole w = k.means all (k.image w) × HasNoFault k taken × (AreBytes all → AreBytes (k.image w).samples)
AfterSome k taken all (answer.Fault fault) w = k.faults all fault (length taken)
AfterSome k taken all answer.NoMemory w = HasNoFault k taken

-- for all that was read before
abbrev pub TakesSome : {W : Type 0} → PieceKind W → W → List ℕ → Moved → W → Type 0
TakesSome k old piece m new = (bytes : List ℕ) → k.stands bytes old → AfterSome k (bytes ++ take m.used piece) (bytes ++ piece) m.answer new

-- what the image is made of is all there, where it is complete
abbrev pub HasAll : {W : Type 0} → PieceKind W → Answer → W → Type 0
HasAll k answer.Whole w = k.can w
HasAll k other w = Unit {0}

-- the image is made, if its samples are bytes
abbrev pub MakesWhole : Image → Result Fed2 Stop → Image → Type 0
MakesWhole image (Ok fed.More) made = ⊥
MakesWhole image (Ok fed.Done) made = AreBytes image.samples → image ≡ made
MakesWhole image (Err (stop.Fault f)) made = ⊥
MakesWhole image (Err stop.NoMemory) made = Unit {0}

-- A PIECE

-- it was given these bytes, as many as `taken`
pub record HasRead (W : Type 0) (k : PieceKind W) (bytes : List ℕ) (taken : ℕ) (w : W) : Type 0 where
  pub stands : k.stands bytes w
  pub taken_is : taken ≡ length bytes

-- The result of a further piece, whatever follows it; and the image, once it is complete.
abbrev pub AfterRead : {W : Type 0} → PieceKind W → List ℕ → List ℕ → Result Fed2 Stop → W → Image → Type 0
AfterRead k bytes piece (Ok fed.More) w image = k.stands (bytes ++ piece) w
AfterRead k bytes piece (Ok fed.Done) w image = k.means (bytes ++ piece) image
AfterRead k bytes piece (Err (stop.Fault f)) w image = k.faults (bytes ++ piece) f.fault f.at
AfterRead k bytes piece (Err stop.NoMemory) w image = Unit {0}

-- for all that was read before
abbrev pub Reads : {W : Type 0} → PieceKind W → W → ℕ → List ℕ → Result Fed2 Stop → W → Image → Type 0
Reads {W} k old taken piece answer new image = (bytes : List ℕ) → HasRead W k bytes taken old → AreBytes bytes → AfterRead k bytes piece answer new image

abbrev pub AsksRead : {W : Type 0} → PieceKind W → W → ℕ → List ℕ → Result Fed2 Stop → Type 0
AsksRead {W} k old taken piece answer = (bytes : List ℕ) → HasRead W k bytes taken old → AsksRightly k bytes piece answer

-- it goes on where more is needed
abbrev pub GoesOn : {W : Type 0} → PieceKind W → Result Fed2 Stop → W → Type 0
GoesOn k (Ok fed.More) w = IsGoing k w
GoesOn k (Ok fed.Done) w = Unit {0}
GoesOn k (Err stop) w = Unit {0}
