-- An image file that is fed to a reader piece by piece, in any format.
use Rattle.std.specs.Prelude.{◌≡◌, ℕ, true, false, List, ◌++◌, None, Result, Ok, Err}
use Rattle.jpg_base.specs.declared.stop.Stop.{Stop}
use Rattle.jpg_spec_image.specs.Images.{Image}
use Rattle.jpg_pnm_bmp.specs.Made.{AreBytes, image_by_parts}
use Rattle.jpg_pnm_bmp.specs.Pieces.{PieceKind, IsGoing, HasRead, AfterRead, AsksRightly}
use Rattle.jpg_pnm_bmp.specs.declared.read.piece.Fed2.{Fed2}
use Rattle.jpg_pnm_bmp.specs.declared.read.piece.Fed2.TheVariants as fed
use Rattle.jpg_pnm_bmp.specs.declared.read.piece.PieceReader.{PieceReader}

-- the image, once it is complete
abbrev pub image_of : {W : Type 0} → PieceReader W → Image
image_of r = image_by_parts r.image.info r.image.samples

-- it can go on while it hasn't stopped and the image isn't complete
abbrev pub CanGo : {W : Type 0} → PieceKind W → PieceReader W → Type 0
CanGo k r = r.stop ≡ None → r.done ≡ false → IsGoing k r.work

-- These bytes were fed. No prefix of them is complete or has a fault, and more may follow.
abbrev pub HasFed : {W : Type 0} → PieceKind W → List ℕ → PieceReader W → Type 0
HasFed {W} k bytes r = (r.stop ≡ None) × (r.done ≡ false) × AreBytes bytes × HasRead W k bytes r.taken r.work

-- THE RESULT of a piece that is fed, by all bytes so far; where more is needed, these were fed then
abbrev pub AfterFeed : {W : Type 0} → PieceKind W → List ℕ → List ℕ → Result Fed2 Stop → PieceReader W → Type 0
AfterFeed k bytes piece (Ok fed.More) r = HasFed k (bytes ++ piece) r
AfterFeed k bytes piece (Ok fed.Done) r = AfterRead k bytes piece (Ok fed.Done) r.work (image_of r)
AfterFeed k bytes piece (Err stop) r = AfterRead k bytes piece (Err stop) r.work (image_of r)

-- for all that was fed before
abbrev pub Feeds : {W : Type 0} → PieceKind W → PieceReader W → List ℕ → Result Fed2 Stop → PieceReader W → Type 0
Feeds k old piece answer new = (bytes : List ℕ) → HasFed k bytes old → AfterFeed k bytes piece answer new

-- NoMemory is no answer to a fault: some first bytes of the piece, at least one, have none.
abbrev pub Asks : {W : Type 0} → PieceKind W → PieceReader W → List ℕ → Result Fed2 Stop → Type 0
Asks k old piece answer = (bytes : List ℕ) → HasFed k bytes old → AsksRightly k bytes piece answer

-- the word that keeps `done`
abbrev pub KeepsDone : {W : Type 0} → Result Fed2 Stop → PieceReader W → Type 0
KeepsDone (Ok fed.More) r = r.done ≡ false
KeepsDone (Ok fed.Done) r = r.done ≡ true
KeepsDone (Err stop) r = r.done ≡ false
