-- A Targa file that is fed to a reader piece by piece.
use Rattle.std.specs.Prelude.{◌≡◌, ℕ, Bool, List, length, Option, Result}
use Rattle.jpg_base.specs.declared.stop.Stop.{Stop}
use Rattle.jpg_base.specs.declared.stop.Stop.TheVariants as stop
use Rattle.jpg_spec.specs.declared.fault.Fault.TheVariants.{ImageShort}
use Rattle.jpg_spec_image.specs.Images.{Image}
use Rattle.jpg_spec_image.specs.TargaFaults.{IsTargaFault}
use Rattle.jpg_pnm_bmp.specs.PiecesFed as pieces
use Rattle.jpg_pnm_bmp.specs.declared.read.piece.Fed2.{Fed2}
use Rattle.jpg_targa.specs.Reader.{targa_kind}
use Rattle.jpg_targa.specs.declared.read.reader.TargaReader.{TargaReader}

-- the image, once it is complete
abbrev pub targa_read : TargaReader → Image
targa_read r = pieces.image_of r.reader

-- how many bytes were taken
abbrev pub targa_taken : TargaReader → ℕ
targa_taken r = r.reader.taken

-- why it stopped, if it did
abbrev pub targa_stop : TargaReader → Option Stop
targa_stop r = r.reader.stop

-- The image is complete: neither `feed` nor `end` may be called any more, and `take` may be.
abbrev pub is_targa_read : TargaReader → Bool
is_targa_read r = r.reader.done

-- These bytes were fed. No prefix of them is complete or has a fault, and more may follow.
abbrev pub HasFedTarga : List ℕ → TargaReader → Type 0
HasFedTarga bytes r = pieces.HasFed targa_kind bytes r.reader

-- the result of a piece that is fed
abbrev pub AfterFeed : List ℕ → List ℕ → Result Fed2 Stop → TargaReader → Type 0
AfterFeed bytes piece answer r = pieces.AfterFeed targa_kind bytes piece answer r.reader

abbrev pub Feeds : TargaReader → List ℕ → Result Fed2 Stop → TargaReader → Type 0
Feeds old piece answer new = pieces.Feeds targa_kind old.reader piece answer new.reader

abbrev pub Asks : TargaReader → List ℕ → Result Fed2 Stop → Type 0
Asks old piece answer = pieces.Asks targa_kind old.reader piece answer

abbrev pub KeepsDone : Result Fed2 Stop → TargaReader → Type 0
KeepsDone answer r = pieces.KeepsDone answer r.reader

-- the result where the input ends
abbrev pub IsShortAt : List ℕ → Stop → Type 0
IsShortAt bytes answer = (answer ≡ stop.Fault (record { fault = ImageShort; at = length bytes })) × IsTargaFault bytes ImageShort (length bytes)

abbrev pub Ends : TargaReader → Stop → Type 0
Ends old answer = (bytes : List ℕ) → HasFedTarga bytes old → IsShortAt bytes answer
