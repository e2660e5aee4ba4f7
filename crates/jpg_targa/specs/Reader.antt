-- A reader of Targa files: its state after the bytes that it was given.
use Rattle.std.specs.Prelude.{◌≡◌, ℕ, ◌+◌, ◌<◌, ◌≤◌, ◌==◌, if◌then◌else◌, List, [], ◌++◌, length, take, flat_map, Result, Ok, Err}
use Rattle.jpg_spec.specs.Lists.{below}
use Rattle.jpg_spec_image.specs.Images.{Image}
use Rattle.jpg_spec_image.specs.TargaFile.{targa_image}
use Rattle.jpg_spec_image.specs.TargaFaults.{IsTargaFault, ShowsTargaFault, TargaMeans}
use Rattle.jpg_spec_image.specs.TargaSteps.{TargaState, in_head, in_identifier, at_packet, in_copies, in_pixels, whole, failed, past, at_start, total, grown, run}
use Rattle.jpg_base.specs.declared.names.NoMemory.{NoMemory}
use Rattle.jpg_pnm_bmp.specs.Pieces.{PieceKind}
use Rattle.jpg_targa.specs.declared.read.work.Stage.{Stage}
use Rattle.jpg_targa.specs.declared.read.work.Stage.TheVariants as stage
use Rattle.jpg_pnm_bmp.specs.declared.read.piece.Answer.{Answer}
use Rattle.jpg_pnm_bmp.specs.declared.read.piece.Answer.TheVariants as answer
use Rattle.jpg_pnm_bmp.specs.declared.read.piece.Moved.{Moved}
use Rattle.jpg_targa.specs.declared.read.work.Work.{Work}

-- Where `front` has the bytes of pixels that were given away before.
abbrev pub standing_of : List ℕ → Stage → Work → TargaState
standing_of front (stage.Head n) w = in_head (take n w.head)
standing_of front (stage.Identifier left) w = in_identifier w.head left
standing_of front stage.Packet w = at_packet w.head (front ++ w.pixels)
standing_of front (stage.Copies count) w = in_copies w.head (front ++ w.pixels) count w.pixel
standing_of front (stage.Pixels left) w = in_pixels w.head (front ++ w.pixels) left

abbrev pub standing : List ℕ → Work → TargaState
standing front w = standing_of front w.stage w

-- after pixels of a packet, of which so many bytes are left
abbrev pub after_pixels : List ℕ → ℕ → Work → TargaState
after_pixels front left w = if left == 0 then at_packet w.head (front ++ w.pixels) else in_pixels w.head (front ++ w.pixels) left

-- the result of some bytes
abbrev pub IsReached : TargaState → Type 0
IsReached s = (bytes : List ℕ) × (run at_start bytes ≡ s)

-- the image, once all pixels are there
abbrev pub image_view : List ℕ → Work → Image
image_view front w = targa_image w.head (front ++ w.pixels)

-- the bytes that led to it show no fault
abbrev pub ShowsNone : TargaState → Type 0
ShowsNone (failed fault) = ⊥
ShowsNone past = ⊥
ShowsNone other = Unit {0}

-- Memory is asked for only where there is no fault.
abbrev pub Reaches : List ℕ → TargaState → Answer → Work → Type 0
Reaches front s answer.More w = standing front w ≡ s
Reaches front s answer.Whole w = s ≡ whole (image_view front w)
Reaches front s (answer.Fault fault) w = s ≡ failed fault
Reaches front s answer.NoMemory w = ShowsNone s

-- WHAT ITS STATES MEAN
abbrev pub targa_kind : PieceKind Work
targa_kind = record {
  stands = λ bytes w. (w.before ≡ 0) × (standing [] w ≡ run at_start bytes);
  can = λ w. total w.head ≤ length w.pixels;
  image = λ w. targa_image w.head w.pixels;
  shows = ShowsTargaFault;
  means = λ bytes image. (rest : List ℕ) → TargaMeans (bytes ++ rest) image;
  faults = λ bytes fault at. (rest : List ℕ) → IsTargaFault (bytes ++ rest) fault at;
}

-- where the image is complete, its pixels are all there
abbrev pub HasAll : Answer → Work → Type 0
HasAll answer.Whole w = total w.head ≤ w.before + length w.pixels
HasAll other w = Unit {0}

-- THE PIXELS: the header and the identifier are read
abbrev pub IsBody : Stage → Type 0
IsBody (stage.Head n) = ⊥
IsBody (stage.Identifier left) = ⊥
IsBody stage.Packet = Unit {0}
IsBody (stage.Copies count) = Unit {0}
IsBody (stage.Pixels left) = Unit {0}

-- What stays: how many bytes were given away; and, once the pixels begin, the header, and that they began.
pub record Stays (old new : Work) : Type 0 where
  pub before : new.before ≡ old.before
  pub head : IsBody old.stage → new.head ≡ old.head
  pub body : IsBody old.stage → IsBody new.stage

-- the bytes that were given away before: none where the pixels haven't begun
pub record AreBefore (front : List ℕ) (w : Work) : Type 0 where
  pub long : length front ≡ w.before
  pub none : (IsBody w.stage → ⊥) → front ≡ []

-- this state is reached, whichever bytes were given away before
abbrev pub Leads : Work → (List ℕ → TargaState) → Answer → Work → Type 0
Leads old to a new = (front : List ℕ) → length front ≡ old.before → Reaches front (to front) a new

abbrev pub LeadsOn : Work → List ℕ → Moved → Work → Type 0
LeadsOn old piece m new = (front : List ℕ) → AreBefore front old → IsReached (standing front old) → Reaches front (run (standing front old) (take m.used piece)) m.answer new

-- it goes on at this stage, or its pixels are all there
abbrev pub Grows : Work → Stage → Answer → Work → Type 0
Grows old s a new = Leads old (λ front. grown old.head (front ++ old.pixels) (standing_of front s old)) a new

-- the bytes of pixels, and copies of a pixel up to the end
abbrev pub AddsCopies : ℕ → ℕ → List ℕ → Result (Unit {0}) NoMemory → List ℕ → List ℕ → Type 0
AddsCopies end count pixel (Ok u) old new = length old ≤ end → new ≡ take end (old ++ flat_map (λ n. pixel) (below count))
AddsCopies end count pixel (Err fault) old new = Unit {0}

-- there are no more bytes of pixels than the image has
abbrev pub HasRoom : Work → Type 0
HasRoom w = w.before + length w.pixels ≤ total w.head

-- bytes of pixels are left, and missing
pub record CanStretch (left : ℕ) (w : Work) : Type 0 where
  pub some : 0 < left
  pub room : w.before + length w.pixels < total w.head

abbrev pub StretchesBy : ℕ → Work → List ℕ → Moved → Work → Type 0
StretchesBy left old piece m new = Leads old (λ front. run (in_pixels old.head (front ++ old.pixels) left) (take m.used piece)) m.answer new
