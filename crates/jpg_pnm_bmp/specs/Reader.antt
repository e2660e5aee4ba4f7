-- A reader of image files: its state after the bytes that it was given.
use Rattle.std.specs.Prelude.{◌≡◌, ℕ, ◌+◌, ◌-◌, ◌*◌, ◌<◌, ◌≤◌, Bool, true, List, [], ◌∷◌, ◌++◌, length, take, None, Result, Ok, Err}
use Rattle.jpg_base.specs.declared.stop.Stop.{Stop}
use Rattle.jpg_base.specs.declared.stop.Stop.TheVariants as stop
use Rattle.jpg_spec_image.specs.Images.{Image, are_right}
use Rattle.jpg_spec_image.specs.BmpFile.{height, line, used, palette_bytes}
use Rattle.jpg_spec_image.specs.ImageFaults.{ImageHead, pnm, bmp, body_of, image_of, IsImage, IsImageFault, ShowsImageFault}
use Rattle.jpg_spec_image.specs.ImageSteps.{ImageState, at_start, behind_first, in_gap, in_number, in_bmp_head, in_bmp_front, in_body, whole, failed, past, number_byte, after_number, plain_image, state_end, ended_by, run}
use Rattle.jpg_spec.specs.declared.fault.Fault.{Fault}
use Rattle.jpg_spec_image.specs.PnmText.{is_number_due, number_fault}
use Rattle.jpg_spec.specs.declared.frame.Limits.{Limits}
use Rattle.jpg_pnm_bmp.specs.Pieces.{PieceKind, HasRead}
use Rattle.jpg_pnm_bmp.specs.Pieces as pieces
use Rattle.jpg_pnm_bmp.specs.Known.{list_of}
use Rattle.jpg_pnm_bmp.specs.Made.{AreBytes}
use Rattle.jpg_pnm_bmp.specs.declared.read.numbers.Numbers.{Numbers}
use Rattle.jpg_pnm_bmp.specs.declared.read.numbers.Numbers.TheVariants.{Nothing, Width, Sides, All}
use Rattle.jpg_pnm_bmp.specs.declared.read.work.Stage.{Stage}
use Rattle.jpg_pnm_bmp.specs.declared.read.work.Stage.TheVariants as stage
use Rattle.jpg_pnm_bmp.specs.declared.read.piece.Answer.{Answer}
use Rattle.jpg_pnm_bmp.specs.declared.read.piece.Answer.TheVariants as answer
use Rattle.jpg_pnm_bmp.specs.declared.read.piece.Moved.{Moved}
use Rattle.jpg_pnm_bmp.specs.declared.read.work.Work.{Work}

-- the numbers of a text, where `front` has the samples that were given away before
abbrev pub numbers_list : List ℕ → Work → List ℕ
numbers_list front w = list_of w.numbers (front ++ w.samples)

-- what precedes a body
abbrev pub pnm_head : Work → ImageHead
pnm_head w = pnm w.format (list_of w.numbers [])

abbrev pub bmp_head : Work → ImageHead
bmp_head w = bmp w.head w.palette

abbrev pub standing_of : List ℕ → Stage → Work → ImageState
standing_of front stage.Start w = at_start
standing_of front (stage.First first) w = behind_first first
standing_of front (stage.Gap some commented) w = in_gap w.format (numbers_list front w) some commented
standing_of front (stage.Number n) w = in_number w.format (numbers_list front w) n
standing_of front stage.BmpHead w = in_bmp_head w.head
standing_of front (stage.BmpFront passed) w = in_bmp_front w.head w.palette passed
standing_of front stage.PnmBody w = in_body (pnm_head w) (front ++ w.samples)
standing_of front stage.BmpBody w = in_body (bmp_head w) (front ++ w.samples)

abbrev pub standing : List ℕ → Work → ImageState
standing front w = standing_of front w.stage w

-- the result of some bytes
abbrev pub IsReached : ImageState → Type 0
IsReached s = (bytes : List ℕ) × (run at_start bytes ≡ s)

-- the image that the samples are, once all are there
abbrev pub image_by : List ℕ → Stage → Work → Image
image_by front stage.BmpBody w = image_of (bmp_head w) (front ++ w.samples)
image_by front other w = image_of (pnm_head w) (front ++ w.samples)

abbrev pub image_view : List ℕ → Work → Image
image_view front w = image_by front w.stage w

-- the bytes that led to it show no fault
abbrev pub ShowsNone : ImageState → Type 0
ShowsNone (failed fault) = ⊥
ShowsNone past = ⊥
ShowsNone other = Unit {0}

-- Memory is asked for only where there is no fault.
abbrev pub Reaches : List ℕ → ImageState → Answer → Work → Type 0
Reaches front s answer.More w = standing front w ≡ s
Reaches front s answer.Whole w = s ≡ whole (image_view front w)
Reaches front s (answer.Fault fault) w = s ≡ failed fault
Reaches front s answer.NoMemory w = ShowsNone s

-- all three numbers, the greatest sample not 0
abbrev pub AreAllNumbers : Numbers → Type 0
AreAllNumbers Nothing = ⊥
AreAllNumbers (Width a) = ⊥
AreAllNumbers (Sides a b) = ⊥
AreAllNumbers (All a b m) = 1 ≤ m

-- the greatest sample, if it is known, isn't 0
abbrev pub HasScale : Numbers → Type 0
HasScale Nothing = Unit {0}
HasScale (Width a) = Unit {0}
HasScale (Sides a b) = Unit {0}
HasScale (All a b m) = 1 ≤ m

-- the bytes of a BMP's rows are all there, and its palette has their colours
pub record HasPixels (head palette body : List ℕ) : Type 0 where
  pub long : 54 ≤ length head
  pub high : height head ≤ 65500
  pub there : line head * (height head - 1) + used head ≤ length body
  pub right : are_right (body_of (bmp head palette)) 0 body ≡ true
  pub colours : palette_bytes head ≤ length palette

-- what the image is made of is all there
abbrev pub CanMakeAt : Stage → Work → Type 0
CanMakeAt stage.Start w = ⊥
CanMakeAt (stage.First first) w = ⊥
CanMakeAt (stage.Gap some commented) w = ⊥
CanMakeAt (stage.Number n) w = ⊥
CanMakeAt stage.BmpHead w = ⊥
CanMakeAt (stage.BmpFront passed) w = ⊥
CanMakeAt stage.PnmBody w = AreAllNumbers w.numbers
CanMakeAt stage.BmpBody w = HasPixels w.head w.palette w.samples

abbrev pub CanMake : Work → Type 0
CanMake w = CanMakeAt w.stage w

pub record KeepsStage (old new : Work) : Type 0 where
  pub stage : new.stage ≡ old.stage
  pub format : new.format ≡ old.format
  pub before : new.before ≡ old.before

-- SAMPLES GIVEN AWAY BEFORE: none until the numbers of a PNM file's header are known

abbrev pub AreGivenAt : Numbers → List ℕ → Type 0
AreGivenAt Nothing front = front ≡ []
AreGivenAt (Width a) front = front ≡ []
AreGivenAt (Sides a b) front = front ≡ []
AreGivenAt (All a b m) front = Unit {0}

abbrev pub AreGivenIn : Stage → Numbers → List ℕ → Type 0
AreGivenIn stage.Start numbers front = front ≡ []
AreGivenIn (stage.First first) numbers front = front ≡ []
AreGivenIn (stage.Gap some commented) numbers front = AreGivenAt numbers front
AreGivenIn (stage.Number n) numbers front = AreGivenAt numbers front
AreGivenIn stage.BmpHead numbers front = front ≡ []
AreGivenIn (stage.BmpFront passed) numbers front = front ≡ []
AreGivenIn stage.PnmBody numbers front = Unit {0}
AreGivenIn stage.BmpBody numbers front = front ≡ []

pub record AreBefore (front : List ℕ) (w : Work) : Type 0 where
  pub long : length front ≡ w.before
  pub known : AreGivenIn w.stage w.numbers front

-- some bytes led to this state, and some samples were given away
abbrev pub IsLedOn : Work → Type 0
IsLedOn w = (front : List ℕ) × AreBefore front w × IsReached (standing front w)

abbrev pub IsGoingOn : Work → Type 0
IsGoingOn w = ∥ IsLedOn w ∥₁

-- in the text or the body of a PNM file
abbrev pub IsText : Stage → Type 0
IsText stage.Start = ⊥
IsText (stage.First first) = ⊥
IsText (stage.Gap some commented) = Unit {0}
IsText (stage.Number n) = Unit {0}
IsText stage.BmpHead = ⊥
IsText (stage.BmpFront passed) = ⊥
IsText stage.PnmBody = Unit {0}
IsText stage.BmpBody = ⊥

pub record KeepsText (old new : Work) : Type 0 where
  pub format : new.format ≡ old.format
  pub numbers : new.numbers ≡ old.numbers
  pub text : IsText new.stage

-- What stays: how many samples were given away; and, once the numbers of a header are known, those.
pub record Stays (old new : Work) : Type 0 where
  pub before : new.before ≡ old.before
  pub text : IsText old.stage → AreAllNumbers old.numbers → KeepsText old new

-- whichever samples were given away before
abbrev pub LeadsOn : Work → List ℕ → Moved → Work → Type 0
LeadsOn old piece m new = (front : List ℕ) → AreBefore front old → IsReached (standing front old) → Reaches front (run (standing front old) (take m.used piece)) m.answer new

-- A NUMBER that follows

-- nothing is wrong with it
abbrev pub IsRightNext : Numbers → ℕ → Type 0
IsRightNext numbers n = (samples : List ℕ) → number_fault (list_of numbers samples) n ≡ None

-- whether a further one is expected after it
abbrev pub IsDueAfter : Work → ℕ → Bool → Type 0
IsDueAfter w n due = (front : List ℕ) → length front ≡ w.before → due ≡ is_number_due w.format (numbers_list front w ++ n ∷ [])

abbrev pub AppendsNumber : Work → ℕ → Work → Type 0
AppendsNumber old n new = (front : List ℕ) → AreGivenAt old.numbers front → numbers_list front new ≡ numbers_list front old ++ n ∷ []

-- the result of a byte in it
abbrev pub LeadsNumber : Work → ℕ → ℕ → Answer → Work → Type 0
LeadsNumber old n byte a new =
    (front : List ℕ) → length front ≡ old.before → AreGivenAt old.numbers front → is_number_due old.format (numbers_list front old) ≡ true → Reaches front (number_byte old.format (numbers_list front old) n byte) a new

-- of its further digits, after which it is another number
abbrev pub ReadsDigits : ℕ → List ℕ → ℕ → Type 0
ReadsDigits n digits number = (format : ℕ) (numbers : List ℕ) → run (in_number format numbers n) digits ≡ in_number format numbers number

-- of its further bytes, and of those of a gap and of a number that it begins
abbrev pub LeadsNumberBytes : Work → ℕ → List ℕ → Moved → Work → Type 0
LeadsNumberBytes old n piece m new =
    (front : List ℕ) → length front ≡ old.before → AreGivenAt old.numbers front → is_number_due old.format (numbers_list front old) ≡ true
    → Reaches front (run (in_number old.format (numbers_list front old) n) (take m.used piece)) m.answer new

abbrev pub LeadsGapBytes : Work → Bool → Bool → List ℕ → Moved → Work → Type 0
LeadsGapBytes old some commented piece m new =
    (front : List ℕ) → length front ≡ old.before → AreGivenAt old.numbers front → is_number_due old.format (numbers_list front old) ≡ true
    → Reaches front (run (in_gap old.format (numbers_list front old) some commented) (take m.used piece)) m.answer new

-- and of one after it
abbrev pub LeadsAfter : Work → ℕ → ℕ → Answer → Work → Type 0
LeadsAfter old n byte a new =
    (front : List ℕ) → length front ≡ old.before → AreGivenAt old.numbers front → is_number_due old.format (numbers_list front old) ≡ true → Reaches front (after_number old.format (numbers_list front old ++ n ∷ []) byte) a new

-- with one more number all are known, if both sides were
abbrev pub AddsNumber : Numbers → Work → Type 0
AddsNumber Nothing w = Unit {0}
AddsNumber (Width a) w = Unit {0}
AddsNumber (Sides a b) w = (w.samples ≡ []) × ((m : ℕ) × (w.numbers ≡ All a b m) × (1 ≤ m))
AddsNumber (All a b m) w = w.numbers ≡ All a b m

-- a body whose samples are right so far, and not all there
pub record CanStretch (head : ImageHead) (body : List ℕ) : Type 0 where
  pub right : are_right (body_of head) 0 body ≡ true
  pub room : length body < (body_of head).count
  pub lined : (body_of head).used ≤ (body_of head).line
  pub some : 0 < (body_of head).line

-- a part of a body is kept too
abbrev pub HoldsBodyPart : Work → List ℕ → ℕ → Answer → Work → Type 0
HoldsBodyPart old part count answer.More w = (w ≡ record old { samples = old.samples ++ part }) × (old.before + length (old.samples ++ part) < count)
HoldsBodyPart old part count answer.Whole w = (w ≡ record old { samples = old.samples ++ part }) × (count ≤ old.before + length (old.samples ++ part))
HoldsBodyPart old part count (answer.Fault fault) w = ⊥
HoldsBodyPart old part count answer.NoMemory w = Unit {0}

-- all samples are there, and right
pub record HasSamples (head : ImageHead) (body : List ℕ) : Type 0 where
  pub there : (body_of head).count ≤ length body
  pub right : are_right (body_of head) 0 body ≡ true

-- the result of a part of a body, by the samples that are kept then
abbrev pub Stretches : List ℕ → ImageHead → Work → ImageState → Answer → Work → Type 0
Stretches front head old s answer.More w = (s ≡ in_body head (front ++ w.samples)) × (w ≡ record old { samples = w.samples })
Stretches front head old s answer.Whole w = (s ≡ whole (image_of head (front ++ w.samples))) × (w ≡ record old { samples = w.samples }) × HasSamples head (front ++ w.samples)
Stretches front head old s (answer.Fault fault) w = s ≡ failed fault
Stretches front head old s answer.NoMemory w = ShowsNone s

abbrev pub StretchesBy : ImageHead → Work → List ℕ → Moved → Work → Type 0
StretchesBy head old piece m w =
    (front : List ℕ) → length front ≡ old.before → CanStretch head (front ++ old.samples) → Stretches front head old (run (in_body head (front ++ old.samples)) (take m.used piece)) m.answer w

-- a number at the end of the bytes
abbrev pub number_ended_at : List ℕ → Work → ℕ → Result Image Fault
number_ended_at front w n = ended_by w.format (numbers_list front w) n (number_fault (numbers_list front w) n)

-- The result where the bytes end. Memory is asked for only if they are an image's.
abbrev pub EndsAs : List ℕ → Result Image Fault → Answer → Work → Type 0
EndsAs front e answer.More w = ⊥
EndsAs front e answer.Whole w = e ≡ Ok (image_view front w)
EndsAs front e (answer.Fault fault) w = e ≡ Err fault
EndsAs front e answer.NoMemory w = (image : Image) × (e ≡ Ok image)

abbrev pub LeadsToEnd : Work → Answer → Work → Type 0
LeadsToEnd old a new = (front : List ℕ) → AreBefore front old → IsReached (standing front old) → EndsAs front (state_end (standing front old)) a new

abbrev pub EndsNumber : Work → ℕ → Answer → Work → Type 0
EndsNumber old n a new = (front : List ℕ) → length front ≡ old.before → AreGivenAt old.numbers front → is_number_due old.format (numbers_list front old) ≡ true → EndsAs front (number_ended_at front old n) a new

abbrev pub EndsRight : Work → ℕ → Answer → Work → Type 0
EndsRight old n a new = (front : List ℕ) → length front ≡ old.before → AreGivenAt old.numbers front → EndsAs front (ended_by old.format (numbers_list front old) n None) a new

abbrev pub EndsLast : Work → ℕ → Answer → Work → Type 0
EndsLast old n a new = (front : List ℕ) → AreGivenAt old.numbers front → EndsAs front (Ok (plain_image old.format (numbers_list front old ++ n ∷ []))) a new

-- no further bytes are asked for there
abbrev pub IsEnd : Answer → Type 0
IsEnd answer.More = ⊥
IsEnd answer.Whole = Unit {0}
IsEnd (answer.Fault fault) = Unit {0}
IsEnd answer.NoMemory = Unit {0}

-- WHAT ITS STATES MEAN, for all limits that the bytes are within
abbrev pub pixels_kind : PieceKind Work
pixels_kind = record {
  stands = λ bytes w. (w.before ≡ 0) × (standing [] w ≡ run at_start bytes);
  can = CanMake;
  image = image_view [];
  shows = ShowsImageFault;
  means = λ bytes image. (limits : Limits) (rest : List ℕ) → length bytes ≤ limits.input → IsImage limits (bytes ++ rest) image;
  faults = λ bytes fault at. (limits : Limits) (rest : List ℕ) → length bytes ≤ limits.input → IsImageFault limits (bytes ++ rest) fault at;
}

-- where the image is complete
abbrev pub HasAll : Answer → Work → Type 0
HasAll a w = pieces.HasAll pixels_kind a w

-- The result where the input ends, for all limits that the bytes are below. Memory is asked for only if they are an
-- image's.
abbrev pub EndsImage : List ℕ → Result (Unit {0}) Stop → Image → Type 0
EndsImage bytes (Ok u) image = (limits : Limits) → length bytes < limits.input → IsImage limits bytes image
EndsImage bytes (Err (stop.Fault f)) image = (limits : Limits) → length bytes < limits.input → IsImageFault limits bytes f.fault f.at
EndsImage bytes (Err stop.NoMemory) image = (other : Image) × ((limits : Limits) → length bytes < limits.input → IsImage limits bytes other)

-- for all that was read before
abbrev pub EndsRead : Work → ℕ → Result (Unit {0}) Stop → Image → Type 0
EndsRead old taken answer image = (bytes : List ℕ) → HasRead Work pixels_kind bytes taken old → AreBytes bytes → EndsImage bytes answer image
