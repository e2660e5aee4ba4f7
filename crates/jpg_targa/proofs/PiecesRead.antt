-- A part of a piece that is read.
use Rattle.std.proofs.Common.{◌≡◌, ℕ, ◌+◌, ◌≤◌, List, [], ◌++◌, length, take, refl, sym, ap, ◌∙◌, subst, arith}
use Rattle.std.proofs.Math.Logic.{∥∥₁_elim}
use native.Mathlib.Bridge.{le_prop}
use Rattle.std.proofs.lemmas.List.{append-nil, length-append}
use Rattle.jpg_spec_image.specs.Images.{Image}
use Rattle.jpg_spec_image.specs.TargaFaults.{TargaMeans, IsOpenTarga, IsTargaFault}
use Rattle.jpg_spec_image.specs.TargaSteps.{at_start, whole, failed, run}
use Rattle.jpg_spec_image.proofs.TargaRuns.{run_join}
use Rattle.jpg_spec_image.proofs.TargaJudged.{IsLive, targa_at, fault_at, short_at, live_open}
use Rattle.jpg_spec.specs.declared.fault.Fault.{Fault}
use Rattle.jpg_spec.specs.declared.fault.Fault.TheVariants.{ImageShort}
use Rattle.jpg_pnm_bmp.specs.Made.{AreBytes}
use Rattle.jpg_pnm_bmp.specs.Pieces.{AfterSome, HasRead, IsGoing}
use Rattle.jpg_pnm_bmp.specs.Pieces as pieces
use Rattle.jpg_pnm_bmp.specs.declared.read.piece.Answer.{Answer}
use Rattle.jpg_pnm_bmp.specs.declared.read.piece.Answer.TheVariants as answer
use Rattle.jpg_pnm_bmp.proofs.PiecesFed.{place}
use Rattle.jpg_pnm_bmp.proofs.PiecesRead.{front}
use Rattle.jpg_targa.specs.Reader.{HasAll, Reaches, standing, standing_of, targa_kind}
use Rattle.jpg_targa.specs.declared.read.work.Stage.{Stage}
use Rattle.jpg_targa.specs.declared.read.work.Stage.TheVariants as stage
use Rattle.jpg_targa.specs.declared.read.work.Work.{Work}
use Rattle.jpg_targa.proofs.ShownNone.{no_fault, whole_right}
use Rattle.jpg_targa.proofs.TargaRight.{targa_right}

samples_all : (bytes : List ℕ) (image : Image) → TargaMeans (bytes ++ []) image → AreBytes bytes → AreBytes image.samples
samples_all bytes image is all = (targa_right (bytes ++ []) image is (subst AreBytes (sym (append-nil bytes)) all)).bytes

within : (bytes piece rest : List ℕ) (n : ℕ) → n ≤ length piece → length bytes + n ≤ length ((bytes ++ piece) ++ rest)
within bytes piece rest n h =
    let a = length-append bytes piece in
    let b = length-append (bytes ++ piece) rest in
    omega (arith, a, b, h)

image_read : (bytes piece rest : List ℕ) (n : ℕ) (image : Image) → n ≤ length piece → run at_start (bytes ++ take n piece) ≡ whole image → TargaMeans ((bytes ++ piece) ++ rest) image
image_read bytes piece rest n image h e = targa_at ((bytes ++ piece) ++ rest) (length bytes + n) image (within bytes piece rest n h) (ap (run at_start) (front bytes piece rest n h) ∙ e)

fault_read : (bytes piece rest : List ℕ) (n : ℕ) (fault : Fault) → n ≤ length piece → run at_start (bytes ++ take n piece) ≡ failed fault → IsTargaFault ((bytes ++ piece) ++ rest) fault (length bytes + n)
fault_read bytes piece rest n fault h e = fault_at ((bytes ++ piece) ++ rest) (length bytes + n) fault (within bytes piece rest n h) (ap (run at_start) (front bytes piece rest n h) ∙ e)

pub image_taken : (bytes piece : List ℕ) (used : ℕ) (image : Image) → used ≤ length piece → run at_start (bytes ++ take used piece) ≡ whole image → targa_kind.means (bytes ++ piece) image
image_taken bytes piece used image few e = λ rest. image_read bytes piece rest used image few e

pub fault_taken : (bytes piece : List ℕ) (used : ℕ) (fault : Fault) → used ≤ length piece → run at_start (bytes ++ take used piece) ≡ failed fault → targa_kind.faults (bytes ++ piece) fault (length (bytes ++ take used piece))
fault_taken bytes piece used fault few e = λ rest. subst (IsTargaFault ((bytes ++ piece) ++ rest) fault) (sym (place bytes piece (length bytes) used refl few)) (fault_read bytes piece rest used fault few e)

pub some_taken : (old new : Work) (bytes piece : List ℕ) (used : ℕ) (a : Answer) → used ≤ length piece → targa_kind.stands bytes old → new.before ≡ old.before → Reaches [] (run (standing [] old) (take used piece)) a new
    → AfterSome targa_kind (bytes ++ take used piece) (bytes ++ piece) a new
some_taken old new bytes piece used a few s same r = by a (subst (λ t. Reaches [] t a new) (ap (λ t. run t (take used piece)) s.1 ∙ sym (run_join at_start bytes (take used piece))) r)
  where
    by : (a : Answer) → Reaches [] (run at_start (bytes ++ take used piece)) a new → AfterSome targa_kind (bytes ++ take used piece) (bytes ++ piece) a new
    by answer.More e = (same ∙ s.0, e)
    by answer.Whole e =
        let image = targa_kind.image new in
        let is = image_taken bytes piece used image few e in
        (is, no_fault (bytes ++ take used piece) (whole_right (run at_start (bytes ++ take used piece)) image e), λ all. samples_all (bytes ++ piece) image (is []) all)
    by (answer.Fault fault) e = fault_taken bytes piece used fault few e
    by answer.NoMemory e = no_fault (bytes ++ take used piece) e

-- WHERE MORE IS NEEDED

pub standing_live : (front : List ℕ) (st : Stage) (w : Work) → IsLive (standing_of front st w)
standing_live front (stage.Head n) w = tt
standing_live front (stage.Identifier left) w = tt
standing_live front stage.Packet w = tt
standing_live front (stage.Copies count) w = tt
standing_live front (stage.Pixels left) w = tt

read_live : (bytes : List ℕ) (taken : ℕ) (w : Work) → HasRead Work targa_kind bytes taken w → IsLive (run at_start bytes)
read_live bytes taken w h = subst IsLive h.stands.1 (standing_live [] w.stage w)

pub read_open : (bytes : List ℕ) (taken : ℕ) (w : Work) → HasRead Work targa_kind bytes taken w → IsOpenTarga bytes
read_open bytes taken w h = live_open bytes (read_live bytes taken w h)

pub read_short : (bytes : List ℕ) (taken : ℕ) (w : Work) → HasRead Work targa_kind bytes taken w → IsTargaFault bytes ImageShort (length bytes)
read_short bytes taken w h = short_at bytes (read_live bytes taken w h)

pub none_read : (w : Work) → standing [] w ≡ at_start → w.before ≡ 0 → targa_kind.stands [] w
unfolding run
none_read w e none = (none, e)

-- what the image is made of is all there
pub all_there : (old new : Work) (a : Answer) → IsGoing targa_kind old → new.before ≡ old.before → HasAll a new → pieces.HasAll targa_kind a new
all_there old new answer.More going same h = tt
all_there old new answer.Whole going same h =
    ∥∥₁_elim going le_prop (λ r. (let none = r.1.0 in omega (arith, none, same, h)))
all_there old new (answer.Fault fault) going same h = tt
all_there old new answer.NoMemory going same h = tt
