-- A part of a piece that is read.
use Rattle.std.proofs.Common.{◌≡◌, ℕ, ◌+◌, ◌≤◌, List, [], ◌++◌, length, take, refl, sym, ap, ◌∙◌, subst, arith}
use Rattle.std.proofs.lemmas.List.{append_assoc, length-append, take-append-le}
use Rattle.std.proofs.Math.Seq.{take-append-add}
use Rattle.jpg_spec_image.specs.Images.{Image}
use Rattle.jpg_spec_image.specs.ImageFaults.{IsImage, IsImageFault}
use Rattle.jpg_spec_image.specs.ImageSteps.{at_start, whole, failed, run}
use Rattle.jpg_spec_image.proofs.ImageRuns.{run_join}
use Rattle.jpg_spec_image.proofs.ImageJudged.{image_at, fault_at}
use Rattle.jpg_spec.specs.declared.fault.Fault.{Fault}
use Rattle.jpg_spec.specs.declared.frame.Limits.{Limits}
use Rattle.jpg_pnm_bmp.specs.Pieces.{AfterSome}
use Rattle.jpg_pnm_bmp.specs.Reader.{Reaches, image_view, pixels_kind, standing}
use Rattle.jpg_pnm_bmp.specs.declared.read.piece.Answer.{Answer}
use Rattle.jpg_pnm_bmp.specs.declared.read.piece.Answer.TheVariants as answer
use Rattle.jpg_pnm_bmp.specs.declared.read.work.Work.{Work}
use Rattle.jpg_pnm_bmp.proofs.ImageMade.{samples_whole}
use Rattle.jpg_pnm_bmp.proofs.PiecesFed.{place}
use Rattle.jpg_pnm_bmp.proofs.ShownNone.{no_fault, whole_right}

pub front : (bytes piece rest : List ℕ) (n : ℕ) → n ≤ length piece → take (length bytes + n) ((bytes ++ piece) ++ rest) ≡ bytes ++ take n piece
front bytes piece rest n h = ap (take (length bytes + n)) (append_assoc bytes piece rest) ∙ take-append-add bytes (piece ++ rest) n ∙ ap (λ x. bytes ++ x) (take-append-le n piece rest h)

pub image_read : (limits : Limits) (bytes piece rest : List ℕ) (n : ℕ) (image : Image) → n ≤ length piece → length (bytes ++ piece) ≤ limits.input → run at_start (bytes ++ take n piece) ≡ whole image → IsImage limits ((bytes ++ piece) ++ rest) image
image_read limits bytes piece rest n image h l e =
    let a = length-append bytes piece in
    let b = length-append (bytes ++ piece) rest in
    image_at limits ((bytes ++ piece) ++ rest) (length bytes + n) image (omega (arith, a, b, h)) (omega (arith, a, l, h)) (ap (run at_start) (front bytes piece rest n h) ∙ e)

pub fault_read : (limits : Limits) (bytes piece rest : List ℕ) (n at : ℕ) (fault : Fault) → n ≤ length piece → length (bytes ++ piece) ≤ limits.input → at ≡ length bytes + n → run at_start (bytes ++ take n piece) ≡ failed fault → IsImageFault limits ((bytes ++ piece) ++ rest) fault at
fault_read limits bytes piece rest n at fault h l p e =
    let a = length-append bytes piece in
    let b = length-append (bytes ++ piece) rest in
    subst (IsImageFault limits ((bytes ++ piece) ++ rest) fault) (sym p)
    (fault_at limits ((bytes ++ piece) ++ rest) (length bytes + n) fault (omega (arith, a, b, h)) (omega (arith, a, l, h)) (ap (run at_start) (front bytes piece rest n h) ∙ e))

pub some_taken : (old new : Work) (bytes piece : List ℕ) (used : ℕ) (a : Answer) → used ≤ length piece → pixels_kind.stands bytes old → new.before ≡ old.before → Reaches [] (run (standing [] old) (take used piece)) a new
    → AfterSome pixels_kind (bytes ++ take used piece) (bytes ++ piece) a new
some_taken old new bytes piece used a few s same r = by a (subst (λ t. Reaches [] t a new) (ap (λ t. run t (take used piece)) s.1 ∙ sym (run_join at_start bytes (take used piece))) r)
  where
    by : (a : Answer) → Reaches [] (run at_start (bytes ++ take used piece)) a new → AfterSome pixels_kind (bytes ++ take used piece) (bytes ++ piece) a new
    by answer.More e = (same ∙ s.0, e)
    by answer.Whole e =
        let image = image_view [] new in
        let is : pixels_kind.means (bytes ++ piece) image = λ limits rest l. image_read limits bytes piece rest used image few l e in
        (is, no_fault (bytes ++ take used piece) (whole_right (run at_start (bytes ++ take used piece)) image e), samples_whole (bytes ++ piece) image is)
    by (answer.Fault fault) e = λ limits rest l. fault_read limits bytes piece rest used (length (bytes ++ take used piece)) fault few l (place bytes piece (length bytes) used refl few) e
    by answer.NoMemory e = no_fault (bytes ++ take used piece) e
