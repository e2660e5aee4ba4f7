-- States without a fault, and bytes that lead to them.
use Rattle.std.proofs.Common.{◌≡◌, ℕ, ◌<◌, ◌≤◌, Bool, true, false, cond, List, [], length, take, sym, ap, ◌∙◌, subst, arith, ⊎_elim}
use Rattle.std.specs.Prelude.{nat_lt}
use Rattle.std.proofs.lemmas.Bool.{cases_lt}
use Rattle.std.proofs.lemmas.List.{take_all}
use Rattle.jpg_spec.specs.declared.fault.Fault.{Fault}
use Rattle.jpg_spec.proofs.Basics.Common.{lt_yes}
use Rattle.jpg_spec_image.specs.Images.{Image}
use Rattle.jpg_spec_image.specs.BmpFile.{bmp_fault}
use Rattle.jpg_spec_image.specs.ImageFaults.{ImageHead, body_of, image_of}
use Rattle.jpg_spec_image.specs.ImageSteps.{ImageState, at_start, in_bmp_head, in_body, whole, failed, past, fault_or, bmp_front, body_so_far, head_so_far, run}
use Rattle.jpg_spec_image.specs.ImageReading.{RepresentsImage}
use Rattle.jpg_spec_image.proofs.ImageBodyRuns.{shows_run}
use Rattle.jpg_spec_image.proofs.ImageJudged.{fault_stops, past_stop}
use Rattle.jpg_spec_image.proofs.ImageStands.{stands}
use Rattle.jpg_pnm_bmp.specs.Pieces.{HasNoFault}
use Rattle.jpg_pnm_bmp.specs.Reader.{IsReached, ShowsNone, pixels_kind}

-- STATES after some bytes
pub body_right : (head : ImageHead) (body : List ℕ) → ShowsNone (body_so_far head body)
body_right head body = by (nat_lt (length body) (body_of head).count)
  where
    by : (v : Bool) → ShowsNone (cond v (in_body head body) (whole (image_of head body)))
    by true = tt
    by false = tt

-- THE HEADER of a BMP
pub head_short : (head : List ℕ) → length head < 54 → ShowsNone (head_so_far head)
head_short head h = subst ShowsNone (sym (ap (λ (v : Bool). cond v (in_bmp_head head) (fault_or (bmp_fault head) (bmp_front head [] 0))) (lt_yes (length head) 54 h))) tt

pub short_reached : (head : List ℕ) → IsReached (in_bmp_head head) → length head < 54
short_reached head (bytes, e) = (subst (RepresentsImage bytes) e (stands bytes)).1

-- BYTES that lead to such a state
pub whole_right : (s : ImageState) (image : Image) → s ≡ whole image → ShowsNone s
whole_right s image e = subst ShowsNone (sym e) tt

not_failed : (s : ImageState) (fault : Fault) → s ≡ failed fault → ShowsNone s → ⊥
not_failed s fault e h = subst ShowsNone e h

not_past : (s : ImageState) → s ≡ past → ShowsNone s → ⊥
not_past s e h = subst ShowsNone e h

pub no_fault : (bytes : List ℕ) → ShowsNone (run at_start bytes) → HasNoFault pixels_kind bytes
no_fault bytes right k few fault shows =
    let all = take_all (length bytes) bytes (omega arith) in
    ⊎_elim
    (λ (a : k < length bytes).
    not_past (run at_start bytes) (ap (run at_start) (sym all) ∙ past_stop bytes k (length bytes) a (omega arith) (fault_stops (take k bytes) fault shows)) right)
    (λ (b : length bytes ≤ k).
    (let e : take k bytes ≡ bytes = take_all k bytes b in
    not_failed (run at_start bytes) fault (ap (run at_start) (sym e) ∙ shows_run fault (take k bytes) shows) right))
    (cases_lt k (length bytes))
