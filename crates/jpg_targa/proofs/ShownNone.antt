-- States without a fault, and bytes that lead to them.
use Rattle.std.proofs.Common.{◌≡◌, ℕ, ◌<◌, ◌≤◌, ◌==◌, Bool, true, false, cond, List, [], ◌∷◌, length, take, drop, refl, sym, ap, ◌∙◌, subst, arith, ⊎_elim}
use Rattle.std.specs.Prelude.{nat_lt}
use Rattle.std.proofs.lemmas.Bool.{cases_lt}
use Rattle.std.proofs.lemmas.List.{take-append-drop, take_all}
use Rattle.jpg_spec.specs.declared.fault.Fault.{Fault}
use Rattle.jpg_spec_image.specs.Images.{Image}
use Rattle.jpg_spec_image.specs.TargaFile.{targa_image}
use Rattle.jpg_spec_image.specs.TargaSteps.{TargaState, at_packet, at_start, failed, grown, in_head, in_pixels, past, pixels_so_far, run, total, whole}
use Rattle.jpg_spec_image.specs.TargaReading.{RepresentsTarga}
use Rattle.jpg_spec_image.proofs.TargaRuns.{run_join, shows_run}
use Rattle.jpg_spec_image.proofs.TargaStands.{stands}
use Rattle.jpg_pnm_bmp.specs.Pieces.{HasNoFault}
use Rattle.jpg_targa.specs.Reader.{IsReached, ShowsNone, targa_kind}

-- STATES after some bytes
grown_right : (head bytes : List ℕ) (s : TargaState) → ShowsNone s → ShowsNone (grown head bytes s)
grown_right head bytes s h = by (nat_lt (length bytes) (total head))
  where
    by : (v : Bool) → ShowsNone (cond v s (whole (targa_image head bytes)))
    by true = h
    by false = tt

pub pixels_right : (head bytes : List ℕ) (left : ℕ) → ShowsNone (pixels_so_far head bytes left)
pixels_right head bytes left = grown_right head bytes _ (by (left == 0))
  where
    by : (v : Bool) → ShowsNone (cond v (at_packet head bytes) (in_pixels head bytes left))
    by true = tt
    by false = tt

pub head_short : (head : List ℕ) (n : ℕ) → length head ≡ 18 → IsReached (in_head (take n head)) → n < 18
head_short head n long (bytes, e) =
    let few = (subst (RepresentsTarga bytes) e (stands bytes)).1 in
    ⊎_elim (λ (a : n < 18). a) (λ (b : 18 ≤ n). absurd (omega (arith, few, long, ap length (take_all n head (omega (arith, long, b)))))) (cases_lt n 18)

-- BYTES that lead to such a state
pub whole_right : (s : TargaState) (image : Image) → s ≡ whole image → ShowsNone s
whole_right s image e = subst ShowsNone (sym e) tt

wrong : (s : TargaState) (bytes : List ℕ) (fault : Fault) → s ≡ failed fault → ShowsNone (run s bytes) → ⊥
unfolding run
wrong s [] fault e h = subst ShowsNone e h
wrong s (b ∷ bytes) fault e h = subst ShowsNone (ap (λ (t : TargaState). run t (b ∷ bytes)) e ∙ over bytes) h
  where
    over : (bytes : List ℕ) → run past bytes ≡ past
    over [] = refl
    over (c ∷ more) = over more

pub no_fault : (bytes : List ℕ) → ShowsNone (run at_start bytes) → HasNoFault targa_kind bytes
no_fault bytes right k few fault shows =
    wrong (run at_start (take k bytes)) (drop k bytes) fault (shows_run fault (take k bytes) shows)
    (subst ShowsNone (ap (run at_start) (sym (take-append-drop k bytes)) ∙ run_join at_start (take k bytes) (drop k bytes)) right)
