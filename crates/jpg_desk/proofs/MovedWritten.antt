-- Writing a transformed picture: its text means it, and what is told of the picture that was read is told of each one that
-- this one means, whatever markers weren't kept.
use Rattle.std.proofs.Common.{◌≡◌, ℕ, List, Option, Some, None, refl, sym, ap, ◌∙◌, subst}
use Rattle.jpg_base.specs.declared.names.Name.{Name}
use Rattle.jpg_base.specs.Desk.{DeskState}
use Rattle.jpg_spec.specs.Meaning.{Meaning}
use Rattle.jpg_spec.specs.Segments.{standard_limits}
use Rattle.jpg_spec.proofs.Writing.WrittenFront.{standard_are_limits}
use Rattle.jpg_spec_write.specs.WrittenFile.{IsRestart}
use Rattle.jpg_spec_write.specs.declared.picture_fault.PictureFault.{PictureFault}
use Rattle.jpg_spec_move.specs.declared.area.Area.{Area}
use Rattle.jpg_spec_move.specs.Laws.{IsMovable}
use Rattle.jpg_spec_move.specs.Moved.{Choice, moved_text, picture_fault}
use Rattle.jpg_spec_move.proofs.MeaningLeft.{read_moved}
use Rattle.jpg_spec_move.proofs.MovedText.{moved_means}
use Rattle.jpg_file.specs.Read.SegmentState.{kept_for}
use Rattle.jpg_file.specs.Read.PictureRead.{picture_meaning}
use Rattle.jpg_file.specs.declared.read.picture.Picture.{Picture}
use Rattle.jpg_file.specs.declared.write.Plan.{Plan}
use Rattle.jpg_transform.specs.Planned.{IsPlanFor}
use Rattle.jpg_transform.proofs.MovedScript.{area_none, gray_none, script_none}
use Rattle.jpg_crop.proofs.CropPlanned.{fault_before}
use Rattle.jpg_desk.specs.Writing.{AfterMoved, AfterOutput, IsMeant, MeansMoved, WritesMoved, WritesOwn, in_area}
use Rattle.jpg_desk.specs.declared.moved.Wrote.{Wrote}
use Rattle.jpg_desk.specs.declared.moved.Wrote.TheVariants as wrote
use Rattle.jpg_desk.proofs.KeepingLaws.{fault_same, text_same}

movable : (M : Meaning) (c : Choice) → IsMeant M → picture_fault c M ≡ None → IsMovable c M
movable M c (bytes, small, means) none = record { limits = standard_limits; bytes = bytes; limited = standard_are_limits; are_bytes = small; means = means; admitted = gray_none c M none; inside = area_none c M none }

-- the picture that was read, with the markers that are passed on
no_fault : (c : Choice) (N M : Meaning) → N ≡ kept_for c.copying M → picture_fault c N ≡ None → picture_fault c M ≡ None
no_fault c N M shows none = sym (fault_same c M) ∙ ap (picture_fault c) (sym shows) ∙ none

pub moved_for : (c : Choice) (N M : Meaning) → N ≡ kept_for c.copying M → IsRestart c.restart → picture_fault c N ≡ None → IsMeant M → MeansMoved c M
moved_for c N M shows small none meant =
    let fine = no_fault c N M shows none in
    let m = movable M c meant fine in
    moved_means c M (read_moved M c m) (script_none c M fine) small

wrote_for : (c : Choice) (N M : Meaning) (output : Name) (s0 s1 : DeskState) (w : Wrote) → N ≡ kept_for c.copying M → picture_fault c N ≡ None → AfterOutput output s0 (moved_text c N) w s1 → (IsMeant M → MeansMoved c M) → AfterMoved c M output s0 w s1
wrote_for c N M output s0 s1 w shows none h means = by w (subst (λ (due : List ℕ). AfterOutput output s0 due w s1) (ap (moved_text c) shows ∙ text_same c M) h)
  where
    fine : picture_fault c M ≡ None
    fine = no_fault c N M shows none

    by : (v : Wrote) → AfterOutput output s0 (moved_text c M) v s1 → AfterMoved c M output s0 v s1
    by wrote.Done k = (fine, k, means)
    by (wrote.Picture fault) k = absurd k
    by wrote.OpenFault k = (fine, k)
    by wrote.WriteFault k = (fine, k)

-- BY ITS PLAN

pub written : (c : Choice) (p : Picture) (plan : Plan) (output : Name) (s0 s1 : DeskState) (w : Wrote) → IsPlanFor p c plan → AfterOutput output s0 (moved_text c (picture_meaning p)) w s1 → WritesMoved c p output s0 w s1
written c p plan output s0 s1 w h out = λ M shows.
    let N = picture_meaning p in
    wrote_for c N M output s0 s1 w shows h.admitted out (moved_for c N M shows h.counted h.admitted)

-- a fault is one for each area too
pub fault_in : (area : Option Area) (c : Choice) (M : Meaning) (fault : PictureFault) → c.crop ≡ None → picture_fault c M ≡ Some fault → picture_fault (in_area area c) M ≡ Some fault
fault_in None c M fault whole e = ap (λ (o : Option Area). picture_fault (in_area o c) M) (sym whole) ∙ e
fault_in (Some area) c M fault whole e = fault_before c area M fault whole e

-- if it has a fault, and nothing was done
pub faulty : (c : Choice) (p : Picture) (output : Name) (s : DeskState) (fault : PictureFault) → picture_fault c (picture_meaning p) ≡ Some fault → WritesMoved c p output s (wrote.Picture fault) s
faulty c p output s fault e = λ M shows.
    (sym (fault_same c M) ∙ ap (picture_fault c) (sym shows) ∙ e, record { asked = refl; outputs = refl; left = refl })

-- OF THE PICTURE AS IT IS

pub own_written : (c : Choice) (p : Picture) (plan : Plan) (output : Name) (s0 s1 : DeskState) (w : Wrote) → IsPlanFor p c plan → AfterOutput output s0 (moved_text c (picture_meaning p)) w s1 → WritesOwn c p output s0 w s1
own_written c p plan output s0 s1 w h out = by w out
  where
    by : (v : Wrote) → AfterOutput output s0 (moved_text c (picture_meaning p)) v s1 → WritesOwn c p output s0 v s1
    by wrote.Done k = (h.admitted, k, h.counted)
    by (wrote.Picture fault) k = absurd k
    by wrote.OpenFault k = (h.admitted, k)
    by wrote.WriteFault k = (h.admitted, k)

pub own_faulty : (c : Choice) (p : Picture) (output : Name) (s : DeskState) (fault : PictureFault) → picture_fault c (picture_meaning p) ≡ Some fault → WritesOwn c p output s (wrote.Picture fault) s
own_faulty c p output s fault e = (e, record { asked = refl; outputs = refl; left = refl })
