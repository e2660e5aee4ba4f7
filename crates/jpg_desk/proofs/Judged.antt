-- What is judged of an input is one: it has one value, or one fault; and what was judged of the bytes that were read
-- holds of the file.
use Rattle.std.proofs.Common.{◌≡◌, ℕ, Bool, true, false, List, ◌++◌, take, drop, Option, None, Some, refl, sym, ap, ◌∙◌, subst, arith, inl, inr}
use Rattle.std.proofs.lemmas.List.{append-nil, append_assoc, take-append-drop}
use Rattle.jpg_base.specs.Desk.{DeskState}
use Rattle.jpg_spec.specs.Early.{IsMeaning, MeansAs}
use Rattle.jpg_spec.specs.FileMeaning.{Means}
use Rattle.jpg_spec.specs.Meaning.{Meaning}
use Rattle.jpg_spec.specs.Segments.{standard_limits}
use Rattle.jpg_spec.specs.declared.fault.FaultAt.{FaultAt}
use Rattle.jpg_spec.proofs.EndsEarly.EarlyOnce.{meaning_once, means_not_early}
use Rattle.jpg_spec.proofs.Files.FileLaws.{early_no_fault, means_more, means_no_fault}
use Rattle.jpg_spec_image.specs.Images.{Image as Picture}
use Rattle.jpg_spec_image.proofs.OneImage.{never_both, one_fault, one_image}
use Rattle.jpg_spec_image.proofs.OneTarga.{never_both as never_both_targa, one_fault as one_targa_fault, one_image as one_targa_image}
use Rattle.jpg_spec_image.proofs.OneReason.{one_reason}
use Rattle.jpg_spec_image.proofs.ShownAlike.{shown_alike}
use Rattle.jpg_desk.specs.ImageFile.{HasFaultIn, HasImageIn}
use Rattle.jpg_desk.specs.Judging.{IsAllRead, Judging}
use Rattle.jpg_desk.specs.ReadImage.{has_image, image_judging, means_image}
use Rattle.jpg_desk.specs.ReadPicture.{IsReadPicture, IsRefused, IsRefusedFor, IsUnwanted, picture_judging, unwanted_for, Wanted, Coefficients, Image}
use Rattle.jpg_desk.specs.Reading.{rest_of}
use Rattle.jpg_desk.proofs.RefusedOnce.{one_refusal, same_refusal}

pub record IsJudged (V : Type 0) (j : Judging V) : Type 0 where
  pub read : (x : V) (early : Option ℕ) (bytes : List ℕ) (now : DeskState) → j.has x early (rest_of now.left) bytes → IsAllRead early now → j.means early x (bytes ++ rest_of now.left)
  pub refused : (f : FaultAt) (rest bytes : List ℕ) → j.refused f rest bytes → j.refuses f (bytes ++ rest)
  pub value_once : (bytes : List ℕ) (early other : Option ℕ) (x y : V) → j.means early x bytes → j.means other y bytes → y ≡ x
  pub early_once : (bytes : List ℕ) (early other : Option ℕ) (x y : V) → j.means early x bytes → j.means other y bytes → other ≡ early
  pub fault_once : (bytes : List ℕ) (f g : FaultAt) → j.refuses f bytes → j.refuses g bytes → g ≡ f
  pub never_both : (bytes : List ℕ) (early : Option ℕ) (x : V) (f : FaultAt) → j.means early x bytes → j.refuses f bytes → ⊥

-- A PICTURE, whatever is asked for

-- if coefficients are asked for, no file is unwanted
pub refused_alone : (input : List ℕ) (f : FaultAt) → IsRefusedFor Coefficients input f → IsRefused input f
refused_alone input f (inl a) = a.0
refused_alone input f (inr a) = absurd a.0

one_unwanted : (w : Wanted) (input : List ℕ) (f g : FaultAt) → IsUnwanted w input f → IsUnwanted w input g → f ≡ g
one_unwanted Coefficients input f g a b = absurd a
one_unwanted (Image gray) input f g a b = one_reason standard_limits gray input f g a b

pub refused_for_one : (w : Wanted) (input : List ℕ) (f g : FaultAt) → IsRefusedFor w input f → IsRefusedFor w input g → f ≡ g
refused_for_one w input f g (inl a) (inl b) = one_refusal input f g a.0 b.0
refused_for_one w input f g (inl a) (inr b) = absurd (let less = a.1 g b.0 in let few = b.1 f a.0 in omega (arith, less, few))
refused_for_one w input f g (inr a) (inl b) = absurd (let less = b.1 f a.0 in let few = a.1 g b.0 in omega (arith, less, few))
refused_for_one w input f g (inr a) (inr b) = one_unwanted w input f g a.0 b.0

-- a file that means a picture has no fault
pub none_faulty : (bytes : List ℕ) (M : Meaning) (f : FaultAt) → IsMeaning standard_limits bytes M → IsRefused bytes f → ⊥
none_faulty bytes M f (inl means) fault = means_no_fault standard_limits bytes M f.fault f.at means fault
none_faulty bytes M f (inr means) fault = early_no_fault standard_limits bytes f.fault f.at means.0 fault

pub none_out : (f : FaultAt) → None ≡ Some f.fault → ⊥
none_out f e = cc

-- nor is one refused that is wanted
pub none_refused_for : (w : Wanted) (bytes : List ℕ) (M : Meaning) (f : FaultAt) → IsMeaning standard_limits bytes M → unwanted_for w M ≡ None → IsRefusedFor w bytes f → ⊥
none_refused_for w bytes M f means wanted (inl (fault, later)) = none_faulty bytes M f means fault
none_refused_for Coefficients bytes M f means wanted (inr (out, later)) = absurd out
none_refused_for (Image gray) bytes M f means wanted (inr (out, later)) = none_out f (sym wanted ∙ (shown_alike standard_limits gray bytes M means).same f out)

pub meaning_of_as : (early : Option ℕ) (bytes : List ℕ) (M : Meaning) → MeansAs standard_limits early bytes M → IsMeaning standard_limits bytes M
meaning_of_as None bytes M means = inl means
meaning_of_as (Some n) bytes M means = inr means.0

same_end : (bytes : List ℕ) (early other : Option ℕ) (M N : Meaning) → MeansAs standard_limits early bytes M → MeansAs standard_limits other bytes N → other ≡ early
same_end bytes None None M N h k = refl
same_end bytes None (Some m) M N h k = absurd (means_not_early standard_limits bytes M N h k.0)
same_end bytes (Some n) None M N h k = absurd (means_not_early standard_limits bytes N M k h.0)
same_end bytes (Some n) (Some m) M N h k = ap (λ (i : ℕ). Some i) (k.1 ∙ sym h.1)

picture_read : (w : Wanted) (M : Meaning) (early : Option ℕ) (bytes : List ℕ) (now : DeskState) → IsReadPicture w M early bytes → IsAllRead early now → MeansAs standard_limits early (bytes ++ rest_of now.left) M × (unwanted_for w M ≡ None)
picture_read w M (Some n) bytes now h all =
    let same : bytes ≡ bytes ++ rest_of now.left = sym (ap (λ (l : List ℕ). bytes ++ l) all ∙ append-nil bytes) in
    (subst (λ (l : List ℕ). MeansAs standard_limits (Some n) l M) same (h.early, h.count), h.wanted)
picture_read w M None bytes now h all =
    let rest = rest_of now.left in
    let cut : take h.count bytes ++ (drop h.count bytes ++ rest) ≡ bytes ++ rest =
    sym (append_assoc (take h.count bytes) (drop h.count bytes) rest) ∙ ap (λ (b : List ℕ). b ++ rest) (take-append-drop h.count bytes) in
    (subst (λ (b : List ℕ). Means standard_limits b M) cut (means_more standard_limits (take h.count bytes) (drop h.count bytes ++ rest) M h.whole.0), h.wanted)

pub picture_judged : (w : Wanted) → IsJudged Meaning (picture_judging w)
picture_judged w = record {
  read = λ M early bytes now h all. picture_read w M early bytes now h all;
  refused = λ f rest bytes h. h.refused;
  value_once = λ bytes early other M N h k. meaning_once standard_limits bytes N M (meaning_of_as other bytes N k.0) (meaning_of_as early bytes M h.0);
  early_once = λ bytes early other M N h k. same_end bytes early other M N h.0 k.0;
  fault_once = λ bytes f g h k. refused_for_one w bytes g f k h;
  never_both = λ bytes early M f h k. none_refused_for w bytes M f (meaning_of_as early bytes M h.0) h.1 k;
}

-- AN IMAGE, by the format of its file

one_in : (targa : Bool) (bytes : List ℕ) (I J : Picture) → HasImageIn targa bytes I → HasImageIn targa bytes J → I ≡ J
one_in false bytes I J h k = one_image standard_limits bytes I J h k
one_in true bytes I J h k = one_targa_image bytes I J h k

image_read : (targa : Bool) (I : Picture) (early : Option ℕ) (bytes rest : List ℕ) → has_image targa I early rest bytes → means_image targa early I (bytes ++ rest)
image_read targa I None bytes rest h = h.is
image_read targa I (Some n) bytes rest h = absurd h

image_once : (targa : Bool) (bytes : List ℕ) (early other : Option ℕ) (I J : Picture) → means_image targa early I bytes → means_image targa other J bytes → J ≡ I
image_once targa bytes None None I J h k = one_in targa bytes J I k h
image_once targa bytes None (Some m) I J h k = absurd k
image_once targa bytes (Some n) other I J h k = absurd h

image_end : (targa : Bool) (bytes : List ℕ) (early other : Option ℕ) (I J : Picture) → means_image targa early I bytes → means_image targa other J bytes → other ≡ early
image_end targa bytes None None I J h k = refl
image_end targa bytes None (Some m) I J h k = absurd k
image_end targa bytes (Some n) other I J h k = absurd h

image_fault : (targa : Bool) (bytes : List ℕ) (f g : FaultAt) → HasFaultIn targa bytes f → HasFaultIn targa bytes g → g ≡ f
image_fault false bytes f g h k = let one = one_fault standard_limits bytes g.fault f.fault g.at f.at k h in same_refusal g f one.0 one.1
image_fault true bytes f g h k = let one = one_targa_fault bytes g.fault f.fault g.at f.at k h in same_refusal g f one.0 one.1

image_never : (targa : Bool) (bytes : List ℕ) (early : Option ℕ) (I : Picture) (f : FaultAt) → means_image targa early I bytes → HasFaultIn targa bytes f → ⊥
image_never false bytes None I f h k = never_both standard_limits bytes I f.fault f.at h k
image_never true bytes None I f h k = never_both_targa bytes I f.fault f.at h k
image_never targa bytes (Some n) I f h k = absurd h

pub image_judged : (targa : Bool) → IsJudged Picture (image_judging targa)
image_judged targa = record {
  read = λ I early bytes now h all. image_read targa I early bytes (rest_of now.left) h;
  refused = λ f rest bytes h. h.is;
  value_once = image_once targa;
  early_once = image_end targa;
  fault_once = image_fault targa;
  never_both = image_never targa;
}
