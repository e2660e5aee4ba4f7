-- What is judged of the front of an input is one: it has one value, or one fault; and what was judged of the bytes that
-- were read holds of the file.
use Rattle.std.proofs.Common.{◌≡◌, ◌⊎◌, ℕ, ◌<◌, ◌≤◌, Bool, List, ◌++◌, length, Option, None, Some, refl, sym, ap, ◌∙◌, subst, arith, inl, inr}
use Rattle.std.proofs.lemmas.Bool.{cases_lt}
use Rattle.std.proofs.lemmas.List.{append-nil}
use Rattle.jpg_base.specs.Desk.{DeskState}
use Rattle.jpg_spec.specs.Early.{IsMeaning, MeansEarly}
use Rattle.jpg_spec.specs.FileMeaning.{Means}
use Rattle.jpg_spec.specs.Faults.{number_of}
use Rattle.jpg_spec.specs.Meaning.{Meaning}
use Rattle.jpg_spec.specs.Segments.{standard_limits}
use Rattle.jpg_spec.specs.declared.fault.FaultAt.{FaultAt}
use Rattle.jpg_spec.proofs.EndsEarly.EarlyOnce.{meaning_once, means_not_early}
use Rattle.jpg_spec_image.specs.Front.{EndsScan}
use Rattle.jpg_spec_image.specs.Pixels.{out_fault}
use Rattle.jpg_spec_image.proofs.Fronts.{one_front}
use Rattle.jpg_preview.proofs.FrontFound.{never_without}
use Rattle.jpg_desk.specs.Judging.{IsAllRead}
use Rattle.jpg_desk.specs.ReadFront.{EndsInFront, FrontMeans, FrontMeansAs, IsFrontRefused, IsReadFront, front_judging}
use Rattle.jpg_desk.specs.Reading.{rest_of}
use Rattle.jpg_desk.proofs.FaultNumbers.{same_fault}
use Rattle.jpg_desk.proofs.FrontBytes.{all_of, front_all}
use Rattle.jpg_desk.proofs.Judged.{IsJudged, none_refused_for, refused_for_one}
use Rattle.jpg_desk.proofs.RefusedOnce.{same_refusal}
use Rattle.jpg_desk.specs.ReadPicture.{Image}

-- ONE VALUE

front_means : (scans : ℕ) (bytes : List ℕ) (M : Meaning) → (h : FrontMeans scans bytes M) → IsMeaning standard_limits h.front M
front_means scans bytes M h = by h.means
  where
    by : Means standard_limits h.front M ⊎ (MeansEarly standard_limits h.front M × EndsScan standard_limits scans h.front) → IsMeaning standard_limits h.front M
    by (inl means) = inl means
    by (inr early) = inr early.0

value_once : (scans : ℕ) (bytes : List ℕ) (M N : Meaning) → FrontMeans scans bytes M → FrontMeans scans bytes N → N ≡ M
value_once scans bytes M N h k =
    let same = one_front standard_limits scans bytes h.front k.front h.is k.is in
    meaning_once standard_limits k.front N M (front_means scans bytes N k) (subst (λ (l : List ℕ). IsMeaning standard_limits l M) same (front_means scans bytes M h))

-- an input that ends early before the front does has no other meaning
front_not_early : (scans n : ℕ) (bytes : List ℕ) (M N : Meaning) → FrontMeans scans bytes M → EndsInFront scans n bytes N → ⊥
front_not_early scans n bytes M N h k = by h.means
  where
    same : h.front ≡ bytes
    same = front_all scans bytes h.front k.none h.is

    by : Means standard_limits h.front M ⊎ (MeansEarly standard_limits h.front M × EndsScan standard_limits scans h.front) → ⊥
    by (inl means) = means_not_early standard_limits bytes M N (subst (λ (l : List ℕ). Means standard_limits l M) same means) k.early
    by (inr (early, ends)) = k.none (length bytes) (omega arith) (subst (EndsScan standard_limits scans) (same ∙ sym (all_of bytes)) ends)

front_once : (scans : ℕ) (bytes : List ℕ) (early other : Option ℕ) (M N : Meaning) → FrontMeansAs scans early bytes M → FrontMeansAs scans other bytes N → N ≡ M
front_once scans bytes None None M N h k = value_once scans bytes M N h k
front_once scans bytes None (Some m) M N h k = absurd (front_not_early scans m bytes M N h k)
front_once scans bytes (Some n) None M N h k = absurd (front_not_early scans n bytes N M k h)
front_once scans bytes (Some n) (Some m) M N h k = meaning_once standard_limits bytes N M (inr k.early) (inr h.early)

end_once : (scans : ℕ) (bytes : List ℕ) (early other : Option ℕ) (M N : Meaning) → FrontMeansAs scans early bytes M → FrontMeansAs scans other bytes N → other ≡ early
end_once scans bytes None None M N h k = refl
end_once scans bytes None (Some m) M N h k = absurd (front_not_early scans m bytes M N h k)
end_once scans bytes (Some n) None M N h k = absurd (front_not_early scans n bytes N M k h)
end_once scans bytes (Some n) (Some m) M N h k = ap (λ (i : ℕ). Some i) (k.count ∙ sym h.count)

-- OR ONE FAULT

-- numbers are the same, if it can't be that they aren't
same_number : (a b : ℕ) → ((a ≡ b → ⊥) → ⊥) → a ≡ b
same_number a b never = by (cases_lt a b) (cases_lt b a)
  where
    by : (a < b) ⊎ (b ≤ a) → (b < a) ⊎ (a ≤ b) → a ≡ b
    by (inl less) k = absurd (never (λ e. omega (arith, less, e)))
    by (inr h) (inl less) = absurd (never (λ e. omega (arith, less, e)))
    by (inr h) (inr k) = omega (arith, h, k)

pub front_refused_once : (scans : ℕ) (gray : Bool) (bytes : List ℕ) (f g : FaultAt) → IsFrontRefused scans gray bytes f → IsFrontRefused scans gray bytes g → f ≡ g
front_refused_once scans gray bytes f g h k =
    same_refusal f g
    (same_fault f.fault g.fault (same_number (number_of f.fault) (number_of g.fault) (λ never. apart (λ e. never (ap (λ (x : FaultAt). number_of x.fault) e)))))
    (same_number f.at g.at (λ never. apart (λ e. never (ap (λ (x : FaultAt). x.at) e))))
  where
    apart : (f ≡ g → ⊥) → ⊥
    apart never = never_without standard_limits scans bytes (λ front is. never (refused_for_one (Image gray) front f g (h front is) (k front is)))

never_both : (scans : ℕ) (gray : Bool) (bytes : List ℕ) (early : Option ℕ) (M : Meaning) (f : FaultAt) → FrontMeansAs scans early bytes M → out_fault gray M ≡ None → IsFrontRefused scans gray bytes f → ⊥
never_both scans gray bytes None M f h shown k = none_refused_for (Image gray) h.front M f (front_means scans bytes M h) shown (k h.front h.is)
never_both scans gray bytes (Some n) M f h shown k = none_refused_for (Image gray) bytes M f (inr h.early) shown (k bytes (inr (refl, h.none)))

-- WHAT WAS READ

front_read : (scans : ℕ) (gray : Bool) (M : Meaning) (early : Option ℕ) (bytes : List ℕ) (now : DeskState) → IsReadFront scans gray M early (rest_of now.left) bytes → IsAllRead early now
    → FrontMeansAs scans early (bytes ++ rest_of now.left) M × (out_fault gray M ≡ None)
front_read scans gray M None bytes now h all = (h.shown, h.wanted)
front_read scans gray M (Some n) bytes now h all =
    (subst (λ (l : List ℕ). EndsInFront scans n l M) (sym (ap (λ (l : List ℕ). bytes ++ l) all ∙ append-nil bytes)) h.ended, h.wanted)

pub front_judged : (scans : ℕ) (gray : Bool) → IsJudged Meaning (front_judging scans gray)
front_judged scans gray = record {
  read = λ M early bytes now h all. front_read scans gray M early bytes now h all;
  refused = λ f rest bytes h. h.refused;
  value_once = λ bytes early other M N h k. front_once scans bytes early other M N h.0 k.0;
  early_once = λ bytes early other M N h k. end_once scans bytes early other M N h.0 k.0;
  fault_once = λ bytes f g h k. front_refused_once scans gray bytes g f k h;
  never_both = λ bytes early M f h k. never_both scans gray bytes early M f h.0 h.1 k;
}
