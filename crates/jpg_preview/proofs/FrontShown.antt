-- THE LAW: what a preview shows is the front of the file.
use Rattle.std.proofs.Common.{◌≡◌, ℕ, ◌<◌, ◌≤◌, List, [], ◌∷◌, ◌++◌, length, take, drop, refl, sym, ap, ◌∙◌, subst, arith, inl, inr}
use Rattle.std.specs.Prelude.{◌⊎◌}
use Rattle.std.proofs.Math.Seq.{take_all}
use Rattle.std.proofs.lemmas.List.{length-append, take-append-drop}
use Rattle.std.proofs.lemmas.Bool.{cases_lt}
use Rattle.jpg_spec_image.specs.Front.{BeginsWith, EndsScan, IsFront}
use Rattle.jpg_spec_image.proofs.Fronts.{none_after, one_front}
use Rattle.jpg_file.specs.Read.ReadFile.{IsDone, IsEarlyEnd, ReaderState}
use Rattle.jpg_preview.specs.Viewing.{IsFrontOf, IsShown}
use Rattle.jpg_preview.proofs.ViewSteps.{none_of_front, take_front}

-- a front that ends with such a marker
shown_begins : (scans : ℕ) (bytes rest : List ℕ) (r : ReaderState) → IsShown scans bytes r → EndsScan r.limits scans bytes → BeginsWith r.limits scans (bytes ++ rest) bytes
shown_begins scans bytes rest r w ends = record { rest = rest; cut = refl; ends = ends; first = none_of_front r.limits scans bytes rest (length bytes) (omega arith) w.first }

-- of two first parts of the same bytes the shorter begins the other
same_length : (bytes rest front more : List ℕ) → bytes ++ rest ≡ front ++ more → length front ≡ length bytes → front ≡ bytes
same_length bytes rest front more e same =
    sym (take_front front more (length front) (omega arith) ∙ take_all (length front) front (omega arith)) ∙ ap (take (length front)) (sym e)
    ∙ (take_front bytes rest (length front) (omega (arith, same)) ∙ take_all (length front) bytes (omega (arith, same)))

longer : (bytes rest front more : List ℕ) → bytes ++ rest ≡ front ++ more → length bytes < length front → (b : ℕ) × (x : List ℕ) × (front ≡ bytes ++ b ∷ x)
longer bytes rest front more e less = by (drop (length bytes) front) refl
  where
    begins : take (length bytes) front ≡ bytes
    begins =
        sym (take_front front more (length bytes) (omega (arith, less))) ∙ ap (take (length bytes)) (sym e) ∙ (take_front bytes rest (length bytes) (omega arith) ∙ take_all (length bytes) bytes (omega arith))

    split : front ≡ bytes ++ drop (length bytes) front
    split = sym (take-append-drop (length bytes) front) ∙ ap (λ l. l ++ drop (length bytes) front) begins

    by : (x : List ℕ) → drop (length bytes) front ≡ x → (b : ℕ) × (x : List ℕ) × (front ≡ bytes ++ b ∷ x)
    by [] h = (let all = ap length (split ∙ ap (λ l. bytes ++ l) h) ∙ length-append bytes [] in let z : ⊥ = omega (arith, all, less) in absurd z)
    by (b ∷ x) h = (b, x, split ∙ ap (λ l. bytes ++ l) h)

shown_done : (scans : ℕ) (bytes rest front : List ℕ) (r : ReaderState) → IsShown scans bytes r → IsDone bytes r → IsFront r.limits scans (bytes ++ rest) front → IsFrontOf scans bytes rest front r
shown_done scans bytes rest front r w d (inr k) = inr (k.0, d)
shown_done scans bytes rest front r w d (inl k) = inl (by (cases_lt (length front) (length bytes)) (cases_lt (length bytes) (length front)))
  where
    short : length front < length bytes → ⊥
    short less =
        w.first (length front) less
        (subst (EndsScan r.limits scans)
        (sym (sym (take_front bytes rest (length front) (omega (arith, less))) ∙ ap (take (length front)) k.cut ∙ take_front front k.rest (length front) (omega arith) ∙ take_all (length front) front (omega arith)))
        k.ends)

    long : length bytes < length front → ⊥
    long less =
        let x = longer bytes rest front k.rest k.cut less in
        let whole = d.whole in
        none_after r.limits bytes x.0 x.1 d.meaning whole.0 whole.1 scans (subst (EndsScan r.limits scans) x.2 k.ends)

    by : (length front < length bytes) ⊎ (length bytes ≤ length front) → (length bytes < length front) ⊎ (length front ≤ length bytes) → front ≡ bytes
    by (inl less) h = absurd (short less)
    by (inr g) (inl less) = absurd (long less)
    by (inr g) (inr h) = same_length bytes rest front k.rest k.cut (omega (arith, g, h))

pub shown_front : (scans : ℕ) (bytes rest front : List ℕ) (r : ReaderState) → IsShown scans bytes r → IsFront r.limits scans (bytes ++ rest) front → IsFrontOf scans bytes rest front r
shown_front scans bytes rest front r w k = by w.meaning
  where
    by : IsDone bytes r ⊎ (IsEarlyEnd bytes r × EndsScan r.limits scans bytes) → IsFrontOf scans bytes rest front r
    by (inl d) = shown_done scans bytes rest front r w d k
    by (inr e) = inl (one_front r.limits scans (bytes ++ rest) front bytes k (inl (shown_begins scans bytes rest r w e.1)))
