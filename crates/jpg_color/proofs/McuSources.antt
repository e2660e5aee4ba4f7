-- Factors that divide the greatest one, and windows by their components.
use Rattle.std.proofs.Common.{◌≡◌, ℕ, zero, suc, ◌+◌, ◌*◌, ◌/◌, ◌%◌, ◌<◌, Bool, true, false, cond, ◌||◌, ◌==◌, List, [], ◌∷◌, length, slice_index, refl, sym, ap, ◌∙◌, subst, arith, Option, Some, None}
use Rattle.std.specs.Prelude.{find, if◌then◌else◌, not, option_map}
use Rattle.std.proofs.lemmas.Bool.Decides.{nat_tests}
use Rattle.std.proofs.lemmas.Nat.{div-add-mod'}
use Rattle.jpg_spec.specs.Lists.{below}
use Rattle.jpg_spec_encode.specs.Encoded.{factors_fault, grids_fault, has_fraction}
use Rattle.jpg_spec.specs.Geometry.{Frame, component_at, h_max, v_max}
use Rattle.jpg_spec.specs.InForce.{first_some}
use Rattle.jpg_spec.specs.Meaning.{Meaning, picture_frame}
use Rattle.jpg_spec_write.specs.declared.picture_fault.PictureFault.{PictureFault}
use Rattle.jpg_spec_write.specs.declared.picture_fault.PictureFault.TheVariants.{FractionalFactors}
use Rattle.jpg_spec.proofs.Basics.Common.{length_below}
use Rattle.jpg_spec.proofs.Basics.Rows.{at_below}
use Rattle.jpg_color.specs.EncodeHead.{fraction_at}
use Rattle.jpg_color.proofs.EncodedHead.{fractions_same}

-- NO FRACTIONS

none_found : (o : Option ℕ) (g : Option PictureFault) → first_some (option_map (λ i. FractionalFactors i) o) g ≡ None → o ≡ None
none_found None g e = refl
none_found (Some i) g e = cc

none_passes : (p : ℕ → Bool) (xs : List ℕ) (k : ℕ) → find p xs ≡ None → k < length xs → p (slice_index xs k) ≡ false
none_passes p [] k e h = absurd (omega (arith, h))
none_passes p (x ∷ xs) k e h = by (p x) refl e k h (none_passes p xs)
  where
    by : (b : Bool) → p x ≡ b → cond b (Some x) (find p xs) ≡ None → (k : ℕ) → k < length (x ∷ xs) → ((n : ℕ) → find p xs ≡ None → n < length xs → p (slice_index xs n) ≡ false)
        → p (slice_index (x ∷ xs) k) ≡ false
    by true is e k h rest = cc
    by false is e zero h rest = is
    by false is e (suc k) h rest = rest k e (omega (arith, h))

divides : (a b : ℕ) (t : Bool) → (t || not (a % b == 0)) ≡ false → a % b ≡ 0
divides a b true e = cc
divides a b false e = by (a % b == 0) refl e
  where
    by : (s : Bool) → (a % b == 0) ≡ s → not s ≡ false → a % b ≡ 0
    by true is e = grind (arith, nat_tests, is)
    by false is e = cc

pub whole_down : (H : Meaning) (f : Frame) (i : ℕ) → f ≡ picture_frame H → first_some (factors_fault H) (grids_fault H) ≡ None → i < length f.components → v_max f / (component_at f i).v * (component_at f i).v ≡ v_max f
whole_down H f i e none there =
    let n = length f.components in
    let found : find (fraction_at f.components) (below n) ≡ None =
    ap (λ (g : Frame). find (fraction_at g.components) (below (length g.components))) e ∙ fractions_same H ∙ none_found (find (has_fraction H) (below (length H.components))) (grids_fault H) none in
    let whole : fraction_at f.components i ≡ false =
    ap (fraction_at f.components) (sym (at_below n i there)) ∙ none_passes (fraction_at f.components) (below n) i found (subst (λ m. i < m) (sym (length_below n)) there) in
    let z : v_max f % (component_at f i).v ≡ 0 = divides (v_max f) (component_at f i).v (not (h_max f % (component_at f i).h == 0)) whole in
    let d : v_max f / (component_at f i).v * (component_at f i).v + v_max f % (component_at f i).v ≡ v_max f = div-add-mod' (v_max f) (component_at f i).v in
    omega (arith, d, z)

-- WINDOWS by their components

pub by_three : (P : ℕ → List ℕ → Type 0) (a b c : List ℕ) (i : ℕ) → i < 3 → P 0 a → P 1 b → P 2 c → P i (if i == 0 then a else if i == 1 then b else c)
by_three P a b c zero h p q r = p
by_three P a b c (suc zero) h p q r = q
by_three P a b c (suc (suc zero)) h p q r = r
by_three P a b c (suc (suc (suc i))) h p q r = absurd (omega (arith, h))
