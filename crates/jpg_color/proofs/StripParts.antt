-- The parts of strips: those of a picture remain so while rows are decoded and passed.
use Rattle.std.proofs.Common.{◌≡◌, ◌⊎◌, inl, inr, ℕ, zero, suc, ◌+◌, ◌<◌, ◌≤◌, Bool, List, [], ◌∷◌, ◌++◌, length, subst, refl, sym, ap, ◌∙◌, arith}
use Rattle.std.proofs.lemmas.Bool.{cases_lt}
use Rattle.std.proofs.lemmas.List.{length-append}
use Rattle.jpg_spec.specs.Meaning.{Meaning}
use Rattle.jpg_color.specs.PartState.{PartState, IsNewPart}
use Rattle.jpg_color.specs.StripsState.{AreNewParts, part_at}

more_item : (ps : List PartState) (p : PartState) (i : ℕ) → i < length ps → part_at (ps ++ p ∷ []) i ≡ part_at ps i
more_item [] p i lt = absurd (omega (arith, lt))
more_item (q ∷ ps) p zero lt = refl
more_item (q ∷ ps) p (suc i) lt = more_item ps p i (omega (arith, lt))

end_item : (ps : List PartState) (p : PartState) → part_at (ps ++ p ∷ []) (length ps) ≡ p
end_item [] p = refl
end_item (q ∷ ps) p = end_item ps p

pub one_part_more : (M : Meaning) (smooth : Bool) (n : ℕ) (ps new : List PartState) (p : PartState) → AreNewParts M smooth n ps → IsNewPart M smooth n p → new ≡ ps ++ p ∷ []
    → AreNewParts M smooth (n + 1) new
one_part_more M smooth n ps new p are is e = subst (AreNewParts M smooth (n + 1)) (sym e) (record {
  count = length-append ps (p ∷ []) ∙ ap (λ k. k + 1) are.count;
  new = λ (i : ℕ) (h : i < n + 1). at i h (cases_lt i n);
})
  where
    at : (i : ℕ) → i < n + 1 → (i < n) ⊎ (n ≤ i) → IsNewPart M smooth i (part_at (ps ++ p ∷ []) i)
    at i h (inl lt) = subst (IsNewPart M smooth i) (sym (more_item ps p i (subst (λ k. i < k) (sym are.count) lt))) (are.new i lt)
    at i h (inr le) =
        let same : i ≡ n = omega (arith, h, le) in
        let place : part_at (ps ++ p ∷ []) i ≡ p = ap (part_at (ps ++ p ∷ [])) (same ∙ sym are.count) ∙ end_item ps p in
        subst (IsNewPart M smooth i) (sym place) (subst (λ k. IsNewPart M smooth k p) (sym same) is)
