-- The first coefficient that isn't known down to bit 0.
use Rattle.std.proofs.Common.{◌≡◌, ℕ, zero, suc, ◌+◌, ◌<◌, ◌≤◌, Bool, true, false, cond, not, List, [], ◌∷◌, ◌++◌, length, map, drop, refl, sym, ap, ◌∙◌, arith, Option, None, Some}
use Rattle.std.specs.Prelude.{find, option_map, flat_map}
use Rattle.std.proofs.lemmas.List.{append-nil}
use Rattle.std.proofs.lemmas.List.Concat.{flat_map-append}
use Rattle.jpg_spec.specs.Lists.{below}
use Rattle.jpg_spec.specs.Geometry.{Frame}
use Rattle.jpg_spec.specs.Segments.{ScanHead}
use Rattle.jpg_spec.specs.InForce.{first_some}
use Rattle.jpg_spec.specs.History.{known_to, is_known_to}
use Rattle.jpg_spec_write.specs.ScriptFaults.{incomplete}
use Rattle.jpg_spec_write.specs.declared.picture_fault.PictureFault.{PictureFault}
use Rattle.jpg_spec_write.specs.declared.picture_fault.PictureFault.TheVariants.{ScriptIncomplete}
use Rattle.jpg_base.proofs.Places.{next_below, none_below}
use Rattle.jpg_scans.specs.declared.progress.Progress.{Progress}
use Rattle.jpg_scans.specs.declared.sent.Sent.{Sent}
use Rattle.jpg_scans.specs.Progress.{sent_of, known_at, unknown_from, RepresentsScans}
use Rattle.jpg_scans.specs.Sent.{is_unknown, first_unknown, known_in}

-- OF ONE COMPONENT

pub next_unknown : (s : Sent) (k : ℕ) → k < 64 → first_unknown s k ≡ cond (not (is_known_to (known_in s k) 0)) (Some k) (first_unknown s (k + 1))
unfolding first_unknown
next_unknown s k l = ap (find (is_unknown s)) (next_below 64 k l)

pub end_unknown : (s : Sent) (k : ℕ) → 64 ≤ k → first_unknown s k ≡ None
unfolding first_unknown
end_unknown s k l = ap (find (is_unknown s)) (none_below 64 k l)

-- OF ALL: the first one of these numbers, and the answer for it

abbrev found : {X Y : Type 0} → (X → Y) → (X → Bool) → List X → Option Y
found g p xs = option_map g (find p xs)

found_append : {X Y : Type 0} (g : X → Y) (p : X → Bool) (xs ys : List X) → found g p (xs ++ ys) ≡ first_some (found g p xs) (found g p ys)
found_append g p [] ys = refl
found_append g p (x ∷ xs) ys = by (p x) (found_append g p xs ys)
  where
    by : (b : Bool) → found g p (xs ++ ys) ≡ first_some (found g p xs) (found g p ys)
        → option_map g (cond b (Some x) (find p (xs ++ ys))) ≡ first_some (option_map g (cond b (Some x) (find p xs))) (found g p ys)
    by true e = refl
    by false e = e

found_map : {X Y Z : Type 0} (g : Y → Z) (p : Y → Bool) (h : X → Y) (xs : List X) → found g p (map h xs) ≡ found (λ x. g (h x)) (λ x. p (h x)) xs
found_map g p h [] = refl
found_map g p h (x ∷ xs) = by (p (h x)) (found_map g p h xs)
  where
    by : (b : Bool) → found g p (map h xs) ≡ found (λ x. g (h x)) (λ x. p (h x)) xs
        → option_map g (cond b (Some (h x)) (find p (map h xs))) ≡ option_map (λ x. g (h x)) (cond b (Some x) (find (λ x. p (h x)) xs))
    by true e = refl
    by false e = e

abbrev row : ℕ → List (ℕ × ℕ)
row i = map (λ k. (i, k)) (below 64)

pub next_component : (p : Progress) (n i : ℕ) → i < n
    → unknown_from p n i ≡ first_some (option_map (λ k. ScriptIncomplete i k (known_at p i k)) (first_unknown (sent_of p i) 0)) (unknown_from p n (i + 1))
unfolding unknown_from first_unknown
next_component p n i l =
    let g = λ (c : ℕ × ℕ). ScriptIncomplete c.0 c.1 (known_at p c.0 c.1) in
    let test = λ (c : ℕ × ℕ). not (is_known_to (known_at p c.0 c.1) 0) in
    ap (λ xs. found g test (flat_map row xs)) (next_below n i l)
    ∙ found_append g test (row i) (flat_map row (drop (i + 1) (below n)))
    ∙ ap (λ o. first_some o (found g test (flat_map row (drop (i + 1) (below n))))) (found_map g test (λ k. (i, k)) (below 64))

pub no_component : (p : Progress) (n i : ℕ) → n ≤ i → unknown_from p n i ≡ None
unfolding unknown_from
no_component p n i l =
    ap (λ xs. found (λ (c : ℕ × ℕ). ScriptIncomplete c.0 c.1 (known_at p c.0 c.1)) (λ (c : ℕ × ℕ). not (is_known_to (known_at p c.0 c.1) 0)) (flat_map row xs)) (none_below n i l)

-- IN THE HISTORY it is the same

same_row : {Y : Type 0} (g h : ℕ → Y) (p q : ℕ → Bool) (n : ℕ) → ((k : ℕ) → k < n → g k ≡ h k) → ((k : ℕ) → k < n → p k ≡ q k) → found g p (below n) ≡ found h q (below n)
same_row g h p q zero a b = refl
same_row g h p q (suc n) a b =
    found_append g p (below n) (n ∷ [])
    ∙ ap (λ o. first_some o (found g p (n ∷ []))) (same_row g h p q n (λ k l. a k (omega (arith, l))) (λ k l. b k (omega (arith, l))))
    ∙ ap (λ t. first_some (found h q (below n)) (option_map g (cond t (Some n) None))) (b n (omega arith))
    ∙ ap (first_some (found h q (below n))) (last (q n) (a n (omega arith)))
    ∙ sym (found_append h q (below n) (n ∷ []))
  where
    last : (t : Bool) → g n ≡ h n → option_map g (cond t (Some n) None) ≡ option_map h (cond t (Some n) None)
    last true e = ap Some e
    last false e = refl

-- by what is known of each
abbrev by_known : (ℕ → ℕ → Option ℕ) → List (ℕ × ℕ) → Option PictureFault
by_known known cs = found (λ (c : ℕ × ℕ). ScriptIncomplete c.0 c.1 (known c.0 c.1)) (λ (c : ℕ × ℕ). not (is_known_to (known c.0 c.1) 0)) cs

row_by : (known : ℕ → ℕ → Option ℕ) (i : ℕ) → by_known known (row i) ≡ found (λ k. ScriptIncomplete i k (known i k)) (λ k. not (is_known_to (known i k) 0)) (below 64)
row_by known i = found_map (λ (c : ℕ × ℕ). ScriptIncomplete c.0 c.1 (known c.0 c.1)) (λ (c : ℕ × ℕ). not (is_known_to (known c.0 c.1) 0)) (λ k. (i, k)) (below 64)

rows_more : (known : ℕ → ℕ → Option ℕ) (n : ℕ) → by_known known (flat_map row (below n ++ n ∷ [])) ≡ first_some (by_known known (flat_map row (below n))) (by_known known (row n))
rows_more known n =
    ap (by_known known) (flat_map-append row (below n) (n ∷ []) ∙ ap (λ l. flat_map row (below n) ++ l) (append-nil (row n)))
    ∙ found_append (λ (c : ℕ × ℕ). ScriptIncomplete c.0 c.1 (known c.0 c.1)) (λ (c : ℕ × ℕ). not (is_known_to (known c.0 c.1) 0)) (flat_map row (below n)) (row n)

same_rows : (a b : ℕ → ℕ → Option ℕ) (n : ℕ) → ((i k : ℕ) → i < n → k < 64 → a i k ≡ b i k) → by_known a (flat_map row (below n)) ≡ by_known b (flat_map row (below n))
same_rows a b zero same = refl
same_rows a b (suc n) same =
    rows_more a n
    ∙ ap (λ o. first_some o (by_known a (row n))) (same_rows a b n (λ i k l. same i k (omega (arith, l))))
    ∙ ap (first_some (by_known b (flat_map row (below n))))
    (row_by a n
    ∙ same_row (λ k. ScriptIncomplete n k (a n k)) (λ k. ScriptIncomplete n k (b n k)) (λ k. not (is_known_to (a n k) 0)) (λ k. not (is_known_to (b n k) 0)) 64
    (λ k l. ap (ScriptIncomplete n k) (same n k (omega arith) l)) (λ k l. ap (λ o. not (is_known_to o 0)) (same n k (omega arith) l))
    ∙ sym (row_by b n))
    ∙ sym (rows_more b n)

pub incomplete_is : (p : Progress) (f : Frame) (heads : List ScanHead) → RepresentsScans p f heads → p.count ≤ 4 → unknown_from p p.count 0 ≡ incomplete f heads
unfolding unknown_from
incomplete_is p f heads s few =
    ap (λ n. by_known (known_at p) (flat_map row (below n))) s.count
    ∙ same_rows (known_at p) (known_to heads) (length f.components) (λ i k l h. s.known i k (omega (arith, l, few, s.count)) h)
