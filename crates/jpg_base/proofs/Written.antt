-- A piece that is written part by part.
use Rattle.std.proofs.Common.{◌≡◌, ℕ, ◌+◌, ◌-◌, ◌≤◌, List, ◌++◌, length, take, drop, Option, None, Some, sym, ap, ◌∙◌, arith, append_assoc, subst}
use Rattle.std.proofs.lemmas.List.{drop-drop, length-drop}
use Rattle.std.proofs.Math.Seq.{take-add}
use Rattle.std.specs.Io.KnownBytes.{Appends}

appends_then : (a b c : Option (List ℕ)) (xs ys : List ℕ) → Appends a b xs → Appends b c ys → Appends a c (xs ++ ys)
appends_then None b c xs ys h k = tt
appends_then (Some a) None c xs ys h k = absurd h
appends_then (Some a) (Some b) None xs ys h k = absurd k
appends_then (Some a) (Some b) (Some c) xs ys h k = k ∙ ap (λ r. r ++ ys) h ∙ append_assoc a xs ys

-- `count` more bytes of what is left
pub written_step : (a b c : Option (List ℕ)) (piece rest left : List ℕ) (count : ℕ) → count ≤ length rest → left ≡ drop count rest → (rest ≡ drop (length piece - length rest) piece) × Appends a b (take (length piece - length rest) piece) → Appends b c (take count rest)
    → (left ≡ drop (length piece - length left) piece) × Appends a c (take (length piece - length left) piece)
written_step a b c piece rest left count le e h k =
    let m = length piece - length rest in
    let len : length rest ≡ length piece - m = ap length h.0 ∙ length-drop m piece in
    let now : length piece - length left ≡ m + count = omega (arith, len, le, ap length e ∙ length-drop count rest) in
    let after : left ≡ drop (m + count) piece = e ∙ ap (drop count) h.0 ∙ drop-drop count m piece in
    let put : take m piece ++ take count rest ≡ take (m + count) piece = ap (λ r. take m piece ++ take count r) h.0 ∙ sym (take-add m count piece) in
    let P : List ℕ → Type 0 = λ t. Appends a c t in
    (after ∙ ap (λ n. drop n piece) (sym now), subst P (put ∙ ap (λ n. take n piece) (sym now)) (appends_then a b c (take m piece) (take count rest) h.1 k))
