-- Copies of a pixel, up to an end.
use Rattle.std.specs.Prelude.{replicate}
use Rattle.std.proofs.Common.{◌≡◌, ℕ, suc, ◌+◌, ◌-◌, ◌<◌, ◌≤◌, min, List, [], ◌∷◌, ◌++◌, length, take, flat_map, refl, sym, ap, ◌∙◌, arith, append_assoc, ⊎_elim}
use Rattle.std.proofs.lemmas.Bool.{cases_lt}
use Rattle.std.proofs.lemmas.List.{append-nil, length-replicate, length-take-le, take-replicate, take_all, take-append-le, take_min}
use Rattle.std.proofs.lemmas.Grind.{flat_map-append}
use Rattle.std.proofs.Math.Seq.{take-append-add}
use Rattle.jpg_spec.specs.Lists.{below}
use Rattle.jpg_spec.proofs.Basics.Common.{length_below}

-- as much of a list as there is room for
up_to_end : (end part : ℕ) (xs ys : List ℕ) → part ≡ min (end - length (take end xs)) (length ys) → take end xs ++ take part ys ≡ take end (xs ++ ys)
up_to_end end part xs ys e =
    ⊎_elim
    (λ (h : length xs < end).
    (let all : take end xs ≡ xs = take_all end xs (omega (arith, h)) in
    let n : length xs + (end - length xs) ≡ end = omega (arith, h) in
    ap (λ x. x ++ take part ys) all
    ∙ ap (λ x. xs ++ x) (ap (λ k. take k ys) (e ∙ ap (λ (x : List ℕ). min (end - length x) (length ys)) all) ∙ take_min (end - length xs) ys)
    ∙ sym (take-append-add xs ys (end - length xs)) ∙ ap (λ k. take k (xs ++ ys)) n))
    (λ (h : end ≤ length xs).
    (let l = length-take-le end xs h in
    let none : part ≡ 0 = omega (arith, e, l) in
    ap (λ k. take end xs ++ take k ys) none ∙ append-nil (take end xs) ∙ sym (take-append-le end xs ys h)))
    (cases_lt (length xs) end)

pub copies_more : (end done part : ℕ) (old made pixel : List ℕ) → made ≡ take end (old ++ flat_map (λ n. pixel) (below done)) → part ≡ min (end - length made) (length pixel)
    → made ++ take part pixel ≡ take end (old ++ flat_map (λ n. pixel) (below (done + 1)))
copies_more end done part old made pixel e p =
    let copies = flat_map (λ (n : ℕ). pixel) (below done) in
    let one : suc done ≡ done + 1 = omega arith in
    ap (λ x. x ++ take part pixel) e
    ∙ up_to_end end part (old ++ copies) pixel (p ∙ ap (λ (x : List ℕ). min (end - length x) (length pixel)) e)
    ∙ ap (take end)
    (append_assoc old copies pixel
    ∙ ap (λ x. old ++ x) (ap (λ x. copies ++ x) (sym (append-nil pixel)) ∙ sym (flat_map-append (λ (n : ℕ). pixel) (below done) (done ∷ [])) ∙ ap (λ k. flat_map (λ (n : ℕ). pixel) (below k)) one))

-- copies of a pixel of one byte
singles : (gray : ℕ) (xs : List ℕ) → flat_map (λ n. gray ∷ []) xs ≡ replicate (length xs) gray
singles gray [] = refl
singles gray (x ∷ xs) = ap (λ (l : List ℕ). (let m : List ℕ = gray ∷ l in m)) (singles gray xs)

pub grays : (end part count gray : ℕ) (old : List ℕ) → length old ≤ end → part ≡ min (end - length old) count → count < 256
    → old ++ take part (replicate 255 gray) ≡ take end (old ++ flat_map (λ n. gray ∷ []) (below count))
grays end part count gray old fits e few =
    let all = replicate count gray in
    let few_enough : part ≤ count = omega (arith, e) in
    let same : take part (replicate 255 gray) ≡ take part all =
    take-replicate part 255 gray (omega (arith, few, few_enough)) ∙ sym (take-replicate part count gray few_enough)
    in
    let whole = take_all end old fits in
    ap (λ l. old ++ l) same ∙ ap (λ (l : List ℕ). l ++ take part all) (sym whole)
    ∙ up_to_end end part old all (e ∙ ap (λ (l : List ℕ). min (end - length l) count) (sym whole) ∙ ap (min (end - length (take end old))) (sym (length-replicate count gray)))
    ∙ ap (λ l. take end (old ++ l)) (sym (singles gray (below count) ∙ ap (λ n. replicate n gray) (length_below count)))
