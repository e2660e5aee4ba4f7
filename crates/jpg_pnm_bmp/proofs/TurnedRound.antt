-- A line whose pixels are reversed one after another, from the first one on.
use Rattle.std.proofs.Common.{◌≡◌, ℕ, ◌+◌, ◌-◌, ◌<◌, ◌≤◌, List, [], ◌∷◌, ◌++◌, length, take, drop, get_or, set, refl, sym, ap, ◌∙◌, arith, append_assoc}
use Rattle.std.proofs.lemmas.List.{take-append-drop, length-take-le, length-drop, length-append, set_at, take_at, drop_at, get_or_at}
use Rattle.jpg_spec_image.specs.ImageText.{turned_round}
use Rattle.jpg_pnm_bmp.specs.TurnedRound.{turned_from}

-- fewer than three bytes don't change
pub turned_few : (xs : List ℕ) → length xs < 3 → turned_round xs ≡ xs
turned_few [] h = refl
turned_few (a ∷ []) h = refl
turned_few (a ∷ b ∷ []) h = refl
turned_few (a ∷ b ∷ c ∷ xs) h = absurd (omega (arith, h))

-- the bytes at a place and two places after it exchanged
abbrev pub exchanged : List ℕ → ℕ → List ℕ
exchanged xs at = set (set xs at (get_or xs (at + 2) 0)) (at + 2) (get_or xs at 0)

farther : (front : List ℕ) (at a b : ℕ) → length front ≡ at → length (front ++ a ∷ b ∷ []) ≡ at + 2
farther front at a b long = length-append front (a ∷ b ∷ []) ∙ ap (λ n. n + 2) long

exchanged_is : (front rest : List ℕ) (at r g b : ℕ) → length front ≡ at → exchanged (front ++ r ∷ g ∷ b ∷ rest) at ≡ front ++ b ∷ g ∷ r ∷ rest
exchanged_is front rest at r g b long =
    let line : List ℕ = front ++ r ∷ g ∷ b ∷ rest in
    let red : get_or line at 0 ≡ r = get_or_at front r (g ∷ b ∷ rest) 0 at long in
    let blue : get_or line (at + 2) 0 ≡ b =
    ap (λ (xs : List ℕ). get_or xs (at + 2) 0) (sym (append_assoc front (r ∷ g ∷ []) (b ∷ rest))) ∙ get_or_at (front ++ r ∷ g ∷ []) b rest 0 (at + 2) (farther front at r g long) in
    let first : set line at b ≡ (front ++ b ∷ g ∷ []) ++ b ∷ rest = set_at front r (g ∷ b ∷ rest) b at long ∙ sym (append_assoc front (b ∷ g ∷ []) (b ∷ rest)) in
    ap (λ n. set (set line at n) (at + 2) (get_or line at 0)) blue ∙ ap (λ n. set (set line at b) (at + 2) n) red
    ∙ ap (λ xs. set xs (at + 2) r) first ∙ set_at (front ++ b ∷ g ∷ []) b rest r (at + 2) (farther front at b g long) ∙ append_assoc front (b ∷ g ∷ []) (r ∷ rest)

-- one more pixel, where what is left begins with it
pixel_more : (front xs : List ℕ) (at : ℕ) → length front ≡ at → 3 ≤ length xs → turned_from (exchanged (front ++ xs) at) (at + 3) ≡ front ++ turned_round xs
pixel_more front [] at long three = absurd (omega (arith, three))
pixel_more front (r ∷ []) at long three = absurd (omega (arith, three))
pixel_more front (r ∷ g ∷ []) at long three = absurd (omega (arith, three))
pixel_more front (r ∷ g ∷ b ∷ rest) at long three =
    let now : List ℕ = front ++ b ∷ g ∷ r ∷ [] in
    let so_long : length now ≡ at + 3 = length-append front (b ∷ g ∷ r ∷ []) ∙ ap (λ n. n + 3) long in
    let is : exchanged (front ++ r ∷ g ∷ b ∷ rest) at ≡ now ++ rest = exchanged_is front rest at r g b long ∙ sym (append_assoc front (b ∷ g ∷ r ∷ []) rest) in
    ap (λ xs. turned_from xs (at + 3)) is
    ∙ ap (λ xs. xs ++ turned_round (drop (at + 3) (now ++ rest))) (take_at now rest (at + 3) so_long)
    ∙ ap (λ xs. now ++ turned_round xs) (drop_at now rest (at + 3) so_long)
    ∙ append_assoc front (b ∷ g ∷ r ∷ []) (turned_round rest)

pub turned_more : (line due : List ℕ) (at : ℕ) → 3 ≤ length line - at → at ≤ length line → turned_from line at ≡ due → turned_from (exchanged line at) (at + 3) ≡ due
turned_more line due at three inside e =
    let some : 3 ≤ length (drop at line) = omega (arith, length-drop at line, three) in
    ap (λ xs. turned_from (exchanged xs at) (at + 3)) (sym (take-append-drop at line)) ∙ pixel_more (take at line) (drop at line) at (length-take-le at line inside) some ∙ e

-- the end of a line
pub turned_all : (line due : List ℕ) (at : ℕ) → length line - at < 3 → turned_from line at ≡ due → line ≡ due
turned_all line due at few e =
    let none : length (drop at line) < 3 = omega (arith, length-drop at line, few) in
    sym (take-append-drop at line) ∙ ap (λ xs. take at line ++ xs) (sym (turned_few (drop at line) none)) ∙ e
