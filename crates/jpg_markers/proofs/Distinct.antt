-- The distinct ones of tables, one table after another.
use Rattle.std.proofs.Common.{◌≡◌, ℕ, suc, ◌+◌, ◌<◌, Bool, true, false, List, [], ◌∷◌, ◌++◌, length, drop, get_or, refl, sym, ap, ◌∙◌, add-one}
use Rattle.std.specs.Prelude.{◌||◌, if◌then◌else◌, reverse}
use Rattle.std.proofs.Math.Seq.{drop-cons}
use Rattle.std.proofs.lemmas.List.{append_assoc, append-nil, reverse-append}
use Rattle.jpg_spec.specs.Lists.{any_of, are_equal}
use Rattle.jpg_spec_write.specs.FileText.{distinct_after}
use Rattle.jpg_spec.specs.Segments.{QuantTable}
use Rattle.jpg_spec.proofs.Basics.Common.{any_append}

-- those that are left: one, and the remaining ones
pub left_at : {X : Type 0} (xs : List X) (i : ℕ) (x : X) → i < length xs → x ≡ get_or xs i x → drop i xs ≡ x ∷ drop (i + 1) xs
left_at xs i x h e = drop-cons xs i x h ∙ ap (λ y. y ∷ drop (suc i) xs) (sym e) ∙ ap (λ n. x ∷ drop n xs) (sym (add-one i))

or_last : (a b : Bool) → (a || (b || false)) ≡ (b || a)
or_last true true = refl
or_last true false = refl
or_last false true = refl
or_last false false = refl

any_of-reverse : {X : Type 0} (f : X → Bool) (xs : List X) → any_of f (reverse xs) ≡ any_of f xs
any_of-reverse f [] = refl
any_of-reverse f (x ∷ xs) =
    ap (any_of f) (reverse-append (x ∷ []) xs) ∙ any_append f (reverse xs) (x ∷ []) ∙ or_last (any_of f (reverse xs)) (f x) ∙ ap (λ b. f x || b) (any_of-reverse f xs)

-- a further table, which is among those seen or isn't
step_by : (seen : Bool) (distinct rest news all : List QuantTable) (t : QuantTable) → any_of (are_equal t) distinct ≡ seen → news ≡ distinct ++ (if seen then [] else t ∷ [])
    → distinct ++ distinct_after (reverse distinct) (t ∷ rest) ≡ all → news ++ distinct_after (reverse news) rest ≡ all
step_by true distinct rest news all t is new e =
    let same : news ≡ distinct = new ∙ append-nil distinct in
    let known : any_of (are_equal t) (reverse distinct) ≡ true = any_of-reverse (are_equal t) distinct ∙ is in
    ap (λ (xs : List QuantTable). xs ++ distinct_after (reverse xs) rest) same
    ∙ ap (λ (b : Bool). distinct ++ (if b then distinct_after (reverse distinct) rest else t ∷ distinct_after (t ∷ reverse distinct) rest)) (sym known) ∙ e
step_by false distinct rest news all t is new e =
    let known : any_of (are_equal t) (reverse distinct) ≡ false = any_of-reverse (are_equal t) distinct ∙ is in
    let order : reverse news ≡ t ∷ reverse distinct = ap (λ (xs : List QuantTable). reverse xs) new ∙ reverse-append distinct (t ∷ []) in
    ap (λ (xs : List QuantTable). news ++ distinct_after xs rest) order
    ∙ ap (λ (xs : List QuantTable). xs ++ distinct_after (t ∷ reverse distinct) rest) new
    ∙ append_assoc distinct (t ∷ []) (distinct_after (t ∷ reverse distinct) rest)
    ∙ ap (λ (b : Bool). distinct ++ (if b then distinct_after (reverse distinct) rest else t ∷ distinct_after (t ∷ reverse distinct) rest)) (sym known) ∙ e

pub distinct_step : (distinct tables news all : List QuantTable) (i : ℕ) (t : QuantTable) → i < length tables → t ≡ get_or tables i t → news ≡ distinct ++ (if any_of (are_equal t) distinct then [] else t ∷ [])
    → distinct ++ distinct_after (reverse distinct) (drop i tables) ≡ all → news ++ distinct_after (reverse news) (drop (i + 1) tables) ≡ all
distinct_step distinct tables news all i t h at new e =
    step_by (any_of (are_equal t) distinct) distinct (drop (i + 1) tables) news all t refl new
    (ap (λ (xs : List QuantTable). distinct ++ distinct_after (reverse distinct) xs) (sym (left_at tables i t h at)) ∙ e)
