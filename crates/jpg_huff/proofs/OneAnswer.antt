-- At the same bits of a table a walk has one right answer.
use Rattle.std.proofs.Common.{◌≡◌, ℕ, Bool, List, [], ◌∷◌, length, refl, sym, ap, ◌∙◌, arith}
use Rattle.std.specs.Prelude.{Contains}
use Rattle.std.proofs.lemmas.List.{append-nil, length-append}
use Rattle.jpg_spec.specs.Codes.{Code}
use Rattle.jpg_huff.specs.declared.walk.WalkStep.{WalkStep}
use Rattle.jpg_huff.specs.declared.walk.WalkStep.TheVariants.{More, Symbol, NoCode}
use Rattle.jpg_spec.specs.Parts.{BeginsCode}
use Rattle.jpg_huff.specs.Walk.{BeginsNoCode}
use Rattle.jpg_huff.specs.Walk.{WalkAnswers}
use Rattle.jpg_huff.specs.Laws.{AreApart}

-- no code is a prefix of another
no_front : (table : List Code) (bits : List Bool) (s : ℕ) → AreApart table → BeginsCode table bits → Contains table (bits, s) → ⊥
no_front table bits s apart b c =
    let e = apart b.0 (bits, s) [] (b.1 ∷ b.2) b.3 c (append-nil b.0.0 ∙ b.4) in
    let l : length b.0.0 ≡ length bits = ap (λ (k : Code). length k.0) e in
    let m = ap length b.4 ∙ length-append bits (b.1 ∷ b.2) in
    omega arith

begun : (table : List Code) (bits : List Bool) → BeginsCode table bits → BeginsNoCode table bits → ⊥
begun table bits b n = n b.0 (b.1 ∷ b.2) b.3 b.4

whole : (table : List Code) (bits : List Bool) (s : ℕ) → Contains table (bits, s) → BeginsNoCode table bits → ⊥
whole table bits s c n = n (bits, s) [] c (sym (append-nil bits))

pub one_answer : (table : List Code) (bits new new' : List Bool) (step step' : WalkStep) → AreApart table → WalkAnswers table bits step new → WalkAnswers table bits step' new' → step ≡ step'
one_answer table bits new new' More More apart a b = refl
one_answer table bits new new' More (Symbol s) apart a b = absurd (no_front table bits s apart a.0 b.0)
one_answer table bits new new' More NoCode apart a b = absurd (begun table bits a.0 b.0)
one_answer table bits new new' (Symbol s) More apart a b = absurd (no_front table bits s apart b.0 a.0)
one_answer table bits new new' (Symbol s) (Symbol s') apart a b =
    let e = apart (bits, s) (bits, s') [] [] a.0 b.0 refl in
    ap (λ (k : Code). (let step : WalkStep = Symbol k.1 in step)) e
one_answer table bits new new' (Symbol s) NoCode apart a b = absurd (whole table bits s a.0 b.0)
one_answer table bits new new' NoCode More apart a b = absurd (begun table bits b.0 a.0)
one_answer table bits new new' NoCode (Symbol s) apart a b = absurd (whole table bits s b.0 a.0)
one_answer table bits new new' NoCode NoCode apart a b = refl
