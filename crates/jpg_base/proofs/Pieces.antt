-- Pieces of lists that a desk in memory copies.
use Rattle.std.proofs.Common.{◌≡◌, ℕ, ◌+◌, ◌-◌, ◌<◌, ◌≤◌, List, [], ◌∷◌, ◌++◌, length, map, take, drop, get_or, set, min, Option, None, Some, refl, sym, add-one, ap, ◌∙◌, arith, Vec}
use Rattle.std.specs.declared.alloc.Global.{Global}
use Rattle.std.proofs.lemmas.List.{take-append-drop, take_at, drop-drop, length-take-le, map-append, take_all, set_at, take_more}
use Rattle.jpg_base.specs.declared.names.Put.{Put}
use Rattle.jpg_base.specs.declared.names.Put.TheVariants.{Done, Failed}
use Rattle.jpg_base.specs.declared.names.Got.TheVariants as got
use Rattle.jpg_base.specs.declared.memory.Stored.{Stored}
use Rattle.jpg_base.specs.declared.memory.Part.{Part}
use Rattle.jpg_base.specs.Desk.{AfterAppend, AfterAppendLast, append_last, append_last-push}
use Rattle.jpg_base.specs.Input.{given}
use Rattle.jpg_base.specs.Memory.{named, appended_length, FailsWith}

-- the bytes that were copied to the beginning of a buffer, and those that are left after them
pub given_front : (bytes copied buf : List ℕ) (at most : ℕ) → copied ≡ take most (drop at bytes) → most ≤ length (drop at bytes) → drop at bytes ≡ take most (copied ++ drop most buf) ++ drop (at + most) bytes
given_front bytes copied buf at most e le =
    let len : length copied ≡ most = ap length e ∙ length-take-le most (drop at bytes) le in
    sym (take-append-drop most (drop at bytes))
    ∙ ap (λ x. x ++ drop most (drop at bytes)) (sym e ∙ sym (take_at copied (drop most buf) most len))
    ∙ ap (λ x. take most (copied ++ drop most buf) ++ x) (drop-drop most at bytes)

-- a read where bytes are left, and where none are
pub given_some : (most : ℕ) (rest : List ℕ) → 0 < length rest → given most rest ≡ got.Bytes (min most (length rest))
given_some most [] h = absurd (omega (arith, h))
given_some most (byte ∷ rest) h = ap (λ n. got.Bytes (min most n)) (add-one (length rest))

pub given_end : (most : ℕ) (rest : List ℕ) → length rest ≡ 0 → given most rest ≡ got.End
given_end most [] h = refl
given_end most (byte ∷ rest) h = absurd (omega (arith, h))

-- a list that is not empty is a prefix and its last element
front_and_last : {A : Type 0} (xs : List A) (d : A) → 0 < length xs → xs ≡ take (length xs - 1) xs ++ get_or xs (length xs - 1) d ∷ []
front_and_last xs d h =
    sym (take_all (length xs - 1 + 1) xs (omega arith)) ∙ take_more xs (length xs - 1) d (omega arith)

-- a longer last entry
appended_last : (xs : List Stored) (s : Stored) (piece : List ℕ) (bytes : Vec ℕ Global) → 0 < length xs → s ≡ get_or xs (length xs - 1) s → bytes.items ≡ s.bytes.items ++ piece
    → map named (set xs (length xs - 1) (record { name = s.name; bytes = bytes })) ≡ append_last (map named xs) piece
appended_last xs s piece bytes h is e =
    let r : Stored = record { name = s.name; bytes = bytes } in
    let front = take (length xs - 1) xs in
    let len : length front ≡ length xs - 1 = length-take-le (length xs - 1) xs (omega arith) in
    let whole : xs ≡ front ++ s ∷ [] = front_and_last xs s h ∙ ap (λ y. front ++ y ∷ []) (sym is) in
    let now : set xs (length xs - 1) r ≡ front ++ r ∷ [] = ap (λ ys. set ys (length xs - 1) r) whole ∙ set_at front s [] r (length xs - 1) len in
    ap (map named) now ∙ map-append named front (r ∷ []) ∙ ap (λ b. map named front ++ (s.name, b) ∷ []) e
    ∙ sym (ap (λ ys. append_last ys piece) (ap (map named) whole ∙ map-append named front (s ∷ [])) ∙ append_last-push (map named front) s.name s.bytes.items piece)

appends_last : (xs : List Stored) (s : Stored) (piece : List ℕ) (answer : Put) (bytes : Vec ℕ Global) → 0 < length xs → s ≡ get_or xs (length xs - 1) s → AfterAppend s.bytes.items piece answer bytes.items
    → AfterAppendLast (map named xs) piece answer (map named (set xs (length xs - 1) (record { name = s.name; bytes = bytes })))
appends_last xs s piece Done bytes h is e = appended_last xs s piece bytes h is e
appends_last xs s piece Failed bytes h is e = (e.0, appended_last xs s (take e.0 piece) bytes h is e.1)

-- the same at a place that is the last one
pub appends_at : (xs : List Stored) (last : ℕ) (s : Stored) (piece : List ℕ) (answer : Put) (bytes : Vec ℕ Global) → last ≡ length xs - 1 → 0 < length xs → s ≡ get_or xs last s → AfterAppend s.bytes.items piece answer bytes.items
    → AfterAppendLast (map named xs) piece answer (map named (set xs last (record { name = s.name; bytes = bytes })))
appends_at xs last s piece answer bytes e h is a =
    rw e (appends_last xs s piece answer bytes h (is ∙ ap (λ n. get_or xs n s) e) a)

fails_last : (xs : List Stored) (s : Stored) (piece : List ℕ) (failure : Option Part) (answer : Put) (bytes : Vec ℕ Global) → 0 < length xs → s ≡ get_or xs (length xs - 1) s → FailsWith failure piece answer (λ part. bytes.items ≡ s.bytes.items ++ part)
    → FailsWith failure piece answer (λ part. map named (set xs (length xs - 1) (record { name = s.name; bytes = bytes })) ≡ append_last (map named xs) part)
fails_last xs s piece None answer bytes h is f = tt
fails_last xs s piece (Some part) answer bytes h is f =
    (f.0, (f.1.0, appended_last xs s (take (appended_length f.1.0 part (length piece)) piece) bytes h is f.1.1))

-- the same of a call that fails
pub fails_at : (xs : List Stored) (last : ℕ) (s : Stored) (piece : List ℕ) (failure : Option Part) (answer : Put) (bytes : Vec ℕ Global) → last ≡ length xs - 1 → 0 < length xs → s ≡ get_or xs last s → FailsWith failure piece answer (λ part. bytes.items ≡ s.bytes.items ++ part)
    → FailsWith failure piece answer (λ part. map named (set xs last (record { name = s.name; bytes = bytes })) ≡ append_last (map named xs) part)
fails_at xs last s piece failure answer bytes e h is f =
    rw e (fails_last xs s piece failure answer bytes h (is ∙ ap (λ n. get_or xs n s) e) f)
