-- Sequences of a desk's steps.
use Rattle.std.specs.Prelude.{◌≡◌, ℕ, ◌+◌, List, [], ◌∷◌, ◌++◌, length, take, Option, None, Some}
use Rattle.std.proofs.Common.{ap, sym, ◌∙◌, append_assoc, arith, subst, min}
use Rattle.std.proofs.lemmas.List.{take_min, take-append-le}
use Rattle.std.proofs.Math.Seq.{take-append-add}
use Rattle.std.specs.Io.KnownBytes.{Consumes}
use Rattle.jpg_base.specs.declared.names.Name.{Name}
use Rattle.jpg_base.specs.declared.names.Put.{Put}
use Rattle.jpg_base.specs.declared.names.Counts.{Counts}
use Rattle.jpg_base.specs.Desk.{NotesName, NoneFell, AppendsLast, append_last, append_last-twice, append_last-push, AddsOutput}

pub NoneFell-then : (a b c : Counts) → NoneFell a b → NoneFell b c → NoneFell a c
NoneFell-then a b c h k = record { opens = omega arith; reads = omega arith; writes = omega arith; says = omega arith }

-- bytes are taken, and then more
pub Consumes-then : (a b c : Option (List ℕ)) (xs ys : List ℕ) → Consumes a b xs → Consumes b c ys → Consumes a c (xs ++ ys)
Consumes-then None b c xs ys h k = tt
Consumes-then (Some a) None c xs ys h k = absurd h
Consumes-then (Some a) (Some b) None xs ys h k = absurd k
Consumes-then (Some a) (Some b) (Some c) xs ys h k = h ∙ ap (λ r. xs ++ r) k ∙ sym (append_assoc xs ys c)

-- these names were recorded, or names aren't recorded any more
abbrev pub NotesNames : Option (List (Name × Put)) → List (Name × Put) → Option (List (Name × Put)) → Type 0
NotesNames old entries None = Unit {0}
NotesNames None entries (Some new) = ⊥
NotesNames (Some old) entries (Some new) = new ≡ old ++ entries

pub NotesNames-then : (a b c : Option (List (Name × Put))) (xs : List (Name × Put)) (entry : Name × Put) → NotesNames a xs b → NotesName b entry c → NotesNames a (xs ++ entry ∷ []) c
NotesNames-then a b None xs entry h k = tt
NotesNames-then a None (Some c) xs entry h k = absurd k
NotesNames-then None (Some b) (Some c) xs entry h k = absurd h
NotesNames-then (Some a) (Some b) (Some c) xs entry h k = k ∙ ap (λ r. r ++ entry ∷ []) h ∙ append_assoc a xs (entry ∷ [])

-- the last output gains bytes, and then more
pub AppendsLast-then : (a b c : Option (List (Name × List ℕ))) (xs ys : List ℕ) → AppendsLast a xs b → AppendsLast b ys c → AppendsLast a (xs ++ ys) c
AppendsLast-then None b c xs ys h k = tt
AppendsLast-then (Some a) None c xs ys h k = absurd h
AppendsLast-then (Some a) (Some b) None xs ys h k = absurd k
AppendsLast-then (Some a) (Some b) (Some c) xs ys h k = k ∙ ap (λ o. append_last o ys) h ∙ append_last-twice a xs ys

-- outputs that are known gain a first part of the bytes
abbrev pub AppendsPart : Option (List (Name × List ℕ)) → List ℕ → Option (List (Name × List ℕ)) → Type 0
AppendsPart old bytes new = (n : ℕ) × AppendsLast old (take n bytes) new

-- a first part of more bytes
pub AppendsPart-more : (a b : Option (List (Name × List ℕ))) (xs ys : List ℕ) → AppendsPart a xs b → AppendsPart a (xs ++ ys) b
AppendsPart-more a b xs ys h =
    let e : take h.0 xs ≡ take (min h.0 (length xs)) (xs ++ ys) =
    sym (take_min h.0 xs) ∙ sym (take-append-le (min h.0 (length xs)) xs ys (omega arith)) in
    (min h.0 (length xs), (let P : List ℕ → Type 0 = λ t. AppendsLast a t b in subst P e h.1))

-- all of the first bytes, and a first part of the next
pub AppendsPart-then : (a b c : Option (List (Name × List ℕ))) (xs ys : List ℕ) → AppendsLast a xs b → AppendsPart b ys c → AppendsPart a (xs ++ ys) c
AppendsPart-then a b c xs ys h k =
    (length xs + k.0, (let P : List ℕ → Type 0 = λ t. AppendsLast a t c in subst P (sym (take-append-add xs ys k.0)) (AppendsLast-then a b c xs (take k.0 ys) h k.1)))

-- outputs that are known grew by this one
abbrev pub Grows : Option (List (Name × List ℕ)) → Name × List ℕ → Option (List (Name × List ℕ)) → Type 0
Grows None output new = Unit {0}
Grows (Some old) output None = ⊥
Grows (Some old) output (Some new) = new ≡ old ++ output ∷ []

-- an output that is created and written to
pub Grows-from : (a b c : Option (List (Name × List ℕ))) (name : Name) (bytes : List ℕ) → AddsOutput a name b → AppendsLast b bytes c → Grows a (name, bytes) c
Grows-from None b c name bytes h k = tt
Grows-from (Some a) None c name bytes h k = absurd h
Grows-from (Some a) (Some b) None name bytes h k = absurd k
Grows-from (Some a) (Some b) (Some c) name bytes h k = k ∙ ap (λ o. append_last o bytes) h ∙ append_last-push a name [] bytes
