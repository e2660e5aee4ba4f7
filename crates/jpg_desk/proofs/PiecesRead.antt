-- What reading pieces does, over the states of a desk.
use Rattle.std.proofs.Common.{◌≡◌, ℕ, zero, suc, ◌+◌, ◌<◌, ◌≤◌, List, [], ◌∷◌, ◌++◌, length, take, get_or, Option, None, Some, refl, sym, ◌∙◌, subst, arith}
use Rattle.std.specs.List.{All}
use Rattle.std.proofs.lemmas.List.Elements.{All-append}
use Rattle.std.proofs.lemmas.List.{length-append, length-take}
use Rattle.std.specs.Io.KnownBytes.{Consumes}
use Rattle.jpg_base.specs.declared.names.Name.{Name}
use Rattle.jpg_base.specs.Desk.{DeskState, AppendsLast}
use Rattle.jpg_base.specs.Laws.{NoneFell-then}
use Rattle.jpg_spec.specs.Segments.{standard_limits}
use Rattle.jpg_desk.specs.Stays.{OnlyCopies, OnlyReads, OnlyWorks}

-- A PIECE

pub none_read : (left : Option (List ℕ)) → Consumes left left []
none_read None = tt
none_read (Some left) = refl

pub outputs_still : (s0 s1 : DeskState) (text : List ℕ) (start : DeskState) → s1.outputs ≡ s0.outputs → AppendsLast start.outputs text s0.outputs → AppendsLast start.outputs text s1.outputs
outputs_still s0 s1 text start e h = let P : Option (List (Name × List ℕ)) → Type 0 = λ o. AppendsLast start.outputs text o in subst P (sym e) h

pub left_still : (s0 s1 : DeskState) (bytes : List ℕ) (start : DeskState) → s1.left ≡ s0.left → Consumes start.left s0.left bytes → Consumes start.left s1.left bytes
left_still s0 s1 bytes start e h = let P : Option (List ℕ) → Type 0 = λ o. Consumes start.left o bytes in subst P (sym e) h

pub some_taken : (n : ℕ) (buf : List ℕ) → 1 ≤ n → n ≤ length buf → 0 < length (take n buf)
some_taken n buf some within = omega (arith, some, within, length-take n buf)

-- a read of no more bytes than there is room for
pub within_room : (bytes buf : List ℕ) (n room most : ℕ) → room + length bytes ≡ most → length bytes < most → (1 ≤ room → n ≤ room) → length (bytes ++ take n buf) ≤ most
within_room bytes buf n room most e short fits =
    let some : 1 ≤ room = omega (arith, e, short) in
    omega (arith, e, fits some, length-append bytes (take n buf), length-take n buf)

pub within_most : (bytes buf : List ℕ) (n room : ℕ) → room + length bytes ≡ standard_limits.input → length bytes < standard_limits.input → (1 ≤ room → n ≤ room) → length (bytes ++ take n buf) ≤ standard_limits.input
within_most bytes buf n room e short fits = within_room bytes buf n room standard_limits.input e short fits

-- all of them are bytes
bytes_small : (xs : List ℕ) → ((i : ℕ) → get_or xs i 0 < 256) → All (λ b. b < 256) xs
bytes_small [] h k d l = let f : ⊥ = omega arith in absurd f
bytes_small (x ∷ xs) h zero d l = h 0
bytes_small (x ∷ xs) h (suc k) d l = bytes_small xs (λ i. h (suc i)) k d (omega arith)

pub more_small : (bytes piece : List ℕ) → All (λ b. b < 256) bytes → ((i : ℕ) → get_or piece i 0 < 256) → All (λ b. b < 256) (bytes ++ piece)
more_small bytes piece h small = All-append (λ b. b < 256) bytes piece h (bytes_small piece small)

-- FRAMES

-- the desk as it would be if these bytes left and these outputs were known
abbrev pub had_told : Option (List ℕ) → Option (List (Name × List ℕ)) → DeskState → DeskState
had_told left outputs s = record s { left = left; outputs = outputs }

pub copies_told : (left : Option (List ℕ)) (outputs : Option (List (Name × List ℕ))) (s : DeskState) → OnlyCopies (had_told left outputs s) s
copies_told left outputs s = record {
  works = record { stays = record { counts = record { opens = omega arith; reads = omega arith; writes = omega arith; says = omega arith }; files = refl }; said = refl };
  asked = refl;
  output_created = refl;
}

pub copies_none : (s : DeskState) → OnlyCopies s s
copies_none s = copies_told s.left s.outputs s

pub works_then : {a b c : DeskState} → OnlyWorks a b → OnlyWorks b c → OnlyWorks a c
works_then {a} {b} {c} h k = record {
  stays = record { counts = NoneFell-then a.counts b.counts c.counts h.stays.counts k.stays.counts; files = k.stays.files ∙ h.stays.files };
  said = k.said ∙ h.said;
}

pub copies_then : {a b c : DeskState} → OnlyCopies a b → OnlyCopies b c → OnlyCopies a c
copies_then h k = record {
  works = works_then h.works k.works;
  asked = k.asked ∙ h.asked;
  output_created = k.output_created ∙ h.output_created;
}

pub reads_then : {a b c : DeskState} → OnlyReads a b → OnlyReads b c → OnlyReads a c
reads_then h k = record { copies = copies_then h.copies k.copies; outputs = k.outputs ∙ h.outputs }

pub reads_none : (s : DeskState) → OnlyReads s s
reads_none s = record { copies = copies_none s; outputs = refl }
