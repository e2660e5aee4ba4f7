-- Bytes that are emitted one after another.
use Rattle.std.proofs.Common.{◌≡◌, ℕ, List, [], ◌∷◌, ◌++◌, Option, None, Some, Result, Ok, Err, refl, sym, ap, ◌∙◌, subst, arith}
use Rattle.std.proofs.lemmas.List.{append_assoc, append-nil}
use Rattle.jpg_base.specs.declared.names.Name.{Name}
use Rattle.jpg_base.specs.Desk.{DeskState, AppendsLast, append_last, Writes}
use Rattle.jpg_base.specs.declared.names.Put.TheVariants.{Done, Failed}
use Rattle.jpg_base.specs.Laws.{AppendsPart, AppendsPart-more, AppendsPart-then, AppendsLast-then, NoneFell-then}
use Rattle.jpg_base.specs.declared.stop.WriteFault.{WriteFault}
use Rattle.jpg_huff.specs.Out.{Emits, OnlyWrites}

pub append_last-nil : (outputs : List (Name × List ℕ)) → append_last outputs [] ≡ outputs
append_last-nil [] = refl
append_last-nil (o ∷ []) = ap (λ (b : List ℕ). (let q : List (Name × List ℕ) = (o.0, b) ∷ [] in q)) (append-nil o.1)
append_last-nil (o ∷ p ∷ os) = ap (λ (r : List (Name × List ℕ)). o ∷ r) (append_last-nil (p ∷ os))

-- nothing is written
pub AppendsLast-nil : (a : Option (List (Name × List ℕ))) → AppendsLast a [] a
AppendsLast-nil None = tt
AppendsLast-nil (Some a) = sym (append_last-nil a)

-- nothing is pending
pub emits_nothing : (s : DeskState) (old : List ℕ) → Emits s old [] (Ok tt) old s
emits_nothing s old = ([], AppendsLast-nil s.outputs, append-nil old)

-- a fault leaves a first part of more
pub emits_fault : (s0 s1 : DeskState) (old due more new : List ℕ) (fault : WriteFault) → Emits s0 old due (Err fault) new s1 → Emits s0 old (due ++ more) (Err fault) new s1
emits_fault s0 s1 old due more new fault h =
    ((let P : List ℕ → Type 0 = λ x. AppendsPart s0.outputs x s1.outputs in subst P (append_assoc old due more) (AppendsPart-more s0.outputs s1.outputs (old ++ due) more h.0)), h.1, h.2)

module _ (s0 s1 s2 : DeskState) where
  -- bytes, and then more
  pub emits_then : (old due mid more new : List ℕ) (r : Result (Unit {0}) WriteFault) → OnlyWrites s0 s1 → Emits s0 old due (Ok tt) mid s1
      → Emits s1 mid more r new s2 → Emits s0 old (due ++ more) r new s2
  emits_then old due mid more new (Ok u) w h k = (
    h.0 ++ k.0,
    AppendsLast-then s0.outputs s1.outputs s2.outputs h.0 k.0 h.1 k.1,
    sym (append_assoc old due more) ∙ ap (λ x. x ++ more) h.2 ∙ append_assoc h.0 mid more ∙ ap (λ x. h.0 ++ x) k.2 ∙ sym (append_assoc h.0 k.0 new),
  )
  emits_then old due mid more new (Err fault) w h k = (
    (let P : List ℕ → Type 0 = λ x. AppendsPart s0.outputs x s2.outputs in
        subst P (sym (sym (append_assoc old due more) ∙ ap (λ x. x ++ more) h.2 ∙ append_assoc h.0 mid more)) (AppendsPart-then s0.outputs s1.outputs s2.outputs h.0 (mid ++ more) h.1 k.0)),
    k.1,
    (let f = w.counts.writes in let g = k.2 in omega arith),
  )

pub OnlyWrites-then : (a b c : DeskState) → OnlyWrites a b → OnlyWrites b c → OnlyWrites a c
OnlyWrites-then a b c h k =
    record {
      counts = NoneFell-then a.counts b.counts c.counts h.counts k.counts;
      asked = k.asked ∙ h.asked;
      files = k.files ∙ h.files;
      left = k.left ∙ h.left;
      said = k.said ∙ h.said;
      input_open = k.input_open ∙ h.input_open;
      output_created = k.output_created ∙ h.output_created;
    }

-- what is written at once, where nothing waits
pub emits_written : (s0 s1 : DeskState) (piece : List ℕ) → Writes s0 piece Done s1 → Emits s0 [] piece (Ok tt) [] s1
emits_written s0 s1 piece w = (piece, w.after, sym (append-nil piece))

pub emits_unwritten : (s0 s1 : DeskState) (piece : List ℕ) (fault : WriteFault) → Writes s0 piece Failed s1 → Emits s0 [] piece (Err fault) [] s1
emits_unwritten s0 s1 piece fault w = (w.after.1, refl, w.after.0)

-- room was made, and more waits or a fault came
pub emits_more : (s0 s1 : DeskState) (old mid more new : List ℕ) → Emits s0 old [] (Ok tt) mid s1 → new ≡ mid ++ more → Emits s0 old more (Ok tt) new s1
emits_more s0 s1 old mid more new h e = (h.0, h.1, ap (λ x. x ++ more) (sym (append-nil old) ∙ h.2) ∙ append_assoc h.0 mid more ∙ ap (λ x. h.0 ++ x) (sym e))

-- nothing happened
pub OnlyWrites-same : (s : DeskState) → OnlyWrites s s
OnlyWrites-same s =
    record {
      counts = record { opens = omega arith; reads = omega arith; writes = omega arith; says = omega arith };
      asked = refl;
      files = refl;
      left = refl;
      said = refl;
      input_open = refl;
      output_created = refl;
    }
