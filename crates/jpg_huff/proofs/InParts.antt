-- Loops that put bits or send bytes part by part.
use Rattle.std.proofs.Common.{◌≡◌, List, [], ◌++◌, Result, Ok, Err, sym, ap, ◌∙◌, subst}
use Rattle.std.proofs.lemmas.List.{append_assoc, append-nil}
use Rattle.jpg_base.specs.Desk.{DeskState}
use Rattle.jpg_base.specs.declared.stop.WriteFault.{WriteFault}
use Rattle.jpg_huff.specs.Waiting.{Waiting}
use Rattle.jpg_huff.specs.BitOut.{Puts, Sends}
use Rattle.jpg_huff.proofs.Together.{puts_then, puts_fault, sends_then, sends_fault}

-- the effect of a call on a list that is pending
abbrev pub Effect : Type 0 → Type 1
Effect A = DeskState → Waiting → List A → Result (Unit {0}) WriteFault → Waiting → DeskState → Type 0

-- such calls one after another have that effect on all that is pending, and a fault comes before all the rest
pub record Follows {A : Type 0} (R : Effect A) : Type 0 where
  pub next : (s0 s1 s2 : DeskState) (old mid new : Waiting) (xs ys : List A) (r : Result (Unit {0}) WriteFault) → R s0 old xs (Ok tt) mid s1 → R s1 mid ys r new s2 → R s0 old (xs ++ ys) r new s2
  pub fault : (s0 s1 : DeskState) (old new : Waiting) (xs ys : List A) (f : WriteFault) → R s0 old xs (Err f) new s1 → R s0 old (xs ++ ys) (Err f) new s1

pub of_bits : Follows Puts
of_bits = record { next = puts_then; fault = puts_fault }

pub of_bytes : Follows Sends
of_bytes = record { next = sends_then; fault = sends_fault }

-- it was done with a first part, but not with the rest
pub record DoneButFor {A : Type 0} (R : Effect A) (s0 : DeskState) (old : Waiting) (all rest : List A) (new : Waiting) (s1 : DeskState) : Type 0 where
  pub front : List A
  pub joined : front ++ rest ≡ all
  pub done : R s0 old front (Ok tt) new s1

module _ {A : Type 0} (R : Effect A) where
  pub part_start : (s : DeskState) (old : Waiting) (all rest : List A) → R s old [] (Ok tt) old s → rest ≡ all → DoneButFor R s old all rest old s
  part_start s old all rest nothing e = record { front = []; joined = e; done = nothing }

  -- the same is left in another way
  pub part_same : (s0 s1 : DeskState) (old new : Waiting) (all rest left : List A) → rest ≡ left → DoneButFor R s0 old all rest new s1
      → DoneButFor R s0 old all left new s1
  part_same s0 s1 old new all rest left e h = subst (λ r. DoneButFor R s0 old all r new s1) e h

  pub part_end : (s0 s1 : DeskState) (old new : Waiting) (all rest : List A) → rest ≡ [] → DoneButFor R s0 old all rest new s1 → R s0 old all (Ok tt) new s1
  part_end s0 s1 old new all rest e h = subst (λ x. R s0 old x (Ok tt) new s1) (sym (append-nil h.front) ∙ ap (λ x. h.front ++ x) (sym e) ∙ h.joined) h.done

-- ONE MORE CALL, after the desk s1
module _ {A : Type 0} (R : Effect A) (f : Follows R) (s0 s1 s2 : DeskState) where
  pub part_then : (old mid new : Waiting) (all rest piece left : List A) → rest ≡ piece ++ left → DoneButFor R s0 old all rest mid s1
      → R s1 mid piece (Ok tt) new s2 → DoneButFor R s0 old all left new s2
  part_then old mid new all rest piece left e h k = record {
    front = h.front ++ piece;
    joined = append_assoc h.front piece left ∙ ap (λ x. h.front ++ x) (sym e) ∙ h.joined;
    done = f.next s0 s1 s2 old mid new h.front piece (Ok tt) h.done k;
  }

  -- it is done with the last ones
  pub part_last : (old mid new : Waiting) (all rest piece : List A) (r : Result (Unit {0}) WriteFault) → rest ≡ piece → DoneButFor R s0 old all rest mid s1
      → R s1 mid piece r new s2 → R s0 old all r new s2
  part_last old mid new all rest piece r e h k =
      subst (λ x. R s0 old x r new s2) (ap (λ x. h.front ++ x) (sym e) ∙ h.joined)
      (f.next s0 s1 s2 old mid new h.front piece r h.done k)

  -- a fault came with some of those that are left
  pub part_fault : (old mid new : Waiting) (all rest piece left : List A) (fault : WriteFault) → rest ≡ piece ++ left → DoneButFor R s0 old all rest mid s1
      → R s1 mid piece (Err fault) new s2 → R s0 old all (Err fault) new s2
  part_fault old mid new all rest piece left fault e h k =
      subst (λ x. R s0 old x (Err fault) new s2) (append_assoc h.front piece left ∙ ap (λ x. h.front ++ x) (sym e) ∙ h.joined)
      (f.fault s0 s2 old new (h.front ++ piece) left fault (f.next s0 s1 s2 old mid new h.front piece (Err fault) h.done k))
