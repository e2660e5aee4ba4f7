-- Bytes have at most one result, and after those that have a fault, or are at EOI, there is none.
use Rattle.std.proofs.Common.{◌≡◌, ℕ, zero, suc, ◌<◌, List, [], ◌∷◌, ◌++◌, length, take, refl, sym, ap, ◌∙◌, subst, arith, Some, None}
use Rattle.std.proofs.Math.Seq.{take_all}
use Rattle.jpg_spec.specs.Faults.{number_of}
use Rattle.jpg_spec.specs.Markers.{Rule, SegmentsReveal, Reached, at_eoi, at_fault, Reaches, IsLeast}
use Rattle.jpg_spec.specs.declared.fault.Fault.{Fault}
use Rattle.jpg_spec.proofs.Segments.ReadBytes.{State, starts, stopped, ended, behind, next, read, called, read_both, read_after, read_fault, read_eoi, reads}
use Rattle.jpg_spec.proofs.Basics.Common.{some_once}

no_some : {X : Type 0} (x : X) → None ≡ Some x → ⊥
no_some x e = cc

-- THE LAW: bytes have at most one result
pub reached_once : (rule : Rule) (bytes : List ℕ) (x y : Reached) → Reaches rule bytes x → Reaches rule bytes y → x ≡ y
reached_once rule bytes x y s t = some_once x y (sym (reads rule bytes x s) ∙ reads rule bytes y t)

same_fault : (f g : Fault) → at_fault f ≡ at_fault g → f ≡ g
same_fault f g e = cc

pub fault_once : (rule : Rule) (bytes : List ℕ) (f g : Fault) → SegmentsReveal rule f bytes → SegmentsReveal rule g bytes → f ≡ g
fault_once rule bytes f g s t = same_fault f g (reached_once rule bytes (at_fault f) (at_fault g) s t)

-- after bytes that no byte continues there is no result
nothing_after : (rule : Rule) (front rest : List ℕ) (b : ℕ) (x : Reached) (s : State) → read rule starts front ≡ s → next rule s b ≡ behind → Reaches rule (front ++ b ∷ rest) x → ⊥
nothing_after rule front rest b x s e n r =
    let h : read rule starts (front ++ b ∷ rest) ≡ behind =
    read_both rule starts front (b ∷ rest) ∙ ap (λ t. read rule (next rule t b) rest) e ∙ ap (λ t. read rule t rest) n ∙ read_after rule rest in
    no_some x (sym (ap called h) ∙ reads rule (front ++ b ∷ rest) x r)

-- THE LAW: a fault is first revealed by the bytes that have it as result, and after them there is no result
pub shown_first : (rule : Rule) (front rest : List ℕ) (b : ℕ) (x : Reached) (f : Fault) → Reaches rule (front ++ b ∷ rest) x → Reaches rule front (at_fault f) → ⊥
shown_first rule front rest b x f r s = nothing_after rule front rest b x (stopped f) (read_fault rule front f s) refl r

-- and nothing after EOI
pub ended_first : (rule : Rule) (front rest : List ℕ) (b : ℕ) (x : Reached) → Reaches rule (front ++ b ∷ rest) x → Reaches rule front at_eoi → ⊥
ended_first rule front rest b x r s = nothing_after rule front rest b x ended (read_eoi rule front s) refl r

-- a prefix of fewer bytes
cut_at : {X : Type 0} (xs : List X) (n : ℕ) → n < length xs → (b : X) × (rest : List X) × (xs ≡ take n xs ++ b ∷ rest)
cut_at [] n h = absurd (omega (arith, h))
cut_at (x ∷ xs) zero h = (x, xs, refl)
cut_at (x ∷ xs) (suc n) h = let r = cut_at xs n (omega (arith, h)) in (r.0, r.1, ap (λ l. x ∷ l) r.2)

-- no shorter prefix of bytes that have a result has a fault
pub fronts_clean : (rule : Rule) (bytes : List ℕ) (x : Reached) (f : Fault) (n : ℕ) → Reaches rule bytes x → n < length bytes → SegmentsReveal rule f (take n bytes) → ⊥
fronts_clean rule bytes x f n r h s =
    let c = cut_at bytes n h in
    shown_first rule (take n bytes) c.1 c.0 x f (subst (λ l. Reaches rule l x) c.2 r) s

-- what reveals a fault is the shortest prefix that has one, and has no other
pub least : (rule : Rule) (bytes : List ℕ) (f : Fault) → SegmentsReveal rule f bytes → IsLeast (SegmentsReveal rule) bytes f (length bytes)
least rule bytes f s =
    let all : take (length bytes) bytes ≡ bytes = take_all (length bytes) bytes (omega arith) in (
      omega arith,
      subst (λ l. SegmentsReveal rule f l) (sym all) s,
      λ other m h t. fronts_clean rule bytes (at_fault f) other m s h t,
      λ other h t. (let e = ap number_of (fault_once rule bytes other f (subst (λ l. SegmentsReveal rule other l) all t) s) in let z : ⊥ = omega (arith, e, h) in z),
    )
