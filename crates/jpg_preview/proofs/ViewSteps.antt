-- WHERE THE FRONT ENDS, and a fault of the bytes.
use Rattle.std.proofs.Common.{◌≡◌, ℕ, zero, suc, ◌<◌, ◌≤◌, List, [], ◌∷◌, ◌++◌, length, take, sym, ap, ◌∙◌, subst, arith, inl, inr}
use Rattle.std.specs.Prelude.{◌⊎◌, replicate}
use Rattle.std.proofs.Math.Seq.{take_all}
use Rattle.std.proofs.lemmas.List.{append_assoc, append-nil, length-append, take-append-le}
use Rattle.std.proofs.lemmas.Bool.{cases_lt}
use Rattle.jpg_spec.specs.Markers.{SpellsMarker}
use Rattle.jpg_spec.specs.FirstFault.{IsFirstFault}
use Rattle.jpg_spec.specs.declared.fault.Fault.{Fault}
use Rattle.jpg_spec.specs.declared.fault.FaultAt.{FaultAt}
use Rattle.jpg_spec.specs.declared.frame.Limits.{Limits}
use Rattle.jpg_spec.proofs.Segments.MarkersOnce.{no_head}
use Rattle.jpg_spec_image.specs.Front.{BeginsWith, EndsNotBefore, EndsScan, IsFront}
use Rattle.jpg_spec_image.proofs.Fronts.{fault_inside}
use Rattle.jpg_file.specs.Read.ReadFile.{IsStopOf}
use Rattle.jpg_preview.specs.Viewing.{StopsFront}

-- FIRST BYTES

pub take_front : (a x : List ℕ) (m : ℕ) → m ≤ length a → take m (a ++ x) ≡ take m a
take_front a x m low = take-append-le m a x low

-- no front ends among the first bytes, with bytes after these or without
pub none_of_front : (limits : Limits) (scans : ℕ) (a x : List ℕ) (n : ℕ) → n ≤ suc (length a) → EndsNotBefore limits scans a n → EndsNotBefore limits scans (a ++ x) n
none_of_front limits scans a x n low none = λ m less e. none m less (subst (EndsScan limits scans) (take_front a x m (omega (arith, less, low))) e)

pub none_of_part : (limits : Limits) (scans : ℕ) (a x : List ℕ) (n : ℕ) → n ≤ suc (length a) → EndsNotBefore limits scans (a ++ x) n → EndsNotBefore limits scans a n
none_of_part limits scans a x n low none = λ m less e. none m less (subst (EndsScan limits scans) (sym (take_front a x m (omega (arith, less, low)))) e)

pub fewer_none : (limits : Limits) (scans : ℕ) (a : List ℕ) (m n : ℕ) → m ≤ n → EndsNotBefore limits scans a n → EndsNotBefore limits scans a m
fewer_none limits scans a m n low none = λ k less e. none k (omega (arith, less, low)) e

-- A FAULT of the bytes is that of their front, whatever follows

pub fault_place : (limits : Limits) (bytes : List ℕ) (f : Fault) (n : ℕ) → IsFirstFault limits bytes f n → (n ≤ length bytes) × (n ≤ limits.input)
fault_place limits bytes f n (inl k) = (k.1.0, k.0)
fault_place limits bytes f n (inr (inl k)) = (let at = k.1 in let long = k.2 in (omega (arith, at, long), omega (arith, at)))
fault_place limits bytes f n (inr (inr k)) = (let at = k.1 in let short = k.2 in (omega (arith, at), omega (arith, at, short)))

pub stop_place : (limits : Limits) (bytes : List ℕ) (f : FaultAt) → IsStopOf limits bytes f → (f.at ≤ length bytes) × (f.at ≤ limits.input)
stop_place limits bytes f s = fault_place limits bytes f.fault f.at (subst (λ l. IsFirstFault limits l f.fault f.at) (append-nil bytes) (s []))

pub stops_front : (limits : Limits) (scans : ℕ) (bytes : List ℕ) (f : FaultAt) → IsStopOf limits bytes f → EndsNotBefore limits scans bytes f.at → StopsFront limits scans bytes f
stops_front limits scans bytes f s none = λ rest front w. by rest front w
  where
    within : f.at ≤ length bytes
    within = (stop_place limits bytes f s).0

    inside : (rest front : List ℕ) (w : BeginsWith limits scans (bytes ++ rest) front) → f.at ≤ length front → IsFirstFault limits front f.fault f.at
    inside rest front w low =
        let more : List ℕ = 0 ∷ [] in
        let long = length-append (bytes ++ rest) more in
        let long2 = length-append bytes rest in
        fault_inside limits ((bytes ++ rest) ++ more) front (w.rest ++ more) f.fault f.at (ap (λ l. l ++ more) w.cut ∙ append_assoc front w.rest more) low
        (λ e at. (let z : ⊥ = omega (arith, at, long, long2, within) in z))
        (subst (λ l. IsFirstFault limits l f.fault f.at) (sym (append_assoc bytes rest more)) (s (rest ++ more)))

    ends_there : (rest front : List ℕ) (w : BeginsWith limits scans (bytes ++ rest) front) → length front < f.at → ⊥
    ends_there rest front w less =
        none (length front) less
        (subst (EndsScan limits scans)
        (sym (sym (take_front bytes rest (length front) (omega (arith, less, within))) ∙ ap (take (length front)) w.cut ∙ take_front front w.rest (length front) (omega arith) ∙ take_all (length front) front (omega arith)))
        w.ends)

    begins : (rest front : List ℕ) (w : BeginsWith limits scans (bytes ++ rest) front) → (length front < f.at) ⊎ (f.at ≤ length front) → IsFirstFault limits front f.fault f.at
    begins rest front w (inl less) = absurd (ends_there rest front w less)
    begins rest front w (inr low) = inside rest front w low

    by : (rest front : List ℕ) → IsFront limits scans (bytes ++ rest) front → IsFirstFault limits front f.fault f.at
    by rest front (inl w) = begins rest front w (cases_lt (length front) f.at)
    by rest front (inr w) = subst (λ l. IsFirstFault limits l f.fault f.at) (sym w.0) (s rest)

-- BEFORE ANY BYTE none ends
pub none_empty : (limits : Limits) (scans : ℕ) → EndsNotBefore limits scans [] 1
none_empty limits scans = λ m less e. by m e
  where
    nothing : (front marker : List ℕ) (code : ℕ) → [] ≡ front ++ marker → SpellsMarker code marker → ⊥
    nothing [] marker code k m = no_head 255 (replicate m.0 255 ++ code ∷ []) (k ∙ m.1)
    nothing (x ∷ front) marker code k m = no_head x (front ++ marker) k

    empty : EndsScan limits scans [] → ⊥
    empty e = nothing (e.behind).front e.marker e.code (e.behind).cut e.spelled

    by : (m : ℕ) → EndsScan limits scans (take m []) → ⊥
    by zero e = empty e
    by (suc m) e = empty e
