-- If a prefix of the bytes is complete, they have no fault of marker segments, and otherwise at most one.
use Rattle.std.proofs.Common.{◌≡◌, ℕ, ◌<◌, ◌≤◌, List, length, take, sym, ◌∙◌, subst, arith, inl, inr, ◌⊎◌}
use Rattle.std.proofs.lemmas.List.{length-take-le}
use Rattle.jpg_spec.specs.Markers.{Segment, kept_rule, SegmentsReveal, IsLeast, Reached, at_frame, at_eoi, at_segment, at_fault, Reaches}
use Rattle.jpg_spec_write.specs.CommentText.{IsReadWhole, IsInsertFault, RevealsNothing, IsMarkerFault}
use Rattle.jpg_spec.specs.declared.fault.Fault.{Fault}
use Rattle.jpg_spec.specs.declared.fault.Fault.TheVariants.{Truncated, InputTooLong}
use Rattle.jpg_spec.specs.declared.frame.Limits.{Limits}
use Rattle.jpg_spec.proofs.Segments.Reached.{reached_once, fault_once, fronts_clean}
use Rattle.jpg_spec.proofs.Basics.Common.{take_shorter}
use Rattle.jpg_comments.specs.Printing.{HoldsWhole}
use Rattle.jpg_comments.specs.Inserting.{HoldsHead}
use Rattle.jpg_comments.proofs.Taken.{upto}

-- Complete bytes give a result that is no fault.
abbrev pub IsSound : Limits → (List ℕ → Type 0) → Type 0
IsSound limits is_whole = (bytes : List ℕ) → is_whole bytes → (y : Reached) × Reaches (kept_rule limits) bytes y × ((f : Fault) → y ≡ at_fault f → ⊥)

pub reading_sound : (limits : Limits) → IsSound limits (HoldsWhole limits)
reading_sound limits = λ bytes w. by bytes w.0 w.1
  where
    by : (bytes : List ℕ) (before : List Segment) → IsReadWhole limits bytes before → (y : Reached) × Reaches (kept_rule limits) bytes y × ((f : Fault) → y ≡ at_fault f → ⊥)
    by bytes before (inl h) = (at_segment (0xda, h.0), (before, h.1, h.2), λ f e. (let z : ⊥ = cc in z))
    by bytes before (inr h) = (at_eoi, (before, h.0, h.1, h.2, h.3), λ f e. (let z : ⊥ = cc in z))

pub heads_sound : (limits : Limits) → IsSound limits (HoldsHead limits)
heads_sound limits = λ bytes w. (at_frame, (w.1.0, w.1.1.0, w.1.1.1, (w.0, w.1.1.2, w.1.1.3)), λ f e. (let z : ⊥ = cc in z))

-- A COMPLETE PREFIX

-- complete bytes have no fault, nor does a prefix of them
no_front_reveals : (limits : Limits) (is_whole : List ℕ → Type 0) → IsSound limits is_whole → (bytes : List ℕ) (n m : ℕ) (f : Fault) → m ≤ n → n ≤ length bytes → is_whole (take n bytes) → SegmentsReveal (kept_rule limits) f (take m bytes) → ⊥
no_front_reveals limits is_whole sound bytes n m f less long w s = by (upto n m)
  where
    all : List ℕ
    all = take n bytes

    y : (y : Reached) × Reaches (kept_rule limits) all y × ((f : Fault) → y ≡ at_fault f → ⊥)
    y = sound all w

    by : (n ≤ m) ⊎ (m < n) → ⊥
    by (inl h) =
        let same : m ≡ n = omega (arith, h, less) in
        y.2 f (reached_once (kept_rule limits) all y.0 (at_fault f) y.1 (subst (λ k. SegmentsReveal (kept_rule limits) f (take k bytes)) same s))
    by (inr h) = fronts_clean (kept_rule limits) all y.0 f m y.1 (omega (arith, h, length-take-le n bytes long)) (subst (λ l. SegmentsReveal (kept_rule limits) f l) (sym (take_shorter m n bytes less)) s)

-- if a prefix is complete there is no fault
pub whole_no_fault : (limits : Limits) (is_whole : List ℕ → Type 0) → IsSound limits is_whole → (bytes : List ℕ) (n at : ℕ) (f : Fault) → n ≤ length bytes → n ≤ limits.input → is_whole (take n bytes) → IsMarkerFault limits is_whole bytes f at → ⊥
whole_no_fault limits is_whole sound bytes n at f long most w h = by (upto at n) h.1
  where
    by : (at ≤ n) ⊎ (n < at) → ((at ≤ limits.input) × IsLeast (SegmentsReveal (kept_rule limits)) bytes f at)
        ⊎ (((f ≡ InputTooLong) × (at ≡ limits.input) × (limits.input ≤ length bytes) × RevealsNothing limits is_whole (take at bytes))
        ⊎ ((f ≡ Truncated) × (at ≡ length bytes) × (length bytes < limits.input) × RevealsNothing limits is_whole bytes)) → ⊥
    by (inr less) k = h.0 n less w
    by (inl less) (inl k) = no_front_reveals limits is_whole sound bytes n at f less long w k.1.1
    by (inl less) (inr (inl k)) =
        let is = k.1 in let fits = k.2 in
        (k.3 n (omega (arith, is, most, fits, length-take-le at bytes (omega (arith, is, fits))))).1 (subst is_whole (sym (take_shorter n at bytes (omega (arith, is, most)))) w)
    by (inl less) (inr (inr k)) = (k.3 n long).1 w

-- ONE FAULT

abbrev Alternatives : Limits → (List ℕ → Type 0) → List ℕ → Fault → ℕ → Type 0
Alternatives limits is_whole bytes f n =
    ((n ≤ limits.input) × IsLeast (SegmentsReveal (kept_rule limits)) bytes f n)
    ⊎ (((f ≡ InputTooLong) × (n ≡ limits.input) × (limits.input ≤ length bytes) × RevealsNothing limits is_whole (take n bytes))
    ⊎ ((f ≡ Truncated) × (n ≡ length bytes) × (length bytes < limits.input) × RevealsNothing limits is_whole bytes))

-- a fault contradicts that there is none
shown_nothing : (limits : Limits) (is_whole : List ℕ → Type 0) (bytes : List ℕ) (f : Fault) (n : ℕ) → n ≤ limits.input → IsLeast (SegmentsReveal (kept_rule limits)) bytes f n → (limits.input ≤ length bytes) → RevealsNothing limits is_whole (take (limits.input) bytes) → ⊥
shown_nothing limits is_whole bytes f n most least long nothing =
    (nothing n (omega (arith, most, length-take-le (limits.input) bytes long))).0 f (subst (λ l. SegmentsReveal (kept_rule limits) f l) (sym (take_shorter n (limits.input) bytes most)) least.1)

two_least : (limits : Limits) (bytes : List ℕ) (f g : Fault) (n m : ℕ) → IsLeast (SegmentsReveal (kept_rule limits)) bytes f n → IsLeast (SegmentsReveal (kept_rule limits)) bytes g m → (f ≡ g) × (n ≡ m)
two_least limits bytes f g n m a b = by (upto n m) (upto m n)
  where
    by : (n ≤ m) ⊎ (m < n) → (m ≤ n) ⊎ (n < m) → (f ≡ g) × (n ≡ m)
    by (inr less) k = absurd (a.2 g m less b.1)
    by (inl h) (inr less) = absurd (b.2 f n less a.1)
    by (inl h) (inl k) =
        let same : n ≡ m = omega (arith, h, k) in
        (fault_once (kept_rule limits) (take m bytes) f g (subst (λ k. SegmentsReveal (kept_rule limits) f (take k bytes)) same a.1) b.1, same)

pub one_fault : (limits : Limits) (is_whole : List ℕ → Type 0) (bytes : List ℕ) (f g : Fault) (n m : ℕ) → IsMarkerFault limits is_whole bytes f n → IsMarkerFault limits is_whole bytes g m → (f ≡ g) × (n ≡ m)
one_fault limits is_whole bytes f g n m a b = by a.1 b.1
  where
    by : Alternatives limits is_whole bytes f n → Alternatives limits is_whole bytes g m → (f ≡ g) × (n ≡ m)
    by (inl x) (inl y) = two_least limits bytes f g n m x.1 y.1
    by (inl x) (inr (inl y)) = absurd (shown_nothing limits is_whole bytes f n x.0 x.1 y.2 (subst (λ k. RevealsNothing limits is_whole (take k bytes)) y.1 y.3))
    by (inl x) (inr (inr y)) = absurd ((y.3 n x.1.0).0 f x.1.1)
    by (inr (inl x)) (inl y) = absurd (shown_nothing limits is_whole bytes g m y.0 y.1 x.2 (subst (λ k. RevealsNothing limits is_whole (take k bytes)) x.1 x.3))
    by (inr (inr x)) (inl y) = absurd ((x.3 m y.1.0).0 g y.1.1)
    by (inr (inl x)) (inr (inl y)) = (x.0 ∙ sym y.0, x.1 ∙ sym y.1)
    by (inr (inr x)) (inr (inr y)) = (x.0 ∙ sym y.0, x.1 ∙ sym y.1)
    by (inr (inl x)) (inr (inr y)) = let long = x.2 in let short = y.2 in absurd (omega (arith, long, short))
    by (inr (inr x)) (inr (inl y)) = let long = y.2 in let short = x.2 in absurd (omega (arith, long, short))

pub one_insert_fault : (limits : Limits) (bytes : List ℕ) (f g : Fault) (n m : ℕ) → IsInsertFault limits bytes f n → IsInsertFault limits bytes g m → (f ≡ g) × (n ≡ m)
one_insert_fault limits bytes f g n m (inl a) (inl b) = one_fault limits (HoldsHead limits) bytes f g n m a b
one_insert_fault limits bytes f g n m (inl a) (inr b) =
    let k = b.3 in let long = b.2 in let most = k.3 in
    absurd (whole_no_fault limits (HoldsHead limits) (heads_sound limits) bytes k.2 n f (omega (arith, long, most)) k.3 (k.0, (k.1, k.4)) a)
one_insert_fault limits bytes f g n m (inr a) (inl b) =
    let k = a.3 in let long = a.2 in let most = k.3 in
    absurd (whole_no_fault limits (HoldsHead limits) (heads_sound limits) bytes k.2 m g (omega (arith, long, most)) k.3 (k.0, (k.1, k.4)) b)
one_insert_fault limits bytes f g n m (inr a) (inr b) = (a.0 ∙ sym b.0, a.1 ∙ sym b.1)
