-- A file has at most one result: it is a faultless prefix, or has a fault, or is complete; and that result is its
-- meaning or its first fault.
use Rattle.std.proofs.Common.{◌≡◌, ℕ, ◌+◌, ◌-◌, ◌<◌, ◌≤◌, List, [], ◌∷◌, ◌++◌, length, take, drop, refl, sym, ap, ◌∙◌, subst, arith, inl, inr}
use Rattle.std.specs.Prelude.{◌⊎◌}
use Rattle.std.proofs.Math.Seq.{take-append_seam, take-append-add}
use Rattle.std.proofs.lemmas.List.{append_assoc, append-nil, length-append, take-append-drop, take-append-le, length-take-le}
use Rattle.std.proofs.lemmas.Bool.{cases_lt}
use Rattle.jpg_spec.specs.Faults.{number_of}
use Rattle.jpg_spec.specs.Scan.{Blocks}
use Rattle.jpg_spec.specs.Meaning.{Meaning}
use Rattle.jpg_spec.specs.Markers.{soi, RevealsNoStart, IsLeast}
use Rattle.jpg_spec.specs.InForce.{frame_of}
use Rattle.jpg_spec.specs.Items.{Item, segments_of}
use Rattle.jpg_spec.specs.FileMeaning.{Leads, Means, meaning_of}
use Rattle.jpg_spec.specs.FirstFault.{AfterItems, ItemReveals, InsideScan, Reveals, RevealsNone, HasMeaning, HaveBegun, IsEarly, IsFirstFault}
use Rattle.jpg_spec.specs.declared.fault.Fault.{Fault}
use Rattle.jpg_spec.specs.declared.fault.Fault.TheVariants.{Truncated, InputTooLong}
use Rattle.jpg_spec.specs.declared.frame.Limits.{Limits}
use Rattle.jpg_spec.proofs.Segments.MarkersOnce.{no_head}
use Rattle.jpg_spec.proofs.Headers.HeadersOnce.{after_front}
use Rattle.jpg_spec.specs.UnfinishedFile.{UnfinishedFile, IsWholeFile}
use Rattle.jpg_spec.proofs.Files.BlocksOnce.{blocks_once}
use Rattle.jpg_spec.proofs.Files.TailsOnce.{Ends, item_shows_once, shown_not_ended}
use Rattle.jpg_spec.proofs.Files.FilesOnce.{after_more, inside_more, ends_apart, ends_not_inside_standing, ends_not_inside_closed, inside_closed_not_going, inside_closed_not_standing, inside_closed_once, items_end_once}
use Rattle.jpg_spec.proofs.Basics.Common.{heads}

-- THE START

no_start_soi : (a x y : List ℕ) → RevealsNoStart a → a ++ x ≡ soi ++ y → ⊥
no_start_soi a x y (inl s) e = s.2 (heads s.0 255 x (0xd8 ∷ y) (ap (λ l. l ++ x) (sym s.1) ∙ e)).0
no_start_soi a x y (inr s) e = s.2 (heads s.0 0xd8 x y (heads 255 255 (s.0 ∷ x) (0xd8 ∷ y) (ap (λ l. l ++ x) (sym s.1) ∙ e)).1).0

no_start_short : (a x b : List ℕ) → RevealsNoStart a → (b ≡ []) ⊎ (b ≡ 255 ∷ []) → a ++ x ≡ b → ⊥
no_start_short a x b (inl s) (inl f) e = no_head s.0 x (sym (ap (λ l. l ++ x) (sym s.1) ∙ e ∙ f))
no_start_short a x b (inl s) (inr f) e = s.2 (heads s.0 255 x [] (ap (λ l. l ++ x) (sym s.1) ∙ e ∙ f)).0
no_start_short a x b (inr s) (inl f) e = no_head 255 (s.0 ∷ x) (sym (ap (λ l. l ++ x) (sym s.1) ∙ e ∙ f))
no_start_short a x b (inr s) (inr f) e = no_head s.0 x (sym (heads 255 255 (s.0 ∷ x) [] (ap (λ l. l ++ x) (sym s.1) ∙ e ∙ f)).1)

soi_short : (y b : List ℕ) → (b ≡ []) ⊎ (b ≡ 255 ∷ []) → soi ++ y ≡ b → ⊥
soi_short y b (inl f) e = no_head 255 (0xd8 ∷ y) (sym (e ∙ f))
soi_short y b (inr f) e = no_head 0xd8 y (sym (heads 255 255 (0xd8 ∷ y) [] (e ∙ f)).1)

after_soi : (limits : Limits) (bytes : List ℕ) (items : List Item) (tail : List ℕ) → AfterItems limits bytes items tail → (y : List ℕ) × (bytes ≡ soi ++ y)
after_soi limits bytes items tail w =
    let h = after_front items w.front w.spelled in (h.0 ++ tail, w.cut ∙ ap (λ l. l ++ tail) h.1 ∙ append_assoc soi h.0 tail)

inside_soi : (limits : Limits) (bytes tail : List ℕ) → InsideScan limits bytes tail → (y : List ℕ) × (bytes ≡ soi ++ y)
inside_soi limits bytes tail i =
    let h = after_front i.items i.front i.spelled in
    (((h.0 ++ i.head) ++ i.text) ++ tail, i.cut ∙ ap (λ l. ((l ++ i.head) ++ i.text) ++ tail) h.1)

with_more : (bytes x : List ℕ) → (y : List ℕ) × (bytes ≡ soi ++ y) → (y : List ℕ) × (bytes ++ x ≡ soi ++ y)
with_more bytes x s = (s.0 ++ x, ap (λ l. l ++ x) s.1 ∙ append_assoc soi s.0 x)

-- BYTES THAT HAVE A FAULT aren't a faultless prefix, with any bytes after them
pub shown_not_standing : (limits : Limits) (fault : Fault) (a x b : List ℕ) → Reveals limits fault a → UnfinishedFile limits b → a ++ x ≡ b → ⊥
shown_not_standing limits fault a x b (inl s) (inl t) e = no_start_short a x b s.1 t e
shown_not_standing limits fault a x b (inl s) (inr (inl t)) e = let z = after_soi limits b t.0 t.1 t.2 in no_start_soi a x z.0 s.1 (e ∙ z.1)
shown_not_standing limits fault a x b (inl s) (inr (inr t)) e = let z = inside_soi limits b t.0 t.1 in no_start_soi a x z.0 s.1 (e ∙ z.1)
shown_not_standing limits fault a x b (inr (inl s)) (inl t) e =
    let z = with_more a x (after_soi limits a s.0 s.1 s.2) in soi_short z.0 b t (sym z.1 ∙ e)
shown_not_standing limits fault a x b (inr (inl s)) (inr (inl t)) e = ends_apart limits b s.0 t.0 s.1 x t.1 (after_more limits a x b s.0 s.1 e s.2) (inl (fault, s.3)) t.2 t.3
shown_not_standing limits fault a x b (inr (inl s)) (inr (inr t)) e = ends_not_inside_standing limits b t.0 t.1 s.0 s.1 x (after_more limits a x b s.0 s.1 e s.2) (inl (fault, s.3)) t.2
shown_not_standing limits fault a x b (inr (inr s)) (inl t) e =
    let z = with_more a x (inside_soi limits a s.0 s.1) in soi_short z.0 b t (sym z.1 ∙ e)
shown_not_standing limits fault a x b (inr (inr s)) (inr (inl t)) e = inside_closed_not_going limits b (s.0 ++ x) (inside_more limits a x b s.0 e s.1) fault s.0 x t.0 t.1 refl s.2 t.2 t.3
shown_not_standing limits fault a x b (inr (inr s)) (inr (inr t)) e = inside_closed_not_standing limits b (s.0 ++ x) (inside_more limits a x b s.0 e s.1) fault s.0 x t.0 t.1 refl s.2 t.2

-- A COMPLETE FILE, up to its EOI
whole_after : (limits : Limits) (bytes : List ℕ) (M : Meaning) (w : Means limits bytes M) → AfterItems limits (w.front ++ w.marker) w.items w.marker
whole_after limits bytes M w = record { front = w.front; blocks = w.blocks; cut = refl; spelled = w.spelled; leads = w.leads }

whole_more : (limits : Limits) (bytes : List ℕ) (M : Meaning) (x stream : List ℕ) (w : Means limits bytes M) → (w.front ++ w.marker) ++ x ≡ stream → AfterItems limits stream w.items (w.marker ++ x)
whole_more limits bytes M x stream w e = after_more limits (w.front ++ w.marker) x stream w.items w.marker e (whole_after limits bytes M w)

whole_ends : (limits : Limits) (bytes : List ℕ) (M : Meaning) (w : Means limits bytes M) → Ends limits w.items w.marker
whole_ends limits bytes M w = inr (w.ended, w.framed)

-- it isn't a faultless prefix, with any bytes after it
pub whole_not_standing : (limits : Limits) (bytes : List ℕ) (M : Meaning) (x b : List ℕ) → (w : Means limits bytes M) → UnfinishedFile limits b → (w.front ++ w.marker) ++ x ≡ b → ⊥
whole_not_standing limits bytes M x b w (inl t) e =
    let z = with_more (w.front ++ w.marker) x (after_soi limits (w.front ++ w.marker) w.items w.marker (whole_after limits bytes M w)) in soi_short z.0 b t (sym z.1 ∙ e)
whole_not_standing limits bytes M x b w (inr (inl t)) e = ends_apart limits b w.items t.0 w.marker x t.1 (whole_more limits bytes M x b w e) (whole_ends limits bytes M w) t.2 t.3
whole_not_standing limits bytes M x b w (inr (inr t)) e = ends_not_inside_standing limits b t.0 t.1 w.items w.marker x (whole_more limits bytes M x b w e) (whole_ends limits bytes M w) t.2

-- and has no fault, with fewer bytes or with more
pub shown_not_whole : (limits : Limits) (fault : Fault) (a x bytes : List ℕ) (M : Meaning) (y : List ℕ) → Reveals limits fault a → (w : Means limits bytes M) → a ++ x ≡ (w.front ++ w.marker) ++ y → ⊥
shown_not_whole limits fault a x bytes M y (inl s) w e =
    let z = with_more (w.front ++ w.marker) y (after_soi limits (w.front ++ w.marker) w.items w.marker (whole_after limits bytes M w)) in no_start_soi a x z.0 s.1 (e ∙ z.1)
shown_not_whole limits fault a x bytes M y (inr (inl s)) w e =
    let same = items_end_once limits (a ++ x) s.0 w.items s.1 x w.marker y (after_more limits a x (a ++ x) s.0 s.1 refl s.2) (inl (fault, s.3)) (whole_more limits bytes M y (a ++ x) w (sym e)) (whole_ends limits bytes M w) in
    let shown1 : ItemReveals limits w.items fault s.1 = subst (λ z. ItemReveals limits z fault s.1) same.0 s.3 in
    shown_not_ended limits w.items fault w.marker (subst (λ z. ItemReveals limits w.items fault z) same.1 shown1) w.ended w.framed w.complete
shown_not_whole limits fault a x bytes M y (inr (inr s)) w e =
    ends_not_inside_closed limits (a ++ x) (s.0 ++ x) (inside_more limits a x (a ++ x) s.0 refl s.1) w.items w.marker y fault s.0 x refl (whole_more limits bytes M y (a ++ x) w (sym e)) (whole_ends limits bytes M w) s.2

-- ONE FAULT at one place
after_nil : (limits : Limits) (bytes : List ℕ) (items : List Item) (tail : List ℕ) → AfterItems limits bytes items tail → AfterItems limits bytes items (tail ++ [])
after_nil limits bytes items tail w = after_more limits bytes [] bytes items tail (append-nil bytes) w

pub shown_once : (limits : Limits) (f g : Fault) (bytes : List ℕ) → Reveals limits f bytes → Reveals limits g bytes → f ≡ g
shown_once limits f g bytes (inl s) (inl t) = s.0 ∙ sym t.0
shown_once limits f g bytes (inl s) (inr (inl t)) =
    let z = after_soi limits bytes t.0 t.1 t.2 in absurd (no_start_soi bytes [] z.0 s.1 (append-nil bytes ∙ z.1))
shown_once limits f g bytes (inl s) (inr (inr t)) =
    let z = inside_soi limits bytes t.0 t.1 in absurd (no_start_soi bytes [] z.0 s.1 (append-nil bytes ∙ z.1))
shown_once limits f g bytes (inr (inl s)) (inl t) =
    let z = after_soi limits bytes s.0 s.1 s.2 in absurd (no_start_soi bytes [] z.0 t.1 (append-nil bytes ∙ z.1))
shown_once limits f g bytes (inr (inl s)) (inr (inl t)) =
    let same = items_end_once limits bytes s.0 t.0 s.1 [] t.1 [] (after_nil limits bytes s.0 s.1 s.2) (inl (f, s.3)) (after_nil limits bytes t.0 t.1 t.2) (inl (g, t.3)) in
    let shown1 : ItemReveals limits t.0 f s.1 = subst (λ z. ItemReveals limits z f s.1) same.0 s.3 in
    item_shows_once limits t.0 f g t.1 (subst (λ z. ItemReveals limits t.0 f z) same.1 shown1) t.3
shown_once limits f g bytes (inr (inl s)) (inr (inr t)) = absurd (ends_not_inside_closed limits bytes t.0 t.1 s.0 s.1 [] g t.0 [] (sym (append-nil t.0)) (after_nil limits bytes s.0 s.1 s.2) (inl (f, s.3)) t.2)
shown_once limits f g bytes (inr (inr s)) (inl t) =
    let z = inside_soi limits bytes s.0 s.1 in absurd (no_start_soi bytes [] z.0 t.1 (append-nil bytes ∙ z.1))
shown_once limits f g bytes (inr (inr s)) (inr (inl t)) = absurd (ends_not_inside_closed limits bytes s.0 s.1 t.0 t.1 [] f s.0 [] (sym (append-nil s.0)) (after_nil limits bytes t.0 t.1 t.2) (inl (g, t.3)) s.2)
shown_once limits f g bytes (inr (inr s)) (inr (inr t)) = inside_closed_once limits bytes s.0 t.0 f g s.1 s.2 t.1 t.2

-- ONE MEANING, at one place

pub same_meaning : (limits : Limits) (items items' : List Item) (blocks blocks' : Blocks) → items ≡ items' → blocks ≡ blocks'
    → meaning_of (frame_of limits (segments_of items)) (segments_of items) blocks ≡ meaning_of (frame_of limits (segments_of items')) (segments_of items') blocks'
same_meaning limits items items' blocks blocks' e f =
    ap (λ z. meaning_of (frame_of limits (segments_of z)) (segments_of z) blocks) e ∙ ap (λ z. meaning_of (frame_of limits (segments_of items')) (segments_of items') z) f

pub means_once : (limits : Limits) (bytes more : List ℕ) (M N : Meaning) → (v : Means limits bytes M) → (w : Means limits more N) → bytes ≡ more → (M ≡ N) × (length (v.front ++ v.marker) ≡ length (w.front ++ w.marker))
means_once limits bytes more M N v w e =
    let all : (v.front ++ v.marker) ++ v.rest ≡ (w.front ++ w.marker) ++ w.rest = sym v.cut ∙ e ∙ w.cut in
    let same = items_end_once limits bytes v.items w.items v.marker v.rest w.marker w.rest
    (whole_more limits bytes M v.rest bytes v (sym v.cut)) (whole_ends limits bytes M v) (whole_more limits more N w.rest bytes w (sym (e ∙ w.cut))) (whole_ends limits more N w) in
    let blocks = blocks_once limits w.items v.blocks w.blocks (subst (λ z. Leads limits z v.blocks) same.0 v.leads) w.leads in
    let l0 = ap length all in
    let l1 = length-append (v.front ++ v.marker) v.rest in
    let l2 = length-append (w.front ++ w.marker) w.rest in
    let l3 = ap length same.2 in
    (v.meaning ∙ same_meaning limits v.items w.items v.blocks w.blocks same.0 blocks ∙ sym w.meaning, omega (arith, l0, l1, l2, l3))

-- THE FIRST FAULT

-- of a faultless prefix no shorter one has a fault
stands_shows_none : (limits : Limits) (bytes : List ℕ) → UnfinishedFile limits bytes → RevealsNone limits bytes
stands_shows_none limits bytes s fault n long t = shown_not_standing limits fault (take n bytes) (drop n bytes) bytes t s (take-append-drop n bytes)

-- a fault that one more byte reveals is the first
pub next_shown : (limits : Limits) (front rest : List ℕ) (b : ℕ) (fault : Fault) → UnfinishedFile limits front → Reveals limits fault (front ++ b ∷ []) → length front < limits.input
    → IsFirstFault limits ((front ++ b ∷ []) ++ rest) fault (length (front ++ b ∷ []))
next_shown limits front rest b fault s t within =
    let long = length-append front (b ∷ []) in
    let all = length-append (front ++ b ∷ []) rest in
    let here : take (length (front ++ b ∷ [])) ((front ++ b ∷ []) ++ rest) ≡ front ++ b ∷ [] = take-append_seam (front ++ b ∷ []) rest in
    inl (
      omega (arith, long, within),
      (
        omega (arith, all),
        subst (λ l. Reveals limits fault l) (sym here) t,
        λ other m less k. (let few : m ≤ length front = omega (arith, long, less) in
            let cut : take m ((front ++ b ∷ []) ++ rest) ≡ take m front = ap (take m) (append_assoc front (b ∷ []) rest) ∙ take-append-le m front ((b ∷ []) ++ rest) few in
            stands_shows_none limits front s other m few (subst (λ l. Reveals limits other l) cut k)),
        λ other less k. (let same = ap number_of (shown_once limits other fault (front ++ b ∷ []) (subst (λ l. Reveals limits other l) here k) t) in
            let z : ⊥ = omega (arith, same, less) in z),
      ),
    )

-- bytes without a fault at the input's end are truncated, if some component hasn't begun
pub stands_truncated : (limits : Limits) (bytes : List ℕ) → UnfinishedFile limits bytes → length bytes < limits.input → (HaveBegun limits bytes → ⊥) → IsFirstFault limits bytes Truncated (length bytes)
stands_truncated limits bytes s short none =
    inr (inr (
      refl,
      refl,
      short,
      stands_shows_none limits bytes s,
      λ means. whole_not_standing limits bytes means.0 means.1.rest bytes means.1 s (sym means.1.cut),
      λ early. none early.begun,
    ))

-- otherwise they end early
pub stands_early : (limits : Limits) (bytes : List ℕ) → UnfinishedFile limits bytes → length bytes < limits.input → HaveBegun limits bytes → IsEarly limits bytes
stands_early limits bytes s short begun = record {
  short = short;
  faultless = stands_shows_none limits bytes s;
  unended = λ means. whole_not_standing limits bytes means.0 means.1.rest bytes means.1 s (sym means.1.cut);
  begun = begun;
}

-- bytes without a fault at the limit are too many
pub stands_too_long : (limits : Limits) (bytes : List ℕ) → UnfinishedFile limits (take limits.input bytes) → limits.input ≤ length bytes → IsFirstFault limits bytes InputTooLong limits.input
stands_too_long limits bytes s long =
    inr (inl (
      refl,
      refl,
      long,
      stands_shows_none limits (take limits.input bytes) s,
      λ means. whole_not_standing limits bytes means.0 (take (limits.input - length (means.1.front ++ means.1.marker)) means.1.rest) (take limits.input bytes) means.1 s (sym (within means.0 means.1)),
    ))
  where
    within : (M : Meaning) (w : Means limits bytes M) → take limits.input bytes ≡ (w.front ++ w.marker) ++ take (limits.input - length (w.front ++ w.marker)) w.rest
    within M w =
        let less = w.long in
        let ended : List ℕ = w.front ++ w.marker in
        let sum : limits.input ≡ length ended + (limits.input - length ended) = omega (arith, less) in
        ap (λ n. take n bytes) sum ∙ ap (take (length ended + (limits.input - length ended))) w.cut ∙ take-append-add ended w.rest (limits.input - length ended)

-- NEVER BOTH a meaning and a fault
pub means_no_fault : (limits : Limits) (bytes : List ℕ) (M : Meaning) (fault : Fault) (n : ℕ) → Means limits bytes M → IsFirstFault limits bytes fault n → ⊥
means_no_fault limits bytes M fault n w (inl k) = shown_not_whole limits fault (take n bytes) (drop n bytes) bytes M w.rest k.1.1 w (take-append-drop n bytes ∙ w.cut)
means_no_fault limits bytes M fault n w (inr (inl k)) = k.4 (M, w)
means_no_fault limits bytes M fault n w (inr (inr k)) = k.4 (M, w)

-- nor with a premature end
pub early_no_fault : (limits : Limits) (bytes : List ℕ) (fault : Fault) (n : ℕ) → IsEarly limits bytes → IsFirstFault limits bytes fault n → ⊥
early_no_fault limits bytes fault n w (inl k) = w.faultless fault n k.1.0 k.1.1
early_no_fault limits bytes fault n w (inr (inl k)) = let x = w.short in let y = k.2 in omega (arith, x, y)
early_no_fault limits bytes fault n w (inr (inr k)) = k.5 w

-- and one first fault, at one place
least_once : (limits : Limits) (bytes : List ℕ) (f g : Fault) (m n : ℕ) → IsLeast (Reveals limits) bytes f m → IsLeast (Reveals limits) bytes g n → (f ≡ g) × (m ≡ n)
least_once limits bytes f g m n a b = by (cases_lt m n) (cases_lt n m)
  where
    by : (m < n) ⊎ (n ≤ m) → (n < m) ⊎ (m ≤ n) → (f ≡ g) × (m ≡ n)
    by (inl h) k = absurd (b.2 f m h a.1)
    by (inr h) (inl k) = absurd (a.2 g n k b.1)
    by (inr h) (inr k) = let same : m ≡ n = omega (arith, h, k) in (shown_once limits f g (take n bytes) (subst (λ i. Reveals limits f (take i bytes)) same a.1) b.1, same)

abbrev pub AtLimit : Limits → List ℕ → Fault → ℕ → Type 0
AtLimit limits bytes fault n = (fault ≡ InputTooLong) × (n ≡ limits.input) × (limits.input ≤ length bytes) × RevealsNone limits (take n bytes) × (HasMeaning limits bytes → ⊥)

abbrev pub AtEnd : Limits → List ℕ → Fault → ℕ → Type 0
AtEnd limits bytes fault n = (fault ≡ Truncated) × (n ≡ length bytes) × (length bytes < limits.input) × RevealsNone limits bytes × (HasMeaning limits bytes → ⊥) × (IsEarly limits bytes → ⊥)

shown_not_at_limit : (limits : Limits) (bytes : List ℕ) (f g : Fault) (m n : ℕ) → m ≤ limits.input → IsLeast (Reveals limits) bytes f m → AtLimit limits bytes g n → ⊥
shown_not_at_limit limits bytes f g m n within a b =
    let place = b.1 in
    let long = b.2 in
    let few : m ≤ n = omega (arith, within, place) in
    let size = length-take-le n bytes (omega (arith, place, long)) in
    let cut : take m (take n bytes) ≡ take m bytes =
    sym (take-append-le m (take n bytes) (drop n bytes) (omega (arith, few, size))) ∙ ap (take m) (take-append-drop n bytes) in
    b.3 f m (omega (arith, few, size)) (subst (λ l. Reveals limits f l) (sym cut) a.1)

shown_not_at_end : (limits : Limits) (bytes : List ℕ) (f g : Fault) (m n : ℕ) → IsLeast (Reveals limits) bytes f m → AtEnd limits bytes g n → ⊥
shown_not_at_end limits bytes f g m n a b = b.3 f m a.0 a.1

pub first_fault_once : (limits : Limits) (bytes : List ℕ) (f g : Fault) (m n : ℕ) → IsFirstFault limits bytes f m → IsFirstFault limits bytes g n → (f ≡ g) × (m ≡ n)
first_fault_once limits bytes f g m n (inl a) (inl b) = least_once limits bytes f g m n a.1 b.1
first_fault_once limits bytes f g m n (inl a) (inr (inl b)) = absurd (shown_not_at_limit limits bytes f g m n a.0 a.1 b)
first_fault_once limits bytes f g m n (inl a) (inr (inr b)) = absurd (shown_not_at_end limits bytes f g m n a.1 b)
first_fault_once limits bytes f g m n (inr (inl a)) (inl b) = absurd (shown_not_at_limit limits bytes g f n m b.0 b.1 a)
first_fault_once limits bytes f g m n (inr (inl a)) (inr (inl b)) = (a.0 ∙ sym b.0, a.1 ∙ sym b.1)
first_fault_once limits bytes f g m n (inr (inl a)) (inr (inr b)) = let x = a.2 in let y = b.2 in absurd (omega (arith, x, y))
first_fault_once limits bytes f g m n (inr (inr a)) (inl b) = absurd (shown_not_at_end limits bytes g f n m b.1 a)
first_fault_once limits bytes f g m n (inr (inr a)) (inr (inl b)) = let x = a.2 in let y = b.2 in absurd (omega (arith, x, y))
first_fault_once limits bytes f g m n (inr (inr a)) (inr (inr b)) = (a.0 ∙ sym b.0, a.1 ∙ sym b.1)

-- NOTHING AFTER EOI matters
pub means_more : (limits : Limits) (bytes more : List ℕ) (M : Meaning) → Means limits bytes M → Means limits (bytes ++ more) M
means_more limits bytes more M w = record {
  items = w.items;
  blocks = w.blocks;
  front = w.front;
  marker = w.marker;
  rest = w.rest ++ more;
  cut = ap (λ l. l ++ more) w.cut ∙ append_assoc (w.front ++ w.marker) w.rest more;
  spelled = w.spelled;
  ended = w.ended;
  long = w.long;
  leads = w.leads;
  framed = w.framed;
  complete = w.complete;
  meaning = w.meaning;
}

-- FILES that end with their EOI

whole_cut : (limits : Limits) (bytes : List ℕ) (M : Meaning) → (k : IsWholeFile limits bytes M) → bytes ≡ (k.0).front ++ (k.0).marker
whole_cut limits bytes M k = (k.0).cut ∙ ap (λ l. (k.0).front ++ (k.0).marker ++ l) k.1 ∙ append-nil ((k.0).front ++ (k.0).marker)

pub whole_file_not_standing : (limits : Limits) (front rest : List ℕ) (M : Meaning) → IsWholeFile limits front M → UnfinishedFile limits (front ++ rest) → ⊥
whole_file_not_standing limits front rest M k s = whole_not_standing limits front M rest (front ++ rest) k.0 s (ap (λ l. l ++ rest) (sym (whole_cut limits front M k)))

pub whole_file_not_shown : (limits : Limits) (front rest : List ℕ) (fault : Fault) (M : Meaning) → IsWholeFile limits front M → Reveals limits fault (front ++ rest) → ⊥
whole_file_not_shown limits front rest fault M k s =
    shown_not_whole limits fault (front ++ rest) [] front M rest s k.0 (append-nil (front ++ rest) ∙ ap (λ l. l ++ rest) (whole_cut limits front M k))

pub whole_last : (limits : Limits) (bytes more : List ℕ) (M N : Meaning) → IsWholeFile limits bytes M → IsWholeFile limits (bytes ++ more) N → more ≡ []
whole_last limits bytes more M N k l =
    (items_end_once limits (bytes ++ more) (k.0).items (l.0).items (k.0).marker more (l.0).marker []
    (whole_more limits bytes M more (bytes ++ more) k.0 (ap (λ z. z ++ more) (sym (whole_cut limits bytes M k)))) (whole_ends limits bytes M k.0)
    (whole_more limits (bytes ++ more) N [] (bytes ++ more) l.0 (append-nil ((l.0).front ++ (l.0).marker) ∙ sym (whole_cut limits (bytes ++ more) N l))) (whole_ends limits (bytes ++ more) N l.0)).2
