-- Bytes begin with at most one marker, and with at most one segment; of two lists of segments that begin the same bytes
-- one continues the other.
use Rattle.std.proofs.Common.{◌≡◌, ℕ, zero, suc, ◌+◌, ◌/◌, ◌%◌, ◌<◌, List, [], ◌∷◌, ◌++◌, length, refl, sym, ap, ◌∙◌, arith, inl, inr, ⊎_elim}
use Rattle.std.specs.Prelude.{◌⊎◌, replicate}
use Rattle.std.specs.Int.{to_be_bytes, from_be_bytes, w16}
use Rattle.std.proofs.lemmas.Nat.{from_be_bytes-to_be_bytes_2}
use Rattle.std.proofs.lemmas.List.{append_assoc, append-nil, append_cancel_left}
use Rattle.jpg_spec.specs.Segments.{two_bytes}
use Rattle.jpg_spec.specs.Markers.{Segment, soi, SpellsMarker, SpellsSegment, SpellsSegments}
use Rattle.jpg_spec.proofs.Basics.Rows.{append_apart}
use Rattle.jpg_spec.proofs.Basics.Common.{heads}

-- MARKERS

pub no_head : {X : Type 0} (a : X) (xs : List X) → [] ≡ a ∷ xs → ⊥
no_head a xs e = cc

-- fill bytes end at another byte
pub fills_once : (m n c d : ℕ) (x y : List ℕ) → (c ≡ 255 → ⊥) → (d ≡ 255 → ⊥) → (replicate m 255 ++ c ∷ []) ++ x ≡ (replicate n 255 ++ d ∷ []) ++ y → (m ≡ n) × (c ≡ d) × (x ≡ y)
fills_once zero zero c d x y h k e = let s = heads c d x y e in (refl, s.0, s.1)
fills_once zero (suc n) c d x y h k e = absurd (h (heads c 255 x ((replicate n 255 ++ d ∷ []) ++ y) e).0)
fills_once (suc m) zero c d x y h k e = absurd (k (sym (heads 255 d ((replicate m 255 ++ c ∷ []) ++ x) y e).0))
fills_once (suc m) (suc n) c d x y h k e =
    let r = fills_once m n c d x y h k (heads 255 255 ((replicate m 255 ++ c ∷ []) ++ x) ((replicate n 255 ++ d ∷ []) ++ y) e).1 in
    (ap suc r.0, r.1, r.2)

-- bytes begin with at most one marker
pub marker_once : (c d : ℕ) (a b x y : List ℕ) → SpellsMarker c a → SpellsMarker d b → a ++ x ≡ b ++ y → (c ≡ d) × (a ≡ b) × (x ≡ y)
marker_once c d a b x y s t e =
    let r = fills_once (suc s.0) (suc t.0) c d x y s.2.1 t.2.1 (ap (λ l. l ++ x) (sym s.1) ∙ e ∙ ap (λ l. l ++ y) t.1) in
    (r.1, s.1 ∙ ap (λ n. replicate n 255 ++ c ∷ []) r.0 ∙ ap (λ n. replicate (suc t.0) 255 ++ n ∷ []) r.1 ∙ sym t.1, r.2)

-- only fill bytes are no complete marker
pub fill_no_marker : (fill code : ℕ) (a x : List ℕ) → SpellsMarker code a → replicate fill 255 ≡ a ++ x → ⊥
fill_no_marker fill code a x s e = within fill (suc s.0) (e ∙ ap (λ l. l ++ x) s.1)
  where
    within : (m n : ℕ) → replicate m 255 ≡ (replicate n 255 ++ code ∷ []) ++ x → ⊥
    within zero zero h = no_head code x h
    within zero (suc n) h = no_head 255 ((replicate n 255 ++ code ∷ []) ++ x) h
    within (suc m) zero h = s.2.1 (sym (heads 255 code (replicate m 255) x h).0)
    within (suc m) (suc n) h = within m n (heads 255 255 (replicate m 255) ((replicate n 255 ++ code ∷ []) ++ x) h).1

-- FF bytes and 00 begin no marker, and no marker begins them
pub stuffed_no_marker : (fill code : ℕ) (a x y : List ℕ) → SpellsMarker code a → (replicate (suc fill) 255 ++ 0 ∷ []) ++ x ≡ a ++ y → ⊥
stuffed_no_marker fill code a x y s e =
    let r = fills_once (suc fill) (suc s.0) 0 code x y (λ h. omega (arith, h)) s.2.1 (e ∙ ap (λ l. l ++ y) s.1) in
    s.2.0 (sym r.1)

-- another byte than FF begins no marker
pub byte_no_marker : (byte code : ℕ) (a x y : List ℕ) → (byte ≡ 255 → ⊥) → SpellsMarker code a → byte ∷ x ≡ a ++ y → ⊥
byte_no_marker byte code a x y n s e = n (heads byte 255 x ((replicate s.0 255 ++ code ∷ []) ++ y) (e ∙ ap (λ l. l ++ y) s.1)).0

-- SEGMENTS

-- the two bytes of a length determine it
pub length_bytes : (n : ℕ) → n < 65536 → (high : ℕ) × (low : ℕ) × (to_be_bytes w16 n ≡ high ∷ low ∷ []) × (two_bytes high low ≡ n)
length_bytes n h = (n / 256 % 256, n % 256, refl, omega (arith, h))

pub length_once : (m n : ℕ) → m < 65536 → n < 65536 → to_be_bytes w16 m ≡ to_be_bytes w16 n → m ≡ n
length_once m n a b e =
    sym (from_be_bytes-to_be_bytes_2 m (omega (arith, a))) ∙ ap (from_be_bytes w16) e ∙ from_be_bytes-to_be_bytes_2 n (omega (arith, b))

-- bytes begin with at most one segment
pub segment_once : (c d : ℕ) (xs ys a b u v : List ℕ) → SpellsSegment c xs a → SpellsSegment d ys b → a ++ u ≡ b ++ v → (c ≡ d) × (xs ≡ ys) × (a ≡ b) × (u ≡ v)
segment_once c d xs ys a b u v s t e =
    let long = to_be_bytes w16 (length xs + 2) in
    let wide = to_be_bytes w16 (length ys + 2) in
    let all : s.0 ++ (long ++ (xs ++ u)) ≡ t.0 ++ (wide ++ (ys ++ v)) =
    sym (parts s.0 long xs u) ∙ ap (λ l. l ++ u) (sym s.3) ∙ e ∙ ap (λ l. l ++ v) t.3 ∙ parts t.0 wide ys v in
    let m = marker_once c d s.0 t.0 _ _ s.1 t.1 all in
    let lengths = append_apart long wide (xs ++ u) (ys ++ v) refl m.2 in
    let n = length_once (length xs + 2) (length ys + 2) s.2 t.2 lengths.0 in
    let inside = append_apart xs ys u v (omega (arith, n)) lengths.1 in
    (m.0, inside.0, s.3 ∙ ap (λ l. l ++ long ++ xs) m.1 ∙ ap (λ l. t.0 ++ l ++ xs) lengths.0 ∙ ap (λ l. t.0 ++ wide ++ l) inside.0 ∙ sym t.3, inside.1)
  where
    parts : (p q r w : List ℕ) → p ++ q ++ r ++ w ≡ p ++ (q ++ (r ++ w))
    parts p q r w = append_assoc (p ++ q) r w ∙ append_assoc p q (r ++ w)

-- LISTS OF SEGMENTS, the newest first

-- these segments with no SOI before them
abbrev pub SpellsMore : List Segment → List ℕ → Type 0
SpellsMore [] bytes = bytes ≡ []
SpellsMore (s ∷ before) bytes =
    (front : List ℕ) × (rest : List ℕ) × (bytes ≡ front ++ rest) × SpellsMore before front × SpellsSegment s.0 s.1 rest × (s.0 ≡ 0xd9 → ⊥)

-- SOI is before them
pub after_start : (xs : List Segment) (bytes : List ℕ) → SpellsSegments xs bytes → (text : List ℕ) × (bytes ≡ soi ++ text) × SpellsMore xs text
after_start [] bytes s = ([], s, refl)
after_start (x ∷ xs) bytes s =
    let h = after_start xs s.0 s.3 in
    (h.0 ++ s.1, s.2 ∙ ap (λ l. l ++ s.1) h.1 ∙ append_assoc soi h.0 s.1, (h.0, s.1, refl, h.2, s.4, s.5))

-- The bytes b of ys continue the bytes a of xs, by further segments.
abbrev pub GoesOn : List Segment → List ℕ → List Segment → List ℕ → Type 0
GoesOn xs a ys b = (more : List Segment) × (text : List ℕ) × (ys ≡ more ++ xs) × (b ≡ a ++ text) × SpellsMore more text

-- the oldest of some segments, which is spelled first
pub oldest : (x : Segment) (xs : List Segment) (text : List ℕ) → SpellsMore (x ∷ xs) text
    → (later : List Segment) × (first : Segment) × (front : List ℕ) × (rest : List ℕ)
    × (x ∷ xs ≡ later ++ first ∷ []) × (text ≡ front ++ rest) × SpellsSegment first.0 first.1 front × (first.0 ≡ 0xd9 → ⊥) × SpellsMore later rest
oldest x [] text s = ([], x, s.1, [], refl, s.2 ∙ ap (λ l. l ++ s.1) s.3 ∙ sym (append-nil s.1), s.4, s.5, refl)
oldest x (y ∷ xs) text s =
    let h = oldest y xs s.0 s.3 in
    (x ∷ h.0, h.1, h.2, h.3 ++ s.1, ap (λ l. x ∷ l) h.4, s.2 ∙ ap (λ l. l ++ s.1) h.5 ∙ append_assoc h.2 h.3 s.1, h.6, h.7, (h.3, s.1, refl, h.8, s.4, s.5))

-- one more segment
goes_more : (xs ys : List Segment) (a b front rest : List ℕ) (y : Segment) → b ≡ front ++ rest → SpellsSegment y.0 y.1 rest → (y.0 ≡ 0xd9 → ⊥) → GoesOn xs a ys front → GoesOn xs a (y ∷ ys) b
goes_more xs ys a b front rest y cut s n g =
    (y ∷ g.0, g.1 ++ rest, ap (λ l. y ∷ l) g.2, cut ∙ ap (λ l. l ++ rest) g.3 ∙ append_assoc a g.1 rest, (g.1, rest, refl, g.4, s, n))

pub same_segment : (s t : Segment) → s.0 ≡ t.0 → s.1 ≡ t.1 → s ≡ t
same_segment s t e f = ap (λ c. (let r : Segment = (c, s.1) in r)) e ∙ ap (λ xs. (let r : Segment = (t.0, xs) in r)) f

-- of two lists that begin the same bytes one continues the other
pub more_once : (xs ys : List Segment) (a b u v : List ℕ) → SpellsMore xs a → SpellsMore ys b → a ++ u ≡ b ++ v → GoesOn xs a ys b ⊎ GoesOn ys b xs a
more_once xs [] a b u v s t e = inr (xs, a, sym (append-nil xs), ap (λ l. l ++ a) (sym t), s)
more_once xs (y ∷ ys) a b u v s t e =
    let all : a ++ u ≡ t.0 ++ (t.1 ++ v) = e ∙ ap (λ l. l ++ v) t.2 ∙ append_assoc t.0 t.1 v in
    by (more_once xs ys a t.0 u (t.1 ++ v) s t.3 all)
  where
    behind : (more : List Segment) (text : List ℕ) → xs ≡ more ++ ys → a ≡ t.0 ++ text → SpellsMore more text → GoesOn xs a (y ∷ ys) b ⊎ GoesOn (y ∷ ys) b xs a
    behind [] text same cut m =
        let h : a ≡ t.0 = cut ∙ ap (λ l. t.0 ++ l) m ∙ append-nil t.0 in
        inl (y ∷ [], t.1, ap (λ l. y ∷ l) (sym same), t.2 ∙ ap (λ l. l ++ t.1) (sym h), ([], t.1, refl, refl, t.4, t.5))
    behind (x ∷ more) text same cut m =
        let o = oldest x more text m in
        let from : text ++ u ≡ t.1 ++ v = append_cancel_left t.0 (text ++ u) (t.1 ++ v) (sym (append_assoc t.0 text u) ∙ ap (λ l. l ++ u) (sym cut) ∙ e ∙ ap (λ l. l ++ v) t.2 ∙ append_assoc t.0 t.1 v) in
        let h = segment_once o.1.0 y.0 o.1.1 y.1 o.2 t.1 (o.3 ++ u) v o.6 t.4 (sym (append_assoc o.2 o.3 u) ∙ ap (λ l. l ++ u) (sym o.5) ∙ from) in
        let first = same_segment o.1 y h.0 h.1 in
        inr (
          o.0,
          o.3,
          same ∙ ap (λ l. l ++ ys) o.4 ∙ ap (λ z. o.0 ++ z ∷ [] ++ ys) first ∙ append_assoc o.0 (y ∷ []) ys,
          cut ∙ ap (λ l. t.0 ++ l) (o.5 ∙ ap (λ l. l ++ o.3) h.2) ∙ sym (append_assoc t.0 t.1 o.3) ∙ ap (λ l. l ++ o.3) (sym t.2),
          o.8,
        )

    by : GoesOn xs a ys t.0 ⊎ GoesOn ys t.0 xs a → GoesOn xs a (y ∷ ys) b ⊎ GoesOn (y ∷ ys) b xs a
    by (inl g) = inl (goes_more xs ys a b t.0 t.1 y t.2 t.4 t.5 g)
    by (inr g) = behind g.0 g.1 g.2 g.3 g.4

with_soi : (xs ys : List Segment) (a b p q : List ℕ) → p ≡ soi ++ a → q ≡ soi ++ b → GoesOn xs a ys b → GoesOn xs p ys q
with_soi xs ys a b p q h k g = (g.0, g.1, g.2, k ∙ ap (λ l. soi ++ l) g.3 ∙ sym (append_assoc soi a g.1) ∙ ap (λ l. l ++ g.1) (sym h), g.4)

-- with SOI before them
pub segments_once : (xs ys : List Segment) (a b u v : List ℕ) → SpellsSegments xs a → SpellsSegments ys b → a ++ u ≡ b ++ v → GoesOn xs a ys b ⊎ GoesOn ys b xs a
segments_once xs ys a b u v s t e =
    let h = after_start xs a s in
    let k = after_start ys b t in
    let from : h.0 ++ u ≡ k.0 ++ v = append_cancel_left soi (h.0 ++ u) (k.0 ++ v)
    (sym (append_assoc soi h.0 u) ∙ ap (λ l. l ++ u) (sym h.1) ∙ e ∙ ap (λ l. l ++ v) k.1 ∙ append_assoc soi k.0 v) in
    ⊎_elim (λ g. inl (with_soi xs ys h.0 k.0 a b h.1 k.1 g)) (λ g. inr (with_soi ys xs k.0 h.0 b a k.1 h.1 g)) (more_once xs ys h.0 k.0 u v h.2 k.2 from)
