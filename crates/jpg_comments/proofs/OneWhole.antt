-- Bytes begin with at most one complete file, as rdjpgcom reads it, and with at most one head, as wrjpgcom reads it.
use Rattle.std.proofs.Common.{◌≡◌, ℕ, ◌+◌, ◌≤◌, Bool, true, false, not, ◌&&◌, ◌||◌, ◌==◌, if◌then◌else◌, List, [], ◌∷◌, ◌++◌, length, take, drop, Some, None, refl, sym, ap, ◌∙◌, subst, arith, inl, inr, ⊎_elim}
use Rattle.std.specs.Int.{to_be_bytes, w16}
use Rattle.std.proofs.lemmas.List.{append_assoc, append-nil, length-append, length-take-le, take-append-drop, append_cancel_left}
use Rattle.jpg_spec.specs.Lists.{any_of}
use Rattle.jpg_spec.specs.Markers.{Segment, has_frame, has_scan, is_frame_code, is_unexpected, is_unsupported, code_fault, code_fault_if, SpellsMarker, SpellsSegments}
use Rattle.jpg_spec_write.specs.CommentText.{IsReadWhole, IsInserted, inserted_head, IsFileFront}
use Rattle.jpg_spec.specs.declared.fault.Fault.TheVariants.{UnexpectedMarker, UnsupportedProcess, SecondFrame, SosBeforeSof}
use Rattle.jpg_spec.specs.declared.frame.Limits.{Limits}
use Rattle.jpg_spec.proofs.Segments.MarkersOnce.{SpellsMore, GoesOn, marker_once, oldest, segments_once}
use Rattle.jpg_spec.proofs.Basics.Common.{clash, or_right}

-- AMONG SEGMENTS

any_after : (test : Segment → Bool) (more : List Segment) (x : Segment) (xs : List Segment) → test x ≡ true → any_of test (more ++ x ∷ xs) ≡ true
any_after test [] x xs e = ap (λ b. b || any_of test xs) e
any_after test (m ∷ more) x xs e = or_right (test m) (any_of test (more ++ x ∷ xs)) (any_after test more x xs e)

-- a marker, where more segments follow from the same place
marker_of_oldest : (x : Segment) (more : List Segment) (text tail u v : List ℕ) (code : ℕ) → SpellsMore (x ∷ more) text → SpellsMarker code tail → text ++ u ≡ tail ++ v
    → (later : List Segment) × (first : Segment) × (x ∷ more ≡ later ++ first ∷ []) × (first.0 ≡ code) × (first.0 ≡ 0xd9 → ⊥)
marker_of_oldest x more text tail u v code s m e =
    let o = oldest x more text s in
    let marker = o.6.0 in
    let rest = to_be_bytes w16 (length o.1.1 + 2) ++ o.1.1 in
    let begins : text ++ u ≡ marker ++ (rest ++ (o.3 ++ u)) =
    ap (λ l. l ++ u) (o.5 ∙ ap (λ l. l ++ o.3) (o.6.3 ∙ append_assoc marker (to_be_bytes w16 (length o.1.1 + 2)) o.1.1)) ∙ append_assoc (marker ++ rest) o.3 u ∙ append_assoc marker rest (o.3 ++ u) in
    (o.0, o.1, o.4, (marker_once o.1.0 code marker tail (rest ++ (o.3 ++ u)) v o.6.1 m (sym begins ∙ e)).0, o.7)

-- HEADS

-- a head, and the bytes after it
pub record Head (limits : Limits) (bytes : List ℕ) (before : List Segment) (code : ℕ) (rest : List ℕ) : Type 0 where
  pub front : List ℕ
  pub tail : List ℕ
  pub cut : bytes ≡ front ++ (tail ++ rest)
  pub spelled : SpellsSegments before front
  pub marker : SpellsMarker code tail
  pub allowed : code_fault before code ≡ None
  pub frame : is_frame_code code ≡ true

head_of : (limits : Limits) (bytes front rest : List ℕ) (before : List Segment) (code : ℕ) → bytes ≡ front ++ rest → IsFileFront limits front before code → Head limits bytes before code rest
head_of limits bytes front rest before code e h = record {
  front = h.1.front;
  tail = h.0;
  cut = e ∙ ap (λ l. l ++ rest) h.1.cut ∙ append_assoc h.1.front h.0 rest;
  spelled = h.1.spelled;
  marker = h.2.0;
  allowed = h.2.1;
  frame = h.3;
}

-- no second frame header
no_second : (framed : Bool) (code : ℕ) → framed ≡ true → is_frame_code code ≡ true → code_fault_if framed code ≡ None → ⊥
no_second framed code f c none =
    let seen : code_fault_if true code ≡ None = subst (λ (b : Bool). code_fault_if b code ≡ None) f none in
    let a = is_unexpected code || code == 0xd9 && not true in
    let b = is_unsupported code in
    let d = code == 0xda && not true in
    by a b d (subst (λ (y : Bool). (if a then Some UnexpectedMarker else if b then Some UnsupportedProcess else if y && true then Some SecondFrame else if d then Some SosBeforeSof else None) ≡ None) c seen)
  where
    by : (a b d : Bool) → (if a then Some UnexpectedMarker else if b then Some UnsupportedProcess else if true && true then Some SecondFrame else if d then Some SosBeforeSof else None) ≡ None → ⊥
    by true b d e = cc
    by false true d e = cc
    by false false d e = cc

pub record SameHead (before more : List Segment) (code other : ℕ) (rest behind : List ℕ) : Type 0 where
  pub segments : before ≡ more
  pub codes : code ≡ other
  pub rests : rest ≡ behind

turned : (before more : List Segment) (code other : ℕ) (rest behind : List ℕ) → SameHead before more code other rest behind → SameHead more before other code behind rest
turned before more code other rest behind s = record { segments = sym s.segments; codes = sym s.codes; rests = sym s.rests }

module _ (limits : Limits) (bytes : List ℕ) where
  heads_on_from : (rest behind : List ℕ) (before more : List Segment) (code other : ℕ) (a : Head limits bytes before code rest)
      (b : Head limits bytes more other behind) → GoesOn before a.front more b.front → SameHead before more code other rest behind
  heads_on_from rest behind before more code other a b g = by g.0 g.1 g.2 g.3 g.4
    where
      by : (later : List Segment) (text : List ℕ) → more ≡ later ++ before → b.front ≡ a.front ++ text → SpellsMore later text → SameHead before more code other rest behind
      by [] text same cut s =
          let front : b.front ≡ a.front = cut ∙ ap (λ l. a.front ++ l) s ∙ append-nil a.front in
          let m = marker_once code other a.tail b.tail rest behind a.marker b.marker
          (append_cancel_left a.front (a.tail ++ rest) (b.tail ++ behind) (sym a.cut ∙ b.cut ∙ ap (λ l. l ++ (b.tail ++ behind)) front)) in
          record { segments = sym same; codes = m.0; rests = m.2 }
      by (x ∷ later) text same cut s =
          let e : text ++ (b.tail ++ behind) ≡ a.tail ++ rest =
          append_cancel_left a.front (text ++ (b.tail ++ behind)) (a.tail ++ rest) (sym (append_assoc a.front text (b.tail ++ behind)) ∙ ap (λ l. l ++ (b.tail ++ behind)) (sym cut) ∙ sym b.cut ∙ a.cut) in
          let o = marker_of_oldest x later text a.tail (b.tail ++ behind) rest code s a.marker e in
          let framed : has_frame more ≡ true =
          ap has_frame (same ∙ ap (λ l. l ++ before) o.2 ∙ append_assoc o.0 (o.1 ∷ []) before)
          ∙ any_after (λ s. is_frame_code s.0) o.0 o.1 before (ap is_frame_code o.3 ∙ a.frame) in
          absurd (no_second (has_frame more) other framed b.frame b.allowed)

  pub one_head : (rest behind : List ℕ) (before more : List Segment) (code other : ℕ) → Head limits bytes before code rest → Head limits bytes more other behind
      → SameHead before more code other rest behind
  one_head rest behind before more code other a b =
      ⊎_elim (λ g. heads_on_from rest behind before more code other a b g) (λ g. turned more before other code behind rest (heads_on_from behind rest more before other code b a g))
      (segments_once before more a.front b.front (a.tail ++ rest) (b.tail ++ behind) a.spelled b.spelled (sym a.cut ∙ b.cut))

-- one text with the comment inserted
pub one_inserted : (limits : Limits) (bytes comment : List ℕ) (replace : Bool) (text other : List ℕ) → IsInserted limits bytes comment replace text → IsInserted limits bytes comment replace other → text ≡ other
one_inserted limits bytes comment replace text other a b =
    let s = one_head limits bytes a.3 b.3 a.0 b.0 a.1 b.1 (head_of limits bytes a.2 a.3 a.0 a.1 a.4 a.5) (head_of limits bytes b.2 b.3 b.0 b.1 b.4 b.5) in
    a.6 ∙ ap (λ l. inserted_head comment replace l a.1 ++ a.3) s.segments ∙ ap (λ k. inserted_head comment replace b.0 k ++ a.3) s.codes ∙ ap (λ l. inserted_head comment replace b.0 b.1 ++ l) s.rests ∙ sym b.6

-- COMPLETE FILES

-- a complete prefix: its segments, and EOI after them or nothing
pub data Whole (before : List Segment) (bytes rest : List ℕ) : Type 0 where
  at_scan : (contents front : List ℕ) → bytes ≡ front ++ rest → SpellsSegments ((0xda, contents) ∷ before) front → has_scan before ≡ false → Whole before bytes rest
  at_end : (front tail : List ℕ) → bytes ≡ front ++ (tail ++ rest) → SpellsSegments before front → SpellsMarker 0xd9 tail → has_scan before ≡ false → Whole before bytes rest

whole_of : (limits : Limits) (bytes front rest : List ℕ) (before : List Segment) → bytes ≡ front ++ rest → IsReadWhole limits front before → Whole before bytes rest
whole_of limits bytes front rest before e (inl h) = at_scan h.0 front e h.1 h.3
whole_of limits bytes front rest before e (inr h) = at_end h.1.front h.0 (e ∙ ap (λ l. l ++ rest) h.1.cut ∙ append_assoc h.1.front h.0 rest) h.1.spelled h.2 h.4

same_tail : (x y : Segment) (xs ys : List Segment) → x ∷ xs ≡ y ∷ ys → xs ≡ ys
same_tail x y xs ys e = cc

-- a scan among segments
no_scan : (later before : List Segment) (contents : List ℕ) (xs : List Segment) → xs ≡ later ++ (0xda, contents) ∷ before → has_scan xs ≡ false → ⊥
no_scan later before contents xs e none = clash (has_scan xs) (ap has_scan e ∙ any_after (λ s. s.0 == 0xda) later (0xda, contents) before refl) none

scan_goes_on : (before more : List Segment) (contents others : List ℕ) (later : List Segment) → (0xda, others) ∷ more ≡ later ++ (0xda, contents) ∷ before → has_scan more ≡ false → (later ≡ []) × (before ≡ more)
scan_goes_on before more contents others [] e none = (refl, sym (same_tail (0xda, others) (0xda, contents) more before e))
scan_goes_on before more contents others (x ∷ later) e none = absurd (no_scan later before contents more (same_tail (0xda, others) x more (later ++ (0xda, contents) ∷ before) e) none)

none_spelled : (later : List Segment) (text : List ℕ) → later ≡ [] → SpellsMore later text → text ≡ []
none_spelled later text e s = subst (λ l. SpellsMore l text) e s

-- nothing continues an EOI
end_goes_on : (before more : List Segment) (bytes front tail rest front2 behind : List ℕ) → bytes ≡ front ++ (tail ++ rest) → bytes ≡ front2 ++ behind → SpellsMarker 0xd9 tail → GoesOn before front more front2 → (more ≡ before) × (front2 ≡ front)
end_goes_on before more bytes front tail rest front2 behind e f m g = by g.0 g.1 g.2 g.3 g.4
  where
    by : (later : List Segment) (text : List ℕ) → more ≡ later ++ before → front2 ≡ front ++ text → SpellsMore later text → (more ≡ before) × (front2 ≡ front)
    by [] text same cut s = (same, cut ∙ ap (λ l. front ++ l) s ∙ append-nil front)
    by (x ∷ later) text same cut s =
        let from : text ++ behind ≡ tail ++ rest = append_cancel_left front (text ++ behind) (tail ++ rest) (sym (append_assoc front text behind) ∙ ap (λ l. l ++ behind) (sym cut) ∙ sym f ∙ e) in
        let o = marker_of_oldest x later text tail behind rest 0xd9 s m from in
        absurd (o.4 o.3)

abbrev SameWhole : List Segment → List Segment → List ℕ → List ℕ → Type 0
SameWhole before more rest behind = (before ≡ more) × (rest ≡ behind)

one_whole_front : (bytes rest behind : List ℕ) (before more : List Segment) → Whole before bytes rest → Whole more bytes behind → SameWhole before more rest behind
one_whole_front bytes rest behind before more (at_scan contents front e s none) (at_scan others front2 f t none2) =
    ⊎_elim
    (λ g.
    (let k = scan_goes_on before more contents others g.0 g.2 none2 in
    let same : front2 ≡ front = g.3 ∙ ap (λ l. front ++ l) (none_spelled g.0 g.1 k.0 g.4) ∙ append-nil front in
    (k.1, append_cancel_left front rest behind (sym e ∙ f ∙ ap (λ l. l ++ behind) same))))
    (λ g.
    (let k = scan_goes_on more before others contents g.0 g.2 none in
    let same : front ≡ front2 = g.3 ∙ ap (λ l. front2 ++ l) (none_spelled g.0 g.1 k.0 g.4) ∙ append-nil front2 in
    (sym k.1, append_cancel_left front2 rest behind (ap (λ l. l ++ rest) (sym same) ∙ sym e ∙ f))))
    (segments_once ((0xda, contents) ∷ before) ((0xda, others) ∷ more) front front2 rest behind s t (sym e ∙ f))
one_whole_front bytes rest behind before more (at_scan contents front e s none) (at_end front2 tail2 f t m2 none2) =
    ⊎_elim (λ g. absurd (no_scan g.0 before contents more g.2 none2))
    (λ g. absurd (no_scan [] before contents more (sym (end_goes_on more ((0xda, contents) ∷ before) bytes front2 tail2 behind front rest f e m2 g).0) none2))
    (segments_once ((0xda, contents) ∷ before) more front front2 rest (tail2 ++ behind) s t (sym e ∙ f))
one_whole_front bytes rest behind before more (at_end front tail e s m none) (at_scan others front2 f t none2) =
    ⊎_elim (λ g. absurd (no_scan [] more others before (sym (end_goes_on before ((0xda, others) ∷ more) bytes front tail rest front2 behind e f m g).0) none))
    (λ g. absurd (no_scan g.0 more others before g.2 none))
    (segments_once before ((0xda, others) ∷ more) front front2 (tail ++ rest) behind s t (sym e ∙ f))
one_whole_front bytes rest behind before more (at_end front tail e s m none) (at_end front2 tail2 f t m2 none2) =
    ⊎_elim
    (λ g.
    (let k = end_goes_on before more bytes front tail rest front2 (tail2 ++ behind) e f m g in
    let same = append_cancel_left front (tail ++ rest) (tail2 ++ behind) (sym e ∙ f ∙ ap (λ l. l ++ (tail2 ++ behind)) k.1) in
    (sym k.0, (marker_once 0xd9 0xd9 tail tail2 rest behind m m2 same).2)))
    (λ g.
    (let k = end_goes_on more before bytes front2 tail2 behind front (tail ++ rest) f e m2 g in
    let same = append_cancel_left front2 (tail ++ rest) (tail2 ++ behind) (ap (λ l. l ++ (tail ++ rest)) (sym k.1) ∙ sym e ∙ f) in
    (k.0, (marker_once 0xd9 0xd9 tail tail2 rest behind m m2 same).2)))
    (segments_once before more front front2 (tail ++ rest) (tail2 ++ behind) s t (sym e ∙ f))

-- one complete prefix
pub one_whole : (limits : Limits) (bytes : List ℕ) (n m : ℕ) (before more : List Segment) → n ≤ length bytes → m ≤ length bytes → IsReadWhole limits (take n bytes) before → IsReadWhole limits (take m bytes) more → (n ≡ m) × (before ≡ more)
one_whole limits bytes n m before more a b v w =
    let k = one_whole_front bytes (drop n bytes) (drop m bytes) before more
    (whole_of limits bytes (take n bytes) (drop n bytes) before (sym (take-append-drop n bytes)) v) (whole_of limits bytes (take m bytes) (drop m bytes) more (sym (take-append-drop m bytes)) w) in
    let e = ap length k.1 in
    (omega (arith, e, a, b, left n a, left m b), k.0)
  where
    left : (n : ℕ) → n ≤ length bytes → n + length (drop n bytes) ≡ length bytes
    left n h = let e = ap length (take-append-drop n bytes) in omega (arith, e, h, length-append (take n bytes) (drop n bytes), length-take-le n bytes h)
