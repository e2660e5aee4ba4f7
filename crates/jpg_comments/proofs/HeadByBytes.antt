-- The head of a file that gets a comment, byte by byte.
use Rattle.std.proofs.Common.{◌≡◌, ℕ, ◌+◌, ◌<◌, ◌≤◌, Bool, true, false, not, ◌||◌, ◌==◌, if◌then◌else◌, List, [], ◌∷◌, ◌++◌, length, take, suc, Ok, Err, Some, None, refl, sym, ap, ◌∙◌, subst, arith, inl, inr, ◌⊎◌}
use Rattle.std.specs.Prelude.{reverse, filter, flat_map}
use Rattle.std.specs.Int.{to_be_bytes, w16}
use Rattle.std.proofs.lemmas.Grind.{flat_map-append}
use Rattle.std.proofs.lemmas.List.{append_assoc, append-nil, length-append, reverse-append}
use Rattle.std.proofs.lemmas.List.Elements.{filter-append}
use Rattle.jpg_spec_write.specs.FileText.{segment_text}
use Rattle.jpg_spec.specs.Markers.{Segment, Rule, kept_rule, soi, has_frame, is_frame_code, code_fault_if, SpellsSegments, Pass, Between, PartOfSegment, Reached, at_soi, at_frame, at_eoi, at_segment, at_fault, at_part, Reaches}
use Rattle.jpg_spec_write.specs.CommentText.{RevealsNothing, IsFileFront}
use Rattle.jpg_spec.specs.declared.frame.Limits.{Limits}
use Rattle.jpg_spec.specs.declared.fault.Fault.TheVariants.{UnexpectedMarker}
use Rattle.jpg_spec.proofs.Segments.Reached.{reached_once}
use Rattle.jpg_spec.proofs.Basics.Common.{clash, whole_front}
use Rattle.jpg_base.specs.declared.stop.Stop.{Stop}
use Rattle.jpg_base.specs.declared.stop.Stop.TheVariants as stop
use Rattle.jpg_markers.specs.declared.segments.Phase.{Phase}
use Rattle.jpg_markers.specs.declared.segments.Phase.TheVariants as phase
use Rattle.jpg_markers.specs.declared.segments.SegStep.TheVariants as step
use Rattle.jpg_markers.specs.Reading.{Reading, AtPhase, RepresentsSegments, EndsAtEoi, Comes, HasMemory, PassesSome}
use Rattle.jpg_comments.specs.Inserting.{HoldsHead, copied_head, copied_segment, HasKept, IsAtFrame, StopsHead}
use Rattle.jpg_comments.proofs.Taken.{OneMore, Tells, taken_on, taken_some, fault_shown, within, frame_or_not}

-- WHERE A HEAD IS COMPLETE: at the marker of the frame header

abbrev pub heads_on : Reached → Bool
heads_on at_soi = true
heads_on at_frame = false
heads_on at_eoi = true
heads_on (at_segment s) = true
heads_on (at_fault f) = false
heads_on at_part = true

abbrev pub head_tells : (limits : Limits) → Tells limits (HoldsHead limits)
head_tells limits = record { goes = heads_on; faulty = λ f. refl; wholes = λ bytes w. (at_frame, (w.1.0, w.1.1.0, w.1.1.1, (w.0, w.1.1.2, w.1.1.3)), refl) }

-- SOME BYTES that complete nothing
pub kept_some : (limits : Limits) (replace : Bool) (r next : Reading) (bytes head piece : List ℕ) (n : ℕ) → HasKept limits replace bytes head r → next.taken < r.limits.input → next.limits ≡ r.limits → next.taken ≡ r.taken + n → PassesSome r piece (Ok n) next
    → HasKept limits replace (bytes ++ take n piece) head next
kept_some limits replace r next bytes head piece n h room same some passes =
    (h.0, taken_some limits (HoldsHead limits) (head_tells limits) r next bytes piece n h.0 refl h.1 (let is = ap (λ (l : Limits). l.input) h.1.limited in omega (arith, room, some, is)) same some passes, h.2, h.3)

-- A BYTE

-- complete segments aren't it
no_frame_whole : (rule : Rule) (bytes front : List ℕ) (before : List Segment) → bytes ≡ front → SpellsSegments before front → Pass rule before → Reaches rule bytes at_frame → ⊥
no_frame_whole rule bytes front [] e s p reaches = clash true refl (ap heads_on (reached_once rule bytes at_soi at_frame (e ∙ s) reaches))
no_frame_whole rule bytes front (x ∷ before) e s p reaches =
    clash true refl (ap heads_on (reached_once rule bytes (at_segment x) at_frame (before, subst (λ l. SpellsSegments (x ∷ before) l) (sym e) s, p) reaches))

-- nor is a part of a segment
no_frame_part : (rule : Rule) (bytes : List ℕ) (before : List Segment) (tail : List ℕ) → Between rule bytes before tail → PartOfSegment before tail → Reaches rule bytes at_frame → ⊥
no_frame_part rule bytes before [] between part reaches = no_frame_whole rule bytes between.front before (between.cut ∙ append-nil between.front) between.spelled between.passed reaches
no_frame_part rule bytes before (t ∷ tail) between part reaches =
    clash true refl (ap heads_on (reached_once rule bytes at_part at_frame (inr (before, t ∷ tail, between, part, no_nil t tail)) reaches))
  where
    no_nil : (x : ℕ) (xs : List ℕ) → x ∷ xs ≡ [] → ⊥
    no_nil x xs e = cc

frame_at : (r : Reading) (p : Phase) (bytes : List ℕ) (before : List Segment) → AtPhase r p bytes before → Reaches (kept_rule r.limits) bytes at_frame → IsFileFront r.limits bytes before r.code
frame_at r phase.Empty bytes before h reaches = absurd (clash true refl (ap heads_on (reached_once (kept_rule r.limits) bytes at_part at_frame (inl (inl h.0)) reaches)))
frame_at r phase.HalfStart bytes before h reaches = absurd (clash true refl (ap heads_on (reached_once (kept_rule r.limits) bytes at_part at_frame (inl (inr h.0)) reaches)))
frame_at r phase.Between bytes before h reaches = absurd (no_frame_part (kept_rule r.limits) bytes before h.0 h.1 (inl (0, h.3)) reaches)
frame_at r phase.Fill bytes before h reaches = absurd (no_frame_part (kept_rule r.limits) bytes before h.0 h.1 (inl (suc h.3.0, h.3.1)) reaches)
frame_at r phase.Coded bytes before h reaches = by (frame_or_not (is_frame_code r.code))
  where
    by : (is_frame_code r.code ≡ true) ⊎ (is_frame_code r.code ≡ false) → IsFileFront r.limits bytes before r.code
    by (inl e) = (h.0, h.1, h.3, e)
    by (inr e) = absurd (no_frame_part (kept_rule r.limits) bytes before h.0 h.1 (inr (r.code, h.0, h.3, inl (refl, e))) reaches)
frame_at r phase.HalfLength bytes before h reaches =
    let k = h.3 in absurd (no_frame_part (kept_rule r.limits) bytes before h.0 h.1 (inr (r.code, k.0, k.1, inr (inl (r.high, k.2, k.3)))) reaches)
frame_at r phase.Contents bytes before h reaches =
    let k = h.3 in
    let long = k.7 in let some = k.8 in
    absurd (no_frame_part (kept_rule r.limits) bytes before h.0 h.1 (inr (r.code, k.0, k.3, inr (inr (k.1, k.2, r.contents, k.4, k.5, k.6, omega (arith, long, some))))) reaches)
frame_at r phase.Ended bytes before h reaches = absurd h

-- a segment that isn't a frame header, if no prefix is a head
no_header : (limits : Limits) (bytes : List ℕ) (before : List Segment) (code : ℕ) (contents : List ℕ) → RevealsNothing limits (HoldsHead limits) bytes → SpellsSegments ((code, contents) ∷ before) bytes → Pass (kept_rule limits) ((code, contents) ∷ before)
    → is_frame_code code ≡ false
no_header limits bytes before code contents nothing s p = by (is_frame_code code) refl
  where
    marker : List ℕ
    marker = s.4.0

    rest : List ℕ
    rest = to_be_bytes w16 (length contents + 2) ++ contents

    front : List ℕ
    front = s.0 ++ marker

    cut : bytes ≡ front ++ rest
    cut = s.2 ∙ ap (λ l. s.0 ++ l) (s.4.3 ∙ append_assoc marker (to_be_bytes w16 (length contents + 2)) contents) ∙ sym (append_assoc s.0 marker rest)

    is : take (length front) bytes ≡ front
    is = ap (λ l. take (length front) l) cut ∙ whole_front front rest

    shorter : length front ≤ length bytes
    shorter = let e = ap length cut in omega (arith, e, length-append front rest)

    by : (b : Bool) → is_frame_code code ≡ b → is_frame_code code ≡ false
    by false e = e
    by true e =
        let between : Between (kept_rule limits) front before marker = record { front = s.0; cut = refl; spelled = s.3; passed = p.2 } in
        absurd ((nothing (length front) shorter).1 (subst (λ l. HoldsHead limits l) (sym is) (code, (before, (marker, between, (s.4.1, p.0, s.5), e)))))

-- what is kept with one more segment
pub kept_more : (replace : Bool) (code : ℕ) (contents : List ℕ) (before : List Segment) → copied_head replace ((code, contents) ∷ before) ≡ copied_head replace before ++ copied_segment replace code contents
kept_more replace code contents before = by replace
  where
    text : Segment → List ℕ
    text = λ s. segment_text s.0 s.1

    new : Segment
    new = (code, contents)

    other : Segment → Bool
    other = λ s. not (s.0 == 0xfe)

    turned : reverse (new ∷ before) ≡ reverse before ++ new ∷ []
    turned = reverse-append (new ∷ []) before

    one : (b : Bool) → (code == 0xfe) ≡ b → flat_map text (filter other (new ∷ [])) ≡ (if b then [] else segment_text code contents)
    one true e = rw e refl
    one false e = rw e (append-nil (segment_text code contents))

    by : (b : Bool) → copied_head b (new ∷ before) ≡ copied_head b before ++ copied_segment b code contents
    by true =
        ap (λ l. soi ++ l)
        (ap (λ l. flat_map text (filter other l)) turned ∙ ap (flat_map text) (filter-append other (reverse before) (new ∷ []))
        ∙ flat_map-append text (filter other (reverse before)) (filter other (new ∷ [])) ∙ ap (λ l. flat_map text (filter other (reverse before)) ++ l) (one (code == 0xfe) refl))
    by false =
        ap (λ l. soi ++ l)
        (ap (flat_map text) turned ∙ flat_map-append text (reverse before) (new ∷ []) ∙ ap (λ l. flat_map text (reverse before) ++ l) (append-nil (segment_text code contents)))

-- the segment's spelling
pub whole_at : (r : Reading) (bytes : List ℕ) (before : List Segment) → r.phase ≡ phase.Between → RepresentsSegments bytes before r → SpellsSegments before bytes × Pass (kept_rule r.limits) before
whole_at r bytes before between s =
    let at = subst (λ p. AtPhase r p bytes before) between s.1 in
    (subst (λ l. SpellsSegments before l) (sym (at.1.cut ∙ ap (λ t. at.1.front ++ t) at.3 ∙ append-nil at.1.front)) at.1.spelled, at.1.passed)

module _ (limits : Limits) (replace : Bool) (r : Reading) (bytes head : List ℕ) (h : HasKept limits replace bytes head r) where
  -- nothing is complete with it
  pub kept_on : (next : Reading) (byte : ℕ) (x : Reached) → OneMore r next → heads_on x ≡ true → Reaches (kept_rule next.limits) (bytes ++ byte ∷ []) x
      → RepresentsSegments (bytes ++ byte ∷ []) h.0 next → HasKept limits replace (bytes ++ byte ∷ []) head next
  kept_on next byte x m going reaches stands =
      (h.0, taken_on limits (HoldsHead limits) (head_tells limits) r next bytes byte h.0 h.0 x h.1 m going reaches stands, h.2, h.3)

  -- a fault; there is memory for a segment
  pub kept_stop : (next : Reading) (byte : ℕ) (e : Stop) → OneMore r next → HasMemory (Err e) → Comes (bytes ++ byte ∷ []) h.0 (Err e) next
      → StopsHead limits (bytes ++ byte ∷ []) e
  kept_stop next byte (stop.Fault f) m has comes = (fault_shown limits (HoldsHead limits) r next bytes byte h.0 f h.1 m comes.0 comes.2).1
  kept_stop next byte stop.NoMemory m has comes = absurd has

  -- EOI isn't allowed before the frame
  pub kept_eoi : (next : Reading) (all : List ℕ) → EndsAtEoi (kept_rule next.limits) h.0 all → ⊥
  kept_eoi next all ends = no_some (ap (λ b. code_fault_if b 0xd9) (sym h.2) ∙ ends.3)
    where
      no_some : Some UnexpectedMarker ≡ None → ⊥
      no_some e = cc

  -- THE FRAME HEADER'S MARKER

  pub kept_frame : (next : Reading) (byte : ℕ) → OneMore r next → Comes (bytes ++ byte ∷ []) h.0 (Ok step.Frame) next
      → IsAtFrame limits replace (bytes ++ byte ∷ []) head next
  kept_frame next byte m comes =
      let was = h.1.taken in
      let room = within h.1 m.short in
      let all = bytes ++ byte ∷ [] in (
        h.0,
        subst (λ l. IsFileFront l all h.0 next.code) (m.same ∙ h.1.limited) (frame_at next next.phase all h.0 comes.1.1 comes.0),
        h.3,
        omega (arith, m.one, was, length-append bytes (byte ∷ [])),
        omega (arith, was, room, length-append bytes (byte ∷ [])),
      )

  -- A SEGMENT

  -- with the last byte of a segment, if there is no memory to keep it
  pub kept_short : (next : Reading) (byte : ℕ) → OneMore r next → Comes (bytes ++ byte ∷ []) h.0 (Ok step.Whole) next → StopsHead limits (bytes ++ byte ∷ []) stop.NoMemory
  kept_short next byte m comes =
      let on = taken_on limits (HoldsHead limits) (head_tells limits) r next bytes byte h.0 ((next.code, next.contents) ∷ h.0) (at_segment (next.code, next.contents)) h.1 m refl comes.0 comes.1 in
      on.nothing

  -- and if there is
  pub kept_whole : (next : Reading) (new : List ℕ) (byte : ℕ) → OneMore r next → next.phase ≡ phase.Between
      → Comes (bytes ++ byte ∷ []) h.0 (Ok step.Whole) next → (length next.contents ≤ 65533 → new ≡ head ++ copied_segment replace next.code next.contents)
      → HasKept limits replace (bytes ++ byte ∷ []) new next
  kept_whole next new byte m between comes grows =
      let all = bytes ++ byte ∷ [] in
      let whole = whole_at next all ((next.code, next.contents) ∷ h.0) between comes.1 in
      let passed = subst (λ l. Pass (kept_rule l) ((next.code, next.contents) ∷ h.0)) (m.same ∙ h.1.limited) whole.1 in
      let on = taken_on limits (HoldsHead limits) (head_tells limits) r next bytes byte h.0 ((next.code, next.contents) ∷ h.0) (at_segment (next.code, next.contents)) h.1 m refl comes.0 comes.1 in
      let fits = whole.0.4.2 in (
        (next.code, next.contents) ∷ h.0,
        on,
        ap (λ b. b || has_frame h.0) (no_header limits all h.0 next.code next.contents on.nothing whole.0 passed) ∙ h.2,
        grows (omega (arith, fits)) ∙ ap (λ l. l ++ copied_segment replace next.code next.contents) h.3 ∙ sym (kept_more replace next.code next.contents h.0),
      )
