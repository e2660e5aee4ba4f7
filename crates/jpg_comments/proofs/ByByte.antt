-- The text of the comments, byte by byte.
use Rattle.std.proofs.Common.{◌≡◌, ℕ, ◌+◌, ◌<◌, Bool, true, false, not, ◌||◌, ◌==◌, if◌then◌else◌, List, [], ◌∷◌, ◌++◌, length, take, Ok, Err, refl, sym, ap, ◌∙◌, subst, arith, inl, inr, Result}
use Rattle.std.proofs.lemmas.Bool.Decides.{nat_tests}
use Rattle.std.proofs.lemmas.List.{append-nil, length-append, take_all}
use Rattle.std.proofs.Math.Seq.{take-append-add}
use Rattle.jpg_spec.specs.Markers.{Segment, kept_rule, has_scan, SpellsSegments, Pass, Reached, at_soi, at_frame, at_eoi, at_segment, at_fault, at_part, Reaches}
use Rattle.jpg_spec_write.specs.CommentText.{comments_text, printed, IsReadWhole, RevealsNothing}
use Rattle.jpg_spec.specs.declared.frame.Limits.{Limits}
use Rattle.jpg_base.specs.declared.stop.Stop.{Stop}
use Rattle.jpg_base.specs.declared.stop.Stop.TheVariants as stop
use Rattle.jpg_markers.specs.declared.segments.Phase.TheVariants as phase
use Rattle.jpg_markers.specs.declared.segments.SegStep.TheVariants as step
use Rattle.jpg_markers.specs.Reading.{Reading, AtPhase, RepresentsSegments, RevealsAfter, Comes, HasMemory, PassesSome}
use Rattle.jpg_comments.specs.SegmentsSoFar.{IsBegun, Appends}
use Rattle.jpg_comments.specs.Printing.{HoldsWhole, HasPrinted, PrintsSegment, due_text, StopsPrinting, AfterPrinted}
use Rattle.jpg_comments.proofs.Taken.{OneMore, Tells, nothing_first, taken_on, taken_some, fault_shown, within, begun}

-- WHERE A FILE IS COMPLETE: at EOI, and at the end of a scan header

abbrev pub reads_on : Reached → Bool
reads_on at_soi = true
reads_on at_frame = true
reads_on at_eoi = false
reads_on (at_segment s) = not (s.0 == 0xda)
reads_on (at_fault f) = false
reads_on at_part = true

pub read_wholes : (limits : Limits) (bytes : List ℕ) (before : List Segment) → IsReadWhole limits bytes before → (y : Reached) × Reaches (kept_rule limits) bytes y × (reads_on y ≡ false)
read_wholes limits bytes before (inl h) = (at_segment (0xda, h.0), (before, h.1, h.2), refl)
read_wholes limits bytes before (inr h) = (at_eoi, (before, h.0, h.1, h.2, h.3), refl)

abbrev pub reading_tells : (limits : Limits) → Tells limits (HoldsWhole limits)
reading_tells limits = record { goes = reads_on; faulty = λ f. refl; wholes = λ bytes w. read_wholes limits bytes w.0 w.1 }

-- at the start
pub printed_start : (limits : Limits) (r : Reading) → RepresentsSegments [] [] r → r.limits ≡ limits → r.taken ≡ 0 → HasPrinted limits [] [] r
printed_start limits r stands same none = (
  [],
  record { stands = stands; limited = same; taken = none; most = omega (arith, none); nothing = nothing_first limits (HoldsWhole limits) (reading_tells limits) refl },
  refl,
  refl,
)

-- SOME BYTES that complete nothing
pub printed_some : (limits : Limits) (r next : Reading) (bytes text piece : List ℕ) (n : ℕ) → HasPrinted limits bytes text r → next.taken < r.limits.input → next.limits ≡ r.limits → next.taken ≡ r.taken + n → PassesSome r piece (Ok n) next
    → HasPrinted limits (bytes ++ take n piece) text next
printed_some limits r next bytes text piece n h room same some passes =
    (h.0, taken_some limits (HoldsWhole limits) (reading_tells limits) r next bytes piece n h.0 refl h.1 (let is = ap (λ (l : Limits). l.input) h.1.limited in omega (arith, room, some, is)) same some passes, h.2, h.3)

-- A segment that is printed isn't the header of a scan.
no_scan : (code : ℕ) (contents : List ℕ) (n : ℕ) → n < length (due_text code contents) → not (code == 0xda) ≡ true
no_scan code contents n less = by (code == 0xfe) refl (code == 0xda) refl
  where
    by : (b : Bool) → (code == 0xfe) ≡ b → (d : Bool) → (code == 0xda) ≡ d → not (code == 0xda) ≡ true
    by b e false d = ap not d
    by true e true d = absurd (grind (arith, nat_tests, e, d))
    by false e true d =
        let none : due_text code contents ≡ [] = ap (λ (x : Bool). if x then printed contents else []) e in
        let size = ap length none in absurd (omega (arith, less, size))

-- A BYTE

module _ (limits : Limits) (r next : Reading) (bytes text : List ℕ) (byte : ℕ) (h : HasPrinted limits bytes text r) (m : OneMore r next) where
  -- nothing is complete with it
  pub printed_on : (x : Reached) → reads_on x ≡ true → Reaches (kept_rule next.limits) (bytes ++ byte ∷ []) x → RepresentsSegments (bytes ++ byte ∷ []) h.0 next
      → HasPrinted limits (bytes ++ byte ∷ []) text next
  printed_on x going reaches stands =
      (h.0, taken_on limits (HoldsWhole limits) (reading_tells limits) r next bytes byte h.0 h.0 x h.1 m going reaches stands, h.2, h.3)

  -- a fault; there is memory for a segment
  pub printed_stop : (e : Stop) → HasMemory (Err e) → Comes (bytes ++ byte ∷ []) h.0 (Err e) next → StopsPrinting limits (bytes ++ byte ∷ []) text e
  printed_stop (stop.Fault f) has comes =
      let all = bytes ++ byte ∷ [] in
      let shown = fault_shown limits (HoldsWhole limits) r next bytes byte h.0 f h.1 m comes.0 comes.2 in
      let at = shown.0 in
      let reveals = subst (λ l. RevealsAfter (kept_rule l) h.0 f.fault all) (m.same ∙ h.1.limited) comes.1 in
      (shown.1, (h.0, inl (subst (λ l. RevealsAfter (kept_rule limits) h.0 f.fault l) (sym (take_all f.at all (omega (arith, at)))) reveals), h.3))
  printed_stop stop.NoMemory has comes = absurd has

  -- A SEGMENT

  -- with the bytes of a segment that is complete
  pub printed_whole : (old new : List ℕ) (result : Result Bool Stop) → next.phase ≡ phase.Between → Comes (bytes ++ byte ∷ []) h.0 (Ok step.Whole) next
      → PrintsSegment next.code next.contents result old new → Appends (λ all. AfterPrinted limits (bytes ++ byte ∷ []) all result next) text old new
  printed_whole old new (Ok true) between comes prints =
      let e : next.limits ≡ limits = m.same ∙ h.1.limited in
      let was = h.1.taken in
      let room = within h.1 m.short in
      let all = bytes ++ byte ∷ [] in
      let code : next.code ≡ 0xda = grind (arith, nat_tests, prints) in
      let none : due_text next.code next.contents ≡ [] = ap (λ k. due_text k next.contents) code in
      let at = subst (λ p. AtPhase next p all ((next.code, next.contents) ∷ h.0)) between comes.1.1 in
      let spelled : SpellsSegments ((next.code, next.contents) ∷ h.0) all = subst (λ l. SpellsSegments ((next.code, next.contents) ∷ h.0) l) (sym (at.1.cut ∙ ap (λ t. at.1.front ++ t) at.3 ∙ append-nil at.1.front)) at.1.spelled in
      let passed = subst (λ l. Pass (kept_rule l) ((next.code, next.contents) ∷ h.0)) e at.1.passed in (
        [],
        prints.1 ∙ ap (λ l. old ++ l) none,
        (
          h.0,
          inl (next.contents, subst (λ k. SpellsSegments ((k, next.contents) ∷ h.0) all) code spelled, subst (λ k. Pass (kept_rule limits) ((k, next.contents) ∷ h.0)) code passed, h.2),
          append-nil text ∙ h.3,
          omega (arith, was, room, length-append bytes (byte ∷ [])),
        ),
      )
  printed_whole old new (Ok false) between comes prints =
      let due = due_text next.code next.contents in (
        due,
        prints.1,
        (
          (next.code, next.contents) ∷ h.0,
          taken_on limits (HoldsWhole limits) (reading_tells limits) r next bytes byte h.0 ((next.code, next.contents) ∷ h.0) (at_segment (next.code, next.contents)) h.1 m (ap not (sym prints.0)) comes.0 comes.1,
          ap (λ b. b || has_scan h.0) (sym prints.0) ∙ h.2,
          ap (λ l. l ++ due) h.3,
        ),
      )
  printed_whole old new (Err (stop.Fault f)) between comes prints = absurd prints
  printed_whole old new (Err stop.NoMemory) between comes prints =
      let due = due_text next.code next.contents in
      let all = bytes ++ byte ∷ [] in
      let known = comments_text h.0 in
      let more = (next.code, next.contents) ∷ h.0 in
      let less = prints.2 in
      let whole = sym (take_all (length all) all (omega arith)) in
      let on = taken_on limits (HoldsWhole limits) (reading_tells limits) r next bytes byte h.0 more (at_segment (next.code, next.contents)) h.1 m (no_scan next.code next.contents prints.0 less) comes.0 comes.1 in (
        take prints.0 due,
        prints.1,
        record {
          count = length known + prints.0;
          front = length all;
          before = more;
          within = omega arith;
          nothing = subst (λ l. RevealsNothing limits (HoldsWhole limits) l) whole on.nothing;
          begun = subst (λ l. IsBegun (kept_rule limits) l more) whole (begun limits next all more (m.same ∙ h.1.limited) comes.1);
          is = ap (λ l. l ++ take prints.0 due) h.3 ∙ sym (take-append-add known due prints.0);
          less = omega (arith, less, length-append known due);
        },
      )
