-- The effect of each further byte on the bytes that a reader of segments represents.
use Rattle.std.proofs.Common.{◌≡◌, ℕ, zero, suc, ◌+◌, ◌-◌, ◌/◌, ◌%◌, ◌<◌, ◌≤◌, Bool, true, false, List, [], ◌∷◌, ◌++◌, length, replicate, Option, Some, None, Ok, refl, sym, ap, ◌∙◌, subst, arith, inl, inr}
use Rattle.std.proofs.lemmas.List.{append_assoc, append-nil, length-append}
use Rattle.std.specs.Int.{to_be_bytes, w16}
use Rattle.jpg_spec.specs.Segments.{two_bytes}
use Rattle.jpg_spec.specs.Markers.{Segment, Rule, soi, SpellsMarker, SpellsSegment, SpellsSegments, code_fault, code_fault_if, is_frame_code, kept_rule, Pass, Between, BeginsSegment, SegmentsReveal, Reaches, at_eoi}
use Rattle.jpg_spec.specs.declared.fault.Fault.{Fault}
use Rattle.jpg_spec.specs.declared.fault.Fault.TheVariants.{NotJpeg, NoMarker, BadLength, MarkersTooLarge}
use Rattle.jpg_markers.specs.declared.seen.Seen.{Seen}
use Rattle.jpg_markers.specs.declared.segments.Phase.{Phase}
use Rattle.jpg_markers.specs.declared.segments.Phase.TheVariants as phase
use Rattle.jpg_markers.specs.declared.segments.SegStep.TheVariants as step
use Rattle.jpg_markers.specs.Seen.{HasSeen}
use Rattle.jpg_markers.specs.Reading.{Reading, AtPhase, RepresentsSegments, HasWholeSegment, RevealsAfter, EndsAtEoi, Comes, with_contents}

-- BETWEEN segments

pub at_is : (r : Reading) (p : Phase) (bytes : List ℕ) (before : List Segment) → r.phase ≡ p → RepresentsSegments bytes before r → AtPhase r p bytes before
at_is r p bytes before e s = subst (λ (q : Phase). AtPhase r q bytes before) e s.1

-- a fault after these segments, and the bytes that have it
shown : (rule : Rule) (before : List Segment) (fault : Fault) (bytes : List ℕ) → RevealsAfter rule before fault bytes → SegmentsReveal rule fault bytes × RevealsAfter rule before fault bytes
shown rule before fault bytes (inl (is, none, x)) = (inl (is, x), inl (is, none, x))
shown rule before fault bytes (inr (tail, between, x)) = (inr (before, tail, between, x), inr (tail, between, x))

pub further : (rule : Rule) (bytes : List ℕ) (before : List Segment) (tail more : List ℕ) → Between rule bytes before tail → Between rule (bytes ++ more) before (tail ++ more)
further rule bytes before tail more b = record {
  front = b.front;
  cut = ap (λ (x : List ℕ). x ++ more) b.cut ∙ append_assoc b.front tail more;
  spelled = b.spelled;
  passed = b.passed;
}

pub not_nil : (xs : List ℕ) (b : ℕ) → xs ++ b ∷ [] ≡ [] → ⊥
not_nil [] b e = absurd cc
not_nil (x ∷ xs) b e = absurd cc

same_more : (b n : ℕ) → replicate n b ++ b ∷ [] ≡ replicate (suc n) b
same_more b zero = refl
same_more b (suc n) = ap (λ (xs : List ℕ). b ∷ xs) (same_more b n)

-- AT THE START

pub start_fault : (r : Reading) (bytes : List ℕ) (before : List Segment) (byte : ℕ) → r.phase ≡ phase.Empty → RepresentsSegments bytes before r → (byte ≡ 255 → ⊥) → SegmentsReveal (kept_rule r.limits) NotJpeg (bytes ++ byte ∷ []) × RevealsAfter (kept_rule r.limits) before NotJpeg (bytes ++ byte ∷ [])
start_fault r bytes before byte e s ne =
    let a = at_is r phase.Empty bytes before e s in
    shown (kept_rule r.limits) before NotJpeg (bytes ++ byte ∷ []) (inl (refl, a.1, inl (byte, ap (λ (b : List ℕ). b ++ byte ∷ []) a.0, ne)))

pub second_start : (r : Reading) (bytes : List ℕ) (before : List Segment) → r.phase ≡ phase.HalfStart → RepresentsSegments bytes before r → Comes (bytes ++ 0xd8 ∷ []) before (Ok step.Start) (record r { phase = phase.Between })
second_start r bytes before e s =
    let a = at_is r phase.HalfStart bytes before e s in
    let cut : bytes ++ 0xd8 ∷ [] ≡ soi = ap (λ (b : List ℕ). b ++ 0xd8 ∷ []) a.0 in
    let P : List Segment → Type 0 = λ b. AtPhase (record r { phase = phase.Between }) phase.Between (bytes ++ 0xd8 ∷ []) b in
    (cut, (s.0, subst P (sym a.1) ([], record { front = soi; cut = cut; spelled = refl; passed = tt }, a.2, refl)))

pub second_fault : (r : Reading) (bytes : List ℕ) (before : List Segment) (byte : ℕ) → r.phase ≡ phase.HalfStart → RepresentsSegments bytes before r → (byte ≡ 0xd8 → ⊥) → SegmentsReveal (kept_rule r.limits) NotJpeg (bytes ++ byte ∷ []) × RevealsAfter (kept_rule r.limits) before NotJpeg (bytes ++ byte ∷ [])
second_fault r bytes before byte e s ne =
    let a = at_is r phase.HalfStart bytes before e s in
    shown (kept_rule r.limits) before NotJpeg (bytes ++ byte ∷ []) (inl (refl, a.1, inr (byte, ap (λ (b : List ℕ). b ++ byte ∷ []) a.0, ne)))

-- AFTER A SEGMENT

pub item_more : (r : Reading) (bytes : List ℕ) (before : List Segment) → r.phase ≡ phase.Between → RepresentsSegments bytes before r → Comes (bytes ++ 255 ∷ []) before (Ok step.More) (record r { phase = phase.Fill })
item_more r bytes before e s =
    let (tail, between, seen, none) = at_is r phase.Between bytes before e s in
    let next = further (kept_rule r.limits) bytes before tail (255 ∷ []) between in
    let is : tail ++ 255 ∷ [] ≡ 255 ∷ [] = ap (λ (t : List ℕ). t ++ 255 ∷ []) none in
    (inr (before, tail ++ 255 ∷ [], next, inl (1, is), not_nil tail 255), (s.0, (tail ++ 255 ∷ [], next, seen, (0, is))))

-- AFTER FF

pub fill_again : (r : Reading) (bytes : List ℕ) (before : List Segment) → r.phase ≡ phase.Fill → RepresentsSegments bytes before r → Comes (bytes ++ 255 ∷ []) before (Ok step.More) r
fill_again r bytes before e s =
    let (tail, between, seen, (fill, is)) = at_is r phase.Fill bytes before e s in
    let next = further (kept_rule r.limits) bytes before tail (255 ∷ []) between in
    let more : tail ++ 255 ∷ [] ≡ replicate (suc (suc fill)) 255 = ap (λ (t : List ℕ). t ++ 255 ∷ []) is ∙ same_more 255 (suc fill) in
    let P : Phase → Type 0 = λ p. AtPhase r p (bytes ++ 255 ∷ []) before in
    (inr (before, tail ++ 255 ∷ [], next, inl (suc (suc fill), more), not_nil tail 255), (s.0, subst P (sym e) (tail ++ 255 ∷ [], next, seen, (suc fill, more))))

pub fill_stuffed : (r : Reading) (bytes : List ℕ) (before : List Segment) → r.phase ≡ phase.Fill → RepresentsSegments bytes before r → SegmentsReveal (kept_rule r.limits) NoMarker (bytes ++ 0 ∷ []) × RevealsAfter (kept_rule r.limits) before NoMarker (bytes ++ 0 ∷ [])
fill_stuffed r bytes before e s =
    let (tail, between, seen, (fill, is)) = at_is r phase.Fill bytes before e s in
    let next = further (kept_rule r.limits) bytes before tail (0 ∷ []) between in
    shown (kept_rule r.limits) before NoMarker (bytes ++ 0 ∷ []) (inr (tail ++ 0 ∷ [], next, inl (refl, inr (fill, ap (λ (t : List ℕ). t ++ 0 ∷ []) is))))

-- the fault of a code, by what was read
pub fault_from : (r : Reading) (code : ℕ) (result due : Option Fault) → result ≡ code_fault_if r.seen.framed code → result ≡ due
    → (before : List Segment) → HasSeen r.limits r.seen before → code_fault before code ≡ due
fault_from r code result due e f before h = ap (λ (b : Bool). code_fault_if b code) (sym h.framed) ∙ sym e ∙ f

-- the marker that a code makes
pub record Marks (r : Reading) (bytes : List ℕ) (before : List Segment) (code : ℕ) : Type 0 where
  pub tail : List ℕ
  pub between : Between (kept_rule r.limits) (bytes ++ code ∷ []) before tail
  pub seen : HasSeen r.limits r.seen before
  pub marker : SpellsMarker code tail
  pub some : tail ≡ [] → ⊥

marks : (r : Reading) (bytes : List ℕ) (before : List Segment) (code : ℕ) → r.phase ≡ phase.Fill → RepresentsSegments bytes before r → (code ≡ 0 → ⊥) → (code ≡ 255 → ⊥) → Marks r bytes before code
marks r bytes before code e s low high =
    let (tail, between, seen, (fill, is)) = at_is r phase.Fill bytes before e s in
    record {
      tail = tail ++ code ∷ [];
      between = further (kept_rule r.limits) bytes before tail (code ∷ []) between;
      seen = seen;
      marker = (fill, ap (λ (t : List ℕ). t ++ code ∷ []) is, (low, high));
      some = not_nil tail code;
    }

pub code_wrong : (r : Reading) (bytes : List ℕ) (before : List Segment) (code : ℕ) (fault : Fault) → r.phase ≡ phase.Fill → RepresentsSegments bytes before r → (code ≡ 0 → ⊥) → (code ≡ 255 → ⊥)
    → ((before : List Segment) → HasSeen r.limits r.seen before → code_fault before code ≡ Some fault) → SegmentsReveal (kept_rule r.limits) fault (bytes ++ code ∷ []) × RevealsAfter (kept_rule r.limits) before fault (bytes ++ code ∷ [])
code_wrong r bytes before code fault e s low high wrong =
    let m = marks r bytes before code e s low high in
    shown (kept_rule r.limits) before fault (bytes ++ code ∷ []) (inr (m.tail, m.between, inr (inl (code, m.marker, wrong before m.seen))))

pub code_ends : (r : Reading) (bytes : List ℕ) (before : List Segment) (code : ℕ) → r.phase ≡ phase.Fill → RepresentsSegments bytes before r → (code ≡ 0 → ⊥) → (code ≡ 255 → ⊥) → code ≡ 0xd9
    → ((before : List Segment) → HasSeen r.limits r.seen before → code_fault before code ≡ None) → Reaches (kept_rule r.limits) (bytes ++ code ∷ []) at_eoi × EndsAtEoi (kept_rule r.limits) before (bytes ++ code ∷ [])
code_ends r bytes before code e s low high is good =
    let m = marks r bytes before code e s low high in
    let marker : SpellsMarker 0xd9 m.tail = subst (λ (k : ℕ). SpellsMarker k m.tail) is m.marker in
    let fine : code_fault before 0xd9 ≡ None = subst (λ (k : ℕ). code_fault before k ≡ None) is (good before m.seen) in
    ((before, m.tail, m.between, marker, fine), (m.tail, m.between, marker, fine))

pub code_frame : (r : Reading) (bytes : List ℕ) (before : List Segment) (code : ℕ) → r.phase ≡ phase.Fill → RepresentsSegments bytes before r → (code ≡ 0 → ⊥) → (code ≡ 255 → ⊥) → (code ≡ 0xd9 → ⊥)
    → ((before : List Segment) → HasSeen r.limits r.seen before → code_fault before code ≡ None) → is_frame_code code ≡ true
    → Comes (bytes ++ code ∷ []) before (Ok step.Frame) (record r { code = code; phase = phase.Coded })
code_frame r bytes before code e s low high end good is =
    let m = marks r bytes before code e s low high in
    let begins : BeginsSegment before code m.tail = (m.marker, good before m.seen, end) in
    ((before, m.tail, m.between, (code, begins, is)), (s.0, (m.tail, m.between, m.seen, begins)))

pub code_more : (r : Reading) (bytes : List ℕ) (before : List Segment) (code : ℕ) → r.phase ≡ phase.Fill → RepresentsSegments bytes before r → (code ≡ 0 → ⊥) → (code ≡ 255 → ⊥) → (code ≡ 0xd9 → ⊥)
    → ((before : List Segment) → HasSeen r.limits r.seen before → code_fault before code ≡ None) → is_frame_code code ≡ false
    → Comes (bytes ++ code ∷ []) before (Ok step.More) (record r { code = code; phase = phase.Coded })
code_more r bytes before code e s low high end good is =
    let m = marks r bytes before code e s low high in
    let begins : BeginsSegment before code m.tail = (m.marker, good before m.seen, end) in
    (inr (before, m.tail, m.between, inr (code, m.tail, begins, inl (refl, is)), m.some), (s.0, (m.tail, m.between, m.seen, begins)))

-- THE LENGTH

pub high_more : (r : Reading) (bytes : List ℕ) (before : List Segment) (byte : ℕ) → r.phase ≡ phase.Coded → RepresentsSegments bytes before r → byte < 256
    → Comes (bytes ++ byte ∷ []) before (Ok step.More) (record r { high = byte; phase = phase.HalfLength })
high_more r bytes before byte e s fits =
    let (tail, between, seen, begins) = at_is r phase.Coded bytes before e s in
    let next = further (kept_rule r.limits) bytes before tail (byte ∷ []) between in (
      inr (before, tail ++ byte ∷ [], next, inr (r.code, tail, begins, inr (inl (byte, refl, fits))), not_nil tail byte),
      (s.0, (tail ++ byte ∷ [], next, seen, (tail, begins, refl, fits))),
    )

pub low_fault : (r : Reading) (bytes : List ℕ) (before : List Segment) (byte : ℕ) → r.phase ≡ phase.HalfLength → RepresentsSegments bytes before r → two_bytes r.high byte < 2 → SegmentsReveal (kept_rule r.limits) BadLength (bytes ++ byte ∷ []) × RevealsAfter (kept_rule r.limits) before BadLength (bytes ++ byte ∷ [])
low_fault r bytes before byte e s short =
    let (tail, between, seen, (marker, begins, is, fits)) = at_is r phase.HalfLength bytes before e s in
    let next = further (kept_rule r.limits) bytes before tail (byte ∷ []) between in
    let cut : tail ++ byte ∷ [] ≡ marker ++ r.high ∷ byte ∷ [] = ap (λ (t : List ℕ). t ++ byte ∷ []) is ∙ append_assoc marker (r.high ∷ []) (byte ∷ []) in
    shown (kept_rule r.limits) before BadLength (bytes ++ byte ∷ []) (inr (tail ++ byte ∷ [], next, inr (inr (inl (refl, (r.code, marker, r.high, byte, begins, cut, short))))))

pub low_more : (r : Reading) (bytes : List ℕ) (before : List Segment) (byte left : ℕ) → r.phase ≡ phase.HalfLength → RepresentsSegments bytes before r → byte < 256 → left + 2 ≡ two_bytes r.high byte → 1 ≤ left
    → Comes (bytes ++ byte ∷ []) before (Ok step.More) (record r { left = left; contents = []; phase = phase.Contents })
low_more r bytes before byte left e s small long some =
    let (tail, between, seen, (marker, begins, is, fits)) = at_is r phase.HalfLength bytes before e s in
    let next = further (kept_rule r.limits) bytes before tail (byte ∷ []) between in
    let cut : tail ++ byte ∷ [] ≡ marker ++ r.high ∷ byte ∷ [] = ap (λ (t : List ℕ). t ++ byte ∷ []) is ∙ append_assoc marker (r.high ∷ []) (byte ∷ []) in (
      inr (before, tail ++ byte ∷ [], next, inr (r.code, marker, begins, inr (inr (r.high, byte, [], cut, fits, small, omega (arith, long, some)))), not_nil tail byte),
      (s.0, (tail ++ byte ∷ [], next, seen, (marker, r.high, byte, begins, cut, fits, small, omega (arith, long), some))),
    )

-- a length in two bytes
length_is : (high low n : ℕ) → high < 256 → low < 256 → n ≡ two_bytes high low → to_be_bytes w16 n ≡ high ∷ low ∷ []
length_is high low n h l e =
    let a : n / 256 % 256 ≡ high = omega (arith, h, l, e) in
    let b : n % 256 ≡ low = omega (arith, h, l, e) in
    ap (λ (x : ℕ). (let bytes : List ℕ = x ∷ n % 256 ∷ [] in bytes)) a ∙ ap (λ (x : ℕ). (let bytes : List ℕ = high ∷ x ∷ [] in bytes)) b

pub spelled : (code high low : ℕ) (marker contents : List ℕ) → SpellsMarker code marker → high < 256 → low < 256 → length contents + 2 ≡ two_bytes high low
    → SpellsSegment code contents (marker ++ high ∷ low ∷ contents)
spelled code high low marker contents m h l e =
    (marker, m, omega (arith, h, l, e), sym (append_assoc marker (high ∷ low ∷ []) contents) ∙ ap (λ (bytes : List ℕ). (marker ++ bytes) ++ contents) (sym (length_is high low (length contents + 2) h l e)))

pub low_whole : (r : Reading) (bytes : List ℕ) (before : List Segment) (byte : ℕ) → r.phase ≡ phase.HalfLength → RepresentsSegments bytes before r → byte < 256 → two_bytes r.high byte ≡ 2
    → HasWholeSegment (bytes ++ byte ∷ []) before (record r { left = 0; contents = [] })
low_whole r bytes before byte e s small two =
    let (tail, between, seen, (marker, begins, is, fits)) = at_is r phase.HalfLength bytes before e s in
    let next = further (kept_rule r.limits) bytes before tail (byte ∷ []) between in
    let cut : tail ++ byte ∷ [] ≡ marker ++ r.high ∷ byte ∷ [] = ap (λ (t : List ℕ). t ++ byte ∷ []) is ∙ append_assoc marker (r.high ∷ []) (byte ∷ []) in
    let P : List ℕ → Type 0 = λ t. SpellsSegment r.code [] t in
    (tail ++ byte ∷ [], next, seen, subst P (sym cut) (spelled r.code r.high byte marker [] begins.0 fits small (sym two)), begins.1, begins.2)

-- THE CONTENTS

grown_by : (high low : ℕ) (marker contents tail more : List ℕ) → tail ≡ marker ++ high ∷ low ∷ contents → tail ++ more ≡ marker ++ high ∷ low ∷ (contents ++ more)
grown_by high low marker contents tail more e = ap (λ (t : List ℕ). t ++ more) e ∙ append_assoc marker (high ∷ low ∷ contents) more

grown : (high low byte : ℕ) (marker contents tail : List ℕ) → tail ≡ marker ++ high ∷ low ∷ contents → tail ++ byte ∷ [] ≡ marker ++ high ∷ low ∷ (contents ++ byte ∷ [])
grown high low byte marker contents tail e = grown_by high low marker contents tail (byte ∷ []) e

-- some of them at once, without the last one
pub contents_more : (r : Reading) (bytes : List ℕ) (before : List Segment) (more : List ℕ) → r.phase ≡ phase.Contents → RepresentsSegments bytes before r → length more + 1 ≤ r.left → RepresentsSegments (bytes ++ more) before (with_contents r more)
contents_more r bytes before more e s few =
    let (tail, between, seen, (marker, high, low, begins, is, h, l, long, least)) = at_is r phase.Contents bytes before e s in
    let next = further (kept_rule r.limits) bytes before tail more between in
    let cut = grown_by high low marker r.contents tail more is in
    let sum = length-append r.contents more in
    let all : length (r.contents ++ more) + (r.left - length more) + 2 ≡ two_bytes high low = omega (arith, long, few, sum) in
    let some : 1 ≤ r.left - length more = omega (arith, few) in
    let P : Phase → Type 0 = λ p. AtPhase (with_contents r more) p (bytes ++ more) before in
    (s.0, subst P (sym e) (tail ++ more, next, seen, (marker, high, low, begins, cut, h, l, all, some)))

pub content_more : (r : Reading) (bytes : List ℕ) (before : List Segment) (byte left : ℕ) → r.phase ≡ phase.Contents → RepresentsSegments bytes before r → left + 1 ≡ r.left → 1 ≤ left
    → Comes (bytes ++ byte ∷ []) before (Ok step.More) (record r { left = left; contents = r.contents ++ byte ∷ [] })
content_more r bytes before byte left e s one some =
    let (tail, between, seen, (marker, high, low, begins, is, h, l, long, least)) = at_is r phase.Contents bytes before e s in
    let next = further (kept_rule r.limits) bytes before tail (byte ∷ []) between in
    let cut = grown high low byte marker r.contents tail is in
    let more : length (r.contents ++ byte ∷ []) + left + 2 ≡ two_bytes high low = omega (arith, long, one, length-append r.contents (byte ∷ [])) in
    let P : Phase → Type 0 = λ p. AtPhase (record r { left = left; contents = r.contents ++ byte ∷ [] }) p (bytes ++ byte ∷ []) before in (
      inr (before, tail ++ byte ∷ [], next, inr (r.code, marker, begins, inr (inr (high, low, r.contents ++ byte ∷ [], cut, h, l, omega (arith, more, some)))), not_nil tail byte),
      (s.0, subst P (sym e) (tail ++ byte ∷ [], next, seen, (marker, high, low, begins, cut, h, l, more, some))),
    )

pub content_whole : (r : Reading) (bytes : List ℕ) (before : List Segment) (byte : ℕ) → r.phase ≡ phase.Contents → RepresentsSegments bytes before r → r.left ≤ 1
    → HasWholeSegment (bytes ++ byte ∷ []) before (record r { contents = r.contents ++ byte ∷ [] })
content_whole r bytes before byte e s last =
    let (tail, between, seen, (marker, high, low, begins, is, h, l, long, least)) = at_is r phase.Contents bytes before e s in
    let next = further (kept_rule r.limits) bytes before tail (byte ∷ []) between in
    let cut = grown high low byte marker r.contents tail is in
    let all : length (r.contents ++ byte ∷ []) + 2 ≡ two_bytes high low = omega (arith, long, last, least, length-append r.contents (byte ∷ [])) in
    let P : List ℕ → Type 0 = λ t. SpellsSegment r.code (r.contents ++ byte ∷ []) t in
    (tail ++ byte ∷ [], next, seen, subst P (sym cut) (spelled r.code high low marker (r.contents ++ byte ∷ []) begins.0 h l all), begins.1, begins.2)

-- A COMPLETE SEGMENT

pub whole_passes : (r : Reading) (bytes : List ℕ) (before : List Segment) (next : Seen) → r.stop ≡ None → HasWholeSegment bytes before r
    → ((before : List Segment) → HasSeen r.limits r.seen before → (kept_rule r.limits before r.code r.contents ≡ None) × HasSeen r.limits next ((r.code, r.contents) ∷ before))
    → Comes bytes before (Ok step.Whole) (record r { seen = next; phase = phase.Between })
whole_passes r bytes before next going (tail, between, seen, segment, good, end) passes =
    let p = passes before seen in
    let all : SpellsSegments ((r.code, r.contents) ∷ before) bytes = (between.front, tail, between.cut, between.spelled, segment, end) in
    let pass : Pass (kept_rule r.limits) ((r.code, r.contents) ∷ before) = (good, p.0, between.passed) in
    ((before, all, pass), (going, ([], record { front = bytes; cut = sym (append-nil bytes); spelled = all; passed = pass }, p.1, refl)))

pub whole_fault : (r : Reading) (bytes : List ℕ) (before : List Segment) → HasWholeSegment bytes before r
    → ((before : List Segment) → HasSeen r.limits r.seen before → kept_rule r.limits before r.code r.contents ≡ Some MarkersTooLarge) → SegmentsReveal (kept_rule r.limits) MarkersTooLarge bytes × RevealsAfter (kept_rule r.limits) before MarkersTooLarge bytes
whole_fault r bytes before (tail, between, seen, segment, good, end) wrong =
    shown (kept_rule r.limits) before MarkersTooLarge bytes (inr (tail, between, inr (inr (inr (r.code, r.contents, segment, good, end, wrong before seen)))))
