-- A segment taken at once: what is kept, and that no prefix of the bytes with it has a fault or is a head.
use Rattle.std.proofs.Common.{◌≡◌, ℕ, zero, suc, ◌+◌, ◌-◌, ◌/◌, ◌%◌, ◌<◌, ◌≤◌, Bool, true, false, ◌||◌, List, [], ◌∷◌, ◌++◌, length, take, Ok, Err, None, Result, refl, sym, ap, ◌∙◌, subst, arith, inl, inr, ◌⊎◌}
use Rattle.std.specs.Prelude.{replicate, nat_le, ◌&&◌}
use Rattle.std.proofs.Math.Seq.{take-append-add}
use Rattle.std.proofs.lemmas.List.{append-nil, append_assoc, length-append, length-replicate, length-take-le, take-append-le, take-replicate, take_all}
use Rattle.jpg_spec.specs.Markers.{Segment, kept_rule, has_frame, is_frame_code, code_fault, SpellsSegment, SpellsSegments, Pass, Between, PartOfSegment, at_segment, at_part, Reaches}
use Rattle.jpg_spec.specs.declared.frame.Limits.{Limits}
use Rattle.jpg_spec_write.specs.CommentText.{RevealsNothing}
use Rattle.jpg_markers.specs.Reading.{PassesSegment, Reading, RepresentsSegments}
use Rattle.jpg_base.specs.declared.stop.Stop.{Stop}
use Rattle.jpg_base.specs.declared.stop.Stop.TheVariants as stop
use Rattle.jpg_spec.specs.declared.fault.FaultAt.{FaultAt}
use Rattle.jpg_spec.proofs.Basics.Common.{clash}
use Rattle.jpg_markers.specs.declared.whole.WholeSegment.{WholeSegment}
use Rattle.jpg_comments.specs.Inserting.{AfterHead, HoldsHead, HasKept, HasStopped, KeepsWhole, copied_segment}
use Rattle.jpg_comments.specs.SegmentsSoFar.{HasTaken}
use Rattle.jpg_comments.proofs.Taken.{nothing_to, upto}
use Rattle.jpg_comments.proofs.HeadByBytes.{head_tells, kept_more, whole_at}

-- codes from APP0 on aren't those of frames
pub no_frame : (code : ℕ) → 224 ≤ code → is_frame_code code ≡ false
no_frame code high = grind (arith)

-- A PREFIX of a segment, not all of it
module _ (before : List Segment) (code : ℕ) (contents tail : List ℕ) (s : SpellsSegment code contents tail) (allowed : code_fault before code ≡ None) (no_end : code ≡ 0xd9 → ⊥)
    (other : is_frame_code code ≡ false) where
  abbrev marker : List ℕ
  marker = s.0

  abbrev size : ℕ
  size = length contents + 2

  abbrev rest : List ℕ
  rest = size / 256 % 256 ∷ size % 256 ∷ contents

  cut : tail ≡ marker ++ rest
  cut = s.3 ∙ append_assoc marker (size / 256 % 256 ∷ size % 256 ∷ []) contents

  long : length marker ≡ suc s.1.0 + 1
  long = ap length s.1.1 ∙ length-append (replicate (suc s.1.0) 255) (code ∷ []) ∙ ap (λ n. n + 1) (length-replicate (suc s.1.0) 255)

  fills : (m : ℕ) → m ≤ suc s.1.0 → take m tail ≡ replicate m 255
  fills m few =
      ap (take m) cut ∙ take-append-le m marker rest (omega (arith, few, long)) ∙ ap (take m) s.1.1
      ∙ take-append-le m (replicate (suc s.1.0) 255) (code ∷ []) (omega (arith, few, length-replicate {A = ℕ} (suc s.1.0) 255)) ∙ take-replicate m (suc s.1.0) 255 few

  beyond : (k : ℕ) → take (length marker + k) tail ≡ marker ++ take k rest
  beyond k = ap (take (length marker + k)) cut ∙ take-append-add marker rest k

  from_marker : (k : ℕ) → k < length contents + 2 → PartOfSegment before (take (length marker + k) tail)
  from_marker zero less = inr (code, marker, (s.1, allowed, no_end), inl (beyond 0 ∙ append-nil marker, other))
  from_marker (suc zero) less = inr (code, marker, (s.1, allowed, no_end), inr (inl (size / 256 % 256, beyond 1, omega arith)))
  from_marker (suc (suc k)) less =
      let few = length-take-le k contents (omega (arith, less)) in
      let most = s.2 in
      inr
      (code, marker, (s.1, allowed, no_end), inr (inr (size / 256 % 256, size % 256, take k contents, beyond (suc (suc k)), omega arith, omega arith, omega (arith, less, few, most))))

  whole_long : length tail ≡ length marker + size
  whole_long = let cuts = ap length cut in omega (arith, cuts, length-append marker rest)

  pub prefix_part : (m : ℕ) → m < length tail → PartOfSegment before (take m tail)
  prefix_part m less = by (upto m (suc s.1.0))
    where
      by : (m ≤ suc s.1.0) ⊎ (suc s.1.0 < m) → PartOfSegment before (take m tail)
      by (inl few) = inl (m, fills m few)
      by (inr more) =
          let k : ℕ = m - length marker in
          let is : length marker + k ≡ m = omega (arith, more, long) in
          subst (λ n. PartOfSegment before (take n tail)) is (from_marker k (omega (arith, less, is, whole_long)))

-- A SEGMENT that was passed
module _ (limits : Limits) (replace : Bool) (r next : Reading) (bytes head tail : List ℕ) (code : ℕ) (contents : List ℕ) (n : ℕ) (h : HasKept limits replace bytes head r)
    (p : PassesSegment r code contents n next) (spelled : SpellsSegment code contents tail) (high : 224 ≤ code) where
  stands : RepresentsSegments (bytes ++ tail) ((code, contents) ∷ h.0) next
  stands = p.stands bytes tail h.0 h.1.stands spelled

  limited : next.limits ≡ limits
  limited = p.limits ∙ h.1.limited

  old : SpellsSegments h.0 bytes × Pass (kept_rule limits) h.0
  old = let w = whole_at r bytes h.0 p.was h.1.stands in (w.0, subst (λ (l : Limits). Pass (kept_rule l) h.0) h.1.limited w.1)

  new : SpellsSegments ((code, contents) ∷ h.0) (bytes ++ tail) × Pass (kept_rule limits) ((code, contents) ∷ h.0)
  new =
      let w = whole_at next (bytes ++ tail) ((code, contents) ∷ h.0) p.between stands in
      (w.0, subst (λ (l : Limits). Pass (kept_rule l) ((code, contents) ∷ h.0)) limited w.1)

  some : 1 ≤ length tail
  some = let l = whole_long h.0 code contents tail spelled new.1.0 new.0.5 (no_frame code high) in omega (arith, l)

  part_at : (m : ℕ) → 1 ≤ m → m < length tail → Reaches (kept_rule limits) (bytes ++ take m tail) at_part
  part_at m one less =
      let between : Between (kept_rule limits) (bytes ++ take m tail) h.0 (take m tail) = record { front = bytes; cut = refl; spelled = old.0; passed = old.1 } in
      inr (
        h.0,
        take m tail,
        between,
        prefix_part h.0 code contents tail spelled new.1.0 new.0.5 (no_frame code high) m less,
        λ e. omega (arith, ap length e, length-take-le m tail (omega (arith, less)), one),
      )

  pub nothing_whole : RevealsNothing limits (HoldsHead limits) (bytes ++ tail)
  nothing_whole =
      let all : take (length tail) tail ≡ tail = take_all (length tail) tail (omega arith) in
      subst (λ l. RevealsNothing limits (HoldsHead limits) (bytes ++ l)) all
      (nothing_to limits (HoldsHead limits) (head_tells limits) bytes tail (length tail) (at_segment (code, contents)) refl refl some (omega arith) part_at
      (subst (λ l. Reaches (kept_rule limits) (bytes ++ l) (at_segment (code, contents))) (sym all) (h.0, new.0, new.1)) h.1.nothing)

  pub kept_segment : (now : List ℕ) → n ≡ length tail → r.taken + n ≤ r.limits.input → now ≡ head ++ copied_segment replace code contents → HasKept limits replace (bytes ++ tail) now next
  kept_segment now is room grows =
      let was = h.1.taken in
      let more = p.taken in
      let input = ap (λ (l : Limits). l.input) h.1.limited in
      let taken : HasTaken limits (HoldsHead limits) (bytes ++ tail) ((code, contents) ∷ h.0) next = record {
        stands = stands;
        limited = limited;
        taken = omega (arith, was, more, is, length-append bytes tail);
        most = omega (arith, more, room, input);
        nothing = nothing_whole;
      } in (
        (code, contents) ∷ h.0,
        taken,
        ap (λ b. b || has_frame h.0) (no_frame code high) ∙ h.2,
        grows ∙ ap (λ l. l ++ copied_segment replace code contents) h.3 ∙ sym (kept_more replace code contents h.0),
      )

-- THE RESULT, by whether there was memory to keep it
pub kept_by : (limits : Limits) (replace : Bool) (r next : Reading) (before bytes head now some : List ℕ) (s : WholeSegment) (answer : Result Bool Stop)
    → HasKept limits replace (before ++ bytes) head r → KeepsWhole replace r s head answer now next → SpellsSegment s.code s.contents.now (take s.length some) → 224 ≤ s.code
    → s.length ≤ length some → r.taken + s.length ≤ r.limits.input → AfterHead limits replace (before ++ (bytes ++ take s.length some)) answer now next
kept_by limits replace r next before bytes head now some s answer h keeps spelled high few room =
    subst (λ l. AfterHead limits replace l answer now next) (append_assoc before bytes (take s.length some)) (by answer keeps)
  where
    front : List ℕ
    front = before ++ bytes

    tail : List ℕ
    tail = take s.length some

    by : (a : Result Bool Stop) → KeepsWhole replace r s head a now next → AfterHead limits replace (front ++ tail) a now next
    by (Ok false) k = kept_segment limits replace r next front head tail s.code s.contents.now s.length h k.1 spelled high now (sym (length-take-le s.length some few)) room k.2
    by (Ok true) k = absurd (clash true refl k.0)
    by (Err (stop.Fault f)) k = absurd (no_fault f k.0)
      where
        no_fault : (f : FaultAt) → stop.Fault f ≡ stop.NoMemory → ⊥
        no_fault f e = cc
    by (Err stop.NoMemory) k = nothing_whole limits replace r next front head tail s.code s.contents.now s.length h k.1 spelled high

pub stopped_some : (bytes some : List ℕ) (n : ℕ) (answer : Result Bool Stop) → 1 ≤ n → n ≤ length some → HasStopped answer (bytes ++ take n some)
stopped_some bytes some n (Ok whole) one few = tt
stopped_some bytes some n (Err e) one few = omega (arith, one, length-append bytes (take n some), length-take-le n some few)
