-- Bytes between items.
use Rattle.std.proofs.Common.{◌≡◌, ℕ, suc, ◌+◌, ◌≤◌, List, [], ◌∷◌, ◌++◌, length, take, refl, sym, ap, ◌∙◌, subst, arith, Some, None, Ok, Err, inl, inr, Result, ◌⊎◌, zero, ◌<◌, replicate, append_assoc, append-nil, length-append, length-take-le, take-take, w16}
use Rattle.std.specs.Int.{to_be_bytes}
use Rattle.std.proofs.lemmas.List.{length-replicate}
use Rattle.jpg_spec.specs.Scan.{Blocks}
use Rattle.jpg_spec.specs.Markers.{Segment, Rule, soi, SpellsMarker, SpellsSegment, SpellsSegments, BeginsSegment, PartOfSegment, NoMarkerBytes, TailReveals, RevealsNoStart, code_fault, kept_rule}
use Rattle.jpg_spec.specs.Markers as markers
use Rattle.jpg_spec.specs.Items.{Item, segment, segments_of, contents_rule}
use Rattle.jpg_spec.specs.FileMeaning.{no_blocks}
use Rattle.jpg_spec.specs.FirstFault.{Reveals, HasMeaning, IsEarly}
use Rattle.jpg_spec.specs.UnfinishedFile.{UnfinishedFile}
use Rattle.jpg_spec.specs.ScanReading.{Beside}
use Rattle.jpg_spec.specs.declared.fault.Fault.{Fault}
use Rattle.jpg_spec.specs.declared.fault.Fault.TheVariants.{NoMarker, Truncated, InputTooLong}
use Rattle.jpg_spec.specs.declared.frame.Limits.{Limits}
use Rattle.jpg_spec.proofs.Segments.MarkersOnce.{no_head}
use Rattle.jpg_spec.proofs.Files.ItemSteps.{same_tail, beside_more, segment_shown, contents_shown, part_stands, segment_passed}
use Rattle.jpg_spec.proofs.Basics.Common.{heads}
use Rattle.jpg_base.specs.declared.stop.Stop.TheVariants as stop
use Rattle.jpg_base.specs.declared.stop.Stop.{Stop}
use Rattle.jpg_markers.specs.declared.segments.SegStep.{SegStep}
use Rattle.jpg_markers.specs.declared.segments.SegStep.TheVariants as step
use Rattle.jpg_markers.specs.declared.segments.SegmentReader.{SegmentReader}
use Rattle.jpg_markers.specs.declared.segments.Phase.{Phase}
use Rattle.jpg_markers.specs.declared.segments.Phase.TheVariants as phase
use Rattle.jpg_markers.specs.Reading.{Reading, RepresentsSegments, AtPhase, IsBetween, PartRead, RevealsAfter, AfterWhole, EndsAtEoi, Comes, PassesSegment, PassesSome, reading_of}
use Rattle.jpg_file.specs.Read.SegmentState.{Holds, HoldsSegment, segments_view}
use Rattle.jpg_file.specs.declared.read.segment_state.SegmentTaken.TheVariants as took
use Rattle.jpg_file.specs.declared.read.items.Items.{Items}
use Rattle.jpg_file.specs.Read.Items.{IsBeside, AtPlace, BetweenItems, AfterSegment, AfterItem, AddsNoScan, PassesItems, limits_in}
use Rattle.std.proofs.lemmas.Bool.{cases_lt}
use Rattle.jpg_spec.specs.Faults.{number_of}
use Rattle.jpg_spec.proofs.Files.FileLaws.{shown_once}
use Rattle.jpg_file.specs.Laws.{HasNoFault}

-- The effect of a byte between items on the bytes so far.

-- THE START

segments_soi : (xs : List Segment) (front : List ℕ) → SpellsSegments xs front → (y : List ℕ) × (front ≡ soi ++ y)
segments_soi [] front s = ([], s ∙ sym (append-nil soi))
segments_soi (x ∷ xs) front s = let r = segments_soi xs s.0 s.3 in (r.0 ++ s.1, s.2 ∙ ap (λ l. l ++ s.1) r.1 ∙ append_assoc soi r.0 s.1)

no_start_soi : (a y : List ℕ) → RevealsNoStart a → a ≡ soi ++ y → ⊥
no_start_soi a y (inl s) e = s.2 (heads s.0 255 [] (0xd8 ∷ y) (sym s.1 ∙ e)).0
no_start_soi a y (inr s) e = s.2 (heads s.0 0xd8 [] y (heads 255 255 (s.0 ∷ []) (0xd8 ∷ y) (sym s.1 ∙ e)).1).0

beside_soi : (limits : Limits) (rule : Rule) (sent bytes : List ℕ) (items : List Item) (tail : List ℕ) → Beside limits rule sent bytes items tail → (y : List ℕ) × (sent ≡ soi ++ y)
beside_soi limits rule sent bytes items tail w =
    let r = segments_soi (segments_of items) (w.between).front (w.between).spelled in
    (r.0 ++ tail, (w.between).cut ∙ ap (λ l. l ++ tail) r.1 ∙ append_assoc soi r.0 tail)

-- after SOI, before any item
first_beside : (limits : Limits) (bytes tail : List ℕ) → markers.Between (kept_rule limits) bytes [] tail → IsBeside limits bytes bytes [] no_blocks tail
first_beside limits bytes tail b = record {
  beside = record {
    fill = 0;
    between = b;
    behind = record { front = b.front; blocks = no_blocks; cut = b.cut; spelled = b.spelled; leads = refl };
    plain = inl (refl, refl);
  };
  leads = refl;
}

start_more : (limits : Limits) (bytes : List ℕ) (r : Reading) → (p : Phase) → r.limits ≡ limits → AtPhase r p bytes [] → AtPlace limits bytes bytes [] no_blocks
start_more limits bytes r p e a = by p a
  where
    between : (q : Phase) → IsBetween r q bytes [] → AtPlace limits bytes bytes [] no_blocks
    between q (tail, w, seen, part) = inr (tail, first_beside limits bytes tail (subst (λ (l : Limits). markers.Between (kept_rule l) bytes [] tail) e w))

    by : (q : Phase) → AtPhase r q bytes [] → AtPlace limits bytes bytes [] no_blocks
    by phase.Empty k = inl (record { same = refl; short = inl k.0; no_items = refl; blank = refl })
    by phase.HalfStart k = inl (record { same = refl; short = inr k.0; no_items = refl; blank = refl })
    by phase.Ended k = absurd k
    by q k = between q k

start_at : (limits : Limits) (bytes sent : List ℕ) (items : List Item) (blocks : Blocks) (r : Reading) → bytes ≡ sent → items ≡ [] → blocks ≡ no_blocks → r.limits ≡ limits → RepresentsSegments sent (segments_of items) r
    → AtPlace limits bytes sent items blocks
start_at limits bytes sent items blocks r same none blank e stands =
    let S : List Item → Type 0 = λ z. RepresentsSegments sent (segments_of z) r in
    let Q : List Item → Type 0 = λ z. AtPlace limits sent sent z blocks in
    let R : Blocks → Type 0 = λ z. AtPlace limits sent sent [] z in
    subst (λ z. AtPlace limits z sent items blocks) (sym same) (subst Q (sym none) (subst R (sym blank) (start_more limits sent r r.phase e (subst S none stands).1)))

-- BYTES that are continued
place_more : (limits : Limits) (bytes sent more : List ℕ) (items : List Item) (blocks : Blocks) (r : Reading) → r.limits ≡ limits → RepresentsSegments (sent ++ more) (segments_of items) r → AtPlace limits bytes sent items blocks
    → AtPlace limits (bytes ++ more) (sent ++ more) items blocks
place_more limits bytes sent more items blocks r e stands (inr (tail, w)) = inr (tail ++ more, record { beside = beside_more limits (kept_rule limits) sent bytes items tail more w.beside; leads = w.leads })
place_more limits bytes sent more items blocks r e stands (inl s) = start_at limits (bytes ++ more) (sent ++ more) items blocks r (ap (λ l. l ++ more) s.same) s.no_items s.blank e stands

-- A FAULT of markers and lengths
pub beside_fault : (limits : Limits) (bytes sent : List ℕ) (items : List Item) (blocks : Blocks) (tail : List ℕ) (fault : Fault) → IsBeside limits bytes sent items blocks tail → RevealsAfter (kept_rule limits) (segments_of items) fault sent → Reveals limits fault bytes
beside_fault limits bytes sent items blocks tail fault w (inl s) =
    let y = beside_soi limits (kept_rule limits) sent bytes items tail w.beside in absurd (no_start_soi sent y.0 s.2 y.1)
beside_fault limits bytes sent items blocks tail fault w (inr (other, between, shown)) =
    let e = same_tail (kept_rule limits) sent (segments_of items) tail other (w.beside).between between in
    segment_shown limits sent bytes items fault tail w.beside (subst (λ t. ((fault ≡ NoMarker) × NoMarkerBytes t) ⊎ TailReveals (kept_rule limits) (segments_of items) fault t) (sym e) shown)

start_fault : (limits : Limits) (bytes : List ℕ) (fault : Fault) → RevealsAfter (kept_rule limits) [] fault bytes → Reveals limits fault bytes
start_fault limits bytes fault (inl (which, first, shown)) = inl (which, shown)
start_fault limits bytes fault (inr (tail, between, shown)) = beside_fault limits bytes bytes [] no_blocks tail fault (first_beside limits bytes tail between) (inr (tail, between, shown))

-- ONE MORE SEGMENT

-- the segment at the end of what was sent
pub record LastSegment (limits : Limits) (sent : List ℕ) (before : List Segment) (code : ℕ) (contents : List ℕ) : Type 0 where
  pub rest : List ℕ
  pub between : markers.Between (kept_rule limits) sent before rest
  pub spelled : SpellsSegment code contents rest
  pub no_end : code ≡ 0xd9 → ⊥
  pub allowed : code_fault before code ≡ None
  pub kept : kept_rule limits before code contents ≡ None

pub last_segment : (limits : Limits) (sent : List ℕ) (before : List Segment) (code : ℕ) (contents : List ℕ) (r : Reading) → r.limits ≡ limits → r.phase ≡ phase.Between → RepresentsSegments sent ((code, contents) ∷ before) r
    → LastSegment limits sent before code contents
last_segment limits sent before code contents r e p stands =
    let (tail, between, seen, none) = subst (λ (q : Phase). AtPhase r q sent ((code, contents) ∷ before)) p stands.1 in
    let b = subst (λ (l : Limits). markers.Between (kept_rule l) sent ((code, contents) ∷ before) tail) e between in
    let s = b.spelled in
    record {
      rest = s.1;
      between = record { front = s.0; cut = b.cut ∙ ap (λ (t : List ℕ). b.front ++ t) none ∙ append-nil b.front ∙ s.2; spelled = s.3; passed = (b.passed).2 };
      spelled = s.4;
      no_end = s.5;
      allowed = (b.passed).0;
      kept = (b.passed).1;
    }

-- a segment has four bytes or more
pub segment_long : (code : ℕ) (contents bytes : List ℕ) → SpellsSegment code contents bytes → 4 ≤ length bytes
segment_long code contents bytes s =
    let two : length (to_be_bytes w16 (length contents + 2)) ≡ 2 = refl in
    let b = length-append (s.0 ++ to_be_bytes w16 (length contents + 2)) contents in
    let d = length-append s.0 (to_be_bytes w16 (length contents + 2)) in
    let g = length-append (replicate (suc s.1.0) 255) (code ∷ []) in
    omega (arith, ap length s.3, b, d, ap length s.1.1, g, length-replicate {A = ℕ} (suc s.1.0) 255, two)

few_sent : (sent : List ℕ) → (sent ≡ []) ⊎ (sent ≡ 255 ∷ []) → length sent ≤ 1
few_sent sent (inl e) = omega (arith, ap length e)
few_sent sent (inr e) = omega (arith, ap length e)

-- none is complete before SOI is
start_no_segment : (limits : Limits) (sent : List ℕ) (code : ℕ) (contents : List ℕ) → length sent ≤ 2 → LastSegment limits sent [] code contents → ⊥
start_no_segment limits sent code contents few s =
    let d = length-append (s.between).front s.rest in
    let g = segment_long code contents s.rest s.spelled in
    omega (arith, ap length (s.between).cut, d, g, few)

-- between segments SOI was sent
past_start : (limits : Limits) (sent : List ℕ) (before : List Segment) (r : Reading) → r.phase ≡ phase.Between → RepresentsSegments sent before r → (sent ≡ []) ⊎ (sent ≡ 255 ∷ []) → before ≡ [] → ⊥
past_start limits sent before r p stands short none =
    let (tail, between, seen, nothing) = subst (λ (q : Phase). AtPhase r q sent before) p stands.1 in
    let spelled = subst (λ (l : List Segment). SpellsSegments l between.front) none between.spelled in
    let a = ap length between.cut in
    let d = length-append between.front tail in
    let f = ap length spelled in
    omega (arith, a, d, f, few_sent sent short)

-- THE PART of a segment that was read
part_read : (r : Reading) (p : Phase) (before : List Segment) (tail : List ℕ) → PartRead r p before tail → ((code : ℕ) × BeginsSegment before code tail) ⊎ PartOfSegment before tail
part_read r phase.Empty before tail e = absurd e
part_read r phase.HalfStart before tail e = absurd e
part_read r phase.Between before tail e = inr (inl (0, e))
part_read r phase.Fill before tail (fill, e) = inr (inl (suc fill, e))
part_read r phase.Coded before tail e = inl (r.code, e)
part_read r phase.HalfLength before tail (marker, begins, e, fits) = inr (inr (r.code, marker, begins, inr (inl (r.high, e, fits))))
part_read r phase.Contents before tail (marker, high, low, begins, e, h, l, long, some) = inr (inr (r.code, marker, begins, inr (inr (high, low, r.contents, e, h, l, omega (arith, long, some)))))
part_read r phase.Ended before tail e = absurd e

-- the bytes after the complete items are a marker that may begin a segment, or a part of one
pub part_after : (limits : Limits) (bytes sent : List ℕ) (items : List Item) (blocks : Blocks) (r : Reading) (tail : List ℕ) (p : Phase) → r.limits ≡ limits → IsBeside limits bytes sent items blocks tail → AtPhase r p sent (segments_of items)
    → ((code : ℕ) × BeginsSegment (segments_of items) code tail) ⊎ PartOfSegment (segments_of items) tail
part_after limits bytes sent items blocks r tail p same at a = by p a
  where
    go : (q : Phase) → IsBetween r q sent (segments_of items) → ((code : ℕ) × BeginsSegment (segments_of items) code tail) ⊎ PartOfSegment (segments_of items) tail
    go q (other, between, seen, part) =
        let b = subst (λ (l : Limits). markers.Between (kept_rule l) sent (segments_of items) other) same between in
        let t = same_tail (kept_rule limits) sent (segments_of items) tail other (at.beside).between b in
        part_read r q (segments_of items) tail (subst (λ z. PartRead r q (segments_of items) z) (sym t) part)

    by : (q : Phase) → AtPhase r q sent (segments_of items) → ((code : ℕ) × BeginsSegment (segments_of items) code tail) ⊎ PartOfSegment (segments_of items) tail
    by phase.Empty k =
        let y = beside_soi limits (kept_rule limits) sent bytes items tail at.beside in
        let z : [] ≡ soi ++ y.0 = sym k.0 ∙ y.1 in absurd (no_head 255 (0xd8 ∷ y.0) z)
    by phase.HalfStart k =
        let y = beside_soi limits (kept_rule limits) sent bytes items tail at.beside in
        let z : 255 ∷ [] ≡ soi ++ y.0 = sym k.0 ∙ y.1 in absurd (no_head 0xd8 y.0 (heads 255 255 [] (0xd8 ∷ y.0) z).1)
    by phase.Ended k = absurd k
    by q k = go q k

-- AFTER BYTES between items

module _ (limits : Limits) (bytes : List ℕ) (items : List Item) (blocks : Blocks) (w : Items) (k : BetweenItems limits bytes items blocks w) where
  -- bytes that only continue
  pub passes_on : (more : List ℕ) (new : Items) → RepresentsSegments (k.sent ++ more) (segments_of items) (reading_of new.segments)
      → (reading_of new.segments).limits ≡ (reading_of w.segments).limits → segments_view new.held ≡ segments_view w.held
      → BetweenItems limits (bytes ++ more) items blocks new
  passes_on more new stands e same = record {
    sent = k.sent ++ more;
    stands = stands;
    at = place_more limits bytes k.sent more items blocks (reading_of new.segments) (e ∙ k.bounded) stands k.at;
    bounded = e ∙ k.bounded;
    holds = subst (λ h. Holds limits h (segments_of items)) (sym same) k.holds;
  }

  -- a complete segment at once
  whole_at : (more : List ℕ) (code : ℕ) (contents : List ℕ) (new : Items) → (reading_of w.segments).phase ≡ phase.Between
      → (reading_of new.segments).phase ≡ phase.Between → (reading_of new.segments).limits ≡ limits
      → RepresentsSegments (k.sent ++ more) ((code, contents) ∷ segments_of items) (reading_of new.segments) → (code ≡ 0xda → ⊥)
      → contents_rule limits (segments_of items) code contents ≡ None → Holds limits (segments_view new.held) ((code, contents) ∷ segments_of items)
      → AfterItem limits (bytes ++ more) items blocks (Ok step.More) new
  whole_at more code contents new p q e stands other rule holds = by k.at
    where
      r : Reading
      r = reading_of new.segments

      last : LastSegment limits (k.sent ++ more) (segments_of items) code contents
      last = last_segment limits (k.sent ++ more) (segments_of items) code contents r e q stands

      by : AtPlace limits bytes k.sent items blocks → AfterItem limits (bytes ++ more) items blocks (Ok step.More) new
      by (inl s) = absurd (past_start limits k.sent (segments_of items) (reading_of w.segments) p k.stands s.short (ap segments_of s.no_items))
      by (inr (tail, at)) =
          let beside = beside_more limits (kept_rule limits) k.sent bytes items tail more at.beside in
          let t = same_tail (kept_rule limits) (k.sent ++ more) (segments_of items) (tail ++ more) last.rest beside.between last.between in
          let spelled = subst (λ z. SpellsSegment code contents z) (sym t) last.spelled in (
            segment code contents ∷ items,
            inr (code, contents, refl, other),
            record {
              sent = k.sent ++ more;
              stands = stands;
              at = inr (
                [],
                record {
                  beside = segment_passed limits (kept_rule limits) (k.sent ++ more) (bytes ++ more) items code contents (tail ++ more) beside spelled last.allowed last.no_end other last.kept rule;
                  leads = (last.allowed, rule, at.leads);
                },
              );
              bounded = e;
              holds = holds;
            },
          )

  -- the bytes have no fault
  pub between_stands : UnfinishedFile limits bytes
  between_stands = by k.at
    where
      start : (sent : List ℕ) → (sent ≡ []) ⊎ (sent ≡ 255 ∷ []) → UnfinishedFile limits sent
      start sent s = inl s

      by : AtPlace limits bytes k.sent items blocks → UnfinishedFile limits bytes
      by (inl s) = subst (λ z. UnfinishedFile limits z) (sym s.same) (start k.sent s.short)
      by (inr (tail, at)) =
          part_stands limits (kept_rule limits) k.sent bytes items tail at.beside
          (part_after limits bytes k.sent items blocks (reading_of w.segments) tail (reading_of w.segments).phase k.bounded at (k.stands).1)

-- the reader of segments didn't stop
pub between_going : (limits : Limits) (bytes : List ℕ) (items : List Item) (blocks : Blocks) (w : Items) → BetweenItems limits bytes items blocks w → (reading_of w.segments).stop ≡ None
between_going limits bytes items blocks w k = k.stands.0

-- FURTHER BYTES, by the result of the reader of segments
abbrev pub Fed : Limits → List ℕ → List Item → Blocks → Result SegStep Stop → Items → Type 0
Fed limits bytes items blocks (Ok step.Whole) w = AfterSegment limits bytes items blocks w
Fed limits bytes items blocks came w = AfterItem limits bytes items blocks came w

-- where no segment is complete
pub no_whole : (limits : Limits) (bytes : List ℕ) (items : List Item) (blocks : Blocks) (came : Result SegStep Stop) (w : Items) → (came ≡ Ok step.Whole → ⊥) → Fed limits bytes items blocks came w → AfterItem limits bytes items blocks came w
no_whole limits bytes items blocks (Ok step.Whole) w not k = absurd (not refl)
no_whole limits bytes items blocks came w not k = k

module _ (limits : Limits) (bytes sent : List ℕ) (items : List Item) (blocks : Blocks) (w : Items)
    (bounded : (reading_of w.segments).limits ≡ limits) (holds : Holds limits (segments_view w.held) (segments_of items)) where
  abbrev r : Reading
  r = reading_of w.segments

  on : RepresentsSegments sent (segments_of items) r → AtPlace limits bytes sent items blocks → AfterItem limits bytes items blocks (Ok step.More) w
  on stands at = (items, inl refl, record { sent = sent; stands = stands; at = at; bounded = bounded; holds = holds })

  -- after SOI
  pub fed_beside : (tail : List ℕ) → IsBeside limits bytes sent items blocks tail → (came : Result SegStep Stop) → Comes sent (segments_of items) came r → (came ≡ Ok step.Whole → r.phase ≡ phase.Between)
      → Fed limits bytes items blocks came w
  fed_beside tail at (Ok step.More) c p = on c.1 (inr (tail, at))
  fed_beside tail at (Ok step.Start) c p = on c.1 (inr (tail, at))
  fed_beside tail at (Ok step.Frame) c p = on c.1 (inr (tail, at))
  fed_beside tail at (Ok step.Eoi) c p =
      let ends = subst (λ (l : Limits). EndsAtEoi (kept_rule l) (segments_of items) sent) bounded c.1 in
      let t = same_tail (kept_rule limits) sent (segments_of items) tail ends.0 (at.beside).between ends.1 in
      record { sent = sent; tail = tail; at = at; ended = subst (λ z. SpellsMarker 0xd9 z) (sym t) ends.2; allowed = ends.3; holds = holds }
  fed_beside tail at (Ok step.Whole) c p =
      let last = last_segment limits sent (segments_of items) r.code r.contents r bounded (p refl) c.1 in
      let t = same_tail (kept_rule limits) sent (segments_of items) tail last.rest (at.beside).between last.between in
      record {
        sent = sent;
        tail = tail;
        stands = c.1;
        at = at;
        spelled = subst (λ z. SpellsSegment r.code r.contents z) (sym t) last.spelled;
        allowed = last.allowed;
        no_end = last.no_end;
        phase = p refl;
        kept = last.kept;
        bounded = bounded;
        holds = holds;
      }
  fed_beside tail at (Err (stop.Fault f)) c p =
      (beside_fault limits bytes sent items blocks tail f.fault at (subst (λ (l : Limits). RevealsAfter (kept_rule l) (segments_of items) f.fault sent) bounded c.1), c.2)
  fed_beside tail at (Err stop.NoMemory) c p = tt

  -- before it is complete, or with its last byte
  fed_start : bytes ≡ sent → length sent ≤ 2 → items ≡ [] → blocks ≡ no_blocks → (came : Result SegStep Stop) → Comes sent (segments_of items) came r → (came ≡ Ok step.Whole → r.phase ≡ phase.Between)
      → Fed limits bytes items blocks came w
  fed_start same few none blank (Ok step.More) c p = on c.1 (start_at limits bytes sent items blocks r same none blank bounded c.1)
  fed_start same few none blank (Ok step.Start) c p = on c.1 (start_at limits bytes sent items blocks r same none blank bounded c.1)
  fed_start same few none blank (Ok step.Frame) c p = on c.1 (start_at limits bytes sent items blocks r same none blank bounded c.1)
  fed_start same few none blank (Ok step.Eoi) c p = absurd (let z : code_fault [] 0xd9 ≡ None = subst (λ (z : List Item). code_fault (segments_of z) 0xd9 ≡ None) none c.1.3 in cc)
  fed_start same few none blank (Ok step.Whole) c p =
      absurd (start_no_segment limits sent r.code r.contents few (subst (λ (z : List Item). LastSegment limits sent (segments_of z) r.code r.contents) none (last_segment limits sent (segments_of items) r.code r.contents r bounded (p refl) c.1)))
  fed_start same few none blank (Err (stop.Fault f)) c p =
      let shown = subst (λ (l : Limits). RevealsAfter (kept_rule l) (segments_of items) f.fault sent) bounded c.1 in
      (subst (Reveals limits f.fault) (sym same) (start_fault limits sent f.fault (subst (λ (z : List Item). RevealsAfter (kept_rule limits) (segments_of z) f.fault sent) none shown)), c.2)
  fed_start same few none blank (Err stop.NoMemory) c p = tt

-- a byte
pub byte_comes : (limits : Limits) (bytes : List ℕ) (items : List Item) (blocks : Blocks) (w : Items) (k : BetweenItems limits bytes items blocks w) (b : ℕ) (s : SegmentReader) (came answer : Result SegStep Stop) → came ≡ answer
    → Comes (k.sent ++ b ∷ []) (segments_of items) came (reading_of s) → AfterWhole came (reading_of s) → (reading_of s).limits ≡ (reading_of w.segments).limits → Fed limits (bytes ++ b ∷ []) items blocks answer (record w { segments = s })
byte_comes limits bytes items blocks w k b s came answer is c whole e = subst (λ (a : Result SegStep Stop). Fed limits (bytes ++ b ∷ []) items blocks a (record w { segments = s })) is (by k.at)
  where
    between : came ≡ Ok step.Whole → (reading_of s).phase ≡ phase.Between
    between h = subst (λ (a : Result SegStep Stop). AfterWhole a (reading_of s)) h whole

    by : AtPlace limits bytes k.sent items blocks → Fed limits (bytes ++ b ∷ []) items blocks came (record w { segments = s })
    by (inl t) =
        fed_start limits (bytes ++ b ∷ []) (k.sent ++ b ∷ []) items blocks (record w { segments = s }) (e ∙ k.bounded) k.holds
        (ap (λ l. l ++ b ∷ []) t.same) (omega (arith, few_sent k.sent t.short, length-append k.sent (b ∷ []))) t.no_items t.blank came c between
    by (inr (tail, at)) =
        fed_beside limits (bytes ++ b ∷ []) (k.sent ++ b ∷ []) items blocks (record w { segments = s }) (e ∙ k.bounded) k.holds
        (tail ++ b ∷ []) (record { beside = beside_more limits (kept_rule limits) k.sent bytes items tail (b ∷ []) at.beside; leads = at.leads }) came c between

-- BYTES that only continue
pub stretch_passes : (w : Items) (r : SegmentReader) (bytes : List ℕ) (n : ℕ) → PassesSome (reading_of w.segments) bytes (Ok n) (reading_of r) → (reading_of r).taken ≡ (reading_of w.segments).taken + n
    → (reading_of r).limits ≡ (reading_of w.segments).limits → PassesItems w bytes n (record w { segments = r })
stretch_passes w r bytes n (few, stands, parts) taken limits = record {
  within = few;
  limits = limits;
  taken = taken;
  stands = λ here front items blocks k.
      (items, inl refl, passes_on here front items blocks w k (take n bytes) (record w { segments = r }) (stands k.sent (segments_of items) k.stands) limits refl);
}

-- NOTHING that was taken
pub nothing_passes : (w new : Items) (bytes : List ℕ) → reading_of new.segments ≡ reading_of w.segments → segments_view new.held ≡ segments_view w.held → PassesItems w bytes 0 new
nothing_passes w new bytes same held = record {
  within = omega arith;
  limits = ap (λ (q : Reading). q.limits) same;
  taken = omega (arith, ap (λ (q : Reading). q.taken) same);
  stands = λ here front items blocks k. (
    items,
    inl refl,
    passes_on here front items blocks w k [] new (subst (λ b. RepresentsSegments b (segments_of items) (reading_of new.segments)) (sym (append-nil k.sent)) (subst (λ (q : Reading). RepresentsSegments k.sent (segments_of items) q) (sym same) k.stands))
        (ap (λ (q : Reading). q.limits) same) held,
  );
}

module _ (limits : Limits) (bytes : List ℕ) (items : List Item) (blocks : Blocks) (w : Items) (k : AfterSegment limits bytes items blocks w) where
  -- A COMPLETE SEGMENT breaks no rule, or has a fault
  pub segment_taken : (new : Items) → ((reading_of w.segments).code ≡ 0xda → ⊥)
      → contents_rule limits (segments_of items) (reading_of w.segments).code (reading_of w.segments).contents ≡ None
      → reading_of new.segments ≡ reading_of w.segments
      → Holds limits (segments_view new.held) (((reading_of w.segments).code, (reading_of w.segments).contents) ∷ segments_of items)
      → (more : List Item) × AddsNoScan items more × BetweenItems limits bytes more blocks new
  segment_taken new other rule same holds =
      let r = reading_of w.segments in
      let more : List Item = segment r.code r.contents ∷ items in
      let S : Reading → Type 0 = λ q. RepresentsSegments k.sent ((r.code, r.contents) ∷ segments_of items) q in (
        more,
        inr (r.code, r.contents, refl, other),
        record {
          sent = k.sent;
          stands = subst S (sym same) k.stands;
          at = inr (
            [],
            record {
              beside = segment_passed limits (kept_rule limits) k.sent bytes items r.code r.contents k.tail (k.at).beside k.spelled k.allowed k.no_end other k.kept rule;
              leads = (k.allowed, rule, (k.at).leads);
            },
          );
          bounded = ap (λ (q : Reading). q.limits) same ∙ k.bounded;
          holds = holds;
        },
      )

  pub segment_fault : (fault : Fault) → contents_rule limits (segments_of items) (reading_of w.segments).code (reading_of w.segments).contents ≡ Some fault
      → Reveals limits fault bytes
  segment_fault fault broken =
      contents_shown limits (kept_rule limits) k.sent bytes items (reading_of w.segments).code (reading_of w.segments).contents fault k.tail (k.at).beside k.spelled k.allowed k.no_end broken

pub whole_passes : (w new : Items) (bytes : List ℕ) (code : ℕ) (contents : List ℕ) (n : ℕ) → PassesSegment (reading_of w.segments) code contents n (reading_of new.segments) → SpellsSegment code contents (take n bytes) → n ≤ length bytes → (code ≡ 0xda → ⊥)
    → HoldsSegment (segments_view w.held) (limits_in w) code contents took.Done (segments_view new.held) → PassesItems w bytes n new
whole_passes w new bytes code contents n p spelled few other takes = record {
  within = few;
  limits = p.limits;
  taken = p.taken;
  stands = λ limits front items blocks k.
      (let here = k.bounded in
      let t = takes (segments_of items) (subst (λ (l : Limits). Holds l (segments_view w.held) (segments_of items)) (sym here) k.holds) (p.kept k.sent (segments_of items) k.stands) in
      whole_at limits front items blocks w k (take n bytes) code contents new p.was p.between (p.limits ∙ here) (p.stands k.sent (take n bytes) (segments_of items) k.stands spelled) other
      (subst (λ (l : Limits). contents_rule l (segments_of items) code contents ≡ None) here t.0) (subst (λ (l : Limits). Holds l (segments_view new.held) ((code, contents) ∷ segments_of items)) here t.1));
}

-- Bytes without a first fault have no fault in any prefix within the input's limit, so that they are a complete file, or
-- one that ends early.

-- no prefix of fewer bytes has a fault
abbrev ShowNoneBelow : Limits → List ℕ → ℕ → Type 0
ShowNoneBelow limits bytes n = (fault : Fault) (m : ℕ) → m < n → Reveals limits fault (take m bytes) → ⊥

-- then this one has none: it would be the first
none_at : (limits : Limits) (bytes : List ℕ) (n : ℕ) → HasNoFault limits bytes → n ≤ length bytes → n ≤ limits.input → ShowNoneBelow limits bytes n
    → (fault : Fault) → Reveals limits fault (take n bytes) → ⊥
none_at limits bytes n none long within below fault shown =
    none fault n (inl (
      within,
      (
        long,
        shown,
        below,
        λ other less k. (let same = ap number_of (shown_once limits other fault (take n bytes) k shown) in let z : ⊥ = omega (arith, same, less) in z),
      ),
    ))

-- nor have those of at most so many bytes
none_up_to : (limits : Limits) (bytes : List ℕ) (n : ℕ) → HasNoFault limits bytes → n ≤ length bytes → n ≤ limits.input → ShowNoneBelow limits bytes n
    → (fault : Fault) (m : ℕ) → m ≤ n → Reveals limits fault (take m bytes) → ⊥
none_up_to limits bytes n none long within below fault m few shown = by (cases_lt m n)
  where
    by : (m < n) ⊎ (n ≤ m) → ⊥
    by (inl h) = below fault m h shown
    by (inr h) = let same : m ≡ n = omega (arith, h, few) in none_at limits bytes n none long within below fault (subst (λ i. Reveals limits fault (take i bytes)) same shown)

none_below : (limits : Limits) (bytes : List ℕ) (n : ℕ) → HasNoFault limits bytes → n ≤ length bytes → n ≤ limits.input → ShowNoneBelow limits bytes n
none_below limits bytes zero none long within fault m less shown = omega (arith, less)
none_below limits bytes (suc n) none long within fault m less shown =
    let long1 : n ≤ length bytes = omega (arith, long) in
    let within1 : n ≤ limits.input = omega (arith, within) in
    let few : m ≤ n = omega (arith, less) in
    none_up_to limits bytes n none long1 within1 (none_below limits bytes n none long1 within1) fault m few shown

pub not_left_out : (limits : Limits) (bytes : List ℕ) → HasNoFault limits bytes → (HasMeaning limits bytes → ⊥) → (IsEarly limits bytes → ⊥) → ⊥
not_left_out limits bytes none unended late = by (cases_lt (length bytes) limits.input)
  where
    by : (length bytes < limits.input) ⊎ (limits.input ≤ length bytes) → ⊥
    by (inl short) =
        let few : length bytes ≤ length bytes = omega (arith) in
        let within : length bytes ≤ limits.input = omega (arith, short) in
        let below = none_below limits bytes (length bytes) none few within in
        none Truncated (length bytes) (inr (inr (refl, refl, short, none_up_to limits bytes (length bytes) none few within below, unended, late)))
    by (inr long) =
        let within : limits.input ≤ limits.input = omega (arith) in
        let below = none_below limits bytes limits.input none long within in
        let size : length (take limits.input bytes) ≡ limits.input = length-take-le limits.input bytes long in
        none InputTooLong limits.input (inr (inl (
          refl,
          refl,
          long,
          λ fault m few shown. (let less : m ≤ limits.input = omega (arith, few, size) in
              none_up_to limits bytes limits.input none long within below fault m less (subst (Reveals limits fault) (take-take m limits.input bytes less) shown)),
          unended,
        )))
