-- The marker that ends a scan's data belongs to an item again.
use Rattle.std.proofs.Common.{Result, ◌≡◌, ℕ, true, List, [], ◌∷◌, ◌++◌, refl, sym, ap, ◌∙◌, subst, arith, length, Ok, Err, append_assoc, length-append}
use Rattle.jpg_spec.specs.Scan.{Blocks}
use Rattle.jpg_spec.specs.Markers.{Segment, kept_rule}
use Rattle.jpg_spec.specs.Markers as markers
use Rattle.jpg_spec.specs.Items.{Item, scan, segments_of}
use Rattle.jpg_spec.specs.declared.frame.Limits.{Limits}
use Rattle.jpg_spec.proofs.Files.ItemSteps.{same_tail, scan_left}
use Rattle.jpg_coefs.specs.Picture.{Picture, map_of}
use Rattle.jpg_base.specs.declared.stop.Stop.{Stop}
use Rattle.jpg_base.specs.declared.stop.Stop.TheVariants as stop
use Rattle.jpg_markers.specs.declared.segments.SegStep.{SegStep}
use Rattle.jpg_markers.specs.declared.segments.SegStep.TheVariants as step
use Rattle.jpg_markers.specs.declared.segments.Phase.{Phase}
use Rattle.jpg_markers.specs.declared.segments.Phase.TheVariants as phase
use Rattle.jpg_markers.specs.Reading.{Reading, RepresentsSegments, AtPhase, IsBetween, Comes, HasMemory, reading_of}
use Rattle.jpg_file.specs.Read.InData.{EndsData}
use Rattle.jpg_file.specs.Read.SegmentState.{SegmentView, Holds, segments_view}
use Rattle.jpg_file.specs.declared.read.items.Items.{Items}
use Rattle.jpg_file.specs.Read.Items.{IsBeside, AfterScan, AfterSegment, BehindHead, IsOfMarker}
use Rattle.jpg_file.proofs.Files.ItemBytes.{fed_beside, no_whole, segment_long}
use Rattle.jpg_markers.specs.declared.segments.SegmentReader.{SegmentReader}

-- A scan header changes nothing that is kept, except that a scan began.
pub head_held : (limits : Limits) (h : SegmentView) (before : List Segment) (contents : List ℕ) → Holds limits h before → Holds limits (record h { scanned = true }) ((0xda, contents) ∷ before)
head_held limits h before contents k = record {
  frame = k.frame;
  dc_slots = k.dc_slots;
  ac_slots = k.ac_slots;
  dc = k.dc;
  ac = k.ac;
  quant_slots = k.quant_slots;
  quants = k.quants;
  interval = k.interval;
  scanned = refl;
  kept = k.kept;
  jfif = k.jfif;
}

-- what was sent, with the marker
abbrev pub sent_with : List ℕ → ℕ → List ℕ
sent_with sent code = sent ++ 255 ∷ code ∷ []

record Left (limits : Limits) (items : List Item) (contents bytes : List ℕ) (code : ℕ) (now : Picture) (w : Items) (k : BehindHead limits items contents w) : Type 0 where
  pub intervals : List (List ℕ)
  pub at : IsBeside limits bytes (sent_with k.sent code) (scan contents intervals ∷ items) (map_of now) (255 ∷ code ∷ [])

-- a marker by itself is no complete segment
no_whole_marker : (limits : Limits) (sent : List ℕ) (before : List Segment) (code c : ℕ) (contents : List ℕ) (r : Reading) → r.limits ≡ limits → markers.Between (kept_rule limits) sent before (255 ∷ code ∷ []) → (p : Phase) → AtPhase r p sent ((c, contents) ∷ before) → ⊥
no_whole_marker limits sent before code c contents r e b p a = by p a
  where
    within : (q : Phase) → IsBetween r q sent ((c, contents) ∷ before) → ⊥
    within q (tail, w0, seen, part) =
        let w = subst (λ (l : Limits). markers.Between (kept_rule l) sent ((c, contents) ∷ before) tail) e w0 in
        let s = w.spelled in
        let t = same_tail (kept_rule limits) sent before (255 ∷ code ∷ []) (s.1 ++ tail) b (record { front = s.0; cut = w.cut ∙ ap (λ l. l ++ tail) s.2 ∙ append_assoc s.0 s.1 tail; spelled = s.3; passed = (w.passed).2 }) in
        omega (arith, ap length t, length-append s.1 tail, segment_long c contents s.1 s.4)

    by : (q : Phase) → AtPhase r q sent ((c, contents) ∷ before) → ⊥
    by phase.Empty k = let z : (c, contents) ∷ before ≡ [] = k.1 in cc
    by phase.HalfStart k = let z : (c, contents) ∷ before ≡ [] = k.1 in cc
    by phase.Ended k = k
    by q k = within q k

of_marker : (came : Result SegStep Stop) → (came ≡ Ok step.Whole → ⊥) → HasMemory came → IsOfMarker came
of_marker (Ok step.Whole) not has = absurd (not refl)
of_marker (Err stop.NoMemory) not has = absurd has
of_marker other not has = tt

module _ (limits : Limits) (items : List Item) (contents bytes : List ℕ) (code : ℕ) (now : Picture) (w : Items) (k : BehindHead limits items contents w) where
  left_at : EndsData limits items contents bytes code now → Left limits items contents bytes code now w k
  left_at e =
      let r = reading_of w.segments in
      let p = e.place in
      let all : List Segment = (0xda, contents) ∷ segments_of items in
      let (tail, between, seen, none) = subst (λ (q : Phase). AtPhase r q k.sent all) k.behind.1 k.stands.1 in
      let b = subst (λ (l : Limits). markers.Between (kept_rule l) k.sent all tail) k.bounded between in
      let b0 = subst (λ t. markers.Between (kept_rule limits) k.sent all t) none b in
      let b1 = subst (λ c. markers.Between (kept_rule limits) k.sent ((0xda, c) ∷ segments_of items) []) (sym e.of.1) b0 in
      let b2 = subst (λ (i : List Item). markers.Between (kept_rule limits) k.sent ((0xda, p.contents) ∷ segments_of i) []) (sym e.of.0) b1 in
      let s = scan_left limits (kept_rule limits) k.sent bytes p (map_of now) e.fill code e.at e.marker e.means b2 in
      let at : IsBeside limits bytes (sent_with k.sent code) (scan p.contents (p.done ++ p.coded ∷ []) ∷ p.items) (map_of now) (255 ∷ code ∷ []) = record { beside = s.0; leads = s.1 } in
      let a1 = subst (λ c. IsBeside limits bytes (sent_with k.sent code) (scan c (p.done ++ p.coded ∷ []) ∷ p.items) (map_of now) (255 ∷ code ∷ [])) e.of.1 at in
      record { intervals = p.done ++ p.coded ∷ []; at = subst (λ (i : List Item). IsBeside limits bytes (sent_with k.sent code) (scan contents (p.done ++ p.coded ∷ []) ∷ i) (map_of now) (255 ∷ code ∷ [])) e.of.0 a1 }

  -- THE ANSWERS of a reader of segments
  abbrev sent : List ℕ
  sent = sent_with k.sent code

  abbrev before : List Segment
  before = (0xda, contents) ∷ segments_of items

  left_whole : (s : SegmentReader) → EndsData limits items contents bytes code now → Comes sent before (Ok step.Whole) (reading_of s)
      → (reading_of s).limits ≡ (reading_of w.segments).limits → ⊥
  left_whole s e c same =
      let r = reading_of s in
      no_whole_marker limits sent before code r.code r.contents r (same ∙ k.bounded) (((left_at e).at).beside).between r.phase c.1.1

  pub left_comes : (s : SegmentReader) (came answer : Result SegStep Stop) → came ≡ answer → EndsData limits items contents bytes code now → Comes sent before came (reading_of s)
      → (reading_of s).limits ≡ (reading_of w.segments).limits → HasMemory came → AfterScan limits items contents bytes (map_of now) answer (record w { segments = s })
  left_comes s came answer is e c same has =
      let l = left_at e in
      let all : List Item = scan contents l.intervals ∷ items in
      let new : Items = record w { segments = s } in
      let not : came ≡ Ok step.Whole → ⊥ = λ h. left_whole s e (subst (λ (a : Result SegStep Stop). Comes sent before a (reading_of s)) h c) same in
      subst (λ (a : Result SegStep Stop). AfterScan limits items contents bytes (map_of now) a new) is (
        l.intervals,
        no_whole limits bytes all (map_of now) came new not (fed_beside limits bytes sent all (map_of now) new (same ∙ k.bounded) k.holds (255 ∷ code ∷ []) l.at came c (λ h. absurd (not h))),
        of_marker came not has,
      )

pub after_head : (limits : Limits) (bytes : List ℕ) (items : List Item) (blocks : Blocks) (w new : Items) → AfterSegment limits bytes items blocks w → (reading_of w.segments).code ≡ 0xda
    → reading_of new.segments ≡ reading_of w.segments → segments_view new.held ≡ record (segments_view w.held) { scanned = true } → BehindHead limits items (reading_of w.segments).contents new
after_head limits bytes items blocks w new k code same held =
    let r = reading_of w.segments in
    let S : Reading → Type 0 = λ q. RepresentsSegments k.sent ((0xda, r.contents) ∷ segments_of items) q in
    let stands = subst (λ (n : ℕ). RepresentsSegments k.sent ((n, r.contents) ∷ segments_of items) r) code k.stands in
    record {
      sent = k.sent;
      stands = subst S (sym same) stands;
      behind = (ap (λ (q : Reading). q.stop) same ∙ k.stands.0, ap (λ (q : Reading). q.phase) same ∙ k.phase, ap (λ (q : Reading). q.code) same ∙ code);
      bounded = ap (λ (q : Reading). q.limits) same ∙ k.bounded;
      holds = subst (λ h. Holds limits h ((0xda, r.contents) ∷ segments_of items)) (sym held) (head_held limits (segments_view w.held) (segments_of items) r.contents k.holds);
    }
