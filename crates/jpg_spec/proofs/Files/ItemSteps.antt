-- STEPS between items: the result of the bytes of a segment, if the reader of segments was sent them without the data
-- of scans.
use Rattle.std.proofs.Common.{◌≡◌, ℕ, suc, ◌+◌, ◌<◌, Bool, true, false, List, [], ◌∷◌, ◌++◌, length, refl, sym, ap, ◌∙◌, subst, arith, inl, inr, ⊎_elim, Some, None, ◌==◌}
use Rattle.std.specs.Prelude.{◌⊎◌, ◌||◌, replicate, nat_lt}
use Rattle.std.specs.Int.{to_be_bytes, w16}
use Rattle.std.proofs.lemmas.Bool.Decides.{nat_tests}
use Rattle.std.proofs.lemmas.List.{append_assoc, append-nil, append_cancel_left, replicate-append-replicate}
use Rattle.jpg_spec.specs.Lists.{chunks}
use Rattle.jpg_spec.specs.Scan.{Blocks, ScanMeans}
use Rattle.jpg_spec.specs.Markers.{Segment, Rule, soi, SpellsMarker, SpellsSegment, SpellsSegments, code_fault, is_frame_code, is_within, kept_rule, Between, NoMarkerBytes, BeginsSegment, TailReveals, PartOfSegment}
use Rattle.jpg_spec.specs.InForce.{frame_of}
use Rattle.jpg_spec.specs.History.{is_complete}
use Rattle.jpg_spec.specs.Segments.{two_bytes}
use Rattle.jpg_spec.specs.Items.{Item, segment, segments_of, ends_in_scan, contents_rule}
use Rattle.jpg_spec.specs.FileMeaning.{Leads, scan_after}
use Rattle.jpg_spec.specs.FirstFault.{Reveals}
use Rattle.jpg_spec.specs.declared.fault.Fault.{Fault}
use Rattle.jpg_spec.specs.declared.fault.Fault.TheVariants.{NoMarker, MissingComponent}
use Rattle.jpg_spec.specs.declared.frame.Limits.{Limits}
use Rattle.jpg_spec.specs.declared.frame.Place.{Place}
use Rattle.jpg_spec.proofs.Segments.MarkersOnce.{segment_once, byte_no_marker, stuffed_no_marker}
use Rattle.jpg_spec.specs.UnfinishedFile.{UnfinishedFile}
use Rattle.jpg_spec.specs.ScanReading.{LeadingMarker, Beside, ScanPlace, scan_at, scan_item, ScanAt}
use Rattle.jpg_spec.proofs.Files.ScanSteps.{scan_ends, first_place}
use Rattle.jpg_spec.proofs.Basics.Common.{same_of}

-- FILL BYTES before a marker

filled : (fill n : ℕ) (more : List ℕ) → replicate fill 255 ++ (replicate n 255 ++ more) ≡ replicate (fill + n) 255 ++ more
filled fill n more = sym (append_assoc (replicate fill 255) (replicate n 255) more) ∙ ap (λ l. l ++ more) (replicate-append-replicate fill n 255)

pub fill_marker : (fill code : ℕ) (marker : List ℕ) → SpellsMarker code marker → SpellsMarker code (replicate fill 255 ++ marker)
fill_marker fill code marker s =
    let z : fill + suc s.0 ≡ suc (fill + s.0) = omega arith in
    (fill + s.0, ap (λ l. replicate fill 255 ++ l) s.1 ∙ filled fill (suc s.0) (code ∷ []) ∙ ap (λ n. replicate n 255 ++ code ∷ []) z, s.2)

pub after_fill : (fill : ℕ) (tail marker more : List ℕ) → tail ≡ marker ++ more → replicate fill 255 ++ tail ≡ (replicate fill 255 ++ marker) ++ more
after_fill fill tail marker more e = ap (λ l. replicate fill 255 ++ l) e ∙ sym (append_assoc (replicate fill 255) marker more)

pub fill_begin : (fill : ℕ) (before : List Segment) (code : ℕ) (marker : List ℕ) → BeginsSegment before code marker → BeginsSegment before code (replicate fill 255 ++ marker)
fill_begin fill before code marker s = (fill_marker fill code marker s.0, s.1, s.2)

pub fill_segment : (fill code : ℕ) (contents bytes : List ℕ) → SpellsSegment code contents bytes → SpellsSegment code contents (replicate fill 255 ++ bytes)
fill_segment fill code contents bytes s = (
  replicate fill 255 ++ s.0,
  fill_marker fill code s.0 s.1,
  s.2,
  after_fill fill bytes s.0 (to_be_bytes w16 (length contents + 2) ++ contents) (s.3 ∙ append_assoc s.0 (to_be_bytes w16 (length contents + 2)) contents)
      ∙ sym (append_assoc (replicate fill 255 ++ s.0) (to_be_bytes w16 (length contents + 2)) contents),
)

fill_shows : (fill : ℕ) (rule : Rule) (before : List Segment) (fault : Fault) (tail : List ℕ) → TailReveals rule before fault tail → TailReveals rule before fault (replicate fill 255 ++ tail)
fill_shows fill rule before fault tail (inl s) = inl (s.0, fill_marker fill s.0 tail s.1, s.2)
fill_shows fill rule before fault tail (inr (inl s)) =
    let k = s.1 in
    inr (inl (s.0, (k.0, replicate fill 255 ++ k.1, k.2, k.3, fill_begin fill before k.0 k.1 k.4, after_fill fill tail k.1 (k.2 ∷ k.3 ∷ []) k.5, k.6)))
fill_shows fill rule before fault tail (inr (inr s)) = inr (inr (s.0, s.1, fill_segment fill s.0 s.1 tail s.2, s.3, s.4, s.5))

pub fill_part : (fill : ℕ) (before : List Segment) (tail : List ℕ) → PartOfSegment before tail → PartOfSegment before (replicate fill 255 ++ tail)
fill_part fill before tail (inl s) = inl (fill + s.0, ap (λ l. replicate fill 255 ++ l) s.1 ∙ replicate-append-replicate fill s.0 255)
fill_part fill before tail (inr s) = inr (s.0, replicate fill 255 ++ s.1, fill_begin fill before s.0 s.1 s.2, by s.3)
  where
    by : ((tail ≡ s.1) × (is_frame_code s.0 ≡ false)) ⊎ (((high : ℕ) × (tail ≡ s.1 ++ high ∷ []) × (high < 256))
        ⊎ ((high : ℕ) × (low : ℕ) × (contents : List ℕ) × (tail ≡ s.1 ++ high ∷ low ∷ contents) × (high < 256) × (low < 256) × (length contents + 2 < two_bytes high low)))
        → ((replicate fill 255 ++ tail ≡ replicate fill 255 ++ s.1) × (is_frame_code s.0 ≡ false)) ⊎ (((high : ℕ) × (replicate fill 255 ++ tail ≡ (replicate fill 255 ++ s.1) ++ high ∷ []) × (high < 256))
        ⊎ ((high : ℕ) × (low : ℕ) × (contents : List ℕ) × (replicate fill 255 ++ tail ≡ (replicate fill 255 ++ s.1) ++ high ∷ low ∷ contents) × (high < 256) × (low < 256) × (length contents + 2 < two_bytes high low)))
    by (inl h) = inl (ap (λ l. replicate fill 255 ++ l) h.0, h.1)
    by (inr (inl h)) = inr (inl (h.0, after_fill fill tail s.1 (h.0 ∷ []) h.1, h.2))
    by (inr (inr h)) = inr (inr (h.0, h.1, h.2, after_fill fill tail s.1 (h.0 ∷ h.1 ∷ h.2) h.3, h.4, h.5, h.6))

-- THE RULE for kept markers, which the reader of segments checks, is one for contents

pub not_this : (code n : ℕ) → (code == 0xfe || is_within 0xe0 0xef code) ≡ true → nat_lt n 0xe0 ≡ true → (code == n) ≡ false
not_this code n kept low = by (code == n) refl
  where
    high : (k : ℕ) → nat_lt k 0xe0 ≡ true → (k == 0xfe || is_within 0xe0 0xef k) ≡ true → ⊥
    high k small e = grind (arith, nat_tests, small, e)

    by : (b : Bool) → (code == n) ≡ b → b ≡ false
    by false e = refl
    by true e = absurd (high n low (subst (λ (k : ℕ). (k == 0xfe || is_within 0xe0 0xef k) ≡ true) (same_of code n e) kept))

kept : (limits : Limits) (before : List Segment) (code : ℕ) (contents : List ℕ) (fault : Fault) → kept_rule limits before code contents ≡ Some fault → (code == 0xfe || is_within 0xe0 0xef code) ≡ true
kept limits before code contents fault e = by (code == 0xfe || is_within 0xe0 0xef code) refl
  where
    none_of : (code == 0xfe || is_within 0xe0 0xef code) ≡ false → kept_rule limits before code contents ≡ None
    none_of is = rw is refl

    by : (b : Bool) → (code == 0xfe || is_within 0xe0 0xef code) ≡ b → b ≡ true
    by true is = refl
    by false is = absurd (let z : None ≡ Some fault = sym (none_of is) ∙ e in cc)

pub kept_is_rule : (limits : Limits) (before : List Segment) (code : ℕ) (contents : List ℕ) (fault : Fault) → kept_rule limits before code contents ≡ Some fault → contents_rule limits before code contents ≡ Some fault
kept_is_rule limits before code contents fault e =
    rw (
      not_this code 0xc4 (kept limits before code contents fault e) refl,
      not_this code 0xdb (kept limits before code contents fault e) refl,
      not_this code 0xdd (kept limits before code contents fault e) refl,
      not_this code 0xda (kept limits before code contents fault e) refl,
      not_this code 0xc0 (kept limits before code contents fault e) refl,
      not_this code 0xc1 (kept limits before code contents fault e) refl,
      not_this code 0xc2 (kept limits before code contents fault e) refl,
    ) e

kept_shows : (limits : Limits) (before : List Segment) (fault : Fault) (tail : List ℕ) → TailReveals (kept_rule limits) before fault tail → TailReveals (contents_rule limits) before fault tail
kept_shows limits before fault tail (inl s) = inl s
kept_shows limits before fault tail (inr (inl s)) = inr (inl s)
kept_shows limits before fault tail (inr (inr s)) = inr (inr (s.0, s.1, s.2, s.3, s.4, kept_is_rule limits before s.0 s.1 fault s.5))

-- THE BYTES of the same segments are the same
pub same_front : (xs : List Segment) (a b u v : List ℕ) → SpellsSegments xs a → SpellsSegments xs b → a ++ u ≡ b ++ v → (a ≡ b) × (u ≡ v)
same_front [] a b u v s t e = (s ∙ sym t, append_cancel_left soi u v (ap (λ l. l ++ u) (sym s) ∙ e ∙ ap (λ l. l ++ v) t))
same_front (x ∷ xs) a b u v s t e =
    let all : s.0 ++ (s.1 ++ u) ≡ t.0 ++ (t.1 ++ v) = sym (append_assoc s.0 s.1 u) ∙ ap (λ l. l ++ u) (sym s.2) ∙ e ∙ ap (λ l. l ++ v) t.2 ∙ append_assoc t.0 t.1 v in
    let h = same_front xs s.0 t.0 (s.1 ++ u) (t.1 ++ v) s.3 t.3 all in
    let k = segment_once x.0 x.0 x.1 x.1 s.1 t.1 u v s.4 t.4 h.1 in
    (s.2 ∙ ap (λ l. l ++ s.1) h.0 ∙ ap (λ l. t.0 ++ l) k.2 ∙ sym t.2, k.3)

-- so what the reader of segments finds of its tail is true of the tail here
pub same_tail : (rule : Rule) (sent : List ℕ) (before : List Segment) (tail other : List ℕ) → Between rule sent before tail → Between rule sent before other → tail ≡ other
same_tail rule sent before tail other v w = (same_front before v.front w.front tail other v.spelled w.spelled (sym v.cut ∙ w.cut)).1

-- MORE BYTES

pub beside_more : (limits : Limits) (rule : Rule) (sent bytes : List ℕ) (items : List Item) (tail more : List ℕ) → Beside limits rule sent bytes items tail → Beside limits rule (sent ++ more) (bytes ++ more) items (tail ++ more)
beside_more limits rule sent bytes items tail more w = record {
  fill = w.fill;
  between = record {
    front = (w.between).front;
    cut = ap (λ l. l ++ more) (w.between).cut ∙ append_assoc (w.between).front tail more;
    spelled = (w.between).spelled;
    passed = (w.between).passed;
  };
  behind = record {
    front = (w.behind).front;
    blocks = (w.behind).blocks;
    cut = ap (λ l. l ++ more) (w.behind).cut ∙ append_assoc (w.behind).front (replicate w.fill 255 ++ tail) more ∙ ap (λ l. (w.behind).front ++ l) (append_assoc (replicate w.fill 255) tail more);
    spelled = (w.behind).spelled;
    leads = (w.behind).leads;
  };
  plain = ⊎_elim
      (λ (p : (w.fill ≡ 0) × (ends_in_scan items ≡ false)). inl p)
      (λ (b : LeadingMarker tail). inr (record { code = b.code; marker = b.marker; rest = b.rest ++ more; spelled = b.spelled; cut = ap (λ l. l ++ more) b.cut ∙ append_assoc b.marker b.rest more })) w.plain;
}

-- ANSWERS

no_marker_begins : (tail : List ℕ) → NoMarkerBytes tail → LeadingMarker tail → ⊥
no_marker_begins tail (inl s) b = byte_no_marker s.0 b.code b.marker [] b.rest s.2 b.spelled (sym s.1 ∙ b.cut)
no_marker_begins tail (inr s) b = stuffed_no_marker s.0 b.code b.marker [] b.rest b.spelled (append-nil (replicate (suc s.0) 255 ++ 0 ∷ []) ∙ sym s.1 ∙ b.cut)

-- the fault that the reader of segments finds
pub segment_shown : (limits : Limits) (sent bytes : List ℕ) (items : List Item) (fault : Fault) (tail : List ℕ) → Beside limits (kept_rule limits) sent bytes items tail
    → ((fault ≡ NoMarker) × NoMarkerBytes tail) ⊎ TailReveals (kept_rule limits) (segments_of items) fault tail → Reveals limits fault bytes
segment_shown limits sent bytes items fault tail w (inl s) = by w.plain
  where
    by : ((w.fill ≡ 0) × (ends_in_scan items ≡ false)) ⊎ LeadingMarker tail → Reveals limits fault bytes
    by (inl p) = inr (inl (items, replicate w.fill 255 ++ tail, w.behind, inl (s.0, p.1, subst (λ n. NoMarkerBytes (replicate n 255 ++ tail)) (sym p.0) s.1)))
    by (inr b) = absurd (no_marker_begins tail s.1 b)
segment_shown limits sent bytes items fault tail w (inr s) =
    inr (inl (items, replicate w.fill 255 ++ tail, w.behind, inr (inl (fill_shows w.fill (contents_rule limits) (segments_of items) fault tail (kept_shows limits (segments_of items) fault tail s)))))

module _ (limits : Limits) (rule : Rule) (sent bytes : List ℕ) (items : List Item) where
  -- the fault of the contents of a complete segment
  pub contents_shown : (code : ℕ) (contents : List ℕ) (fault : Fault) (tail : List ℕ) → Beside limits rule sent bytes items tail
      → SpellsSegment code contents tail → code_fault (segments_of items) code ≡ None → (code ≡ 0xd9 → ⊥) → contents_rule limits (segments_of items) code contents ≡ Some fault → Reveals limits fault bytes
  contents_shown code contents fault tail w s allowed other broken =
      inr (inl (items, replicate w.fill 255 ++ tail, w.behind, inr (inl (inr (inr (code, contents, fill_segment w.fill code contents tail s, allowed, other, broken))))))

  -- a part of a segment
  pub part_stands : (tail : List ℕ) → Beside limits rule sent bytes items tail
      → ((code : ℕ) × BeginsSegment (segments_of items) code tail) ⊎ PartOfSegment (segments_of items) tail → UnfinishedFile limits bytes
  part_stands tail w (inl s) = inr (inl (items, replicate w.fill 255 ++ tail, w.behind, inl (s.0, fill_begin w.fill (segments_of items) s.0 tail s.1)))
  part_stands tail w (inr s) = inr (inl (items, replicate w.fill 255 ++ tail, w.behind, inr (fill_part w.fill (segments_of items) tail s)))

  -- a complete segment that breaks no rule, and is no scan header
  pub segment_passed : (code : ℕ) (contents tail : List ℕ) → Beside limits rule sent bytes items tail → SpellsSegment code contents tail
      → code_fault (segments_of items) code ≡ None → (code ≡ 0xd9 → ⊥) → (code ≡ 0xda → ⊥) → rule (segments_of items) code contents ≡ None → contents_rule limits (segments_of items) code contents ≡ None
      → Beside limits rule sent bytes (segment code contents ∷ items) []
  segment_passed code contents tail w s allowed end head passed unbroken = record {
    fill = 0;
    between = record {
      front = (w.between).front ++ tail;
      cut = (w.between).cut ∙ sym (append-nil ((w.between).front ++ tail));
      spelled = ((w.between).front, tail, refl, (w.between).spelled, s, end);
      passed = (allowed, passed, (w.between).passed);
    };
    behind = record {
      front = (w.behind).front ++ (replicate w.fill 255 ++ tail);
      blocks = (w.behind).blocks;
      cut = (w.behind).cut ∙ sym (append-nil ((w.behind).front ++ (replicate w.fill 255 ++ tail)));
      spelled = ((w.behind).front, replicate w.fill 255 ++ tail, refl, (w.behind).spelled, (fill_segment w.fill code contents tail s, end, head));
      leads = (allowed, unbroken, (w.behind).leads);
    };
    plain = inl (refl, refl);
  }

  -- a scan header that breaks no rule: its scan begins, with the picture that the items lead to
  pub scan_begun : (blocks : Blocks) (contents tail : List ℕ) (places : List Place) (later : List (List Place)) → Beside limits rule sent bytes items tail
      → Leads limits items blocks → SpellsSegment 0xda contents tail → code_fault (segments_of items) 0xda ≡ None → contents_rule limits (segments_of items) 0xda contents ≡ None
      → (let s = scan_after limits (segments_of items) contents in chunks s.interval s.places ≡ places ∷ later)
      → ScanAt limits bytes (first_place items blocks contents places later) []
  scan_begun blocks contents tail places later w leads s allowed unbroken some =
      let head = replicate w.fill 255 ++ tail in
      record {
        front = (w.behind).front;
        head = head;
        text = [];
        cut = (w.behind).cut ∙ sym (append-nil ((w.behind).front ++ head)) ∙ sym (append-nil (((w.behind).front ++ head) ++ []));
        spelled = (w.behind).spelled;
        header = fill_segment w.fill 0xda contents tail s;
        intervals = refl;
        leads = leads;
        allowed = (allowed, unbroken);
        due = some;
      }

  -- EOI, where some component was in no scan
  pub missing_shown : (tail : List ℕ) → Beside limits rule sent bytes items tail
      → SpellsMarker 0xd9 tail → code_fault (segments_of items) 0xd9 ≡ None → is_complete (frame_of limits (segments_of items)) (segments_of items) ≡ false → Reveals limits MissingComponent bytes
  missing_shown tail w end framed incomplete =
      inr (inl (items, replicate w.fill 255 ++ tail, w.behind, inr (inr (refl, fill_marker w.fill 0xd9 tail end, framed, incomplete))))

-- the marker after a scan's last interval is sent without its fill bytes
pub scan_left : (limits : Limits) (rule : Rule) (sent bytes : List ℕ) (p : ScanPlace) (after : Blocks) (fill code : ℕ) → ScanAt limits bytes p (replicate (suc fill) 255 ++ code ∷ []) → SpellsMarker code (255 ∷ code ∷ [])
    → ScanMeans (scan_at limits p) (p.done ++ p.coded ∷ []) p.blocks after → Between rule sent ((0xda, p.contents) ∷ segments_of p.items) []
    → Beside limits rule (sent ++ 255 ∷ code ∷ []) bytes (scan_item p ∷ p.items) (255 ∷ code ∷ []) × Leads limits (scan_item p ∷ p.items) after
scan_left limits rule sent bytes p after fill code w marker means between =
    let last : List ℕ = 255 ∷ code ∷ [] in
    let z : fill + 1 ≡ suc fill = omega arith in
    let e = scan_ends limits bytes p after (replicate (suc fill) 255 ++ code ∷ []) w means in (
      record {
        fill = fill;
        between = record {
          front = between.front;
          cut = ap (λ l. l ++ last) (between.cut ∙ append-nil between.front);
          spelled = between.spelled;
          passed = between.passed;
        };
        behind = record {
          front = e.front;
          blocks = e.blocks;
          cut = e.cut ∙ ap (λ l. e.front ++ l) (sym (filled fill 1 (code ∷ []) ∙ ap (λ n. replicate n 255 ++ code ∷ []) z));
          spelled = e.spelled;
          leads = e.leads;
        };
        plain = inr (record { code = code; marker = last; rest = []; spelled = marker; cut = refl });
      },
      (p.blocks, w.allowed.0, w.allowed.1, w.leads, means),
    )
