-- A fault that the last byte of a file's header reveals is one of the file.
use Rattle.std.proofs.Common.{◌≡◌, ℕ, zero, suc, Bool, true, false, cond, ◌==◌, List, [], ◌∷◌, ◌++◌, length, refl, sym, ap, ◌∙◌, subst, inl, inr, Some, None}
use Rattle.std.specs.Prelude.{◌⊎◌, nat_lt, Ok, Err, unwrap_or}
use Rattle.jpg_spec.specs.Lists.{all_of, below}
use Rattle.jpg_spec.specs.Faults.{Parsed}
use Rattle.jpg_spec.specs.Geometry.{Frame}
use Rattle.jpg_spec.specs.Segments.{ScanHead}
use Rattle.jpg_spec.specs.Markers.{Segment, SpellsMarker, code_fault, has_scan, Pass, NoMarkerBytes, RevealsSegment, TailReveals}
use Rattle.jpg_spec.specs.InForce.{no_frame, frame_of}
use Rattle.jpg_spec.specs.History.{admitted, has_begun, is_complete}
use Rattle.jpg_spec.specs.QuantContents.{◌>>=◌}
use Rattle.jpg_spec.specs.ScanContents.{scan_header}
use Rattle.jpg_spec.specs.Items.{ends_in_scan, segments_of, fault_in, contents_rule}
use Rattle.jpg_spec.specs.FileMeaning.{no_blocks}
use Rattle.jpg_spec.specs.FirstFault.{AfterItems, ItemReveals, Reveals}
use Rattle.jpg_spec.specs.Header.{header_rule, InHeader, HeaderReveals}
use Rattle.jpg_spec.specs.declared.fault.Fault.{Fault}
use Rattle.jpg_spec.specs.declared.fault.Fault.TheVariants.{NoMarker, MissingComponent}
use Rattle.jpg_spec.specs.declared.frame.Limits.{Limits}
use Rattle.jpg_spec.proofs.Headers.HeadersOnce.{items_of, segments_of_items}
use Rattle.jpg_spec.proofs.Headers.BeforeScans.{no_heads, front_items, header_leads}
use Rattle.jpg_spec.proofs.Headers.FrameFound.{frame_found, framed_end}
use Rattle.jpg_spec.proofs.Basics.Common.{same_of, neither}

-- AFTER SEGMENTS ONLY no component had a scan

none_begun : (count : ℕ) → (count == 0) ≡ false → all_of (has_begun []) (below count) ≡ false
none_begun zero e = cc
none_begun (suc n) e = ending (below n)
  where
    ending : (xs : List ℕ) → all_of (has_begun []) (xs ++ n ∷ []) ≡ false
    ending [] = refl
    ending (x ∷ xs) = refl

pub not_complete : (limits : Limits) (before : List Segment) → Pass (header_rule limits) before → has_scan before ≡ false → code_fault before 0xd9 ≡ None → is_complete (frame_of limits before) before ≡ false
not_complete limits before p none e =
    let found = frame_found limits before p (framed_end before e) in
    let f : frame_of limits before ≡ found.0 = ap (λ o. unwrap_or o no_frame) found.1 in
    let k = neither (length found.0.components == 0) (nat_lt 4 (length found.0.components)) found.2.count in
    ap (λ heads. all_of (has_begun heads) (below (length (frame_of limits before).components))) (no_heads (frame_of limits before) before none)
    ∙ ap (λ (g : Frame). all_of (has_begun []) (below (length g.components))) f ∙ none_begun (length found.0.components) k.0

-- A SCAN HEADER that is refused by itself is refused after the scans before it
scan_refused : (limits : Limits) (before : List Segment) (contents : List ℕ) (fault : Fault) → fault_in (scan_header (frame_of limits before) contents) ≡ Some fault → contents_rule limits before 0xda contents ≡ Some fault
scan_refused limits before contents fault e = by (scan_header (frame_of limits before) contents) refl e
  where
    by : (t : Parsed ScanHead) → scan_header (frame_of limits before) contents ≡ t → fault_in t ≡ Some fault → contents_rule limits before 0xda contents ≡ Some fault
    by (Ok head) h k = cc
    by (Err other) h k = ap (λ r. fault_in (r >>= admitted (frame_of limits before) before)) h ∙ k

segment_shown : (limits : Limits) (before : List Segment) (fault : Fault) (tail : List ℕ) → RevealsSegment (header_rule limits) before fault tail → RevealsSegment (contents_rule limits) before fault tail
segment_shown limits before fault tail s = (s.0, s.1, s.2, s.3, s.4, by (s.0 == 0xda) refl)
  where
    at : (b : Bool) → (s.0 == 0xda) ≡ b → cond b (fault_in (scan_header (frame_of limits before) s.1)) (contents_rule limits before s.0 s.1) ≡ Some fault
    at b h = sym (ap (λ b. cond b (fault_in (scan_header (frame_of limits before) s.1)) (contents_rule limits before s.0 s.1)) h) ∙ s.5

    by : (b : Bool) → (s.0 == 0xda) ≡ b → contents_rule limits before s.0 s.1 ≡ Some fault
    by true h = subst (λ code. contents_rule limits before code s.1 ≡ Some fault) (sym (same_of s.0 0xda h)) (scan_refused limits before s.1 fault (at true h))
    by false h = at false h

tail_shown : (limits : Limits) (before : List Segment) (fault : Fault) (tail : List ℕ) → TailReveals (header_rule limits) before fault tail → TailReveals (contents_rule limits) before fault tail
tail_shown limits before fault tail (inl s) = inl s
tail_shown limits before fault tail (inr (inl s)) = inr (inl s)
tail_shown limits before fault tail (inr (inr s)) = inr (inr (segment_shown limits before fault tail s))

-- THE HEADER as items
pub after_header : (limits : Limits) (bytes : List ℕ) (before : List Segment) (tail : List ℕ) → InHeader limits bytes before tail → AfterItems limits bytes (items_of before) tail
after_header limits bytes before tail w = record {
  front = w.0.front;
  blocks = no_blocks;
  cut = w.0.cut;
  spelled = front_items before w.0.front w.1 w.0.spelled;
  leads = header_leads limits before w.1 w.0.passed;
}

no_data_last : (before : List Segment) → ends_in_scan (items_of before) ≡ false
no_data_last [] = refl
no_data_last (s ∷ before) = refl

-- THE LAW
pub shown_in_file : (limits : Limits) (fault : Fault) (bytes : List ℕ) → HeaderReveals limits fault bytes → Reveals limits fault bytes
shown_in_file limits fault bytes (inl s) = inl s
shown_in_file limits fault bytes (inr s) = inr (inl (items_of s.0, s.1, after_header limits bytes s.0 s.1 s.2, by s.3))
  where
    same : s.0 ≡ segments_of (items_of s.0)
    same = sym (segments_of_items s.0)

    by : ((fault ≡ NoMarker) × NoMarkerBytes s.1) ⊎ (TailReveals (header_rule limits) s.0 fault s.1 ⊎ ((fault ≡ MissingComponent) × SpellsMarker 0xd9 s.1 × (code_fault s.0 0xd9 ≡ None))) → ItemReveals limits (items_of s.0) fault s.1
    by (inl h) = inl (h.0, no_data_last s.0, h.1)
    by (inr (inl h)) = inr (inl (subst (λ xs. TailReveals (contents_rule limits) xs fault s.1) same (tail_shown limits s.0 fault s.1 h)))
    by (inr (inr h)) =
        inr (inr (
          h.0,
          h.1,
          subst (λ xs. code_fault xs 0xd9 ≡ None) same h.2,
          subst (λ xs. is_complete (frame_of limits xs) xs ≡ false) same (not_complete limits s.0 s.2.0.passed s.2.1 h.2),
        ))
