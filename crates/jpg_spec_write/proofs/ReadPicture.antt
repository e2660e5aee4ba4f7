-- What a file means may be written.
use Rattle.std.proofs.Common.{◌≡◌, ℕ, ◌<◌, ◌≤◌, Bool, true, false, cond, ◌&&◌, List, [], ◌∷◌, length, map, refl, sym, ap, ◌∙◌, subst, arith, ℤ, Option}
use Rattle.std.specs.Prelude.{nat_lt, unwrap_or}
use Rattle.std.specs.List.{All}
use Rattle.std.proofs.lemmas.List.{get_or-map, length-map, reverse-reverse}
use Rattle.std.proofs.lemmas.List.Elements.{All-nil, All-cons, All-from_get_or}
use Rattle.jpg_spec.specs.Lists.{below}
use Rattle.jpg_spec.specs.Segments.{QuantTable, AreQuantisers}
use Rattle.jpg_spec.specs.Geometry.{Frame, is_real, bounds}
use Rattle.jpg_spec.specs.FrameHeader.{AreLimits}
use Rattle.jpg_spec.specs.Elements.{zeros, IsBlockIn}
use Rattle.jpg_spec.specs.Markers.{Segment, Pass, is_kept, kept_after, kept_count}
use Rattle.jpg_spec.specs.InForce.{frame_of, heads_of}
use Rattle.jpg_spec.specs.History.{has_begun, quant_of, is_complete}
use Rattle.jpg_spec.specs.Items.{contents_rule}
use Rattle.jpg_spec.specs.Scan.{Blocks}
use Rattle.jpg_spec.specs.Meaning.{Meaning, picture_frame, real_blocks}
use Rattle.jpg_spec.specs.FileMeaning.{picture_component, meaning_of}
use Rattle.jpg_spec_write.specs.WrittenFile.{HasQuants, IsKeptMarker}
use Rattle.jpg_spec.specs.declared.frame.Limits.{Limits}
use Rattle.jpg_spec.proofs.Basics.Common.{both, length_below}
use Rattle.jpg_spec.proofs.Basics.Rows.{at_below, all_reverse}
use Rattle.jpg_spec.proofs.Bits.FirstPasses.{all_below}
use Rattle.jpg_spec.proofs.Segments.KeptMarkers.{may_keep, input_count}
use Rattle.jpg_spec.proofs.Segments.QuantsInForce.{AllContents, IsByte}
use Rattle.jpg_spec.proofs.Headers.SameNumbers.{same_frame, is_place, same_places, file_numbers}
use Rattle.jpg_spec_write.proofs.MovedWritten.{IsPicture}
use Rattle.jpg_spec.proofs.Writing.MovedWritten.{zeros_here}
use Rattle.jpg_spec.proofs.Files.ReadPicture.{AreShort, HasTable, has_table, table_is, AreOfBytes, block_in, zero_slots, IsLeft, left_frame}
use Rattle.jpg_spec.proofs.Places.OutsideZeros.{twice_real}

-- KEPT MARKERS

kept_markers : (before : List Segment) → AreShort before → All IsKeptMarker (kept_after before)
kept_markers [] short = All-nil IsKeptMarker
kept_markers (s ∷ before) short = by (is_kept before s.0 s.1) refl (kept_markers before short.1)
  where
    by : (b : Bool) → is_kept before s.0 s.1 ≡ b → All IsKeptMarker (kept_after before) → All IsKeptMarker (cond b (s ∷ kept_after before) (kept_after before))
    by true e older = All-cons IsKeptMarker s (kept_after before) ((both (may_keep s.0) _ e).0, short.0) older
    by false e older = older

-- THE PICTURE of a file

file_tables : (limits : Limits) (f : Frame) (before : List Segment) → AllContents IsByte before → Pass (contents_rule limits) before → frame_of limits before ≡ f → is_complete f before ≡ true
    → All HasQuants (map (picture_component f before) (below (length f.components)))
file_tables limits f before of pass e complete =
    All-from_get_or HasQuants (map (picture_component f before) (below (length f.components))) (picture_component f before 0)
    (λ i h. (let l = length-map (below (length f.components)) (picture_component f before) in
    let j : i < length (below (length f.components)) = omega (arith, h, l) in
    let k : i < length f.components = (let n = length_below (length f.components) in omega (arith, j, n)) in
    subst HasQuants (sym (get_or-map (picture_component f before) (below (length f.components)) i 0 (picture_component f before 0) j ∙ ap (picture_component f before) (at_below (length f.components) i k)))
    (table i (has_table limits f before i pass e (all_below (has_begun (heads_of f before)) (length f.components) i complete k)))))
  where
    table : (i : ℕ) → HasTable (quant_of f before i) → HasQuants (picture_component f before i)
    table i (t, k) = subst (λ (o : Option QuantTable). AreQuantisers (unwrap_or o [])) (sym k) (table_is f before i t of k)

pub left_picture : (limits : Limits) (segments : List Segment) (blocks : Blocks) (M : Meaning) → AreLimits limits → AreOfBytes segments → IsLeft limits segments blocks M → IsPicture M
left_picture limits segments blocks M limited of m =
    let f = frame_of limits segments in
    let range = m.range in
    let same = file_numbers f segments blocks in
    let here : IsPicture (meaning_of f segments blocks) = record {
      frame = same_frame f (picture_frame (meaning_of f segments blocks)) same (zero_slots (map (picture_component f segments) (below (length f.components)))) (left_frame limits segments limited m.headers m.found);
      quants = file_tables limits f segments of.1 m.rules refl m.complete;
      markers = all_reverse IsKeptMarker (kept_after segments) (0, []) (kept_markers segments of.0);
      count = subst (λ xs. kept_count xs ≤ 268435456) (sym (reverse-reverse (kept_after segments))) (let a = input_count limits segments m.headers in let b = limited.kept in omega (arith, a, b));
      blocks = λ i x y. shown (nat_lt i (length f.components) && is_real f i x y) (blocks i x y) (block_in (bounds f) (blocks i x y) (range.sizes i x y) (λ k. range.values i x y k));
      others = λ i x y. twice_real (is_place f i x y) (blocks i x y) ∙ ap (λ b. cond b (real_blocks f blocks i x y) (zeros 64)) (same_places f (picture_frame (meaning_of f segments blocks)) i x y same);
    } in
    subst (λ N. IsPicture N) (sym m.meaning) here
  where
    f : Frame
    f = frame_of limits segments

    shown : (b : Bool) (block : List ℤ) → IsBlockIn (bounds f) block → IsBlockIn (bounds f) (cond b block (zeros 64))
    shown true block is = is
    shown false block is = zeros_here f
