-- Kept markers as bytes: what is written of them is read again.
use Rattle.std.proofs.Common.{◌≡◌, ℕ, zero, suc, ◌+◌, ◌-◌, ◌*◌, ◌/◌, ◌%◌, ◌≤◌, List, [], ◌∷◌, ◌++◌, length, take, drop, get_or, Some, refl, sym, ap, subst, ◌∙◌, arith}
use Rattle.std.specs.Prelude.{All, slice_get}
use Rattle.std.proofs.lemmas.List.{append-nil, drop-drop, length-append, length-drop, take_all}
use Rattle.std.proofs.lemmas.List.Concat.{flat_map-append}
use Rattle.std.proofs.lemmas.List.Elements.{All-nil, All-cons, All-head, All-tail, All-append}
use Rattle.std.proofs.Math.Seq.{take-append_seam, drop-append_seam}
use Rattle.jpg_spec.specs.Segments.{two_bytes}
use Rattle.jpg_spec_write.specs.FileText.{kept_text, segment_text}
use Rattle.jpg_markers.specs.Kept.{AreSegments, IsKeptSegment, segments_in, segments_of}

-- the length that a segment has in a file
size_again : (n : ℕ) → n ≤ 65533 → two_bytes ((n + 2) / 256 % 256) ((n + 2) % 256) ≡ n + 2
size_again n fits = omega (arith, fits)

-- the first segment is read again
one_again : (n code : ℕ) (contents rest : List ℕ) → length contents ≤ 65533 → segments_in (suc n) (segment_text code contents ++ rest) ≡ (code, contents) ∷ segments_in n rest
one_again n code contents rest fits =
    let k = length contents in
    let h = size_again k fits in
    let size : two_bytes ((k + 2) / 256 % 256) ((k + 2) % 256) - 2 ≡ k = omega (arith, h) in
    ap (λ (m : ℕ). (code, take m (contents ++ rest)) ∷ segments_in n (drop m (contents ++ rest))) size
    ∙ ap (λ (t : List ℕ). (code, t) ∷ segments_in n (drop k (contents ++ rest))) (take-append_seam contents rest)
    ∙ ap (λ (t : List ℕ). (code, contents) ∷ segments_in n t) (drop-append_seam contents rest)

-- all are read again
again : (n : ℕ) (ss : List (ℕ × List ℕ)) → All (λ s. IsKeptSegment s.0 s.1) ss → length ss ≤ n → segments_in n (kept_text ss) ≡ ss
again zero [] all few = refl
again (suc n) [] all few = refl
again zero (s ∷ ss) all few = let z : ⊥ = omega (arith, few) in absurd z
again (suc n) (s ∷ ss) all few =
    one_again n s.0 s.1 (kept_text ss) (All-head (λ t. IsKeptSegment t.0 t.1) s ss all).fits
    ∙ ap (λ (l : List (ℕ × List ℕ)). s ∷ l) (again n ss (All-tail (λ t. IsKeptSegment t.0 t.1) s ss all) (omega (arith, few)))

-- each takes a byte at least
few_in : (ss : List (ℕ × List ℕ)) → length ss ≤ length (kept_text ss)
few_in [] = omega arith
few_in (s ∷ ss) =
    let h = few_in ss in
    let l = length-append (segment_text s.0 s.1) (kept_text ss) in
    omega (arith, h, l)

pub of_text : (ss : List (ℕ × List ℕ)) → All (λ s. IsKeptSegment s.0 s.1) ss → segments_of (kept_text ss) ≡ ss
of_text ss all = again (length (kept_text ss)) ss all (few_in ss)

pub are_segments : (ss : List (ℕ × List ℕ)) → All (λ s. IsKeptSegment s.0 s.1) ss → AreSegments (kept_text ss)
are_segments ss all = record {
  spelled = ap kept_text (of_text ss all);
  kept = subst (All (λ s. IsKeptSegment s.0 s.1)) (sym (of_text ss all)) all;
}

-- no bytes are no segments
pub none_yet : (bytes : List ℕ) → bytes ≡ [] → AreSegments bytes × (0 ≡ length (segments_of bytes))
none_yet bytes e = subst (λ (b : List ℕ). AreSegments b × (0 ≡ length (segments_of b))) (sym e) (are_segments [] (All-nil (λ s. IsKeptSegment s.0 s.1)), refl)

-- ONE MORE segment at the end

more_text : (ss : List (ℕ × List ℕ)) (code : ℕ) (contents : List ℕ) → kept_text (ss ++ (code, contents) ∷ []) ≡ kept_text ss ++ segment_text code contents
more_text ss code contents =
    flat_map-append (λ (t : ℕ × List ℕ). segment_text t.0 t.1) ss ((code, contents) ∷ [])
    ∙ ap (λ (t : List ℕ). kept_text ss ++ t) (append-nil (segment_text code contents))

-- the bytes are those of the segments with one more
pub record ArePushed (old new : List ℕ) (code : ℕ) (contents : List ℕ) : Type 0 where
  pub segments : AreSegments new
  pub value : segments_of new ≡ segments_of old ++ (code, contents) ∷ []
  pub long : length (segments_of new) ≡ length (segments_of old) + 1
  pub few : length (segments_of old) + 1 ≤ length new

pub pushed : (old new : List ℕ) (code : ℕ) (contents : List ℕ) → AreSegments old → IsKeptSegment code contents → new ≡ old ++ segment_text code contents → ArePushed old new code contents
pushed old new code contents are is e =
    let ss = segments_of old in
    let all : All (λ s. IsKeptSegment s.0 s.1) (ss ++ (code, contents) ∷ []) =
    All-append (λ s. IsKeptSegment s.0 s.1) ss ((code, contents) ∷ []) are.kept (All-cons (λ s. IsKeptSegment s.0 s.1) (code, contents) [] is (All-nil (λ s. IsKeptSegment s.0 s.1))) in
    let text : kept_text (ss ++ (code, contents) ∷ []) ≡ new = more_text ss code contents ∙ ap (λ (t : List ℕ). t ++ segment_text code contents) are.spelled ∙ sym e in
    let value : segments_of new ≡ ss ++ (code, contents) ∷ [] = ap segments_of (sym text) ∙ of_text (ss ++ (code, contents) ∷ []) all in
    let long : length (segments_of new) ≡ length ss + 1 = ap length value ∙ length-append ss ((code, contents) ∷ []) in
    let few : length (ss ++ (code, contents) ∷ []) ≤ length new = subst (λ (t : List ℕ). length (ss ++ (code, contents) ∷ []) ≤ length t) text (few_in (ss ++ (code, contents) ∷ [])) in
    record {
      segments = subst AreSegments text (are_segments (ss ++ (code, contents) ∷ []) all);
      value = value;
      long = long;
      few = (let l = length-append ss ((code, contents) ∷ []) in omega (arith, few, l));
    }

-- THE FIRST segment

-- it ends at this place
pub record BeginsSegments (bytes : List ℕ) (end : ℕ) : Type 0 where
  pub value : segments_of bytes ≡ (get_or bytes 1 0, take (end - 4) (drop 4 bytes)) ∷ segments_of (take (length bytes - end) (drop end bytes))
  pub kept : IsKeptSegment (get_or bytes 1 0) (take (end - 4) (drop 4 bytes))
  pub rest : AreSegments (take (length bytes - end) (drop end bytes))

begins_text : (s : ℕ × List ℕ) (ss : List (ℕ × List ℕ)) → All (λ t. IsKeptSegment t.0 t.1) (s ∷ ss) → BeginsSegments (kept_text (s ∷ ss)) (suc (suc (suc (suc (length s.1)))))
begins_text s ss all =
    let one = All-head (λ t. IsKeptSegment t.0 t.1) s ss all in
    let rest = All-tail (λ t. IsKeptSegment t.0 t.1) s ss all in
    let tail = drop (length s.1) (s.1 ++ kept_text ss) in
    let m = length (kept_text (s ∷ ss)) - suc (suc (suc (suc (length s.1)))) in
    let long = length-drop (length s.1) (s.1 ++ kept_text ss) in
    let left : take m tail ≡ kept_text ss = take_all m tail (omega (arith, long)) ∙ drop-append_seam s.1 (kept_text ss) in
    let n : suc (suc (suc (suc (length s.1)))) - 4 ≡ length s.1 = omega arith in
    let contents : take (suc (suc (suc (suc (length s.1)))) - 4) (s.1 ++ kept_text ss) ≡ s.1 = ap (λ (m : ℕ). take m (s.1 ++ kept_text ss)) n ∙ take-append_seam s.1 (kept_text ss) in
    record {
      value = of_text (s ∷ ss) all ∙ ap (λ (t : List (ℕ × List ℕ)). s ∷ t) (sym (of_text ss rest)) ∙ ap (λ (t : List ℕ). s ∷ segments_of t) (sym left) ∙ ap (λ (t : List ℕ). (s.0, t) ∷ segments_of (take m tail)) (sym contents);
      kept = subst (λ (t : List ℕ). IsKeptSegment s.0 t) (sym contents) one;
      rest = subst AreSegments (sym left) (are_segments ss rest);
    }

begins_by : (ss : List (ℕ × List ℕ)) → All (λ t. IsKeptSegment t.0 t.1) ss → 1 ≤ length (kept_text ss) → BeginsSegments (kept_text ss) (two_bytes (get_or (kept_text ss) 2 0) (get_or (kept_text ss) 3 0) + 2)
begins_by [] all some = absurd (omega (arith, some))
begins_by (s ∷ ss) all some =
    let h = size_again (length s.1) (All-head (λ t. IsKeptSegment t.0 t.1) s ss all).fits in
    let e : suc (suc (suc (suc (length s.1)))) ≡ two_bytes ((length s.1 + 2) / 256 % 256) ((length s.1 + 2) % 256) + 2 = omega (arith, h) in
    subst (BeginsSegments (kept_text (s ∷ ss))) e (begins_text s ss all)

begins : (bytes : List ℕ) → AreSegments bytes → 1 ≤ length bytes → BeginsSegments bytes (two_bytes (get_or bytes 2 0) (get_or bytes 3 0) + 2)
begins bytes are some =
    let P : List ℕ → Type 0 = λ t. 1 ≤ length t → BeginsSegments t (two_bytes (get_or t 2 0) (get_or t 3 0) + 2) in
    subst P are.spelled (begins_by (segments_of bytes) are.kept) some

-- The first segment ends two bytes and its size after the front; the others are all bytes after it.
pub first_of : (bytes : List ℕ) (size : ℕ) → AreSegments bytes → 1 ≤ length bytes → size ≡ get_or bytes 2 0 * 256 + get_or bytes 3 0 → BeginsSegments bytes (size + 2)
first_of bytes size are some e =
    let same : two_bytes (get_or bytes 2 0) (get_or bytes 3 0) + 2 ≡ size + 2 = omega (arith, e) in
    subst (BeginsSegments bytes) same (begins bytes are some)

-- THE MARKERS one by one

pub one_less : (kept : List (ℕ × List ℕ)) (i : ℕ) (s : ℕ × List ℕ) (rest : List (ℕ × List ℕ)) → drop i kept ≡ s ∷ rest → rest ≡ drop (i + 1) kept
one_less kept i s rest e = ap (drop 1) (sym e) ∙ drop-drop 1 i kept

pub found_at : (kept : List (ℕ × List ℕ)) (i : ℕ) (s : ℕ × List ℕ) (rest : List (ℕ × List ℕ)) → drop i kept ≡ s ∷ rest → slice_get kept i ≡ Some s
found_at kept zero s rest e = ap (λ (l : List (ℕ × List ℕ)). slice_get l 0) e
found_at [] (suc i) s rest e = let z : ⊥ = (let h = ap length e in omega (arith, h)) in absurd z
found_at (k ∷ kept) (suc i) s rest e = found_at kept i s rest e
