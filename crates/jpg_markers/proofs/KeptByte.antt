-- A byte of one kept segment is put, and all segments are read again.
use Rattle.std.proofs.Common.{◌≡◌, ℕ, zero, suc, ◌+◌, ◌/◌, ◌%◌, ◌<◌, List, [], ◌∷◌, ◌++◌, length, take, drop, sym, ap, subst, ◌∙◌, arith}
use Rattle.std.specs.Prelude.{All, slice_set}
use Rattle.std.proofs.lemmas.List.{length-append, length-set, set-append_left, take-append-drop}
use Rattle.std.proofs.lemmas.List.Concat.{flat_map-append}
use Rattle.std.proofs.lemmas.List.Elements.{All-cons, All-head, All-tail}
use Rattle.jpg_spec_write.specs.FileText.{kept_text, segment_text}
use Rattle.jpg_markers.specs.Kept.{AreSegments, IsKeptSegment, segment_at, segments_of, with_byte_at}
use Rattle.jpg_markers.proofs.KeptBytes.{are_segments, of_text}

-- WHERE A SEGMENT BEGINS

pub start_is : (bytes rest : List ℕ) (ss : List (ℕ × List ℕ)) (i : ℕ) → AreSegments bytes → segments_of bytes ≡ ss → AreSegments rest → segments_of rest ≡ drop i ss → length bytes ≡ length (kept_text (take i ss)) + length rest
start_is bytes rest ss i are same after e =
    let all : kept_text ss ≡ kept_text (take i ss) ++ kept_text (drop i ss) =
    ap kept_text (sym (take-append-drop i ss)) ∙ flat_map-append (λ (t : ℕ × List ℕ). segment_text t.0 t.1) (take i ss) (drop i ss) in
    let text : bytes ≡ kept_text ss = sym are.spelled ∙ ap kept_text same in
    let left : length rest ≡ length (kept_text (drop i ss)) = ap length (sym after.spelled) ∙ ap (λ (l : List (ℕ × List ℕ)). length (kept_text l)) e in
    ap length (text ∙ all) ∙ length-append (kept_text (take i ss)) (kept_text (drop i ss)) ∙ ap (λ (n : ℕ). length (kept_text (take i ss)) + n) (sym left)

-- A BYTE THAT IS PUT

set_past : (xs ys : List ℕ) (k a : ℕ) → slice_set (xs ++ ys) (length xs + k) a ≡ xs ++ slice_set ys k a
set_past [] ys k a = let n : 0 + k ≡ k = omega arith in ap (λ (m : ℕ). slice_set ys m a) n
set_past (x ∷ xs) ys k a =
    let n : suc (length xs) + k ≡ suc (length xs + k) = omega arith in
    ap (λ (m : ℕ). slice_set (x ∷ (xs ++ ys)) m a) n ∙ ap (λ (l : List ℕ). x ∷ l) (set_past xs ys k a)

-- a segment of this length
abbrev sized : ℕ → ℕ → List ℕ → List ℕ
sized code n l = 255 ∷ code ∷ ((n + 2) / 256 % 256) ∷ ((n + 2) % 256) ∷ l

-- in the first segment: the contents come after four bytes
put_first : (s : ℕ × List ℕ) (rest : List ℕ) (place a : ℕ) → place < length s.1 → slice_set (segment_text s.0 s.1 ++ rest) (0 + 4 + place) a ≡ segment_text s.0 (slice_set s.1 place a) ++ rest
put_first s rest place a h =
    let n : 0 + 4 + place ≡ suc (suc (suc (suc place))) = omega arith in
    ap (λ (k : ℕ). slice_set (segment_text s.0 s.1 ++ rest) k a) n
    ∙ ap (sized s.0 (length s.1)) (set-append_left s.1 rest place a h)
    ∙ ap (λ (k : ℕ). sized s.0 k (slice_set s.1 place a ++ rest)) (sym (length-set s.1 place a))

put_text : (ss : List (ℕ × List ℕ)) (i place a : ℕ) → i < length ss → place < length (segment_at ss i).1
    → slice_set (kept_text ss) (length (kept_text (take i ss)) + 4 + place) a ≡ kept_text (with_byte_at i place a ss)
put_text [] i place a inside h = absurd (omega (arith, inside))
put_text (s ∷ ss) zero place a inside h = put_first s (kept_text ss) place a h
put_text (s ∷ ss) (suc i) place a inside h =
    let t = segment_text s.0 s.1 in
    let k = length (kept_text (take i ss)) in
    let long = length-append t (kept_text (take i ss)) in
    let n : length (t ++ kept_text (take i ss)) + 4 + place ≡ length t + (k + 4 + place) = omega (arith, long) in
    ap (λ (m : ℕ). slice_set (t ++ kept_text ss) m a) n ∙ set_past t (kept_text ss) (k + 4 + place) a
    ∙ ap (λ (l : List ℕ). t ++ l) (put_text ss i place a (omega (arith, inside)) h)

-- there is room for it
room : (ss : List (ℕ × List ℕ)) (i place : ℕ) → i < length ss → place < length (segment_at ss i).1 → length (kept_text (take i ss)) + 4 + place < length (kept_text ss)
room [] i place inside h = absurd (omega (arith, inside))
room (s ∷ ss) zero place inside h = let long = length-append (segment_text s.0 s.1) (kept_text ss) in omega (arith, long, h)
room (s ∷ ss) (suc i) place inside h =
    let t = segment_text s.0 s.1 in
    let all = length-append t (kept_text ss) in
    let front = length-append t (kept_text (take i ss)) in
    let r = room ss i place (omega (arith, inside)) h in
    omega (arith, all, front, r)

pub has_room : (bytes : List ℕ) (ss : List (ℕ × List ℕ)) (start i place : ℕ) → AreSegments bytes → segments_of bytes ≡ ss → i < length ss → place < length (segment_at ss i).1
    → start ≡ length (kept_text (take i ss)) → start + 4 + place < length bytes
has_room bytes ss start i place are same inside h at =
    let text : bytes ≡ kept_text ss = sym are.spelled ∙ ap kept_text same in
    let long = ap length text in
    let r = room ss i place inside h in
    omega (arith, long, r, at)

-- THE SEGMENTS

all_set : (ss : List (ℕ × List ℕ)) (i place a : ℕ) → All (λ s. IsKeptSegment s.0 s.1) ss → i < length ss → All (λ s. IsKeptSegment s.0 s.1) (with_byte_at i place a ss)
all_set [] i place a all inside = absurd (omega (arith, inside))
all_set (s ∷ ss) zero place a all inside =
    let one = All-head (λ t. IsKeptSegment t.0 t.1) s ss all in
    All-cons (λ t. IsKeptSegment t.0 t.1) (s.0, slice_set s.1 place a) ss
    (record { coded = one.coded; fits = (let l = length-set s.1 place a in let f = one.fits in omega (arith, l, f)) })
    (All-tail (λ t. IsKeptSegment t.0 t.1) s ss all)
all_set (s ∷ ss) (suc i) place a all inside =
    All-cons (λ t. IsKeptSegment t.0 t.1) s (with_byte_at i place a ss) (All-head (λ t. IsKeptSegment t.0 t.1) s ss all)
    (all_set ss i place a (All-tail (λ t. IsKeptSegment t.0 t.1) s ss all) (omega (arith, inside)))

pub record ArePut (old : List (ℕ × List ℕ)) (new : List ℕ) (i place a : ℕ) : Type 0 where
  pub segments : AreSegments new
  pub value : segments_of new ≡ with_byte_at i place a old
  pub long : length (segments_of new) ≡ length old

pub are_put : (old new : List ℕ) (ss : List (ℕ × List ℕ)) (start i place a : ℕ) → AreSegments old → segments_of old ≡ ss → i < length ss → place < length (segment_at ss i).1
    → start ≡ length (kept_text (take i ss)) → new ≡ slice_set old (start + 4 + place) a → ArePut ss new i place a
are_put old new ss start i place a are same inside h at e =
    let tt = with_byte_at i place a ss in
    let all = all_set ss i place a (subst (All (λ s. IsKeptSegment s.0 s.1)) same are.kept) inside in
    let before : kept_text ss ≡ old = ap kept_text (sym same) ∙ are.spelled in
    let text : kept_text tt ≡ new =
    sym (put_text ss i place a inside h) ∙ ap (λ (n : ℕ). slice_set (kept_text ss) (n + 4 + place) a) (sym at) ∙ ap (λ (l : List ℕ). slice_set l (start + 4 + place) a) before ∙ sym e in
    let value : segments_of new ≡ tt = ap segments_of (sym text) ∙ of_text tt all in
    record {
      segments = subst AreSegments text (are_segments tt all);
      value = value;
      long = ap length value ∙ length-set ss i ((segment_at ss i).0, slice_set (segment_at ss i).1 place a);
    }
