-- A picture that is turned upright may be written: its markers are as long as before, and of the same kinds.
use Rattle.std.proofs.Common.{◌≡◌, ℕ, ◌+◌, ◌<◌, ◌≤◌, Bool, true, false, cond, not, ◌&&◌, ◌||◌, ◌==◌, List, [], ◌∷◌, ◌++◌, length, map, Option, None, Some, refl, sym, ap, ◌∙◌, subst, arith}
use Rattle.std.specs.Prelude.{All, reverse}
use Rattle.std.proofs.lemmas.List.{map-append, reverse-append}
use Rattle.std.proofs.lemmas.List.Elements.{All-nil, All-cons, All-head, All-tail}
use Rattle.jpg_spec.specs.Lists.{any_of}
use Rattle.jpg_spec.specs.Markers.{Segment, is_plain_adobe, is_plain_jfif, kept_count}
use Rattle.jpg_spec.specs.Meaning.{Meaning}
use Rattle.jpg_spec.specs.InForce.{first_some}
use Rattle.jpg_spec.specs.FileMeaning.{Means}
use Rattle.jpg_spec.specs.Segments.{standard_limits}
use Rattle.jpg_spec_write.specs.WrittenFile.{IsHeaded, IsKeptMarker, IsRestart}
use Rattle.jpg_spec_write.specs.declared.picture_fault.PictureFault.{PictureFault}
use Rattle.jpg_spec_move.specs.Cropped.{crop_fault}
use Rattle.jpg_spec_move.specs.Moved.{Choice, gray_fault, moved, moved_script_fault, moved_text, picture_fault, uncropped}
use Rattle.jpg_spec_upright.specs.Exif.{is_exif, marked_upright, upright_contents}
use Rattle.jpg_spec_upright.specs.Laws.{IsTextFor}
use Rattle.jpg_spec_upright.specs.Upright.{choice_for, fault_for, marked, moved_for, picture_for, text_for}
use Rattle.jpg_spec_write.proofs.MovedWritten.{IsPicture}
use Rattle.jpg_spec_move.proofs.MeaningLeft.{read_picture}
use Rattle.jpg_spec_move.proofs.MovedText.{moved_means}
use Rattle.jpg_spec_move.proofs.MovedWritten.{moved_headed}
use Rattle.jpg_spec_upright.proofs.Marked.{upright_long}
use Rattle.jpg_spec_upright.proofs.TurnedUpright.{exif_code}

-- WHAT IS COUNTED of markers: which are plain headers, and how long each is

abbrev Counted : Type 0
Counted = Bool × Bool × ℕ

abbrev counted_of : Segment → Counted
counted_of s = (is_plain_jfif s, is_plain_adobe s, length s.1)

abbrev counts : List Counted → ℕ
counts [] = 0
counts (k ∷ before) = cond (k.0 && not (any_of (λ b. b.0) before) || k.1 && not (any_of (λ b. b.1) before)) 0 (k.2 + 4) + counts before

any_counted : (test : Counted → Bool) (ss : List Segment) → any_of (λ s. test (counted_of s)) ss ≡ any_of test (map counted_of ss)
any_counted test [] = refl
any_counted test (s ∷ ss) = ap (λ b. test (counted_of s) || b) (any_counted test ss)

count_is : (ss : List Segment) → kept_count ss ≡ counts (map counted_of ss)
count_is [] = refl
count_is (s ∷ ss) =
    ap (λ a. cond (is_plain_jfif s && not a || is_plain_adobe s && not (any_of is_plain_adobe ss)) 0 (length s.1 + 4) + kept_count ss) (any_counted (λ k. k.0) ss)
    ∙ ap (λ a. cond (is_plain_jfif s && not (any_of (λ k. k.0) (map counted_of ss)) || is_plain_adobe s && not a) 0 (length s.1 + 4) + kept_count ss) (any_counted (λ k. k.1) ss)
    ∙ ap (λ n. cond (is_plain_jfif s && not (any_of (λ k. k.0) (map counted_of ss)) || is_plain_adobe s && not (any_of (λ k. k.1) (map counted_of ss))) 0 (length s.1 + 4) + n) (count_is ss)

-- Exif data with other contents of the same length
counted_alike : (s : Segment) (contents : List ℕ) → is_exif s ≡ true → length contents ≡ length s.1 → counted_of (s.0, contents) ≡ counted_of s
counted_alike s contents e long =
    let code = exif_code s e in
    let one : counted_of (s.0, contents) ≡ (false, false, length contents) = ap (λ (n : ℕ). counted_of (n, contents)) code in
    let other : counted_of s ≡ (false, false, length s.1) = ap (λ (n : ℕ). counted_of (n, s.1)) code in
    one ∙ ap (λ (n : ℕ). (let k : Counted = (false, false, n) in k)) long ∙ sym other

same_counted : (kept : List Segment) → map counted_of (marked_upright kept) ≡ map counted_of kept
same_counted [] = refl
same_counted (s ∷ kept) = by (same_counted kept) (is_exif s) refl
  where
    by : map counted_of (marked_upright kept) ≡ map counted_of kept → (b : Bool) → is_exif s ≡ b → map counted_of (cond b ((s.0, upright_contents s.1) ∷ kept) (s ∷ marked_upright kept)) ≡ map counted_of (s ∷ kept)
    by others true e = ap (λ (k : Counted). k ∷ map counted_of kept) (counted_alike s (upright_contents s.1) e (upright_long s.1))
    by others false e = ap (λ (ks : List Counted). counted_of s ∷ ks) others

map_reverse : (ss : List Segment) → map counted_of (reverse ss) ≡ reverse (map counted_of ss)
map_reverse [] = refl
map_reverse (s ∷ ss) =
    ap (map counted_of) (reverse-append (s ∷ []) ss) ∙ map-append counted_of (reverse ss) (s ∷ []) ∙ ap (λ (ks : List Counted). ks ++ counted_of s ∷ []) (map_reverse ss)
    ∙ sym (reverse-append (counted_of s ∷ []) (map counted_of ss))

same_count : (kept : List Segment) → kept_count (reverse (marked_upright kept)) ≡ kept_count (reverse kept)
same_count kept =
    count_is (reverse (marked_upright kept)) ∙ ap counts (map_reverse (marked_upright kept)) ∙ ap (λ (ks : List Counted). counts (reverse ks)) (same_counted kept)
    ∙ ap counts (sym (map_reverse kept)) ∙ sym (count_is (reverse kept))

same_markers : (kept : List Segment) → All IsKeptMarker kept → All IsKeptMarker (marked_upright kept)
same_markers [] all = All-nil IsKeptMarker
same_markers (s ∷ kept) all = by (same_markers kept (All-tail IsKeptMarker s kept all)) (is_exif s)
  where
    by : All IsKeptMarker (marked_upright kept) → (b : Bool) → All IsKeptMarker (cond b ((s.0, upright_contents s.1) ∷ kept) (s ∷ marked_upright kept))
    by others true =
        let one = All-head IsKeptMarker s kept all in
        All-cons IsKeptMarker (s.0, upright_contents s.1) kept (one.0, subst (λ (n : ℕ). n + 2 < 65536) (sym (upright_long s.1)) one.1) (All-tail IsKeptMarker s kept all)
    by others false = All-cons IsKeptMarker s (marked_upright kept) (All-head IsKeptMarker s kept all) others

marked_picture : (M : Meaning) → IsPicture M → IsPicture (marked M)
marked_picture M is = record {
  frame = is.frame;
  quants = is.quants;
  markers = same_markers M.kept is.markers;
  count = subst (λ (n : ℕ). n ≤ 268435456) (sym (same_count M.kept)) is.count;
  blocks = is.blocks;
  others = is.others;
}

-- BY WHETHER it is turned upright

picture_of : (upright : Bool) (M : Meaning) → IsPicture M → IsPicture (picture_for upright M)
picture_of true M is = marked_picture M is
picture_of false M is = is

restart_of : (upright : Bool) (choice : Choice) (M : Meaning) → IsRestart choice.restart → IsRestart (choice_for upright choice M).restart
restart_of true choice M is = is
restart_of false choice M is = is

none_both : (a b : Option PictureFault) → first_some a b ≡ None → (a ≡ None) × (b ≡ None)
none_both None b e = (refl, e)
none_both (Some fault) b e = cc

pub upright_means : (upright : Bool) (choice : Choice) (M : Meaning) (bytes : List ℕ) → IsTextFor upright choice M bytes → Means standard_limits bytes (moved_for upright choice M)
upright_means upright choice M bytes is =
    let c = choice_for upright choice M in
    let N = picture_for upright M in
    let first = none_both (gray_fault c.gray N) (first_some (moved_script_fault c N) (crop_fault c.crop (uncropped c N))) is.faultless in
    let second = none_both (moved_script_fault c N) (crop_fault c.crop (uncropped c N)) first.1 in
    let picture = picture_of upright M (read_picture is.limits is.input M is.limited is.are_bytes is.means) in
    let headed = moved_headed c N first.0 second.1 picture in
    subst (λ (text : List ℕ). Means standard_limits text (moved c N)) (sym is.text) (moved_means c N headed second.0 (restart_of upright choice M is.small))
