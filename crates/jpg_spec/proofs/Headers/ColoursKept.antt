-- What follows the first scan header of a file doesn't affect its frame, its colours and its factors.
use Rattle.std.proofs.Common.{◌≡◌, ℕ, Bool, true, false, cond, not, ◌==◌, ◌&&◌, List, [], ◌∷◌, ◌++◌, length, map, refl, sym, ap, ◌∙◌, Option, Some, None}
use Rattle.std.specs.Prelude.{◌||◌, find, nat_le, reverse, slice_index, option_map}
use Rattle.std.proofs.lemmas.List.{length-map, reverse-reverse}
use Rattle.jpg_spec.specs.Geometry.{Frame}
use Rattle.jpg_spec.specs.FrameHeader.{identifiers}
use Rattle.jpg_spec.specs.Jfif.{begins_jfif, begins_adobe, is_jfif, is_adobe, parsed_jfif, jfif_of, adobe_transform}
use Rattle.jpg_spec.specs.Colours.{colours_of}
use Rattle.jpg_spec.specs.Scan.{Blocks}
use Rattle.jpg_spec.specs.Meaning.{PictureComponent, picture_frame, colour_of}
use Rattle.jpg_spec.specs.Markers.{Segment, is_frame_code, is_within, has_frame, has_scan, is_kept, kept_after}
use Rattle.jpg_spec.specs.InForce.{frame_of, colours_after, factors_after}
use Rattle.jpg_spec.specs.Items.{Item, segment_of, scan, segments_of}
use Rattle.jpg_spec.specs.FileMeaning.{Leads, meaning_of}
use Rattle.jpg_spec.specs.declared.jfif.Jfif.{Jfif}
use Rattle.jpg_spec.specs.declared.frame.Colour.{Colour}
use Rattle.jpg_spec.specs.declared.frame.Component.{Component}
use Rattle.jpg_spec.specs.declared.frame.Limits.{Limits}
use Rattle.jpg_spec.proofs.Basics.Common.{both, or_right, and_none}
use Rattle.jpg_spec.proofs.Headers.FrameFound.{framed}
use Rattle.jpg_spec.proofs.Headers.FramesKept.{frame_keeps}
use Rattle.jpg_spec.proofs.Files.ItemsOnce.{leads_before}
use Rattle.jpg_spec.proofs.Places.Untouched.{frame_stays}
use Rattle.jpg_spec.proofs.Basics.Rows.{map_map}
use Rattle.jpg_spec.proofs.Headers.SameNumbers.{file_numbers, by_numbers, same_count}

-- NO SEGMENT OF COLOURS is kept after a scan

-- the segments of a test begin with one of the two names
abbrev pub IsOfColours : (Segment → Bool) → Type 0
IsOfColours test = (s : Segment) → test s ≡ true → (begins_jfif s.0 s.1 || begins_adobe s.0 s.1) ≡ true

jfif_of_colours : IsOfColours is_jfif
jfif_of_colours s e = ap (λ b. b || begins_adobe s.0 s.1) (both (begins_jfif s.0 s.1) (nat_le 14 (length s.1)) e).0

adobe_of_colours : IsOfColours is_adobe
adobe_of_colours s e = or_right (begins_jfif s.0 s.1) (begins_adobe s.0 s.1) (both (begins_adobe s.0 s.1) (nat_le 12 (length s.1)) e).0

-- what they find after a scan they found before
finds_older : (test : Segment → Bool) (s : Segment) (before : List Segment) → IsOfColours test → has_scan before ≡ true → find test (kept_after (s ∷ before)) ≡ find test (kept_after before)
finds_older test s before of scanned = by (test s) refl
  where
    not_found : (b : Bool) → test s ≡ false → find test (cond b (s ∷ kept_after before) (kept_after before)) ≡ find test (kept_after before)
    not_found true e = ap (λ t. cond t (Some s) (find test (kept_after before))) e
    not_found false e = refl

    not_kept : test s ≡ true → is_kept before s.0 s.1 ≡ false
    not_kept e = ap (λ t. (s.0 == 0xfe || is_within 0xe0 0xef s.0) && not (t && (begins_jfif s.0 s.1 || begins_adobe s.0 s.1))) scanned
        ∙ ap (λ t. (s.0 == 0xfe || is_within 0xe0 0xef s.0) && not t) (of s e) ∙ and_none (s.0 == 0xfe || is_within 0xe0 0xef s.0)

    by : (b : Bool) → test s ≡ b → find test (kept_after (s ∷ before)) ≡ find test (kept_after before)
    by true e = ap (λ b. find test (cond b (s ∷ kept_after before) (kept_after before))) (not_kept e)
    by false e = not_found (is_kept before s.0 s.1) e

-- also after more items
finds_first : (test : Segment → Bool) (more : List Item) (contents : List ℕ) (intervals : List (List ℕ)) (before : List Item) → IsOfColours test
    → (has_scan (segments_of (more ++ scan contents intervals ∷ before)) ≡ true) × (find test (kept_after (segments_of (more ++ scan contents intervals ∷ before))) ≡ find test (kept_after (segments_of before)))
finds_first test [] contents intervals before of = (refl, refl)
finds_first test (item ∷ more) contents intervals before of =
    let older = segments_of (more ++ scan contents intervals ∷ before) in
    let k = finds_first test more contents intervals before of in
    (or_right ((segment_of item).0 == 0xda) (has_scan older) k.0, finds_older test (segment_of item) older of k.0 ∙ k.1)

-- THE COLOURS depend only on these

adobe_is : (newest : List Segment) (o : Option Segment) → find is_adobe newest ≡ o → adobe_transform (reverse newest) ≡ option_map (λ s. slice_index s.1 11) o
adobe_is newest None e = rw (reverse-reverse newest, e) refl
adobe_is newest (Some s) e = rw (reverse-reverse newest, e) refl

same_adobe : (xs ys : List Segment) → find is_adobe xs ≡ find is_adobe ys → adobe_transform (reverse xs) ≡ adobe_transform (reverse ys)
same_adobe xs ys e = adobe_is xs (find is_adobe ys) e ∙ sym (adobe_is ys (find is_adobe ys) refl)

same_jfif : (xs ys : List Segment) → find is_jfif xs ≡ find is_jfif ys → jfif_of (reverse xs) ≡ jfif_of (reverse ys)
same_jfif xs ys e = ap (λ l. parsed_jfif (find is_jfif l)) (reverse-reverse xs) ∙ ap parsed_jfif e ∙ ap (λ l. parsed_jfif (find is_jfif l)) (sym (reverse-reverse ys))

-- of a frame, the JFIF header and Adobe's transform
abbrev colours_with : Frame → Jfif → Option ℕ → Colour
colours_with f jfif adobe = colours_of (length f.components) (identifiers f.components) jfif.seen adobe

-- WHAT FOLLOWS THE FIRST SCAN HEADER

abbrev behind_first : List Item → List ℕ → List (List ℕ) → List Item → List Segment
behind_first more contents intervals before = segments_of (more ++ scan contents intervals ∷ before)

pub same_frame_after : (limits : Limits) (more : List Item) (contents : List ℕ) (intervals : List (List ℕ)) (before : List Item) (blocks : Blocks) → Leads limits (more ++ scan contents intervals ∷ before) blocks
    → frame_of limits (behind_first more contents intervals before) ≡ frame_of limits (segments_of before)
same_frame_after limits more contents intervals before blocks l =
    let at = leads_before limits more (scan contents intervals ∷ before) blocks l in
    let found = framed (segments_of before) at.1.1 in
    let k = frame_keeps limits more (scan contents intervals ∷ before) blocks l (or_right (is_frame_code 0xda) (has_frame (segments_of before)) found) in
    k.same ∙ frame_stays limits (segments_of before) 0xda contents found at.1.1

pub same_jfif_after : (more : List Item) (contents : List ℕ) (intervals : List (List ℕ)) (before : List Item)
    → jfif_of (reverse (kept_after (behind_first more contents intervals before))) ≡ jfif_of (reverse (kept_after (segments_of before)))
same_jfif_after more contents intervals before =
    same_jfif (kept_after (behind_first more contents intervals before)) (kept_after (segments_of before)) (finds_first is_jfif more contents intervals before jfif_of_colours).1

pub same_colours_after : (limits : Limits) (more : List Item) (contents : List ℕ) (intervals : List (List ℕ)) (before : List Item) (blocks : Blocks) → Leads limits (more ++ scan contents intervals ∷ before) blocks
    → colours_after limits (behind_first more contents intervals before) ≡ colours_after limits (segments_of before)
same_colours_after limits more contents intervals before blocks l =
    let all = behind_first more contents intervals before in
    let first = segments_of before in
    let f = same_frame_after limits more contents intervals before blocks l in
    let jfif = same_jfif_after more contents intervals before in
    let adobe = same_adobe (kept_after all) (kept_after first) (finds_first is_adobe more contents intervals before adobe_of_colours).1 in
    ap (λ g. colours_with g (jfif_of (reverse (kept_after all))) (adobe_transform (reverse (kept_after all)))) f
    ∙ ap (λ j. colours_with (frame_of limits first) j (adobe_transform (reverse (kept_after all)))) jfif
    ∙ ap (colours_with (frame_of limits first) (jfif_of (reverse (kept_after first)))) adobe

pub same_factors_after : (limits : Limits) (more : List Item) (contents : List ℕ) (intervals : List (List ℕ)) (before : List Item) (blocks : Blocks) → Leads limits (more ++ scan contents intervals ∷ before) blocks
    → factors_after limits (behind_first more contents intervals before) ≡ factors_after limits (segments_of before)
same_factors_after limits more contents intervals before blocks l =
    ap (λ (f : Frame). map (λ (c : Component). (c.h, c.v)) f.components) (same_frame_after limits more contents intervals before blocks l)

-- THE PICTURE of a file has the colours and the factors that its segments give

pub picture_colours : (limits : Limits) (segments : List Segment) (blocks : Blocks) → colour_of (meaning_of (frame_of limits segments) segments blocks) ≡ colours_after limits segments
picture_colours limits segments blocks =
    let f = frame_of limits segments in
    let M = meaning_of f segments blocks in
    let s = file_numbers f segments blocks in
    let count : length f.components ≡ length M.components = same_count f.components (picture_frame M).components s.components ∙ length-map M.components _ in
    let ids : identifiers f.components ≡ map (λ c. c.id) M.components = by_numbers (λ n. n.0) f.components (picture_frame M).components s.components ∙ map_map (λ c. c.id) _ M.components in
    ap (λ n. colours_of n (map (λ c. c.id) M.components) (jfif_of M.kept).seen (adobe_transform M.kept)) (sym count)
    ∙ ap (λ l. colours_of (length f.components) l (jfif_of M.kept).seen (adobe_transform M.kept)) (sym ids)

pub picture_factors : (limits : Limits) (segments : List Segment) (blocks : Blocks)
    → map (λ (c : PictureComponent). (c.h, c.v)) (meaning_of (frame_of limits segments) segments blocks).components ≡ factors_after limits segments
picture_factors limits segments blocks =
    let f = frame_of limits segments in
    let M = meaning_of f segments blocks in
    let s = file_numbers f segments blocks in
    sym (by_numbers (λ n. (n.1, n.2)) f.components (picture_frame M).components s.components ∙ map_map (λ (c : Component). (c.h, c.v)) _ M.components)
