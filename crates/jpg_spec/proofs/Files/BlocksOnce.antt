-- The items of a file lead to one picture: scans encode all coefficients that they name, and the others don't change.
use Rattle.std.proofs.Common.{◌≡◌, ℕ, zero, suc, ◌+◌, ◌-◌, ◌≤◌, Bool, true, false, ◌==◌, ◌&&◌, List, [], ◌∷◌, ◌++◌, length, take, drop, get_or, refl, sym, ap, ◌∙◌, subst, arith, ℤ, pos}
use Rattle.std.specs.Prelude.{◌||◌, map, flat_map, nat_le, min}
use Rattle.std.proofs.Math.Path.{fun_ext}
use Rattle.std.proofs.lemmas.List.{append-nil, ext_get_or, get_or-drop, get_or-take, length-drop, take-append-drop, length-take}
use Rattle.std.proofs.lemmas.List.Concat.{flat_map-append}
use Rattle.jpg_spec.specs.Lists.{any_of, chunks, chunks_of, joined}
use Rattle.jpg_spec.specs.Scan.{Blocks, Scan, band, block_at, SpellsIntervals, coefficient, is_named, ScanMeans, unit_at}
use Rattle.jpg_spec.specs.Sound.{IsSound}
use Rattle.jpg_spec.specs.Items.{Item, segment, scan, segments_of}
use Rattle.jpg_spec.specs.FileMeaning.{scan_after, Leads}
use Rattle.jpg_spec.specs.declared.frame.Place.{Place}
use Rattle.jpg_spec.specs.declared.frame.Limits.{Limits}
use Rattle.jpg_spec.proofs.Basics.Rows.{append_apart}
use Rattle.jpg_spec.proofs.Bits.Sound.{packed_once}
use Rattle.jpg_spec.specs.PictureInWork.{is_at}
use Rattle.jpg_spec.proofs.Segments.TablesInForce.{scan_sound}
use Rattle.jpg_spec.proofs.Basics.Common.{both, le_of, same_of}

-- CHUNKS joined are the list
joined_chunks_of : {A : Type 0} (most n : ℕ) (xs : List A) → length xs ≤ most → joined (chunks_of most (suc n) xs) ≡ xs
unfolding chunks_of
joined_chunks_of zero n [] h = refl
joined_chunks_of zero n (x ∷ xs) h = absurd (omega (arith, h))
joined_chunks_of (suc most) n [] h = refl
joined_chunks_of (suc most) n (x ∷ xs) h =
    let l = length-drop n xs in
    ap (λ r. x ∷ (take n xs ++ r)) (joined_chunks_of most n (drop n xs) (omega (arith, h, l))) ∙ ap (λ r. x ∷ r) (take-append-drop n xs)

pub joined_chunks : {A : Type 0} (n : ℕ) (xs : List A) → joined (chunks n xs) ≡ xs
joined_chunks zero xs = append-nil xs
joined_chunks (suc n) xs = joined_chunks_of (length xs) n xs (omega arith)

-- WHAT INTERVALS ENCODE of the picture after them

abbrev pub band_of : Scan → Blocks → Place → List ℤ
band_of s after p = band s (block_at after p)

pub bands_told : (s : Scan) (before after after' : Blocks) (all : List (List Place)) (intervals : List (List ℕ)) → IsSound s.coding
    → SpellsIntervals s before after all intervals → SpellsIntervals s before after' all intervals
    → flat_map (band_of s after) (joined all) ≡ flat_map (band_of s after') (joined all)
bands_told s before after after' [] [] sound a b = refl
bands_told s before after after' [] (coded ∷ intervals) sound a b = absurd a
bands_told s before after after' (places ∷ all) [] sound a b = absurd a
bands_told s before after after' (places ∷ all) (coded ∷ intervals) sound a b =
    let x = a.0 in
    let y = b.0 in
    let here = packed_once s.coding (map (unit_at s before) places) (flat_map (band_of s after) places) (flat_map (band_of s after') places) x.0 y.0 coded sound x.1 x.2 y.1 y.2 in
    let later = bands_told s before after after' all intervals sound a.1 b.1 in
    flat_map-append (band_of s after) places (joined all) ∙ ap (λ l. l ++ flat_map (band_of s after) (joined all)) here.0
    ∙ ap (λ l. flat_map (band_of s after') places ++ l) later ∙ sym (flat_map-append (band_of s after') places (joined all))

pub length_band : (s : Scan) (a b : List ℤ) → length a ≡ length b → length (band s a) ≡ length (band s b)
length_band s a b e =
    let n = s.se + 1 - s.ss in
    let same : length (drop s.ss a) ≡ length (drop s.ss b) = length-drop s.ss a ∙ ap (λ k. k - s.ss) e ∙ sym (length-drop s.ss b) in
    length-take n (drop s.ss a) ∙ ap (λ k. min n k) same ∙ sym (length-take n (drop s.ss b))

pub bands_at : (s : Scan) (after after' : Blocks) (places : List Place) (i x y : ℕ) → ((i x y : ℕ) → length (after i x y) ≡ length (after' i x y))
    → flat_map (band_of s after) places ≡ flat_map (band_of s after') places → any_of (is_at i x y) places ≡ true → band s (after i x y) ≡ band s (after' i x y)
bands_at s after after' [] i x y sizes e h = cc
bands_at s after after' (p ∷ places) i x y sizes e h =
    by (is_at i x y p) refl h (bands_at s after after' places i x y sizes apart.1)
  where
    apart : (band_of s after p ≡ band_of s after' p) × (flat_map (band_of s after) places ≡ flat_map (band_of s after') places)
    apart =
        append_apart (band_of s after p) (band_of s after' p) (flat_map (band_of s after) places) (flat_map (band_of s after') places)
        (length_band s (block_at after p) (block_at after' p) (sizes p.component p.x p.y)) e

    by : (b : Bool) → is_at i x y p ≡ b → (b || any_of (is_at i x y) places) ≡ true → (any_of (is_at i x y) places ≡ true → band s (after i x y) ≡ band s (after' i x y)) → band s (after i x y) ≡ band s (after' i x y)
    by true f g later =
        let u = both (p.component == i && p.x == x) (p.y == y) f in
        let v = both (p.component == i) (p.x == x) u.0 in
        subst (λ n. band s (after i x n) ≡ band s (after' i x n)) (same_of p.y y u.1)
        (subst (λ n. band s (after i n p.y) ≡ band s (after' i n p.y)) (same_of p.x x v.1)
        (subst (λ n. band s (after n p.x p.y) ≡ band s (after' n p.x p.y)) (same_of p.component i v.0) apart.0))
    by false f g later = later g

-- a value of the band
pub in_band : (s : Scan) (block : List ℤ) (k : ℕ) → s.ss ≤ k → k ≤ s.se → get_or (band s block) (k - s.ss) (pos 0) ≡ get_or block k (pos 0)
in_band s block k low high =
    let z : s.ss + (k - s.ss) ≡ k = omega arith in
    get_or-take (s.se + 1 - s.ss) (drop s.ss block) (k - s.ss) (pos 0) (omega arith) ∙ get_or-drop s.ss block (k - s.ss) (pos 0) ∙ ap (λ n. get_or block n (pos 0)) z

pub scan_blocks_once : (s : Scan) (before after after' : Blocks) (intervals : List (List ℕ)) → IsSound s.coding → ScanMeans s intervals before after → ScanMeans s intervals before after' → after ≡ after'
scan_blocks_once s before after after' intervals sound a b =
    fun_ext (λ i. fun_ext (λ x. fun_ext (λ y. ext_get_or (pos 0) (after i x y) (after' i x y) (a.sizes i x y ∙ sym (b.sizes i x y)) (λ k h. by i x y k (is_named s i x y k) refl))))
  where
    told : flat_map (band_of s after) s.places ≡ flat_map (band_of s after') s.places
    told =
        subst (λ ps. flat_map (band_of s after) ps ≡ flat_map (band_of s after') ps) (joined_chunks s.interval s.places)
        (bands_told s before after after' (chunks s.interval s.places) intervals sound a.spelled b.spelled)

    by : (i x y k : ℕ) (b : Bool) → is_named s i x y k ≡ b → coefficient after i x y k ≡ coefficient after' i x y k
    by i x y k false h = a.rest i x y k h ∙ sym (b.rest i x y k h)
    by i x y k true h =
        let u = both (any_of (is_at i x y) s.places && nat_le s.ss k) (nat_le k s.se) h in
        let v = both (any_of (is_at i x y) s.places) (nat_le s.ss k) u.0 in
        let low = le_of s.ss k v.1 in
        let high = le_of k s.se u.1 in
        let same = bands_at s after after' s.places i x y (λ i x y. a.sizes i x y ∙ sym (b.sizes i x y)) told v.0 in
        sym (in_band s (after i x y) k low high) ∙ ap (λ l. get_or l (k - s.ss) (pos 0)) same ∙ in_band s (after' i x y) k low high

-- THE LAW
pub blocks_once : (limits : Limits) (items : List Item) (blocks blocks' : Blocks) → Leads limits items blocks → Leads limits items blocks' → blocks ≡ blocks'
blocks_once limits [] blocks blocks' a b = a ∙ sym b
blocks_once limits (segment code contents ∷ items) blocks blocks' a b = blocks_once limits items blocks blocks' a.2 b.2
blocks_once limits (scan contents intervals ∷ items) blocks blocks' a b =
    let old = blocks_once limits items a.0 b.0 a.3 b.3 in
    let s = scan_after limits (segments_of items) contents in
    scan_blocks_once s a.0 blocks blocks' intervals (scan_sound limits (segments_of items) contents) a.4 (subst (λ o. ScanMeans s intervals o blocks') (sym old) b.4)
