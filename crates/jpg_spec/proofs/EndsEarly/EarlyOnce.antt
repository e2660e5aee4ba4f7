-- Bytes that end early mean one thing: they end at one place, and the units that are complete there encode one picture.
use Rattle.std.proofs.Common.{◌≡◌, ℕ, ◌+◌, ◌-◌, ◌%◌, Bool, true, false, List, [], ◌∷◌, ◌++◌, length, get_or, refl, sym, ap, ◌∙◌, subst, arith, inl, inr, ⊎_elim, pos}
use Rattle.std.specs.Prelude.{◌⊎◌, map, flat_map, nat_le, replicate}
use Rattle.std.proofs.Math.Path.{fun_ext}
use Rattle.std.proofs.lemmas.List.{append_assoc, append_cancel_right, ext_get_or, length-append}
use Rattle.jpg_spec.specs.Bits.{bits_of_bytes}
use Rattle.jpg_spec.specs.Lists.{any_of, chunks, joined}
use Rattle.jpg_spec.specs.Scan.{Blocks, Scan, unit_at, band, block_at, SpellsInterval, SpellsIntervals, coefficient}
use Rattle.jpg_spec.specs.Meaning.{Meaning}
use Rattle.jpg_spec.specs.InForce.{frame_of}
use Rattle.jpg_spec.specs.Items.{Item, ends_in_scan}
use Rattle.jpg_spec.specs.FileMeaning.{Leads, Means, meaning_of}
use Rattle.jpg_spec.specs.FirstFault.{InsideScan}
use Rattle.jpg_spec.specs.Early.{UnitsWhole, ScanInPart, EndsAfter, segments_with, EndsInside, MeansEarly, IsMeaning}
use Rattle.jpg_spec.specs.PictureInWork.{is_at, is_in_band, OnlyChanges, ScanSoFar}
use Rattle.jpg_spec.specs.ScanReading.{LeadingMarker}
use Rattle.jpg_spec.specs.Sound.{IsSound}
use Rattle.jpg_spec.specs.declared.frame.Limits.{Limits}
use Rattle.jpg_spec.specs.declared.frame.Place.{Place}
use Rattle.jpg_spec.proofs.Files.BlocksOnce.{band_of, bands_told, bands_at, blocks_once, in_band, length_band}
use Rattle.jpg_spec.proofs.Basics.Common.{both, clash, le_of}
use Rattle.jpg_spec.proofs.Files.FileLaws.{means_once, same_meaning}
use Rattle.jpg_spec.proofs.Files.FilesOnce.{filled_not_next, goes_not_inside, inside_after, inside_marker, its_scan, its_sound, next_head, next_in, next_marker, one_header, place_in, scan_last, two_inside}
use Rattle.jpg_spec.proofs.Bits.Gate.{data_no_fill}
use Rattle.jpg_spec.proofs.Files.ItemsOnce.{Meets, meet}
use Rattle.jpg_spec.proofs.Segments.MarkersOnce.{fill_no_marker}
use Rattle.jpg_spec.proofs.Bits.PartStands.{part_not_held}
use Rattle.jpg_spec.proofs.Bits.PartsOnce.{stands_once}
use Rattle.jpg_spec.proofs.Basics.Rows.{append_apart}
use Rattle.jpg_spec.proofs.Files.ScansOnce.{DataPlace, InLater, InSame, IsAhead, TwoPlaces, one_place, scan_once}
use Rattle.jpg_spec.proofs.Files.TailsOnce.{goes_not_head}

-- ONE PICTURE, if the same bands are at the places that changed
pub changed_once : (s : Scan) (places : List Place) (old new new' : Blocks) → OnlyChanges s places old new → OnlyChanges s places old new' → flat_map (band_of s new) places ≡ flat_map (band_of s new') places → new ≡ new'
changed_once s places old new new' a b told =
    fun_ext (λ i. fun_ext (λ x. fun_ext (λ y. ext_get_or (pos 0) (new i x y) (new' i x y) (sizes i x y) (λ k h. value i x y k (any_of (is_at i x y) places) refl (is_in_band s k) refl))))
  where
    sizes : (i x y : ℕ) → length (new i x y) ≡ length (new' i x y)
    sizes i x y = a.sizes i x y ∙ sym (b.sizes i x y)

    value : (i x y k : ℕ) (at : Bool) → any_of (is_at i x y) places ≡ at → (inside : Bool) → is_in_band s k ≡ inside → coefficient new i x y k ≡ coefficient new' i x y k
    value i x y k false e inside f = ap (λ l. get_or l k (pos 0)) (a.elsewhere i x y e ∙ sym (b.elsewhere i x y e))
    value i x y k true e false f = a.outside i x y k f ∙ sym (b.outside i x y k f)
    value i x y k true e true f =
        let u = both (nat_le s.ss k) (nat_le k s.se) f in
        let low = le_of s.ss k u.0 in
        let high = le_of k s.se u.1 in
        let same = bands_at s new new' places i x y sizes told e in
        sym (in_band s (new i x y) k low high) ∙ ap (λ l. get_or l (k - s.ss) (pos 0)) same ∙ in_band s (new' i x y) k low high

-- after the same intervals
pub so_far_once : (s : Scan) (before work work' : Blocks) (done : List (List ℕ)) (left : List (List Place)) → IsSound s.coding → ScanSoFar s before work done left → ScanSoFar s before work' done left → work ≡ work'
so_far_once s before work work' done left sound v w =
    let same : w.front ≡ v.front = append_cancel_right w.front v.front left (sym w.cut ∙ v.cut) in
    let spelled = subst (λ f. SpellsIntervals s before work' f done) same w.spelled in
    let changes = subst (λ f. OnlyChanges s (joined f) before work') same w.changes in
    changed_once s (joined v.front) before work work' v.changes changes (bands_told s before work work' v.front done sound v.spelled spelled)

-- THE COMPLETE UNITS of a current interval

bands_long : (s : Scan) (a b : Blocks) (places : List Place) → ((i x y : ℕ) → length (a i x y) ≡ length (b i x y)) → length (flat_map (band_of s a) places) ≡ length (flat_map (band_of s b) places)
bands_long s a b [] sizes = refl
bands_long s a b (p ∷ places) sizes =
    length-append (band_of s a p) (flat_map (band_of s a) places)
    ∙ ap (λ n. n + length (flat_map (band_of s a) places)) (length_band s (block_at a p) (block_at b p) (sizes p.component p.x p.y))
    ∙ ap (λ n. length (band_of s b p) + n) (bands_long s a b places sizes)
    ∙ sym (length-append (band_of s b p) (flat_map (band_of s b) places))

units_once : (s : Scan) (before : Blocks) (done : List (List ℕ)) (coded : List ℕ) (places : List Place) (later : List (List Place)) (after after' : Blocks) → IsSound s.coding
    → UnitsWhole s before done coded places later after → UnitsWhole s before done coded places later after' → after ≡ after'
units_once s before done coded places later after after' sound v w =
    let work = so_far_once s before w.work v.work done (places ∷ later) sound w.so_far v.so_far in
    let one = stands_once s.coding (map (unit_at s before) places) (bits_of_bytes coded) sound (v.told ++ v.part) (w.told ++ w.part) v.left w.left v.stands w.stands in
    let d = v.count in
    let e = w.count in
    let l = ap length one.1 in
    let a = ap length v.all ∙ length-append v.whole v.due in
    let b = ap length w.all ∙ length-append w.whole w.due in
    let whole = (append_apart w.whole v.whole w.due v.due (omega (arith, a, b, d, e, l)) (sym w.all ∙ v.all)).0 in
    let read = subst (λ ps. OnlyChanges s ps v.work after') whole (subst (λ o. OnlyChanges s w.whole o after') work ((w.read).changes)) in
    let told : w.told ≡ flat_map (band_of s after') v.whole = (w.read).told_there ∙ ap (flat_map (band_of s after')) whole in
    let sizes : (i x y : ℕ) → length (after i x y) ≡ length (after' i x y) = λ i x y. ((v.read).changes).sizes i x y ∙ sym (((w.read).changes).sizes i x y) in
    let long : length v.told ≡ length w.told = ap length (v.read).told_there ∙ bands_long s after after' v.whole sizes ∙ ap length (sym told) in
    let same = (append_apart v.told w.told v.part w.part long one.0).0 in
    changed_once s v.whole v.work after after' (v.read).changes read (sym (v.read).told_there ∙ same ∙ told)

-- the last interval that was read
last_spelled : (s : Scan) (before work after : Blocks) (front : List (List Place)) (done : List (List ℕ)) (places : List Place) (coded : List ℕ) → SpellsIntervals s before work front done
    → SpellsIntervals s before after (front ++ places ∷ []) (done ++ coded ∷ []) → SpellsInterval s before after places coded
last_spelled s before work after [] [] places coded k h = h.0
last_spelled s before work after [] (c ∷ done) places coded k h = absurd k
last_spelled s before work after (p ∷ front) [] places coded k h = absurd k
last_spelled s before work after (p ∷ front) (c ∷ done) places coded k h = last_spelled s before work after front done places coded k.1 h.1

-- isn't a current interval
units_not_all : (s : Scan) (before : Blocks) (done : List (List ℕ)) (coded : List ℕ) (places : List Place) (later : List (List Place)) (after after' : Blocks) → IsSound s.coding
    → UnitsWhole s before done coded places later after → ScanSoFar s before after' (done ++ coded ∷ []) later → ⊥
units_not_all s before done coded places later after after' sound v w =
    let f = (v.so_far).front in
    let same : w.front ≡ f ++ places ∷ [] = append_cancel_right w.front (f ++ places ∷ []) later (sym w.cut ∙ (v.so_far).cut ∙ sym (append_assoc f (places ∷ []) later)) in
    let here = last_spelled s before v.work after' f done places coded (v.so_far).spelled (subst (λ g. SpellsIntervals s before after' g (done ++ coded ∷ [])) same w.spelled) in
    part_not_held s.coding (map (unit_at s before) places) (v.told ++ v.part) v.left (bits_of_bytes coded) sound v.stands
    (flat_map (λ p. band s (block_at after' p)) places) here.0 here.1.0 here.2 here.1.2

pub in_part_once : (s : Scan) (before : Blocks) (done : List (List ℕ)) (coded : List ℕ) (places : List Place) (later : List (List Place)) (after after' : Blocks) → IsSound s.coding
    → ScanInPart s before done coded places later after → ScanInPart s before done coded places later after' → after ≡ after'
in_part_once s before done coded places later after after' sound (inl v) (inl w) = units_once s before done coded places later after after' sound v w
in_part_once s before done coded places later after after' sound (inl v) (inr w) = absurd (units_not_all s before done coded places later after after' sound v w)
in_part_once s before done coded places later after after' sound (inr v) (inl w) = absurd (units_not_all s before done coded places later after' after sound w v)
in_part_once s before done coded places later after after' sound (inr v) (inr w) = so_far_once s before after after' (done ++ coded ∷ []) later sound v w

-- ONE PLACE inside the data of a scan, with FF bytes after it
same_place : (s : Scan) (before : Blocks) (all : List (List Place)) (p q : DataPlace) (m n : ℕ) → TwoPlaces s before all 0 p q → p.behind ≡ replicate m 255 → q.behind ≡ replicate n 255 → q ≡ p
same_place s before all p q m n w e f = by (scan_once s before all 0 p q w)
  where
    one : (p q : DataPlace) (k : ℕ) → p.behind ≡ replicate k 255 → InSame p q → q ≡ p
    one p q k filled g = let z = data_no_fill k g.more g.text q.behind g.spelled (sym g.behind ∙ filled) in one_place p q g z.0 z.1

    not_later : (p : DataPlace) (k : ℕ) → p.behind ≡ replicate k 255 → InLater s before 0 p → ⊥
    not_later p k filled g =
        let z = data_no_fill k g.more g.text (g.marker ++ g.rest) g.spelled (sym g.behind ∙ filled) in
        fill_no_marker k (0xd0 + (0 + length p.done) % 8) g.marker g.rest g.code (sym filled ∙ g.behind ∙ ap (λ l. l ++ (g.marker ++ g.rest)) z.1)

    by : IsAhead s before 0 p q ⊎ IsAhead s before 0 q p → q ≡ p
    by (inl (inl g)) = one p q m e g
    by (inl (inr g)) = absurd (not_later p m e g)
    by (inr (inl g)) = sym (one q p n f g)
    by (inr (inr g)) = absurd (not_later q n f g)

-- INSIDE A SCAN
with_header : (limits : Limits) (items items' : List Item) (contents contents' : List ℕ) (after after' : Blocks) → items ≡ items' → contents ≡ contents' → after ≡ after'
    → (let a = segments_with items contents in let b = segments_with items' contents' in meaning_of (frame_of limits a) a after ≡ meaning_of (frame_of limits b) b after')
with_header limits items items' contents contents' after after' e f g =
    ap (λ z. (let a = segments_with z contents in meaning_of (frame_of limits a) a after)) e
    ∙ ap (λ z. (let a = segments_with items' z in meaning_of (frame_of limits a) a after)) f
    ∙ ap (λ z. (let a = segments_with items' contents' in meaning_of (frame_of limits a) a z)) g

inside_once : (limits : Limits) (bytes : List ℕ) (M N : Meaning) → EndsInside limits bytes M → EndsInside limits bytes N → M ≡ N
inside_once limits bytes M N p q = by (meet limits bytes i.items j.items u v (inside_after limits bytes p.tail i) (inside_after limits bytes q.tail j))
  where
    i : InsideScan limits bytes p.tail
    i = p.at

    j : InsideScan limits bytes q.tail
    j = q.at

    u : List ℕ
    u = i.head ++ (i.text ++ p.tail)

    v : List ℕ
    v = j.head ++ (j.text ++ q.tail)

    by : Meets limits i.items u j.items v → M ≡ N
    by (inl k) =
        let s = its_scan limits bytes p.tail i in
        let here = place_in limits bytes p.tail i in
        let there = place_in limits bytes q.tail j in
        let InPart : Scan → Blocks → DataPlace → Type 0 = λ s blocks r. ScanInPart s blocks r.done r.coded r.places r.later q.after in
        let w = two_inside limits bytes p.tail i q.tail j (λ s blocks. InPart s blocks there) k.0 k.1 q.scan in
        let same = same_place s i.blocks (chunks s.interval s.places) here there p.fill.0 q.fill.0 w.0 p.fill.1 q.fill.1 in
        let after = in_part_once s i.blocks i.done i.coded i.places i.later p.after q.after (its_sound limits bytes p.tail i) p.scan (subst (InPart s i.blocks) same w.1) in
        let contents = (one_header limits bytes p.tail i q.tail j (i.text ++ p.tail) (j.text ++ q.tail) k.1).0 in
        p.meaning ∙ with_header limits i.items j.items i.contents j.contents p.after q.after k.0 contents after ∙ sym q.meaning
    by (inr (inl g)) =
        absurd (filled_not_next limits bytes p.tail i p.fill.0 j.items v p.fill.1 g (next_marker j.items g.later g.text v g.others (λ z. inside_marker limits bytes q.tail j (j.text ++ q.tail))))
    by (inr (inr g)) =
        absurd (filled_not_next limits bytes q.tail j q.fill.0 i.items u q.fill.1 g (next_marker i.items g.later g.text u g.others (λ z. inside_marker limits bytes p.tail i (i.text ++ p.tail))))

-- AFTER ITEMS
after_once : (limits : Limits) (bytes : List ℕ) (M N : Meaning) → EndsAfter limits bytes M → EndsAfter limits bytes N → M ≡ N
after_once limits bytes M N p q = by (meet limits bytes p.items q.items p.tail q.tail p.behind q.behind)
  where
    by : Meets limits p.items p.tail q.items q.tail → M ≡ N
    by (inl k) =
        let blocks = blocks_once limits q.items (p.behind).blocks (q.behind).blocks (subst (λ z. Leads limits z (p.behind).blocks) k.0 (p.behind).leads) (q.behind).leads in
        p.meaning ∙ same_meaning limits p.items q.items (p.behind).blocks (q.behind).blocks k.0 blocks ∙ sym q.meaning
    by (inr (inl g)) = absurd (goes_not_head limits p.items p.tail p.part (next_head limits p.items q.items p.tail q.tail g))
    by (inr (inr g)) = absurd (goes_not_head limits q.items q.tail q.part (next_head limits q.items p.items q.tail p.tail g))

-- never at both
after_not_inside : (limits : Limits) (bytes : List ℕ) (M N : Meaning) → EndsAfter limits bytes M → EndsInside limits bytes N → ⊥
after_not_inside limits bytes M N p q = by (meet limits bytes p.items i.items p.tail u p.behind (inside_after limits bytes q.tail i))
  where
    i : InsideScan limits bytes q.tail
    i = q.at

    u : List ℕ
    u = i.head ++ (i.text ++ q.tail)

    is_marked : ends_in_scan p.items ≡ true → LeadingMarker p.tail
    is_marked e = ⊎_elim (λ (z : ends_in_scan p.items ≡ false). absurd (clash (ends_in_scan p.items) e z)) (λ (z : LeadingMarker p.tail). z) p.begun

    by : Meets limits p.items p.tail i.items u → ⊥
    by (inl k) = goes_not_inside limits bytes q.tail i p.items p.tail p.part k.0 k.1
    by (inr (inl g)) = goes_not_head limits p.items p.tail p.part (next_head limits p.items i.items p.tail u g)
    by (inr (inr g)) =
        let n = next_in limits bytes q.tail i p.items p.tail g in
        filled_not_next limits bytes q.tail i q.fill.0 p.items p.tail q.fill.1 g
        (next_marker p.items g.later g.text p.tail g.others (λ z. is_marked (scan_last g.first i.items p.items g.later i.contents n.intervals n.is_scan g.joined z)))

-- THE LAWS
pub early_once : (limits : Limits) (bytes : List ℕ) (M N : Meaning) → MeansEarly limits bytes M → MeansEarly limits bytes N → M ≡ N
early_once limits bytes M N (e, inl p) (f, inl q) = after_once limits bytes M N p q
early_once limits bytes M N (e, inl p) (f, inr q) = absurd (after_not_inside limits bytes M N p q)
early_once limits bytes M N (e, inr p) (f, inl q) = absurd (after_not_inside limits bytes N M q p)
early_once limits bytes M N (e, inr p) (f, inr q) = inside_once limits bytes M N p q

pub means_not_early : (limits : Limits) (bytes : List ℕ) (M N : Meaning) → Means limits bytes M → MeansEarly limits bytes N → ⊥
means_not_early limits bytes M N w (e, p) = e.unended (M, w)

pub meaning_once : (limits : Limits) (bytes : List ℕ) (M N : Meaning) → IsMeaning limits bytes M → IsMeaning limits bytes N → M ≡ N
meaning_once limits bytes M N (inl v) (inl w) = (means_once limits bytes bytes M N v w refl).0
meaning_once limits bytes M N (inl v) (inr w) = absurd (means_not_early limits bytes M N v w)
meaning_once limits bytes M N (inr v) (inl w) = absurd (means_not_early limits bytes N M w v)
meaning_once limits bytes M N (inr v) (inr w) = early_once limits bytes M N v w
