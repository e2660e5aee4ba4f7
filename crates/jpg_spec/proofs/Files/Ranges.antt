-- The coefficients of a file are in the bounds of its precision, after every scan.
use Rattle.std.proofs.Common.{◌≡◌, ℕ, zero, suc, ◌+◌, ◌-◌, ◌*◌, ◌<◌, ◌≤◌, Bool, true, false, cond, not, ◌==◌, ◌&&◌, List, [], ◌∷◌, ◌++◌, length, take, drop, get_or, refl, sym, ap, ◌∙◌, subst, arith, inl, inr, ⊎_elim, ℤ, pos, None}
use Rattle.std.specs.Prelude.{◌⊎◌, ◌||◌, map, flat_map, nat_le, nat_lt, int_le, nat_abs, Ok}
use Rattle.std.proofs.lemmas.Bool.Decides.{nat_tests}
use Rattle.std.proofs.lemmas.Bool.{cases_lt}
use Rattle.std.proofs.lemmas.List.{append_assoc, length-append, length-take, length-take-le, get_or-replicate, get_or_past, length-drop, take-append-drop}
use Rattle.jpg_spec.specs.Lists.{any_of, chunks, is_distinct, joined}
use Rattle.jpg_spec.specs.Geometry.{Frame, is_real, is_progressive, bounds, bounds_of, factor_sum}
use Rattle.jpg_spec.specs.Segments.{ScanHead, head_components}
use Rattle.jpg_spec.specs.Elements.{Coding, UnitLeft, Standing, Element, difference, dc_bit, value, long_run, ends, Covers, Tells, at_start, going_on, old_values, corrected, predictions_after, are_in_bounds, zeros}
use Rattle.jpg_spec.specs.Scan.{Blocks, Scan, band, block_at, unit_at, coefficient, is_named, SpellsIntervals}
use Rattle.jpg_spec.specs.Faults.{Parsed, refuse}
use Rattle.jpg_spec.specs.ScanContents.{scan_header, is_band, are_bits, are_parameters, are_among, parsed_ids, parsed_scan_header, checked_head}
use Rattle.jpg_spec.specs.declared.fault.Fault.TheVariants.{BadLength, ScanComponent, McuTooLarge, ScanParameters}
use Rattle.jpg_spec.proofs.Bits.FirstPasses.{IsHeadAt, head_at}
use Rattle.jpg_spec.specs.InForce.{frame_of, head_in}
use Rattle.jpg_spec.specs.Markers.{has_frame}
use Rattle.jpg_spec.specs.Items.{Item, segment, scan, segments_of, contents_rule}
use Rattle.jpg_spec.specs.FileMeaning.{scan_after, Leads, Means}
use Rattle.jpg_spec.specs.PictureInWork.{is_at}
use Rattle.jpg_spec.specs.Ranges.{is_coefficient, AreInRange}
use Rattle.jpg_spec.specs.Meaning.{Meaning, real_blocks, picture_frame}
use Rattle.jpg_spec.specs.declared.frame.Limits.{Limits}
use Rattle.jpg_spec.specs.declared.frame.Place.{Place}
use Rattle.jpg_spec.proofs.Headers.Precisions.{of_bounds}
use Rattle.jpg_spec.proofs.Headers.FrameFound.{framed}
use Rattle.jpg_spec.proofs.Places.Untouched.{frame_stays, unframed}
use Rattle.jpg_spec.proofs.Basics.Rows.{append_apart}
use Rattle.jpg_spec.proofs.Bits.Within.{AreWithin, ends_one, step, length_corrected}
use Rattle.jpg_spec.proofs.Files.BlocksOnce.{joined_chunks, length_band, in_band}
use Rattle.jpg_spec.proofs.Places.PictureInWork.{leads_sizes}
use Rattle.jpg_spec.proofs.Bits.Values.{bounds_split}
use Rattle.jpg_spec.proofs.Basics.Common.{both, le_of, same_of, refused, clash}
use Rattle.jpg_spec.proofs.Files.WholeFiles.{shown_whole}

-- UNITS of a scan: EOBs end one band each; or no DC is next; or only a DC value of each unit is encoded

abbrev pub NoDc : List UnitLeft → Type 0
NoDc [] = Unit {0}
NoDc (u ∷ units) = (u.has_dc ≡ false) × NoDc units

abbrev pub DcAlone : List UnitLeft → Type 0
DcAlone [] = Unit {0}
DcAlone (u ∷ units) = (u.has_dc ≡ true) × (length u.old ≡ 1) × DcAlone units

abbrev pub IsMode : Coding → List UnitLeft → Type 0
IsMode c units = (c.most_run ≡ 0) ⊎ (NoDc units ⊎ DcAlone units)

no_dc_going : (u : UnitLeft) (old : List ℤ) (units : List UnitLeft) → NoDc units → NoDc (going_on u old units)
no_dc_going u [] units n = n
no_dc_going u (o ∷ old) units n = (refl, n)

no_dc_drop : (n : ℕ) (units : List UnitLeft) → NoDc units → NoDc (drop n units)
no_dc_drop zero units d = d
no_dc_drop (suc n) [] d = tt
no_dc_drop (suc n) (u ∷ units) d = no_dc_drop n units d.1

no_dc_after : (c : Coding) (p : ℤ) (e : Element) (u : UnitLeft) (units : List UnitLeft) (here : List ℤ) (left : List UnitLeft) → Tells c p e u units here left → NoDc (u ∷ units) → NoDc left
no_dc_after c p (difference d) u units here left t n = subst (λ l. NoDc l) (sym t.7) (no_dc_going u t.1 units n.1)
no_dc_after c p (dc_bit b) u units here left t n = subst (λ l. NoDc l) (sym t.6) (no_dc_going u t.1 units n.1)
no_dc_after c p (value run v bits) u units here left t n = subst (λ l. NoDc l) (sym t.10) (no_dc_going u t.1 units n.1)
no_dc_after c p (long_run bits) u units here left t n = subst (λ l. NoDc l) (sym t.6) (no_dc_going u t.1 units n.1)
no_dc_after c p (ends bands bits) u units here left t n = subst (λ l. NoDc l) (sym t.6) (no_dc_drop bands (u ∷ units) n)

none_left : (u : UnitLeft) (o : ℤ) (old : List ℤ) → u.old ≡ o ∷ old → length u.old ≡ 1 → old ≡ []
none_left u o [] e l = refl
none_left u o (x ∷ old) e l = let k = ap length e in absurd (omega (arith, k, l))

alone_after : (c : Coding) (p : ℤ) (e : Element) (u : UnitLeft) (units : List UnitLeft) (here : List ℤ) (left : List UnitLeft) → Tells c p e u units here left → DcAlone (u ∷ units) → DcAlone left
alone_after c p (difference d) u units here left t n =
    subst (λ l. DcAlone l) (sym (t.7 ∙ ap (λ old. going_on u old units) (none_left u t.0 t.1 t.5 n.1))) n.2
alone_after c p (dc_bit b) u units here left t n =
    subst (λ l. DcAlone l) (sym (t.6 ∙ ap (λ old. going_on u old units) (none_left u t.0 t.1 t.4 n.1))) n.2
alone_after c p (value run v bits) u units here left t n = absurd (clash u.has_dc n.0 t.2)
alone_after c p (long_run bits) u units here left t n = absurd (clash u.has_dc n.0 t.2)
alone_after c p (ends bands bits) u units here left t n = absurd (clash u.has_dc n.0 t.0)

pub mode_after : (c : Coding) (p : ℤ) (e : Element) (u : UnitLeft) (units : List UnitLeft) (here : List ℤ) (left : List UnitLeft) → Tells c p e u units here left → IsMode c (u ∷ units) → IsMode c left
mode_after c p e u units here left t (inl m) = inl m
mode_after c p e u units here left t (inr (inl m)) = inr (inl (no_dc_after c p e u units here left t m))
mode_after c p e u units here left t (inr (inr m)) = inr (inr (alone_after c p e u units here left t m))

-- the bands of several units at once

cut_at : (xs : List ℤ) (m n : ℕ) → length xs ≡ m + n → (a : List ℤ) × (b : List ℤ) × (xs ≡ a ++ b) × (length a ≡ m) × (length b ≡ n)
cut_at xs m n e =
    let l = length-drop m xs in
    (take m xs, drop m xs, sym (take-append-drop m xs), length-take-le m xs (omega (arith, e)), omega (arith, l, e))

pub flat_within : (c : Coding) (units : List UnitLeft) (here : List ℤ) → NoDc units → length here ≡ length (old_values units) → are_in_bounds c.bounds false here ≡ true → AreWithin c units here
flat_within c [] [] n l e = refl
flat_within c [] (x ∷ here) n l e = absurd (omega (arith, l))
flat_within c (u ∷ units) here n l e =
    let k = length-append u.old (old_values units) in
    let q = cut_at here (length u.old) (length (old_values units)) (l ∙ k) in
    let r = bounds_split c q.0 q.1 (subst (λ x. are_in_bounds c.bounds false x ≡ true) q.2 e) in
    (q.0, q.1, q.2, q.3, subst (λ b. are_in_bounds c.bounds b q.0 ≡ true) (sym n.0) r.0, flat_within c units q.1 n.1 q.4 r.1)

within_join : (c : Coding) (units others : List UnitLeft) (here more : List ℤ) → AreWithin c units here → AreWithin c others more → AreWithin c (units ++ others) (here ++ more)
within_join c [] others here more w v = subst (λ l. AreWithin c others (l ++ more)) (sym w) v
within_join c (u ∷ units) others here more w v =
    (w.0, w.1 ++ more, ap (λ l. l ++ more) w.2 ∙ append_assoc w.0 w.1 more, w.3, w.4, within_join c units others w.1 more w.5 v)

take_no_dc : (n : ℕ) (units : List UnitLeft) → NoDc units → NoDc (take n units)
take_no_dc zero units d = tt
take_no_dc (suc n) [] d = tt
take_no_dc (suc n) (u ∷ units) d = (d.0, take_no_dc n units d.1)

bands_within : (c : Coding) (u : UnitLeft) (units : List UnitLeft) (here : List ℤ) (left : List UnitLeft) (more : List ℤ) (bands : ℕ) (bits : List Bool) → NoDc (u ∷ units)
    → here ≡ corrected c.al (old_values (take bands (u ∷ units))) bits → left ≡ drop bands (u ∷ units) → are_in_bounds c.bounds u.has_dc here ≡ true → AreWithin c left more → AreWithin c (u ∷ units) (here ++ more)
bands_within c u units here left more bands bits n told rest ok w =
    let size : length here ≡ length (old_values (take bands (u ∷ units))) = ap length told ∙ length_corrected c.al (old_values (take bands (u ∷ units))) bits in
    let first = flat_within c (take bands (u ∷ units)) here (take_no_dc bands (u ∷ units) n) size (subst (λ b. are_in_bounds c.bounds b here ≡ true) n.0 ok) in
    subst (λ us. AreWithin c us (here ++ more)) (take-append-drop bands (u ∷ units))
    (within_join c (take bands (u ∷ units)) (drop bands (u ∷ units)) here more first (subst (λ l. AreWithin c l more) rest w))

pub any_step : (c : Coding) (p : ℤ) (e : Element) (u : UnitLeft) (units : List UnitLeft) (here : List ℤ) (left : List UnitLeft) (more : List ℤ) → IsMode c (u ∷ units)
    → Tells c p e u units here left → are_in_bounds c.bounds u.has_dc here ≡ true → AreWithin c left more → AreWithin c (u ∷ units) (here ++ more)
any_step c p e u units here left more (inl m) t ok w = step c p e u units here left more (ends_one c p e u units here left m t) t ok w
any_step c p (difference d) u units here left more (inr m) t ok w = step c p (difference d) u units here left more tt t ok w
any_step c p (dc_bit b) u units here left more (inr m) t ok w = step c p (dc_bit b) u units here left more tt t ok w
any_step c p (value run v bits) u units here left more (inr m) t ok w = step c p (value run v bits) u units here left more tt t ok w
any_step c p (long_run bits) u units here left more (inr m) t ok w = step c p (long_run bits) u units here left more tt t ok w
any_step c p (ends bands bits) u units here left more (inr (inl m)) t ok w = bands_within c u units here left more bands bits m t.5 t.6 ok w
any_step c p (ends bands bits) u units here left more (inr (inr m)) t ok w = absurd (clash u.has_dc m.0 t.0)

pub any_within : (c : Coding) (s t : Standing) (es : List Element) (told : List ℤ) (bits : List Bool) → IsMode c s.left → Covers c s es told bits t → t.left ≡ [] → AreWithin c s.left told
any_within c s t [] told bits mode k none = subst (λ l. AreWithin c l told) (sym (ap (λ (q : Standing). q.left) (sym k.2) ∙ none)) k.0
any_within c s t (e ∷ es) told bits mode k none =
    let m = subst (λ l. IsMode c l) k.7 mode in
    let next = mode_after c (s.predictions (k.0).component) e k.0 k.1 k.2 k.3 k.11 m in
    let ih = any_within c (record { predictions = predictions_after s.predictions (k.0).component e; left = k.3 }) t es k.4 k.6 next k.13 none in
    let here : AreWithin c (k.0 ∷ k.1) (k.2 ++ k.4) = any_step c (s.predictions (k.0).component) e k.0 k.1 k.2 k.3 k.4 m k.11 k.12 ih in
    subst (λ l. AreWithin c l told) (sym k.7) (subst (λ x. AreWithin c (k.0 ∷ k.1) x) (sym k.8) here)

-- A SCAN'S UNITS have a mode

head_band : (f : Frame) (contents : List ℕ) (head : ScanHead) → scan_header f contents ≡ Ok head → is_progressive f.process ≡ true → (count : ℕ) × (is_band count head ≡ true)
unfolding checked_head
head_band f [] head e prog = cc
head_band f (count ∷ bytes) head e prog =
    let ids = parsed_ids (take (2 * count) bytes) in
    let told = parsed_scan_header f (take (2 * count) bytes) (drop (2 * count) bytes) in
    let last : Parsed ScanHead = refuse ScanParameters (is_progressive f.process && not (are_parameters f count told)) (Ok told) in
    let small = refuse McuTooLarge (nat_lt 1 count && nat_lt 10 (factor_sum f (head_components told))) last in
    let distinct = refuse ScanComponent (not (is_distinct ids)) small in
    let known = refuse ScanComponent (not (are_among f ids)) distinct in
    let some = refuse ScanComponent (count == 0 || nat_lt 4 count) known in
    let a = refused BadLength (not (length bytes == 2 * count + 3)) some head e in
    let b = refused ScanComponent (count == 0 || nat_lt 4 count) known head a.1 in
    let c = refused ScanComponent (not (are_among f ids)) distinct head b.1 in
    let d = refused ScanComponent (not (is_distinct ids)) small head c.1 in
    let g = refused McuTooLarge (nat_lt 1 count && nat_lt 10 (factor_sum f (head_components told))) last head d.1 in
    let h = refused ScanParameters (is_progressive f.process && not (are_parameters f count told)) (Ok told) head g.1 in
    let yes : are_parameters f count told ≡ true = affirmed (are_parameters f count told) (sym (ap (λ b. b && not (are_parameters f count told)) prog) ∙ h.0) in
    (count, subst (λ (z : ScanHead). is_band count z ≡ true) (same told head h.1) (both (is_band count told) (are_bits f told) yes).0)
  where
    affirmed : (b : Bool) → not b ≡ false → b ≡ true
    affirmed true e = refl
    affirmed false e = sym e

    same : (a b : ScanHead) → (let t : Parsed ScanHead = Ok a in t) ≡ Ok b → a ≡ b
    same a b e = cc

no_dc_units : (s : Scan) (blocks : Blocks) (places : List Place) → (s.ss == 0) ≡ false → NoDc (map (unit_at s blocks) places)
no_dc_units s blocks [] e = tt
no_dc_units s blocks (p ∷ places) e = (e, no_dc_units s blocks places e)

alone_units : (s : Scan) (blocks : Blocks) (places : List Place) → ((i x y : ℕ) → length (blocks i x y) ≡ 64) → s.ss ≡ 0 → s.se ≡ 0 → DcAlone (map (unit_at s blocks) places)
alone_units s blocks [] sizes a b = tt
alone_units s blocks (p ∷ places) sizes a b =
    let zero_ss : (s.ss == 0) ≡ true = grind (arith, nat_tests, a) in
    let size = sizes p.component p.x p.y in
    let one : length (take (0 + 1 - 0) (drop 0 (block_at blocks p))) ≡ 1 = length-take-le 1 (block_at blocks p) (omega (arith, size)) in
    (zero_ss, subst (λ n. length (take (s.se + 1 - n) (drop n (block_at blocks p))) ≡ 1) (sym a) (subst (λ n. length (take (n + 1 - 0) (drop 0 (block_at blocks p))) ≡ 1) (sym b) one), alone_units s blocks places sizes a b)

pub scan_mode : (limits : Limits) (items : List Item) (blocks : Blocks) (contents : List ℕ) (places : List Place) → Leads limits items blocks → contents_rule limits (segments_of items) 0xda contents ≡ None
    → (let s = scan_after limits (segments_of items) contents in IsMode s.coding (map (unit_at s blocks) places))
scan_mode limits items blocks contents places l rule = by (is_progressive (frame_of limits (segments_of items)).process) refl
  where
    f : Frame
    f = frame_of limits (segments_of items)

    head : ScanHead
    head = head_in (frame_of limits (segments_of items)) contents

    s : Scan
    s = scan_after limits (segments_of items) contents

    at : IsHeadAt limits (segments_of items) contents
    at = head_at limits (segments_of items) contents rule

    ss_is : is_progressive f.process ≡ true → cond (is_progressive f.process) head.ss 0 ≡ head.ss
    ss_is e = ap (λ b. cond b head.ss 0) e

    se_is : is_progressive f.process ≡ true → cond (is_progressive f.process) head.se 63 ≡ head.se
    se_is e = ap (λ b. cond b head.se 63) e

    banded : is_progressive f.process ≡ true → (b : Bool) → (head.ss == 0) ≡ b → (count : ℕ) → is_band count head ≡ true → IsMode (scan_after limits (segments_of items) contents).coding (map (unit_at (scan_after limits (segments_of items) contents) blocks) places)
    banded e true z count h =
        let se : (head.se == 0) ≡ true = sym (ap (λ b. cond b (head.se == 0) (count == 1 && (nat_le head.ss head.se && nat_le head.se 63))) z) ∙ h in
        inr (inr (alone_units (scan_after limits (segments_of items) contents) blocks places (leads_sizes limits items blocks l) (ss_is e ∙ same_of head.ss 0 z) (se_is e ∙ same_of head.se 0 se)))
    banded e false z count h = inr (inl (no_dc_units (scan_after limits (segments_of items) contents) blocks places (ap (λ n. n == 0) (ss_is e) ∙ z)))

    by : (b : Bool) → is_progressive f.process ≡ b → IsMode (scan_after limits (segments_of items) contents).coding (map (unit_at (scan_after limits (segments_of items) contents) blocks) places)
    by false e = inl (ap (λ b. cond b 14 0) e)
    by true e =
        let h = head_band f contents at.head at.told e in
        banded e (head.ss == 0) refl h.0 (subst (λ (z : ScanHead). is_band h.0 z ≡ true) (sym at.is_head) h.1)

-- EACH PLACE's band is in the bounds

abbrev pub PlacesWithin : Scan → Blocks → List Place → Type 0
PlacesWithin s after [] = Unit {0}
PlacesWithin s after (p ∷ places) = (are_in_bounds s.coding.bounds (s.ss == 0) (band s (block_at after p)) ≡ true) × PlacesWithin s after places

pub places_join : (s : Scan) (after : Blocks) (a b : List Place) → PlacesWithin s after a → PlacesWithin s after b → PlacesWithin s after (a ++ b)
places_join s after [] b w v = v
places_join s after (p ∷ a) b w v = (w.0, places_join s after a b w.1 v)

places_within : (s : Scan) (before after : Blocks) (places : List Place) → ((i x y : ℕ) → length (before i x y) ≡ length (after i x y))
    → AreWithin s.coding (map (unit_at s before) places) (flat_map (λ p. band s (block_at after p)) places) → PlacesWithin s after places
places_within s before after [] sizes w = tt
places_within s before after (p ∷ places) sizes w =
    let l = w.3 in
    let k = length_band s (block_at before p) (block_at after p) (sizes p.component p.x p.y) in
    let r = append_apart (band s (block_at after p)) w.0 (flat_map (λ p. band s (block_at after p)) places) w.1 (sym (l ∙ k)) w.2 in
    (subst (λ b. are_in_bounds s.coding.bounds (s.ss == 0) b ≡ true) (sym r.0) w.4, places_within s before after places sizes (subst (λ t. AreWithin s.coding (map (unit_at s before) places) t) (sym r.1) w.5))

pub intervals_within : (s : Scan) (before after : Blocks) (all : List (List Place)) (intervals : List (List ℕ)) → ((i x y : ℕ) → length (before i x y) ≡ length (after i x y)) → ((places : List Place) → IsMode s.coding (map (unit_at s before) places))
    → SpellsIntervals s before after all intervals → PlacesWithin s after (joined all)
intervals_within s before after [] [] sizes mode k = tt
intervals_within s before after [] (c ∷ intervals) sizes mode k = absurd k
intervals_within s before after (p ∷ all) [] sizes mode k = absurd k
intervals_within s before after (p ∷ all) (c ∷ intervals) sizes mode k =
    let here = k.0 in
    let u = here.2 in
    places_join s after p (joined all)
    (places_within s before after p sizes (any_within s.coding (at_start (map (unit_at s before) p)) u.1 u.0 (flat_map (λ p. band s (block_at after p)) p) here.0 (mode p) u.2 u.3))
    (intervals_within s before after all intervals sizes mode k.1)

pub at_place : (s : Scan) (after : Blocks) (places : List Place) (i x y : ℕ) → PlacesWithin s after places → any_of (is_at i x y) places ≡ true → are_in_bounds s.coding.bounds (s.ss == 0) (band s (after i x y)) ≡ true
at_place s after [] i x y w h = cc
at_place s after (p ∷ places) i x y w h = by (is_at i x y p) refl h (at_place s after places i x y w.1)
  where
    by : (b : Bool) → is_at i x y p ≡ b → (b || any_of (is_at i x y) places) ≡ true → (any_of (is_at i x y) places ≡ true → are_in_bounds s.coding.bounds (s.ss == 0) (band s (after i x y)) ≡ true) → are_in_bounds s.coding.bounds (s.ss == 0) (band s (after i x y)) ≡ true
    by true e g later =
        let u = both (p.component == i && p.x == x) (p.y == y) e in
        let v = both (p.component == i) (p.x == x) u.0 in
        subst (λ n. are_in_bounds s.coding.bounds (s.ss == 0) (band s (after i x n)) ≡ true) (same_of p.y y u.1)
        (subst (λ n. are_in_bounds s.coding.bounds (s.ss == 0) (band s (after i n p.y)) ≡ true) (same_of p.x x v.1)
        (subst (λ n. are_in_bounds s.coding.bounds (s.ss == 0) (band s (after n p.x p.y)) ≡ true) (same_of p.component i v.0) w.0))
    by false e g later = later g

-- A COEFFICIENT in the bounds
ac_value : (c : Coding) (l : List ℤ) (j : ℕ) → are_in_bounds c.bounds false l ≡ true → j < length l → int_le (pos (nat_abs (get_or l j (pos 0)))) c.bounds.ac ≡ true
ac_value c [] j e h = absurd (omega (arith, h))
ac_value c (v ∷ l) zero e h = (both (int_le (pos (nat_abs v)) c.bounds.ac) (are_in_bounds c.bounds false l) e).0
ac_value c (v ∷ l) (suc j) e h = ac_value c l j (both (int_le (pos (nat_abs v)) c.bounds.ac) (are_in_bounds c.bounds false l) e).1 (omega (arith, h))

pub value_in : (c : Coding) (d : Bool) (l : List ℤ) (j k : ℕ) → are_in_bounds c.bounds d l ≡ true → j < length l → (d ≡ true → j ≡ k) → (d ≡ false → 1 ≤ k) → is_coefficient c.bounds k (get_or l j (pos 0)) ≡ true
value_in c d [] j k e h a b = absurd (omega (arith, h))
value_in c true (v ∷ l) zero k e h a b =
    let z : k ≡ 0 = sym (a refl) in
    let zero_k : (k == 0) ≡ true = grind (arith, nat_tests, z) in
    ap (λ t. cond t (int_le c.bounds.dc_low v && int_le v c.bounds.dc_high) (int_le (pos (nat_abs v)) c.bounds.ac)) zero_k
    ∙ (both (int_le c.bounds.dc_low v && int_le v c.bounds.dc_high) (are_in_bounds c.bounds false l) e).0
value_in c true (v ∷ l) (suc j) k e h a b =
    let z : suc j ≡ k = a refl in
    let some_k : (k == 0) ≡ false = grind (arith, nat_tests, z) in
    let w = get_or l j (pos 0) in
    ap (λ t. cond t (int_le c.bounds.dc_low w && int_le w c.bounds.dc_high) (int_le (pos (nat_abs w)) c.bounds.ac)) some_k
    ∙ ac_value c l j (both (int_le c.bounds.dc_low v && int_le v c.bounds.dc_high) (are_in_bounds c.bounds false l) e).1 (omega (arith, h))
value_in c false (v ∷ l) j k e h a b =
    let z : 1 ≤ k = b refl in
    let some_k : (k == 0) ≡ false = grind (arith, nat_tests, z) in
    let w = get_or (v ∷ l) j (pos 0) in
    ap (λ t. cond t (int_le c.bounds.dc_low w && int_le w c.bounds.dc_high) (int_le (pos (nat_abs w)) c.bounds.ac)) some_k ∙ ac_value c (v ∷ l) j e h

pub zero_in : (precision k : ℕ) → is_coefficient (bounds_of precision) k (pos 0) ≡ true
zero_in precision k = of_bounds (λ b. is_coefficient b k (pos 0) ≡ true) (eight (k == 0)) (twelve (k == 0)) precision
  where
    eight : (b : Bool) → cond b true true ≡ true
    eight true = refl
    eight false = refl

    twelve : (b : Bool) → cond b true true ≡ true
    twelve b = eight b

pub zeros_in_bounds : (precision k : ℕ) → is_coefficient (bounds_of precision) k (get_or (zeros 64) k (pos 0)) ≡ true
zeros_in_bounds precision k =
    ⊎_elim (λ (h : k < 64). subst (λ v. is_coefficient (bounds_of precision) k v ≡ true) (sym (get_or-replicate 64 k (pos 0) (pos 0) h)) (zero_in precision k))
    (λ (h : 64 ≤ k). subst (λ v. is_coefficient (bounds_of precision) k v ≡ true) (sym (get_or_past (zeros 64) k (pos 0) h)) (zero_in precision k)) (cases_lt k 64)

-- THE LAW
pub in_range : (limits : Limits) (items : List Item) (blocks : Blocks) → Leads limits items blocks → (i x y k : ℕ) → is_coefficient (bounds (frame_of limits (segments_of items))) k (coefficient blocks i x y k) ≡ true
in_range limits [] blocks l i x y k = subst (λ (b : Blocks). is_coefficient (bounds_of 8) k (get_or (b i x y) k (pos 0)) ≡ true) (sym l) (zeros_in_bounds 8 k)
in_range limits (segment code contents ∷ items) blocks l i x y k = by (has_frame (segments_of items)) refl (in_range limits items blocks l.2 i x y k)
  where
    f : Frame
    f = frame_of limits ((code, contents) ∷ segments_of items)

    by : (b : Bool) → has_frame (segments_of items) ≡ b → is_coefficient (bounds (frame_of limits (segments_of items))) k (coefficient blocks i x y k) ≡ true
        → is_coefficient (bounds (frame_of limits ((code, contents) ∷ segments_of items))) k (coefficient blocks i x y k) ≡ true
    by true h old = subst (λ (g : Frame). is_coefficient (bounds g) k (coefficient blocks i x y k) ≡ true) (sym (frame_stays limits (segments_of items) code contents h l.0)) old
    by false h old = subst (λ (b : Blocks). is_coefficient (bounds f) k (get_or (b i x y) k (pos 0)) ≡ true) (sym (unframed limits items blocks l.2 h)) (zeros_in_bounds f.precision k)
in_range limits (scan contents intervals ∷ items) blocks l i x y k =
    subst (λ (g : Frame). is_coefficient (bounds g) k (coefficient blocks i x y k) ≡ true) (sym (frame_stays limits (segments_of items) 0xda contents (framed (segments_of items) l.1) l.1))
    (by (is_named (scan_after limits (segments_of items) contents) i x y k) refl (in_range limits items l.0 l.3 i x y k))
  where
    f : Frame
    f = frame_of limits (segments_of items)

    s : Scan
    s = scan_after limits (segments_of items) contents

    named : any_of (is_at i x y) (scan_after limits (segments_of items) contents).places ≡ true → (scan_after limits (segments_of items) contents).ss ≤ k → k ≤ (scan_after limits (segments_of items) contents).se → k < 64 → is_coefficient (bounds (frame_of limits (segments_of items))) k (coefficient blocks i x y k) ≡ true
    named at low high small =
        let sizes : (i x y : ℕ) → length (l.0 i x y) ≡ length (blocks i x y) = λ i x y. leads_sizes limits items l.0 l.3 i x y ∙ sym ((l.4).sizes i x y) in
        let all = intervals_within s l.0 blocks (chunks s.interval s.places) intervals sizes (λ places. scan_mode limits items l.0 contents places l.3 l.2) (l.4).spelled in
        let here = at_place s blocks s.places i x y (subst (λ ps. PlacesWithin s blocks ps) (joined_chunks s.interval s.places) all) at in
        let size = (l.4).sizes i x y in
        let d = length-drop s.ss (blocks i x y) in
        let long = length-take (s.se + 1 - s.ss) (drop s.ss (blocks i x y)) in
        let inside : k - s.ss < length (band s (blocks i x y)) = omega (arith, d, long, size, low, high, small) in
        let v = value_in s.coding (s.ss == 0) (band s (blocks i x y)) (k - s.ss) k here inside (λ e. (let z : s.ss ≡ 0 = same_of s.ss 0 e in omega (arith, z))) (λ e. positive s.ss k e low) in
        subst (λ v. is_coefficient (bounds (frame_of limits (segments_of items))) k v ≡ true) (in_band s (blocks i x y) k low high) v
      where
        positive : (ss k : ℕ) → (ss == 0) ≡ false → ss ≤ k → 1 ≤ k
        positive ss k e h = grind (arith, nat_tests, e, h)

    by : (b : Bool) → is_named (scan_after limits (segments_of items) contents) i x y k ≡ b → is_coefficient (bounds (frame_of limits (segments_of items))) k (coefficient l.0 i x y k) ≡ true → is_coefficient (bounds (frame_of limits (segments_of items))) k (coefficient blocks i x y k) ≡ true
    by false h old = subst (λ v. is_coefficient (bounds (frame_of limits (segments_of items))) k v ≡ true) (sym ((l.4).rest i x y k h)) old
    by true h old =
        let s = scan_after limits (segments_of items) contents in
        let u = both (any_of (is_at i x y) s.places && nat_le s.ss k) (nat_le k s.se) h in
        let v = both (any_of (is_at i x y) s.places) (nat_le s.ss k) u.0 in
        let size = (l.4).sizes i x y in
        ⊎_elim (λ (small : k < 64). named v.0 (le_of s.ss k v.1) (le_of k s.se u.1) small)
        (λ (large : 64 ≤ k). subst (λ v. is_coefficient (bounds (frame_of limits (segments_of items))) k v ≡ true) (sym (get_or_past (blocks i x y) k (pos 0) (omega (arith, size, large)))) (zero_in f.precision k)) (cases_lt k 64)

pub leads_in_range : (limits : Limits) (items : List Item) (blocks : Blocks) → Leads limits items blocks → AreInRange (bounds (frame_of limits (segments_of items))) blocks
leads_in_range limits items blocks l = record { sizes = leads_sizes limits items blocks l; values = in_range limits items blocks l }

-- only the real blocks
pub real_in_range : (f : Frame) (blocks : Blocks) → AreInRange (bounds f) blocks → AreInRange (bounds f) (real_blocks f blocks)
real_in_range f blocks w = record {
  sizes = λ i x y. shown_whole (nat_lt i (length f.components) && is_real f i x y) (blocks i x y) (w.sizes i x y);
  values = λ i x y k. value (nat_lt i (length f.components) && is_real f i x y) (blocks i x y) k (w.values i x y k);
}
  where
    value : (b : Bool) (block : List ℤ) (k : ℕ) → is_coefficient (bounds f) k (get_or block k (pos 0)) ≡ true → is_coefficient (bounds f) k (get_or (cond b block (zeros 64)) k (pos 0)) ≡ true
    value true block k e = e
    value false block k e = zeros_in_bounds f.precision k

pub means_in_range : (limits : Limits) (bytes : List ℕ) (M : Meaning) → Means limits bytes M → AreInRange (bounds (picture_frame M)) M.blocks
means_in_range limits bytes M w =
    subst (λ (N : Meaning). AreInRange (bounds (picture_frame N)) N.blocks) (sym w.meaning)
    (real_in_range (frame_of limits (segments_of w.items)) w.blocks (leads_in_range limits w.items w.blocks w.leads))
