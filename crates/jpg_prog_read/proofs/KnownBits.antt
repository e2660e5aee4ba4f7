-- In a progressive file, what the scans so far encoded down to a bit are multiples of that power of two, and what none
-- encoded is zero.
use Rattle.std.proofs.Common.{◌≡◌, ℕ, zero, suc, ◌+◌, ◌-◌, ◌*◌, ◌<◌, ◌≤◌, Bool, true, false, cond, not, ◌==◌, ◌&&◌, List, [], ◌∷◌, length, take, drop, get_or, refl, sym, ap, ◌∙◌, subst, arith, ⊎_elim, Option, Some, None, Ok, ℤ, pos}
use Rattle.std.specs.Prelude.{◌||◌, map, flat_map, nat_lt, nat_le}
use Rattle.std.proofs.lemmas.Bool.{cases_lt}
use Rattle.std.proofs.lemmas.List.{get_or-replicate, get_or_past, get_or-take, get_or-drop, length-take, length-drop}
use Rattle.jpg_spec.specs.Lists.{any_of, all_of, is_distinct, chunks, joined}
use Rattle.jpg_spec.specs.Geometry.{Frame, is_progressive, bounds, factor_sum}
use Rattle.jpg_spec.specs.Segments.{ScanHead, head_components}
use Rattle.jpg_spec.specs.Elements.{at_start, old_values}
use Rattle.jpg_spec.specs.Scan.{Blocks, Scan, band, block_at, unit_at, coefficient, is_named, SpellsIntervals, ScanMeans}
use Rattle.jpg_spec.specs.ScanContents.{scan_header, checked_head, is_band, are_bits, are_parameters, are_among, parsed_ids, parsed_scan_header}
use Rattle.jpg_spec.specs.Markers.{Segment, is_frame_code, has_frame, code_fault}
use Rattle.jpg_spec.specs.InForce.{frame_of, head_in, heads_of}
use Rattle.jpg_spec.specs.History.{names, has_coefficient, known_to, is_next}
use Rattle.jpg_spec.specs.Items.{Item, segment, scan, segments_of, contents_rule}
use Rattle.jpg_spec.specs.FileMeaning.{scan_after, Leads}
use Rattle.jpg_spec.specs.PictureInWork.{is_at}
use Rattle.jpg_spec.specs.declared.fault.Fault.TheVariants.{BadLength, ScanComponent, McuTooLarge, ScanParameters}
use Rattle.jpg_spec.specs.declared.frame.Limits.{Limits}
use Rattle.jpg_spec.specs.declared.frame.Place.{Place}
use Rattle.jpg_spec.proofs.Files.BlocksOnce.{joined_chunks, in_band}
use Rattle.jpg_spec.proofs.Basics.Common.{both, and_intro, le_of, same_of, or_right, refused, same_told}
use Rattle.jpg_spec.proofs.Bits.FirstPasses.{head_at, all_among}
use Rattle.jpg_spec.proofs.Headers.FrameFound.{framed}
use Rattle.jpg_spec.proofs.Places.PictureInWork.{leads_sizes}
use Rattle.jpg_spec.proofs.Basics.Each.{Each, each_join}
use Rattle.jpg_spec.proofs.Places.PlacesFound.{each_units}
use Rattle.jpg_spec.proofs.Places.Known.{band_next, known_new, known_old}
use Rattle.jpg_spec.proofs.Segments.TablesInForce.{affirmed}
use Rattle.jpg_spec.proofs.Places.Untouched.{frame_stays}
use Rattle.jpg_spec.proofs.Basics.Each.{each_rows}
use Rattle.jpg_prog_read.specs.Known.{IsMultiple, AreMultiples, IsProgressiveAfter, known_after, LeadsToKnown}
use Rattle.jpg_prog_read.proofs.Known.{in_band as is_inside}
use Rattle.jpg_prog_read.proofs.Multiples.{multiple_down, multiples_join, multiples_split, covers_multiples}

-- A value that is known down to a bit is a multiple of that power of two, and one of which nothing is known is zero.
abbrev pub IsKnownTo : Option ℕ → ℤ → Type 0
IsKnownTo None v = v ≡ pos 0
IsKnownTo (Some n) v = IsMultiple n v

zero_multiple : (n : ℕ) → IsMultiple n (pos 0)
zero_multiple n = (0, omega arith)

zero_known : (o : Option ℕ) → IsKnownTo o (pos 0)
zero_known None = refl
zero_known (Some n) = zero_multiple n

-- LISTS of multiples

multiples_from : (al : ℕ) (l : List ℤ) → ((j : ℕ) → j < length l → IsMultiple al (get_or l j (pos 0))) → AreMultiples al l
multiples_from al [] h = tt
multiples_from al (v ∷ l) h = (h 0 (omega arith), multiples_from al l (λ j g. h (suc j) (omega (arith, g))))

multiple_at : (al : ℕ) (l : List ℤ) (j : ℕ) → AreMultiples al l → IsMultiple al (get_or l j (pos 0))
multiple_at al [] j h = zero_multiple al
multiple_at al (v ∷ l) zero h = h.0
multiple_at al (v ∷ l) (suc j) h = multiple_at al l j h.1

-- what holds at each of some places holds at one of them
each_at : (P : ℕ → ℕ → ℕ → Type 0) (places : List Place) (i x y : ℕ) → Each (λ (p : Place). P p.component p.x p.y) places → any_of (is_at i x y) places ≡ true → P i x y
each_at P [] i x y w h = cc
each_at P (p ∷ places) i x y w h = by (is_at i x y p) refl h (each_at P places i x y w.1)
  where
    by : (b : Bool) → is_at i x y p ≡ b → (b || any_of (is_at i x y) places) ≡ true → (any_of (is_at i x y) places ≡ true → P i x y) → P i x y
    by true e g later =
        let u = both (p.component == i && p.x == x) (p.y == y) e in
        let v = both (p.component == i) (p.x == x) u.0 in
        subst (λ n. P i x n) (same_of p.y y u.1) (subst (λ n. P i n p.y) (same_of p.x x v.1) (subst (λ n. P n p.x p.y) (same_of p.component i v.0) w.0))
    by false e g later = later g

-- A SCAN HEADER that may come next: a refinement's Ah is one more than its Al

checked_bits : (f : Frame) (count : ℕ) (ids : List ℕ) (made head : ScanHead) → is_progressive f.process ≡ true → checked_head f count ids made ≡ Ok head → are_bits f head ≡ true
unfolding checked_head
checked_bits f count ids made head prog told =
    let a = refused ScanComponent (count == 0 || nat_lt 4 count) _ head told in
    let b = refused ScanComponent (not (are_among f ids)) _ head a.1 in
    let c = refused ScanComponent (not (is_distinct ids)) _ head b.1 in
    let d = refused McuTooLarge (nat_lt 1 count && nat_lt 10 (factor_sum f (head_components made))) _ head c.1 in
    let e = refused ScanParameters (is_progressive f.process && not (are_parameters f count made)) _ head d.1 in
    let yes = affirmed (are_parameters f count made) (sym (ap (λ t. t && not (are_parameters f count made)) prog) ∙ e.0) in
    subst (λ (h : ScanHead). are_bits f h ≡ true) (same_told made head e.1) (both (is_band count made) (are_bits f made) yes).1

header_bits : (f : Frame) (contents : List ℕ) (head : ScanHead) → is_progressive f.process ≡ true → scan_header f contents ≡ Ok head → are_bits f head ≡ true
header_bits f [] head prog told = cc
header_bits f (count ∷ bytes) head prog told =
    let ids = parsed_ids (take (2 * count) bytes) in
    let made = parsed_scan_header f (take (2 * count) bytes) (drop (2 * count) bytes) in
    let e = refused BadLength (not (length bytes == 2 * count + 3)) (checked_head f count ids made) head told in
    checked_bits f count ids made head prog e.1

one_more : (f : Frame) (head : ScanHead) → are_bits f head ≡ true → (head.ah == 0) ≡ false → head.ah ≡ head.al + 1
one_more f head e z =
    let b = both (head.ah == 0 || head.ah == head.al + 1) (nat_le head.al (bounds f).al) e in
    same_of head.ah (head.al + 1) (sym (ap (λ t. t || head.ah == head.al + 1) z) ∙ b.0)

record IsNextHead (heads : List ScanHead) (head : ScanHead) : Type 0 where
  next : (i : ℕ) → names head i ≡ true → is_next heads head i ≡ true
  bits : (head.ah == 0) ≡ false → head.ah ≡ head.al + 1

next_head : (limits : Limits) (before : List Segment) (contents : List ℕ) → is_progressive (frame_of limits before).process ≡ true → contents_rule limits before 0xda contents ≡ None
    → IsNextHead (heads_of (frame_of limits before) before) (head_in (frame_of limits before) contents)
next_head limits before contents prog rule =
    let f = frame_of limits before in
    let heads = heads_of f before in
    let at = head_at limits before contents rule in
    let all = affirmed (all_next at.head) (sym (ap (λ b. b && not (all_next at.head)) prog) ∙ (at.is_admitted).progression) in
    subst (λ (h : ScanHead). IsNextHead heads h) (sym at.is_head) (record {
      next = λ i e. all_among (is_next heads at.head) (head_components at.head) i all e;
      bits = one_more f at.head (header_bits f contents at.head prog at.told);
    })
  where
    all_next : ScanHead → Bool
    all_next h = all_of (is_next (heads_of (frame_of limits before) before) h) (head_components h)

-- WHAT WAS KNOWN BEFORE

-- a coefficient of the band is a multiple of 2 ^ (al + 1)
old_known : (heads : List ScanHead) (head : ScanHead) (i k : ℕ) (v : ℤ) → IsNextHead heads head → has_coefficient head i k ≡ true → k < 64 → IsKnownTo (known_to heads i k) v → IsMultiple (head.al + 1) v
old_known heads head i k v is has small h =
    let named = (both (names head i) (nat_le head.ss k && nat_le k head.se) has).0 in
    by (head.ah == 0) refl (subst (λ o. IsKnownTo o v) (band_next heads head i k (is.next i named) has small) h)
  where
    by : (b : Bool) → (head.ah == 0) ≡ b → IsKnownTo (cond b None (Some head.ah)) v → IsMultiple (head.al + 1) v
    by true e z = subst (λ (w : ℤ). IsMultiple (head.al + 1) w) (sym z) (zero_multiple (head.al + 1))
    by false e m = subst (λ n. IsMultiple n v) (is.bits e) m

-- so that a coefficient that doesn't change is still known, whatever the band
still_known : (heads : List ScanHead) (head : ScanHead) (i k : ℕ) (v : ℤ) → IsNextHead heads head → k < 64 → IsKnownTo (known_to heads i k) v → IsKnownTo (known_to (head ∷ heads) i k) v
still_known heads head i k v is small h = by (has_coefficient head i k) refl
  where
    by : (b : Bool) → has_coefficient head i k ≡ b → IsKnownTo (known_to (head ∷ heads) i k) v
    by true e = subst (λ o. IsKnownTo o v) (sym (known_new heads head i k e)) (multiple_down head.al v (old_known heads head i k v is e small h))
    by false e = subst (λ o. IsKnownTo o v) (sym (known_old heads head i k e)) h

-- ONE MORE SCAN

-- the scan of a progressive header
record IsScanOf (s : Scan) (head : ScanHead) : Type 0 where
  al : s.coding.al ≡ head.al
  ss : s.ss ≡ head.ss
  se : s.se ≡ head.se
  among : Each (λ (p : Place). names head p.component ≡ true) s.places

scan_is : (limits : Limits) (before : List Segment) (contents : List ℕ) → is_progressive (frame_of limits before).process ≡ true → IsScanOf (scan_after limits before contents) (head_in (frame_of limits before) contents)
scan_is limits before contents prog =
    let f = frame_of limits before in
    let head = head_in f contents in
    record {
      al = ap (λ b. cond b head.al 0) prog;
      ss = ap (λ b. cond b head.ss 0) prog;
      se = ap (λ b. cond b head.se 63) prog;
      among = each_units (λ (p : Place). names head p.component ≡ true) f (head_components head) (λ i x y h. h);
    }

-- a scan that may come next, and the blocks before it
record IsStep (heads : List ScanHead) (head : ScanHead) (s : Scan) (before : Blocks) : Type 0 where
  next : IsNextHead heads head
  scan : IsScanOf s head
  sizes : (i x y : ℕ) → length (before i x y) ≡ 64
  known : (i x y k : ℕ) → k < 64 → IsKnownTo (known_to heads i k) (coefficient before i x y k)

has_from : (s : Scan) (head : ScanHead) (i k : ℕ) → IsScanOf s head → names head i ≡ true → (nat_le s.ss k && nat_le k s.se) ≡ true → has_coefficient head i k ≡ true
has_from s head i k is named inside =
    and_intro (names head i) (nat_le head.ss k && nat_le k head.se) named
    (subst (λ n. (nat_le head.ss k && nat_le k n) ≡ true) is.se (subst (λ n. (nat_le n k && nat_le k s.se) ≡ true) is.ss inside))

unit_old : (heads : List ScanHead) (head : ScanHead) (s : Scan) (before : Blocks) (p : Place) → IsStep heads head s before → names head p.component ≡ true → AreMultiples (s.coding.al + 1) (band s (block_at before p))
unit_old heads head s before p is named = multiples_from (s.coding.al + 1) (band s (block_at before p)) each
  where
    each : (j : ℕ) → j < length (band s (block_at before p)) → IsMultiple (s.coding.al + 1) (get_or (band s (block_at before p)) j (pos 0))
    each j h =
        let block = block_at before p in
        let n = s.se + 1 - s.ss in
        let l = length-take n (drop s.ss block) in
        let d = length-drop s.ss block in
        let size = is.sizes p.component p.x p.y in
        let few : j < n = omega (arith, h, l) in
        let small : s.ss + j < 64 = omega (arith, h, l, d, size) in
        let inside = is_inside s (s.ss + j) (omega arith) (omega (arith, few)) in
        let has = has_from s head p.component (s.ss + j) is.scan named inside in
        let old = old_known heads head p.component (s.ss + j) (coefficient before p.component p.x p.y (s.ss + j)) is.next has small (is.known p.component p.x p.y (s.ss + j) small) in
        let e : get_or (band s block) j (pos 0) ≡ get_or block (s.ss + j) (pos 0) = get_or-take n (drop s.ss block) j (pos 0) few ∙ get_or-drop s.ss block j (pos 0) in
        subst (λ (v : ℤ). IsMultiple (s.coding.al + 1) v) (sym e) (subst (λ n. IsMultiple (n + 1) (coefficient before p.component p.x p.y (s.ss + j))) (sym (is.scan).al) old)

units_old : (heads : List ScanHead) (head : ScanHead) (s : Scan) (before : Blocks) (places : List Place) → IsStep heads head s before → Each (λ (p : Place). names head p.component ≡ true) places
    → AreMultiples (s.coding.al + 1) (old_values (map (unit_at s before) places))
units_old heads head s before [] is among = tt
units_old heads head s before (p ∷ places) is among =
    multiples_join (s.coding.al + 1) (band s (block_at before p)) (old_values (map (unit_at s before) places)) (unit_old heads head s before p is among.0) (units_old heads head s before places is among.1)

bands_apart : (s : Scan) (after : Blocks) (places : List Place) → AreMultiples s.coding.al (flat_map (λ p. band s (block_at after p)) places) → Each (λ (p : Place). AreMultiples s.coding.al (band s (block_at after p))) places
bands_apart s after [] h = tt
bands_apart s after (p ∷ places) h =
    let r = multiples_split s.coding.al (band s (block_at after p)) (flat_map (λ p. band s (block_at after p)) places) h in
    (r.0, bands_apart s after places r.1)

-- ONE SCAN, after those whose headers are these
module _ (heads : List ScanHead) (head : ScanHead) (s : Scan) (before after : Blocks) (is : IsStep heads head s before) where
  intervals_told : (all : List (List Place)) (intervals : List (List ℕ)) → Each (λ row. Each (λ (p : Place). names head p.component ≡ true) row) all
      → SpellsIntervals s before after all intervals → Each (λ (p : Place). AreMultiples s.coding.al (band s (block_at after p))) (joined all)
  intervals_told [] [] among k = tt
  intervals_told [] (c ∷ intervals) among k = absurd k
  intervals_told (p ∷ all) [] among k = absurd k
  intervals_told (p ∷ all) (c ∷ intervals) among k =
      let u = (k.0).2 in
      let old = units_old heads head s before p is among.0 in
      let told = covers_multiples s.coding (at_start (map (unit_at s before) p)) u.1 u.0 (flat_map (λ p. band s (block_at after p)) p) (k.0).0 old u.2 in
      each_join (λ (p : Place). AreMultiples s.coding.al (band s (block_at after p))) p (joined all) (bands_apart s after p told) (intervals_told all intervals among.1 k.1)

  bands_told : (intervals : List (List ℕ)) → ScanMeans s intervals before after
      → Each (λ (p : Place). AreMultiples s.coding.al (band s (block_at after p))) s.places
  bands_told intervals means =
      subst (λ ps. Each (λ (p : Place). AreMultiples s.coding.al (band s (block_at after p))) ps) (joined_chunks s.interval s.places)
      (intervals_told (chunks s.interval s.places) intervals (each_rows (λ (p : Place). names head p.component ≡ true) s.interval s.places (is.scan).among) means.spelled)

  scan_step : (intervals : List (List ℕ)) → ScanMeans s intervals before after
      → (i x y k : ℕ) → k < 64 → IsKnownTo (known_to (head ∷ heads) i k) (coefficient after i x y k)
  scan_step intervals means i x y k small = by (is_named s i x y k) refl
    where
      by : (b : Bool) → is_named s i x y k ≡ b → IsKnownTo (known_to (head ∷ heads) i k) (coefficient after i x y k)
      by false h =
          subst (λ v. IsKnownTo (known_to (head ∷ heads) i k) v) (sym (means.rest i x y k h))
          (still_known heads head i k (coefficient before i x y k) is.next small (is.known i x y k small))
      by true h =
          let u = both (any_of (is_at i x y) s.places && nat_le s.ss k) (nat_le k s.se) h in
          let v = both (any_of (is_at i x y) s.places) (nat_le s.ss k) u.0 in
          let named = each_at (λ i x y. names head i ≡ true) s.places i x y (is.scan).among v.0 in
          let has = has_from s head i k is.scan named (and_intro (nat_le s.ss k) (nat_le k s.se) v.1 u.1) in
          let told = each_at (λ i x y. AreMultiples s.coding.al (band s (after i x y))) s.places i x y (bands_told intervals means) v.0 in
          let here = multiple_at s.coding.al (band s (after i x y)) (k - s.ss) told in
          let value = subst (λ (w : ℤ). IsMultiple s.coding.al w) (in_band s (after i x y) k (le_of s.ss k v.1) (le_of k s.se u.1)) here in
          subst (λ o. IsKnownTo o (coefficient after i x y k)) (sym (known_new heads head i k has)) (subst (λ n. IsMultiple n (coefficient after i x y k)) (is.scan).al value)

-- ALL ITEMS, of a frame that is in force from its header on

item_head : (limits : Limits) (before : List Segment) (contents : List ℕ) (f : Frame) → frame_of limits before ≡ f → is_progressive f.process ≡ true → contents_rule limits before 0xda contents ≡ None → IsNextHead (heads_of f before) (head_in f contents)
item_head limits before contents f e prog rule =
    subst (λ (g : Frame). IsNextHead (heads_of g before) (head_in g contents)) e (next_head limits before contents (ap (λ (g : Frame). is_progressive g.process) e ∙ prog) rule)

known_bits : (limits : Limits) (items : List Item) (blocks : Blocks) (f : Frame) → Leads limits items blocks → (has_frame (segments_of items) ≡ true → frame_of limits (segments_of items) ≡ f) → is_progressive f.process ≡ true
    → (i x y k : ℕ) → k < 64 → IsKnownTo (known_to (heads_of f (segments_of items)) i k) (coefficient blocks i x y k)
known_bits limits [] blocks f l same prog i x y k small = ap (λ (b : Blocks). get_or (b i x y) k (pos 0)) l ∙ get_or-replicate 64 k (pos 0) (pos 0) small
known_bits limits (segment code contents ∷ items) blocks f l same prog i x y k small =
    by (code == 0xda) refl
    (known_bits limits items blocks f l.2 (λ h. sym (frame_stays limits (segments_of items) code contents h l.0) ∙ same (or_right (is_frame_code code) (has_frame (segments_of items)) h)) prog i x y k small)
  where
    by : (b : Bool) → (code == 0xda) ≡ b → IsKnownTo (known_to (heads_of f (segments_of items)) i k) (coefficient blocks i x y k)
        → IsKnownTo (known_to (cond b (head_in f contents ∷ heads_of f (segments_of items)) (heads_of f (segments_of items))) i k) (coefficient blocks i x y k)
    by false h old = old
    by true h old =
        let before = segments_of items in
        let sos : code ≡ 0xda = same_of code 0xda h in
        let found = framed before (subst (λ c. code_fault before c ≡ None) sos l.0) in
        let e = sym (frame_stays limits before code contents found l.0) ∙ same (or_right (is_frame_code code) (has_frame before) found) in
        let next = item_head limits before contents f e prog (subst (λ c. contents_rule limits before c contents ≡ None) sos l.1) in
        still_known (heads_of f before) (head_in f contents) i k (coefficient blocks i x y k) next small old
known_bits limits (scan contents intervals ∷ items) blocks f l same prog i x y k small =
    let before = segments_of items in
    let found = framed before l.1 in
    let e : frame_of limits before ≡ f = sym (frame_stays limits before 0xda contents found l.1) ∙ same (or_right (is_frame_code 0xda) (has_frame before) found) in
    let s = scan_after limits before contents in
    let step : IsStep (heads_of f before) (head_in f contents) s l.0 =
    record {
      next = item_head limits before contents f e prog l.2;
      scan = subst (λ (g : Frame). IsScanOf s (head_in g contents)) e (scan_is limits before contents (ap (λ (g : Frame). is_progressive g.process) e ∙ prog));
      sizes = leads_sizes limits items l.0 l.3;
      known = known_bits limits items l.0 f l.3 (λ h. e) prog;
    } in
    scan_step (heads_of f before) (head_in f contents) s l.0 blocks step intervals l.4 i x y k small

-- THE LAW
pub are_known : (limits : Limits) (items : List Item) → IsProgressiveAfter limits items → LeadsToKnown limits items
are_known limits items prog blocks l = record {
  told = λ i x y k n e. subst (λ o. IsKnownTo o (coefficient blocks i x y k)) e (known i x y k);
  unsent = λ i x y k e. subst (λ o. IsKnownTo o (coefficient blocks i x y k)) e (known i x y k);
}
  where
    known : (i x y k : ℕ) → IsKnownTo (known_after limits items i k) (coefficient blocks i x y k)
    known i x y k =
        let size = leads_sizes limits items blocks l i x y in
        ⊎_elim (λ (small : k < 64). known_bits limits items blocks (frame_of limits (segments_of items)) l (λ h. refl) prog i x y k small)
        (λ (large : 64 ≤ k). subst (λ v. IsKnownTo (known_after limits items i k) v) (sym (get_or_past (blocks i x y) k (pos 0) (omega (arith, size, large)))) (zero_known (known_after limits items i k)))
        (cases_lt k 64)
