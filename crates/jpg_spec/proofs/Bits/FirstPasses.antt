-- The units of a sequential scan begin with zeros, and so do the bands of a progressive first pass.
use Rattle.std.proofs.Common.{◌≡◌, ℕ, zero, suc, ◌+◌, ◌-◌, ◌<◌, ◌≤◌, Bool, true, false, cond, not, ◌==◌, ◌&&◌, List, [], ◌∷◌, ◌++◌, length, take, drop, refl, sym, ap, ◌∙◌, subst, arith, ⊎_elim, Some, None, ℤ, pos}
use Rattle.std.specs.Prelude.{◌||◌, find, nat_le, is_none, is_some, option_map, Ok, Err}
use Rattle.std.proofs.lemmas.Bool.{cases_lt}
use Rattle.std.proofs.lemmas.Bool.Decides.{nat_tests}
use Rattle.std.proofs.lemmas.List.{get_or-replicate, length-replicate, length-take-le, length-drop, get_or-take, get_or-drop, ext_get_or}
use Rattle.jpg_spec.specs.Lists.{any_of, all_of, is_among, below}
use Rattle.jpg_spec.specs.Faults.{Parsed, refuse}
use Rattle.jpg_spec.specs.Geometry.{Frame, is_progressive, component_at}
use Rattle.jpg_spec.specs.Segments.{ScanHead, head_components}
use Rattle.jpg_spec.specs.Elements.{UnitLeft, zeros, new_unit}
use Rattle.jpg_spec.specs.Scan.{Blocks, band, block_at, unit_at}
use Rattle.jpg_spec.specs.ScanContents.{scan_header}
use Rattle.jpg_spec.specs.QuantContents.{◌>>=◌}
use Rattle.jpg_spec.specs.Markers.{Segment}
use Rattle.jpg_spec.specs.InForce.{parsed_or, no_head, frame_of, head_in, heads_of, quant_in_force}
use Rattle.jpg_spec.specs.History.{names, has_begun, has_coefficient, known_to, is_known_to, is_next, lacks_table, is_same_table, quant_of, admitted}
use Rattle.jpg_spec.specs.Items.{Item, segments_of, fault_in, contents_rule}
use Rattle.jpg_spec.specs.FileMeaning.{scan_after, Leads}
use Rattle.jpg_spec.specs.declared.fault.Fault.TheVariants.{RepeatedScan, Progression, MissingTable, QuantChanged}
use Rattle.jpg_spec.specs.declared.frame.Limits.{Limits}
use Rattle.jpg_spec.specs.declared.frame.Place.{Place}
use Rattle.jpg_spec.proofs.Places.PictureInWork.{leads_sizes}
use Rattle.jpg_spec.proofs.Places.Untouched.{is_coded, untouched}
use Rattle.jpg_spec.proofs.Basics.Common.{both, same_of, neither, refused, all_append}

-- A SCAN HEADER that breaks no rule is one that the scans before it allow

pub record IsAdmitted (f : Frame) (before : List Segment) (head : ScanHead) : Type 0 where
  pub repeated : (not (is_progressive f.process) && any_of (has_begun (heads_of f before)) (head_components head)) ≡ false
  pub progression : (is_progressive f.process && not (all_of (is_next (heads_of f before) head) (head_components head))) ≡ false
  pub tables : lacks_table f before head ≡ false
  pub quants : (not (all_of (λ i. is_same_table (quant_of f before i) (quant_in_force before (component_at f i).quant)) (head_components head))) ≡ false

pub record IsHeadAt (limits : Limits) (before : List Segment) (contents : List ℕ) : Type 0 where
  pub head : ScanHead
  pub told : scan_header (frame_of limits before) contents ≡ Ok head
  pub is_head : head_in (frame_of limits before) contents ≡ head
  pub is_admitted : IsAdmitted (frame_of limits before) before head

admits : (f : Frame) (before : List Segment) (head other : ScanHead) → admitted f before head ≡ Ok other → IsAdmitted f before head
admits f before head other e =
    let last = refuse QuantChanged (not (all_of (λ i. is_same_table (quant_of f before i) (quant_in_force before (component_at f i).quant)) (head_components head))) (Ok head) in
    let third = refuse MissingTable (lacks_table f before head) last in
    let second = refuse Progression (is_progressive f.process && not (all_of (is_next (heads_of f before) head) (head_components head))) third in
    let a = refused RepeatedScan (not (is_progressive f.process) && any_of (has_begun (heads_of f before)) (head_components head)) second other e in
    let b = refused Progression (is_progressive f.process && not (all_of (is_next (heads_of f before) head) (head_components head))) third other a.1 in
    let c = refused MissingTable (lacks_table f before head) last other b.1 in
    let d = refused QuantChanged (not (all_of (λ i. is_same_table (quant_of f before i) (quant_in_force before (component_at f i).quant)) (head_components head))) (Ok head) other c.1 in
    record { repeated = a.0; progression = b.0; tables = c.0; quants = d.0 }

pub head_at : (limits : Limits) (before : List Segment) (contents : List ℕ) → contents_rule limits before 0xda contents ≡ None → IsHeadAt limits before contents
head_at limits before contents e = by (scan_header (frame_of limits before) contents) refl e
  where
    f : Frame
    f = frame_of limits before

    then_admitted : (head : ScanHead) (t : Parsed ScanHead) → admitted (frame_of limits before) before head ≡ t → fault_in t ≡ None → IsAdmitted (frame_of limits before) before head
    then_admitted head (Ok other) h k = admits (frame_of limits before) before head other h
    then_admitted head (Err fault) h k = cc

    by : (t : Parsed ScanHead) → scan_header (frame_of limits before) contents ≡ t → contents_rule limits before 0xda contents ≡ None → IsHeadAt limits before contents
    by (Ok head) h k = record {
      head = head;
      told = h;
      is_head = ap (λ t. parsed_or no_head t) h;
      is_admitted =
          then_admitted head (admitted (frame_of limits before) before head) refl
          (sym (ap (λ t. fault_in (t >>= admitted (frame_of limits before) before)) h) ∙ k);
    }
    by (Err fault) h k = let z : Some fault ≡ None = sym (ap (λ t. fault_in (t >>= admitted (frame_of limits before) before)) h) ∙ k in cc

-- TESTS on lists of components
none_among : (test : ℕ → Bool) (xs : List ℕ) (i : ℕ) → any_of test xs ≡ false → is_among i xs ≡ true → test i ≡ false
none_among test [] i e h = cc
none_among test (x ∷ xs) i e h = by (x == i) refl h (neither (test x) (any_of test xs) e) (λ k. none_among test xs i (neither (test x) (any_of test xs) e).1 k)
  where
    by : (b : Bool) → (x == i) ≡ b → (b || is_among i xs) ≡ true → (test x ≡ false) × (any_of test xs ≡ false) → (is_among i xs ≡ true → test i ≡ false) → test i ≡ false
    by true s k n later = ap test (sym (same_of x i s)) ∙ n.0
    by false s k n later = later k

pub all_among : (test : ℕ → Bool) (xs : List ℕ) (i : ℕ) → all_of test xs ≡ true → is_among i xs ≡ true → test i ≡ true
all_among test [] i e h = cc
all_among test (x ∷ xs) i e h = by (x == i) refl h (both (test x) (all_of test xs) e) (λ k. all_among test xs i (both (test x) (all_of test xs) e).1 k)
  where
    by : (b : Bool) → (x == i) ≡ b → (b || is_among i xs) ≡ true → (test x ≡ true) × (all_of test xs ≡ true) → (is_among i xs ≡ true → test i ≡ true) → test i ≡ true
    by true s k n later = ap test (sym (same_of x i s)) ∙ n.0
    by false s k n later = later k

pub all_join : (test : ℕ → Bool) (a b : List ℕ) → all_of test (a ++ b) ≡ (all_of test a && all_of test b)
all_join test a b = all_append test a b

pub all_below : (test : ℕ → Bool) (n k : ℕ) → all_of test (below n) ≡ true → k < n → test k ≡ true
all_below test zero k e h = absurd (omega (arith, h))
all_below test (suc n) k e h =
    let b = both (all_of test (below n)) (all_of test (n ∷ [])) (sym (all_join test (below n) (n ∷ [])) ∙ e) in
    let last = both (test n) true b.1 in
    ⊎_elim (λ (l : k < n). all_below test n k b.0 l) (λ (l : n ≤ k). (let z : k ≡ n = omega (arith, h, l) in ap test z ∙ last.0)) (cases_lt k n)

-- SEQUENTIAL: a component has one scan

weaker : (f : Frame) (i k : ℕ) (heads : List ScanHead) → has_begun heads i ≡ false → any_of (λ head. is_coded f head i k) heads ≡ false
weaker f i k [] e = refl
weaker f i k (head ∷ heads) e =
    let n = neither (names head i) (any_of (λ head. names head i) heads) e in
    ap (λ b. b && (not (is_progressive f.process) || nat_le head.ss k && nat_le k head.se) || any_of (λ head. is_coded f head i k) heads) n.0 ∙ weaker f i k heads n.1

-- the blocks of a component that had no scan
pub new_component : (limits : Limits) (items : List Item) (blocks : Blocks) (i x y : ℕ) → Leads limits items blocks → has_begun (heads_of (frame_of limits (segments_of items)) (segments_of items)) i ≡ false → blocks i x y ≡ zeros 64
new_component limits items blocks i x y l e =
    let f = frame_of limits (segments_of items) in
    let size = leads_sizes limits items blocks l i x y in
    ext_get_or (pos 0) (blocks i x y) (zeros 64) (size ∙ sym (length-replicate 64 (pos 0)))
    (λ k h. untouched limits items blocks f i x y k l refl (weaker f i k (heads_of f (segments_of items)) e) ∙ sym (get_or-replicate 64 k (pos 0) (pos 0) (omega (arith, h, size))))

-- THE LAW: the units of a sequential scan are new
pub sequential_unit : (limits : Limits) (items : List Item) (blocks : Blocks) (contents : List ℕ) (p : Place) → Leads limits items blocks → contents_rule limits (segments_of items) 0xda contents ≡ None
    → is_progressive (frame_of limits (segments_of items)).process ≡ false → is_among p.component (head_components (head_in (frame_of limits (segments_of items)) contents)) ≡ true
    → unit_at (scan_after limits (segments_of items) contents) blocks p ≡ new_unit p.component
sequential_unit limits items blocks contents p l rule plain among =
    let f = frame_of limits (segments_of items) in
    let at = head_at limits (segments_of items) contents rule in
    let head = head_in f contents in
    let admitted_head = subst (λ h. IsAdmitted f (segments_of items) h) (sym at.is_head) at.is_admitted in
    let none : any_of (has_begun (heads_of f (segments_of items))) (head_components head) ≡ false =
    sym (ap (λ b. not b && any_of (has_begun (heads_of f (segments_of items))) (head_components head)) plain) ∙ admitted_head.repeated in
    let begun = none_among (has_begun (heads_of f (segments_of items))) (head_components head) p.component none among in
    let block = new_component limits items blocks p.component p.x p.y l begun in
    made p.component (cond (is_progressive f.process) head.ss 0) (cond (is_progressive f.process) head.se 63) (block_at blocks p) (ap (λ b. cond b head.ss 0) plain) (ap (λ b. cond b head.se 63) plain) block
  where
    made : (i ss se : ℕ) (block : List ℤ) → ss ≡ 0 → se ≡ 63 → block ≡ zeros 64 → (let u : UnitLeft = record { component = i; has_dc = ss == 0; old = take (se + 1 - ss) (drop ss block) } in u) ≡ new_unit i
    made i ss se block a b c =
        ap (λ n. (let u : UnitLeft = record { component = i; has_dc = n == 0; old = take (se + 1 - n) (drop n block) } in u)) a
        ∙ ap (λ n. (let u : UnitLeft = record { component = i; has_dc = true; old = take (n + 1 - 0) (drop 0 block) } in u)) b
        ∙ ap (λ l. (let u : UnitLeft = record { component = i; has_dc = true; old = take 64 (drop 0 l) } in u)) c

-- PROGRESSIVE: a first pass finds its band unsent

unknown : (f : Frame) (i k : ℕ) (heads : List ScanHead) → is_progressive f.process ≡ true → is_none (known_to heads i k) ≡ true → any_of (λ head. is_coded f head i k) heads ≡ false
unknown f i k [] prog e = refl
unknown f i k (head ∷ heads) prog e = by (has_coefficient head i k) refl e (λ h. unknown f i k heads prog h)
  where
    coded_is : is_coded f head i k ≡ has_coefficient head i k
    coded_is = ap (λ b. names head i && (not b || nat_le head.ss k && nat_le k head.se)) prog

    by : (b : Bool) → has_coefficient head i k ≡ b → is_none (option_map (λ (h : ScanHead). h.al) (cond b (Some head) (find (λ head. has_coefficient head i k) heads))) ≡ true
        → (is_none (known_to heads i k) ≡ true → any_of (λ head. is_coded f head i k) heads ≡ false) → (is_coded f head i k || any_of (λ head. is_coded f head i k) heads) ≡ false
    by true h z later = cc
    by false h z later = ap (λ b. b || any_of (λ head. is_coded f head i k) heads) (coded_is ∙ h) ∙ later z

-- what is_next says of a coefficient of the band
band_unknown : (heads : List ScanHead) (head : ScanHead) (i k : ℕ) → is_next heads head i ≡ true → names head i ≡ true → head.ah ≡ 0 → head.ss ≤ k → k ≤ head.se → k < 64 → is_none (known_to heads i k) ≡ true
band_unknown heads head i k next named first low high small =
    let test : ℕ → Bool = λ k. not (has_coefficient head i k) || cond (head.ah == 0) (is_none (known_to heads i k)) (is_known_to (known_to heads i k) head.ah) in
    let b = both (head.ss == 0 || is_some (known_to heads i 0)) (all_of test (below 64)) next in
    let here = all_below test 64 k b.1 small in
    let a1 : nat_le head.ss k ≡ true = grind (arith, nat_tests, low) in
    let a2 : nat_le k head.se ≡ true = grind (arith, nat_tests, high) in
    let has : has_coefficient head i k ≡ true = ap (λ x. x && (nat_le head.ss k && nat_le k head.se)) named ∙ ap (λ x. x && nat_le k head.se) a1 ∙ a2 in
    let zero_ah : (head.ah == 0) ≡ true = grind (arith, nat_tests, first) in
    sym (ap (λ x. not x || cond (head.ah == 0) (is_none (known_to heads i k)) (is_known_to (known_to heads i k) head.ah)) has
    ∙ ap (λ x. cond x (is_none (known_to heads i k)) (is_known_to (known_to heads i k) head.ah)) zero_ah) ∙ here

-- THE LAW: the band of a first pass is zero
pub first_band : (limits : Limits) (items : List Item) (blocks : Blocks) (contents : List ℕ) (p : Place) → Leads limits items blocks → contents_rule limits (segments_of items) 0xda contents ≡ None
    → is_progressive (frame_of limits (segments_of items)).process ≡ true → is_among p.component (head_components (head_in (frame_of limits (segments_of items)) contents)) ≡ true
    → (head_in (frame_of limits (segments_of items)) contents).ah ≡ 0 → (head_in (frame_of limits (segments_of items)) contents).se ≤ 63
    → (let s = scan_after limits (segments_of items) contents in band s (block_at blocks p) ≡ zeros (s.se + 1 - s.ss))
first_band limits items blocks contents p l rule prog among first high =
    subst (λ ss. take (cond (is_progressive f.process) head.se 63 + 1 - ss) (drop ss (block_at blocks p)) ≡ zeros (cond (is_progressive f.process) head.se 63 + 1 - ss)) (sym (ap (λ b. cond b head.ss 0) prog))
    (subst (λ se. take (se + 1 - head.ss) (drop head.ss (block_at blocks p)) ≡ zeros (se + 1 - head.ss)) (sym (ap (λ b. cond b head.se 63) prog)) zero_band)
  where
    f : Frame
    f = frame_of limits (segments_of items)

    head : ScanHead
    head = head_in (frame_of limits (segments_of items)) contents

    heads : List ScanHead
    heads = heads_of (frame_of limits (segments_of items)) (segments_of items)

    at : IsHeadAt limits (segments_of items) contents
    at = head_at limits (segments_of items) contents rule

    next : is_next heads head p.component ≡ true
    next =
        let a = subst (λ h. IsAdmitted f (segments_of items) h) (sym at.is_head) at.is_admitted in
        let n : not (all_of (is_next heads head) (head_components head)) ≡ false = sym (ap (λ b. b && not (all_of (is_next heads head) (head_components head))) prog) ∙ a.progression in
        all_among (is_next heads head) (head_components head) p.component (yes_all (all_of (is_next heads head) (head_components head)) n) among
      where
        yes_all : (b : Bool) → not b ≡ false → b ≡ true
        yes_all true e = refl
        yes_all false e = sym e

    size : length (block_at blocks p) ≡ 64
    size = leads_sizes limits items blocks l p.component p.x p.y

    zero_band : take (head.se + 1 - head.ss) (drop head.ss (block_at blocks p)) ≡ zeros (head.se + 1 - head.ss)
    zero_band =
        let n = head.se + 1 - head.ss in
        let d = length-drop head.ss (block_at blocks p) in
        let long = length-take-le n (drop head.ss (block_at blocks p)) (omega (arith, d, size, high)) in
        ext_get_or (pos 0) (take n (drop head.ss (block_at blocks p))) (zeros n) (long ∙ sym (length-replicate n (pos 0)))
        (λ k h. (let few : k < n = omega (arith, h, long) in
        let known = band_unknown heads head p.component (head.ss + k) next among first (omega arith) (omega (arith, few)) (omega (arith, few, high)) in
        get_or-take n (drop head.ss (block_at blocks p)) k (pos 0) few ∙ get_or-drop head.ss (block_at blocks p) k (pos 0)
        ∙ untouched limits items blocks f p.component p.x p.y (head.ss + k) l refl (unknown f p.component (head.ss + k) heads prog known) ∙ sym (get_or-replicate n k (pos 0) (pos 0) few)))
