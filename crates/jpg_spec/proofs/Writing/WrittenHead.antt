-- The scan header that is written encodes the head that it was written from.
use Rattle.std.proofs.Common.{◌≡◌, ℕ, zero, suc, ◌+◌, ◌*◌, ◌/◌, ◌%◌, ◌<◌, ◌≤◌, Bool, true, false, cond, not, List, [], ◌∷◌, ◌++◌, length, take, drop, get_or, refl, sym, ap, ◌∙◌, arith, ◌==◌, ◌&&◌}
use Rattle.std.specs.Prelude.{◌||◌, map, flat_map, nat_lt, Ok}
use Rattle.std.proofs.lemmas.Bool.Decides.{nat_tests}
use Rattle.std.proofs.Math.Seq.{take_all}
use Rattle.std.proofs.Math.ListN.{drop_of_length-le}
use Rattle.std.proofs.lemmas.List.{take-append-le, drop-append-le, length-append}
use Rattle.jpg_spec.specs.Lists.{all_of, is_among, is_distinct, index_of}
use Rattle.jpg_spec.specs.Geometry.{Frame, factor_sum, is_progressive}
use Rattle.jpg_spec.specs.FrameHeader.{identifiers}
use Rattle.jpg_spec.specs.Segments.{ScanHead, head_components}
use Rattle.jpg_spec.specs.ScanContents.{parsed_ids, parsed_part, parsed_parts, parsed_scan_header, checked_head, scan_header, are_among, are_parameters}
use Rattle.jpg_spec.specs.declared.fault.Fault.TheVariants.{BadLength, ScanComponent, McuTooLarge, ScanParameters}
use Rattle.jpg_spec.specs.declared.frame.ScanPart.{ScanPart}
use Rattle.jpg_spec.proofs.Basics.Rows.{map_map}
use Rattle.jpg_spec.proofs.Basics.Each.{Each}
use Rattle.jpg_spec.proofs.Basics.Common.{eq_swap, both, negated, same_of, and_intro, neither, same_itself, not_refused, lt_no}

-- DISTINCT NUMBERS and their places

not_at : (ns : List ℕ) (m k : ℕ) → is_among m ns ≡ false → k < length ns → (get_or ns k 0 == m) ≡ false
not_at [] m k e h = absurd (omega (arith, h))
not_at (n ∷ ns) m zero e h = (neither (n == m) (is_among m ns) e).0
not_at (n ∷ ns) m (suc k) e h = not_at ns m k (neither (n == m) (is_among m ns) e).1 (omega (arith, h))

pub index_at : (ns : List ℕ) (k : ℕ) → is_distinct ns ≡ true → k < length ns → index_of (get_or ns k 0) ns ≡ k
index_at [] k d h = absurd (omega (arith, h))
index_at (n ∷ ns) zero d h = ap (λ b. cond b 0 (1 + index_of n ns)) (same_itself n)
index_at (n ∷ ns) (suc k) d h =
    let b = both (not (is_among n ns)) (is_distinct ns) d in
    let other : (n == get_or ns k 0) ≡ false = eq_swap n (get_or ns k 0) ∙ not_at ns n k (negated (is_among n ns) b.0) (omega (arith, h)) in
    let later = index_at ns k b.1 (omega (arith, h)) in
    ap (λ b. cond b 0 (1 + index_of (get_or ns k 0) ns)) other ∙ omega (arith, later)

same_test : (ns : List ℕ) (i j : ℕ) → is_distinct ns ≡ true → i < length ns → j < length ns → (get_or ns j 0 == get_or ns i 0) ≡ (j == i)
same_test ns i j d hi hj = by (j == i) refl
  where
    by : (b : Bool) → (j == i) ≡ b → (get_or ns j 0 == get_or ns i 0) ≡ b
    by true e = ap (λ k. get_or ns k 0 == get_or ns i 0) (same_of j i e) ∙ same_itself (get_or ns i 0)
    by false e = inner (get_or ns j 0 == get_or ns i 0) refl
      where
        inner : (b : Bool) → (get_or ns j 0 == get_or ns i 0) ≡ b → b ≡ false
        inner false k = refl
        inner true k =
            let s : j ≡ i = sym (index_at ns j d hj) ∙ ap (λ n. index_of n ns) (same_of (get_or ns j 0) (get_or ns i 0) k) ∙ index_at ns i d hi in
            let z : true ≡ false = sym (same_itself i) ∙ ap (λ n. n == i) (sym s) ∙ e in
            cc

among_test : (ns : List ℕ) (i : ℕ) (js : List ℕ) → is_distinct ns ≡ true → i < length ns → Each (λ j. j < length ns) js → is_among (get_or ns i 0) (map (λ j. get_or ns j 0) js) ≡ is_among i js
among_test ns i [] d hi h = refl
among_test ns i (j ∷ js) d hi h =
    ap (λ b. b || is_among (get_or ns i 0) (map (λ j. get_or ns j 0) js)) (same_test ns i j d hi h.0) ∙ ap (λ b. (j == i) || b) (among_test ns i js d hi h.1)

distinct_test : (ns : List ℕ) (js : List ℕ) → is_distinct ns ≡ true → Each (λ j. j < length ns) js → is_distinct (map (λ j. get_or ns j 0) js) ≡ is_distinct js
distinct_test ns [] d h = refl
distinct_test ns (j ∷ js) d h =
    ap (λ b. not b && is_distinct (map (λ j. get_or ns j 0) js)) (among_test ns j js d h.0 h.1) ∙ ap (λ b. not (is_among j js) && b) (distinct_test ns js d h.1)

pub at_among : (ns : List ℕ) (k : ℕ) → k < length ns → is_among (get_or ns k 0) ns ≡ true
at_among [] k h = absurd (omega (arith, h))
at_among (n ∷ ns) zero h = ap (λ b. b || is_among n ns) (same_itself n)
at_among (n ∷ ns) (suc k) h = ap (λ b. (n == get_or ns k 0) || b) (at_among ns k (omega (arith, h))) ∙ or_true (n == get_or ns k 0)
  where
    or_true : (b : Bool) → (b || true) ≡ true
    or_true true = refl
    or_true false = refl

all_among : (ns : List ℕ) (js : List ℕ) → Each (λ j. j < length ns) js → all_of (λ id. is_among id ns) (map (λ j. get_or ns j 0) js) ≡ true
all_among ns [] h = refl
all_among ns (j ∷ js) h = and_intro (is_among (get_or ns j 0) ns) (all_of (λ id. is_among id ns) (map (λ j. get_or ns j 0) js)) (at_among ns j h.0) (all_among ns js h.1)

-- THE BYTES of the components

abbrev pub part_bytes : List ℕ → ScanPart → List ℕ
part_bytes ids p = get_or ids p.component 0 ∷ (16 * p.dc + p.ac) ∷ []

length_parts : (ids : List ℕ) (parts : List ScanPart) → length (flat_map (part_bytes ids) parts) ≡ 2 * length parts
length_parts ids [] = refl
length_parts ids (p ∷ parts) = omega (arith, length_parts ids parts)

ids_are : (ids : List ℕ) (parts : List ScanPart) → parsed_ids (flat_map (part_bytes ids) parts) ≡ map (λ (p : ScanPart). get_or ids p.component 0) parts
ids_are ids [] = refl
ids_are ids (p ∷ parts) = ap (λ t. get_or ids p.component 0 ∷ t) (ids_are ids parts)

abbrev pub IsPartOf : Frame → ScanPart → Type 0
IsPartOf f p = (p.component < length (identifiers f.components)) × (p.dc < 16) × (p.ac < 16)

part_is : (f : Frame) (p : ScanPart) → is_distinct (identifiers f.components) ≡ true → IsPartOf f p → parsed_part f (get_or (identifiers f.components) p.component 0) (16 * p.dc + p.ac) ≡ p
part_is f p d h =
    let a : (16 * p.dc + p.ac) / 16 ≡ p.dc = omega (arith, h.2) in
    let b : (16 * p.dc + p.ac) % 16 ≡ p.ac = omega (arith, h.2) in
    ap (λ (n : ℕ). (let q : ScanPart = record { component = n; dc = (16 * p.dc + p.ac) / 16; ac = (16 * p.dc + p.ac) % 16 } in q)) (index_at (identifiers f.components) p.component d h.0)
    ∙ ap (λ (n : ℕ). (let q : ScanPart = record { component = p.component; dc = n; ac = (16 * p.dc + p.ac) % 16 } in q)) a
    ∙ ap (λ (n : ℕ). (let q : ScanPart = record { component = p.component; dc = p.dc; ac = n } in q)) b

parts_are : (f : Frame) (parts : List ScanPart) → is_distinct (identifiers f.components) ≡ true → Each (IsPartOf f) parts → parsed_parts f (flat_map (part_bytes (identifiers f.components)) parts) ≡ parts
parts_are f [] d h = refl
parts_are f (p ∷ parts) d h =
    ap (λ q. q ∷ parsed_parts f (flat_map (part_bytes (identifiers f.components)) parts)) (part_is f p d h.0) ∙ ap (λ t. p ∷ t) (parts_are f parts d h.1)

-- THE HEAD

abbrev pub head_contents : List ℕ → ScanHead → List ℕ
head_contents ids head = length head.parts ∷ flat_map (part_bytes ids) head.parts ++ head.ss ∷ head.se ∷ (16 * head.ah + head.al) ∷ []

pub record IsSpoken (f : Frame) (head : ScanHead) : Type 0 where
  pub some : 1 ≤ length head.parts
  pub few : length head.parts ≤ 4
  pub parts : Each (IsPartOf f) head.parts
  pub distinct : is_distinct (head_components head) ≡ true
  pub small : (nat_lt 1 (length head.parts) && nat_lt 10 (factor_sum f (head_components head))) ≡ false
  pub al : head.al < 16
  pub allowed : (is_progressive f.process && not (are_parameters f (length head.parts) head)) ≡ false

each_component : (f : Frame) (parts : List ScanPart) → Each (IsPartOf f) parts → Each (λ j. j < length (identifiers f.components)) (map (λ (p : ScanPart). p.component) parts)
each_component f [] h = tt
each_component f (p ∷ parts) h = (h.0.0, each_component f parts h.1)

head_is : (f : Frame) (head : ScanHead) (bytes : List ℕ) → head.al < 16 → parsed_parts f bytes ≡ head.parts → parsed_scan_header f bytes (head.ss ∷ head.se ∷ (16 * head.ah + head.al) ∷ []) ≡ head
head_is f head bytes l e =
    let a : (16 * head.ah + head.al) / 16 ≡ head.ah = omega (arith, l) in
    let b : (16 * head.ah + head.al) % 16 ≡ head.al = omega (arith, l) in
    ap (λ (ps : List ScanPart). (let h : ScanHead = record { parts = ps; ss = head.ss; se = head.se; ah = (16 * head.ah + head.al) / 16; al = (16 * head.ah + head.al) % 16 } in h)) e
    ∙ ap (λ (n : ℕ). (let h : ScanHead = record { parts = head.parts; ss = head.ss; se = head.se; ah = n; al = (16 * head.ah + head.al) % 16 } in h)) a
    ∙ ap (λ (n : ℕ). (let h : ScanHead = record { parts = head.parts; ss = head.ss; se = head.se; ah = head.ah; al = n } in h)) b

checked_is : (f : Frame) (head : ScanHead) (ids : List ℕ) → IsSpoken f head → are_among f ids ≡ true → is_distinct ids ≡ true → checked_head f (length head.parts) ids head ≡ Ok head
unfolding checked_head
checked_is f head ids s among distinct =
    let n = length head.parts in
    let some = s.some in
    let few = s.few in
    let count : (n == 0 || nat_lt 4 n) ≡ false = either (n == 0) (nat_lt 4 n) (not_zero n some) (lt_no 4 n few) in
    not_refused ScanComponent (n == 0 || nat_lt 4 n) _ count ∙ not_refused ScanComponent (not (are_among f ids)) _ (ap not among) ∙ not_refused ScanComponent (not (is_distinct ids)) _ (ap not distinct)
    ∙ not_refused McuTooLarge (nat_lt 1 n && nat_lt 10 (factor_sum f (head_components head))) _ s.small ∙ not_refused ScanParameters (is_progressive f.process && not (are_parameters f n head)) _ s.allowed
  where
    either : (a b : Bool) → a ≡ false → b ≡ false → (a || b) ≡ false
    either a b e h = ap (λ t. t || b) e ∙ h

    not_zero : (n : ℕ) → 1 ≤ n → (n == 0) ≡ false
    not_zero n h = grind (arith, nat_tests, h)

-- THE LAW
pub head_spoken : (f : Frame) (head : ScanHead) → is_distinct (identifiers f.components) ≡ true → IsSpoken f head → scan_header f (head_contents (identifiers f.components) head) ≡ Ok head
head_spoken f head d s =
    let ids = identifiers f.components in
    let n = length head.parts in
    let bytes = flat_map (part_bytes ids) head.parts in
    let band = head.ss ∷ head.se ∷ (16 * head.ah + head.al) ∷ [] in
    let l = length_parts ids head.parts in
    let long : (length (bytes ++ band) == 2 * n + 3) ≡ true = (let k : length (bytes ++ band) ≡ 2 * n + 3 = omega (arith, length-append bytes band, l) in ap (λ m. m == 2 * n + 3) k ∙ same_itself (2 * n + 3)) in
    let front : take (2 * n) (bytes ++ band) ≡ bytes = take-append-le (2 * n) bytes band (omega (arith, l)) ∙ take_all (2 * n) bytes (omega (arith, l)) in
    let back : drop (2 * n) (bytes ++ band) ≡ band = drop-append-le (2 * n) bytes band (omega (arith, l)) ∙ ap (λ t. t ++ band) (drop_of_length-le bytes (omega (arith, l))) in
    let comps = head_components head in
    let known = each_component f head.parts s.parts in
    let told_ids : parsed_ids bytes ≡ map (λ j. get_or ids j 0) comps = ids_are ids head.parts ∙ sym (map_map (λ j. get_or ids j 0) (λ (p : ScanPart). p.component) head.parts) in
    let among : are_among f (parsed_ids bytes) ≡ true = ap (λ t. all_of (λ id. is_among id ids) t) told_ids ∙ all_among ids comps known in
    let distinct : is_distinct (parsed_ids bytes) ≡ true = ap is_distinct told_ids ∙ distinct_test ids comps d known ∙ s.distinct in
    not_refused BadLength (not (length (bytes ++ band) == 2 * n + 3)) _ (ap not long)
    ∙ ap (λ a. checked_head f n (parsed_ids a) (parsed_scan_header f a (drop (2 * n) (bytes ++ band)))) front ∙ ap (λ b. checked_head f n (parsed_ids bytes) (parsed_scan_header f bytes b)) back
    ∙ ap (λ h. checked_head f n (parsed_ids bytes) h) (head_is f head bytes s.al (parts_are f head.parts d s.parts)) ∙ checked_is f head (parsed_ids bytes) s among distinct

length_contents : (ids : List ℕ) (head : ScanHead) → length (head_contents ids head) ≡ 2 * length head.parts + 4
length_contents ids head = omega (arith, length-append (flat_map (part_bytes ids) head.parts) (head.ss ∷ head.se ∷ (16 * head.ah + head.al) ∷ []), length_parts ids head.parts)

pub head_short : (f : Frame) (ids : List ℕ) (head : ScanHead) → IsSpoken f head → length (head_contents ids head) + 2 < 65536
head_short f ids head s = omega (arith, length_contents ids head, s.few)
