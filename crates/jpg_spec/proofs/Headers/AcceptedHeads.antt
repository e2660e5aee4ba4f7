-- What an accepted scan header guarantees.
use Rattle.std.proofs.Common.{◌≡◌, ℕ, zero, suc, ◌+◌, ◌*◌, ◌≤◌, Bool, true, false, not, List, [], ◌∷◌, length, map, take, drop, Ok, refl, sym, ap, subst, ◌∙◌, arith}
use Rattle.std.specs.Prelude.{◌||◌, ◌&&◌, ◌==◌, nat_lt, if◌then◌else◌}
use Rattle.std.proofs.lemmas.Bool.{eqb-true, eqb-false, eq-eqb, ne_eqb, ltb-false, lt-ltb, and_parts}
use Rattle.std.proofs.lemmas.List.{length-take}
use Rattle.jpg_spec.specs.Lists.{is_among, is_distinct, index_of}
use Rattle.jpg_spec.specs.Geometry.{Frame, factor_sum, is_progressive}
use Rattle.jpg_spec.specs.FrameHeader.{identifiers}
use Rattle.jpg_spec.specs.Segments.{ScanHead, head_components}
use Rattle.jpg_spec.specs.ScanContents.{IsHead, are_among, are_parameters, checked_head, parsed_scan_header, parsed_ids, parsed_parts, scan_header}
use Rattle.jpg_spec.specs.declared.fault.Fault.TheVariants.{BadLength, ScanComponent, McuTooLarge, ScanParameters}
use Rattle.jpg_spec.proofs.Places.KnownParts.{parts_below}
use Rattle.jpg_spec.proofs.Basics.Common.{refused, neither}
use Rattle.jpg_spec.proofs.Segments.TablesInForce.{affirmed}

-- PLACES ARE AS DISTINCT AS IDENTIFIERS

one_up_by : (m n : ℕ) (b : Bool) → (m == n) ≡ b → (1 + m == 1 + n) ≡ b
one_up_by m n true e = eq-eqb (1 + m) (1 + n) (ap (λ (k : ℕ). 1 + k) (eqb-true m n e))
one_up_by m n false e = ne_eqb (1 + m) (1 + n) (λ same. eqb-false m n e (omega (arith, same)))

one_up : (m n : ℕ) → (1 + m == 1 + n) ≡ (m == n)
one_up m n = one_up_by m n (m == n) refl

by_first : (n a b : ℕ) (ns : List ℕ) (is_a is_b : Bool) → (n == a) ≡ is_a → (n == b) ≡ is_b → (is_a || is_among a ns) ≡ true → (is_b || is_among b ns) ≡ true
    → (is_among a ns ≡ true → is_among b ns ≡ true → (index_of a ns == index_of b ns) ≡ (a == b))
    → ((if is_a then 0 else 1 + index_of a ns) == (if is_b then 0 else 1 + index_of b ns)) ≡ (a == b)
by_first n a b ns true true ea eb ha hb others = sym (eq-eqb a b (sym (eqb-true n a ea) ∙ eqb-true n b eb))
by_first n a b ns true false ea eb ha hb others = ne_eqb 0 (1 + index_of b ns) (λ e. omega (arith, e)) ∙ sym (ne_eqb a b (λ e. eqb-false n b eb (eqb-true n a ea ∙ e)))
by_first n a b ns false true ea eb ha hb others = ne_eqb (1 + index_of a ns) 0 (λ e. omega (arith, e)) ∙ sym (ne_eqb a b (λ e. eqb-false n a ea (eqb-true n b eb ∙ sym e)))
by_first n a b ns false false ea eb ha hb others = one_up (index_of a ns) (index_of b ns) ∙ others ha hb

same_place : (ns : List ℕ) (a b : ℕ) → is_among a ns ≡ true → is_among b ns ≡ true → (index_of a ns == index_of b ns) ≡ (a == b)
same_place [] a b ha hb = absurd cc
same_place (n ∷ ns) a b ha hb = by_first n a b ns (n == a) (n == b) refl refl ha hb (same_place ns a b)

abbrev places : Frame → List ℕ → List ℕ
places f bytes = map (λ p. p.component) (parsed_parts f bytes)

among_places : (f : Frame) (id : ℕ) (bytes : List ℕ) → is_among id (identifiers f.components) ≡ true → are_among f (parsed_ids bytes) ≡ true
    → is_among (index_of id (identifiers f.components)) (places f bytes) ≡ is_among id (parsed_ids bytes)
among_places f id [] known all = refl
among_places f id (other ∷ []) known all = refl
among_places f id (other ∷ slots ∷ bytes) known all =
    let split = and_parts (is_among other (identifiers f.components)) (are_among f (parsed_ids bytes)) all in
    rw (same_place (identifiers f.components) other id split.0 known, among_places f id bytes known split.1) refl

distinct_places : (f : Frame) (bytes : List ℕ) → are_among f (parsed_ids bytes) ≡ true → is_distinct (places f bytes) ≡ is_distinct (parsed_ids bytes)
distinct_places f [] all = refl
distinct_places f (id ∷ []) all = refl
distinct_places f (id ∷ slots ∷ bytes) all =
    let split = and_parts (is_among id (identifiers f.components)) (are_among f (parsed_ids bytes)) all in
    rw (among_places f id bytes split.0 split.1, distinct_places f bytes split.1) refl

-- THE HEADER

pub parts_length : (f : Frame) (count : ℕ) (bytes : List ℕ) → length bytes ≡ 2 * count → length (parsed_parts f bytes) ≡ count
parts_length f zero [] even = refl
parts_length f (suc count) (id ∷ slots ∷ bytes) even = ap suc (parts_length f count bytes (omega (arith, even)))
parts_length f count bytes even = absurd (omega (arith, even))

second_too : (a b : Bool) → (a && b) ≡ false → a ≡ true → b ≡ false
second_too true b e first = e
second_too false b e first = absurd cc

few_blocks : (count sum : ℕ) → (nat_lt 1 count && nat_lt 10 sum) ≡ false → 2 ≤ count → sum ≤ 10
few_blocks count sum e several = ltb-false 10 sum (second_too (nat_lt 1 count) (nat_lt 10 sum) e (lt-ltb 1 count several))

head_is : (f : Frame) (count : ℕ) (bytes band : List ℕ) (head : ScanHead) → length bytes ≡ 2 * count → checked_head f count (parsed_ids bytes) (parsed_scan_header f bytes band) ≡ Ok head → IsHead f head
unfolding checked_head
head_is f count bytes band head even told =
    let made = parsed_scan_header f bytes band in
    let e1 = refused ScanComponent (count == 0 || nat_lt 4 count) _ head told in
    let e2 = refused ScanComponent (not (are_among f (parsed_ids bytes))) _ head e1.1 in
    let e3 = refused ScanComponent (not (is_distinct (parsed_ids bytes))) _ head e2.1 in
    let e4 = refused McuTooLarge (nat_lt 1 count && nat_lt 10 (factor_sum f (head_components made))) _ head e3.1 in
    let e5 = refused ScanParameters (is_progressive f.process && not (are_parameters f count made)) _ head e4.1 in
    let same : made ≡ head = cc in
    let counted = neither (count == 0) (nat_lt 4 count) e1.0 in
    let all = affirmed (are_among f (parsed_ids bytes)) e2.0 in
    let long = parts_length f count bytes even in
    let high : count ≤ 4 = ltb-false 4 count counted.1 in
    let low : count ≡ 0 → ⊥ = eqb-false count 0 counted.0 in
    subst (λ (h : ScanHead). IsHead f h) same (record {
      some = omega (arith, long, low);
      few = omega (arith, long, high);
      known = parts_below f bytes all;
      distinct = distinct_places f bytes all ∙ affirmed (is_distinct (parsed_ids bytes)) e3.0;
      small = λ several. few_blocks count (factor_sum f (head_components made)) e4.0 (omega (arith, long, several));
    })

pub accepted : (f : Frame) (contents : List ℕ) (head : ScanHead) → scan_header f contents ≡ Ok head → IsHead f head
accepted f [] head told = absurd cc
accepted f (count ∷ bytes) head told =
    let e = refused BadLength (not (length bytes == 2 * count + 3)) (checked_head f count (parsed_ids (take (2 * count) bytes)) (parsed_scan_header f (take (2 * count) bytes) (drop (2 * count) bytes))) head told in
    let long : length bytes ≡ 2 * count + 3 = eqb-true (length bytes) (2 * count + 3) (affirmed (length bytes == 2 * count + 3) e.0) in
    head_is f count (take (2 * count) bytes) (drop (2 * count) bytes) head (omega (arith, long, length-take (2 * count) bytes)) e.1
