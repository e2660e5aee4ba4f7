-- A segment that is marked upright is read again: its value is at the same place, and is 1.
use Rattle.std.proofs.Common.{◌≡◌, ℕ, zero, suc, ◌+◌, ◌-◌, ◌*◌, ◌<◌, ◌≤◌, Bool, true, false, cond, ◌&&◌, ◌||◌, ◌==◌, List, [], ◌∷◌, ◌++◌, length, drop, get_or, Option, Some, None, refl, sym, ap, ◌∙◌, subst, arith}
use Rattle.std.specs.Prelude.{nat_lt, nat_le, codes, slice_set, option_and_then}
use Rattle.std.proofs.lemmas.List.{length-set, get_or-set_same, get_or-set_other, drop-set-add}
use Rattle.std.proofs.lemmas.Bool.{ltb-false, leb-true, and_parts, true≢false}
use Rattle.std.proofs.lemmas.Option.{none-some, same_Some, cond_some}
use Rattle.jpg_spec.specs.Lists.{begins_with}
use Rattle.jpg_spec.specs.Segments.{two_bytes}
use Rattle.jpg_spec_upright.specs.Exif.{entry_among, entry_in, entry_place, has_header, if_turned, is_big, is_exif, is_little, is_long, is_orientation, is_short, lowest_place, marked_upright, orientation_by, orientation_in, orientation_of, pair_at, quad_at, turned_place, upright_by, upright_contents, value_of}

-- THE SAME BYTES BELOW A PLACE

pub record SameBelow (p : ℕ) (c d : List ℕ) : Type 0 where
  pub long : length d ≡ length c
  pub bytes : (k : ℕ) → k < p → get_or d k 0 ≡ get_or c k 0
  pub begins : (ns : List ℕ) (n : ℕ) → n + length ns ≤ p → begins_with ns (drop n d) ≡ begins_with ns (drop n c)

begins_set : (ns xs : List ℕ) (k a : ℕ) → length ns ≤ k → begins_with ns (slice_set xs k a) ≡ begins_with ns xs
begins_set [] xs k a h = refl
begins_set (n ∷ ns) [] k a h = refl
begins_set (n ∷ ns) (x ∷ xs) zero a h = absurd (omega (arith, h))
begins_set (n ∷ ns) (x ∷ xs) (suc k) a h = ap (λ b. (n == x) && b) (begins_set ns xs k a (omega (arith, h)))

begins_at : (ns xs : List ℕ) (n k a : ℕ) → n + length ns ≤ k → begins_with ns (drop n (slice_set xs k a)) ≡ begins_with ns (drop n xs)
begins_at ns xs n k a h =
    let m : k ≡ n + (k - n) = omega (arith, h) in
    ap (λ (j : ℕ). begins_with ns (drop n (slice_set xs j a))) m
    ∙ ap (begins_with ns) (drop-set-add n xs (k - n) a)
    ∙ begins_set ns (drop n xs) (k - n) a (omega (arith, h))

-- a byte at or after it is put
below_set : (q p a : ℕ) (c : List ℕ) → q ≤ p → SameBelow q c (slice_set c p a)
below_set q p a c h = record {
  long = length-set c p a;
  bytes = λ k l. get_or-set_other c p k a 0 (λ e. omega (arith, h, l, e));
  begins = λ ns n l. begins_at ns c n p a (omega (arith, h, l));
}

-- NUMBERS below it

pair_same : (p : ℕ) (c d : List ℕ) → SameBelow p c d → (little : Bool) (k : ℕ) → k + 1 < p → pair_at little d k ≡ pair_at little c k
pair_same p c d s true k h = ap (λ x. two_bytes x (get_or d k 0)) (s.bytes (k + 1) h) ∙ ap (λ x. two_bytes (get_or c (k + 1) 0) x) (s.bytes k (omega (arith, h)))
pair_same p c d s false k h = ap (λ x. two_bytes x (get_or d (k + 1) 0)) (s.bytes k (omega (arith, h))) ∙ ap (λ x. two_bytes (get_or c k 0) x) (s.bytes (k + 1) h)

quad_same : (p : ℕ) (c d : List ℕ) → SameBelow p c d → (little : Bool) (k : ℕ) → k + 3 < p → quad_at little d k ≡ quad_at little c k
quad_same p c d s true k h =
    ap (λ x. 65536 * x + pair_at true d k) (pair_same p c d s true (k + 2) (omega (arith, h))) ∙ ap (λ x. 65536 * pair_at true c (k + 2) + x) (pair_same p c d s true k (omega (arith, h)))
quad_same p c d s false k h =
    ap (λ x. 65536 * x + pair_at false d (k + 2)) (pair_same p c d s false k (omega (arith, h))) ∙ ap (λ x. 65536 * pair_at false c k + x) (pair_same p c d s false (k + 2) (omega (arith, h)))

short_same : (q : ℕ) (c d : List ℕ) → SameBelow q c d → (little : Bool) (k : ℕ) → k + 8 ≤ q → is_short little d k ≡ is_short little c k
short_same q c d s little k h = ap (λ x. x == 3) (pair_same q c d s little (k + 2) (omega (arith, h)))

entry_same : (q : ℕ) (c d : List ℕ) → SameBelow q c d → (little : Bool) (k : ℕ) → k + 8 ≤ q → is_orientation little d k ≡ is_orientation little c k
entry_same q c d s little k h =
    ap (λ x. (x == 0x112 && (is_short little d k || is_long little d k)) && quad_at little d (k + 4) == 1) (pair_same q c d s little k (omega (arith, h)))
    ∙ ap (λ x. (pair_at little c k == 0x112 && (x == 3 || (x == 4 || x == 9))) && quad_at little d (k + 4) == 1) (pair_same q c d s little (k + 2) (omega (arith, h)))
    ∙ ap (λ x. (pair_at little c k == 0x112 && (is_short little c k || is_long little c k)) && x == 1) (quad_same q c d s little (k + 4) (omega (arith, h)))

-- THE PLACE of an entry that was found

pub record IsInside (k p : ℕ) (c : List ℕ) : Type 0 where
  pub after : k ≤ p
  pub before : p + 12 ≤ length c

found_among : (little : Bool) (c : List ℕ) (n k p : ℕ) → entry_among little c n k ≡ Some p → IsInside k p c
found_among little c zero k p e = absurd (none-some p e)
found_among little c (suc n) k p e = by (found_among little c n (k + 12) p) (nat_lt (length c) (k + 12)) refl (is_orientation little c k) e
  where
    by : (entry_among little c n (k + 12) ≡ Some p → IsInside (k + 12) p c) → (b : Bool) → nat_lt (length c) (k + 12) ≡ b → (o : Bool) → cond b None (cond o (Some k) (entry_among little c n (k + 12))) ≡ Some p → IsInside k p c
    by later true f o e = absurd (none-some p e)
    by later false f true e =
        let at : k ≡ p = same_Some k p e in
        let fits = ltb-false (length c) (k + 12) f in
        record { after = omega (arith, at); before = omega (arith, at, fits) }
    by later false f false e = let r = later e in (let a = r.after in record { after = omega (arith, a); before = r.before })

among_same : (little : Bool) (c d : List ℕ) (n k p : ℕ) → SameBelow (p + 8) c d → entry_among little c n k ≡ Some p → entry_among little d n k ≡ Some p
among_same little c d zero k p s e = absurd (none-some p e)
among_same little c d (suc n) k p s e =
    let low = (found_among little c (suc n) k p e).after in
    ap (λ (m : ℕ). cond (nat_lt m (k + 12)) None (cond (is_orientation little d k) (Some k) (entry_among little d n (k + 12)))) s.long
    ∙ ap (λ (o : Bool). cond (nat_lt (length c) (k + 12)) None (cond o (Some k) (entry_among little d n (k + 12)))) (entry_same (p + 8) c d s little k (omega (arith, low)))
    ∙ by (among_same little c d n (k + 12) p s) (nat_lt (length c) (k + 12)) (is_orientation little c k) e
  where
    by : (entry_among little c n (k + 12) ≡ Some p → entry_among little d n (k + 12) ≡ Some p) → (b o : Bool) → cond b None (cond o (Some k) (entry_among little c n (k + 12))) ≡ Some p → cond b None (cond o (Some k) (entry_among little d n (k + 12))) ≡ Some p
    by later true o e = absurd (none-some p e)
    by later false true e = e
    by later false false e = later e

found_in : (little : Bool) (c : List ℕ) (k p : ℕ) → entry_in little c k ≡ Some p → IsInside (k + 2) p c
found_in little c k p e = by (nat_le (k + 2) (length c)) e
  where
    by : (b : Bool) → cond b (entry_among little c (pair_at little c k) (k + 2)) None ≡ Some p → IsInside (k + 2) p c
    by true e = found_among little c (pair_at little c k) (k + 2) p e
    by false e = absurd (none-some p e)

in_same : (little : Bool) (c d : List ℕ) (k p : ℕ) → SameBelow (p + 8) c d → entry_in little c k ≡ Some p → entry_in little d k ≡ Some p
in_same little c d k p s e =
    let low = (found_in little c k p e).after in
    ap (λ (m : ℕ). cond (nat_le (k + 2) m) (entry_among little d (pair_at little d k) (k + 2)) None) s.long
    ∙ ap (λ (n : ℕ). cond (nat_le (k + 2) (length c)) (entry_among little d n (k + 2)) None) (pair_same (p + 8) c d s little k (omega (arith, low)))
    ∙ by (nat_le (k + 2) (length c)) e
  where
    by : (b : Bool) → cond b (entry_among little c (pair_at little c k) (k + 2)) None ≡ Some p → cond b (entry_among little d (pair_at little c k) (k + 2)) None ≡ Some p
    by true e = among_same little c d (pair_at little c k) (k + 2) p s e
    by false e = absurd (none-some p e)

found : (c : List ℕ) (p : ℕ) → entry_place c ≡ Some p → IsInside 8 p c
found c p e = by (has_header c) e
  where
    k : ℕ
    k = 6 + quad_at (is_little c) c 10

    by : (b : Bool) → cond b (entry_in (is_little c) c k) None ≡ Some p → IsInside 8 p c
    by true e = let r = found_in (is_little c) c k p e in (let a = r.after in record { after = omega (arith, a); before = r.before })
    by false e = absurd (none-some p e)

-- THE HEADER is the same

little_same : (q : ℕ) (c d : List ℕ) → SameBelow q c d → 16 ≤ q → is_little d ≡ is_little c
little_same q c d s h = s.begins (codes "II" ++ 42 ∷ 0 ∷ []) 6 (omega (arith, h))

big_same : (q : ℕ) (c d : List ℕ) → SameBelow q c d → 16 ≤ q → is_big d ≡ is_big c
big_same q c d s h = s.begins (codes "MM" ++ 0 ∷ 42 ∷ []) 6 (omega (arith, h))

header_same : (q : ℕ) (c d : List ℕ) → SameBelow q c d → 16 ≤ q → has_header d ≡ has_header c
header_same q c d s h =
    ap (λ (m : ℕ). nat_le 14 m && (is_little d || is_big d)) s.long ∙ ap (λ (b : Bool). nat_le 14 (length c) && (b || is_big d)) (little_same q c d s h)
    ∙ ap (λ (b : Bool). nat_le 14 (length c) && (is_little c || b)) (big_same q c d s h)

place_same : (p : ℕ) (c d : List ℕ) → SameBelow (p + 8) c d → entry_place c ≡ Some p → entry_place d ≡ Some p
place_same p c d s e =
    let low = (found c p e).after in
    let q : 16 ≤ p + 8 = omega (arith, low) in
    ap (λ (b : Bool). cond b (entry_in (is_little d) d (6 + quad_at (is_little d) d 10)) None) (header_same (p + 8) c d s q)
    ∙ ap (λ (l : Bool). cond (has_header c) (entry_in l d (6 + quad_at l d 10)) None) (little_same (p + 8) c d s q)
    ∙ ap (λ (n : ℕ). cond (has_header c) (entry_in (is_little c) d (6 + n)) None) (quad_same (p + 8) c d s (is_little c) 10 (omega (arith, q)))
    ∙ by (has_header c) e
  where
    by : (b : Bool) → cond b (entry_in (is_little c) c (6 + quad_at (is_little c) c 10)) None ≡ Some p → cond b (entry_in (is_little c) d (6 + quad_at (is_little c) c 10)) None ≡ Some p
    by true e = in_same (is_little c) c d (6 + quad_at (is_little c) c 10) p s e
    by false e = absurd (none-some p e)

-- THE VALUE is 1

put_at : (c : List ℕ) (p k : ℕ) → k ≡ p → p < length c → get_or (slice_set c p 1) k 0 ≡ 1
put_at c p k e h = ap (λ (n : ℕ). get_or (slice_set c p 1) n 0) e ∙ get_or-set_same c p 1 0 h

left_at : (c : List ℕ) (p k : ℕ) → (k ≡ p → ⊥) → get_or (slice_set c p 1) k 0 ≡ get_or c k 0
left_at c p k n = get_or-set_other c p k 1 0 n

value_one : (short little : Bool) (c : List ℕ) (v : ℕ) → v + 4 ≤ length c → value_of short little c v ≤ 8 → value_of short little (slice_set c (lowest_place short little v) 1) v ≡ 1
value_one true true c v h small =
    let a = put_at c v v refl (omega (arith, h)) in
    let b = left_at c v (v + 1) (λ e. omega (arith, e)) in
    omega (arith, a, b, small)
value_one true false c v h small =
    let a = left_at c (v + 1) v (λ e. omega (arith, e)) in
    let b = put_at c (v + 1) (v + 1) refl (omega (arith, h)) in
    omega (arith, a, b, small)
value_one false true c v h small =
    let a = put_at c v v refl (omega (arith, h)) in
    let b = left_at c v (v + 1) (λ e. omega (arith, e)) in
    let x = left_at c v (v + 2) (λ e. omega (arith, e)) in
    let y = left_at c v (v + 2 + 1) (λ e. omega (arith, e)) in
    omega (arith, a, b, x, y, small)
value_one false false c v h small =
    let a = left_at c (v + 3) v (λ e. omega (arith, e)) in
    let b = left_at c (v + 3) (v + 1) (λ e. omega (arith, e)) in
    let x = left_at c (v + 3) (v + 2) (λ e. omega (arith, e)) in
    let y = put_at c (v + 3) (v + 2 + 1) (omega arith) (omega (arith, h)) in
    omega (arith, a, b, x, y, small)

-- A SEGMENT

lowest_inside : (short little : Bool) (v : ℕ) → (v ≤ lowest_place short little v) × (lowest_place short little v ≤ v + 3)
lowest_inside true true v = (omega arith, omega arith)
lowest_inside true false v = (omega arith, omega arith)
lowest_inside false true v = (omega arith, omega arith)
lowest_inside false false v = (omega arith, omega arith)

-- its entry, where its orientation is from 2 to 8
pub record IsTurned (c : List ℕ) (p : ℕ) : Type 0 where
  pub entry : ℕ
  pub found : entry_place c ≡ Some entry
  pub inside : IsInside 8 entry c
  pub low : p ≡ lowest_place (is_short (is_little c) c entry) (is_little c) (entry + 8)
  pub small : value_of (is_short (is_little c) c entry) (is_little c) c (entry + 8) ≤ 8
  pub more : 2 ≤ value_of (is_short (is_little c) c entry) (is_little c) c (entry + 8)

turned : (c : List ℕ) (p : ℕ) → turned_place c ≡ Some p → IsTurned c p
turned c p e = by (entry_place c) refl e
  where
    by : (o : Option ℕ) → entry_place c ≡ o → option_and_then (if_turned (is_little c) c) o ≡ Some p → IsTurned c p
    by None f e = absurd (none-some p e)
    by (Some k) f e =
        let short = is_short (is_little c) c k in
        let n = value_of short (is_little c) c (k + 8) in
        let both = cond_some (nat_le 2 n && nat_le n 8) (lowest_place short (is_little c) (k + 8)) p e in
        let parts = and_parts (nat_le 2 n) (nat_le n 8) both.0 in
        record { entry = k; found = f; inside = found c k f; low = sym both.1; small = leb-true n 8 parts.1; more = leb-true 2 n parts.0 }

marked_none : (c : List ℕ) (p : ℕ) → IsTurned c p → turned_place (slice_set c p 1) ≡ None
marked_none c p t =
    let k = t.entry in
    let l = is_little c in
    let short = is_short l c k in
    let d = slice_set c p 1 in
    let after = (t.inside).after in
    let before = (t.inside).before in
    let room = lowest_inside short l (k + 8) in
    let s = below_set (k + 8) p 1 c (subst (λ (n : ℕ). k + 8 ≤ n) (sym t.low) room.0) in
    let one : value_of short l d (k + 8) ≡ 1 = ap (λ (n : ℕ). value_of short l (slice_set c n 1) (k + 8)) t.low ∙ value_one short l c (k + 8) (omega (arith, before)) t.small in
    ap (option_and_then (if_turned (is_little d) d)) (place_same k c d s t.found)
    ∙ ap (λ (b : Bool). if_turned b d k) (little_same (k + 8) c d s (omega (arith, after)))
    ∙ ap (λ (b : Bool). cond (nat_le 2 (value_of b l d (k + 8)) && nat_le (value_of b l d (k + 8)) 8) (Some (lowest_place b l (k + 8))) None) (short_same (k + 8) c d s l k (omega arith))
    ∙ ap (λ (n : ℕ). cond (nat_le 2 n && nat_le n 8) (Some (lowest_place short l (k + 8))) None) one

pub upright_none : (c : List ℕ) → turned_place (upright_contents c) ≡ None
upright_none c = by (turned_place c) refl
  where
    by : (o : Option ℕ) → turned_place c ≡ o → turned_place (upright_by c o) ≡ None
    by None e = e
    by (Some p) e = marked_none c p (turned c p e)

-- Exif data remain Exif data
pub exif_same : (s : ℕ × List ℕ) → is_exif (s.0, upright_contents s.1) ≡ is_exif s
exif_same s = by (turned_place s.1) refl
  where
    by : (o : Option ℕ) → turned_place s.1 ≡ o → is_exif (s.0, upright_by s.1 o) ≡ is_exif s
    by None e = refl
    by (Some p) e =
        let t = turned s.1 p e in
        let k = t.entry in
        let after = (t.inside).after in
        let room = lowest_inside (is_short (is_little s.1) s.1 k) (is_little s.1) (k + 8) in
        let low : k + 8 ≤ p = subst (λ (n : ℕ). k + 8 ≤ n) (sym t.low) room.0 in
        ap (λ (b : Bool). s.0 == 0xe1 && b) ((below_set (k + 8) p 1 s.1 low).begins (codes "Exif" ++ 0 ∷ 0 ∷ []) 0 (omega (arith, after)))

pub upright_long : (c : List ℕ) → length (upright_contents c) ≡ length c
upright_long c = by (turned_place c)
  where
    by : (o : Option ℕ) → length (upright_by c o) ≡ length c
    by None = refl
    by (Some p) = length-set c p 1

-- the orientation is the value of its entry

low_byte : (short little : Bool) (c : List ℕ) (v : ℕ) → value_of short little c v ≤ 8 → get_or c (lowest_place short little v) 0 ≡ value_of short little c v
low_byte true true c v small = omega (arith, small)
low_byte true false c v small = omega (arith, small)
low_byte false true c v small = omega (arith, small)
low_byte false false c v small =
    let e : get_or c (v + 3) 0 ≡ get_or c (v + 2 + 1) 0 = ap (λ (n : ℕ). get_or c n 0) (let n : v + 3 ≡ v + 2 + 1 = omega arith in n) in
    omega (arith, small, e)

pub orientation_value : (c : List ℕ) (p : ℕ) → turned_place c ≡ Some p → (2 ≤ get_or c p 0) × (get_or c p 0 ≤ 8)
orientation_value c p e =
    let t = turned c p e in
    let l = is_little c in
    let short = is_short l c t.entry in
    let same : get_or c p 0 ≡ value_of short l c (t.entry + 8) = ap (λ (n : ℕ). get_or c n 0) t.low ∙ low_byte short l c (t.entry + 8) t.small in
    (subst (λ (n : ℕ). 2 ≤ n) (sym same) t.more, subst (λ (n : ℕ). n ≤ 8) (sym same) t.small)

-- KEPT MARKERS

pub marked_one : (kept : List (ℕ × List ℕ)) → orientation_of (marked_upright kept) ≡ 1
marked_one [] = refl
marked_one (s ∷ kept) = by (marked_one kept) (is_exif s) refl
  where
    by : orientation_of (marked_upright kept) ≡ 1 → (b : Bool) → is_exif s ≡ b → orientation_of (cond b ((s.0, upright_contents s.1) ∷ kept) (s ∷ marked_upright kept)) ≡ 1
    by others true e =
        ap (λ (c : Bool). cond c (orientation_in (upright_contents s.1)) (orientation_of kept)) (exif_same s ∙ e)
        ∙ ap (orientation_by (upright_contents s.1)) (upright_none s.1)
    by others false e = ap (λ (c : Bool). cond c (orientation_in s.1) (orientation_of (marked_upright kept))) e ∙ others

-- with orientation 1 nothing is marked

contents_same : (c : List ℕ) → orientation_in c ≡ 1 → upright_contents c ≡ c
contents_same c one = by (turned_place c) refl one
  where
    by : (o : Option ℕ) → turned_place c ≡ o → orientation_by c o ≡ 1 → upright_by c o ≡ c
    by None e one = refl
    by (Some p) e one = let more = (orientation_value c p e).0 in absurd (omega (arith, more, one))

pub marked_same : (kept : List (ℕ × List ℕ)) → orientation_of kept ≡ 1 → marked_upright kept ≡ kept
marked_same [] one = refl
marked_same (s ∷ kept) one = by (marked_same kept) (is_exif s) one
  where
    by : (orientation_of kept ≡ 1 → marked_upright kept ≡ kept) → (b : Bool) → cond b (orientation_in s.1) (orientation_of kept) ≡ 1 → cond b ((s.0, upright_contents s.1) ∷ kept) (s ∷ marked_upright kept) ≡ s ∷ kept
    by others true one = ap (λ (c : List ℕ). (s.0, c) ∷ kept) (contents_same s.1 one)
    by others false one = ap (λ (l : List (ℕ × List ℕ)). s ∷ l) (others one)

pub marked_again : (kept : List (ℕ × List ℕ)) → marked_upright (marked_upright kept) ≡ marked_upright kept
marked_again kept = marked_same (marked_upright kept) (marked_one kept)
