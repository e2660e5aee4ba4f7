-- How many bits elements take: at most 31 for each value that they encode. And how many bytes bits take in a file.
use Rattle.std.proofs.Common.{ℕ, zero, suc, ◌+◌, ◌-◌, ◌*◌, ◌%◌, ◌<◌, ◌≤◌, Bool, true, false, cond, List, [], ◌∷◌, ◌++◌, length, take, drop, sym, ap, subst, arith, ⊎_elim, ℤ, pos, ◌==◌}
use Rattle.std.specs.Prelude.{replicate}
use Rattle.std.specs.List.{Contains}
use Rattle.std.proofs.lemmas.List.{length-append, length-replicate}
use Rattle.std.proofs.lemmas.List.Elements.{Contains-append_cases}
use Rattle.jpg_spec.specs.Bits.{bits_of, whole_bytes, stuffed, padded, data_of}
use Rattle.jpg_spec.specs.Codes.{Code, codes_at, codes_from, codes}
use Rattle.jpg_spec.specs.Numbers.{category, extra_bits, digits}
use Rattle.jpg_spec.specs.Elements.{Coding, UnitLeft, Standing, Element, difference, dc_bit, value, long_run, ends, nonzeros_in, is_zero, corrected, codes_due, SpellsElement, Tells, Covers, going_on, old_values, scaled, predictions_after}
use Rattle.jpg_spec.proofs.Basics.Strings.{length-bits_of}
use Rattle.jpg_spec.proofs.Bits.Levels.{contains_none, from_level}
use Rattle.jpg_spec.proofs.Basics.Facts.{facts}
use Rattle.jpg_spec.proofs.Bits.Within.{length_corrected}

-- CODES have at most as many bits as there are lengths

pub codes_short : (counts : List ℕ) (len c : ℕ) (symbols : List ℕ) (code : Code) → Contains (codes_from len c counts symbols) code → length code.0 < len + length counts
codes_short [] len c symbols code h = absurd (contains_none code h)
codes_short (k ∷ counts) len c symbols code h =
    ⊎_elim
    (λ a. let r = from_level k len c symbols code a in omega (arith, ap length r.2, length-bits_of len (c + r.0)))
    (λ b. omega (arith, codes_short counts (len + 1) (2 * (c + k)) (drop k symbols) code b))
    (Contains-append_cases (codes_at k len c symbols) (codes_from (len + 1) (2 * (c + k)) counts (drop k symbols)) code h)

-- each of these has at most 16 bits
abbrev pub AreShort : List Code → Type 0
AreShort cs = (code : Code) → Contains cs code → length code.0 ≤ 16

pub table_short : (counts symbols : List ℕ) → length counts ≤ 16 → AreShort (codes counts symbols)
unfolding codes
table_short counts symbols few = λ code h. omega (arith, codes_short counts 1 0 symbols code h, few)

-- WHAT ELEMENTS ENCODE

pub record IsBrief (c : Coding) : Type 0 where
  pub dc : (i : ℕ) → AreShort (c.dc i)
  pub ac : (i : ℕ) → AreShort (c.ac i)
  pub dc_cat : c.bounds.dc_cat ≤ 15
  pub categories : c.most_category ≤ 14
  pub runs : c.most_run ≤ 14

-- something is left of each unit
abbrev pub AreLeft : List UnitLeft → Type 0
AreLeft [] = Unit {0}
AreLeft (u ∷ us) = (1 ≤ length u.old) × AreLeft us

left_going : (u : UnitLeft) (old : List ℤ) (us : List UnitLeft) → AreLeft us → AreLeft (going_on u old us)
left_going u [] us a = a
left_going u (o ∷ old) us a = (omega arith, a)

left_drop : (n : ℕ) (us : List UnitLeft) → AreLeft us → AreLeft (drop n us)
left_drop zero us a = a
left_drop (suc n) [] a = tt
left_drop (suc n) (u ∷ us) a = left_drop n us a.1

left_after : (c : Coding) (p : ℤ) (e : Element) (u : UnitLeft) (units : List UnitLeft) (here : List ℤ) (left : List UnitLeft) → Tells c p e u units here left → AreLeft (u ∷ units) → AreLeft left
left_after c p (difference d) u units here left t a = subst AreLeft (sym t.7) (left_going u t.1 units a.1)
left_after c p (dc_bit b) u units here left t a = subst AreLeft (sym t.6) (left_going u t.1 units a.1)
left_after c p (value run v bits) u units here left t a = subst AreLeft (sym t.10) (left_going u t.1 units a.1)
left_after c p (long_run bits) u units here left t a = subst AreLeft (sym t.6) (left_going u t.1 units a.1)
left_after c p (ends bands bits) u units here left t a = subst AreLeft (sym t.6) (left_drop bands (u ∷ units) a)

nonzeros_few : (old : List ℤ) → nonzeros_in old ≤ length old
nonzeros_few [] = omega arith
nonzeros_few (o ∷ old) = by (is_zero o) (nonzeros_few old)
  where
    by : (z : Bool) → nonzeros_in old ≤ length old → cond z 0 1 + nonzeros_in old ≤ suc (length old)
    by true h = omega (arith, h)
    by false h = omega (arith, h)

first_old : (n : ℕ) (u : UnitLeft) (units : List UnitLeft) → 1 ≤ n → 1 ≤ length u.old → 1 ≤ length (old_values (take n (u ∷ units)))
first_old zero u units h k = absurd (omega (arith, h))
first_old (suc n) u units h k = let l = length-append u.old (old_values (take n units)) in omega (arith, l, k)

due_short : (c : Coding) (u : UnitLeft) → IsBrief c → AreShort (codes_due c u)
due_short c u brief = by u.has_dc
  where
    by : (b : Bool) → AreShort (cond b (c.dc u.component) (c.ac u.component))
    by true = brief.dc u.component
    by false = brief.ac u.component

-- an element encodes a value, and takes at most 31 bits for each
element_few : (c : Coding) (p : ℤ) (e : Element) (u : UnitLeft) (units : List UnitLeft) (here : List ℤ) (left : List UnitLeft) (front : List Bool) → IsBrief c → 1 ≤ length u.old
    → SpellsElement (codes_due c u) e front → Tells c p e u units here left → length front ≤ 31 * length here
element_few c p (difference d) u units here left front brief some s t =
    let short = due_short c u brief (s.0, category d) s.1 in
    omega (arith, ap length s.2, length-append s.0 (extra_bits d), facts.size d, short, t.4, brief.dc_cat, ap length t.6)
element_few c p (dc_bit b) u units here left front brief some s t = omega (arith, ap length s, ap length t.5)
element_few c p (value run v bits) u units here left front brief some s t =
    let short = due_short c u brief (s.0, 16 * run + category v) s.1 in
    let passed = t.0 in
    let bits_are = length-append s.0 (extra_bits v ++ bits) in
    let told_are = length-append (corrected c.al passed bits) (scaled c.al v ∷ []) in
    omega (arith, ap length s.2, bits_are, length-append (extra_bits v) bits, facts.size v, short, t.4, brief.categories, t.8, nonzeros_few passed, ap length t.9, told_are, length_corrected c.al passed bits)
element_few c p (long_run bits) u units here left front brief some s t =
    let short = due_short c u brief (s.0, 0xf0) s.1 in
    let passed = t.0 in
    let told : 1 ≤ length passed = ⊎_elim
    (λ f. omega (arith, ap length f.3, length-append f.0 (pos 0 ∷ [])))
    (λ g. omega (arith, ap length g.0, some)) t.3 in
    omega (arith, ap length s.2, length-append s.0 bits, short, t.4, nonzeros_few passed, ap length t.5, length_corrected c.al passed bits, told)
element_few c p (ends bands bits) u units here left front brief some s t =
    let short = due_short c u brief (s.0, 16 * (digits bands - 1)) s.1 in
    let olds = old_values (take bands (u ∷ units)) in
    let number = bits_of (digits bands - 1) bands in
    let bits_are = length-append s.0 (number ++ bits) in
    let counted = length-bits_of (digits bands - 1) bands in
    omega (arith, ap length s.2, bits_are, length-append number bits, counted, short, t.2, brief.runs, t.4, nonzeros_few olds, ap length t.5, length_corrected c.al olds bits, first_old bands u units t.1 some)

pub covers_few : (c : Coding) (s t : Standing) (es : List Element) (told : List ℤ) (bits : List Bool) → IsBrief c → AreLeft s.left → Covers c s es told bits t → length bits ≤ 31 * length told
covers_few c s t [] told bits brief a k = omega (arith, ap length k.1)
covers_few c s t (e ∷ es) told bits brief a k =
    let all : AreLeft (k.0 ∷ k.1) = subst AreLeft k.7 a in
    let p = s.predictions (k.0).component in
    let here = element_few c p e k.0 k.1 k.2 k.3 k.5 brief all.0 k.10 k.11 in
    let next : Standing = record { predictions = predictions_after s.predictions (k.0).component e; left = k.3 } in
    let later = covers_few c next t es k.4 k.6 brief (left_after c p e k.0 k.1 k.2 k.3 k.11 all) k.13 in
    omega (arith, ap length k.8, length-append k.2 k.4, ap length k.9, length-append k.5 k.6, here, later)

-- BYTES IN A FILE

pub stuffed_few : (bytes : List ℕ) → length (stuffed bytes) ≤ 2 * length bytes
stuffed_few [] = omega arith
stuffed_few (b ∷ bytes) = by (b == 255) (stuffed_few bytes)
  where
    by : (z : Bool) → length (stuffed bytes) ≤ 2 * length bytes → length (cond z (255 ∷ 0 ∷ []) (b ∷ []) ++ stuffed bytes) ≤ 2 * suc (length bytes)
    by true h = omega (arith, h)
    by false h = omega (arith, h)

whole_few : (bits : List Bool) → 8 * length (whole_bytes bits) ≤ length bits
unfolding whole_bytes
whole_few (a ∷ b ∷ d ∷ e ∷ f ∷ g ∷ h ∷ i ∷ bits) = let k = whole_few bits in omega (arith, k)
whole_few bits = omega arith

-- four bits take at most a byte, and the pad bits one or two more
pub data_few : (bits : List Bool) → 4 * length (data_of bits) ≤ length bits + 7
data_few bits =
    let n = (8 - length bits % 8) % 8 in
    let pad = length-replicate n true in
    let long = length-append bits (replicate n true) in
    let bytes = whole_few (padded bits) in
    let most = stuffed_few (whole_bytes (padded bits)) in
    omega (arith, pad, long, bytes, most)
