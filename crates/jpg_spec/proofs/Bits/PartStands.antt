-- If a part of an element follows complete ones, the bits have no fault and no complete interval.
use Rattle.std.proofs.Common.{◌≡◌, ℕ, ◌+◌, ◌-◌, ◌*◌, ◌/◌, ◌%◌, ◌≤◌, Bool, true, false, ◌==◌, ◌&&◌, List, [], ◌∷◌, ◌++◌, length, refl, sym, ap, ◌∙◌, subst, arith, inl, inr, ℤ}
use Rattle.std.specs.Prelude.{◌⊎◌, ◌||◌, map, nat_le, nat_lt}
use Rattle.std.specs.List.{Contains}
use Rattle.std.proofs.lemmas.Bool.Decides.{nat_tests}
use Rattle.std.proofs.lemmas.List.{append_assoc, append-nil, length-append}
use Rattle.jpg_spec.specs.Bits.{bits_of, bits_of_bytes}
use Rattle.jpg_spec.specs.Codes.{Code, codes}
use Rattle.jpg_spec.specs.Numbers.{digits}
use Rattle.jpg_spec.specs.Elements.{Coding, UnitLeft, Standing, Element, difference, dc_bit, value, long_run, ends, Covers, Tells, SpellsElement, codes_due, at_start, symbol_of, bits_after}
use Rattle.jpg_spec.specs.Scan.{Blocks, Scan, unit_at}
use Rattle.jpg_spec.specs.ScanFaults.{BeginsNone, BitsShow, DataReveals, is_symbol}
use Rattle.jpg_spec.specs.Sound.{AreTableCodes, IsSound}
use Rattle.jpg_spec.specs.Faults.{number_of}
use Rattle.jpg_spec.specs.declared.fault.Fault.{Fault}
use Rattle.jpg_spec.specs.declared.fault.Fault.TheVariants.{CoefRange}
use Rattle.jpg_spec.specs.declared.frame.Place.{Place}
use Rattle.jpg_spec.proofs.Basics.Strings.{length-bits_of}
use Rattle.jpg_spec.proofs.Bits.Levels.{contains_none, front_not_below}
use Rattle.jpg_spec.proofs.Segments.MarkersOnce.{no_head}
use Rattle.jpg_spec.proofs.Bits.Once.{IsCoding, OneWay, Decodes, WantsCode, BeginsSymbol, BeginsElement, BeginsElements, Continues, begins_code, element_code, elements_once, first_element, head_inj, no_units, same_element, symbol_once}
use Rattle.jpg_spec.proofs.Bits.Excludes.{at_fault, no_code, no_element_there, shows_excludes}
use Rattle.jpg_spec.proofs.Bits.Sound.{decodes, one_due}
use Rattle.jpg_spec.proofs.Bits.DataFacts.{shows_more}
use Rattle.jpg_spec.specs.UnfinishedFile.{AreDue}
use Rattle.jpg_spec.specs.Parts.{BeginsCode, StandsInUnits, HoldsNoInterval, RevealsNoFault}
use Rattle.jpg_spec.proofs.Bits.Parts.{BeginsCount, BeginsWhole, IsProperFront, FrontAt, part_front}
use Rattle.jpg_spec.proofs.Basics.Common.{clash}

-- NO CODE IS EMPTY
abbrev pub AreSome : List Code → Type 0
AreSome table = (code : Code) → Contains table code → code.0 ≡ [] → ⊥

pub codes_some : (table : List Code) → AreTableCodes table → AreSome table
unfolding codes bits_of
codes_some table (inl e) code h z = contains_none code (subst (λ t. Contains t code) e h)
codes_some table (inr t) code h z =
    let f = front_not_below t.0 1 0 t.1 code t.2 (subst (λ q. Contains q code) t.3 h) in
    let l = ap length (sym f.4 ∙ z) in
    let k = length-append (bits_of 1 f.0) f.1 in
    let n = length-bits_of 1 f.0 in
    omega (arith, l, k, n)

some_due : (c : Coding) (u : UnitLeft) (has_dc : Bool) → IsSound c → AreSome (let v : UnitLeft = record u { has_dc = has_dc } in codes_due c v)
some_due c u true s = codes_some (c.dc u.component) (s.dc u.component)
some_due c u false s = codes_some (c.ac u.component) (s.ac u.component)

pub empty_front : (a b : List Bool) → a ++ b ≡ [] → a ≡ []
empty_front [] b e = refl
empty_front (x ∷ a) b e = absurd (no_head x (a ++ b) (sym e))

-- nothing is spelled by no bits
element_some : (codes : List Code) (e : Element) → AreSome codes → SpellsElement codes e [] → ⊥
element_some codes (difference d) some s = some (s.0, symbol_of (difference d)) s.1 (empty_front s.0 (bits_after (difference d)) (sym s.2))
element_some codes (dc_bit b) some s = no_head b [] s
element_some codes (value run v bits) some s = some (s.0, symbol_of (value run v bits)) s.1 (empty_front s.0 (bits_after (value run v bits)) (sym s.2))
element_some codes (long_run bits) some s = some (s.0, symbol_of (long_run bits)) s.1 (empty_front s.0 bits (sym s.2))
element_some codes (ends bands bits) some s = some (s.0, symbol_of (ends bands bits)) s.1 (empty_front s.0 (bits_after (ends bands bits)) (sym s.2))

-- a part of a code begins with no complete code
pub part_no_code : {codes : List Code} {symbol : ℕ} {rest : List Bool} (part : List Bool) → OneWay codes → BeginsCode codes part → BeginsSymbol codes symbol rest part → ⊥
part_no_code {symbol = symbol} {rest = rest} part one (code, next, more, is_code, cut) s =
    let behind = next ∷ more in
    let all : code.0 ++ [] ≡ s.code ++ (rest ++ behind) = append-nil code.0 ∙ cut ∙ ap (λ l. l ++ behind) s.cut ∙ append_assoc s.code rest behind in
    let same = one code (s.code, symbol) [] (rest ++ behind) is_code s.is_code all in
    let l = ap length (sym cut ∙ ap (λ (q : Code). q.0) same) in
    omega (arith, l, ap length s.cut, length-append s.code rest, length-append part behind)

-- the symbol of EOBn is allowed in a band
pub eob_symbol : (c : Coding) (n : ℕ) → n ≤ c.most_run → is_symbol c false (16 * n) ≡ true
eob_symbol c n most =
    let m : (16 * n) % 16 ≡ 0 = omega arith in
    let q : (16 * n) / 16 ≡ n = omega arith in
    let z : nat_le 0 c.most_category ≡ true = grind (arith, nat_tests) in
    let a : nat_le n c.most_run ≡ true = grind (arith, nat_tests) in
    ap (λ k. nat_le k c.most_category && (nat_lt 0 k || nat_le (16 * n / 16) c.most_run || 16 * n == 0xf0)) m
    ∙ ap (λ k. k && (nat_le (16 * n / 16) c.most_run || 16 * n == 0xf0)) z
    ∙ ap (λ k. nat_le k c.most_run || 16 * n == 0xf0) q ∙ ap (λ k. k || 16 * n == 0xf0) a

-- WHAT BEGINS A PART, where an element is expected
module _ (c : Coding) (s : Standing) (u : UnitLeft) (us : List UnitLeft) (law : Decodes c) (some : AreSome (codes_due c u)) where
  abbrev p : ℤ
  p = s.predictions u.component

  -- the element, or the code and the number, that a part begins
  abbrev whole_element : (part stream : List Bool) (k : BeginsWhole c s u us part) → stream ≡ part ++ k.3 ∷ k.4 → BeginsElement c p u us k.0 stream
  whole_element part stream k e = record { here = k.1; left = k.2; front = part ++ k.3 ∷ k.4; rest = []; cut = e ∙ sym (append-nil (part ++ k.3 ∷ k.4)); spelled = k.5; tells = k.6 }

  count_symbol : (part stream : List Bool) (k : BeginsCount c u part) → stream ≡ part ++ k.3 ∷ k.4 → BeginsSymbol (codes_due c u) (16 * k.0) (bits_of k.0 k.1) stream
  count_symbol part stream k e = record { code = k.2; is_code = k.5; cut = e ∙ k.8 }

  -- with more bits
  abbrev longer_element : (part behind : List Bool) (e : Element) → BeginsElement c p u us e part → BeginsElement c p u us e (part ++ behind)
  longer_element part behind e a =
      record { here = a.here; left = a.left; front = a.front; rest = a.rest ++ behind; cut = ap (λ l. l ++ behind) a.cut ∙ append_assoc a.front a.rest behind; spelled = a.spelled; tells = a.tells }

  longer_symbol : (symbol : ℕ) (rest part behind : List Bool) → BeginsSymbol (codes_due c u) symbol rest part → BeginsSymbol (codes_due c u) symbol (rest ++ behind) (part ++ behind)
  longer_symbol symbol rest part behind w = record { code = w.code; is_code = w.is_code; cut = ap (λ l. l ++ behind) w.cut ∙ append_assoc w.code rest behind }

  -- a code of EOBn with fewer than n bits after it is no prefix of an element
  eob_not_whole : (e : Element) (here : List ℤ) (left : List UnitLeft) (n x : ℕ) (more : List Bool) → Tells c p e u us here left → u.has_dc ≡ false → n ≤ c.most_run → 16 * n ≡ symbol_of e → 1 ≤ length more
      → bits_of n x ≡ bits_after e ++ more → ⊥
  eob_not_whole (difference d) here left n x more t dc most same few e = clash u.has_dc t.2 dc
  eob_not_whole (dc_bit b) here left n x more t dc most same few e = clash u.has_dc t.2 dc
  eob_not_whole (value run v bits) here left n x more t dc most same few e =
      let low = t.3 in
      let high = t.4 in
      let cap = (law.fits).0 in
      omega (arith, same)
  eob_not_whole (long_run bits) here left n x more t dc most same few e = let cap = (law.fits).1 in omega (arith, same, cap, most)
  eob_not_whole (ends bands bits) here left n x more t dc most same few e =
      let k = digits bands - 1 in
      omega (arith, same, few, ap length e, length-append (bits_of k bands ++ bits) more, length-append (bits_of k bands) bits, length-bits_of n x, length-bits_of k bands)

  -- THE LAW: no complete element that is allowed there is a prefix of a part
  part_no_element : (part : List Bool) (e : Element) → IsProperFront c s u us part → BeginsElement c p u us e part → ⊥
  part_no_element part e (inl k) a =
      element_some (codes_due c u) e some (subst (λ l. SpellsElement (codes_due c u) e l) (empty_front a.front a.rest (sym a.cut ∙ k)) a.spelled)
  part_no_element part e (inr (inl k)) a = part_no_code part (law.one u) k.1 (element_code k.0 a)
  part_no_element part e (inr (inr (inl k))) a =
      let behind = k.3 ∷ k.4 in
      let same = same_element c p u us law k.0 e (part ++ behind) (whole_element part (part ++ behind) k refl) (longer_element part behind e a) in
      omega (arith, ap length same.front, ap length a.cut, length-append a.front a.rest, length-append part behind)
  part_no_element part e (inr (inr (inr k))) a =
      let behind = k.3 ∷ k.4 in
      let r = symbol_once (law.one u) (count_symbol part (part ++ behind) k refl) (element_code (λ h. clash u.has_dc h.0 k.6) (longer_element part behind e a)) in
      eob_not_whole e a.here a.left k.0 k.1 (a.rest ++ behind) a.tells k.6 k.7 r.0 (omega (arith, length-append a.rest behind)) r.1

  -- A FAULT that begins with a code
  no_word : (bits r : List Bool) (fault : Fault) (symbol : ℕ) (rest : List Bool) → IsProperFront c s u us (bits ++ r) → WantsCode c u → BitsShow c s u us fault bits → (fault ≡ CoefRange → ⊥)
      → BeginsSymbol (codes_due c u) symbol rest (bits ++ r)
      → ((n x : ℕ) (more : List Bool) → u.has_dc ≡ false → n ≤ c.most_run → 1 ≤ length more → 16 * n ≡ symbol → bits_of n x ≡ rest ++ more → ⊥) → ⊥
  no_word bits r fault symbol rest (inl k) due shown other w eob = some (w.code, symbol) w.is_code (empty_front w.code rest (sym w.cut ∙ k))
  no_word bits r fault symbol rest (inr (inl k)) due shown other w eob = part_no_code (bits ++ r) (law.one u) k.1 w
  no_word bits r fault symbol rest (inr (inr (inl k))) due shown other w eob =
      let behind = k.3 ∷ k.4 in
      shows_excludes c s u us law due fault k.0 bits (r ++ behind) shown (whole_element (bits ++ r) (bits ++ (r ++ behind)) k (sym (append_assoc bits r behind))) (λ z. absurd (other z))
  no_word bits r fault symbol rest (inr (inr (inr k))) due shown other w eob =
      let behind = k.3 ∷ k.4 in
      let q = symbol_once (law.one u) (count_symbol (bits ++ r) ((bits ++ r) ++ behind) k refl) (longer_symbol symbol rest (bits ++ r) behind w) in
      eob k.0 k.1 behind k.6 k.7 (omega arith) q.0 q.1

  -- THE LAW: a part has no fault
  part_no_show : (bits r : List Bool) (fault : Fault) → IsProperFront c s u us (bits ++ r) → WantsCode c u → BitsShow c s u us fault bits → ⊥
  part_no_show bits r fault f due (inl k) = by f
    where
      none : BeginsNone (codes_due c u) bits
      none = k.1

      by : IsProperFront c s u us (bits ++ r) → ⊥
      by (inl h) = let some_bits = none.0 in omega (arith, ap length (empty_front bits r h), some_bits)
      by (inr (inl h)) = let q = h.1 in none.1 q.0 (r ++ q.1 ∷ q.2) q.3 (q.4 ∙ append_assoc bits r (q.1 ∷ q.2))
      by (inr (inr (inl h))) =
          let behind = h.3 ∷ h.4 in
          no_code bits (r ++ behind) none (append_assoc bits r behind) (element_code due (whole_element (bits ++ r) ((bits ++ r) ++ behind) h refl))
      by (inr (inr (inr h))) = let behind = h.3 ∷ h.4 in no_code bits (r ++ behind) none (append_assoc bits r behind) (count_symbol (bits ++ r) ((bits ++ r) ++ behind) h refl)
  part_no_show bits r fault f due (inr (inl k)) =
      no_word bits r fault k.1.0 r f due (inr (inl k)) (λ z. omega (arith, ap number_of (sym k.0 ∙ z))) (record { code = bits; is_code = k.1.1; cut = refl })
      (λ n x more dc most few same cut. clash (is_symbol c u.has_dc k.1.0) (ap (λ m. is_symbol c u.has_dc m) (sym same) ∙ ap (λ b. is_symbol c b (16 * n)) dc ∙ eob_symbol c n most) k.1.2)
  part_no_show bits r fault f due (inr (inr (inl k))) =
      let q = k.1 in
      no_word bits r fault (16 * q.0 + q.1) r f due (inr (inr (inl k))) (λ z. omega (arith, ap number_of (sym k.0 ∙ z))) (record { code = bits; is_code = q.2; cut = refl })
      (λ n x more dc most few same cut. (let low = q.4 in let high = q.5 in let cap = (law.fits).0 in let z : ⊥ = omega (arith, same, low, high, cap) in z))
  part_no_show bits r fault f due (inr (inr (inr (inl k)))) =
      let q = k.1 in part_no_element (bits ++ r) q.0 f (record { here = q.1; left = q.2; front = bits; rest = r; cut = refl; spelled = q.3; tells = q.4 })
  part_no_show bits r fault f due (inr (inr (inr (inr k)))) =
      let q = k.1 in
      let number = bits_of q.0 q.1 in
      no_word bits r fault (16 * q.0) (number ++ r) f due (inr (inr (inr (inr k)))) (λ z. omega (arith, ap number_of (sym k.0 ∙ z)))
      (begins_code (codes_due c u) (16 * q.0) number bits r (bits ++ r) (q.2, q.3, q.6) refl)
      (λ n x more dc most few same cut. omega (arith, same, few, ap length cut, length-append (number ++ r) more, length-append number r, length-bits_of n x, length-bits_of q.0 q.1))

-- COMPLETE ELEMENTS AND A PART

pub coding_is : (c : Coding) → IsSound c → IsCoding c
coding_is c s = (s.categories, s.runs)

pub codes_one : (c : Coding) → IsSound c → (u : UnitLeft) → OneWay (codes_due c u)
codes_one c s u = one_due c u u.has_dc s

pub codes_not_empty : (c : Coding) → IsSound c → (u : UnitLeft) → AreSome (codes_due c u)
codes_not_empty c s u = some_due c u u.has_dc s

module _ (c : Coding) (st : Standing) (unit : UnitLeft) (others : List UnitLeft) where
  -- what complete elements after the state cover begins no part of an element there
  pub part_no_more : (part : List Bool) (e : Element) (es : List Element) → IsSound c → st.left ≡ unit ∷ others → IsProperFront c st unit others part
      → BeginsElements c st (e ∷ es) part → ⊥
  part_no_more part e es sound left p a =
      part_no_element c st unit others (decodes c sound) (codes_not_empty c sound unit) part e p (first_element unit others left a).element

  pub no_further : (part r : List Bool) (e : Element) (es : List Element) (told : List ℤ) (bits : List Bool) (t : Standing) → IsSound c
      → st.left ≡ unit ∷ others → IsProperFront c st unit others part → Covers c st (e ∷ es) told bits t → part ≡ bits ++ r → ⊥
  no_further part r e es told bits t sound left p k cut =
      part_no_more part e es sound left p (record { told = told; front = bits; rest = r; standing = t; cut = cut; covers = k })

-- the complete elements before a part
abbrev pub before_part : {c : Coding} {units : List UnitLeft} {told : List ℤ} {left : List UnitLeft} {bits : List Bool} (w : StandsInUnits c units told left bits) → BeginsElements c (at_start units) w.elements bits
before_part w = record { told = w.before; front = w.front; rest = w.part; standing = w.standing; cut = w.cut; covers = w.covers }

-- THE LAW: they have no complete interval
pub part_not_held : (c : Coding) (units : List UnitLeft) (told : List ℤ) (left : List UnitLeft) (bits : List Bool) → IsSound c → StandsInUnits c units told left bits → HoldsNoInterval c units bits
part_not_held c units told left bits sound w values front rest k e = by (elements_once c (at_start units) w.elements k.0 bits (decodes c sound) (before_part w) all)
  where
    all : BeginsElements c (at_start units) k.0 bits
    all = record { told = values; front = front; rest = rest; standing = k.1; cut = e; covers = k.2 }

    at : FrontAt c w.standing w.part
    at = part_front c w.standing w.unit w.others w.here w.part w.is_part

    longer : (es : List Element) (told : List ℤ) (spelling : List Bool) → Covers c w.standing es told spelling k.1 → w.part ≡ spelling ++ rest → ⊥
    longer [] told spelling h cut = no_units at.unit at.units (sym at.left ∙ ap (λ (z : Standing). z.left) (sym h.2) ∙ k.3)
    longer (d ∷ es) told spelling h cut =
        part_no_more c w.standing at.unit at.units w.part d es sound at.left at.is_front (record { told = told; front = spelling; rest = rest; standing = k.1; cut = cut; covers = h })

    shorter : (es : List Element) (told : List ℤ) (spelling : List Bool) → Covers c k.1 es told spelling w.standing → ⊥
    shorter [] told spelling h = no_units at.unit at.units (sym at.left ∙ ap (λ (z : Standing). z.left) h.2 ∙ k.3)
    shorter (d ∷ es) told spelling h = no_units h.0 h.1 (sym h.7 ∙ k.3)

    by : Continues (before_part w) all ⊎ Continues all (before_part w) → ⊥
    by (inl g) = longer g.elements g.values g.spelling g.covers g.behind
    by (inr g) = shorter g.elements g.values g.spelling g.covers

-- THE LAW: they have no fault
pub part_not_shown : (c : Coding) (units : List UnitLeft) (told : List ℤ) (left : List UnitLeft) (bits : List Bool) (fault : Fault) → IsSound c → StandsInUnits c units told left bits → DataReveals c units fault bits → ⊥
part_not_shown c units told left bits fault sound w d = by (elements_once c (at_start units) w.elements d.elements bits (decodes c sound) (before_part w) (at_fault d))
  where
    at : FrontAt c w.standing w.part
    at = part_front c w.standing w.unit w.others w.here w.part w.is_part

    -- at one state
    there : w.standing ≡ d.standing → w.part ≡ d.here ++ d.rest → ⊥
    there z cut =
        let h = head_inj at.unit d.unit at.units d.others (sym at.left ∙ ap (λ (t : Standing). t.left) z ∙ d.left) in
        let p1 : IsProperFront c d.standing at.unit at.units w.part = subst (λ t. IsProperFront c t at.unit at.units w.part) z at.is_front in
        let p2 : IsProperFront c d.standing d.unit at.units w.part = subst (λ v. IsProperFront c d.standing v at.units w.part) h.0 p1 in
        let p3 : IsProperFront c d.standing d.unit d.others w.part = subst (λ vs. IsProperFront c d.standing d.unit vs w.part) h.1 p2 in
        part_no_show c d.standing d.unit d.others (decodes c sound) (codes_not_empty c sound d.unit) d.here d.rest fault (subst (λ l. IsProperFront c d.standing d.unit d.others l) cut p3) d.codes d.shows

    longer : (es : List Element) (values : List ℤ) (spelling : List Bool) → Covers c w.standing es values spelling d.standing → w.part ≡ spelling ++ (d.here ++ d.rest) → ⊥
    longer [] values spelling h cut = there (sym h.2) (cut ∙ ap (λ l. l ++ (d.here ++ d.rest)) h.1)
    longer (e ∷ es) values spelling h cut =
        part_no_more c w.standing at.unit at.units w.part e es sound at.left at.is_front (record { told = values; front = spelling; rest = d.here ++ d.rest; standing = d.standing; cut = cut; covers = h })

    shorter : (es : List Element) (values : List ℤ) (spelling : List Bool) → Covers c d.standing es values spelling w.standing → d.here ++ d.rest ≡ spelling ++ w.part → ⊥
    shorter [] values spelling h cut = there h.2 (sym (cut ∙ ap (λ l. l ++ w.part) h.1))
    shorter (e ∷ es) values spelling h cut =
        no_element_there d d.rest e es (decodes c sound) (record { told = values; front = spelling; rest = w.part; standing = w.standing; cut = cut; covers = h })

    by : Continues (before_part w) (at_fault d) ⊎ Continues (at_fault d) (before_part w) → ⊥
    by (inl g) = longer g.elements g.values g.spelling g.covers g.behind
    by (inr g) = shorter g.elements g.values g.spelling g.covers g.behind

-- nor does any prefix of them
pub part_shows_none : (c : Coding) (units : List UnitLeft) (told : List ℤ) (left : List UnitLeft) (bits : List Bool) → IsSound c → StandsInUnits c units told left bits → RevealsNoFault c units bits
part_shows_none c units told left bits sound w fault front rest d e =
    part_not_shown c units told left bits fault sound w (subst (λ l. DataReveals c units fault l) (sym e) (shows_more c units fault front rest d))

-- So units are left, and the bytes of the interval have no fault.
pub part_due : (s : Scan) (before : Blocks) (places : List Place) (told : List ℤ) (left : List UnitLeft) (coded : List ℕ) → IsSound s.coding
    → StandsInUnits s.coding (map (unit_at s before) places) told left (bits_of_bytes coded) → AreDue s before places coded
part_due s before places told left coded sound w = (
  λ h. part_not_held s.coding (map (unit_at s before) places) told left (bits_of_bytes coded) sound w h.0 h.1.0 h.1.1 h.1.3 h.1.2,
  λ fault d. part_not_shown s.coding (map (unit_at s before) places) told left (bits_of_bytes coded) fault sound w d,
)
