-- Bits spell at most one element of the current unit.
use Rattle.std.proofs.Common.{◌≡◌, ℕ, zero, suc, ◌+◌, ◌-◌, ◌*◌, ◌%◌, ◌^◌, ◌<◌, ◌≤◌, Bool, true, false, cond, ◌==◌, List, [], ◌∷◌, ◌++◌, length, take, drop, refl, sym, ap, ◌∙◌, subst, arith, ℤ, pos, negsuc, ⊎_elim, inl, inr}
use Rattle.std.specs.Prelude.{◌⊎◌, nat_lt, ◌+ℤ◌, slice_index_or}
use Rattle.std.specs.List.{Contains}
use Rattle.std.proofs.lemmas.List.{append_assoc, append-nil, append_cancel_left}
use Rattle.std.proofs.lemmas.Bool.Decides.{nat_tests}
use Rattle.jpg_spec.specs.Bits.{bits_of}
use Rattle.jpg_spec.specs.Codes.{Code}
use Rattle.jpg_spec.specs.Numbers.{category, digits, extra_bits}
use Rattle.jpg_spec.specs.Elements.{Coding, UnitLeft, Standing, Covers, predictions_after, Element, difference, dc_bit, value, long_run, ends, Tells, SpellsElement, codes_due, zeros_in, nonzeros_in, is_zero, scaled, corrected, going_on, old_values, symbol_of, bits_after, are_in_bounds}
use Rattle.jpg_spec.proofs.Bits.ElementsEncoded.{before_zero, after_zero, long_passed, long_left, values_told, units_after}
use Rattle.jpg_spec.proofs.Basics.Common.{append_inj, clash}

-- WHAT IS SKIPPED is determined by the run

one_plus : (n : ℕ) → 1 + n ≡ suc n
one_plus n = omega arith

none_plus : (n : ℕ) → 0 + n ≡ n
none_plus n = omega arith

skips : (run : ℕ) (o : ℤ) → is_zero o ≡ false → (old : List ℤ) → before_zero run (o ∷ old) ≡ o ∷ before_zero run old
skips zero o h old = ap (λ b. cond b [] (o ∷ before_zero zero old)) h
skips (suc run) o h old = ap (λ b. cond b (o ∷ before_zero run old) (o ∷ before_zero (suc run) old)) h

before_is : (passed old : List ℤ) → before_zero (zeros_in passed) (passed ++ pos 0 ∷ old) ≡ passed
before_is [] old = refl
before_is (pos zero ∷ passed) old =
    ap (λ k. before_zero k (pos zero ∷ passed ++ pos 0 ∷ old)) (one_plus (zeros_in passed)) ∙ ap (λ xs. pos zero ∷ xs) (before_is passed old)
before_is (pos (suc n) ∷ passed) old =
    ap (λ k. before_zero k (pos (suc n) ∷ passed ++ pos 0 ∷ old)) (none_plus (zeros_in passed)) ∙ skips (zeros_in passed) (pos (suc n)) refl (passed ++ pos 0 ∷ old) ∙ ap (λ xs. pos (suc n) ∷ xs) (before_is passed old)
before_is (negsuc n ∷ passed) old =
    ap (λ k. before_zero k (negsuc n ∷ passed ++ pos 0 ∷ old)) (none_plus (zeros_in passed)) ∙ skips (zeros_in passed) (negsuc n) refl (passed ++ pos 0 ∷ old) ∙ ap (λ xs. negsuc n ∷ xs) (before_is passed old)

drop_past : (passed old : List ℤ) → drop (length passed + 1) (passed ++ pos 0 ∷ old) ≡ old
drop_past [] old = refl
drop_past (o ∷ passed) old = let e : suc (length passed) + 1 ≡ suc (length passed + 1) = omega arith in ap (λ k. drop k (o ∷ passed ++ pos 0 ∷ old)) e ∙ drop_past passed old

after_is : (run : ℕ) (passed old : List ℤ) → zeros_in passed ≡ run → after_zero run (passed ++ pos 0 ∷ old) ≡ old
after_is run passed old e =
    let b : before_zero run (passed ++ pos 0 ∷ old) ≡ passed = ap (λ k. before_zero k (passed ++ pos 0 ∷ old)) (sym e) ∙ before_is passed old in
    ap (λ xs. drop (length xs + 1) (passed ++ pos 0 ∷ old)) b ∙ drop_past passed old

pub zeros-append : (passed old : List ℤ) → zeros_in (passed ++ pos 0 ∷ old) ≡ zeros_in passed + 1 + zeros_in old
zeros-append [] old = omega arith
zeros-append (o ∷ passed) old = omega (arith, zeros-append passed old)

passes : (u : UnitLeft) (passed old : List ℤ)
    → ((front : List ℤ) × (u.old ≡ front ++ pos 0 ∷ old) × (zeros_in front ≡ 15) × (passed ≡ front ++ pos 0 ∷ []))
    ⊎ ((u.old ≡ passed) × (zeros_in passed < 16) × (old ≡ []))
    → (passed ≡ long_passed u) × (old ≡ long_left u)
passes u passed old (inl f) =
    let z : zeros_in u.old ≡ 15 + 1 + zeros_in old = ap zeros_in f.1 ∙ zeros-append f.0 old ∙ ap (λ k. k + 1 + zeros_in old) f.2 in
    let short : nat_lt (zeros_in u.old) 16 ≡ false = grind (arith, nat_tests) in
    let b : before_zero 15 u.old ≡ f.0 = ap (λ xs. before_zero 15 xs) f.1 ∙ ap (λ k. before_zero k (f.0 ++ pos 0 ∷ old)) (sym f.2) ∙ before_is f.0 old in
    let r : after_zero 15 u.old ≡ old = ap (λ xs. after_zero 15 xs) f.1 ∙ after_is 15 f.0 old f.2 in (
      f.3 ∙ ap (λ xs. xs ++ pos 0 ∷ []) (sym b) ∙ sym (ap (λ s. cond s u.old (before_zero 15 u.old ++ pos 0 ∷ [])) short),
      sym r ∙ sym (ap (λ s. cond s [] (after_zero 15 u.old)) short),
    )
passes u passed old (inr g) =
    let z : zeros_in u.old ≡ zeros_in passed = ap zeros_in g.0 in
    let few = g.1 in
    let short : nat_lt (zeros_in u.old) 16 ≡ true = grind (arith, nat_tests) in (
      sym g.0 ∙ sym (ap (λ s. cond s u.old (before_zero 15 u.old ++ pos 0 ∷ [])) short),
      g.2 ∙ sym (ap (λ s. cond s [] (after_zero 15 u.old)) short),
    )

value_passed : (run : ℕ) (u : UnitLeft) (passed old : List ℤ) → u.old ≡ passed ++ pos 0 ∷ old → zeros_in passed ≡ run → passed ≡ before_zero run u.old
value_passed run u passed old e z = sym (ap (λ xs. before_zero run xs) e ∙ ap (λ k. before_zero k (passed ++ pos 0 ∷ old)) (sym z) ∙ before_is passed old)

-- WHAT IS ENCODED is a function of the element

pub told_is : (c : Coding) (p : ℤ) (e : Element) (u : UnitLeft) (us : List UnitLeft) (told : List ℤ) (left : List UnitLeft) → Tells c p e u us told left
    → (told ≡ values_told c p e u us) × (left ≡ units_after e u us)
told_is c p (difference d) u us told left h = (h.6, h.7 ∙ ap (λ old. going_on u (drop 1 old) us) (sym h.5))
told_is c p (dc_bit b) u us told left h =
    (h.5 ∙ ap (λ old. (slice_index_or old 0 (pos 0) +ℤ scaled c.al (cond b (pos 1) (pos 0))) ∷ []) (sym h.4), h.6 ∙ ap (λ old. going_on u (drop 1 old) us) (sym h.4))
told_is c p (value run v bits) u us told left h =
    let passed = h.0 in
    let old = h.1 in
    let b : passed ≡ before_zero run u.old = sym (ap (λ xs. before_zero run xs) h.6 ∙ ap (λ k. before_zero k (passed ++ pos 0 ∷ old)) (sym h.7) ∙ before_is passed old) in
    let r : old ≡ after_zero run u.old = sym (ap (λ xs. after_zero run xs) h.6 ∙ after_is run passed old h.7) in
    (h.9 ∙ ap (λ xs. corrected c.al xs bits ++ scaled c.al v ∷ []) b, h.10 ∙ ap (λ xs. going_on u xs us) r)
told_is c p (long_run bits) u us told left h =
    let both = passes u h.0 h.1 h.3 in
    (h.5 ∙ ap (λ xs. corrected c.al xs bits) both.0, h.6 ∙ ap (λ xs. going_on u xs us) both.1)
told_is c p (ends bands bits) u us told left h = (h.5, h.6)

-- WHAT IS SPELLED

-- no code begins another
abbrev pub OneWay : List Code → Type 0
OneWay codes = (a b : Code) (x y : List Bool) → Contains codes a → Contains codes b → a.0 ++ x ≡ b.0 ++ y → a ≡ b

-- categories and runs fit a symbol's halves
abbrev pub IsCoding : Coding → Type 0
IsCoding c = (c.most_category ≤ 15) × (c.most_run ≤ 14)

-- what Numbers and Bits give (proved elsewhere)
pub record NumberFacts : Type 0 where
  pub size : (v : ℤ) → length (extra_bits v) ≡ category v
  pub apart : (v w : ℤ) → category v ≡ category w → extra_bits v ≡ extra_bits w → v ≡ w
  pub bits : (n m : ℕ) → length (bits_of n m) ≡ n
  pub some : (m : ℕ) → 1 ≤ m → 1 ≤ digits m
  pub run : (b x : ℕ) → 1 ≤ b → x < 2 ^ (digits b - 1) → bits_of (digits b - 1) x ≡ bits_of (digits b - 1) b → b ≡ 2 ^ (digits b - 1) + x
  pub bands : (m n : ℕ) → 1 ≤ m → 1 ≤ n → digits m ≡ digits n → bits_of (digits m - 1) m ≡ bits_of (digits n - 1) n → m ≡ n

pub pair_0 : (a b : List Bool) (s t : ℕ) → (let q : Code = (a, s) in q) ≡ (let q : Code = (b, t) in q) → a ≡ b
pair_0 a b s t e = ap (λ (q : Code). q.0) e

pub pair_1 : (a b : List Bool) (s t : ℕ) → (let q : Code = (a, s) in q) ≡ (let q : Code = (b, t) in q) → s ≡ t
pair_1 a b s t e = ap (λ (q : Code). q.1) e

-- what the laws take of a coding
pub record Decodes (c : Coding) : Type 0 where
  pub facts : NumberFacts
  pub fits : IsCoding c
  pub one : (u : UnitLeft) → OneWay (codes_due c u)

-- A CODE of this symbol at the beginning of bits
pub record BeginsSymbol (codes : List Code) (symbol : ℕ) (rest bits : List Bool) : Type 0 where
  pub code : List Bool
  pub is_code : Contains codes (code, symbol)
  pub cut : bits ≡ code ++ rest

-- the symbol and what follows its code are determined
pub symbol_once : {codes : List Code} {s s' : ℕ} {rest rest' bits : List Bool} → OneWay codes → BeginsSymbol codes s rest bits → BeginsSymbol codes s' rest' bits → (s ≡ s') × (rest ≡ rest')
symbol_once {s = s} {s' = s'} {rest = rest} {rest' = rest'} one k l =
    let all : k.code ++ rest ≡ l.code ++ rest' = sym k.cut ∙ l.cut in
    let q = one (k.code, s) (l.code, s') rest rest' k.is_code l.is_code all in
    (pair_1 k.code l.code s s' q, append_cancel_left k.code rest rest' (all ∙ ap (λ f. f ++ rest') (sym (pair_0 k.code l.code s s' q))))

same_value : (run run' : ℕ) (v v' : ℤ) (bits bits' : List Bool) → run ≡ run' → v ≡ v' → bits ≡ bits' → value run v bits ≡ value run' v' bits'
same_value run run' v v' bits bits' a b e = cc

same_ends : (m n : ℕ) (bits bits' : List Bool) → m ≡ n → bits ≡ bits' → ends m bits ≡ ends n bits'
same_ends m n bits bits' a b = cc

-- AN ELEMENT at the beginning of bits, at the unit u with others after it
pub record BeginsElement (c : Coding) (p : ℤ) (u : UnitLeft) (us : List UnitLeft) (e : Element) (bits : List Bool) : Type 0 where
  pub here : List ℤ
  pub left : List UnitLeft
  pub front : List Bool
  pub rest : List Bool
  pub cut : bits ≡ front ++ rest
  pub spelled : SpellsElement (codes_due c u) e front
  pub tells : Tells c p e u us here left

-- no bit of DC is expected
abbrev pub WantsCode : Coding → UnitLeft → Type 0
WantsCode c u = (u.has_dc ≡ true) × (c.refines ≡ true) → ⊥

pub begins_code : (codes : List Code) (symbol : ℕ) (behind front rest bits : List Bool) → (code : List Bool) × Contains codes (code, symbol) × (front ≡ code ++ behind) → bits ≡ front ++ rest
    → BeginsSymbol codes symbol (behind ++ rest) bits
begins_code codes symbol behind front rest bits s e = record { code = s.0; is_code = s.1; cut = e ∙ ap (λ f. f ++ rest) s.2 ∙ append_assoc s.0 behind rest }

-- an element that isn't a bit of DC begins with a code of its symbol
pub codes_are_due : (c : Coding) (p : ℤ) (e : Element) (u : UnitLeft) (us : List UnitLeft) (here : List ℤ) (left : List UnitLeft) (front : List Bool) → WantsCode c u → Tells c p e u us here left
    → SpellsElement (codes_due c u) e front → (code : List Bool) × Contains (codes_due c u) (code, symbol_of e) × (front ≡ code ++ bits_after e)
codes_are_due c p (dc_bit b) u us here left front due t s = absurd (due (t.2, t.3))
codes_are_due c p e u us here left front due t s = s

pub element_code : {c : Coding} {p : ℤ} {u : UnitLeft} {us : List UnitLeft} {e : Element} {bits : List Bool} → WantsCode c u → (a : BeginsElement c p u us e bits)
    → BeginsSymbol (codes_due c u) (symbol_of e) (bits_after e ++ a.rest) bits
element_code {c = c} {p = p} {u = u} {us = us} {e = e} {bits = bits} due a =
    begins_code (codes_due c u) (symbol_of e) (bits_after e) a.front a.rest bits (codes_are_due c p e u us a.here a.left a.front due a.tells a.spelled) a.cut

-- THE KIND of an element is determined by its symbol, and by the unit that it is in
abbrev pub kind_of : Element → ℕ
kind_of (difference d) = 0
kind_of (dc_bit b) = 1
kind_of (value run v bits) = 2
kind_of (long_run bits) = 3
kind_of (ends bands bits) = 4

abbrev kind_by : Bool → Bool → ℕ → ℕ
kind_by true refines symbol = cond refines 1 0
kind_by false refines symbol = cond (symbol == 0xf0) 3 (cond (symbol % 16 == 0) 4 2)

kind_ac : (refines : Bool) (symbol : ℕ) (long none : Bool) → (symbol == 0xf0) ≡ long → (symbol % 16 == 0) ≡ none → kind_by false refines symbol ≡ cond long 3 (cond none 4 2)
kind_ac refines symbol long none e f = ap (λ b. cond b 3 (cond (symbol % 16 == 0) 4 2)) e ∙ ap (λ b. cond long 3 (cond b 4 2)) f

kind_is : (c : Coding) (p : ℤ) (e : Element) (u : UnitLeft) (us : List UnitLeft) (here : List ℤ) (left : List UnitLeft) → IsCoding c → Tells c p e u us here left → kind_by u.has_dc c.refines (symbol_of e) ≡ kind_of e
kind_is c p (difference d) u us here left ic t = ap (λ b. kind_by b c.refines (category d)) t.2 ∙ ap (λ b. kind_by true b (category d)) t.3
kind_is c p (dc_bit b) u us here left ic t = ap (λ b. kind_by b c.refines 0) t.2 ∙ ap (λ b. kind_by true b 0) t.3
kind_is c p (value run v bits) u us here left ic t =
    let low = t.3 in
    let high = t.4 in
    let most = ic.0 in
    let z : (16 * run + category v == 0xf0) ≡ false = grind (arith, nat_tests) in
    let m : ((16 * run + category v) % 16 == 0) ≡ false = grind (arith, nat_tests) in
    ap (λ b. kind_by b c.refines (16 * run + category v)) t.2 ∙ kind_ac c.refines (16 * run + category v) false false z m
kind_is c p (long_run bits) u us here left ic t = ap (λ b. kind_by b c.refines 0xf0) t.2
kind_is c p (ends bands bits) u us here left ic t =
    let high = t.2 in
    let most = ic.1 in
    let n = digits bands - 1 in
    let z : (16 * n == 0xf0) ≡ false = grind (arith, nat_tests) in
    let m : ((16 * n) % 16 == 0) ≡ true = grind (arith, nat_tests) in
    ap (λ b. kind_by b c.refines (16 * n)) t.0 ∙ kind_ac c.refines (16 * n) false true z m

module _ (c : Coding) (p : ℤ) (u : UnitLeft) (us : List UnitLeft) (law : Decodes c) where
  kind_once : (e e' : Element) (bits : List Bool) → BeginsElement c p u us e bits → BeginsElement c p u us e' bits → kind_of e ≡ kind_of e'
  kind_once e e' bits a b = by u.has_dc refl c.refines refl
    where
      is_kind : kind_by u.has_dc c.refines (symbol_of e) ≡ kind_of e
      is_kind = kind_is c p e u us a.here a.left law.fits a.tells

      other_kind : kind_by u.has_dc c.refines (symbol_of e') ≡ kind_of e'
      other_kind = kind_is c p e' u us b.here b.left law.fits b.tells

      by_symbol : WantsCode c u → kind_of e ≡ kind_of e'
      by_symbol due = sym is_kind ∙ ap (kind_by u.has_dc c.refines) (symbol_once (law.one u) (element_code due a) (element_code due b)).0 ∙ other_kind

      by : (dc : Bool) → u.has_dc ≡ dc → (refines : Bool) → c.refines ≡ refines → kind_of e ≡ kind_of e'
      by true f refines g =
          sym is_kind ∙ ap (λ d. kind_by d c.refines (symbol_of e)) f ∙ sym (ap (λ d. kind_by d c.refines (symbol_of e')) f) ∙ other_kind
      by false f refines g = by_symbol (λ h. clash u.has_dc h.0 f)

  -- THE LAW
  pub element_once : (e e' : Element) (bits : List Bool) → BeginsElement c p u us e bits → BeginsElement c p u us e' bits → e ≡ e'
  element_once (difference d) (difference d') bits a b =
      let r = symbol_once (law.one u) (element_code (λ h. clash c.refines h.1 (a.tells).3) a) (element_code (λ h. clash c.refines h.1 (b.tells).3) b) in
      let i = append_inj (extra_bits d) (extra_bits d') a.rest b.rest ((law.facts).size d ∙ r.0 ∙ sym ((law.facts).size d')) r.1 in
      ap difference ((law.facts).apart d d' r.0 i.0)
  element_once (dc_bit b) (dc_bit b') bits k l =
      let e : b ∷ k.rest ≡ b' ∷ l.rest = ap (λ f. f ++ k.rest) (sym k.spelled) ∙ sym k.cut ∙ l.cut ∙ ap (λ f. f ++ l.rest) l.spelled in
      let g : b ≡ b' = cc in
      ap dc_bit g
  element_once (value run v bits) (value run' v' bits') stream a b =
      let facts = law.facts in
      let t = a.tells in
      let t' = b.tells in
      let r = symbol_once (law.one u) (element_code (λ h. clash u.has_dc h.0 t.2) a) (element_code (λ h. clash u.has_dc h.0 t'.2) b) in
      let low = t.3 in
      let high = t.4 in
      let low' = t'.3 in
      let high' = t'.4 in
      let most = (law.fits).0 in
      let er : run ≡ run' = omega (arith, r.0) in
      let es : category v ≡ category v' = omega (arith, r.0) in
      let i = append_inj (extra_bits v) (extra_bits v') (bits ++ a.rest) (bits' ++ b.rest) (facts.size v ∙ es ∙ sym (facts.size v')) (sym (append_assoc (extra_bits v) bits a.rest) ∙ r.1 ∙ append_assoc (extra_bits v') bits' b.rest) in
      let pass = value_passed run u t.0 t.1 t.6 t.7 in
      let pass' = value_passed run' u t'.0 t'.1 t'.6 t'.7 in
      let n : length bits ≡ length bits' = sym t.8 ∙ ap nonzeros_in (pass ∙ ap (λ k. before_zero k u.old) er ∙ sym pass') ∙ t'.8 in
      same_value run run' v v' bits bits' er (facts.apart v v' es i.0) (append_inj bits bits' a.rest b.rest n i.1).0
  element_once (long_run bits) (long_run bits') stream a b =
      let t = a.tells in
      let t' = b.tells in
      let r = symbol_once (law.one u) (element_code (λ h. clash u.has_dc h.0 t.2) a) (element_code (λ h. clash u.has_dc h.0 t'.2) b) in
      let n : length bits ≡ length bits' = sym t.4 ∙ ap nonzeros_in ((passes u t.0 t.1 t.3).0 ∙ sym (passes u t'.0 t'.1 t'.3).0) ∙ t'.4 in
      ap long_run (append_inj bits bits' a.rest b.rest n r.1).0
  element_once (ends bands bits) (ends bands' bits') stream a b =
      let facts = law.facts in
      let t = a.tells in
      let t' = b.tells in
      let r = symbol_once (law.one u) (element_code (λ h. clash u.has_dc h.0 t.0) a) (element_code (λ h. clash u.has_dc h.0 t'.0) b) in
      let some = facts.some bands t.1 in
      let some' = facts.some bands' t'.1 in
      let es : digits bands ≡ digits bands' = omega (arith, r.0) in
      let b1 = bits_of (digits bands - 1) bands in
      let b2 = bits_of (digits bands' - 1) bands' in
      let i = append_inj b1 b2 (bits ++ a.rest) (bits' ++ b.rest) (facts.bits (digits bands - 1) bands ∙ ap (λ k. k - 1) es ∙ sym (facts.bits (digits bands' - 1) bands')) (sym (append_assoc b1 bits a.rest) ∙ r.1 ∙ append_assoc b2 bits' b.rest) in
      let eb = facts.bands bands bands' t.1 t'.1 es i.0 in
      let n : length bits ≡ length bits' = sym t.4 ∙ ap (λ k. nonzeros_in (old_values (take k (u ∷ us)))) eb ∙ t'.4 in
      same_ends bands bands' bits bits' eb (append_inj bits bits' a.rest b.rest n i.1).0
  element_once e e' bits a b = absurd (omega (arith, kind_once e e' bits a b))

coded_front : (codes : List Code) → ((a b : Code) (x y : List Bool) → Contains codes a → Contains codes b → a.0 ++ x ≡ b.0 ++ y → a ≡ b)
    → (symbol : ℕ) (b front front' x x' : List Bool)
    → (code : List Bool) × Contains codes (code, symbol) × (front ≡ code ++ b) → (code : List Bool) × Contains codes (code, symbol) × (front' ≡ code ++ b)
    → front ++ x ≡ front' ++ x' → front ≡ front'
coded_front codes one symbol b front front' x x' s s' same =
    let all : s.0 ++ (b ++ x) ≡ s'.0 ++ (b ++ x') = sym (append_assoc s.0 b x) ∙ ap (λ f. f ++ x) (sym s.2) ∙ same ∙ ap (λ f. f ++ x') s'.2 ∙ append_assoc s'.0 b x' in
    s.2 ∙ ap (λ k. k ++ b) (pair_0 s.0 s'.0 symbol symbol (one (s.0, symbol) (s'.0, symbol) (b ++ x) (b ++ x') s.1 s'.1 all)) ∙ sym s'.2

-- the code of an element is determined by the bits too
pub front_once : (codes : List Code) → ((a b : Code) (x y : List Bool) → Contains codes a → Contains codes b → a.0 ++ x ≡ b.0 ++ y → a ≡ b)
    → (e : Element) (front front' x x' : List Bool) → SpellsElement codes e front → SpellsElement codes e front' → front ++ x ≡ front' ++ x' → front ≡ front'
front_once codes one (dc_bit b) front front' x x' s s' same = s ∙ sym s'
front_once codes one (difference d) front front' x x' s s' same = coded_front codes one _ (bits_after (difference d)) front front' x x' s s' same
front_once codes one (value run v bits) front front' x x' s s' same = coded_front codes one _ (bits_after (value run v bits)) front front' x x' s s' same
front_once codes one (long_run bits) front front' x x' s s' same = coded_front codes one _ (bits_after (long_run bits)) front front' x x' s s' same
front_once codes one (ends bands bits) front front' x x' s s' same = coded_front codes one _ (bits_after (ends bands bits)) front front' x x' s s' same

pub head_inj : (u u' : UnitLeft) (us us' : List UnitLeft) → u ∷ us ≡ u' ∷ us' → (u ≡ u') × (us ≡ us')
head_inj u u' us us' e = (cc, cc)

pub no_units : (u : UnitLeft) (us : List UnitLeft) → u ∷ us ≡ [] → ⊥
no_units u us e = cc

-- of two elements that the same bits begin with all is the same
pub record SameElement {c : Coding} {p : ℤ} {u : UnitLeft} {us : List UnitLeft} {e e' : Element} {bits : List Bool} (a : BeginsElement c p u us e bits) (b : BeginsElement c p u us e' bits) : Type 0 where
  pub element : e ≡ e'
  pub here : a.here ≡ b.here
  pub left : a.left ≡ b.left
  pub front : a.front ≡ b.front
  pub rest : a.rest ≡ b.rest

module _ (c : Coding) (p : ℤ) (u : UnitLeft) (us : List UnitLeft) (law : Decodes c) where
  pub same_element : (e e' : Element) (bits : List Bool) → (a : BeginsElement c p u us e bits) → (b : BeginsElement c p u us e' bits) → SameElement a b
  same_element e e' bits a b = subst (λ d. (b : BeginsElement c p u us d bits) → SameElement a b) (element_once c p u us law e e' bits a b) all b
    where
      all : (b : BeginsElement c p u us e bits) → SameElement a b
      all b =
          let t = told_is c p e u us a.here a.left a.tells in
          let t' = told_is c p e u us b.here b.left b.tells in
          let f = front_once (codes_due c u) (law.one u) e a.front b.front a.rest b.rest a.spelled b.spelled (sym a.cut ∙ b.cut) in
          record {
            element = refl;
            here = t.0 ∙ sym t'.0;
            left = t.1 ∙ sym t'.1;
            front = f;
            rest = append_cancel_left a.front a.rest b.rest (sym a.cut ∙ b.cut ∙ ap (λ g. g ++ b.rest) (sym f));
          }

-- COMPLETE ELEMENTS at the beginning of bits, from one state to another
pub record BeginsElements (c : Coding) (s : Standing) (es : List Element) (bits : List Bool) : Type 0 where
  pub told : List ℤ
  pub front : List Bool
  pub rest : List Bool
  pub standing : Standing
  pub cut : bits ≡ front ++ rest
  pub covers : Covers c s es told front standing

abbrev pub after_element : Standing → UnitLeft → Element → List UnitLeft → Standing
after_element s u e left = record { predictions = predictions_after s.predictions u.component e; left = left }

-- the first of them, where these units are left, and the others
pub record FirstElement {c : Coding} {s : Standing} {e : Element} {es : List Element} {bits : List Bool} (u : UnitLeft) (us : List UnitLeft) (a : BeginsElements c s (e ∷ es) bits) : Type 0 where
  pub element : BeginsElement c (s.predictions u.component) u us e bits
  pub in_bounds : are_in_bounds c.bounds u.has_dc element.here ≡ true
  pub more : List ℤ
  pub front : List Bool
  pub told_is : a.told ≡ element.here ++ more
  pub front_is : a.front ≡ element.front ++ front
  pub rest_is : element.rest ≡ front ++ a.rest
  pub covers : Covers c (after_element s u e element.left) es more front a.standing

pub first_element : {c : Coding} {s : Standing} {e : Element} {es : List Element} {bits : List Bool} (u : UnitLeft) (us : List UnitLeft) → s.left ≡ u ∷ us → (a : BeginsElements c s (e ∷ es) bits) → FirstElement u us a
first_element u us left a =
    let k = a.covers in
    let h = head_inj k.0 u k.1 us (sym k.7 ∙ left) in
    subst (λ vs. FirstElement u vs a) h.1 (subst (λ v. FirstElement v k.1 a) h.0 (record {
      element = record { here = k.2; left = k.3; front = k.5; rest = k.6 ++ a.rest; cut = a.cut ∙ ap (λ f. f ++ a.rest) k.9 ∙ append_assoc k.5 k.6 a.rest; spelled = k.10; tells = k.11 };
      in_bounds = k.12;
      more = k.4;
      front = k.6;
      told_is = k.8;
      front_is = k.9;
      rest_is = refl;
      covers = k.13;
    }))

-- The second ones continue the first.
pub record Continues {c : Coding} {s : Standing} {es es' : List Element} {bits : List Bool} (a : BeginsElements c s es bits) (b : BeginsElements c s es' bits) : Type 0 where
  pub elements : List Element
  pub values : List ℤ
  pub spelling : List Bool
  pub joined : (es' ≡ es ++ elements) × (b.told ≡ a.told ++ values) × (b.front ≡ a.front ++ spelling)
  pub behind : a.rest ≡ spelling ++ b.rest
  pub covers : Covers c a.standing elements values spelling b.standing

continues_none : (c : Coding) (s : Standing) (es' : List Element) (bits : List Bool) (a : BeginsElements c s [] bits) (b : BeginsElements c s es' bits) → Continues a b
continues_none c s es' bits a b = record {
  elements = es';
  values = b.told;
  spelling = b.front;
  joined = (refl, ap (λ ys. ys ++ b.told) (sym (a.covers).0), ap (λ ys. ys ++ b.front) (sym (a.covers).1));
  behind = ap (λ ys. ys ++ a.rest) (sym (a.covers).1) ∙ sym a.cut ∙ b.cut;
  covers = subst (λ z. Covers c z es' b.told b.front b.standing) (sym (a.covers).2) b.covers;
}

-- lists that begin alike, and then one continues the other
longer_by : {A : Type 0} (all all' here here' more more' rest : List A) → all ≡ here ++ more → all' ≡ here' ++ more' → here ≡ here' → more' ≡ more ++ rest → all' ≡ all ++ rest
longer_by all all' here here' more more' rest e e' h m = e' ∙ ap (λ l. here' ++ l) m ∙ ap (λ l. l ++ (more ++ rest)) (sym h) ∙ sym (append_assoc here more rest) ∙ ap (λ l. l ++ rest) (sym e)

-- THE LAW: of two coverings of the same bits, one is the prefix of the other
pub elements_once : (c : Coding) (s : Standing) (es es' : List Element) (bits : List Bool) → Decodes c → (a : BeginsElements c s es bits) → (b : BeginsElements c s es' bits) → Continues a b ⊎ Continues b a
elements_once c s [] es' bits law a b = inl (continues_none c s es' bits a b)
elements_once c s (e ∷ es) [] bits law a b = inr (continues_none c s (e ∷ es) bits b a)
elements_once c s (e ∷ es) (e' ∷ es') bits law a b =
    let u = (a.covers).0 in
    let us = (a.covers).1 in
    let f = first_element u us (a.covers).7 a in
    let g = first_element u us (a.covers).7 b in
    let same = same_element c (s.predictions u.component) u us law e e' bits f.element g.element in
    let next = after_element s u e (f.element).left in
    let covers1 = subst (λ d. Covers c (after_element s u d (g.element).left) es' g.more g.front b.standing) (sym same.element) g.covers in
    let covers2 : Covers c next es' g.more g.front b.standing = subst (λ l. Covers c (after_element s u e l) es' g.more g.front b.standing) (sym same.left) covers1 in
    let a' : BeginsElements c next es (f.element).rest = record { told = f.more; front = f.front; rest = a.rest; standing = a.standing; cut = f.rest_is; covers = f.covers } in
    let b' : BeginsElements c next es' (f.element).rest = record { told = g.more; front = g.front; rest = b.rest; standing = b.standing; cut = same.rest ∙ g.rest_is; covers = covers2 } in
    ⊎_elim
    (λ (z : Continues a' b'). inl (record {
      elements = z.elements;
      values = z.values;
      spelling = z.spelling;
      joined = (
        ap (λ d. d ∷ es') (sym same.element) ∙ ap (λ l. e ∷ l) z.joined.0,
        longer_by a.told b.told (f.element).here (g.element).here f.more g.more z.values f.told_is g.told_is same.here z.joined.1,
        longer_by a.front b.front (f.element).front (g.element).front f.front g.front z.spelling f.front_is g.front_is same.front z.joined.2,
      );
      behind = z.behind;
      covers = z.covers;
    }))
    (λ (z : Continues b' a'). inr (record {
      elements = z.elements;
      values = z.values;
      spelling = z.spelling;
      joined = (
        ap (λ d. d ∷ es) same.element ∙ ap (λ l. e' ∷ l) z.joined.0,
        longer_by b.told a.told (g.element).here (f.element).here g.more f.more z.values g.told_is f.told_is (sym same.here) z.joined.1,
        longer_by b.front a.front (g.element).front (f.element).front g.front f.front z.spelling g.front_is f.front_is (sym same.front) z.joined.2,
      );
      behind = z.behind;
      covers = z.covers;
    }))
    (elements_once c next es es' (f.element).rest law a' b')

-- THE LAW: complete intervals are spelled in one way
no_more : (c : Coding) (t : Standing) (es : List Element) (values : List ℤ) (spelling : List Bool) (t' : Standing) → t.left ≡ [] → Covers c t es values spelling t' → (es ≡ []) × (values ≡ []) × (spelling ≡ [])
no_more c t [] values spelling t' none k = (refl, k.0, k.1)
no_more c t (e ∷ es) values spelling t' none k = absurd (no_units k.0 k.1 (sym k.7 ∙ none))

all_there : (c : Coding) (s : Standing) (es es' : List Element) (bits : List Bool) (a : BeginsElements c s es bits) (b : BeginsElements c s es' bits) → (a.standing).left ≡ [] → Continues a b
    → (es ≡ es') × (a.told ≡ b.told) × (a.front ≡ b.front)
all_there c s es es' bits a b none g =
    let n = no_more c a.standing g.elements g.values g.spelling b.standing none g.covers in (
      sym (g.joined.0 ∙ ap (λ z. es ++ z) n.0 ∙ append-nil es),
      sym (g.joined.1 ∙ ap (λ z. a.told ++ z) n.1 ∙ append-nil a.told),
      sym (g.joined.2 ∙ ap (λ z. a.front ++ z) n.2 ∙ append-nil a.front),
    )

-- the same of elements, values and bits
pub record GoesOn (c : Coding) (es es' : List Element) (told told' : List ℤ) (bits bits' : List Bool) (t t' : Standing) : Type 0 where
  pub elements : List Element
  pub values : List ℤ
  pub spelling : List Bool
  pub joined : (es' ≡ es ++ elements) × (told' ≡ told ++ values) × (bits' ≡ bits ++ spelling)
  pub covers : Covers c t elements values spelling t'

module _ (c : Coding) (s : Standing) (es es' : List Element) where
  pub units_once : (bits : List Bool) → Decodes c → (a : BeginsElements c s es bits) → (a.standing).left ≡ [] → (b : BeginsElements c s es' bits) → (b.standing).left ≡ []
      → (es ≡ es') × (a.told ≡ b.told) × (a.front ≡ b.front)
  units_once bits law a none b none' =
      ⊎_elim
      (λ (g : Continues a b). all_there c s es es' bits a b none g)
      (λ (g : Continues b a). (let r = all_there c s es' es bits b a none' g in (sym r.0, sym r.1, sym r.2)))
      (elements_once c s es es' bits law a b)

  pub fronts_once : (told told' : List ℤ) (bits bits' x x' : List Bool) (t t' : Standing)
      → NumberFacts → IsCoding c → ((u : UnitLeft) → OneWay (codes_due c u))
      → Covers c s es told bits t → Covers c s es' told' bits' t' → bits ++ x ≡ bits' ++ x'
      → GoesOn c es es' told told' bits bits' t t' ⊎ GoesOn c es' es told' told bits' bits t' t
  fronts_once told told' bits bits' x x' t t' facts ic one k k' same =
      let a : BeginsElements c s es (bits ++ x) = record { told = told; front = bits; rest = x; standing = t; cut = refl; covers = k } in
      let b : BeginsElements c s es' (bits ++ x) = record { told = told'; front = bits'; rest = x'; standing = t'; cut = same; covers = k' } in
      ⊎_elim
      (λ (g : Continues a b). inl (record { elements = g.elements; values = g.values; spelling = g.spelling; joined = g.joined; covers = g.covers }))
      (λ (g : Continues b a). inr (record { elements = g.elements; values = g.values; spelling = g.spelling; joined = g.joined; covers = g.covers }))
      (elements_once c s es es' (bits ++ x) (record { facts = facts; fits = ic; one = one }) a b)
