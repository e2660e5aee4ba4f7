-- Bits that have a fault begin no element that is allowed there.
use Rattle.std.proofs.Common.{◌≡◌, ℕ, ◌+◌, ◌-◌, ◌*◌, ◌/◌, ◌%◌, ◌^◌, ◌<◌, ◌≤◌, Bool, true, false, List, [], ◌∷◌, ◌++◌, length, refl, sym, ap, ◌∙◌, subst, arith, ℤ, ⊎_elim, inl, inr, ◌==◌, ◌&&◌}
use Rattle.std.specs.Prelude.{◌⊎◌, nat_lt, nat_le, ◌||◌}
use Rattle.std.proofs.lemmas.List.{append_assoc}
use Rattle.std.proofs.lemmas.Bool.Decides.{nat_tests}
use Rattle.jpg_spec.specs.Bits.{bits_of}
use Rattle.jpg_spec.specs.Codes.{Code}
use Rattle.jpg_spec.specs.Numbers.{category, digits}
use Rattle.jpg_spec.specs.declared.fault.Fault.{Fault}
use Rattle.jpg_spec.specs.declared.fault.Fault.TheVariants.{CoefRange}
use Rattle.jpg_spec.specs.Elements.{Covers, SpellsUnits, at_start, Coding, UnitLeft, Standing, Element, difference, dc_bit, value, long_run, ends, Tells, codes_due, zeros_in, symbol_of, bits_after, are_in_bounds}
use Rattle.jpg_spec.specs.ScanFaults.{BitsShow, DataReveals, BeginsNone, is_symbol}
use Rattle.jpg_spec.proofs.Bits.Once.{NumberFacts, IsCoding, Decodes, WantsCode, BeginsSymbol, BeginsElement, BeginsElements, Continues, begins_code, element_code, elements_once, first_element, same_element, symbol_once, no_units, zeros-append}
use Rattle.jpg_spec.proofs.Basics.Common.{append_inj, clash}

-- one of two prefixes of a list is a prefix of the other
pub fronts : (a b x y : List Bool) → a ++ x ≡ b ++ y → ((more : List Bool) × (b ≡ a ++ more)) ⊎ ((more : List Bool) × (a ≡ b ++ more))
fronts [] b x y e = inl (b, refl)
fronts (a ∷ as') [] x y e = inr (a ∷ as', refl)
fronts (a ∷ as') (b ∷ bs) x y e =
    let h : a ≡ b = cc in
    let t : as' ++ x ≡ bs ++ y = cc in
    ⊎_elim (λ (r : (more : List Bool) × (bs ≡ as' ++ more)). inl (r.0, ap (λ k. b ∷ k) r.1 ∙ ap (λ k. k ∷ as' ++ r.0) (sym h)))
    (λ (r : (more : List Bool) × (as' ≡ bs ++ more)). inr (r.0, ap (λ k. a ∷ k) r.1 ∙ ap (λ k. k ∷ bs ++ r.0) h))
    (fronts as' bs x y t)

-- bits that no code begins with, and that begin no code
pub no_code : {codes : List Code} {symbol : ℕ} {rest stream : List Bool} (bits more : List Bool) → BeginsNone codes bits → stream ≡ bits ++ more → BeginsSymbol codes symbol rest stream → ⊥
no_code {symbol = symbol} {rest = rest} bits more none e s =
    ⊎_elim (λ (r : (more : List Bool) × (s.code ≡ bits ++ more)). none.1 (s.code, symbol) r.0 s.is_code r.1)
    (λ (r : (more : List Bool) × (bits ≡ s.code ++ more)). none.2 (s.code, symbol) r.0 s.is_code r.1)
    (fronts bits s.code more rest (sym e ∙ s.cut))

pub or_true : (b : Bool) → (b || true) ≡ true
or_true true = refl
or_true false = refl

module _ (c : Coding) (p : ℤ) (u : UnitLeft) (us : List UnitLeft) (fits : IsCoding c) where
  -- the symbol of an element that is allowed there is a symbol there
  pub right_symbol : (e : Element) (here : List ℤ) (left : List UnitLeft) → WantsCode c u → Tells c p e u us here left → is_symbol c u.has_dc (symbol_of e) ≡ true
  right_symbol (difference d) here left due t = ap (λ b. is_symbol c b (category d)) t.2 ∙ (let h = t.4 in grind (arith, nat_tests))
  right_symbol (dc_bit b) here left due t = absurd (due (t.2, t.3))
  right_symbol (value run v bits) here left due t =
      let low = t.3 in
      let high = t.4 in
      let most = fits.0 in
      let m : (16 * run + category v) % 16 ≡ category v = omega arith in
      let a : nat_le (category v) c.most_category ≡ true = grind (arith, nat_tests) in
      let b : nat_lt 0 (category v) ≡ true = grind (arith, nat_tests) in
      ap (λ b. is_symbol c b (16 * run + category v)) t.2 ∙ ap (λ n. nat_le n c.most_category && (nat_lt 0 n || nat_le ((16 * run + category v) / 16) c.most_run || (16 * run + category v) == 0xf0)) m
      ∙ ap (λ k. k && (nat_lt 0 (category v) || nat_le ((16 * run + category v) / 16) c.most_run || (16 * run + category v) == 0xf0)) a ∙ ap (λ k. k || nat_le ((16 * run + category v) / 16) c.most_run || (16 * run + category v) == 0xf0) b
  right_symbol (long_run bits) here left due t =
      ap (λ b. is_symbol c b 0xf0) t.2 ∙ (let z : nat_le 0 c.most_category ≡ true = grind (arith, nat_tests) in ap (λ k. k && (nat_le 15 c.most_run || true)) z ∙ or_true (nat_le 15 c.most_run))
  right_symbol (ends bands bits) here left due t =
      ap (λ b. is_symbol c b (16 * (digits bands - 1))) t.0 ∙ (let n = digits bands - 1 in
      let high = t.2 in
      let m : (16 * n) % 16 ≡ 0 = omega arith in
      let q : (16 * n) / 16 ≡ n = omega arith in
      let z : nat_le 0 c.most_category ≡ true = grind (arith, nat_tests) in
      let a : nat_le n c.most_run ≡ true = grind (arith, nat_tests) in
      ap (λ k. nat_le k c.most_category && (nat_lt 0 k || nat_le (16 * n / 16) c.most_run || 16 * n == 0xf0)) m
      ∙ ap (λ k. k && (nat_le (16 * n / 16) c.most_run || 16 * n == 0xf0)) z
      ∙ ap (λ k. nat_le k c.most_run || 16 * n == 0xf0) q ∙ ap (λ k. k || 16 * n == 0xf0) a)

  pub bad_run : (e : Element) (here : List ℤ) (left : List UnitLeft) (run size : ℕ) → Tells c p e u us here left → u.has_dc ≡ false → 1 ≤ size → size ≤ c.most_category → zeros_in u.old ≤ run → 16 * run + size ≡ symbol_of e → ⊥
  bad_run (difference d) here left run size t dc low high few same = clash u.has_dc t.2 dc
  bad_run (dc_bit b) here left run size t dc low high few same = clash u.has_dc t.2 dc
  bad_run (value r v bits) here left run size t dc low high few same =
      let l = t.3 in
      let h = t.4 in
      let most = fits.0 in
      let er : run ≡ r = omega arith in
      let z : zeros_in u.old ≡ zeros_in t.0 + 1 + zeros_in t.1 = ap zeros_in t.6 ∙ zeros-append t.0 t.1 in
      let n : zeros_in t.0 ≡ r = t.7 in
      omega (arith, z, n, few, er)
  bad_run (long_run bits) here left run size t dc low high few same = let most = fits.0 in omega arith
  bad_run (ends bands bits) here left run size t dc low high few same = let most = fits.0 in omega arith

  pub past_end : (e : Element) (here : List ℤ) (left : List UnitLeft) (n m : ℕ) (y z : List Bool) → NumberFacts → Tells c p e u us here left → u.has_dc ≡ false → n ≤ c.most_run → m < 2 ^ n → 1 + length us < 2 ^ n + m
      → 16 * n ≡ symbol_of e → bits_of n m ++ z ≡ bits_after e ++ y → ⊥
  past_end (difference d) here left n m y z facts t dc most few past same e = clash u.has_dc t.2 dc
  past_end (dc_bit b) here left n m y z facts t dc most few past same e = clash u.has_dc t.2 dc
  past_end (value r v bits) here left n m y z facts t dc most few past same e =
      let l = t.3 in
      let h = t.4 in
      let cap = fits.0 in
      omega arith
  past_end (long_run bits) here left n m y z facts t dc most few past same e = let cap = fits.1 in omega (arith, cap, most, same)
  past_end (ends bands bits) here left n m y z facts t dc most few past same e =
      let k = digits bands - 1 in
      let en : n ≡ k = omega arith in
      let i = append_inj (bits_of n m) (bits_of k bands) z (bits ++ y) (facts.bits n m ∙ en ∙ sym (facts.bits k bands)) (e ∙ append_assoc (bits_of k bands) bits y) in
      let few' : m < 2 ^ k = subst (λ j. m < 2 ^ j) en few in
      let past' : 1 + length us < 2 ^ k + m = subst (λ j. 1 + length us < 2 ^ j + m) en past in
      let is = facts.run bands m t.1 few' (sym (ap (λ j. bits_of j m) en) ∙ i.0) in
      let all = t.3 in
      omega (arith, is, all, past')

-- THE LAW
module _ (c : Coding) (s : Standing) (u : UnitLeft) (us : List UnitLeft) (law : Decodes c) (due : WantsCode c u) where
  pub shows_excludes : (fault : Fault) (e : Element) (bits more : List Bool) → BitsShow c s u us fault bits
      → (a : BeginsElement c (s.predictions u.component) u us e (bits ++ more)) → (fault ≡ CoefRange → are_in_bounds c.bounds u.has_dc a.here ≡ true) → ⊥
  shows_excludes fault e bits more (inl k) a ok = no_code bits more k.1 refl (element_code due a)
  shows_excludes fault e bits more (inr (inl k)) a ok =
      let word : BeginsSymbol (codes_due c u) k.1.0 more (bits ++ more) = record { code = bits; is_code = k.1.1; cut = refl } in
      let same = (symbol_once (law.one u) word (element_code due a)).0 in
      clash (is_symbol c u.has_dc k.1.0) (ap (λ n. is_symbol c u.has_dc n) same ∙ right_symbol c (s.predictions u.component) u us law.fits e a.here a.left due a.tells) k.1.2
  shows_excludes fault e bits more (inr (inr (inl k))) a ok =
      let q = k.1 in
      let word : BeginsSymbol (codes_due c u) (16 * q.0 + q.1) more (bits ++ more) = record { code = bits; is_code = q.2; cut = refl } in
      bad_run c (s.predictions u.component) u us law.fits e a.here a.left q.0 q.1 a.tells q.3 q.4 q.5 q.6 (symbol_once (law.one u) word (element_code due a)).0
  shows_excludes fault e bits more (inr (inr (inr (inl k)))) a ok =
      let q = k.1 in
      let b : BeginsElement c (s.predictions u.component) u us q.0 (bits ++ more) = record { here = q.1; left = q.2; front = bits; rest = more; cut = refl; spelled = q.3; tells = q.4 } in
      let same = same_element c (s.predictions u.component) u us law q.0 e (bits ++ more) b a in
      clash (are_in_bounds c.bounds u.has_dc a.here) (ok k.0) (ap (λ v. are_in_bounds c.bounds u.has_dc v) (sym same.here) ∙ q.5)
  shows_excludes fault e bits more (inr (inr (inr (inr k)))) a ok =
      let q = k.1 in
      let word = begins_code (codes_due c u) (16 * q.0) (bits_of q.0 q.1) bits more (bits ++ more) (q.2, q.3, q.6) refl in
      let r = symbol_once (law.one u) word (element_code due a) in
      past_end c (s.predictions u.component) u us law.fits e a.here a.left q.0 q.1 a.rest more law.facts a.tells q.4 q.5 q.7 q.8 r.0 r.1

-- the elements before the fault
abbrev pub at_fault : {c : Coding} {units : List UnitLeft} {fault : Fault} {bits : List Bool} (d : DataReveals c units fault bits) → BeginsElements c (at_start units) d.elements bits
at_fault d = record { told = d.told; front = d.front; rest = d.here ++ d.rest; standing = d.standing; cut = d.cut ∙ append_assoc d.front d.here d.rest; covers = d.covers }

-- no complete element follows them
pub no_element_there : {c : Coding} {units : List UnitLeft} {fault : Fault} {bits : List Bool} (d : DataReveals c units fault bits) (more : List Bool) (e : Element) (es : List Element) → Decodes c
    → BeginsElements c d.standing (e ∷ es) (d.here ++ more) → ⊥
no_element_there {c = c} {fault = fault} d more e es law a =
    let f = first_element d.unit d.others d.left a in
    shows_excludes c d.standing d.unit d.others law d.codes fault e d.here more d.shows f.element (λ z. f.in_bounds)

-- THE LAW: data that have a fault have no complete interval, and no more than their complete elements
pub data_excludes : (c : Coding) (units : List UnitLeft) (fault : Fault) (bits cits more more' : List Bool) (told : List ℤ) → Decodes c → DataReveals c units fault bits → SpellsUnits c units told cits
    → bits ++ more ≡ cits ++ more' → ⊥
data_excludes c units fault bits cits more more' told law d w same =
    by (elements_once c (at_start units) d.elements w.0 (bits ++ more) law a b)
  where
    a : BeginsElements c (at_start units) d.elements (bits ++ more)
    a = record {
      told = d.told;
      front = d.front;
      rest = d.here ++ (d.rest ++ more);
      standing = d.standing;
      cut = ap (λ f. f ++ more) d.cut ∙ append_assoc (d.front ++ d.here) d.rest more ∙ append_assoc d.front d.here (d.rest ++ more);
      covers = d.covers;
    }

    b : BeginsElements c (at_start units) w.0 (bits ++ more)
    b = record { told = told; front = cits; rest = more'; standing = w.1; cut = same; covers = w.2 }

    longer : (es : List Element) (values : List ℤ) (spelling : List Bool) → Covers c d.standing es values spelling w.1 → d.here ++ (d.rest ++ more) ≡ spelling ++ more' → ⊥
    longer [] values spelling k cut = no_units d.unit d.others (sym d.left ∙ ap (λ (z : Standing). z.left) (sym k.2) ∙ w.3)
    longer (e ∷ es) values spelling k cut = no_element_there d (d.rest ++ more) e es law (record { told = values; front = spelling; rest = more'; standing = w.1; cut = cut; covers = k })

    shorter : (es : List Element) (values : List ℤ) (spelling : List Bool) → Covers c w.1 es values spelling d.standing → ⊥
    shorter [] values spelling k = no_units d.unit d.others (sym d.left ∙ ap (λ (z : Standing). z.left) k.2 ∙ w.3)
    shorter (e ∷ es) values spelling k = no_units k.0 k.1 (sym k.7 ∙ w.3)

    by : Continues a b ⊎ Continues b a → ⊥
    by (inl g) = longer g.elements g.values g.spelling g.covers g.behind
    by (inr g) = shorter g.elements g.values g.spelling g.covers
