-- Data have at most one fault.
use Rattle.std.proofs.Common.{◌≡◌, ℕ, ◌+◌, ◌*◌, ◌/◌, ◌%◌, ◌^◌, ◌<◌, ◌≤◌, Bool, true, false, ◌==◌, ◌&&◌, List, [], ◌∷◌, ◌++◌, length, refl, sym, ap, ◌∙◌, subst, arith, inl, inr, ⊎_elim, ℤ}
use Rattle.std.specs.Prelude.{◌⊎◌, ◌||◌, nat_le, nat_lt}
use Rattle.std.proofs.lemmas.Bool.Decides.{nat_tests}
use Rattle.jpg_spec.specs.Bits.{bits_of}
use Rattle.jpg_spec.specs.Elements.{Coding, UnitLeft, Standing, Element, Covers, codes_due, at_start, zeros_in}
use Rattle.jpg_spec.specs.ScanFaults.{BeginsNone, BitsShow, DataReveals, is_symbol}
use Rattle.jpg_spec.specs.Sound.{IsSound}
use Rattle.jpg_spec.specs.declared.fault.Fault.{Fault}
use Rattle.jpg_spec.specs.declared.fault.Fault.TheVariants.{NoCode, BadSymbol, BadRun, CoefRange, RunPastEnd}
use Rattle.jpg_spec.proofs.Bits.Once.{IsCoding, Decodes, WantsCode, BeginsSymbol, BeginsElement, Continues, begins_code, element_code, elements_once, head_inj, symbol_once}
use Rattle.jpg_spec.proofs.Bits.Excludes.{at_fault, no_code, no_element_there, right_symbol, bad_run, past_end}
use Rattle.jpg_spec.proofs.Bits.PartStands.{eob_symbol}
use Rattle.jpg_spec.proofs.Bits.Sound.{decodes}
use Rattle.jpg_spec.proofs.Basics.Common.{clash}

-- the symbol of a value after a run is allowed in a band
run_symbol : (c : Coding) (run size : ℕ) → IsCoding c → 1 ≤ size → size ≤ c.most_category → is_symbol c false (16 * run + size) ≡ true
run_symbol c run size ic low high =
    let most = ic.0 in
    let m : (16 * run + size) % 16 ≡ size = omega arith in
    let a : nat_le size c.most_category ≡ true = grind (arith, nat_tests) in
    let b : nat_lt 0 size ≡ true = grind (arith, nat_tests) in
    ap (λ n. nat_le n c.most_category && (nat_lt 0 n || nat_le ((16 * run + size) / 16) c.most_run || (16 * run + size) == 0xf0)) m
    ∙ ap (λ k. k && (nat_lt 0 size || nat_le ((16 * run + size) / 16) c.most_run || (16 * run + size) == 0xf0)) a ∙ ap (λ k. k || nat_le ((16 * run + size) / 16) c.most_run || (16 * run + size) == 0xf0) b

module _ (c : Coding) (s : Standing) (u : UnitLeft) (us : List UnitLeft) (law : Decodes c) (due : WantsCode c u) where
  abbrev p : ℤ
  p = s.predictions u.component

  -- what BitsShow says, of bits and more: each fault but NoCode begins with a code
  abbrev Shown : Fault → List Bool → Type 0
  Shown fault stream =
      ((fault ≡ NoCode) × ((bits : List Bool) × (more : List Bool) × BeginsNone (codes_due c u) bits × (stream ≡ bits ++ more)))
      ⊎ (((fault ≡ BadSymbol) × ((symbol : ℕ) × (more : List Bool) × BeginsSymbol (codes_due c u) symbol more stream × (is_symbol c u.has_dc symbol ≡ false)))
      ⊎ (((fault ≡ BadRun) × ((run : ℕ) × (size : ℕ) × (more : List Bool) × BeginsSymbol (codes_due c u) (16 * run + size) more stream
      × (u.has_dc ≡ false) × (1 ≤ size) × (size ≤ c.most_category) × (zeros_in u.old ≤ run)))
      ⊎ (((fault ≡ CoefRange) × ((e : Element) × BeginsElement c p u us e stream))
      ⊎ ((fault ≡ RunPastEnd) × ((n : ℕ) × (x : ℕ) × (more : List Bool) × BeginsSymbol (codes_due c u) (16 * n) (bits_of n x ++ more) stream
      × (u.has_dc ≡ false) × (n ≤ c.most_run) × (x < 2 ^ n) × (1 + length us < 2 ^ n + x))))))

  shown_at : (fault : Fault) (bits more stream : List Bool) → stream ≡ bits ++ more → BitsShow c s u us fault bits → Shown fault stream
  shown_at fault bits more stream e (inl k) = inl (k.0, (bits, more, k.1, e))
  shown_at fault bits more stream e (inr (inl k)) = let q = k.1 in inr (inl (k.0, (q.0, more, record { code = bits; is_code = q.1; cut = e }, q.2)))
  shown_at fault bits more stream e (inr (inr (inl k))) = let q = k.1 in inr (inr (inl (k.0, (q.0, q.1, more, record { code = bits; is_code = q.2; cut = e }, q.3, q.4, q.5, q.6))))
  shown_at fault bits more stream e (inr (inr (inr (inl k)))) =
      let q = k.1 in inr (inr (inr (inl (k.0, (q.0, record { here = q.1; left = q.2; front = bits; rest = more; cut = e; spelled = q.3; tells = q.4 })))))
  shown_at fault bits more stream e (inr (inr (inr (inr k)))) =
      let q = k.1 in inr (inr (inr (inr (k.0, (q.0, q.1, more, begins_code (codes_due c u) (16 * q.0) (bits_of q.0 q.1) bits more stream (q.2, q.3, q.6) e, q.4, q.5, q.7, q.8)))))

  -- the combinations of two
  same_symbol : {symbol other : ℕ} {x y stream : List Bool} → BeginsSymbol (codes_due c u) symbol x stream → BeginsSymbol (codes_due c u) other y stream → symbol ≡ other
  same_symbol k l = (symbol_once (law.one u) k l).0

  none_code : {symbol : ℕ} {x stream : List Bool} (bits more : List Bool) → BeginsNone (codes_due c u) bits × (stream ≡ bits ++ more) → BeginsSymbol (codes_due c u) symbol x stream → ⊥
  none_code bits more none k = no_code bits more none.0 none.1 k

  symbol_run : (run size : ℕ) {symbol : ℕ} {x y stream : List Bool} → BeginsSymbol (codes_due c u) symbol x stream → is_symbol c u.has_dc symbol ≡ false → BeginsSymbol (codes_due c u) (16 * run + size) y stream → u.has_dc ≡ false → 1 ≤ size
      → size ≤ c.most_category → ⊥
  symbol_run run size {symbol = symbol} k bad l dc low high =
      clash (is_symbol c u.has_dc symbol) (ap (λ n. is_symbol c u.has_dc n) (same_symbol k l) ∙ ap (λ d. is_symbol c d (16 * run + size)) dc ∙ run_symbol c run size law.fits low high) bad

  symbol_element : {symbol : ℕ} {x stream : List Bool} (e : Element) → BeginsSymbol (codes_due c u) symbol x stream → is_symbol c u.has_dc symbol ≡ false → BeginsElement c p u us e stream → ⊥
  symbol_element {symbol = symbol} e k bad a =
      clash (is_symbol c u.has_dc symbol) (ap (λ n. is_symbol c u.has_dc n) (same_symbol k (element_code due a)) ∙ right_symbol c p u us law.fits e a.here a.left due a.tells) bad

  symbol_eob : {symbol n : ℕ} {x y stream : List Bool} → BeginsSymbol (codes_due c u) symbol x stream → is_symbol c u.has_dc symbol ≡ false → BeginsSymbol (codes_due c u) (16 * n) y stream → u.has_dc ≡ false → n ≤ c.most_run → ⊥
  symbol_eob {symbol = symbol} {n = n} k bad l dc most =
      clash (is_symbol c u.has_dc symbol) (ap (λ n. is_symbol c u.has_dc n) (same_symbol k l) ∙ ap (λ d. is_symbol c d (16 * n)) dc ∙ eob_symbol c n most) bad

  run_element : {run size : ℕ} {x stream : List Bool} (e : Element) → BeginsSymbol (codes_due c u) (16 * run + size) x stream → u.has_dc ≡ false → 1 ≤ size → size ≤ c.most_category → zeros_in u.old ≤ run
      → BeginsElement c p u us e stream → ⊥
  run_element {run = run} {size = size} e k dc low high few a = bad_run c p u us law.fits e a.here a.left run size a.tells dc low high few (same_symbol k (element_code due a))

  run_eob : (run size n : ℕ) {x y stream : List Bool} → BeginsSymbol (codes_due c u) (16 * run + size) x stream → 1 ≤ size → size ≤ c.most_category → BeginsSymbol (codes_due c u) (16 * n) y stream → ⊥
  run_eob run size n k low high l = let most = (law.fits).0 in omega (arith, same_symbol k l, low, high, most)

  eob_element : {n x : ℕ} {stream : List Bool} (more : List Bool) (e : Element) → BeginsSymbol (codes_due c u) (16 * n) (bits_of n x ++ more) stream → u.has_dc ≡ false → n ≤ c.most_run → x < 2 ^ n → 1 + length us < 2 ^ n + x
      → BeginsElement c p u us e stream → ⊥
  eob_element {n = n} {x = x} more e k dc most few past a =
      let r = symbol_once (law.one u) k (element_code due a) in
      past_end c p u us law.fits e a.here a.left n x a.rest more law.facts a.tells dc most few past r.0 r.1

  -- THE LAW
  shown_once : (f g : Fault) (stream : List Bool) → Shown f stream → Shown g stream → f ≡ g
  shown_once f g stream (inl k) (inl l) = k.0 ∙ sym l.0
  shown_once f g stream (inl k) (inr (inl l)) = absurd (none_code k.1.0 k.1.1 (k.1.2, k.1.3) l.1.2)
  shown_once f g stream (inl k) (inr (inr (inl l))) = absurd (none_code k.1.0 k.1.1 (k.1.2, k.1.3) l.1.3)
  shown_once f g stream (inl k) (inr (inr (inr (inl l)))) = absurd (none_code k.1.0 k.1.1 (k.1.2, k.1.3) (element_code due l.1.1))
  shown_once f g stream (inl k) (inr (inr (inr (inr l)))) = absurd (none_code k.1.0 k.1.1 (k.1.2, k.1.3) l.1.3)
  shown_once f g stream (inr (inl k)) (inl l) = absurd (none_code l.1.0 l.1.1 (l.1.2, l.1.3) k.1.2)
  shown_once f g stream (inr (inl k)) (inr (inl l)) = k.0 ∙ sym l.0
  shown_once f g stream (inr (inl k)) (inr (inr (inl l))) = absurd (symbol_run l.1.0 l.1.1 k.1.2 k.1.3 l.1.3 l.1.4 l.1.5 l.1.6)
  shown_once f g stream (inr (inl k)) (inr (inr (inr (inl l)))) = absurd (symbol_element l.1.0 k.1.2 k.1.3 l.1.1)
  shown_once f g stream (inr (inl k)) (inr (inr (inr (inr l)))) = absurd (symbol_eob k.1.2 k.1.3 l.1.3 l.1.4 l.1.5)
  shown_once f g stream (inr (inr (inl k))) (inl l) = absurd (none_code l.1.0 l.1.1 (l.1.2, l.1.3) k.1.3)
  shown_once f g stream (inr (inr (inl k))) (inr (inl l)) = absurd (symbol_run k.1.0 k.1.1 l.1.2 l.1.3 k.1.3 k.1.4 k.1.5 k.1.6)
  shown_once f g stream (inr (inr (inl k))) (inr (inr (inl l))) = k.0 ∙ sym l.0
  shown_once f g stream (inr (inr (inl k))) (inr (inr (inr (inl l)))) = absurd (run_element l.1.0 k.1.3 k.1.4 k.1.5 k.1.6 k.1.7 l.1.1)
  shown_once f g stream (inr (inr (inl k))) (inr (inr (inr (inr l)))) = absurd (run_eob k.1.0 k.1.1 l.1.0 k.1.3 k.1.5 k.1.6 l.1.3)
  shown_once f g stream (inr (inr (inr (inl k)))) (inl l) = absurd (none_code l.1.0 l.1.1 (l.1.2, l.1.3) (element_code due k.1.1))
  shown_once f g stream (inr (inr (inr (inl k)))) (inr (inl l)) = absurd (symbol_element k.1.0 l.1.2 l.1.3 k.1.1)
  shown_once f g stream (inr (inr (inr (inl k)))) (inr (inr (inl l))) = absurd (run_element k.1.0 l.1.3 l.1.4 l.1.5 l.1.6 l.1.7 k.1.1)
  shown_once f g stream (inr (inr (inr (inl k)))) (inr (inr (inr (inl l)))) = k.0 ∙ sym l.0
  shown_once f g stream (inr (inr (inr (inl k)))) (inr (inr (inr (inr l)))) = absurd (eob_element l.1.2 k.1.0 l.1.3 l.1.4 l.1.5 l.1.6 l.1.7 k.1.1)
  shown_once f g stream (inr (inr (inr (inr k)))) (inl l) = absurd (none_code l.1.0 l.1.1 (l.1.2, l.1.3) k.1.3)
  shown_once f g stream (inr (inr (inr (inr k)))) (inr (inl l)) = absurd (symbol_eob l.1.2 l.1.3 k.1.3 k.1.4 k.1.5)
  shown_once f g stream (inr (inr (inr (inr k)))) (inr (inr (inl l))) = absurd (run_eob l.1.0 l.1.1 k.1.0 l.1.3 l.1.5 l.1.6 k.1.3)
  shown_once f g stream (inr (inr (inr (inr k)))) (inr (inr (inr (inl l)))) = absurd (eob_element k.1.2 l.1.0 k.1.3 k.1.4 k.1.5 k.1.6 k.1.7 l.1.1)
  shown_once f g stream (inr (inr (inr (inr k)))) (inr (inr (inr (inr l)))) = k.0 ∙ sym l.0

-- THE LAW: data have at most one fault
pub data_show_once : (c : Coding) (units : List UnitLeft) (f g : Fault) (bits : List Bool) → IsSound c → DataReveals c units f bits → DataReveals c units g bits → f ≡ g
data_show_once c units f g bits sound d w =
    ⊎_elim
    (λ (z : Continues (at_fault d) (at_fault w)). longer f g d w z.elements z.values z.spelling z.covers z.behind)
    (λ (z : Continues (at_fault w) (at_fault d)). sym (longer g f w d z.elements z.values z.spelling z.covers z.behind))
    (elements_once c (at_start units) d.elements w.elements bits (decodes c sound) (at_fault d) (at_fault w))
  where
    longer : (f g : Fault) (d : DataReveals c units f bits) (w : DataReveals c units g bits) (es : List Element) (values : List ℤ) (spelling : List Bool) → Covers c d.standing es values spelling w.standing
        → d.here ++ d.rest ≡ spelling ++ (w.here ++ w.rest) → f ≡ g
    longer f g d w [] values spelling k cut =
        let h = head_inj w.unit d.unit w.others d.others (sym w.left ∙ ap (λ (t : Standing). t.left) k.2 ∙ d.left) in
        let b1 : BitsShow c d.standing w.unit w.others g w.here = subst (λ t. BitsShow c t w.unit w.others g w.here) k.2 w.shows in
        let b2 : BitsShow c d.standing d.unit w.others g w.here = subst (λ v. BitsShow c d.standing v w.others g w.here) h.0 b1 in
        let b : BitsShow c d.standing d.unit d.others g w.here = subst (λ vs. BitsShow c d.standing d.unit vs g w.here) h.1 b2 in
        let same : d.here ++ d.rest ≡ w.here ++ w.rest = cut ∙ ap (λ l. l ++ (w.here ++ w.rest)) k.1 in
        let at = λ (f : Fault). shown_at c d.standing d.unit d.others (decodes c sound) d.codes f in
        shown_once c d.standing d.unit d.others (decodes c sound) d.codes f g (d.here ++ d.rest) (at f d.here d.rest (d.here ++ d.rest) refl d.shows) (at g w.here w.rest (d.here ++ d.rest) same b)
    longer f g d w (e ∷ es) values spelling k cut =
        absurd (no_element_there d d.rest e es (decodes c sound) (record { told = values; front = spelling; rest = w.here ++ w.rest; standing = w.standing; cut = cut; covers = k }))
