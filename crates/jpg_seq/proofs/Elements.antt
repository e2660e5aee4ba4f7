-- Values within bounds, as tests.
use Rattle.std.proofs.Common.{pow_mono, ◌≡◌, ℕ, zero, suc, ◌-◌, ◌^◌, ◌<◌, ◌≤◌, Bool, true, false, [], ◌∷◌, refl, ap, ◌∙◌, arith, ℤ, pos, ◌≤ℤ◌, ◌&&◌, inl, inr, int_le, nat_abs, nat_lt, nat_le, ◌||◌, ◌==◌, ◌%◌, ◌/◌, ◌+◌, List, ◌++◌, length, sym, subst, ◌*ℤ◌, ◌+ℤ◌, ⊎_elim, min, append-nil, length-append, ◌*◌, Contains, take, drop, set, length-set, length-take-le, drop-drop, take-append-drop, take-add, drop-set-lt, get_or, append_assoc, length-drop, pow_pos}
use Rattle.std.proofs.lemmas.Int.{ints}
use Rattle.std.proofs.lemmas.Bool.Decides.{nat_tests}
use Rattle.jpg_spec.specs.Numbers.{category, extra_bits, digits}
use Rattle.jpg_spec.specs.Elements.{Coding, are_in_bounds, zeros, Element, difference, value, long_run, ends, UnitLeft, Standing, Covers, Tells, SpellsElement, codes_due, going_on, predictions_after, zeros_in, nonzeros_in, corrected, scaled, new_unit, predicted, symbol_of, bits_after}
use Rattle.jpg_spec.specs.ScanFaults.{is_symbol, BitsShow}
use Rattle.jpg_spec.specs.declared.frame.Bounds.{Bounds}
use Rattle.jpg_spec.proofs.Basics.Facts.{below_digits}
use Rattle.jpg_spec.proofs.Basics.Common.{and_intro, both_false, in_order, from_test, and_false, bounds_join}
use Rattle.jpg_seq.specs.Work.{AreSane, InRange, IsCodingOf, open_unit, unit_in_work, standing_at, codes_next, IsBlockSoFar, MayStand, Env, next_codes, IsPartOf, ReadsComponent, Adds, FrontsAre, NoPartBegins, IsElement, IsShownFault, IsNextElement, IsFirstValue}
use Rattle.jpg_seq.specs.Judge.{IsBadSymbol, IsBadRun}
use Rattle.std.proofs.lemmas.List.{length-replicate, replicate-append-replicate, drop-replicate, take-replicate, take_more}
use Rattle.std.proofs.lemmas.Bool.{cases_lt}
use Rattle.jpg_spec.specs.Codes.{Code}
use Rattle.jpg_spec.proofs.Bits.Values.{going_same}
use Rattle.jpg_spec.proofs.Basics.Small.{one_digit}
use Rattle.jpg_spec.specs.declared.fault.Fault.TheVariants as fault
use Rattle.std.proofs.lemmas.Grind.{take-set_at}
use Rattle.jpg_spec.specs.Bits.{bits_of}
use Rattle.jpg_huff.specs.Walk.{BeginsNoCode}
use Rattle.jpg_spec.specs.Parts.{IsFront, PartOfElement, in_code, in_difference, in_number}
use Rattle.jpg_huff.specs.Laws as huff_laws
use Rattle.jpg_coefs.specs.declared.machine.UnitFault.TheVariants.{NoCode, BadSymbol, BadRun, CoefRange}
use Rattle.jpg_seq.specs.declared.work.NextElement.{NextElement}
use Rattle.jpg_seq.specs.declared.work.NextElement.TheVariants.{Part, Value, Zeros, Bad}
use Rattle.jpg_huff.proofs.Fronts.{due_apart, walk_shows}

pub first_in_bounds : (c : Coding) (b : Bounds) (v : ℤ) → c.bounds ≡ b → InRange b v → are_in_bounds c.bounds true (v ∷ []) ≡ true
first_in_bounds c b v e h =
    let k : int_le b.dc_low v ≡ true = in_order b.dc_low v h.0 in
    let l : int_le v b.dc_high ≡ true = in_order v b.dc_high h.1 in
    ap (λ (x : Bounds). (int_le x.dc_low v && int_le v x.dc_high) && true) e ∙ and_intro (int_le b.dc_low v && int_le v b.dc_high) true (and_intro (int_le b.dc_low v) (int_le v b.dc_high) k l) refl

pub first_out : (c : Coding) (b : Bounds) (v : ℤ) → c.bounds ≡ b → (InRange b v → ⊥) → are_in_bounds c.bounds true (v ∷ []) ≡ false
first_out c b v e h =
    ap (λ (x : Bounds). (int_le x.dc_low v && int_le v x.dc_high) && true) e ∙ both_false _ _ (λ t. h (from_test _ _ t.0, from_test _ _ t.1))

pub zeros_in_bounds : (c : Coding) (b : Bounds) (n : ℕ) → c.bounds ≡ b → AreSane b → are_in_bounds c.bounds false (zeros n) ≡ true
zeros_in_bounds c b zero e sane = refl
zeros_in_bounds c b (suc n) e sane =
    and_intro (int_le (pos 0) c.bounds.ac) (are_in_bounds c.bounds false (zeros n)) (ap (λ (x : Bounds). int_le (pos 0) x.ac) e ∙ in_order (pos 0) b.ac (omega (arith, ints, sane.ac, pow_pos b.ac_cat))) (zeros_in_bounds c b n e sane)

-- a value of an allowed category is in the bounds
pub value_in_bounds : (c : Coding) (b : Bounds) (v : ℤ) → c.bounds ≡ b → AreSane b → category v ≤ b.ac_cat → are_in_bounds c.bounds false (v ∷ []) ≡ true
value_in_bounds c b v e sane few =
    let l = below_digits (nat_abs v) in
    let m : 2 ^ category v ≤ 2 ^ b.ac_cat = pow_mono few in
    let n : nat_abs v ≤ 2 ^ b.ac_cat - 1 = omega (arith, l, m) in
    let o : pos (nat_abs v) ≤ℤ b.ac = omega (arith, ints, n, sane.ac) in
    and_intro (int_le (pos (nat_abs v)) c.bounds.ac) true (ap (λ (x : Bounds). int_le (pos (nat_abs v)) x.ac) e ∙ in_order (pos (nat_abs v)) b.ac o) refl

-- symbols that aren't allowed there
pub not_first_symbol : (c : Coding) (b : Bounds) (symbol : ℕ) → c.bounds ≡ b → b.dc_cat < symbol → is_symbol c true symbol ≡ false
not_first_symbol c b symbol e h = ap (λ (x : Bounds). nat_le symbol x.dc_cat) e ∙ grind (arith, nat_tests)

pub not_symbol : (c : Coding) (most symbol : ℕ) → c.most_category ≡ most → c.most_run ≡ 0 → IsBadSymbol most symbol → is_symbol c false symbol ≡ false
not_symbol c most symbol e z (inl h) =
    let l : nat_le (symbol % 16) c.most_category ≡ false = grind (arith, nat_tests) in
    and_false (nat_le (symbol % 16) c.most_category) _ l
not_symbol c most symbol e z (inr h) =
    let a : nat_lt 0 (symbol % 16) ≡ false = grind (arith, nat_tests, h.0) in
    let r : nat_le (symbol / 16) c.most_run ≡ false = grind (arith, nat_tests, h.0, h.1) in
    let q : (symbol == 240) ≡ false = grind (arith, nat_tests, h.2) in
    and_last (nat_le (symbol % 16) c.most_category) (nat_lt 0 (symbol % 16)) (nat_le (symbol / 16) c.most_run) (symbol == 240) a r q
  where
    and_last : (a b r q : Bool) → b ≡ false → r ≡ false → q ≡ false → (a && (b || r || q)) ≡ false
    and_last true b r q e f g = cc
    and_last false b r q e f g = refl

-- The elements of a sequential unit, whose values were zeros so far.

-- ZEROS

pub zeros_in_zeros : (n : ℕ) → zeros_in (zeros n) ≡ n
zeros_in_zeros zero = refl
zeros_in_zeros (suc n) = omega (arith, zeros_in_zeros n)

nonzeros_in_zeros : (n : ℕ) → nonzeros_in (zeros n) ≡ 0
nonzeros_in_zeros zero = refl
nonzeros_in_zeros (suc n) = omega (arith, nonzeros_in_zeros n)

uncorrected : (al : ℕ) (old : List ℤ) → corrected al old [] ≡ old
uncorrected al [] = refl
uncorrected al (o ∷ old) = ap (λ t. o ∷ t) (uncorrected al old)

zeros_split : (n run : ℕ) → run < n → zeros n ≡ zeros run ++ pos 0 ∷ zeros (n - run - 1)
zeros_split n run h =
    let e : run + suc (n - run - 1) ≡ n = omega arith in
    ap zeros (sym e) ∙ sym (replicate-append-replicate run (suc (n - run - 1)) (pos 0))

unscaled : (al : ℕ) (v : ℤ) → al ≡ 0 → scaled al v ≡ v
unscaled al v e = let one : v *ℤ pos 1 ≡ v = omega (arith, ints) in ap (λ (k : ℕ). scaled k v) e ∙ one

-- WHAT IS LEFT

pub some_left : (i n : ℕ) (others : List UnitLeft) → 1 ≤ n → going_on (open_unit i []) (zeros n) others ≡ open_unit i (zeros n) ∷ others
some_left i zero others h = absurd (omega arith)
some_left i (suc n) others h = refl

pub left_at : (p : ℕ → ℤ) (i : ℕ) (others : List UnitLeft) (values : List ℤ) → length values < 64 → (standing_at p i others values).left ≡ unit_in_work i values ∷ others
left_at p i others [] h = refl
left_at p i others (v ∷ values) h = some_left i (63 - length values) others (omega arith)

-- ONE ELEMENT

module _ (c : Coding) where
  pub one_element : (s t : Standing) (u : UnitLeft) (units left : List UnitLeft) (e : Element) (here : List ℤ) (bits : List Bool) → s.left ≡ u ∷ units
      → SpellsElement (codes_due c u) e bits → Tells c (s.predictions u.component) e u units here left → are_in_bounds c.bounds u.has_dc here ≡ true
      → record { predictions = predictions_after s.predictions u.component e; left = left } ≡ t → Covers c s (e ∷ []) here bits t
  one_element s t u units left e here bits l sp told ok is =
      (u, units, here, left, [], bits, [], l, sym (append-nil here), sym (append-nil bits), sp, told, ok, (refl, refl, sym is))

-- where n values are left, the element encodes these, all of them zero except the last
abbrev pub TellsHere : Coding → ℕ → ℕ → Element → List ℤ → Type 0
TellsHere c i n e here =
    ((q : ℤ) (others : List UnitLeft) → Tells c q e (open_unit i (zeros n)) others here (going_on (open_unit i []) (zeros (n - length here)) others))
    × (are_in_bounds c.bounds false here ≡ true) × ((p : ℕ → ℤ) → predictions_after p i e ≡ p)

pub value_tells : (c : Coding) (b : Bounds) (dc ac : List Code) (i n run : ℕ) (v : ℤ) → IsCodingOf b dc ac c i → AreSane b → 1 ≤ category v → category v ≤ b.ac_cat → run ≤ 15 → run < n
    → TellsHere c i n (value run v []) (zeros run ++ v ∷ [])
value_tells c b dc ac i n run v k sane low high few lt =
    let e : n - length (zeros run ++ v ∷ []) ≡ n - run - 1 = omega (arith, length-append (zeros run) (v ∷ []), length-replicate run (pos 0)) in (
      λ q others. (
        zeros run,
        zeros (n - run - 1),
        refl,
        low,
        omega (arith, high, k.categories),
        few,
        zeros_split n run lt,
        zeros_in_zeros run,
        nonzeros_in_zeros run,
        ap (λ x. x ++ v ∷ []) (sym (uncorrected c.al (zeros run))) ∙ ap (λ w. corrected c.al (zeros run) [] ++ w ∷ []) (sym (unscaled c.al v k.plain)),
        ap (λ m. going_on (open_unit i []) (zeros m) others) e ∙ going_same (open_unit i []) (open_unit i (zeros n)) refl (zeros (n - run - 1)) others,
      ),
      bounds_join c (zeros run) (v ∷ []) (zeros_in_bounds c b run k.bounds sane) (value_in_bounds c b v k.bounds sane high),
      λ p. refl,
    )

abbrev passed : List ℤ
passed = zeros 15 ++ pos 0 ∷ []

pub run_tells : (c : Coding) (b : Bounds) (dc ac : List Code) (i n : ℕ) → IsCodingOf b dc ac c i → AreSane b → TellsHere c i n (long_run []) (zeros (min 16 n))
run_tells c b dc ac i n k sane = (
  λ q others. ⊎_elim
      (λ (h : 15 < n). (let m : min 16 n ≡ 16 = omega arith in
      let e : n - length (zeros (min 16 n)) ≡ n - 15 - 1 = omega (arith, length-replicate (min 16 n) (pos 0)) in (
        passed,
        zeros (n - 15 - 1),
        refl,
        inl (zeros 15, zeros_split n 15 h, zeros_in_zeros 15, refl),
        nonzeros_in_zeros 16,
        ap zeros m ∙ sym (uncorrected c.al passed),
        ap (λ m. going_on (open_unit i []) (zeros m) others) e ∙ going_same (open_unit i []) (open_unit i (zeros n)) refl (zeros (n - 15 - 1)) others,
      )))
      (λ (h : n ≤ 15). (let m : min 16 n ≡ n = omega arith in
      let e : n - length (zeros (min 16 n)) ≡ 0 = omega (arith, length-replicate (min 16 n) (pos 0)) in (
        zeros n,
        [],
        refl,
        inr (refl, omega (arith, zeros_in_zeros n), refl),
        nonzeros_in_zeros n,
        ap zeros m ∙ sym (uncorrected c.al (zeros n)),
        ap (λ m. going_on (open_unit i []) (zeros m) others) e,
      )))
      (cases_lt 15 n),
  zeros_in_bounds c b (min 16 n) k.bounds sane,
  λ p. refl,
)

pub end_tells : (c : Coding) (b : Bounds) (dc ac : List Code) (i n : ℕ) → IsCodingOf b dc ac c i → AreSane b → TellsHere c i n (ends 1 []) (zeros n)
end_tells c b dc ac i n k sane =
    let e : n - length (zeros n) ≡ 0 = omega (arith, length-replicate n (pos 0)) in (
      λ q others. (
        refl,
        omega arith,
        omega (arith, one_digit),
        omega arith,
        ap nonzeros_in (append-nil (zeros n)) ∙ nonzeros_in_zeros n,
        sym (uncorrected c.al (zeros n ++ []) ∙ append-nil (zeros n)),
        ap (λ m. going_on (open_unit i []) (zeros m) others) e,
      ),
      zeros_in_bounds c b n k.bounds sane,
      λ p. refl,
    )

-- the first value
pub first_tells : (c : Coding) (b : Bounds) (dc ac : List Code) (i : ℕ) (others : List UnitLeft) (q d : ℤ) → IsCodingOf b dc ac c i → category d ≤ b.dc_cat
    → Tells c q (difference d) (new_unit i) others ((q +ℤ d) ∷ []) (going_on (new_unit i) (zeros 63) others)
first_tells c b dc ac i others q d k few = (
  pos 0,
  zeros 63,
  refl,
  k.first,
  subst (λ (x : Bounds). category d ≤ x.dc_cat) (sym k.bounds) few,
  refl,
  ap (λ w. w ∷ []) (sym (unscaled c.al (q +ℤ d) k.plain)),
  refl,
)

-- Symbols that no element has, and runs past the end of a block: their faults.

module _ {c : Coding} {b : Bounds} {dc ac : List Code} {i : ℕ} (k : IsCodingOf b dc ac c i) (p : ℕ → ℤ) (others : List UnitLeft) where
  pub bad_shows : (values : List ℤ) (code : List Bool) (symbol : ℕ) → 1 ≤ length values → Contains (codes_next c i values) (code, symbol) → IsBadSymbol b.ac_cat symbol
      → BitsShow c (standing_at p i others values) (unit_in_work i values) others fault.BadSymbol code
  bad_shows [] code symbol some h bad = absurd (omega arith)
  bad_shows (v ∷ values) code symbol some h bad = inr (inl (refl, (symbol, h, not_symbol c b.ac_cat symbol k.categories k.runs bad)))

  pub run_shows : (values : List ℤ) (code : List Bool) (symbol : ℕ) → 1 ≤ length values → Contains (codes_next c i values) (code, symbol) → IsBadRun b.ac_cat (64 - length values) symbol
      → BitsShow c (standing_at p i others values) (unit_in_work i values) others fault.BadRun code
  run_shows [] code symbol some h bad = absurd (omega arith)
  run_shows (v ∷ values) code symbol some h bad =
      let e : symbol ≡ 16 * (symbol / 16) + symbol % 16 = omega arith in
      let P : ℕ → Type 0 = λ n. Contains (codes_next c i (v ∷ values)) (code, n) in
      inr (inr (inl (refl, (symbol / 16, symbol % 16, subst P e h, refl, bad.0, omega (arith, bad.1, k.categories), omega (arith, bad.2, zeros_in_zeros (63 - length values))))))

-- Values that are covered one after another.

pub cover_rest : (values : List ℤ) (at n : ℕ) → at + n ≤ 64 → drop at values ≡ zeros (64 - at) → drop (at + n) values ≡ zeros (64 - (at + n))
cover_rest values at n h e =
    let m : 64 - at - n ≡ 64 - (at + n) = omega arith in
    sym (drop-drop n at values) ∙ ap (drop n) e ∙ drop-replicate n (64 - at) (pos 0) ∙ ap zeros m

pub cover_values : (values : List ℤ) (at n : ℕ) → length values ≡ 64 → at + n ≤ 64 → drop at values ≡ zeros (64 - at) → take (at + n) values ≡ take at values ++ zeros n
cover_values values at n len h e =
    take-add at n values ∙ ap (λ d. take at values ++ take n d) e ∙ ap (λ d. take at values ++ d) (take-replicate n (64 - at) (pos 0) (omega arith))

pub place_values : (values : List ℤ) (at run : ℕ) (v : ℤ) → length values ≡ 64 → at + run < 64 → drop at values ≡ zeros (64 - at)
    → take (at + (run + 1)) (set values (at + run) v) ≡ take at values ++ zeros run ++ v ∷ []
place_values values at run v len h e =
    take-set_at values (at + run) (at + (run + 1)) v (omega arith) (omega arith) ∙ ap (λ d. d ++ v ∷ []) (cover_values _ _ _ len (omega arith) e)

-- the same, where bits wait
pub covered_so_far : (values : List ℤ) (at n : ℕ) (part : List Bool) → IsBlockSoFar values at part → at + n ≤ 64 → IsBlockSoFar values (at + n) part
covered_so_far values at n part k h = record { whole = k.whole; at_most = h; rest = cover_rest values at n h k.rest; few = k.few }

pub placed_so_far : (values new : List ℤ) (at run : ℕ) (v : ℤ) (part : List Bool) → IsBlockSoFar values at part → at + run < 64 → new ≡ set values (at + run) v → IsBlockSoFar new (at + (run + 1)) part
placed_so_far values new at run v part k h e =
    record {
      whole = ap length e ∙ length-set values (at + run) v ∙ k.whole;
      at_most = omega arith;
      rest = ap (drop (at + (run + 1))) e ∙ drop-set-lt (at + (run + 1)) values (at + run) v (omega arith) ∙ cover_rest values at (run + 1) (omega arith) k.rest;
      few = k.few;
    }

-- What comes first in the bits of a unit.

-- STRINGS SPLIT IN TWO WAYS

pub cut : (x y a b : List Bool) → x ++ y ≡ a ++ b → length x ≤ length a → (m : List Bool) × (a ≡ x ++ m) × (y ≡ m ++ b)
cut [] y a b e h = (a, refl, e)
cut (q ∷ x) y [] b e h = absurd (omega arith)
cut (q ∷ x) y (r ∷ a) b e h =
    let t : x ++ y ≡ a ++ b = cc in
    let s : q ≡ r = cc in
    let k = cut x y a b t (omega arith) in
    (k.0, ap (λ z. z ∷ a) (sym s) ∙ ap (λ z. q ∷ z) k.1, k.2)

pub some_of : (y : List Bool) → 1 ≤ length y → (b : Bool) × (m : List Bool) × (y ≡ b ∷ m)
some_of [] h = absurd (omega arith)
some_of (b ∷ m) h = (b, m, refl)

-- PREFIXES

code_front : (e : Env) (values : List ℤ) (code : Code) (x y : List Bool) → Contains (next_codes e values) code → code.0 ≡ x ++ y → 1 ≤ length y → IsPartOf e values x
code_front e values code x y c s h =
    let k = some_of y h in
    inr (inl (code, k.0, k.1, c, s ∙ ap (λ z. x ++ z) k.2))

-- each prefix of a part is one
pub part_front : (e : Env) (values : List ℤ) (x z : List Bool) → IsPartOf e values (x ++ z) → IsPartOf e values x
part_front e values x z (inl n) = inl (nil x z n)
  where
    nil : (x z : List Bool) → x ++ z ≡ [] → x ≡ []
    nil [] z h = refl
    nil (b ∷ x) z h = absurd cc
part_front e values x z (inr (inl b)) = code_front e values b.0 x (z ++ b.1 ∷ b.2) b.3 (b.4 ∙ append_assoc x z (b.1 ∷ b.2)) (omega (arith, length-append z (b.1 ∷ b.2)))
part_front e values x z (inr (inr t)) =
    ⊎_elim
    (λ (a : length x < length t.0). (let k = cut x z t.0 t.1 t.5 (omega arith) in code_front e values (t.0, 16 * t.2 + t.3) x k.0 t.4 k.1 (omega (arith, ap length k.1, length-append x k.0))))
    (λ (a : length t.0 ≤ length x). (let k = cut t.0 t.1 x z (sym t.5) a in inr (inr (t.0, k.0, t.2, t.3, t.4, k.1, omega (arith, t.6, ap length k.2, length-append k.0 z), t.7))))
    (cases_lt (length x) (length t.0))

pub front_fronts : (e : Env) (values : List ℤ) (bits : List Bool) (next : Bool) → IsFront (next_codes e values) bits → FrontsAre e values (bits ++ next ∷ [])
front_fronts e values bits next f x y s h =
    let k = cut x y bits (next ∷ []) (sym s) (omega (arith, ap length s, length-append x y, length-append bits (next ∷ []))) in
    part_front e values x k.0 (subst (IsPartOf e values) k.1 (of f))
  where
    of : IsFront (next_codes e values) bits → IsPartOf e values bits
    of (inl n) = inl n
    of (inr b) = inr (inl b)

-- NO PART BEGINS WITH

-- no code is a prefix of another one
no_longer : (codes : List Code) (code other : Code) (x : List Bool) → huff_laws.AreApart codes → Contains codes code → Contains codes other → other.0 ≡ code.0 ++ x → 1 ≤ length x → ⊥
no_longer codes code other x apart c d s h =
    let e = apart code other x [] c d (sym s ∙ sym (append-nil other.0)) in
    omega (arith, ap (λ (k : Code). length k.0) e, ap length s, length-append code.0 x)

-- a code for the next element
pub record IsNextCode (e : Env) (values : List ℤ) (code : List Bool) (symbol : ℕ) : Type 0 where
  pub apart : huff_laws.AreApart (next_codes e values)
  pub there : Contains (next_codes e values) (code, symbol)
  pub some : 1 ≤ length code

module _ {e : Env} {values : List ℤ} {code : List Bool} {symbol : ℕ} (k : IsNextCode e values code symbol) where
  code_fronts : FrontsAre e values code
  code_fronts x y s h = code_front e values (code, symbol) x y k.there s h

  item_fronts : (ext : List Bool) (run size : ℕ) → symbol ≡ 16 * run + size → MayStand e.bounds values run size → length ext ≡ size → FrontsAre e values (code ++ ext)
  item_fronts ext run size is may l x y s h =
      ⊎_elim
      (λ (a : length x < length code). (let m = cut x y code ext (sym s) (omega arith) in
      code_front e values (code, symbol) x m.0 k.there m.1 (omega (arith, ap length m.1, length-append x m.0))))
      (λ (b : length code ≤ length x). (let m = cut code ext x y s b in
      inr (inr (code, m.0, run, size, subst (λ n. Contains (next_codes e values) (code, n)) is k.there, m.1, omega (arith, ap length m.2, length-append m.0 y), may))))
      (cases_lt (length x) (length code))

  -- no part begins with it, and as many bits as its symbol needs
  code_ends : (ext : List Bool) → ((run size : ℕ) → symbol ≡ 16 * run + size → MayStand e.bounds values run size → size ≤ length ext) → NoPartBegins e values (code ++ ext)
  code_ends ext enough part z (inl n) s = omega (arith, k.some, ap length n, ap length s, length-append (code ++ ext) z, length-append code ext)
  code_ends ext enough part z (inr (inl b)) s =
      no_longer (next_codes e values) (code, symbol) b.0 ((ext ++ z) ++ b.1 ∷ b.2) k.apart k.there b.3
      (b.4 ∙ ap (λ q. q ++ b.1 ∷ b.2) (s ∙ append_assoc code ext z) ∙ append_assoc code (ext ++ z) (b.1 ∷ b.2)) (omega (arith, length-append (ext ++ z) (b.1 ∷ b.2)))
  code_ends ext enough part z (inr (inr t)) s =
      let one = k.apart (t.0, 16 * t.2 + t.3) (code, symbol) t.1 (ext ++ z) t.4 k.there (sym t.5 ∙ s ∙ append_assoc code ext z) in
      let same : 16 * t.2 + t.3 ≡ symbol = ap (λ (q : Code). q.1) one in
      let l : length t.0 ≡ length code = ap (λ (q : Code). length q.0) one in
      let few = enough t.2 t.3 (sym same) t.7 in
      omega (arith, few, l, t.6, ap length t.5, length-append t.0 t.1, ap length s, length-append (code ++ ext) z, length-append code ext)

  bare_ends : ((run size : ℕ) → symbol ≡ 16 * run + size → MayStand e.bounds values run size → size ≤ 0) → NoPartBegins e values code
  bare_ends none part z p s = code_ends [] none part z p (s ∙ ap (λ x. x ++ z) (sym (append-nil code)))

-- with bits that begin no code
pub none_ends : (e : Env) (values : List ℤ) (bits : List Bool) → 1 ≤ length bits → BeginsNoCode (next_codes e values) bits → ((code : Code) (more : List Bool) → Contains (next_codes e values) code → bits ≡ code.0 ++ more → ⊥) → NoPartBegins e values bits
none_ends e values bits some none held part z (inl n) s = omega (arith, ap length n, ap length s, length-append bits z)
none_ends e values bits some none held part z (inr (inl b)) s = none b.0 (z ++ b.1 ∷ b.2) b.3 (b.4 ∙ ap (λ q. q ++ b.1 ∷ b.2) s ∙ append_assoc bits z (b.1 ∷ b.2))
none_ends e values bits some none held part z (inr (inr t)) s =
    ⊎_elim
    (λ (a : length t.0 < length bits). (let k = cut t.0 t.1 bits z (sym t.5 ∙ s) (omega arith) in held (t.0, 16 * t.2 + t.3) k.0 t.4 k.1))
    (λ (b : length bits ≤ length t.0). (let k = cut bits z t.0 t.1 (sym s ∙ t.5) b in none (t.0, 16 * t.2 + t.3) k.0 t.4 k.1))
    (cases_lt (length t.0) (length bits))

-- ELEMENTS

pub codes_same : (e : Env) (c : Coding) (i : ℕ) (p : ℕ → ℤ) (values : List ℤ) → ReadsComponent e c i p → next_codes e values ≡ codes_next c i values
codes_same e c i p [] r = sym r.0.dc_codes
codes_same e c i p (v ∷ values) r = sym r.0.ac_codes

pub first_adds : (e : Env) (d : ℤ) (bits : List Bool) → category d ≤ e.bounds.dc_cat → InRange e.bounds (e.prediction +ℤ d) → SpellsElement e.dc (difference d) bits → Adds e [] bits ((e.prediction +ℤ d) ∷ [])
first_adds e d bits few range sp c i p others r =
    let k = r.0 in (
      difference d ∷ [],
      rw (sym r.1)
          (one_element c (standing_at p i others []) (standing_at p i others ((p i +ℤ d) ∷ [])) (new_unit i) others (going_on (new_unit i) (zeros 63) others) (difference d) ((p i +ℤ d) ∷ []) bits
          refl (rw k.dc_codes sp) (first_tells c e.bounds e.dc e.ac i others (p i) d k few) (first_in_bounds c e.bounds (p i +ℤ d) k.bounds (rw r.1 range)) refl),
    )

pub later_adds : (e : Env) (values : List ℤ) (el : Element) (here : List ℤ) (bits : List Bool) → 1 ≤ length values → length values < 64 → SpellsElement (next_codes e values) el bits
    → ((c : Coding) (i : ℕ) → IsCodingOf e.bounds e.dc e.ac c i → TellsHere c i (64 - length values) el here) → Adds e values bits here
later_adds e [] el here bits some less sp tells c i p others r = absurd (omega arith)
later_adds e (v ∷ vs) el here bits some less sp tells c i p others r =
    let k = r.0 in
    let n = 63 - length vs in
    let m : 64 - length (v ∷ vs) ≡ n = omega arith in
    let w : TellsHere c i n el here = subst (λ x. TellsHere c i x el here) m (tells c i k) in
    let l : n - length here ≡ 63 - length (vs ++ here) = omega (arith, length-append vs here) in
    let is : record { predictions = predictions_after (predicted p i v) i el; left = going_on (open_unit i []) (zeros (n - length here)) others } ≡ standing_at p i others (v ∷ vs ++ here) =
    ap (λ (q : ℕ → ℤ). (let r : Standing = record { predictions = q; left = going_on (open_unit i []) (zeros (n - length here)) others } in r)) (w.2 (predicted p i v))
    ∙ ap (λ (x : ℕ). (let r : Standing = record { predictions = predicted p i v; left = going_on (open_unit i []) (zeros x) others } in r)) l in (
      el ∷ [],
      one_element c (standing_at p i others (v ∷ vs)) (standing_at p i others (v ∷ vs ++ here)) (open_unit i (zeros n)) others (going_on (open_unit i []) (zeros (n - length here)) others) el here bits
          (some_left i n others (omega arith)) (rw k.ac_codes sp) (w.0 (predicted p i v i) others) w.1 is,
    )

pub later_stand : (b : Bounds) (values : List ℤ) (run size : ℕ) → 1 ≤ length values → size ≤ b.ac_cat → run + length values < 64 → run < 16 → MayStand b values run size
later_stand b [] run size some few lt r = absurd (omega arith)
later_stand b (v ∷ values) run size some few lt r = (few, omega arith, omega arith)

from_later : (b : Bounds) (values : List ℤ) (run size : ℕ) → 1 ≤ length values → MayStand b values run size → (size ≤ b.ac_cat) × (run + length values < 64) × (run ≤ 15)
from_later b [] run size some m = absurd (omega arith)
from_later b (v ∷ values) run size some m = (m.0, omega (arith, m.1), m.2)

pub end_symbol : symbol_of (ends 1 []) ≡ 0
unfolding digits
end_symbol = refl

pub end_bits : bits_after (ends 1 []) ≡ []
unfolding digits bits_of
end_bits = refl

-- where it is an AC code
pub record IsAcCode (e : Env) (values : List ℤ) (code : List Bool) (symbol : ℕ) : Type 0 where
  pub sane : AreSane e.bounds
  pub later : 1 ≤ length values
  pub less : length values < 64
  pub is : IsNextCode e values code symbol

pub ac_code : {e : Env} {values : List ℤ} (bits : List Bool) (n symbol : ℕ) → AreSane e.bounds → huff_laws.AreApart e.ac → 1 ≤ length values → length values < 64 → 1 ≤ n → n ≤ length bits → Contains e.ac (take n bits, symbol)
    → IsAcCode e values (take n bits) symbol
ac_code {e} {values} bits n symbol sane apart some less low high c = record { sane = sane; later = some; less = less; is = of values some }
  where
    of : (values : List ℤ) → 1 ≤ length values → IsNextCode e values (take n bits) symbol
    of [] h = absurd (omega arith)
    of (v ∷ values) h = record { apart = apart; there = c; some = omega (arith, low, length-take-le n bits high) }

module _ {e : Env} {values : List ℤ} {code : List Bool} {symbol : ℕ} (k : IsAcCode e values code symbol) where
  -- a value after a run of zeros
  value_element : (ext : List Bool) (run size : ℕ) (v : ℤ) → symbol ≡ 16 * run + size → 1 ≤ size → size ≤ e.bounds.ac_cat → run + length values < 64 → run < 16 → category v ≡ size → extra_bits v ≡ ext → length ext ≡ size
      → IsElement e values (code ++ ext) (zeros run ++ v ∷ [])
  value_element ext run size v is low high room few cat x l =
      let there = subst (λ n. Contains (next_codes e values) (code, n)) (is ∙ ap (λ n. 16 * run + n) (sym cat)) k.is.there in
      record {
        some = omega (arith, length-append (zeros run) (v ∷ []));
        room = omega (arith, length-append (zeros run) (v ∷ []), length-replicate run (pos 0));
        adds = later_adds e values (value run v []) (zeros run ++ v ∷ []) (code ++ ext) k.later k.less (code, there, ap (λ z. code ++ z) (sym x ∙ sym (append-nil (extra_bits v))))
            (λ d i q. value_tells d e.bounds e.dc e.ac i (64 - length values) run v q k.sane (omega (arith, low, cat)) (omega (arith, high, cat)) (omega arith) (omega arith));
        fronts = item_fronts k.is ext run size is (later_stand e.bounds values run size k.later high room few) l;
        ends = code_ends k.is ext (λ r n same m. let f = from_later e.bounds values r n k.later m in omega (arith, is, same, f.0, f.2, k.sane.ac_cat, high, l));
      }

  -- zeros that consist only of their code
  zeros_element : (n : ℕ) (el : Element) → symbol % 16 ≡ 0 → 1 ≤ n → n ≤ 64 - length values → SpellsElement (next_codes e values) el code
      → ((c : Coding) (i : ℕ) → IsCodingOf e.bounds e.dc e.ac c i → TellsHere c i (64 - length values) el (zeros n)) → IsElement e values code (zeros n)
  zeros_element n el bare low high sp tells =
      record {
        some = omega (arith, low, length-replicate n (pos 0));
        room = omega (arith, high, k.less, length-replicate n (pos 0));
        adds = later_adds e values el (zeros n) code k.later k.less sp tells;
        fronts = code_fronts k.is;
        ends = bare_ends k.is (λ r m same may. let f = from_later e.bounds values r m k.later may in omega (arith, same, f.0, k.sane.ac_cat, bare));
      }

  pub run_element : (n : ℕ) → symbol ≡ 240 → n ≡ min 16 (64 - length values) → IsElement e values code (zeros n)
  run_element n is count =
      zeros_element n (long_run []) (omega (arith, is)) (omega (arith, count, k.less)) (omega (arith, count)) (code, subst (λ q. Contains (next_codes e values) (code, q)) is k.is.there, sym (append-nil code))
      (λ d i q. subst (λ m. TellsHere d i (64 - length values) (long_run []) (zeros m)) (sym count) (run_tells d e.bounds e.dc e.ac i (64 - length values) q k.sane))

  pub end_element : (n : ℕ) → symbol ≡ 0 → n ≡ 64 - length values → IsElement e values code (zeros n)
  end_element n is count =
      zeros_element n (ends 1 []) (omega (arith, is)) (omega (arith, count, k.less)) (omega (arith, count))
      (code, subst (λ q. Contains (next_codes e values) (code, q)) (is ∙ sym end_symbol) k.is.there, sym (ap (λ z. code ++ z) end_bits ∙ append-nil code))
      (λ d i q. subst (λ m. TellsHere d i (64 - length values) (ends 1 []) (zeros m)) (sym count) (end_tells d e.bounds e.dc e.ac i (64 - length values) q k.sane))

  pub later_bad : IsBadSymbol e.bounds.ac_cat symbol → IsShownFault e values code BadSymbol
  later_bad bad =
      record {
        shows = λ d i p others r. bad_shows r.0 p others values code symbol k.later (subst (λ t. Contains t (code, symbol)) (codes_same e d i p values r) k.is.there) bad;
        fronts = code_fronts k.is;
        ends = bare_ends k.is (λ r n same m. by bad r n same (from_later e.bounds values r n k.later m).0);
      }
    where
      by : IsBadSymbol e.bounds.ac_cat symbol → (r n : ℕ) → symbol ≡ 16 * r + n → n ≤ e.bounds.ac_cat → n ≤ 0
      by (inl h) r n same few = absurd (omega (arith, h, same, few, k.sane.ac_cat))
      by (inr h) r n same few = omega (arith, h.0, same, few, k.sane.ac_cat)

  pub later_bad_run : IsBadRun e.bounds.ac_cat (64 - length values) symbol → IsShownFault e values code BadRun
  later_bad_run bad =
      record {
        shows = λ d i p others r. run_shows r.0 p others values code symbol k.later (subst (λ t. Contains t (code, symbol)) (codes_same e d i p values r) k.is.there) bad;
        fronts = code_fronts k.is;
        ends = bare_ends k.is (λ r n same m. (let f = from_later e.bounds values r n k.later m in absurd (omega (arith, bad.0, bad.2, same, f.0, f.1, k.sane.ac_cat))));
      }

-- the first value: the bits of its code, and those after it
module _ {e : Env} {code ext : List Bool} {size : ℕ} (d : ℤ) (k : IsNextCode e [] code size) (few : size ≤ e.bounds.dc_cat) (cat : category d ≡ size) (x : extra_bits d ≡ ext) (l : length ext ≡ size) where
  first_spelled : SpellsElement e.dc (difference d) (code ++ ext)
  first_spelled = (code, subst (λ n. Contains e.dc (code, n)) (sym cat) k.there, ap (λ q. code ++ q) (sym x))

  first_fronts : FrontsAre e [] (code ++ ext)
  first_fronts = item_fronts k ext 0 size (omega arith) (refl, few) l

  first_ends : NoPartBegins e [] (code ++ ext)
  first_ends = code_ends k ext (λ r n same m. omega (arith, same, m.0, l))

  first_element : (v : ℤ) → InRange e.bounds (e.prediction +ℤ d) → v ≡ e.prediction +ℤ d → IsElement e [] (code ++ ext) (v ∷ [])
  first_element v range is =
      record {
        some = omega arith;
        room = omega arith;
        adds = subst (λ w. Adds e [] (code ++ ext) (w ∷ [])) (sym is) (first_adds e d (code ++ ext) (omega (arith, few, cat)) range first_spelled);
        fronts = first_fronts;
        ends = first_ends;
      }

  -- where it is out of the bounds
  first_out_shown : (InRange e.bounds (e.prediction +ℤ d) → ⊥) → IsShownFault e [] (code ++ ext) CoefRange
  first_out_shown out =
      record {
        shows = λ c i p others r. inr (inr (inr (inl (
          refl,
          (
            difference d,
            (p i +ℤ d) ∷ [],
            going_on (new_unit i) (zeros 63) others,
            rw r.0.dc_codes first_spelled,
            first_tells c e.bounds e.dc e.ac i others (p i) d r.0 (omega (arith, few, cat)),
            first_out c e.bounds (p i +ℤ d) r.0.bounds (λ t. out (rw r.1 at t)),
          ),
        ))));
        fronts = first_fronts;
        ends = first_ends;
      }

-- FAULTS

pub first_bad : (e : Env) (code : List Bool) (symbol : ℕ) → IsNextCode e [] code symbol → e.bounds.dc_cat < symbol → IsShownFault e [] code BadSymbol
first_bad e code symbol k bad =
    record {
      shows = λ d i p others r. (let P : List Code → Type 0 = λ t. Contains t (code, symbol) in inr (inl (refl, (symbol, subst P (sym r.0.dc_codes) k.there, not_first_symbol d e.bounds symbol r.0.bounds bad))));
      fronts = code_fronts k;
      ends = bare_ends k (λ r n same m. omega (arith, same, m.0, m.1, bad));
    }

-- BITS FROM THE FIRST ONE ON

pub none_taken : (e : Env) (values : List ℤ) (bits : List Bool) (n : ℕ) → huff_laws.AreApart (next_codes e values) → ((code : Code) → Contains (next_codes e values) code → 1 ≤ length code.0) → 1 ≤ n → n ≤ length bits
    → IsFront (next_codes e values) (take (n - 1) bits) → BeginsNoCode (next_codes e values) (take n bits) → IsShownFault e values (take n bits) NoCode
none_taken e values bits n apart some low high f none =
    let m : n - 1 + 1 ≡ n = omega arith in
    let first = take (n - 1) bits in
    let next = get_or bits (n - 1) false in
    let t : take n bits ≡ first ++ next ∷ [] = ap (λ k. take k bits) (sym m) ∙ take_more bits (n - 1) false (omega arith) in
    let bad : BeginsNoCode (next_codes e values) (first ++ next ∷ []) = rw t at none in
    let shown : IsShownFault e values (first ++ next ∷ []) NoCode = record {
      shows = λ c i p others r. (let same = codes_same e c i p values r in inl (refl, walk_shows (codes_next c i values) first next (due_apart c (unit_in_work i values) r.0.sound) (rw same at f) (rw same at bad)));
      fronts = front_fronts e values first next f;
      ends = none_ends e values (first ++ next ∷ []) (omega (arith, length-append first (next ∷ []))) bad (walk_shows (next_codes e values) first next (record { one = apart; some = some }) f bad).2;
    } in
    rw t shown

-- the same after the first value
pub later_none : (e : Env) (values : List ℤ) (bits : List Bool) (n : ℕ) → huff_laws.AreApart e.ac → ((code : Code) → Contains e.ac code → 1 ≤ length code.0) → 1 ≤ length values → 1 ≤ n → n ≤ length bits
    → IsFront e.ac (take (n - 1) bits) → BeginsNoCode e.ac (take n bits) → IsShownFault e values (take n bits) NoCode
later_none e [] bits n apart some later low high f none = absurd (omega arith)
later_none e (v ∷ values) bits n apart some later low high f none = none_taken e (v ∷ values) bits n apart some low high f none

-- a code whose bits after it aren't complete
pub waits : (e : Env) (values : List ℤ) (bits : List Bool) (n run size : ℕ) → n ≤ 16 → n ≤ length bits → Contains (next_codes e values) (take n bits, 16 * run + size) → MayStand e.bounds values run size → size ≤ 15 → length bits < n + size
    → IsPartOf e values bits × (length bits < 32)
waits e values bits n run size few there c may small short =
    (inr (inr (take n bits, drop n bits, run, size, c, sym (take-append-drop n bits), omega (arith, length-drop n bits), may)), omega arith)

pub later_waits : {e : Env} {values : List ℤ} (bits : List Bool) (n run size : ℕ) → IsAcCode e values (take n bits) (16 * run + size) → n ≤ 16 → n ≤ length bits → size ≤ e.bounds.ac_cat → run + length values < 64 → run < 16 → length bits < n + size
    → IsPartOf e values bits × (length bits < 32)
later_waits {e} {values} bits n run size k few there high room low short =
    waits e values bits n run size few there k.is.there (later_stand e.bounds values run size k.later high room low) (omega (arith, high, k.sane.ac_cat)) short

-- the result of the first value
pub first_comes : (e : Env) (bits : List Bool) (n size number : ℕ) (d : ℤ) (next : NextElement) → huff_laws.AreApart e.dc → 1 ≤ n → n + size ≤ length bits → Contains e.dc (take n bits, size) → size ≤ e.bounds.dc_cat → category d ≡ size → extra_bits d ≡ take size (drop n bits)
    → number ≡ n + size → IsFirstValue e d number next → IsNextElement e [] bits next
first_comes e bits n size number d next apart low there c few cat x m first = by next first
  where
    k : IsNextCode e [] (take n bits) size
    k = record { apart = apart; there = c; some = omega (arith, low, there, length-take-le n bits (omega (arith, there))) }

    l : length (take size (drop n bits)) ≡ size
    l = length-take-le size (drop n bits) (omega (arith, there, length-drop n bits))

    joined : (q : ℕ) → q ≡ number → take n bits ++ take size (drop n bits) ≡ take q bits
    joined q e = sym (ap (λ z. take z bits) (e ∙ m) ∙ take-add n size bits)

    by : (next : NextElement) → IsFirstValue e d number next → IsNextElement e [] bits next
    by Part first = absurd first
    by (Zeros count q) first = absurd first
    by (Value run v q) first =
        let G : List Bool → Type 0 = λ b. IsElement e [] b (v ∷ []) in
        (omega (arith, low, first.2, m), omega (arith, there, first.2, m), subst (λ r. IsElement e [] (take q bits) (zeros r ++ v ∷ [])) (sym first.0) (subst G (joined q first.2) (first_element d k few cat x l v first.3 first.1)))
    by (Bad fault q) first =
        let G : List Bool → Type 0 = λ b. IsShownFault e [] b CoefRange in
        (omega (arith, low, first.1, m), omega (arith, there, first.1, m), subst (λ f. IsShownFault e [] (take q bits) f) (sym first.0) (subst G (joined q first.1) (first_out_shown d k few cat x l first.2)))

pub value_taken : {e : Env} {values : List ℤ} (bits : List Bool) (n run size : ℕ) (v : ℤ) → IsAcCode e values (take n bits) (16 * run + size) → n + size ≤ length bits → 1 ≤ size → size ≤ e.bounds.ac_cat → run + length values < 64 → run < 16
    → category v ≡ size → extra_bits v ≡ take size (drop n bits) → IsElement e values (take (n + size) bits) (zeros run ++ v ∷ [])
value_taken {e} {values} bits n run size v k there low high room few cat x =
    let l : length (take size (drop n bits)) ≡ size = length-take-le size (drop n bits) (omega (arith, length-drop n bits)) in
    subst (λ b. IsElement e values b (zeros run ++ v ∷ [])) (sym (take-add n size bits)) (value_element k (take size (drop n bits)) run size v refl low high room few cat x l)

-- A part of an element of a sequential unit, in the terms of all kinds of scan.

module _ {c : Coding} {b : Bounds} {dc ac : List Code} {i : ℕ} (k : IsCodingOf b dc ac c i) (p : ℕ → ℤ) (others : List UnitLeft) where
  code_part : (values : List ℤ) (part : List Bool) → length values < 64 → IsFront (codes_next c i values) part → PartOfElement c (standing_at p i others values) (unit_in_work i values) others [] part
  code_part values part less h =
      in_code (record { left = left_at p i others values less; none = refl; front = h; no_code = λ d r. (let z : true ≡ false = sym r ∙ k.first in cc) })

  number_part : (values : List ℤ) (part code rest : List Bool) (run size : ℕ) → length values < 64 → Contains (codes_next c i values) (code, 16 * run + size) → part ≡ code ++ rest → length rest < size
      → MayStand c.bounds values run size → PartOfElement c (standing_at p i others values) (unit_in_work i values) others [] part
  number_part [] part code rest run size less there is short may =
      let n : 16 * run + size ≡ size = omega (arith, may.0) in
      let D : ℕ → Type 0 = λ s. Contains (c.dc i) (code, s) in
      in_difference size rest (record { code = code; left = left_at p i others [] less; none = refl; has_dc = refl; first = k.first; some = omega arith; coded = subst D n there; split = is; most = may.1 }) short
  number_part (v ∷ values) part code rest run size less there is short may =
      in_number run size rest (record {
        code = code;
        left = left_at p i others (v ∷ values) less;
        none = refl;
        no_dc = refl;
        coded = there;
        split = is;
        some = omega (arith, short);
        most = omega (arith, may.0, k.categories, ap (λ (x : Bounds). x.ac_cat) k.bounds);
        short = may.2;
        room = omega (arith, may.1, zeros_in_zeros (63 - length values));
      }) short

-- where elements are taken at once
pub work_part : (c : Coding) (e : Env) (i : ℕ) (p : ℕ → ℤ) (others : List UnitLeft) (values : List ℤ) (part : List Bool) → ReadsComponent e c i p → length values < 64
    → IsPartOf e values part → PartOfElement c (standing_at p i others values) (unit_in_work i values) others [] part
work_part c e i p others values part r less h = by h
  where
    codes : (P : List Code → Type 0) → P (next_codes e values) → P (codes_next c i values)
    codes P = subst P (codes_same e c i p values r)

    by : IsPartOf e values part → PartOfElement c (standing_at p i others values) (unit_in_work i values) others [] part
    by (inl none) = code_part r.0 p others values part less (inl none)
    by (inr (inl begins)) = code_part r.0 p others values part less (codes (λ t. IsFront t part) (inr begins))
    by (inr (inr (code, rest, run, size, there, is, short, may))) =
        number_part r.0 p others values part code rest run size less (codes (λ t. Contains t (code, 16 * run + size)) there) is short
        (subst (λ (b : Bounds). MayStand b values run size) (sym r.0.bounds) may)
