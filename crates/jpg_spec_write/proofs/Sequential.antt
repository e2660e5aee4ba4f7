-- What a sequential scan writes is in the grammar.
use Rattle.std.proofs.Common.{◌≡◌, ℕ, suc, ◌+◌, ◌≤◌, Bool, true, false, cond, List, [], ◌∷◌, ◌++◌, length, refl, sym, ap, ◌∙◌, subst, arith, ℤ, pos, lit<, ◌==◌, ◌&&◌, lit≤}
use Rattle.std.specs.Prelude.{map, flat_map, int_le, nat_abs, ◌+ℤ◌, ◌-ℤ◌, nat_lt}
use Rattle.std.proofs.lemmas.List.{append_assoc, append-nil}
use Rattle.jpg_spec.specs.Numbers.{category, digits, extra_bits}
use Rattle.jpg_spec.specs.Geometry.{Frame, bounds, is_progressive}
use Rattle.jpg_spec.specs.Elements.{Coding, UnitLeft, Standing, Element, difference, dc_bit, ends, Covers, SpellsElement, is_zero, zeros, scaled, are_in_bounds, predicted, symbol_of, bits_after, new_unit}
use Rattle.jpg_spec_write.specs.Sending.{Sent, sent, shifted, divided, value_elements, band_elements}
use Rattle.jpg_spec.specs.Scan.{scan_coding, part_of}
use Rattle.jpg_spec_write.specs.ScanText.{UnitDue, Owned, unit_elements, element_bits, is_dc}
use Rattle.jpg_spec.specs.Segments.{HuffmanTable, ScanHead, table_codes}
use Rattle.jpg_spec.specs.Codes.{code_of}
use Rattle.jpg_spec_write.specs.Written.{IsWritable, HasCode, all_in_force, sequential_bits, SpellsDue}
use Rattle.jpg_spec.specs.declared.frame.Bounds.{Bounds}
use Rattle.jpg_spec_write.proofs.Shifts.{shifted_none, divided_none}
use Rattle.jpg_spec.proofs.Basics.Small.{scaled_none, some_category, IsDc, AreBounds, are_bounds, dc_small, back, one_digit}
use Rattle.jpg_spec_write.proofs.Writing.{AllSent, AllHave}
use Rattle.jpg_spec_write.proofs.Bands.{AllBands, at, body, split, bands_cover}
use Rattle.jpg_spec.proofs.Bits.Values.{covers_then}
use Rattle.jpg_spec_write.proofs.Behind.{first_found, IsChosen, covers_chosen, covers_after}
use Rattle.jpg_spec.proofs.Bits.Full.{Has}
use Rattle.jpg_spec_write.proofs.ProgressiveCodes.{IsAc, value_ac}
use Rattle.jpg_spec.proofs.Basics.Each.{Each, each_join, each_map}
use Rattle.jpg_spec.proofs.Basics.Common.{both, and_intro}

-- a sequential coding
pub record IsSequential (c : Coding) : Type 0 where
  pub al : c.al ≡ 0
  pub refines : c.refines ≡ false
  pub bounds : AreBounds c.bounds
  pub most : c.most_category ≡ c.bounds.ac_cat
  pub run : c.most_run ≡ 0

-- the element's symbol has a code of its component
abbrev pub IsIn : Coding → Owned → Type 0
IsIn c o = Has (cond (is_dc o.1) (c.dc o.0) (c.ac o.0)) (symbol_of o.1)

-- THE BAND of a unit

abbrev pub band_sent : List ℤ → List Element
band_sent vs = band_elements 1 0 [] (map (sent false 0) vs ∷ [])

some_sent : (vs : List ℤ) → length (map (sent false 0) vs) ≡ length vs
some_sent [] = refl
some_sent (v ∷ vs) = ap suc (some_sent vs)

-- a unit of component i whose DC was decoded
abbrev pub after_dc : ℕ → UnitLeft
after_dc i = record { component = i; has_dc = false; old = zeros 63 }

-- the elements are those of AC, with symbols of a byte
ended_ac : (bits : List Bool) → IsAc (ends 1 bits)
unfolding digits
ended_ac bits = record { ac = refl; coded = refl; byte = lit< tt }

body_ac : (c : Coding) (front rest : List Sent) (olds news : List ℤ) → c.most_category ≤ 14 → AllSent c front olds news → Each IsAc (body 1 0 [] front rest [])
unfolding body
body_ac c [] [] olds news most h = tt
body_ac c [] (r ∷ rest) olds news most h = (ended_ac _, tt)
body_ac c (f ∷ front) [] olds news most h = each_join IsAc (value_elements 0 [] (f ∷ front)) [] (value_ac c 0 [] (f ∷ front) olds news most (lit≤ tt) h) tt
body_ac c (f ∷ front) (r ∷ rest) olds news most h =
    each_join IsAc (value_elements 0 [] (f ∷ front)) (ends 1 _ ∷ []) (value_ac c 0 [] (f ∷ front) olds news most (lit≤ tt) h) (ended_ac _, tt)

band_ac : (c : Coding) (band : List Sent) (olds news : List ℤ) → c.most_category ≤ 14 → AllSent c band olds news → Each IsAc (band_elements 1 0 [] (band ∷ []))
unfolding body
band_ac c band olds news most h =
    let s = (split c band olds news h).parts in
    body_ac c _ _ s.o1 s.n1 most s.front_sent

module _ (c : Coding) (s : IsSequential c) where
  sends_category : (v : ℤ) → int_le (pos (nat_abs v)) c.bounds.ac ≡ true → is_zero (divided 0 v) ≡ false → (1 ≤ category (divided 0 v)) × (category (divided 0 v) ≤ c.most_category)
  sends_category v e z =
      let nz : is_zero v ≡ false = ap is_zero (sym (divided_none v)) ∙ z in
      let few = s.bounds in
      let k : (1 ≤ category v) × (category v ≤ c.most_category) = (some_category v nz, subst (λ n. category v ≤ n) (sym s.most) (few.values v e)) in
      subst (λ w. (1 ≤ category w) × (category w ≤ c.most_category)) (sym (divided_none v)) k

  pub all_sent : (vs : List ℤ) → are_in_bounds c.bounds false vs ≡ true → AllSent c (map (sent false 0) vs) (zeros (length vs)) vs
  all_sent [] ok = (refl, refl)
  all_sent (v ∷ vs) ok =
      let b = both (int_le (pos (nat_abs v)) c.bounds.ac) (are_in_bounds c.bounds false vs) ok in (
        pos 0,
        zeros (length vs),
        v,
        vs,
        refl,
        refl,
        (refl, sym (ap (scaled c.al) (divided_none v) ∙ ap (λ a. scaled a v) s.al ∙ scaled_none v), sends_category v b.0),
        all_sent vs b.1,
      )

  pub sent_ac : (vs : List ℤ) → are_in_bounds c.bounds false vs ≡ true → Each IsAc (band_sent vs)
  sent_ac vs ok =
      let few = s.bounds.ac_few in
      band_ac c (map (sent false 0) vs) (zeros (length vs)) vs (omega (arith, s.most, few)) (all_sent vs ok)

  band_spelled : (p : ℕ → ℤ) (i : ℕ) (vs : List ℤ) (chosen : Element → List Bool) (us : List UnitLeft) → length vs ≡ 63 → are_in_bounds c.bounds false vs ≡ true → AllHave (c.ac i) (band_sent vs) → IsChosen (c.ac i) chosen
      → Covers c (at p (after_dc i ∷ us)) (band_sent vs) vs (flat_map chosen (band_sent vs)) (at p us)
  band_spelled p i vs chosen us l ok have is =
      let band = map (sent false 0) vs in
      let all : AllSent c band (zeros 63) vs = subst (λ n. AllSent c band (zeros n) vs) l (all_sent vs ok) in
      let bands : AllBands c (band ∷ []) (zeros 63 ∷ []) (vs ∷ []) = (zeros 63, [], vs, [], refl, refl, omega (arith, some_sent vs, l), all, (refl, refl)) in
      let fits : (n : ℕ) → 1 ≤ n → n ≤ 1 → digits n ≤ c.most_run + 1 = λ n a b. (let e : 1 ≡ n = omega arith in subst (λ m. digits m ≤ c.most_run + 1) e (omega (arith, one_digit))) in
      let k = bands_cover c p i 1 fits (band ∷ []) (zeros 63 ∷ []) (vs ∷ []) [] [] bands (lit< tt) refl have (ap (are_in_bounds c.bounds false) (append-nil vs) ∙ ok) in
      let covers : Covers c (at p (after_dc i ∷ [])) (band_sent vs) vs k.0 (at p []) = subst (λ x. Covers c (at p (after_dc i ∷ [])) (band_sent vs) x k.0 (at p [])) (append-nil vs) k.1 in
      covers_after c (at p (after_dc i ∷ [])) (at p []) us (band_sent vs) vs (flat_map chosen (band_sent vs))
      (covers_chosen c i chosen (at p (after_dc i ∷ [])) (at p []) (band_sent vs) vs k.0 is (refl, refl, tt) covers)

-- ELEMENTS with their components

abbrev pub owned : ℕ → List Element → List Owned
owned i es = map (λ e. (let o : Owned = (i, e) in o)) es

owned_elements : (i : ℕ) (es : List Element) (rest : List Owned) → map (λ (o : Owned). o.1) (owned i es ++ rest) ≡ es ++ map (λ (o : Owned). o.1) rest
owned_elements i [] rest = refl
owned_elements i (e ∷ es) rest = ap (λ t. e ∷ t) (owned_elements i es rest)

owned_bits : (chosen : Owned → List Bool) (i : ℕ) (es : List Element) (rest : List Owned)
    → flat_map chosen (owned i es ++ rest) ≡ flat_map (λ e. chosen (i, e)) es ++ flat_map chosen rest
owned_bits chosen i [] rest = refl
owned_bits chosen i (e ∷ es) rest = ap (λ t. chosen (i, e) ++ t) (owned_bits chosen i es rest) ∙ sym (append_assoc (chosen (i, e)) (flat_map (λ e. chosen (i, e)) es) (flat_map chosen rest))

-- those of AC have codes of AC
owned_have : (c : Coding) (i : ℕ) (es : List Element) (rest : List Owned) → Each IsAc es → Each (IsIn c) (owned i es ++ rest) → AllHave (c.ac i) es × Each (IsIn c) rest
owned_have c i [] rest h k = (tt, k)
owned_have c i (e ∷ es) rest h k =
    let r = owned_have c i es rest h.1 k.1 in
    ((subst (λ b. Has (cond b (c.dc i) (c.ac i)) (symbol_of e)) (h.0).ac k.0, r.0), r.1)

-- the first code of each symbol, and the bits after it
pub record AreChosen (c : Coding) (chosen : Owned → List Bool) : Type 0 where
  pub first : (i : ℕ) (d : ℤ) → chosen (i, difference d) ≡ code_of (c.dc i) (category d) ++ extra_bits d
  pub others : (i : ℕ) → IsChosen (c.ac i) (λ e. chosen (i, e))

pub dc_predicted : (b : Bounds) (p : ℕ → ℤ) (i : ℕ) (w : ℤ) → ((j : ℕ) → IsDc b (p j)) → IsDc b w → (j : ℕ) → IsDc b (predicted p i w j)
dc_predicted b p i w all h j = by (j == i)
  where
    by : (t : Bool) → IsDc b (cond t w (p j))
    by true = h
    by false = all j

-- the DC and the band of a block that may be written
pub record IsSplit (b : Bounds) (v : ℤ) (vs : List ℤ) : Type 0 where
  pub ok : (int_le b.dc_low v && int_le v b.dc_high) ≡ true
  pub band : are_in_bounds b false vs ≡ true
  pub dc : IsDc b (shifted 0 v)

pub is_split : (b : Bounds) (v : ℤ) (vs : List ℤ) → are_in_bounds b true (v ∷ vs) ≡ true → IsSplit b v vs
is_split b v vs ok =
    let k = both (int_le b.dc_low v && int_le v b.dc_high) (are_in_bounds b false vs) ok in
    let m = both (int_le b.dc_low v) (int_le v b.dc_high) k.0 in
    record { ok = k.0; band = k.1; dc = subst (λ w. IsDc b w) (sym (shifted_none v)) (dc_small b v m.0 m.1) }

module _ (c : Coding) (s : IsSequential c) (chosen : Owned → List Bool) (is : AreChosen c chosen) where
  -- a unit: its difference, and then its band
  unit_first : (p : ℕ → ℤ) (i : ℕ) (v : ℤ) (vs : List ℤ) (us : List UnitLeft) (es : List Element) (told : List ℤ) (bits : List Bool) (t : Standing)
      → IsDc c.bounds (p i) → IsSplit c.bounds v vs → Has (c.dc i) (category (shifted 0 v -ℤ p i))
      → Covers c (at (predicted p i (shifted 0 v)) (after_dc i ∷ us)) es told bits t
      → Covers c (at p (new_unit i ∷ us)) (difference (shifted 0 v -ℤ p i) ∷ es) (v ∷ told) (chosen (i, difference (shifted 0 v -ℤ p i)) ++ bits) t
  unit_first p i v vs us es told bits t dcp ok has later =
      let d = shifted 0 v -ℤ p i in
      let all = s.bounds in
      let cat : category d ≤ c.bounds.dc_cat = all.differences (shifted 0 v) (p i) ok.dc dcp in
      let spells : SpellsElement (c.dc i) (difference d) (chosen (i, difference d)) = (code_of (c.dc i) (category d), first_found (c.dc i) (category d) has.0 has.1, is.first i d) in
      let there : p i +ℤ d ≡ shifted 0 v = back (shifted 0 v) (p i) in
      let same : v ≡ scaled c.al (p i +ℤ d) = sym (ap (scaled c.al) (there ∙ shifted_none v) ∙ ap (λ a. scaled a v) s.al ∙ scaled_none v) in
      let next : predicted p i (shifted 0 v) ≡ predicted p i (p i +ℤ d) = ap (λ w. (let q : ℕ → ℤ = predicted p i w in q)) (sym there) in
      let inside : are_in_bounds c.bounds true (v ∷ []) ≡ true = and_intro (int_le c.bounds.dc_low v && int_le v c.bounds.dc_high) true ok.ok refl in (
        new_unit i,
        us,
        v ∷ [],
        after_dc i ∷ us,
        told,
        chosen (i, difference d),
        bits,
        refl,
        refl,
        refl,
        spells,
        (pos 0, zeros 63, refl, s.refines, cat, refl, ap (λ w. w ∷ []) same, refl),
        inside,
        subst (λ q. Covers c (at q (after_dc i ∷ us)) es told bits t) next later,
      )

  -- THE LAW, from any predictions within the bounds
  units_spelled : (p : ℕ → ℤ) (due : List UnitDue) → ((j : ℕ) → IsDc c.bounds (p j)) → Each (IsWritable c) due → Each (IsIn c) (unit_elements true false 0 p due)
      → (t : Standing) × Covers c (at p (map (λ u. new_unit u.0) due)) (map (λ (o : Owned). o.1) (unit_elements true false 0 p due)) (flat_map (λ u. u.1) due) (flat_map chosen (unit_elements true false 0 p due)) t × (t.left ≡ [])
  units_spelled p [] dcs ok have = (at p [], (refl, refl, refl), refl)
  units_spelled p ((i, []) ∷ later) dcs ok have =
      let h = ok.0 in
      let f : ⊥ = omega (arith, h.0) in
      absurd f
  units_spelled p ((i, v ∷ vs) ∷ later) dcs ok have =
      let h = ok.0 in
      let b = is_split c.bounds v vs h.1 in
      let q = predicted p i (shifted 0 v) in
      let us = map (λ (u : UnitDue). new_unit u.0) later in
      let more_owned = unit_elements true false 0 q later in
      let more = map (λ (o : Owned). o.1) more_owned in
      let parts = owned_have c i (band_sent vs) more_owned (sent_ac c s vs b.band) have.1 in
      let ih = units_spelled q later (dc_predicted c.bounds p i (shifted 0 v) dcs b.dc) ok.1 parts.1 in
      let band = band_spelled c s q i vs (λ e. chosen (i, e)) us (omega (arith, h.0)) b.band parts.0 (is.others i) in
      let joined = covers_then c (at q (after_dc i ∷ us)) (at q us) ih.0 (band_sent vs) more vs (flat_map (λ (u : UnitDue). u.1) later) (flat_map (λ e. chosen (i, e)) (band_sent vs)) (flat_map chosen more_owned) band ih.1 in
      let first = unit_first p i v vs us (band_sent vs ++ more) (vs ++ flat_map (λ (u : UnitDue). u.1) later) (flat_map (λ e. chosen (i, e)) (band_sent vs) ++ flat_map chosen more_owned) ih.0 (dcs i) b have.0 joined in
      let d = difference (shifted 0 v -ℤ p i) in (
        ih.0,
        subst (λ x. Covers c (at p (new_unit i ∷ us)) x (v ∷ (vs ++ flat_map (λ (u : UnitDue). u.1) later)) (flat_map chosen ((i, d) ∷ (owned i (band_sent vs) ++ more_owned))) ih.0)
            (ap (λ t. d ∷ t) (sym (owned_elements i (band_sent vs) more_owned)))
            (subst (λ x. Covers c (at p (new_unit i ∷ us)) (d ∷ (band_sent vs ++ more)) (v ∷ (vs ++ flat_map (λ (u : UnitDue). u.1) later)) x ih.0) (ap (λ t. chosen (i, d) ++ t) (sym (owned_bits chosen i (band_sent vs) more_owned))) first),
        ih.2,
      )

-- ALL ELEMENTS: differences of the bounds' categories, and those of bands
module _ (c : Coding) (s : IsSequential c) (P : Owned → Type 0) where
  pub each_element : ((i : ℕ) (d : ℤ) → category d ≤ c.bounds.dc_cat → P (i, difference d)) → ((i : ℕ) (vs : List ℤ) → are_in_bounds c.bounds false vs ≡ true → Each (λ e. P (i, e)) (band_sent vs))
      → (p : ℕ → ℤ) (due : List UnitDue) → ((j : ℕ) → IsDc c.bounds (p j)) → Each (IsWritable c) due → Each P (unit_elements true false 0 p due)
  each_element dc ac p [] dcs ok = tt
  each_element dc ac p ((i, []) ∷ later) dcs ok =
      let h = ok.0 in
      let f : ⊥ = omega (arith, h.0) in
      absurd f
  each_element dc ac p ((i, v ∷ vs) ∷ later) dcs ok =
      let h = ok.0 in
      let all = s.bounds in
      let b = is_split c.bounds v vs h.1 in
      let q = predicted p i (shifted 0 v) in
      let ih = each_element dc ac q later (dc_predicted c.bounds p i (shifted 0 v) dcs b.dc) ok.1 in
      (dc i (shifted 0 v -ℤ p i) (all.differences (shifted 0 v) (p i) b.dc (dcs i)), each_join P (owned i (band_sent vs)) (unit_elements true false 0 q later) (each_owned i (band_sent vs) (ac i vs b.band)) ih)
    where
      each_owned : (i : ℕ) (es : List Element) → Each (λ e. P (i, e)) es → Each P (owned i es)
      each_owned i [] h = tt
      each_owned i (e ∷ es) h = (h.0, each_owned i es h.1)

-- THE CODING of a scan

pub sequential_coding : (f : Frame) (tables : ℕ → ℕ → HuffmanTable) (head : ScanHead) → is_progressive f.process ≡ false → IsSequential (scan_coding f (all_in_force tables) head)
sequential_coding f tables head e = record {
  al = ap (λ b. cond b head.al 0) e;
  refines = ap (λ b. b && nat_lt 0 head.ah) e;
  bounds = are_bounds f.precision;
  most = ap (λ b. cond (b && nat_lt 0 head.ah) 1 (bounds f).ac_cat) e;
  run = ap (λ b. cond b 14 0) e;
}

written_bits : (f : Frame) (tables : ℕ → ℕ → HuffmanTable) (head : ScanHead) → AreChosen (scan_coding f (all_in_force tables) head) (element_bits tables head)
unfolding element_bits
written_bits f tables head = record {
  first = λ i d. refl;
  others = λ i e h. other i e h;
}
  where
    other : (i : ℕ) (e : Element) → is_dc e ≡ false → element_bits tables head (i, e) ≡ code_of ((scan_coding f (all_in_force tables) head).ac i) (symbol_of e) ++ bits_after e
    other i (difference d) h = cc
    other i (dc_bit b) h = cc
    other i e h = refl

-- a code in the table of its class and slot is one of its component
coded_in : (f : Frame) (tables : ℕ → ℕ → HuffmanTable) (head : ScanHead) (o : Owned) → HasCode tables head o → IsIn (scan_coding f (all_in_force tables) head) o
coded_in f tables head o h = by (is_dc o.1) h
  where
    by : (b : Bool) → (let place : ℕ × ℕ = cond b (0, (part_of head o.0).dc) (1, (part_of head o.0).ac) in Has (table_codes (tables place.0 place.1)) (symbol_of o.1))
        → Has (cond b (table_codes (tables 0 (part_of head o.0).dc)) (table_codes (tables 1 (part_of head o.0).ac))) (symbol_of o.1)
    by true h = h
    by false h = h

pub written_spells : (f : Frame) (tables : ℕ → ℕ → HuffmanTable) (head : ScanHead) (due : List UnitDue) → is_progressive f.process ≡ false → Each (IsWritable (scan_coding f (all_in_force tables) head)) due
    → Each (HasCode tables head) (unit_elements true false 0 (λ i. pos 0) due) → SpellsDue (scan_coding f (all_in_force tables) head) due (sequential_bits tables head due)
written_spells f tables head due e ok coded =
    let c = scan_coding f (all_in_force tables) head in
    let s = sequential_coding f tables head e in
    let zero = (are_bounds f.precision).zero_dc in
    let elements = unit_elements true false 0 (λ i. pos 0) due in
    let r = units_spelled c s (element_bits tables head) (written_bits f tables head) (λ i. pos 0) due (λ j. zero) ok (each_map (HasCode tables head) (IsIn c) elements (λ o h. coded_in f tables head o h) coded) in
    (map (λ (o : Owned). o.1) elements, r.0, r.1, r.2)
