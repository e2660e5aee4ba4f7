-- The tables that a scan has of its own have codes for all that the scan writes.
use Rattle.std.proofs.Common.{◌≡◌, ◌≢◌, ℕ, zero, suc, ◌+◌, ◌<◌, ◌≤◌, Bool, true, false, cond, not, List, [], ◌∷◌, ◌++◌, length, refl, sym, ap, ◌∙◌, subst, arith, lit<, lit≤, ⊎_elim, ℤ, pos, negsuc, ◌==◌, ◌&&◌}
use Rattle.std.specs.Prelude.{◌||◌, map, flat_map, filter, nat_lt, slice_index_or, slice_index, count_by}
use Rattle.std.proofs.lemmas.Bool.{cases_eq}
use Rattle.std.proofs.lemmas.Bool.Decides.{nat_tests}
use Rattle.std.proofs.lemmas.List.{length-map, get_or-map}
use Rattle.std.proofs.lemmas.List.Sums.{sum_by-cons}
use Rattle.jpg_spec.specs.Lists.{is_empty, is_among, below}
use Rattle.jpg_spec.specs.Segments.{ScanHead, table_codes}
use Rattle.jpg_spec.specs.Elements.{Coding, Element, long_run, is_dc_bit, symbol_of, predicted}
use Rattle.jpg_spec_write.specs.Sending.{Sent, correction, newly_significant, shifted, up_to_last, after_last, corrections_of, value_elements, ended_bands, band_elements}
use Rattle.jpg_spec_write.specs.ScanText.{UnitDue, Owned, unit_elements, is_dc, table_place, symbols_used, symbol_counts, own_table}
use Rattle.jpg_spec_fit.proofs.FittedCodes.{fitted_has, fitted_valid}
use Rattle.jpg_spec_write.specs.declared.huffman.Huffman.{Huffman}
use Rattle.jpg_spec_write.specs.declared.huffman.Huffman.TheVariants.{Plain, Fitted}
use Rattle.jpg_spec.proofs.Basics.Common.{same_of, same_itself, length_below, or_right, filter_less}
use Rattle.jpg_spec_write.specs.Written.{HasCode}
use Rattle.jpg_spec.proofs.Writing.WrittenState.{IsTellable}
use Rattle.jpg_spec.proofs.Basics.Rows.{at_below}
use Rattle.jpg_spec.specs.declared.frame.Bounds.{Bounds}
use Rattle.jpg_spec.proofs.Basics.Small.{few_digits, AreBounds, IsDc}
use Rattle.jpg_spec_write.proofs.Writing.{AllSent}
use Rattle.jpg_spec_write.proofs.Bands.{AllBands, split}
use Rattle.jpg_spec.proofs.Bits.Full.{Has}
use Rattle.jpg_spec.proofs.Bits.FlatTables.{IsValid, flat_has, flat_valid, valid_tellable}
use Rattle.jpg_spec.proofs.Basics.Each.{Each, each_map, each_join, each_flat}
use Rattle.jpg_spec_write.proofs.Shifts.{dc_shifted}
use Rattle.jpg_spec.proofs.Writing.WrittenHead.{at_among}

-- SYMBOLS THAT ARE USED

abbrev pub is_own : ScanHead → ℕ → ℕ → Owned → Bool
is_own head class slot e = not (is_dc_bit e.1) && (table_place head e).0 == class && (table_place head e).1 == slot

abbrev pub symbols_of : (Owned → Bool) → List Owned → List ℕ
symbols_of own all = map (λ (e : Owned). symbol_of e.1) (filter own all)

IsUsed : (Owned → Bool) → List Owned → Owned → Type 0
IsUsed own all e = own e ≡ true → is_among (symbol_of e.1) (symbols_of own all) ≡ true

used_on : (own : Owned → Bool) (x : Owned) (all : List Owned) (e : Owned) → IsUsed own all e → IsUsed own (x ∷ all) e
unfolding IsUsed
used_on own x all e h o = by (own x) (h o)
  where
    by : (b : Bool) → is_among (symbol_of e.1) (map (λ (e : Owned). symbol_of e.1) (filter own all)) ≡ true → is_among (symbol_of e.1) (map (λ (e : Owned). symbol_of e.1) (cond b (x ∷ filter own all) (filter own all))) ≡ true
    by true k = or_right (symbol_of x.1 == symbol_of e.1) (is_among (symbol_of e.1) (map (λ (e : Owned). symbol_of e.1) (filter own all))) k
    by false k = k

used_here : (own : Owned → Bool) (x : Owned) (all : List Owned) → IsUsed own (x ∷ all) x
unfolding IsUsed
used_here own x all o =
    let same : (symbol_of x.1 == symbol_of x.1) ≡ true = grind (arith, nat_tests) in
    ap (λ b. is_among (symbol_of x.1) (map (λ (e : Owned). symbol_of e.1) (cond b (x ∷ filter own all) (filter own all)))) o
    ∙ ap (λ b. b || is_among (symbol_of x.1) (map (λ (e : Owned). symbol_of e.1) (filter own all))) same

used_each : (own : Owned → Bool) (all : List Owned) → Each (IsUsed own all) all
used_each own [] = tt
used_each own (x ∷ all) = (used_here own x all, each_map (IsUsed own all) (IsUsed own (x ∷ all)) all (λ e h. used_on own x all e h) (used_each own all))

among_filter : (test : ℕ → Bool) (s : ℕ) (xs : List ℕ) → is_among s xs ≡ true → test s ≡ true → is_among s (filter test xs) ≡ true
among_filter test s [] h t = cc
among_filter test s (x ∷ xs) h t = by (x == s) refl h (λ k. among_filter test s xs k t)
  where
    keeps : (b : Bool) → is_among s (filter test xs) ≡ true → is_among s (cond b (x ∷ filter test xs) (filter test xs)) ≡ true
    keeps true k = or_right (x == s) (is_among s (filter test xs)) k
    keeps false k = k

    by : (b : Bool) → (x == s) ≡ b → (b || is_among s xs) ≡ true → (is_among s xs ≡ true → is_among s (filter test xs) ≡ true) → is_among s (cond (test x) (x ∷ filter test xs) (filter test xs)) ≡ true
    by true e k later = ap (λ b. is_among s (cond b (x ∷ filter test xs) (filter test xs))) (ap test (same_of x s e) ∙ t) ∙ ap (λ b. b || is_among s (filter test xs)) e
    by false e k later = keeps (test x) (later k)

among_all : (n s : ℕ) → s < n → is_among s (below n) ≡ true
among_all n s h = subst (λ k. is_among k (below n) ≡ true) (at_below n s h) (at_among (below n) s (subst (λ m. s < m) (sym (length_below n)) h))

-- THE TABLES have codes for the symbols that are used

counted_some : (written : List ℕ) (symbol : ℕ) → is_among symbol written ≡ true → 0 < count_by (λ s. s == symbol) written
counted_some [] symbol e = cc
counted_some (s ∷ written) symbol e = subst (λ n. 0 < n) (sym (sum_by-cons (λ t. cond (t == symbol) 1 0) s written)) (by (s == symbol) e (λ k. counted_some written symbol k))
  where
    by : (b : Bool) → (b || is_among symbol written) ≡ true → (is_among symbol written ≡ true → 0 < count_by (λ s. s == symbol) written) → 0 < cond b 1 0 + count_by (λ s. s == symbol) written
    by true h later = omega arith
    by false h later = let r = later h in omega (arith, r)

counts_long : (head : ScanHead) (intervals : List (List Owned)) (class slot : ℕ) → length (symbol_counts head intervals class slot) ≡ 256
unfolding symbol_counts
counts_long head intervals class slot =
    let written = symbols_of (is_own head class slot) (flat_map (λ (es : List Owned). es) intervals) in
    length-map (below 256) (λ symbol. count_by (λ s. s == symbol) written) ∙ length_below 256

counts_some : (head : ScanHead) (intervals : List (List Owned)) (class slot symbol : ℕ) → symbol < 256 → is_among symbol (symbols_of (is_own head class slot) (flat_map (λ (es : List Owned). es) intervals)) ≡ true
    → 0 < slice_index (symbol_counts head intervals class slot) symbol
unfolding symbol_counts
counts_some head intervals class slot symbol l e =
    let written = symbols_of (is_own head class slot) (flat_map (λ (es : List Owned). es) intervals) in
    let count : ℕ → ℕ = λ symbol. count_by (λ s. s == symbol) written in
    let at = get_or-map count (below 256) symbol 0 0 (subst (λ n. symbol < n) (sym (length_below 256)) l) ∙ ap count (at_below 256 symbol l) in
    subst (λ n. 0 < n) (sym at) (counted_some written symbol e)

own_has : (huffman : Huffman) (head : ScanHead) (intervals : List (List Owned)) (class slot symbol : ℕ) → symbol < 256 → is_among symbol (symbols_of (is_own head class slot) (flat_map (λ (es : List Owned). es) intervals)) ≡ true
    → Has (table_codes (own_table huffman head intervals class slot)) symbol
unfolding symbols_used
own_has Plain head intervals class slot symbol l e =
    let written = symbols_of (is_own head class slot) (flat_map (λ (es : List Owned). es) intervals) in
    flat_has (symbols_used head intervals class slot) symbol (among_filter (λ s. is_among s written) symbol (below 256) (among_all 256 symbol l) e)
own_has Fitted head intervals class slot symbol l e =
    let long = counts_long head intervals class slot in
    fitted_has (symbol_counts head intervals class slot) symbol (omega (arith, long)) (counts_some head intervals class slot symbol l e)

-- an element that the scan writes by a table has a code in it
abbrev pub IsCoded : Huffman → ScanHead → List (List Owned) → ℕ → ℕ → Owned → Type 0
IsCoded huffman head intervals class slot e = is_own head class slot e ≡ true → symbol_of e.1 < 256 → Has (table_codes (own_table huffman head intervals class slot)) (symbol_of e.1)

pub all_coded : (huffman : Huffman) (head : ScanHead) (intervals : List (List Owned)) (class slot : ℕ) → Each (λ (es : List Owned). Each (IsCoded huffman head intervals class slot) es) intervals
unfolding IsUsed
all_coded huffman head intervals class slot =
    let own = is_own head class slot in
    let all = flat_map (λ (es : List Owned). es) intervals in
    each_flat (IsCoded huffman head intervals class slot) (λ (es : List Owned). es) intervals
    (each_map (IsUsed own all) (IsCoded huffman head intervals class slot) all (λ e h o l. own_has huffman head intervals class slot (symbol_of e.1) l (h o)) (used_each own all))

pub symbols_few : (head : ScanHead) (intervals : List (List Owned)) (class slot : ℕ) → length (symbols_used head intervals class slot) ≤ 256
unfolding symbols_used
symbols_few head intervals class slot =
    let k = filter_less (λ symbol. is_among symbol (symbols_of (is_own head class slot) (flat_map (λ (es : List Owned). es) intervals))) (below 256) in
    omega (arith, k, length_below 256)

-- EACH ELEMENT of a scan has its code

each_forall : {A : Type 0} (P : ℕ → ℕ → A → Type 0) (xs : List A) → ((c n : ℕ) → Each (P c n) xs) → Each (λ x. (c n : ℕ) → P c n x) xs
each_forall P [] h = tt
each_forall P (x ∷ xs) h = (λ c n. (h c n).0, each_forall P xs (λ c n. (h c n).1))

each_unmap : {A B : Type 0} (P : B → Type 0) (g : A → B) (xs : List A) → Each P (map g xs) → Each (λ x. P (g x)) xs
each_unmap P g [] h = tt
each_unmap P g (x ∷ xs) h = (h.0, each_unmap P g xs h.1)

abbrev pub IsCodedAll : Huffman → ScanHead → List (List Owned) → Owned → Type 0
IsCodedAll huffman head intervals o = (class slot : ℕ) → IsCoded huffman head intervals class slot o

pub elements_coded : {A : Type 0} (huffman : Huffman) (head : ScanHead) (g : A → List Owned) (rows : List A) → Each (λ row. Each (IsCodedAll huffman head (map g rows)) (g row)) rows
elements_coded huffman head g rows =
    let all = map g rows in
    each_unmap (λ (es : List Owned). Each (IsCodedAll huffman head all) es) g rows
    (each_map (λ (es : List Owned). (c m : ℕ) → Each (IsCoded huffman head all c m) es) (λ (es : List Owned). Each (IsCodedAll huffman head all) es) all (λ es h. each_forall (λ c m o. IsCoded huffman head all c m o) es h)
    (each_forall (λ c m (es : List Owned). Each (IsCoded huffman head all c m) es) all (λ c m. all_coded huffman head all c m)))

-- a symbol of a byte that the scan writes by a table
abbrev pub IsByte : Owned → Type 0
IsByte o = (is_dc_bit o.1 ≡ false) × (symbol_of o.1 < 256)

pub own_coded : (huffman : Huffman) (head : ScanHead) (intervals : List (List Owned)) (o : Owned) → IsCodedAll huffman head intervals o → IsByte o → HasCode (own_table huffman head intervals) head o
own_coded huffman head intervals o h b =
    let c = (table_place head o).0 in
    let n = (table_place head o).1 in
    h c n (ap (λ t. not t && c == c && n == n) b.0 ∙ ap (λ t. t && n == n) (same_itself c) ∙ same_itself n) b.1

-- THE TABLES are valid

pub own_valid : (huffman : Huffman) (head : ScanHead) (intervals : List (List Owned)) (class slot : ℕ) → IsValid (own_table huffman head intervals class slot)
own_valid Plain head intervals class slot = flat_valid (symbols_used head intervals class slot) (symbols_few head intervals class slot)
own_valid Fitted head intervals class slot = (let long = counts_long head intervals class slot in fitted_valid (symbol_counts head intervals class slot) (omega (arith, long)))

pub own_tell : (huffman : Huffman) (head : ScanHead) (intervals : List (List Owned)) (c n : ℕ) → c ≤ 1 → n ≤ 1 → IsTellable c n (own_table huffman head intervals c n)
own_tell huffman head intervals c n lc ln = valid_tellable c n (own_table huffman head intervals c n) lc (omega (arith, ln)) (own_valid huffman head intervals c n)

-- THE ELEMENTS of bands are those of AC, with symbols of a byte

pub record IsAc (e : Element) : Type 0 where
  pub ac : is_dc e ≡ false
  pub coded : is_dc_bit e ≡ false
  pub byte : symbol_of e < 256

pub value_ac : (c : Coding) (run : ℕ) (bits : List Bool) (sents : List Sent) (olds news : List ℤ) → c.most_category ≤ 14 → run ≤ 15 → AllSent c sents olds news → Each IsAc (value_elements run bits sents)
value_ac c run bits [] olds news most small h = tt
value_ac c run bits (correction b ∷ sents) olds news most small h = value_ac c run (bits ++ b ∷ []) sents h.1 h.3 most small h.7
value_ac c run bits (newly_significant (pos zero) ∷ sents) olds news most small h =
    ⊎_elim
    (λ (s : run ≡ 15).
    let t : (run == 15) ≡ true = grind (arith, nat_tests) in
    subst (λ b. Each IsAc (cond b (long_run bits ∷ value_elements 0 [] sents) (value_elements (run + 1) bits sents))) (sym t)
    (record { ac = refl; coded = refl; byte = lit< tt }, value_ac c 0 [] sents h.1 h.3 most (lit≤ tt) h.7))
    (λ (s : run ≢ 15).
    let t : (run == 15) ≡ false = grind (arith, nat_tests) in
    subst (λ b. Each IsAc (cond b (long_run bits ∷ value_elements 0 [] sents) (value_elements (run + 1) bits sents))) (sym t)
    (value_ac c (run + 1) bits sents h.1 h.3 most (omega arith) h.7))
    (cases_eq run 15)
value_ac c run bits (newly_significant (pos (suc m)) ∷ sents) olds news most small h =
    let k = ((h.6).2 refl).1 in
    (record { ac = refl; coded = refl; byte = omega (arith, k, most, small) }, value_ac c 0 [] sents h.1 h.3 most (lit≤ tt) h.7)
value_ac c run bits (newly_significant (negsuc m) ∷ sents) olds news most small h =
    let k = ((h.6).2 refl).1 in
    (record { ac = refl; coded = refl; byte = omega (arith, k, most, small) }, value_ac c 0 [] sents h.1 h.3 most (lit≤ tt) h.7)

ended_ac : (n : ℕ) (bits : List Bool) → n ≤ 32767 → Each IsAc (ended_bands n bits)
ended_ac zero bits h = tt
ended_ac (suc n) bits h = let k = few_digits 15 (suc n) (omega (arith, h)) in (record { ac = refl; coded = refl; byte = omega (arith, k) }, tt)

pub bands_ac : (c : Coding) (n : ℕ) (bits : List Bool) (bands : List (List Sent)) (olds news : List (List ℤ)) → c.most_category ≤ 14 → n < 32767 → AllBands c bands olds news → Each IsAc (band_elements 32767 n bits bands)
bands_ac c n bits [] olds news most small h = ended_ac n bits (omega (arith, small))
bands_ac c n bits (band ∷ later) olds news most small h =
    let s = (split c band h.0 h.2 h.7).parts in
    let front = up_to_last band in
    let rest = after_last band in
    let waits = cond (is_empty front) n 0 in
    let waiting = cond (is_empty front) bits [] ++ corrections_of rest in
    each_join IsAc (cond (is_empty front) [] (ended_bands n bits ++ value_elements 0 [] front))
    (cond (is_empty rest) (band_elements 32767 0 [] later) (cond (waits + 1 == 32767 || nat_lt 937 (length waiting)) (ended_bands (waits + 1) waiting ++ band_elements 32767 0 [] later) (band_elements 32767 (waits + 1) waiting later)))
    (first (is_empty front) (value_ac c 0 [] front s.o1 s.n1 most (lit≤ tt) s.front_sent))
    (second (is_empty rest) waits waiting (fewer (is_empty front)) (λ m bs l. bands_ac c m bs later h.1 h.3 most l h.8))
  where
    first : (b : Bool) → Each IsAc (value_elements 0 [] (up_to_last band)) → Each IsAc (cond b [] (ended_bands n bits ++ value_elements 0 [] (up_to_last band)))
    first true k = tt
    first false k = each_join IsAc (ended_bands n bits) (value_elements 0 [] (up_to_last band)) (ended_ac n bits (omega (arith, small))) k

    fewer : (b : Bool) → cond b n 0 < 32767
    fewer true = small
    fewer false = lit< tt

    second : (b : Bool) (w : ℕ) (bs : List Bool) → w < 32767 → ((m : ℕ) (xs : List Bool) → m < 32767 → Each IsAc (band_elements 32767 m xs later))
        → Each IsAc (cond b (band_elements 32767 0 [] later) (cond (w + 1 == 32767 || nat_lt 937 (length bs)) (ended_bands (w + 1) bs ++ band_elements 32767 0 [] later) (band_elements 32767 (w + 1) bs later)))
    second true w bs l go = go 0 [] (lit< tt)
    second false w bs l go = by (w + 1 == 32767) refl
      where
        out : Each IsAc (ended_bands (w + 1) bs ++ band_elements 32767 0 [] later)
        out = each_join IsAc (ended_bands (w + 1) bs) (band_elements 32767 0 [] later) (ended_ac (w + 1) bs (omega (arith, l))) (go 0 [] (lit< tt))

        inner : (d : Bool) → w + 1 ≢ 32767 → Each IsAc (cond d (ended_bands (w + 1) bs ++ band_elements 32767 0 [] later) (band_elements 32767 (w + 1) bs later))
        inner true k = out
        inner false k = go (w + 1) bs (omega (arith, l, k))

        by : (d : Bool) → (w + 1 == 32767) ≡ d → Each IsAc (cond (d || nat_lt 937 (length bs)) (ended_bands (w + 1) bs ++ band_elements 32767 0 [] later) (band_elements 32767 (w + 1) bs later))
        by true e = out
        by false e = inner (nat_lt 937 (length bs)) (λ k. (let z : (w + 1 == 32767) ≡ true = grind (arith, nat_tests, k) in (let f : true ≡ false = sym z ∙ e in cc)))

-- THE ELEMENTS of a DC first pass are differences, with symbols of a byte

pub record IsDifference (e : Element) : Type 0 where
  pub dc : is_dc e ≡ true
  pub coded : is_dc_bit e ≡ false
  pub byte : symbol_of e < 256

pub differences : {b : Bounds} → AreBounds b → (al : ℕ) (p : ℕ → ℤ) (due : List UnitDue) → al ≤ b.al → ((j : ℕ) → IsDc b (p j)) → Each (λ (u : UnitDue). IsDc b (slice_index_or u.1 0 (pos 0))) due → Each (λ (o : Owned). IsDifference o.1) (unit_elements false false al p due)
differences are al p [] l dcs h = tt
differences {b} are al p (u ∷ due) l dcs h =
    let w = shifted al (slice_index_or u.1 0 (pos 0)) in
    let d = dc_shifted are al (slice_index_or u.1 0 (pos 0)) l h.0 in
    let few = are.differences w (p u.0) d (dcs u.0) in
    let most = are.dc_few in
    (record { dc = refl; coded = refl; byte = omega (arith, few, most) }, differences are al (predicted p u.0 w) due l (λ j. on j (j == u.0) d) h.1)
  where
    on : (j : ℕ) (t : Bool) → IsDc b (shifted al (slice_index_or u.1 0 (pos 0))) → IsDc b (cond t (shifted al (slice_index_or u.1 0 (pos 0))) (p j))
    on j true d = d
    on j false d = dcs j
