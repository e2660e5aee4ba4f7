-- Each symbol is written as often as it is marked, and those that a scan uses are those that are marked.
use Rattle.std.proofs.Common.{◌≡◌, ℕ, zero, suc, ◌+◌, ◌*◌, ◌<◌, ◌≤◌, ◌==◌, ◌&&◌, ◌||◌, Bool, true, false, not, cond, List, [], ◌∷◌, ◌++◌, length, take, refl, sym, ap, ◌∙◌, arith}
use Rattle.std.specs.Prelude.{min, nat_lt, map, flat_map, filter, count_by, slice_index}
use Rattle.std.proofs.lemmas.List.{take_more, take_all, map_push}
use Rattle.std.proofs.lemmas.Simd.{map-map}
use Rattle.std.proofs.lemmas.List.Sums.{sum_by-append, sum_by-cons}
use Rattle.std.proofs.lemmas.List.Concat.{flat_map-append}
use Rattle.std.proofs.lemmas.List.Elements.{filter-append}
use Rattle.jpg_spec.specs.Lists.{is_among, below, chunks}
use Rattle.jpg_spec.specs.Geometry.{Frame, is_progressive, units, mcu_units}
use Rattle.jpg_spec.specs.Segments.{ScanHead, head_components}
use Rattle.jpg_spec.specs.Elements.{symbol_of, is_dc_bit}
use Rattle.jpg_spec.specs.Scan.{Blocks}
use Rattle.jpg_spec.specs.declared.frame.Place.{Place}
use Rattle.jpg_spec.proofs.Basics.Common.{lt_yes}
use Rattle.jpg_spec_write.specs.ScanText.{Owned, units_due, table_place, interval_elements, scan_elements, symbols_used, symbol_counts}
use Rattle.jpg_huff.specs.Flat.{symbols_in}
use Rattle.jpg_huff.specs.Counts.{Rows, row, count_of, capped, AreRows, no_rows, no_counts, Mark, is_mark, CountsToo, Notes}
use Rattle.jpg_huff.specs.declared.counts.SymbolCounts.{SymbolCounts}
use Rattle.jpg_huff.proofs.Marks.{no_count, few_symbols}
use Rattle.jpg_coefs.specs.Sinks.{no_last}
use Rattle.jpg_coefs.specs.MarkSinks.{CountsClass, owned_marks, interval_marks, scan_marks}

-- SYMBOLS

abbrev pub is_own : ScanHead → ℕ → ℕ → Owned → Bool
is_own head class slot e = not (is_dc_bit e.1) && (table_place head e).0 == class && (table_place head e).1 == slot

abbrev pub symbols_of : (Owned → Bool) → List Owned → List ℕ
symbols_of own all = map (λ (e : Owned). symbol_of e.1) (filter own all)

filter_same : (n : ℕ) (p q : ℕ → Bool) → ((s : ℕ) → s < n → p s ≡ q s) → filter p (below n) ≡ filter q (below n)
filter_same zero p q same = refl
filter_same (suc n) p q same =
    filter-append p (below n) (n ∷ []) ∙ ap (λ xs. xs ++ filter p (n ∷ [])) (filter_same n p q (λ s h. same s (omega (arith, h))))
    ∙ ap (λ b. (let l : List ℕ = cond b (n ∷ []) [] in filter q (below n) ++ l)) (same n (omega arith)) ∙ sym (filter-append q (below n) (n ∷ []))

listed : (g : ℕ → ℕ) (xs : List ℕ) (n : ℕ) → n ≤ length xs → ((s : ℕ) → s < n → slice_index xs s ≡ g s) → take n xs ≡ map g (below n)
listed g xs zero l same = refl
listed g xs (suc n) l same =
    let e : suc n ≡ n + 1 = omega arith in
    ap (λ k. take k xs) e ∙ take_more xs n 0 (omega (arith, l)) ∙ ap (λ front. front ++ slice_index xs n ∷ []) (listed g xs n (omega (arith, l)) (λ s h. same s (omega (arith, h))))
    ∙ ap (λ k. map g (below n) ++ k ∷ []) (same n (omega arith)) ∙ sym (map_push g (below n) n)

-- a row of the counts of the symbols that are written
record HasCounts (head : ScanHead) (intervals : List (List Owned)) (class slot : ℕ) (counts : List ℕ) : Type 0 where
  long : length counts ≡ 256
  each : (s : ℕ) → s < 256 → slice_index counts s ≡ capped (count_by (λ v. v == s) (symbols_of (is_own head class slot) (flat_map (λ (es : List Owned). es) intervals)))

counts_same : (head : ScanHead) (intervals : List (List Owned)) (class slot : ℕ) (counts : List ℕ) → HasCounts head intervals class slot counts → counts ≡ map capped (symbol_counts head intervals class slot)
unfolding symbol_counts
counts_same head intervals class slot counts has =
    let written = symbols_of (is_own head class slot) (flat_map (λ (es : List Owned). es) intervals) in
    let h = has.long in
    sym (take_all 256 counts (omega (arith, h))) ∙ listed (λ s. capped (count_by (λ v. v == s) written)) counts 256 (omega (arith, h)) has.each
    ∙ sym (map-map capped (λ s. count_by (λ v. v == s) written) (below 256))

capped_some : (n : ℕ) → nat_lt 0 (capped n) ≡ nat_lt 0 n
unfolding capped
capped_some zero = refl
capped_some (suc n) = lt_yes 0 (min (suc n) 4294967295) (omega arith) ∙ sym (lt_yes 0 (suc n) (omega arith))

some_counted : (s : ℕ) (ns : List ℕ) → nat_lt 0 (count_by (λ v. v == s) ns) ≡ is_among s ns
some_counted s [] = refl
some_counted s (n ∷ ns) = ap (nat_lt 0) (sum_by-cons (λ v. cond (v == s) 1 0) n ns) ∙ by (n == s) (some_counted s ns)
  where
    left : ℕ
    left = count_by (λ v. v == s) ns

    by : (b : Bool) → nat_lt 0 left ≡ is_among s ns → nat_lt 0 (cond b 1 0 + left) ≡ (b || is_among s ns)
    by true ih = lt_yes 0 (1 + left) (omega arith)
    by false ih = (let e : 0 + left ≡ left = omega arith in ap (nat_lt 0) e ∙ ih)

used_same : (head : ScanHead) (intervals : List (List Owned)) (class slot : ℕ) (counts : List ℕ) → HasCounts head intervals class slot counts → symbols_in counts ≡ symbols_used head intervals class slot
unfolding symbols_used symbols_in
used_same head intervals class slot counts has =
    let written = symbols_of (is_own head class slot) (flat_map (λ (es : List Owned). es) intervals) in
    filter_same 256 (λ s. nat_lt 0 (slice_index counts s)) (λ s. is_among s written) (λ s h. ap (nat_lt 0) (has.each s h) ∙ capped_some (count_by (λ v. v == s) written) ∙ some_counted s written)

one_marked : (t : Mark → Bool) (m : Mark) → count_by t (m ∷ []) ≡ cond (t m) 1 0
one_marked t m = omega arith

marked_own : (head : ScanHead) (class slot s : ℕ) (owned : List Owned) → count_by (is_mark class slot s) (flat_map (owned_marks head) owned) ≡ count_by (λ v. v == s) (symbols_of (is_own head class slot) owned)
marked_own head class slot s [] = refl
marked_own head class slot s (e ∷ owned) =
    sum_by-append (λ m. cond (is_mark class slot s m) 1 0) (owned_marks head e) (flat_map (owned_marks head) owned) ∙ ap (λ n. n + rest) (unmark (is_dc_bit e.1))
    ∙ by (is_dc_bit e.1) ((table_place head e).0 == class) ((table_place head e).1 == slot) (marked_own head class slot s owned)
  where
    rest : ℕ
    rest = count_by (is_mark class slot s) (flat_map (owned_marks head) owned)

    others : List Owned
    others = filter (is_own head class slot) owned

    symbols : List Owned → List ℕ
    symbols all = map (λ (e : Owned). symbol_of e.1) all

    unmark : (b : Bool) → count_by (is_mark class slot s) (cond b [] ((table_place head e, symbol_of e.1) ∷ [])) ≡ cond b 0 (cond ((table_place head e).0 == class && (table_place head e).1 == slot && symbol_of e.1 == s) 1 0)
    unmark true = refl
    unmark false = one_marked (is_mark class slot s) (table_place head e, symbol_of e.1)

    by : (bit of at : Bool) → rest ≡ count_by (λ v. v == s) (symbols others)
        → cond bit 0 (cond (of && at && symbol_of e.1 == s) 1 0) + rest ≡ count_by (λ v. v == s) (symbols (cond (not bit && of && at) (e ∷ others) others))
    by true of at ih = omega (arith, ih)
    by false false at ih = omega (arith, ih)
    by false true false ih = omega (arith, ih)
    by false true true ih = ap (λ n. cond (symbol_of e.1 == s) 1 0 + n) ih ∙ sym (sum_by-cons (λ v. cond (v == s) 1 0) (symbol_of e.1) (symbols others))

-- ALL INTERVALS

abbrev pub all_chunks : Frame → ScanHead → ℕ → List (List Place)
all_chunks f head interval = chunks (interval * mcu_units f (head_components head)) (units f (head_components head))

abbrev pub owned_in : Bool → ScanHead → Blocks → List (List Place) → List Owned
owned_in is_prog head blocks cs = flat_map (λ (es : List Owned). es) (map (λ places. interval_elements is_prog head (units_due blocks no_last places)) cs)

marks_join : (is_prog : Bool) (head : ScanHead) (blocks : Blocks) (cs : List (List Place)) → flat_map (interval_marks is_prog head) (map (units_due blocks no_last) cs) ≡ flat_map (owned_marks head) (owned_in is_prog head blocks cs)
marks_join is_prog head blocks [] = refl
marks_join is_prog head blocks (c ∷ cs) =
    let here = interval_elements is_prog head (units_due blocks no_last c) in
    ap (λ xs. flat_map (owned_marks head) here ++ xs) (marks_join is_prog head blocks cs) ∙ sym (flat_map-append (owned_marks head) here (owned_in is_prog head blocks cs))

plus_none : (n : ℕ) → 0 + n ≡ n
plus_none n = omega arith

counted_class : (f : Frame) (head : ScanHead) (interval : ℕ) (blocks : Blocks) (class : ℕ) (rows : Rows) → AreRows rows → CountsToo class no_rows (scan_marks f head interval blocks) rows → CountsClass f head interval blocks class rows
unfolding scan_marks
counted_class f head interval blocks class rows are marked = record {
  counts = λ slot h. counts_same head (scan_elements f head interval blocks) class slot (row rows slot) (has slot h);
  used = λ slot h. used_same head (scan_elements f head interval blocks) class slot (row rows slot) (has slot h);
  few = λ slot h. few_symbols (row rows slot) (are.last slot h);
}
  where
    has : (slot : ℕ) → slot < 2 → HasCounts head (scan_elements f head interval blocks) class slot (row rows slot)
    has slot h =
        let is_prog = is_progressive f.process in
        let cs = all_chunks f head interval in
        record {
          long = are.long slot h;
          each = λ s small.
              let marks = flat_map (interval_marks is_prog head) (map (units_due blocks no_last) cs) in
              let none : count_of no_rows slot s ≡ 0 = no_count slot s h small in
              marked slot s h small ∙ ap (λ n. capped (n + count_by (is_mark class slot s) marks)) none ∙ ap capped (plus_none (count_by (is_mark class slot s) marks))
              ∙ ap (λ xs. capped (count_by (is_mark class slot s) xs)) (marks_join is_prog head blocks cs) ∙ ap capped (marked_own head class slot s (owned_in is_prog head blocks cs));
        }

-- the counts of a scan, of both classes
pub counted : (f : Frame) (head : ScanHead) (interval : ℕ) (blocks : Blocks) (counts : SymbolCounts) → Notes no_counts (scan_marks f head interval blocks) counts
    → CountsClass f head interval blocks 0 counts.dc × CountsClass f head interval blocks 1 counts.ac
counted f head interval blocks counts notes = (
  counted_class f head interval blocks 0 counts.dc notes.counts.dc notes.dc,
  counted_class f head interval blocks 1 counts.ac notes.counts.ac notes.ac,
)
