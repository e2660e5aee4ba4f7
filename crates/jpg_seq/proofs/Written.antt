-- The elements of a band, value by value with a run of zeros that waits.
use Rattle.std.proofs.Common.{◌≡◌, ◌≢◌, ℕ, zero, suc, ◌+◌, ◌-◌, ◌*◌, ◌/◌, ◌%◌, ◌<◌, ◌≤◌, Bool, true, false, cond, List, [], ◌∷◌, ◌++◌, refl, sym, ap, ◌∙◌, arith, ℤ, pos, negsuc, ⊎_elim, lit≤, ◌==◌, map, flat_map, replicate, if◌then◌else◌, append_assoc, append-nil, subst, ◌&&◌, slice_index_or, int_le, nat_abs, ◌^◌, length, drop, drop-drop, get_or, add-one, length-drop, get_or-drop, drop-cons, ◌||◌, ◌-ℤ◌, All, Ok, w64, bit_and}
use Rattle.std.proofs.lemmas.Bool.{cases_eq, cases_lt}
use Rattle.std.proofs.lemmas.Bool.Decides.{nat_tests}
use Rattle.jpg_spec.specs.Bits.{bits_of}
use Rattle.jpg_spec.specs.Codes.{Code, code_of}
use Rattle.jpg_spec.specs.Lists.{any_of, is_among}
use Rattle.jpg_spec.specs.Numbers.{digits, category, extra_bits}
use Rattle.jpg_spec.specs.Elements.{Element, value, long_run, ends, is_zero, are_in_bounds, zeros, difference, predicted}
use Rattle.jpg_spec_write.specs.Sending.{Sent, newly_significant, sent, is_new, up_to_last, after_last, corrections_of, value_elements, band_elements, shifted}
use Rattle.jpg_spec_write.proofs.Shifts.{divided_none, shifted_none}
use Rattle.jpg_seq.specs.ScanWritten.{spelled, run_elements, run_told, band_told, run_bits, IsShort, AreFew, band_bits, block_bits, dc_bits, tables_in, unit_bits, CanKeep, KeepsScan, WrittenScan, kept_kind, kept_scan, kept_state, scan_places, written_data, seq_units, ac_mark, block_marks, due_marks}
use Rattle.jpg_spec_write.proofs.Bands.{up_true, up_false, after_true, after_false}
use Rattle.std.proofs.lemmas.List.{get_or-replicate, drop_all}
use Rattle.jpg_spec.specs.Geometry.{Frame, bounds, units, is_progressive}
use Rattle.jpg_spec.specs.declared.frame.Bounds.{Bounds}
use Rattle.jpg_spec.proofs.Basics.Small.{AreBounds, are_bounds}
use Rattle.jpg_spec.proofs.Basics.Common.{both}
use Rattle.std.proofs.lemmas.List.Concat.{flat_map-append}
use Rattle.std.specs.Int.{bit_at, trailing_zeros}
use lib.Bits.{and_self}
use Rattle.std.proofs.lemmas.Nat.{and_block}
use Rattle.std.proofs.lemmas.Simd.{trailing_mask_l, leading_from_mask_l}
use Rattle.jpg_base.specs.Marks.{is_some, marks}
use Rattle.jpg_base.proofs.Marked.{marks_are, zeros_first}
use Rattle.std.proofs.lemmas.List.Elements.{All-head, All-tail}
use Rattle.jpg_spec.specs.Segments.{ScanHead, table_codes, head_components}
use Rattle.jpg_spec.specs.Scan.{Blocks, block_at, part_of}
use Rattle.jpg_spec_write.specs.ScanText.{UnitDue, Owned, last_dc, unit_elements, element_bits}
use Rattle.jpg_spec_write.specs.WrittenFile.{HasBlocksIn}
use Rattle.jpg_spec.specs.declared.frame.Place.{Place}
use Rattle.jpg_spec.specs.declared.frame.ScanPart.{ScanPart}
use Rattle.jpg_huff.specs.declared.set.TableSet.{TableSet}
use Rattle.jpg_seq.specs.Reader.{HasTables, IsSeqScan}
use Rattle.jpg_coefs.specs.Sinks.{IsScanPlace, block_due, Begins, at, intervals_due}
use Rattle.jpg_coefs.proofs.Places.{found_part, part_here, part_later, is_real_place, some_places}
use Rattle.jpg_spec.specs.FrameHeader.{IsFrame}
use Rattle.jpg_base.specs.declared.names.Name.{Name}
use Rattle.jpg_huff.specs.BitOut.{Sends, nothing_waits}
use Rattle.jpg_huff.specs.Waiting.{Waiting}
use Rattle.jpg_huff.proofs.Together.{sends_then}
use Rattle.jpg_coefs.specs.BitSinks.{interval_bits, text_of}
use Rattle.jpg_coefs.specs.ScanUnits.{CanGive, GoesOnOrEnds, IsUngiven, new_scan}
use Rattle.jpg_coefs.proofs.BitSinks.{all_units, begins, written_text}
use Rattle.jpg_coefs.proofs.ScanGiven.{begins_given}
use Rattle.jpg_seq.specs.declared.kept.KeptDesk.{KeptDesk}
use Rattle.jpg_seq.specs.declared.kept_scan.KeptScan.{KeptScan}
use Rattle.jpg_huff.specs.Counts.{Mark, Notes, no_counts}
use Rattle.jpg_huff.specs.declared.counts.SymbolCounts.{SymbolCounts}
use Rattle.jpg_coefs.specs.MarkSinks.{CountsClass, HasSlots, interval_marks, owned_marks, scan_marks}
use Rattle.jpg_coefs.proofs.SymbolCounts.{counted}
use Rattle.jpg_coefs.proofs.MarkSinks.{slots_of}

-- zeros are left
abbrev pub end_elements : ℕ → List Element
end_elements zero = []
end_elements (suc run) = ends 1 [] ∷ []

-- the elements of these values, where a run of zeros waits
abbrev pub plain_elements : List ℤ → ℕ → List Element
plain_elements [] run = end_elements run
plain_elements (v ∷ values) run = if is_zero v then plain_elements values (run + 1) else replicate (run / 16) (long_run []) ++ value (run % 16) v [] ∷ plain_elements values 0

-- THE VALUES OF A BAND as they are sent

sent_newly : (values : List ℤ) → map (sent false 0) values ≡ map newly_significant values
sent_newly [] = refl
sent_newly (v ∷ values) = ap (λ w. newly_significant w ∷ map (sent false 0) values) (divided_none v) ∙ ap (λ band. newly_significant v ∷ band) (sent_newly values)

-- an EOB where anything is left
abbrev pub tail : List Sent → List Element
tail [] = []
tail (s ∷ rest) = ends 1 [] ∷ []

none_corrected : (values : List ℤ) → corrections_of (map newly_significant values) ≡ []
none_corrected [] = refl
none_corrected (v ∷ values) = none_corrected values

none_behind : (values : List ℤ) → corrections_of (after_last (map newly_significant values)) ≡ []
none_behind [] = refl
none_behind (v ∷ values) = by (none_behind values) (any_of is_new (map newly_significant (v ∷ values))) refl
  where
    by : corrections_of (after_last (map newly_significant values)) ≡ [] → (b : Bool) → any_of is_new (map newly_significant (v ∷ values)) ≡ b → corrections_of (after_last (map newly_significant (v ∷ values))) ≡ []
    by ih true e = ap corrections_of (after_true (newly_significant v) (map newly_significant values) e) ∙ ih
    by ih false e = ap corrections_of (after_false (newly_significant v) (map newly_significant values) e) ∙ none_corrected values

-- the elements of one band by its prefix and its rest
band_halves : (band : List Sent) → corrections_of (after_last band) ≡ [] → band_elements 1 0 [] (band ∷ []) ≡ value_elements 0 [] (up_to_last band) ++ tail (after_last band)
band_halves band none = by (up_to_last band) (after_last band) refl refl
  where
    by : (front rest : List Sent) → up_to_last band ≡ front → after_last band ≡ rest → band_elements 1 0 [] (band ∷ []) ≡ value_elements 0 [] (up_to_last band) ++ tail (after_last band)
    by [] [] e f = rw (e, f) refl
    by [] (s ∷ rest) e f = rw (e, f) (ap (λ bits. (let r : List Element = ends 1 bits ∷ [] in r)) (rw f at none))
    by (t ∷ front) [] e f = rw (e, f) refl
    by (t ∷ front) (s ∷ rest) e f = rw (e, f) (ap (λ bits. (let r : List Element = value_elements 0 [] (t ∷ front) ++ ends 1 bits ∷ [] in r)) (rw f at none))

-- ITS VALUES

replicate_push : (q : ℕ) (x : Element) (xs : List Element) → replicate q x ++ (x ∷ xs) ≡ x ∷ (replicate q x ++ xs)
replicate_push zero x xs = refl
replicate_push (suc q) x xs = ap (λ (l : List Element). x ∷ l) (replicate_push q x xs)

zero_less : (r : ℕ) (band : List Sent) → r ≢ 15 → value_elements r [] (newly_significant (pos 0) ∷ band) ≡ value_elements (r + 1) [] band
zero_less r band n =
    let t : (r == 15) ≡ false = grind (arith, nat_tests) in
    ap (λ b. (let l : List Element = cond b (long_run [] ∷ value_elements 0 [] band) (value_elements (r + 1) [] band) in l)) t

-- without a further value
none_left : (values : List ℤ) (run : ℕ) → 1 ≤ run → any_of is_new (map newly_significant values) ≡ false → plain_elements values run ≡ ends 1 [] ∷ []
none_left [] zero h e = absurd (omega arith)
none_left [] (suc run) h e = refl
none_left (pos zero ∷ values) run h e = none_left values (run + 1) (omega arith) e
none_left (pos (suc n) ∷ values) run h e = cc
none_left (negsuc n ∷ values) run h e = cc

-- all of a band whose values are these
abbrev pub whole : ℕ → List ℤ → List Element
whole r values = value_elements r [] (up_to_last (map newly_significant values)) ++ tail (after_last (map newly_significant values))

abbrev pub IsPlain : List ℤ → Type 0
IsPlain values =
    ((q r : ℕ) → r ≤ 15 → any_of is_new (map newly_significant values) ≡ true → replicate q (long_run []) ++ whole r values ≡ plain_elements values (16 * q + r))
    × (whole 0 values ≡ plain_elements values 0)

whole_none : (values : List ℤ) → any_of is_new (map newly_significant values) ≡ false → whole 0 values ≡ plain_elements values 0
whole_none [] e = refl
whole_none (pos zero ∷ values) e =
    rw (up_false (newly_significant (pos 0)) (map newly_significant values) e, after_false (newly_significant (pos 0)) (map newly_significant values) e) (sym (none_left values 1 (lit≤ tt) e))
whole_none (pos (suc n) ∷ values) e = cc
whole_none (negsuc n ∷ values) e = cc

zero_step : (values : List ℤ) (q r : ℕ) → IsPlain values → r ≤ 15 → any_of is_new (map newly_significant values) ≡ true
    → replicate q (long_run []) ++ (value_elements r [] (newly_significant (pos 0) ∷ up_to_last (map newly_significant values)) ++ tail (after_last (map newly_significant values))) ≡ plain_elements values (16 * q + r + 1)
zero_step values q r ih h e =
    let rest = tail (after_last (map newly_significant values)) in
    let front = up_to_last (map newly_significant values) in
    ⊎_elim
    (λ (s : r ≡ 15).
    let n : 16 * suc q + 0 ≡ 16 * q + r + 1 = omega (arith, s) in
    ap (λ k. replicate q (long_run []) ++ (value_elements k [] (newly_significant (pos 0) ∷ front) ++ rest)) s
    ∙ replicate_push q (long_run []) (value_elements 0 [] front ++ rest) ∙ ih.0 (suc q) 0 (lit≤ tt) e ∙ ap (plain_elements values) n)
    (λ (s : r ≢ 15).
    let n : 16 * q + (r + 1) ≡ 16 * q + r + 1 = omega arith in
    ap (λ es. replicate q (long_run []) ++ (es ++ rest)) (zero_less r front s) ∙ ih.0 q (r + 1) (omega arith) e ∙ ap (plain_elements values) n)
    (cases_eq r 15)

value_step : (v : ℤ) (values : List ℤ) (q r : ℕ) → IsPlain values → r ≤ 15
    → replicate q (long_run []) ++ ((value r v [] ∷ value_elements 0 [] (up_to_last (map newly_significant values))) ++ tail (after_last (map newly_significant values)))
    ≡ replicate ((16 * q + r) / 16) (long_run []) ++ value ((16 * q + r) % 16) v [] ∷ plain_elements values 0
value_step v values q r ih h =
    let m : q ≡ (16 * q + r) / 16 = omega arith in
    let n : r ≡ (16 * q + r) % 16 = omega arith in
    ap (λ es. replicate q (long_run []) ++ (value r v [] ∷ es)) ih.1
    ∙ ap (λ k. replicate k (long_run []) ++ (value r v [] ∷ plain_elements values 0)) m
    ∙ ap (λ k. replicate ((16 * q + r) / 16) (long_run []) ++ (value k v [] ∷ plain_elements values 0)) n

with_value : (s : Sent) (values : List ℤ) (r : ℕ) → any_of is_new (s ∷ map newly_significant values) ≡ true
    → value_elements r [] (up_to_last (s ∷ map newly_significant values)) ++ tail (after_last (s ∷ map newly_significant values)) ≡ value_elements r [] (s ∷ up_to_last (map newly_significant values)) ++ tail (after_last (map newly_significant values))
with_value s values r e = ap (λ front. value_elements r [] front ++ tail (after_last (s ∷ map newly_significant values))) (up_true s (map newly_significant values) e)
    ∙ ap (λ rest. value_elements r [] (s ∷ up_to_last (map newly_significant values)) ++ tail rest) (after_true s (map newly_significant values) e)

plain_ahead : (v : ℤ) (values : List ℤ) → IsPlain values → (q r : ℕ) → r ≤ 15 → any_of is_new (map newly_significant (v ∷ values)) ≡ true → replicate q (long_run []) ++ whole r (v ∷ values) ≡ plain_elements (v ∷ values) (16 * q + r)
plain_ahead (pos zero) values ih q r h e = ap (λ es. replicate q (long_run []) ++ es) (with_value (newly_significant (pos 0)) values r e) ∙ zero_step values q r ih h e
plain_ahead (pos (suc n)) values ih q r h e = ap (λ es. replicate q (long_run []) ++ es) (with_value (newly_significant (pos (suc n))) values r e) ∙ value_step (pos (suc n)) values q r ih h
plain_ahead (negsuc n) values ih q r h e = ap (λ es. replicate q (long_run []) ++ es) (with_value (newly_significant (negsuc n)) values r e) ∙ value_step (negsuc n) values q r ih h

all_plain : (values : List ℤ) → IsPlain values
all_plain [] = ((λ q r h e. cc), refl)
all_plain (v ∷ values) = by (all_plain values) (any_of is_new (map newly_significant (v ∷ values))) refl
  where
    by : IsPlain values → (b : Bool) → any_of is_new (map newly_significant (v ∷ values)) ≡ b → IsPlain (v ∷ values)
    by ih true e = (plain_ahead v values ih, plain_ahead v values ih 0 0 (lit≤ tt) e)
    by ih false e = (plain_ahead v values ih, whole_none (v ∷ values) e)

pub band_plain : (values : List ℤ) → band_elements 1 0 [] (map (sent false 0) values ∷ []) ≡ plain_elements values 0
band_plain values =
    ap (λ band. band_elements 1 0 [] (band ∷ [])) (sent_newly values)
    ∙ band_halves (map newly_significant values) (none_behind values)
    ∙ (all_plain values).1

-- a value that isn't 0
pub plain_value : (v : ℤ) (values : List ℤ) (run : ℕ) → v ≢ pos 0 → plain_elements (v ∷ values) run ≡ run_elements run v ++ plain_elements values 0
plain_value (pos zero) values run n = absurd (n refl)
plain_value (pos (suc m)) values run n = sym (append_assoc (replicate (run / 16) (long_run [])) (value (run % 16) (pos (suc m)) [] ∷ []) (plain_elements values 0))
plain_value (negsuc m) values run n = sym (append_assoc (replicate (run / 16) (long_run [])) (value (run % 16) (negsuc m) [] ∷ []) (plain_elements values 0))

-- results of elements that are the same for all elements of a band
runs_same : {X : Type 0} (f g : Element → List X) → f (long_run []) ≡ g (long_run []) → (n : ℕ) (es : List Element) → flat_map f es ≡ flat_map g es → flat_map f (replicate n (long_run []) ++ es) ≡ flat_map g (replicate n (long_run []) ++ es)
runs_same f g long zero es e = e
runs_same f g long (suc n) es e = ap (λ t. t ++ flat_map f (replicate n (long_run []) ++ es)) long ∙ ap (λ t. g (long_run []) ++ t) (runs_same f g long n es e)

plain_same : {X : Type 0} (f g : Element → List X) → ((r : ℕ) (v : ℤ) → f (value r v []) ≡ g (value r v [])) → f (long_run []) ≡ g (long_run []) → f (ends 1 []) ≡ g (ends 1 [])
    → (values : List ℤ) (run : ℕ) → flat_map f (plain_elements values run) ≡ flat_map g (plain_elements values run)
plain_same f g one long end [] zero = refl
plain_same f g one long end [] (suc run) = ap (λ t. t ++ []) end
plain_same f g one long end (v ∷ values) run = by (is_zero v) (plain_same f g one long end values (run + 1)) (plain_same f g one long end values 0)
  where
    by : (b : Bool) → flat_map f (plain_elements values (run + 1)) ≡ flat_map g (plain_elements values (run + 1)) → flat_map f (plain_elements values 0) ≡ flat_map g (plain_elements values 0)
        → flat_map f (cond b (plain_elements values (run + 1)) (replicate (run / 16) (long_run []) ++ value (run % 16) v [] ∷ plain_elements values 0))
        ≡ flat_map g (cond b (plain_elements values (run + 1)) (replicate (run / 16) (long_run []) ++ value (run % 16) v [] ∷ plain_elements values 0))
    by true e h = e
    by false e h =
        runs_same f g long (run / 16) (value (run % 16) v [] ∷ plain_elements values 0)
        (ap (λ t. t ++ flat_map f (plain_elements values 0)) (one (run % 16) v) ∙ ap (λ t. g (value (run % 16) v []) ++ t) h)

-- WHAT IS TOLD OF THEM

-- of these values
unfoldable pub left_told : {X : Type 0} → (Element → List X) → List ℤ → List X
left_told tell values = flat_map tell (plain_elements values 0)

module _ {X : Type 0} (tell : Element → List X) where
  pub left_all : (values : List ℤ) → left_told tell values ≡ band_told tell values
  unfolding left_told band_told
  left_all values = ap (flat_map tell) (sym (band_plain values))

  -- sixteen zeros of a run, and a run of fewer
  pub run_more : (run : ℕ) (v : ℤ) → 16 ≤ run → run_told tell run v ≡ tell (long_run []) ++ run_told tell (run - 16) v
  unfolding run_told
  run_more run v h =
      let m : run / 16 ≡ suc ((run - 16) / 16) = omega arith in
      let n : run % 16 ≡ (run - 16) % 16 = omega arith in
      ap (λ k. flat_map tell (replicate k (long_run []) ++ value (run % 16) v [] ∷ [])) m
      ∙ ap (λ k. tell (long_run []) ++ flat_map tell (replicate ((run - 16) / 16) (long_run []) ++ value k v [] ∷ [])) n

  pub run_last : (run : ℕ) (v : ℤ) → run < 16 → run_told tell run v ≡ tell (value run v [])
  unfolding run_told
  run_last run v h =
      let m : run / 16 ≡ 0 = omega arith in
      let n : run % 16 ≡ run = omega arith in
      ap (λ k. flat_map tell (replicate k (long_run []) ++ value (run % 16) v [] ∷ [])) m ∙ ap (λ k. tell (value k v []) ++ []) n ∙ append-nil (tell (value run v []))

pub band_same : {X : Type 0} (f g : Element → List X) → ((r : ℕ) (v : ℤ) → f (value r v []) ≡ g (value r v [])) → f (long_run []) ≡ g (long_run []) → f (ends 1 []) ≡ g (ends 1 []) → (values : List ℤ) → band_told f values ≡ band_told g values
unfolding left_told
band_same f g one long end values = sym (left_all f values) ∙ plain_same f g one long end values 0 ∙ left_all g values

-- their codes
pub run_spelled : (codes : List Code) (run : ℕ) (v : ℤ) → 16 ≤ run → run_bits codes run v ≡ code_of codes 0xf0 ++ run_bits codes (run - 16) v
run_spelled codes run v h = run_more (spelled codes) run v h ∙ ap (λ x. x ++ run_bits codes (run - 16) v) (append-nil (code_of codes 0xf0))

pub value_spelled : (codes : List Code) (run : ℕ) (v : ℤ) → run < 16 → run_bits codes run v ≡ code_of codes (16 * run + category v) ++ extra_bits v
value_spelled codes run v h = run_last (spelled codes) run v h ∙ ap (λ x. code_of codes (16 * run + category v) ++ x) (append-nil (extra_bits v))

pub end_spelled : (codes : List Code) → spelled codes (ends 1 []) ≡ code_of codes 0
unfolding digits bits_of
end_spelled codes = append-nil (code_of codes 0)

-- Blocks whose symbols are bytes.

-- VALUES WITHIN THE BOUNDS

few_at : (r : Bounds) → AreBounds r → (values : List ℤ) (k : ℕ) → are_in_bounds r false values ≡ true → category (slice_index_or values k (pos 0)) ≤ 14
unfolding Rattle.jpg_spec.specs.Numbers.digits
few_at r b [] k ok = lit≤ tt
few_at r b (v ∷ values) zero ok = omega (arith, b.values v (both (int_le (pos (nat_abs v)) r.ac) (are_in_bounds r false values) ok).0, b.ac_few)
few_at r b (v ∷ values) (suc k) ok = few_at r b values k (both (int_le (pos (nat_abs v)) r.ac) (are_in_bounds r false values) ok).1

are_few : (r : Bounds) → AreBounds r → (block : List ℤ) → are_in_bounds r true block ≡ true → AreFew block
unfolding Rattle.jpg_spec.specs.Numbers.digits
are_few r b block ok zero h l = absurd (omega (arith, h))
are_few r b [] ok (suc k) h l = lit≤ tt
are_few r b (v ∷ values) ok (suc k) h l = few_at r b values k (both (int_le r.dc_low v && int_le v r.dc_high) (are_in_bounds r false values) ok).1

pub zeros_few : (last : ℤ) → AreFew (last ∷ zeros 63)
unfolding Rattle.jpg_spec.specs.Numbers.digits
zeros_few last zero h l = absurd (omega (arith, h))
zeros_few last (suc k) h l =
    let z : slice_index_or (zeros 63) k (pos 0) ≡ pos 0 = get_or-replicate 63 k (pos 0) (pos 0) (omega (arith, l)) in
    subst (λ v. category v ≤ 14) (sym z) (lit≤ tt)

-- The values of a band that aren't 0, found by the bits of a word.

-- THE LEADING ZEROS

left_run : (values : List ℤ) (run : ℕ) → plain_elements values run ≡ plain_elements (drop (zeros_first values) values) (run + zeros_first values)
left_run [] run = (let e : run ≡ run + 0 = omega arith in ap (plain_elements []) e)
left_run (pos zero ∷ values) run =
    let e : run + 1 + zeros_first values ≡ run + (1 + zeros_first values) = omega arith in
    let more : suc (zeros_first values) ≡ 1 + zeros_first values = omega arith in
    left_run values (run + 1) ∙ ap (plain_elements (drop (zeros_first values) values)) e ∙ ap (λ m. plain_elements (drop m (pos 0 ∷ values)) (run + (1 + zeros_first values))) more
left_run (pos (suc n) ∷ values) run = (let e : run ≡ run + 0 = omega arith in ap (plain_elements (pos (suc n) ∷ values)) e)
left_run (negsuc n ∷ values) run = (let e : run ≡ run + 0 = omega arith in ap (plain_elements (negsuc n ∷ values)) e)

-- the value at a place, and those after it
left_at : (block : List ℤ) (k run : ℕ) → k < length block → plain_elements (drop k block) run ≡ plain_elements (get_or block k (pos 0) ∷ drop (k + 1) block) run
left_at block k run h = ap (λ values. plain_elements values run) (drop-cons block k (pos 0) h ∙ ap (λ n. get_or block k (pos 0) ∷ drop n block) (sym (add-one k)))

first_some : (values : List ℤ) → 0 < marks values → (zeros_first values < length values) × (get_or values (zeros_first values) (pos 0) ≢ pos 0)
first_some [] h = absurd (omega (arith, h))
first_some (pos zero ∷ values) h =
    let ih = first_some values (omega (arith, h)) in
    let more : suc (zeros_first values) ≡ 1 + zeros_first values = omega arith in
    (omega (arith, ih.0), λ e. ih.1 (ap (λ m. get_or (pos 0 ∷ values) m (pos 0)) more ∙ e))
first_some (pos (suc n) ∷ values) h = (omega arith, λ e. cc)
first_some (negsuc n ∷ values) h = (omega arith, λ e. cc)

-- THE FIRST VALUES SET TO ZERO

abbrev pub blank : ℕ → List ℤ → List ℤ
blank zero values = values
blank (suc n) [] = []
blank (suc n) (v ∷ values) = pos 0 ∷ blank n values

length_blank : (n : ℕ) (values : List ℤ) → length (blank n values) ≡ length values
length_blank zero values = refl
length_blank (suc n) [] = refl
length_blank (suc n) (v ∷ values) = (let ih = length_blank n values in omega (arith, ih))

-- more of them
blank_more : (n m : ℕ) (values : List ℤ) → n ≤ m → blank m (blank n values) ≡ blank m values
blank_more zero m values h = refl
blank_more (suc n) zero values h = absurd (omega (arith, h))
blank_more (suc n) (suc m) [] h = refl
blank_more (suc n) (suc m) (v ∷ values) h = ap (λ vs. pos 0 ∷ vs) (blank_more n m values (omega (arith, h)))

-- without a value after them
none_blank : (n : ℕ) (values : List ℤ) → (marks (blank n values) ≡ 0 → marks (drop n values) ≡ 0) × (marks (drop n values) ≡ 0 → marks (blank n values) ≡ 0)
none_blank zero values = ((λ e. e), (λ e. e))
none_blank (suc n) [] = ((λ e. refl), (λ e. refl))
none_blank (suc n) (v ∷ values) =
    let ih = none_blank n values in
    ((λ e. ih.0 (let m : marks (blank n values) ≡ 0 = omega (arith, e) in m)), (λ e. (let f = ih.1 e in omega (arith, f))))

-- the zeros before a value
zeros_blank : (n : ℕ) (values : List ℤ) → n ≤ length values → zeros_first (blank n values) ≡ n + zeros_first (drop n values)
zeros_blank zero values h = omega arith
zeros_blank (suc n) [] h = absurd (omega (arith, h))
zeros_blank (suc n) (v ∷ values) h = (let ih = zeros_blank n values (omega (arith, h)) in omega (arith, ih))

-- the lowest bit that is 1 set to 0
even_cleared : (m : ℕ) → 0 < m → bit_and (2 * m) (2 * m - 1) ≡ 2 * bit_and m (m - 1)
even_cleared m h =
    let a : m * 2 ^ 1 + 0 ≡ 2 * m = omega arith in
    let b : (m - 1) * 2 ^ 1 + 1 ≡ 2 * m - 1 = omega (arith, h) in
    let e = and_block 1 m (m - 1) 0 1 (lit≤ tt) (lit≤ tt) in
    ap (λ n. bit_and n (2 * m - 1)) (sym a) ∙ ap (bit_and (m * 2 ^ 1 + 0)) (sym b) ∙ e ∙ (let q : bit_and m (m - 1) * 2 ^ 1 + 0 ≡ 2 * bit_and m (m - 1) = omega arith in q)

odd_cleared : (m : ℕ) → bit_and (1 + 2 * m) (2 * m) ≡ 2 * m
odd_cleared m =
    let a : m * 2 ^ 1 + 1 ≡ 1 + 2 * m = omega arith in
    let b : m * 2 ^ 1 + 0 ≡ 2 * m = omega arith in
    let e = and_block 1 m m 1 0 (lit≤ tt) (lit≤ tt) in
    ap (λ n. bit_and n (2 * m)) (sym a) ∙ ap (bit_and (m * 2 ^ 1 + 1)) (sym b) ∙ e ∙ ap (λ n. n * 2 ^ 1 + 0) (and_self m) ∙ b

one_cleared : (values : List ℤ) → bit_and (1 + 2 * marks values) (1 + 2 * marks values - 1) ≡ marks (pos 0 ∷ values)
one_cleared values =
    let less : 1 + 2 * marks values - 1 ≡ 2 * marks values = omega arith in
    ap (bit_and (1 + 2 * marks values)) less ∙ odd_cleared (marks values) ∙ (let q : 2 * marks values ≡ marks (pos 0 ∷ values) = omega arith in q)

first_cleared : (values : List ℤ) → 0 < marks values → bit_and (marks values) (marks values - 1) ≡ marks (blank (suc (zeros_first values)) values)
first_cleared [] h = absurd (omega (arith, h))
first_cleared (pos zero ∷ values) h =
    let some : 0 < marks values = omega (arith, h) in
    let twice : marks (pos zero ∷ values) ≡ 2 * marks values = omega arith in
    let more : suc (zeros_first values) ≡ 1 + zeros_first values = omega arith in
    let ih = first_cleared values some in
    ap (λ n. bit_and n (n - 1)) twice ∙ even_cleared (marks values) some ∙ ap (λ n. 2 * n) ih
    ∙ (let q : 2 * marks (blank (suc (zeros_first values)) values) ≡ marks (pos 0 ∷ blank (suc (zeros_first values)) values) = omega arith in q)
    ∙ ap (λ m. marks (pos 0 ∷ blank m values)) more
first_cleared (pos (suc n) ∷ values) h = one_cleared values
first_cleared (negsuc n ∷ values) h = one_cleared values

-- the bits of the values of a block from a place on, which is after the first value
pub record AreLeft (block : List ℤ) (next rest : ℕ) : Type 0 where
  pub long : length block ≡ 64
  pub marked : rest ≡ marks (blank next block)
  pub some : 1 ≤ next
  pub few : next ≤ 64

-- a value after zeros, and what is told of them
pub next_told : {X : Type 0} (tell : Element → List X) {block : List ℤ} {next rest : ℕ} → AreLeft block next rest → 0 < rest → (let k = trailing_zeros w64 rest in
    (next ≤ k) × (k < 64) × (left_told tell (drop next block) ≡ run_told tell (k - next) (get_or block k (pos 0)) ++ left_told tell (drop (k + 1) block)) × AreLeft block (k + 1) (bit_and rest (rest - 1)))
unfolding left_told run_told
next_told tell {block} {next} {rest} is_left some =
    let k = trailing_zeros w64 rest in
    let long = is_left.long in
    let is = is_left.marked in
    let values = drop next block in
    let size : length values ≡ 64 - next = length-drop next block ∙ ap (λ n. n - next) long in
    let whole : length (blank next block) ≡ 64 = length_blank next block ∙ long in
    let above : 0 < marks (blank next block) = subst (λ n. 0 < n) is some in
    let behind_some : 0 < marks values = ⊎_elim
    (λ (h : 0 < marks values). h)
    (λ (h : marks values ≤ 0). (let z = (none_blank next block).1 (omega (arith, h)) in absurd (omega (arith, z, above))))
    (cases_lt 0 (marks values)) in
    let t : k ≡ zeros_first (blank next block) = ap (trailing_zeros w64) is ∙ trailing_mask_l is_some 64 (blank next block) (omega (arith, whole)) above in
    let b = zeros_blank next block (omega (arith, is_left.few, long)) in
    let e : k - next ≡ zeros_first values = omega (arith, t, b) in
    let low : next ≤ k = omega (arith, t, b) in
    let f = first_some values behind_some in
    let there : k < 64 = omega (arith, f.0, t, b, size) in
    let inside : k < length block = omega (arith, there, long) in
    let back : next + (k - next) ≡ k = omega (arith, low) in
    let at : get_or values (k - next) (pos 0) ≡ get_or block k (pos 0) = get_or-drop next block (k - next) (pos 0) ∙ ap (λ m. get_or block m (pos 0)) back in
    let n : get_or block k (pos 0) ≢ pos 0 = λ q. f.1 (ap (λ m. get_or values m (pos 0)) (sym e) ∙ at ∙ q) in
    let behind : drop (k - next) values ≡ drop k block = drop-drop (k - next) next block ∙ ap (λ m. drop m block) back in
    let zero_run : 0 + zeros_first values ≡ k - next = omega (arith, e) in
    let after : suc (zeros_first (blank next block)) ≡ k + 1 = omega (arith, t) in (
      low,
      there,
      ap (flat_map tell)
          (left_run values 0 ∙ ap (λ m. plain_elements (drop m values) (0 + zeros_first values)) (sym e) ∙ ap (plain_elements (drop (k - next) values)) zero_run ∙ ap (λ vs. plain_elements vs (k - next)) behind
          ∙ left_at block k (k - next) inside ∙ plain_value (get_or block k (pos 0)) (drop (k + 1) block) (k - next) n)
          ∙ flat_map-append tell (run_elements (k - next) (get_or block k (pos 0))) (plain_elements (drop (k + 1) block) 0),
      record { long = long; some = omega arith; few = omega (arith, there); marked = ap (λ m. bit_and m (m - 1)) is ∙ first_cleared (blank next block) above ∙ ap (λ m. marks (blank m (blank next block))) after ∙ ap marks (blank_more next (k + 1) block (omega (arith, low))) },
    )

-- no further value: an EOB if zeros are left
pub none_told : {X : Type 0} (tell : Element → List X) {block : List ℤ} {next rest : ℕ} → AreLeft block next rest → rest ≡ 0
    → (next < 64 → left_told tell (drop next block) ≡ tell (ends 1 [])) × (64 ≤ next → left_told tell (drop next block) ≡ [])
unfolding left_told
none_told tell {block} {next} {rest} is_left none =
    let values = drop next block in
    let size : length values ≡ 64 - next = length-drop next block ∙ ap (λ n. n - next) is_left.long in
    let empty : marks values ≡ 0 = (none_blank next block).0 (sym is_left.marked ∙ none) in
    let e : zeros_first values ≡ length values = leading_from_mask_l is_some values empty in
    let f : 0 + zeros_first values ≡ 64 - next = omega (arith, e, size) in
    let is = left_run values 0 ∙ ap (λ vs. plain_elements vs (0 + zeros_first values)) (drop_all (zeros_first values) values (omega (arith, e))) ∙ ap (plain_elements []) f in (
      λ some. (let n : 64 - next ≡ suc (63 - next) = omega (arith, some) in ap (flat_map tell) (is ∙ ap (plain_elements []) n) ∙ append-nil (tell (ends 1 []))),
      λ all. (let n : 64 - next ≡ 0 = omega (arith, all) in ap (flat_map tell) (is ∙ ap (plain_elements []) n)),
    )

first_blank : (block : List ℤ) (word : ℕ) → length block ≡ 64 → word ≡ marks block → word < 2 ^ 64 → word / 2 ^ 1 * 2 ^ 1 % 2 ^ 64 ≡ marks (blank 1 block)
first_blank [] word long is small = absurd (omega (arith, long))
first_blank (v ∷ values) word long is small = first_even (is_some v) (marks values) word is small
  where
    first_even : (b : Bool) (m word : ℕ) → word ≡ cond b 1 0 + 2 * m → word < 2 ^ 64 → word / 2 ^ 1 * 2 ^ 1 % 2 ^ 64 ≡ 0 + 2 * m
    first_even true m word is small = omega (arith, is, small)
    first_even false m word is small = omega (arith, is, small)

-- the bits of a complete block, of which the first is set to 0
pub all_left : (block : List ℤ) (word : ℕ) → length block ≡ 64 → word < 2 ^ 64 → ((k : ℕ) → k < 64 → bit_at word k ≡ (if is_zero (get_or block k (pos 0)) then 0 else 1)) → AreLeft block 1 (word / 2 ^ 1 * 2 ^ 1 % 2 ^ 64)
all_left block word long small bits = record { long = long; some = omega arith; few = omega arith; marked = first_blank block word long (marks_are block word long small bits) small }

-- The bits of a scan's units, one unit after another.

-- results of the elements of a component, and of those after them
owned_each : {X : Type 0} (f : Owned → List X) (i : ℕ) (es : List Element) (rest : List Owned) → flat_map f (map (λ e. (let o : Owned = (i, e) in o)) es ++ rest) ≡ flat_map (λ e. f (i, e)) es ++ flat_map f rest
owned_each f i [] rest = refl
owned_each f i (e ∷ es) rest = ap (λ t. f (i, e) ++ t) (owned_each f i es rest) ∙ sym (append_assoc (f (i, e)) (flat_map (λ e. f (i, e)) es) (flat_map f rest))

-- what is told of the elements of a unit, and of those of the units after it
pub unit_told : {X : Type 0} (tell : Owned → List X) (lasts : ℕ → ℤ) (i : ℕ) (last : ℤ) (block : List ℤ) (due : List UnitDue) → lasts i ≡ last
    → flat_map tell (unit_elements true false 0 lasts ((i, block) ∷ due))
    ≡ tell (i, difference (slice_index_or block 0 (pos 0) -ℤ last)) ++ (band_told (λ e. tell (i, e)) (drop 1 block) ++ flat_map tell (unit_elements true false 0 (last_dc lasts i block) due))
unfolding band_told
unit_told tell lasts i last block due same =
    let v = slice_index_or block 0 (pos 0) in
    let band = flat_map (λ e. tell (i, e)) (band_elements 1 0 [] (map (sent false 0) (drop 1 block) ∷ [])) in
    let rest = λ (w : ℤ). band ++ flat_map tell (unit_elements true false 0 (predicted lasts i w) due) in
    ap (λ t. tell (i, difference (shifted 0 v -ℤ lasts i)) ++ t) (owned_each tell i (band_elements 1 0 [] (map (sent false 0) (drop 1 block) ∷ [])) (unit_elements true false 0 (predicted lasts i (shifted 0 v)) due))
    ∙ ap (λ w. tell (i, difference (w -ℤ lasts i)) ++ rest w) (shifted_none v) ∙ ap (λ p. tell (i, difference (v -ℤ p)) ++ rest v) same

-- THE PART OF A COMPONENT

named_part : (P : ScanPart → Type 0) (parts : List ScanPart) (i : ℕ) → All P parts → is_among i (map (λ p. p.component) parts) ≡ true → P (found_part parts i)
named_part P [] i all e = cc
named_part P (p ∷ parts) i all e = by (p.component == i) refl e (named_part P parts i (All-tail P p parts all))
  where
    by : (b : Bool) → (p.component == i) ≡ b → (b || is_among i (map (λ p. p.component) parts)) ≡ true → (is_among i (map (λ p. p.component) parts) ≡ true → P (found_part parts i)) → P (found_part (p ∷ parts) i)
    by true s k later = subst P (sym (part_here p parts i s)) (All-head P p parts all)
    by false s k later = subst P (sym (part_later p parts i s)) (later k)

-- A BLOCK of values in the bounds has short codes
pub due_few : (f : Frame) (head : ScanHead) (blocks : Blocks) (last : ℤ) (p : Place) → HasBlocksIn f blocks → IsScanPlace f head p → AreFew (block_due blocks last p)
due_few f head blocks last p all is = by p.real refl
  where
    by : (b : Bool) → p.real ≡ b → AreFew (cond b (block_at blocks p) (last ∷ zeros 63))
    by true e = are_few (bounds f) (are_bounds f.precision) (block_at blocks p) (all p.component p.x p.y (is_real_place f head p is e)).1
    by false e = zeros_few last

-- the bits of the first unit of those that are left, by the tables of its component
pub next_unit : (set : TableSet) (head : ScanHead) (lasts : ℕ → ℤ) (i : ℕ) (last : ℤ) (block : List ℤ) (due : List UnitDue) → lasts i ≡ last
    → flat_map (element_bits (tables_in set) head) (unit_elements true false 0 lasts ((i, block) ∷ due)) ≡ unit_bits set head i last block ++ flat_map (element_bits (tables_in set) head) (unit_elements true false 0 (last_dc lasts i block) due)
unfolding block_bits element_bits
next_unit set head lasts i last block due same =
    let tell = element_bits (tables_in set) head in
    let ac = table_codes (tables_in set 1 (part_of head i).ac) in
    let first = dc_bits (table_codes (tables_in set 0 (part_of head i).dc)) last block in
    let rest = flat_map tell (unit_elements true false 0 (last_dc lasts i block) due) in
    unit_told tell lasts i last block due same ∙ ap (λ t. first ++ (t ++ rest)) (band_same (λ e. tell (i, e)) (spelled ac) (λ r v. refl) refl refl (drop 1 block)) ∙ sym (append_assoc first (band_bits ac (drop 1 block)) rest)

-- a unit at a place
pub unit_fits : (f : Frame) (head : ScanHead) (set : TableSet) (blocks : Blocks) (last : ℤ) (p : Place) → HasBlocksIn f blocks → All (HasTables set) head.parts → IsScanPlace f head p → HasTables set (part_of head p.component) × IsShort (block_due blocks last p)
unit_fits f head set blocks last p all tables is = (named_part (HasTables set) head.parts p.component tables is.named, λ k some small. (let h = due_few f head blocks last p all is k some small in omega (arith, h)))

-- A sequential scan that is written into memory.

-- THE NEXT UNITS

-- what may be given
pub can_give : (s : WrittenScan) (f : Frame) (others : Blocks) (count : ℕ) (k : KeptScan) → 1 ≤ count → count ≤ (k.units).left → (h : CanKeep s f others count k)
    → CanGive kept_kind (new_scan s.frame s.head s.interval s.blocks (h.keeps).from) f others count k.units (at k.sink k.out k.desk)
can_give s f others count k some few h = record { given = (h.keeps).going (omega (arith, some, few)); frame = h.frame; same = h.same }

pub keeps_on : (s : WrittenScan) (f : Frame) (others : Blocks) (count : ℕ) (k new : KeptScan) → 1 ≤ count → count ≤ (k.units).left → (h : CanKeep s f others count k)
    → (new.units).cursor ≡ drop count (k.units).cursor → (new.units).left + count ≡ (k.units).left
    → GoesOnOrEnds kept_kind (new_scan s.frame s.head s.interval s.blocks (h.keeps).from) count (k.units).left new.units (at new.sink new.out new.desk) → KeepsScan s new
keeps_on s f others count k new some few h cursor left given =
    let w = h.keeps in
    let all = length (scan_places s) in
    let low = w.few in
    let at_next : all - (k.units).left + count ≡ all - (new.units).left = omega (arith, low, left) in
    record {
      from = w.from;
      begins = w.begins;
      few = omega (arith, low, left);
      places = cursor ∙ ap (drop count) w.places ∙ drop-drop count (all - (k.units).left) (scan_places s) ∙ ap (λ n. drop n (scan_places s)) at_next;
      going = λ more. (given.goes_on (omega (arith, more, left))).0;
      ended = λ none. given.ends (omega (arith, none, left));
    }

-- THE FIRST ONES

pub keeps_none : (f : Frame) (head : ScanHead) (set : TableSet) (interval : ℕ) (k : KeptScan) → IsFrame f → IsSeqScan f head set → IsUngiven f head interval k.units → (k.sink).head.now ≡ head → (k.sink).encoders ≡ set → k.out ≡ nothing_waits → (k.desk).bytes ≡ []
    → (blocks : Blocks) → HasBlocksIn f blocks → KeepsScan (kept_scan f head set interval blocks) k
keeps_none f head set interval k frame scan new of by nothing empty blocks has =
    let now = at k.sink k.out k.desk in
    let all = intervals_due f head interval blocks in
    let places = units f (head_components head) in
    let some = some_places f head frame scan.components in
    let own : TableSet = (k.sink).encoders in
    let tables = subst (λ t. All (HasTables t) head.parts) (sym by) scan.tables in
    let fits = subst (λ h. All (λ due. All (λ u. HasTables own (part_of h u.0) × IsShort u.1) due) all) (sym of)
    (all_units (λ u. HasTables own (part_of head u.0) × IsShort u.1) f head interval blocks scan.components (λ p last is. unit_fits f head own blocks last p has tables is)) in
    let start : Begins kept_kind all now = begins seq_units kept_state now all refl (record { created = refl; none = ap (λ (w : Waiting). w.bits) nothing }) fits (λ due is. refl) in
    record {
      from = now;
      begins = record { scan = scan; head = of; set = by; nothing = nothing; empty = empty };
      few = omega (arith, new.left);
      places = new.cursor ∙ sym (ap (λ n. drop n places) (let z : length places - (k.units).left ≡ 0 = omega (arith, new.left) in z));
      going = λ more. begins_given kept_kind f head interval blocks k.units now frame scan.components new start;
      ended = λ none. absurd (omega (arith, none, new.left, some));
    }

-- THE DATA

output_of : List (Name × List ℕ) → List ℕ
output_of [] = []
output_of (output ∷ outputs) = output.1

only_output : (d e : KeptDesk) (due : List ℕ) (s0 s1 : Waiting) → d.bytes ≡ [] → s0.bytes ≡ [] → s1.bytes ≡ [] → Sends (kept_state d) s0 due (Ok tt) s1 (kept_state e) → e.bytes ≡ due
unfolding output_of
only_output d e due s0 s1 none first last sends =
    let sent = (sends.bytes).0 in
    let is : e.bytes ≡ d.bytes ++ sent = ap output_of (sends.bytes).1 in
    let all : s0.bytes ++ due ≡ sent ++ s1.bytes = (sends.bytes).2 in
    is ∙ ap (λ b. b ++ sent) none ∙ sym (append-nil sent) ∙ ap (λ b. sent ++ b) (sym last) ∙ sym all ∙ ap (λ b. b ++ due) first

pub kept_text : (s : WrittenScan) (k : KeptScan) (out : Waiting) (desk : KeptDesk) → (k.units).left ≡ 0 → KeepsScan s k → Sends (kept_state k.desk) k.out [] (Ok tt) out (kept_state desk) → out ≡ nothing_waits
    → desk.bytes ≡ written_data s.frame s.head s.set s.interval s.blocks
kept_text s k out desk none h flushed nothing =
    let from = h.from in
    let b = h.begins in
    let sent = h.ended none in
    let all = sends_then (kept_state from.desk) (kept_state k.desk) (kept_state desk) from.out k.out out _ [] (Ok tt) sent flushed in
    let text = only_output from.desk desk _ from.out out b.empty (ap (λ (w : Waiting). w.bytes) b.nothing) (ap (λ (w : Waiting). w.bytes) nothing) all in
    text ∙ append-nil _
    ∙ ap (λ (e : TableSet). text_of (interval_bits false (tables_in e) (from.sink).head.now) 0 (intervals_due s.frame s.head s.interval s.blocks)) b.set
    ∙ ap (λ (d : ScanHead). text_of (interval_bits false (tables_in s.set) d) 0 (intervals_due s.frame s.head s.interval s.blocks)) b.head
    ∙ written_text (tables_in s.set) s.frame s.head s.interval s.blocks false (b.scan).sequential

-- The marks of a sequential scan's units, one unit after another.

pub end_marked : (slot : ℕ) → ac_mark slot (ends 1 []) ≡ ((1, slot), 0) ∷ []
unfolding digits
end_marked slot = refl

-- the first unit of those that are left
pub next_marks : (head : ScanHead) (lasts : ℕ → ℤ) (i : ℕ) (last : ℤ) (block : List ℤ) (due : List UnitDue) → lasts i ≡ last
    → due_marks head lasts ((i, block) ∷ due) ≡ block_marks (part_of head i) last block ++ due_marks head (last_dc lasts i block) due
unfolding block_marks
next_marks head lasts i last block due same =
    let first : Mark = ((0, (part_of head i).dc), category (slice_index_or block 0 (pos 0) -ℤ last)) in
    unit_told (owned_marks head) lasts i last block due same
    ∙ ap (λ t. first ∷ (t ++ due_marks head (last_dc lasts i block) due)) (band_same (λ e. owned_marks head (i, e)) (ac_mark (part_of head i).ac) (λ r v. refl) refl refl (drop 1 block))

-- all of a scan
pub all_counted : (f : Frame) (head : ScanHead) (interval : ℕ) (blocks : Blocks) (none new : SymbolCounts) → is_progressive f.process ≡ false → none ≡ no_counts
    → Notes none (flat_map (interval_marks false head) (intervals_due f head interval blocks)) new → CountsClass f head interval blocks 0 new.dc × CountsClass f head interval blocks 1 new.ac
unfolding scan_marks
all_counted f head interval blocks none new sequential is noted =
    counted f head interval blocks new (subst (λ b. Notes no_counts (flat_map (interval_marks b head) (intervals_due f head interval blocks)) new) (sym sequential) (rw is at noted))

-- a unit at a place
pub marks_fit : (f : Frame) (head : ScanHead) (blocks : Blocks) (last : ℤ) (p : Place) → HasBlocksIn f blocks → All HasSlots head.parts → IsScanPlace f head p → HasSlots (part_of head p.component) × AreFew (block_due blocks last p)
marks_fit f head blocks last p all slots is = (slots_of head p.component slots, due_few f head blocks last p all is)
