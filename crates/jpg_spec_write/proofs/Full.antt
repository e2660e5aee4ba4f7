-- The typical tables have codes for all that a sequential scan of precision 8 sends.
use Rattle.std.proofs.Common.{◌≡◌, ◌≢◌, ℕ, zero, suc, ◌+◌, ◌-◌, ◌*◌, ◌≤◌, Bool, true, false, cond, List, [], ◌∷◌, ◌++◌, Some, None, Option, refl, sym, ap, subst, arith, ℤ, pos, negsuc, ⊎_elim, lit≤, ◌==◌}
use Rattle.std.proofs.lemmas.Bool.{cases_eq}
use Rattle.std.proofs.lemmas.Bool.Decides.{nat_tests}
use Rattle.std.proofs.lemmas.List.Elements.{Contains-append_right}
use Rattle.jpg_spec.specs.Codes.{Code, codes, first_code}
use Rattle.jpg_spec.specs.Numbers.{category, digits}
use Rattle.jpg_spec.specs.Elements.{Coding, Element, long_run, ends}
use Rattle.jpg_spec_write.specs.Sending.{Sent, correction, newly_significant, value_elements, band_elements}
use Rattle.jpg_spec.specs.Segments.{table_codes}
use Rattle.jpg_spec.specs.Typical.{dc_luma_counts, dc_luma_values, ac_luma_counts, ac_luma_values, dc_chroma_counts, dc_chroma_values, ac_chroma_counts, ac_chroma_values}
use Rattle.jpg_spec_write.specs.ScanText.{typical_table}
use Rattle.jpg_spec_write.proofs.Writing.{AllSent, AllHave}
use Rattle.jpg_spec_write.proofs.Bands.{body, split}
use Rattle.jpg_spec.proofs.Basics.Common.{same_of}
use Rattle.jpg_spec.proofs.Bits.Full.{Has, all_pass, passed}

-- SYMBOLS that have a code

abbrev pub is_found : Option (List Bool) → Bool
is_found None = false
is_found (Some code) = true

found_has : (table : List Code) (symbol : ℕ) → is_found (first_code table symbol) ≡ true → Has table symbol
found_has [] symbol e = cc
found_has (q ∷ table) symbol e = by (q.1 == symbol) refl e (λ k. found_has table symbol k)
  where
    by : (b : Bool) → (q.1 == symbol) ≡ b → is_found (cond b (Some q.0) (first_code table symbol)) ≡ true → (is_found (first_code table symbol) ≡ true → Has table symbol) → Has (q ∷ table) symbol
    by true e f ih = (q.0, (0, omega arith, ap (λ (n : ℕ). (let r : Code = (q.0, n) in r)) (same_of q.1 symbol e)))
    by false e f ih = let h = ih f in (h.0, Contains-append_right (q ∷ []) table (h.0, symbol) h.1)

-- codes for EOB, ZRL, and all values after runs
pub record IsFull (table : List Code) : Type 0 where
  pub eob : Has table 0
  pub zrl : Has table 0xf0
  pub values : (run size : ℕ) → run ≤ 15 → 1 ≤ size → size ≤ 10 → Has table (16 * run + size)

abbrev pub has_values : List Code → Bool
has_values table = all_pass 16 (λ run. all_pass 10 (λ k. is_found (first_code table (16 * run + (k + 1)))))

full_by : (table : List Code) → is_found (first_code table 0) ≡ true → is_found (first_code table 0xf0) ≡ true → has_values table ≡ true → IsFull table
full_by table a b d = record {
  eob = found_has table 0 a;
  zrl = found_has table 0xf0 b;
  values = values;
}
  where
    values : (run size : ℕ) → run ≤ 15 → 1 ≤ size → size ≤ 10 → Has table (16 * run + size)
    values run size r l h =
        let e : size - 1 + 1 ≡ size = omega arith in
        let f = passed 16 (λ run. all_pass 10 (λ k. is_found (first_code table (16 * run + (k + 1))))) d run (omega arith) in
        let g = passed 10 (λ k. is_found (first_code table (16 * run + (k + 1)))) f (size - 1) (omega arith) in
        subst (λ n. Has table (16 * run + n)) e (found_has table (16 * run + (size - 1 + 1)) g)

-- THE TYPICAL TABLES

ac_by : (is_first : Bool) → IsFull (codes (cond is_first ac_luma_counts ac_chroma_counts) (cond is_first ac_luma_values ac_chroma_values))
unfolding codes
ac_by true = full_by (codes ac_luma_counts ac_luma_values) refl refl refl
ac_by false = full_by (codes ac_chroma_counts ac_chroma_values) refl refl refl

dc_by : (is_first : Bool) (n : ℕ) → n ≤ 11 → Has (codes (cond is_first dc_luma_counts dc_chroma_counts) (cond is_first dc_luma_values dc_chroma_values)) n
unfolding codes
dc_by true n h = found_has (codes dc_luma_counts dc_luma_values) n (passed 12 (λ k. is_found (first_code (codes dc_luma_counts dc_luma_values) k)) refl n (omega arith))
dc_by false n h = found_has (codes dc_chroma_counts dc_chroma_values) n (passed 12 (λ k. is_found (first_code (codes dc_chroma_counts dc_chroma_values) k)) refl n (omega arith))

pub ac_full : (slot : ℕ) → IsFull (table_codes (typical_table 1 slot))
ac_full slot = by (slot == 0) refl
  where
    by : (b : Bool) → (slot == 0) ≡ b → IsFull (table_codes (typical_table 1 slot))
    by true e = subst (λ t. IsFull (table_codes (cond t (record { counts = ac_luma_counts; symbols = ac_luma_values }) (record { counts = ac_chroma_counts; symbols = ac_chroma_values })))) (sym e) (ac_by true)
    by false e = subst (λ t. IsFull (table_codes (cond t (record { counts = ac_luma_counts; symbols = ac_luma_values }) (record { counts = ac_chroma_counts; symbols = ac_chroma_values })))) (sym e) (ac_by false)

pub dc_full : (slot n : ℕ) → n ≤ 11 → Has (table_codes (typical_table 0 slot)) n
dc_full slot n h = by (slot == 0) refl
  where
    by : (b : Bool) → (slot == 0) ≡ b → Has (table_codes (typical_table 0 slot)) n
    by true e = subst (λ t. Has (table_codes (cond t (record { counts = dc_luma_counts; symbols = dc_luma_values }) (record { counts = dc_chroma_counts; symbols = dc_chroma_values }))) n) (sym e) (dc_by true n h)
    by false e = subst (λ t. Has (table_codes (cond t (record { counts = dc_luma_counts; symbols = dc_luma_values }) (record { counts = dc_chroma_counts; symbols = dc_chroma_values }))) n) (sym e) (dc_by false n h)

-- THE ELEMENTS of a band have codes

value_have : (c : Coding) (i run : ℕ) (bits : List Bool) (sents : List Sent) (olds news : List ℤ) → IsFull (c.ac i) → c.most_category ≤ 10 → run ≤ 15 → AllSent c sents olds news → AllHave (c.ac i) (value_elements run bits sents)
value_have c i run bits [] olds news full most small h = tt
value_have c i run bits (correction b ∷ sents) olds news full most small h = value_have c i run (bits ++ b ∷ []) sents h.1 h.3 full most small h.7
value_have c i run bits (newly_significant (pos zero) ∷ sents) olds news full most small h =
    ⊎_elim
    (λ (s : run ≡ 15).
    let t : (run == 15) ≡ true = grind (arith, nat_tests) in
    subst (λ b. AllHave (c.ac i) (cond b (long_run bits ∷ value_elements 0 [] sents) (value_elements (run + 1) bits sents))) (sym t)
    (full.zrl, value_have c i 0 [] sents h.1 h.3 full most (lit≤ tt) h.7))
    (λ (s : run ≢ 15).
    let t : (run == 15) ≡ false = grind (arith, nat_tests) in
    subst (λ b. AllHave (c.ac i) (cond b (long_run bits ∷ value_elements 0 [] sents) (value_elements (run + 1) bits sents))) (sym t)
    (value_have c i (run + 1) bits sents h.1 h.3 full most (omega arith) h.7))
    (cases_eq run 15)
value_have c i run bits (newly_significant (pos (suc m)) ∷ sents) olds news full most small h =
    let k = (h.6).2 refl in
    (full.values run (category (pos (suc m))) small k.0 (omega (arith, k.1, most)), value_have c i 0 [] sents h.1 h.3 full most (lit≤ tt) h.7)
value_have c i run bits (newly_significant (negsuc m) ∷ sents) olds news full most small h =
    let k = (h.6).2 refl in
    (full.values run (category (negsuc m)) small k.0 (omega (arith, k.1, most)), value_have c i 0 [] sents h.1 h.3 full most (lit≤ tt) h.7)

have_join : (table : List Code) (a b : List Element) → AllHave table a → AllHave table b → AllHave table (a ++ b)
have_join table [] b h k = k
have_join table (e ∷ a) b h k = (h.0, have_join table a b h.1 k)

body_have : (c : Coding) (i : ℕ) (front rest : List Sent) (olds news : List ℤ) → IsFull (c.ac i) → c.most_category ≤ 10 → AllSent c front olds news → AllHave (c.ac i) (body 1 0 [] front rest [])
unfolding body digits
body_have c i [] [] olds news full most h = tt
body_have c i [] (r ∷ rest) olds news full most h = (full.eob, tt)
body_have c i (f ∷ front) [] olds news full most h = have_join (c.ac i) (value_elements 0 [] (f ∷ front)) [] (value_have c i 0 [] (f ∷ front) olds news full most (lit≤ tt) h) tt
body_have c i (f ∷ front) (r ∷ rest) olds news full most h =
    have_join (c.ac i) (value_elements 0 [] (f ∷ front)) (ends 1 _ ∷ []) (value_have c i 0 [] (f ∷ front) olds news full most (lit≤ tt) h) (full.eob, tt)

pub band_have : (c : Coding) (i : ℕ) (band : List Sent) (olds news : List ℤ) → IsFull (c.ac i) → c.most_category ≤ 10 → AllSent c band olds news → AllHave (c.ac i) (band_elements 1 0 [] (band ∷ []))
unfolding body
band_have c i band olds news full most h =
    let s = (split c band olds news h).parts in
    body_have c i _ _ s.o1 s.n1 full most s.front_sent
