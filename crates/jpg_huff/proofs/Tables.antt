-- The codes of a table, and of its symbols with others after them.
use Rattle.std.proofs.Common.{◌≡◌, ℕ, zero, suc, ◌+◌, ◌*◌, ◌/◌, ◌%◌, ◌^◌, ◌≤◌, ◌==◌, true, false, cond, Some, None, List, [], ◌∷◌, ◌++◌, ◌&&◌, take, drop, refl, sym, ap, ◌∙◌, subst, arith}
use Rattle.std.specs.Prelude.{nat_lt, unwrap_or}
use Rattle.std.specs.List.{sum}
use Rattle.std.proofs.lemmas.Bool.Decides.{nat_tests}
use Rattle.std.proofs.lemmas.List.Sums.{sum_by-cons}
use Rattle.jpg_spec.specs.Bits.{bits_of}
use Rattle.jpg_spec.specs.Codes.{Code, codes, codes_at, codes_from, first_code}
use Rattle.jpg_spec.specs.Codes.{code_of}
use Rattle.std.proofs.lemmas.List.{length-take, drop-take}
use Rattle.jpg_spec.specs.Codes.{AreCodes}
use Rattle.jpg_spec.specs.Codes as test
use Rattle.jpg_spec.proofs.Bits.OneCode.{one_code}
use Rattle.jpg_huff.specs.Tables.{symbol_codes, table_of}
use Rattle.jpg_huff.specs.Index.{entry_code}
use Rattle.jpg_huff.specs.Laws.{IsTable, AreApart}
use Rattle.jpg_huff.proofs.Steps.{are_codes}
use Rattle.jpg_huff.specs.declared.table.Table.{Table}

pub level_take : (k n len c : ℕ) (symbols : List ℕ) → k ≤ n → codes_at k len c (take n symbols) ≡ codes_at k len c symbols
level_take zero n len c symbols h = refl
level_take (suc k) zero len c symbols h = absurd (omega arith)
level_take (suc k) (suc n) len c [] h = refl
level_take (suc k) (suc n) len c (s ∷ symbols) h = ap (λ (l : List Code). (let first : Code = (bits_of len c, s) in first ∷ l)) (level_take k n len (c + 1) symbols (omega arith))

levels_take : (counts : List ℕ) (len c : ℕ) (symbols : List ℕ) → codes_from len c counts (take (sum counts) symbols) ≡ codes_from len c counts symbols
levels_take [] len c symbols = refl
levels_take (k ∷ counts) len c symbols =
    let s : sum (k ∷ counts) ≡ k + sum counts = sum_by-cons (λ (x : ℕ). x) k counts in
    let d : drop k (take (sum (k ∷ counts)) symbols) ≡ take (sum counts) (drop k symbols) = ap (λ m. drop k (take m symbols)) s ∙ drop-take k (sum counts) symbols in
    ap (λ l. l ++ codes_from (len + 1) (2 * (c + k)) counts (drop k (take (sum (k ∷ counts)) symbols))) (level_take k (sum (k ∷ counts)) len c symbols (omega (arith, s)))
    ∙ ap (λ xs. codes_at k len c symbols ++ codes_from (len + 1) (2 * (c + k)) counts xs) d
    ∙ ap (λ l. codes_at k len c symbols ++ l) (levels_take counts (len + 1) (2 * (c + k)) (drop k symbols))

pub codes_take : (counts symbols : List ℕ) → codes counts (take (sum counts) symbols) ≡ codes counts symbols
unfolding codes
codes_take counts symbols = levels_take counts 1 0 symbols

-- those of the symbols that a table keeps
pub codes_kept : (t : Table) → codes t.counts t.symbols ≡ symbol_codes t
codes_kept t = sym (ap (λ n. codes t.counts (take n t.symbols)) t.summed ∙ codes_take t.counts t.symbols)

-- codes that fit pass the test
tested : (len c : ℕ) (counts : List ℕ) → AreCodes len c counts → test.are_codes len c counts ≡ true
unfolding test.are_codes
tested len c [] h = refl
tested len c (k ∷ counts) h =
    let low = h.0 in
    let first : nat_lt (c + k) (2 ^ len) ≡ true = grind (arith, nat_tests) in
    ap (λ b. b && test.are_codes (len + 1) (2 * (c + k)) counts) first ∙ tested (len + 1) (2 * (c + k)) counts h.1

-- what holds of every table
pub is_table : (t : Table) → IsTable (table_of t)
is_table t =
    let x = t.indexed in
    let d : drop 0 t.counts ≡ t.counts = refl in
    let most : sum t.counts ≤ 256 = omega (arith, x.enough 0 (omega arith), x.start, x.size) in
    let P : ℕ → Type 0 = λ c. AreCodes 1 c t.counts in
    let fit : AreCodes 1 0 t.counts = subst P x.first (are_codes t.counts t.symbols t.firsts t.starts t.limits 15 0 x refl) in
    record {
      sixteen = x.sixteen;
      many = length-take t.total t.symbols ∙ omega (arith, t.summed, x.enough 0 (omega arith), x.start);
      most = most;
      fit = fit;
      tested = tested 1 0 t.counts fit;
    }

-- no code of a table begins another
pub apart : (t : Table) → AreApart (symbol_codes t)
unfolding codes
apart t a b x y h k e = one_code t.counts 1 0 (take t.total t.symbols) a b x y (is_table t).fit h k e

-- what an entry for writing has, as bits
entry_bits : (entry : ℕ) → bits_of (entry / 65536) (entry % 65536) ≡ unwrap_or (entry_code entry) []
unfolding bits_of
entry_bits zero = refl
entry_bits (suc n) =
    let t : (suc n == 0) ≡ false = grind (arith, nat_tests) in
    ap (λ b. unwrap_or (cond b None (Some (bits_of (suc n / 65536) (suc n % 65536)))) []) (sym t)

pub entry_written : (codes : List Code) (entry symbol : ℕ) → entry_code entry ≡ first_code codes symbol → bits_of (entry / 65536) (entry % 65536) ≡ code_of codes symbol
entry_written codes entry symbol e = entry_bits entry ∙ ap (λ o. unwrap_or o []) e
