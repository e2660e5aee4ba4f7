-- The table of codes of one length is made as it is defined.
use Rattle.std.proofs.Common.{◌≡◌, ℕ, suc, ◌+◌, ◌-◌, ◌^◌, ◌<◌, ◌≤◌, true, cond, List, ◌∷◌, ◌++◌, length, take, refl, sym, ap, ◌∙◌, subst, arith, ⊎_elim}
use Rattle.std.specs.Prelude.{replicate, sum}
use Rattle.std.proofs.Math.Seq.{take_all}
use Rattle.std.proofs.lemmas.Bool.{cases_lt}
use Rattle.std.proofs.lemmas.List.{length-take-le}
use Rattle.jpg_spec.specs.Codes.{are_codes}
use Rattle.jpg_spec.specs.Segments.{HuffmanTable}
use Rattle.jpg_spec.specs.FlatTable.{flat_length_from, flat_table}
use Rattle.jpg_spec.proofs.Basics.Common.{lt_no, clash}
use Rattle.jpg_spec.proofs.Bits.FlatTables.{flat_valid}
use Rattle.jpg_huff.specs.declared.table.Table.{Table}
use Rattle.jpg_huff.specs.declared.new.TableFault.{TableFault}
use Rattle.jpg_huff.specs.declared.new.TableFault.TheVariants.{TooManyCodes, ShortValues, OverfullCodes}
use Rattle.jpg_huff.specs.Tables.{table_of}
use Rattle.jpg_huff.specs.New.{IsTableOf, IsFault}

-- one more length
pub longer : (n size : ℕ) → 1 ≤ size → size ≤ 8 → 2 ^ size ≤ n → flat_length_from (9 - size) size n ≡ flat_length_from (9 - (size + 1)) (size + 1) n
longer n size low high big =
    let e : 9 - size ≡ suc (9 - (size + 1)) = omega (arith, high) in
    ap (λ m. flat_length_from m size n) e ∙ ap (λ b. cond b size (flat_length_from (9 - (size + 1)) (size + 1) n)) (lt_no n (2 ^ size) big)

pub short : (n size : ℕ) → n < 256 → size ≤ 8 → 2 ^ size ≤ n → size + 1 ≤ 8
short n size few high big = ⊎_elim (λ (h : size < 8). omega (arith, h)) (λ (h : 8 ≤ size). absurd (eight (let e : size ≡ 8 = omega (arith, h, high) in e))) (cases_lt size 8)
  where
    eight : size ≡ 8 → ⊥
    eight e = omega (arith, few, subst (λ m. 2 ^ m ≤ n) e big)

-- the symbols that were kept
pub kept_count : (all symbols : List ℕ) (n : ℕ) → take n all ≡ symbols → n ≤ length all → n ≡ length symbols
kept_count all symbols n e h = sym (length-take-le n all h) ∙ ap length e

abbrev pub flat_list : ℕ → List ℕ
flat_list n = replicate (flat_length_from 8 1 n - 1) 0 ++ n ∷ replicate (16 - flat_length_from 8 1 n) 0

counts_are : (symbols bits : List ℕ) (n : ℕ) → n ≡ length symbols → bits ≡ flat_list n → bits ≡ (flat_table symbols).counts
unfolding flat_table
counts_are symbols bits n e is = is ∙ ap flat_list e

symbols_are : (symbols : List ℕ) → (flat_table symbols).symbols ≡ symbols
unfolding flat_table
symbols_are symbols = refl

abbrev made : List ℕ → List ℕ → HuffmanTable
made counts symbols = record { counts = counts; symbols = symbols }

pub made_flat : (symbols bits values : List ℕ) (n : ℕ) (t : Table) → length symbols ≤ 255 → n ≡ length symbols → bits ≡ flat_list n → values ≡ symbols → IsTableOf bits values t → table_of t ≡ flat_table symbols
made_flat symbols bits values n t few e is same of =
    let v = flat_valid symbols (omega (arith, few)) in
    let counts = counts_are symbols bits n e is in
    let total : sum bits ≡ length symbols = ap sum counts ∙ v.total ∙ ap length (symbols_are symbols) in
    of.table ∙ ap (λ c. made c (take (sum bits) values)) counts ∙ ap (λ m. made (flat_table symbols).counts (take m values)) total
    ∙ ap (λ xs. made (flat_table symbols).counts (take (length symbols) xs)) same ∙ ap (made (flat_table symbols).counts) (take_all (length symbols) symbols (omega arith) ∙ sym (symbols_are symbols))

pub never_bad : (symbols bits values : List ℕ) (n : ℕ) (fault : TableFault) → length symbols ≤ 255 → n ≡ length symbols → bits ≡ flat_list n → values ≡ symbols → IsFault bits values fault → ⊥
never_bad symbols bits values n fault few e is same bad =
    let v = flat_valid symbols (omega (arith, few)) in
    let counts = counts_are symbols bits n e is in
    let total : sum bits ≡ length symbols = ap sum counts ∙ v.total ∙ ap length (symbols_are symbols) in
    by fault total (ap (are_codes 1 0) counts ∙ v.fits) bad
  where
    by : (f : TableFault) → sum bits ≡ length symbols → are_codes 1 0 bits ≡ true → IsFault bits values f → ⊥
    by TooManyCodes t fits bad = omega (arith, t, few, bad)
    by ShortValues t fits bad = (let l = ap length same in omega (arith, t, l, bad.1))
    by OverfullCodes t fits bad = clash (are_codes 1 0 bits) fits bad.2
