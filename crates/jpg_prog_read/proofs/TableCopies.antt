-- Tables made of another's counts and symbols.
use Rattle.std.proofs.Common.{◌≡◌, ℕ, ◌<◌, List, length, get_or, sym, ap, ◌∙◌, arith}
use Rattle.std.specs.Prelude.{take, sum}
use Rattle.std.proofs.lemmas.List.{ext_get_or, take_all}
use Rattle.jpg_spec.specs.Segments.{HuffmanTable, table_codes}
use Rattle.jpg_spec.specs.Codes.{are_codes}
use Rattle.jpg_spec.proofs.Basics.Common.{clash}
use Rattle.jpg_huff.specs.declared.table.Table.{Table}
use Rattle.jpg_huff.specs.declared.new.TableFault.{TableFault}
use Rattle.jpg_huff.specs.declared.new.TableFault.TheVariants as fault
use Rattle.jpg_huff.specs.New.{IsTableOf, IsFault}
use Rattle.jpg_huff.specs.Tables.{table_of, symbol_codes}
use Rattle.jpg_huff.proofs.Tables.{is_table}

-- all sixteen counts
pub counts_same : (t : Table) (counts : List ℕ) → length counts ≡ 16 → ((k : ℕ) → k < 16 → get_or counts k 0 ≡ get_or (table_of t).counts k 0) → counts ≡ (table_of t).counts
counts_same t counts long each = ext_get_or 0 counts (table_of t).counts (long ∙ sym (is_table t).sixteen) (λ k h. each k (omega (arith, h, long)))

pub same_codes : (t u : Table) (counts symbols : List ℕ) → counts ≡ (table_of t).counts → symbols ≡ (table_of t).symbols → IsTableOf counts symbols u → symbol_codes u ≡ symbol_codes t
same_codes t u counts symbols c s is =
    let all : take (sum counts) symbols ≡ (table_of t).symbols = ap (λ l. take (sum l) symbols) c ∙ ap (take (sum (table_of t).counts)) s ∙ take_all (sum (table_of t).counts) (table_of t).symbols (omega (arith, (is_table t).many)) in
    ap table_codes (is.table ∙ ap (λ l. (let h : HuffmanTable = record { counts = l; symbols = take (sum counts) symbols } in h)) c ∙ ap (λ l. (let h : HuffmanTable = record { counts = (table_of t).counts; symbols = l } in h)) all)

-- nothing is wrong with them
pub no_fault : (t : Table) (counts symbols : List ℕ) (f : TableFault) → counts ≡ (table_of t).counts → symbols ≡ (table_of t).symbols → IsFault counts symbols f → ⊥
no_fault t counts symbols fault.TooManyCodes c s h = omega (arith, h, ap sum c, (is_table t).most)
no_fault t counts symbols fault.ShortValues c s h = omega (arith, h.1, ap sum c, ap length s, (is_table t).many)
no_fault t counts symbols fault.OverfullCodes c s h = clash (are_codes 1 0 counts) (ap (are_codes 1 0) c ∙ (is_table t).tested) h.2
