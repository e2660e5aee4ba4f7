-- Bytes that were read are the beginning of some text of tables: the end of a line and as many zeros as are left may
-- follow them; the reader of tables.
use Rattle.std.proofs.Common.{◌≡◌, ℕ, zero, suc, ◌+◌, ◌≤◌, false, List, [], ◌∷◌, ◌++◌, length, refl, sym, ap, ◌∙◌, arith, Some}
use Rattle.std.specs.Prelude.{◌-◌, option_map}
use Rattle.std.proofs.lemmas.List.{length-append, length-map}
use Rattle.jpg_spec.specs.NumberTexts.{without_comments}
use Rattle.jpg_spec.specs.Segments.{QuantTable}
use Rattle.jpg_spec.specs.TextReaders.{reader_step, run, plain}
use Rattle.jpg_spec.proofs.Texts.TextRuns.{run_cons, run_nil, value_of}
use Rattle.jpg_spec.proofs.Texts.TextsRead.{Finishes, ReadsForm}
use Rattle.jpg_spec_image.specs.TableText.{is_count, tables_of, tables_form}
use Rattle.jpg_dct.specs.TableState.{NumbersState, no_numbers, ended, number_step, table_reader}
use Rattle.jpg_dct.proofs.TableRuns.{at, digit_taken, number_space, told_by, spelled_run}
use Rattle.jpg_dct.proofs.TableFronts.{read_as, told_spells}

-- numbers 0, each followed by a space
zeros_text : ℕ → List ℕ
zeros_text zero = []
zeros_text (suc n) = 48 ∷ 32 ∷ zeros_text n

record GoesOn (ns : List ℕ) (n : ℕ) : Type 0 where
  numbers : List ℕ
  long : length numbers ≡ length ns + n
  run : run (reader_step number_step) (plain (at ns 0 0)) (zeros_text n) ≡ Some (plain (at numbers 0 0))

zeros_run : (ns : List ℕ) (n : ℕ) → length ns + n ≤ 256 → GoesOn ns n
unfolding zeros_text
zeros_run ns zero l = record { numbers = ns; long = omega arith; run = run_nil (reader_step number_step) (plain (at ns 0 0)) }
zeros_run ns (suc n) l =
    let more = length-append ns (0 ∷ []) in
    let rest = zeros_run (ns ++ 0 ∷ []) n (omega (arith, l, more)) in
    let long = rest.long in
    let digit : reader_step number_step (plain (at ns 0 0)) 48 ≡ Some (plain (at ns 1 0)) = ap (option_map plain) (digit_taken ns 0 0 0 (omega (arith, l)) (omega arith) (omega arith)) in
    record {
      numbers = rest.numbers;
      long = omega (arith, long, more);
      run = run_cons (reader_step number_step) (plain (at ns 0 0)) (plain (at ns 1 0)) 48 (32 ∷ zeros_text n) digit
          ∙ run_cons (reader_step number_step) (plain (at ns 1 0)) (plain (at (ns ++ 0 ∷ []) 0 0)) 32 (zeros_text n) refl ∙ rest.run;
    }

goes_on : (text : List ℕ) (s : NumbersState) → run number_step no_numbers text ≡ Some s → Finishes (List QuantTable) NumbersState table_reader (at (ended s).numbers 0 0)
goes_on text s e =
    let i = read_as text s e in
    let ns = (ended s).numbers in
    let long : length i.words ≡ length ns = sym (length-map i.words value_of) ∙ ap length i.told in
    let most = i.most in
    let g = zeros_run ns (256 - length ns) (omega (arith, long, most)) in
    let all : length g.numbers ≡ 256 = (let l = g.long in omega (arith, long, most, l)) in
    record {
      rest = zeros_text (256 - length ns);
      state = plain (at g.numbers 0 0);
      run = g.run;
      told = tables_of g.numbers;
      is = told_by (at g.numbers 0 0) g.numbers refl (ap is_count all);
    }

-- THE READER of tables
pub reads_tables : ReadsForm (List QuantTable) NumbersState tables_form table_reader
reads_tables = record {
  spelled = spelled_run;
  told = told_spells;
  goes_on = λ text s e. (
    at (ended s).numbers 0 0,
    number_space s 10 refl ∙ ap (λ (t : NumbersState). Some t) (read_as (without_comments false text) s e).none,
    goes_on (without_comments false text) s e,
  );
}
