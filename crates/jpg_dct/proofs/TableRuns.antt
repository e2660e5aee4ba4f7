-- Reading a spelling of tables byte by byte gives the tables that it encodes.
use Rattle.std.proofs.Common.{◌≡◌, ℕ, ◌+◌, ◌-◌, ◌*◌, ◌<◌, ◌≤◌, Bool, true, false, cond, not, ◌&&◌, ◌==◌, List, [], ◌∷◌, ◌++◌, length, map, refl, ap, ◌∙◌, arith, None, Some}
use Rattle.std.specs.Prelude.{◌||◌, nat_lt, nat_le, flat_map}
use Rattle.std.proofs.lemmas.Bool.Decides.{nat_tests}
use Rattle.std.proofs.lemmas.List.{append_assoc, length-append, length-map}
use Rattle.jpg_spec.specs.Lists.{all_of, is_empty}
use Rattle.jpg_spec.specs.NumberTexts.{is_digit, digits_from, without_comments, is_space, NumberWord, number_text, parsed_numbers}
use Rattle.jpg_spec.specs.Segments.{QuantTable}
use Rattle.jpg_spec_image.specs.TableText.{is_quantiser_number, is_first_quantiser, is_further_quantiser, are_apart, is_count, tables_of, SpellsTables}
use Rattle.jpg_spec.proofs.Basics.Common.{both, and_intro, same_of, le_of, lt_yes}
use Rattle.jpg_spec.specs.TextReaders.{run}
use Rattle.jpg_spec.proofs.Texts.TextRuns.{run_two, run_cons, run_nil, space_no_digit, grows, value_of}
use Rattle.jpg_spec.proofs.Texts.TextsRead.{ReadsAs}
use Rattle.jpg_dct.specs.TableState.{NumbersState, no_numbers, ended, digit_step, number_step, parsed_tables, table_reader}

-- ONE BYTE of numbers

pub number_digit : (s : NumbersState) (b : ℕ) → is_digit b ≡ true → number_step s b ≡ digit_step s (b - 48)
number_digit s b e = ap (λ t. cond t (digit_step s (b - 48)) (cond (is_space b) (Some (ended s)) None)) e

pub number_space : (s : NumbersState) (b : ℕ) → is_space b ≡ true → number_step s b ≡ Some (ended s)
number_space s b e =
    ap (λ t. cond t (digit_step s (b - 48)) (cond (is_space b) (Some (ended s)) None)) (space_no_digit b e)
    ∙ ap (λ t. cond t (Some (ended s)) None) e

-- these numbers, and a current number with n digits and the value v
abbrev pub at : List ℕ → ℕ → ℕ → NumbersState
at ns n v = record { numbers = ns; digits = n; value = v }

pub ended_in : (ns : List ℕ) (n v : ℕ) → 1 ≤ n → ended (at ns n v) ≡ at (ns ++ v ∷ []) 0 0
ended_in ns n v some =
    let no : (n == 0) ≡ false = grind (arith, nat_tests, some) in
    ap (λ t. cond t (at ns n v) (at (ns ++ v ∷ []) 0 0)) no

pub ended_twice : (s : NumbersState) → ended (ended s) ≡ ended s
ended_twice s = by (s.digits == 0) refl
  where
    by : (t : Bool) → (s.digits == 0) ≡ t → ended (cond t s (at (s.numbers ++ s.value ∷ []) 0 0)) ≡ cond t s (at (s.numbers ++ s.value ∷ []) 0 0)
    by true e = ap (λ t. cond t s (at (s.numbers ++ s.value ∷ []) 0 0)) e
    by false e = refl

-- A NUMBER

pub digit_taken : (ns : List ℕ) (n v d : ℕ) → length ns < 256 → n < 5 → 10 * v + d ≤ 65535 → digit_step (at ns n v) d ≡ Some (at ns (n + 1) (10 * v + d))
digit_taken ns n v d room few small =
    let fits : nat_le (10 * v + d) 65535 ≡ true = grind (arith, nat_tests, small) in
    ap (λ t. cond t (Some (at ns (n + 1) (10 * v + d))) None)
    (and_intro (nat_lt (length ns) 256) (nat_lt n 5 && nat_le (10 * v + d) 65535) (lt_yes (length ns) 256 room) (and_intro (nat_lt n 5) (nat_le (10 * v + d) 65535) (lt_yes n 5 few) fits))

digits_on : (ns : List ℕ) (n v : ℕ) (ds : List ℕ) → all_of is_digit ds ≡ true → length ns < 256 → n + length ds ≤ 5 → digits_from v ds ≤ 65535
    → run number_step (at ns n v) ds ≡ Some (at ns (n + length ds) (digits_from v ds))
digits_on ns n v [] all room few small = run_nil number_step (at ns n v) ∙ ap (λ m. Some (at ns m v)) (omega arith)
digits_on ns n v (d ∷ ds) all room few small =
    let s = both (is_digit d) (all_of is_digit ds) all in
    let next = 10 * v + (d - 48) in
    let up = grows next ds in
    run_cons number_step (at ns n v) (at ns (n + 1) next) d ds
    (number_digit (at ns n v) d s.0 ∙ digit_taken ns n v (d - 48) room (omega (arith, few)) (omega (arith, up, small)))
    ∙ digits_on ns (n + 1) next ds s.1 room (omega (arith, few)) small
    ∙ ap (λ m. Some (at ns m (digits_from next ds))) (omega arith)

number_some : (ds : List ℕ) → is_quantiser_number ds ≡ true → 1 ≤ length ds
number_some ds e =
    let s = both (nat_le 1 (length ds) && nat_le (length ds) 5) (all_of is_digit ds && nat_le (digits_from 0 ds) 65535) e in
    le_of 1 (length ds) (both (nat_le 1 (length ds)) (nat_le (length ds) 5) s.0).0

number_run : (ns ds : List ℕ) → length ns < 256 → is_quantiser_number ds ≡ true → run number_step (at ns 0 0) ds ≡ Some (at ns (length ds) (digits_from 0 ds))
number_run ns ds room e =
    let s = both (nat_le 1 (length ds) && nat_le (length ds) 5) (all_of is_digit ds && nat_le (digits_from 0 ds) 65535) e in
    let many = both (nat_le 1 (length ds)) (nat_le (length ds) 5) s.0 in
    let value = both (all_of is_digit ds) (nat_le (digits_from 0 ds) 65535) s.1 in
    let few = le_of (length ds) 5 many.1 in
    digits_on ns 0 0 ds value.0 room (omega (arith, few)) (le_of (digits_from 0 ds) 65535 value.1)
    ∙ ap (λ m. Some (at ns m (digits_from 0 ds))) (omega arith)

-- SPACE

spaces_on : (s : NumbersState) (sp : List ℕ) → all_of is_space sp ≡ true → run number_step (ended s) sp ≡ Some (ended s)
spaces_on s [] e = run_nil number_step (ended s)
spaces_on s (b ∷ sp) e =
    let p = both (is_space b) (all_of is_space sp) e in
    run_cons number_step (ended s) (ended s) b sp (number_space (ended s) b p.0 ∙ ap (λ t. Some t) (ended_twice s)) ∙ spaces_on s sp p.1

gap_run : (s : NumbersState) (gap : List ℕ) → not (is_empty gap) ≡ true → all_of is_space gap ≡ true → run number_step s gap ≡ Some (ended s)
gap_run s [] some e = cc
gap_run s (b ∷ gap) some e =
    let p = both (is_space b) (all_of is_space gap) e in
    run_cons number_step s (ended s) b gap (number_space s b p.0) ∙ spaces_on s gap p.1

record AfterSpaces (s : NumbersState) (bytes : List ℕ) : Type 0 where
  state : NumbersState
  run : run number_step s bytes ≡ Some state
  same : ended state ≡ ended s

spaces_after : (s : NumbersState) (sp : List ℕ) → all_of is_space sp ≡ true → AfterSpaces s sp
spaces_after s [] e = record { state = s; run = run_nil number_step s; same = refl }
spaces_after s (b ∷ sp) e = record { state = ended s; run = gap_run s (b ∷ sp) refl e; same = ended_twice s }

-- NUMBERS: the bytes end in the last of them

record EndsIn (s : NumbersState) (bytes told : List ℕ) : Type 0 where
  numbers : List ℕ
  digits : ℕ
  value : ℕ
  some : 1 ≤ digits
  run : run number_step s bytes ≡ Some (at numbers digits value)
  all : numbers ++ value ∷ [] ≡ told

further_run : (ns : List ℕ) (n v : ℕ) (ws : List NumberWord) → 1 ≤ n → all_of is_further_quantiser ws ≡ true → length ns + length ws < 256
    → EndsIn (at ns n v) (flat_map number_text ws) (ns ++ v ∷ map value_of ws)
further_run ns n v [] some e l = record { numbers = ns; digits = n; value = v; some = some; run = run_nil number_step (at ns n v); all = refl }
further_run ns n v (w ∷ ws) some e l =
    let s = both (is_further_quantiser w) (all_of is_further_quantiser ws) e in
    let parts = both (not (is_empty w.gap)) (is_first_quantiser w) s.0 in
    let first = both (all_of is_space w.gap) (is_quantiser_number w.digits) parts.1 in
    let more = length-append ns (v ∷ []) in
    let room : length (ns ++ v ∷ []) < 256 = omega (arith, l, more) in
    let g = gap_run (at ns n v) w.gap parts.0 first.0 ∙ ap (λ (t : NumbersState). Some t) (ended_in ns n v some) in
    let d = number_run (ns ++ v ∷ []) w.digits room first.1 in
    let rest = further_run (ns ++ v ∷ []) (length w.digits) (value_of w) ws (number_some w.digits first.1) s.1 (omega (arith, l, more)) in
    record {
      numbers = rest.numbers;
      digits = rest.digits;
      value = rest.value;
      some = rest.some;
      run = run_two number_step (at ns n v) (at (ns ++ v ∷ []) (length w.digits) (value_of w)) (number_text w) (flat_map number_text ws)
          (run_two number_step (at ns n v) (at (ns ++ v ∷ []) 0 0) w.gap w.digits g ∙ d)
          ∙ rest.run;
      all = rest.all ∙ append_assoc ns (v ∷ []) (value_of w ∷ map value_of ws);
    }

words_run : (ws : List NumberWord) → are_apart ws ≡ true → 1 ≤ length ws → length ws ≤ 256 → EndsIn no_numbers (flat_map number_text ws) (map value_of ws)
words_run [] e some l = absurd (omega (arith, some))
words_run (w ∷ ws) e some l =
    let s = both (is_first_quantiser w) (all_of is_further_quantiser ws) e in
    let parts = both (all_of is_space w.gap) (is_quantiser_number w.digits) s.0 in
    let g = spaces_on no_numbers w.gap parts.0 in
    let d = number_run [] w.digits (omega arith) parts.1 in
    let rest = further_run [] (length w.digits) (value_of w) ws (number_some w.digits parts.1) s.1 (omega (arith, l)) in
    record {
      numbers = rest.numbers;
      digits = rest.digits;
      value = rest.value;
      some = rest.some;
      run = run_two number_step no_numbers (at [] (length w.digits) (value_of w)) (number_text w) (flat_map number_text ws) (run_two number_step no_numbers no_numbers w.gap w.digits g ∙ d) ∙ rest.run;
      all = rest.all;
    }

-- ALL OF A SPELLING

pub counted : (n : ℕ) → is_count n ≡ true → (1 ≤ n) × (n ≤ 256)
counted n e = by (n == 64) (n == 128) (n == 192) refl refl refl e
  where
    by : (x y z : Bool) → (n == 64) ≡ x → (n == 128) ≡ y → (n == 192) ≡ z → (x || (y || (z || (n == 256)))) ≡ true → (1 ≤ n) × (n ≤ 256)
    by true y z a b c e = let s = same_of n 64 a in (omega (arith, s), omega (arith, s))
    by false true z a b c e = let s = same_of n 128 b in (omega (arith, s), omega (arith, s))
    by false false true a b c e = let s = same_of n 192 c in (omega (arith, s), omega (arith, s))
    by false false false a b c e = let s = same_of n 256 e in (omega (arith, s), omega (arith, s))

pub told_by : (s : NumbersState) (ns : List ℕ) → (ended s).numbers ≡ ns → is_count (length ns) ≡ true → parsed_tables s ≡ Some (tables_of ns)
told_by s ns e count = ap (λ (l : List ℕ). cond (is_count (length l)) (Some (tables_of l)) None) e ∙ ap (λ t. cond t (Some (tables_of ns)) None) count

pub spelled_run : (text : List ℕ) (tables : List QuantTable) → SpellsTables text tables → ReadsAs (List QuantTable) NumbersState table_reader (without_comments false text) tables
spelled_run text tables sp =
    let w = sp.word in
    let s = both (are_apart w.numbers && all_of is_space w.after) (is_count (length w.numbers)) sp.formed in
    let p = both (are_apart w.numbers) (all_of is_space w.after) s.0 in
    let bounds = counted (length w.numbers) s.1 in
    let all = words_run w.numbers p.0 bounds.0 bounds.1 in
    let last = at all.numbers all.digits all.value in
    let end = spaces_after last w.after p.1 in
    let whole : (ended end.state).numbers ≡ parsed_numbers w = ap (λ (t : NumbersState). t.numbers) (end.same ∙ ended_in all.numbers all.digits all.value all.some) ∙ all.all in
    record {
      state = end.state;
      run = ap (run number_step no_numbers) sp.spelled ∙ run_two number_step no_numbers last (flat_map number_text w.numbers) w.after all.run ∙ end.run;
      is = told_by end.state (parsed_numbers w) whole (ap is_count (length-map w.numbers value_of) ∙ s.1) ∙ ap (λ (l : List QuantTable). Some l) sp.told;
    }
