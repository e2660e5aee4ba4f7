-- Huffman tables as loops read them, one after the other.
use Rattle.std.proofs.Common.{◌≡◌, ℕ, zero, suc, ◌-◌, ◌≤◌, ◌<◌, true, false, List, [], ◌∷◌, length, get_or, take, drop, slice_set, Some, Ok, Err, refl, sym, ap, subst, ◌∙◌, arith}
use Rattle.std.specs.Prelude.{◌/◌, ◌%◌, ◌==◌, Option}
use Rattle.std.proofs.lemmas.Bool.{eq-eqb, ne_eqb}
use Rattle.std.proofs.lemmas.List.{length-drop, take_all}
use Rattle.jpg_spec.specs.Faults.{Parsed}
use Rattle.jpg_spec.specs.Segments.{HuffmanTable}
use Rattle.jpg_spec.specs.QuantContents.{◌>>=◌}
use Rattle.jpg_spec.specs.HuffContents.{HuffmanDefinition, HuffmanSlots, definition_size, huffman_table_of, huffman_tables_of, huffman_tables, put_definition, put_definitions, parsed_huffmans}
use Rattle.jpg_spec.specs.declared.fault.Fault.{Fault}
use Rattle.jpg_markers.specs.Huffmans.{tables_judged}

abbrev AllTold : Type 0
AllTold = Parsed (List HuffmanDefinition)

-- the bound of the recursion doesn't matter if it is at least the length
enough : (m n : ℕ) (bytes : List ℕ) → length bytes ≤ m → length bytes ≤ n → huffman_tables_of m bytes ≡ huffman_tables_of n bytes
unfolding huffman_tables_of
enough zero zero [] low high = refl
enough zero (suc n) [] low high = refl
enough (suc m) zero [] low high = refl
enough (suc m) (suc n) [] low high = refl
enough zero n (tc ∷ bytes) low high = absurd (omega (arith, low))
enough (suc m) zero (tc ∷ bytes) low high = absurd (omega (arith, high))
enough (suc m) (suc n) (tc ∷ bytes) low high =
    ap (λ (r : AllTold). huffman_table_of tc bytes >>= λ first. r >>= λ others. Ok (first ∷ others))
    (enough m n (drop (definition_size bytes) bytes) (omega (arith, low, length-drop (definition_size bytes) bytes)) (omega (arith, high, length-drop (definition_size bytes) bytes)))

abbrev with_first : HuffmanDefinition → AllTold → AllTold
with_first d told = told >>= λ others. Ok (d ∷ others)

-- the tables that begin with a valid one
after : (tc : ℕ) (bytes : List ℕ) (d : HuffmanDefinition) → huffman_table_of tc bytes ≡ Ok d
    → huffman_tables (tc ∷ bytes) ≡ with_first d (huffman_tables (drop (definition_size bytes) bytes))
unfolding huffman_tables_of
after tc bytes d told =
    let rest = drop (definition_size bytes) bytes in
    let first : huffman_tables (tc ∷ bytes) ≡ with_first d (huffman_tables_of (length bytes) rest) = rw told refl in
    first ∙ ap (with_first d) (enough (length bytes) (length rest) rest (omega (arith, length-drop (definition_size bytes) bytes)) (omega arith))

refused : (tc : ℕ) (bytes : List ℕ) (fault : Fault) → huffman_table_of tc bytes ≡ Err fault → huffman_tables (tc ∷ bytes) ≡ Err fault
unfolding huffman_tables_of
refused tc bytes fault told = rw told refl

none_left : huffman_tables [] ≡ Ok []
unfolding huffman_tables_of
none_left = refl

-- the same if the rest is split into its first byte and the n others
after_at : (rest : List ℕ) (n : ℕ) (d : HuffmanDefinition) → 1 ≤ length rest → n ≡ length rest - 1 → Ok d ≡ huffman_table_of (get_or rest 0 0) (take n (drop 1 rest))
    → huffman_tables rest ≡ with_first d (huffman_tables (drop (definition_size (take n (drop 1 rest))) (take n (drop 1 rest))))
after_at [] n d low n-is told = absurd (omega (arith, low))
after_at (tc ∷ bytes) n d low n-is told =
    let whole : take n bytes ≡ bytes = take_all n bytes (omega (arith, n-is)) in
    rw whole (after tc bytes d (sym (subst (λ (b : List ℕ). Ok d ≡ huffman_table_of tc b) whole told)))

refused_at : (rest : List ℕ) (n : ℕ) (fault : Fault) → 1 ≤ length rest → n ≡ length rest - 1 → Err fault ≡ huffman_table_of (get_or rest 0 0) (take n (drop 1 rest))
    → huffman_tables rest ≡ Err fault
refused_at [] n fault low n-is told = absurd (omega (arith, low))
refused_at (tc ∷ bytes) n fault low n-is told =
    let whole : take n bytes ≡ bytes = take_all n bytes (omega (arith, n-is)) in
    refused tc bytes fault (sym (subst (λ (b : List ℕ). Err fault ≡ huffman_table_of tc b) whole told))

none_left_at : (rest : List ℕ) → length rest < 1 → huffman_tables rest ≡ Ok []
none_left_at [] high = none_left
none_left_at (tc ∷ bytes) high = absurd (omega (arith, high))

-- CHECKED

abbrev judge : AllTold → Parsed (Unit {0})
judge told = told >>= λ ds. Ok tt

judge_first : (d : HuffmanDefinition) (told : AllTold) → judge (with_first d told) ≡ judge told
judge_first d (Ok others) = refl
judge_first d (Err fault) = refl

pub judged_on : (rest : List ℕ) (n : ℕ) (d : HuffmanDefinition) → 1 ≤ length rest → n ≡ length rest - 1 → Ok d ≡ huffman_table_of (get_or rest 0 0) (take n (drop 1 rest))
    → tables_judged rest ≡ tables_judged (drop (definition_size (take n (drop 1 rest))) (take n (drop 1 rest)))
judged_on rest n d low n-is told =
    ap judge (after_at rest n d low n-is told) ∙ judge_first d (huffman_tables (drop (definition_size (take n (drop 1 rest))) (take n (drop 1 rest))))

pub judged_bad : (rest : List ℕ) (n : ℕ) (fault : Fault) → 1 ≤ length rest → n ≡ length rest - 1 → Err fault ≡ huffman_table_of (get_or rest 0 0) (take n (drop 1 rest))
    → tables_judged rest ≡ Err fault
judged_bad rest n fault low n-is told = ap judge (refused_at rest n fault low n-is told)

pub judged_all : (rest : List ℕ) → length rest < 1 → tables_judged rest ≡ Ok tt
judged_all rest high = ap judge (none_left_at rest high)

-- PUT

abbrev put : HuffmanSlots → AllTold → Parsed HuffmanSlots
put slots told = told >>= λ ds. Ok (put_definitions slots ds)

put_first : (slots : HuffmanSlots) (d : HuffmanDefinition) (told : AllTold) → put slots (with_first d told) ≡ put (put_definition slots d) told
put_first slots d (Ok others) = refl
put_first slots d (Err fault) = refl

pub put_on : (slots next : HuffmanSlots) (rest : List ℕ) (n : ℕ) (d : HuffmanDefinition) → 1 ≤ length rest → n ≡ length rest - 1
    → Ok d ≡ huffman_table_of (get_or rest 0 0) (take n (drop 1 rest)) → next ≡ put_definition slots d
    → parsed_huffmans slots rest ≡ parsed_huffmans next (drop (definition_size (take n (drop 1 rest))) (take n (drop 1 rest)))
put_on slots next rest n d low n-is told same =
    let others = huffman_tables (drop (definition_size (take n (drop 1 rest))) (take n (drop 1 rest))) in
    ap (put slots) (after_at rest n d low n-is told) ∙ put_first slots d others ∙ ap (λ (s : HuffmanSlots). put s others) (sym same)

pub put_bad : (slots : HuffmanSlots) (rest : List ℕ) (n : ℕ) (fault : Fault) → 1 ≤ length rest → n ≡ length rest - 1
    → Err fault ≡ huffman_table_of (get_or rest 0 0) (take n (drop 1 rest)) → parsed_huffmans slots rest ≡ Err fault
put_bad slots rest n fault low n-is told = ap (put slots) (refused_at rest n fault low n-is told)

pub put_none : (slots : HuffmanSlots) (rest : List ℕ) → length rest < 1 → parsed_huffmans slots rest ≡ Ok slots
put_none slots rest high = ap (put slots) (none_left_at rest high)

-- ONE SLOT

abbrev slots : List (Option HuffmanTable) → List (Option HuffmanTable) → HuffmanSlots
slots dc ac = record { dc = dc; ac = ac }

slots_same : (a b : HuffmanSlots) → a.dc ≡ b.dc → a.ac ≡ b.ac → a ≡ b
slots_same a b dc ac = ap (λ (xs : List (Option HuffmanTable)). slots xs a.ac) dc ∙ ap (slots b.dc) ac

abbrev put_in : HuffmanSlots → ℕ → HuffmanTable → HuffmanSlots
put_in slots tc t = put_definition slots (record { class = tc / 16; slot = tc % 16; table = t })

pub put_dc : (old new : HuffmanSlots) (tc : ℕ) (t : HuffmanTable) → tc / 16 ≡ 0 → new.dc ≡ slice_set old.dc (tc % 16) (Some t) → new.ac ≡ old.ac → new ≡ put_in old tc t
put_dc old new tc t zero-is dc ac =
    let b : (tc / 16 == 0) ≡ true = eq-eqb (tc / 16) 0 zero-is in
    rw b (slots_same new (record { dc = slice_set old.dc (tc % 16) (Some t); ac = old.ac }) dc ac)

pub put_ac : (old new : HuffmanSlots) (tc : ℕ) (t : HuffmanTable) → (tc / 16 ≡ 0 → ⊥) → new.ac ≡ slice_set old.ac (tc % 16) (Some t) → new.dc ≡ old.dc → new ≡ put_in old tc t
put_ac old new tc t not-zero ac dc =
    let b : (tc / 16 == 0) ≡ false = ne_eqb (tc / 16) 0 not-zero in
    rw b (slots_same new (record { dc = old.dc; ac = slice_set old.ac (tc % 16) (Some t) }) dc ac)
