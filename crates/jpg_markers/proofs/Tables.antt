-- Quantisation tables as a loop reads them, one after the other.
use Rattle.std.proofs.Common.{◌≡◌, ℕ, zero, suc, ◌+◌, ◌*◌, ◌-◌, ◌≤◌, ◌<◌, Bool, true, false, List, [], ◌∷◌, ◌++◌, length, get_or, take, drop, slice_set, Some, Ok, Err, refl, ap, subst, ◌∙◌, arith}
use Rattle.std.specs.Prelude.{◌/◌, ◌==◌, if◌then◌else◌}
use Rattle.std.proofs.lemmas.Grind.{common_steps}
use Rattle.std.proofs.lemmas.List.{length-take, length-drop, drop-drop, take_all}
use Rattle.byteorder.specs.Endian.{big_number}
use Rattle.jpg_spec.specs.Faults.{Parsed}
use Rattle.jpg_spec.specs.Segments.{QuantTable, two_bytes}
use Rattle.jpg_spec.specs.QuantContents.{◌>>=◌, Slots, parsed_pairs, table_size, quant_table_of, parsed_quant, quant_tables_of, put_tables, parsed_quants}
use Rattle.jpg_spec.specs.declared.fault.Fault.{Fault}

-- the bound of the recursion doesn't matter if it is at least the length
enough : (m n : ℕ) (bytes : List ℕ) → length bytes ≤ m → length bytes ≤ n → quant_tables_of m bytes ≡ quant_tables_of n bytes
unfolding quant_tables_of
enough zero zero [] low high = refl
enough zero (suc n) [] low high = refl
enough (suc m) zero [] low high = refl
enough (suc m) (suc n) [] low high = refl
enough zero n (pt ∷ bytes) low high = absurd (omega (arith, low))
enough (suc m) zero (pt ∷ bytes) low high = absurd (omega (arith, high))
enough (suc m) (suc n) (pt ∷ bytes) low high =
    ap (λ (r : Parsed (List (ℕ × QuantTable))). quant_table_of pt bytes >>= λ first. r >>= λ others. Ok (first ∷ others))
    (enough m n (drop (table_size pt) bytes) (omega (arith, low, length-drop (table_size pt) bytes)) (omega (arith, high, length-drop (table_size pt) bytes)))

regroup : (slots : Slots) (x : ℕ × QuantTable) (told : Parsed (List (ℕ × QuantTable)))
    → ((told >>= λ others. Ok (x ∷ others)) >>= λ tables. Ok (put_tables slots tables)) ≡ (told >>= λ tables. Ok (put_tables (slice_set slots x.0 (Some x.1)) tables))
regroup slots x (Ok others) = refl
regroup slots x (Err fault) = refl

after : (slots : Slots) (pt : ℕ) (bytes : List ℕ) (x : ℕ × QuantTable) → quant_table_of pt bytes ≡ Ok x
    → parsed_quants slots (pt ∷ bytes) ≡ parsed_quants (slice_set slots x.0 (Some x.1)) (drop (table_size pt) bytes)
unfolding quant_tables_of
after slots pt bytes x told =
    let rest = drop (table_size pt) bytes in
    let first : parsed_quants slots (pt ∷ bytes) ≡ ((quant_tables_of (length bytes) rest >>= λ others. Ok (x ∷ others)) >>= λ tables. Ok (put_tables slots tables)) = rw told refl in
    let same : quant_tables_of (length bytes) rest ≡ quant_tables_of (length rest) rest = enough (length bytes) (length rest) rest (omega (arith, length-drop (table_size pt) bytes)) (omega arith) in
    first ∙ regroup slots x (quant_tables_of (length bytes) rest) ∙ ap (λ (r : Parsed (List (ℕ × QuantTable))). r >>= λ tables. Ok (put_tables (slice_set slots x.0 (Some x.1)) tables)) same

abbrev put_first : Slots → Parsed (ℕ × QuantTable) → Parsed Slots
put_first slots told = told >>= λ table. Ok (slice_set slots table.0 (Some table.1))

-- after a valid table
goes_on : (slots next : Slots) (pt : ℕ) (bytes : List ℕ) (told : Parsed (ℕ × QuantTable)) → quant_table_of pt bytes ≡ told → put_first slots told ≡ Ok next
    → parsed_quants slots (pt ∷ bytes) ≡ parsed_quants next (drop (table_size pt) bytes)
goes_on slots next pt bytes (Ok x) is put =
    let same : slice_set slots x.0 (Some x.1) ≡ next = cc in
    after slots pt bytes x is ∙ ap (λ (s : Slots). parsed_quants s (drop (table_size pt) bytes)) same
goes_on slots next pt bytes (Err fault) is put = absurd cc

-- at a table that is refused
ends : (slots : Slots) (pt : ℕ) (bytes : List ℕ) (fault : Fault) (told : Parsed (ℕ × QuantTable)) → quant_table_of pt bytes ≡ told → put_first slots told ≡ Err fault → parsed_quants slots (pt ∷ bytes) ≡ Err fault
unfolding quant_tables_of
ends slots pt bytes fault (Ok x) is put = absurd cc
ends slots pt bytes fault (Err other) is put =
    let same : other ≡ fault = cc in
    rw (is, same) refl

none_left : (slots : Slots) → parsed_quants slots [] ≡ Ok slots
unfolding quant_tables_of
none_left slots = refl

-- the same if the rest is split into its first byte and the n others
pub goes_on_at : (slots next : Slots) (rest : List ℕ) (n : ℕ) → 1 ≤ length rest → n ≡ length rest - 1 → parsed_quant slots (get_or rest 0 0) (take n (drop 1 rest)) ≡ Ok next
    → parsed_quants slots rest ≡ parsed_quants next (drop (table_size (get_or rest 0 0)) (take n (drop 1 rest)))
goes_on_at slots next [] n low n-is told = absurd (omega (arith, low))
goes_on_at slots next (pt ∷ bytes) n low n-is told =
    let whole : take n bytes ≡ bytes = take_all n bytes (omega (arith, n-is)) in
    rw whole (goes_on slots next pt bytes (quant_table_of pt bytes) refl (subst (λ (b : List ℕ). parsed_quant slots pt b ≡ Ok next) whole told))

pub ends_at : (slots : Slots) (rest : List ℕ) (n : ℕ) (fault : Fault) → 1 ≤ length rest → n ≡ length rest - 1 → parsed_quant slots (get_or rest 0 0) (take n (drop 1 rest)) ≡ Err fault
    → parsed_quants slots rest ≡ Err fault
ends_at slots [] n fault low n-is told = absurd (omega (arith, low))
ends_at slots (pt ∷ bytes) n fault low n-is told =
    let whole : take n bytes ≡ bytes = take_all n bytes (omega (arith, n-is)) in
    ends slots pt bytes fault (quant_table_of pt bytes) refl (subst (λ (b : List ℕ). parsed_quant slots pt b ≡ Err fault) whole told)

pub none_left_at : (slots : Slots) (rest : List ℕ) → length rest < 1 → parsed_quants slots rest ≡ Ok slots
none_left_at slots [] high = none_left slots
none_left_at slots (pt ∷ bytes) high = absurd (omega (arith, high))

-- the pairs from one place on
pairs_first : (bytes : List ℕ) → 2 ≤ length bytes → parsed_pairs bytes ≡ big_number 2 bytes ∷ parsed_pairs (drop 2 bytes)
pairs_first [] long = absurd (omega (arith, long))
pairs_first (high ∷ []) long = absurd (omega (arith, long))
pairs_first (high ∷ low ∷ bytes) long =
    let same : two_bytes high low ≡ big_number 2 (high ∷ low ∷ bytes) = omega arith in
    ap (λ (q : ℕ). q ∷ parsed_pairs bytes) same

pairs_more : (k : ℕ) (bytes : List ℕ) → 2 * k + 2 ≤ length bytes → parsed_pairs (drop (2 * k) bytes) ≡ big_number 2 (drop (2 * k) bytes) ∷ parsed_pairs (drop (2 * (k + 1)) bytes)
pairs_more k bytes long =
    let next : 2 * k + 2 ≡ 2 * (k + 1) = omega arith in
    pairs_first (drop (2 * k) bytes) (omega (arith, long, length-drop (2 * k) bytes))
    ∙ ap (λ (xs : List ℕ). big_number 2 (drop (2 * k) bytes) ∷ parsed_pairs xs) (drop-drop 2 (2 * k) bytes ∙ ap (λ (n : ℕ). drop n bytes) next)

-- one more pair of a table
pub pair_put : (table bytes : List ℕ) (k q : ℕ) → length table ≡ 64 → k < 64 → length bytes ≡ 128 → q ≡ big_number 2 (take (length bytes - 2 * k) (drop (2 * k) bytes))
    → take (k + 1) (slice_set table k q) ++ parsed_pairs (drop (2 * (k + 1)) bytes) ≡ take k table ++ parsed_pairs (drop (2 * k) bytes)
pair_put table bytes k q size low long is =
    let whole : take (length bytes - 2 * k) (drop (2 * k) bytes) ≡ drop (2 * k) bytes = take_all (length bytes - 2 * k) (drop (2 * k) bytes) (omega (arith, length-drop (2 * k) bytes)) in
    let same : q ≡ big_number 2 (drop (2 * k) bytes) = is ∙ ap (λ (xs : List ℕ). big_number 2 xs) whole in
    let more = pairs_more k bytes (omega (arith, low, long)) in
    grind (arith, common_steps, more, same)

pub pairs_long : (head : ℕ) (bytes : List ℕ) → table_size head ≤ length bytes → head / 16 ≡ 1 → length (take 128 bytes) ≡ 128
pairs_long head bytes long pairs =
    let high : 128 ≤ length bytes = subst (λ (q : ℕ). (if q == 1 then 128 else 64) ≤ length bytes) pairs long in
    omega (arith, high, length-take 128 bytes)

sized : (b : Bool) (n : ℕ) → (if b then 128 else 64) ≤ n → 64 ≤ n
sized true n long = omega (arith, long)
sized false n long = long

pub bytes_long : (head : ℕ) (bytes : List ℕ) → table_size head ≤ length bytes → length (take 64 bytes) ≡ 64
bytes_long head bytes long = omega (arith, sized (head / 16 == 1) (length bytes) long, length-take 64 bytes)
