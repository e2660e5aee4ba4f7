-- The flat table of some symbols: it is valid, its segment encodes it, and each of the symbols has a code.
use Rattle.std.proofs.Common.{◌≡◌, ℕ, zero, suc, ◌+◌, ◌-◌, ◌*◌, ◌/◌, ◌%◌, ◌^◌, ◌<◌, ◌≤◌, Bool, true, false, cond, not, List, [], ◌∷◌, ◌++◌, length, take, drop, refl, sym, ap, ◌∙◌, subst, arith, ◌==◌, ◌&&◌}
use Rattle.std.specs.Prelude.{◌||◌, replicate, sum, nat_lt, Ok}
use Rattle.std.specs.List.{fold}
use Rattle.std.proofs.lemmas.Grind.{pow_more}
use Rattle.std.proofs.Math.Seq.{take_all}
use Rattle.std.proofs.Math.ListN.{drop_of_length-le}
use Rattle.std.proofs.lemmas.List.{take-append-le, drop-append-le, length-append, length-replicate}
use Rattle.std.proofs.lemmas.List.Elements.{Contains-append_right, Contains-append_left}
use Rattle.jpg_spec.specs.Bits.{bits_of}
use Rattle.jpg_spec.specs.Lists.{is_among}
use Rattle.jpg_spec.specs.Codes.{Code, codes_at, codes_from, codes, are_codes}
use Rattle.jpg_spec.specs.Faults.{Parsed}
use Rattle.jpg_spec.specs.Segments.{HuffmanTable, table_codes}
use Rattle.jpg_spec.specs.QuantContents.{◌>>=◌}
use Rattle.jpg_spec.specs.HuffContents.{HuffmanDefinition, symbols_size, definition_size, parsed_definition, huffman_table_of, huffman_tables_of}
use Rattle.jpg_spec.specs.FlatTable.{flat_length_from, flat_table}
use Rattle.jpg_spec.specs.declared.fault.Fault.TheVariants.{BadLength, BadHuffman}
use Rattle.jpg_spec.proofs.Bits.Full.{Has}
use Rattle.jpg_spec.proofs.Writing.WrittenState.{IsTellable}
use Rattle.jpg_spec.proofs.Basics.Common.{lt_of, same_of, not_refused, lt_yes, lt_no}

-- A VALID TABLE is encoded by its segment

pub record IsValid (table : HuffmanTable) : Type 0 where
  pub counts : length table.counts ≡ 16
  pub total : sum table.counts ≡ length table.symbols
  pub few : length table.symbols ≤ 256
  pub fits : are_codes 1 0 table.counts ≡ true

none_left : (n : ℕ) → huffman_tables_of n [] ≡ Ok []
unfolding huffman_tables_of
none_left zero = refl
none_left (suc n) = refl

pub valid_tellable : (class slot : ℕ) (table : HuffmanTable) → class ≤ 1 → slot ≤ 3 → IsValid table → IsTellable class slot table
unfolding huffman_tables_of huffman_table_of
valid_tellable class slot table c n is =
    let bytes = table.counts ++ table.symbols in
    let tc = 16 * class + slot in
    let long = is.counts in
    let all = length-append table.counts table.symbols in
    let total = is.total in
    let few = is.few in
    let high : tc / 16 ≡ class = omega (arith, n) in
    let low : tc % 16 ≡ slot = omega (arith, n) in
    let front : take 16 bytes ≡ table.counts = take-append-le 16 table.counts table.symbols (omega (arith, long)) ∙ take_all 16 table.counts (omega (arith, long)) in
    let none : drop 16 table.counts ≡ [] = drop_of_length-le table.counts {i = 16} (omega (arith, long)) in
    let back : drop 16 bytes ≡ table.symbols = drop-append-le 16 table.counts table.symbols (omega (arith, long)) ∙ ap (λ t. t ++ table.symbols) none in
    let size : symbols_size bytes ≡ length table.symbols = ap sum front ∙ is.total in
    let whole : length bytes ≡ definition_size bytes = omega (arith, all, long, size) in
    let slots : (nat_lt 1 (tc / 16) || nat_lt 3 (tc % 16)) ≡ false = ap (λ m. nat_lt 1 m || nat_lt 3 (tc % 16)) high ∙ ap (λ m. nat_lt 1 class || nat_lt 3 m) low ∙ ap (λ b. b || nat_lt 3 slot) (lt_no 1 class c) ∙ lt_no 3 slot n in
    let d : HuffmanDefinition = record { class = class; slot = slot; table = table } in
    let symbols : take (symbols_size bytes) (drop 16 bytes) ≡ table.symbols = ap (λ m. take m (drop 16 bytes)) size ∙ ap (take (length table.symbols)) back ∙ take_all (length table.symbols) table.symbols (omega arith) in
    let same : parsed_definition tc bytes ≡ d =
    ap (λ (m : ℕ). (let x : HuffmanDefinition = record { class = m; slot = tc % 16; table = record { counts = take 16 bytes; symbols = take (symbols_size bytes) (drop 16 bytes) } } in x)) high
    ∙ ap (λ (m : ℕ). (let x : HuffmanDefinition = record { class = class; slot = m; table = record { counts = take 16 bytes; symbols = take (symbols_size bytes) (drop 16 bytes) } } in x)) low
    ∙ ap (λ (l : List ℕ). (let x : HuffmanDefinition = record { class = class; slot = slot; table = record { counts = l; symbols = take (symbols_size bytes) (drop 16 bytes) } } in x)) front
    ∙ ap (λ (l : List ℕ). (let x : HuffmanDefinition = record { class = class; slot = slot; table = record { counts = table.counts; symbols = l } } in x)) symbols in
    let one : huffman_table_of tc bytes ≡ Ok d =
    not_refused BadHuffman (nat_lt 1 (tc / 16) || nat_lt 3 (tc % 16)) _ slots ∙ not_refused BadLength (nat_lt (length bytes) 16) _ (lt_no (length bytes) 16 (omega (arith, all, long)))
    ∙ not_refused BadHuffman (nat_lt 256 (symbols_size bytes)) _ (lt_no 256 (symbols_size bytes) (omega (arith, size, few)))
    ∙ not_refused BadLength (nat_lt (length bytes) (definition_size bytes)) _ (lt_no (length bytes) (definition_size bytes) (omega (arith, whole)))
    ∙ not_refused BadHuffman (not (are_codes 1 0 (take 16 bytes))) _ (ap not (ap (are_codes 1 0) front ∙ is.fits)) ∙ ap (λ (x : HuffmanDefinition). (let r : Parsed HuffmanDefinition = Ok x in r)) same in
    let rest : drop (definition_size bytes) bytes ≡ [] = drop_of_length-le bytes (omega (arith, whole)) in
    record {
      told =
          ap (λ (r : Parsed HuffmanDefinition). r >>= λ first. huffman_tables_of (length bytes) (drop (definition_size bytes) bytes) >>= λ others. Ok (first ∷ others)) one
          ∙ ap (λ b. huffman_tables_of (length bytes) b >>= λ others. Ok (d ∷ others)) rest ∙ ap (λ r. r >>= λ others. Ok (d ∷ others)) (none_left (length bytes));
      short = omega (arith, all, long, few);
    }

-- THE LENGTH of the codes

flat_fits : (most len n : ℕ) → n < 2 ^ (len + most) → (n < 2 ^ flat_length_from most len n) × (len ≤ flat_length_from most len n) × (flat_length_from most len n ≤ len + most)
flat_fits zero len n h = (let e : len + 0 ≡ len = omega arith in subst (λ m. n < 2 ^ m) e h, omega arith, omega arith)
flat_fits (suc most) len n h =
    by (nat_lt n (2 ^ len)) refl (flat_fits most (len + 1) n (let e : len + suc most ≡ len + 1 + most = omega arith in subst (λ m. n < 2 ^ m) e h))
  where
    Fits : ℕ → Type 0
    Fits m = (n < 2 ^ m) × (len ≤ m) × (m ≤ len + suc most)

    by : (b : Bool) → nat_lt n (2 ^ len) ≡ b → (n < 2 ^ flat_length_from most (len + 1) n) × (len + 1 ≤ flat_length_from most (len + 1) n) × (flat_length_from most (len + 1) n ≤ len + 1 + most)
        → (n < 2 ^ cond b len (flat_length_from most (len + 1) n)) × (len ≤ cond b len (flat_length_from most (len + 1) n)) × (cond b len (flat_length_from most (len + 1) n) ≤ len + suc most)
    by true e later = (lt_of n (2 ^ len) e, omega arith, omega arith)
    by false e later = (later.0, omega (arith, later.1), omega (arith, later.2))

-- ITS CODES

zeros_before : (j len : ℕ) (rest symbols : List ℕ) → codes_from len 0 (replicate j 0 ++ rest) symbols ≡ codes_from (len + j) 0 rest symbols
zeros_before zero len rest symbols = let e : len ≡ len + 0 = omega arith in ap (λ m. codes_from m 0 rest symbols) e
zeros_before (suc j) len rest symbols = let e : len + 1 + j ≡ len + suc j = omega arith in zeros_before j (len + 1) rest symbols ∙ ap (λ m. codes_from m 0 rest symbols) e

has_at : (len c : ℕ) (symbols : List ℕ) (symbol : ℕ) → is_among symbol symbols ≡ true → Has (codes_at (length symbols) len c symbols) symbol
has_at len c [] symbol e = cc
has_at len c (s ∷ symbols) symbol e = by (s == symbol) refl e (λ k. has_at len (c + 1) symbols symbol k)
  where
    by : (b : Bool) → (s == symbol) ≡ b → (b || is_among symbol symbols) ≡ true → (is_among symbol symbols ≡ true → Has (codes_at (length symbols) len (c + 1) symbols) symbol) → Has (codes_at (suc (length symbols)) len c (s ∷ symbols)) symbol
    by true t k later = (bits_of len c, (0, omega arith, ap (λ (n : ℕ). (let r : Code = (bits_of len c, n) in r)) (same_of s symbol t)))
    by false t k later = let h = later k in (h.0, Contains-append_right ((bits_of len c, s) ∷ []) (codes_at (length symbols) len (c + 1) symbols) (h.0, symbol) h.1)

pub flat_has : (symbols : List ℕ) (symbol : ℕ) → is_among symbol symbols ≡ true → Has (table_codes (flat_table symbols)) symbol
unfolding flat_table codes
flat_has symbols symbol e =
    let n = length symbols in
    let size = flat_length_from 8 1 n in
    let h = has_at (1 + (size - 1)) 0 symbols symbol e in
    let more = codes_from (1 + (size - 1) + 1) (2 * (0 + n)) (replicate (16 - size) 0) (drop n symbols) in
    subst (λ (l : List Code). Has l symbol) (sym (zeros_before (size - 1) 1 (n ∷ replicate (16 - size) 0) symbols))
    (h.0, Contains-append_left (codes_at n (1 + (size - 1)) 0 symbols) more (h.0, symbol) h.1)

-- IT IS VALID

some_power : (n : ℕ) → 1 ≤ 2 ^ n
some_power zero = omega arith
some_power (suc n) = let e : 2 ^ (n + 1) ≡ 2 ^ n * 2 = pow_more 2 n in let s : n + 1 ≡ suc n = omega arith in subst (λ m. 1 ≤ 2 ^ m) s (omega (arith, e, some_power n))

zeros_after : (r len c : ℕ) → c < 2 ^ len → are_codes len c (replicate r 0) ≡ true
unfolding are_codes
zeros_after zero len c h = refl
zeros_after (suc r) len c h =
    let e : 2 ^ (len + 1) ≡ 2 ^ len * 2 = pow_more 2 len in
    ap (λ b. b && are_codes (len + 1) (2 * (c + 0)) (replicate r 0)) (lt_yes (c + 0) (2 ^ len) (omega (arith, h))) ∙ zeros_after r (len + 1) (2 * (c + 0)) (omega (arith, h, e))

zeros_first : (j len : ℕ) (rest : List ℕ) → are_codes (len + j) 0 rest ≡ true → are_codes len 0 (replicate j 0 ++ rest) ≡ true
unfolding are_codes
zeros_first zero len rest h = let e : len + 0 ≡ len = omega arith in subst (λ m. are_codes m 0 rest ≡ true) e h
zeros_first (suc j) len rest h =
    let e : len + suc j ≡ len + 1 + j = omega arith in
    let p = some_power len in
    ap (λ b. b && are_codes (len + 1) 0 (replicate j 0 ++ rest)) (lt_yes 0 (2 ^ len) (omega (arith, p))) ∙ zeros_first j (len + 1) rest (subst (λ m. are_codes m 0 rest ≡ true) e h)

fold_zeros : (a r : ℕ) → fold ◌+◌ a (replicate r 0) ≡ a
fold_zeros a zero = refl
fold_zeros a (suc r) = let e : a + 0 ≡ a = omega arith in ap (λ m. fold ◌+◌ m (replicate r 0)) e ∙ fold_zeros a r

fold_before : (a j n r : ℕ) → fold ◌+◌ a (replicate j 0 ++ n ∷ replicate r 0) ≡ a + n
fold_before a zero n r = fold_zeros (a + n) r
fold_before a (suc j) n r = let e : a + 0 ≡ a = omega arith in ap (λ m. fold ◌+◌ m (replicate j 0 ++ n ∷ replicate r 0)) e ∙ fold_before a j n r

sum_before : (j n r : ℕ) → sum (replicate j 0 ++ n ∷ replicate r 0) ≡ n
sum_before j n r = let e : 0 + n ≡ n = omega arith in fold_before 0 j n r ∙ e

pub flat_valid : (symbols : List ℕ) → length symbols ≤ 256 → IsValid (flat_table symbols)
unfolding flat_table are_codes
flat_valid symbols few =
    let n = length symbols in
    let size = flat_length_from 8 1 n in
    let k = flat_fits 8 1 n (omega (arith, few)) in
    let fits = k.0 in
    let low = k.1 in
    let high = k.2 in
    let e : 1 + (size - 1) ≡ size = omega (arith, low) in
    let p : 2 ^ (size + 1) ≡ 2 ^ size * 2 = pow_more 2 size in
    let l1 = length-replicate {A = ℕ} (size - 1) 0 in
    let l2 = length-replicate {A = ℕ} (16 - size) 0 in
    let l3 = length-append (replicate (size - 1) 0) (n ∷ replicate (16 - size) 0) in
    record {
      counts = omega (arith, l1, l2, l3, low, high);
      total = sum_before (size - 1) n (16 - size);
      few = few;
      fits = zeros_first (size - 1) 1 (n ∷ replicate (16 - size) 0)
          (subst (λ m. are_codes m 0 (n ∷ replicate (16 - size) 0) ≡ true) (sym e)
          (ap (λ b. b && are_codes (size + 1) (2 * (0 + n)) (replicate (16 - size) 0)) (lt_yes (0 + n) (2 ^ size) (omega (arith, fits))) ∙ zeros_after (16 - size) (size + 1) (2 * (0 + n)) (omega (arith, fits, p))));
    }
