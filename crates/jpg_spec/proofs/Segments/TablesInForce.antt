-- The Huffman tables in force are valid, after any segments; so the coding of each scan is sound.
use Rattle.std.proofs.Common.{◌≡◌, ℕ, zero, suc, Bool, true, false, cond, not, ◌/◌, ◌%◌, List, [], ◌∷◌, length, drop, refl, sym, subst, Option, Some, None, ◌==◌}
use Rattle.std.specs.Prelude.{◌||◌, ◌&&◌, reverse, find, nat_lt, Ok, Err, option_map}
use Rattle.std.specs.List.{All}
use Rattle.std.proofs.lemmas.List.Elements.{All-head, All-tail, All-nil, All-cons, All-append}
use Rattle.jpg_spec.specs.Faults.{Parsed, refuse}
use Rattle.jpg_spec.specs.Codes.{are_codes}
use Rattle.jpg_spec.specs.Segments.{HuffmanTable}
use Rattle.jpg_spec.specs.QuantContents.{◌>>=◌}
use Rattle.jpg_spec.specs.HuffContents.{HuffmanDefinition, counts_of, symbols_size, definition_size, parsed_definition, huffman_table_of, huffman_tables_of, huffman_tables}
use Rattle.jpg_spec.specs.Markers.{Segment}
use Rattle.jpg_spec.specs.InForce.{parsed_list, huffmans_defined, huffman_in_force, frame_of, head_in}
use Rattle.jpg_spec.specs.Sound.{IsSound, AreTables}
use Rattle.jpg_spec.specs.FileMeaning.{scan_after}
use Rattle.jpg_spec.specs.declared.fault.Fault.TheVariants.{BadLength, BadHuffman}
use Rattle.jpg_spec.specs.declared.frame.Limits.{Limits}
use Rattle.jpg_spec.proofs.Basics.Rows.{all_reverse}
use Rattle.jpg_spec.proofs.Bits.Sound.{sound}
use Rattle.jpg_spec.proofs.Basics.Common.{refused}

abbrev pub IsValid : HuffmanDefinition → Type 0
IsValid d = are_codes 1 0 d.table.counts ≡ true

pub affirmed : (b : Bool) → not b ≡ false → b ≡ true
affirmed true e = refl
affirmed false e = sym e

parsed_table : (tc : ℕ) (bytes : List ℕ) (d : HuffmanDefinition) → huffman_table_of tc bytes ≡ Ok d → IsValid d
unfolding huffman_table_of
parsed_table tc bytes d e =
    let told : Parsed HuffmanDefinition = Ok (parsed_definition tc bytes) in
    let r5 = refuse BadHuffman (not (are_codes 1 0 (counts_of bytes))) told in
    let r4 = refuse BadLength (nat_lt (length bytes) (definition_size bytes)) r5 in
    let r3 = refuse BadHuffman (nat_lt 256 (symbols_size bytes)) r4 in
    let r2 = refuse BadLength (nat_lt (length bytes) 16) r3 in
    let a = refused BadHuffman (nat_lt 1 (tc / 16) || nat_lt 3 (tc % 16)) r2 d e in
    let b = refused BadLength (nat_lt (length bytes) 16) r3 d a.1 in
    let c = refused BadHuffman (nat_lt 256 (symbols_size bytes)) r4 d b.1 in
    let f = refused BadLength (nat_lt (length bytes) (definition_size bytes)) r5 d c.1 in
    let g = refused BadHuffman (not (are_codes 1 0 (counts_of bytes))) told d f.1 in
    subst (λ t. IsValid t) (same (parsed_definition tc bytes) d g.1) (affirmed (are_codes 1 0 (counts_of bytes)) g.0)
  where
    same : (a b : HuffmanDefinition) → (let t : Parsed HuffmanDefinition = Ok a in t) ≡ Ok b → a ≡ b
    same a b e = cc

all_told : (most : ℕ) (bytes : List ℕ) → All IsValid (parsed_list (huffman_tables_of most bytes))
unfolding huffman_tables_of
all_told zero [] = All-nil IsValid
all_told zero (tc ∷ bytes) = All-nil IsValid
all_told (suc most) [] = All-nil IsValid
all_told (suc most) (tc ∷ bytes) = first (huffman_table_of tc bytes) (λ d e. parsed_table tc bytes d e) (all_told most (drop (definition_size bytes) bytes))
  where
    others : (d : HuffmanDefinition) → IsValid d → (t : Parsed (List HuffmanDefinition)) → All IsValid (parsed_list t) → All IsValid (parsed_list (t >>= λ others. Ok (d ∷ others)))
    others d is (Ok ds) all = All-cons IsValid d ds is all
    others d is (Err fault) all = All-nil IsValid

    first : (t : Parsed HuffmanDefinition) → ((d : HuffmanDefinition) → t ≡ Ok d → IsValid d) → All IsValid (parsed_list (huffman_tables_of most (drop (definition_size bytes) bytes)))
        → All IsValid (parsed_list (t >>= λ first. huffman_tables_of most (drop (definition_size bytes) bytes) >>= λ others. Ok (first ∷ others)))
    first (Ok d) is all = others d (is d refl) (huffman_tables_of most (drop (definition_size bytes) bytes)) all
    first (Err fault) is all = All-nil IsValid

all_defined : (before : List Segment) → All IsValid (huffmans_defined before)
all_defined [] = All-nil IsValid
all_defined (s ∷ before) =
    All-append IsValid (cond (s.0 == 0xc4) (reverse (parsed_list (huffman_tables s.1))) []) (huffmans_defined before) (here (s.0 == 0xc4)) (all_defined before)
  where
    no_table : HuffmanDefinition
    no_table = record { class = 0; slot = 0; table = record { counts = []; symbols = [] } }

    here : (b : Bool) → All IsValid (cond b (reverse (parsed_list (huffman_tables s.1))) [])
    here true = all_reverse IsValid (parsed_list (huffman_tables s.1)) no_table (all_told (length s.1) s.1)
    here false = All-nil IsValid

found_in : (test : HuffmanDefinition → Bool) (xs : List HuffmanDefinition) (x : HuffmanDefinition) → All IsValid xs → find test xs ≡ Some x → IsValid x
found_in test [] x all e = cc
found_in test (y ∷ xs) x all e = by (test y) e (found_in test xs x (All-tail IsValid y xs all))
  where
    same : (a b : HuffmanDefinition) → Some a ≡ Some b → a ≡ b
    same a b e = cc

    by : (b : Bool) → cond b (Some y) (find test xs) ≡ Some x → (find test xs ≡ Some x → IsValid x) → IsValid x
    by true h older = subst IsValid (same y x h) (All-head IsValid y xs all)
    by false h older = older h

-- THE LAW
pub valid_in_force : (before : List Segment) → AreTables (huffman_in_force before)
valid_in_force before class slot table e = by (find (λ d. d.class == class && d.slot == slot) (huffmans_defined before)) refl e
  where
    same : (a b : HuffmanTable) → Some a ≡ Some b → a ≡ b
    same a b e = cc

    by : (o : Option HuffmanDefinition) → find (λ d. d.class == class && d.slot == slot) (huffmans_defined before) ≡ o → option_map (λ (d : HuffmanDefinition). d.table) o ≡ Some table → are_codes 1 0 table.counts ≡ true
    by None h k = cc
    by (Some d) h k = subst (λ (t : HuffmanTable). are_codes 1 0 t.counts ≡ true) (same d.table table k) (found_in (λ d. d.class == class && d.slot == slot) (huffmans_defined before) d (all_defined before) h)

pub scan_sound : (limits : Limits) (before : List Segment) (contents : List ℕ) → IsSound (scan_after limits before contents).coding
scan_sound limits before contents = sound (frame_of limits before) (huffman_in_force before) (head_in (frame_of limits before) contents) (valid_in_force before)
