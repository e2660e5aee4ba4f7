-- Tables put into slots are those in force: the last one of a slot, and if there is none the older ones.
use Rattle.std.proofs.Common.{◌≡◌, ℕ, zero, suc, ◌/◌, ◌%◌, ◌<◌, ◌≤◌, Bool, true, false, cond, not, List, [], ◌∷◌, ◌++◌, length, drop, refl, sym, ap, ◌∙◌, subst, arith, Option, Some, None, ◌==◌, ◌&&◌, Ok, Err}
use Rattle.std.specs.Prelude.{◌||◌, reverse, find, nat_lt, option_map, slice_get, slice_set}
use Rattle.std.specs.Option.{option_or}
use Rattle.std.proofs.Math.Path.{fun_ext}
use Rattle.std.proofs.lemmas.Bool.{eqb-true, eqb-false, or_parts}
use Rattle.std.proofs.lemmas.List.{reverse-append, length-set}
use Rattle.std.proofs.lemmas.List.Folds.{find-append}
use Rattle.jpg_spec.specs.Lists.{any_of, slot_value}
use Rattle.jpg_spec.specs.Codes.{Code, are_codes}
use Rattle.jpg_spec.specs.Geometry.{Frame}
use Rattle.jpg_spec.specs.Faults.{Parsed, refuse}
use Rattle.jpg_spec.specs.Segments.{HuffmanTable, QuantTable, ScanHead}
use Rattle.jpg_spec.specs.Elements.{Coding}
use Rattle.jpg_spec.specs.Scan.{TablesInForce, codes_of, part_of, scan_coding}
use Rattle.jpg_spec.specs.HuffContents.{HuffmanDefinition, HuffmanSlots, huffman_in, counts_of, symbols_size, definition_size, parsed_definition, huffman_table_of, huffman_tables_of, huffman_tables, put_definition, put_definitions}
use Rattle.jpg_spec.specs.HuffContents as told
use Rattle.jpg_spec.specs.QuantContents.{◌>>=◌, Slots, quant_in, table_size, table_entries, quant_table_of, quant_tables_of, quant_tables, put_tables, is_zero_quant}
use Rattle.jpg_spec.specs.QuantContents as quants
use Rattle.jpg_spec.specs.Markers.{Segment}
use Rattle.jpg_spec.specs.InForce.{parsed_list, huffmans_defined, huffman_in_force, quants_defined, quant_in_force}
use Rattle.jpg_spec.specs.Items.{fault_in}
use Rattle.jpg_spec.specs.declared.fault.Fault.TheVariants.{BadLength, BadHuffman, BadQuant}
use Rattle.jpg_spec.proofs.Basics.Common.{not_lt_of, refused, same_told}

-- Tables that are the same for both classes give one coding.
pub same_coding : (f : Frame) (head : ScanHead) (a b : TablesInForce) → ((class slot : ℕ) → class ≤ 1 → a class slot ≡ b class slot) → scan_coding f a head ≡ scan_coding f b head
same_coding f head a b same =
    let of : (ℕ → List Code) → (ℕ → List Code) → Coding = λ dc ac. record (scan_coding f a head) { dc = dc; ac = ac } in
    let dc : (i : ℕ) → codes_of (a 0 (part_of head i).dc) ≡ codes_of (b 0 (part_of head i).dc) = λ i. ap codes_of (same 0 (part_of head i).dc (omega arith)) in
    let ac : (i : ℕ) → codes_of (a 1 (part_of head i).ac) ≡ codes_of (b 1 (part_of head i).ac) = λ i. ap codes_of (same 1 (part_of head i).ac (omega arith)) in
    ap (λ x. of x (λ i. codes_of (a 1 (part_of head i).ac))) (fun_ext dc) ∙ ap (of (λ i. codes_of (b 0 (part_of head i).dc))) (fun_ext ac)

-- A SLOT

at_put : {X : Type 0} (xs : List X) (i : ℕ) (x : X) → i < length xs → slice_get (slice_set xs i x) i ≡ Some x
at_put [] i x low = absurd (omega (arith, low))
at_put (y ∷ xs) zero x low = refl
at_put (y ∷ xs) (suc i) x low = at_put xs i x (omega (arith, low))

at_other : {X : Type 0} (xs : List X) (i j : ℕ) (x : X) → (i ≡ j → ⊥) → slice_get (slice_set xs i x) j ≡ slice_get xs j
at_other [] i j x other = refl
at_other (y ∷ xs) zero zero x other = absurd (other refl)
at_other (y ∷ xs) zero (suc j) x other = refl
at_other (y ∷ xs) (suc i) zero x other = refl
at_other (y ∷ xs) (suc i) (suc j) x other = at_other xs i j x (λ e. other (ap suc e))

at_slot : {X : Type 0} (xs : List X) (i j : ℕ) (x : X) → i < length xs → slice_get (slice_set xs i x) j ≡ cond (i == j) (Some x) (slice_get xs j)
at_slot xs i j x low = by (i == j) refl
  where
    by : (b : Bool) → (i == j) ≡ b → slice_get (slice_set xs i x) j ≡ cond b (Some x) (slice_get xs j)
    by true e = subst (λ k. slice_get (slice_set xs i x) k ≡ Some x) (eqb-true i j e) (at_put xs i x low)
    by false e = at_other xs i j x (eqb-false i j e)

-- THE FIRST FOUND of definitions, the newest first

abbrev found : {D X : Type 0} → (D → Bool) → (D → X) → List D → Option X
found test value ds = option_map value (find test ds)

found_append : {D X : Type 0} (test : D → Bool) (value : D → X) (xs ys : List D) → found test value (xs ++ ys) ≡ option_or (found test value xs) (found test value ys)
found_append {D = D} test value xs ys = ap (option_map value) (find-append test xs ys) ∙ by (find test xs) (find test ys)
  where
    by : (a b : Option D) → option_map value (option_or a b) ≡ option_or (option_map value a) (option_map value b)
    by None b = refl
    by (Some d) b = refl

-- one more definition before the remaining ones
found_first : {D X : Type 0} (test : D → Bool) (value : D → X) (d : D) (ds : List D) (old : Option X)
    → option_or (found test value (reverse ds)) (cond (test d) (Some (value d)) old) ≡ option_or (found test value (reverse (d ∷ ds))) old
found_first {X = X} test value d ds old =
    by (found test value (reverse ds)) (test d) ∙ ap (λ o. option_or o old) (sym (found_append test value (reverse ds) (d ∷ []))) ∙ ap (λ xs. option_or (found test value xs) old) (sym (reverse-append (d ∷ []) ds))
  where
    by : (a : Option X) (b : Bool) → option_or a (cond b (Some (value d)) old) ≡ option_or (option_or a (option_map value (cond b (Some d) None))) old
    by None true = refl
    by None false = refl
    by (Some x) true = refl
    by (Some x) false = refl

-- HUFFMAN TABLES

abbrev of_slot : ℕ → ℕ → HuffmanDefinition → Bool
of_slot class slot d = d.class == class && d.slot == slot

record IsInSlot (d : HuffmanDefinition) : Type 0 where
  class : d.class ≤ 1
  slot : d.slot < 4

abbrev AreInSlots : List HuffmanDefinition → Type 0
AreInSlots [] = Unit {0}
AreInSlots (d ∷ ds) = IsInSlot d × AreInSlots ds

abbrev of_huffman : HuffmanDefinition → HuffmanTable
of_huffman d = d.table

slot_joined : (b : Bool) (table : HuffmanTable) (o : Option (Option HuffmanTable)) → slot_value (cond b (Some (Some table)) o) ≡ cond b (Some table) (slot_value o)
slot_joined true table o = refl
slot_joined false table o = refl

in_slot : (slots : List (Option HuffmanTable)) (i j : ℕ) (table : HuffmanTable) → i < length slots → huffman_in (slice_set slots i (Some table)) j ≡ cond (i == j) (Some table) (huffman_in slots j)
in_slot slots i j table low = ap slot_value (at_slot slots i j (Some table) low) ∙ slot_joined (i == j) table (slice_get slots j)

-- the slots after a definition of this class
abbrev put_class : HuffmanSlots → ℕ → ℕ → HuffmanTable → HuffmanSlots
put_class slots class slot table = cond (class == 0) (record slots { dc = slice_set slots.dc slot (Some table) }) (record slots { ac = slice_set slots.ac slot (Some table) })

dc_put : (slots : HuffmanSlots) (class slot : ℕ) (table : HuffmanTable) (j : ℕ) → slot < length slots.dc
    → huffman_in (put_class slots class slot table).dc j ≡ cond (class == 0 && slot == j) (Some table) (huffman_in slots.dc j)
dc_put slots class slot table j low = by (class == 0)
  where
    by : (b : Bool) → huffman_in (cond b (let s : HuffmanSlots = record slots { dc = slice_set slots.dc slot (Some table) } in s) (record slots { ac = slice_set slots.ac slot (Some table) })).dc j ≡ cond (b && slot == j) (Some table) (huffman_in slots.dc j)
    by true = in_slot slots.dc slot j table low
    by false = refl

ac_put : (slots : HuffmanSlots) (class slot : ℕ) (table : HuffmanTable) (j : ℕ) → class ≤ 1 → slot < length slots.ac
    → huffman_in (put_class slots class slot table).ac j ≡ cond (class == 1 && slot == j) (Some table) (huffman_in slots.ac j)
ac_put slots zero slot table j few low = refl
ac_put slots (suc zero) slot table j few low = in_slot slots.ac slot j table low
ac_put slots (suc (suc class)) slot table j few low = absurd (omega (arith, few))

-- a definition keeps the number of slots
record HasSlots (slots : HuffmanSlots) : Type 0 where
  dc : length slots.dc ≡ 4
  ac : length slots.ac ≡ 4

put_keeps : (slots : HuffmanSlots) (d : HuffmanDefinition) → HasSlots slots → HasSlots (put_definition slots d)
put_keeps slots d has = by (d.class == 0)
  where
    by : (b : Bool) → HasSlots (cond b (record slots { dc = slice_set slots.dc d.slot (Some d.table) }) (record slots { ac = slice_set slots.ac d.slot (Some d.table) }))
    by true = record { dc = length-set slots.dc d.slot (Some d.table) ∙ has.dc; ac = has.ac }
    by false = record { dc = has.dc; ac = length-set slots.ac d.slot (Some d.table) ∙ has.ac }

all_keep : (slots : HuffmanSlots) (ds : List HuffmanDefinition) → HasSlots slots → HasSlots (put_definitions slots ds)
all_keep slots [] has = has
all_keep slots (d ∷ ds) has = all_keep (put_definition slots d) ds (put_keeps slots d has)

dc_after : (slots : HuffmanSlots) (ds : List HuffmanDefinition) (j : ℕ) → HasSlots slots → AreInSlots ds
    → huffman_in (put_definitions slots ds).dc j ≡ option_or (found (of_slot 0 j) of_huffman (reverse ds)) (huffman_in slots.dc j)
dc_after slots [] j has are = refl
dc_after slots (d ∷ ds) j has are =
    dc_after (put_definition slots d) ds j (put_keeps slots d has) are.1
    ∙ ap (option_or (found (of_slot 0 j) of_huffman (reverse ds))) (dc_put slots d.class d.slot d.table j (omega (arith, are.0.slot, has.dc)))
    ∙ found_first (of_slot 0 j) of_huffman d ds (huffman_in slots.dc j)

ac_after : (slots : HuffmanSlots) (ds : List HuffmanDefinition) (j : ℕ) → HasSlots slots → AreInSlots ds
    → huffman_in (put_definitions slots ds).ac j ≡ option_or (found (of_slot 1 j) of_huffman (reverse ds)) (huffman_in slots.ac j)
ac_after slots [] j has are = refl
ac_after slots (d ∷ ds) j has are =
    ac_after (put_definition slots d) ds j (put_keeps slots d has) are.1
    ∙ ap (option_or (found (of_slot 1 j) of_huffman (reverse ds))) (ac_put slots d.class d.slot d.table j are.0.class (omega (arith, are.0.slot, has.ac)))
    ∙ found_first (of_slot 1 j) of_huffman d ds (huffman_in slots.ac j)

-- the tables of a segment have class 0 or 1 and a slot below 4
one_due : (tc : ℕ) (bytes : List ℕ) (d : HuffmanDefinition) → huffman_table_of tc bytes ≡ Ok d → IsInSlot d
unfolding huffman_table_of
one_due tc bytes d e =
    let all : Parsed HuffmanDefinition = refuse BadHuffman (not (are_codes 1 0 (counts_of bytes))) (Ok (parsed_definition tc bytes)) in
    let long = refuse BadLength (nat_lt (length bytes) (definition_size bytes)) all in
    let few = refuse BadHuffman (nat_lt 256 (symbols_size bytes)) long in
    let some = refuse BadLength (nat_lt (length bytes) 16) few in
    let a = refused BadHuffman (nat_lt 1 (tc / 16) || nat_lt 3 (tc % 16)) some d e in
    let b = refused BadLength (nat_lt (length bytes) 16) few d a.1 in
    let f = refused BadHuffman (nat_lt 256 (symbols_size bytes)) long d b.1 in
    let g = refused BadLength (nat_lt (length bytes) (definition_size bytes)) all d f.1 in
    let k = refused BadHuffman (not (are_codes 1 0 (counts_of bytes))) (Ok (parsed_definition tc bytes)) d g.1 in
    let p = or_parts (nat_lt 1 (tc / 16)) (nat_lt 3 (tc % 16)) a.0 in
    let class = not_lt_of 1 (tc / 16) p.0 in
    let slot = not_lt_of 3 (tc % 16) p.1 in
    let is : IsInSlot (parsed_definition tc bytes) = record { class = class; slot = omega (arith, slot) } in
    subst IsInSlot (same_told (parsed_definition tc bytes) d k.1) is

all_due : (most : ℕ) (bytes : List ℕ) (ds : List HuffmanDefinition) → huffman_tables_of most bytes ≡ Ok ds → AreInSlots ds
unfolding huffman_tables_of
all_due zero [] ds e = subst AreInSlots (same_told [] ds e) tt
all_due zero (tc ∷ bytes) ds e = cc
all_due (suc most) [] ds e = subst AreInSlots (same_told [] ds e) tt
all_due (suc most) (tc ∷ bytes) ds e = first (huffman_table_of tc bytes) (λ d h. one_due tc bytes d h) (λ others h. all_due most (drop (definition_size bytes) bytes) others h) e
  where
    rest : Parsed (List HuffmanDefinition)
    rest = huffman_tables_of most (drop (definition_size bytes) bytes)

    others : (d : HuffmanDefinition) → IsInSlot d → (t : Parsed (List HuffmanDefinition)) → ((ds : List HuffmanDefinition) → t ≡ Ok ds → AreInSlots ds) → (t >>= λ others. Ok (d ∷ others)) ≡ Ok ds → AreInSlots ds
    others d is (Ok later) are h = subst AreInSlots (same_told (d ∷ later) ds h) (is, are later refl)
    others d is (Err fault) are h = cc

    first : (t : Parsed HuffmanDefinition) → ((d : HuffmanDefinition) → t ≡ Ok d → IsInSlot d) → ((others : List HuffmanDefinition) → rest ≡ Ok others → AreInSlots others)
        → (t >>= λ d. rest >>= λ others. Ok (d ∷ others)) ≡ Ok ds → AreInSlots ds
    first (Ok d) is are h = others d (is d refl) rest are h
    first (Err fault) is are h = cc

-- The slots hold the Huffman tables that are in force after these segments.
pub record HoldHuffmans (slots : HuffmanSlots) (before : List Segment) : Type 0 where
  pub dc_slots : length slots.dc ≡ 4
  pub ac_slots : length slots.ac ≡ 4
  pub dc : (slot : ℕ) → huffman_in slots.dc slot ≡ huffman_in_force before 0 slot
  pub ac : (slot : ℕ) → huffman_in slots.ac slot ≡ huffman_in_force before 1 slot

-- with one more segment of tables
pub huffmans_put : (slots : HuffmanSlots) (before : List Segment) (contents : List ℕ) (new : HuffmanSlots) → told.parsed_huffmans slots contents ≡ Ok new → HoldHuffmans slots before
    → (fault_in (huffman_tables contents) ≡ None) × HoldHuffmans new ((0xc4, contents) ∷ before)
huffmans_put slots before contents new e holds = by (huffman_tables contents) refl e
  where
    has : HasSlots slots
    has = record { dc = holds.dc_slots; ac = holds.ac_slots }

    by : (t : Parsed (List HuffmanDefinition)) → huffman_tables contents ≡ t → (t >>= λ ds. Ok (put_definitions slots ds)) ≡ Ok new
        → (fault_in (huffman_tables contents) ≡ None) × HoldHuffmans new ((0xc4, contents) ∷ before)
    by (Err fault) told k = cc
    by (Ok ds) told k =
        let are = all_due (length contents) contents ds told in
        let same = same_told (put_definitions slots ds) new k in
        let keeps = all_keep slots ds has in
        let older : (class slot : ℕ) → option_or (found (of_slot class slot) of_huffman (reverse ds)) (huffman_in_force before class slot) ≡ huffman_in_force ((0xc4, contents) ∷ before) class slot = λ class slot.
        sym (found_append (of_slot class slot) of_huffman (reverse ds) (huffmans_defined before)) ∙ ap (λ (t : Parsed (List HuffmanDefinition)). found (of_slot class slot) of_huffman (reverse (parsed_list t) ++ huffmans_defined before)) (sym told) in (
          ap fault_in told,
          record {
            dc_slots = ap (λ (s : HuffmanSlots). length s.dc) (sym same) ∙ keeps.dc;
            ac_slots = ap (λ (s : HuffmanSlots). length s.ac) (sym same) ∙ keeps.ac;
            dc = λ slot. ap (λ (s : HuffmanSlots). huffman_in s.dc slot) (sym same) ∙ dc_after slots ds slot has are ∙ ap (option_or (found (of_slot 0 slot) of_huffman (reverse ds))) (holds.dc slot) ∙ older 0 slot;
            ac = λ slot. ap (λ (s : HuffmanSlots). huffman_in s.ac slot) (sym same) ∙ ac_after slots ds slot has are ∙ ap (option_or (found (of_slot 1 slot) of_huffman (reverse ds))) (holds.ac slot) ∙ older 1 slot;
          },
        )

-- QUANTISATION TABLES

abbrev in_place : ℕ → ℕ × QuantTable → Bool
in_place slot d = d.0 == slot

abbrev of_quants : ℕ × QuantTable → QuantTable
of_quants d = d.1

abbrev AreSlots : List (ℕ × QuantTable) → Type 0
AreSlots [] = Unit {0}
AreSlots (d ∷ ds) = (d.0 < 4) × AreSlots ds

quant_joined : (b : Bool) (table : QuantTable) (o : Option (Option QuantTable)) → slot_value (cond b (Some (Some table)) o) ≡ cond b (Some table) (slot_value o)
quant_joined true table o = refl
quant_joined false table o = refl

quant_put : (slots : Slots) (i j : ℕ) (table : QuantTable) → i < length slots → quant_in (slice_set slots i (Some table)) j ≡ cond (i == j) (Some table) (quant_in slots j)
quant_put slots i j table low = ap slot_value (at_slot slots i j (Some table) low) ∙ quant_joined (i == j) table (slice_get slots j)

tables_keep : (slots : Slots) (ds : List (ℕ × QuantTable)) → length (put_tables slots ds) ≡ length slots
tables_keep slots [] = refl
tables_keep slots (d ∷ ds) = tables_keep (slice_set slots d.0 (Some d.1)) ds ∙ length-set slots d.0 (Some d.1)

quants_after : (slots : Slots) (ds : List (ℕ × QuantTable)) (j : ℕ) → length slots ≡ 4 → AreSlots ds
    → quant_in (put_tables slots ds) j ≡ option_or (found (in_place j) of_quants (reverse ds)) (quant_in slots j)
quants_after slots [] j four are = refl
quants_after slots (d ∷ ds) j four are =
    quants_after (slice_set slots d.0 (Some d.1)) ds j (length-set slots d.0 (Some d.1) ∙ four) are.1
    ∙ ap (option_or (found (in_place j) of_quants (reverse ds))) (quant_put slots d.0 j d.1 (omega (arith, are.0, four)))
    ∙ found_first (in_place j) of_quants d ds (quant_in slots j)

-- the tables of a segment have a slot below 4
one_slot : (pt : ℕ) (bytes : List ℕ) (d : ℕ × QuantTable) → quant_table_of pt bytes ≡ Ok d → d.0 < 4
unfolding quant_table_of
one_slot pt bytes d e =
    let told : ℕ × QuantTable = (pt % 16, table_entries pt bytes) in
    let some : Parsed (ℕ × QuantTable) = refuse BadQuant (any_of is_zero_quant (table_entries pt bytes)) (Ok told) in
    let long = refuse BadLength (nat_lt (length bytes) (table_size pt)) some in
    let a = refused BadQuant (nat_lt 1 (pt / 16) || nat_lt 3 (pt % 16)) long d e in
    let b = refused BadLength (nat_lt (length bytes) (table_size pt)) some d a.1 in
    let k = refused BadQuant (any_of is_zero_quant (table_entries pt bytes)) (Ok told) d b.1 in
    let p = or_parts (nat_lt 1 (pt / 16)) (nat_lt 3 (pt % 16)) a.0 in
    let slot = not_lt_of 3 (pt % 16) p.1 in
    let is : told.0 < 4 = omega (arith, slot) in
    subst (λ (t : ℕ × QuantTable). t.0 < 4) (same_told told d k.1) is

all_slots : (most : ℕ) (bytes : List ℕ) (ds : List (ℕ × QuantTable)) → quant_tables_of most bytes ≡ Ok ds → AreSlots ds
unfolding quant_tables_of
all_slots zero [] ds e = subst AreSlots (same_told [] ds e) tt
all_slots zero (pt ∷ bytes) ds e = cc
all_slots (suc most) [] ds e = subst AreSlots (same_told [] ds e) tt
all_slots (suc most) (pt ∷ bytes) ds e = first (quant_table_of pt bytes) (λ d h. one_slot pt bytes d h) (λ others h. all_slots most (drop (table_size pt) bytes) others h) e
  where
    rest : Parsed (List (ℕ × QuantTable))
    rest = quant_tables_of most (drop (table_size pt) bytes)

    others : (d : ℕ × QuantTable) → d.0 < 4 → (t : Parsed (List (ℕ × QuantTable))) → ((ds : List (ℕ × QuantTable)) → t ≡ Ok ds → AreSlots ds) → (t >>= λ others. Ok (d ∷ others)) ≡ Ok ds → AreSlots ds
    others d is (Ok later) are h = subst AreSlots (same_told (d ∷ later) ds h) (is, are later refl)
    others d is (Err fault) are h = cc

    first : (t : Parsed (ℕ × QuantTable)) → ((d : ℕ × QuantTable) → t ≡ Ok d → d.0 < 4) → ((others : List (ℕ × QuantTable)) → rest ≡ Ok others → AreSlots others)
        → (t >>= λ d. rest >>= λ others. Ok (d ∷ others)) ≡ Ok ds → AreSlots ds
    first (Ok d) is are h = others d (is d refl) rest are h
    first (Err fault) is are h = cc

-- The slots hold the quantisation tables that are in force after these segments.
pub record HoldQuants (slots : Slots) (before : List Segment) : Type 0 where
  pub quant_slots : length slots ≡ 4
  pub quants : (slot : ℕ) → quant_in slots slot ≡ quant_in_force before slot

-- with one more segment of tables
pub quants_put : (slots : Slots) (before : List Segment) (contents : List ℕ) (new : Slots) → quants.parsed_quants slots contents ≡ Ok new → HoldQuants slots before
    → (fault_in (quant_tables contents) ≡ None) × HoldQuants new ((0xdb, contents) ∷ before)
quants_put slots before contents new e holds = by (quant_tables contents) refl e
  where
    by : (t : Parsed (List (ℕ × QuantTable))) → quant_tables contents ≡ t → (t >>= λ tables. Ok (put_tables slots tables)) ≡ Ok new
        → (fault_in (quant_tables contents) ≡ None) × HoldQuants new ((0xdb, contents) ∷ before)
    by (Err fault) told k = cc
    by (Ok ds) told k =
        let are = all_slots (length contents) contents ds told in
        let same = same_told (put_tables slots ds) new k in
        let older : (slot : ℕ) → option_or (found (in_place slot) of_quants (reverse ds)) (quant_in_force before slot) ≡ quant_in_force ((0xdb, contents) ∷ before) slot = λ slot.
        sym (found_append (in_place slot) of_quants (reverse ds) (quants_defined before)) ∙ ap (λ (t : Parsed (List (ℕ × QuantTable))). found (in_place slot) of_quants (reverse (parsed_list t) ++ quants_defined before)) (sym told) in (
          ap fault_in told,
          record {
            quant_slots = ap (λ (s : Slots). length s) (sym same) ∙ tables_keep slots ds ∙ holds.quant_slots;
            quants = λ slot. ap (λ (s : Slots). quant_in s slot) (sym same) ∙ quants_after slots ds slot holds.quant_slots are ∙ ap (option_or (found (in_place slot) of_quants (reverse ds))) (holds.quants slot) ∙ older slot;
          },
        )
