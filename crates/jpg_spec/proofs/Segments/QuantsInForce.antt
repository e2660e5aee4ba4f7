-- The quantisation tables of segments: their numbers, those in force, and a table from its bytes.
use Rattle.std.proofs.Common.{◌≡◌, ℕ, zero, suc, ◌+◌, ◌/◌, ◌%◌, ◌<◌, ◌≤◌, Bool, true, false, cond, List, [], ◌∷◌, length, take, drop, get_or, refl, sym, ap, ◌∙◌, subst, arith, Option, Some, None, ◌==◌}
use Rattle.std.specs.Prelude.{◌||◌, flat_map, reverse, find, nat_lt, Ok, Err, option_map}
use Rattle.std.specs.Int.{to_be_bytes, w16}
use Rattle.std.specs.List.{All}
use Rattle.std.proofs.Math.ListN.{drop_of_length-le}
use Rattle.std.proofs.lemmas.List.{length-take-le, length-append, take-append-drop}
use Rattle.std.proofs.lemmas.List.Elements.{All-head, All-tail, All-nil, All-cons, All-append}
use Rattle.jpg_spec.specs.Lists.{any_of}
use Rattle.jpg_spec.specs.Faults.{Parsed, refuse}
use Rattle.jpg_spec.specs.Segments.{QuantTable, two_bytes}
use Rattle.jpg_spec.specs.QuantContents.{◌>>=◌, parsed_pairs, table_size, table_entries, quant_table_of, quant_tables_of, quant_tables, is_zero_quant}
use Rattle.jpg_spec.specs.Markers.{Segment}
use Rattle.jpg_spec.specs.InForce.{parsed_list, quants_defined, quant_in_force}
use Rattle.jpg_spec.specs.declared.fault.Fault.TheVariants.{BadLength, BadQuant}
use Rattle.jpg_spec.proofs.Basics.Rows.{all_front, all_back, all_reverse}
use Rattle.jpg_spec.proofs.Basics.Common.{not_lt_of, refused, not_refused, lt_no}

-- A QUANTISATION TABLE: 64 quantisers, none of them 0

pub record IsQuants (table : QuantTable) : Type 0 where
  pub long : length table ≡ 64
  pub some : any_of is_zero_quant table ≡ false

length_pairs : (n : ℕ) (bytes : List ℕ) → length bytes ≡ n + n → length (parsed_pairs bytes) ≡ n
length_pairs zero [] l = refl
length_pairs (suc n) (a ∷ b ∷ bytes) l = ap suc (length_pairs n bytes (omega (arith, l)))
length_pairs n bytes l = absurd (omega (arith, l))

length_entries : (wide : Bool) (bytes : List ℕ) → cond wide 128 64 ≤ length bytes → length (cond wide (parsed_pairs (take 128 bytes)) (take 64 bytes)) ≡ 64
length_entries true bytes l = length_pairs 64 (take 128 bytes) (length-take-le 128 bytes l)
length_entries false bytes l = length-take-le 64 bytes l

-- what holds of each table of a segment, if it holds of a table of such bytes
unfoldable pub HoldsOfTables : (ℕ → Type 0) → (QuantTable → Type 0) → Type 0
HoldsOfTables Q P = (pt : ℕ) (bytes : List ℕ) (d : ℕ × QuantTable) → All Q bytes → quant_table_of pt bytes ≡ Ok d → P d.1

all_told : (Q : ℕ → Type 0) (P : QuantTable → Type 0) → HoldsOfTables Q P → (most : ℕ) (bytes : List ℕ) → All Q bytes → All (λ d. P d.1) (parsed_list (quant_tables_of most bytes))
unfolding quant_tables_of HoldsOfTables
all_told Q P step zero [] of = All-nil (λ d. P d.1)
all_told Q P step zero (pt ∷ bytes) of = All-nil (λ d. P d.1)
all_told Q P step (suc most) [] of = All-nil (λ d. P d.1)
all_told Q P step (suc most) (pt ∷ bytes) of =
    let inner = All-tail Q pt bytes of in
    let later : All Q (drop (table_size pt) bytes) =
    all_back Q (take (table_size pt) bytes) (drop (table_size pt) bytes) (subst (λ bs. All Q bs) (sym (take-append-drop (table_size pt) bytes)) inner) in
    first (quant_table_of pt bytes) (λ d e. step pt bytes d inner e) (all_told Q P step most (drop (table_size pt) bytes) later)
  where
    others : (d : ℕ × QuantTable) → P d.1 → (t : Parsed (List (ℕ × QuantTable))) → All (λ d. P d.1) (parsed_list t) → All (λ d. P d.1) (parsed_list (t >>= λ others. Ok (d ∷ others)))
    others d is (Ok ds) all = All-cons (λ d. P d.1) d ds is all
    others d is (Err fault) all = All-nil (λ d. P d.1)

    first : (t : Parsed (ℕ × QuantTable)) → ((d : ℕ × QuantTable) → t ≡ Ok d → P d.1) → All (λ d. P d.1) (parsed_list (quant_tables_of most (drop (table_size pt) bytes)))
        → All (λ d. P d.1) (parsed_list (t >>= λ first. quant_tables_of most (drop (table_size pt) bytes) >>= λ others. Ok (first ∷ others)))
    first (Ok d) is all = others d (is d refl) (quant_tables_of most (drop (table_size pt) bytes)) all
    first (Err fault) is all = All-nil (λ d. P d.1)

-- segments of such bytes
abbrev pub AllContents : (ℕ → Type 0) → List Segment → Type 0
AllContents Q [] = Unit {0}
AllContents Q (s ∷ before) = All Q s.1 × AllContents Q before

all_in_force : (Q : ℕ → Type 0) (P : QuantTable → Type 0) → HoldsOfTables Q P → (before : List Segment) → AllContents Q before → All (λ d. P d.1) (quants_defined before)
all_in_force Q P step [] of = All-nil (λ d. P d.1)
all_in_force Q P step (s ∷ before) of =
    All-append (λ d. P d.1) (cond (s.0 == 0xdb) (reverse (parsed_list (quant_tables s.1))) []) (quants_defined before) (here (s.0 == 0xdb)) (all_in_force Q P step before of.1)
  where
    here : (b : Bool) → All (λ d. P d.1) (cond b (reverse (parsed_list (quant_tables s.1))) [])
    here true = all_reverse (λ d. P d.1) (parsed_list (quant_tables s.1)) (0, []) (all_told Q P step (length s.1) s.1 of.0)
    here false = All-nil (λ d. P d.1)

found_in : {X : Type 0} (P : X → Type 0) (test : X → Bool) (xs : List X) (x : X) → All P xs → find test xs ≡ Some x → P x
found_in P test [] x all e = cc
found_in P test (y ∷ xs) x all e = by (test y) e (found_in P test xs x (All-tail P y xs all))
  where
    by : (b : Bool) → cond b (Some y) (find test xs) ≡ Some x → (find test xs ≡ Some x → P x) → P x
    by true h older = subst P (same y x h) (All-head P y xs all)
      where
        same : {X : Type 0} (a b : X) → Some a ≡ Some b → a ≡ b
        same a b e = cc
    by false h older = older h

-- what holds of the table in a slot
pub in_force_holds : (Q : ℕ → Type 0) (P : QuantTable → Type 0) → HoldsOfTables Q P → (before : List Segment) (slot : ℕ) (table : QuantTable) → AllContents Q before → quant_in_force before slot ≡ Some table → P table
in_force_holds Q P step before slot table of e = by (find (λ d. d.0 == slot) (quants_defined before)) refl e
  where
    by : (o : Option (ℕ × QuantTable)) → find (λ d. d.0 == slot) (quants_defined before) ≡ o → option_map (λ (d : ℕ × QuantTable). d.1) o ≡ Some table → P table
    by None h k = cc
    by (Some d) h k = subst P (same d.1 table k) (found_in (λ d. P d.1) (λ d. d.0 == slot) (quants_defined before) d (all_in_force Q P step before of) h)
      where
        same : (a b : QuantTable) → Some a ≡ Some b → a ≡ b
        same a b e = cc

-- it has 64 quantisers, none of them 0
parsed_table : (pt : ℕ) (bytes : List ℕ) (d : ℕ × QuantTable) → quant_table_of pt bytes ≡ Ok d → (d.1 ≡ table_entries pt bytes) × IsQuants d.1
unfolding quant_table_of
parsed_table pt bytes d e =
    let told : ℕ × QuantTable = (pt % 16, table_entries pt bytes) in
    let zeros : Parsed (ℕ × QuantTable) = refuse BadQuant (any_of is_zero_quant (table_entries pt bytes)) (Ok told) in
    let short = refuse BadLength (nat_lt (length bytes) (table_size pt)) zeros in
    let a = refused BadQuant (nat_lt 1 (pt / 16) || nat_lt 3 (pt % 16)) short d e in
    let b = refused BadLength (nat_lt (length bytes) (table_size pt)) zeros d a.1 in
    let k = refused BadQuant (any_of is_zero_quant (table_entries pt bytes)) (Ok told) d b.1 in
    let is : IsQuants told.1 = record { long = length_entries (pt / 16 == 1) bytes (not_lt_of (length bytes) (table_size pt) b.0); some = k.0 } in
    (ap (λ (t : ℕ × QuantTable). t.1) (sym (same told d k.1)), subst (λ (t : ℕ × QuantTable). IsQuants t.1) (same told d k.1) is)
  where
    same : (a b : ℕ × QuantTable) → (let t : Parsed (ℕ × QuantTable) = Ok a in t) ≡ Ok b → a ≡ b
    same a b e = cc

abbrev pub Anything : ℕ → Type 0
Anything b = Unit {0}

anything : (before : List Segment) → AllContents Anything before
anything [] = tt
anything (s ∷ before) = (λ k d h. tt, anything before)

pub in_force_quants : (before : List Segment) (slot : ℕ) (table : QuantTable) → quant_in_force before slot ≡ Some table → IsQuants table
unfolding HoldsOfTables
in_force_quants before slot table e = in_force_holds Anything IsQuants (λ pt bytes d of k. (parsed_table pt bytes d k).1) before slot table (anything before) e

-- of bytes its quantisers are numbers of two bytes
abbrev pub IsByte : ℕ → Type 0
IsByte b = b < 256

abbrev pub AreEntries : QuantTable → Type 0
AreEntries table = All (λ q. q < 65536) table

pairs_small : (bytes : List ℕ) → All IsByte bytes → AreEntries (parsed_pairs bytes)
pairs_small [] of = All-nil (λ q. q < 65536)
pairs_small (a ∷ []) of = All-nil (λ q. q < 65536)
pairs_small (a ∷ b ∷ bytes) of =
    let m = All-head IsByte a (b ∷ bytes) of in
    let more = All-tail IsByte a (b ∷ bytes) of in
    let n = All-head IsByte b bytes more in
    All-cons (λ q. q < 65536) (two_bytes a b) (parsed_pairs bytes) (omega (arith, m, n)) (pairs_small bytes (All-tail IsByte b bytes more))

entries_small : (wide : Bool) (bytes : List ℕ) → All IsByte bytes → AreEntries (cond wide (parsed_pairs (take 128 bytes)) (take 64 bytes))
entries_small true bytes of = pairs_small (take 128 bytes) (all_front IsByte (take 128 bytes) (drop 128 bytes) (subst (λ bs. All IsByte bs) (sym (take-append-drop 128 bytes)) of))
entries_small false bytes of =
    let small = all_front IsByte (take 64 bytes) (drop 64 bytes) (subst (λ bs. All IsByte bs) (sym (take-append-drop 64 bytes)) of) in
    λ k d h. (let s : get_or (take 64 bytes) k d < 256 = small k d h in omega (arith, s))

pub in_force_entries : (before : List Segment) (slot : ℕ) (table : QuantTable) → AllContents IsByte before → quant_in_force before slot ≡ Some table → AreEntries table
unfolding HoldsOfTables
in_force_entries before slot table of e =
    in_force_holds IsByte AreEntries (λ pt bytes d all k. subst AreEntries (sym (parsed_table pt bytes d k).0) (entries_small (pt / 16 == 1) bytes all)) before slot table of e

-- A TABLE from its bytes

unfoldable pub AreTwoBytes : QuantTable → Type 0
AreTwoBytes [] = Unit {0}
AreTwoBytes (q ∷ table) = (q < 65536) × AreTwoBytes table

pub pairs_again : (table : QuantTable) → AreTwoBytes table → parsed_pairs (flat_map (to_be_bytes w16) table) ≡ table
unfolding AreTwoBytes
pairs_again [] are = refl
pairs_again (q ∷ table) are =
    let e : two_bytes (q / 256 % 256) (q % 256) ≡ q = omega (arith, are.0) in
    ap (λ n. n ∷ parsed_pairs (flat_map (to_be_bytes w16) table)) e ∙ ap (λ ns. q ∷ ns) (pairs_again table are.1)

pub length_pairs_written : (table : QuantTable) → length (flat_map (to_be_bytes w16) table) ≡ length table + length table
length_pairs_written [] = refl
length_pairs_written (q ∷ table) = omega (arith, length-append (to_be_bytes w16 q) (flat_map (to_be_bytes w16) table), length_pairs_written table)

-- bytes of only one table
pub one_table : (pt : ℕ) (bytes : List ℕ) (table : QuantTable) → IsQuants table → (nat_lt 1 (pt / 16) || nat_lt 3 (pt % 16)) ≡ false → length bytes ≡ table_size pt → table_entries pt bytes ≡ table
    → quant_tables (pt ∷ bytes) ≡ Ok ((pt % 16, table) ∷ [])
unfolding quant_table_of quant_tables_of
one_table pt bytes table is ok l e =
    let told : ℕ × QuantTable = (pt % 16, table) in
    let whole : quant_table_of pt bytes ≡ Ok told =
    not_refused BadQuant (nat_lt 1 (pt / 16) || nat_lt 3 (pt % 16)) _ ok ∙ not_refused BadLength (nat_lt (length bytes) (table_size pt)) _ (lt_no (length bytes) (table_size pt) (omega (arith, l)))
    ∙ not_refused BadQuant (any_of is_zero_quant (table_entries pt bytes)) _ (ap (any_of is_zero_quant) e ∙ is.some)
    ∙ ap (λ t. (let r : Parsed (ℕ × QuantTable) = Ok (pt % 16, t) in r)) e in
    let rest : drop (table_size pt) bytes ≡ [] = drop_of_length-le bytes (omega (arith, l)) in
    ap (λ r. r >>= λ first. quant_tables_of (length bytes) (drop (table_size pt) bytes) >>= λ others. Ok (first ∷ others)) whole
    ∙ ap (λ b. quant_tables_of (length bytes) b >>= λ others. Ok (told ∷ others)) rest ∙ ap (λ r. r >>= λ others. Ok (told ∷ others)) (none (length bytes))
  where
    none : (n : ℕ) → quant_tables_of n [] ≡ Ok []
    none zero = refl
    none (suc n) = refl

pub two_bytes_each : (table : QuantTable) → All (λ q. q < 65536) table → AreTwoBytes table
unfolding AreTwoBytes
two_bytes_each [] all = tt
two_bytes_each (q ∷ table) all = (All-head (λ q. q < 65536) q table all, two_bytes_each table (All-tail (λ q. q < 65536) q table all))
