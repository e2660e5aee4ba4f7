-- Codes by the bits that are next.
use Rattle.std.proofs.Common.{◌≡◌, ℕ, ◌+◌, ◌-◌, ◌*◌, ◌/◌, ◌%◌, ◌^◌, ◌<◌, ◌≤◌, Bool, false, List, [], ◌∷◌, ◌++◌, length, take, drop, set, get_or, sym, ap, ◌∙◌, subst, arith, inl, inr, ⊎_elim}
use Rattle.std.specs.Prelude.{◌⊎◌, None, Some, if◌then◌else◌, ◌==◌}
use Rattle.std.specs.List.{Contains}
use Rattle.std.proofs.lemmas.Bool.{cases_lt}
use Rattle.std.proofs.lemmas.Grind.{elements}
use Rattle.std.proofs.lemmas.Nat.{pow_pos, pow-add}
use Rattle.std.proofs.Math.Nat.{div-lt_iff_lt-mul}
use Rattle.jpg_base.proofs.BitsAt.{bits_of-mod, bits_of-cut}
use Rattle.std.proofs.lemmas.List.{length-append, length-take-le, take_more, take_all, take-append-le, take-take}
use Rattle.std.proofs.lemmas.List.Elements.{Contains-append_cases}
use Rattle.jpg_spec.specs.Bits.{bits_of}
use Rattle.jpg_spec.specs.Codes.{Code, codes}
use Rattle.jpg_spec.proofs.Basics.Strings.{length-bits_of, bits_of_inj}
use Rattle.jpg_spec.proofs.Bits.DataLength.{codes_short}
use Rattle.jpg_spec.proofs.Bits.Levels.{from_level, front_not_below}
use Rattle.jpg_spec.proofs.Basics.Common.{take_front}
use Rattle.jpg_spec.specs.Parts.{IsFront}
use Rattle.jpg_huff.specs.Index.{IsIndexed}
use Rattle.jpg_huff.specs.Walk.{BeginsNoCode}
use Rattle.jpg_huff.specs.Tables.{symbol_codes, table_of}
use Rattle.jpg_huff.specs.declared.table.Table.{Table}
use Rattle.jpg_huff.specs.declared.look.Found.{Found}
use Rattle.jpg_huff.specs.declared.look.Spotted.TheVariants as spotted
use Rattle.jpg_huff.specs.Look.{LooksUp, found_of, Spots}
use Rattle.jpg_base.proofs.BitsAt.{bits_of-add, bits_of-beside}
use Rattle.jpg_huff.proofs.Steps.{level_split, in_longer, are_codes, is_code}
use Rattle.jpg_huff.proofs.Tables.{codes_kept, is_table}
use Rattle.jpg_spec.proofs.Headers.SameNumbers.{some_not_zero}

-- the first bits of eight
pub first_of_eight : (at byte : ℕ) → at < 8 → take (at + 1) (bits_of 8 byte) ≡ bits_of (at + 1) (byte / 2 ^ (7 - at))
first_of_eight at byte h =
    let e : 8 ≡ (at + 1) + (7 - at) = omega arith in
    ap (λ n. take (at + 1) (bits_of n byte)) e ∙ ap (take (at + 1)) (bits_of-add (at + 1) (7 - at) byte)
    ∙ take_front (at + 1) (bits_of (at + 1) (byte / 2 ^ (7 - at))) (bits_of (7 - at) byte) (length-bits_of (at + 1) (byte / 2 ^ (7 - at)))

-- a code of this length is one of its numbers
pub number_of : (counts symbols firsts starts limits : List ℕ) (i : ℕ) (code : Code) → IsIndexed counts (length symbols) firsts starts limits → i < 15
    → Contains (codes counts symbols) code → length code.0 ≡ i + 1 → (r : ℕ) × (r < get_or counts i 0) × (code.0 ≡ bits_of (i + 1) (get_or firsts i 0 + r))
number_of counts symbols firsts starts limits i code x h c l =
    let P : List Code → Type 0 = λ l. Contains l code in
    let inside = subst P (level_split symbols x i h) (in_longer symbols x i code (omega arith) (omega arith) c) in
    ⊎_elim
    (λ a. from_level (get_or counts i 0) (i + 1) (get_or firsts i 0) (drop (get_or starts i 0) symbols) code a)
    (λ b. let f = front_not_below (drop (i + 1) counts) (i + 1 + 1) (get_or firsts (i + 1) 0) (drop (get_or starts (i + 1) 0) symbols) code (are_codes counts symbols firsts starts limits (14 - i) (i + 1) x (omega arith)) b in
    absurd (omega (arith, l, ap length f.4, length-append (bits_of (i + 1 + 1) f.0) f.1, length-bits_of (i + 1 + 1) f.0)))
    (Contains-append_cases _ _ code inside)

-- no code of this length begins a byte whose number isn't one of them
pub none_of_length : (t : Table) (at byte : ℕ) (code : Code) (more : List Bool) → at < 8 → byte < 256
    → (byte / 2 ^ (7 - at) < get_or t.firsts at 0) ⊎ (get_or t.counts at 0 ≤ byte / 2 ^ (7 - at) - get_or t.firsts at 0)
    → Contains (symbol_codes t) code → length code.0 ≡ at + 1 → bits_of 8 byte ≡ code.0 ++ more → ⊥
none_of_length t at byte code more h small out c l e =
    let P : List Code → Type 0 = λ l. Contains l code in
    let r = number_of t.counts t.symbols t.firsts t.starts t.limits at code t.indexed (omega arith) (subst P (sym (codes_kept t)) c) l in
    let front : bits_of (at + 1) (byte / 2 ^ (7 - at)) ≡ code.0 = sym (first_of_eight at byte h) ∙ ap (take (at + 1)) e ∙ take_front (at + 1) code.0 more l in
    let fits = t.indexed.fits at (omega arith) in
    let q = bits_of_inj (at + 1) (byte / 2 ^ (7 - at)) (get_or t.firsts at 0 + r.0) (high_fits at byte h small) (omega (arith, r.1, fits)) (front ∙ r.2) in
    ⊎_elim (λ (a : byte / 2 ^ (7 - at) < get_or t.firsts at 0). omega (arith, q)) (λ (b : get_or t.counts at 0 ≤ byte / 2 ^ (7 - at) - get_or t.firsts at 0). omega (arith, q, r.1)) out
  where
    high_fits : (at byte : ℕ) → at < 8 → byte < 256 → byte / 2 ^ (7 - at) < 2 ^ (at + 1)
    high_fits at byte h small =
        let e : 8 ≡ (at + 1) + (7 - at) = omega (arith, h) in
        let p : 256 ≡ 2 ^ (at + 1) * 2 ^ (7 - at) = ap (λ n. 2 ^ n) e ∙ pow-add 2 (at + 1) (7 - at) in
        (div-lt_iff_lt-mul (pow_pos (7 - at))).1 (subst (λ n. byte < n) p small)

-- none of up to this length
abbrev pub NoneUpTo : Table → ℕ → ℕ → Type 0
NoneUpTo t byte n = (code : Code) (more : List Bool) → Contains (symbol_codes t) code → bits_of 8 byte ≡ code.0 ++ more → n < length code.0

pub short_code : (t : Table) (code : Code) → Contains (symbol_codes t) code → 1 ≤ length code.0
unfolding codes
short_code t code c =
    let f = front_not_below t.counts 1 0 (table_of t).symbols code (is_table t).fit c in
    omega (arith, ap length f.4, length-append (bits_of 1 f.0) f.1, length-bits_of 1 f.0)

pub none_at_first : (t : Table) (byte : ℕ) → NoneUpTo t byte 0
none_at_first t byte code more c e = omega (arith, short_code t code c)

pub none_further : (t : Table) (byte at : ℕ) → at < 8 → byte < 256 → NoneUpTo t byte at
    → (byte / 2 ^ (7 - at) < get_or t.firsts at 0) ⊎ (get_or t.counts at 0 ≤ byte / 2 ^ (7 - at) - get_or t.firsts at 0) → NoneUpTo t byte (at + 1)
none_further t byte at h small none out code more c e =
    ⊎_elim
    (λ (a : length code.0 < at + 2). absurd (none_of_length t at byte code more h small out c (let l : length code.0 ≡ at + 1 = omega (arith, none code more c e) in l) e))
    (λ (b : at + 2 ≤ length code.0). omega arith)
    (cases_lt (length code.0) (at + 2))

pub none_in_eight : (t : Table) (byte n : ℕ) → 8 ≤ n → NoneUpTo t byte n → LooksUp (symbol_codes t) (bits_of 8 byte) (found_of 0)
none_in_eight t byte n h none = λ code more c e. omega (arith, none code more c e, ap length e, length-append code.0 more, length-bits_of 8 byte)

pub found_is : (n symbol : ℕ) → 1 ≤ n → symbol < 256 → found_of (256 * n + symbol) ≡ Some (record { length = n; symbol = symbol })
found_is n symbol h s =
    let entry = 256 * n + symbol in
    let q : entry / 256 ≡ n = omega arith in
    let r : entry % 256 ≡ symbol = omega arith in
    ap (λ (b : Bool). (let f : Found = record { length = entry / 256; symbol = entry % 256 } in if b then None else Some f)) (some_not_zero entry (omega arith))
    ∙ ap (λ (k : ℕ). (let f : Found = record { length = k; symbol = entry % 256 } in Some f)) q ∙ ap (λ (k : ℕ). (let f : Found = record { length = n; symbol = k } in Some f)) r

-- the symbol of a number of this length, which is a code
number_found : (t : Table) (bits : List Bool) (at number symbol : ℕ) → at < 16 → get_or t.firsts at 0 ≤ number → number - get_or t.firsts at 0 < get_or t.counts at 0
    → symbol ≡ get_or t.symbols (get_or t.starts at 0 + (number - get_or t.firsts at 0)) 0 → take (at + 1) bits ≡ bits_of (at + 1) number
    → Contains (symbol_codes t) (take (at + 1) bits, symbol)
number_found t bits at number symbol h low high found front =
    let c = is_code t.symbols t.indexed at number h low (omega (arith, low, high)) in
    let s = get_or t.symbols (get_or t.starts at 0 + (number - get_or t.firsts at 0)) 0 in
    let P : List Code → Type 0 = λ l. Contains l (bits_of (at + 1) number, s) in
    let Q : List Bool → ℕ → Type 0 = λ b k. Contains (symbol_codes t) (b, k) in
    subst (Q (take (at + 1) bits)) (sym found) (subst (λ b. Q b s) (sym front) (subst P (codes_kept t) c))

pub code_in_eight : (t : Table) (at byte symbol : ℕ) → at < 8 → symbol < 256 → get_or t.firsts at 0 ≤ byte / 2 ^ (7 - at)
    → byte / 2 ^ (7 - at) - get_or t.firsts at 0 < get_or t.counts at 0
    → symbol ≡ get_or t.symbols (get_or t.starts at 0 + (byte / 2 ^ (7 - at) - get_or t.firsts at 0)) 0
    → LooksUp (symbol_codes t) (bits_of 8 byte) (found_of (256 * (at + 1) + symbol))
code_in_eight t at byte symbol h s low high e =
    subst (λ o. LooksUp (symbol_codes t) (bits_of 8 byte) o) (sym (found_is (at + 1) symbol (omega arith) s))
    (omega arith, omega arith, number_found t (bits_of 8 byte) at (byte / 2 ^ (7 - at)) symbol (omega arith) low high e (first_of_eight at byte h))

-- WHAT COMES FIRST

-- codes have at most sixteen bits
pub most_bits : (t : Table) (code : Code) → Contains (symbol_codes t) code → length code.0 ≤ 16
unfolding codes
most_bits t code c = omega (arith, codes_short t.counts 1 0 (table_of t).symbols code c, t.indexed.sixteen)

pub front_short : (t : Table) (bits : List Bool) → IsFront (symbol_codes t) bits → length bits < 16
front_short t bits (inl e) = omega (arith, ap length e)
front_short t bits (inr b) = omega (arith, most_bits t b.0 b.3, ap length b.4, length-append bits (b.1 ∷ b.2))

pub look_more : (codes : List Code) (entries : List ℕ) (i v : ℕ) → i < length entries → ((n : ℕ) → n < i → LooksUp codes (bits_of 8 n) (found_of (get_or entries n 0))) → LooksUp codes (bits_of 8 i) (found_of v)
    → (n : ℕ) → n < i + 1 → LooksUp codes (bits_of 8 n) (found_of (get_or (set entries i v) n 0))
look_more codes entries i v lt so_far here n h =
    ⊎_elim
    (λ (a : n < i). let e : get_or (set entries i v) n 0 ≡ get_or entries n 0 = grind (arith, elements) in subst (λ x. LooksUp codes (bits_of 8 n) (found_of x)) (sym e) (so_far n a))
    (λ (b : i ≤ n). (let e : i ≡ n = omega arith in
    let w : get_or (set entries i v) i 0 ≡ v = grind (arith, elements) in
    let P : ℕ → Type 0 = λ m. LooksUp codes (bits_of 8 m) (found_of (get_or (set entries i v) m 0)) in
    subst P e (subst (λ x. LooksUp codes (bits_of 8 i) (found_of x)) (sym w) here)))
    (cases_lt n i)

-- a step of a walk
front_more : (codes : List Code) (bits old : List Bool) (i : ℕ) → i < length bits → old ≡ take i bits → old ++ get_or bits i false ∷ [] ≡ take (i + 1) bits
front_more codes bits old i h e = ap (λ x. x ++ get_or bits i false ∷ []) e ∙ sym (take_more bits i false h)

pub walk_symbol : (t : Table) (bits old : List Bool) (i symbol : ℕ) → i < length bits → old ≡ take i bits → Contains (symbol_codes t) (old ++ get_or bits i false ∷ [], symbol) → Spots (symbol_codes t) bits (spotted.Symbol (i + 1) symbol)
walk_symbol t bits old i symbol h e c =
    let P : List Bool → Type 0 = λ x. Contains (symbol_codes t) (x, symbol) in
    let d = subst P (front_more (symbol_codes t) bits old i h e) c in
    (omega arith, omega (arith, most_bits t (take (i + 1) bits, symbol) d, length-take-le (i + 1) bits (omega arith)), omega arith, d)

pub walk_none : (codes : List Code) (bits old : List Bool) (i : ℕ) → i < length bits → old ≡ take i bits → IsFront codes (take i bits) → BeginsNoCode codes (old ++ get_or bits i false ∷ []) → Spots codes bits (spotted.NoCode (i + 1))
walk_none codes bits old i h e f n =
    let P : List Bool → Type 0 = λ x. BeginsNoCode codes x in
    let m : i + 1 - 1 ≡ i = omega arith in
    (omega arith, omega arith, subst (λ k. IsFront codes (take k bits)) (sym m) f, subst P (front_more codes bits old i h e) n)

pub walk_part : (t : Table) (bits : List Bool) (i : ℕ) → length bits ≤ i → IsFront (symbol_codes t) (take i bits) → Spots (symbol_codes t) bits spotted.Part
walk_part t bits i h f =
    let g = subst (λ x. IsFront (symbol_codes t) x) (take_all i bits h) f in
    (g, front_short t bits g)

-- what is looked up in the first eight bits, and in fewer
pub look_eight : (codes : List Code) (bits : List Bool) (n : ℕ) (f : Found) → 8 ≤ length bits → bits_of 8 n ≡ take 8 bits → LooksUp codes (bits_of 8 n) (Some f) → Spots codes bits (spotted.Symbol f.length f.symbol)
look_eight codes bits n f h e found =
    let P : List Bool → Type 0 = λ x. Contains codes (x, f.symbol) in
    let t : take f.length (bits_of 8 n) ≡ take f.length bits = ap (take f.length) e ∙ take-take f.length 8 bits found.1 in
    (found.0, omega (arith, found.1), omega (arith, found.1), subst P t found.2)

pub padded_bits : (have v : ℕ) → have ≤ 8 → bits_of 8 (v * 2 ^ (8 - have) % 2 ^ 32 % 256) ≡ bits_of have v ++ bits_of (8 - have) 0
padded_bits have v h =
    let n = v * 2 ^ (8 - have) in
    let e : 8 ≡ have + (8 - have) = omega arith in
    let z : n ≡ v * 2 ^ (8 - have) + 0 = omega arith in
    bits_of-mod 8 (n % 2 ^ 32) ∙ bits_of-cut 8 32 n (omega arith) ∙ ap (λ k. bits_of k n) e ∙ ap (bits_of (have + (8 - have))) z ∙ bits_of-beside have (8 - have) v 0 (pow_pos (8 - have))

pub look_few : (codes : List Code) (bits : List Bool) (v n have : ℕ) (f : Found) → have ≡ length bits → have ≤ 8 → bits_of have v ≡ take have bits → n ≡ v * 2 ^ (8 - have) % 2 ^ 32 % 256
    → LooksUp codes (bits_of 8 n) (Some f) → f.length ≤ have → Spots codes bits (spotted.Symbol f.length f.symbol)
look_few codes bits v n have f l h e is found short =
    let P : List Bool → Type 0 = λ x. Contains codes (x, f.symbol) in
    let all : take have bits ≡ bits = take_all have bits (omega arith) in
    let t : take f.length (bits_of 8 n) ≡ take f.length bits =
    ap (λ k. take f.length (bits_of 8 k)) is ∙ ap (take f.length) (padded_bits have v h ∙ ap (λ x. x ++ bits_of (8 - have) 0) (e ∙ all)) ∙ take-append-le f.length bits (bits_of (8 - have) 0) (omega arith) in
    (found.0, omega (arith, found.1), omega arith, subst P t found.2)

-- a code of more than eight bits by its number
pub first_of_sixteen : (at n : ℕ) → at < 16 → take (at + 1) (bits_of 16 n) ≡ bits_of (at + 1) (n / 2 ^ (15 - at))
first_of_sixteen at n h =
    let e : 16 ≡ (at + 1) + (15 - at) = omega arith in
    ap (λ m. take (at + 1) (bits_of m n)) e ∙ ap (take (at + 1)) (bits_of-add (at + 1) (15 - at) n)
    ∙ take_front (at + 1) (bits_of (at + 1) (n / 2 ^ (15 - at))) (bits_of (15 - at) n) (length-bits_of (at + 1) (n / 2 ^ (15 - at)))

pub long_code : (t : Table) (bits : List Bool) (at n number symbol : ℕ) → at < 16 → 16 ≤ length bits → bits_of 16 n ≡ take 16 bits → number ≡ n / 2 ^ (15 - at) → get_or t.firsts at 0 ≤ number → number - get_or t.firsts at 0 < get_or t.counts at 0
    → symbol ≡ get_or t.symbols (get_or t.starts at 0 + (number - get_or t.firsts at 0)) 0 → Spots (symbol_codes t) bits (spotted.Symbol (at + 1) symbol)
long_code t bits at n number symbol h long e is low high found =
    let front : take (at + 1) bits ≡ bits_of (at + 1) number =
    sym (take-take (at + 1) 16 bits (omega arith)) ∙ ap (take (at + 1)) (sym e) ∙ first_of_sixteen at n h ∙ ap (bits_of (at + 1)) (sym is) in
    (omega arith, omega arith, omega arith, number_found t bits at number symbol h low high found front)
