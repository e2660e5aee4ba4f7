-- Blocks of which most take half of their memory: what is stored of one, and what stays of the others.
use Rattle.std.proofs.Common.{◌≡◌, ◌⊎◌, inl, inr, ℕ, zero, suc, ◌+◌, ◌-◌, ◌*◌, ◌/◌, ◌%◌, ◌<◌, ◌≤◌, ◌==◌, Bool, true, false, cond, List, [], ◌∷◌, ◌++◌, length, map, set, get_or, replicate, refl, sym, ap, ◌∙◌, subst, arith, ℤ, pos, negsuc}
use Rattle.std.specs.Prelude.{sum_by, ◌≤ℤ◌}
use Rattle.std.specs.Int.{cast_signed, cast_unsigned, w8, w16}
use Rattle.std.specs.List.{All, range_with_len}
use Rattle.std.proofs.lemmas.Bool.{cases_eq}
use Rattle.std.proofs.lemmas.Bool.Decides.{nat_tests}
use Rattle.std.proofs.lemmas.Int.{ints, of_z-to_z, to_z_pos}
use Rattle.std.proofs.Math.Facts.{to_z-neg}
use Rattle.std.proofs.lemmas.List.{same_lists, length-map, length-set, get_or-map, get_or-set_same, get_or-set_other, get_or_append_left, get_or-append-add, length-append, get_or_default, get_or-replicate, length-replicate}
use Rattle.std.proofs.lemmas.List.Elements.{All-get_or, All-from_get_or, All-set, All-weaker}
use Rattle.std.proofs.lemmas.List.FromFn.{fill_by_all, get_or-map-range_with_len, length-map-range_with_len}
use Rattle.std.proofs.lemmas.List.Sums.{sum_by-le, sum_by-set}
use Rattle.jpg_spec.specs.Elements.{zeros}
use Rattle.jpg_coefs.specs.PackedCells.{AreShort, HasHighs, HasLows, IsByte, IsPacked, IsZeroCell, at, cell_block, has_room, high_of, low_of, no_cell, packed_blocks, room_at, short_value, value_at, whole_of}
use Rattle.jpg_coefs.specs.declared.cell.Cell.{Cell}

-- THE BYTES of a number

pub byte_low : (v : ℤ) → IsByte v → low_of v ≡ v
byte_low (pos n) h =
    let few : n < 128 = omega (arith, ints, h.1) in
    let low : cast_unsigned w16 (pos n) % 256 ≡ n = omega (arith, few) in
    ap (cast_signed w8) low ∙ to_z_pos w8 n few
byte_low (negsuc n) h =
    let few : n < 128 = omega (arith, ints, h.0) in
    let low : cast_unsigned w16 (negsuc n) % 256 ≡ 256 - suc n = omega (arith, few) in
    ap (cast_signed w8) low ∙ to_z-neg w8 n few

pub whole_same : (v : ℤ) → (negsuc 32767 ≤ℤ v) × (v ≤ℤ pos 32767) → whole_of (high_of v) (low_of v) ≡ v
whole_same v fits =
    let u = cast_unsigned w16 v in
    let few : u < 65536 = omega (arith, ints, fits.0, fits.1) in
    let high : cast_unsigned w8 (high_of v) ≡ u / 256 = of_z-to_z w8 (u / 256) (omega (arith, few)) in
    let low : cast_unsigned w8 (low_of v) ≡ u % 256 = of_z-to_z w8 (u % 256) (omega arith) in
    let all : cast_unsigned w8 (high_of v) * 256 + cast_unsigned w8 (low_of v) ≡ u = omega (arith, high, low) in
    ap (cast_signed w16) all ∙ omega (arith, ints, fits.0, fits.1)

-- THE BLOCK OF A CELL

long_cell : (highs : List (List ℤ)) (c : Cell) → length (cell_block highs c) ≡ 64
long_cell highs c = length-map-range_with_len (value_at highs c) 0 64

value_short : (highs : List (List ℤ)) (c : Cell) (k : ℕ) → c.room ≡ 0 → value_at highs c k ≡ short_value c.first c.low k
value_short highs c k none = ap (λ n. cond (n == 0) (short_value c.first c.low k) (whole_of (at (get_or highs (c.room - 1) []) k) (at c.low k))) none

value_whole : (highs : List (List ℤ)) (c : Cell) (k : ℕ) → 1 ≤ c.room → value_at highs c k ≡ whole_of (at (get_or highs (c.room - 1) []) k) (at c.low k)
value_whole highs c k some =
    let no : (c.room == 0) ≡ false = grind (arith, nat_tests, some) in
    ap (λ b. cond b (short_value c.first c.low k) (whole_of (at (get_or highs (c.room - 1) []) k) (at c.low k))) no

value_rest : (first : ℤ) (low : List ℤ) (k : ℕ) → 1 ≤ k → short_value first low k ≡ at low k
value_rest first low k some = (let rest : (k == 0) ≡ false = grind (arith, nat_tests, some) in ap (λ b. cond b first (at low k)) rest)

-- its numbers
at_cell : (highs : List (List ℤ)) (c : Cell) (k : ℕ) → k < 64 → at (cell_block highs c) k ≡ value_at highs c k
at_cell highs c k lt = get_or-map-range_with_len (value_at highs c) 0 64 k k (pos 0) lt (omega arith)

-- a block with these numbers
pub is_short : (highs : List (List ℤ)) (c : Cell) (block : List ℤ) → c.room ≡ 0 → length block ≡ 64 → ((k : ℕ) → k < 64 → at block k ≡ short_value c.first c.low k) → block ≡ cell_block highs c
is_short highs c block none long all = fill_by_all (value_at highs c) block 64 (pos 0) long (λ k lt. all k lt ∙ sym (value_short highs c k none))

pub is_whole : (highs : List (List ℤ)) (c : Cell) (block : List ℤ) → 1 ≤ c.room → length block ≡ 64 → ((k : ℕ) → k < 64 → at block k ≡ whole_of (at (get_or highs (c.room - 1) []) k) (at c.low k)) → block ≡ cell_block highs c
is_whole highs c block some long all = fill_by_all (value_at highs c) block 64 (pos 0) long (λ k lt. all k lt ∙ sym (value_whole highs c k some))

-- one that is stored so
pub stored_short : (highs : List (List ℤ)) (c : Cell) (block : List ℤ) → c.room ≡ 0 → c.first ≡ at block 0 → HasLows block c.low → AreShort block → length block ≡ 64 → cell_block highs c ≡ block
stored_short highs c block none first lows short long = sym (is_short highs c block none long by)
  where
    by : (k : ℕ) → k < 64 → at block k ≡ short_value c.first c.low k
    by zero lt = sym first
    by (suc k) lt = sym (value_rest c.first c.low (suc k) (omega arith) ∙ lows (suc k) lt ∙ byte_low (at block (suc k)) (short (suc k) (omega arith) lt))

pub stored_whole : (highs : List (List ℤ)) (c : Cell) (block high : List ℤ) → 1 ≤ c.room → get_or highs (c.room - 1) [] ≡ high → HasHighs block high → HasLows block c.low
    → ((k : ℕ) → k < 64 → (negsuc 32767 ≤ℤ at block k) × (at block k ≤ℤ pos 32767)) → length block ≡ 64 → cell_block highs c ≡ block
stored_whole highs c block high some there highs_of lows fits long = sym (is_whole highs c block some long by)
  where
    by : (k : ℕ) → k < 64 → at block k ≡ whole_of (at (get_or highs (c.room - 1) []) k) (at c.low k)
    by k lt =
        sym (whole_same (at block k) (fits k lt))
        ∙ sym (ap (λ h. whole_of (at h k) (at c.low k)) there ∙ ap (λ h. whole_of h (at c.low k)) (highs_of k lt) ∙ ap (whole_of (high_of (at block k))) (lows k lt))

pub zero_block : (highs : List (List ℤ)) (c : Cell) → IsZeroCell c → cell_block highs c ≡ zeros 64
zero_block highs c z = sym (is_short highs c (zeros 64) z.room (length-replicate 64 (pos 0)) by)
  where
    by : (k : ℕ) → k < 64 → at (zeros 64) k ≡ short_value c.first c.low k
    by zero lt = sym z.first
    by (suc k) lt = get_or-replicate 64 (suc k) (pos 0) (pos 0) lt ∙ sym (value_rest c.first c.low (suc k) (omega arith) ∙ z.low (suc k))

pub zero_at : (n k : ℕ) → at (replicate n (pos 0)) k ≡ pos 0
zero_at zero k = refl
zero_at (suc n) zero = refl
zero_at (suc n) (suc k) = zero_at n k

-- ALL BLOCKS

pub zero_blocks : (highs : List (List ℤ)) (cells : List Cell) → All IsZeroCell cells → packed_blocks highs cells ≡ replicate (length cells) (zeros 64)
zero_blocks highs cells all =
    same_lists (packed_blocks highs cells) (replicate (length cells) (zeros 64)) (length-map cells (cell_block highs) ∙ sym (length-replicate (length cells) (zeros 64)))
    (λ k d lt. (let low : k < length cells = omega (arith, lt, length-map cells (cell_block highs)) in
    get_or-map (cell_block highs) cells k no_cell d low ∙ zero_block highs (get_or cells k no_cell) (All-get_or IsZeroCell cells k no_cell low all) ∙ sym (get_or-replicate (length cells) k (zeros 64) d low)))

-- one of them
pub block_of : (highs : List (List ℤ)) (cells : List Cell) (n : ℕ) (c : Cell) (d : List ℤ) → n < length cells → get_or cells n no_cell ≡ c → get_or (packed_blocks highs cells) n d ≡ cell_block highs c
block_of highs cells n c d low is = get_or-map (cell_block highs) cells n no_cell d low ∙ ap (cell_block highs) is

pub sized : (highs : List (List ℤ)) (cells : List Cell) → All (λ b. length b ≡ 64) (packed_blocks highs cells)
sized highs cells =
    All-from_get_or (λ b. length b ≡ 64) (packed_blocks highs cells) []
    (λ k lt. (let low : k < length cells = omega (arith, lt, length-map cells (cell_block highs)) in ap length (get_or-map (cell_block highs) cells k no_cell [] low) ∙ long_cell highs (get_or cells k no_cell)))

-- one that is put there, where the others stay
pub packed_set : (highs after : List (List ℤ)) (cells : List Cell) (n : ℕ) (c : Cell) (block : List ℤ) → cell_block after c ≡ block
    → ((m : ℕ) → m < length cells → (m ≡ n → ⊥) → cell_block after (get_or cells m no_cell) ≡ cell_block highs (get_or cells m no_cell))
    → packed_blocks after (set cells n c) ≡ set (packed_blocks highs cells) n block
packed_set highs after cells n c block is others =
    same_lists (packed_blocks after (set cells n c)) (set (packed_blocks highs cells) n block) (new_long ∙ sym old_long) (λ k d lt. by k d (omega (arith, lt, new_long)) (cases_eq k n))
  where
    new_long : length (packed_blocks after (set cells n c)) ≡ length cells
    new_long = length-map (set cells n c) (cell_block after) ∙ length-set cells n c

    old_long : length (set (packed_blocks highs cells) n block) ≡ length cells
    old_long = length-set (packed_blocks highs cells) n block ∙ length-map cells (cell_block highs)

    by : (k : ℕ) (d : List ℤ) → k < length cells → (k ≡ n) ⊎ (k ≡ n → ⊥) → get_or (packed_blocks after (set cells n c)) k d ≡ get_or (set (packed_blocks highs cells) n block) k d
    by k d low (inl e) =
        let here : n < length cells = omega (arith, low, e) in
        ap (λ i. get_or (packed_blocks after (set cells n c)) i d) e
        ∙ get_or-map (cell_block after) (set cells n c) n no_cell d (omega (arith, here, length-set cells n c)) ∙ ap (cell_block after) (get_or-set_same cells n c no_cell here) ∙ is
        ∙ sym (get_or-set_same (packed_blocks highs cells) n block d (omega (arith, here, length-map cells (cell_block highs)))) ∙ ap (λ i. get_or (set (packed_blocks highs cells) n block) i d) (sym e)
    by k d low (inr other) =
        get_or-map (cell_block after) (set cells n c) k no_cell d (omega (arith, low, length-set cells n c)) ∙ ap (cell_block after) (get_or-set_other cells n k c no_cell other) ∙ others k low other
        ∙ sym (get_or-map (cell_block highs) cells k no_cell d low) ∙ sym (get_or-set_other (packed_blocks highs cells) n k block d other)

-- THE HIGH BYTES OF OTHERS stay

-- a cell whose high bytes are the same ones
cell_same : (highs after : List (List ℤ)) (c : Cell) → (1 ≤ c.room → get_or after (c.room - 1) [] ≡ get_or highs (c.room - 1) []) → cell_block after c ≡ cell_block highs c
cell_same highs after c same = by (cases_eq c.room 0)
  where
    by : (c.room ≡ 0) ⊎ (c.room ≡ 0 → ⊥) → cell_block after c ≡ cell_block highs c
    by (inl none) = is_short highs c (cell_block after c) none (long_cell after c) (λ k lt. at_cell after c k lt ∙ value_short after c k none)
    by (inr more) =
        let some : 1 ≤ c.room = omega (arith, more) in
        is_whole highs c (cell_block after c) some (long_cell after c) (λ k lt. at_cell after c k lt ∙ value_whole after c k some ∙ ap (λ h. whole_of (at h k) (at c.low k)) (same some))

pub others_added : (highs : List (List ℤ)) (high : List ℤ) (cells : List Cell) (m : ℕ) → All (λ c. c.room ≤ length highs) cells → m < length cells
    → cell_block (highs ++ high ∷ []) (get_or cells m no_cell) ≡ cell_block highs (get_or cells m no_cell)
others_added highs high cells m below low =
    let c = get_or cells m no_cell in
    let within : c.room ≤ length highs = All-get_or (λ c. c.room ≤ length highs) cells m no_cell low below in
    cell_same highs (highs ++ high ∷ []) c (λ some. get_or_append_left highs (high ∷ []) [] (c.room - 1) (omega (arith, some, within)))

pub others_kept : (highs : List (List ℤ)) (high : List ℤ) (cells : List Cell) (capacity m n r : ℕ) → IsPacked highs cells capacity → m < length cells → n < length cells → (m ≡ n → ⊥) → room_at cells n ≡ r → 1 ≤ r
    → cell_block (set highs (r - 1) high) (get_or cells m no_cell) ≡ cell_block highs (get_or cells m no_cell)
others_kept highs high cells capacity m n r p low here other is some =
    let c = get_or cells m no_cell in
    cell_same highs (set highs (r - 1) high) c
    (λ more. get_or-set_other highs (r - 1) (c.room - 1) high [] (λ e. other (p.apart m n low here more (let same : c.room ≡ r = omega (arith, e, more, some) in same ∙ sym is))))

-- EACH HAS ITS OWN

none_room : (c : Cell) → c.room ≡ 0 → has_room c ≡ 0
none_room c e = ap (λ n. cond (n == 0) 0 1) e

one_room : (c : Cell) → 1 ≤ c.room → has_room c ≡ 1
one_room c some = (let no : (c.room == 0) ≡ false = grind (arith, nat_tests, some) in ap (λ b. cond b 0 1) no)

-- where a cell keeps its room
pub packed_kept : (highs after : List (List ℤ)) (cells : List Cell) (capacity n : ℕ) (c : Cell) → IsPacked highs cells capacity → length after ≡ length highs → n < length cells → c.room ≡ room_at cells n → IsPacked after (set cells n c) capacity
packed_kept highs after cells capacity n c p same low is = record {
  below = All-weaker (λ x. x.room ≤ length highs) (λ x. x.room ≤ length after) (λ x h. omega (arith, h, same)) (set cells n c)
      (All-set (λ x. x.room ≤ length highs) cells n c (omega (arith, is, All-get_or (λ x. x.room ≤ length highs) cells n no_cell low p.below)) p.below);
  apart = λ i j li lj some e. p.apart i j (omega (arith, li, long)) (omega (arith, lj, long)) (omega (arith, some, at_room i)) (sym (at_room i) ∙ e ∙ at_room j);
  count = (let s = sum_by-set has_room cells n c no_cell low in
      let h : has_room c ≡ has_room (get_or cells n no_cell) = ap (λ r. cond (r == 0) 0 1) is in
      let counted = p.count in omega (arith, s, h, counted, same));
  space = (let k = p.space in omega (arith, k, long));
  small = (let k = p.small in omega (arith, k, long));
}
  where
    long : length (set cells n c) ≡ length cells
    long = length-set cells n c

    at_room : (i : ℕ) → room_at (set cells n c) i ≡ room_at cells i
    at_room i = by (cases_eq i n)
      where
        by : (i ≡ n) ⊎ (i ≡ n → ⊥) → room_at (set cells n c) i ≡ room_at cells i
        by (inl e) = ap (room_at (set cells n c)) e ∙ ap (λ (x : Cell). x.room) (get_or-set_same cells n c no_cell low) ∙ is ∙ ap (room_at cells) (sym e)
        by (inr other) = ap (λ (x : Cell). x.room) (get_or-set_other cells n i c no_cell other)

-- there is room for the high bytes of one that has none
pub has_space : (highs : List (List ℤ)) (cells : List Cell) (capacity n : ℕ) → IsPacked highs cells capacity → n < length cells → room_at cells n ≡ 0 → length highs < length cells
has_space highs cells capacity n p low none =
    let full : Cell = record { first = pos 0; room = 1; low = [] } in
    let s = sum_by-set has_room cells n full no_cell low in
    let z = none_room (get_or cells n no_cell) none in
    let counted = p.count in
    let most = few_rooms (set cells n full) in
    omega (arith, s, z, counted, most, length-set cells n full)
  where
    few_rooms : (l : List Cell) → sum_by has_room l ≤ length l
    few_rooms l = (let most = sum_by-le has_room 1 l (λ k d lt. at_most ((get_or l k d).room == 0)) in omega (arith, most))
      where
        at_most : (b : Bool) → cond b 0 1 ≤ 1
        at_most true = omega arith
        at_most false = omega arith

-- where it gets them
pub packed_added : (highs : List (List ℤ)) (high : List ℤ) (cells : List Cell) (capacity n : ℕ) (c : Cell) → IsPacked highs cells capacity → n < length cells → room_at cells n ≡ 0 → c.room ≡ length highs + 1
    → IsPacked (highs ++ high ∷ []) (set cells n c) capacity
packed_added highs high cells capacity n c p low none is = record {
  below = All-set (λ x. x.room ≤ length (highs ++ high ∷ [])) cells n c (omega (arith, is, one))
      (All-weaker (λ x. x.room ≤ length highs) (λ x. x.room ≤ length (highs ++ high ∷ [])) (λ x h. omega (arith, h, one)) cells p.below);
  apart = λ i j li lj some e. pair i j (omega (arith, li, long)) (omega (arith, lj, long)) some e (cases_eq i n) (cases_eq j n);
  count = (let s = sum_by-set has_room cells n c no_cell low in
      let z = none_room (get_or cells n no_cell) none in
      let f = one_room c (omega (arith, is)) in
      let counted = p.count in omega (arith, s, z, f, counted, one));
  space = (let k = p.space in omega (arith, k, long));
  small = (let k = p.small in omega (arith, k, long));
}
  where
    one : length (highs ++ high ∷ []) ≡ length highs + 1
    one = length-append highs (high ∷ [])

    long : length (set cells n c) ≡ length cells
    long = length-set cells n c

    here : room_at (set cells n c) n ≡ length highs + 1
    here = ap (λ (x : Cell). x.room) (get_or-set_same cells n c no_cell low) ∙ is

    there : (i : ℕ) → (i ≡ n → ⊥) → room_at (set cells n c) i ≡ room_at cells i
    there i other = ap (λ (x : Cell). x.room) (get_or-set_other cells n i c no_cell other)

    within : (i : ℕ) → i < length cells → room_at cells i ≤ length highs
    within i li = All-get_or (λ x. x.room ≤ length highs) cells i no_cell li p.below

    pair : (i j : ℕ) → i < length cells → j < length cells → 1 ≤ room_at (set cells n c) i → room_at (set cells n c) i ≡ room_at (set cells n c) j → (i ≡ n) ⊎ (i ≡ n → ⊥) → (j ≡ n) ⊎ (j ≡ n → ⊥) → i ≡ j
    pair i j li lj some e (inl x) (inl y) = x ∙ sym y
    pair i j li lj some e (inl x) (inr y) = absurd (omega (arith, ap (room_at (set cells n c)) x, here, e, there j y, within j lj))
    pair i j li lj some e (inr x) (inl y) = absurd (omega (arith, ap (room_at (set cells n c)) y, here, e, there i x, within i li))
    pair i j li lj some e (inr x) (inr y) = p.apart i j li lj (omega (arith, some, there i x)) (sym (there i x) ∙ e ∙ there j y)

-- none of them at first
pub packed_zero : (cells : List Cell) (capacity : ℕ) → All IsZeroCell cells → length cells ≤ capacity → length cells < 4294967296 → IsPacked [] cells capacity
packed_zero cells capacity all space small = record {
  below = All-weaker IsZeroCell (λ x. x.room ≤ 0) (λ x z. (let r = z.room in omega (arith, r))) cells all;
  apart = λ i j li lj some e. absurd (omega (arith, some, (All-get_or IsZeroCell cells i no_cell li all).room));
  count = none cells all;
  space = space;
  small = small;
}
  where
    none : (l : List Cell) → All IsZeroCell l → sum_by has_room l ≡ 0
    none l h =
        (let most = sum_by-le has_room 0 l (λ k d lt. (let z = none_room (get_or l k d) (h k d lt).room in omega (arith, z))) in omega (arith, most))
