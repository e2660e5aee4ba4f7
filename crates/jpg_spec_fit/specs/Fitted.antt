-- HUFFMAN TABLES MADE FOR COUNTS of how often each symbol is sent (T.81, Annex K.2, Figures K.1 to K.4).
use Rattle.std.specs.Prelude.{◌≡◌, ℕ, zero, suc, ◌+◌, ◌<◌, ◌≤◌, true, nat_lt, ◌==◌, ◌||◌, if◌then◌else◌, List, [], ◌∷◌, ◌++◌, length, map, filter, reverse, count_by, sum, All, slice_index, slice_set, Option, Some, None, option_map}
use Rattle.jpg_spec.specs.Lists.{below, is_distinct}
use Rattle.jpg_spec.specs.Codes.{are_codes}
use Rattle.jpg_spec.specs.Segments.{HuffmanTable}

-- GROUPS (Figure K.1). Each group of symbols has the number of one of them. By number, the count of the group, 0 if no
-- group has the number; by symbol, the number of its group, and the size of its code in the group.
pub record Groups : Type 0 where
  pub counts : List ℕ
  pub members : List (ℕ × ℕ)

-- each symbol alone, with a code of no bits
abbrev pub alone : List ℕ → Groups
alone counts = record { counts = counts; members = map (λ symbol. (symbol, 0)) (below (length counts)) }

-- of a group, if any, and the group of a greater number the one of the lesser count; if these are equal, the latter
abbrev pub lesser : List ℕ → Option ℕ → ℕ → Option ℕ
lesser counts None later = if slice_index counts later == 0 then None else Some later
lesser counts (Some a) later = if slice_index counts later == 0 || nat_lt (slice_index counts a) (slice_index counts later) then Some a else Some later

-- the group of the least count among the numbers below n
abbrev pub least_below : List ℕ → ℕ → Option ℕ
least_below counts zero = None
least_below counts (suc n) = lesser counts (least_below counts n) n

unfoldable pub least : List ℕ → Option ℕ
least counts = least_below counts (length counts)

-- the group of the least count, and that of the least count of the others
abbrev pub with_next : List ℕ → Option ℕ → Option (ℕ × ℕ)
with_next counts None = None
with_next counts (Some a) = option_map (λ b. (a, b)) (least (slice_set counts a 0))

unfoldable pub least_two : List ℕ → Option (ℕ × ℕ)
least_two counts = with_next counts (least counts)

-- Two groups become one: it has the number of the first, and each of its codes one bit more.
abbrev pub joined_member : ℕ → ℕ → ℕ × ℕ → ℕ × ℕ
joined_member a b m = if m.0 == a || m.0 == b then (a, m.1 + 1) else m

unfoldable pub joined : Groups → ℕ → ℕ → Groups
joined g a b = record {
  counts = slice_set (slice_set g.counts a (slice_index g.counts a + slice_index g.counts b)) b 0;
  members = map (joined_member a b) g.members;
}

-- a step joins the two groups of the least counts; a single group stays
abbrev pub joined_if : Groups → Option (ℕ × ℕ) → Groups
joined_if g None = g
joined_if g (Some two) = joined g two.0 two.1

abbrev pub step : Groups → Groups
step g = joined_if g (least_two g.counts)

abbrev pub steps : ℕ → Groups → Groups
steps zero g = g
steps (suc n) g = steps n (step g)

-- THE SIZES of the codes (Figure K.1), by symbol, 0 where the count is 0. The last one is that of a reserved symbol of
-- count 1, so that no symbol's code is all ones. Of n symbols and this one n steps make a single group.
unfoldable pub code_sizes : List ℕ → List ℕ
code_sizes counts = map (λ m. m.1) (steps (length counts) (alone (counts ++ 1 ∷ []))).members

-- how many codes there are of each size, from the longest size down to 1 (Figure K.2)
abbrev pub sizes_counted : ℕ → List ℕ → List ℕ
sizes_counted zero sizes = []
sizes_counted (suc longest) sizes = count_by (λ size. size == suc longest) sizes ∷ sizes_counted longest sizes

-- SIZES ADJUSTED (Figure K.3), by how many codes there are of each, from the longest down. The longest of the shorter
-- codes gets one bit more, and a code of its new size is added: m and those that follow are the counts.
abbrev pub code_split : ℕ → List ℕ → List ℕ
code_split m [] = m ∷ []
code_split m (zero ∷ shorter) = m ∷ code_split 0 shorter
code_split m (suc n ∷ shorter) = (m + 2) ∷ n ∷ shorter

-- The n codes of the longest size become shorter, two at a time: what both begin with is one's code, and the other's
-- comes from a shorter code that is split.
abbrev pub longest_moved : ℕ → List ℕ → List ℕ
longest_moved zero shorter = shorter
longest_moved (suc zero) shorter = shorter
longest_moved (suc (suc n)) [] = []
longest_moved (suc (suc n)) (m ∷ shorter) = longest_moved n (code_split (m + 1) shorter)

-- The codes of as many sizes become shorter, the longest first.
abbrev pub limited : ℕ → List ℕ → List ℕ
limited zero counts = counts
limited (suc more) [] = []
limited (suc more) (n ∷ shorter) = limited more (longest_moved n shorter)

-- one code of the longest size less: the reserved symbol's
abbrev pub one_less : List ℕ → List ℕ
one_less [] = []
one_less (zero ∷ shorter) = zero ∷ one_less shorter
one_less (suc n ∷ shorter) = n ∷ shorter

-- at most 16 bits, of n symbols whose codes have at most n
unfoldable pub fitted_counts : ℕ → List ℕ → List ℕ
fitted_counts n sizes = one_less (limited n (sizes_counted (n + 16) sizes))

-- THE TABLE: the symbols below n by the size of their codes before it was adjusted, and then by value (Figure K.4)
abbrev pub symbols_of_size : List ℕ → ℕ → ℕ → List ℕ
symbols_of_size sizes n size = filter (λ symbol. slice_index sizes symbol == size) (below n)

abbrev pub symbols_up_to : List ℕ → ℕ → ℕ → List ℕ
symbols_up_to sizes n zero = []
symbols_up_to sizes n (suc size) = symbols_up_to sizes n size ++ symbols_of_size sizes n (suc size)

-- the table of symbols that are sent as often as these counts say
unfoldable pub fitted : List ℕ → HuffmanTable
fitted counts =
    let n = length counts in
    let sizes = code_sizes counts in
    record { counts = reverse (fitted_counts n sizes); symbols = symbols_up_to sizes n (n + 16) }

-- A VALID TABLE: 16 counts of one byte, as many symbols as codes, at most 256 and none twice; each code fits its size,
-- and none is all ones.
pub record IsValidTable (table : HuffmanTable) : Type 0 where
  pub lengths : length table.counts ≡ 16
  pub bytes : All (λ n. n < 256) table.counts
  pub total : sum table.counts ≡ length table.symbols
  pub few : length table.symbols ≤ 256
  pub distinct : is_distinct table.symbols ≡ true
  pub codes : are_codes 1 0 table.counts ≡ true
