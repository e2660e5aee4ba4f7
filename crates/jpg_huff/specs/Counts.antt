-- HOW OFTEN A SCAN SENDS EACH SYMBOL, by the class (0 is DC, 1 is AC) and the slot of the table (T.81, F.1.2, G.1.2, K.2).
use Rattle.std.specs.Prelude.{◌≡◌, ℕ, ◌+◌, ◌<◌, ◌≤◌, ◌==◌, Bool, ◌&&◌, min, List, [], ◌++◌, length, replicate, count_by, slice_index, slice_index_or}
use Rattle.jpg_huff.specs.declared.counts.SymbolCounts.{SymbolCounts}

-- by slot, how often each symbol is sent
abbrev pub Rows : Type 0
Rows = List (List ℕ)

abbrev pub row : Rows → ℕ → List ℕ
row rows slot = slice_index_or rows slot []

abbrev pub count_of : Rows → ℕ → ℕ → ℕ
count_of rows slot symbol = slice_index (row rows slot) symbol

-- a count of 32 bits, which stays at the greatest
unfoldable pub capped : ℕ → ℕ
capped n = min n 4294967295

pub record AreRows (rows : Rows) : Type 0 where
  pub two : length rows ≡ 2
  pub long : (slot : ℕ) → slot < 2 → length (row rows slot) ≡ 256
  pub within : (slot symbol : ℕ) → slot < 2 → symbol < 256 → count_of rows slot symbol ≤ 4294967295
  -- no scan sends these, so that there are 255 symbols at most
  pub last : (slot : ℕ) → slot < 2 → count_of rows slot 255 ≡ 0

pub record AreCounts (counts : SymbolCounts) : Type 0 where
  pub dc : AreRows counts.dc
  pub ac : AreRows counts.ac

unfoldable pub no_rows : Rows
no_rows = replicate 2 (replicate 256 0)

abbrev pub no_counts : SymbolCounts
no_counts = record { dc = no_rows; ac = no_rows }

-- MARKS, one for each time that a symbol is sent: the class and slot of its table, and the symbol

abbrev pub Mark : Type 0
Mark = (ℕ × ℕ) × ℕ

abbrev pub is_mark : ℕ → ℕ → ℕ → Mark → Bool
is_mark class slot symbol m = (m.0).0 == class && (m.0).1 == slot && m.1 == symbol

-- of a class, these are counted too
abbrev pub CountsToo : ℕ → Rows → List Mark → Rows → Type 0
CountsToo class old marks new =
    (slot symbol : ℕ) → slot < 2 → symbol < 256 → count_of new slot symbol ≡ capped (count_of old slot symbol + count_by (is_mark class slot symbol) marks)

-- these are counted too
pub record Notes (old : SymbolCounts) (marks : List Mark) (new : SymbolCounts) : Type 0 where
  pub counts : AreCounts new
  pub dc : CountsToo 0 old.dc marks new.dc
  pub ac : CountsToo 1 old.ac marks new.ac

-- all but those that follow later
pub record NotesBut (old : SymbolCounts) (all rest : List Mark) (new : SymbolCounts) : Type 0 where
  pub front : List Mark
  pub joined : front ++ rest ≡ all
  pub done : Notes old front new
