-- WHICH BITS OF A SCAN HAVE A FAULT: complete elements, and then one thing that isn't allowed there (T.81, F.2.2,
-- G.1.2).
use Rattle.std.specs.Prelude.{◌≡◌, ◌⊎◌, ℕ, ◌+◌, ◌*◌, ◌/◌, ◌%◌, ◌^◌, ◌<◌, ◌≤◌, Bool, true, false, nat_lt, nat_le, ◌&&◌, ◌||◌, ◌==◌, List, ◌∷◌, ◌++◌, length, ℤ, Contains}
use Rattle.jpg_spec.specs.Bits.{bits_of}
use Rattle.jpg_spec.specs.Codes.{Code}
use Rattle.jpg_spec.specs.Elements.{Coding, UnitLeft, Standing, Element, Covers, Tells, are_in_bounds, SpellsElement, codes_due, at_start, zeros_in}
use Rattle.jpg_spec.specs.declared.fault.Fault.{Fault}
use Rattle.jpg_spec.specs.declared.fault.Fault.TheVariants.{NoCode, BadSymbol, BadRun, CoefRange, RunPastEnd}

-- no code begins with these bits, and they begin with no code: DECODE finds none (F.2.2.3, Figure F.16)
abbrev pub BeginsNone : List Code → List Bool → Type 0
BeginsNone codes bits =
    (0 < length bits) × ((code : Code) (more : List Bool) → Contains codes code → code.0 ≡ bits ++ more → ⊥)
    × ((code : Code) (more : List Bool) → Contains codes code → bits ≡ code.0 ++ more → ⊥)

-- the symbols that are allowed in the current unit
abbrev pub is_symbol : Coding → Bool → ℕ → Bool
is_symbol c true symbol = nat_le symbol c.bounds.dc_cat
is_symbol c false symbol = nat_le (symbol % 16) c.most_category && (nat_lt 0 (symbol % 16) || nat_le (symbol / 16) c.most_run || symbol == 0xf0)

-- The fault of the bits after complete elements, up to some bit of theirs.
abbrev pub BitsShow : Coding → Standing → UnitLeft → List UnitLeft → Fault → List Bool → Type 0
BitsShow c s u units fault bits =
    ((fault ≡ NoCode) × BeginsNone (codes_due c u) bits)
    ⊎ (((fault ≡ BadSymbol) × ((symbol : ℕ) × Contains (codes_due c u) (bits, symbol) × (is_symbol c u.has_dc symbol ≡ false)))
    ⊎ (((fault ≡ BadRun) × ((run : ℕ) × (size : ℕ) × Contains (codes_due c u) (bits, 16 * run + size) × (u.has_dc ≡ false) × (1 ≤ size) × (size ≤ c.most_category) × (zeros_in u.old ≤ run)))
    ⊎ (((fault ≡ CoefRange) × ((e : Element) × (here : List ℤ) × (left : List UnitLeft) × SpellsElement (codes_due c u) e bits
    × Tells c (s.predictions u.component) e u units here left × (are_in_bounds c.bounds u.has_dc here ≡ false)))
    ⊎ ((fault ≡ RunPastEnd) × ((n : ℕ) × (x : ℕ) × (code : List Bool) × Contains (codes_due c u) (code, 16 * n) × (u.has_dc ≡ false) × (n ≤ c.most_run)
    × (bits ≡ code ++ bits_of n x) × (x < 2 ^ n) × (1 + length units < 2 ^ n + x))))))

-- Complete elements, then bits with a fault, and then any more bits. (The first fault of a file is at the least number
-- of bytes that have one, so that there these are bits of the last byte.)
pub record DataReveals (c : Coding) (units : List UnitLeft) (fault : Fault) (bits : List Bool) : Type 0 where
  pub elements : List Element
  pub told : List ℤ
  pub front : List Bool
  pub here : List Bool
  pub rest : List Bool
  pub standing : Standing
  pub unit : UnitLeft
  pub others : List UnitLeft
  pub cut : bits ≡ front ++ here ++ rest
  pub covers : Covers c (at_start units) elements told front standing
  pub left : standing.left ≡ unit ∷ others
  pub codes : (unit.has_dc ≡ true) × (c.refines ≡ true) → ⊥
  pub shows : BitsShow c standing unit others fault here
