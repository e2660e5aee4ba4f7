-- COMPLETE ELEMENTS AND A PART OF ONE MORE (T.81, F.2.2, G.1.2): bits of its code; its code and some of its additional
-- bits; or these and some of its corrections. What was skipped has its new values, and the rest is left. Of several
-- bands that end, those that were passed have changed.
use Rattle.std.specs.Prelude.{◌≡◌, ◌⊎◌, ℕ, ◌+◌, ◌-◌, ◌*◌, ◌<◌, ◌≤◌, true, false, Bool, List, [], ◌∷◌, ◌++◌, length, ℤ, Contains}
use Rattle.jpg_spec.specs.Bits.{bits_of}
use Rattle.jpg_spec.specs.Codes.{Code}
use Rattle.jpg_spec.specs.Numbers.{category, extra_bits, digits}
use Rattle.jpg_spec.specs.Elements.{Element, Coding, UnitLeft, Standing, Covers, SpellsUnits, codes_due, at_start, is_zero, zeros_in, nonzeros_in, corrected, old_values, are_in_bounds}
use Rattle.jpg_spec.specs.ScanFaults.{DataReveals}
use Rattle.jpg_spec.specs.declared.fault.Fault.{Fault}

-- a unit of a band, whose remaining values these are
abbrev pub band_unit : ℕ → List ℤ → UnitLeft
band_unit i old = record { component = i; has_dc = false; old = old }

-- some bits of a code, and not all
abbrev pub BeginsCode : List Code → List Bool → Type 0
BeginsCode codes bits = (code : Code) × (next : Bool) × (more : List Bool) × Contains codes code × (code.0 ≡ bits ++ next ∷ more)

-- no bits, or some of a code
abbrev pub IsFront : List Code → List Bool → Type 0
IsFront codes bits = (bits ≡ []) ⊎ BeginsCode codes bits

-- PARTS, where these units are left, and `here` are the new values of what was skipped

-- No bits, or some bits of a code. (A DC bit has no code.)
pub record InCode (c : Coding) (s : Standing) (u : UnitLeft) (others : List UnitLeft) (here : List ℤ) (bits : List Bool) : Type 0 where
  pub left : s.left ≡ u ∷ others
  pub none : here ≡ []
  pub front : IsFront (codes_due c u) bits
  pub no_code : u.has_dc ≡ true → c.refines ≡ true → bits ≡ []

-- The code of a difference of this category, and bits after it.
pub record InDifference (c : Coding) (s : Standing) (u : UnitLeft) (others : List UnitLeft) (here : List ℤ) (bits : List Bool) (size : ℕ) (extra : List Bool) : Type 0 where
  pub code : List Bool
  pub left : s.left ≡ u ∷ others
  pub none : here ≡ []
  pub has_dc : u.has_dc ≡ true
  pub first : c.refines ≡ false
  pub some : 1 ≤ length u.old
  pub coded : Contains (c.dc u.component) (code, size)
  pub split : bits ≡ code ++ extra
  pub most : size ≤ c.bounds.dc_cat

-- The code of a value of this category after a run of zeros, and bits after it.
pub record InNumber (c : Coding) (s : Standing) (u : UnitLeft) (others : List UnitLeft) (here : List ℤ) (bits : List Bool) (run size : ℕ) (extra : List Bool) : Type 0 where
  pub code : List Bool
  pub left : s.left ≡ u ∷ others
  pub none : here ≡ []
  pub no_dc : u.has_dc ≡ false
  pub coded : Contains (c.ac u.component) (code, 16 * run + size)
  pub split : bits ≡ code ++ extra
  pub some : 1 ≤ size
  pub most : size ≤ c.most_category
  pub short : run ≤ 15
  pub room : run < zeros_in u.old

-- The code of EOBn, and bits after it.
pub record InCount (c : Coding) (s : Standing) (u : UnitLeft) (others : List UnitLeft) (here : List ℤ) (bits : List Bool) (n : ℕ) (extra : List Bool) : Type 0 where
  pub code : List Bool
  pub left : s.left ≡ u ∷ others
  pub none : here ≡ []
  pub no_dc : u.has_dc ≡ false
  pub coded : Contains (c.ac u.component) (code, 16 * n)
  pub split : bits ≡ code ++ extra
  pub most : n ≤ c.most_run

-- A value after this many more zeros.
pub record InValue (c : Coding) (s : Standing) (u : UnitLeft) (others : List UnitLeft) (here : List ℤ) (bits : List Bool) (run : ℕ) (v : ℤ) : Type 0 where
  pub passed : List ℤ
  pub code : List Bool
  pub corrections : List Bool
  pub zeros : ℕ
  pub left : s.left ≡ record u { old = passed ++ u.old } ∷ others
  pub no_dc : u.has_dc ≡ false
  pub coded : Contains (c.ac u.component) (code, 16 * zeros + category v)
  pub split : bits ≡ code ++ (extra_bits v ++ corrections)
  pub some : 1 ≤ category v
  pub most : category v ≤ c.most_category
  pub short : zeros ≤ 15
  pub sum : zeros_in passed + run ≡ zeros
  pub room : run < zeros_in u.old
  pub each : nonzeros_in passed ≡ length corrections
  pub told : here ≡ corrected c.al passed corrections

-- Sixteen zeros (ZRL), of which this many are to be skipped before the last one.
pub record InLong (c : Coding) (s : Standing) (u : UnitLeft) (others : List UnitLeft) (here : List ℤ) (bits : List Bool) (run : ℕ) : Type 0 where
  pub passed : List ℤ
  pub code : List Bool
  pub corrections : List Bool
  pub left : s.left ≡ record u { old = passed ++ u.old } ∷ others
  pub no_dc : u.has_dc ≡ false
  pub coded : Contains (c.ac u.component) (code, 0xf0)
  pub split : bits ≡ code ++ corrections
  pub sum : zeros_in passed + run ≡ 15
  pub each : nonzeros_in passed ≡ length corrections
  pub told : here ≡ corrected c.al passed corrections

-- An end-of-band run. Some units of it were passed completely, and some first values of the next; including that one
-- this many bands still end.
pub record InEnds (c : Coding) (s : Standing) (u : UnitLeft) (others : List UnitLeft) (here : List ℤ) (bits : List Bool) (bands : ℕ) : Type 0 where
  pub unit : UnitLeft
  pub units : List UnitLeft
  pub whole : List UnitLeft
  pub first : List ℤ
  pub total : ℕ
  pub code : List Bool
  pub corrections : List Bool
  pub begun : s.left ≡ unit ∷ units
  pub left : s.left ≡ whole ++ record u { old = first ++ u.old } ∷ others
  pub no_dc : unit.has_dc ≡ false
  pub coded : Contains (c.ac unit.component) (code, 16 * (digits total - 1))
  pub split : bits ≡ code ++ (bits_of (digits total - 1) total ++ corrections)
  pub sum : total ≡ length whole + bands
  pub some : 1 ≤ bands
  pub most : digits total ≤ c.most_run + 1
  pub fits : bands ≤ 1 + length others
  pub each : nonzeros_in (old_values whole ++ first) ≡ length corrections
  pub told : here ≡ corrected c.al (old_values whole ++ first) corrections

-- A PART OF AN ELEMENT: no bits of it or some of its code; fewer additional bits than it has; or all of them, where a
-- correction follows

-- the next value that is left isn't zero, and needs a correction
abbrev pub WantsCorrection : UnitLeft → Type 0
WantsCorrection u = (o : ℤ) × (rest : List ℤ) × (u.old ≡ o ∷ rest) × (is_zero o ≡ false)

pub data PartOfElement (c : Coding) (s : Standing) (u : UnitLeft) (others : List UnitLeft) (here : List ℤ) (bits : List Bool) : Type 0 where
  in_code : InCode c s u others here bits → PartOfElement c s u others here bits
  in_difference : (size : ℕ) (extra : List Bool) → InDifference c s u others here bits size extra → length extra < size
      → PartOfElement c s u others here bits
  in_number : (run size : ℕ) (extra : List Bool) → InNumber c s u others here bits run size extra → length extra < size
      → PartOfElement c s u others here bits
  in_count : (n : ℕ) (extra : List Bool) → InCount c s u others here bits n extra → length extra < n
      → PartOfElement c s u others here bits
  in_value : (run : ℕ) (v : ℤ) → InValue c s u others here bits run v → WantsCorrection u → PartOfElement c s u others here bits
  in_long : (run : ℕ) → InLong c s u others here bits run → WantsCorrection u → PartOfElement c s u others here bits
  in_ends : (bands : ℕ) → InEnds c s u others here bits bands → WantsCorrection u → PartOfElement c s u others here bits

-- COMPLETE ELEMENTS, AND THEN A PART OF ONE MORE: what they encode, and the units that are left, the first of them
-- perhaps in part.
pub record StandsInUnits (c : Coding) (units : List UnitLeft) (told : List ℤ) (left : List UnitLeft) (bits : List Bool) : Type 0 where
  pub elements : List Element
  pub before : List ℤ
  pub front : List Bool
  pub standing : Standing
  pub unit : UnitLeft
  pub others : List UnitLeft
  pub here : List ℤ
  pub part : List Bool
  pub cut : bits ≡ front ++ part
  pub covers : Covers c (at_start units) elements before front standing
  pub same : told ≡ before ++ here
  pub first : left ≡ unit ∷ others
  pub is_part : PartOfElement c standing unit others here part
  pub in_bounds : are_in_bounds c.bounds false here ≡ true

-- whatever they encode, and whatever they leave
abbrev pub AreUnderWay : Coding → List UnitLeft → List Bool → Type 0
AreUnderWay c units bits = (told : List ℤ) × (left : List UnitLeft) × StandsInUnits c units told left bits

-- no first bits of these are a complete interval of the units, or have a fault
abbrev pub HoldsNoInterval : Coding → List UnitLeft → List Bool → Type 0
HoldsNoInterval c units bits = (told : List ℤ) (front rest : List Bool) → SpellsUnits c units told front → bits ≡ front ++ rest → ⊥

abbrev pub RevealsNoFault : Coding → List UnitLeft → List Bool → Type 0
RevealsNoFault c units bits = (fault : Fault) (front rest : List Bool) → DataReveals c units fault front → bits ≡ front ++ rest → ⊥

-- what such bits encode and what they leave are all values of the units
abbrev pub CountsAll : Coding → List UnitLeft → List Bool → Type 0
CountsAll c units bits =
    (told : List ℤ) (left : List UnitLeft) → StandsInUnits c units told left bits → length told + length (old_values left) ≡ length (old_values units)

-- one list of values, and one list of units: what such bits encode and leave
abbrev pub StandsInOneWay : Coding → List UnitLeft → List Bool → Type 0
StandsInOneWay c units bits =
    (told told' : List ℤ) (left left' : List UnitLeft) → StandsInUnits c units told left bits → StandsInUnits c units told' left' bits
    → (told ≡ told') × (left ≡ left')
