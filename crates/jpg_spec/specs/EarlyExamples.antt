-- WORKED EXAMPLES of data that end early: which units are complete there (T.81, F.2.2, G.1.2, K.3).
use Rattle.std.specs.Prelude.{Bool, true, false, List, [], ◌∷◌, ◌++◌, ℤ, pos}
use Rattle.jpg_spec.specs.Geometry.{bounds_of}
use Rattle.jpg_spec.specs.Elements.{Coding, UnitLeft, new_unit, zeros}
use Rattle.jpg_spec.specs.Parts.{band_unit}

-- SEQUENTIAL: of the typical tables for luminance the codes 00, a difference of category 0, and 1010, EOB
abbrev pub short_coding : Coding
short_coding = record {
  bounds = bounds_of 8;
  al = 0;
  refines = false;
  most_category = 10;
  most_run = 0;
  dc = λ i. (false ∷ false ∷ [], 0) ∷ [];
  ac = λ i. (true ∷ false ∷ true ∷ false ∷ [], 0) ∷ [];
}

abbrev pub two_blocks : List UnitLeft
two_blocks = new_unit 0 ∷ new_unit 0 ∷ []

-- the first block, and the DC of the second
abbrev pub one_and_dc : List ℤ
one_and_dc = zeros 64 ++ pos 0 ∷ []

abbrev pub ac_due : List UnitLeft
ac_due = band_unit 0 (zeros 63) ∷ []

-- A REFINEMENT of a band of two values, down to bit 0: its one code, 0, is EOB1, the end of two or three bands
abbrev pub late_coding : Coding
late_coding = record {
  bounds = bounds_of 8;
  al = 0;
  refines = true;
  most_category = 1;
  most_run = 14;
  dc = λ i. [];
  ac = λ i. (false ∷ [], 16) ∷ [];
}

abbrev pub two_zero : UnitLeft
two_zero = band_unit 0 (pos 2 ∷ pos 0 ∷ [])

abbrev pub two_bands : List UnitLeft
two_bands = two_zero ∷ two_zero ∷ []

-- the end of two bands, and a correction of the first
abbrev pub one_correction : List Bool
one_correction = false ∷ false ∷ true ∷ []
