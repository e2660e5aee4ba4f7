-- THE ELEMENTS OF A SCAN, the coefficients that they encode, and their bits (T.81, F.1.2 and F.2.2 sequential, G.1.2.1
-- DC, G.1.2.2 AC first, G.1.2.3 AC refinement).
--
-- One grammar serves the five kinds of scan. A sequential block is a difference and then a band 1 to 63 whose EOBs end
-- one band each. An AC first pass is a refinement of a band that is zero so far, so that there are no corrections.
use Rattle.std.specs.Prelude.{◌≡◌, ◌⊎◌, ℕ, zero, suc, ◌+◌, ◌-◌, ◌*◌, ◌^◌, ◌<◌, ◌≤◌, Bool, true, false, ◌&&◌, ◌==◌, if◌then◌else◌, List, [], ◌∷◌, ◌++◌, length, replicate, take, drop, flat_map, ℤ, pos, negsuc, nat_abs, ◌+ℤ◌, ◌*ℤ◌, int_le, Contains}
use Rattle.jpg_spec.specs.Bits.{bits_of}
use Rattle.jpg_spec.specs.Codes.{Code}
use Rattle.jpg_spec.specs.Numbers.{category, extra_bits, digits}
use Rattle.jpg_spec.specs.declared.frame.Bounds.{Bounds}

pub data Element : Type 0 where
  -- a DC value by its difference to the prediction (F.1.2.1, F.2.2.1), and one more bit of a DC value (G.1.2.1)
  difference : ℤ → Element
  dc_bit : Bool → Element
  -- a value after a run of zeros, a run of sixteen zeros (ZRL), the end of this many bands (EOB; F.1.2.2, G.1.2.2);
  -- each with the corrections of the values that it skips (G.1.2.3)
  value : ℕ → ℤ → List Bool → Element
  long_run : List Bool → Element
  ends : ℕ → List Bool → Element

-- The parameters of the elements of a scan: the bounds, Al, whether it refines, the greatest category of an AC value,
-- the greatest n of EOBn, and the codes of each component.
pub record Coding : Type 0 where
  pub bounds : Bounds
  pub al : ℕ
  pub refines : Bool
  pub most_category : ℕ
  pub most_run : ℕ
  pub dc : ℕ → List Code
  pub ac : ℕ → List Code

-- What is left of a unit: its component, whether its DC is next, and its values as they were before the scan.
pub record UnitLeft : Type 0 where
  pub component : ℕ
  pub has_dc : Bool
  pub old : List ℤ

abbrev pub is_zero : ℤ → Bool
is_zero (pos zero) = true
is_zero (pos (suc n)) = false
is_zero (negsuc n) = false

abbrev pub zeros : ℕ → List ℤ
zeros n = replicate n (pos 0)

-- a block of a component that had no scan so far
abbrev pub new_unit : ℕ → UnitLeft
new_unit component = record { component = component; has_dc = true; old = zeros 64 }

-- how many of these are zero, and how many are not
abbrev pub zeros_in : List ℤ → ℕ
zeros_in [] = 0
zeros_in (o ∷ old) = (if is_zero o then 1 else 0) + zeros_in old

abbrev pub nonzeros_in : List ℤ → ℕ
nonzeros_in [] = 0
nonzeros_in (o ∷ old) = (if is_zero o then 0 else 1) + nonzeros_in old

-- a number times 2 ^ al: the point transform undone (G.1.1.1)
abbrev pub scaled : ℕ → ℤ → ℤ
scaled al v = v *ℤ pos (2 ^ al)

-- the magnitude grows by 2 ^ al if the correction is 1 (G.1.2.3)
abbrev pub grown : ℕ → Bool → ℤ → ℤ
grown al false o = o
grown al true (pos n) = pos (n + 2 ^ al)
grown al true (negsuc n) = negsuc (n + 2 ^ al)

-- values that are skipped: zeros remain, and the others take the corrections in order (G.1.2.3, Figure G.7)
abbrev pub corrected : ℕ → List ℤ → List Bool → List ℤ
corrected al [] bits = []
corrected al (o ∷ old) [] = o ∷ corrected al old []
corrected al (o ∷ old) (b ∷ bits) = if is_zero o then o ∷ corrected al old (b ∷ bits) else grown al b o ∷ corrected al old bits

-- THE SYMBOL of an element, and the bits after its code (F.1.2.1, F.1.2.2). EOBn and its bits x are 2 ^ n + x bands
-- (G.1.2.2, Table G.1).
abbrev pub symbol_of : Element → ℕ
symbol_of (difference d) = category d
symbol_of (dc_bit b) = 0
symbol_of (value run v bits) = 16 * run + category v
symbol_of (long_run bits) = 0xf0
symbol_of (ends bands bits) = 16 * (digits bands - 1)

abbrev pub bits_after : Element → List Bool
bits_after (difference d) = extra_bits d
bits_after (dc_bit b) = b ∷ []
bits_after (value run v bits) = extra_bits v ++ bits
bits_after (long_run bits) = bits
bits_after (ends bands bits) = bits_of (digits bands - 1) bands ++ bits

abbrev pub is_dc_bit : Element → Bool
is_dc_bit (difference d) = false
is_dc_bit (dc_bit b) = true
is_dc_bit (value run v bits) = false
is_dc_bit (long_run bits) = false
is_dc_bit (ends bands bits) = false

-- the codes for the next element of this unit
abbrev pub codes_due : Coding → UnitLeft → List Code
codes_due c u = if u.has_dc then c.dc u.component else c.ac u.component

abbrev pub SpellsElement : List Code → Element → List Bool → Type 0
SpellsElement codes (dc_bit b) bits = bits ≡ b ∷ []
SpellsElement codes (difference d) bits = (code : List Bool) × Contains codes (code, symbol_of (difference d)) × (bits ≡ code ++ bits_after (difference d))
SpellsElement codes (value run v cs) bits = (code : List Bool) × Contains codes (code, symbol_of (value run v cs)) × (bits ≡ code ++ bits_after (value run v cs))
SpellsElement codes (long_run cs) bits = (code : List Bool) × Contains codes (code, symbol_of (long_run cs)) × (bits ≡ code ++ bits_after (long_run cs))
SpellsElement codes (ends bands cs) bits = (code : List Bool) × Contains codes (code, symbol_of (ends bands cs)) × (bits ≡ code ++ bits_after (ends bands cs))

-- WHAT AN ELEMENT ENCODES (F.2.2.1 and F.2.2.2 with Figures F.13 and F.14; G.1.2.1; G.1.2.2; G.1.2.3 with Figure G.7)

-- what is left after the values that are skipped, without the unit if nothing of it is left
abbrev pub going_on : UnitLeft → List ℤ → List UnitLeft → List UnitLeft
going_on u [] units = units
going_on u (o ∷ old) units = record { component = u.component; has_dc = false; old = o ∷ old } ∷ units

abbrev pub old_values : List UnitLeft → List ℤ
old_values units = flat_map (λ u. u.old) units

-- The element, at the unit u with others after it, encodes these values of the first ones that are left, and then this
-- is left.
abbrev pub Tells : Coding → ℤ → Element → UnitLeft → List UnitLeft → List ℤ → List UnitLeft → Type 0
Tells c prediction (difference d) u units told left =
    (o : ℤ) × (old : List ℤ) × (u.has_dc ≡ true) × (c.refines ≡ false) × (category d ≤ c.bounds.dc_cat)
    × (u.old ≡ o ∷ old) × (told ≡ scaled c.al (prediction +ℤ d) ∷ []) × (left ≡ going_on u old units)
Tells c prediction (dc_bit b) u units told left =
    (o : ℤ) × (old : List ℤ) × (u.has_dc ≡ true) × (c.refines ≡ true)
    × (u.old ≡ o ∷ old) × (told ≡ (o +ℤ scaled c.al (if b then pos 1 else pos 0)) ∷ []) × (left ≡ going_on u old units)
Tells c prediction (value run v bits) u units told left =
    (passed : List ℤ) × (old : List ℤ) × (u.has_dc ≡ false) × (1 ≤ category v) × (category v ≤ c.most_category) × (run ≤ 15)
    × (u.old ≡ passed ++ pos 0 ∷ old) × (zeros_in passed ≡ run) × (nonzeros_in passed ≡ length bits)
    × (told ≡ corrected c.al passed bits ++ scaled c.al v ∷ []) × (left ≡ going_on u old units)
Tells c prediction (long_run bits) u units told left =
    (passed : List ℤ) × (old : List ℤ) × (u.has_dc ≡ false)
    × (((front : List ℤ) × (u.old ≡ front ++ pos 0 ∷ old) × (zeros_in front ≡ 15) × (passed ≡ front ++ pos 0 ∷ []))
    -- no sixteenth zero is left: the rest of the band
    ⊎ ((u.old ≡ passed) × (zeros_in passed < 16) × (old ≡ [])))
    × (nonzeros_in passed ≡ length bits) × (told ≡ corrected c.al passed bits) × (left ≡ going_on u old units)
Tells c prediction (ends bands bits) u units told left =
    (u.has_dc ≡ false) × (1 ≤ bands) × (digits bands ≤ c.most_run + 1) × (bands ≤ 1 + length units)
    × (nonzeros_in (old_values (take bands (u ∷ units))) ≡ length bits)
    × (told ≡ corrected c.al (old_values (take bands (u ∷ units))) bits) × (left ≡ drop bands (u ∷ units))

-- WHAT ELEMENTS ENCODE

-- the predictions of the components, and the units that are left, the first of them perhaps in part
pub record Standing : Type 0 where
  pub predictions : ℕ → ℤ
  pub left : List UnitLeft

abbrev pub predicted : (ℕ → ℤ) → ℕ → ℤ → ℕ → ℤ
predicted predictions component w i = if i == component then w else predictions i

-- a difference makes its value the next prediction
abbrev pub predictions_after : (ℕ → ℤ) → ℕ → Element → ℕ → ℤ
predictions_after predictions component (difference d) = predicted predictions component (predictions component +ℤ d)
predictions_after predictions component (dc_bit b) = predictions
predictions_after predictions component (value run v bits) = predictions
predictions_after predictions component (long_run bits) = predictions
predictions_after predictions component (ends bands bits) = predictions

-- whether the values are in the bounds, with a DC value first or not
abbrev pub are_in_bounds : Bounds → Bool → List ℤ → Bool
are_in_bounds b has_dc [] = true
are_in_bounds b true (v ∷ told) = int_le b.dc_low v && int_le v b.dc_high && are_in_bounds b false told
are_in_bounds b false (v ∷ told) = int_le (pos (nat_abs v)) b.ac && are_in_bounds b false told

-- 64 values in the bounds
abbrev pub IsBlockIn : Bounds → List ℤ → Type 0
IsBlockIn b block = (length block ≡ 64) × (are_in_bounds b true block ≡ true)

-- The bits encode the elements. From one state they lead to the other, and encode these values in their order.
abbrev pub Covers : Coding → Standing → List Element → List ℤ → List Bool → Standing → Type 0
Covers c s [] told bits t = (told ≡ []) × (bits ≡ []) × (t ≡ s)
Covers c s (e ∷ elements) told bits t =
    (u : UnitLeft) × (units : List UnitLeft) × (here : List ℤ) × (left : List UnitLeft) × (more : List ℤ) × (front : List Bool) × (rest : List Bool)
    × (s.left ≡ u ∷ units) × (told ≡ here ++ more) × (bits ≡ front ++ rest)
    × SpellsElement (codes_due c u) e front × Tells c (s.predictions u.component) e u units here left × (are_in_bounds c.bounds u.has_dc here ≡ true)
    × Covers c (record { predictions = predictions_after s.predictions u.component e; left = left }) elements more rest t

-- predictions begin at 0 in each interval (F.1.1.5.1, F.2.1.3.1)
abbrev pub at_start : List UnitLeft → Standing
at_start units = record { predictions = λ i. pos 0; left = units }

-- The bits are a complete interval of these units.
abbrev pub SpellsUnits : Coding → List UnitLeft → List ℤ → List Bool → Type 0
SpellsUnits c units told bits = (elements : List Element) × (t : Standing) × Covers c (at_start units) elements told bits t × (t.left ≡ [])
