-- WHAT A SCAN SENDS of a band, and the elements that the writer chooses for it (T.81, F.1.2.2, G.1.2.2, G.1.2.3; the
-- choices are this writer's).
use Rattle.std.specs.Prelude.{ℕ, zero, suc, ◌+◌, ◌/◌, ◌%◌, ◌^◌, Bool, true, false, not, nat_lt, ◌||◌, ◌==◌, if◌then◌else◌, List, [], ◌∷◌, ◌++◌, length, ℤ, pos, negsuc, neg_ℤ, nat_abs}
use Rattle.jpg_spec.specs.Lists.{is_empty, any_of}
use Rattle.jpg_spec.specs.Elements.{Element, value, long_run, ends, is_zero}

-- the point transform (G.1.1.1, G.1.2.1, G.1.2.2): DC is shifted, and the magnitude of AC is
abbrev pub shifted : ℕ → ℤ → ℤ
shifted al (pos n) = pos (n / 2 ^ al)
shifted al (negsuc n) = negsuc (n / 2 ^ al)

abbrev pub divided : ℕ → ℤ → ℤ
divided al (pos n) = pos (n / 2 ^ al)
divided al (negsuc n) = neg_ℤ (pos ((n + 1) / 2 ^ al))

-- What a scan sends of one coefficient: a correction of a value that isn't zero so far (G.1.2.3), or a value that is
-- newly sent, or remains zero.
pub data Sent : Type 0 where
  correction : Bool → Sent
  newly_significant : ℤ → Sent

abbrev pub sent : Bool → ℕ → ℤ → Sent
sent false al v = newly_significant (divided al v)
sent true al v = if nat_lt 1 (nat_abs v / 2 ^ al) then correction (nat_abs v / 2 ^ al % 2 == 1) else newly_significant (divided al v)

abbrev pub is_new : Sent → Bool
is_new (correction b) = false
is_new (newly_significant v) = not (is_zero v)

-- A band up to its last newly sent value, and the rest of it.
abbrev pub up_to_last : List Sent → List Sent
up_to_last [] = []
up_to_last (s ∷ band) = if any_of is_new (s ∷ band) then s ∷ up_to_last band else []

abbrev pub after_last : List Sent → List Sent
after_last [] = []
after_last (s ∷ band) = if any_of is_new (s ∷ band) then after_last band else s ∷ band

abbrev pub corrections_of : List Sent → List Bool
corrections_of [] = []
corrections_of (correction b ∷ band) = b ∷ corrections_of band
corrections_of (newly_significant v ∷ band) = corrections_of band

-- THE ELEMENTS of a band up to its last newly sent value, after a run of zeros and corrections that aren't written yet.
-- The sixteenth zero of a run makes a ZRL (F.1.2.2, Figures F.2 and F.3; G.1.2.2, Figure G.3; G.1.2.3, Figure G.7).
abbrev pub value_elements : ℕ → List Bool → List Sent → List Element
value_elements run bits [] = []
value_elements run bits (correction b ∷ band) = value_elements run (bits ++ b ∷ []) band
value_elements run bits (newly_significant v ∷ band) =
    if is_zero v then (if run == 15 then long_run bits ∷ value_elements 0 [] band else value_elements (run + 1) bits band)
    else value run v bits ∷ value_elements 0 [] band

-- an EOB of this many bands, if there are any, with the corrections that wait
abbrev pub ended_bands : ℕ → List Bool → List Element
ended_bands zero bits = []
ended_bands (suc bands) bits = ends (suc bands) bits ∷ []

-- The elements of bands, where an EOB of this many bands waits. At most `most` bands make one EOB, and 937 corrections
-- may wait (G.1.2.2, Figure G.3; G.1.2.3, Figure G.7; the 937 is this writer's).
abbrev pub band_elements : ℕ → ℕ → List Bool → List (List Sent) → List Element
band_elements most bands bits [] = ended_bands bands bits
band_elements most bands bits (band ∷ later) =
    let front = up_to_last band in
    let rest = after_last band in
    let waits = if is_empty front then bands else 0 in
    let waiting = (if is_empty front then bits else []) ++ corrections_of rest in
    (if is_empty front then [] else ended_bands bands bits ++ value_elements 0 [] front)
    ++ (if is_empty rest then band_elements most 0 [] later
    else if waits + 1 == most || nat_lt 937 (length waiting) then ended_bands (waits + 1) waiting ++ band_elements most 0 [] later
    else band_elements most (waits + 1) waiting later)
