-- Vectors of eight sums of 32 bits, and the samples that they determine.
use Rattle.std.specs.Prelude.{◌≡◌, ℕ, ◌+◌, ◌-◌, ◌/◌, ◌%◌, ◌^◌, ◌<◌, ◌≤◌, ◌*◌, List, [], ◌∷◌, pos, ℤ, ◌+ℤ◌, length, slice_index}
use Rattle.std.specs.Int.{int_wrap, int_shr, cast_unsigned, w32}
use Rattle.jpg_spec_image.specs.Dct.{number_at, line_sums, column}
use Rattle.jpg_dct.specs.Eights.{vector}
use Rattle.jpg_dct.specs.declared.forward.lanes.Eight.{Eight}
use Rattle.jpg_dct.specs.declared.inverse.short.Sums.{Sums}
use Rattle.jpg_dct.specs.declared.inverse.short.FourSums.{FourSums}

-- lane k of vectors
abbrev pub four_sums_at : FourSums → ℕ → List ℤ
four_sums_at f k = number_at f.v0 k ∷ number_at f.v1 k ∷ number_at f.v2 k ∷ number_at f.v3 k ∷ []

abbrev pub sums_at : Sums → ℕ → List ℤ
sums_at s k = number_at s.v0 k ∷ number_at s.v1 k ∷ number_at s.v2 k ∷ number_at s.v3 k ∷ number_at s.v4 k ∷ number_at s.v5 k ∷ number_at s.v6 k ∷ number_at s.v7 k ∷ []

abbrev pub lane_at : Eight → ℕ → List ℤ
lane_at d k = number_at d.v0 k ∷ number_at d.v1 k ∷ number_at d.v2 k ∷ number_at d.v3 k ∷ number_at d.v4 k ∷ number_at d.v5 k ∷ number_at d.v6 k ∷ number_at d.v7 k ∷ []

-- eight numbers of 32 bits
pub record AreWords (xs : List ℤ) : Type 0 where
  pub long : length xs ≡ 8
  pub word : (k : ℕ) → k < 8 → int_wrap w32 (number_at xs k) ≡ number_at xs k

pub record AreFourLong (f : FourSums) : Type 0 where
  pub at0 : length f.v0 ≡ 8
  pub at1 : length f.v1 ≡ 8
  pub at2 : length f.v2 ≡ 8
  pub at3 : length f.v3 ≡ 8

pub record AreLong (s : Sums) : Type 0 where
  pub at0 : length s.v0 ≡ 8
  pub at1 : length s.v1 ≡ 8
  pub at2 : length s.v2 ≡ 8
  pub at3 : length s.v3 ≡ 8
  pub at4 : length s.v4 ≡ 8
  pub at5 : length s.v5 ≡ 8
  pub at6 : length s.v6 ≡ 8
  pub at7 : length s.v7 ≡ 8

-- a sum with a number added, in 32 bits
abbrev pub wrapped_more : ℤ → ℤ → ℤ
wrapped_more n e = int_wrap w32 (e +ℤ n)

-- the sums of line k, and one of a column as four times a sample
abbrev pub line_at : Eight → ℕ → List ℤ
line_at d k = line_sums (number_at d.v0 k) (number_at d.v1 k) (number_at d.v2 k) (number_at d.v3 k) (number_at d.v4 k) (number_at d.v5 k) (number_at d.v6 k) (number_at d.v7 k)

abbrev pub column_number : ℤ → ℤ
column_number e = int_shr (e +ℤ pos 1024) 11

-- vector u is of column u of a block
abbrev pub AreColumns : List ℤ → Eight → Type 0
AreColumns values d = (u v : ℕ) → u < 8 → v < 8 → number_at (vector d u) v ≡ number_at (column values u) v

-- a block in natural order whose last four rows and columns are zero
pub record IsCorner (values : List ℤ) : Type 0 where
  pub below : (u v : ℕ) → u < 8 → 4 ≤ v → v < 8 → number_at values (8 * v + u) ≡ pos 0
  pub right : (u v : ℕ) → 4 ≤ u → u < 8 → v < 8 → number_at values (8 * v + u) ≡ pos 0

-- the low bits of a sum of a row, 512 more than the sample, and the sample
abbrev pub low_of : ℤ → ℕ
low_of e = cast_unsigned w32 e / 2 ^ 18 % 1024

abbrev pub limited_of : ℕ → ℕ
limited_of m = 255 - (255 - (m - 384))

abbrev pub told_at : ℤ → ℕ
told_at e = limited_of (low_of e)

-- row v of samples, of four pairs of columns
abbrev pub told_row : List ℕ → List ℕ → List ℕ → List ℕ → ℕ → List ℕ
told_row p0 p1 p2 p3 v =
    slice_index p0 v ∷ slice_index p0 (8 + v) ∷ slice_index p1 v ∷ slice_index p1 (8 + v) ∷
    slice_index p2 v ∷ slice_index p2 (8 + v) ∷ slice_index p3 v ∷ slice_index p3 (8 + v) ∷ []
