-- Vectors of eight lanes.
use Rattle.std.specs.Prelude.{◌≡◌, ℕ, ◌<◌, ◌≤◌, ◌+◌, ◌*◌, List, [], ◌∷◌, pos, negsuc, ◌≤ℤ◌, ◌+ℤ◌, ◌*ℤ◌, length, slice_index_or, slice_index, ℤ, nat_abs}
use Rattle.std.specs.Int.{int_shr}
use Rattle.jpg_spec_image.specs.Dct.{number_at}
use Rattle.jpg_dct.specs.Division.{with_sign, divided}
use Rattle.jpg_dct.specs.declared.forward.lanes.Eight.{Eight}
use Rattle.jpg_dct.specs.declared.forward.lanes.Four.{Four}
use Rattle.jpg_dct.specs.declared.forward.lanes.Factors.{Factors}

-- eight numbers of a magnitude of at most n
pub record IsEight (n : ℕ) (xs : List ℤ) : Type 0 where
  pub long : length xs ≡ 8
  pub small : (k : ℕ) → k < 8 → nat_abs (number_at xs k) ≤ n

-- and of 4090 at most
pub record IsLine (xs : List ℤ) : Type 0 where
  pub small : IsEight 4096 xs
  pub high : (k : ℕ) → k < 8 → number_at xs k ≤ℤ pos 4090

-- a number to which two is added in 16 bits
pub record HasRoom (s : ℤ) : Type 0 where
  pub low : negsuc 32767 ≤ℤ s
  pub high : s ≤ℤ pos 32765

abbrev pub quarter : ℤ → ℤ
quarter s = int_shr (s +ℤ pos 2) 2

-- row v of 64 samples
pub record IsRow (samples : List ℕ) (v : ℕ) (row : List ℕ) : Type 0 where
  pub long : length row ≡ 8
  pub at : (k : ℕ) → k < 8 → slice_index row k ≡ slice_index samples (8 * v + k)
  pub small : (k : ℕ) → k < 8 → slice_index row k < 256

-- vector u of eight
abbrev pub vectors : Eight → List (List ℤ)
vectors d = d.v0 ∷ d.v1 ∷ d.v2 ∷ d.v3 ∷ d.v4 ∷ d.v5 ∷ d.v6 ∷ d.v7 ∷ []

abbrev pub vector : Eight → ℕ → List ℤ
vector d u = slice_index_or (vectors d) u []

-- half of a number, as eight times a coefficient
abbrev pub half_rounded : ℤ → ℤ
half_rounded x = int_shr (x +ℤ pos 32768) 16

abbrev pub eighth : ℤ → ℤ
eighth x = int_shr (x +ℤ pos 16384) 15

-- lane k of four vectors
abbrev pub four_at : Four → ℕ → List ℤ
four_at f k = number_at f.v0 k ∷ number_at f.v1 k ∷ number_at f.v2 k ∷ number_at f.v3 k ∷ []

pub record AreEight (n : ℕ) (f : Four) : Type 0 where
  pub at0 : IsEight n f.v0
  pub at1 : IsEight n f.v1
  pub at2 : IsEight n f.v2
  pub at3 : IsEight n f.v3

-- a number divided by number n of tables
abbrev pub quotient_at : ℤ → List ℕ → List ℕ → List ℕ → ℕ → ℤ
quotient_at x halves factors scales n = with_sign x (divided (nat_abs x) (slice_index halves n) (slice_index factors n) (slice_index scales n))

-- four products of lane i, added up
abbrev pub four_of : Four → Factors → ℕ → ℤ
four_of v k i = ((number_at v.v0 i *ℤ k.0) +ℤ (number_at v.v1 i *ℤ k.1)) +ℤ ((number_at v.v2 i *ℤ k.2) +ℤ (number_at v.v3 i *ℤ k.3))

-- rows of numbers, and the same divided by tables
abbrev pub AreQuotients : Eight → Eight → List ℕ → List ℕ → List ℕ → Type 0
AreQuotients d done halves factors scales =
    (k v : ℕ) → k < 8 → v < 8 → number_at (vector done v) k ≡ quotient_at (number_at (vector d v) k) halves factors scales (8 * v + k)
