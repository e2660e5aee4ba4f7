-- Lists of numbers: how large they are, and the sums of a line of eight.
use Rattle.std.specs.Prelude.{ℕ, ◌≤◌, List, All, ℤ, nat_abs}
use Rattle.jpg_spec_image.specs.Dct.{number_at, line_sums}

-- magnitudes of at most n
abbrev pub AreWithin : ℕ → List ℤ → Type 0
AreWithin n numbers = All (λ x. nat_abs x ≤ n) numbers

abbrev pub sums_of : List ℤ → List ℤ
sums_of line =
    line_sums (number_at line 0) (number_at line 1) (number_at line 2) (number_at line 3) (number_at line 4) (number_at line 5) (number_at line 6) (number_at line 7)
