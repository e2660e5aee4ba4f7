-- The sample that the low bits of a row's sum determine.
use Rattle.std.specs.Prelude.{ℕ, ◌%◌}
use Rattle.jpg_spec_image.specs.Dct.{ranged}

abbrev pub natural_of : ℕ → ℕ
natural_of low = ranged (low % 1024)
