-- What is in zigzag order, in natural order (T.81, Figure 5): coefficients, and the numbers of a table.
use Rattle.std.specs.Prelude.{ℕ, List, map, ℤ, slice_index}
use Rattle.jpg_spec.specs.Lists.{below, index_of}
use Rattle.jpg_spec.specs.Zigzag.{zigzag}
use Rattle.jpg_spec_image.specs.Dct.{number_at}

abbrev pub natural : List ℤ → List ℤ
natural block = map (λ n. number_at block (index_of n zigzag)) (below 64)

abbrev pub natural_table : List ℕ → List ℕ
natural_table table = map (λ n. slice_index table (index_of n zigzag)) (below 64)
