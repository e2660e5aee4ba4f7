-- Counts of codes, from the longest size down.
use Rattle.std.specs.Prelude.{ℕ, ◌+◌, List, ◌++◌, take, drop, slice_index}
use Rattle.jpg_spec_fit.specs.Fitted.{code_split}

-- the longest of the codes that are shorter than the sizes up to this place gets one bit more, and one is added beside it
unfoldable pub split_at : ℕ → List ℕ → List ℕ
split_at at counts = take at counts ++ code_split (slice_index counts at) (drop (at + 1) counts)
