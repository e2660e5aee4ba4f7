-- The symbols that are sent, for a table of codes of one length.
use Rattle.std.specs.Prelude.{ℕ, nat_lt, List, filter, slice_index}
use Rattle.jpg_spec.specs.Lists.{below}

-- the symbols whose count isn't 0, ascending
unfoldable pub symbols_in : List ℕ → List ℕ
symbols_in counts = filter (λ symbol. nat_lt 0 (slice_index counts symbol)) (below 256)
