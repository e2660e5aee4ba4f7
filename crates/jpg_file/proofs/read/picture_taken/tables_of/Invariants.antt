use Rattle.std.proofs.Common.{◌≡◌, ◌<◌, ℕ, [], length, slice_index_or, unwrap_or}
use Rattle.jpg_spec.specs.QuantContents.{quant_in}
use Rattle.jpg_file.proofs.read.picture_taken.tables_of.Given as goal

abbrev pub invariant-loop-i : goal.invariant-loop-i
invariant-loop-i l = (length l.tables.items ≡ l.i) × ((k : ℕ) → k < l.i → slice_index_or l.tables.items k [] ≡ unwrap_or (quant_in l.begun.quants k) [])
