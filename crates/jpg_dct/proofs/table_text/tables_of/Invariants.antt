use Rattle.std.specs.Prelude.{◌≡◌, map}
use Rattle.jpg_spec.specs.Lists.{below}
use Rattle.jpg_spec_image.specs.TableText.{table_at}
use Rattle.jpg_dct.proofs.table_text.tables_of.Given as goal

abbrev pub invariant-loop-i : goal.invariant-loop-i
invariant-loop-i l = l.tables.items ≡ map (table_at l.numbers) (below l.i)
