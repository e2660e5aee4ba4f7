use Rattle.std.specs.Prelude.{◌≡◌, take, length, map}
use Rattle.jpg_spec_image.specs.Quality.{scaled_quantiser}
use Rattle.jpg_dct.proofs.tables.scaled_table.Given as goal

abbrev pub invariant-loop-k : goal.invariant-loop-k
invariant-loop-k l = (length l.values ≡ 64) × (take l.k l.values ≡ map (scaled_quantiser l.scale l.baseline) (take l.k l.quants))
