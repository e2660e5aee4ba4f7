use Rattle.std.proofs.Common.{rules, sym, subst}
use Rattle.jpg_spec.specs.Segments.{AreQuantisers}
use Rattle.jpg_dct.proofs.Scaled.{scaled_all}
use Rattle.jpg_dct.proofs.tables.scaled_table.Goals as goal

pub returns-clause-quantisers : goal.returns-clause-quantisers
returns-clause-quantisers c =
    subst AreQuantisers (sym c.of.ensures)
    (scaled_all c.args.scale c.args.baseline c.values-quants.result c.loop-k.values c.loop-k.k c.loop-k.invariant.0 (search rules) c.loop-k.invariant.1)
