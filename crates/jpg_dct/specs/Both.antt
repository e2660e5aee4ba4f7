-- The two tables that images are encoded by, as a list.
use Rattle.std.specs.Prelude.{List, [], ◌∷◌}
use Rattle.jpg_spec.specs.Segments.{QuantTable}

abbrev pub both : QuantTable × QuantTable → List QuantTable
both tables = tables.0 ∷ tables.1 ∷ []
