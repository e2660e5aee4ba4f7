-- The quantisation tables that are written: their segments, their slots, and what is in force after them.
use Rattle.std.proofs.Common.{Bool, List}
use Rattle.jpg_spec.specs.Lists.{any_of, are_equal}
use Rattle.jpg_spec.specs.Segments.{QuantTable}

abbrev pub is_in : QuantTable → List QuantTable → Bool
is_in q tables = any_of (are_equal q) tables
