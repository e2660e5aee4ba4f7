-- The tables that are read of a text, as a list.
use Rattle.std.specs.Prelude.{List, Result, Ok, Err}
use Rattle.arrayvec.specs.ArrayVec.{ArrayVec}
use Rattle.jpg_spec.specs.Segments.{QuantTable}
use Rattle.jpg_spec.specs.declared.fault.FaultAt.{FaultAt}

abbrev pub tables_or_fault : Result (ArrayVec QuantTable) FaultAt → Result (List QuantTable) FaultAt
tables_or_fault (Ok tables) = Ok tables.items
tables_or_fault (Err f) = Err f
