use Rattle.jpg_spec.proofs.Segments.TablesInForce.{valid_in_force, scan_sound}
use Rattle.jpg_spec.proofs.file_meaning_laws.tables_in_force_are_valid.Goals as goal

pub returns-clause-tables : goal.returns-clause-tables
returns-clause-tables c = valid_in_force

pub returns-clause-codings : goal.returns-clause-codings
returns-clause-codings c = scan_sound
