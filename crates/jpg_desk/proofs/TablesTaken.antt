-- The tables of quantisers, read from a file if one is named.
use Rattle.std.proofs.Common.{◌≡◌, ℕ, List, [], Option, None, Some, Ok}
use Rattle.jpg_base.specs.declared.names.Name.{Name}
use Rattle.jpg_base.specs.declared.names.Name.TheVariants as name
use Rattle.jpg_base.specs.Desk.{DeskState}
use Rattle.jpg_spec.specs.Segments.{QuantTable}
use Rattle.jpg_spec_words.specs.declared.answers.Why.{Why}
use Rattle.jpg_desk.specs.Endings.{GoesOnAfter}
use Rattle.jpg_desk.specs.Stays.{OnlySays}
use Rattle.jpg_desk.specs.TablesTaken.{HasTables, StopsAtTables, tables_kind}
use Rattle.jpg_desk.proofs.TextTaken.{tells_before, text_before, text_then}

-- A MESSAGE THEN

pub stopped_tables_then : (before : List Name) (source : Option (List ℕ)) (s0 s1 s2 : DeskState) (w : Why) → OnlySays s1 s2 → StopsAtTables before source s0 w s1 → StopsAtTables before source s0 w s2
stopped_tables_then before None s0 s1 s2 w k h = absurd h
stopped_tables_then before (Some file) s0 s1 s2 w k h = text_then (List QuantTable) tables_kind (name.File file) before s0 s1 s2 w k h

-- AFTER NAMES that were opened or created before

pub tables_before : (source : Option (List ℕ)) (tables : Option (List QuantTable)) (s0 s1 : DeskState) → s1.files ≡ s0.files → HasTables source s1 tables → HasTables source s0 tables
tables_before None tables s0 s1 e h = h
tables_before (Some file) tables s0 s1 e (told, is, same) = (told, tells_before (List QuantTable) tables_kind (name.File file) (Ok told) s0 s1 e is, same)

pub stops_after : (xs : List Name) (source : Option (List ℕ)) (s0 s1 s2 : DeskState) (w : Why) → GoesOnAfter xs s0 s1 → StopsAtTables [] source s1 w s2 → StopsAtTables xs source s0 w s2
stops_after xs None s0 s1 s2 w b h = absurd h
stops_after xs (Some file) s0 s1 s2 w b h = text_before (List QuantTable) tables_kind (name.File file) xs s0 s1 s2 w b h
