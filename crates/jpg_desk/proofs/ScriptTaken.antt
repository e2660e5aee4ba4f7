-- The scans of the output, by their source.
use Rattle.std.proofs.Common.{List, []}
use Rattle.jpg_base.specs.declared.names.Name.TheVariants as name
use Rattle.jpg_base.specs.Desk.{DeskState}
use Rattle.jpg_spec_write.specs.Script.{Entry}
use Rattle.jpg_spec_words.specs.TransformWords.{ScansSource, in_file}
use Rattle.jpg_spec_words.specs.declared.answers.Why.{Why}
use Rattle.jpg_desk.specs.ScriptTaken.{StopsAtScans, script_kind}
use Rattle.jpg_desk.specs.Stays.{OnlySays}
use Rattle.jpg_desk.proofs.TextTaken.{text_then}

-- A MESSAGE THEN

pub stopped_scans_then : (source : ScansSource) (s0 s1 s2 : DeskState) (w : Why) → OnlySays s1 s2 → StopsAtScans source s0 w s1 → StopsAtScans source s0 w s2
stopped_scans_then (in_file file) s0 s1 s2 w k h = text_then (List Entry) script_kind (name.File file) [] s0 s1 s2 w k h
stopped_scans_then other s0 s1 s2 w k h = absurd h
