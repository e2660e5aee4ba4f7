-- WHAT TAKING THE SCANS of the output does to a desk (release 6b's wizard.txt, "Multiple Scan / Progression Control"),
-- by their source.
use Rattle.std.specs.Prelude.{◌≡◌, ◌⊎◌, List, [], ◌∷◌, Result, Ok, Err}
use Rattle.jpg_base.specs.declared.names.Name.{Name}
use Rattle.jpg_base.specs.declared.names.Name.TheVariants as name
use Rattle.jpg_base.specs.declared.names.Put.TheVariants as put
use Rattle.jpg_base.specs.Desk.{DeskState}
use Rattle.jpg_spec.specs.TextForms.{longest_text}
use Rattle.jpg_spec_write.specs.ScansAsked.{Scans, sequential, standard, given}
use Rattle.jpg_spec_write.specs.Script.{Entry}
use Rattle.jpg_spec_write.specs.ScriptGrammar.{TellsScript}
use Rattle.jpg_spec_words.specs.TransformWords.{ScansSource, own_sequential, own_progressive, in_file}
use Rattle.jpg_spec.specs.declared.fault.FaultAt.{FaultAt}
use Rattle.jpg_spec_words.specs.declared.answers.Why.{Why}
use Rattle.jpg_spec_words.specs.declared.answers.Why.TheVariants as why
use Rattle.jpg_spec_words.specs.declared.answers.Which.TheVariants as which
use Rattle.jpg_transform.specs.Planned.{scans_view}
use Rattle.jpg_transform.specs.declared.choice.Scans.{Scans as AskedScans}
use Rattle.jpg_desk.specs.Endings.{Asks}
use Rattle.jpg_desk.specs.TextTaken.{StopsAtText, TellsIn, TextKind}
use Rattle.jpg_desk.specs.Stays.{Untouched}

abbrev pub script_kind : TextKind (List Entry)
script_kind = record { which = which.Script; longest = longest_text; tells = TellsScript }

-- THE SCANS that are asked for: the default ones, or those of the script's file
abbrev pub HasScans : ScansSource → DeskState → Scans → Type 0
HasScans own_sequential old scans = scans ≡ sequential
HasScans own_progressive old scans = scans ≡ standard
HasScans (in_file file) old scans = (script : List Entry) × TellsIn (List Entry) script_kind (name.File file) (Ok script) old × (scans ≡ given script)

-- the fault of the script's file
abbrev pub HasScansFault : ScansSource → DeskState → FaultAt → Type 0
HasScansFault own_sequential old f = ⊥
HasScansFault own_progressive old f = ⊥
HasScansFault (in_file file) old f = TellsIn (List Entry) script_kind (name.File file) (Err f) old

-- the names that are opened before the input
abbrev pub names_before : ScansSource → List Name
names_before own_sequential = []
names_before own_progressive = []
names_before (in_file file) = name.File file ∷ []

-- NO SCANS
abbrev pub StopsAtScans : ScansSource → DeskState → Why → DeskState → Type 0
StopsAtScans own_sequential old ended new = ⊥
StopsAtScans own_progressive old ended new = ⊥
StopsAtScans (in_file file) old ended new = StopsAtText script_kind [] (name.File file) old ended new

-- THE RESULTS

abbrev pub AfterScript : Name → DeskState → Result AskedScans Why → DeskState → Type 0
AfterScript file old (Ok scans) new =
    Asks (file ∷ []) put.Done old new × ((script : List Entry) × TellsIn (List Entry) script_kind file (Ok script) old × (scans_view scans ≡ given script))
AfterScript file old (Err ended) new = StopsAtText script_kind [] file old ended new

-- Nothing was opened if there was no memory for the file's name.
abbrev pub AfterScans : ScansSource → DeskState → Result AskedScans Why → DeskState → Type 0
AfterScans source old (Ok scans) new = Asks (names_before source) put.Done old new × HasScans source old (scans_view scans)
AfterScans source old (Err ended) new = StopsAtScans source old ended new ⊎ ((ended ≡ why.NoMemory) × Untouched old new)
