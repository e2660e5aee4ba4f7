-- WHAT TAKING THE TABLES of quantisers does to a desk (the manual of cjpeg, "-qtables"), by whether a file has them.
use Rattle.std.specs.Prelude.{◌≡◌, ℕ, List, [], ◌∷◌, Option, None, Some, Result, Ok, Err, option_map}
use Rattle.arrayvec.specs.ArrayVec.{ArrayVec}
use Rattle.jpg_base.specs.declared.names.Name.{Name}
use Rattle.jpg_base.specs.declared.names.Name.TheVariants as name
use Rattle.jpg_base.specs.declared.names.Put.TheVariants as put
use Rattle.jpg_base.specs.Desk.{DeskState}
use Rattle.jpg_spec.specs.Segments.{QuantTable}
use Rattle.jpg_spec.specs.TextForms.{longest_text}
use Rattle.jpg_spec_image.specs.TableText.{TellsTables}
use Rattle.jpg_spec.specs.declared.fault.FaultAt.{FaultAt}
use Rattle.jpg_spec_words.specs.declared.answers.Why.{Why}
use Rattle.jpg_spec_words.specs.declared.answers.Which.TheVariants as which
use Rattle.jpg_desk.specs.Endings.{Asks}
use Rattle.jpg_desk.specs.TextTaken.{StopsAtText, TellsIn, TextKind}

abbrev pub tables_kind : TextKind (List QuantTable)
tables_kind = record { which = which.Tables; longest = longest_text; tells = TellsTables }

-- THE TABLES that are asked for: none, or those of the file of this name
abbrev pub HasTables : Option (List ℕ) → DeskState → Option (List QuantTable) → Type 0
HasTables None old tables = tables ≡ None
HasTables (Some file) old tables = (told : List QuantTable) × TellsIn (List QuantTable) tables_kind (name.File file) (Ok told) old × (tables ≡ Some told)

-- the fault of the tables' file
abbrev pub HasTablesFault : Option (List ℕ) → DeskState → FaultAt → Type 0
HasTablesFault None old f = ⊥
HasTablesFault (Some file) old f = TellsIn (List QuantTable) tables_kind (name.File file) (Err f) old

-- the names that are opened before the input
abbrev pub tables_names : Option (List ℕ) → List Name
tables_names None = []
tables_names (Some file) = name.File file ∷ []

-- NO TABLES, after names that were opened before
abbrev pub StopsAtTables : List Name → Option (List ℕ) → DeskState → Why → DeskState → Type 0
StopsAtTables before None old ended new = ⊥
StopsAtTables before (Some file) old ended new = StopsAtText tables_kind before (name.File file) old ended new

-- THE RESULTS

abbrev pub tables_view : Option (ArrayVec QuantTable) → Option (List QuantTable)
tables_view tables = option_map (λ v. v.items) tables

abbrev pub AfterTablesFile : Name → DeskState → Result (ArrayVec QuantTable) Why → DeskState → Type 0
AfterTablesFile file old (Ok tables) new = Asks (file ∷ []) put.Done old new × TellsIn (List QuantTable) tables_kind file (Ok tables.items) old
AfterTablesFile file old (Err ended) new = StopsAtText tables_kind [] file old ended new

abbrev pub AfterTables : Option (List ℕ) → DeskState → Result (Option (ArrayVec QuantTable)) Why → DeskState → Type 0
AfterTables source old (Ok tables) new = Asks (tables_names source) put.Done old new × HasTables source old (tables_view tables)
AfterTables source old (Err ended) new = StopsAtTables [] source old ended new
