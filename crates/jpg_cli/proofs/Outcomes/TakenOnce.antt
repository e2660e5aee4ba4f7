-- The scans and the tables that known files encode are one, or their fault is.
use Rattle.std.proofs.Common.{◌≡◌, ℕ, List, [], Option, None, Some, Result, Ok, Err, sym, ap, ◌∙◌}
use Rattle.jpg_base.specs.declared.names.Name.{Name}
use Rattle.jpg_base.specs.declared.names.Name.TheVariants as name
use Rattle.jpg_base.specs.Desk.{DeskState}
use Rattle.jpg_spec.specs.Segments.{QuantTable}
use Rattle.jpg_spec.specs.declared.fault.FaultAt.{FaultAt}
use Rattle.jpg_spec_words.specs.TransformWords.{ScansSource, own_sequential, own_progressive, in_file}
use Rattle.jpg_spec_words.specs.declared.answers.Why.{Why}
use Rattle.jpg_spec_write.specs.ScansAsked.{Scans, given}
use Rattle.jpg_spec_write.specs.Script.{Entry}
use Rattle.jpg_spec.proofs.Texts.TextsRead.{has_one_answer}
use Rattle.jpg_scans.proofs.ScriptRest.{reads_scripts}
use Rattle.jpg_dct.proofs.TableRest.{reads_tables}
use Rattle.jpg_cli.specs.Certain.{AreToldScans, HasFaultyScript}
use Rattle.jpg_desk.specs.ScriptTaken.{HasScans, HasScansFault, StopsAtScans, script_kind}
use Rattle.jpg_desk.specs.TablesTaken.{HasTables, HasTablesFault, StopsAtTables, tables_kind}
use Rattle.jpg_desk.specs.TextTaken.{TellsIn}
use Rattle.jpg_cli.specs.Due.{NoneRose, TellsFiles}
use Rattle.jpg_cli.proofs.Outcomes.Due.{is_file}
use Rattle.jpg_cli.proofs.Outcomes.TextOnce.{FaultOrNoMemory, text_once, text_stops}

ok_same : (A : Type 0) (a b : A) → (let x : Result A FaultAt = Ok a in x) ≡ Ok b → a ≡ b
ok_same A a b e = cc

ok_or_fault : (A : Type 0) (a : A) (f : FaultAt) → (let x : Result A FaultAt = Ok a in x) ≡ Err f → ⊥
ok_or_fault A a f e = cc

err_same : (A : Type 0) (f g : FaultAt) → (let x : Result A FaultAt = Err f in x) ≡ Err g → f ≡ g
err_same A f g e = cc

-- THE SCANS

script_once : (s : DeskState) (file : Name) (x y : Result (List Entry) FaultAt) → TellsFiles s → TellsIn (List Entry) script_kind file x s → TellsIn (List Entry) script_kind file y s → y ≡ x
script_once s file x y t h k = text_once (List Entry) script_kind file (has_one_answer reads_scripts) s x y t h k

pub one_scans : (s : DeskState) (source : ScansSource) → TellsFiles s → (x y : Scans) → HasScans source s x → HasScans source s y → y ≡ x
one_scans s own_sequential t x y h k = k ∙ sym h
one_scans s own_progressive t x y h k = k ∙ sym h
one_scans s (in_file file) t x y (a, is, e) (b, found, d) =
    d ∙ ap (λ (l : List Entry). given l) (ok_same (List Entry) b a (script_once s (name.File file) (Ok a) (Ok b) t is found)) ∙ sym e

pub scans_fault : (s : DeskState) (source : ScansSource) → TellsFiles s → (f g : FaultAt) → HasScansFault source s f → HasScansFault source s g → g ≡ f
scans_fault s (in_file file) t f g h k = err_same (List Entry) g f (script_once s (name.File file) (Err f) (Err g) t h k)
scans_fault s other t f g h k = absurd h

pub scans_or_fault : (s : DeskState) (source : ScansSource) → TellsFiles s → (x : Scans) (f : FaultAt) → HasScans source s x → HasScansFault source s f → ⊥
scans_or_fault s (in_file file) t x f (a, is, e) k = ok_or_fault (List Entry) a f (script_once s (name.File file) (Err f) (Ok a) t k is)
scans_or_fault s other t x f h k = absurd k

-- those of files that are known
pub told_scans : (s : DeskState) (source : ScansSource) (scans : Scans) → AreToldScans s source scans → HasScans source s scans
told_scans s own_sequential scans h = h
told_scans s own_progressive scans h = h
told_scans s (in_file file) scans (script, is, e) = (script, record { text = is.text; is = is_file s.files (name.File file) is.text is.told; tells = is.tells }, e)

pub told_fault : (s : DeskState) (source : ScansSource) (f : FaultAt) → HasFaultyScript source f s → HasScansFault source s f
told_fault s (in_file file) f (text, is, tells) = record { text = text; is = is_file s.files (name.File file) text is; tells = tells }
told_fault s other f h = absurd h

-- THE TABLES

tables_once : (s : DeskState) (file : Name) (x y : Result (List QuantTable) FaultAt) → TellsFiles s → TellsIn (List QuantTable) tables_kind file x s → TellsIn (List QuantTable) tables_kind file y s → y ≡ x
tables_once s file x y t h k = text_once (List QuantTable) tables_kind file (has_one_answer reads_tables) s x y t h k

pub one_tables : (s : DeskState) (source : Option (List ℕ)) → TellsFiles s → (x y : Option (List QuantTable)) → HasTables source s x → HasTables source s y → y ≡ x
one_tables s None t x y h k = k ∙ sym h
one_tables s (Some file) t x y (a, is, e) (b, found, d) =
    d ∙ ap (λ (l : List QuantTable). Some l) (ok_same (List QuantTable) b a (tables_once s (name.File file) (Ok a) (Ok b) t is found)) ∙ sym e

pub tables_fault : (s : DeskState) (source : Option (List ℕ)) → TellsFiles s → (f g : FaultAt) → HasTablesFault source s f → HasTablesFault source s g → g ≡ f
tables_fault s None t f g h k = absurd h
tables_fault s (Some file) t f g h k = err_same (List QuantTable) g f (tables_once s (name.File file) (Err f) (Err g) t h k)

pub tables_or_fault : (s : DeskState) (source : Option (List ℕ)) → TellsFiles s → (x : Option (List QuantTable)) (f : FaultAt) → HasTables source s x → HasTablesFault source s f → ⊥
tables_or_fault s None t x f h k = absurd k
tables_or_fault s (Some file) t x f (a, is, e) k = ok_or_fault (List QuantTable) a f (tables_once s (name.File file) (Err f) (Ok a) t k is)

-- IF NOTHING FAILED, a run that stops at one of these files has its fault, or there was no memory.

pub scans_stop : (source : ScansSource) (s0 s1 : DeskState) (w : Why) → NoneRose s0.counts s1.counts → StopsAtScans source s0 w s1 → FaultOrNoMemory (HasScansFault source) s0 w
scans_stop (in_file file) s0 s1 w n h = text_stops (List Entry) script_kind (name.File file) [] s0 s1 w n h
scans_stop other s0 s1 w n h = absurd h

pub tables_stop : (before : List Name) (source : Option (List ℕ)) (s0 s1 : DeskState) (w : Why) → NoneRose s0.counts s1.counts → StopsAtTables before source s0 w s1 → FaultOrNoMemory (HasTablesFault source) s0 w
tables_stop before None s0 s1 w n h = absurd h
tables_stop before (Some file) s0 s1 w n h = text_stops (List QuantTable) tables_kind (name.File file) before s0 s1 w n h
