use Rattle.std.proofs.Common.{List, ℕ, Result, Ok, Err}
use Rattle.jpg_spec.specs.declared.fault.FaultAt.{FaultAt}
use Rattle.jpg_spec_write.specs.Script.{Entry}
use Rattle.jpg_spec_write.specs.ScriptGrammar.{TellsScript}
use Rattle.jpg_texts.specs.TextKinds.{TellsText}
use Rattle.jpg_scans.specs.TextState.{script_kind}
use Rattle.jpg_scans.proofs.ScriptRest.{reads_scripts}
use Rattle.jpg_scans.proofs.script.Script.parse.Goals as goal

told : (text : List ℕ) (answer : Result (List Entry) FaultAt) → TellsText script_kind text answer → TellsScript text answer
told text (Ok entries) h = h
told text (Err e) h = h

pub read_text-requires-clause-reads : goal.read_text-requires-clause-reads
read_text-requires-clause-reads c = reads_scripts

pub returns : goal.returns
returns c = told c.args.text.now c.read_text.result c.read_text.ensures
