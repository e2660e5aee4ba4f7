use Rattle.std.proofs.Common.{List, ℕ, Result, Ok, Err}
use Rattle.arrayvec.specs.ArrayVec.{ArrayVec}
use Rattle.jpg_spec.specs.Segments.{QuantTable}
use Rattle.jpg_spec.specs.declared.fault.FaultAt.{FaultAt}
use Rattle.jpg_spec_image.specs.TableText.{TellsTables}
use Rattle.jpg_texts.specs.TextKinds.{TellsText}
use Rattle.jpg_dct.specs.ReadTables.{tables_or_fault}
use Rattle.jpg_dct.specs.TableState.{tables_kind}
use Rattle.jpg_dct.proofs.TableRest.{reads_tables}
use Rattle.jpg_dct.proofs.table_text.read_tables.Goals as goal

told : (text : List ℕ) (answer : Result (ArrayVec QuantTable) FaultAt) → TellsText tables_kind text answer → TellsTables text (tables_or_fault answer)
told text (Ok tables) h = h
told text (Err e) h = h

pub read_text-requires-clause-reads : goal.read_text-requires-clause-reads
read_text-requires-clause-reads c = reads_tables

pub returns : goal.returns
returns c = told c.args.text.now c.read_text.result c.read_text.ensures
