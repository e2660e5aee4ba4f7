use Rattle.std.proofs.Common.{List, ℕ, refl, subst, Ok, Err}
use Rattle.jpg_spec.proofs.Texts.TextsParsed.{tells_whole}
use Rattle.jpg_spec_write.specs.Script.{Entry}
use Rattle.jpg_spec_write.specs.ScriptGrammar.{TellsScript, script_form}
use Rattle.jpg_desk.specs.ScriptTaken.{script_kind}
use Rattle.jpg_desk.proofs.TextTaken.{text_refused, text_unread, told_in}
use Rattle.jpg_desk.proofs.script.take_script.Goals as goal

pub returns-in-Err-clause-after : goal.returns-in-Err-clause-after
returns-in-Err-clause-after g c =
    let state = g.D.Desk.state in text_unread (List Entry) script_kind c.args.name.now (state c.args.desk.now) (state c.take_file.new.desk) c.in-Err.why c.in-Err.ensures.after

pub returns-in-Ok-parse-clause-after : goal.returns-in-Ok-parse-clause-after
returns-in-Ok-parse-clause-after g c =
    let state = g.D.Desk.state in
    let script = c.in-Ok-parse.script in
    let tells = subst (λ (b : List ℕ). TellsScript b (Ok script)) c.as_slice.ensures c.in-Ok-parse.ensures in
    (c.in-Ok.ensures.after.0, (script, told_in (List Entry) script_kind c.args.name.now (tells_whole script_form) (state c.args.desk.now) (state c.take_file.new.desk) c.in-Ok.text (Ok script) c.in-Ok.ensures.after tells, refl))

pub returns-clause-after : goal.returns-clause-after
returns-clause-after g c =
    let state = g.D.Desk.state in
    let fault = c.in-Err-parse.fault in
    let tells = subst (λ (b : List ℕ). TellsScript b (Err fault)) c.as_slice.ensures c.in-Err-parse.ensures in
    text_refused (List Entry) script_kind c.args.name.now (tells_whole script_form) (state c.args.desk.now) (state c.take_file.new.desk) c.in-Ok.text fault c.in-Ok.ensures.kept c.in-Ok.ensures.after tells
