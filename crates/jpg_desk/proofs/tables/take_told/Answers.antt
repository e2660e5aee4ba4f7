use Rattle.std.proofs.Common.{List, ℕ, subst, Ok, Err}
use Rattle.jpg_spec.proofs.Texts.TextsParsed.{tells_whole}
use Rattle.jpg_spec.specs.Segments.{QuantTable}
use Rattle.jpg_spec_image.specs.TableText.{TellsTables, tables_form}
use Rattle.jpg_desk.specs.TablesTaken.{tables_kind}
use Rattle.jpg_desk.proofs.TextTaken.{text_refused, text_unread, told_in}
use Rattle.jpg_desk.proofs.tables.take_told.Goals as goal

pub returns-in-Err-clause-after : goal.returns-in-Err-clause-after
returns-in-Err-clause-after g c =
    let state = g.D.Desk.state in text_unread (List QuantTable) tables_kind c.args.name.now (state c.args.desk.now) (state c.take_file.new.desk) c.in-Err.why c.in-Err.ensures.after

pub returns-in-Ok-read_tables-clause-after : goal.returns-in-Ok-read_tables-clause-after
returns-in-Ok-read_tables-clause-after g c =
    let state = g.D.Desk.state in
    let tables = c.in-Ok-read_tables.tables in
    let tells = subst (λ (b : List ℕ). TellsTables b (Ok tables.items)) c.as_slice.ensures c.in-Ok-read_tables.ensures in
    (c.in-Ok.ensures.after.0, told_in (List QuantTable) tables_kind c.args.name.now (tells_whole tables_form) (state c.args.desk.now) (state c.take_file.new.desk) c.in-Ok.text (Ok tables.items) c.in-Ok.ensures.after tells)

pub returns-clause-after : goal.returns-clause-after
returns-clause-after g c =
    let state = g.D.Desk.state in
    let fault = c.in-Err-read_tables.fault in
    let tells = subst (λ (b : List ℕ). TellsTables b (Err fault)) c.as_slice.ensures c.in-Err-read_tables.ensures in
    text_refused (List QuantTable) tables_kind c.args.name.now (tells_whole tables_form) (state c.args.desk.now) (state c.take_file.new.desk) c.in-Ok.text fault c.in-Ok.ensures.kept c.in-Ok.ensures.after tells
