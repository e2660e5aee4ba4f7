use Rattle.std.proofs.Common.{Err, ap, refl, subst, sym, ◌∙◌}
use Rattle.jpg_spec_words.specs.declared.answers.Why.{Why}
use Rattle.jpg_file.specs.Read.File.{keeping_of}
use Rattle.jpg_file.specs.Read.ReadFile.{ReaderState}
use Rattle.jpg_desk.specs.Pump.{AfterInput}
use Rattle.jpg_desk.specs.RowsRead.{rows_reader}
use Rattle.jpg_desk.specs.declared.rows_read.RowsRead.{RowsRead}
use Rattle.jpg_desk.proofs.RowsEnd.{can_end, early_there, end_stopped, ends_early, read_before, short_open}
use Rattle.jpg_desk.proofs.rows_read.RowsRead.at_end.Goals as goal

pub returns-in-Stop : goal.returns-in-Stop
returns-in-Stop c = λ from bytes h short.
    (let e = c.in-Stop.ensures in
    let is = c.deref_mut.ensures.value in
    let limits = e.limits ∙ ap (λ (r : ReaderState). r.limits) is ∙ h.put.keeps.keeps.limits in
    subst (λ (w : Why). (new : RowsRead) → AfterInput rows_reader from bytes (Err w) new) (sym c.why_stopped.ensures)
    (λ new. end_stopped new c.end.new.self.limits c.in-Stop.stop h limits (e.rows_answered bytes h.count (read_before h is))) _)

pub put_rest-requires : goal.put_rest-requires
put_rest-requires c =
    let h = c.requires.2 in
    let e = c.in-Early.ensures in
    let is = c.deref_mut.ensures.value in
    let limits = e.limits ∙ ap (λ (r : ReaderState). r.limits) is ∙ h.put.keeps.keeps.limits in
    let t = early_there h limits (e.rows_answered c.requires.1 h.count (read_before h is)) in
    can_end h limits t.1 (c.row_coefs.ensures ((t.1).begun).rows (ap (λ (r : ReaderState). r.rows) c.deref.ensures ∙ ((t.1).begun).has))

pub returns-in-Err : goal.returns-in-Err
returns-in-Err c = λ from bytes h short. short_open h

pub returns-in-Ok : goal.returns-in-Ok
returns-in-Ok c = λ from bytes h short.
    (let e = c.in-Early.ensures in
    let is = c.deref_mut.ensures.value in
    let limits = e.limits ∙ ap (λ (r : ReaderState). r.limits) is ∙ h.put.keeps.keeps.limits in
    let t = early_there h limits (e.rows_answered bytes h.count (read_before h is)) in
    let lent = c.row_coefs.ensures ((t.1).begun).rows (ap (λ (r : ReaderState). r.rows) c.deref.ensures ∙ ((t.1).begun).has) in
    ends_early h limits t.1 c.in-Early.at t.0 lent c.in-Ok.ensures refl
    (record { limits = limits; in_rows = e.in_rows ∙ ap (λ (r : ReaderState). r.in_rows) is ∙ h.put.keeps.keeps.in_rows; keeping = e.keeping ∙ ap (λ (r : ReaderState). keeping_of r.file) is ∙ h.put.keeps.keeps.keeping }) refl)
