use Rattle.std.proofs.Common.{Err, ap, subst, sym, ◌∙◌}
use Rattle.std.specs.Box.{with_value}
use Rattle.jpg_spec_words.specs.declared.answers.Why.{Why}
use Rattle.jpg_file.specs.Read.ReadFile.{HasRead, ReaderState}
use Rattle.jpg_file.specs.declared.read.ends.End.TheVariants as ends
use Rattle.jpg_desk.specs.Pump.{AfterInput}
use Rattle.jpg_desk.specs.RowsRead.{rows_front}
use Rattle.jpg_desk.specs.declared.rows_read.RowsFront.{RowsFront}
use Rattle.jpg_desk.proofs.RowsFront.{front_ends, front_keeps}
use Rattle.jpg_desk.proofs.rows_read.RowsFront.at_end.Goals as goal

pub returns-in-Stop-clause-ends : goal.returns-in-Stop-clause-ends
returns-in-Stop-clause-ends c = λ from bytes h short.
    (let e = c.in-Stop.ensures in
    let is = c.deref_mut.ensures.value in
    let keeps = front_keeps c.deref_mut.result.now c.end.new.self h is e.limits e.in_rows e.keeping in
    let none = e.rows.0 ∙ ap (λ (r : ReaderState). r.rows) is ∙ h.read.none in
    let read = subst (λ (r : ReaderState). HasRead bytes r) (sym is) h.read.read in
    let t : RowsFront = record { reader = with_value c.args.self.now.reader c.end.new.self; piece = c.args.self.now.piece; answer = c.args.self.now.answer } in
    subst (λ (w : Why). AfterInput rows_front from bytes (Err w) t) (sym c.why_stopped.ensures)
    (front_ends t (ends.Stop c.in-Stop.stop) h keeps none e.done (e.answered bytes read)))

pub returns-in-Early-clause-ends : goal.returns-in-Early-clause-ends
returns-in-Early-clause-ends c = λ from bytes h short.
    (let e = c.in-Early.ensures in
    let is = c.deref_mut.ensures.value in
    let keeps = front_keeps c.deref_mut.result.now c.end.new.self h is e.limits e.in_rows e.keeping in
    let none = e.rows.0 ∙ ap (λ (r : ReaderState). r.rows) is ∙ h.read.none in
    let read = subst (λ (r : ReaderState). HasRead bytes r) (sym is) h.read.read in
    let t : RowsFront = record { reader = with_value c.args.self.now.reader c.end.new.self; piece = c.args.self.now.piece; answer = c.args.self.now.answer } in
    front_ends t (ends.Early c.in-Early.at) h keeps none e.done (e.answered bytes read))
