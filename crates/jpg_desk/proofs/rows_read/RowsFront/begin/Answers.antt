use Rattle.std.proofs.Common.{Err, Ok, ap, refl, rules, subst, sym, ◌++◌, ◌∙◌, List, Bool, ℕ}
use Rattle.std.specs.Box.{with_value}
use Rattle.jpg_spec_words.specs.declared.answers.Why.{Why}
use Rattle.jpg_file.specs.Read.ReadFile.{ReaderState, HasBegunRows}
use Rattle.jpg_desk.specs.Pump.{AfterTaking}
use Rattle.jpg_desk.specs.RowsRead.{rows_front}
use Rattle.jpg_desk.specs.declared.rows_read.RowsFront.{RowsFront}
use Rattle.jpg_desk.proofs.PiecesRead.{more_small}
use Rattle.jpg_desk.proofs.RowsFront.{after_piece, front_plain, front_rows, front_stopped, fed_on, piece_short, some_not_none}
use Rattle.jpg_desk.proofs.rows_read.RowsFront.begin.Goals as goal

pub feed_keeping-answer-requires-clause-undone : goal.feed_keeping-answer-requires-clause-undone
feed_keeping-answer-requires-clause-undone c = ap (λ (r : ReaderState). r.done) c.deref_mut.ensures.value ∙ (c.requires.fed.2).read.read.undone

pub feed_keeping-answer-requires-clause-in_rows : goal.feed_keeping-answer-requires-clause-in_rows
feed_keeping-answer-requires-clause-in_rows c = ap (λ (r : ReaderState). r.in_rows) c.deref_mut.ensures.value ∙ (c.requires.fed.2).keeps.in_rows

pub returns-in-Err : goal.returns-in-Err
returns-in-Err c = λ from bytes h most.
    (let piece = c.args.piece.now in
    let small = more_small bytes piece h.small (λ i. (let t = c.type_inv.piece i in search (rules, t))) in
    let is = c.deref_mut.ensures.value in
    let e = c.in-Err.ensures in
    let on = fed_on c.deref_mut.result.now c.feed_keeping-answer.new.self e.limits e.in_rows e.keeping in
    subst (λ (w : Why). (t : RowsFront) → AfterTaking rows_front from (bytes ++ piece) (Err w) t) (sym c.why_stopped.ensures)
    (λ t. front_stopped piece h c.requires.few small is on c.in-Err.stop t (after_piece piece h c.requires.few small is on (Err c.in-Err.stop) e.answered)) _)

pub returns-in-None : goal.returns-in-None
returns-in-None c = λ from bytes h most.
    (let piece = c.args.piece.now in
    let small = more_small bytes piece h.small (λ i. (let t = c.type_inv.piece i in search (rules, t))) in
    let is = c.deref_mut.ensures.value in
    let e = c.in-Ok.ensures in
    let on = fed_on c.deref_mut.result.now c.feed_keeping-answer.new.self e.limits e.in_rows e.keeping in
    let t : RowsFront = record { reader = with_value c.args.self.now.reader c.feed_keeping-answer.new.self; piece = c.args.self.now.piece; answer = c.args.self.now.answer } in
    subst (λ (b : Bool). AfterTaking rows_front from (bytes ++ piece) (Ok b) t) (sym c.is_done.ensures)
    (front_plain piece h c.requires.few small is on t refl c.in-Ok.fed h.none (λ all b. c.in-None.ensures.some all (subst (λ (r : ReaderState). HasBegunRows all r) (sym c.deref.ensures) b)) e.done
    (after_piece piece h c.requires.few small is on (Ok c.in-Ok.fed) e.answered)))

pub returns-in-Err-push_all : goal.returns-in-Err-push_all
returns-in-Err-push_all c = λ from bytes h most. piece_short c.args.piece.now h c.requires.few

pub returns-in-Ok-push_all : goal.returns-in-Ok-push_all
returns-in-Ok-push_all c = λ from bytes h most rest.
    (let piece = c.args.piece.now in
    let small = more_small bytes piece h.small (λ i. (let t = c.type_inv.piece i in search (rules, t))) in
    let is = c.deref_mut.ensures.value in
    let e = c.in-Ok.ensures in
    let on = fed_on c.deref_mut.result.now c.feed_keeping-answer.new.self e.limits e.in_rows e.keeping in
    let t : RowsFront = record { reader = with_value c.args.self.now.reader c.feed_keeping-answer.new.self; piece = c.push_all.new.self; answer = Ok c.in-Ok.fed } in
    front_rows piece h c.requires.few small is on t refl c.in-Ok.fed refl (c.in-Ok-push_all.ensures.whole ∙ ap (λ (l : List ℕ). l ++ piece) h.none)
    (λ none. some_not_none (sym c.in-Some.is ∙ c.strip.ensures.none (ap (λ (r : ReaderState). r.rows) c.deref.ensures ∙ none))) e.done (after_piece piece h c.requires.few small is on (Ok c.in-Ok.fed) e.answered))
