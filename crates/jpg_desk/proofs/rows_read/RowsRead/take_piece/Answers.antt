use Rattle.std.proofs.Common.{ap, refl, rules, ◌++◌, ◌∙◌}
use Rattle.jpg_file.specs.Read.ReadFile.{ReaderState}
use Rattle.jpg_desk.proofs.PiecesRead.{more_small}
use Rattle.jpg_desk.proofs.RowsEnd.{piece_begins}
use Rattle.jpg_desk.proofs.rows_read.RowsRead.take_piece.Goals as goal

pub feed_keeping-answer-requires-clause-undone : goal.feed_keeping-answer-requires-clause-undone
feed_keeping-answer-requires-clause-undone c = ap (λ (r : ReaderState). r.done) c.deref_mut.ensures.value ∙ (c.requires.fed.2).read.undone

pub feed_keeping-answer-requires-clause-in_rows : goal.feed_keeping-answer-requires-clause-in_rows
feed_keeping-answer-requires-clause-in_rows c = ap (λ (r : ReaderState). r.in_rows) c.deref_mut.ensures.value ∙ (c.requires.fed.2).put.keeps.keeps.in_rows

pub take_rows-requires : goal.take_rows-requires
take_rows-requires c =
    let r = c.requires.fed in
    let e = c.feed_keeping-answer.ensures in
    let piece = c.args.piece.now in
    let small = more_small r.1 piece r.2.small (λ i. (let t = c.type_inv.piece i in search (rules, t))) in
    (r.0, r.1 ++ piece, piece_begins piece c.feed_keeping-answer.result r.2 c.requires.few small c.deref_mut.ensures.value e.answered e.done (record { limits = e.limits; in_rows = e.in_rows; keeping = e.keeping }) refl refl refl)

pub returns : goal.returns
returns c = λ from bytes h most.
    (let e = c.feed_keeping-answer.ensures in
    let piece = c.args.piece.now in
    let small = more_small bytes piece h.small (λ i. (let t = c.type_inv.piece i in search (rules, t))) in
    c.take_rows.ensures from (bytes ++ piece) (piece_begins piece c.feed_keeping-answer.result h c.requires.few small c.deref_mut.ensures.value e.answered e.done (record { limits = e.limits; in_rows = e.in_rows; keeping = e.keeping }) refl refl refl))
