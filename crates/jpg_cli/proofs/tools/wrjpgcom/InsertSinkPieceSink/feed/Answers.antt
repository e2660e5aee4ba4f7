use Rattle.std.proofs.Common.{◌<◌, ◌∙◌, length, true, refl, arith}
use Rattle.jpg_cli.specs.declared.tools.wrjpgcom.InsertSink.{InsertSink}
use Rattle.jpg_desk.proofs.PiecesRead.{copies_none, works_then}
use Rattle.jpg_cli.proofs.Comments.CommentsCopied.{writes_copy}
use Rattle.jpg_cli.proofs.Comments.InsertedPieces.{creates_works, no_text, piece_first, piece_later, piece_passed, piece_uncreated}
use Rattle.jpg_cli.proofs.tools.wrjpgcom.InsertSinkPieceSink.feed.Goals as goal

pub write_rest-requires : goal.write_rest-requires
write_rest-requires g c = (let b = c.requires.2 in b.reads.kept.copies.output_created ∙ b.fed.fed.created c.if-self.true)

pub returns-then-self-clause-fed : goal.returns-then-self-clause-fed
returns-then-self-clause-fed g c = λ from bytes b.
    let e = c.take_piece-due.ensures in
    let old = c.args.self.now in
    let insert = c.take_piece-due.new.insert in
    let w = c.write_rest.ensures in
    let new : InsertSink = record { insert = insert; output = old.output; out = c.write_rest.new.out; created = old.created } in
    piece_later b c.take_piece-due.result c.take_piece-due.new.out insert e.limits e.replace e.taken c.write_rest.result new (g.D.Desk.state c.write_rest.new.desk) c.if-self.true c.if-self.true (record {
      insert = refl;
      output = refl;
      empty = w.empty;
      works = (writes_copy w.only).works;
      opened = w.only.input_open;
      created = λ is. w.only.output_created ∙ b.reads.kept.copies.output_created ∙ b.fed.fed.created is;
    }) w

pub returns-then-is_empty-clause-fed : goal.returns-then-is_empty-clause-fed
returns-then-is_empty-clause-fed g c = λ from bytes b.
    let e = c.take_piece-due.ensures in
    let old = c.args.self.now in
    let insert = c.take_piece-due.new.insert in
    let out = c.take_piece-due.new.out in
    let none = no_text out c.as_slice.result.now c.is_empty.result c.as_slice.ensures c.is_empty.ensures c.if-is_empty.true in
    let new : InsertSink = record { insert = insert; output = old.output; out = out; created = old.created } in
    piece_passed b c.take_piece-due.result out insert e.limits e.replace e.taken new c.if-self.false c.if-self.false none (record {
      insert = refl;
      output = refl;
      empty = none;
      works = (copies_none (g.D.Desk.state c.args.desk.now)).works;
      opened = refl;
      created = λ is. b.reads.kept.copies.output_created ∙ b.fed.fed.created is;
    })

pub returns-in-Failed-clause-fed : goal.returns-in-Failed-clause-fed
returns-in-Failed-clause-fed g c = λ from bytes b.
    let e = c.take_piece-due.ensures in
    let old = c.args.self.now in
    let insert = c.take_piece-due.new.insert in
    let out = c.take_piece-due.new.out in
    let some : 0 < length out = grind (arith, c.as_slice.ensures, c.is_empty.ensures, c.if-is_empty.false) in
    let new : InsertSink = record { insert = insert; output = old.output; out = out; created = old.created } in
    piece_uncreated b c.take_piece-due.result out insert e.limits e.replace e.taken c.if-self.false some new (g.D.Desk.state c.create.new.self) c.in-Failed.ensures

pub returns-in-Done-clause-fed : goal.returns-in-Done-clause-fed
returns-in-Done-clause-fed g c = λ from bytes b.
    let e = c.take_piece-due.ensures in
    let insert = c.take_piece-due.new.insert in
    let out = c.take_piece-due.new.out in
    let some : 0 < length out = grind (arith, c.as_slice.ensures, c.is_empty.ensures, c.if-is_empty.false) in
    let w = c.write_rest-in-Done.ensures in
    let made = c.in-Done.ensures in
    let new : InsertSink = record { insert = insert; output = c.args.self.now.output; out = c.write_rest-in-Done.new.out; created = true } in
    piece_first b c.take_piece-due.result out insert e.limits e.replace e.taken c.if-self.false some c.write_rest-in-Done.result new (g.D.Desk.state c.create.new.self) (g.D.Desk.state c.write_rest-in-Done.new.desk) refl (record {
      insert = refl;
      output = refl;
      empty = w.empty;
      works = works_then (creates_works made) (writes_copy w.only).works;
      opened = w.only.input_open ∙ made.input_open;
      created = λ is. w.only.output_created ∙ made.after.0;
    }) made w
