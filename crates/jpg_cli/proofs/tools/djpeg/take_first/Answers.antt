use Rattle.std.proofs.Common.{rules, ◌∙◌, sym, subst}
use Rattle.jpg_spec.specs.InForce.{frame_of}
use Rattle.jpg_file.specs.Read.ReadFile.{picture_read}
use Rattle.jpg_cli.specs.Tools.ShowingRows.{AfterFirst}
use Rattle.jpg_cli.specs.declared.tools.djpeg.FirstStep.{FirstStep}
use Rattle.jpg_cli.proofs.Pieces.FirstRead.{begun_there, by_answer, first_unwanted, head_in, none_begun, read_plainly, rows_begin}
use Rattle.jpg_desk.proofs.PiecesRead.{more_small}
use Rattle.jpg_cli.proofs.tools.djpeg.take_first.Goals as goal

pub returns-in-Some-clause-taken : goal.returns-in-Some-clause-taken
returns-in-Some-clause-taken c = λ bytes k most.
    let piece = c.args.piece.now in
    let r = c.feed_row-answer.new.self in
    let after = c.feed_row-answer.ensures.answered bytes 0 (read_plainly c.args.gray bytes c.args.reader.now c.requires.limits k) in
    first_unwanted c.args.gray bytes piece c.args.reader.now r c.in-Some.fault (c.feed_row-answer.ensures.limits ∙ c.requires.limits) k c.requires.short most (head_in bytes piece 0 c.feed_row-answer.result r after)
    (sym c.unwanted.ensures ∙ c.in-Some.is)

pub returns-then-is_some-clause-taken : goal.returns-then-is_some-clause-taken
returns-then-is_some-clause-taken c = λ bytes k most.
    let piece = c.args.piece.now in
    let r = c.feed_row-answer.new.self in
    let answer = c.feed_row-answer.result in
    let small = more_small bytes piece (k.fed).small (λ i. (let t = c.type_inv.piece i in search (rules, t))) in
    let after = c.feed_row-answer.ensures.answered bytes 0 (read_plainly c.args.gray bytes c.args.reader.now c.requires.limits k) in
    rows_begin c.args.gray bytes piece answer c.args.reader.now r c.requires.limits (c.feed_row-answer.ensures.limits ∙ c.requires.limits) k c.requires.short most small after c.feed_row-answer.ensures.done
    (sym c.in_default.ensures) (begun_there bytes piece answer r c.strip.result (sym c.is_some.ensures ∙ c.if-is_some.true) c.strip.ensures.none after)

pub returns-clause-taken : goal.returns-clause-taken
returns-clause-taken c = λ bytes k most.
    let piece = c.args.piece.now in
    let r = c.feed_row-answer.new.self in
    let answer = c.feed_row-answer.result in
    let small = more_small bytes piece (k.fed).small (λ i. (let t = c.type_inv.piece i in search (rules, t))) in
    let after = c.feed_row-answer.ensures.answered bytes 0 (read_plainly c.args.gray bytes c.args.reader.now c.requires.limits k) in
    subst (λ (s : FirstStep). AfterFirst c.args.gray bytes piece s r) (sym c.step_of.ensures)
    (by_answer c.args.gray bytes piece answer c.args.reader.now r c.requires.limits (c.feed_row-answer.ensures.limits ∙ c.requires.limits) k c.requires.short small (sym c.in_default.ensures)
    (λ front b. none_begun c.strip.result (frame_of r.limits b.before) (picture_read front r b) (sym c.is_some.ensures ∙ c.if-is_some.false) (c.strip.ensures.some front b)) after)
