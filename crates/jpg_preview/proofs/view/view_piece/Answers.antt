use Rattle.std.proofs.Common.{◌∙◌, Ok, ap}
use Rattle.jpg_preview.proofs.PieceSteps.{piece_done, piece_ends, piece_goes, piece_more, piece_stopped, rest_done, rest_fed}
use Rattle.jpg_preview.proofs.view.view_piece.Goals as goal

pub returns-in-Ok-More-clause-viewed : goal.returns-in-Ok-More-clause-viewed
returns-in-Ok-More-clause-viewed c =
    let kept = c.feed_scan.ensures in
    let mid = c.loop-used.reader in
    let new = c.feed_scan.new.self in
    let piece = c.args.piece.now in
    let used = c.loop-used.used in
    let x = c.feed_scan.result in
    piece_more c.args.scans c.args.reader.now mid new piece used c.loop-used.invariant x kept.limits (rest_fed mid new piece used x kept.answered) (c.in-Ok-More.is ∙ ap Ok c.in-Ok-More.field-0-is)

pub returns-in-Ok-Done-clause-viewed : goal.returns-in-Ok-Done-clause-viewed
returns-in-Ok-Done-clause-viewed c =
    let kept = c.feed_scan.ensures in
    let mid = c.loop-used.reader in
    let new = c.feed_scan.new.self in
    let piece = c.args.piece.now in
    let used = c.loop-used.used in
    let x = c.feed_scan.result in
    piece_done c.args.scans c.args.reader.now mid new piece used c.loop-used.invariant x kept.limits (rest_fed mid new piece used x kept.answered) c.in-Ok-Done.n (c.in-Ok-Done.is ∙ ap Ok c.in-Ok-Done.field-0-is)

pub returns-in-Err-clause-viewed : goal.returns-in-Err-clause-viewed
returns-in-Err-clause-viewed c =
    let kept = c.feed_scan.ensures in
    let mid = c.loop-used.reader in
    let new = c.feed_scan.new.self in
    let piece = c.args.piece.now in
    let used = c.loop-used.used in
    let x = c.feed_scan.result in
    piece_stopped c.args.scans c.args.reader.now mid new piece used c.loop-used.invariant x kept.limits (rest_fed mid new piece used x kept.answered) c.in-Err.stop c.in-Err.is

pub returns-then-is_wanted-clause-viewed : goal.returns-then-is_wanted-clause-viewed
returns-then-is_wanted-clause-viewed c =
    let kept = c.feed_scan.ensures in
    let mid = c.loop-used.reader in
    let new = c.feed_scan.new.self in
    let piece = c.args.piece.now in
    let used = c.loop-used.used in
    let x = c.feed_scan.result in
    let is = c.in-Ok-Scan.is ∙ ap Ok c.in-Ok-Scan.field-0-is in
    let done = rest_done piece used c.in-Ok-Scan.n x new is kept.done in
    piece_ends c.args.scans c.args.reader.now mid new piece used c.loop-used.invariant x kept.limits (rest_fed mid new piece used x kept.answered)
    c.end_there.new.reader c.in-Ok-Scan.n c.end_there.result is done.1 done.2 c.end_there.ensures.limits (c.is_wanted.ensures.ends c.if-is_wanted.true) c.end_there.ensures.ends

pub loop-used-preserved : goal.loop-used-preserved
loop-used-preserved c =
    let kept = c.feed_scan.ensures in
    let mid = c.loop-used.reader in
    let new = c.feed_scan.new.self in
    let piece = c.args.piece.now in
    let used = c.loop-used.used in
    let x = c.feed_scan.result in
    let is = c.in-Ok-Scan.is ∙ ap Ok c.in-Ok-Scan.field-0-is in
    let done = rest_done piece used c.in-Ok-Scan.n x new is kept.done in
    piece_goes c.args.scans c.args.reader.now mid new piece used c.loop-used.invariant x kept.limits (rest_fed mid new piece used x kept.answered)
    c.in-Ok-Scan.n is done.2 done.0 (record { limits = kept.limits; keeping = kept.keeping; plain = kept.plain }) (c.is_wanted.ensures.goes c.if-is_wanted.false)
