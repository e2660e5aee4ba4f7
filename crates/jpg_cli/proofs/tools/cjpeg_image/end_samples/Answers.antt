use Rattle.std.proofs.Common.{List, ℕ, subst}
use Rattle.jpg_desk.proofs.SampleAnswers.{samples_unread}
use Rattle.jpg_cli.specs.Tools.SamplesFed.{TakesSome}
use Rattle.jpg_cli.specs.declared.tools.cjpeg_image.Rest.TheVariants as gives
use Rattle.jpg_cli.proofs.Encoding.SamplesFed.{end_lost, has, held_by, rest_ended, rest_unended, samples_short}
use Rattle.jpg_cli.proofs.tools.cjpeg_image.end_samples.Goals as goal

pub returns-in_default : goal.returns-in_default
returns-in_default c = samples_short c.args.sink.now c.refused.result c.in_default.is c.refused.ensures

pub end-requires : goal.end-requires
end-requires c = (let r = c.requires in let t = held_by c.args.sink.now c.in-Given.samples c.in-Given.is r.0 r.1 r.2 r.3 in samples_unread r.0 r.2 t.all c.in-Given.samples t.has.given)

pub feed_piece-requires : goal.feed_piece-requires
feed_piece-requires c = (let h = c.requires.3 in (h.begun.0, h.info, h.begun.1, h.given, has h))

pub returns-in-Err : goal.returns-in-Err
returns-in-Err c =
    let old = c.args.sink.now in
    let new = record old { rest = gives.Given c.end.new.self; made = c.end.new.made } in
    rest_unended old new c.in-Given.samples c.clear.new.self c.end.new.made c.in-Given.is c.in-Err.why c.in-Err.ensures

pub returns-in-Err-feed_piece : goal.returns-in-Err-feed_piece
returns-in-Err-feed_piece c = end_lost c.args.sink.now c.args.sink.now

pub returns-in-Ok-feed_piece : goal.returns-in-Ok-feed_piece
returns-in-Ok-feed_piece c =
    let old = c.args.sink.now in
    let new = record old { encoder = c.feed_piece.new.encoder; rest = gives.Given c.end.new.self; made = c.end.new.made } in
    rest_ended old new c.in-Given.samples c.clear.new.self c.end.new.made c.in-Given.is c.clear.ensures c.in-Ok.ensures (subst (λ (m : List ℕ). TakesSome old.encoder m new.encoder) c.as_slice.ensures c.in-Ok-feed_piece.ensures)
