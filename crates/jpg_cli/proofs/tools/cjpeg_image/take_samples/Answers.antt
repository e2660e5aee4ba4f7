use Rattle.std.proofs.Common.{◌+◌, ℕ, List, length, refl, subst, arith}
use Rattle.std.proofs.lemmas.List.{length-append}
use Rattle.jpg_desk.proofs.SampleAnswers.{samples_fed, samples_unread}
use Rattle.jpg_cli.specs.Tools.SamplesFed.{TakesSome}
use Rattle.jpg_cli.specs.declared.tools.cjpeg_image.Rest.TheVariants as gives
use Rattle.jpg_cli.proofs.Encoding.SamplesFed.{has, held_by, rest_stopped, rest_taken, samples_lost, samples_taken}
use Rattle.jpg_cli.proofs.tools.cjpeg_image.take_samples.Goals as goal

pub feed_piece-requires : goal.feed_piece-requires
feed_piece-requires c = (let h = c.requires.fed.3 in (h.begun.0, h.info, h.begun.1, h.given, has h))

pub returns-in-Err : goal.returns-in-Err
returns-in-Err c = samples_lost c.args.sink.now c.args.sink.now c.args.piece.now c.requires.few

pub returns-in-Ok : goal.returns-in-Ok
returns-in-Ok c =
    let old = c.args.sink.now in
    let new = record old { encoder = c.feed_piece.new.encoder; taken = old.taken + length c.args.piece.now } in
    samples_taken old new c.args.piece.now c.requires.few c.are_all.result c.in-Plain.is c.in-Plain.is c.in-Ok.ensures refl c.are_all.ensures

pub feed-requires-clause-more : goal.feed-requires-clause-more
feed-requires-clause-more c = (let r = c.requires.fed in let t = held_by c.args.sink.now c.in-Given.samples c.in-Given.is r.0 r.1 r.2 r.3 in samples_unread r.0 r.2 t.all c.in-Given.samples t.has.given)

pub feed-requires-clause-room : goal.feed-requires-clause-room
feed-requires-clause-room c =
    let r = c.requires.fed in
    let t = held_by c.args.sink.now c.in-Given.samples c.in-Given.is r.0 r.1 r.2 r.3 in
    let taken = samples_fed r.0 r.2 t.all c.in-Given.samples t.has.given in
    let l = length-append r.2 c.args.piece.now in
    let most = r.4 in
    omega (arith, taken, l, most)

pub returns-in-Err-feed : goal.returns-in-Err-feed
returns-in-Err-feed c =
    let old = c.args.sink.now in
    let piece = c.args.piece.now in
    let new = record old { rest = gives.Given c.feed.new.self; made = c.feed.new.made; taken = old.taken + length piece } in
    rest_stopped old new piece c.requires.few c.in-Given.samples c.feed.new.self c.clear.new.self c.feed.new.made c.in-Given.is c.in-Err-feed.why c.in-Err-feed.ensures

pub returns-in-Err-feed_piece : goal.returns-in-Err-feed_piece
returns-in-Err-feed_piece c = samples_lost c.args.sink.now c.args.sink.now c.args.piece.now c.requires.few

pub returns-in-Ok-feed_piece : goal.returns-in-Ok-feed_piece
returns-in-Ok-feed_piece c =
    let old = c.args.sink.now in
    let piece = c.args.piece.now in
    let new = record old { encoder = c.feed_piece-in-Ok-feed.new.encoder; rest = gives.Given c.feed.new.self; made = c.feed.new.made; taken = old.taken + length piece } in
    let takes = subst (λ (m : List ℕ). TakesSome old.encoder m new.encoder) c.as_slice.ensures c.in-Ok-feed_piece.ensures in
    rest_taken old new piece c.requires.few c.in-Given.samples c.feed.new.self c.clear.new.self c.feed.new.made c.in-Given.is c.in-Ok-feed.whole c.clear.ensures c.in-Ok-feed.ensures refl takes refl
