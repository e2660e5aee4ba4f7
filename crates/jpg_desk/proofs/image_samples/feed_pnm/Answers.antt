use Rattle.std.proofs.Common.{rules, ◌++◌, false, Ok, Err, sym, subst, arith}
use Rattle.std.proofs.lemmas.List.{length-append}
use Rattle.jpg_pnm_bmp.specs.PnmGiven as pnm
use Rattle.jpg_pnm_bmp.specs.Samples.{Appends}
use Rattle.jpg_pnm_bmp.specs.declared.read.piece.Fed2.{Fed2}
use Rattle.jpg_spec_words.specs.declared.answers.Why.{Why}
use Rattle.jpg_desk.specs.ImageSamples.{AfterPiece, LastsHere}
use Rattle.jpg_desk.specs.declared.image_samples.ImageSamples.TheVariants as given
use Rattle.jpg_desk.proofs.PiecesRead.{more_small}
use Rattle.jpg_desk.proofs.SampleAnswers.{IsPiece, pnm_done, pnm_more, pnm_stopped}
use Rattle.jpg_desk.proofs.image_samples.feed_pnm.Goals as goal

pub returns-in-More : goal.returns-in-More
returns-in-More c = λ info bytes all h.
    let piece = c.args.piece.now in
    let r = c.in-Ok.ensures in
    let some = subst (λ (f : Fed2). Appends c.args.made.now c.feed.new.made (λ more. pnm.AfterGiven bytes piece (all ++ more) (Ok f) c.feed.new.self)) c.in-More.is (r.answered bytes all h.given) in
    let t = h.given.2.taken_is in
    let l = length-append bytes piece in
    let room = c.requires.room in
    let small = more_small bytes piece h.bytes_all (λ i. (let t = c.type_inv.piece i in search (rules, t))) in
    let p : IsPiece bytes piece = record { few = c.requires.short; most = omega (arith, t, l, room); small = small } in
    pnm_more info bytes all piece c.args.made.now c.feed.new.made c.args.samples.now c.feed.new.self h p c.goes_on.result some (r.info bytes all h.given) (subst (λ n. LastsHere n c.goes_on.result) c.taken.ensures c.goes_on.ensures)

pub returns-in-Done : goal.returns-in-Done
returns-in-Done c = λ info bytes all h.
    let piece = c.args.piece.now in
    let r = c.in-Ok.ensures in
    let some = subst (λ (f : Fed2). Appends c.args.made.now c.feed.new.made (λ more. pnm.AfterGiven bytes piece (all ++ more) (Ok f) c.feed.new.self)) c.in-Done.is (r.answered bytes all h.given) in
    let t = h.given.2.taken_is in
    let l = length-append bytes piece in
    let room = c.requires.room in
    let small = more_small bytes piece h.bytes_all (λ i. (let t = c.type_inv.piece i in search (rules, t))) in
    let p : IsPiece bytes piece = record { few = c.requires.short; most = omega (arith, t, l, room); small = small } in
    pnm_done info bytes all piece c.args.made.now c.feed.new.made c.args.samples.now c.feed.new.self h p some (r.info bytes all h.given)

pub returns-in-Err : goal.returns-in-Err
returns-in-Err c = λ info bytes all h.
    let piece = c.args.piece.now in
    let t = h.given.2.taken_is in
    let l = length-append bytes piece in
    let room = c.requires.room in
    let small = more_small bytes piece h.bytes_all (λ i. (let t = c.type_inv.piece i in search (rules, t))) in
    let p : IsPiece bytes piece = record { few = c.requires.short; most = omega (arith, t, l, room); small = small } in
    subst (λ (w : Why). Appends c.args.made.now c.feed.new.made (λ more. AfterPiece false info (bytes ++ piece) (all ++ more) (Err w) (given.Pnm c.feed.new.self))) (sym c.why_stopped.ensures)
    (pnm_stopped info bytes all piece c.args.made.now c.feed.new.made c.args.samples.now c.feed.new.self h p c.in-Err.stop (c.in-Err.ensures.answered bytes all h.given))
