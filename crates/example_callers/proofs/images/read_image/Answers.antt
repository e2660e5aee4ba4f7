use Rattle.std.proofs.Common.{rules, ◌≡◌, ◌<◌, length, take, [], Ok, ap, subst, arith}
use Rattle.std.proofs.lemmas.List.Elements.{All-from_get_or}
use Rattle.jpg_spec.specs.Segments.{standard_limits}
use Rattle.jpg_spec.specs.declared.frame.Limits.{Limits}
use Rattle.jpg_pnm_bmp.specs.PixelsRead.{AfterFeed}
use Rattle.jpg_pnm_bmp.specs.declared.read.piece.Fed2.{Fed2}
use Rattle.example_callers.proofs.Encoded.{front_all, front_of, image_end_stopped, image_ended, image_stopped, image_too_long, image_whole}
use Rattle.example_callers.proofs.images.read_image.Goals as goal

pub returns-in-Ok-Done : goal.returns-in-Ok-Done
returns-in-Ok-Done c =
    let file = c.args.file.now in
    let n = ap (λ (l : Limits). l.input) c.standard-most.ensures in
    let f = front_of file c.standard-most.result.input c.min.result n c.min.ensures in
    let k = subst (λ (fed : Fed2). AfterFeed [] (take c.min.result file) (Ok fed) c.feed.new.self) c.in-Ok-Done.field-0-is (c.in-Ok-Done.ensures.answered [] c.new-reader.ensures.fed) in
    image_whole file (take c.min.result file) c.feed.new.self c.take.result f (All-from_get_or (λ b. b < 256) file 0 (λ i. (let t = c.type_inv.file i in search (rules, t)))) c.take.ensures k

pub returns-in-Ok-More : goal.returns-in-Ok-More
returns-in-Ok-More c =
    let file = c.args.file.now in
    let n = ap (λ (l : Limits). l.input) c.standard-most.ensures in
    let f = front_of file c.standard-most.result.input c.min.result n c.min.ensures in
    let k = subst (λ (fed : Fed2). AfterFeed [] (take c.min.result file) (Ok fed) c.feed.new.self) c.in-Ok-More.field-0-is (c.in-Ok-More.ensures.answered [] c.new-reader.ensures.fed) in
    let full : length (take c.min.result file) ≡ standard_limits.input = (let t = c.if-front-most.true in omega (arith, t, n)) in
    image_too_long file (take c.min.result file) c.feed.new.self c.standard-most.result.input n f full k

pub returns-in-Ok : goal.returns-in-Ok
returns-in-Ok c =
    let file = c.args.file.now in
    let front = take c.min.result file in
    let n = ap (λ (l : Limits). l.input) c.standard-most.ensures in
    let k = subst (λ (fed : Fed2). AfterFeed [] (take c.min.result file) (Ok fed) c.feed.new.self) c.in-Ok-More.field-0-is (c.in-Ok-More.ensures.answered [] c.new-reader.ensures.fed) in
    let short : length front < c.standard-most.result.input = (let t = c.if-front-most.false in let m = (front_of file c.standard-most.result.input c.min.result n c.min.ensures).most in omega (arith, t, m, n)) in
    image_ended file front c.feed.new.self c.end.new.self c.take-in-Ok.result (front_all file c.standard-most.result.input c.min.result c.min.ensures short) (omega (arith, short, n)) k c.take-in-Ok.ensures (c.in-Ok.ensures.answered front k)

pub returns-in-Err-end : goal.returns-in-Err-end
returns-in-Err-end c =
    let file = c.args.file.now in
    let front = take c.min.result file in
    let n = ap (λ (l : Limits). l.input) c.standard-most.ensures in
    let k = subst (λ (fed : Fed2). AfterFeed [] (take c.min.result file) (Ok fed) c.feed.new.self) c.in-Ok-More.field-0-is (c.in-Ok-More.ensures.answered [] c.new-reader.ensures.fed) in
    let short : length front < c.standard-most.result.input = (let t = c.if-front-most.false in let m = (front_of file c.standard-most.result.input c.min.result n c.min.ensures).most in omega (arith, t, m, n)) in
    image_end_stopped file front c.in-Err-end.stop _ (front_all file c.standard-most.result.input c.min.result c.min.ensures short) (omega (arith, short, n)) (c.in-Err-end.ensures.answered front k)

pub returns-in-Err : goal.returns-in-Err
returns-in-Err c =
    let file = c.args.file.now in
    let n = ap (λ (l : Limits). l.input) c.standard-most.ensures in
    image_stopped file (take c.min.result file) c.in-Err.stop c.feed.new.self (front_of file c.standard-most.result.input c.min.result n c.min.ensures) (c.in-Err.ensures.answered [] c.new-reader.ensures.fed)
