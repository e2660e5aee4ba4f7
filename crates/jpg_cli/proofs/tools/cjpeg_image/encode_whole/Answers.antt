use Rattle.std.proofs.Common.{List, ℕ, [], Err, refl, sym, subst}
use Rattle.jpg_spec_words.specs.declared.answers.Why.{Why}
use Rattle.jpg_transform.specs.Planned.{scans_view}
use Rattle.jpg_color.specs.Encode.{image_view}
use Rattle.jpg_color.specs.EncodeSampling.{HasSampled}
use Rattle.jpg_cli.specs.Tools.EncodedRead.{Encodes}
use Rattle.jpg_cli.specs.Tools.EncodingAsked.{asked_of, encoding_by}
use Rattle.jpg_cli.proofs.Encoding.EncodedRead.{can_sample, fault_encoded, right_numbers}
use Rattle.jpg_cli.proofs.tools.cjpeg_image.encode_whole.Goals as goal

pub returns-in-Err : goal.returns-in-Err
returns-in-Err c =
    let i = c.args.image.now in
    let e = asked_of c.args.words.now (scans_view c.args.scans.now) c.args.tables i in
    subst (λ (w : Why). Encodes e (image_view i) (Err w)) (sym c.why_not_encoded.ensures)
    (fault_encoded i.info c.encoding_of-encoding.result e i.samples c.in-Err.stop (c.encoding_of-encoding.ensures.asks (image_view i) refl) c.in-Err.ensures.begins)

pub returns-in-Ok-feed : goal.returns-in-Ok-feed
returns-in-Ok-feed c =
    let i = c.args.image.now in
    let a = c.encoding_of-encoding.result in
    let given = subst (λ (samples : List ℕ). HasSampled i.info a samples c.feed.new.self) c.as_slice.ensures (c.in-Ok-feed.ensures.adds i.info a [] c.in-Ok.ensures.begins) in
    c.finish.ensures (encoding_by c.args.words.now (scans_view c.args.scans.now) c.args.tables) i.info a i.samples
    (record { asks = c.encoding_of-encoding.ensures.asks; can = can_sample i.info a c.encoding_of-encoding.ensures.can (right_numbers (image_view i) c.requires); restart = λ I. c.counted.ensures })
    given c.requires.count c.requires
