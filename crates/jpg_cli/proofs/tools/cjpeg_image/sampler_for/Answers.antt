use Rattle.jpg_cli.proofs.Encoding.EncodedRead.{can_sample, numbers_right}
use Rattle.jpg_cli.proofs.tools.cjpeg_image.sampler_for.Goals as goal

pub new-requires : goal.new-requires
new-requires c =
    let t = c.in-Some.ensures c.args.words.now.targa c.requires.0 c.requires.1 in
    can_sample c.in-Some.info c.encoding_of-encoding.result c.encoding_of-encoding.ensures.can (numbers_right c.in-Some.info c.requires.0 c.args.reader.now t)

pub returns-in-Ok-clause-begins : goal.returns-in-Ok-clause-begins
returns-in-Ok-clause-begins c = λ bytes h.
    let t = c.in-Some.ensures c.args.words.now.targa bytes h in
    record {
      info = c.in-Some.info;
      asked = c.encoding_of-encoding.result;
      like = record { asks = c.encoding_of-encoding.ensures.asks; can = can_sample c.in-Some.info c.encoding_of-encoding.result c.encoding_of-encoding.ensures.can (numbers_right c.in-Some.info bytes c.args.reader.now t); restart = λ I. c.counted.ensures };
      goes = t;
      sampled = c.in-Ok.ensures.begins;
    }
