use Rattle.jpg_cli.proofs.Encoding.EncodedRead.{given_can, given_goes, plain_goes}
use Rattle.jpg_cli.proofs.tools.cjpeg_image.rest_of.Goals as goal

pub returns-in-Some : goal.returns-in-Some
returns-in-Some c = plain_goes c.args.reader c.in-Some.field-0 c.requires.1 c.requires.2 c.in-Some.ensures.some

pub into_samples-requires : goal.into_samples-requires
into_samples-requires c = (let r = c.requires in (r.0, given_can c.args.reader r.0 r.1 r.2 c.in-None.ensures.none r.3))

pub returns-in-None : goal.returns-in-None
returns-in-None c = given_goes c.args.reader c.into_samples.result c.in-None.ensures.none c.into_samples.ensures.fed c.into_samples.ensures.targa
