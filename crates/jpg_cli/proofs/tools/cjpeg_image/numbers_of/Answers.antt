use Rattle.jpg_cli.proofs.Encoding.EncodedRead.{given_numbers, plain_numbers}
use Rattle.jpg_cli.proofs.tools.cjpeg_image.numbers_of.Goals as goal

pub returns-in-Some : goal.returns-in-Some
returns-in-Some c = plain_numbers c.args.reader.now c.in-Some.info c.in-Some.ensures.some

pub returns-in-None : goal.returns-in-None
returns-in-None c = given_numbers c.args.reader.now c.gives.result c.gives.ensures.can c.gives.ensures.right
