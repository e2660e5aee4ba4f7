use Rattle.std.proofs.Common.{subst, Option}
use Rattle.jpg_spec.specs.FileMeaning.{no_blocks}
use Rattle.jpg_spec.specs.InForce.{frame_of}
use Rattle.jpg_file.specs.Read.ReadFile.{picture_read}
use Rattle.jpg_file.specs.Read.Strips.{TellsStrip}
use Rattle.jpg_file.specs.declared.read.strip_head.StripHead.{StripHead}
use Rattle.jpg_cli.proofs.ByRow.RowsBegin.{no_image, no_output}
use Rattle.jpg_cli.proofs.ByRow.RowsEnd.{rows_begun}
use Rattle.jpg_cli.proofs.ByRow.RowsStarted.{not_started, rows_started, strip_shown, strip_told}
use Rattle.jpg_cli.proofs.tools.djpeg_rows.begin_image.Goals as goal

pub unreachable-requires : goal.unreachable-requires
unreachable-requires g c =
    let b = rows_begun c.requires.begun.5.rows in
    subst (λ (o : Option StripHead). TellsStrip o (frame_of c.args.reader.now.limits (b.begun).before) (picture_read b.front c.args.reader.now b.begun)) c.in_default.is (c.strip.ensures.some b.front b.begun)

pub new-requires-clause-head : goal.new-requires-clause-head
new-requires-clause-head g c = ((strip_told c.requires.begun.5.rows c.in-Some.is c.strip.ensures.some).picture no_blocks).head

pub returns-in_default-new-clause-begins : goal.returns-in_default-new-clause-begins
returns-in_default-new-clause-begins g c = λ old start all piece answer k h. no_image k h

pub returns-in-Failed-clause-begins : goal.returns-in-Failed-clause-begins
returns-in-Failed-clause-begins g c = λ old start all piece answer k h. no_output k h c.in-Failed.ensures

pub new-requires-clause-admitted : goal.new-requires-clause-admitted
new-requires-clause-admitted g c =
    let k = c.requires.begun.5.rows in
    strip_shown c.args.words.now.smooth k.head (strip_told k c.in-Some.is c.strip.ensures.some)

pub returns-in-Ok-start-clause-begins : goal.returns-in-Ok-start-clause-begins
returns-in-Ok-start-clause-begins g c = λ old start all piece answer k h.
    rows_started k h c.in-Done.ensures (strip_told k.rows c.in-Some.is c.strip.ensures.some) c.in-Ok.ensures c.requires.end c.in-Ok-start.ensures

pub returns-in-Err-clause-begins : goal.returns-in-Err-clause-begins
returns-in-Err-clause-begins g c = λ old start all piece answer k h. not_started k h c.in-Done.ensures
