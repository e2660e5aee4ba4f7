use Rattle.std.proofs.Common.{Bool, subst}
use Rattle.jpg_cli.specs.Tools.SamplesFed.{AfterSamples}
use Rattle.jpg_cli.proofs.Encoding.EncodedRead.{begun_given, begun_unheld}
use Rattle.jpg_cli.proofs.tools.cjpeg_image.feed_all.Goals as goal

pub returns-in-Err : goal.returns-in-Err
returns-in-Err g c = λ E w start bytes h. begun_unheld h

pub rest_of-requires : goal.rest_of-requires
rest_of-requires g c = (let r = c.requires.goes in ((r.4.begun).info, r.3, r.4.read.goes.fed, (r.4.begun).goes))

pub feed_rest-requires-clause-given : goal.feed_rest-requires-clause-given
feed_rest-requires-clause-given g c =
    let r = c.requires.goes in
    (c.args.encoder, r.2, r.3, begun_given r.4 c.samples.ensures c.taken-taken.ensures c.rest_of.ensures c.in-Ok.ensures.adds)

pub returns : goal.returns
returns g c = λ E w start bytes h.
    let b = h.begun in
    let fed = c.feed_rest.ensures c.args.encoder start bytes (begun_given h c.samples.ensures c.taken-taken.ensures c.rest_of.ensures c.in-Ok.ensures.adds) w b.info b.asked b.sampled in
    (fed.0, subst (λ (targa : Bool). AfterSamples targa w b.info b.asked start c.feed_rest.result (g.D.Desk.state c.feed_rest.new.desk)) c.rest_of.ensures.0 fed.1)
