use Rattle.std.proofs.Common.{None}
use Rattle.jpg_desk.specs.ImageTaken.{is_targa}
use Rattle.jpg_cli.proofs.Encoding.EncodedRead.{all_encoded, none_encoded}
use Rattle.jpg_cli.proofs.tools.cjpeg_image.encode_planes.Goals as goal

pub feed_all-requires-clause-goes : goal.feed_all-requires-clause-goes
feed_all-requires-clause-goes g c = (let r = c.requires.goes in (r.0, None, r.1, r.2, r.3))

pub returns-in-Err : goal.returns-in-Err
returns-in-Err g c = λ E start bytes h. (let r = c.in-Err.ensures E None start bytes h in (r.0, none_encoded (is_targa c.args.reader) E start (g.D.Desk.state c.feed_all.new.desk) c.in-Err.why r.1))

pub finish_planes-requires : goal.finish_planes-requires
finish_planes-requires g c =
    let r = c.requires.goes in
    let all = (c.in-Ok.ensures r.0 None r.1 r.2 r.3).1.3 in
    ((r.3.begun).info, (r.3.begun).asked, all.samples, all.sampled)

pub returns-in-Ok : goal.returns-in-Ok
returns-in-Ok g c = λ E start bytes h. (let r = c.in-Ok.ensures E None start bytes h in (r.0, all_encoded start (g.D.Desk.state c.feed_all.new.desk) h.begun c.finish_planes.result r.1 c.finish_planes.ensures))
