use Rattle.std.proofs.Common.{Some}
use Rattle.jpg_cli.proofs.Encoding.EncodedRead.{data_ended}
use Rattle.jpg_cli.proofs.tools.cjpeg_image.rows_data.Goals as goal

pub returns-in-Err : goal.returns-in-Err
returns-in-Err g c = λ E w start bytes h. c.in-Err.ensures E (Some w) start bytes h

pub data_of-requires : goal.data_of-requires
data_of-requires g c =
    let r = c.requires.goes in
    let all = (c.in-Ok.ensures r.0 (Some r.1) r.2 r.3 r.4).1.3 in
    (r.1, (r.4.begun).info, (r.4.begun).asked, all.samples, all.sampled)

pub returns-in-Ok : goal.returns-in-Ok
returns-in-Ok g c = λ E w start bytes h. (let r = c.in-Ok.ensures E (Some w) start bytes h in (r.0, data_ended start (g.D.Desk.state c.feed_all.new.desk) c.data_of.result r.1 c.data_of.ensures.gives c.data_of.ensures.memory))
