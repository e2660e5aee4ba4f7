use Rattle.std.proofs.Common.{sym}
use Rattle.jpg_cli.proofs.Encoding.SamplesFed.{at_first, none_held, samples_fed, samples_held}
use Rattle.jpg_cli.proofs.tools.cjpeg_image.feed_rest.Goals as goal

pub pump_on-requires-clause-can : goal.pump_on-requires-clause-can
pump_on-requires-clause-can g c =
    let r = c.requires.given in
    ((at_first c.args.sink r.0, r.1), r.2, sym r.3.given.taken_is, samples_fed r.3)

pub returns-in-Ok : goal.returns-in-Ok
returns-in-Ok g c = λ from start bytes h. samples_held c.args.sink c.in-Ok.field-0 (c.in-Ok.ensures (at_first c.args.sink from, start) bytes (sym h.given.taken_is) (samples_fed h))

pub returns : goal.returns
returns g c = λ from start bytes h w info a has. none_held c.args.sink c.in-Err.why (c.in-Err.ensures (at_first c.args.sink from, start) bytes (sym h.given.taken_is) (samples_fed h))
