use Rattle.std.proofs.Common.{◌-◌, arith}
use Rattle.jpg_markers.specs.Reading.{reading_of}
use Rattle.jpg_comments.proofs.Taken.{none_pass, some_pass}
use Rattle.jpg_comments.proofs.quiet.pass_some.Goals as goal

pub returns-in-Ok-clause-passes : goal.returns-in-Ok-clause-passes
returns-in-Ok-clause-passes c =
    let few = c.min-few.ensures in
    some_pass (reading_of c.args.reader.now) (reading_of c.stretch.new.self) c.args.bytes.now (c.min-few.result - 1) c.in-Ok.n (omega (arith, few, c.requires.some, c.requires.room, c.taken.ensures)) c.in-Ok.ensures.stands

pub returns-in-Err-clause-passes : goal.returns-in-Err-clause-passes
returns-in-Err-clause-passes c = none_pass (reading_of c.args.reader.now) (reading_of c.stretch.new.self) c.args.bytes.now c.in-Err.ensures.continues
