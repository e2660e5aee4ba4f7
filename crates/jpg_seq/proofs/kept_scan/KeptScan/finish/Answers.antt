use Rattle.std.proofs.Common.{◌∙◌}
use Rattle.jpg_seq.proofs.Written.{kept_text}
use Rattle.jpg_seq.proofs.kept_scan.KeptScan.finish.Goals as goal

pub returns-in-Ok : goal.returns-in-Ok
returns-in-Ok c = λ s keeps. c.take.ensures ∙ kept_text s c.args.self c.flush.new.self c.flush.new.desk c.requires.all keeps c.in-Ok.ensures.sends c.in-Ok.ensures.nothing
