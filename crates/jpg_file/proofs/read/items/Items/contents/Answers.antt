use Rattle.std.proofs.Common.{refl}
use Rattle.jpg_file.proofs.Files.ItemBytes.{stretch_passes, nothing_passes}
use Rattle.jpg_file.proofs.read.items.Items.contents.Goals as goal

pub returns-in-Ok-clause-after : goal.returns-in-Ok-clause-after
returns-in-Ok-clause-after c = stretch_passes c.args.self.now c.stretch.new.self c.args.bytes.now c.in-Ok.n c.in-Ok.ensures.stands c.in-Ok.ensures.taken c.in-Ok.ensures.limits

pub returns-in-Err-clause-after : goal.returns-in-Err-clause-after
returns-in-Err-clause-after c = nothing_passes c.args.self.now _ c.args.bytes.now c.in-Err.ensures.continues refl
