use Rattle.std.proofs.Common.{◌∙◌, sym}
use Rattle.jpg_spec.proofs.Basics.Common.{some_once}
use Rattle.jpg_prog_read.proofs.dc_looks.put_codes.Goals as goal

pub returns-in-Some : goal.returns-in-Some
returns-in-Some c = λ codes e. (c.in-Some.table.now, sym c.in-Some.ensures, sym (some_once c.new.result codes e) ∙ c.new.ensures)
