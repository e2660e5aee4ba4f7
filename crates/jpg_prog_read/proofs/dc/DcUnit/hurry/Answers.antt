use Rattle.jpg_prog_read.proofs.DcLookedUp.{hurries_then}
use Rattle.jpg_prog_read.proofs.dc.DcUnit.hurry.Goals as goal

pub returns : goal.returns
returns c =
    hurries_then c.args.scan.now c.args.codes.now c.args.self.now c.args.store.now c.hurry_code.new.self c.hurry_code.new.store c.hurry_number.new.self c.hurry_number.new.store c.hurry_code.ensures (c.hurry_number.ensures c.args.scan.now c.args.codes.now)
