use Rattle.std.proofs.Common.{subst, sym, arith}
use Rattle.jpg_prog_read.specs.declared.dc_looks.DcLooks.{DcLooks}
use Rattle.jpg_prog_read.proofs.DcLookedUp.{AreOf, none_of, one_of, all_looked_up}
use Rattle.jpg_prog_read.proofs.dc_looks.DcLooks.look_up.Goals as goal

pub loop-slot-init : goal.loop-slot-init
loop-slot-init c = subst (λ (l : DcLooks). AreOf c.args.tables.now l.each) (sym c.requires) (none_of c.args.tables.now)

pub loop-slot-preserved : goal.loop-slot-preserved
loop-slot-preserved c = one_of c.args.tables.now c.loop-slot.self.each c.loop-slot.slot c.put_codes.new.place c.loop-slot.invariant (omega (arith, c.loop-slot-test.true)) c.put_codes.ensures

pub returns : goal.returns
returns c = all_looked_up c.args.tables.now _ c.loop-slot.invariant
