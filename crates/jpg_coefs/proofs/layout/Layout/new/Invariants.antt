use Rattle.jpg_coefs.proofs.Laid.{AreLaidOut}
use Rattle.jpg_coefs.proofs.layout.Layout.new.Given as goal

abbrev pub invariant-loop-i : goal.invariant-loop-i
invariant-loop-i l = AreLaidOut l.frame l.order l.offsets l.strides l.total l.i
