use Rattle.std.proofs.Common.{◌+◌, refl}
use Rattle.jpg_transform.proofs.RowsMoved.{fewer_left, next_zero, zeros_then}
use Rattle.jpg_transform.proofs.row_mover.RowMover.put_zeros.Goals as goal

pub loop-self-init : goal.loop-self-init
loop-self-init c = λ w k blocks can. (k, can)

pub put_zero-requires : goal.put_zero-requires
put_zero-requires c =
    let so = c.loop-self.invariant c.requires.0 c.requires.1 c.requires.2 c.requires.3 in
    (c.requires.0, so.0, c.requires.2, next_zero so.1 ((c.loop-self-test.ensures c.requires.0 so.0 c.requires.2 so.1.has).more refl))

pub loop-self-smaller : goal.loop-self-smaller
loop-self-smaller c =
    let so = c.loop-self.invariant c.requires.0 c.requires.1 c.requires.2 c.requires.3 in
    let low = (c.loop-self-test.ensures c.requires.0 so.0 c.requires.2 so.1.has).more refl in
    let after = zeros_then {old = c.loop-self.self} {new = c.put_zero.new.self} c.in_ok-put_zero.ensures so.1 low in
    fewer_left so.1.has low after.has

pub loop-self-preserved : goal.loop-self-preserved
loop-self-preserved c = λ w k blocks can.
    (let so = c.loop-self.invariant w k blocks can in
    (so.0 + 1, zeros_then c.in_ok-put_zero.ensures so.1 ((c.loop-self-test.ensures w so.0 blocks so.1.has).more refl)))

pub returns : goal.returns
returns c = λ w k blocks can.
    (let so = c.loop-self.invariant w k blocks can in
    (so.0, record { has = so.1.has; all = (c.loop-self-test.ensures w so.0 blocks so.1.has).all refl }))
