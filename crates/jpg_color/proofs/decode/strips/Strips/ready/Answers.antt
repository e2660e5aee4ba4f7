use Rattle.std.proofs.Common.{true, false, refl}
use Rattle.jpg_color.proofs.StripsReady.{ready_before, ready_bounds, ready_last}
use Rattle.jpg_color.proofs.decode.strips.Strips.ready.Goals as goal

pub returns-then-self : goal.returns-then-self
returns-then-self c =
    let is = ready_last c.self.invariant c.self.view_is c.if-self.true c.height.ensures in
    let bounds = ready_bounds c.self.invariant c.self.view_is is in
    record { value = is; low = bounds.0; high = bounds.1 }

pub returns-then-self-2 : goal.returns-then-self-2
returns-then-self-2 c =
    let is = ready_before true c.self.invariant c.self.view_is c.if-self.false c.if-self-2.true c.saturating_sub.ensures in
    let bounds = ready_bounds c.self.invariant c.self.view_is is in
    record { value = is; low = bounds.0; high = bounds.1 }

pub returns-else-self-2 : goal.returns-else-self-2
returns-else-self-2 c =
    let is = ready_before false c.self.invariant c.self.view_is c.if-self.false c.if-self-2.false refl in
    let bounds = ready_bounds c.self.invariant c.self.view_is is in
    record { value = is; low = bounds.0; high = bounds.1 }
