use Rattle.std.proofs.Common.{◌+◌, arith}
use Rattle.jpg_prog_read.proofs.GridPlaces.{in_rows, further, row_down}
use Rattle.jpg_prog_read.proofs.places.Places.step.Goals as goal

pub overflow_add-self-else-self : goal.overflow_add-self-else-self
overflow_add-self-else-self c =
    let i = c.self.inside in
    omega (arith, in_rows i.component i.wide i.high i.column i.row c.self.view_is c.requires, c.self.ranges)

pub invariant_of-self-else-self : goal.invariant_of-self-else-self
invariant_of-self-else-self c =
    let i = c.self.inside in let v = c.self.invariant in
    record { at_column = omega (arith, v.at_column); at_row = omega (arith, in_rows i.component i.wide i.high i.column i.row c.self.view_is c.requires) }

pub returns-then-self : goal.returns-then-self
returns-then-self c =
    let i = c.self.inside in
    further i.component i.wide i.high i.column i.row (i.column + 1) i.row 1 c.self.view_is (omega arith)

pub returns-else-self : goal.returns-else-self
returns-else-self c =
    let i = c.self.inside in
    further i.component i.wide i.high i.column i.row 0 (i.row + 1) 1 c.self.view_is (row_down i.wide i.column i.row c.self.invariant.at_column (omega (arith, c.if-self.false)))
