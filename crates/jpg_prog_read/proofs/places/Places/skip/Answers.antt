use Rattle.std.proofs.Common.{◌≤◌, ◌+◌, ◌-◌, ◌/◌, ◌%◌, refl, arith}
use Rattle.std.proofs.Math.Nat.{mod-lt}
use Rattle.jpg_prog_read.proofs.GridPlaces.{further, rows_down, row_within}
use Rattle.jpg_prog_read.proofs.places.Places.skip.Goals as goal

pub invariant_of-self-else-count-right : goal.invariant_of-self-else-count-right
invariant_of-self-else-count-right c =
    let i = c.self.inside in let at = c.self.invariant.at_column in
    let below = c.args.count - (i.wide - i.column) in
    let far : i.wide - i.column ≤ c.args.count = omega (arith, c.if-count-right.false) in
    record {
      at_column = mod-lt below (omega (arith, at));
      at_row =
          row_within i.component i.wide i.high i.column i.row c.args.count (below % i.wide) (i.row + (1 + below / i.wide)) at c.self.view_is (omega (arith, far, at)) c.requires
          (rows_down i.wide i.column i.row c.args.count below at far refl);
    }

pub overflow_add-self-else-count-right-2 : goal.overflow_add-self-else-count-right-2
overflow_add-self-else-count-right-2 c =
    let i = c.self.inside in let at = c.self.invariant.at_column in
    let below = c.args.count - (i.wide - i.column) in
    let far : i.wide - i.column ≤ c.args.count = omega (arith, c.if-count-right.false) in
    let within : i.row + (1 + below / i.wide) ≤ i.high =
    row_within i.component i.wide i.high i.column i.row c.args.count (below % i.wide) (i.row + (1 + below / i.wide)) at c.self.view_is (omega (arith, far, at)) c.requires
    (rows_down i.wide i.column i.row c.args.count below at far refl) in
    omega (arith, within, c.self.ranges)

pub returns-then-count-right : goal.returns-then-count-right
returns-then-count-right c =
    let i = c.self.inside in
    further i.component i.wide i.high i.column i.row (i.column + c.args.count) i.row c.args.count c.self.view_is (omega arith)

pub returns-else-count-right : goal.returns-else-count-right
returns-else-count-right c =
    let i = c.self.inside in
    let below = c.args.count - (i.wide - i.column) in
    further i.component i.wide i.high i.column i.row (below % i.wide) (i.row + (1 + below / i.wide)) c.args.count c.self.view_is
    (rows_down i.wide i.column i.row c.args.count below c.self.invariant.at_column (omega (arith, c.if-count-right.false)) refl)
