use Rattle.std.proofs.Common.{◌<◌, ap, arith}
use Rattle.jpg_color.specs.Shown.{ShownState, parts}
use Rattle.jpg_color.proofs.StripsKept.{held_few}
use Rattle.jpg_color.proofs.decode.strips.Strips.held.Goals as goal

pub returns-clause-few : goal.returns-clause-few
returns-clause-few c =
    let same = ap (λ (s : ShownState). parts s.display) c.self.view_is in
    let count = c.self.invariant.count in
    let there = c.if-len-component.false in
    let shown : c.args.component < parts c.args.self.now.display = omega (arith, same, count, there) in
    held_few c.self.invariant c.self.view_is shown c.index.ensures c.rows.ensures
