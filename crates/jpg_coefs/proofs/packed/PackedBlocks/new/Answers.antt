use Rattle.std.proofs.Common.{◌≡◌, ◌∙◌, ◌≤◌, ◌<◌, length, replicate, ap, subst, arith, sym}
use Rattle.std.specs.Vec.{vec_capacity}
use Rattle.jpg_spec.specs.Elements.{zeros}
use Rattle.jpg_coefs.specs.PackedCells.{IsPacked}
use Rattle.jpg_coefs.proofs.PackedCells.{packed_zero, zero_blocks}
use Rattle.jpg_coefs.proofs.packed.PackedBlocks.new.Goals as goal

pub invariant_of-result : goal.invariant_of-result
invariant_of-result c =
    let cells = c.in_ok-cells.cells in
    let space : length cells.items ≤ vec_capacity c.in-Ok.highs = omega (arith, c.in_ok-cells.ensures.count, c.in-Ok.ensures.capacity) in
    let small : length cells.items < 4294967296 = omega (arith, c.in_ok-cells.ensures.count) in
    subst (λ h. IsPacked h cells.items (vec_capacity c.in-Ok.highs)) (sym c.in-Ok.ensures.items) (packed_zero cells.items (vec_capacity c.in-Ok.highs) c.in_ok-cells.ensures.zero space small)

pub returns-in-Ok : goal.returns-in-Ok
returns-in-Ok c =
    let cells = c.in_ok-cells.cells in
    let many : length cells.items ≡ c.args.count = omega (arith, c.in_ok-cells.ensures.count) in
    zero_blocks _ cells.items c.in_ok-cells.ensures.zero ∙ ap (λ n. replicate n (zeros 64)) many
