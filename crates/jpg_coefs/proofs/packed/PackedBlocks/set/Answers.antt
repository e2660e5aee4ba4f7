use Rattle.std.proofs.Common.{rules, ◌≡◌, ◌<◌, ◌≤◌, List, ℤ, length, get_or, set, refl, sym, ap, ◌∙◌, arith}
use Rattle.std.specs.Int.{w16}
use Rattle.std.proofs.lemmas.Int.{to_z-of_z}
use Rattle.std.proofs.lemmas.List.{get_or_default, length-map}
use Rattle.jpg_coefs.specs.PackedCells.{cell_block, no_cell, room_at}
use Rattle.jpg_coefs.specs.declared.cell.Cell.{Cell}
use Rattle.jpg_coefs.proofs.PackedCells.{packed_kept, packed_set, stored_short}
use Rattle.jpg_coefs.proofs.packed.PackedBlocks.set.Goals as goal

pub invariant_of-self-then-are_short : goal.invariant_of-self-then-are_short
invariant_of-self-then-are_short c =
    let highs = c.self.inside.highs.items in let cells = c.self.inside.cells.items in let n = c.args.n in
    let low : n < length cells = omega (arith, c.requires, ap (λ (l : List (List ℤ)). length l) c.self.view_is, length-map cells (cell_block highs)) in
    let there : get_or cells n no_cell ≡ c.index.result.now = sym (c.index.ensures ∙ get_or_default cells n c.index.result.now no_cell low) in
    packed_kept highs highs cells _ n _ c.self.invariant refl low (omega (arith, ap (λ (x : Cell). x.room) there, c.if-room-gt0.false))

pub returns-then-are_short : goal.returns-then-are_short
returns-then-are_short c =
    let highs = c.self.inside.highs.items in let cells = c.self.inside.cells.items in let n = c.args.n in
    packed_set highs highs cells n _ c.args.block.now
    (stored_short highs _ c.args.block.now refl (to_z-of_z w16 c.get.result (search rules) ∙ c.get.ensures.value) c.lows.ensures (c.are_short.ensures c.if-are_short.true) c.get.ensures.long)
    (λ m low other. refl)
    ∙ ap (λ l. set l n c.args.block.now) c.self.view_is
